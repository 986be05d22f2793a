-- What inspecting a whole s-file answers that passes over its stored sum: POSIX, Shell and Utilities, admin, -z.
use Rattle.std.specs.Prelude.{◌≡◌, ℕ, List, Option, None, Some, Result, Ok}
use Rattle.sccs_grammar.specs.AnySum.{unsummed_file}
use Rattle.sccs_grammar.specs.File.{Parsed, answer}
use Rattle.sccs_grammar.specs.declared.faults.FileFault.{FileFault}
use Rattle.sccs_table.specs.FrontFile.{ShowsOrRefuses}
use Rattle.sccs_table.specs.declared.fronts.Front.{Front}
use Rattle.sccs_body.specs.BodyFile.{items_of}
use Rattle.sccs_body.specs.ToCome.{IsFrontFor}

-- the front is that of the file, with the sum that is right
abbrev pub ShowsUnsummed : Option (List ℕ) → Parsed → Front → Type 0
ShowsUnsummed None parsed front = ⊥
ShowsUnsummed (Some file) parsed front = (front.header ≡ parsed.header) × (items_of file front ≡ Ok parsed.items)
    × IsFrontFor file front

-- the front of a whole file, or its refusal; no file and too long a file come first
abbrev pub AnswersUnsummed : Option (List ℕ) → Result Front FileFault → Type 0
AnswersUnsummed o result = ShowsOrRefuses (λ parsed front. ShowsUnsummed o parsed front) result (answer unsummed_file o)
