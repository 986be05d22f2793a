-- The first revision whose text is at fault, by the numbers of lines that the texts have.
use Rattle.std.specs.Prelude.{◌≡◌, ℕ, suc, List, [], ◌∷◌, length, Option, None, Some, Result, Ok, Err}
use Rattle.sccs_rcs_file.specs.declared.faults.RcsFault.{RcsFault}
use Rattle.sccs_rcs_file.specs.declared.faults.RcsFault.TheVariants.{BadRcs, BadRevision, RcsScript, Memory}
use Rattle.sccs_trunks.specs.Changes.{Change}
use Rattle.sccs_trunks.specs.Lengths.{checked}
use Rattle.sccs_trunks.specs.TrunkHistories.{first_with_soh}
use Rattle.sccs_trunks.specs.declared.revisions.Revision.{Revision}

abbrev pub or_next : ℕ → Result ℕ ℕ → (ℕ → Option (ℕ × ℕ)) → Option (ℕ × ℕ)
or_next n (Ok lines) next = next lines
or_next n (Err line) next = Some (n, line)

-- the scripts of revisions from the n-th on, behind a text of so many lines
abbrev pub fault_from : ℕ → ℕ → List Revision → Option (ℕ × ℕ)
fault_from n lines [] = None
fault_from n lines (r ∷ revisions) = or_next n (checked lines r.text) (λ after. fault_from (suc n) after revisions)

abbrev pub head_fault : Option ℕ → Revision → List Revision → Option (ℕ × ℕ)
head_fault (Some line) r revisions = Some (1, line)
head_fault None r revisions = fault_from 2 (length r.text) revisions

abbrev pub fault_in : List Revision → Option (ℕ × ℕ)
fault_in [] = None
fault_in (r ∷ revisions) = head_fault (first_with_soh 1 r.text) r revisions

-- what is said of a trunk's scripts that are read
abbrev pub fault_of : Result (List (List Change)) (ℕ × ℕ) → Option (ℕ × ℕ)
fault_of (Ok scripts) = None
fault_of (Err fault) = Some fault

-- how an answer stands to the fault that is looked for
abbrev pub Finds : Result (Unit {0}) RcsFault → Option (ℕ × ℕ) → Type 0
Finds (Ok x) fault = fault ≡ None
Finds (Err Memory) fault = Unit {0}
Finds (Err (RcsScript n line)) fault = fault ≡ Some (n, line)
Finds (Err (BadRcs byte)) fault = ⊥
Finds (Err (BadRevision n)) fault = ⊥
