-- The summary of a soak changes no file.
use Rattle.std.proofs.Common.{◌≡◌, ℕ, List, None, Option, Result, Ok, Err, refl, sym, ap, ◌∙◌}
use Rattle.sccs_sid.specs.Reading.{◌>>=◌}
use Rattle.sccs_sid.specs.declared.refusals.Refusal.{Refusal}
use Rattle.sccs_grammar.specs.File.{Parsed, answer, file_of}
use Rattle.sccs_grammar.specs.FileRefusals.{or_refusal}
use Rattle.sccs_name_files.specs.StepFiles.{Files}
use Rattle.sccs_steps.specs.Actions.{KeepsFiles}
use Rattle.sccs_steps.specs.StepEffects.{Outcome, StepEffect}
use Rattle.sccs_prs.specs.PrsStep.{prints}
use Rattle.sccs_soak.specs.Summaries.{bytes_or_none, summary_action, summary_outcome, summary_text}

-- what follows the reading of the file
abbrev pub from_file : ℕ → Option (List ℕ) → Parsed → Outcome
from_file rounds bytes file = Ok (prints (summary_text rounds bytes file.header.records file.items))

pub outcome_is : (rounds : ℕ) (f : Files) → summary_outcome rounds f ≡ (or_refusal (answer file_of (bytes_or_none f.s))
    >>= from_file rounds (bytes_or_none f.s))
unfolding summary_outcome
outcome_is rounds f = refl

by_file : (rounds : ℕ) (bytes : Option (List ℕ)) (r : Result Parsed Refusal) (d : StepEffect)
    → (r >>= from_file rounds bytes) ≡ Ok d → d.new ≡ None
by_file rounds bytes (Ok file) d is = ap (λ (e : StepEffect). e.new)
    (let same : prints (summary_text rounds bytes file.header.records file.items) ≡ d = cc in sym same)
by_file rounds bytes (Err refusal) d is = absurd cc

pub summary_keeps : (rounds : ℕ) → KeepsFiles (summary_action rounds)
summary_keeps rounds = record {
  quiet = λ reads n i named f d is. by_file rounds (bytes_or_none f.s) (or_refusal (answer file_of (bytes_or_none f.s)))
      d (sym (outcome_is rounds f) ∙ is);
  names = λ changes n fits. absurd cc;
  locked = λ changes locks n i named f d is there g new. absurd cc;
  pending = λ changes never n i v f d there is. absurd cc;
}
