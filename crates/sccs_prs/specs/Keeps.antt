-- prs changes no file.
use Rattle.std.proofs.Common.{◌≡◌, ℕ, List, None, option_map, Result, Ok, Err, refl, sym, ap, ◌∙◌}
use Rattle.sccs_sid.specs.Reading.{◌>>=◌}
use Rattle.sccs_sid.specs.declared.refusals.Refusal.{Refusal}
use Rattle.sccs_disk.specs.Files.{Content}
use Rattle.sccs_grammar.specs.File.{Parsed, answer, file_of}
use Rattle.sccs_grammar.specs.FileRefusals.{or_refusal}
use Rattle.sccs_name_files.specs.StepFiles.{Files}
use Rattle.sccs_steps.specs.Actions.{KeepsFiles}
use Rattle.sccs_steps.specs.StepEffects.{Outcome, StepEffect}
use Rattle.sccs_words.specs.declared.commands.PrsWords.{PrsWords}
use Rattle.sccs_prs.specs.Chosen.{chosen_of}
use Rattle.sccs_prs.specs.PrsStep.{prints, prs_action, prs_outcome, shown_file}
use Rattle.sccs_prs.specs.PrsText.{report_text}
use Rattle.sccs_prs.specs.declared.choices.Chosen.{Chosen}

-- what follows the reading of the file
abbrev pub from_file : PrsWords → List ℕ → List ℕ → Parsed → Outcome
from_file words place n file = chosen_of words file.header.records >>= λ chosen.
    Ok (prints (report_text words chosen (shown_file file n place)))

pub outcome_is : (words : PrsWords) (place n : List ℕ) (f : Files)
    → prs_outcome words place n f ≡ (or_refusal (answer file_of (option_map (λ (c : Content). c.bytes) f.s))
    >>= from_file words place n)
unfolding prs_outcome
outcome_is words place n f = refl

by_chosen : (text : Chosen → List ℕ) (r : Result Chosen Refusal) (d : StepEffect)
    → (r >>= λ chosen. Ok (prints (text chosen))) ≡ Ok d → d.new ≡ None
by_chosen text (Ok chosen) d is = ap (λ (e : StepEffect). e.new) (let same : prints (text chosen) ≡ d = cc in sym same)
by_chosen text (Err refusal) d is = absurd cc

by_file : (words : PrsWords) (place n : List ℕ) (r : Result Parsed Refusal) (d : StepEffect)
    → (r >>= from_file words place n) ≡ Ok d → d.new ≡ None
by_file words place n (Ok file) d is = by_chosen (λ chosen. report_text words chosen (shown_file file n place))
    (chosen_of words file.header.records) d is
by_file words place n (Err refusal) d is = absurd cc

pub prs_keeps : (words : PrsWords) (place : List ℕ) → KeepsFiles (prs_action words place)
prs_keeps words place = record {
  quiet = λ reads n i named f d is. by_file words place n
      (or_refusal (answer file_of (option_map (λ (c : Content). c.bytes) f.s))) d (sym (outcome_is words place n f)
      ∙ is);
  names = λ changes n fits. absurd cc;
  locked = λ changes locks n i named f d is there g new. absurd cc;
  pending = λ changes never n i v f d there is. absurd cc;
}
