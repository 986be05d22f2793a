-- A history that admin makes of a text and that calls of delta go on with: POSIX, Shell and Utilities, admin and delta.
use Rattle.std.specs.Prelude.{◌≡◌, ℕ, List, [], ◌∷◌, Option, None, Some, Ok}
use Rattle.sccs_base.specs.Cut.{text_of}
use Rattle.sccs_disk.specs.Files.{Content}
use Rattle.sccs_history.specs.Applied.{live_serials}
use Rattle.sccs_grammar.specs.File.{IsSFile, Parsed}
use Rattle.sccs_name_files.specs.StepFiles.{Files}
use Rattle.sccs_steps.specs.StepEffects.{StepEffect}
use Rattle.sccs_words.specs.declared.commands.AdminWords.{AdminWords}
use Rattle.sccs_admin.specs.AdminStep.{found_texts}
use Rattle.sccs_admin.specs.declared.finding.NewTexts.{NewTexts}
use Rattle.sccs_delta.specs.NewVersions.{version_text}
use Rattle.sccs_delta.specs.Replays.{DeltaCall, ReplaysVersions}

-- The new s-file has one delta, whose version is the lines of the text; behind the calls each version is its replay
-- from there.
pub record IsReplayed (words : AdminWords) (n input : List ℕ) (named : List (Option Content)) (f : Files)
    (effect : StepEffect) (calls : List DeltaCall) : Type 0 where
  pub texts : NewTexts
  pub s : Content
  pub file : Parsed
  pub found : found_texts words input named f.s ≡ Ok texts
  pub made : effect.new ≡ Some (record { s = Some s; p = f.p; z = None; g = f.g; l = f.l })
  pub reads : IsSFile s.bytes file.header file.items
  pub only : live_serials file.header.records ≡ 1 ∷ []
  pub first : version_text file 1 ≡ text_of texts.text
  pub replays : ReplaysVersions n s file calls
