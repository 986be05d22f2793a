-- What the parts of admin on a new file answer, where a view and the input are told.
use Rattle.std.specs.Prelude.{◌≡◌, ◌<◌, ◌≤◌, ℕ, true, List, [], length, map, Option, Some, IfSome, IsSome, None, Result}
use Rattle.std.specs.Prelude.{Ok, Err}
use Rattle.std.specs.Str.{bytes_eq}
use Rattle.sccs_base.specs.Constants.{file_limit}
use Rattle.sccs_base.specs.Cut.{text_of}
use Rattle.sccs_base.specs.Name.{x_file}
use Rattle.sccs_sid.specs.declared.moments.Stamp.{Stamp}
use Rattle.sccs_sid.specs.declared.refusals.Refusal.{Refusal}
use Rattle.sccs_sid.specs.declared.refusals.Refusal.TheVariants.{Exists}
use Rattle.sccs_sid.specs.declared.refusals.Refusal.TheVariants as refusals
use Rattle.sccs_sid.specs.declared.refusals.StepFault.{StepFault}
use Rattle.sccs_sid.specs.declared.refusals.StepFault.TheVariants.{Refused, Memory, ReadFault, WriteFault, DiskFault}
use Rattle.sccs_disk.specs.Files.{View, put}
use Rattle.sccs_name_files.specs.StepFiles.{Moves}
use Rattle.sccs_name_files.specs.WholeFiles.{AnswersWhole}
use Rattle.sccs_name_files.specs.declared.whole_files.WholeFault.{WholeFault}
use Rattle.sccs_steps.specs.Actions.{IsHeard}
use Rattle.sccs_store.specs.Commits.{Becomes}
use Rattle.sccs_store.specs.declared.new_files.NewFile.TheVariants.{Keep}
use Rattle.sccs_changes.specs.Changes.{unlocked}
use Rattle.sccs_changes.specs.declared.prepared.Prepared.{Prepared}
use Rattle.sccs_history.specs.History.{AreLines}
use Rattle.sccs_rules.specs.Flags.{changed_flags}
use Rattle.sccs_words.specs.declared.commands.AdminWords.{AdminWords}
use Rattle.sccs_words.specs.declared.commands.Given.{Given}
use Rattle.sccs_words.specs.declared.commands.Given.TheVariants.{No, Bare, From}
use Rattle.sccs_admin.specs.AdminStep.{found_texts, named_in}
use Rattle.sccs_admin.specs.NewFiles.{new_content}
use Rattle.sccs_admin.specs.Rules.{new_rules}
use Rattle.sccs_admin.specs.Texts.{named_by, source, takes_input}
use Rattle.sccs_admin.specs.declared.finding.Found.{Found}
use Rattle.sccs_admin.specs.declared.finding.Found.TheVariants.{Whole, TooLong}
use Rattle.sccs_admin.specs.declared.finding.NewTexts.{NewTexts}
use Rattle.sccs_admin.specs.declared.rules.NewRules.{NewRules}

-- ---- the texts

-- the bytes of the file that is named as it was before the lock
abbrev pub ReadsNamed : Result (List ℕ) WholeFault → List ℕ → List ℕ → Option View → Type 0
ReadsNamed r file n told = IfSome told (λ v. AnswersWhole (unlocked n v file) r)

-- a text that may be too long
abbrev pub IsFound : Result (List ℕ) Refusal → Result Found StepFault → Type 0
IsFound found (Ok (Whole text)) = found ≡ Ok text
IsFound found (Ok TooLong) = (text : List ℕ) × (found ≡ Ok text) × (file_limit < length text)
IsFound found (Err (Refused refusal)) = found ≡ Err refusal
IsFound found (Err Memory) = Unit {0}
IsFound found (Err DiskFault) = Unit {0}
IsFound found (Err ReadFault) = ⊥
IsFound found (Err WriteFault) = ⊥

-- the text of the file that an option names; without one it is empty
abbrev pub FindsNamed : Result Found StepFault → Given → List ℕ → Option View → Type 0
FindsNamed r given n told = IfSome told (λ v. IsFound (source given [] (map (unlocked n v) (named_by given))) r)

-- one that isn't said to be too long isn't
abbrev pub IsShort : Found → Type 0
IsShort (Whole text) = length text ≤ file_limit
IsShort TooLong = Unit {0}

-- a text, or that it is too long
abbrev pub whole_text : Found → Result (List ℕ) StepFault
whole_text (Whole text) = Ok text
whole_text TooLong = Err (Refused refusals.TooLong)

-- whether the name has no s-file yet
abbrev pub IsFresh : Result (Unit {0}) StepFault → List ℕ → Option View → Type 0
IsFresh (Ok done) n told = IfSome told (λ v. v n ≡ None)
IsFresh (Err (Refused refusal)) n told = (refusal ≡ Exists) × IfSome told (λ v. IsSome (v n))
IsFresh (Err Memory) n told = ⊥
IsFresh (Err ReadFault) n told = ⊥
IsFresh (Err WriteFault) n told = ⊥
IsFresh (Err DiskFault) n told = Unit {0}

-- the input, or that it is too long
abbrev pub Hears : Result (List ℕ) StepFault → List ℕ → Type 0
Hears (Ok text) i = text ≡ i
Hears (Err (Refused refusal)) i = (refusal ≡ refusals.TooLong) × (file_limit < length i)
Hears (Err fault) i = Unit {0}

-- the input where it is asked for, else what was found
abbrev pub TakesText : Result (List ℕ) StepFault → Given → Found → Option (List ℕ) → Type 0
TakesText r Bare found left = (i : List ℕ) → left ≡ Some i → Hears r i
TakesText r No found left = r ≡ whole_text found
TakesText r (From name) found left = r ≡ whole_text found

abbrev pub AnswersTexts : Result NewTexts Refusal → Result NewTexts StepFault → Type 0
AnswersTexts found (Ok texts) = found ≡ Ok texts
AnswersTexts found (Err (Refused refusal)) = found ≡ Err refusal
AnswersTexts found (Err fault) = Unit {0}

abbrev pub FindsTexts : AdminWords → Result NewTexts StepFault → List ℕ → Option (List ℕ) → Option View → Type 0
FindsTexts words r n left told = IfSome told (λ v. (i : List ℕ) → IsHeard (takes_input words.text) left i
    → AnswersTexts (found_texts words i (map (unlocked n v) (named_in words)) (v n)) r)

-- Neither text is longer than a file may be.
pub record AreShort (texts : NewTexts) : Type 0 where
  pub text : length texts.text ≤ file_limit
  pub description : length texts.description ≤ file_limit

-- ---- the new file

-- The flags are those of the words, and the description's lines are lines.
pub record AreRules (words : AdminWords) (rules : NewRules) : Type 0 where
  pub flags : changed_flags [] words.set words.unset ≡ Ok rules.flags
  pub description : AreLines rules.description

-- the s-file is replaced, all else kept, and nothing is written
pub record IsNewSfile (p : Prepared) : Type 0 where
  pub s : p.new_s ≡ true
  pub p_state : p.new_p ≡ Keep
  pub g : p.new_g ≡ Keep
  pub report : p.report ≡ []
  pub message : p.message ≡ []

-- the x-file is that of a new file; or a check on its texts and words fails; or at most the x-file has changed
abbrev pub WritesTexts : Result Prepared StepFault → AdminWords → Stamp → NewTexts → List ℕ → Option View → Option View
    → Type 0
WritesTexts (Ok p) words stamp texts n old new =
    IsNewSfile p × ((rules : NewRules) × (new_rules words texts ≡ Ok rules)
    × Becomes (λ v. put v (x_file n) (Some (new_content words stamp rules (text_of texts.text)))) old new)
WritesTexts (Err (Refused refusal)) words stamp texts n old new = (new_rules words texts ≡ Err refusal) × (new ≡ old)
WritesTexts (Err fault) words stamp texts n old new = Moves (bytes_eq (x_file n)) (λ v. v) old new
