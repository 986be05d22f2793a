-- What admin reads of an s-file that is there, part by part.
use Rattle.std.proofs.Common.{◌≡◌, ℕ, ◌≤◌, Bool, true, false, List, [], ◌∷◌, length, map, Option, None, Some, IfSome}
use Rattle.std.proofs.Common.{Result, Ok, Err, refl, sym, ap, subst, ◌∙◌}
use Rattle.std.specs.Prelude.{IfOk, is_some, nat_le}
use Rattle.sccs_base.specs.Constants.{file_limit}
use Rattle.sccs_disk.specs.Files.{Content, View}
use Rattle.sccs_name_files.specs.WholeFiles.{AnswersWhole}
use Rattle.sccs_name_files.specs.declared.whole_files.WholeFault.TheVariants as whole
use Rattle.sccs_sid.specs.Reading.{◌>>=◌}
use Rattle.sccs_sid.specs.declared.refusals.Refusal.{Refusal}
use Rattle.sccs_sid.specs.declared.refusals.Refusal.TheVariants.{Missing, TooLong}
use Rattle.sccs_sid.specs.declared.refusals.StepFault.{StepFault}
use Rattle.sccs_sid.specs.declared.refusals.StepFault.TheVariants as step
use Rattle.sccs_grammar.specs.File.{Parsed, answer, file_of}
use Rattle.sccs_grammar.specs.FileRefusals.{file_fault, or_none, or_refusal, refusal_of}
use Rattle.sccs_grammar.specs.declared.faults.FileFault.{FileFault}
use Rattle.sccs_grammar.specs.declared.faults.FileFault.TheVariants as faults
use Rattle.sccs_table.specs.FrontFile.{IsPlaced, Refuses}
use Rattle.sccs_table.specs.ReaderState.{file_in}
use Rattle.sccs_table.specs.declared.fronts.Front.{Front}
use Rattle.sccs_body.specs.AnySum.{AnswersUnsummed, ShowsUnsummed}
use Rattle.sccs_body.specs.BodyFile.{AnswersFile, ShowsFile}
use Rattle.sccs_body.proofs.FileLaws.{file_items}
use Rattle.sccs_changes.specs.PFiles.{Answers, PassesCheck}
use Rattle.sccs_changes.specs.Pending.{bytes_at}
use Rattle.sccs_steps.specs.StepEffects.{check}
use Rattle.sccs_changes.specs.Changes.{unlocked}
use Rattle.sccs_words.specs.declared.commands.AdminWords.{AdminWords}
use Rattle.sccs_words.specs.declared.commands.Given.{Given}
use Rattle.sccs_words.specs.declared.commands.Given.TheVariants.{No, Bare, From}
use Rattle.sccs_admin.specs.Parts.{ReadsNamed}
use Rattle.sccs_admin.specs.Texts.{named_by}
use Rattle.sccs_admin.proofs.StepLaws.{beyond, within}
use Rattle.sccs_alter.specs.AlterStep.{WasRead, file_read, description_text, read_file}
use Rattle.sccs_alter.specs.Parts.{AnswersRead, ReadsAt}
use Rattle.sccs_alter.specs.declared.reading.Read.{Read}

-- ---- the file that -t names

named_short : (file : List ℕ) (c : Content) → nat_le (length c.bytes) file_limit ≡ true → description_text (From file)
    (Some c ∷ []) ≡ Ok c.bytes
unfolding description_text
named_short file c short = rw short refl

named_long : (file : List ℕ) (c : Content) → nat_le (length c.bytes) file_limit ≡ false → description_text (From file)
    (Some c ∷ []) ≡ Err TooLong
unfolding description_text
named_long file c long = rw long refl

named_absent : (file : List ℕ) (o : Option Content) → o ≡ None → description_text (From file) (o ∷ []) ≡ Err Missing
unfolding description_text
named_absent file None is = refl
named_absent file (Some c) is = absurd cc

text_at : (file text : List ℕ) (o : Option Content) → AnswersWhole o (Ok text) → description_text (From file) (o ∷ [])
    ≡ Ok text
text_at file text None answers = absurd answers
text_at file text (Some c) answers = named_short file c (within (length c.bytes) file_limit
    (subst (λ t. length t ≤ file_limit) answers.0 answers.1)) ∙ ap Ok (sym answers.0)

long_at : (file : List ℕ) (o : Option Content) → AnswersWhole o (Err whole.TooLong) → description_text (From file)
    (o ∷ []) ≡ Err TooLong
long_at file None answers = absurd answers
long_at file (Some c) answers = named_long file c (beyond (length c.bytes) file_limit answers)

-- what is found of the file that an option names
abbrev pub TextIs : Given → List ℕ → Option View → Result (List ℕ) StepFault → Type 0
TextIs given n o r = IfSome o (λ v. Answers (description_text given (map (unlocked n v) (named_by given))) r)

pub named_found : (file n text : List ℕ) (o : Option View) → ReadsNamed (Ok text) file n o
    → TextIs (From file) n o (Ok text)
named_found file n text None reads = tt
named_found file n text (Some v) reads = text_at file text (unlocked n v file) reads

pub named_missing : (file n : List ℕ) (o : Option View) → ReadsNamed (Err whole.Missing) file n o
    → TextIs (From file) n o (Err (step.Refused Missing))
named_missing file n None reads = tt
named_missing file n (Some v) reads = named_absent file (unlocked n v file) reads

pub named_too_long : (file n : List ℕ) (o : Option View) → ReadsNamed (Err whole.TooLong) file n o
    → TextIs (From file) n o (Err (step.Refused TooLong))
named_too_long file n None reads = tt
named_too_long file n (Some v) reads = long_at file (unlocked n v file) reads

none_given : description_text No [] ≡ Ok []
unfolding description_text
none_given = refl

bare_given : description_text Bare [] ≡ Ok []
unfolding description_text
bare_given = refl

pub no_text : (n text : List ℕ) (o : Option View) → text ≡ [] → TextIs No n o (Ok text)
no_text n text None is = tt
no_text n text (Some v) is = none_given ∙ ap Ok (sym is)

pub bare_text : (n text : List ℕ) (o : Option View) → text ≡ [] → TextIs Bare n o (Ok text)
bare_text n text None is = tt
bare_text n text (Some v) is = bare_given ∙ ap Ok (sym is)

-- ---- both files

abbrev from_parsed : List ℕ → Result Parsed Refusal → Result WasRead Refusal
from_parsed text r = r >>= λ parsed. Ok (record { parsed = parsed; text = text })

abbrev from_text : AdminWords → Option Content → Result (List ℕ) Refusal → Result WasRead Refusal
from_text words s r = r >>= λ text. from_parsed text (or_refusal (answer (file_read words.fix) (bytes_at s)))

-- the check that the s-file is there
abbrev pub is_there : Option Content → Result Bool Refusal
is_there s = check (is_some s) Missing

there_passes : (words : AdminWords) (named : List (Option Content)) (s : Option Content) → is_there s ≡ Ok true
    → read_file words named s ≡ from_text words s (description_text words.description named)
unfolding read_file
there_passes words named s is = rw is refl

there_refused : (words : AdminWords) (named : List (Option Content)) (s : Option Content) (refusal : Refusal)
    → is_there s ≡ Err refusal → read_file words named s ≡ Err refusal
unfolding read_file
there_refused words named s refusal is = rw is refl

pub there_ends : (words : AdminWords) (n : List ℕ) (o : Option View) (fault : StepFault)
    → IfSome o (λ (v : View). PassesCheck (is_there (v n)) (Err fault)) → IfSome o (λ v. ReadsAt words n v (Err fault))
there_ends words n None fault passes = tt
there_ends words n (Some v) (step.Refused refusal) passes =
    there_refused words (map (unlocked n v) (named_by words.description)) (v n) refusal passes
there_ends words n (Some v) step.Memory passes = tt
there_ends words n (Some v) step.DiskFault passes = tt
there_ends words n (Some v) step.ReadFault passes = passes
there_ends words n (Some v) step.WriteFault passes = passes

text_at_end : (words : AdminWords) (n : List ℕ) (v : View) (fault : StepFault) → is_there (v n) ≡ Ok true
    → Answers {A = List ℕ} (description_text words.description (map (unlocked n v) (named_by words.description)))
    (Err fault) → ReadsAt words n v (Err fault)
text_at_end words n v (step.Refused refusal) is answers =
    there_passes words (map (unlocked n v) (named_by words.description)) (v n) is ∙ ap (from_text words (v n)) answers
text_at_end words n v step.Memory is answers = tt
text_at_end words n v step.DiskFault is answers = tt
text_at_end words n v step.ReadFault is answers = answers
text_at_end words n v step.WriteFault is answers = answers

pub text_ends : (words : AdminWords) (n : List ℕ) (o o2 : Option View) (fault : StepFault) → o2 ≡ o
    → IfSome o (λ (v : View). PassesCheck (is_there (v n)) (Ok tt)) → TextIs words.description n o2 (Err fault)
    → IfSome o (λ v. ReadsAt words n v (Err fault))
text_ends words n o o2 fault same passes answers =
    by o passes (subst (λ (x : Option View). TextIs words.description n x (Err fault)) same answers)
  where
    by : (x : Option View) → IfSome x (λ (v : View). PassesCheck (is_there (v n)) (Ok tt))
        → TextIs words.description n x (Err fault) → IfSome x (λ v. ReadsAt words n v (Err fault))
    by None passes answers = tt
    by (Some v) passes answers = text_at_end words n v fault passes answers

-- the s-file is there, and this is the text
abbrev pub HasText : AdminWords → List ℕ → List ℕ → Option View → Type 0
HasText words n text o = IfSome o (λ (v : View). (is_there (v n) ≡ Ok true)
    × (description_text words.description (map (unlocked n v) (named_by words.description)) ≡ Ok text))

pub has_text : (words : AdminWords) (n text : List ℕ) (o o2 : Option View) → o2 ≡ o
    → IfSome o (λ (v : View). PassesCheck (is_there (v n)) (Ok tt)) → TextIs words.description n o2 (Ok text)
    → HasText words n text o
has_text words n text o o2 same passes answers =
    by o passes (subst (λ (x : Option View). TextIs words.description n x (Ok text)) same answers)
  where
    by : (x : Option View) → IfSome x (λ (v : View). PassesCheck (is_there (v n)) (Ok tt))
        → TextIs words.description n x (Ok text) → HasText words n text x
    by None passes answers = tt
    by (Some v) passes answers = (passes, answers)

-- what is read then is the file
then_file : (words : AdminWords) (n text : List ℕ) (v : View) → HasText words n text (Some v)
    → read_file words (map (unlocked n v) (named_by words.description)) (v n) ≡ from_parsed text
    (or_refusal (answer (file_read words.fix) (bytes_at (v n))))
then_file words n text v has = there_passes words (map (unlocked n v) (named_by words.description)) (v n) has.0
    ∙ ap (from_text words (v n)) has.1

file_refused : (words : AdminWords) (n text : List ℕ) (v : View) (fault : FileFault) → HasText words n text (Some v)
    → answer (file_read words.fix) (bytes_at (v n)) ≡ Err fault
    → read_file words (map (unlocked n v) (named_by words.description)) (v n) ≡ Err (or_none (refusal_of fault))
file_refused words n text v fault has read = then_file words n text v has
    ∙ ap (λ (r : Result Parsed FileFault). from_parsed text (or_refusal r)) read

file_answers : (words : AdminWords) (n text : List ℕ) (v : View) (fault : FileFault) → HasText words n text (Some v)
    → Refuses fault (answer (file_read words.fix) (bytes_at (v n))) → ReadsAt words n v (Err (file_fault fault))
file_answers words n text v faults.Missing has read = file_refused words n text v faults.Missing has read
file_answers words n text v faults.TooLong has read = file_refused words n text v faults.TooLong has read
file_answers words n text v faults.NotSccs has read = file_refused words n text v faults.NotSccs has read
file_answers words n text v (faults.BadSum stored sum) has read = file_refused words n text v (faults.BadSum stored sum)
    has read
file_answers words n text v (faults.BadFormat line) has read = file_refused words n text v (faults.BadFormat line) has
    read
file_answers words n text v faults.Encoded has read = file_refused words n text v faults.Encoded has read
file_answers words n text v (faults.Changed a b c d) has read = absurd read
file_answers words n text v faults.Failed has read = tt
file_answers words n text v faults.Memory has read = tt

pub file_ends : (words : AdminWords) (n text : List ℕ) (o o2 : Option View) (fault : FileFault) (ended : StepFault)
    → o2 ≡ o → HasText words n text o → ended ≡ file_fault fault
    → IfSome o2 (λ view. AnswersRead words.fix (file_in view n) (Err fault))
    → IfSome o (λ v. ReadsAt words n v (Err ended))
file_ends words n text o o2 fault ended same has is answers =
    by o has (subst (λ (x : Option View). IfSome x (λ view. AnswersRead words.fix (file_in view n) (Err fault))) same
    answers)
  where
    by : (x : Option View) → HasText words n text x → IfSome x (λ view. AnswersRead words.fix (file_in view n)
        (Err fault)) → IfSome x (λ v. ReadsAt words n v (Err ended))
    by None has answers = tt
    by (Some v) has answers = subst (λ f. ReadsAt words n v (Err f)) (sym is)
        (file_answers words n text v fault has answers)

pub file_found : (words : AdminWords) (n text : List ℕ) (o o2 : Option View) (front : Front) (x : Read)
    → x.front ≡ front → x.text ≡ text → o2 ≡ o → HasText words n text o
    → IfSome o2 (λ view. AnswersRead words.fix (file_in view n) (Ok front)) → IfSome o (λ v. ReadsAt words n v (Ok x))
file_found words n text o o2 front x same_front same_text same has answers =
    by o has (subst (λ (y : Option View). IfSome y (λ view. AnswersRead words.fix (file_in view n) (Ok front))) same
    answers)
  where
    by : (y : Option View) → HasText words n text y → IfSome y (λ view. AnswersRead words.fix (file_in view n)
        (Ok front)) → IfSome y (λ v. ReadsAt words n v (Ok x))
    by None has answers = tt
    by (Some v) has answers = (
      answers.0,
      subst (λ f. ShowsUnsummed (bytes_at (v n)) answers.0 f) (sym same_front) answers.2,
      then_file words n text v has
          ∙ (ap (λ (r : Result Parsed FileFault). from_parsed text (or_refusal r)) answers.1
          ∙ ap (λ t. Ok (record { parsed = answers.0; text = t })) (sym same_text)),
    )

-- ---- how the s-file is read

pub read_unsummed : (n : List ℕ) (o : Option View) (r : Result Front FileFault)
    → IfSome o (λ v. AnswersUnsummed (file_in v n) r) → IfSome o (λ v. AnswersRead true (file_in v n) r)
read_unsummed n None r answers = tt
read_unsummed n (Some v) (Ok front) answers = answers
read_unsummed n (Some v) (Err fault) answers = answers

shown_so : (o : Option (List ℕ)) (parsed : Parsed) (front : Front) → IsPlaced front → answer file_of o ≡ Ok parsed
    → ShowsFile o parsed front → ShowsUnsummed o parsed front
shown_so None parsed front placed read shows = absurd shows
shown_so (Some file) parsed front placed read shows = (
  shows.0,
  file_items file parsed shows.1.0 front read shows.1.1 shows.1.2,
  record { placed = placed; size = shows.1.2.size; sum = shows.1.2.sum },
)

pub read_whole : (n : List ℕ) (o : Option View) (r : Result Front FileFault) → IfOk r IsPlaced
    → IfSome o (λ v. AnswersFile (file_in v n) r) → IfSome o (λ v. AnswersRead false (file_in v n) r)
read_whole n None r placed answers = tt
read_whole n (Some v) (Ok front) placed answers =
    (answers.0, answers.1, shown_so (file_in v n) answers.0 front placed answers.1 answers.2)
read_whole n (Some v) (Err fault) placed answers = answers
