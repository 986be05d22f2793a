-- Description and flags of admin's words: their parts, rules and spelling, and what the checks on a new file answer.
use Rattle.std.proofs.Common.{◌≡◌, ℕ, suc, ◌==◌, Bool, true, false, cond, List, [], ◌∷◌, Option, None, Some, Result, Ok}
use Rattle.std.proofs.Common.{Err}
use Rattle.std.proofs.Common.{refl, sym, ap, subst, ◌∙◌, ⊎_elim}
use Rattle.std.proofs.lemmas.Bool.{eqb-true, or_cases}
use Rattle.std.specs.List.{AllByRecursion}
use Rattle.std.proofs.lemmas.List.Elements.{recursion_from_All}
use Rattle.sccs_base.specs.Cut.{HasNoLf, text_of}
use Rattle.sccs_base.proofs.Lines.{text_fit}
use Rattle.sccs_sid.specs.Reading.{◌>>=◌}
use Rattle.sccs_sid.specs.SidLists.{begins}
use Rattle.sccs_sid.specs.declared.refusals.Refusal.{Refusal}
use Rattle.sccs_sid.specs.declared.refusals.Refusal.TheVariants.{NoKeywords}
use Rattle.sccs_sid.specs.declared.refusals.StepFault.{StepFault}
use Rattle.sccs_sid.specs.declared.refusals.StepFault.TheVariants as step
use Rattle.sccs_history.specs.History.{AreBare, AreLines}
use Rattle.sccs_history.specs.declared.headers.Flag.{Flag}
use Rattle.sccs_script.specs.Checks.{bad_line}
use Rattle.sccs_changes.specs.PFiles.{Answers, PassesCheck}
use Rattle.sccs_rules.specs.Flags.{changed_flags}
use Rattle.sccs_steps.specs.Actions.{has_number}
use Rattle.sccs_steps.specs.StepEffects.{check}
use Rattle.sccs_words.specs.declared.commands.AdminWords.{AdminWords}
use Rattle.sccs_words.specs.declared.commands.Given.{Given}
use Rattle.sccs_words.specs.declared.commands.Given.TheVariants.{No, Bare, From}
use Rattle.sccs_admin.specs.Parts.{AreRules}
use Rattle.sccs_admin.specs.Rules.{bare_lines, described, has_wanted_keyword, mrs_fit, new_description, new_flags}
use Rattle.sccs_admin.specs.Rules.{new_rules, or_bad_flag}
use Rattle.sccs_admin.specs.Texts.{count_lines, counted, or_bad_text}
use Rattle.sccs_admin.specs.declared.finding.NewTexts.{NewTexts}
use Rattle.sccs_admin.specs.declared.rules.NewRules.{NewRules}

-- a check that was passed, and what came of it
pub passed : {A B : Type 0} (r : Result A Refusal) (f : A → Result B Refusal) (y : B) → (r >>= f) ≡ Ok y → (x : A)
    × (r ≡ Ok x) × (f x ≡ Ok y)
passed (Ok x) f y is = (x, refl, is)
passed (Err refusal) f y is = absurd cc

-- ---- the numbers of checks

-- a refusal within some checks is within more of them
pub wider_checks : (checks more : List ℕ) (n : ℕ) → AllByRecursion (λ (check : ℕ). has_number more check ≡ true) checks
    → has_number checks n ≡ true → has_number more n ≡ true
wider_checks [] more n all is = absurd cc
wider_checks (check ∷ checks) more n all is =
    ⊎_elim (λ (same : (check == n) ≡ true). subst (λ m. has_number more m ≡ true) (eqb-true check n same) all.0)
    (λ (rest : has_number checks n ≡ true). wider_checks checks more n all.1 rest)
    (or_cases (check == n) (has_number checks n) is)

-- ---- descriptions

same_lines : (r : Result (List (List ℕ)) Refusal) (a b : List (List ℕ)) → r ≡ Ok a → r ≡ Ok b → b ≡ a
same_lines r a b first second = cc

pub counted_ok : (r : Result ℕ ℕ) (count : ℕ) → or_bad_text r ≡ Ok count → r ≡ Ok count
counted_ok (Ok n) count is = let same : n ≡ count = cc in ap Ok same
counted_ok (Err line) count is = absurd cc

pub none_bad : (lines : List (List ℕ)) (o : Option ℕ) (count : ℕ) → counted lines o ≡ Ok count → o ≡ None
none_bad lines None count is = refl
none_bad lines (Some line) count is = absurd (cc)

bare_by : (line : List ℕ) (k : ℕ) (lines : List (List ℕ)) (t : Bool) → begins 1 line ≡ t
    → cond t (Some (suc k)) (bad_line (suc k) lines) ≡ None → (begins 1 line ≡ false) × (bad_line (suc k) lines ≡ None)
bare_by line k lines true is bad = absurd cc
bare_by line k lines false is bad = (is, bad)

all_bare : (k : ℕ) (lines : List (List ℕ)) → bad_line k lines ≡ None → AreBare lines
all_bare k [] is = tt
all_bare k (line ∷ lines) is = let both = bare_by line k lines (begins 1 line) refl is in
    (both.0, all_bare (suc k) lines both.1)

lines_bare : (lines description : List (List ℕ)) → bare_lines lines ≡ Ok description → AreBare description
    × (description ≡ lines)
lines_bare lines description is =
    let count = passed (or_bad_text (count_lines lines)) (λ n. Ok lines) description is in
    let same : description ≡ lines = same_lines (Ok lines) lines description refl count.2 in (
      subst AreBare (sym same) (all_bare 0 lines (none_bad lines (bad_line 0 lines) count.0
          (counted_ok (count_lines lines) count.0 count.1))),
      same,
    )

pub described_bare : (given : Given) (old description : List (List ℕ)) (text : List ℕ) → AreBare old
    → described given old text ≡ Ok description → AreBare description
described_bare No old description text bare is = subst AreBare (sym (same_lines (Ok old) old description refl is)) bare
described_bare Bare old description text bare is = subst AreBare (sym (same_lines (Ok []) [] description refl is)) tt
described_bare (From name) old description text bare is = (lines_bare (text_of text) description is).0

pub described_lines : (given : Given) (old description : List (List ℕ)) (text : List ℕ) → AreLines old
    → described given old text ≡ Ok description → AreLines description
described_lines No old description text lines is = subst AreLines (sym (same_lines (Ok old) old description refl is))
    lines
described_lines Bare old description text lines is = subst AreLines (sym (same_lines (Ok []) [] description refl is)) tt
described_lines (From name) old description text lines is =
    subst AreLines (sym (lines_bare (text_of text) description is).1) (recursion_from_All HasNoLf (text_of text)
    (text_fit text))

pub flags_ok : (r : Result (List Flag) ℕ) (flags : List Flag) → or_bad_flag r ≡ Ok flags → r ≡ Ok flags
flags_ok (Ok made) flags is = let same : made ≡ flags = cc in ap (λ (l : List Flag). Ok l) same
flags_ok (Err letter) flags is = absurd cc

-- ---- a new file

-- What the rules of a new file are made of.
pub record HasRules (words : AdminWords) (texts : NewTexts) (rules : NewRules) : Type 0 where
  pub count : count_lines (text_of texts.text) ≡ Ok rules.count
  pub description : described words.description [] texts.description ≡ Ok rules.description
  pub flags : changed_flags [] words.set words.unset ≡ Ok rules.flags

same_rules : (r : Result NewRules Refusal) (a b : NewRules) → r ≡ Ok a → r ≡ Ok b → b ≡ a
same_rules r a b first second = cc

flags_are : (words : AdminWords) (flags : List Flag) → new_flags words ≡ Ok flags
    → changed_flags [] words.set words.unset ≡ Ok flags
unfolding new_flags
flags_are words flags is =
    let made = passed (or_bad_flag (changed_flags [] words.set words.unset)) _ flags is in
    let fit = passed (mrs_fit made.0 words.mrs) _ flags made.2 in
    flags_ok (changed_flags [] words.set words.unset) flags (made.1 ∙ fit.2)

description_is : (words : AdminWords) (texts : NewTexts) (description : List (List ℕ)) → new_description words texts
    ≡ Ok description → described words.description [] texts.description ≡ Ok description
unfolding new_description
description_is words texts description is =
    let made = passed (described words.description [] texts.description) _ description is in
    let keyword = passed (check (has_wanted_keyword words (text_of texts.text)) NoKeywords) _ description made.2 in
    made.1 ∙ keyword.2

pub rules_are : (words : AdminWords) (texts : NewTexts) (rules : NewRules) → new_rules words texts ≡ Ok rules
    → HasRules words texts rules
unfolding new_rules
rules_are words texts rules is =
    let count = passed (or_bad_text (count_lines (text_of texts.text))) _ rules is in
    let description = passed (new_description words texts) _ rules count.2 in
    let flags = passed (new_flags words) _ rules description.2 in
    subst (HasRules words texts)
    (sym (same_rules (Ok (record { count = count.0; description = description.0; flags = flags.0 }))
    (record { count = count.0; description = description.0; flags = flags.0 }) rules refl flags.2))
    (record {
      count = counted_ok (count_lines (text_of texts.text)) count.0 count.1;
      description = description_is words texts description.0 description.1;
      flags = flags_are words flags.0 flags.1;
    })

pub rules_hold : (words : AdminWords) (texts : NewTexts) (rules : NewRules) → new_rules words texts ≡ Ok rules
    → AreRules words rules
rules_hold words texts rules is =
    let are = rules_are words texts rules is in
    record {
      flags = are.flags;
      description = described_lines words.description [] rules.description texts.description
          tt are.description;
    }

-- ---- part by part

-- without a description before
pub described_at : (given : Given) (old : List (List ℕ)) (text whole : List ℕ) (r : Result (List (List ℕ)) StepFault)
    → old ≡ [] → text ≡ whole → Answers (described given old text) r → Answers (described given [] whole) r
described_at given old text whole r none same answers =
    subst (λ (t : List ℕ). Answers (described given [] t) r) same
    (subst (λ (lines : List (List ℕ)). Answers (described given lines text) r) none answers)

-- without flags before
pub flags_at : (words : AdminWords) (flags : List Flag) (r : Result (List Flag) StepFault) → flags ≡ []
    → Answers (or_bad_flag (changed_flags flags words.set words.unset)) r
    → Answers (or_bad_flag (changed_flags [] words.set words.unset)) r
flags_at words flags r none answers =
    subst (λ (fs : List Flag). Answers (or_bad_flag (changed_flags fs words.set words.unset)) r) none answers

bad_flags : (words : AdminWords) (refusal : Refusal) → or_bad_flag (changed_flags [] words.set words.unset)
    ≡ Err refusal → new_flags words ≡ Err refusal
unfolding new_flags
bad_flags words refusal is = rw is refl

pub flags_end : (words : AdminWords) (fault : StepFault) → Answers {A = List Flag}
    (or_bad_flag (changed_flags [] words.set words.unset)) (Err fault) → Answers {A = List Flag} (new_flags words)
    (Err fault)
flags_end words (step.Refused refusal) answers = bad_flags words refusal answers
flags_end words step.Memory answers = tt
flags_end words step.DiskFault answers = tt
flags_end words step.ReadFault answers = answers
flags_end words step.WriteFault answers = answers

bad_mrs : (words : AdminWords) (flags : List Flag) (refusal : Refusal)
    → or_bad_flag (changed_flags [] words.set words.unset) ≡ Ok flags → mrs_fit flags words.mrs ≡ Err refusal
    → new_flags words ≡ Err refusal
unfolding new_flags
bad_mrs words flags refusal is fit = rw (is, fit) refl

pub mrs_end : (words : AdminWords) (flags : List Flag) (fault : StepFault)
    → or_bad_flag (changed_flags [] words.set words.unset) ≡ Ok flags → PassesCheck (mrs_fit flags words.mrs)
    (Err fault) → Answers {A = List Flag} (new_flags words) (Err fault)
mrs_end words flags (step.Refused refusal) is answers = bad_mrs words flags refusal is answers
mrs_end words flags step.Memory is answers = tt
mrs_end words flags step.DiskFault is answers = tt
mrs_end words flags step.ReadFault is answers = answers
mrs_end words flags step.WriteFault is answers = answers

pub flags_fit : (words : AdminWords) (flags : List Flag) → or_bad_flag (changed_flags [] words.set words.unset)
    ≡ Ok flags → mrs_fit flags words.mrs ≡ Ok true → new_flags words ≡ Ok flags
unfolding new_flags
flags_fit words flags is fit = rw (is, fit) refl

bad_description : (words : AdminWords) (texts : NewTexts) (refusal : Refusal)
    → described words.description [] texts.description ≡ Err refusal → new_description words texts ≡ Err refusal
unfolding new_description
bad_description words texts refusal is = rw is refl

pub description_ends : (words : AdminWords) (texts : NewTexts) (fault : StepFault) → Answers {A = List (List ℕ)}
    (described words.description [] texts.description) (Err fault) → Answers {A = List (List ℕ)}
    (new_description words texts) (Err fault)
description_ends words texts (step.Refused refusal) answers = bad_description words texts refusal answers
description_ends words texts step.Memory answers = tt
description_ends words texts step.DiskFault answers = tt
description_ends words texts step.ReadFault answers = answers
description_ends words texts step.WriteFault answers = answers

pub no_keyword : (words : AdminWords) (texts : NewTexts) (description : List (List ℕ))
    → described words.description [] texts.description ≡ Ok description → has_wanted_keyword words (text_of texts.text)
    ≡ false → new_description words texts ≡ Err NoKeywords
unfolding new_description
no_keyword words texts description is wanted = rw (is, wanted) refl

pub described_new : (words : AdminWords) (texts : NewTexts) (description : List (List ℕ))
    → described words.description [] texts.description ≡ Ok description → has_wanted_keyword words (text_of texts.text)
    ≡ true → new_description words texts ≡ Ok description
unfolding new_description
described_new words texts description is wanted = rw (is, wanted) refl

bad_text : (words : AdminWords) (texts : NewTexts) (refusal : Refusal) → or_bad_text (count_lines (text_of texts.text))
    ≡ Err refusal → new_rules words texts ≡ Err refusal
unfolding new_rules
bad_text words texts refusal is = rw is refl

pub count_ends : (words : AdminWords) (texts : NewTexts) (fault : StepFault)
    → Answers {A = ℕ} (or_bad_text (count_lines (text_of texts.text))) (Err fault)
    → Answers {A = NewRules} (new_rules words texts) (Err fault)
count_ends words texts (step.Refused refusal) answers = bad_text words texts refusal answers
count_ends words texts step.Memory answers = tt
count_ends words texts step.DiskFault answers = tt
count_ends words texts step.ReadFault answers = answers
count_ends words texts step.WriteFault answers = answers

bad_rest : (words : AdminWords) (texts : NewTexts) (count : ℕ) (refusal : Refusal)
    → or_bad_text (count_lines (text_of texts.text)) ≡ Ok count → new_description words texts ≡ Err refusal
    → new_rules words texts ≡ Err refusal
unfolding new_rules
bad_rest words texts count refusal counted is = rw (counted, is) refl

pub rest_ends : (words : AdminWords) (texts : NewTexts) (count : ℕ) (fault : StepFault)
    → or_bad_text (count_lines (text_of texts.text)) ≡ Ok count → Answers {A = List (List ℕ)}
    (new_description words texts) (Err fault) → Answers {A = NewRules} (new_rules words texts) (Err fault)
rest_ends words texts count (step.Refused refusal) counted answers = bad_rest words texts count refusal counted answers
rest_ends words texts count step.Memory counted answers = tt
rest_ends words texts count step.DiskFault counted answers = tt
rest_ends words texts count step.ReadFault counted answers = answers
rest_ends words texts count step.WriteFault counted answers = answers

bad_last : (words : AdminWords) (texts : NewTexts) (count : ℕ) (description : List (List ℕ)) (refusal : Refusal)
    → or_bad_text (count_lines (text_of texts.text)) ≡ Ok count → new_description words texts ≡ Ok description
    → new_flags words ≡ Err refusal → new_rules words texts ≡ Err refusal
unfolding new_rules
bad_last words texts count description refusal counted said is = rw (counted, said, is) refl

pub last_ends : (words : AdminWords) (texts : NewTexts) (count : ℕ) (description : List (List ℕ)) (fault : StepFault)
    → or_bad_text (count_lines (text_of texts.text)) ≡ Ok count → new_description words texts ≡ Ok description
    → Answers {A = List Flag} (new_flags words) (Err fault) → Answers {A = NewRules} (new_rules words texts) (Err fault)
last_ends words texts count description (step.Refused refusal) counted said answers =
    bad_last words texts count description refusal counted said answers
last_ends words texts count description step.Memory counted said answers = tt
last_ends words texts count description step.DiskFault counted said answers = tt
last_ends words texts count description step.ReadFault counted said answers = answers
last_ends words texts count description step.WriteFault counted said answers = answers

pub all_ruled : (words : AdminWords) (texts : NewTexts) (count : ℕ) (description : List (List ℕ)) (flags : List Flag)
    → or_bad_text (count_lines (text_of texts.text)) ≡ Ok count → new_description words texts ≡ Ok description
    → new_flags words ≡ Ok flags
    → new_rules words texts ≡ Ok (record { count = count; description = description; flags = flags })
unfolding new_rules
all_ruled words texts count description flags counted said set = rw (counted, said, set) refl
