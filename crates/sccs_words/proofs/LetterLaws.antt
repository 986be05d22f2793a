-- Later options are judged by the letters before them, however often each was used.
use Rattle.std.proofs.Common.{◌≡◌, ℕ, ◌+◌, ◌<◌, ◌==◌, Bool, true, false, not, ◌&&◌, ◌||◌, List, [], ◌∷◌, ◌++◌, length}
use Rattle.std.proofs.Common.{map, take, get_or, Option, refl, sym, ap, ◌∙◌, cond}
use Rattle.std.specs.Bool.{beq}
use Rattle.std.specs.List.{list_any}
use Rattle.std.proofs.lemmas.Bool.{eqb-true, or_right}
use Rattle.std.proofs.lemmas.List.{map_push}
use Rattle.std.proofs.lemmas.List.Folds.{list_any-append, list_any_more}
use Rattle.sccs_words.specs.Synopsis.{exclusions_of, options_of, find_option}
use Rattle.sccs_words.specs.Judge.{SameLetters, fault_by, has_letter, is_dash, is_excluded, is_same, known_fault}
use Rattle.sccs_words.specs.Judge.{repeats, usage, use_fault, used_letter, value_fault}
use Rattle.sccs_words.specs.declared.commands.Usage.{Usage}
use Rattle.sccs_words.specs.declared.judging.UsedLetter.{UsedLetter}
use Rattle.sccs_words.specs.declared.scanning.OptionArgument.{OptionArgument}
use Rattle.sccs_words.specs.declared.scanning.OptionArgument.TheVariants.{Unknown, Bare, Missing, Value}
use Rattle.sccs_words.specs.declared.scanning.Use.{Use}
use Rattle.sccs_words.specs.declared.tables.OptionSpec.{OptionSpec}
use Rattle.sccs_words.specs.declared.tables.Utility.{Utility}
use Rattle.sccs_words.proofs.FirstFaults.{longer}
use Rattle.sccs_base.proofs.Bools.{left_true}

known_alike : (utility : Utility) (a b : List UsedLetter) (one : Use) (option : Option OptionSpec) → SameLetters a b
    → known_fault utility a one option ≡ known_fault utility b one option
known_alike utility a b one option same =
    ap (λ (has : Bool). told has (list_any excluded a)) (same (λ other. other.letter == one.letter))
    ∙ ap (told (has_letter one.letter b)) (same excluded)
  where
    excluded : UsedLetter → Bool
    excluded other = is_excluded (exclusions_of utility) (used_letter one) other

    told : Bool → Bool → Option Usage
    told has out = cond (not (repeats option) && has) (usage 4 one.word) (cond out (usage 5 one.word)
        (value_fault option one.argument))

pub fault_alike : (utility : Utility) (a b : List UsedLetter) (one : Use) (argument : OptionArgument) → SameLetters a b
    → fault_by utility a one argument ≡ fault_by utility b one argument
fault_alike utility a b one Unknown same = refl
fault_alike utility a b one Missing same = refl
fault_alike utility a b one Bare same = known_alike utility a b one (find_option (options_of utility) one.letter) same
fault_alike utility a b one (Value bytes n) same = known_alike utility a b one
    (find_option (options_of utility) one.letter) same

-- ---- a letter that is there already

abbrev pub lettered : ℕ → Bool → UsedLetter
lettered letter bare = record { letter = letter; is_bare = bare }

none : (a : Bool) → (a && false) ≡ true → ⊥
none true is = absurd (let wrong : false ≡ true = is in cc)
none false is = absurd (let wrong : false ≡ true = is in cc)

same_is : (l m : ℕ) (x y : Bool) → (l == m && beq x y) ≡ true → lettered l x ≡ lettered m y
same_is l m true true is = ap (λ (letter : ℕ). lettered letter true) (eqb-true l m (left_true (l == m) true is))
same_is l m false false is = ap (λ (letter : ℕ). lettered letter false) (eqb-true l m (left_true (l == m) true is))
same_is l m true false is = absurd (none (l == m) is)
same_is l m false true is = absurd (none (l == m) is)

there_any : (test : UsedLetter → Bool) (letters : List UsedLetter) (one : UsedLetter)
    → list_any (λ other. is_same other one) letters ≡ true → test one ≡ true → list_any test letters ≡ true
there_any test [] one there holds = there
there_any test (x ∷ xs) one there holds = by (is_same x one) refl there (λ found. there_any test xs one found holds)
  where
    by : (same : Bool) → is_same x one ≡ same → (same || list_any (λ other. is_same other one) xs) ≡ true
        → (list_any (λ other. is_same other one) xs ≡ true → list_any test xs ≡ true) → (test x || list_any test xs)
        ≡ true
    by true is found later = ap (λ (here : Bool). here || list_any test xs)
        (ap test (same_is x.letter one.letter x.is_bare one.is_bare is) ∙ holds)
    by false is found later = or_right (test x) (list_any test xs) (later found)

pub stays : (letters : List UsedLetter) (one : UsedLetter) → list_any (λ other. is_same other one) letters ≡ true
    → SameLetters letters (letters ++ one ∷ [])
stays letters one there = λ test. by (list_any test letters) (test one) (there_any test letters one there)
    ∙ sym (list_any-append test letters (one ∷ []))
  where
    by : (a t : Bool) → (t ≡ true → a ≡ true) → a ≡ (a || (t || false))
    by true t holds = refl
    by false true holds = holds refl
    by false false holds = refl

-- ---- one use more

pub more_letters : (a b : List UsedLetter) (uses : List Use) (i : ℕ) (one : Use) → i < length uses
    → one ≡ get_or uses i one → SameLetters b (a ++ used_letter one ∷ [])
    → SameLetters a (map used_letter (take i uses))
    → SameLetters b (map used_letter (take (i + 1) uses))
more_letters a b uses i one below is added same = λ test.
    added test
    ∙ (list_any-append test a (used_letter one ∷ [])
    ∙ (ap (λ (before : Bool). before || list_any test (used_letter one ∷ [])) (same test)
    ∙ (sym (list_any-append test (map used_letter (take i uses)) (used_letter one ∷ []))
    ∙ (ap (list_any test) (sym (map_push used_letter (take i uses) one))
    ∙ ap (λ (before : List Use). list_any test (map used_letter before)) (sym (longer uses i one below is))))))

-- a fault that is found by the letters is that of the uses
pub found_by : (utility : Utility) (given letters : List UsedLetter) (before : List Use) (one : Use)
    (found : Option Usage) → given ≡ letters → SameLetters letters (map used_letter before)
    → found ≡ fault_by utility given one one.argument
    → found ≡ use_fault utility before one
unfolding use_fault
found_by utility given letters before one found is same by = by
    ∙ (ap (λ (l : List UsedLetter). fault_by utility l one one.argument) is ∙ fault_alike utility letters
    (map used_letter before) one one.argument same)

-- ---- one operand more

pub dashes : (words : List (List ℕ)) (i : ℕ) (word bytes : List ℕ) (had now : Bool) → i < length words
    → word ≡ get_or words i word → bytes ≡ word → had ≡ list_any is_dash (take i words) → now ≡ (had || is_dash bytes)
    → now ≡ list_any is_dash (take (i + 1) words)
dashes words i word bytes had now below is same before joined =
    joined ∙ (ap (λ (b : Bool). b || is_dash bytes) before
    ∙ (ap (λ (w : List ℕ). list_any is_dash (take i words) || is_dash w) (same ∙ is)
    ∙ sym (list_any_more is_dash words i word below)))
