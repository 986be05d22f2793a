-- The first fault of a command line, from left to right.
use Rattle.std.specs.Prelude.{◌≡◌, ℕ, ◌+◌, ◌==◌, Bool, true, false, not, ◌&&◌, ◌||◌, List, [], ◌∷◌, ◌++◌, length, map}
use Rattle.std.specs.Prelude.{Option, None, Some, is_some, if◌then◌else◌}
use Rattle.std.specs.Bool.{beq}
use Rattle.std.specs.List.{list_any, list_all}
use Rattle.std.specs.Str.{bytes_eq}
use Rattle.sccs_base.specs.Name.{is_sfile_name}
use Rattle.sccs_sid.specs.Reading.{is_empty}
use Rattle.sccs_words.specs.Scan.{CommandLine}
use Rattle.sccs_words.specs.Synopsis.{options_of, exclusions_of, needs_of, operand_rule_of, find_option}
use Rattle.sccs_words.specs.UsageKinds as kinds
use Rattle.sccs_words.specs.Values.{value_fits, soak_number}
use Rattle.sccs_words.specs.declared.commands.Usage.{Usage}
use Rattle.sccs_words.specs.declared.tables.OptionSpec.{OptionSpec}
use Rattle.sccs_words.specs.declared.tables.OptionSpec.TheVariants.{Joined, Valued, Repeated}
use Rattle.sccs_words.specs.declared.tables.Form.{Form}
use Rattle.sccs_words.specs.declared.tables.Form.TheVariants.{Any}
use Rattle.sccs_words.specs.declared.tables.Exclusion.{Exclusion}
use Rattle.sccs_words.specs.declared.tables.Exclusion.TheVariants as exclusions
use Rattle.sccs_words.specs.declared.tables.Need.{Need}
use Rattle.sccs_words.specs.declared.tables.Need.TheVariants as needs
use Rattle.sccs_words.specs.declared.tables.OperandRule.{OperandRule}
use Rattle.sccs_words.specs.declared.tables.OperandRule.TheVariants.{Nothing, Sfile, Number, Named, OneWith}
use Rattle.sccs_words.specs.declared.tables.Utility.{Utility}
use Rattle.sccs_words.specs.declared.scanning.OptionArgument.{OptionArgument}
use Rattle.sccs_words.specs.declared.scanning.OptionArgument.TheVariants.{Unknown, Bare, Missing, Value}
use Rattle.sccs_words.specs.declared.scanning.Use.{Use}
use Rattle.sccs_words.specs.declared.judging.UsedLetter.{UsedLetter}

abbrev pub usage : ℕ → ℕ → Option Usage
usage kind word = Some (record { kind = kind; word = word })

-- the first of two that is there
abbrev pub first_usage : Option Usage → Option Usage → Option Usage
first_usage None later = later
first_usage (Some fault) later = Some fault

-- an option of that letter is used
abbrev pub has_use : ℕ → List Use → Bool
has_use letter uses = list_any (λ one. one.letter == letter) uses

abbrev pub is_bare : OptionArgument → Bool
is_bare Bare = true
is_bare _ = false

-- what later options are judged by of a use
abbrev pub used_letter : Use → UsedLetter
used_letter one = record { letter = one.letter; is_bare = is_bare one.argument }

abbrev pub is_same : UsedLetter → UsedLetter → Bool
is_same a b = a.letter == b.letter && beq a.is_bare b.is_bare

abbrev pub has_letter : ℕ → List UsedLetter → Bool
has_letter letter before = list_any (λ one. one.letter == letter) before

-- the rule speaks of these two, in this order
abbrev pub excludes_by : Exclusion → UsedLetter → UsedLetter → Bool
excludes_by (exclusions.Both x y) a b = a.letter == x && b.letter == y
excludes_by (exclusions.Bare x y) a b = (a.letter == x && a.is_bare) && b.letter == y
excludes_by (exclusions.Alone x) a b = a.letter == x && not (b.letter == x)

abbrev pub is_excluded : List Exclusion → UsedLetter → UsedLetter → Bool
is_excluded rules a b = list_any (λ rule. excludes_by rule a b || excludes_by rule b a) rules

abbrev pub repeats : Option OptionSpec → Bool
repeats (Some (Repeated b form)) = true
repeats _ = false

abbrev pub option_form : Option OptionSpec → Form
option_form (Some (Joined b form)) = form
option_form (Some (Valued b form)) = form
option_form (Some (Repeated b form)) = form
option_form _ = Any

abbrev pub value_fault : Option OptionSpec → OptionArgument → Option Usage
value_fault option (Value bytes n) = if value_fits (option_form option) bytes then None else usage kinds.malformed n
value_fault option _ = None

abbrev pub is_given_twice : Option OptionSpec → List UsedLetter → ℕ → Bool
is_given_twice option before letter = not (repeats option) && has_letter letter before

-- a use of a letter of the utility, after those before it
abbrev pub known_fault : Utility → List UsedLetter → Use → Option OptionSpec → Option Usage
known_fault utility before one option =
    if is_given_twice option before one.letter then usage kinds.given_twice one.word
    else if list_any (λ other. is_excluded (exclusions_of utility) (used_letter one) other) before
    then usage kinds.exclude one.word
    else value_fault option one.argument

abbrev pub fault_by : Utility → List UsedLetter → Use → OptionArgument → Option Usage
fault_by utility before one Unknown = usage kinds.unknown_option one.word
fault_by utility before one Missing = usage kinds.missing_argument one.word
fault_by utility before one _ = known_fault utility before one (find_option (options_of utility) one.letter)

unfoldable pub use_fault : Utility → List Use → Use → Option Usage
use_fault utility before one = fault_by utility (map used_letter before) one one.argument

-- the first fault of these, each judged after those before it
unfoldable pub first_from : {A : Type 0} → (List A → A → Option Usage) → List A → List A → Option Usage
first_from fault before [] = None
first_from fault before (x ∷ xs) = first_usage (fault before x) (first_from fault (before ++ x ∷ []) xs)

abbrev pub uses_fault : Utility → List Use → Option Usage
uses_fault utility uses = first_from (use_fault utility) [] uses

-- the same letters: what holds of one in either list does so in the other
abbrev pub SameLetters : List UsedLetter → List UsedLetter → Type 0
SameLetters a b = (test : UsedLetter → Bool) → list_any test a ≡ list_any test b

-- ---- operands

abbrev pub is_dash : List ℕ → Bool
is_dash word = bytes_eq word (45 ∷ [])

abbrev pub is_single_dot : List ℕ → Bool
is_single_dot word = bytes_eq word (46 ∷ [])

-- neither `.` nor `-`
abbrev pub is_named : List ℕ → Bool
is_named word = not (is_dash word) && not (is_single_dot word)

-- what may stand as an operand
abbrev pub operand_fits : OperandRule → List Use → List ℕ → Bool
operand_fits Sfile uses word = is_sfile_name word
operand_fits Number uses word = is_some (soak_number word)
operand_fits Named uses word = is_named word
operand_fits (OneWith letter) uses word = not (has_use letter uses) || is_named word
operand_fits _ uses word = true

-- an operand is `-`, and others stand before it
abbrev pub is_late_dash : List (List ℕ) → List ℕ → Bool
is_late_dash before word = is_dash word && not (is_empty before)

-- the same, or `-` stands before it
abbrev pub dash_with_other : List (List ℕ) → List ℕ → Bool
dash_with_other before word = list_any is_dash before || is_late_dash before word

-- an operand, after those before it; the first stands in word `first`
unfoldable pub operand_fault : OperandRule → List Use → ℕ → List (List ℕ) → List ℕ → Option Usage
operand_fault rule uses first before word =
    if dash_with_other before word then usage kinds.exclude (first + length before)
    else if operand_fits rule uses word then None else usage kinds.malformed (first + length before)

abbrev pub operands_fault : OperandRule → List Use → ℕ → List (List ℕ) → Option Usage
operands_fault rule uses first words = first_from (operand_fault rule uses first) [] words

-- ---- after the last word

abbrev pub wants : OperandRule → Bool
wants Nothing = false
wants _ = true

abbrev pub met : List Use → Need → Bool
met uses (needs.Always x) = has_use x uses
met uses (needs.Either x y) = has_use x uses || has_use y uses
met uses (needs.With letter x y) = not (has_use letter uses) || (has_use x uses || has_use y uses)

abbrev pub takes_one : OperandRule → List Use → Bool
takes_one Sfile uses = true
takes_one Number uses = true
takes_one (OneWith letter) uses = has_use letter uses
takes_one _ uses = false

abbrev pub too_many : OperandRule → List Use → List (List ℕ) → Bool
too_many rule uses [] = false
too_many rule uses (word ∷ []) = not (wants rule)
too_many rule uses (word ∷ more ∷ words) = not (wants rule) || takes_one rule uses

abbrev pub none_though_wanted : OperandRule → List (List ℕ) → Bool
none_though_wanted rule words = is_empty words && wants rule

unfoldable pub end_fault : Utility → List Use → List (List ℕ) → ℕ → Option Usage
end_fault utility uses operands n =
    if none_though_wanted (operand_rule_of utility) operands then usage kinds.no_operand n
    else if not (list_all (λ need. met uses need) (needs_of utility)) then usage kinds.option_needed n
    else if too_many (operand_rule_of utility) uses operands then usage kinds.too_many n
    else None

-- the words end before number n
unfoldable pub usage_fault : Utility → CommandLine → ℕ → Option Usage
usage_fault utility line n =
    first_usage (uses_fault utility line.uses)
    (first_usage (operands_fault (operand_rule_of utility) line.uses line.first line.operands)
    (end_fault utility line.uses line.operands n))
