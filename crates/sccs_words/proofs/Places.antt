-- A fault stands in a word of the command line, or right after the last.
use Rattle.std.proofs.Common.{◌≡◌, ℕ, ◌+◌, ◌-◌, ◌≤◌, Bool, true, false, not, List, [], ◌∷◌, ◌++◌, length, map, Option}
use Rattle.std.proofs.Common.{None, Some, Result, Ok, Err, subst, arith, cond}
use Rattle.std.specs.Prelude.{option_and_then}
use Rattle.std.specs.List.{AllByRecursion, list_any, list_all}
use Rattle.std.proofs.lemmas.List.{length_push}
use Rattle.sccs_sid.specs.declared.sids.Sid.{Sid}
use Rattle.sccs_words.specs.Letters as opt
use Rattle.sccs_words.specs.Synopsis.{options_of, exclusions_of, needs_of, operand_rule_of, find_option}
use Rattle.sccs_words.specs.Values.{value_fits, sid_value, name_value, soak_number}
use Rattle.sccs_words.specs.Scan.{Uses, Kind, Letters, Ends, Operand, CommandLine, used, turn, turn_by, after_turn}
use Rattle.sccs_words.specs.Scan.{letters, word_kind, by_kind, scanned}
use Rattle.sccs_words.specs.Judge.{first_usage, usage, option_form, value_fault, is_given_twice, used_letter}
use Rattle.sccs_words.specs.Judge.{is_excluded, known_fault, fault_by, use_fault, first_from, uses_fault}
use Rattle.sccs_words.specs.Judge.{dash_with_other, operand_fits, operand_fault, operands_fault, none_though_wanted}
use Rattle.sccs_words.specs.Judge.{met, too_many, end_fault, usage_fault}
use Rattle.sccs_words.specs.Records.{value_of}
use Rattle.sccs_words.specs.Meaning.{first_text, with_name, with_sid, with_changes, with_number, line_command}
use Rattle.sccs_words.specs.Meaning.{words_fault, unless_fault, line_meaning, meaning_by, utility_of, meaning}
use Rattle.sccs_words.specs.declared.tables.OptionSpec.{OptionSpec}
use Rattle.sccs_words.specs.declared.tables.OptionSpec.TheVariants.{Plain, Joined, Valued, Repeated}
use Rattle.sccs_words.specs.declared.tables.OperandRule.{OperandRule}
use Rattle.sccs_words.specs.declared.tables.Utility.{Utility}
use Rattle.sccs_words.specs.declared.tables.Utility.TheVariants as u
use Rattle.sccs_words.specs.declared.scanning.OptionArgument.{OptionArgument}
use Rattle.sccs_words.specs.declared.scanning.OptionArgument.TheVariants.{Unknown, Bare, Missing, Value}
use Rattle.sccs_words.specs.declared.scanning.Use.{Use}
use Rattle.sccs_words.specs.declared.judging.UsedLetter.{UsedLetter}
use Rattle.sccs_words.specs.declared.commands.Usage.{Usage}
use Rattle.sccs_words.specs.declared.commands.Command.{Command}

-- a word's number, from 1 to last
abbrev In : ℕ → ℕ → Type 0
In last n = (1 ≤ n) × (n ≤ last)

abbrev ArgumentIn : ℕ → OptionArgument → Type 0
ArgumentIn last (Value bytes n) = In last n
ArgumentIn last _ = Unit {0}

abbrev UseIn : ℕ → Use → Type 0
UseIn last one = In last one.word × ArgumentIn last one.argument

abbrev FaultIn : ℕ → Option Usage → Type 0
FaultIn last None = Unit {0}
FaultIn last (Some fault) = In last fault.word

abbrev MeantIn : ℕ → Result Command Usage → Type 0
MeantIn last (Ok command) = Unit {0}
MeantIn last (Err fault) = In last fault.word

record LineIn (last : ℕ) (l : CommandLine) : Type 0 where
  uses : AllByRecursion (UseIn last) l.uses
  first : 1 ≤ l.first
  operands : l.first + length l.operands ≤ last

push : {A : Type 0} (P : A → Type 0) (xs : List A) (x : A) → AllByRecursion P xs → P x → AllByRecursion P (xs ++ x ∷ [])
push {A} P [] x all is = (is, tt)
push {A} P (y ∷ xs) x all is = (all.0, push P xs x all.1 is)

-- ---- the scan

turn_in : (last n b : ℕ) (option : Option OptionSpec) (rest : List ℕ) (uses : List Use) (more : List Use → Uses)
    → In last n
    → ((longer : List Use) → AllByRecursion (UseIn last) longer → AllByRecursion (UseIn last) (more longer).0)
    → AllByRecursion (UseIn last) uses → AllByRecursion (UseIn last) (after_turn uses (turn_by option b n rest) more).0
turn_in last n b None rest uses more is goes all = goes (uses ++ used b n Unknown ∷ [])
    (push (UseIn last) uses (used b n Unknown) all (is, tt))
turn_in last n b (Some (Plain c)) rest uses more is goes all = goes (uses ++ used b n Bare ∷ [])
    (push (UseIn last) uses (used b n Bare) all (is, tt))
turn_in last n b (Some (Joined c form)) [] uses more is goes all = push (UseIn last) uses (used b n Bare) all (is, tt)
turn_in last n b (Some (Joined c form)) (d ∷ rest) uses more is goes all =
    push (UseIn last) uses (used b n (Value (d ∷ rest) n)) all (is, is)
turn_in last n b (Some (Valued c form)) [] uses more is goes all = all
turn_in last n b (Some (Valued c form)) (d ∷ rest) uses more is goes all =
    push (UseIn last) uses (used b n (Value (d ∷ rest) n)) all (is, is)
turn_in last n b (Some (Repeated c form)) [] uses more is goes all = all
turn_in last n b (Some (Repeated c form)) (d ∷ rest) uses more is goes all =
    push (UseIn last) uses (used b n (Value (d ∷ rest) n)) all (is, is)

letters_in : (last n : ℕ) (options : List OptionSpec) (bytes : List ℕ) (uses : List Use) → In last n
    → AllByRecursion (UseIn last) uses → AllByRecursion (UseIn last) (letters options n uses bytes).0
unfolding letters turn
letters_in last n options [] uses is all = all
letters_in last n options (b ∷ rest) uses is all =
    turn_in last n b (find_option options b) rest uses (λ longer. letters options n longer rest) is
    (λ longer. letters_in last n options rest longer is) all

kind_in : (last n : ℕ) (uses : List Use) (word : List ℕ) (words : List (List ℕ)) (kind : Kind) (more : List ℕ
    → CommandLine) → 2 ≤ n → n + length (word ∷ words) ≤ last
    → AllByRecursion (UseIn last) uses → ((bytes : List ℕ) → LineIn last (more bytes))
    → LineIn last (by_kind n uses word words kind more)
kind_in last n uses word words (Letters bytes) more low high all goes = goes bytes
kind_in last n uses word words Ends more low high all goes =
    record { uses = all; first = omega arith; operands = omega arith }
kind_in last n uses word words Operand more low high all goes =
    record { uses = all; first = omega arith; operands = high }

line_in : (last n : ℕ) (options : List OptionSpec) (uses : List Use) (waits : Option ℕ) (words : List (List ℕ)) → 2 ≤ n
    → n + length words ≤ last
    → AllByRecursion (UseIn last) uses → LineIn last (scanned options n uses waits words)
unfolding scanned
line_in last n options uses (Some letter) [] low high all =
    record {
      uses = push (UseIn last) uses (used letter (n - 1) Missing) all ((omega arith, omega arith), tt);
      first =
          omega arith;
      operands = high;
    }
line_in last n options uses (Some letter) (word ∷ words) low high all =
    line_in last (n + 1) options (uses ++ used letter (n - 1) (Value word n) ∷ []) None words (omega arith)
    (omega arith)
    (push (UseIn last) uses (used letter (n - 1) (Value word n)) all (
      (omega arith, omega arith),
      (omega arith, omega arith),
    ))
line_in last n options uses None [] low high all = record { uses = all; first = omega arith; operands = high }
line_in last n options uses None (word ∷ words) low high all =
    kind_in last n uses word words (word_kind word) (λ bytes. scanned options (n + 1) (letters options n uses bytes).0
    (letters options n uses bytes).1 words) low high all
    (λ bytes. line_in last (n + 1) options (letters options n uses bytes).0 (letters options n uses bytes).1 words
    (omega arith) (omega arith) (letters_in last n options bytes uses (omega arith, omega arith) all))

-- ---- the faults

or_in : (last : ℕ) (a b : Option Usage) → FaultIn last a → FaultIn last b → FaultIn last (first_usage a b)
or_in last None b a-in b-in = b-in
or_in last (Some fault) b a-in b-in = a-in

if_in : (last : ℕ) (test : Bool) (a b : Option Usage) → FaultIn last a → FaultIn last b → FaultIn last (cond test a b)
if_in last true a b a-in b-in = a-in
if_in last false a b a-in b-in = b-in

value_in : (last : ℕ) (option : Option OptionSpec) (argument : OptionArgument) → ArgumentIn last argument
    → FaultIn last (value_fault option argument)
value_in last option Unknown is = tt
value_in last option Bare is = tt
value_in last option Missing is = tt
value_in last option (Value bytes n) is = if_in last (value_fits (option_form option) bytes) None (usage 6 n) tt is

known_in : (last : ℕ) (utility : Utility) (before : List UsedLetter) (one : Use) (option : Option OptionSpec)
    → UseIn last one → FaultIn last (known_fault utility before one option)
known_in last utility before one option is =
    if_in last (is_given_twice option before one.letter) (usage 4 one.word) _ is.0
    (if_in last (list_any (λ other. is_excluded (exclusions_of utility) (used_letter one) other) before)
    (usage 5 one.word) _ is.0 (value_in last option one.argument is.1))

fault_in : (last : ℕ) (utility : Utility) (before : List UsedLetter) (one : Use) (argument : OptionArgument)
    → UseIn last one → FaultIn last (fault_by utility before one argument)
fault_in last utility before one Unknown is = is.0
fault_in last utility before one Missing is = is.0
fault_in last utility before one Bare is = known_in last utility before one
    (find_option (options_of utility) one.letter) is
fault_in last utility before one (Value bytes n) is = known_in last utility before one
    (find_option (options_of utility) one.letter) is

use_in : (last : ℕ) (utility : Utility) (before : List Use) (one : Use) → UseIn last one
    → FaultIn last (use_fault utility before one)
unfolding use_fault
use_in last utility before one is = fault_in last utility (map used_letter before) one one.argument is

first_in : {A : Type 0} (last : ℕ) (fault : List A → A → Option Usage) (P : List A → List A → Type 0)
    → ((before : List A) (x : A) (xs : List A) → P before (x ∷ xs) → FaultIn last (fault before x))
    → ((before : List A) (x : A) (xs : List A) → P before (x ∷ xs) → P (before ++ x ∷ []) xs)
    → (before xs : List A) → P before xs → FaultIn last (first_from fault before xs)
unfolding first_from
first_in {A} last fault P here goes before [] is = tt
first_in {A} last fault P here goes before (x ∷ xs) is =
    or_in last (fault before x) (first_from fault (before ++ x ∷ []) xs) (here before x xs is)
    (first_in last fault P here goes (before ++ x ∷ []) xs (goes before x xs is))

uses_in : (last : ℕ) (utility : Utility) (uses : List Use) → AllByRecursion (UseIn last) uses
    → FaultIn last (uses_fault utility uses)
uses_in last utility uses all =
    first_in last (use_fault utility) (λ before xs. AllByRecursion (UseIn last) xs) (λ before one xs is.
    use_in last utility before one is.0) (λ before one xs is. is.1) [] uses all

operand_in : (last first : ℕ) (rule : OperandRule) (uses : List Use) (before : List (List ℕ)) (word : List ℕ)
    → 1 ≤ first → first + length before ≤ last
    → FaultIn last (operand_fault rule uses first before word)
unfolding operand_fault
operand_in last first rule uses before word low high =
    if_in last (dash_with_other before word) (usage 5 (first + length before)) _ (omega arith, high)
    (if_in last (operand_fits rule uses word) None (usage 6 (first + length before)) tt (omega arith, high))

longer_in : (last first : ℕ) (before : List (List ℕ)) (word : List ℕ) (words : List (List ℕ))
    → first + length before + length (word ∷ words) ≤ last → first + length (before ++ word ∷ []) + length words ≤ last
longer_in last first before word words high = let long : length (before ++ word ∷ []) ≡ length before + 1 =
    length_push before word in omega arith

operands_in : (last first : ℕ) (rule : OperandRule) (uses : List Use) (words : List (List ℕ)) → 1 ≤ first
    → first + length words ≤ last → FaultIn last (operands_fault rule uses first words)
operands_in last first rule uses words low high =
    first_in last (operand_fault rule uses first) (λ before xs. first + length before + length xs ≤ last)
    (λ before word xs is. operand_in last first rule uses before word low (omega arith))
    (λ before word xs is. longer_in last first before word xs is) [] words (omega arith)

end_in : (last : ℕ) (utility : Utility) (uses : List Use) (operands : List (List ℕ)) → 1 ≤ last
    → FaultIn last (end_fault utility uses operands last)
unfolding end_fault
end_in last utility uses operands low =
    if_in last (none_though_wanted (operand_rule_of utility) operands) (usage 7 last) _ (low, omega arith)
    (if_in last (not (list_all (λ need. met uses need) (needs_of utility))) (usage 8 last) _ (low, omega arith)
    (if_in last (too_many (operand_rule_of utility) uses operands) (usage 9 last) None (low, omega arith) tt))

first_fault_in : (last : ℕ) (utility : Utility) (l : CommandLine) → LineIn last l
    → FaultIn last (usage_fault utility l last)
unfolding usage_fault
first_fault_in last utility l is =
    let low : 1 ≤ l.first = is.first in
    let high : l.first + length l.operands ≤ last = is.operands in
    or_in last (uses_fault utility l.uses) _ (uses_in last utility l.uses is.uses)
    (or_in last (operands_fault (operand_rule_of utility) l.uses l.first l.operands)
    (end_fault utility l.uses l.operands last) (operands_in last l.first (operand_rule_of utility) l.uses l.operands
    low high)
    (end_in last utility l.uses l.operands (omega arith)))

refusal_in : (last : ℕ) (utility : Utility) (l : CommandLine) → LineIn last l
    → FaultIn last (words_fault utility l last)
refusal_in last u.Admin l is = first_fault_in last u.Admin l is
refusal_in last u.Get l is = first_fault_in last u.Get l is
refusal_in last u.Delta l is = first_fault_in last u.Delta l is
refusal_in last u.Unget l is = first_fault_in last u.Unget l is
refusal_in last u.Sact l is = first_fault_in last u.Sact l is
refusal_in last u.Tell l is = first_fault_in last u.Tell l is
refusal_in last u.Check l is = first_fault_in last u.Check l is
refusal_in last u.Rmdel l is = first_fault_in last u.Rmdel l is
refusal_in last u.Cdc l is = first_fault_in last u.Cdc l is
refusal_in last u.Prs l is = first_fault_in last u.Prs l is
refusal_in last u.Val l is = tt
refusal_in last u.What l is = first_fault_in last u.What l is
refusal_in last u.Recover l is = first_fault_in last u.Recover l is
refusal_in last u.Import l is = first_fault_in last u.Import l is
refusal_in last u.Batch l is = first_fault_in last u.Batch l is
refusal_in last u.Group l is = first_fault_in last u.Group l is
refusal_in last u.Soak l is = first_fault_in last u.Soak l is

-- ---- the meaning

name_in : (last : ℕ) (uses : List Use) (name : Option (List ℕ)) → 1 ≤ last → MeantIn last (with_name uses last name)
name_in last uses None low = (low, omega arith)
name_in last uses (Some name) low = tt

sid_in : (last : ℕ) (operands : List (List ℕ)) (sid : Option Sid) → 1 ≤ last → MeantIn last (with_sid operands last sid)
sid_in last operands None low = (low, omega arith)
sid_in last operands (Some sid) low = tt

changes_in : (last : ℕ) (uses : List Use) (operands : List (List ℕ)) (sid : Option Sid) → 1 ≤ last
    → MeantIn last (with_changes uses operands last sid)
changes_in last uses operands None low = (low, omega arith)
changes_in last uses operands (Some sid) low = tt

number_in : (last : ℕ) (number : Option ℕ) → 1 ≤ last → MeantIn last (with_number last number)
number_in last None low = (low, omega arith)
number_in last (Some number) low = tt

command_in : (last : ℕ) (utility : Utility) (l : CommandLine) → 1 ≤ last → MeantIn last (line_command utility l last)
command_in last u.Admin l low = tt
command_in last u.Get l low = tt
command_in last u.Delta l low = name_in last l.uses (option_and_then name_value (first_text l.operands)) low
command_in last u.Unget l low = tt
command_in last u.Sact l low = tt
command_in last u.Tell l low = tt
command_in last u.Check l low = tt
command_in last u.Rmdel l low = sid_in last l.operands (option_and_then sid_value (value_of opt.r l.uses)) low
command_in last u.Cdc l low = changes_in last l.uses l.operands (option_and_then sid_value (value_of opt.r l.uses)) low
command_in last u.Prs l low = tt
command_in last u.Val l low = tt
command_in last u.What l low = tt
command_in last u.Recover l low = tt
command_in last u.Import l low = tt
command_in last u.Batch l low = tt
command_in last u.Group l low = tt
command_in last u.Soak l low = number_in last (option_and_then soak_number (first_text l.operands)) low

unless_in : (last : ℕ) (refusal : Option Usage) (meant : Result Command Usage) → FaultIn last refusal
    → MeantIn last meant → MeantIn last (unless_fault refusal meant)
unless_in last None meant refusal-in meant-in = meant-in
unless_in last (Some fault) meant refusal-in meant-in = refusal-in

by_utility_in : (utility : Option Utility) (words : List (List ℕ)) → MeantIn (length words + 2)
    (meaning_by utility words)
unfolding line_meaning
by_utility_in None words = (omega arith, omega arith)
by_utility_in (Some utility) words =
    let last : ℕ = length words + 2 in
    let l : CommandLine = scanned (options_of utility) 2 [] None words in
    unless_in last (words_fault utility l last) (line_command utility l last) (refusal_in last utility l
    (line_in last 2 (options_of utility) [] None words (omega arith) (omega arith) tt))
    (command_in last utility l (omega arith))

meaning_in : (words : List (List ℕ)) → MeantIn (length words + 1) (meaning words)
unfolding meaning
meaning_in [] = (omega arith, omega arith)
meaning_in (word ∷ words) =
    let same : length words + 2 ≡ length (word ∷ words) + 1 = omega arith in
    subst (λ last. MeantIn last (meaning_by (utility_of word) words)) same (by_utility_in (utility_of word) words)

pub place_of_fault : (words : List (List ℕ)) (fault : Usage) → meaning words ≡ Err fault → (1 ≤ fault.word)
    × (fault.word ≤ length words + 1)
place_of_fault words fault is = subst (MeantIn (length words + 1)) is (meaning_in words)
