-- The numbers of words don't matter for what a command line means.
use Rattle.std.proofs.Common.{◌≡◌, ℕ, ◌+◌, ◌==◌, Bool, true, false, not, ◌&&◌, ◌||◌, List, [], ◌∷◌, ◌++◌, length, map}
use Rattle.std.proofs.Common.{Option, None, Some, Result, Ok, refl, sym, ap, ◌∙◌, cond}
use Rattle.std.specs.Prelude.{option_and_then, option_map, is_some}
use Rattle.std.specs.List.{list_any, list_all}
use Rattle.std.proofs.lemmas.List.{map_push}
use Rattle.sccs_sid.specs.Reading.{is_empty}
use Rattle.sccs_words.specs.Letters as opt
use Rattle.sccs_words.specs.Synopsis.{options_of, exclusions_of, needs_of, operand_rule_of, find_option}
use Rattle.sccs_words.specs.Values.{value_fits, sid_value, name_value, soak_number}
use Rattle.sccs_words.specs.Scan.{CommandLine, scanned_line}
use Rattle.sccs_words.specs.Judge.{has_use, first_usage, usage, is_bare, used_letter, is_excluded, option_form}
use Rattle.sccs_words.specs.Judge.{value_fault, is_given_twice, known_fault, fault_by, use_fault, first_from}
use Rattle.sccs_words.specs.Judge.{uses_fault, is_named, dash_with_other, wants, operand_fits, operand_fault}
use Rattle.sccs_words.specs.Judge.{operands_fault, none_though_wanted, met, takes_one, too_many, end_fault, usage_fault}
use Rattle.sccs_words.specs.Records.{usage_bit, value_in, value_of, with_value, values_of, get_words, delta_line_words}
use Rattle.sccs_words.specs.Records.{unget_words, cdc_words, prs_words, admin_words, val_words, operand_words}
use Rattle.sccs_words.specs.Records.{is_option_fault}
use Rattle.sccs_words.specs.Unplaced.{argument_only, unplaced, SameUses, kinds}
use Rattle.sccs_words.specs.Meaning.{first_text, with_name, with_sid, with_changes, with_number, line_command}
use Rattle.sccs_words.specs.Meaning.{words_fault, unless_fault, line_meaning}
use Rattle.sccs_sid.specs.declared.sids.Sid.{Sid}
use Rattle.sccs_words.specs.declared.commands.ValWords.{ValWords}
use Rattle.sccs_words.specs.declared.tables.OptionSpec.{OptionSpec}
use Rattle.sccs_words.specs.declared.tables.Need.{Need}
use Rattle.sccs_words.specs.declared.tables.Need.TheVariants as needs
use Rattle.sccs_words.specs.declared.tables.OperandRule.{OperandRule}
use Rattle.sccs_words.specs.declared.tables.OperandRule.TheVariants.{Nothing, Sfile, Number, Many, Named, OneWith}
use Rattle.sccs_words.specs.declared.tables.Utility.{Utility}
use Rattle.sccs_words.specs.declared.tables.Utility.TheVariants as u
use Rattle.sccs_words.specs.declared.scanning.OptionArgument.{OptionArgument}
use Rattle.sccs_words.specs.declared.scanning.OptionArgument.TheVariants.{Unknown, Bare, Missing, Value}
use Rattle.sccs_words.specs.declared.scanning.Use.{Use}
use Rattle.sccs_words.specs.declared.judging.UsedLetter.{UsedLetter}
use Rattle.sccs_words.proofs.LetterLaws.{lettered}
use Rattle.sccs_words.specs.declared.commands.Usage.{Usage}
use Rattle.sccs_words.specs.declared.commands.Command.{Command}
use Rattle.sccs_words.specs.declared.commands.Command.TheVariants as c
use Rattle.sccs_words.specs.declared.commands.AdminWords.{AdminWords}
use Rattle.sccs_words.specs.declared.commands.GetWords.{GetWords}
use Rattle.sccs_words.specs.declared.commands.DeltaWords.{DeltaWords}
use Rattle.sccs_words.specs.declared.commands.UngetWords.{UngetWords}
use Rattle.sccs_words.specs.declared.commands.CdcWords.{CdcWords}
use Rattle.sccs_words.specs.declared.commands.PrsWords.{PrsWords}

-- ---- what is looked up

has_same : (letter : ℕ) (uses : List Use) → has_use letter uses ≡ has_use letter (map unplaced uses)
has_same letter [] = refl
has_same letter (one ∷ uses) = ap (λ (more : Bool). one.letter == letter || more) (has_same letter uses)

value_in_same : (argument : OptionArgument) → value_in argument ≡ value_in (argument_only argument)
value_in_same Unknown = refl
value_in_same Bare = refl
value_in_same Missing = refl
value_in_same (Value bytes n) = refl

value_same : (letter : ℕ) (uses : List Use) → value_of letter uses ≡ value_of letter (map unplaced uses)
unfolding value_of
value_same letter [] = refl
value_same letter (one ∷ uses) =
    ap (λ (here : Option (List ℕ)). cond (one.letter == letter) here (value_of letter uses))
    (value_in_same one.argument)
    ∙ ap (cond (one.letter == letter) (value_in (argument_only one.argument))) (value_same letter uses)

values_same : (letter : ℕ) (uses : List Use) → values_of letter uses ≡ values_of letter (map unplaced uses)
unfolding values_of
values_same letter [] = refl
values_same letter (one ∷ uses) =
    ap (λ (here : Option (List ℕ)). with_value (cond (one.letter == letter) here None) (values_of letter uses))
    (value_in_same one.argument)
    ∙ ap (with_value (cond (one.letter == letter) (value_in (argument_only one.argument)) None))
    (values_same letter uses)

-- ---- faults, without their words

abbrev kind : Option Usage → Option ℕ
kind fault = option_map (λ (one : Usage). one.kind) fault

or_same : (a b c d : Option Usage) → kind a ≡ kind c → kind b ≡ kind d → kind (first_usage a b) ≡ kind (first_usage c d)
or_same None b None d first later = later
or_same None b (Some fault) d first later = cc
or_same (Some fault) b None d first later = cc
or_same (Some fault) b (Some other) d first later = first

if_same : (test other : Bool) (a b c d : Option Usage) → test ≡ other → kind a ≡ kind c → kind b ≡ kind d
    → kind (cond test a b) ≡ kind (cond other c d)
if_same true true a b c d test then otherwise = then
if_same false false a b c d test then otherwise = otherwise
if_same true false a b c d test then otherwise = cc
if_same false true a b c d test then otherwise = cc

some_same : (a b : Option Usage) → kind a ≡ kind b → is_some a ≡ is_some b
some_same None None is = refl
some_same None (Some fault) is = cc
some_same (Some fault) None is = cc
some_same (Some fault) (Some other) is = refl

first_same : {A : Type 0} (view : A → A) (fault other : List A → A → Option Usage) → ((before : List A) (x : A)
    → kind (fault before x) ≡ kind (other (map view before) (view x)))
    → (before xs : List A) → kind (first_from fault before xs) ≡ kind (first_from other (map view before) (map view xs))
unfolding first_from
first_same {A} view fault other here before [] = refl
first_same {A} view fault other here before (x ∷ xs) =
    or_same (fault before x) (first_from fault (before ++ x ∷ []) xs) (other (map view before) (view x))
    (first_from other (map view before ++ view x ∷ []) (map view xs)) (here before x)
    (first_same view fault other here (before ++ x ∷ []) xs
    ∙ ap (λ (prefix : List A). kind (first_from other prefix (map view xs))) (map_push view before x))

bare_same : (argument : OptionArgument) → is_bare argument ≡ is_bare (argument_only argument)
bare_same Unknown = refl
bare_same Bare = refl
bare_same Missing = refl
bare_same (Value bytes n) = refl

letter_same : (one : Use) → used_letter one ≡ used_letter (unplaced one)
letter_same one = ap (lettered one.letter) (bare_same one.argument)

letters_same : (before : List Use) → map used_letter before ≡ map used_letter (map unplaced before)
letters_same [] = refl
letters_same (one ∷ before) = ap (λ (letter : UsedLetter). letter ∷ map used_letter before) (letter_same one)
    ∙ ap (λ (more : List UsedLetter). used_letter (unplaced one) ∷ more) (letters_same before)

value_fault_same : (option : Option OptionSpec) (argument : OptionArgument) → kind (value_fault option argument) ≡ kind
    (value_fault option (argument_only argument))
value_fault_same option Unknown = refl
value_fault_same option Bare = refl
value_fault_same option Missing = refl
value_fault_same option (Value bytes n) = if_same (value_fits (option_form option) bytes)
    (value_fits (option_form option) bytes) None (usage 6 n) None (usage 6 0) refl refl refl

known_same : (utility : Utility) (before : List UsedLetter) (one : Use) (option : Option OptionSpec)
    → kind (known_fault utility before one option) ≡ kind (known_fault utility before (unplaced one) option)
known_same utility before one option =
    if_same (is_given_twice option before one.letter) (is_given_twice option before one.letter) (usage 4 one.word) _
    (usage 4 0) _ refl refl
    (if_same _ _ (usage 5 one.word) (value_fault option one.argument) (usage 5 0)
    (value_fault option (argument_only one.argument))
    (ap (λ (letter : UsedLetter). list_any (λ other. is_excluded (exclusions_of utility) letter other) before)
    (letter_same one)) refl (value_fault_same option one.argument))

fault_same : (utility : Utility) (before : List UsedLetter) (one : Use) (argument : OptionArgument)
    → kind (fault_by utility before one argument) ≡ kind (fault_by utility before (unplaced one)
    (argument_only argument))
fault_same utility before one Unknown = refl
fault_same utility before one Missing = refl
fault_same utility before one Bare = known_same utility before one (find_option (options_of utility) one.letter)
fault_same utility before one (Value bytes n) = known_same utility before one
    (find_option (options_of utility) one.letter)

uses_same : (utility : Utility) (uses : List Use) → kind (uses_fault utility uses) ≡ kind
    (uses_fault utility (map unplaced uses))
unfolding use_fault
uses_same utility uses =
    first_same unplaced (use_fault utility) (use_fault utility)
    (λ before one. fault_same utility (map used_letter before) one one.argument
    ∙ ap (λ (letters : List UsedLetter). kind (fault_by utility letters (unplaced one)
    (argument_only one.argument))) (letters_same before)) [] uses

-- the same for operands, which have no numbers
here_same : {A : Type 0} (fault other : List A → A → Option Usage) → ((before : List A) (x : A)
    → kind (fault before x) ≡ kind (other before x))
    → (before xs : List A) → kind (first_from fault before xs) ≡ kind (first_from other before xs)
unfolding first_from
here_same {A} fault other here before [] = refl
here_same {A} fault other here before (x ∷ xs) =
    or_same (fault before x) (first_from fault (before ++ x ∷ []) xs) (other before x)
    (first_from other (before ++ x ∷ []) xs) (here before x) (here_same fault other here (before ++ x ∷ []) xs)

fits_same : (rule : OperandRule) (uses : List Use) (word : List ℕ) → operand_fits rule uses word ≡ operand_fits rule
    (map unplaced uses) word
fits_same Nothing uses word = refl
fits_same Sfile uses word = refl
fits_same Number uses word = refl
fits_same Many uses word = refl
fits_same Named uses word = refl
fits_same (OneWith letter) uses word = ap (λ (one : Bool). not one || is_named word) (has_same letter uses)

operand_same : (rule : OperandRule) (uses : List Use) (first : ℕ) (before : List (List ℕ)) (word : List ℕ)
    → kind (operand_fault rule uses first before word) ≡ kind (operand_fault rule (map unplaced uses) 0 before word)
unfolding operand_fault
operand_same rule uses first before word =
    if_same (dash_with_other before word) (dash_with_other before word) (usage 5 (first + length before)) _
    (usage 5 (0 + length before)) _ refl refl
    (if_same (operand_fits rule uses word) (operand_fits rule (map unplaced uses) word) None
    (usage 6 (first + length before)) None (usage 6 (0 + length before)) (fits_same rule uses word) refl refl)

operands_same : (rule : OperandRule) (uses : List Use) (first : ℕ) (words : List (List ℕ))
    → kind (operands_fault rule uses first words) ≡ kind (operands_fault rule (map unplaced uses) 0 words)
operands_same rule uses first words = here_same (operand_fault rule uses first)
    (operand_fault rule (map unplaced uses) 0) (operand_same rule uses first) [] words

met_same : (uses : List Use) (need : Need) → met uses need ≡ met (map unplaced uses) need
met_same uses (needs.Always x) = has_same x uses
met_same uses (needs.Either x y) =
    let a : has_use x uses ≡ has_use x (map unplaced uses) = has_same x uses in
    let b : has_use y uses ≡ has_use y (map unplaced uses) = has_same y uses in cc
met_same uses (needs.With letter x y) =
    let a : has_use letter uses ≡ has_use letter (map unplaced uses) = has_same letter uses in
    let b : has_use x uses ≡ has_use x (map unplaced uses) = has_same x uses in
    let c : has_use y uses ≡ has_use y (map unplaced uses) = has_same y uses in cc

needs_same : (needs : List Need) (uses : List Use) → list_all (λ need. met uses need) needs ≡ list_all
    (λ need. met (map unplaced uses) need) needs
needs_same [] uses = refl
needs_same (need ∷ needs) uses =
    ap (λ (here : Bool). here && list_all (λ need. met uses need) needs) (met_same uses need)
    ∙ ap (λ (more : Bool). met (map unplaced uses) need && more) (needs_same needs uses)

one_same : (rule : OperandRule) (uses : List Use) → takes_one rule uses ≡ takes_one rule (map unplaced uses)
one_same Nothing uses = refl
one_same Sfile uses = refl
one_same Number uses = refl
one_same Many uses = refl
one_same Named uses = refl
one_same (OneWith letter) uses = has_same letter uses

many_same : (rule : OperandRule) (uses : List Use) (words : List (List ℕ)) → too_many rule uses words ≡ too_many rule
    (map unplaced uses) words
many_same rule uses [] = refl
many_same rule uses (word ∷ []) = refl
many_same rule uses (word ∷ more ∷ words) = ap (λ (one : Bool). not (wants rule) || one) (one_same rule uses)

end_same : (utility : Utility) (uses : List Use) (operands : List (List ℕ)) (n : ℕ)
    → kind (end_fault utility uses operands n) ≡ kind (end_fault utility (map unplaced uses) operands 0)
unfolding end_fault
end_same utility uses operands n =
    if_same (none_though_wanted (operand_rule_of utility) operands) (none_though_wanted (operand_rule_of utility)
    operands) (usage 7 n) _ (usage 7 0) _ refl refl
    (if_same (not (list_all (λ need. met uses need) (needs_of utility)))
    (not (list_all (λ need. met (map unplaced uses) need) (needs_of utility))) (usage 8 n) _ (usage 8 0) _
    (ap not (needs_same (needs_of utility) uses)) refl
    (if_same (too_many (operand_rule_of utility) uses operands) (too_many (operand_rule_of utility) (map unplaced uses)
    operands) (usage 9 n) None (usage 9 0) None (many_same (operand_rule_of utility) uses operands) refl refl))

-- a command line without numbers
abbrev blank : CommandLine → CommandLine
blank l = scanned_line (map unplaced l.uses) 0 l.operands

first_fault_same : (utility : Utility) (l : CommandLine) (n : ℕ) → kind (usage_fault utility l n) ≡ kind
    (usage_fault utility (blank l) 0)
unfolding usage_fault
first_fault_same utility l n =
    or_same (uses_fault utility l.uses) _ (uses_fault utility (map unplaced l.uses)) _ (uses_same utility l.uses)
    (or_same (operands_fault (operand_rule_of utility) l.uses l.first l.operands)
    (end_fault utility l.uses l.operands n)
    (operands_fault (operand_rule_of utility) (map unplaced l.uses) 0 l.operands)
    (end_fault utility (map unplaced l.uses) l.operands 0) (operands_same (operand_rule_of utility) l.uses l.first
    l.operands)
    (end_same utility l.uses l.operands n))

refusal_same : (utility : Utility) (l : CommandLine) (n : ℕ) → kind (words_fault utility l n) ≡ kind
    (words_fault utility (blank l) 0)
refusal_same u.Admin l n = first_fault_same u.Admin l n
refusal_same u.Get l n = first_fault_same u.Get l n
refusal_same u.Delta l n = first_fault_same u.Delta l n
refusal_same u.Unget l n = first_fault_same u.Unget l n
refusal_same u.Sact l n = first_fault_same u.Sact l n
refusal_same u.Tell l n = first_fault_same u.Tell l n
refusal_same u.Check l n = first_fault_same u.Check l n
refusal_same u.Rmdel l n = first_fault_same u.Rmdel l n
refusal_same u.Cdc l n = first_fault_same u.Cdc l n
refusal_same u.Prs l n = first_fault_same u.Prs l n
refusal_same u.Val l n = refl
refusal_same u.What l n = first_fault_same u.What l n
refusal_same u.Recover l n = first_fault_same u.Recover l n
refusal_same u.Import l n = first_fault_same u.Import l n
refusal_same u.Batch l n = first_fault_same u.Batch l n
refusal_same u.Group l n = first_fault_same u.Group l n
refusal_same u.Soak l n = first_fault_same u.Soak l n

-- ---- the words of commands

get_same : (uses : List Use) → get_words uses ≡ get_words (map unplaced uses)
get_same uses =
    rw (has_same opt.b uses) (rw (value_same opt.c uses) (rw (has_same opt.e uses) (rw (has_same opt.g uses)
    (rw (value_same opt.i uses) (rw (value_same opt.x uses)
    (rw (has_same opt.k uses) (rw (has_same opt.m uses) (rw (has_same opt.n uses) (rw (has_same opt.p uses)
    (rw (has_same opt.s uses) (rw (value_same opt.r uses) (rw (has_same opt.t uses) (rw (has_same opt.l uses)
    (rw (has_same opt.big_l uses) refl))))))))))))))

delta_same : (uses : List Use) → delta_line_words uses ≡ delta_line_words (map unplaced uses)
delta_same uses = rw (value_same opt.m uses) (rw (has_same opt.n uses) (rw (value_same opt.r uses)
    (rw (has_same opt.s uses) (rw (value_same opt.y uses) refl))))

unget_same : (uses : List Use) → unget_words uses ≡ unget_words (map unplaced uses)
unget_same uses = rw (has_same opt.n uses) (rw (value_same opt.r uses) (rw (has_same opt.s uses) refl))

cdc_same : (sid : Sid) (uses : List Use) → cdc_words sid uses ≡ cdc_words sid (map unplaced uses)
cdc_same sid uses = rw (value_same opt.m uses) (rw (has_same opt.y uses) (rw (value_same opt.y uses) refl))

prs_same : (uses : List Use) → prs_words uses ≡ prs_words (map unplaced uses)
prs_same uses =
    rw (has_same opt.a uses) (rw (has_same opt.e uses) (rw (has_same opt.l uses) (rw (value_same opt.c uses)
    (rw (has_same opt.r uses) (rw (value_same opt.r uses) (rw (value_same opt.d uses) refl))))))

admin_same : (uses : List Use) → admin_words uses ≡ admin_words (map unplaced uses)
admin_same uses =
    rw (values_same opt.a uses) (rw (values_same opt.e uses) (rw (values_same opt.f uses) (rw (values_same opt.d uses)
    (rw (has_same opt.h uses) (rw (has_same opt.z uses) (rw (has_same opt.n uses) (rw (has_same opt.i uses)
    (rw (value_same opt.i uses) (rw (value_same opt.r uses) (rw (value_same opt.m uses) (rw (has_same opt.y uses)
    (rw (value_same opt.y uses) (rw (has_same opt.t uses) (rw (value_same opt.t uses) refl))))))))))))))

val_with : (a b : Bool) (uses others : List Use) (operands : List (List ℕ)) → a ≡ b
    → has_use opt.s uses ≡ has_use opt.s others → value_of opt.r uses ≡ value_of opt.r others
    → value_of opt.y uses ≡ value_of opt.y others
    → value_of opt.m uses ≡ value_of opt.m others
    → ◌≡◌ {A = ValWords} (record {
      fault = usage_bit a 64 + usage_bit (is_empty operands) 128;
      silent =
          has_use opt.s uses;
      sid = value_of opt.r uses;
      kind = value_of opt.y uses;
      «module» = value_of opt.m uses;
      operands = operand_words operands;
    })
    (record {
      fault = usage_bit b 64 + usage_bit (is_empty operands) 128;
      silent = has_use opt.s others;
      sid =
          value_of opt.r others;
      kind = value_of opt.y others;
      «module» = value_of opt.m others;
      operands =
          operand_words operands;
    })
val_with a b uses others operands fault s r y m = cc

option_fault_same : (l : CommandLine) → is_option_fault l ≡ is_option_fault (blank l)
option_fault_same l =
    ap (λ (one : Bool). one || is_some (operands_fault Many l.uses l.first l.operands))
    (some_same (uses_fault u.Val l.uses) (uses_fault u.Val (map unplaced l.uses)) (uses_same u.Val l.uses))
    ∙ ap (λ (one : Bool). is_some (uses_fault u.Val (map unplaced l.uses)) || one)
    (some_same (operands_fault Many l.uses l.first l.operands) (operands_fault Many (map unplaced l.uses) 0 l.operands)
    (operands_same Many l.uses l.first l.operands))

val_same : (l : CommandLine) → val_words l ≡ val_words (blank l)
val_same l =
    val_with (is_option_fault l) (is_option_fault (blank l)) l.uses (map unplaced l.uses) l.operands
    (option_fault_same l) (has_same opt.s l.uses) (value_same opt.r l.uses) (value_same opt.y l.uses)
    (value_same opt.m l.uses)

name_same : (uses : List Use) (n : ℕ) (name : Option (List ℕ)) → kinds (with_name uses n name) ≡ kinds
    (with_name (map unplaced uses) 0 name)
name_same uses n None = refl
name_same uses n (Some name) = ap (λ (words : DeltaWords). Ok (c.Delta words name)) (delta_same uses)

sid_same : (operands : List (List ℕ)) (n : ℕ) (a b : Option Sid) → a ≡ b → kinds (with_sid operands n a) ≡ kinds
    (with_sid operands 0 b)
sid_same operands n None None is = refl
sid_same operands n (Some sid) (Some other) is = cc
sid_same operands n None (Some other) is = cc
sid_same operands n (Some sid) None is = cc

changes_same : (uses : List Use) (operands : List (List ℕ)) (n : ℕ) (a b : Option Sid) → a ≡ b
    → kinds (with_changes uses operands n a) ≡ kinds (with_changes (map unplaced uses) operands 0 b)
changes_same uses operands n None None is = refl
changes_same uses operands n (Some sid) (Some other) is =
    let same : sid ≡ other = cc in
    ap (λ (words : CdcWords). Ok (c.Cdc words (operand_words operands))) (cdc_same sid uses
    ∙ ap (λ s. cdc_words s (map unplaced uses)) same)
changes_same uses operands n None (Some other) is = cc
changes_same uses operands n (Some sid) None is = cc

number_same : (n : ℕ) (number : Option ℕ) → kinds (with_number n number) ≡ kinds (with_number 0 number)
number_same n None = refl
number_same n (Some number) = refl

command_same : (utility : Utility) (l : CommandLine) (n : ℕ) → kinds (line_command utility l n) ≡ kinds
    (line_command utility (blank l) 0)
command_same u.Admin l n = ap (λ (words : AdminWords). Ok (c.Admin words (operand_words l.operands)))
    (admin_same l.uses)
command_same u.Get l n = ap (λ (words : GetWords). Ok (c.Get words (operand_words l.operands))) (get_same l.uses)
command_same u.Delta l n = name_same l.uses n (option_and_then name_value (first_text l.operands))
command_same u.Unget l n = ap (λ (words : UngetWords). Ok (c.Unget words (operand_words l.operands)))
    (unget_same l.uses)
command_same u.Sact l n = refl
command_same u.Tell l n = refl
command_same u.Check l n = refl
command_same u.Rmdel l n = sid_same l.operands n _ _ (ap (option_and_then sid_value) (value_same opt.r l.uses))
command_same u.Cdc l n = changes_same l.uses l.operands n _ _ (ap (option_and_then sid_value) (value_same opt.r l.uses))
command_same u.Prs l n = ap (λ (words : PrsWords). Ok (c.Prs words (operand_words l.operands))) (prs_same l.uses)
command_same u.Val l n = ap (λ (words : ValWords). Ok (c.Val words)) (val_same l)
command_same u.What l n = ap (λ (silent : Bool). Ok (c.What silent (operand_words l.operands))) (has_same opt.s l.uses)
command_same u.Recover l n = refl
command_same u.Import l n = refl
command_same u.Batch l n = refl
command_same u.Group l n = refl
command_same u.Soak l n = number_same n (option_and_then soak_number (first_text l.operands))

unless_same : (a b : Option Usage) (x y : Result Command Usage) → kind a ≡ kind b → kinds x ≡ kinds y
    → kinds (unless_fault a x) ≡ kinds (unless_fault b y)
unless_same None None x y refusal meant = meant
unless_same (Some fault) (Some other) x y refusal meant = cc
unless_same None (Some other) x y refusal meant = cc
unless_same (Some fault) None x y refusal meant = cc

blank_same : (utility : Utility) (l : CommandLine) (n : ℕ) → kinds (line_meaning utility l n) ≡ kinds
    (line_meaning utility (blank l) 0)
unfolding line_meaning
blank_same utility l n =
    unless_same (words_fault utility l n) (words_fault utility (blank l) 0) (line_command utility l n)
    (line_command utility (blank l) 0) (refusal_same utility l n) (command_same utility l n)

pub same_meaning : (utility : Utility) (a b : CommandLine) (n m : ℕ) → SameUses a b → kinds (line_meaning utility a n)
    ≡ kinds (line_meaning utility b m)
same_meaning utility a b n m same =
    let is : blank a ≡ blank b = ap (λ (uses : List Use). scanned_line uses 0 a.operands) same.uses
    ∙ ap (scanned_line (map unplaced b.uses) 0) same.operands in
    blank_same utility a n ∙ (ap (λ (l : CommandLine). kinds (line_meaning utility l 0)) is
    ∙ sym (blank_same utility b m))
