-- Words that begin neither with batch nor with soak mean no list of commands.
use Rattle.std.specs.Prelude.{◌≡◌, ℕ, Bool, true, false, not, ◌||◌, List, [], ◌∷◌, codes, option_and_then, Option, None}
use Rattle.std.specs.Prelude.{Some, IfOk, IfSome, Result, if◌then◌else◌}
use Rattle.std.specs.Str.{bytes_eq}
use Rattle.std.proofs.Common.{refl}
use Rattle.sccs_sid.specs.declared.sids.Sid.{Sid}
use Rattle.sccs_words.specs.Letters as opt
use Rattle.sccs_words.specs.Meaning.{first_text, line_command, line_meaning, meaning, meaning_by, own_utility}
use Rattle.sccs_words.specs.Meaning.{unless_fault, utility_of, with_changes, with_name, with_sid, words_fault}
use Rattle.sccs_words.specs.Records.{value_of}
use Rattle.sccs_words.specs.Scan.{CommandLine, scanned}
use Rattle.sccs_words.specs.Synopsis.{options_of}
use Rattle.sccs_words.specs.Values.{name_value, sid_value}
use Rattle.sccs_words.specs.declared.commands.Command.{Command}
use Rattle.sccs_words.specs.declared.commands.Usage.{Usage}
use Rattle.sccs_words.specs.declared.scanning.Use.{Use}
use Rattle.sccs_words.specs.declared.tables.Utility.{Utility}
use Rattle.sccs_words.specs.declared.tables.Utility.TheVariants as u
use Rattle.sccs_batch.specs.BatchText.{is_single}
use Rattle.sccs_top.specs.Runs.{list_in}

-- what is meant is a single command, or none
abbrev pub IsSingleMeant : Result Command Usage → Type 0
IsSingleMeant meant = IfOk meant (λ command. list_in command ≡ None)

-- a utility that does single commands
abbrev IsOfSingles : Utility → Type 0
IsOfSingles u.Batch = ⊥
IsOfSingles u.Soak = ⊥
IsOfSingles utility = Unit {0}

named_single : (uses : List Use) (n : ℕ) (name : Option (List ℕ)) → IsSingleMeant (with_name uses n name)
named_single uses n None = tt
named_single uses n (Some name) = refl

sid_single : (operands : List (List ℕ)) (n : ℕ) (sid : Option Sid) → IsSingleMeant (with_sid operands n sid)
sid_single operands n None = tt
sid_single operands n (Some sid) = refl

changes_single : (uses : List Use) (operands : List (List ℕ)) (n : ℕ) (sid : Option Sid)
    → IsSingleMeant (with_changes uses operands n sid)
changes_single uses operands n None = tt
changes_single uses operands n (Some sid) = refl

command_single : (utility : Utility) (l : CommandLine) (n : ℕ) → IsOfSingles utility
    → IsSingleMeant (line_command utility l n)
command_single u.Admin l n of = refl
command_single u.Get l n of = refl
command_single u.Delta l n of = named_single l.uses n (option_and_then name_value (first_text l.operands))
command_single u.Unget l n of = refl
command_single u.Sact l n of = refl
command_single u.Tell l n of = refl
command_single u.Check l n of = refl
command_single u.Rmdel l n of = sid_single l.operands n (option_and_then sid_value (value_of opt.r l.uses))
command_single u.Cdc l n of = changes_single l.uses l.operands n (option_and_then sid_value (value_of opt.r l.uses))
command_single u.Prs l n of = refl
command_single u.Val l n of = refl
command_single u.What l n of = refl
command_single u.Recover l n of = refl
command_single u.Import l n of = refl
command_single u.Group l n of = refl
command_single u.Batch l n of = absurd of
command_single u.Soak l n of = absurd of

unless_single : (fault : Option Usage) (meant : Result Command Usage) → IsSingleMeant meant
    → IsSingleMeant (unless_fault fault meant)
unless_single None meant single = single
unless_single (Some usage) meant single = tt

line_single : (utility : Utility) (l : CommandLine) (n : ℕ) → IsOfSingles utility
    → IsSingleMeant (line_meaning utility l n)
unfolding line_meaning
line_single utility l n of = unless_single (words_fault utility l n) (line_command utility l n)
    (command_single utility l n of)

utility_single : (utility : Option Utility) (words : List (List ℕ)) → IfSome utility IsOfSingles
    → IsSingleMeant (meaning_by utility words)
utility_single None words of = tt
utility_single (Some utility) words of = line_single utility (scanned (options_of utility) 2 [] None words) _ of

-- ---- by the first word

either : (t : Bool) (a b : Option Utility) → IfSome a IsOfSingles → IfSome b IsOfSingles
    → IfSome (if t then a else b) IsOfSingles
either true a b first second = first
either false a b first second = second

-- a test that fails passes the other on
passed_by : (t : Bool) (a b : Option Utility) → t ≡ false → IfSome b IsOfSingles
    → IfSome (if t then a else b) IsOfSingles
passed_by true a b is second = absurd (cc)
passed_by false a b is second = second

both_false : (a b : Bool) → not (a || b) ≡ true → (a ≡ false) × (b ≡ false)
both_false true b is = absurd (cc)
both_false false true is = absurd (cc)
both_false false false is = (refl, refl)

own_single : (word : List ℕ) → not (bytes_eq word (codes "batch") || bytes_eq word (codes "soak")) ≡ true
    → IfSome (own_utility word) IsOfSingles
own_single word is =
    let both = both_false (bytes_eq word (codes "batch")) (bytes_eq word (codes "soak")) is in
    either (bytes_eq word (codes "recover")) (Some u.Recover) _ tt
    (either (bytes_eq word (codes "tell")) (Some u.Tell) _ tt
    (either (bytes_eq word (codes "check")) (Some u.Check) _ tt
    (either (bytes_eq word (codes "import")) (Some u.Import) _ tt (passed_by (bytes_eq word (codes "batch"))
    (Some u.Batch) _ both.0 (either (bytes_eq word (codes "group")) (Some u.Group) _ tt
    (passed_by (bytes_eq word (codes "soak")) (Some u.Soak) _ both.1 (either (bytes_eq word (codes "cdc"))
    (Some u.Cdc) None tt tt)))))))

word_single : (word : List ℕ) → not (bytes_eq word (codes "batch") || bytes_eq word (codes "soak")) ≡ true
    → IfSome (utility_of word) IsOfSingles
unfolding utility_of
word_single word is =
    either (bytes_eq word (codes "admin")) (Some u.Admin) _ tt
    (either (bytes_eq word (codes "get")) (Some u.Get) _ tt
    (either (bytes_eq word (codes "delta")) (Some u.Delta) _ tt
    (either (bytes_eq word (codes "unget")) (Some u.Unget) _ tt
    (either (bytes_eq word (codes "sact")) (Some u.Sact) _ tt
    (either (bytes_eq word (codes "rmdel")) (Some u.Rmdel) _ tt
    (either (bytes_eq word (codes "prs")) (Some u.Prs) _ tt
    (either (bytes_eq word (codes "val")) (Some u.Val) _ tt
    (either (bytes_eq word (codes "what")) (Some u.What) _ tt (own_single word is)))))))))

pub words_single : (words : List (List ℕ)) → is_single words ≡ true → IsSingleMeant (meaning words)
unfolding meaning
words_single [] is = tt
words_single (word ∷ words) is = utility_single (utility_of word) words (word_single word is)
