-- The get that follows a delta has one operand, so that its input is what is given to it.
use Rattle.std.proofs.Common.{ℕ, ◌+◌, ◌≤◌, Bool, true, false, List, [], ◌∷◌, codes, length, Option, None, Some, IfOk}
use Rattle.std.proofs.Common.{Result, Ok, Err, inr, refl, arith}
use Rattle.std.specs.Prelude.{if◌then◌else◌}
use Rattle.std.specs.Str.{bytes_eq}
use Rattle.sccs_words.specs.Meaning.{line_meaning, meaning, unless_fault, utility_of, words_fault}
use Rattle.sccs_words.specs.Records.{get_words, is_from_input, operand_words}
use Rattle.sccs_words.specs.Scan.{CommandLine, Ends, Kind, Letters, Operand, by_kind, letters, scanned, word_kind}
use Rattle.sccs_words.specs.Synopsis.{options_of}
use Rattle.sccs_words.specs.declared.commands.Command.{Command}
use Rattle.sccs_words.specs.declared.commands.Command.TheVariants as c
use Rattle.sccs_words.specs.declared.commands.Usage.{Usage}
use Rattle.sccs_words.specs.declared.scanning.Use.{Use}
use Rattle.sccs_words.specs.declared.tables.OptionSpec.{OptionSpec}
use Rattle.sccs_words.specs.declared.tables.Utility.TheVariants as u
use Rattle.sccs_edit.specs.Front.{front_by, front_of, meant_name, next_get, with_get}
use Rattle.sccs_top.specs.Asked.{as_typed, asked_by, asked_of, one_asked, two_asked}
use Rattle.sccs_top.specs.NextAsks.{NextAsks}
use Rattle.sccs_top.specs.Runs.{AsksMeant, Caller, words_in}

-- ---- one word behind options is one operand at most

kind_one : (options : List OptionSpec) (n : ℕ) (uses : List Use) (word : List ℕ) (kind : Kind)
    → length (by_kind n uses word [] kind (λ bytes. scanned options (n + 1) (letters options n uses bytes).0
    (letters options n uses bytes).1 [])).operands ≤ 1
unfolding scanned
kind_one options n uses word (Letters bytes) = ended (letters options n uses bytes).1
  where
    ended : (waits : Option ℕ) → length (scanned options (n + 1) (letters options n uses bytes).0 waits []).operands ≤ 1
    ended None = omega arith
    ended (Some own) = omega arith
kind_one options n uses word Ends = omega arith
kind_one options n uses word Operand = let one : 1 ≤ 1 = omega arith in one

word_one : (options : List OptionSpec) (n : ℕ) (uses : List Use) (letter : Option ℕ) (word : List ℕ)
    → length (scanned options n uses letter (word ∷ [])).operands ≤ 1
unfolding scanned
word_one options n uses None word = kind_one options n uses word (word_kind word)
word_one options n uses (Some letter) word = omega arith

-- ---- get

unless_asks : (who : Caller) (fault : Option Usage) (command : Command) → AsksMeant who (Ok command) (Some []) []
    → AsksMeant who (unless_fault fault (Ok command)) (Some []) []
unless_asks who None command asks = asks
unless_asks who (Some usage) command asks = tt

operands_one : (words : List (List ℕ)) → length words ≤ 1 → length (words_in (operand_words words)) ≤ 1
operands_one words few = by (is_from_input words)
  where
    by : (test : Bool) → length (words_in (if test then record { words = []; from_input = true }
        else record { words = words; from_input = false })) ≤ 1
    by true = let one : 1 ≤ 1 = omega arith in one
    by false = few

line_asks : (who : Caller) (l : CommandLine) (n : ℕ) → length l.operands ≤ 1 → AsksMeant who (line_meaning u.Get l n)
    (Some []) []
unfolding line_meaning
line_asks who l n one = unless_asks who (words_fault u.Get l n) (c.Get (get_words l.uses) (operand_words l.operands))
    (inr refl, inr (operands_one l.operands one))

get_asks : (who : Caller) (edit : Bool) (name : List ℕ) → AsksMeant who (meaning (next_get edit name)) (Some []) []
unfolding meaning utility_of scanned
get_asks who true name =
    line_asks who (scanned (options_of u.Get) 2 [] None (codes "-e" ∷ name ∷ [])) _ (word_one (options_of u.Get) 3
    (letters (options_of u.Get) 2 [] (codes "e")).0 (letters (options_of u.Get) 2 [] (codes "e")).1 name)
get_asks who false name = line_asks who (scanned (options_of u.Get) 2 [] None (name ∷ [])) _
    (word_one (options_of u.Get) 2 [] None name)

-- ---- the front end

one_asks : (who : Caller) (meant : Result Command Usage) → IfOk (one_asked meant) (NextAsks who)
one_asks who (Ok command) = tt
one_asks who (Err usage) = tt

two_ask : (who : Caller) (meant next : Result Command Usage) → AsksMeant who next (Some []) []
    → IfOk (two_asked meant next) (NextAsks who)
two_ask who (Ok command) next asks = asks
two_ask who (Err usage) next asks = tt

abbrev Listed : Caller → List (List ℕ) → List (List (List ℕ)) → Type 0
Listed who words list = IfOk (asked_by words list) (NextAsks who)

alone : (who : Caller) (words first : List (List ℕ)) → Listed who words (first ∷ [])
alone who words first = one_asks who (as_typed words first (meaning first))

named : (who : Caller) (words first : List (List ℕ)) (edit : Bool) (name : Option (List ℕ))
    → Listed who words (with_get edit first name)
named who words first edit None = alone who words first
named who words first edit (Some name) = two_ask who (as_typed words first (meaning first))
    (meaning (next_get edit name)) (get_asks who edit name)

either : (who : Caller) (words : List (List ℕ)) (t : Bool) (xs ys : List (List (List ℕ))) → Listed who words xs
    → Listed who words ys → Listed who words (if t then xs else ys)
either who words true xs ys first second = first
either who words false xs ys first second = second

by_word : (who : Caller) (words : List (List ℕ)) (word : List ℕ) (args : List (List ℕ))
    → Listed who words (front_by word args)
by_word who words word args =
    either who words (bytes_eq word (codes "edit")) _ _ (alone who words (codes "get" ∷ codes "-e" ∷ args))
    (either who words (bytes_eq word (codes "unedit")) _ _ (alone who words (codes "unget" ∷ args))
    (either who words (bytes_eq word (codes "delget")) _ _ (named who words (codes "delta" ∷ args) false
    (meant_name (meaning (codes "delta" ∷ args))))
    (either who words (bytes_eq word (codes "deledit")) _ _ (named who words (codes "delta" ∷ args) true
    (meant_name (meaning (codes "delta" ∷ args)))) (one_asks who (meaning words)))))

pub words_ask : (who : Caller) (words : List (List ℕ)) → IfOk (asked_of words) (NextAsks who)
unfolding front_of
words_ask who [] = one_asks who (meaning [])
words_ask who (word ∷ args) = by_word who (word ∷ args) word args
