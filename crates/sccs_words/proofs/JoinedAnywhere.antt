-- Options may be joined after any options.
use Rattle.std.proofs.Common.{◌≡◌, ◌≢◌, ℕ, ◌+◌, ◌-◌, List, [], ◌∷◌, ◌++◌, length, Option, None, Some, sym, ap, ◌∙◌}
use Rattle.std.proofs.Common.{arith}
use Rattle.sccs_words.specs.Synopsis.{options_of, find_option}
use Rattle.sccs_words.specs.Scan.{Uses, Kind, Letters, Ends, Operand, used, letters, word_kind, by_kind, scanned}
use Rattle.sccs_words.specs.OptionsRead.{if_letters, options_read}
use Rattle.sccs_words.specs.Unplaced.{SameUses, kinds}
use Rattle.sccs_words.specs.Meaning.{meaning_by, utility_of, meaning}
use Rattle.sccs_words.proofs.Joined.{same_by, joined_or_apart}
use Rattle.sccs_words.proofs.SameMeaning.{same_meaning}
use Rattle.sccs_words.specs.declared.tables.OptionSpec.{OptionSpec}
use Rattle.sccs_words.specs.declared.tables.OptionSpec.TheVariants.{Plain}
use Rattle.sccs_words.specs.declared.tables.Utility.{Utility}
use Rattle.sccs_words.specs.declared.scanning.OptionArgument.TheVariants.{Value}
use Rattle.sccs_words.specs.declared.scanning.Use.{Use}

some_same : (a b : Uses) → Some a ≡ Some b → a ≡ b
some_same a b same = cc

abbrev Goes : List OptionSpec → ℕ → List (List ℕ) → List (List ℕ) → Uses → Uses → Type 0
Goes options n before after argument so_far =
    options_read options n so_far.0 so_far.1 before ≡ Some argument
    → scanned options n so_far.0 so_far.1 (before ++ after) ≡ scanned options (n + length before) argument.0 argument.1
    after

none_after : (options : List OptionSpec) (n : ℕ) (after : List (List ℕ)) (argument so_far : Uses)
    → Some so_far ≡ Some argument
    → scanned options n so_far.0 so_far.1 after ≡ scanned options (n + 0) argument.0 argument.1 after
none_after options n after argument so_far same =
    let none : n ≡ n + 0 = omega arith in
    ap (λ (u : Uses). scanned options n u.0 u.1 after) (some_same so_far argument same)
    ∙ ap (λ (m : ℕ). scanned options m argument.0 argument.1 after) none

one_more : (options : List OptionSpec) (n : ℕ) (word : List ℕ) (words after : List (List ℕ)) (argument : Uses)
    → scanned options (n + 1 + length words) argument.0 argument.1 after ≡ scanned options (n + length (word ∷ words))
    argument.0 argument.1 after
one_more options n word words after argument =
    let same : n + 1 + length words ≡ n + length (word ∷ words) = omega arith in
    ap (λ (m : ℕ). scanned options m argument.0 argument.1 after) same

by_letters : (options : List OptionSpec) (n : ℕ) (uses : List Use) (word : List ℕ) (words after : List (List ℕ))
    (argument : Uses) (kind : Kind)
    → ((bytes : List ℕ) → Goes options (n + 1) words after argument (letters options n uses bytes))
    → if_letters kind (λ bytes. options_read options (n + 1) (letters options n uses bytes).0
    (letters options n uses bytes).1 words) ≡ Some argument
    → by_kind n uses word (words ++ after) kind (λ bytes. scanned options (n + 1) (letters options n uses bytes).0
    (letters options n uses bytes).1 (words ++ after))
    ≡ scanned options (n + 1 + length words) argument.0 argument.1 after
by_letters options n uses word words after argument (Letters bytes) goes is = goes bytes is
by_letters options n uses word words after argument Ends goes is = cc
by_letters options n uses word words after argument Operand goes is = cc

prefix_read : (options : List OptionSpec) (n : ℕ) (uses : List Use) (waits : Option ℕ) (before after : List (List ℕ))
    (argument : Uses) → Goes options n before after argument (uses, waits)
unfolding options_read scanned
prefix_read options n uses (Some letter) [] after argument is = none_after options n after argument (uses, Some letter)
    is
prefix_read options n uses (Some letter) (word ∷ words) after argument is =
    prefix_read options (n + 1) (uses ++ used letter (n - 1) (Value word n) ∷ []) None words after argument is
    ∙ one_more options n word words after argument
prefix_read options n uses None [] after argument is = none_after options n after argument (uses, None) is
prefix_read options n uses None (word ∷ words) after argument is =
    by_letters options n uses word words after argument (word_kind word)
    (λ bytes. prefix_read options (n + 1) (letters options n uses bytes).0 (letters options n uses bytes).1 words after
    argument) is
    ∙ one_more options n word words after argument

pub joined_anywhere : (utility : Utility) (name : List ℕ) (a b : ℕ) (rest : List ℕ) (before after : List (List ℕ))
    (read : List Use) → utility_of name ≡ Some utility
    → options_read (options_of utility) 2 [] None before ≡ Some (read, None) → find_option (options_of utility) a ≡ Some
    (Plain a) → b ≢ 45
    → kinds (meaning (name ∷ before ++ (45 ∷ a ∷ b ∷ rest) ∷ after)) ≡ kinds
    (meaning (name ∷ before ++ (45 ∷ a ∷ []) ∷ (45 ∷ b ∷ rest) ∷ after))
unfolding meaning
joined_anywhere utility name a b rest before after read found all plain other =
    let joined : List (List ℕ) = (45 ∷ a ∷ b ∷ rest) ∷ after in
    let apart : List (List ℕ) = (45 ∷ a ∷ []) ∷ (45 ∷ b ∷ rest) ∷ after in
    let options : List OptionSpec = options_of utility in
    let place : ℕ = 2 + length before in
    let same : SameUses (scanned options 2 [] None (before ++ joined)) (scanned options 2 [] None (before ++ apart)) =
    same_by (prefix_read options 2 [] None before joined (read, None) all) (prefix_read options 2 [] None before apart
    (read, None) all)
    (joined_or_apart utility place a b read rest after plain other) in
    ap (λ (o : Option Utility). kinds (meaning_by o (before ++ joined))) found
    ∙ (same_meaning utility (scanned options 2 [] None (before ++ joined)) (scanned options 2 [] None (before ++ apart))
    (length (before ++ joined) + 2) (length (before ++ apart) + 2) same
    ∙ sym (ap (λ (o : Option Utility). kinds (meaning_by o (before ++ apart))) found))
