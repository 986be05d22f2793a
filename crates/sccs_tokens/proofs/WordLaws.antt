-- Words behind single blanks are the words of what they make.
use Rattle.std.proofs.Common.{◌≡◌, ◌≢◌, ℕ, ◌==◌, false, List, [], ◌∷◌, ◌++◌, refl, ap, ◌∙◌, append-nil}
use Rattle.std.specs.List.{AllByRecursion}
use Rattle.std.proofs.lemmas.Bool.{ne_eqb}
use Rattle.sccs_sid.specs.Words.{words, joined, with_byte, ends_blank}
use Rattle.sccs_tokens.specs.Written.{spaced}

-- no byte is a blank
abbrev pub HasNoBlank : List ℕ → Type 0
HasNoBlank bytes = AllByRecursion (λ b. b ≢ 32) bytes

-- a word: some bytes, and no blank
abbrev pub IsWord : List ℕ → Type 0
IsWord [] = ⊥
IsWord (b ∷ bytes) = HasNoBlank (b ∷ bytes)

-- where a word ends: a blank, or nothing
abbrev pub EndsWord : List ℕ → Type 0
EndsWord [] = Unit {0}
EndsWord (b ∷ bytes) = b ≡ 32

pub words-cons : (b : ℕ) (bytes : List ℕ) → words (b ∷ bytes) ≡ with_byte (b == 32) b bytes (words bytes)
unfolding words
words-cons b bytes = refl

pub words-nil : words [] ≡ []
unfolding words
words-nil = refl

pub words-blank : (bytes : List ℕ) → words (32 ∷ bytes) ≡ words bytes
words-blank bytes = words-cons 32 bytes

pub words-other : (b : ℕ) (bytes : List ℕ) → b ≢ 32 → words (b ∷ bytes) ≡ joined b bytes (words bytes)
words-other b bytes other = words-cons b bytes ∙ ap (λ test. with_byte test b bytes (words bytes)) (ne_eqb b 32 other)

pub joined_last : (b : ℕ) (rest : List ℕ) (others : List (List ℕ)) → EndsWord rest → words rest ≡ others
    → joined b rest others ≡ (b ∷ []) ∷ others
joined_last b [] others ends is = refl
joined_last b (next ∷ rest) [] ends is = refl
joined_last b (next ∷ rest) (word ∷ others) ends is = ap (λ n. joined b (n ∷ rest) (word ∷ others)) ends

pub joined_more : (b c : ℕ) (bytes word : List ℕ) (others : List (List ℕ)) → c ≢ 32
    → joined b (c ∷ bytes) (word ∷ others) ≡ (b ∷ word) ∷ others
joined_more b c bytes word others other =
    rw (ne_eqb c 32 other) refl

-- the first word, and the words of the rest
pub word_first : (word rest : List ℕ) → IsWord word → EndsWord rest → words (word ++ rest) ≡ word ∷ words rest
word_first [] rest is ends = absurd is
word_first (b ∷ []) rest is ends = words-other b rest is.0 ∙ joined_last b rest (words rest) ends refl
word_first (b ∷ c ∷ word) rest is ends =
    words-other b (c ∷ word ++ rest) is.0
    ∙ (ap (joined b (c ∷ word ++ rest)) (word_first (c ∷ word) rest is.1 ends) ∙ joined_more b c (word ++ rest)
    (c ∷ word) (words rest) is.1.0)

pub spaced_ends : (ws : List (List ℕ)) → EndsWord (spaced ws)
spaced_ends [] = tt
spaced_ends (w ∷ ws) = refl

pub words_again : (ws : List (List ℕ)) → AllByRecursion IsWord ws → words (spaced ws) ≡ ws
words_again [] are = words-nil
words_again (w ∷ ws) are =
    words-blank (w ++ spaced ws) ∙ (word_first w (spaced ws) are.0 (spaced_ends ws) ∙ ap (λ others. w ∷ others)
    (words_again ws are.1))

-- ---- no blank at the end

ends-behind : (bytes : List ℕ) (c : ℕ) (rest : List ℕ) → ends_blank (bytes ++ c ∷ rest) ≡ ends_blank (c ∷ rest)
unfolding ends_blank
ends-behind [] c rest = refl
ends-behind (a ∷ []) c rest = refl
ends-behind (a ∷ b ∷ bytes) c rest = ends-behind (b ∷ bytes) c rest

pub ends-word : (word : List ℕ) → IsWord word → ends_blank word ≡ false
unfolding ends_blank
ends-word [] is = absurd is
ends-word (b ∷ []) is = ne_eqb b 32 is.0
ends-word (b ∷ c ∷ word) is = ends-word (c ∷ word) is.1

ends-last : (bytes word : List ℕ) → IsWord word → ends_blank (bytes ++ word) ≡ false
ends-last bytes [] is = absurd is
ends-last bytes (b ∷ word) is = ends-behind bytes b word ∙ ends-word (b ∷ word) is

pub spaced-ends : (w : List ℕ) (ws : List (List ℕ)) → AllByRecursion IsWord (w ∷ ws) → ends_blank (spaced (w ∷ ws))
    ≡ false
spaced-ends w [] are = rw append-nil (ends-last (32 ∷ []) w are.0)
spaced-ends w (v ∷ ws) are = ends-behind (32 ∷ w) 32 (v ++ spaced ws) ∙ spaced-ends v ws are.1
