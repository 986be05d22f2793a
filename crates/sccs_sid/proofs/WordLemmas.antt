-- Words and blanks.
use Rattle.std.proofs.Common.{◌≡◌, ◌≢◌, ℕ, zero, suc, ◌-◌, ◌<◌, ◌==◌, Bool, false, cond, List, [], ◌∷◌, length, get_or}
use Rattle.std.proofs.Common.{take, Option, None, Some, refl, ap, ◌∙◌, arith, eq-eqb, sub-one, inl, inr}
use Rattle.std.proofs.lemmas.Bool.{ne_eqb, cases_eq}
use Rattle.std.specs.Prelude.{slice_get}
use Rattle.sccs_sid.specs.Reading.{skip, until, behind}
use Rattle.sccs_sid.specs.Words.{ends_blank, skip_blanks, kept, drop_blanks, joined, words, with_word}

abbrev pub is_blank : ℕ → Bool
is_blank b = b == 32

pub skip_blanks_is : (bytes : List ℕ) → skip_blanks bytes ≡ skip is_blank bytes
unfolding skip_blanks skip
skip_blanks_is [] = refl
skip_blanks_is (b ∷ bytes) = ap (λ rest. cond (b == 32) rest (b ∷ bytes)) (skip_blanks_is bytes)

-- what is left of the bytes, where a separator stood
abbrev pub rest_of : Option (List ℕ) → List ℕ
rest_of None = []
rest_of (Some rest) = rest

skip_other : (b : ℕ) (bytes : List ℕ) → b ≢ 32 → skip_blanks (b ∷ bytes) ≡ b ∷ bytes
unfolding skip_blanks
skip_other b bytes other = rw (ne_eqb b 32 other) refl

words_cons : (b : ℕ) (bytes : List ℕ) → b ≢ 32 → words (b ∷ bytes) ≡ joined b bytes (words bytes)
unfolding words
words_cons b bytes other = rw (ne_eqb b 32 other) refl

until_cons : (b : ℕ) (bytes : List ℕ) → b ≢ 32 → until 32 (b ∷ bytes) ≡ b ∷ until 32 bytes
unfolding until
until_cons b bytes other = rw (ne_eqb b 32 other) refl

behind_cons : (b : ℕ) (bytes : List ℕ) → b ≢ 32 → behind 32 (b ∷ bytes) ≡ behind 32 bytes
unfolding behind
behind_cons b bytes other = rw (ne_eqb b 32 other) refl

joined_blank : (b c : ℕ) (bytes : List ℕ) (others : List (List ℕ)) → c ≡ 32 → joined b (c ∷ bytes) others ≡ (b ∷ [])
    ∷ others
joined_blank b c bytes [] is = refl
joined_blank b c bytes (word ∷ others) is = rw (eq-eqb c 32 is) refl

joined_more : (b c : ℕ) (bytes word : List ℕ) (others : List (List ℕ)) → c ≢ 32 → joined b (c ∷ bytes) (word ∷ others)
    ≡ (b ∷ word) ∷ others
joined_more b c bytes word others other = rw (ne_eqb c 32 other) refl

-- the word in front, and those of the rest
abbrev cut_words : List ℕ → List (List ℕ)
cut_words bytes = until 32 bytes ∷ words (rest_of (behind 32 bytes))

first_alone : (b c : ℕ) (bytes : List ℕ) → b ≢ 32 → c ≡ 32 → words (b ∷ c ∷ bytes) ≡ cut_words (b ∷ c ∷ bytes)
unfolding words until behind
first_alone b c bytes other is = rw (ne_eqb b 32 other, eq-eqb c 32 is) (joined_blank b c bytes (words bytes) is)

first_more : (b c : ℕ) (bytes : List ℕ) → b ≢ 32 → c ≢ 32 → words (c ∷ bytes) ≡ cut_words (c ∷ bytes)
    → words (b ∷ c ∷ bytes) ≡ cut_words (b ∷ c ∷ bytes)
first_more b c bytes other more rest =
    words_cons b (c ∷ bytes) other
    ∙ (ap (joined b (c ∷ bytes)) rest
    ∙ (joined_more b c bytes (until 32 (c ∷ bytes)) (words (rest_of (behind 32 (c ∷ bytes)))) more
    ∙ rw (until_cons b (c ∷ bytes) other, behind_cons b (c ∷ bytes) other) refl))

pub word_first : (b : ℕ) (bytes : List ℕ) → b ≢ 32 → words (b ∷ bytes) ≡ cut_words (b ∷ bytes)
unfolding words until behind
word_first b [] other = rw (ne_eqb b 32 other) refl
word_first b (c ∷ bytes) other = elim (cases_eq c 32) [
  | inl is ↦ first_alone b c bytes other is
  | inr more ↦ first_more
      b c bytes other more (word_first c bytes more)
]

-- the words by the first of them
words_next : (bytes : List ℕ) → words bytes ≡ with_word (until 32 (skip_blanks bytes))
    (words (rest_of (behind 32 (skip_blanks bytes))))
unfolding skip_blanks words until behind
words_next [] = refl
words_next (b ∷ bytes) =
    elim (cases_eq b 32) [
      | inl is ↦ rw (eq-eqb b 32 is) (words_next bytes)
      | inr other ↦ word_first b bytes other ∙ rw (skip_other b bytes other, until_cons b bytes other) refl
    ]

pub next_is : (bytes word rest : List ℕ) → word ≡ until 32 (skip_blanks bytes)
    → rest ≡ rest_of (behind 32 (skip_blanks bytes)) → words bytes ≡ with_word word (words rest)
next_is bytes word rest w r = rw (w, r) (words_next bytes)

-- the last byte decides
ends_at : (b : ℕ) (bytes : List ℕ) (last : ℕ) → Some last ≡ slice_get (b ∷ bytes) (length bytes)
    → (last == 32) ≡ ends_blank (b ∷ bytes)
unfolding ends_blank
ends_at b [] last is = let same : last ≡ b = cc in ap (λ x. x == 32) same
ends_at b (c ∷ bytes) last is = ends_at c bytes last is

never_none : (b : ℕ) (bytes : List ℕ) → None ≡ slice_get (b ∷ bytes) (length bytes) → ⊥
never_none b [] is = cc
never_none b (c ∷ bytes) is = never_none c bytes is

pub ends_is : (bytes : List ℕ) (last : ℕ) → Some last ≡ slice_get bytes (length bytes - 1)
    → (last == 32) ≡ ends_blank bytes
ends_is [] last is = cc
ends_is (b ∷ bytes) last is = ends_at b bytes last (rw sub-one at is)

pub ends_none : (bytes : List ℕ) → None ≡ slice_get bytes (length bytes - 1) → false ≡ ends_blank bytes
unfolding ends_blank
ends_none [] is = refl
ends_none (b ∷ bytes) is = absurd (never_none b bytes (rw sub-one at is))

-- one blank less at the end
pub drop_step : (bytes : List ℕ) (n : ℕ) → n < length bytes → get_or bytes n 0 ≡ 32 → drop_blanks (take n bytes)
    ≡ drop_blanks (take (suc n) bytes)
unfolding drop_blanks
drop_step [] n low is = absurd (omega arith)
drop_step (b ∷ bytes) zero low is = rw (eq-eqb b 32 is) refl
drop_step (b ∷ bytes) (suc n) low is = ap (kept b) (drop_step bytes n (omega arith) is)

-- no blank at the end
pub drop_stop : (bytes : List ℕ) (n : ℕ) → n < length bytes → get_or bytes n 0 ≢ 32 → take (suc n) bytes ≡ drop_blanks
    (take (suc n) bytes)
unfolding drop_blanks
drop_stop [] n low other = absurd (omega arith)
drop_stop (b ∷ bytes) zero low other = rw (ne_eqb b 32 other) refl
drop_stop (b ∷ []) (suc n) low other = absurd (omega arith)
drop_stop (b ∷ c ∷ bytes) (suc n) low other = ap (kept b) (drop_stop (c ∷ bytes) n (omega arith) other)

pub drop_nothing : [] ≡ drop_blanks []
unfolding drop_blanks
drop_nothing = refl
