-- The tokens of bytes, one after the other.
use Rattle.std.proofs.Common.{◌≡◌, ℕ, zero, suc, ◌≤◌, ◌<◌, ◌==◌, nat_lt, Bool, true, false, cond, not, ◌||◌, List, []}
use Rattle.std.proofs.Common.{◌∷◌, length, Option, None, Some, refl, sym, subst, ap, ◌∙◌, arith}
use Rattle.sccs_rcs_file.specs.TokenValues.{Token, Semicolon, Colon}
use Rattle.sccs_rcs_file.specs.Tokens.{at_sign, behind_word, colon, from_token, is_gap, is_of_word, lexemes, lexemes_by}
use Rattle.sccs_rcs_file.specs.Tokens.{lexemes_from, lexemes_within, quoted, semicolon, string_in, token_at, with_raw}
use Rattle.sccs_rcs_file.specs.Tokens.{word_in, word_token}

from_token_shorter : (bytes : List ℕ) → length (from_token bytes) ≤ length bytes
from_token_shorter [] = omega arith
from_token_shorter (b ∷ bytes) = by_test (is_gap b) (from_token_shorter bytes)
  where
    by_test : (t : Bool) → length (from_token bytes) ≤ length bytes → length (cond t (from_token bytes) (b ∷ bytes)) ≤
        suc (length bytes)
    by_test true le = omega arith
    by_test false le = omega arith

behind_shorter : (bytes : List ℕ) → length (behind_word bytes) ≤ length bytes
behind_shorter [] = omega arith
behind_shorter (b ∷ bytes) = by_test (is_of_word b) (behind_shorter bytes)
  where
    by_test : (t : Bool) → length (behind_word bytes) ≤ length bytes → length (cond t (behind_word bytes) (b ∷ bytes)) ≤
        suc (length bytes)
    by_test true le = omega arith
    by_test false le = omega arith

-- what is behind has at most so many bytes
abbrev pub Within : {A : Type 0} → ℕ → Option (A × List ℕ) → Type 0
Within n None = Unit {0}
Within n (Some (x, rest)) = length rest ≤ n

raw_within : (n : ℕ) (bytes : List ℕ) (o : Option (List ℕ × List ℕ)) → Within n o → Within n (with_raw bytes o)
raw_within n bytes None within = tt
raw_within n bytes (Some (raw, rest)) within = within

wider : {A : Type 0} (n m : ℕ) (o : Option (A × List ℕ)) → n ≤ m → Within n o → Within m o
wider n m None le within = tt
wider n m (Some (x, rest)) le within = omega (arith, within)

string_within : (bytes : List ℕ) → Within (length bytes) (string_in bytes)
string_within [] = tt
string_within (b ∷ []) = by_test (b == at_sign)
  where
    by_test : (t : Bool) → Within {A = List ℕ} 1 (cond t (Some ([], [])) None)
    by_test true = omega arith
    by_test false = tt
string_within (b ∷ c ∷ bytes) = by_test (b == at_sign) (c == at_sign) (string_within bytes) (string_within (c ∷ bytes))
  where
    by_test : (t u : Bool) → Within (length bytes) (string_in bytes) → Within (suc (length bytes))
        (string_in (c ∷ bytes))
        → Within (suc (suc (length bytes))) (cond t (cond u (with_raw (b ∷ c ∷ []) (string_in bytes))
        (Some ([], c ∷ bytes))) (with_raw (b ∷ []) (string_in (c ∷ bytes))))
    by_test true true two one = raw_within (suc (suc (length bytes))) (b ∷ c ∷ []) (string_in bytes)
        (wider (length bytes) (suc (suc (length bytes))) (string_in bytes) (omega arith) two)
    by_test true false two one = omega arith
    by_test false u two one = raw_within (suc (suc (length bytes))) (b ∷ []) (string_in (c ∷ bytes))
        (wider (suc (length bytes)) (suc (suc (length bytes))) (string_in (c ∷ bytes)) (omega arith) one)

quoted_within : (n : ℕ) (o : Option (List ℕ × List ℕ)) → Within n o → Within n (quoted o)
quoted_within n None within = tt
quoted_within n (Some (raw, rest)) within = within

-- at most the bytes behind the first are left behind a token
token_within : (b : ℕ) (bytes : List ℕ) → Within (length bytes) (token_at b bytes)
token_within b bytes = by_tests (b == at_sign) (b == semicolon) (b == colon) (nat_lt 32 b) refl refl refl refl
  where
    first_in : (at semi col : Bool) → (b == at_sign) ≡ at → (b == semicolon) ≡ semi → (b == colon) ≡ col
        → nat_lt 32 b ≡ true → at ≡ false → semi ≡ false → col ≡ false → is_of_word b ≡ true
    first_in at semi col at_is semi_is col_is high no_at no_semi no_col =
        Rattle.std.proofs.lemmas.Bool.and_from (nat_lt 32 b) (not (b == semicolon || (b == colon || b == at_sign))) high
        (ap not (Rattle.std.proofs.lemmas.Bool.or_from (b == semicolon) (b == colon || b == at_sign) (semi_is ∙ no_semi)
        (Rattle.std.proofs.lemmas.Bool.or_from (b == colon) (b == at_sign) (col_is ∙ no_col) (at_is ∙ no_at))))

    by_tests : (at semi col high : Bool) → (b == at_sign) ≡ at → (b == semicolon) ≡ semi → (b == colon) ≡ col
        → nat_lt 32 b ≡ high
        → Within (length bytes) (cond at (quoted (string_in bytes)) (cond semi (Some (Semicolon, bytes))
        (cond col (Some (Colon, bytes))
        (cond high (Some (word_token (word_in (b ∷ bytes)), behind_word (b ∷ bytes))) None))))
    by_tests true semi col high at_is semi_is col_is high_is = quoted_within (length bytes) (string_in bytes)
        (string_within bytes)
    by_tests false true col high at_is semi_is col_is high_is = omega arith
    by_tests false false true high at_is semi_is col_is high_is = omega arith
    by_tests false false false false at_is semi_is col_is high_is = tt
    by_tests false false false true at_is semi_is col_is high_is =
        subst (λ t. length (cond t (behind_word bytes) (b ∷ bytes)) ≤ length bytes)
        (sym (first_in false false false at_is semi_is col_is high_is refl refl refl)) (behind_shorter bytes)

-- more steps than bytes change nothing
lexemes_alike : (n m : ℕ) (bytes : List ℕ) → length bytes < n → length bytes < m
    → lexemes_within n bytes ≡ lexemes_within m bytes
lexemes_alike zero m bytes lt lt2 = absurd (omega arith)
lexemes_alike (suc n) zero bytes lt lt2 = absurd (omega arith)
lexemes_alike (suc n) (suc m) bytes lt lt2 = by_rest (from_token bytes) (from_token_shorter bytes)
    (λ rest low. lexemes_alike n m rest (omega arith) (omega arith))
  where
    by_token : (left bound : ℕ) (o : Option (Token × List ℕ)) → Within bound o → ((rest : List ℕ) → length rest ≤ bound
        → lexemes_within n rest ≡ lexemes_within m rest)
        → lexemes_by left (lexemes_within n) o ≡ lexemes_by left (lexemes_within m) o
    by_token left bound None within same = refl
    by_token left bound (Some (token, rest)) within same = ap (λ l. record { token = Some token; left = left } ∷ l)
        (same rest within)

    by_rest : (rest : List ℕ) → length rest ≤ length bytes → ((more : List ℕ) → suc (length more) ≤ length bytes
        → lexemes_within n more ≡ lexemes_within m more)
        → lexemes_from (lexemes_within n) rest ≡ lexemes_from (lexemes_within m) rest
    by_rest [] le same = refl
    by_rest (b ∷ rest) le same = by_token (suc (length rest)) (length rest) (token_at b rest) (token_within b rest)
        (λ more low. same more (omega arith))

-- the first token of bytes, and the others
pub lexemes_next : (bytes : List ℕ) (b : ℕ) (more : List ℕ) (token : Token) (rest : List ℕ)
    → from_token bytes ≡ b ∷ more → token_at b more ≡ Some (token, rest)
    → (lexemes bytes ≡ record { token = Some token; left = suc (length more) } ∷ lexemes rest)
    × (length rest < length bytes)
lexemes_next bytes b more token rest is token_is =
    let shorter : suc (length more) ≤ length bytes = subst (λ l. length l ≤ length bytes) is
    (from_token_shorter bytes) in
    let within : length rest ≤ length more = subst (λ o. Within (length more) o) token_is (token_within b more) in (
      ap (λ l. lexemes_from (lexemes_within (length bytes)) l) is
          ∙ (ap (λ o. lexemes_by (suc (length more)) (lexemes_within (length bytes)) o) token_is
          ∙ ap (λ l. record { token = Some token; left = suc (length more) } ∷ l) (lexemes_alike (length bytes)
          (suc (length rest)) rest (omega arith) (omega arith))),
      omega arith,
    )

-- the same by the bytes that begin with the token
pub lexemes_found : (bytes whole : List ℕ) (b : ℕ) (more : List ℕ) (token : Token) (rest : List ℕ)
    → whole ≡ from_token bytes → whole ≡ b ∷ more → Some (token, rest) ≡ token_at b more
    → (lexemes bytes ≡ record { token = Some token; left = length whole } ∷ lexemes rest) × (length rest < length bytes)
lexemes_found bytes whole b more token rest whole_is is token_is =
    let found = lexemes_next bytes b more token rest (sym whole_is ∙ is) (sym token_is) in
    (found.0 ∙ ap (λ l. record { token = Some token; left = length l } ∷ lexemes rest) (sym is), found.1)
