-- Texts and marks where bytes come behind a piece.
use Rattle.std.proofs.Common.{◌≡◌, ◌≢◌, ℕ, zero, suc, ◌+◌, ◌<◌, ◌≤◌, Bool, true, false, cond, List, [], ◌∷◌, ◌++◌}
use Rattle.std.proofs.Common.{length, take, drop, get_or, refl, sym, ap, subst, ◌∙◌, arith, unwrap_or, ◌⊎◌, inl, inr}
use Rattle.std.proofs.Common.{None, Some, ◌&&◌, ◌==◌}
use Rattle.std.specs.Prelude.{nat_lt}
use Rattle.std.specs.List.{position, position_or_len}
use Rattle.std.proofs.lemmas.Bool.{cases_lt, le-ltb, lt-ltb, ne_eqb}
use Rattle.std.proofs.lemmas.List.{drop-drop}
use Rattle.std.proofs.lemmas.List.Recursion.{is_position_or_len}
use Rattle.sccs_what.specs.Texts.{ends_text, is_marked, texts_behind_marks, texts_behind_marks_after, until_end}
use Rattle.sccs_what.specs.Owed.{behind_text}

-- ---- a text up to its end

-- a text that none of these bytes ends goes on behind them
pub text_goes_on : (t rest : List ℕ) → length (until_end t) ≡ length t → until_end (t ++ rest) ≡ t ++ until_end rest
text_goes_on [] rest whole = refl
text_goes_on (b ∷ t) rest whole = by (ends_text b) whole (text_goes_on t rest)
  where
    by : (e : Bool) → length (cond e [] (b ∷ until_end t)) ≡ length (b ∷ t) → (length (until_end t) ≡ length t
        → until_end (t ++ rest) ≡ t ++ until_end rest) → cond e [] (b ∷ until_end (t ++ rest)) ≡ b
        ∷ (t ++ until_end rest)
    by true whole on = absurd (omega (arith, whole))
    by false whole on = ap (λ (l : List ℕ). b ∷ l) (on (omega (arith, whole)))

-- one that a byte of these ends is the same whatever comes behind them
pub text_ends : (t rest : List ℕ) → length (until_end t) < length t → until_end (t ++ rest) ≡ until_end t
text_ends [] rest short = absurd (omega (arith, short))
text_ends (b ∷ t) rest short = by (ends_text b) short (text_ends t rest)
  where
    by : (e : Bool) → length (cond e [] (b ∷ until_end t)) < length (b ∷ t) → (length (until_end t) < length t
        → until_end (t ++ rest) ≡ until_end t) → cond e [] (b ∷ until_end (t ++ rest)) ≡ cond e [] (b ∷ until_end t)
    by true short on = refl
    by false short on = ap (λ (l : List ℕ). b ∷ l) (on (omega (arith, short)))

pub text_is_front : (t : List ℕ) → take (length (until_end t)) t ≡ until_end t
text_is_front [] = refl
text_is_front (b ∷ t) = by (ends_text b) (text_is_front t)
  where
    by : (e : Bool) → take (length (until_end t)) t ≡ until_end t → take (length (cond e [] (b ∷ until_end t))) (b ∷ t)
        ≡ cond e [] (b ∷ until_end t)
    by true on = refl
    by false on = ap (λ (l : List ℕ). b ∷ l) on

pub text_within : (t : List ℕ) → length (until_end t) ≤ length t
text_within [] = omega arith
text_within (b ∷ t) = by (ends_text b) (text_within t)
  where
    by : (e : Bool) → length (until_end t) ≤ length t → length (cond e [] (b ∷ until_end t)) ≤ length (b ∷ t)
    by true on = omega arith
    by false on = omega (arith, on)

pub drop_both : (t x rest : List ℕ) → drop (length (t ++ x)) (t ++ rest) ≡ drop (length x) rest
drop_both [] x rest = refl
drop_both (b ∷ t) x rest = drop_both t x rest

pub drop_within : (n : ℕ) (t rest : List ℕ) → n ≤ length t → drop n (t ++ rest) ≡ drop n t ++ rest
drop_within zero t rest fits = refl
drop_within (suc n) [] rest fits = absurd (omega (arith, fits))
drop_within (suc n) (b ∷ t) rest fits = drop_within n t rest (omega (arith, fits))

pub behind_goes_on : (t rest : List ℕ) → length (until_end t) ≡ length t → behind_text (t ++ rest) ≡ behind_text rest
behind_goes_on t rest whole = ap (λ (x : List ℕ). drop (length x) (t ++ rest)) (text_goes_on t rest whole)
    ∙ drop_both t (until_end rest) rest

pub behind_ends : (t rest : List ℕ) → length (until_end t) < length t → behind_text (t ++ rest) ≡ behind_text t ++ rest
behind_ends t rest short = ap (λ (x : List ℕ). drop (length x) (t ++ rest)) (text_ends t rest short)
    ∙ drop_within (length (until_end t)) t rest (omega (arith, short))

-- ---- marks

not_marked : (b : ℕ) (bytes : List ℕ) → b ≢ 64 → is_marked (b ∷ bytes) ≡ false
not_marked b [] other = refl
not_marked b (x ∷ []) other = refl
not_marked b (x ∷ y ∷ []) other = refl
not_marked b (x ∷ y ∷ z ∷ bytes) other = ap (λ t. t && ((x == 40) && ((y == 35) && (z == 41)))) (ne_eqb b 64 other)

skipped : (n : ℕ) (bytes : List ℕ) → texts_behind_marks_after n bytes ≡ texts_behind_marks (drop n bytes)
skipped zero bytes = refl
skipped (suc n) [] = refl
skipped (suc n) (b ∷ bytes) = skipped n bytes

-- a byte with which no mark begins is passed over
pass_one : (b : ℕ) (bytes : List ℕ) → is_marked (b ∷ bytes) ≡ false → texts_behind_marks (b ∷ bytes)
    ≡ texts_behind_marks bytes
pass_one b bytes none = ap (λ m. cond m (until_end (drop 3 bytes) ∷ texts_behind_marks_after
    (3 + length (until_end (drop 3 bytes))) bytes) (texts_behind_marks bytes)) none

-- so are all up to the first @
pub texts_past : (k : ℕ) (t rest : List ℕ) → ((j : ℕ) → j < k → get_or t j 0 ≢ 64)
    → texts_behind_marks (drop k t ++ rest) ≡ texts_behind_marks (t ++ rest)
texts_past zero t rest before = refl
texts_past (suc k) [] rest before = refl
texts_past (suc k) (b ∷ t) rest before =
    texts_past k t rest (λ j below. before (suc j) (omega arith))
    ∙ sym (pass_one b (t ++ rest) (not_marked b (t ++ rest) (before 0 (omega arith))))

-- fewer than four bytes have none
pub texts_short : (t : List ℕ) → length t < 4 → texts_behind_marks t ≡ []
texts_short [] short = refl
texts_short (a ∷ []) short = refl
texts_short (a ∷ b ∷ []) short = refl
texts_short (a ∷ b ∷ c ∷ []) short = refl
texts_short (a ∷ b ∷ c ∷ d ∷ t) short = absurd (omega (arith, short))

-- four that are no mark
pub texts_unmarked : (t rest : List ℕ) → 4 ≤ length t → is_marked t ≡ false → texts_behind_marks (drop 1 t ++ rest)
    ≡ texts_behind_marks (t ++ rest)
texts_unmarked [] rest some none = absurd (omega (arith, some))
texts_unmarked (a ∷ []) rest some none = absurd (omega (arith, some))
texts_unmarked (a ∷ b ∷ []) rest some none = absurd (omega (arith, some))
texts_unmarked (a ∷ b ∷ c ∷ []) rest some none = absurd (omega (arith, some))
texts_unmarked (a ∷ b ∷ c ∷ d ∷ t) rest some none = sym (pass_one a (b ∷ c ∷ d ∷ (t ++ rest)) none)

-- the text behind a mark, and those behind it
pub texts_marked : (t rest : List ℕ) → 4 ≤ length t → is_marked t ≡ true → texts_behind_marks (t ++ rest) ≡ until_end
    (drop 4 t ++ rest) ∷ texts_behind_marks (behind_text (drop 4 t ++ rest))
texts_marked [] rest some marked = absurd (omega (arith, some))
texts_marked (a ∷ []) rest some marked = absurd (omega (arith, some))
texts_marked (a ∷ b ∷ []) rest some marked = absurd (omega (arith, some))
texts_marked (a ∷ b ∷ c ∷ []) rest some marked = absurd (omega (arith, some))
texts_marked (a ∷ b ∷ c ∷ d ∷ t) rest some marked =
    let bytes : List ℕ = b ∷ c ∷ d ∷ (t ++ rest) in
    let text : List ℕ = until_end (t ++ rest) in
    ap (λ m. cond m (text ∷ texts_behind_marks_after (3 + length text) bytes) (texts_behind_marks bytes)) marked
    ∙ ap (λ (later : List (List ℕ)). text ∷ later) (skipped (3 + length text) bytes ∙ ap texts_behind_marks
    (sym (drop-drop (length text) 3 bytes)))

-- ---- how long a text is

pub length_is : (bytes : List ℕ) → length (until_end bytes) ≡ position_or_len ends_text bytes
length_is bytes = is_position_or_len (λ l. length (until_end l)) ends_text refl (λ x xs. by (ends_text x) xs x) bytes
  where
    by : (e : Bool) (xs : List ℕ) (x : ℕ) → length (cond e [] (x ∷ until_end xs)) ≡ cond e 0 (1 + length (until_end xs))
    by true xs x = refl
    by false xs x = omega arith

pub length_found : (bytes : List ℕ) → unwrap_or (position ends_text bytes) (length bytes) ≡ length (until_end bytes)
length_found bytes = by (position_or_len ends_text bytes) (length bytes) (cases_lt (position_or_len ends_text bytes)
    (length bytes)) (subst (λ n. n ≤ length bytes) (length_is bytes) (text_within bytes)) ∙ sym (length_is bytes)
  where
    by : (p n : ℕ) → (p < n) ⊎ (n ≤ p) → p ≤ n → unwrap_or (cond (nat_lt p n) (Some p) None) n ≡ p
    by p n (inl low) within = ap (λ t. unwrap_or (cond t (Some p) None) n) (lt-ltb p n low)
    by p n (inr high) within = let same : n ≡ p = omega (arith, high, within) in
        ap (λ t. unwrap_or (cond t (Some p) None) n) (le-ltb p n high) ∙ same
