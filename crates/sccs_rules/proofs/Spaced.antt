-- Bytes without blanks, and releases with a comma between two.
use Rattle.std.proofs.Common.{◌≡◌, ℕ, ◌<◌, nat_lt, ◌==◌, Bool, true, false, cond, not, ◌&&◌, List, [], ◌∷◌, ◌++◌}
use Rattle.std.proofs.Common.{append-nil, drop, flat_map, filter, refl, ap, ◌∙◌, arith}
use Rattle.std.specs.Prelude.{decimal, map}
use Rattle.std.specs.List.{AllByRecursion, list_all}
use Rattle.std.proofs.lemmas.Bool.{ltb-true, ne_eqb}
use Rattle.sccs_sid.specs.Reading.{is_empty, number, number_at}
use Rattle.sccs_sid.specs.Words.{begins_blank, drop_blanks, ends_blank, kept, skip_blanks, words}
use Rattle.sccs_history.specs.FlagText.{are_releases, are_spaced, is_release, pieces, with_front}
use Rattle.sccs_rules.specs.Forms.{are_joined}
use Rattle.sccs_rules.specs.Unlocked.{behind_comma, with_commas, release_in, releases_in, releases_of}
use Rattle.sccs_rules.proofs.Digits.{AreDigits, IsDigit, decimal_digits, decimal_release, release_digits, release_low}
use Rattle.sccs_base.proofs.Bools.{right_true, left_true}

-- ---- lists

pub all_both : {A : Type 0} (P : A → Type 0) (xs ys : List A) → AllByRecursion P xs → AllByRecursion P ys
    → AllByRecursion P (xs ++ ys)
all_both P [] ys front back = back
all_both P (x ∷ xs) ys front back = (front.0, all_both P xs ys front.1 back)

filtered_by : {A : Type 0} (P : A → Type 0) (b : Bool) (x : A) (rest : List A) → P x → AllByRecursion P rest
    → AllByRecursion P (cond b (x ∷ rest) rest)
filtered_by P true x rest here more = (here, more)
filtered_by P false x rest here more = more

pub all_filtered : {A : Type 0} (P : A → Type 0) (test : A → Bool) (xs : List A) → AllByRecursion P xs
    → AllByRecursion P (filter test xs)
all_filtered P test [] all = tt
all_filtered P test (x ∷ xs) all = filtered_by P (test x) x (filter test xs) all.0 (all_filtered P test xs all.1)

pub each : {A : Type 0} (P Q : A → Type 0) → ((x : A) → P x → Q x) → (xs : List A) → AllByRecursion P xs
    → AllByRecursion Q xs
each P Q so [] all = tt
each P Q so (x ∷ xs) all = (so x all.0, each P Q so xs all.1)

-- ---- bytes above blanks

abbrev pub AreVisible : List ℕ → Type 0
AreVisible bytes = AllByRecursion (λ b. 40 < b) bytes

pub digits_visible : (bytes : List ℕ) → AreDigits bytes → AreVisible bytes
digits_visible bytes are = each IsDigit (λ b. 40 < b) (λ b is. omega (arith, is.low)) bytes are

no_blank : (b : ℕ) → 40 < b → (b == 32) ≡ false
no_blank b high = ne_eqb b 32 (λ is. omega (arith, is, high))

pub visible_begins : (bytes : List ℕ) → AreVisible bytes → begins_blank bytes ≡ false
visible_begins [] are = refl
visible_begins (b ∷ bytes) are = no_blank b are.0

pub visible_ends : (bytes : List ℕ) → AreVisible bytes → ends_blank bytes ≡ false
unfolding ends_blank
visible_ends [] are = refl
visible_ends (b ∷ []) are = no_blank b are.0
visible_ends (b ∷ c ∷ bytes) are = visible_ends (c ∷ bytes) are.1

-- one word
one_more : (b c : ℕ) (bytes : List ℕ) → 40 < b → 40 < c → words (c ∷ bytes) ≡ (c ∷ bytes) ∷ []
    → words (b ∷ c ∷ bytes) ≡ (b ∷ c ∷ bytes) ∷ []
unfolding words
one_more b c bytes high next more = rw (no_blank b high, more, no_blank c next) refl

visible_word : (b : ℕ) (bytes : List ℕ) → AreVisible (b ∷ bytes) → words (b ∷ bytes) ≡ (b ∷ bytes) ∷ []
unfolding words
visible_word b [] are = rw (no_blank b are.0) refl
visible_word b (c ∷ bytes) are = one_more b c bytes are.0 are.1.0 (visible_word c bytes are.1)

none_empty : is_release [] ≡ true → ⊥
unfolding number number_at
none_empty is = absurd cc

some_word : (w : List ℕ) → is_release w ≡ true → AreVisible w → are_spaced w ≡ true
some_word [] is are = absurd (none_empty is)
some_word (b ∷ bytes) is are = rw (
  visible_begins (b ∷ bytes) are,
  visible_ends (b ∷ bytes) are,
  visible_word b bytes are,
  is,
) refl

-- a release is a list of one release
pub release_spaced : (w : List ℕ) → is_release w ≡ true → are_spaced w ≡ true
release_spaced w is = some_word w is (digits_visible w (release_digits w is))

both_spaced : (a b : Bool) (w : List ℕ) (ws : List (List ℕ)) → is_release w ≡ a → list_all is_release ws ≡ b
    → (list_all is_release ws ≡ true → list_all are_spaced ws ≡ true) → (a && b) ≡ true → list_all are_spaced (w ∷ ws)
    ≡ true
both_spaced true true w ws first rest more is = rw (release_spaced w first, more rest) refl
both_spaced true false w ws first rest more is = absurd cc
both_spaced false b w ws first rest more is = absurd cc

all_spaced : (ws : List (List ℕ)) → list_all is_release ws ≡ true → list_all are_spaced ws ≡ true
all_spaced [] is = refl
all_spaced (w ∷ ws) is = both_spaced (is_release w) (list_all is_release ws) w ws refl refl (all_spaced ws) is

-- releases with commas fit flag l
pub joined_releases : (text : List ℕ) → are_joined text ≡ true → are_releases text ≡ true
joined_releases text is = all_spaced (pieces text) is

-- ---- pieces of releases that are written

no_comma : (b : ℕ) → IsDigit b → (b == 44) ≡ false
no_comma b is = ne_eqb b 44 (λ same. omega (arith, same, is.low))

pub piece_first : (w rest : List ℕ) → AreDigits w → pieces (w ++ 44 ∷ rest) ≡ w ∷ pieces rest
unfolding pieces
piece_first [] rest are = refl
piece_first (b ∷ w) rest are = rw (no_comma b are.0) (ap (with_front b) (piece_first w rest are.1))

pub piece_only : (w : List ℕ) → AreDigits w → pieces w ≡ w ∷ []
unfolding pieces
piece_only [] are = refl
piece_only (b ∷ w) are = rw (no_comma b are.0) (ap (with_front b) (piece_only w are.1))

abbrev pub AreReleases : List ℕ → Type 0
AreReleases rs = AllByRecursion (λ r. (r < 10000) × (0 < r)) rs

abbrev pub AreLow : List ℕ → Type 0
AreLow rs = AllByRecursion (λ r. r < 10000) rs

-- one behind another
pub written_releases : (r : ℕ) (rs : List ℕ) → AreReleases (r ∷ rs)
    → are_releases (decimal r ++ flat_map behind_comma rs) ≡ true
written_releases r [] are =
    ap (list_all are_spaced) (ap pieces (append-nil (decimal r)) ∙ piece_only (decimal r) (decimal_digits r are.0.0))
    ∙ rw (release_spaced (decimal r) (decimal_release r are.0.0 are.0.1)) refl
written_releases r (s ∷ rs) are =
    ap (list_all are_spaced) (piece_first (decimal r) (decimal s ++ flat_map behind_comma rs)
    (decimal_digits r are.0.0))
    ∙ rw (release_spaced (decimal r) (decimal_release r are.0.0 are.0.1)) (written_releases s rs are.1)

commas_visible : (rs : List ℕ) → AreLow rs → AreVisible (flat_map behind_comma rs)
commas_visible [] are = tt
commas_visible (r ∷ rs) are =
    all_both (λ b. 40 < b) (behind_comma r) (flat_map behind_comma rs) (
      omega arith,
      digits_visible (decimal r)
          (decimal_digits r are.0),
    ) (commas_visible rs are.1)

without_first : {A : Type 0} (P : A → Type 0) (xs : List A) → AllByRecursion P xs → AllByRecursion P (drop 1 xs)
without_first P [] all = tt
without_first P (x ∷ xs) all = all.1

pub joined_visible : (rs : List ℕ) → AreLow rs → AreVisible (with_commas rs)
joined_visible rs are = without_first (λ b. 40 < b) (flat_map behind_comma rs) (commas_visible rs are)

pub joined_fits : (rs : List ℕ) → AreReleases rs → is_empty (with_commas rs) ≡ false → are_releases (with_commas rs)
    ≡ true
joined_fits [] are some = absurd cc
joined_fits (r ∷ rs) are some = written_releases r rs are

-- ---- the releases of a text

words_low : (ws : List (List ℕ)) → AreLow (map release_in ws)
words_low [] = tt
words_low (w ∷ ws) = (release_low w, words_low ws)

pieces_low : (ps : List (List ℕ)) → AreLow (flat_map releases_in ps)
pieces_low [] = tt
pieces_low (p ∷ ps) = all_both (λ r. r < 10000) (releases_in p) (flat_map releases_in ps) (words_low (words p))
    (pieces_low ps)

pub releases_low : (text : List ℕ) → AreLow (releases_of text)
releases_low text = pieces_low (pieces text)

some_release : (n : ℕ) → nat_lt 0 n ≡ true → 0 < n
some_release n is = ltb-true 0 n is

words_some : (ws : List (List ℕ)) → list_all is_release ws ≡ true → AreReleases (map release_in ws)
words_some [] is = tt
words_some (w ∷ ws) is = (
  (release_low w, some_release (release_in w) (left_true (is_release w) (list_all is_release ws) is)),
  words_some ws
      (right_true (is_release w) (list_all is_release ws) is),
)

spaced_words : (a b c d : Bool) → (((a && b) && c) && d) ≡ true → d ≡ true
spaced_words true true true d is = is
spaced_words true true false d is = absurd cc
spaced_words true false c d is = absurd cc
spaced_words false b c d is = absurd cc

pieces_some : (ps : List (List ℕ)) → list_all are_spaced ps ≡ true → AreReleases (flat_map releases_in ps)
pieces_some [] is = tt
pieces_some (p ∷ ps) is =
    all_both (λ r. (r < 10000) × (0 < r)) (releases_in p) (flat_map releases_in ps)
    (words_some (words p) (spaced_words (not (is_empty p)) (not (begins_blank p)) (not (ends_blank p))
    (list_all is_release (words p)) (left_true (are_spaced p) (list_all are_spaced ps) is)))
    (pieces_some ps (right_true (are_spaced p) (list_all are_spaced ps) is))

pub releases_some : (text : List ℕ) → are_releases text ≡ true → AreReleases (releases_of text)
releases_some text is = pieces_some (pieces text) is

-- ---- blanks at the ends of a text

begins_by : (t : Bool) (b : ℕ) (bytes : List ℕ) → (b == 32) ≡ t → begins_blank (skip_blanks bytes) ≡ false
    → begins_blank (cond t (skip_blanks bytes) (b ∷ bytes)) ≡ false
begins_by true b bytes is more = more
begins_by false b bytes is more = is

pub skipped_begins : (bytes : List ℕ) → begins_blank (skip_blanks bytes) ≡ false
unfolding skip_blanks
skipped_begins [] = refl
skipped_begins (b ∷ bytes) = begins_by (b == 32) b bytes refl (skipped_begins bytes)

alone_by : (t : Bool) (b : ℕ) → (b == 32) ≡ t → ends_blank (cond t [] (b ∷ [])) ≡ false
unfolding ends_blank
alone_by true b is = refl
alone_by false b is = is

kept_ends : (b : ℕ) (rest : List ℕ) → ends_blank rest ≡ false → ends_blank (kept b rest) ≡ false
unfolding ends_blank
kept_ends b [] more = alone_by (b == 32) b refl
kept_ends b (c ∷ rest) more = more

pub dropped_ends : (bytes : List ℕ) → ends_blank (drop_blanks bytes) ≡ false
unfolding drop_blanks ends_blank
dropped_ends [] = refl
dropped_ends (b ∷ bytes) = kept_ends b (drop_blanks bytes) (dropped_ends bytes)

ends_by : (t : Bool) (skipped all : List ℕ) → ends_blank skipped ≡ false → ends_blank all ≡ false
    → ends_blank (cond t skipped all) ≡ false
ends_by true skipped all more is = more
ends_by false skipped all more is = is

tail_ends : (b : ℕ) (bytes : List ℕ) → ends_blank (b ∷ bytes) ≡ false → ends_blank bytes ≡ false
unfolding ends_blank
tail_ends b [] is = refl
tail_ends b (c ∷ bytes) is = is

pub skipped_ends : (bytes : List ℕ) → ends_blank bytes ≡ false → ends_blank (skip_blanks bytes) ≡ false
unfolding skip_blanks
skipped_ends [] is = is
skipped_ends (b ∷ bytes) is = ends_by (b == 32) (skip_blanks bytes) (b ∷ bytes)
    (skipped_ends bytes (tail_ends b bytes is)) is
