-- Whole text lines at the front of bytes, and how they are cut.
use Rattle.std.proofs.Common.{inl, inr, length-drop, ◌≡◌, ◌≢◌, ℕ, zero, suc, ◌+◌, ◌-◌, ◌<◌, ◌≤◌, Bool, true, false}
use Rattle.std.proofs.Common.{◌==◌, List, [], ◌∷◌, ◌++◌, length, take, drop, Option, get_or, eq-eqb, refl, sym, ap, ◌∙◌}
use Rattle.std.proofs.Common.{subst, arith}
use Rattle.std.specs.Prelude.{if◌then◌else◌}
use Rattle.std.proofs.lemmas.Bool.{cases_lt, eqb-true, ne_eqb}
use Rattle.std.proofs.lemmas.List.Sums.{sum_by-append, sum_by-cons}
use Rattle.std.proofs.lemmas.List.{append-nil, get_or-drop, get_or-take, drop-take, drop-drop, take-take}
use Rattle.std.proofs.lemmas.List.{take-append-drop}
use Rattle.sccs_base.specs.Cut.{Cut, HasNoLf, cut, before, longer}
use Rattle.sccs_base.proofs.Cuts.{no_lf_all}
use Rattle.sccs_sid.specs.SidLists.{begins}
use Rattle.sccs_history.specs.History.{AreBare}
use Rattle.sccs_tokens.specs.Written.{bytes_of}
use Rattle.sccs_table.specs.Runs.{HasNoMark, HasNoRun, IsMark, IsRun, PassesRun, lf_count}
use Rattle.sccs_table.specs.ReaderState.{ReaderState, StandsIn, Stays}
use Rattle.sccs_table.proofs.ReaderLaws.{Kept, stands_behind}

-- ---- how many lines end

line_more : (b : ℕ) (lines : List (List ℕ)) (tail : List ℕ) → length lines ≡ length (longer b lines tail).lines
line_more b [] tail = refl
line_more b (line ∷ lines) tail = refl

counted_by : (test : Bool) (b : ℕ) (c : Cut) → (if test then 1 else 0) + length c.lines ≡ length (before test b c).lines
counted_by true b c = omega arith
counted_by false b c = let same = line_more b c.lines c.tail in omega (arith, same)

abbrev lf : ℕ → ℕ
lf b = if b == 10 then 1 else 0

-- a line ends at each LF
pub lines_are : (bytes : List ℕ) → lf_count bytes ≡ length (cut bytes).lines
unfolding cut
lines_are [] = refl
lines_are (b ∷ bytes) = sum_by-cons lf b bytes ∙ (ap (λ n. lf b + n) (lines_are bytes) ∙ counted_by (b == 10) b
    (cut bytes))

pub lf_count_append : (front rest : List ℕ) → lf_count (front ++ rest) ≡ lf_count front + lf_count rest
lf_count_append front rest = sum_by-append lf front rest

longer_bound : (b : ℕ) (lines : List (List ℕ)) (tail : List ℕ) (n : ℕ) → length lines ≤ n
    → length (longer b lines tail).lines ≤ suc n
longer_bound b [] tail n few = omega arith
longer_bound b (line ∷ lines) tail n few = omega arith

bound_by : (test : Bool) (b : ℕ) (c : Cut) (n : ℕ) → length c.lines ≤ n → length (before test b c).lines ≤ suc n
bound_by true b c n few = omega arith
bound_by false b c n few = longer_bound b c.lines c.tail n few

-- each line has a byte at least, its LF
pub lines_bound : (bytes : List ℕ) → length (cut bytes).lines ≤ length bytes
unfolding cut
lines_bound [] = omega arith
lines_bound (b ∷ bytes) = bound_by (b == 10) b (cut bytes) (length bytes) (lines_bound bytes)

pub lf_count_bound : (bytes : List ℕ) → lf_count bytes ≤ length bytes
lf_count_bound bytes = let same = lines_are bytes in omega (arith, same, lines_bound bytes)

-- one part more
pub parts_on : (count more : ℕ) (bytes rest part behind : List ℕ) (n : ℕ) → part ≡ take n rest → behind ≡ drop n rest
    → more ≡ lf_count part → count + lf_count rest ≡ lf_count bytes → count + more + lf_count behind ≡ lf_count bytes
parts_on count more bytes rest part behind n front back is all =
    let whole : lf_count rest ≡ lf_count (take n rest) + lf_count (drop n rest) =
    ap lf_count (sym (take-append-drop n rest)) ∙ lf_count_append (take n rest) (drop n rest) in
    let here : lf_count part ≡ lf_count (take n rest) = ap lf_count front in
    let there : lf_count behind ≡ lf_count (drop n rest) = ap lf_count back in
    omega (arith, whole, here, there, is, all)

-- ---- whole lines before other bytes

abbrev behind : List (List ℕ) → Cut → Cut
behind lines rest = record { lines = lines ++ rest.lines; tail = rest.tail }

append_other : (b : ℕ) (lines : List (List ℕ)) (tail : List ℕ) (rest whole : Cut)
    → (tail ≡ [] → whole ≡ behind lines rest) → (longer b lines tail).tail ≡ []
    → longer b whole.lines whole.tail ≡ behind (longer b lines tail).lines rest
append_other b [] tail rest whole on none = cc
append_other b (line ∷ lines) tail rest whole on none = ap (λ (c : Cut). longer b c.lines c.tail) (on none)

append_by : (test : Bool) (b : ℕ) (c rest whole : Cut) → (c.tail ≡ [] → whole ≡ behind c.lines rest)
    → (before test b c).tail ≡ [] → before test b whole ≡ behind (before test b c).lines rest
append_by true b c rest whole on none = ap (before true b) (on none)
append_by false b c rest whole on none = append_other b c.lines c.tail rest whole on none

pub cut_append : (run rest : List ℕ) → (cut run).tail ≡ []
    → cut (run ++ rest) ≡ record { lines = (cut run).lines ++ (cut rest).lines; tail = (cut rest).tail }
unfolding cut
cut_append [] rest none = refl
cut_append (b ∷ run) rest none = append_by (b == 10) b (cut run) (cut rest) (cut (run ++ rest)) (cut_append run rest)
    none

-- ---- what is cut, put together again

abbrev joined : Cut → List ℕ
joined c = bytes_of c.lines ++ c.tail

joined_other : (b : ℕ) (lines : List (List ℕ)) (tail : List ℕ) → b ∷ bytes_of lines ++ tail ≡ joined
    (longer b lines tail)
joined_other b [] tail = refl
joined_other b (line ∷ lines) tail = refl

joined_by : (test : Bool) (b : ℕ) (c : Cut) → (b == 10) ≡ test → b ∷ joined c ≡ joined (before test b c)
joined_by true b c is = ap (λ n. n ∷ joined c) (eqb-true b 10 is)
joined_by false b c is = joined_other b c.lines c.tail

pub cut_joined : (bytes : List ℕ) → bytes ≡ bytes_of (cut bytes).lines ++ (cut bytes).tail
unfolding cut
cut_joined [] = refl
cut_joined (b ∷ bytes) = ap (λ more. b ∷ more) (cut_joined bytes) ∙ joined_by (b == 10) b (cut bytes) refl

-- the bytes of a run are its lines, each with LF
pub run_bytes : (run : List ℕ) → (cut run).tail ≡ [] → run ≡ bytes_of (cut run).lines
run_bytes run none = cut_joined run ∙ (ap (λ tail. bytes_of (cut run).lines ++ tail) none
    ∙ append-nil (bytes_of (cut run).lines))

-- ---- a run, byte by byte

-- no byte behind LF is SOH, and the last one is LF; a start is as behind LF
abbrev Sound : Bool → List ℕ → Type 0
Sound true [] = Unit {0}
Sound false [] = ⊥
Sound start (b ∷ bytes) = (start ≡ true → (b == 1) ≡ false) × Sound (b == 10) bytes

-- the lines behind a start, or those behind the one that goes on
abbrev BareFrom : Bool → List (List ℕ) → Type 0
BareFrom true lines = AreBare lines
BareFrom false [] = ⊥
BareFrom false (line ∷ lines) = AreBare lines

abbrev RunFrom : Bool → Cut → Type 0
RunFrom start c = (c.tail ≡ []) × BareFrom start c.lines

bare_first : (start : Bool) (b : ℕ) (line : List ℕ) (lines : List (List ℕ)) → (start ≡ true → (b == 1) ≡ false)
    → AreBare lines → BareFrom start ((b ∷ line) ∷ lines)
bare_first true b line lines first are = (first refl, are)
bare_first false b line lines first are = are

run_other : (start : Bool) (b : ℕ) (lines : List (List ℕ)) (tail : List ℕ) → (start ≡ true → (b == 1) ≡ false)
    → (tail ≡ []) × BareFrom false lines → RunFrom start (longer b lines tail)
run_other start b [] tail first run = absurd run.1
run_other start b (line ∷ lines) tail first run = (run.0, bare_first start b line lines first run.1)

empty_first : (start : Bool) (lines : List (List ℕ)) → AreBare lines → BareFrom start ([] ∷ lines)
empty_first true lines are = (refl, are)
empty_first false lines are = are

run_by : (test start : Bool) (b : ℕ) (c : Cut) → (start ≡ true → (b == 1) ≡ false) → RunFrom test c
    → RunFrom start (before test b c)
run_by true start b c first run = (run.0, empty_first start c.lines run.1)
run_by false start b c first run = run_other start b c.lines c.tail first run

run_of : (start : Bool) (bytes : List ℕ) → Sound start bytes → RunFrom start (cut bytes)
unfolding cut
run_of true [] sound = (refl, tt)
run_of false [] sound = absurd sound
run_of true (b ∷ bytes) sound = run_by (b == 10) true b (cut bytes) sound.0 (run_of (b == 10) bytes sound.1)
run_of false (b ∷ bytes) sound = run_by (b == 10) false b (cut bytes) sound.0 (run_of (b == 10) bytes sound.1)

-- the place is the start, or behind LF
abbrev EndsAt : Bool → List ℕ → ℕ → Type 0
EndsAt start bytes zero = start ≡ true
EndsAt start bytes (suc n) = get_or bytes n 0 ≡ 10

ends_later : (b : ℕ) (bytes : List ℕ) (n : ℕ) → get_or (b ∷ bytes) n 0 ≡ 10 → EndsAt (b == 10) bytes n
ends_later b bytes zero is = eq-eqb b 10 is
ends_later b bytes (suc n) is = is

first_bare : (b : ℕ) (bytes : List ℕ) (n : ℕ) → HasNoMark (b ∷ bytes) (suc n) → 0 < n → (b == 10) ≡ true
    → begins 1 bytes ≡ false
first_bare b [] n none some is = refl
first_bare b (c ∷ bytes) n none some is = ne_eqb c 1 (none 0 (omega arith) (eqb-true b 10 is))

sound_nil : (start : Bool) → start ≡ true → Sound start []
sound_nil true is = tt
sound_nil false is = cc

sound_more : (start : Bool) (b : ℕ) (bytes : List ℕ) → (start ≡ true → (b == 1) ≡ false) → Sound (b == 10) bytes
    → Sound start (b ∷ bytes)
sound_more true b bytes first sound = (first, sound)
sound_more false b bytes first sound = (first, sound)

sound_front : (start : Bool) (bytes : List ℕ) (n : ℕ) → n ≤ length bytes
    → (0 < n → start ≡ true → begins 1 bytes ≡ false) → HasNoMark bytes n → EndsAt start bytes n
    → Sound start (take n bytes)
sound_front start bytes zero fits first none ends = sound_nil start ends
sound_front start [] (suc n) fits first none ends = absurd (omega arith)
sound_front start (b ∷ bytes) (suc n) fits first none ends =
    sound_more start b (take n bytes) (first (omega arith))
    (sound_front (b == 10) bytes n (omega arith) (first_bare b bytes n none) (λ k below is. none (suc k)
    (omega arith) is) (ends_later b bytes n ends))

-- bytes up to behind an LF are a run where none of their lines begins with SOH
run_front : (bytes : List ℕ) (at : ℕ) → at < length bytes → begins 1 bytes ≡ false → HasNoMark bytes (at + 1)
    → get_or bytes at 0 ≡ 10 → IsRun (take (at + 1) bytes)
run_front bytes at below first none is =
    let one : suc at ≡ at + 1 = omega arith in
    subst (λ n. IsRun (take n bytes)) one (run_of true (take (suc at) bytes) (sound_front true bytes (suc at)
    (omega arith) (λ some start. first) (subst (λ n. HasNoMark bytes n) (sym one) none) is))

pub no_run : IsRun []
unfolding cut
no_run = (refl, tt)

-- ---- where the searches end

-- one place more without a mark
no_mark_from : (bytes : List ℕ) (from at k : ℕ) → ((k : ℕ) → 0 ≤ k → k < at → get_or (drop from bytes) k 0 ≢ 1)
    → from ≤ suc k → suc k < from + at → get_or bytes (suc k) 0 ≢ 1
no_mark_from bytes from at k before low below =
    let there : get_or (drop from bytes) (suc k - from) 0 ≡ get_or bytes (suc k) 0 =
    get_or-drop from bytes (suc k - from) 0 ∙ ap (λ n. get_or bytes n 0) (omega arith) in
    λ is. before (suc k - from) (omega arith) (omega arith) (there ∙ is)

no_mark_at : (bytes : List ℕ) (from at k : ℕ) → (0 < from + at → get_or bytes (from + at - 1) 0 ≢ 10)
    → suc k ≡ from + at → get_or bytes k 0 ≢ 10
no_mark_at bytes from at k last is =
    let here : k ≡ from + at - 1 = omega arith in
    λ lf. last (omega arith) (sym (ap (λ n. get_or bytes n 0) here) ∙ lf)

pub no_mark_on : (bytes : List ℕ) (from at : ℕ) → HasNoMark bytes from → ((k : ℕ) → 0 ≤ k → k < at
    → get_or (drop from bytes) k 0 ≢ 1) → (0 < from + at → get_or bytes (from + at - 1) 0 ≢ 10)
    → HasNoMark bytes (from + at + 1)
no_mark_on bytes from at none before last k below lf = elim (cases_lt (suc k) from) [
  | inl low ↦ none k low lf
  | inr high ↦ elim (cases_lt (suc k) (from + at)) [
    | inl low ↦ no_mark_from bytes from at k before high low
    | inr past ↦ absurd (no_mark_at bytes from at k last (omega arith) lf)
  ]
]

-- no SOH is left, so no mark either
pub no_mark_to : (bytes : List ℕ) (from n : ℕ) → n ≤ length bytes → HasNoMark bytes from
    → ((k : ℕ) → 0 ≤ k → k < n - from → get_or (drop from bytes) k 0 ≢ 1) → HasNoMark bytes n
no_mark_to bytes from n fits none before k below lf = elim (cases_lt (suc k) from) [
  | inl low ↦ none k low lf
  | inr high ↦ no_mark_from bytes from (n - from) k before high (omega arith)
]

soh_first : (bytes : List ℕ) (n : ℕ) → n < length bytes → get_or bytes n 0 ≡ 1 → begins 1 (drop n bytes) ≡ true
soh_first [] n below is = absurd (omega arith)
soh_first (b ∷ bytes) zero below is = eq-eqb b 1 is
soh_first (b ∷ bytes) (suc n) below is = soh_first bytes n (omega arith) is

-- bytes up to the last LF before a mark, or before the end
pub run_to : (bytes : List ℕ) (end at : ℕ) → end ≤ length bytes → begins 1 bytes ≡ false → HasNoMark bytes end
    → at < end → get_or (take end bytes) at 0 ≡ 10 → IsRun (take (at + 1) bytes)
run_to bytes end at fits first none below is =
    run_front bytes at (omega arith) first (λ k low. none k (omega arith)) (sym (get_or-take end bytes at 0 below) ∙ is)

-- up to a mark all lines are whole, and behind them stands SOH
pub run_to_mark : (bytes : List ℕ) (end : ℕ) → end < length bytes → begins 1 bytes ≡ false → HasNoMark bytes end
    → IsMark bytes end → IsRun (take end bytes)
run_to_mark bytes end short bare first mark =
    let last : end - 1 + 1 ≡ end = omega (arith, mark.0) in
    subst (λ n. IsRun (take n bytes)) last (run_front bytes (end - 1) (omega (arith, mark.0)) bare
    (subst (λ n. HasNoMark bytes n) (sym last) first) mark.1)

pub mark_stops : (bytes : List ℕ) (end : ℕ) → end < length bytes → IsMark bytes end → HasNoRun (drop end bytes)
mark_stops bytes end short mark = inl (soh_first bytes end short mark.2)

no_lf_behind : (bytes : List ℕ) (n : ℕ) → ((k : ℕ) → n ≤ k → k < length bytes → get_or bytes k 0 ≢ 10)
    → HasNoLf (drop n bytes)
no_lf_behind bytes n none = no_lf_all (drop n bytes) (λ k below is. none (n + k) (omega arith)
    (omega (arith, length-drop n bytes)) (sym (get_or-drop n bytes k 0) ∙ is))

-- behind the last LF before a mark stands the mark
mark_next : (bytes : List ℕ) (end at : ℕ) → end < length bytes → IsMark bytes end → at < end
    → ((k : ℕ) → at + 1 ≤ k → k < end → get_or (take end bytes) k 0 ≢ 10) → at + 1 ≡ end
mark_next bytes end at short mark below after = elim (cases_lt (at + 1) end) [
  | inl low ↦ absurd (after (end - 1) (omega arith) (omega arith) (get_or-take end bytes (end - 1) 0 (omega arith)
      ∙ mark.1))
  | inr high ↦ omega arith
]

pub longest_to : (bytes : List ℕ) (end at : ℕ) → end ≤ length bytes → (end < length bytes → IsMark bytes end) → at < end
    → ((k : ℕ) → at + 1 ≤ k → k < end → get_or (take end bytes) k 0 ≢ 10) → HasNoRun (drop (at + 1) bytes)
longest_to bytes end at fits mark below after = elim (cases_lt end (length bytes)) [
  | inl short ↦
      let next = mark_next bytes end at short (mark short) below after in
      inl (subst (λ n. begins 1 (drop n bytes) ≡ true) (sym next) (soh_first bytes end short (mark short).2))
  | inr all ↦ inr (no_lf_behind bytes (at + 1) (λ k low high is. after k low (omega arith) (get_or-take end bytes k 0
      (omega arith) ∙ is)))
]

-- without an LF before a mark there is none
pub longest_none : (bytes : List ℕ) (end : ℕ) → end ≤ length bytes → (end < length bytes → IsMark bytes end)
    → ((k : ℕ) → 0 ≤ k → k < end → get_or (take end bytes) k 0 ≢ 10) → HasNoRun (drop 0 bytes)
longest_none bytes end fits mark none = elim (cases_lt end (length bytes)) [
  | inl short ↦
      let here = mark short in
      absurd (none (end - 1) (omega arith) (omega (arith, here.0)) (get_or-take end bytes (end - 1) 0
      (omega (arith, here.0)) ∙ here.1))
  | inr all ↦ inr (no_lf_behind bytes 0 (λ k low high is. none k low (omega arith) (get_or-take end bytes k 0
      (omega arith) ∙ is)))
]

-- ---- a run that is passed over

held_later : (old : ReaderState) (file : List ℕ) (count : ℕ) → count ≤ length old.held → StandsIn old file
    → drop count old.held ≡ take (length old.held - count) (drop (old.place + count) file)
held_later old file count fits stands =
    let room : length old.held ≡ count + (length old.held - count) = omega arith in
    ap (drop count) stands.held
    ∙ (ap (λ n. drop count (take n (drop old.place file))) room
    ∙ (drop-take count (length old.held - count) (drop old.place file) ∙ ap (take (length old.held - count))
    (drop-drop count old.place file)))

passed_stands : (old new : ReaderState) (file : List ℕ) (count : ℕ) → count ≤ length old.held → Kept old new
    → new.held ≡ drop count old.held → new.place ≡ old.place + count → StandsIn old file → StandsIn new file
passed_stands old new file count fits kept held_is place_is stands =
    let long : length new.held ≡ length old.held - count = ap length held_is ∙ length-drop count old.held in
    let place : old.place + count ≡ new.place = sym place_is in
    stands_behind old new file kept (omega arith)
    (held_is
    ∙ (held_later old file count fits stands
    ∙ (ap (λ n. take n (drop (old.place + count) file)) (sym long) ∙ ap (λ n. take (length new.held) (drop n file))
    place))) stands

passed_bytes : (old new : ReaderState) (file : List ℕ) (count : ℕ) → count ≤ length old.held
    → new.place ≡ old.place + count → StandsIn old file → drop old.place file ≡ take count old.held
    ++ drop new.place file
passed_bytes old new file count fits place_is stands =
    let front : take count (drop old.place file) ≡ take count old.held = sym (ap (take count) stands.held
    ∙ take-take count (length old.held) (drop old.place file) fits) in
    sym (take-append-drop count (drop old.place file))
    ∙ (ap (λ bytes. bytes ++ drop count (drop old.place file)) front
    ∙ ap (λ rest. take count old.held ++ rest) (drop-drop count old.place file ∙ ap (λ n. drop n file) (sym place_is)))

-- a reader that passed over some of what it held still stands
pub passed_stays : (o : Option (List ℕ)) (old new : ReaderState) (count : ℕ) → count ≤ length old.held → Kept old new
    → new.held ≡ drop count old.held → new.place ≡ old.place + count → Stays o old new
passed_stays o old new count fits kept held_is place_is file is stands =
    passed_stands old new file count fits kept held_is place_is stands

-- what is left of the file begins with the lines of the run
pub run_passed : (old new : ReaderState) (file : List ℕ) (count : ℕ) → count ≤ length old.held
    → (cut (take count old.held)).tail ≡ [] → Kept old new → new.held ≡ drop count old.held
    → new.place ≡ old.place + count
    → PassesRun (take count old.held) file old new
run_passed old new file count fits none kept held_is place_is = λ stands. (
  passed_stands old new file count fits kept held_is place_is stands,
  ap cut (passed_bytes old new file count fits place_is stands) ∙ cut_append (take count old.held) (drop new.place file)
      none,
)
