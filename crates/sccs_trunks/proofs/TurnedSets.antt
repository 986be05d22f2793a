-- What the sets of serials from one down to 1 show of lines that are turned back. While an inserter isn't known it is
-- 0, so
-- such a set has 0 with it.
use Rattle.std.proofs.Common.{◌≡◌, ℕ, zero, suc, ◌≤◌, ◌<◌, ◌⊎◌, ◌==◌, Bool, true, false, cond, not, ◌&&◌, ◌||◌, List}
use Rattle.std.proofs.Common.{[], ◌∷◌, ◌++◌, length, map, refl, sym, ap, ◌∙◌, ⊎_elim, arith, eq-eqb}
use Rattle.std.specs.List.{AllByRecursion}
use Rattle.std.proofs.Math.Bool.{and-false}
use Rattle.std.proofs.lemmas.Bool.{ne_eqb, cases_lt, or_right}
use Rattle.sccs_history.specs.Numbers.{front_if, has, share}
use Rattle.sccs_history.specs.Body.{HistoryLine}
use Rattle.sccs_history.specs.Select.{select, shows}
use Rattle.sccs_trunks.specs.Changes.{Change, added, strikes}
use Rattle.sccs_trunks.specs.Trunks.{begun, earlier_line, is_open, is_zero, settled, turned, turned_from}
use Rattle.sccs_trunks.specs.TrunkHistories.{down}
use Rattle.sccs_trunks.proofs.OpenTexts.{open_text}

-- the set of a serial, with 0
abbrev pub upto : ℕ → List ℕ
upto s = 0 ∷ down s

-- which numbers are there
pub down_has : (s n : ℕ) → 0 < n → n ≤ s → has (down s) n ≡ true
down_has zero n some le = absurd (omega arith)
down_has (suc s) n some le =
    ⊎_elim (λ lt. or_right (suc s == n) (has (down s) n) (down_has s n some (omega arith)))
    (λ ge. ap (λ t. t || has (down s) n) (eq-eqb (suc s) n (omega arith)))
    (cases_lt n (suc s))

pub down_lacks : (s n : ℕ) → s < n → has (down s) n ≡ false
down_lacks zero n lt = refl
down_lacks (suc s) n lt = ap (λ t. t || has (down s) n) (ne_eqb (suc s) n (λ e. omega arith))
    ∙ down_lacks s n (omega arith)

pub upto_has : (s n : ℕ) → n ≤ s → has (upto s) n ≡ true
upto_has s zero le = refl
upto_has s (suc n) le = or_right (0 == suc n) (has (down s) (suc n)) (down_has s (suc n) (omega arith) le)

-- 0 makes a difference at 0 alone
pub upto_down : (s n : ℕ) → 0 < n → has (upto s) n ≡ has (down s) n
upto_down s n some = ap (λ t. t || has (down s) n) (ne_eqb 0 n (λ e. omega arith))

upto_lacks : (s n : ℕ) → s < n → has (upto s) n ≡ false
upto_lacks s n lt = upto_down s n (omega arith) ∙ down_lacks s n lt

-- ---- a script whose serial is in the set changes nothing of what it shows

hidden_earlier : (set : List ℕ) (n : ℕ) (texts : List (List ℕ)) (lines : List HistoryLine) → has set n ≡ true
    → select set (map (earlier_line n) texts ++ lines) ≡ select set lines
hidden_earlier set n [] lines there = refl
hidden_earlier set n (text ∷ texts) lines there =
    ap (λ t. front_if t text (select set (map (earlier_line n) texts ++ lines)))
    (ap (λ t. has set 0 && not (t || false)) there ∙ and-false (has set 0))
    ∙ hidden_earlier set n texts lines there

zero_is : (line : HistoryLine) → is_open line ≡ true → line.inserter ≡ 0
zero_is line opened = by_number line.inserter opened
  where
    by_number : (n : ℕ) → is_zero n ≡ true → n ≡ 0
    by_number zero e = refl
    by_number (suc n) e = absurd (Rattle.std.proofs.lemmas.Bool.false≢true e)

shows_begun : (set : List ℕ) (n : ℕ) (strike : Bool) (line : HistoryLine) → has set 0 ≡ true → has set n ≡ true
    → is_open line ≡ true
    → shows set (begun n strike line) ≡ shows set line
shows_begun set n false line zero_there there opened = refl
shows_begun set n true line zero_there there opened =
    ap (λ t. t && not (share line.deleters set)) (there ∙ sym (ap (λ k. has set k) (zero_is line opened) ∙ zero_there))

text_begun : (n : ℕ) (strike : Bool) (line : HistoryLine) → (begun n strike line).text ≡ line.text
text_begun n true line = refl
text_begun n false line = refl

select_begun : (set : List ℕ) (n : ℕ) (strike : Bool) (line : HistoryLine) (rest : List HistoryLine) → has set 0 ≡ true
    → has set n ≡ true → is_open line ≡ true
    → select set (begun n strike line ∷ rest) ≡ front_if (shows set line) line.text (select set rest)
select_begun set n strike line rest zero_there there opened =
    ap (λ t. front_if t (begun n strike line).text (select set rest)) (shows_begun set n strike line zero_there there
    opened)
    ∙ ap (λ text. front_if (shows set line) text (select set rest)) (text_begun n strike line)

select_turned_from : (set : List ℕ) (n : ℕ) (changes : List Change) (k : ℕ) (lines : List HistoryLine)
    → has set 0 ≡ true → has set n ≡ true
    → select set (turned_from n changes k lines) ≡ select set lines
select_turned_from set n changes k [] zero_there there = refl
select_turned_from set n changes k (line ∷ lines) zero_there there =
    by_state (is_open line) refl (select_turned_from set n changes (suc k) lines zero_there there)
    (select_turned_from set n changes k lines zero_there there)
  where
    by_state : (t : Bool) → is_open line ≡ t
        → select set (turned_from n changes (suc k) lines) ≡ select set lines
        → select set (turned_from n changes k lines) ≡ select set lines
        → select set (cond t (begun n (strikes changes (suc k)) line ∷ (map (earlier_line n) (added changes (suc k))
        ++ turned_from n changes (suc k) lines)) (line ∷ turned_from n changes k lines))
        ≡ front_if (shows set line) line.text (select set lines)
    by_state true opened next same =
        select_begun set n (strikes changes (suc k)) line (map (earlier_line n) (added changes (suc k))
        ++ turned_from n changes (suc k) lines) zero_there there opened
        ∙ ap (λ l. front_if (shows set line) line.text l) (hidden_earlier set n (added changes (suc k))
        (turned_from n changes (suc k) lines) there ∙ next)
    by_state false closed next same = ap (λ l. front_if (shows set line) line.text l) same

pub select_turned : (set : List ℕ) (n : ℕ) (changes : List Change) (lines : List HistoryLine) → has set 0 ≡ true
    → has set n ≡ true
    → select set (turned n changes lines) ≡ select set lines
select_turned set n changes lines zero_there there =
    hidden_earlier set n (added changes 0) (turned_from n changes 0 lines) there
    ∙ select_turned_from set n changes 0 lines zero_there there

-- ---- lines of which all serials are above a bound

-- A line that is turned back as far as a bound: its inserter isn't known or is from above the bound to m, its deleters
-- are,
-- and above the inserter, and it has at most one.
pub record IsLate (b m : ℕ) (line : HistoryLine) : Type 0 where
  pub inserter : (line.inserter ≡ 0) ⊎ ((b < line.inserter) × (line.inserter ≤ m))
  pub deleters : AllByRecursion (λ d. (b < d) × ((d ≤ m) × (line.inserter < d))) line.deleters
  pub single : length line.deleters ≤ 1

share_late : (b m i : ℕ) (ds : List ℕ) (s : ℕ) → s ≤ b → AllByRecursion (λ d. (b < d) × ((d ≤ m) × (i < d))) ds
    → share ds (upto s) ≡ false
share_late b m i [] s le each = refl
share_late b m i (d ∷ ds) s le each =
    ap (λ t. t || share ds (upto s)) (upto_lacks s d (omega (arith, each.0.0))) ∙ share_late b m i ds s le each.1

shows_late : (b m : ℕ) (line : HistoryLine) (s : ℕ) → s ≤ b → IsLate b m line → shows (upto s) line ≡ is_open line
shows_late b m line s le late =
    ap (λ t. has (upto s) line.inserter && not t) (share_late b m line.inserter line.deleters s le late.deleters)
    ∙ ⊎_elim (λ e. ap (λ n. has (upto s) n && true) e ∙ sym (ap is_zero e))
    (λ high. ap (λ t. t && true) (upto_lacks s line.inserter (omega (arith, high.0)))
    ∙ sym (not_zero line.inserter (omega (arith, high.0))))
    late.inserter
  where
    not_zero : (n : ℕ) → 0 < n → is_zero n ≡ false
    not_zero zero some = absurd (omega arith)
    not_zero (suc n) some = refl

-- a set below all serials shows the open lines
pub select_late : (b m : ℕ) (lines : List HistoryLine) (s : ℕ) → s ≤ b → AllByRecursion (IsLate b m) lines
    → select (upto s) lines ≡ open_text lines
select_late b m [] s le late = refl
select_late b m (line ∷ lines) s le late =
    ap (λ t. front_if t line.text (select (upto s) lines)) (shows_late b m line s le late.0)
    ∙ ap (λ l. front_if (is_open line) line.text l) (select_late b m lines s le late.1)

-- ---- lines at the end

share_settled : (b m i : ℕ) (ds : List ℕ) (s : ℕ) → AllByRecursion (λ d. (b < d) × ((d ≤ m) × (i < d))) ds
    → share ds (down s) ≡ share ds (upto s)
share_settled b m i [] s each = refl
share_settled b m i (d ∷ ds) s each =
    ap (λ t. t || share ds (down s)) (sym (upto_down s d (omega (arith, each.0.0)))) ∙ ap (λ t. has (upto s) d || t)
    (share_settled b m i ds s each.1)

pub shows_settled : (b m : ℕ) (line : HistoryLine) (s : ℕ) → 1 ≤ s → IsLate b m line → shows (down s) (settled line)
    ≡ shows (upto s) line
shows_settled b m line s some late = by_state (is_open line) refl
  where
    inserters_alike : (t : Bool) → is_open line ≡ t → has (down s) (begun 1 t line).inserter ≡ has
        (upto s) line.inserter
    inserters_alike true opened = down_has s 1 (omega arith) some ∙ sym (ap (λ k. has (upto s) k) (zero_is line opened))
    inserters_alike false closed = sym (upto_down s line.inserter (some_is line.inserter closed))
      where
        some_is : (n : ℕ) → is_zero n ≡ false → 0 < n
        some_is zero e = absurd (Rattle.std.proofs.lemmas.Bool.false≢true (sym e))
        some_is (suc n) e = omega arith

    deleters_same : (t : Bool) → (begun 1 t line).deleters ≡ line.deleters
    deleters_same true = refl
    deleters_same false = refl

    by_state : (t : Bool) → is_open line ≡ t → shows (down s) (begun 1 t line) ≡ shows (upto s) line
    by_state t e =
        ap (λ u. u && not (share (begun 1 t line).deleters (down s))) (inserters_alike t e)
        ∙ ap (λ u. has (upto s) line.inserter && not u) (ap (λ ds. share ds (down s)) (deleters_same t)
        ∙ share_settled b m line.inserter line.deleters s late.deleters)

pub select_settled : (b m : ℕ) (lines : List HistoryLine) (s : ℕ) → 1 ≤ s → AllByRecursion (IsLate b m) lines
    → select (down s) (map settled lines) ≡ select (upto s) lines
select_settled b m [] s some late = refl
select_settled b m (line ∷ lines) s some late =
    ap (λ t. front_if t (settled line).text (select (down s) (map settled lines)))
    (shows_settled b m line s some late.0)
    ∙ (ap (λ text. front_if (shows (upto s) line) text (select (down s) (map settled lines)))
    (text_begun 1 (is_open line) line)
    ∙ ap (λ l. front_if (shows (upto s) line) line.text l) (select_settled b m lines s some late.1))
