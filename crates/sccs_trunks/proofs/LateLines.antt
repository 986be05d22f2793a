-- Turned lines are late, and what holds of the texts of lines and of what scripts put holds of the turned ones.
use Rattle.std.proofs.Common.{ℕ, suc, ◌≤◌, ◌<◌, ◌==◌, Bool, true, false, cond, List, [], ◌∷◌, ◌++◌, length, map, refl}
use Rattle.std.proofs.Common.{inl, inr, ⊎_elim, arith}
use Rattle.std.specs.List.{AllByRecursion}
use Rattle.sccs_history.specs.Numbers.{front_if}
use Rattle.sccs_history.specs.Body.{HistoryLine}
use Rattle.sccs_trunks.specs.Changes.{Change, Strike, Put, added, strikes}
use Rattle.sccs_trunks.specs.Trunks.{begun, earlier_line, head_line, is_open, settled, turned, turned_back, turned_from}
use Rattle.sccs_trunks.specs.TrunkHistories.{IsBareLine, PutsBare}
use Rattle.sccs_trunks.proofs.TurnedSets.{IsLate}

-- later lines are late for a lower bound
deleters_lower : (b m i : ℕ) (ds : List ℕ) → AllByRecursion (λ d. (suc b < d) × ((d ≤ m) × (i < d))) ds
    → AllByRecursion (λ d. (b < d) × ((d ≤ m) × (i < d))) ds
deleters_lower b m i [] each = tt
deleters_lower b m i (d ∷ ds) each = ((omega (arith, each.0.0), each.0.1), deleters_lower b m i ds each.1)

pub late_lower : (b m : ℕ) (line : HistoryLine) → IsLate (suc b) m line → IsLate b m line
late_lower b m line late = record {
  inserter = ⊎_elim (λ e. inl e) (λ high. inr (omega (arith, high.0), high.1)) late.inserter;
  deleters = deleters_lower b m line.inserter line.deleters late.deleters;
  single = late.single;
}

deleters_begun : (b m i : ℕ) (ds : List ℕ) → AllByRecursion (λ d. (suc b < d) × ((d ≤ m) × (i < d))) ds
    → AllByRecursion (λ d. (b < d) × ((d ≤ m) × (suc b < d))) ds
deleters_begun b m i [] each = tt
deleters_begun b m i (d ∷ ds) each = ((omega (arith, each.0.0), (each.0.1.0, each.0.0)), deleters_begun b m i ds each.1)

late_begun : (b m : ℕ) (strike : Bool) (line : HistoryLine) → suc b ≤ m → IsLate (suc b) m line
    → IsLate b m (begun (suc b) strike line)
late_begun b m false line le late = late_lower b m line late
late_begun b m true line le late = record {
  inserter = inr (omega arith, le);
  deleters = deleters_begun b m line.inserter line.deleters late.deleters;
  single = late.single;
}

late_earlier : (b m : ℕ) (texts : List (List ℕ)) (lines : List HistoryLine) → suc b ≤ m
    → AllByRecursion (IsLate b m) lines
    → AllByRecursion (IsLate b m) (map (earlier_line (suc b)) texts ++ lines)
late_earlier b m [] lines le rest = rest
late_earlier b m (text ∷ texts) lines le rest = (
  record { inserter = inl refl; deleters = ((omega arith, (le, omega arith)), tt); single = omega arith },
  late_earlier b m texts lines le rest,
)

late_turned_from : (b m : ℕ) (changes : List Change) (k : ℕ) (lines : List HistoryLine) → suc b ≤ m
    → AllByRecursion (IsLate (suc b) m) lines
    → AllByRecursion (IsLate b m) (turned_from (suc b) changes k lines)
late_turned_from b m changes k [] le late = tt
late_turned_from b m changes k (line ∷ lines) le late =
    by_state (is_open line) (late_turned_from b m changes (suc k) lines le late.1)
    (late_turned_from b m changes k lines le late.1)
  where
    by_state : (t : Bool) → AllByRecursion (IsLate b m) (turned_from (suc b) changes (suc k) lines)
        → AllByRecursion (IsLate b m) (turned_from (suc b) changes k lines)
        → AllByRecursion (IsLate b m)
        (cond t (begun (suc b) (strikes changes (suc k)) line ∷ (map (earlier_line (suc b)) (added changes (suc k))
        ++ turned_from (suc b) changes (suc k) lines)) (line ∷ turned_from (suc b) changes k lines))
    by_state true next same = (
      late_begun b m (strikes changes (suc k)) line le late.0,
      late_earlier b m (added changes (suc k))
          (turned_from (suc b) changes (suc k) lines) le next,
    )
    by_state false next same = (late_lower b m line late.0, same)

pub late_turned : (b m : ℕ) (changes : List Change) (lines : List HistoryLine) → suc b ≤ m
    → AllByRecursion (IsLate (suc b) m) lines
    → AllByRecursion (IsLate b m) (turned (suc b) changes lines)
late_turned b m changes lines le late =
    late_earlier b m (added changes 0) (turned_from (suc b) changes 0 lines) le
    (late_turned_from b m changes 0 lines le late)

pub late_head : (b m : ℕ) (head : List (List ℕ)) → AllByRecursion (IsLate b m) (map head_line head)
late_head b m [] = tt
late_head b m (text ∷ texts) = (
  record { inserter = inl refl; deleters = tt; single = omega arith },
  late_head b m texts,
)

-- ---- the texts of lines

abbrev pub HasBareText : HistoryLine → Type 0
HasBareText line = IsBareLine line.text

bare_front : (t : Bool) (line : List ℕ) (lines : List (List ℕ)) → IsBareLine line → AllByRecursion IsBareLine lines
    → AllByRecursion IsBareLine (front_if t line lines)
bare_front true line lines here rest = (here, rest)
bare_front false line lines here rest = rest

bare_added : (changes : List Change) (k : ℕ) → PutsBare changes → AllByRecursion IsBareLine (added changes k)
bare_added [] k puts = tt
bare_added (Strike first count ∷ changes) k puts = bare_added changes k puts
bare_added (Put after line ∷ changes) k puts = bare_front (after == k) line (added changes k) puts.0
    (bare_added changes k puts.1)

bare_earlier : (n : ℕ) (texts : List (List ℕ)) (lines : List HistoryLine) → AllByRecursion IsBareLine texts
    → AllByRecursion HasBareText lines
    → AllByRecursion HasBareText (map (earlier_line n) texts ++ lines)
bare_earlier n [] lines texts_are rest = rest
bare_earlier n (text ∷ texts) lines texts_are rest = (texts_are.0, bare_earlier n texts lines texts_are.1 rest)

bare_begun : (n : ℕ) (strike : Bool) (line : HistoryLine) → HasBareText line → HasBareText (begun n strike line)
bare_begun n true line is = is
bare_begun n false line is = is

bare_turned_from : (n : ℕ) (changes : List Change) (k : ℕ) (lines : List HistoryLine) → PutsBare changes
    → AllByRecursion HasBareText lines
    → AllByRecursion HasBareText (turned_from n changes k lines)
bare_turned_from n changes k [] puts are = tt
bare_turned_from n changes k (line ∷ lines) puts are =
    by_state (is_open line) (bare_turned_from n changes (suc k) lines puts are.1)
    (bare_turned_from n changes k lines puts are.1)
  where
    by_state : (t : Bool) → AllByRecursion HasBareText (turned_from n changes (suc k) lines)
        → AllByRecursion HasBareText (turned_from n changes k lines)
        → AllByRecursion HasBareText
        (cond t (begun n (strikes changes (suc k)) line ∷ (map (earlier_line n) (added changes (suc k))
        ++ turned_from n changes (suc k) lines)) (line ∷ turned_from n changes k lines))
    by_state true next same = (
      bare_begun n (strikes changes (suc k)) line are.0,
      bare_earlier n (added changes (suc k))
          (turned_from n changes (suc k) lines) (bare_added changes (suc k) puts) next,
    )
    by_state false next same = (are.0, same)

bare_settled : (lines : List HistoryLine) → AllByRecursion HasBareText lines → AllByRecursion HasBareText
    (map settled lines)
bare_settled [] are = tt
bare_settled (line ∷ lines) are = (bare_begun 1 (is_open line) line are.0, bare_settled lines are.1)

pub bare_back : (scripts : List (List Change)) (lines : List HistoryLine) → AllByRecursion PutsBare scripts
    → AllByRecursion HasBareText lines
    → AllByRecursion HasBareText (turned_back scripts lines)
bare_back [] lines puts are = bare_settled lines are
bare_back (changes ∷ scripts) lines puts are =
    let n = suc (suc (length scripts)) in
    bare_back scripts (turned n changes lines) puts.1 (bare_earlier n (added changes 0) (turned_from n changes 0 lines)
    (bare_added changes 0 puts.0) (bare_turned_from n changes 0 lines puts.0 are))

pub bare_head : (head : List (List ℕ)) → AllByRecursion IsBareLine head → AllByRecursion HasBareText
    (map head_line head)
bare_head [] are = tt
bare_head (text ∷ texts) are = (are.0, bare_head texts are.1)
