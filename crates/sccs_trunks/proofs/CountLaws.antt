-- The counts of each serial, by the lines of the version before it.
use Rattle.std.proofs.Common.{◌≡◌, ℕ, zero, suc, ◌+◌, ◌-◌, ◌≤◌, ◌<◌, ◌==◌, ◌⊎◌, Bool, true, false, cond, not, ◌&&◌}
use Rattle.std.proofs.Common.{◌||◌, List, [], ◌∷◌, length, replicate, slice_get, Some, inl, inr, refl, sym, ap, ◌∙◌}
use Rattle.std.proofs.Common.{arith, eq-eqb}
use Rattle.std.specs.List.{AllByRecursion}
use Rattle.std.proofs.lemmas.Bool.{cases_lt, ne_eqb}
use Rattle.std.proofs.lemmas.List.Sums.{sum_by-cons}
use Rattle.sccs_history.specs.Numbers.{front_if, has, share}
use Rattle.sccs_history.specs.Body.{HistoryLine}
use Rattle.sccs_history.specs.Select.{select, shows}
use Rattle.sccs_script_laws.specs.Weave.{deleted, inserted}
use Rattle.sccs_trunks.specs.Changes.{Change}
use Rattle.sccs_trunks.specs.Trunks.{trunk_lines}
use Rattle.sccs_trunks.specs.TrunkHistories.{down}
use Rattle.sccs_trunks.proofs.TrunkValid.{IsFinal, final_trunk}
use Rattle.sccs_trunks.proofs.TurnedSets.{down_has, down_lacks}
use Rattle.sccs_trunks.specs.Counts.{IsInOrder, counts_at, counts_from, no_lines, tally_of, with_more}
use Rattle.sccs_trunks.specs.declared.counts.LineCounts.{LineCounts}
use Rattle.sccs_trunks.specs.declared.counts.Tally.{Tally}

abbrev one_if : Bool → ℕ
one_if t = cond t 1 0

-- ---- one line

-- the next serial is there where it is the line's inserter
inserter_next : (s i : ℕ) → 0 < i → one_if (has (down (suc s)) i) ≡ one_if (has (down s) i) + one_if (i == suc s)
inserter_next s i some = by_place (cases_lt i (suc s))
  where
    by_place : (i < suc s) ⊎ (suc s ≤ i) → one_if (has (down (suc s)) i) ≡ one_if (has (down s) i) + one_if (i == suc s)
    by_place (inl lt) =
        let now : one_if (has (down (suc s)) i) ≡ 1 = ap one_if (down_has (suc s) i some (omega arith)) in
        let before : one_if (has (down s) i) ≡ 1 = ap one_if (down_has s i some (omega arith)) in
        let other : one_if (i == suc s) ≡ 0 = ap one_if (ne_eqb i (suc s) (λ e. omega (arith, e))) in
        omega (arith, now, before, other)
    by_place (inr ge) = by_high (cases_lt (suc s) i)
      where
        before : one_if (has (down s) i) ≡ 0
        before = ap one_if (down_lacks s i (omega arith))

        by_high : (suc s < i) ⊎ (i ≤ suc s) → one_if (has (down (suc s)) i) ≡ one_if (has (down s) i) + one_if
            (i == suc s)
        by_high (inl gt) =
            let now : one_if (has (down (suc s)) i) ≡ 0 = ap one_if (down_lacks (suc s) i gt) in
            let other : one_if (i == suc s) ≡ 0 = ap one_if (ne_eqb i (suc s) (λ e. omega (arith, e))) in
            omega (arith, now, before, other)
        by_high (inr le) =
            let now : one_if (has (down (suc s)) i) ≡ 1 = ap one_if (down_has (suc s) i some le) in
            let same : one_if (i == suc s) ≡ 1 = ap one_if (eq-eqb i (suc s) (omega arith)) in
            omega (arith, now, before, same)

shown : (set : List ℕ) (i d : ℕ) (t : Bool) → has set d ≡ t → one_if (has set i && not (has set d || false)) ≡ cond t 0
    (one_if (has set i))
shown set i d t is = ap (λ u. one_if (has set i && not (u || false))) is ∙ by_tests t (has set i)
  where
    by_tests : (u v : Bool) → one_if (v && not (u || false)) ≡ cond u 0 (one_if v)
    by_tests true true = refl
    by_tests true false = refl
    by_tests false true = refl
    by_tests false false = refl

shown_alone : (set : List ℕ) (i : ℕ) → one_if (has set i && true) ≡ one_if (has set i)
shown_alone set i = by_test (has set i)
  where
    by_test : (v : Bool) → one_if (v && true) ≡ one_if v
    by_test true = refl
    by_test false = refl

-- by the numbers of a line
record Numbers (s i : ℕ) (ds : List ℕ) : Type 0 where
  balance : one_if (has (down (suc s)) i && not (share ds (down (suc s)))) + one_if (has ds (suc s)) ≡ one_if
      (has (down s) i && not (share ds (down s))) + one_if (i == suc s)
  within : one_if (i == suc s) ≤ one_if (has (down (suc s)) i && not (share ds (down (suc s))))

open_steps : (s i : ℕ) → 0 < i → Numbers s i []
open_steps s i some =
    let next = inserter_next s i some in
    record {
      balance = omega (arith, next, shown_alone (down (suc s)) i, shown_alone (down s) i);
      within =
          omega (arith, next, shown_alone (down (suc s)) i);
    }

deleted_steps : (s i d : ℕ) → 0 < i → i < d → Numbers s i (d ∷ [])
deleted_steps s i d some above = by_place (cases_lt d (suc s))
  where
    next : one_if (has (down (suc s)) i) ≡ one_if (has (down s) i) + one_if (i == suc s)
    next = inserter_next s i some

    is_it : (t : Bool) → (d == suc s) ≡ t → one_if (d == suc s || false) ≡ one_if t
    is_it true e = ap (λ t. one_if (t || false)) e
    is_it false e = ap (λ t. one_if (t || false)) e

    by_place : (d < suc s) ⊎ (suc s ≤ d) → Numbers s i (d ∷ [])
    by_place (inl lt) =
        let now = shown (down (suc s)) i d true (down_has (suc s) d (omega arith) (omega arith)) in
        let before = shown (down s) i d true (down_has s d (omega arith) (omega arith)) in
        let not_it = is_it false (ne_eqb d (suc s) (λ e. omega (arith, e))) in
        let other : one_if (i == suc s) ≡ 0 = ap one_if (ne_eqb i (suc s) (λ e. omega (arith, e))) in
        record { balance = omega (arith, now, before, not_it, other); within = omega (arith, other) }
    by_place (inr ge) = by_high (cases_lt (suc s) d)
      where
        before : one_if (has (down s) i && not (has (down s) d || false)) ≡ one_if (has (down s) i)
        before = shown (down s) i d false (down_lacks s d (omega arith))

        by_high : (suc s < d) ⊎ (d ≤ suc s) → Numbers s i (d ∷ [])
        by_high (inl gt) =
            let now = shown (down (suc s)) i d false (down_lacks (suc s) d gt) in
            let not_it = is_it false (ne_eqb d (suc s) (λ e. omega (arith, e))) in
            record { balance = omega (arith, next, now, before, not_it); within = omega (arith, next, now) }
        by_high (inr le) =
            let now = shown (down (suc s)) i d true (down_has (suc s) d (omega arith) le) in
            let it = is_it true (eq-eqb d (suc s) (omega arith)) in
            let there : one_if (has (down s) i) ≡ 1 = ap one_if (down_has s i some (omega arith)) in
            let other : one_if (i == suc s) ≡ 0 = ap one_if (ne_eqb i (suc s) (λ e. omega (arith, e))) in
            record { balance = omega (arith, now, before, it, there, other); within = omega (arith, other) }

number_steps : (s i : ℕ) (ds : List ℕ) → 0 < i → AllByRecursion (λ d. i < d) ds → length ds ≤ 1 → Numbers s i ds
number_steps s i [] some above single = open_steps s i some
number_steps s i (d ∷ []) some above single = deleted_steps s i d some above.0
number_steps s i (d ∷ e ∷ ds) some above single = absurd (omega arith)

-- ---- all lines

record Lengths (s : ℕ) (lines : List HistoryLine) : Type 0 where
  balance : length (select (down (suc s)) lines) + deleted (suc s) lines ≡ length (select (down s) lines) + inserted
      (suc s) lines
  within : inserted (suc s) lines ≤ length (select (down (suc s)) lines)

length_front : (t : Bool) (text : List ℕ) (texts : List (List ℕ)) → length (front_if t text texts) ≡ one_if t
    + length texts
length_front true text texts = omega arith
length_front false text texts = omega arith

lengths : (s : ℕ) (lines : List HistoryLine) → AllByRecursion IsInOrder lines → Lengths s lines
lengths s [] order = record { balance = refl; within = omega arith }
lengths s (line ∷ lines) order =
    let here = number_steps s line.inserter line.deleters order.0.inserter order.0.deleters order.0.single in
    let rest = lengths s lines order.1 in
    let now = length_front (shows (down (suc s)) line) line.text (select (down (suc s)) lines) in
    let before = length_front (shows (down s) line) line.text (select (down s) lines) in
    let more : inserted (suc s) (line ∷ lines) ≡ one_if (line.inserter == suc s) + inserted (suc s) lines =
    sum_by-cons (λ l. cond (l.inserter == suc s) 1 0) line lines in
    let gone : deleted (suc s) (line ∷ lines) ≡ one_if (has line.deleters (suc s)) + deleted (suc s) lines =
    sum_by-cons (λ l. cond (has l.deleters (suc s)) 1 0) line lines in
    record {
      balance = omega (arith, here.balance, rest.balance, now, before, more, gone);
      within = omega (arith, here.within, rest.within, now, more);
    }

none_shown : (lines : List HistoryLine) → select (down 0) lines ≡ []
none_shown [] = refl
none_shown (line ∷ lines) = none_shown lines

-- ---- the counts in a row

abbrev counts : ℕ → ℕ → ℕ → LineCounts
counts i d u = record { inserted = i; deleted = d; unchanged = u }

same_counts : (i d u j e v : ℕ) → i ≡ j → d ≡ e → u ≡ v → counts i d u ≡ counts j e v
same_counts i d u j e v i_is d_is u_is = ap (λ n. counts n d u) i_is ∙ (ap (λ n. counts j n u) d_is
    ∙ ap (λ n. counts j e n) u_is)

counts_rows : (lines : List HistoryLine) → AllByRecursion IsInOrder lines → (s n k before : ℕ)
    → before ≡ length (select (down s) lines) → k < n
    → slice_get (counts_from before (with_more (suc s) (tally_of lines) (replicate n no_lines))) k ≡ Some
    (counts_at (suc (s + k)) lines)
counts_rows lines order s zero k before is lt = absurd (omega arith)
counts_rows lines order s (suc n) zero before is lt =
    let step = lengths s lines order in
    ap Some (same_counts (0 + inserted (suc s) lines) (0 + deleted (suc s) lines) (before - (0 + deleted (suc s) lines))
    (inserted (suc s) lines) (deleted (suc s) lines) (length (select (down (suc s)) lines) - inserted (suc s) lines)
    (omega arith) (omega arith) (omega (arith, is, step.balance, step.within)) ∙ ap (λ m. counts_at m lines) same)
  where
    same : suc s ≡ suc (s + 0)
    same = omega arith
counts_rows lines order s (suc n) (suc k) before is lt =
    let step = lengths s lines order in
    counts_rows lines order (suc s) n k (before - (0 + deleted (suc s) lines) + (0 + inserted (suc s) lines))
    (omega (arith, is, step.balance, step.within)) (omega arith)
    ∙ ap (λ m. Some (counts_at m lines)) same
  where
    same : suc (suc s + k) ≡ suc (s + suc k)
    same = omega arith

pub counts_are : (lines : List HistoryLine) (serials : ℕ) (tallies : List Tally) (found : List LineCounts)
    → found ≡ counts_from 0 tallies
    → tallies ≡ with_more 1 (tally_of lines) (replicate serials no_lines)
    → AllByRecursion IsInOrder lines → (n : ℕ) → n < serials → slice_get found n ≡ Some (counts_at (suc n) lines)
counts_are lines serials tallies found is tallies_are order n lt =
    ap (λ l. slice_get l n) (is ∙ ap (λ l. counts_from 0 l) tallies_are)
    ∙ (counts_rows lines order 0 serials n 0 (sym (ap length (none_shown lines))) lt
    ∙ ap (λ m. Some (counts_at m lines)) same)
  where
    same : suc (0 + n) ≡ suc n
    same = omega arith

length_counts : (before : ℕ) (tallies : List Tally) → length (counts_from before tallies) ≡ length tallies
length_counts before [] = refl
length_counts before (t ∷ tallies) = ap suc (length_counts (before - t.deleted + t.inserted) tallies)

length_more : (s : ℕ) (more : ℕ → Tally) (n : ℕ) → length (with_more s more (replicate n no_lines)) ≡ n
length_more s more zero = refl
length_more s more (suc n) = ap suc (length_more (suc s) more n)

pub counts_all : (lines : List HistoryLine) (serials : ℕ) (tallies : List Tally) (found : List LineCounts)
    → found ≡ counts_from 0 tallies
    → tallies ≡ with_more 1 (tally_of lines) (replicate serials no_lines) → length found ≡ serials
counts_all lines serials tallies found is tallies_are =
    ap length is ∙ (length_counts 0 tallies ∙ (ap length tallies_are ∙ length_more 1 (tally_of lines) serials))

-- ---- a trunk's lines

in_order : (m i : ℕ) (ds : List ℕ) → AllByRecursion (λ d. (d ≤ m) × (i < d)) ds → AllByRecursion (λ d. i < d) ds
in_order m i [] each = tt
in_order m i (d ∷ ds) each = (each.0.1, in_order m i ds each.1)

lines_in_order : (m : ℕ) (lines : List HistoryLine) → AllByRecursion (IsFinal m) lines → AllByRecursion IsInOrder lines
lines_in_order m [] final = tt
lines_in_order m (line ∷ lines) final = (
  record {
    inserter = final.0.some;
    deleters = in_order m line.inserter line.deleters final.0.deleters;
    single =
        final.0.single;
  },
  lines_in_order m lines final.1,
)

pub trunk_in_order : (head : List (List ℕ)) (scripts : List (List Change)) → AllByRecursion IsInOrder
    (trunk_lines head scripts)
trunk_in_order head scripts = lines_in_order (suc (length scripts)) (trunk_lines head scripts)
    (final_trunk head scripts)
