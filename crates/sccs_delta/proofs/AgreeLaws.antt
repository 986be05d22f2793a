-- The entries that a delta leaves agree with its table.
use Rattle.std.proofs.Common.{◌≡◌, ℕ, zero, suc, ◌==◌, nat_le, nat_lt, Bool, true, false, cond, not, ◌&&◌, ◌||◌, List}
use Rattle.std.proofs.Common.{[], ◌∷◌, length, None, Some, refl, sym, ap, subst, ◌∙◌, ⊎_elim, arith, eq-eqb}
use Rattle.std.specs.Prelude.{filter, is_none, remove, slice_get}
use Rattle.std.specs.List.{AllByRecursion}
use Rattle.std.proofs.lemmas.Bool.Decides.{nat_tests}
use Rattle.std.proofs.lemmas.Bool.{and_from, and_parts, eqb-true, false_from_ne_true, false≢true, or_cases, or_left}
use Rattle.std.proofs.lemmas.Bool.{or_right, true≢false, not-true}
use Rattle.sccs_sid.specs.declared.moments.Stamp.{Stamp}
use Rattle.sccs_sid.specs.declared.sid_lists.Range.{Range}
use Rattle.sccs_sid.specs.declared.sids.Sid.{Sid}
use Rattle.sccs_grammar.proofs.EntryLaws.{flip_sids}
use Rattle.sccs_history.specs.Applied.{newest}
use Rattle.sccs_history.specs.History.{lives, same_sid}
use Rattle.sccs_history.specs.declared.headers.Header.{Header}
use Rattle.sccs_history.specs.declared.headers.Record.{Record}
use Rattle.sccs_changes.proofs.StopLaws.{still_all}
use Rattle.sccs_pfile.specs.Agreement.{Agrees, agrees, are_ranges, has_lists, is_listed, makers, share_sid}
use Rattle.sccs_pfile.specs.declared.entries.Edit.{Edit}
use Rattle.sccs_pfile.proofs.Recovering.{same_self, one_out, one_maker}
use Rattle.sccs_records.specs.NewDeltas.{last_of, with_delta, with_deltas, with_record}
use Rattle.sccs_records.specs.declared.new_deltas.NewDelta.{NewDelta}
use Rattle.sccs_sets.specs.Naming.{in_range, not_after, one_line, range_fault}
use Rattle.sccs_sets.proofs.NewSids.{same_is}
use Rattle.sccs_delta.specs.NullDeltas.{null_deltas, skipped_by, with_nulls}
use Rattle.sccs_delta.proofs.DeltaStops.{delta_makes}
use Rattle.sccs_delta.proofs.EntryLaws.{entry_agrees}
use Rattle.sccs_delta.proofs.MadeEntries.{HasMade}

-- ---- SIDs of one line, in order

abbrev trunk_le : Sid → Sid → Bool
trunk_le a b = nat_lt a.release b.release || (a.release == b.release && nat_le a.level b.level)

trunk_trans : (a b c : Sid) → trunk_le a b ≡ true → trunk_le b c ≡ true → trunk_le a c ≡ true
trunk_trans a b c one two = grind (arith, nat_tests)

trunk_total : (a b : Sid) → trunk_le a b ≡ false → trunk_le b a ≡ true
trunk_total a b after = grind (arith, nat_tests)

trunk_self : (a : Sid) → trunk_le a a ≡ true
trunk_self a = grind (arith, nat_tests)

le_trans : (a b c : ℕ) → nat_le a b ≡ true → nat_le b c ≡ true → nat_le a c ≡ true
le_trans a b c one two = grind (arith, nat_tests)

le_total : (a b : ℕ) → nat_le a b ≡ false → nat_le b a ≡ true
le_total a b after = grind (arith, nat_tests)

le_self : (a : ℕ) → nat_le a a ≡ true
le_self a = grind (arith, nat_tests)

-- the order of a line, of the trunk or of a branch
abbrev le_on : Bool → Sid → Sid → Bool
le_on trunk a b = cond trunk (trunk_le a b) (nat_le a.sequence b.sequence)

on_trans : (trunk : Bool) (a b c : Sid) → le_on trunk a b ≡ true → le_on trunk b c ≡ true → le_on trunk a c ≡ true
on_trans true a b c one two = trunk_trans a b c one two
on_trans false a b c one two = le_trans a.sequence b.sequence c.sequence one two

on_total : (trunk : Bool) (a b : Sid) → le_on trunk a b ≡ false → le_on trunk b a ≡ true
on_total true a b after = trunk_total a b after
on_total false a b after = le_total a.sequence b.sequence after

on_self : (trunk : Bool) (a : Sid) → le_on trunk a a ≡ true
on_self true a = trunk_self a
on_self false a = le_self a.sequence

same_branch : (a b : Sid) → (a.release == b.release && (a.level == b.level && a.branch == b.branch)) ≡ true
    → (a.release ≡ b.release) × (a.level ≡ b.level) × (a.branch ≡ b.branch)
same_branch a b is =
    let first = and_parts (a.release == b.release) (a.level == b.level && a.branch == b.branch) is in
    let rest = and_parts (a.level == b.level) (a.branch == b.branch) first.1 in
    (eqb-true a.release b.release first.0, eqb-true a.level b.level rest.0, eqb-true a.branch b.branch rest.1)

-- two SIDs on the line of a third are on one line
lines_meet : (a b s : Sid) → one_line a s ≡ true → one_line b s ≡ true → ((a.branch == 0) ≡ (b.branch == 0))
    × (one_line a b ≡ true)
lines_meet a b s one two = by (a.branch == 0) (b.branch == 0) refl refl one two
  where
    both_equal : (a.release ≡ s.release) × (a.level ≡ s.level) × (a.branch ≡ s.branch) → (b.release ≡ s.release)
        × (b.level ≡ s.level) × (b.branch ≡ s.branch)
        → (a.release == b.release && (a.level == b.level && a.branch == b.branch)) ≡ true
    both_equal here there =
        and_from (a.release == b.release) (a.level == b.level && a.branch == b.branch) (eq-eqb a.release b.release
        (here.0 ∙ sym there.0))
        (and_from (a.level == b.level) (a.branch == b.branch) (eq-eqb a.level b.level (here.1 ∙ sym there.1))
        (eq-eqb a.branch b.branch (here.2 ∙ sym there.2)))

    by : (t u : Bool) → (a.branch == 0) ≡ t → (b.branch == 0) ≡ u → cond t (s.branch == 0) (a.release == s.release
        && (a.level == s.level && a.branch == s.branch)) ≡ true
        → cond u (s.branch == 0) (b.release == s.release && (b.level == s.level && b.branch == s.branch)) ≡ true
        → ((a.branch == 0) ≡ (b.branch == 0)) × (cond (a.branch == 0) (b.branch == 0) (a.release == b.release
        && (a.level == b.level && a.branch == b.branch)) ≡ true)
    by true true is_a is_b on_a on_b = (is_a ∙ sym is_b, rw (is_a, is_b) refl)
    by false false is_a is_b on_a on_b =
        (is_a ∙ sym is_b, rw is_a (both_equal (same_branch a s on_a) (same_branch b s on_b)))
    by true false is_a is_b on_a on_b = let same = same_branch b s on_b in
        absurd (true≢false (sym on_a ∙ (ap (λ n. n == 0) (sym same.2) ∙ is_b)))
    by false true is_a is_b on_a on_b = let same = same_branch a s on_a in
        absurd (true≢false (sym on_b ∙ (ap (λ n. n == 0) (sym same.2) ∙ is_a)))

line_side : (a s : Sid) → one_line a s ≡ true → (a.branch == 0) ≡ (s.branch == 0)
line_side a s on = by (a.branch == 0) refl on
  where
    by : (t : Bool) → (a.branch == 0) ≡ t → cond t (s.branch == 0) (a.release == s.release
        && (a.level == s.level && a.branch == s.branch)) ≡ true → (a.branch == 0) ≡ (s.branch == 0)
    by true is on2 = is ∙ sym on2
    by false is on2 = ap (λ n. n == 0) (same_branch a s on2).2

-- ---- ranges that have a SID in common

-- of two ranges the first end that comes later is in both
later_end : (p q : Range) (s : Sid) → in_range p s ≡ true → in_range q s ≡ true → not_after p.first q.first ≡ true
    → (in_range p q.first ≡ true) × (in_range q q.first ≡ true)
later_end p q s one two order =
    let in_p = and_parts (one_line p.first s) (not_after p.first s && not_after s p.last) one in
    let in_q = and_parts (one_line q.first s) (not_after q.first s && not_after s q.last) two in
    let ends_p = and_parts (not_after p.first s) (not_after s p.last) in_p.1 in
    let ends_q = and_parts (not_after q.first s) (not_after s q.last) in_q.1 in
    let side : (q.first.branch == 0) ≡ (s.branch == 0) = line_side q.first s in_q.0 in
    let before_last : (last : Sid) → not_after s last ≡ true → not_after q.first last ≡ true =
    λ last after. on_trans (q.first.branch == 0) q.first s last ends_q.0 (ap (λ t. le_on t s last) side ∙ after) in (
      and_from (one_line p.first q.first) (not_after p.first q.first && not_after q.first p.last)
          (lines_meet p.first q.first s in_p.0 in_q.0).1
          (and_from (not_after p.first q.first) (not_after q.first p.last) order (before_last p.last ends_p.1)),
      and_from (one_line q.first q.first) (not_after q.first q.first && not_after q.first q.last)
          (lines_meet q.first q.first s in_q.0 in_q.0).1
          (and_from (not_after q.first q.first) (not_after q.first q.last) (on_self (q.first.branch == 0) q.first)
          (before_last q.last ends_q.1)),
    )

earlier_end : (p q : Range) (s : Sid) → in_range p s ≡ true → in_range q s ≡ true → not_after p.first q.first ≡ false
    → not_after q.first p.first ≡ true
earlier_end p q s one two after =
    let in_p = and_parts (one_line p.first s) (not_after p.first s && not_after s p.last) one in
    let in_q = and_parts (one_line q.first s) (not_after q.first s && not_after s q.last) two in
    let side : (p.first.branch == 0) ≡ (q.first.branch == 0) = (lines_meet p.first q.first s in_p.0 in_q.0).0 in
    ap (λ t. le_on t q.first p.first) (sym side) ∙ on_total (p.first.branch == 0) p.first q.first after

-- ---- lists

-- a range of the list that goes over the SID; its first end is live
record Picked (records : List Record) (ranges : List Range) (s : Sid) : Type 0 where
  range : Range
  over : in_range range s ≡ true
  live : lives records range.first ≡ true
  within : (t : Sid) → in_range range t ≡ true → is_listed ranges t ≡ true

fault_parts : (first last : Sid) (a b c : Bool) → is_none (cond (not a) (Some first) (cond (b && c) None (Some last)))
    ≡ true → (a ≡ true) × (b ≡ true) × (c ≡ true)
fault_parts first last true true true is = (refl, refl, refl)
fault_parts first last true true false is = absurd (false≢true is)
fault_parts first last true false c is = absurd (false≢true is)
fault_parts first last false b c is = absurd (false≢true is)

range_parts : (records : List Record) (range : Range) → is_none (range_fault records range) ≡ true
    → (lives records range.first ≡ true) × (lives records range.last ≡ true)
    × ((one_line range.first range.last && not_after range.first range.last) ≡ true)
range_parts records range is = fault_parts range.first range.last (lives records range.first) (lives records range.last)
    (one_line range.first range.last && not_after range.first range.last) is

pick : (records : List Record) (ranges : List Range) (s : Sid) → are_ranges records ranges ≡ true
    → is_listed ranges s ≡ true → Picked records ranges s
pick records [] s are listed = absurd (false≢true listed)
pick records (range ∷ ranges) s are listed =
    let both = and_parts (is_none (range_fault records range)) (are_ranges records ranges) are in
    ⊎_elim (λ here. record {
      range = range;
      over = here;
      live = (range_parts records range both.0).0;
      within =
          λ t over. or_left (in_range range t) (is_listed ranges t) over;
    })
    (λ behind. let rest = pick records ranges s both.1 behind in
    record {
      range = rest.range;
      over = rest.over;
      live = rest.live;
      within = λ t over. or_right (in_range range t)
          (is_listed ranges t) (rest.within t over);
    })
    (or_cases (in_range range s) (is_listed ranges s) listed)

live_shared : (records : List Record) (include exclude : List Range) (s : Sid) → lives records s ≡ true
    → is_listed include s ≡ true → is_listed exclude s ≡ true → share_sid records include exclude ≡ true
live_shared [] include exclude s live one two = absurd (false≢true live)
live_shared (r ∷ records) include exclude s live one two =
    ⊎_elim (λ here. or_left (not r.removed && (is_listed include r.sid && is_listed exclude r.sid))
    (share_sid records include exclude) (found (and_parts (not r.removed) (same_sid r.sid s) here)))
    (λ behind. or_right (not r.removed && (is_listed include r.sid && is_listed exclude r.sid))
    (share_sid records include exclude) (live_shared records include exclude s behind one two))
    (or_cases (not r.removed && same_sid r.sid s) (lives records s) live)
  where
    found : (not r.removed ≡ true) × (same_sid r.sid s ≡ true)
        → (not r.removed && (is_listed include r.sid && is_listed exclude r.sid)) ≡ true
    found here =
        let is : r.sid ≡ s = same_is r.sid s here.1 in
        and_from (not r.removed) (is_listed include r.sid && is_listed exclude r.sid) here.0
        (and_from (is_listed include r.sid) (is_listed exclude r.sid) (ap (is_listed include) is ∙ one)
        (ap (is_listed exclude) is ∙ two))

-- lists that go over one SID, live or not, share a live one
over_both : (records : List Record) (include exclude : List Range) (s : Sid) → are_ranges records include ≡ true
    → are_ranges records exclude ≡ true → is_listed include s ≡ true → is_listed exclude s ≡ true
    → share_sid records include exclude ≡ true
over_both records include exclude s ins outs one two =
    by (pick records include s ins one) (pick records exclude s outs two)
  where
    by : Picked records include s → Picked records exclude s → share_sid records include exclude ≡ true
    by p q = order (not_after p.range.first q.range.first) refl
      where
        order : (t : Bool) → not_after p.range.first q.range.first ≡ t → share_sid records include exclude ≡ true
        order true is =
            let ends = later_end p.range q.range s p.over q.over is in
            live_shared records include exclude q.range.first q.live (p.within q.range.first ends.0)
            (q.within q.range.first ends.1)
        order false is =
            let ends = later_end q.range p.range s q.over p.over (earlier_end p.range q.range s p.over q.over is) in
            live_shared records include exclude p.range.first p.live (p.within p.range.first ends.1)
            (q.within p.range.first ends.0)

-- ---- one delta more

lives_more : (records : List Record) (on : ℕ) (d : NewDelta) (s : Sid) → lives records s ≡ true
    → lives (with_record records on d) s ≡ true
lives_more records on d s live = or_right (same_sid d.sid s) (lives records s) live

ranges_more : (records : List Record) (on : ℕ) (d : NewDelta) (ranges : List Range) → are_ranges records ranges ≡ true
    → are_ranges (with_record records on d) ranges ≡ true
ranges_more records on d [] are = refl
ranges_more records on d (range ∷ ranges) are =
    let both = and_parts (is_none (range_fault records range)) (are_ranges records ranges) are in
    let parts = range_parts records range both.0 in
    and_from (is_none (range_fault (with_record records on d) range)) (are_ranges (with_record records on d) ranges)
    (still (lives (with_record records on d) range.first) (lives (with_record records on d) range.last)
    (one_line range.first range.last && not_after range.first range.last)
    (lives_more records on d range.first parts.0) (lives_more records on d range.last parts.1) parts.2)
    (ranges_more records on d ranges both.1)
  where
    still : (a b c : Bool) → a ≡ true → b ≡ true → c ≡ true
        → is_none (cond (not a) (Some range.first) (cond (b && c) None (Some range.last))) ≡ true
    still a b c one two three = rw (one, two, three) refl

lists_more : (records : List Record) (on : ℕ) (d : NewDelta) (x : Edit) → has_lists records x ≡ true
    → has_lists (with_record records on d) x ≡ true
lists_more records on d x has =
    let first = and_parts (are_ranges records x.include) (are_ranges records x.exclude
    && not (share_sid records x.include x.exclude)) has in
    let second = and_parts (are_ranges records x.exclude) (not (share_sid records x.include x.exclude)) first.1 in
    let none : share_sid records x.include x.exclude ≡ false = not-true (share_sid records x.include x.exclude)
    second.1 in
    let apart : (is_listed x.include d.sid && is_listed x.exclude d.sid) ≡ false =
    false_from_ne_true (is_listed x.include d.sid && is_listed x.exclude d.sid)
    (λ both. let parts = and_parts (is_listed x.include d.sid) (is_listed x.exclude d.sid) both in
    true≢false (sym (over_both records x.include x.exclude d.sid first.0 second.0 parts.0 parts.1) ∙ none)) in
    and_from (are_ranges (with_record records on d) x.include) (are_ranges (with_record records on d) x.exclude
    && not (share_sid (with_record records on d) x.include x.exclude)) (ranges_more records on d x.include first.0)
    (and_from (are_ranges (with_record records on d) x.exclude)
    (not (share_sid (with_record records on d) x.include x.exclude)) (ranges_more records on d x.exclude second.0)
    (ap (λ b. not (b || share_sid records x.include x.exclude)) apart ∙ ap not none))

lives_in_turn : (header : Header) (on : ℕ) (ds : List NewDelta) (s : Sid) → lives header.records s ≡ true
    → lives (with_deltas header on ds).records s ≡ true
lives_in_turn header on [] s live = live
lives_in_turn header on (d ∷ ds) s live = lives_in_turn (with_delta header on d) (suc (newest header.records)) ds s
    (lives_more header.records on d s live)

lists_in_turn : (header : Header) (on : ℕ) (ds : List NewDelta) (x : Edit) → has_lists header.records x ≡ true
    → has_lists (with_deltas header on ds).records x ≡ true
lists_in_turn header on [] x has = has
lists_in_turn header on (d ∷ ds) x has = lists_in_turn (with_delta header on d) (suc (newest header.records)) ds x
    (lists_more header.records on d x has)

-- ---- the other entries

filter_passes : (test : Edit → Bool) (edits : List Edit) → AllByRecursion (λ e. test e ≡ true) (filter test edits)
filter_passes test [] = tt
filter_passes test (e ∷ edits) = by (test e) refl (filter_passes test edits)
  where
    by : (t : Bool) → test e ≡ t → AllByRecursion (λ y. test y ≡ true) (filter test edits)
        → AllByRecursion (λ y. test y ≡ true) (cond t (e ∷ filter test edits) (filter test edits))
    by true is rest = (is, rest)
    by false is rest = rest

-- an entry that doesn't pass isn't missed
filter_without : (test : Edit → Bool) (edits : List Edit) (k : ℕ) (e : Edit) → slice_get edits k ≡ Some e
    → test e ≡ false → filter test (remove edits k) ≡ filter test edits
filter_without test [] k e at fails = cc
filter_without test (x ∷ edits) zero e at fails = let same : x ≡ e = cc in rw (ap test same ∙ fails) refl
filter_without test (x ∷ edits) (suc k) e at fails = ap (λ l. cond (test x) (x ∷ l) l)
    (filter_without test edits k e at fails)

module _ (stamp : Stamp) (header : Header) (got : ℕ) (edits : List Edit) (k : ℕ) (e : Edit) (d : NewDelta)
    (agree : Agrees header.records edits) (at : slice_get edits k ≡ Some e) (made : d.sid ≡ e.made) where
  abbrev nulls : List NewDelta
  nulls = null_deltas stamp (skipped_by header edits e)

  abbrev new_records : List Record
  new_records = (with_nulls header got nulls d).records

  -- no other entry is to make its SID
  others_apart : AllByRecursion (λ x. not (same_sid e.made x.made) ≡ true) (remove edits k)
  others_apart =
      subst (AllByRecursion (λ x. not (same_sid e.made x.made) ≡ true)) (one_out (λ x. same_sid e.made x.made) edits k e
      at (same_self e.made) (one_maker header.records edits e (entry_agrees header.records edits edits k e agree
      at)))
      (filter_passes (λ x. not (same_sid e.made x.made)) edits)

  one_agrees : (x : Edit) → agrees header.records edits x ≡ true → not (same_sid e.made x.made) ≡ true
      → lives new_records x.made ≡ (same_sid e.made x.made || lives header.records x.made)
      → agrees new_records (remove edits k) x ≡ true
  one_agrees x agreed other more =
      let first = and_parts (lives header.records x.got) (not (lives header.records x.made) && (makers edits x.made == 1
      && has_lists header.records x)) agreed in
      let second = and_parts (not (lives header.records x.made)) (makers edits x.made == 1
      && has_lists header.records x) first.1 in
      let third = and_parts (makers edits x.made == 1) (has_lists header.records x) second.1 in
      let apart : same_sid e.made x.made ≡ false = not-true (same_sid e.made x.made) other in
      and_from (lives new_records x.got) (not (lives new_records x.made) && (makers (remove edits k) x.made == 1
      && has_lists new_records x))
      (lives_more (with_deltas header got nulls).records (last_of got (newest header.records) nulls) d x.got
      (lives_in_turn header got nulls x.got first.0))
      (and_from (not (lives new_records x.made)) (makers (remove edits k) x.made == 1 && has_lists new_records x)
      (ap not (more ∙ ap (λ b. b || lives header.records x.made) apart) ∙ second.0)
      (and_from (makers (remove edits k) x.made == 1) (has_lists new_records x)
      (ap (λ (l : List Edit). length l == 1) (filter_without (λ y. same_sid x.made y.made) edits k e at
      (flip_sids x.made e.made ∙ apart)) ∙ third.0)
      (lists_more (with_deltas header got nulls).records (last_of got (newest header.records) nulls) d x
      (lists_in_turn header got nulls x third.1))))

  all_agree : (left : List Edit) → AllByRecursion (λ x. agrees header.records edits x ≡ true) left
      → AllByRecursion (λ x. not (same_sid e.made x.made) ≡ true) left → HasMade header.records new_records e left
      → AllByRecursion (λ x. agrees new_records (remove edits k) x ≡ true) left
  all_agree [] agreed apart more = tt
  all_agree (x ∷ left) agreed apart more =
      (one_agrees x agreed.0 apart.0 more.0, all_agree left agreed.1 apart.1 more.1)

  pub others_agree : Agrees new_records (remove edits k)
  others_agree =
      all_agree (remove edits k) (still_all (λ x. agrees header.records edits x ≡ true) edits k agree) others_apart
      (still_all (λ x. lives new_records x.made ≡ (same_sid e.made x.made || lives header.records x.made)) edits k
      (delta_makes stamp header got edits e d made))
