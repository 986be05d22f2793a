-- The items of lines behind some items: their lines, and the rules of a body.
use Rattle.std.proofs.Common.{◌≡◌, ℕ, zero, suc, ◌≤◌, ◌<◌, ◌⊎◌, ◌==◌, Bool, true, false, cond, not, ◌&&◌, List, [], ◌∷◌}
use Rattle.std.proofs.Common.{◌++◌, length, refl, sym, subst, ap, ◌∙◌, inl, inr, ⊎_elim, arith, eq-eqb, append-nil}
use Rattle.std.proofs.Common.{append_assoc}
use Rattle.std.specs.List.{AllByRecursion}
use Rattle.std.proofs.lemmas.Bool.{and_from, and_parts, eqb-true, ne_eqb}
use Rattle.sccs_history.specs.Numbers.{first, has, is_empty}
use Rattle.sccs_history.specs.Body.{Closed, ByInsert, ByDelete, GoesOn, HistoryLine, IsLine, above, deleters, inserter}
use Rattle.sccs_history.specs.Body.{is_closed, is_over, line_at, lines_behind, mark, may_stand}
use Rattle.sccs_history.specs.declared.headers.Item.{Item}
use Rattle.sccs_history.specs.declared.headers.Item.TheVariants.{Text, Insert, Delete, End}
use Rattle.sccs_history.proofs.Falling.{falling-alike, falling-has}
use Rattle.sccs_trunks.specs.Trunks.{is_zero}
use Rattle.sccs_trunks.specs.TrunkItems.{closes, goes_on, items_behind, items_of, opens}
use Rattle.sccs_trunks.proofs.RegionItems.{IsRegion, IsShut, close_deleter, close_inserter, deleters_region}
use Rattle.sccs_trunks.proofs.RegionItems.{inserter_region, inserters_region, region_mark, shut_delete, shut_insert}
use Rattle.sccs_trunks.proofs.RegionItems.{those_first, those_of}

-- items behind others have these lines, and go on to a body's end
pub record AreItems (live : List ℕ) (before items : List Item) (lines : List HistoryLine) : Type 0 where
  pub lines_are : lines_behind before items ≡ lines
  pub goes : GoesOn live before items

-- a serial that is live where it isn't 0
abbrev IsLive : List ℕ → ℕ → Type 0
IsLive live d = (d ≡ 0) ⊎ (has live d ≡ true)

-- the last line before was one of this region, or there is none
abbrev Stands : List ℕ → ℕ → ℕ → List Item → Type 0
Stands live zero d before = IsShut before
Stands live (suc a) d before = IsRegion (suc a) d before × ((has live (suc a) ≡ true) × IsLive live d)

shut_over : (before : List Item) → IsShut before → is_over before ≡ true
shut_over before shut =
    ap is_empty (falling-alike (above before) (λ n. not (is_closed (mark n before))) (has [])
    (λ n lt. ap (λ k. not (is_closed k)) (shut n)) ∙ falling-has (above before) [] tt)

open_mark : (a d n : ℕ) → ((a == n) ≡ true) ⊎ (((a == n) ≡ false) × ((not (is_zero d) && d == n) ≡ true))
    → not (is_closed (region_mark a d n)) ≡ true
open_mark a d n (inl e) = ap (λ t. not (is_closed (cond t ByInsert (cond (not (is_zero d) && d == n) ByDelete Closed))))
    e
open_mark a d n (inr both) =
    ap (λ t. not (is_closed (cond t ByInsert (cond (not (is_zero d) && d == n) ByDelete Closed)))) both.0
    ∙ ap (λ t. not (is_closed (cond t ByDelete Closed))) both.1

end_inserter : (live : List ℕ) (a d : ℕ) (before : List Item) → IsRegion a d before → has live a ≡ true
    → may_stand live before (End a) ≡ true
end_inserter live a d before region there =
    and_from (has live a) (not (is_closed (mark a before))) there (ap (λ k. not (is_closed k)) (region.marks a)
    ∙ open_mark a d a (inl (eq-eqb a a refl)))

end_deleter : (live : List ℕ) (a d : ℕ) (before : List Item) → IsRegion a (suc d) before → has live (suc d) ≡ true
    → may_stand live before (End (suc d)) ≡ true
end_deleter live a d before region there =
    and_from (has live (suc d)) (not (is_closed (mark (suc d) before))) there
    (ap (λ k. not (is_closed k)) (region.marks (suc d)) ∙ open_mark a (suc d) (suc d)
    (inr (ne_eqb a (suc d) apart, eq-eqb (suc d) (suc d) refl)))
  where
    apart : (a ≡ suc d → ⊥)
    apart e = ⊎_elim (λ z. omega (arith, z)) (λ h. omega (arith, h)) region.higher

live_some : (live : List ℕ) (d : ℕ) → IsLive live (suc d) → has live (suc d) ≡ true
live_some live d (inl e) = absurd (omega (arith, e))
live_some live d (inr there) = there

-- where a region is closed, other items come
closed_then : (live : List ℕ) (a d : ℕ) (before items : List Item) (lines : List HistoryLine) → Stands live a d before
    → ((shut : List Item) → IsShut shut → AreItems live shut items lines)
    → AreItems live before (closes a d ++ items) lines
closed_then live zero d before items lines stands next = next before stands
closed_then live (suc a) zero before items lines stands next =
    let rest = next (End (suc a) ∷ before) (close_inserter (suc a) before stands.0) in
    record { lines_are = rest.lines_are; goes = (end_inserter live (suc a) 0 before stands.0 stands.1.0, rest.goes) }
closed_then live (suc a) (suc d) before items lines stands next =
    let region = close_deleter (suc a) (suc d) before stands.0 (omega arith) in
    let rest = next (End (suc a) ∷ End (suc d) ∷ before) (close_inserter (suc a) (End (suc d) ∷ before) region) in
    record {
      lines_are = rest.lines_are;
      goes = (
        end_deleter live (suc a) d before stands.0 (live_some live d stands.1.1),
        (end_inserter live (suc a) 0 (End (suc d) ∷ before) region stands.1.0, rest.goes),
      );
    }

insert_stands : (live : List ℕ) (a : ℕ) (before : List Item) → IsShut before → has live a ≡ true
    → may_stand live before (Insert a) ≡ true
insert_stands live a before shut there = and_from (has live a) (is_closed (mark a before)) there (ap is_closed (shut a))

-- where a region is opened, lines of it come
opened_then : (live : List ℕ) (a d : ℕ) (before items : List Item) (lines : List HistoryLine) → IsShut before → 0 < a
    → has live a ≡ true → IsLive live d → (d ≡ 0) ⊎ (a < d)
    → ((open_now : List Item) → IsRegion a d open_now → AreItems live open_now items lines)
    → AreItems live before (opens a d ++ items) lines
opened_then live a zero before items lines shut some there live_d higher next =
    let rest = next (Insert a ∷ before) (shut_insert a before some shut) in
    record { lines_are = rest.lines_are; goes = (insert_stands live a before shut there, rest.goes) }
opened_then live a (suc d) before items lines shut some there live_d (inl e) next = absurd (omega (arith, e))
opened_then live a (suc d) before items lines shut some there live_d (inr high) next =
    let region = shut_insert a before some shut in
    let rest = next (Delete (suc d) ∷ Insert a ∷ before) (shut_delete a (suc d) before some high shut) in
    record {
      lines_are = rest.lines_are;
      goes = (
        insert_stands live a before shut there,
        (
          and_from (has live (suc d)) (is_closed (mark (suc d) (Insert a ∷ before))) (live_some live d live_d)
              (ap is_closed (region.marks (suc d)) ∙ ap (λ t. is_closed (cond t ByInsert Closed))
              (ne_eqb a (suc d) (λ e. omega (arith, e, high)))),
          rest.goes,
        ),
      );
    }

-- a line of the region that is open
line_is : (before : List Item) (line : HistoryLine) → inserter before ≡ line.inserter → deleters before ≡ line.deleters
    → line_at before line.text ≡ line
line_is before line e f = ap (λ i. record { text = line.text; inserter = i; deleters = deleters before }) e
    ∙ ap (λ ds. record { text = line.text; inserter = line.inserter; deleters = ds }) f

text_then : (live : List ℕ) (before items : List Item) (line : HistoryLine) (lines : List HistoryLine)
    → IsRegion line.inserter (first line.deleters) before
    → those_of (first line.deleters) ≡ line.deleters
    → AreItems live (Text line.text ∷ before) items lines → AreItems live before (Text line.text ∷ items) (line ∷ lines)
text_then live before items line lines region those rest = record {
  lines_are =
      ap (λ l. l ∷ lines_behind (Text line.text ∷ before) items)
      (line_is before line (inserter_region line.inserter (first line.deleters) before region)
      (deleters_region line.inserter (first line.deleters) before region ∙ those))
      ∙ ap (λ ls. line ∷ ls) rest.lines_are;
  goes = (ap (λ l. not (is_empty l)) (inserters_region line.inserter (first line.deleters) before region), rest.goes);
}

text_stands : (live : List ℕ) (a d : ℕ) (text : List ℕ) (before : List Item) → IsRegion a d before → has live a ≡ true
    → IsLive live d → Stands live a d (Text text ∷ before)
text_stands live zero d text before region there live_d = absurd (omega (arith, region.some))
text_stands live (suc a) d text before region there live_d =
    (record { some = region.some; higher = region.higher; marks = region.marks }, (there, live_d))

-- ---- lines in turn

each_some : (live : List ℕ) (i : ℕ) (ds : List ℕ) → AllByRecursion (λ d. (has live d ≡ true) × (i < d)) ds
    → AllByRecursion (λ e. 0 < e) ds
each_some live i [] each = tt
each_some live i (d ∷ ds) each = (omega (arith, each.0.1), each_some live i ds each.1)

first_higher : (live : List ℕ) (i : ℕ) (ds : List ℕ) → AllByRecursion (λ d. (has live d ≡ true) × (i < d)) ds
    → (first ds ≡ 0) ⊎ (i < first ds)
first_higher live i [] each = inl refl
first_higher live i (d ∷ ds) each = inr each.0.1

first_live : (live : List ℕ) (i : ℕ) (ds : List ℕ) → AllByRecursion (λ d. (has live d ≡ true) × (i < d)) ds
    → IsLive live (first ds)
first_live live i [] each = inl refl
first_live live i (d ∷ ds) each = inr each.0.0

region_on : (live : List ℕ) (a d : ℕ) (before : List Item) (line : HistoryLine) → Stands live a d before
    → 0 < line.inserter → goes_on a d line ≡ true
    → IsRegion line.inserter (first line.deleters) before
region_on live zero d before line stands some on =
    let parts = and_parts (line.inserter == 0) (first line.deleters == d) on in
    absurd (omega (arith, some, eqb-true line.inserter 0 parts.0))
region_on live (suc a) d before line stands some on =
    let parts = and_parts (line.inserter == suc a) (first line.deleters == d) on in
    subst (λ i. IsRegion i (first line.deleters) before) (sym (eqb-true line.inserter (suc a) parts.0))
    (subst (λ e. IsRegion (suc a) e before) (sym (eqb-true (first line.deleters) d parts.1)) stands.0)

line_then : (live : List ℕ) (a d : ℕ) (before : List Item) (line : HistoryLine) (lines : List HistoryLine)
    → Stands live a d before
    → IsLine live line → length line.deleters ≤ 1 → 0 < line.inserter
    → ((inside : List Item) → Stands live line.inserter (first line.deleters) inside
    → AreItems live inside (items_behind line.inserter (first line.deleters) lines) lines)
    → AreItems live before (items_behind a d (line ∷ lines)) (line ∷ lines)
line_then live a d before line lines stands is single some next = by_test (goes_on a d line) refl
  where
    i : ℕ
    i = line.inserter

    f : ℕ
    f = first line.deleters

    rest : List Item
    rest = items_behind i f lines

    live_f : IsLive live f
    live_f = first_live live i line.deleters is.deleters

    inside : (open_now : List Item) → IsRegion i f open_now → AreItems live open_now (Text line.text ∷ rest)
        (line ∷ lines)
    inside open_now region =
        text_then live open_now rest line lines region (those_first line.deleters single
        (each_some live i line.deleters is.deleters))
        (next (Text line.text ∷ open_now) (text_stands live i f line.text open_now region is.inserter live_f))

    by_test : (t : Bool) → goes_on a d line ≡ t → AreItems live before (cond t [] (closes a d ++ opens i f)
        ++ (Text line.text ∷ rest)) (line ∷ lines)
    by_test true on = inside before (region_on live a d before line stands some on)
    by_test false off =
        subst (λ items. AreItems live before items (line ∷ lines))
        (sym (append_assoc (closes a d) (opens i f) (Text line.text ∷ rest)))
        (closed_then live a d before (opens i f ++ (Text line.text ∷ rest)) (line ∷ lines) stands (λ shut_items shut.
        opened_then live i f shut_items (Text line.text ∷ rest) (line ∷ lines) shut some is.inserter live_f
        (first_higher live i line.deleters is.deleters) inside))

walk : (live : List ℕ) (a d : ℕ) (before : List Item) (lines : List HistoryLine) → Stands live a d before
    → AllByRecursion (IsLine live) lines → AllByRecursion (λ line. length line.deleters ≤ 1) lines
    → AllByRecursion (λ line. 0 < line.inserter) lines
    → AreItems live before (items_behind a d lines) lines
walk live a d before [] stands are single some =
    subst (λ items. AreItems live before items []) (append-nil (closes a d))
    (closed_then live a d before [] [] stands (λ shut_items shut.
    record { lines_are = refl; goes = shut_over shut_items shut }))
walk live a d before (line ∷ lines) stands are single some =
    line_then live a d before line lines stands are.0 single.0 some.0
    (λ inside stands_now. walk live line.inserter (first line.deleters) inside lines stands_now are.1 single.1 some.1)

pub items_are : (live : List ℕ) (lines : List HistoryLine)
    → AllByRecursion (IsLine live) lines → AllByRecursion (λ line. length line.deleters ≤ 1) lines
    → AllByRecursion (λ line. 0 < line.inserter) lines
    → AreItems live [] (items_of lines) lines
items_are live lines are single some = walk live 0 0 [] lines (λ n. refl) are single some
