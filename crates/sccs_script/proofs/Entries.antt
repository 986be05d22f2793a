-- What stands in a text while orders are made, against the definitions of plans and texts.
use Rattle.std.proofs.Common.{◌≡◌, ℕ, zero, suc, ◌+◌, ◌-◌, ◌<◌, ◌≤◌, ◌==◌, nat_lt, Bool, true, false, cond, ◌||◌, List}
use Rattle.std.proofs.Common.{[], ◌∷◌, ◌++◌, Result, Ok, Err, length, map, take, drop, replicate, refl, sym, subst, ap}
use Rattle.std.proofs.Common.{◌∙◌, arith, eq-eqb}
use Rattle.std.specs.List.{AllByRecursion}
use Rattle.std.proofs.lemmas.Bool.{eqb-true, ne_eqb, ltb-false, ltb-true}
use Rattle.std.proofs.lemmas.List.{length-append, length-drop, length-take-le}
use Rattle.sccs_script_laws.specs.Plans.{added_from, Base, Cell, cells_of, deleted_from, is_there, New, plan, struck}
use Rattle.sccs_script_laws.specs.Plans.{with_added}
use Rattle.sccs_script_laws.specs.Scripts.{put_after, run, step, take_away}
use Rattle.sccs_script_laws.specs.declared.scripts.Added.{Added}
use Rattle.sccs_script_laws.specs.declared.scripts.Order.{Order}
use Rattle.sccs_script_laws.specs.declared.scripts.OrderKind.{OrderKind}
use Rattle.sccs_script_laws.specs.declared.scripts.OrderKind.TheVariants.{Append, Change, Delete}
use Rattle.sccs_script_laws.specs.declared.scripts.Plan.{Plan}
use Rattle.sccs_script_laws.proofs.Runs.{flat, kept-run}
use Rattle.sccs_script.specs.Checks.{length_after, length_by, ranged}
use Rattle.sccs_script.specs.Commands.{FitsIn}
use Rattle.sccs_script.specs.Drafts.{anchor, anchor_from, draft_base, cut_entries, edit, edited_draft, DraftLine, Fresh}
use Rattle.sccs_script.specs.Drafts.{grouped, Kept, missing, NamesLines, draft_plan, put_entries, span}
use Rattle.sccs_script.specs.declared.faults.ScriptFault.{ScriptFault}
use Rattle.sccs_script.specs.declared.faults.ScriptFault.TheVariants.{ScriptRange}

-- what is seen of cells behind base line k
abbrev seen_from : ℕ → List Cell → List DraftLine
seen_from k [] = []
seen_from k (Base true ∷ cells) = seen_from (suc k) cells
seen_from k (Base false ∷ cells) = Kept (suc k) ∷ seen_from (suc k) cells
seen_from k (New text ∷ cells) = Fresh k text ∷ seen_from k cells

-- where an entry stands in front, the anchor is its own
anchor_some : (k m j : ℕ) (entries : List DraftLine) → suc j ≤ length entries → anchor_from k (take (suc j) entries)
    ≡ anchor_from m (take (suc j) entries)
anchor_some k m j [] le = absurd (omega arith)
anchor_some k m j (Kept n ∷ entries) le = refl
anchor_some k m j (Fresh n text ∷ entries) le = refl

abbrev put_seen : ℕ → ℕ → List (List ℕ) → List DraftLine → List DraftLine
put_seen k j new entries = take j entries ++ (map (Fresh (anchor_from k (take j entries))) new ++ drop j entries)

seen_new : (k : ℕ) (new : List (List ℕ)) (cells : List Cell) → seen_from k (map New new ++ cells) ≡ map (Fresh k) new
    ++ seen_from k cells
seen_new k [] cells = refl
seen_new k (text ∷ new) cells = ap (λ l. Fresh k text ∷ l) (seen_new k new cells)

seen-put : (k j : ℕ) (new : List (List ℕ)) (cells : List Cell) → j ≤ length (seen_from k cells)
    → seen_from k (put_after is_there j (map New new) cells) ≡ put_seen k j new (seen_from k cells)
seen-put k zero new cells le = seen_new k new cells
seen-put k (suc j) new [] le = absurd (omega arith)
seen-put k (suc j) new (Base true ∷ cells) le =
    seen-put (suc k) (suc j) new cells le
    ∙ ap (λ n. take (suc j) (seen_from (suc k) cells) ++ (map (Fresh n) new ++ drop (suc j) (seen_from (suc k) cells)))
    (anchor_some (suc k) k j (seen_from (suc k) cells) le)
seen-put k (suc j) new (Base false ∷ cells) le = ap (λ l. Kept (suc k) ∷ l) (seen-put (suc k) j new cells (omega arith))
seen-put k (suc j) new (New text ∷ cells) le = ap (λ l. Fresh k text ∷ l) (seen-put k j new cells (omega arith))

seen-take : (k j count : ℕ) (cells : List Cell) → seen_from k (take_away is_there struck j count cells) ≡ take j
    (seen_from k cells) ++ drop count (drop j (seen_from k cells))
seen-take k zero zero cells = refl
seen-take k zero (suc count) [] = refl
seen-take k (suc j) zero [] = refl
seen-take k (suc j) (suc count) [] = refl
seen-take k zero (suc count) (Base true ∷ cells) = seen-take (suc k) zero (suc count) cells
seen-take k zero (suc count) (Base false ∷ cells) = seen-take (suc k) zero count cells
seen-take k zero (suc count) (New text ∷ cells) = seen-take k zero count cells
seen-take k (suc j) zero (Base true ∷ cells) = seen-take (suc k) (suc j) zero cells
seen-take k (suc j) zero (Base false ∷ cells) = ap (λ l. Kept (suc k) ∷ l) (seen-take (suc k) j zero cells)
seen-take k (suc j) zero (New text ∷ cells) = ap (λ l. Fresh k text ∷ l) (seen-take k j zero cells)
seen-take k (suc j) (suc count) (Base true ∷ cells) = seen-take (suc k) (suc j) (suc count) cells
seen-take k (suc j) (suc count) (Base false ∷ cells) = ap (λ l. Kept (suc k) ∷ l)
    (seen-take (suc k) j (suc count) cells)
seen-take k (suc j) (suc count) (New text ∷ cells) = ap (λ l. Fresh k text ∷ l) (seen-take k j (suc count) cells)

pub cut_length : (first last : ℕ) (entries : List DraftLine) → 0 < first → first ≤ last → last ≤ length entries
    → length (cut_entries first last entries) ≡ length entries - (suc last - first)
cut_length first last entries some le there =
    length-append (take (first - 1) entries) (drop (last - (first - 1)) (drop (first - 1) entries))
    ∙ (ap (λ n. n + length (drop (last - (first - 1)) (drop (first - 1) entries))) (length-take-le (first - 1) entries
    (omega arith))
    ∙ (ap (λ n. first - 1 + n) (length-drop (last - (first - 1)) (drop (first - 1) entries))
    ∙ (ap (λ n. first - 1 + (n - (last - (first - 1)))) (length-drop (first - 1) entries) ∙ omega arith)))

put_length : (k : ℕ) (new : List (List ℕ)) (entries : List DraftLine) → k ≤ length entries
    → length (put_entries k new entries) ≡ length entries + length new
put_length k new entries le =
    length-append (take k entries) (map (Fresh (anchor (take k entries))) new ++ drop k entries)
    ∙ (ap (λ n. n + length (map (Fresh (anchor (take k entries))) new ++ drop k entries)) (length-take-le k entries le)
    ∙ (ap (λ n. k + n) (length-append (map (Fresh (anchor (take k entries))) new) (drop k entries))
    ∙ (ap (λ n. k + (n + length (drop k entries))) (map_length (Fresh (anchor (take k entries))) new)
    ∙ (ap (λ n. k + (length new + n)) (length-drop k entries) ∙ omega arith))))
  where
    map_length : (f : List ℕ → DraftLine) (l : List (List ℕ)) → length (map f l) ≡ length l
    map_length f [] = refl
    map_length f (x ∷ l) = ap suc (map_length f l)

pub edit_length : (kind : OrderKind) (first last : ℕ) (new : List (List ℕ)) (entries : List DraftLine)
    → NamesLines kind first last (length entries)
    → length (edit kind first last new entries) ≡ length_by kind first last (length new) (length entries)
edit_length Append first last new entries names = put_length first new entries
    (omega (arith, names.rising, names.there))
edit_length Delete first last new entries names = cut_length first last entries (names.some refl) names.rising
    names.there
edit_length Change first last new entries names =
    let some = names.some refl in
    let cut = cut_length first last entries some names.rising names.there in
    put_length (first - 1) new (cut_entries first last entries) (omega (arith, some, cut, names.rising, names.there))
    ∙ ap (λ n. n + length new) cut

seen-step : (kind : OrderKind) (first last : ℕ) (new : List (List ℕ)) (cells : List Cell) → NamesLines kind first last
    (length (seen_from 0 cells))
    → seen_from 0 (step is_there struck New kind first last new cells) ≡ edit kind first last new (seen_from 0 cells)
seen-step Append first last new cells names = seen-put 0 first new cells (omega (arith, names.rising, names.there))
seen-step Delete first last new cells names = seen-take 0 (first - 1) (last - (first - 1)) cells
seen-step Change first last new cells names =
    let some = names.some refl in
    let cut = seen-take 0 (first - 1) (last - (first - 1)) cells in
    let size = cut_length first last (seen_from 0 cells) some names.rising names.there in
    seen-put 0 (first - 1) new (take_away is_there struck (first - 1) (last - (first - 1)) cells)
    (subst (λ l. first - 1 ≤ length l) (sym cut) (omega (arith, some, size, names.rising, names.there)))
    ∙ ap (put_entries (first - 1) new) cut

-- orders that fit a text of so many lines name lines that are there
pub names_of : (order : Order) (next lines : ℕ) → FitsIn next order → nat_lt lines order.last ≡ false
    → NamesLines order.kind order.first order.last lines
names_of order next lines fits in_range = record {
  some = λ other. ltb-true 0 order.first (ap (λ t. t || nat_lt 0 order.first) (sym other) ∙ fits.numbers.low);
  rising = fits.numbers.rising;
  there = ltb-false lines order.last in_range;
}

pub in_range : (t : Bool) (order : Order) (lines : ℕ) (rest : Result (Unit {0}) ScriptFault)
    → cond t (Err (ScriptRange order.line lines)) rest ≡ Ok tt → (t ≡ false) × (rest ≡ Ok tt)
in_range true order lines rest e = cc
in_range false order lines rest e = (refl, e)

seen-run : (next : ℕ) (orders : List Order) (cells : List Cell) → AllByRecursion (FitsIn next) orders
    → ranged orders (length (seen_from 0 cells)) ≡ Ok tt
    → seen_from 0 (run is_there struck New orders cells) ≡ edited_draft orders (seen_from 0 cells)
seen-run next [] cells fit ok = refl
seen-run next (order ∷ orders) cells fit ok =
    let lines : ℕ = length (seen_from 0 cells) in
    let parts = in_range (nat_lt lines order.last) order lines (ranged orders (length_after order lines)) ok in
    let names = names_of order next lines fit.0 parts.0 in
    let done = seen-step order.kind order.first order.last order.lines cells names in
    let size : length (seen_from 0 (step is_there struck New order.kind order.first order.last order.lines cells))
    ≡ length_after order lines =
    ap length done ∙ edit_length order.kind order.first order.last order.lines (seen_from 0 cells) names in
    seen-run next orders (step is_there struck New order.kind order.first order.last order.lines cells) fit.1
    (ap (ranged orders) size ∙ parts.1) ∙ ap (edited_draft orders) done

-- the entries are numbered from a number on
abbrev From : ℕ → List DraftLine → Type 0
From n [] = Unit {0}
From n (Kept m ∷ entries) = (n ≤ m) × From (suc m) entries
From n (Fresh m text ∷ entries) = (n ≤ suc m) × From n entries

from_lower : (n m : ℕ) (entries : List DraftLine) → n ≤ m → From m entries → From n entries
from_lower n m [] le from = tt
from_lower n m (Kept k ∷ entries) le from = (omega (arith, from.0), from.1)
from_lower n m (Fresh k text ∷ entries) le from = (omega (arith, from.0), from_lower n m entries le from.1)

from_seen : (k : ℕ) (cells : List Cell) → From (suc k) (seen_from k cells)
from_seen k [] = tt
from_seen k (Base true ∷ cells) = from_lower (suc k) (suc (suc k)) (seen_from (suc k) cells) (omega arith)
    (from_seen (suc k) cells)
from_seen k (Base false ∷ cells) = (omega arith, from_seen (suc k) cells)
from_seen k (New text ∷ cells) = (omega arith, from_seen k cells)

-- how many base lines there are
abbrev one_of : Cell → List ℕ
one_of (Base deleted) = 0 ∷ []
one_of (New text) = []

abbrev bases : List Cell → ℕ
bases cells = length (flat one_of cells)

span_more : (n count : ℕ) → n < count → span n (count - n) ≡ n ∷ span (suc n) (count - suc n)
span_more n count lt = let one : count - n ≡ suc (count - suc n) = omega arith in ap (span n) one

-- a number that isn't there is missing
missing_more : (n bound : ℕ) (entries : List DraftLine) → n < bound → From (suc n) entries → missing n entries bound ≡ n
    ∷ missing (suc n) entries bound
missing_more n bound [] lt from = span_more n bound lt
missing_more n bound (Kept m ∷ entries) lt from = ap (λ l. l ++ missing (suc m) entries bound)
    (span_more n m (omega (arith, from.0)))
missing_more n bound (Fresh m text ∷ entries) lt from = missing_more n bound entries lt from.1

deleted_seen : (k : ℕ) (cells : List Cell) → deleted_from k cells ≡ missing (suc k) (seen_from k cells)
    (suc k + bases cells)
deleted_seen k [] = let none : suc k + 0 - suc k ≡ 0 = omega arith in ap (span (suc k)) (sym none)
deleted_seen k (Base true ∷ cells) =
    let bound : suc (suc k) + bases cells ≡ suc k + suc (bases cells) = omega arith in
    ap (λ l. suc k ∷ l) (deleted_seen (suc k) cells ∙ ap (missing (suc (suc k)) (seen_from (suc k) cells)) bound)
    ∙ sym (missing_more (suc k) (suc k + suc (bases cells)) (seen_from (suc k) cells) (omega arith)
    (from_seen (suc k) cells))
deleted_seen k (Base false ∷ cells) =
    let bound : suc (suc k) + bases cells ≡ suc k + suc (bases cells) = omega arith in
    let none : suc k - suc k ≡ 0 = omega arith in
    deleted_seen (suc k) cells
    ∙ (ap (missing (suc (suc k)) (seen_from (suc k) cells)) bound
    ∙ ap (λ n. span (suc k) n ++ missing (suc (suc k)) (seen_from (suc k) cells) (suc k + suc (bases cells)))
    (sym none))
deleted_seen k (New text ∷ cells) = deleted_seen k cells

-- where the entries are numbered from a greater number on, the lines so far are whole
grouped_next : (k : ℕ) (texts : List (List ℕ)) (entries : List DraftLine) → From (suc (suc k)) entries
    → with_added k texts (grouped (suc k) [] entries) ≡ grouped k texts entries
grouped_next k texts [] from = refl
grouped_next k texts (Kept n ∷ entries) from = refl
grouped_next k texts (Fresh n text ∷ entries) from =
    ap (with_added k texts) (first_group (n == suc k) refl)
    ∙ ap (λ t. cond t (grouped k (texts ++ text ∷ []) entries) (with_added k texts (grouped n (text ∷ []) entries)))
    (sym (ne_eqb n k (λ e. omega (arith, from.0))))
  where
    first_group : (t : Bool) → (n == suc k) ≡ t → cond t (grouped (suc k) (text ∷ []) entries)
        (grouped n (text ∷ []) entries) ≡ grouped n (text ∷ []) entries
    first_group true is = ap (λ m. grouped m (text ∷ []) entries) (sym (eqb-true n (suc k) is))
    first_group false is = refl

added_seen : (k : ℕ) (texts : List (List ℕ)) (cells : List Cell) → added_from k texts cells ≡ grouped k texts
    (seen_from k cells)
added_seen k texts [] = refl
added_seen k texts (Base true ∷ cells) =
    ap (with_added k texts) (added_seen (suc k) [] cells) ∙ grouped_next k texts (seen_from (suc k) cells)
    (from_seen (suc k) cells)
added_seen k texts (Base false ∷ cells) = ap (with_added k texts) (added_seen (suc k) [] cells)
added_seen k texts (New text ∷ cells) =
    added_seen k (texts ++ text ∷ []) cells ∙ ap (λ t. cond t (grouped k (texts ++ text ∷ []) (seen_from k cells))
    (with_added k texts (grouped k (text ∷ []) (seen_from k cells)))) (sym (eq-eqb k k refl))

seen_base : (k count : ℕ) → seen_from k (replicate count (Base false)) ≡ map Kept (span (suc k) count)
seen_base k zero = refl
seen_base k (suc count) = ap (λ l. Kept (suc k) ∷ l) (seen_base (suc k) count)

bases_base : (count : ℕ) → bases (replicate count (Base false)) ≡ count
bases_base zero = refl
bases_base (suc count) = ap suc (bases_base count)

one_kept : (c : Cell) → is_there c ≡ true → flat one_of (struck c) ≡ one_of c
one_kept (Base deleted) there = refl
one_kept (New text) there = refl

bases_run : (orders : List Order) (count : ℕ) → bases (cells_of orders count) ≡ count
bases_run orders count =
    ap length (kept-run is_there struck New one_of (record { new = λ text. refl; away = one_kept }) orders
    (replicate count (Base false))) ∙ bases_base count

pub span_length : (n count : ℕ) → length (map Kept (span n count)) ≡ count
span_length n zero = refl
span_length n (suc count) = ap suc (span_length (suc n) count)

-- the plan is that of what stands in the text at the end
pub plan_edited : (next : ℕ) (orders : List Order) (count : ℕ) → AllByRecursion (FitsIn next) orders
    → ranged orders count ≡ Ok tt → plan orders count ≡ draft_plan (edited_draft orders (draft_base count)) count
plan_edited next orders count fit ok =
    let base : seen_from 0 (replicate count (Base false)) ≡ draft_base count = seen_base 0 count in
    let seen : seen_from 0 (cells_of orders count) ≡ edited_draft orders (draft_base count) =
    seen-run next orders (replicate count (Base false)) fit (ap (ranged orders) (ap length base ∙ span_length 1 count)
    ∙ ok) ∙ ap (edited_draft orders) base in
    ap (λ l. the_plan l (added_from 0 [] (cells_of orders count)))
    (deleted_seen 0 (cells_of orders count) ∙ (ap (λ l. missing 1 l (1 + bases (cells_of orders count))) seen
    ∙ (let bound : 1 + bases (cells_of orders count) ≡ suc count = omega (arith, bases_run orders count) in
    ap (missing 1 (edited_draft orders (draft_base count))) bound)))
    ∙ ap (the_plan (missing 1 (edited_draft orders (draft_base count)) (suc count)))
    (added_seen 0 [] (cells_of orders count) ∙ ap (grouped 0 []) seen)
  where
    the_plan : List ℕ → List Added → Plan
    the_plan deleted added = record { deleted = deleted; added = added }
