-- Each place of a body can be followed to a whole one.
use Rattle.std.proofs.Common.{◌≡◌, ℕ, zero, suc, ◌+◌, ◌<◌, max, ◌==◌, Bool, true, false, not, cond, ◌&&◌, ◌||◌, List}
use Rattle.std.proofs.Common.{[], ◌∷◌, ◌++◌, length, map, Option, None, Some, Result, Ok, Err, refl, sym, ap, subst}
use Rattle.std.proofs.Common.{◌∙◌, arith, eqb-true}
use Rattle.std.specs.List.{AllByRecursion}
use Rattle.std.specs.Prelude.{if◌then◌else◌}
use Rattle.sccs_sid.specs.Reading.{◌>>=◌}
use Rattle.sccs_history.specs.Numbers.{is_empty, has, falling, front_if, Falls}
use Rattle.sccs_history.specs.Body.{Mark, Closed, ByInsert, ByDelete, is_closed, mark, above, open_serials, is_over}
use Rattle.sccs_history.specs.Body.{GoesOn}
use Rattle.sccs_history.specs.declared.headers.Item.{Item}
use Rattle.sccs_history.specs.declared.headers.Item.TheVariants.{Text, Insert, Delete, End}
use Rattle.sccs_history.proofs.Falling.{falling_has, has-falling, has-falls, Falls-falling}
use Rattle.sccs_history.proofs.LiveLines.{OpensLive, opens_live}
use Rattle.sccs_tokens.specs.Items.{go_on, item_at, items_from}
use Rattle.sccs_tokens.specs.Written.{IsItem, IsSerial, item_line}
use Rattle.sccs_tokens.proofs.BodyLaws.{items_again, line_may}
use Rattle.sccs_grammar_laws.specs.ViablePrefixes.{AreSerials, BodyCompletion, Reached, ends}
use Rattle.std.proofs.lemmas.Bool.{not-true, and_from, or_right}
use Rattle.sccs_base.proofs.Bools.{same_test, equal_self}

-- ---- what is open

-- the serial is open behind these items
abbrev is_open : List Item → ℕ → Bool
is_open before n = not (is_closed (mark n before))

open_here : (same : Bool) (here there : Mark) (m n top : ℕ) → (m == n) ≡ same → (not (is_closed there) ≡ true → n < top)
    → not (is_closed (cond same here there)) ≡ true → n < max (suc m) top
open_here true here there m n top is later opened = let one : m ≡ n = eqb-true m n is in omega (arith, one)
open_here false here there m n top is later opened = let below : n < top = later opened in omega (arith, below)

-- each open serial is below the number above all
open_below : (before : List Item) (n : ℕ) → is_open before n ≡ true → n < above before
open_below [] n opened = absurd cc
open_below (Text text ∷ before) n opened = open_below before n opened
open_below (Insert m ∷ before) n opened = open_here (m == n) ByInsert (mark n before) m n (above before) refl
    (open_below before n) opened
open_below (Delete m ∷ before) n opened = open_here (m == n) ByDelete (mark n before) m n (above before) refl
    (open_below before n) opened
open_below (End m ∷ before) n opened = open_here (m == n) Closed (mark n before) m n (above before) refl
    (open_below before n) opened

-- a serial is open exactly where it is among the open serials
open_has : (before : List Item) (n : ℕ) → is_open before n ≡ has (open_serials before) n
open_has before n =
    same_test (is_open before n) (has (open_serials before) n)
    (λ opened. has-falling (above before) (is_open before) n (open_below before n opened) opened)
    (λ there. (falling_has (above before) (is_open before) n there).1)

none_pass : (b : ℕ) (test : ℕ → Bool) → ((n : ℕ) → test n ≡ false) → falling b test ≡ []
none_pass zero test none = refl
none_pass (suc m) test none = ap (λ b. front_if b m (falling m test)) (none m) ∙ none_pass m test none

-- ---- ending all that is open

self_has : (same : Bool) (rest : Bool) → same ≡ true → (same || rest) ≡ true
self_has true rest is = refl
self_has false rest is = cc

ended_has : (n m : ℕ) (ns : List ℕ) (there : Mark) (same : Bool) → (n == m) ≡ same → Falls n ns
    → not (is_closed there) ≡ (same || has ns m) → not (is_closed (cond same Closed there)) ≡ has ns m
ended_has n m ns there true is falls opened = let one : n ≡ m = eqb-true n m is in
    sym (has-falls ns n m falls (omega (arith, one)))
ended_has n m ns there false is falls opened = opened

ends_go : (live : List ℕ) (before : List Item) (b : ℕ) (ns : List ℕ) → Falls b ns → ((n : ℕ) → has ns n ≡ true
    → has live n ≡ true) → ((n : ℕ) → is_open before n ≡ has ns n) → GoesOn live before (map End ns)
ends_go live before b [] falls lives opens = ap is_empty (none_pass (above before) (is_open before) opens)
ends_go live before b (n ∷ ns) falls lives opens =
    let here : has (n ∷ ns) n ≡ true = self_has (n == n) (has ns n) (equal_self n) in (
      and_from (has live n) (is_open before n) (lives n here) (opens n ∙ here),
      ends_go live (End n ∷ before) n ns falls.1 (λ m there. lives m (or_right (n == m) (has ns m) there))
          (λ m. ended_has n m ns (mark m before) (n == m) refl falls.1 (opens m)),
    )

none_open : (live : List ℕ) → OpensLive live []
none_open live = λ n opened. absurd cc

reached_live : (live : List ℕ) (before : List Item) → Reached live before → OpensLive live before
reached_live live [] reached = none_open live
reached_live live (item ∷ before) reached = opens_live live before item (reached_live live before reached.1) reached.0

pub ends_whole : (live : List ℕ) (before : List Item) → Reached live before → GoesOn live before (ends before)
ends_whole live before reached =
    ends_go live before (above before) (open_serials before) (Falls-falling (above before) (is_open before))
    (λ n there. reached_live live before reached n (not-true (is_closed (mark n before)) (open_has before n ∙ there)))
    (open_has before)

-- ---- the lines that do so

chosen : (P : ℕ → Type 0) (same there : Bool) (m n : ℕ) → (m == n) ≡ same → P m → (there ≡ true → P n)
    → (same || there) ≡ true → P n
chosen P true there m n is first rest some = subst P (eqb-true m n is) first
chosen P false there m n is first rest some = rest some

serial_of : (live : List ℕ) (n : ℕ) → AreSerials live → has live n ≡ true → IsSerial n
serial_of [] n are is = absurd cc
serial_of (m ∷ live) n are is = chosen IsSerial (m == n) (has live n) m n refl are.0 (serial_of live n are.1) is

ends_items : (ns : List ℕ) → ((n : ℕ) → has ns n ≡ true → IsSerial n) → AllByRecursion IsItem (map End ns)
ends_items [] are = tt
ends_items (n ∷ ns) are = (
  are n (self_has (n == n) (has ns n) (equal_self n)),
  ends_items ns
      (λ m there. are m (or_right (n == m) (has ns m) there)),
)

ends_read : (live : List ℕ) (n : ℕ) (before : List Item) → AreSerials live → Reached live before
    → items_from live n before (map item_line (ends before)) [] ≡ Ok (ends before)
ends_read live n before are reached =
    items_again live n before (ends before)
    (ends_items (open_serials before) (λ m there. serial_of live m are (reached_live live before reached m
    (not-true (is_closed (mark m before)) (open_has before m ∙ there)))))
    (ends_whole live before reached)

-- ---- the lines before a fault

-- the lines before the one at fault, behind others, can be followed to a whole body
record Ends (live : List ℕ) (n k : ℕ) (before : List Item) (lines : List (List ℕ)) : Type 0 where
  good : List (List ℕ)
  rest : List (List ℕ)
  more : List (List ℕ)
  items : List Item
  split : lines ≡ good ++ rest
  fault : k ≡ n + length good
  whole : items_from live n before (good ++ more) [] ≡ Ok items

ends_at : (live : List ℕ) (n k : ℕ) (before : List Item) (lines : List (List ℕ)) → AreSerials live → Reached live before
    → k ≡ n → Ends live n k before lines
ends_at live n k before lines are reached is = record {
  good = [];
  rest = lines;
  more = map item_line (ends before);
  items = ends before;
  split = refl;
  fault = omega (arith, is);
  whole = ends_read live n before are reached;
}

end_fault : (read : Result (List Item) ℕ) (whole : Bool) (n k : ℕ) → read ≡ (if whole then Ok [] else Err n)
    → read ≡ Err k → k ≡ n
end_fault read true n k is failed = absurd cc
end_fault read false n k is failed = cc

no_lines : (live : List ℕ) (n : ℕ) (before : List Item) (tail : List ℕ) → items_from live n before [] tail
    ≡ (if is_over before && is_empty tail then Ok [] else Err n)
unfolding items_from
no_lines live n before tail = refl

one_line : (live : List ℕ) (n : ℕ) (before : List Item) (line : List ℕ) (lines : List (List ℕ)) (tail : List ℕ)
    → items_from live n before (line ∷ lines) tail ≡ go_on n (item_at live before line) (λ item. items_from live (suc n)
    (item ∷ before) lines tail)
unfolding items_from
one_line live n before line lines tail = refl

bound_fault : (read : Result (List Item) ℕ) (item : Item) (k : ℕ) → (read >>= λ items. Ok (item ∷ items)) ≡ Err k
    → read ≡ Err k
bound_fault (Ok items) item k is = absurd cc
bound_fault (Err j) item k is = cc

longer : (live : List ℕ) (n k : ℕ) (before : List Item) (line : List ℕ) (lines : List (List ℕ)) (item : Item)
    → item_at live before line ≡ Some item → Ends live (suc n) k (item ∷ before) lines
    → Ends live n k before (line ∷ lines)
longer live n k before line lines item is e = record {
  good = line ∷ e.good;
  rest = e.rest;
  more = e.more;
  items = item ∷ e.items;
  split = ap (λ ls. line ∷ ls) e.split;
  fault = omega (arith, e.fault);
  whole = one_line live n before line (e.good ++ e.more) []
      ∙ (ap (λ (found : Option Item). go_on n found (λ (i : Item). items_from live (suc n) (i ∷ before)
      (e.good ++ e.more) [])) is
      ∙ ap (λ (read : Result (List Item) ℕ). read >>= λ items. Ok (item ∷ items)) e.whole);
}

same_fault : (read : Result (List Item) ℕ) (n k : ℕ) → read ≡ Err n → read ≡ Err k → k ≡ n
same_fault read n k is failed = cc

line_by : (live : List ℕ) (n k : ℕ) (before : List Item) (line : List ℕ) (lines : List (List ℕ)) (tail : List ℕ)
    (found : Option Item) → AreSerials live → Reached live before → item_at live before line ≡ found
    → go_on n found (λ item. items_from live (suc n) (item ∷ before) lines tail) ≡ Err k
    → ((item : Item) → Reached live (item ∷ before) → items_from live (suc n) (item ∷ before) lines tail ≡ Err k
    → Ends live (suc n) k (item ∷ before) lines) → Ends live n k before (line ∷ lines)
line_by live n k before line lines tail None are reached is failed rest =
    ends_at live n k before (line ∷ lines) are reached
    (same_fault (go_on n None (λ item. items_from live (suc n) (item ∷ before) lines tail)) n k refl failed)
line_by live n k before line lines tail (Some item) are reached is failed rest =
    longer live n k before line lines item is (rest item (line_may live before line item is, reached)
    (bound_fault (items_from live (suc n) (item ∷ before) lines tail) item k failed))

lines_end : (live : List ℕ) (n k : ℕ) (before : List Item) (lines : List (List ℕ)) (tail : List ℕ) → AreSerials live
    → Reached live before → items_from live n before lines tail ≡ Err k → Ends live n k before lines
lines_end live n k before [] tail are reached failed = ends_at live n k before [] are reached
    (end_fault (items_from live n before [] tail) (is_over before && is_empty tail) n k (no_lines live n before tail)
    failed)
lines_end live n k before (line ∷ lines) tail are reached failed =
    line_by live n k before line lines tail (item_at live before line) are reached refl
    (sym (one_line live n before line lines tail) ∙ failed)
    (λ item more_reached more_failed. lines_end live (suc n) k (item ∷ before) lines tail are more_reached more_failed)

pub body_ends : (live : List ℕ) (n k : ℕ) (lines : List (List ℕ)) (tail : List ℕ) → AreSerials live
    → items_from live n [] lines tail ≡ Err k → BodyCompletion live n k lines
body_ends live n k lines tail are failed =
    let e = lines_end live n k [] lines tail are tt failed in
    record {
      good = e.good;
      rest = e.rest;
      more = e.more;
      items = e.items;
      split = e.split;
      fault = e.fault;
      whole =
          e.whole;
    }
