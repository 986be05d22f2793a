-- The lines of the texts of a script that was read and checked.
use Rattle.std.proofs.Common.{◌≡◌, ℕ, suc, Bool, true, false, cond, List, [], ◌∷◌, ◌++◌, Option, None, Some, Result, Ok}
use Rattle.std.proofs.Common.{Err, IfSome, refl, subst}
use Rattle.std.specs.List.{AllByRecursion}
use Rattle.std.proofs.lemmas.List.Elements.{recursion_from_All}
use Rattle.sccs_base.specs.Cut.{HasNoLf, text_of}
use Rattle.sccs_base.proofs.Lines.{text_fit}
use Rattle.sccs_sid.specs.SidLists.{begins}
use Rattle.sccs_script_laws.specs.declared.scripts.Order.{Order}
use Rattle.sccs_script.specs.Checks.{bad_line, bare_soh, both_ok, checked_script, HaveLines, or_bad, ranged}
use Rattle.sccs_script.specs.Commands.{begun_order, script_command, is_deletion, is_end_of_text, open_in, opened_order}
use Rattle.sccs_script.specs.Commands.{order_of, orders_from, orders_of, turn_at, unless_bad, whole_in, with_line}
use Rattle.sccs_script.specs.declared.commands.Command.{Command}
use Rattle.sccs_script.specs.declared.faults.ScriptFault.{ScriptFault}
use Rattle.sccs_script.specs.declared.turns.Turn.{Turn}
use Rattle.sccs_script.specs.declared.turns.Turn.TheVariants.{Bad, Open, Whole}
use Rattle.sccs_script.proofs.PieceLaws.{all_push}

-- ---- no line has LF

abbrev Ends : Order → Type 0
Ends order = AllByRecursion HasNoLf order.lines

abbrev TurnEnds : Turn → Type 0
TurnEnds (Whole order) = Ends order
TurnEnds (Open order) = Ends order
TurnEnds (Bad line) = Unit {0}

opened_ends : (whole : Bool) (order : Order) → Ends order → TurnEnds (opened_order whole order)
opened_ends true order ends = ends
opened_ends false order ends = ends

begun_ends : (at : ℕ) (command : Option Command) → TurnEnds (begun_order at command)
begun_ends at None = tt
begun_ends at (Some c) = opened_ends (is_deletion c.kind) (order_of at c) tt

with_line_ends : (dot : Bool) (order : Order) (line : List ℕ) → Ends order → HasNoLf line
    → TurnEnds (with_line dot order line)
with_line_ends true order line ends one = ends
with_line_ends false order line ends one = all_push HasNoLf order.lines line ends one

turn_ends : (text : Option Order) (at : ℕ) (line : List ℕ) → IfSome text Ends → HasNoLf line
    → TurnEnds (turn_at text at line)
turn_ends None at line ends one = begun_ends at (script_command line)
turn_ends (Some order) at line ends one = with_line_ends (is_end_of_text line) order line ends one

lines_end : (lines : List (List ℕ)) (orders : List Order) (text : Option Order) (count : ℕ) (read : List Order)
    → AllByRecursion HasNoLf lines → AllByRecursion Ends orders → IfSome text Ends
    → orders_from orders text count lines ≡ Ok read → AllByRecursion Ends read
unfolding orders_from
lines_end [] orders None count read each before open_text is = let same : orders ≡ read = cc in
    subst (AllByRecursion Ends) same before
lines_end [] orders (Some order) count read each before open_text is = cc
lines_end (line ∷ lines) orders text count read each before open_text is =
    step line lines orders count read (turn_at text (suc count) line) (turn_ends text (suc count) line open_text each.0)
    before is (λ more next ends ends_next rest. lines_end lines more next (suc count) read each.1 ends ends_next
    rest)
  where
    step : (line : List ℕ) (lines : List (List ℕ)) (orders : List Order) (count : ℕ) (read : List Order) (t : Turn)
        → TurnEnds t → AllByRecursion Ends orders
        → unless_bad t (orders_from (whole_in orders t) (open_in t) (suc count) lines) ≡ Ok read
        → ((more : List Order) (next : Option Order) → AllByRecursion Ends more → IfSome next Ends
        → orders_from more next (suc count) lines ≡ Ok read → AllByRecursion Ends read)
        → AllByRecursion Ends read
    step line lines orders count read (Whole order) ends before is on = on (orders ++ order ∷ []) None
        (all_push Ends orders order before ends) tt is
    step line lines orders count read (Open order) ends before is on = on orders (Some order) before ends is
    step line lines orders count read (Bad at) ends before is on = cc

-- ---- no line begins with SOH

abbrev Plain : Order → Type 0
Plain order = AllByRecursion (λ text. begins 1 text ≡ false) order.lines

lines_plain : (before : ℕ) (lines : List (List ℕ)) → bad_line before lines ≡ None
    → AllByRecursion (λ text. begins 1 text ≡ false) lines
lines_plain before [] is = tt
lines_plain before (line ∷ lines) is = by (begins 1 line) refl is (λ none. lines_plain (suc before) lines none)
  where
    by : (t : Bool) → begins 1 line ≡ t → cond t (Some (suc before)) (bad_line (suc before) lines) ≡ None
        → (bad_line (suc before) lines ≡ None → AllByRecursion (λ text. begins 1 text ≡ false) lines)
        → (begins 1 line ≡ false) × AllByRecursion (λ text. begins 1 text ≡ false) lines
    by true at none rest = cc
    by false at none rest = (at, rest none)

no_bad : (line : Option ℕ) (rest : Result (Unit {0}) ScriptFault) → or_bad line rest ≡ Ok tt → (line ≡ None)
    × (rest ≡ Ok tt)
no_bad (Some line) rest is = cc
no_bad None rest is = (refl, is)

texts_plain : (orders : List Order) → bare_soh orders ≡ Ok tt → AllByRecursion Plain orders
texts_plain [] is = tt
texts_plain (order ∷ orders) is =
    let parts = no_bad (bad_line order.line order.lines) (bare_soh orders) is in
    (lines_plain order.line order.lines parts.0, texts_plain orders parts.1)

second_ok : (one two : Result (Unit {0}) ScriptFault) → both_ok one two ≡ Ok tt → two ≡ Ok tt
second_ok (Ok x) two is = is
second_ok (Err fault) two is = cc

-- ---- both

both_lines : (lines : List (List ℕ)) → AllByRecursion (λ text. begins 1 text ≡ false) lines
    → AllByRecursion HasNoLf lines → AllByRecursion (λ text. (begins 1 text ≡ false) × HasNoLf text) lines
both_lines [] plain ends = tt
both_lines (line ∷ lines) plain ends = ((plain.0, ends.0), both_lines lines plain.1 ends.1)

both_orders : (orders : List Order) → AllByRecursion Plain orders → AllByRecursion Ends orders → HaveLines orders
both_orders [] plain ends = tt
both_orders (order ∷ orders) plain ends = (both_lines order.lines plain.0 ends.0, both_orders orders plain.1 ends.1)

pub have_lines : (bytes : List ℕ) (orders : List Order) (lines : ℕ) → orders_of bytes ≡ Ok orders
    → checked_script orders lines ≡ Ok tt → HaveLines orders
have_lines bytes orders lines read ok =
    both_orders orders (texts_plain orders (second_ok (ranged orders lines) (bare_soh orders) ok))
    (lines_end (text_of bytes) [] None 0 orders (recursion_from_All HasNoLf (text_of bytes) (text_fit bytes)) tt tt
    read)
