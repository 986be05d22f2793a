-- Items that are pushed one after the other, and what was put at the end.
use Rattle.std.proofs.Common.{◌≤◌, ◌≡◌, ℕ, suc, ◌+◌, Bool, true, false, List, [], ◌∷◌, ◌++◌, length, Result, Ok, Err}
use Rattle.std.proofs.Common.{OnOk, refl, sym, ap, subst, ◌∙◌, append-nil, arith}
use Rattle.sccs_disk.specs.Told.{Told}
use Rattle.sccs_disk.specs.declared.disks.DiskRefusal.{DiskRefusal}
use Rattle.sccs_history.specs.Numbers.{front_if}
use Rattle.sccs_history.specs.Body.{line_at, lines_behind}
use Rattle.sccs_history.specs.Select.{select, shows}
use Rattle.sccs_history.specs.declared.headers.Item.{Item}
use Rattle.sccs_history.specs.declared.headers.Item.TheVariants.{Text, Insert, Delete, End}
use Rattle.sccs_script_laws.specs.Places.{told_behind}
use Rattle.sccs_writers.specs.Puts.{PutsText, Writer}
use Rattle.sccs_writers.specs.Spelled.{spelled}
use Rattle.sccs_writers.proofs.PutLaws.{text_both}
use Rattle.sccs_splicer.specs.Splices.{base_count, SplicesOn, items_owed, Splices, SplicerState}
use Rattle.sccs_splicer.proofs.Spelling.{spelled_both}

pub count_both : (xs ys : List (Item × Bool)) → base_count (xs ++ ys) ≡ base_count xs + base_count ys
count_both [] ys = omega arith
count_both ((Text text, true) ∷ xs) ys = omega (arith, count_both xs ys)
count_both ((Text text, false) ∷ xs) ys = count_both xs ys
count_both ((Insert m, visible) ∷ xs) ys = count_both xs ys
count_both ((Delete m, visible) ∷ xs) ys = count_both xs ys
count_both ((End m, visible) ∷ xs) ys = count_both xs ys

ok_goes : {T : Type 0} (P : Type 0) (r : Result T DiskRefusal) (done : T) → r ≡ Ok done → OnOk r P → P
ok_goes P r done is on = subst (λ (s : Result _ DiskRefusal). OnOk s P) is on

-- all items are pushed, and what is owed behind them is put
pub splices_end : {T U : Type 0} (told : List (Item × Bool)) (s s2 : SplicerState) (w w2 w3 : Writer) (a b c : Told)
    (f g h : ℕ) (q : Result U DiskRefusal) (r : Result T DiskRefusal) (done : U)
    → q ≡ Ok done → Splices told s s2 w w2 a b f g q → PutsText (spelled (items_owed s2 [])) w2 w3 b c g h r
    → PutsText (spelled (items_owed s told)) w w3 a c f h r
splices_end told s s2 w w2 w3 a b c f g h q r done is one last =
    let goes : SplicesOn told one.items s s2 = ok_goes (SplicesOn told one.items s s2) q done is one.goes in
    subst (λ text. PutsText text w w3 a c f h r)
    (sym (spelled_both one.items (items_owed s2 [])) ∙ ap spelled (goes.owes [] ∙ ap (items_owed s) (append-nil told)))
    (text_both (spelled one.items) (spelled (items_owed s2 [])) w w2 w3 a b c f g h q r done is one.puts last)

shown_count : (t : Bool) (text : List ℕ) (rest : List (Item × Bool)) (texts : List (List ℕ))
    → base_count rest ≡ length texts → base_count ((Text text, t) ∷ rest) ≡ length (front_if t text texts)
shown_count true text rest texts same = ap suc same
shown_count false text rest texts same = same

-- as many lines are pushed as visible as the set shows
pub shown_lines : (set : List ℕ) (before items : List Item) → base_count (told_behind set before items) ≡ length
    (select set (lines_behind before items))
shown_lines set before [] = refl
shown_lines set before (Text text ∷ items) =
    shown_count (shows set (line_at before text)) text (told_behind set (Text text ∷ before) items)
    (select set (lines_behind (Text text ∷ before) items)) (shown_lines set (Text text ∷ before) items)
shown_lines set before (Insert m ∷ items) = shown_lines set (Insert m ∷ before) items
shown_lines set before (Delete m ∷ items) = shown_lines set (Delete m ∷ before) items
shown_lines set before (End m ∷ items) = shown_lines set (End m ∷ before) items

one_line : (item : Item) (visible : Bool) → base_count ((item, visible) ∷ []) ≤ 1
one_line (Text text) true = omega arith
one_line (Text text) false = omega arith
one_line (Insert m) visible = omega arith
one_line (Delete m) visible = omega arith
one_line (End m) visible = omega arith

-- an item is at most one line
pub pushed_line : {T : Type 0} (item : Item) (visible : Bool) (s s2 : SplicerState) (w w2 : Writer) (a b : Told)
    (f g : ℕ) (r : Result T DiskRefusal) → Splices ((item, visible) ∷ []) s s2 w w2 a b f g r
    → OnOk r (s2.line ≤ s.line + 1)
pushed_line item visible s s2 w w2 a b f g r pushed = on_ok pushed.items r pushed.goes
  where
    on_ok : {T : Type 0} (items : List Item) (r : Result T DiskRefusal)
        → OnOk r (SplicesOn ((item, visible) ∷ []) items s s2) → OnOk r (s2.line ≤ s.line + 1)
    on_ok items (Ok done) goes = omega (arith, goes.line, one_line item visible)
    on_ok items (Err refusal) goes = tt
