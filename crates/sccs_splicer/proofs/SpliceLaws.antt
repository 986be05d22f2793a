-- Items are pushed one after the other: what is put, and what is still owed.
use Rattle.std.proofs.Common.{◌≡◌, ℕ, suc, ◌+◌, Bool, true, false, not, ◌&&◌, List, [], ◌∷◌, ◌++◌, refl, sym, ap, ◌∙◌}
use Rattle.std.proofs.Common.{append_assoc, arith}
use Rattle.std.proofs.lemmas.Bool.{false≢true}
use Rattle.sccs_history.specs.Numbers.{front_if, has, is_empty}
use Rattle.sccs_history.specs.declared.headers.Item.{Item}
use Rattle.sccs_history.specs.declared.headers.Item.TheVariants.{Text, Insert, Delete, End}
use Rattle.sccs_script_laws.specs.Places.{spliced, spread, visible_next}
use Rattle.sccs_script_laws.specs.Plans.{added_after}
use Rattle.sccs_script_laws.specs.declared.scripts.Plan.{Plan}
use Rattle.sccs_splicer.specs.Splices.{base_count, new_splice, due_lines, SplicesOn, holding, IsControl, splice_goes_on}
use Rattle.sccs_splicer.specs.Splices.{marked_items, may_join, items_owed, passed, settled_splice, settled_items}
use Rattle.sccs_splicer.specs.Splices.{SplicerState}
use Rattle.sccs_splicer.proofs.Calls.{front_both}

-- what was owed before the next text item, and what follows
settled_both : (s : SplicerState) (goes : Bool) (rest : List Item) → settled_items s goes ++ rest ≡ front_if
    (s.opened && not goes) (End s.serial) (due_lines s ++ (s.held ++ rest))
settled_both s goes rest =
    front_both (s.opened && not goes) (End s.serial) (due_lines s ++ s.held) rest
    ∙ ap (λ l. front_if (s.opened && not goes) (End s.serial) l) (append_assoc (due_lines s) s.held rest)

no_join : (a b c d : Bool) → (a && (b && c)) ≡ false → (a && (b && (c && d))) ≡ false
no_join true true true d e = absurd (false≢true (sym e))
no_join true true false d e = refl
no_join true false c d e = refl
no_join false b c d e = refl

no_next : (a b c : Bool) → (a && (b && (c && false))) ≡ false
no_next true true true = refl
no_next true true false = refl
no_next true false c = refl
no_next false b c = refl

with_next : (a b c : Bool) → (a && (b && (c && true))) ≡ (a && (b && c))
with_next true true true = refl
with_next true true false = refl
with_next true false c = refl
with_next false b c = refl

-- what is owed, by whether the region goes on
abbrev owed_by : SplicerState → Bool → List Item → List Item
owed_by s goes rest = front_if (s.opened && not goes) (End s.serial) (due_lines s ++ (s.held ++ rest))

pub goes_held : (s : SplicerState) (item : Item) (visible : Bool) → IsControl item
    → SplicesOn ((item, visible) ∷ []) [] s (holding s item)
goes_held s item visible control = record {
  owes = λ rest. owes item control rest;
  line = line item control;
  plan = refl;
}
  where
    more : (goes : Bool) (item : Item) (rest : List Item) → owed_by (holding s item) goes rest ≡ owed_by s goes
        (item ∷ rest)
    more goes item rest = ap (λ l. front_if (s.opened && not goes) (End s.serial) (due_lines s ++ l))
        (append_assoc s.held (item ∷ []) rest)

    owes : (item : Item) → IsControl item → (rest : List (Item × Bool)) → items_owed (holding s item) rest
        ≡ items_owed s ((item, visible) ∷ rest)
    owes (Text t) control rest = absurd control
    owes (Insert m) control rest = more (splice_goes_on s rest) (Insert m)
        (spread s.plan s.serial (splice_goes_on s rest) s.line rest)
    owes (Delete m) control rest = more (splice_goes_on s rest) (Delete m)
        (spread s.plan s.serial (splice_goes_on s rest) s.line rest)
    owes (End m) control rest = more (splice_goes_on s rest) (End m) (spread s.plan s.serial (splice_goes_on s rest)
        s.line rest)

    line : (item : Item) → IsControl item → s.line ≡ s.line + base_count ((item, visible) ∷ [])
    line (Text t) control = absurd control
    line (Insert m) control = omega arith
    line (Delete m) control = omega arith
    line (End m) control = omega arith

pub goes_control : (s : SplicerState) (item : Item) (visible : Bool) → IsControl item → may_join s ≡ false
    → SplicesOn ((item, visible) ∷ []) (settled_items s false ++ item ∷ []) s (settled_splice s)
goes_control s item visible control apart = record {
  owes = λ rest. owes item control rest;
  line = line item control;
  plan = refl;
}
  where
    more : (item : Item) (rest : List (Item × Bool)) → (settled_items s false ++ item ∷ []) ++ items_owed
        (settled_splice s) rest ≡ owed_by s (splice_goes_on s rest) (item ∷ spread s.plan s.serial
        (splice_goes_on s rest) s.line rest)
    more item rest =
        append_assoc (settled_items s false) (item ∷ []) (items_owed (settled_splice s) rest)
        ∙ (settled_both s false (item ∷ spread s.plan s.serial false s.line rest)
        ∙ ap (λ t. owed_by s t (item ∷ spread s.plan s.serial t s.line rest))
        (sym (no_join s.opened (is_empty (added_after s.line s.plan.added)) (has s.plan.deleted (suc s.line))
        (visible_next rest) apart)))

    owes : (item : Item) → IsControl item → (rest : List (Item × Bool)) → (settled_items s false ++ item ∷ [])
        ++ items_owed (settled_splice s) rest ≡ items_owed s ((item, visible) ∷ rest)
    owes (Text t) control rest = absurd control
    owes (Insert m) control rest = more (Insert m) rest
    owes (Delete m) control rest = more (Delete m) rest
    owes (End m) control rest = more (End m) rest

    line : (item : Item) → IsControl item → s.line ≡ s.line + base_count ((item, visible) ∷ [])
    line (Text t) control = absurd control
    line (Insert m) control = omega arith
    line (Delete m) control = omega arith
    line (End m) control = omega arith

pub goes_hidden : (s : SplicerState) (text : List ℕ) → SplicesOn ((Text text, false) ∷ []) (settled_items s false
    ++ Text text ∷ []) s (settled_splice s)
goes_hidden s text = record {
  owes = λ rest.
      append_assoc (settled_items s false) (Text text ∷ []) (items_owed (settled_splice s) rest)
      ∙ (settled_both s false (Text text ∷ spread s.plan s.serial false s.line rest)
      ∙ ap (λ t. owed_by s t (Text text ∷ spread s.plan s.serial false s.line rest))
      (sym (no_next s.opened (is_empty (added_after s.line s.plan.added)) (has s.plan.deleted (suc s.line)))));
  line = omega arith;
  plan = refl;
}

pub goes_line : (s : SplicerState) (text : List ℕ) → SplicesOn ((Text text, true) ∷ []) (settled_items s (may_join s)
    ++ marked_items s (may_join s) text) s (passed (settled_splice s))
goes_line s text = record {
  owes = λ rest.
      append_assoc (settled_items s (may_join s)) (marked_items s (may_join s) text)
      (items_owed (passed (settled_splice s)) rest)
      ∙ (ap (λ l. settled_items s (may_join s) ++ l) (front_both (has s.plan.deleted (suc s.line) && not (may_join s))
      (Delete s.serial) (Text text ∷ []) (items_owed (passed (settled_splice s)) rest))
      ∙ (settled_both s (may_join s) (front_if (has s.plan.deleted (suc s.line) && not (may_join s)) (Delete s.serial)
      (Text text ∷ items_owed (passed (settled_splice s)) rest))
      ∙ ap (λ t. owed_by s t (front_if (has s.plan.deleted (suc s.line) && not t) (Delete s.serial)
      (Text text ∷ items_owed (passed (settled_splice s)) rest)))
      (sym (with_next s.opened (is_empty (added_after s.line s.plan.added)) (has s.plan.deleted (suc s.line))))));
  line = omega arith;
  plan = refl;
}

-- before all items what is owed is all
pub owed_first : (n : ℕ) (p : Plan) (told : List (Item × Bool)) → items_owed (new_splice n p) told ≡ spliced p n told
owed_first n p told = refl
