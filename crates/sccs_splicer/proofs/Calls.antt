-- Calls that put items one after the other.
use Rattle.std.proofs.Common.{◌≡◌, ℕ, Bool, true, false, cond, not, ◌&&◌, List, [], ◌∷◌, ◌++◌, length, Result, Ok, Err}
use Rattle.std.proofs.Common.{OnOk, refl, sym, ap, subst, ◌∙◌, append_assoc, IsErrOf, arith}
use Rattle.sccs_disk.specs.Told.{Told}
use Rattle.sccs_disk.specs.declared.disks.DiskRefusal.{DiskRefusal}
use Rattle.sccs_disk.specs.declared.disks.DiskRefusal.TheVariants as fault
use Rattle.sccs_history.specs.Numbers.{front_if}
use Rattle.sccs_history.specs.declared.headers.Item.{Item}
use Rattle.sccs_history.specs.declared.headers.Item.TheVariants.{Text, Insert, End}
use Rattle.sccs_tokens.specs.Written.{bytes_of, ended, item_line}
use Rattle.sccs_script_laws.specs.Places.{block}
use Rattle.sccs_writers.specs.Puts.{PutsText, Writer}
use Rattle.sccs_writers.specs.Spelled.{spelled}
use Rattle.sccs_writers.proofs.OneFile.{only_none}
use Rattle.sccs_writers.proofs.PutLaws.{puts_nothing, text_both, text_cut, on_err}
use Rattle.sccs_splicer.specs.Splices.{due_lines, SplicesOn, marked_items, may_join, settled_splice, settled_items}
use Rattle.sccs_splicer.specs.Splices.{Splices, SplicerState}
use Rattle.sccs_script_laws.specs.Plans.{added_after}
use Rattle.sccs_splicer.proofs.Spelling.{spelled_block, spelled_both, spelled_one}

-- nothing is put where nothing is wanted
pub nothing_put : (items : List Item) → items ≡ [] → (w : Writer) (t : Told) (f : ℕ) → PutsText {T = Unit {0}}
    (spelled items) w w t t f f (Ok tt)
nothing_put items none w t f = subst (λ l. PutsText {T = Unit {0}} (spelled l) w w t t f f (Ok tt)) (sym none)
    (puts_nothing w t f)

pub due_none : (s : SplicerState) → s.due ≡ false → due_lines s ≡ []
due_none s is = ap (λ b. cond b (block s.serial (added_after s.line s.plan.added)) []) is

pub front_none : (t : Bool) (item : Item) → t ≡ false → front_if t item [] ≡ []
front_none t item is = ap (λ b. front_if b item []) is

pub block_none : (n : ℕ) (lines : List (List ℕ)) → length lines ≡ 0 → block n lines ≡ []
block_none n [] none = refl
block_none n (line ∷ lines) none = absurd (omega (arith, none))

pub front_both : (t : Bool) (x : Item) (xs ys : List Item) → front_if t x xs ++ ys ≡ front_if t x (xs ++ ys)
front_both true x xs ys = refl
front_both false x xs ys = refl

-- what is put before the next text item, part by part
pub settled_text : (s : SplicerState) (goes : Bool) → (spelled (front_if (s.opened && not goes) (End s.serial) [])
    ++ spelled (due_lines s)) ++ spelled s.held ≡ spelled (settled_items s goes)
settled_text s goes =
    let front : List Item = front_if (s.opened && not goes) (End s.serial) [] in
    ap (λ l. l ++ spelled s.held) (sym (spelled_both front (due_lines s)))
    ∙ (sym (spelled_both (front ++ due_lines s) s.held)
    ∙ ap spelled (append_assoc front (due_lines s) s.held ∙ front_both (s.opened && not goes) (End s.serial) []
    (due_lines s ++ s.held)))

pub marked_text : (t : Bool) (begin : Item) (text : List ℕ) → spelled (front_if t begin []) ++ ended text ≡ spelled
    (front_if t begin (Text text ∷ []))
marked_text t begin text =
    ap (λ l. spelled (front_if t begin []) ++ l) (sym (spelled_one (Text text)))
    ∙ (sym (spelled_both (front_if t begin []) (Text text ∷ [])) ∙ ap spelled (front_both t begin [] (Text text ∷ [])))

pub more_text : (items : List Item) (item : Item) → spelled items ++ ended (item_line item) ≡ spelled
    (items ++ item ∷ [])
more_text items item = ap (λ l. spelled items ++ l) (sym (spelled_one item)) ∙ sym (spelled_both items (item ∷ []))

-- the parts of a line of the base
pub line_text : (s s2 : SplicerState) (goes : Bool) (text : List ℕ) → goes ≡ may_join s → s2 ≡ settled_splice s
    → spelled (settled_items s goes) ++ spelled (marked_items s2 goes text) ≡ spelled (settled_items s (may_join s)
    ++ marked_items s (may_join s) text)
line_text s s2 goes text is same =
    ap (λ (t : SplicerState). spelled (settled_items s goes) ++ spelled (marked_items t goes text)) same
    ∙ (sym (spelled_both (settled_items s goes) (marked_items s goes text))
    ∙ ap (λ t. spelled (settled_items s t ++ marked_items s t text)) is)

pub block_text : (n : ℕ) (lines : List (List ℕ)) → (length lines ≡ 0 → ⊥)
    → (ended (item_line (Insert n)) ++ bytes_of lines) ++ ended (item_line (End n)) ≡ spelled (block n lines)
block_text n [] some = absurd (some refl)
block_text n (line ∷ lines) some = spelled_block n line lines

-- a text is put, and a further call puts more, which make a third text
pub then_puts : {T U : Type 0} (x y z : List ℕ) (w w2 w3 : Writer) (a b c : Told) (f g h : ℕ) (q : Result U DiskRefusal)
    (r : Result T DiskRefusal) (done : U)
    → x ++ y ≡ z → q ≡ Ok done → PutsText x w w2 a b f g q → PutsText y w2 w3 b c g h r → PutsText z w w3 a c f h r
then_puts x y z w w2 w3 a b c f g h q r done same is first second =
    subst (λ text. PutsText text w w3 a c f h r) same (text_both x y w w2 w3 a b c f g h q r done is first second)

-- a text is put, and a further call fails
pub then_cut : {T U V : Type 0} (x y z : List ℕ) (w w2 w3 : Writer) (a b c : Told) (f g h : ℕ)
    (q : Result U DiskRefusal) (r : Result V DiskRefusal) (s : Result T DiskRefusal) (done : U) (refusal : DiskRefusal)
    → q ≡ Ok done → r ≡ Err refusal → s ≡ Err refusal → PutsText x w w2 a b f g q → PutsText y w2 w3 b c g h r
    → PutsText z w w3 a c f h s
then_cut x y z w w2 w3 a b c f g h q r s done refusal is failed so first second =
    text_cut (x ++ y) z w w3 a c f h r s refusal failed so (text_both x y w w2 w3 a b c f g h q r done is first second)

-- the call ends behind one that put a text
pub all_put : (x : List ℕ) (w w2 : Writer) (a b : Told) (f g : ℕ) (q : Result (Unit {0}) DiskRefusal) (done : Unit {0})
    → q ≡ Ok done → PutsText x w w2 a b f g q → PutsText {T = Unit {0}} x w w2 a b f g (Ok tt)
all_put x w w2 a b f g q done is puts = subst (λ r. PutsText {T = Unit {0}} x w w2 a b f g r) is puts

-- a call that only keeps something puts nothing
pub kept_puts : (w : Writer) (t : Told) (f : ℕ) (r : Result (Unit {0}) DiskRefusal) → (IsErrOf r fault.Failed → ⊥)
    → PutsText [] w w t t f f r
kept_puts w t f (Ok done) other = puts_nothing w t f
kept_puts w t f (Err fault.Memory) other =
    record { ok = tt; name = refl; only = only_none w.name t; later = omega arith; cause = λ failed. cc }
kept_puts w t f (Err fault.Failed) other = absurd (other refl)

pub on_any : {T : Type 0} (P : Type 0) (r : Result T DiskRefusal) → P → OnOk r P
on_any P (Ok done) p = p
on_any P (Err refusal) p = tt

-- ---- items that are pushed

pub splices_cut : {T : Type 0} (pushed : List (Item × Bool)) (s s2 : SplicerState) (w w2 : Writer) (a b : Told)
    (f g : ℕ) (r : Result T DiskRefusal) (refusal : DiskRefusal)
    → r ≡ Err refusal → PutsText (spelled []) w w2 a b f g r → Splices pushed s s2 w w2 a b f g r
splices_cut pushed s s2 w w2 a b f g r refusal is puts =
    record { items = []; puts = puts; goes = on_err (SplicesOn pushed [] s s2) refusal r is }

-- items are put, and the splicer goes on behind what was pushed
pub splices_done : {T : Type 0} (pushed : List (Item × Bool)) (items : List Item) (s s2 s3 : SplicerState)
    (w w2 : Writer) (a b : Told) (f g : ℕ) (r : Result T DiskRefusal)
    → SplicesOn pushed items s s2 → OnOk r (s3 ≡ s2) → PutsText (spelled items) w w2 a b f g r
    → Splices pushed s s3 w w2 a b f g r
splices_done pushed items s s2 s3 w w2 a b f g r goes same puts =
    record { items = items; puts = puts; goes = on_ok r same }
  where
    on_ok : {T : Type 0} (r : Result T DiskRefusal) → OnOk r (s3 ≡ s2) → OnOk r (SplicesOn pushed items s s3)
    on_ok (Ok done) same = subst (SplicesOn pushed items s) (sym same) goes
    on_ok (Err refusal) same = tt
