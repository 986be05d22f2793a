-- A filter goes from item to item.
use Rattle.std.proofs.Common.{◌≡◌, ℕ, Bool, true, List, [], ◌∷◌, ◌++◌, Option, None, Some, Result, Ok, Err, IfOk, OnOk}
use Rattle.std.proofs.Common.{refl, sym, ap, subst, ◌∙◌, append_assoc, append-nil}
use Rattle.std.specs.Prelude.{if◌then◌else◌}
use Rattle.std.specs.Result.{IsErrAnd}
use Rattle.std.proofs.lemmas.Result.{err_from_is_err_and}
use Rattle.sccs_disk.specs.Told.{Told}
use Rattle.sccs_disk.specs.declared.disks.DiskRefusal.{DiskRefusal}
use Rattle.sccs_history.specs.declared.headers.Item.{Item}
use Rattle.sccs_splicer.proofs.Spelling.{spelled_both}
use Rattle.sccs_writers.specs.Puts.{Puts, PutsText, Writer}
use Rattle.sccs_writers.specs.Spelled.{spelled}
use Rattle.sccs_writers.proofs.PutLaws.{puts_both, puts_left, puts_none, text_both}
use Rattle.sccs_copies.specs.Copies.{PutsFiltered}
use Rattle.sccs_copies.specs.Filters.{Filter, Filters, Finishes, TakesItem, items_before}

-- ---- outputs

pub front_none : (o : Option (List Item)) → items_before [] o ≡ o
front_none None = refl
front_none (Some items) = refl

pub front_both : (xs ys : List Item) (o : Option (List Item)) → items_before (xs ++ ys) o ≡ items_before xs
    (items_before ys o)
front_both xs ys None = refl
front_both xs ys (Some items) = ap (λ (l : List Item). Some l) (append_assoc xs ys items)

-- what is left of an output whose first items are known
pub rest_of : (xs items : List Item) (o : Option (List Item)) → items_before xs o ≡ Some items → (rest : List Item)
    × (o ≡ Some rest) × (items ≡ xs ++ rest)
rest_of xs items None is = absurd cc
rest_of xs items (Some rest) is = (rest, refl, cc)

-- ---- from item to item

pub filters_none : {F : Type 0} (filter : Filter F) (before : List Item) (f : F) → filter.stands f before
    → Filters filter before before [] [] f f
filters_none filter before f stands =
    record { behind = stands; goes = λ rest. front_none (filter.output f before rest) }

pub filters_both : {F : Type 0} (filter : Filter F) (before mid after xs ys one two : List Item) (f f2 f3 : F)
    → Filters filter before mid xs one f f2 → Filters filter mid after ys two f2 f3 → Filters filter before after
    (xs ++ ys) (one ++ two) f f3
filters_both filter before mid after xs ys one two f f2 f3 p q = record {
  behind = q.behind;
  goes = λ rest.
      front_both one two (filter.output f3 after rest)
      ∙ (ap (items_before one) (q.goes rest) ∙ (p.goes (ys ++ rest) ∙ ap (filter.output f before)
      (sym (append_assoc xs ys rest))));
}

pub filtered_none : {F : Type 0} (filter : Filter F) (before : List Item) (f : F) (w : Writer) (t : Told)
    → filter.stands f before → PutsFiltered filter before before [] f f w w t t
filtered_none filter before f w t stands =
    record { items = []; puts = puts_none w t; filters = filters_none filter before f stands }

pub filtered_both : {F : Type 0} (filter : Filter F) (before mid after xs ys : List Item) (f f2 f3 : F)
    (w w2 w3 : Writer) (a b c : Told) → PutsFiltered filter before mid xs f f2 w w2 a b
    → PutsFiltered filter mid after ys f2 f3 w2 w3 b c
    → PutsFiltered filter before after (xs ++ ys) f f3 w w3 a c
filtered_both filter before mid after xs ys f f2 f3 w w2 w3 a b c p q = record {
  items = p.items ++ q.items;
  puts = subst (λ text. Puts text w w3 a c) (sym (spelled_both p.items q.items)) (puts_both (spelled p.items)
      (spelled q.items) w w2 w3 a b c p.puts q.puts);
  filters = filters_both filter before mid after xs ys p.items q.items f f2 f3 p.filters q.filters;
}

pub ok_of : {T E : Type 0} (P : Type 0) (r : Result T E) (x : T) → r ≡ Ok x → OnOk r P → P
ok_of P r x is on = subst (λ (s : Result _ _). OnOk s P) is on

-- behind a reading an item is taken
pub filtered_one : {F T : Type 0} (filter : Filter F) (before : List Item) (item : Item) (f f2 : F) (w w2 : Writer)
    (a m b : Told) (g h : ℕ) (q : Result T DiskRefusal) (done : T) → q ≡ Ok done → m ≡ a
    → TakesItem filter item f f2 w w2 m b g h q → filter.stands f before → PutsFiltered filter before (item ∷ before)
    (item ∷ []) f f2 w w2 a b
filtered_one filter before item f f2 w w2 a m b g h q done is same takes stands = record {
  items = takes.items;
  puts = subst (λ t. Puts (spelled takes.items) w w2 t b) same (ok_of (Puts (spelled takes.items) w w2 m b) q done is
      takes.puts.ok);
  filters = ok_of ((before : List Item) → filter.stands f before → Filters filter before (item ∷ before)
      (item ∷ []) takes.items f f2) q done is takes.filters before stands;
}

-- ---- behind the last item

pub text_as : {T U : Type 0} (text : List ℕ) (w w2 : Writer) (a b : Told) (f g : ℕ) (r : Result T DiskRefusal) (x : T)
    (y : U) → r ≡ Ok x → PutsText text w w2 a b f g r → PutsText {T = U} text w w2 a b f g (Ok y)
text_as text w w2 a b f g r x y is puts =
    record {
      ok = ok_of (Puts text w w2 a b) r x is puts.ok;
      name = puts.name;
      only = puts.only;
      later = puts.later;
      cause = λ failed. absurd cc;
    }

-- what a filter that ended said of its output
pub ended_output : {F : Type 0} (filter : Filter F) (f : F) (w w2 : Writer) (a b : Told) (g h : ℕ)
    (q : Result Bool DiskRefusal) (accepts : Bool) → q ≡ Ok accepts → (end : Finishes filter f w w2 a b g h q)
    → (before : List Item) → filter.stands f before
    → filter.output f before [] ≡ (if accepts then Some end.items else None)
ended_output filter f w w2 a b g h q accepts is end =
    subst (λ (s : Result Bool DiskRefusal). IfOk s (λ accepts. (before : List Item) → filter.stands f before
    → filter.output f before [] ≡ (if accepts then Some end.items else None))) is end.ends

-- and then what was held back is appended
pub ended_flushed : {F T : Type 0} (filter : Filter F) (f : F) (w w2 w3 : Writer) (a b c : Told) (g h k : ℕ)
    (q : Result Bool DiskRefusal) (accepts : Bool) (r : Result T DiskRefusal) (done : T) → q ≡ Ok accepts
    → accepts ≡ true → r ≡ Ok done
    → Finishes filter f w w2 a b g h q → PutsText [] w2 w3 b c h k r → Finishes filter f w w3 a c g k (Ok true)
ended_flushed filter f w w2 w3 a b c g h k q accepts r done is accepted so end flush = record {
  items = end.items;
  puts = subst (λ text. PutsText text w w3 a c g k (Ok true)) (append-nil (spelled end.items))
      (text_as (spelled end.items ++ []) w w3 a c g k r done true so (text_both (spelled end.items) [] w w2 w3 a b c g h
      k q r accepts is end.puts flush));
  ends = ended_output filter f w w2 a b g h q true (is ∙ ap (λ (t : Bool). Ok t) accepted) end;
}

-- or the disk fails there
pub ended_left : {F T : Type 0} (filter : Filter F) (f : F) (w w2 w3 : Writer) (a b c : Told) (g h k : ℕ)
    (q : Result Bool DiskRefusal) (accepts : Bool) (s : Result T DiskRefusal) (refusal : DiskRefusal)
    (r : Result Bool DiskRefusal) → q ≡ Ok accepts → s ≡ Err refusal
    → IsErrAnd r (λ e. e ≡ refusal) → Finishes filter f w w2 a b g h q → PutsText [] w2 w3 b c h k s
    → Finishes filter f w w3 a c g k r
ended_left filter f w w2 w3 a b c g h k q accepts s refusal r is failed left end flush = record {
  items = end.items;
  puts = puts_left (spelled end.items) refusal failed left (text_both (spelled end.items) [] w w2 w3 a b c g h k q s
      accepts is end.puts flush);
  ends = subst (λ (x : Result Bool DiskRefusal). IfOk x (λ accepts. (before : List Item) → filter.stands f before
      → filter.output f before [] ≡ (if accepts then Some end.items else None)))
      (sym (err_from_is_err_and r left).1) tt;
}
