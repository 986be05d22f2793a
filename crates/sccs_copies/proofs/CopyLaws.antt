-- A copy goes from item to item.
use Rattle.std.proofs.Common.{◌≡◌, ℕ, ◌≤◌, Bool, true, false, List, [], ◌∷◌, ◌++◌, Option, None, Some, Result, Ok, Err}
use Rattle.std.proofs.Common.{OnOk, refl, sym, ap, subst, ◌∙◌, arith, append_assoc}
use Rattle.std.specs.Result.{IsErrAnd}
use Rattle.std.proofs.lemmas.Result.{err_from_is_err_and}
use Rattle.sccs_base.specs.Stream.{Rose}
use Rattle.sccs_disk.specs.Told.{Told}
use Rattle.sccs_disk.specs.declared.disks.DiskRefusal.{DiskRefusal}
use Rattle.sccs_disk.specs.declared.disks.DiskRefusal.TheVariants as refusals
use Rattle.sccs_grammar.specs.declared.faults.FileFault.{FileFault}
use Rattle.sccs_grammar.specs.declared.faults.FileFault.TheVariants as faults
use Rattle.sccs_history.specs.declared.headers.Item.{Item}
use Rattle.sccs_body.specs.Reader.{ItemPlace}
use Rattle.sccs_body.specs.ToCome.{GivesNext, ToCome}
use Rattle.sccs_splicer.proofs.Spelling.{spelled_both}
use Rattle.sccs_versions.proofs.RunLaws.{onto_read}
use Rattle.sccs_writers.specs.OneFile.{OnlyWrites}
use Rattle.sccs_writers.specs.Puts.{Puts, PutsText, Writer}
use Rattle.sccs_writers.specs.Spelled.{spelled}
use Rattle.sccs_writers.proofs.OneFile.{only_both, only_none, only_same}
use Rattle.sccs_writers.proofs.PutLaws.{puts_both, puts_none}
use Rattle.sccs_copies.specs.Copies.{CopiesAll, CopiesNext, CopiesSome, CopiesWhole, CopyComes, IsFaultAroundCopy}
use Rattle.sccs_copies.specs.Copies.{PutsItems, PutsSome, as_file_fault}
use Rattle.sccs_copies.specs.Filters.{Filter, Finishes, TakesItem}
use Rattle.sccs_copies.specs.declared.copies.Copying.{Copying}
use Rattle.sccs_copies.proofs.ComingItems.{Given}
use Rattle.sccs_copies.proofs.FilterLaws.{ended_output, filtered_one, ok_of, rest_of}
use Rattle.sccs_base.proofs.Rises.{rose_later}
use Rattle.sccs_versions.proofs.ItemLaws.{none_more}

-- ---- over any disk

-- nothing is put yet
pub some_none : (w : Writer) (t : Told) (f : ℕ) → PutsSome {T = Unit {0}} w w t t f f (Ok tt)
some_none w t f = record {
  text = [];
  ok = puts_none w t;
  name = refl;
  only = only_none w.name t;
  later = omega arith;
  cause = λ failed. absurd cc;
}

-- a reading that puts nothing
pub some_read : {T : Type 0} (w : Writer) (a b : Told) (f g : ℕ) (r : Result T FileFault) → b ≡ a → f ≤ g
    → (r ≡ Err faults.Failed → Rose f g) → PutsSome w w a b f g r
some_read w a b f g r same later cause = record {
  text = [];
  ok = subst (λ t. OnOk r (Puts [] w w a t)) (sym same) (on_any (Puts [] w w a a) r (puts_none w a));
  name = refl;
  only = only_same w.name a b same;
  later = later;
  cause = cause;
}
  where
    on_any : {T : Type 0} (P : Type 0) (r : Result T FileFault) → P → OnOk r P
    on_any P (Ok x) p = p
    on_any P (Err e) p = tt

pub failed_as : {U : Type 0} (q : Result U DiskRefusal) (refusal : DiskRefusal) → q ≡ Err refusal
    → as_file_fault refusal ≡ faults.Failed → q ≡ Err refusals.Failed
failed_as q refusals.Failed is so = is
failed_as q refusals.Memory is so = absurd cc

-- behind a reading a text is put
pub some_put : {T U : Type 0} (x : List ℕ) (w w2 : Writer) (a m b : Told) (f g h : ℕ) (q : Result U DiskRefusal)
    (done : U) (last : T) → q ≡ Ok done → m ≡ a → f ≤ g → PutsText x w w2 m b g h q → PutsSome {T = T} w w2 a b f h
    (Ok last)
some_put x w w2 a m b f g h q done last is same low puts = record {
  text = x;
  ok = subst (λ t. Puts x w w2 t b) same (ok_of (Puts x w w2 m b) q done is puts.ok);
  name = puts.name;
  only = subst (λ t. OnlyWrites w.name t b) same puts.only;
  later = omega (arith, low, puts.later);
  cause = λ failed. absurd cc;
}

-- behind a reading a text is cut
pub some_cut : {T U : Type 0} (x : List ℕ) (w w2 : Writer) (a m b : Told) (f g h : ℕ) (q : Result U DiskRefusal)
    (refusal : DiskRefusal) (r : Result T FileFault) → q ≡ Err refusal → r ≡ Err (as_file_fault refusal) → m ≡ a → f ≤ g
    → PutsText x w w2 m b g h q → PutsSome w w2 a b f h r
some_cut x w w2 a m b f g h q refusal r is so same low puts = record {
  text = [];
  ok = subst (λ (s : Result _ FileFault). OnOk s (Puts [] w w2 a b)) (sym so) tt;
  name = puts.name;
  only = subst (λ t. OnlyWrites w.name t b) same puts.only;
  later = omega (arith, low, puts.later);
  cause = λ failed. rose_later f g h low
      (puts.cause (failed_as q refusal is (err_same r (as_file_fault refusal) faults.Failed so failed)));
}
  where
    err_same : {T : Type 0} (r : Result T FileFault) (e e2 : FileFault) → r ≡ Err e → r ≡ Err e2 → e ≡ e2
    err_same r e e2 is so = cc

-- the same fault of a call of another type
pub err_again : {T U : Type 0} (e e2 : FileFault) (r : Result T FileFault) (s : Result U FileFault) → r ≡ Err e
    → s ≡ Err e → r ≡ Err e2 → s ≡ Err e2
err_again e e2 r s is was so = cc

abbrev err_of : FileFault → Result (Unit {0}) FileFault
err_of e = Err e

pub fault_of : (e e2 : FileFault) → err_of e ≡ err_of e2 → e ≡ e2
fault_of e e2 is = cc

-- a reading that fails
pub some_unread : {T U : Type 0} (w : Writer) (a b : Told) (f g : ℕ) (q : Result U FileFault) (fault : FileFault)
    (r : Result T FileFault) → q ≡ Err fault → IsErrAnd r (λ e. e ≡ fault) → b ≡ a → f ≤ g
    → (q ≡ Err faults.Failed → Rose f g) → PutsSome w w a b f g r
some_unread w a b f g q fault r is left same low cause =
    let p = err_from_is_err_and r left in
    some_read w a b f g r same low (λ failed. cause (err_again fault faults.Failed r q (p.1
    ∙ ap (λ (e : FileFault). Err e) p.2) is failed))

-- what is put, and then the body is refused
pub some_refused : {T U : Type 0} (x : List ℕ) (w w2 : Writer) (a b : Told) (f g : ℕ) (q : Result U DiskRefusal)
    (done : U) (line : ℕ) → q ≡ Ok done → PutsText x w w2 a b f g q → PutsSome {T = T} w w2 a b f g
    (Err (faults.BadFormat line))
some_refused x w w2 a b f g q done line is puts =
    record { text = x; ok = tt; name = puts.name; only = puts.only; later = puts.later; cause = λ failed. absurd cc }

-- some is put, and then more
pub some_both : {T U : Type 0} (w w2 w3 : Writer) (a b c : Told) (f g h : ℕ) (q : Result U FileFault) (done : U)
    (r : Result T FileFault) → q ≡ Ok done → PutsSome w w2 a b f g q → PutsSome w2 w3 b c g h r
    → PutsSome w w3 a c f h r
some_both w w2 w3 a b c f g h q done r is first second = record {
  text = first.text ++ second.text;
  ok = both r second.ok;
  name = second.name ∙ first.name;
  only = only_both w.name a b c first.only (subst (λ n. OnlyWrites n b c) first.name second.only);
  later = omega (arith, first.later, second.later);
  cause = λ failed. rose_later f g h first.later (second.cause failed);
}
  where
    both : {T : Type 0} (r : Result T FileFault) → OnOk r (Puts second.text w2 w3 b c)
        → OnOk r (Puts (first.text ++ second.text) w w3 a c)
    both (Ok x) p = puts_both first.text second.text w w2 w3 a b c (ok_of (Puts first.text w w2 a b) q done is first.ok)
        p
    both (Err e) p = tt

-- ---- of a told file

pub copies_none : {F : Type 0} (filter : Filter F) (file : List ℕ) (items : List Item) (c : Copying F) (w : Writer)
    (t : Told) → CopyComes filter file items c → CopiesSome filter file items c c w w t t
copies_none filter file items c w t come =
    record { first = []; rest = items; whole = refl; puts = puts_none w t; on = come }

pub two_puts : (xs ys : List Item) (w w2 w3 : Writer) (a b c : Told) → Puts (spelled xs) w w2 a b
    → Puts (spelled ys) w2 w3 b c → Puts (spelled (xs ++ ys)) w w3 a c
two_puts xs ys w w2 w3 a b c p q = subst (λ text. Puts text w w3 a c) (sym (spelled_both xs ys))
    (puts_both (spelled xs) (spelled ys) w w2 w3 a b c p q)

two_wholes : (items first mid second rest : List Item) → items ≡ first ++ mid → mid ≡ second ++ rest
    → items ≡ (first ++ second) ++ rest
two_wholes items first mid second rest p q = p ∙ (ap (λ l. first ++ l) q ∙ sym (append_assoc first second rest))

pub copies_both : {F : Type 0} (filter : Filter F) (file : List ℕ) (items : List Item) (c c2 c3 : Copying F)
    (w w2 w3 : Writer) (a b z : Told) → (p : CopiesSome filter file items c c2 w w2 a b)
    → CopiesSome filter file p.rest c2 c3 w2 w3 b z
    → CopiesSome filter file items c c3 w w3 a z
copies_both filter file items c c2 c3 w w2 w3 a b z p q = record {
  first = p.first ++ q.first;
  rest = q.rest;
  whole = two_wholes items p.first p.rest q.first q.rest p.whole q.whole;
  puts = two_puts p.first q.first w w2 w3 a b z p.puts q.puts;
  on = q.on;
}

pub copies_end : {F : Type 0} (filter : Filter F) (file : List ℕ) (items : List Item) (c c2 : Copying F) (f3 : F)
    (w w2 w3 : Writer) (a b z : Told) → (p : CopiesSome filter file items c c2 w w2 a b)
    → CopiesWhole filter p.rest f3 w2 w3 b z
    → CopiesWhole filter items f3 w w3 a z
copies_end filter file items c c2 f3 w w2 w3 a b z p q = record {
  first = p.first ++ q.first;
  rest = q.rest;
  after = q.after;
  whole = two_wholes items p.first p.rest q.first q.rest p.whole q.whole;
  puts = two_puts p.first q.first w w2 w3 a b z p.puts q.puts;
  stands = q.stands;
  output_is = q.output_is;
}

-- the next item is read, and the filter takes it
pub copies_one : {F T : Type 0} (filter : Filter F) (file : List ℕ) (items : List Item) (c c2 : Copying F)
    (place : ItemPlace) (found : Option Item) (item : Item) (w w2 : Writer) (a m z : Told) (g h : ℕ)
    (q : Result T DiskRefusal) (done : T)
    → q ≡ Ok done → m ≡ a → found ≡ Some item → Given file c.items place (Ok found) → c2.items ≡ place
    → TakesItem filter item c.filter c2.filter w w2 m z g h q → CopyComes filter file items c
    → CopiesSome filter file items c c2 w w2 a z
copies_one filter file items c c2 place found item w w2 a m z g h q done is same found_is given placed takes p =
    let comes = subst (λ f. GivesNext file p.live p.before (Ok p.rest) place (Ok f)) found_is
    (given p.live p.before (Ok p.rest) p.comes) in
    let split = onto_read (item ∷ []) comes.rest p.rest (sym comes.first) in
    let put = filtered_one filter p.before item c.filter c2.filter w w2 a m z g h q done is same takes p.stands in
    let left = rest_of put.items items (filter.output c2.filter (item ∷ p.before) split.0) (put.filters.goes split.0
    ∙ (ap (filter.output c.filter p.before) (sym split.2) ∙ p.output_is)) in
    record {
      first = put.items;
      rest = left.0;
      whole = left.2;
      puts = put.puts;
      on = record {
        live = p.live;
        before = item ∷ p.before;
        rest = split.0;
        comes = subst (ToCome file p.live (item ∷ p.before) (Ok split.0)) (sym placed)
            (subst (λ f. ToCome file p.live (item ∷ p.before) f place) split.1 comes.on);
        stands = put.filters.behind;
        output_is = left.1;
      };
    }

-- no item is to come
pub copies_last : {F : Type 0} (filter : Filter F) (file : List ℕ) (items : List Item) (c : Copying F)
    (place : ItemPlace) (found : Option Item) (w : Writer) (a b : Told) → b ≡ a → found ≡ None
    → Given file c.items place (Ok found) → CopyComes filter file items c
    → CopiesWhole filter items c.filter w w a b
copies_last filter file items c place found w a b same found_is given p =
    let none = none_more p.rest (subst (λ f. GivesNext file p.live p.before (Ok p.rest) place (Ok f)) found_is
    (given p.live p.before (Ok p.rest) p.comes)) in
    record {
      first = [];
      rest = items;
      after = p.before;
      whole = refl;
      puts = subst (λ t. Puts [] w w a t) (sym same) (puts_none w a);
      stands = p.stands;
      output_is = ap (filter.output c.filter p.before) (sym none) ∙ p.output_is;
    }

-- all items are taken, and the filter puts what it has left
pub whole_put : {F : Type 0} (filter : Filter F) (items : List Item) (f2 : F) (w w2 w3 : Writer) (a b z : Told)
    (g h : ℕ) (q : Result Bool DiskRefusal) (accepts : Bool) → q ≡ Ok accepts → accepts ≡ true
    → CopiesWhole filter items f2 w w2 a b
    → Finishes filter f2 w2 w3 b z g h q → Puts (spelled items) w w3 a z
whole_put filter items f2 w w2 w3 a b z g h q accepts is accepted p end =
    let said = ended_output filter f2 w2 w3 b z g h q true (is ∙ ap (λ (t : Bool). Ok t) accepted) end p.after
    p.stands in
    let same : p.rest ≡ end.items = some_same p.rest end.items (sym p.output_is ∙ said) in
    subst (λ l. Puts (spelled l) w w3 a z) (sym (p.whole ∙ ap (λ l. p.first ++ l) same))
    (two_puts p.first end.items w w2 w3 a b z p.puts (ok_of (Puts (spelled end.items) w2 w3 b z) q accepts is
    end.puts.ok))
  where
    some_same : (xs ys : List Item) → Some xs ≡ Some ys → xs ≡ ys
    some_same xs ys is = cc

-- of a body that a filter has an output for it doesn't say that it refuses it
pub never_refused : {F : Type 0} (filter : Filter F) (items : List Item) (f2 : F) (w w2 w3 : Writer) (a b z : Told)
    (g h : ℕ) (q : Result Bool DiskRefusal) (accepts : Bool) → q ≡ Ok accepts → accepts ≡ false
    → CopiesWhole filter items f2 w w2 a b
    → Finishes filter f2 w2 w3 b z g h q → ⊥
never_refused filter items f2 w w2 w3 a b z g h q accepts is refused p end =
    never p.rest (sym p.output_is ∙ ended_output filter f2 w2 w3 b z g h q false (is ∙ ap (λ (t : Bool). Ok t) refused)
    end p.after p.stands)
  where
    never : (xs : List Item) → Some xs ≡ None → ⊥
    never xs is = cc

-- the fault of a call that was left by `?`
pub outer_left : {F : Type 0} (filter : Filter F) (items : List Item) (f2 : F) (w w2 w3 : Writer) (a b z : Told)
    (fault : FileFault) (r : Result (Unit {0}) FileFault) → IsErrAnd r (λ e. e ≡ fault)
    → CopiesAll filter items f2 w w2 a b (Err fault) → PutsItems items w w3 a z r
outer_left filter items f2 w w2 w3 a b z fault r left outer =
    let p = err_from_is_err_and r left in
    subst (PutsItems items w w3 a z) (sym (p.1 ∙ ap (λ (e : FileFault). Err e) p.2)) outer

pub next_left : {F : Type 0} (filter : Filter F) (file : List ℕ) (items : List Item) (c c2 : Copying F) (w w2 : Writer)
    (a b : Told) (fault : FileFault) (r : Result Bool FileFault) → IsErrAnd r (λ e. e ≡ fault) → IsFaultAroundCopy fault
    → CopiesNext filter file items c c2 w w2 a b r
next_left filter file items c c2 w w2 a b fault r left outer =
    let p = err_from_is_err_and r left in
    subst (CopiesNext filter file items c c2 w w2 a b) (sym (p.1 ∙ ap (λ (e : FileFault). Err e) p.2)) outer

-- ---- answers of other types

pub some_as : {T U : Type 0} (w w2 : Writer) (a b : Told) (f g : ℕ) (x : T) (y : U) → PutsSome {T = T} w w2 a b f g
    (Ok x) → PutsSome {T = U} w w2 a b f g (Ok y)
some_as w w2 a b f g x y puts = record {
  text = puts.text;
  ok = puts.ok;
  name = puts.name;
  only = puts.only;
  later =
      puts.later;
  cause = λ failed. absurd cc;
}

pub some_err : {T U : Type 0} (w w2 : Writer) (a b : Told) (f g : ℕ) (fault : FileFault) → PutsSome {T = T} w w2 a b f g
    (Err fault) → PutsSome {T = U} w w2 a b f g (Err fault)
some_err w w2 a b f g fault puts = record {
  text = puts.text;
  ok = tt;
  name = puts.name;
  only = puts.only;
  later =
      puts.later;
  cause = λ failed. puts.cause cc;
}
