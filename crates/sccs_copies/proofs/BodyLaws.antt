-- What is read and put of a body over any disk.
use Rattle.std.proofs.Common.{◌≡◌, ℕ, Bool, true, List, [], ◌∷◌, ◌++◌, Option, None, Some, Result, Ok, Err, IfOk, refl}
use Rattle.std.proofs.Common.{sym, ap, subst, ◌∙◌, append-nil, append_assoc}
use Rattle.sccs_disk.specs.Told.{Told}
use Rattle.sccs_disk.specs.declared.disks.DiskRefusal.{DiskRefusal}
use Rattle.sccs_grammar.specs.declared.faults.FileFault.{FileFault}
use Rattle.sccs_history.specs.Body.{GoesOn}
use Rattle.sccs_history.specs.declared.headers.Header.{Header}
use Rattle.sccs_history.specs.declared.headers.Item.{Item}
use Rattle.sccs_body.specs.ItemsRead.{MovesToItem, IsBehind}
use Rattle.sccs_body.specs.BodyFile.{items_of}
use Rattle.sccs_body.specs.Reader.{ItemPlace}
use Rattle.sccs_body.specs.ToCome.{IsFrontFor, ToCome}
use Rattle.sccs_history.specs.Applied.{live_serials}
use Rattle.sccs_table.specs.declared.fronts.Front.{Front}
use Rattle.sccs_table.specs.SumOf.{IsSumOf}
use Rattle.sccs_writers.specs.HeaderBytes.{WritesHeader}
use Rattle.sccs_writers.specs.Puts.{Puts, Writer}
use Rattle.sccs_writers.specs.Spelled.{spelled}
use Rattle.sccs_copies.specs.Copies.{AppendsFile, AppendsText, CopiesBody, CopiesItems, CopiesOn, CopyComes, OfSomeBody}
use Rattle.sccs_copies.specs.Copies.{PutsFiltered}
use Rattle.sccs_copies.specs.Filters.{Filter, Finishes, TakesItem, identity, items_before}
use Rattle.sccs_copies.specs.declared.copies.Copying.{Copying}
use Rattle.sccs_copies.proofs.AppendLaws.{items_behind, sums_answered}
use Rattle.sccs_copies.proofs.CopyLaws.{two_puts}
use Rattle.sccs_copies.proofs.FilterLaws.{ended_output, filtered_both, filtered_none, filtered_one, ok_of}

-- ---- on and on

-- nothing is read yet
abbrev pub on_none : {F : Type 0} (filter : Filter F) (live : List ℕ) (before : List Item) (c : Copying F) (w : Writer)
    (t : Told) → IsBehind live before c.items → filter.stands c.filter before → CopiesOn filter live before c c w w t t
on_none filter live before c w t behind stands = record {
  some = record {
    taken = [];
    after = before;
    goes = λ rest goes. goes;
    put =
        filtered_none filter before c.filter w t stands;
  };
  behind = behind;
}

-- more is read behind some
abbrev pub items_both : {F : Type 0} (filter : Filter F) (live : List ℕ) (before : List Item) (c c2 c3 : Copying F)
    (w w2 w3 : Writer) (a b z : Told) → (p : CopiesItems filter live before c c2 w w2 a b)
    → CopiesItems filter live p.after c2 c3 w2 w3 b z
    → CopiesItems filter live before c c3 w w3 a z
items_both filter live before c c2 c3 w w2 w3 a b z p q = record {
  taken = p.taken ++ q.taken;
  after = q.after;
  goes = λ rest goes. subst (GoesOn live before) (sym (append_assoc p.taken q.taken rest)) (p.goes (q.taken ++ rest)
      (q.goes rest goes));
  put = filtered_both filter before p.after q.after p.taken q.taken c.filter c2.filter c3.filter w w2 w3 a b z p.put
      q.put;
}

pub on_both : {F : Type 0} (filter : Filter F) (live : List ℕ) (before : List Item) (c c2 c3 : Copying F)
    (w w2 w3 : Writer) (a b z : Told) → (p : CopiesOn filter live before c c2 w w2 a b)
    → CopiesOn filter live p.some.after c2 c3 w2 w3 b z
    → CopiesOn filter live before c c3 w w3 a z
on_both filter live before c c2 c3 w w2 w3 a b z p q =
    record { some = items_both filter live before c c2 c3 w w2 w3 a b z p.some q.some; behind = q.behind }

pub body_both : {F : Type 0} (filter : Filter F) (live : List ℕ) (before : List Item) (c c2 c3 : Copying F)
    (w w2 w3 : Writer) (a b z : Told) → (p : CopiesOn filter live before c c2 w w2 a b)
    → CopiesBody filter live p.some.after c2 c3 w2 w3 b z
    → CopiesBody filter live before c c3 w w3 a z
body_both filter live before c c2 c3 w w2 w3 a b z p q =
    record { some = items_both filter live before c c2 c3 w w2 w3 a b z p.some q.some; over = q.over }

-- the next item is read, and the filter takes it
pub on_one : {F T : Type 0} (filter : Filter F) (live : List ℕ) (before : List Item) (c c2 : Copying F)
    (place : ItemPlace) (found : Option Item) (item : Item) (w w2 : Writer) (a m z : Told) (g h : ℕ)
    (q : Result T DiskRefusal) (done : T)
    → q ≡ Ok done → m ≡ a → found ≡ Some item → MovesToItem live before place (Ok found) → c2.items ≡ place
    → TakesItem filter item c.filter c2.filter w w2 m z g h q → filter.stands c.filter before
    → CopiesOn filter live before c c2 w w2 a z
on_one filter live before c c2 place found item w w2 a m z g h q done is same found_is read placed takes stands =
    let went = subst (λ o. MovesToItem live before place (Ok o)) found_is read in
    record {
      some = record {
        taken = item ∷ [];
        after = item ∷ before;
        goes = λ rest goes. (went.0, goes);
        put = filtered_one filter before item c.filter c2.filter w w2 a m z g h q done is same takes stands;
      };
      behind = subst (IsBehind live (item ∷ before)) (sym placed) went.1;
    }

-- no item is left
pub on_last : {F : Type 0} (filter : Filter F) (live : List ℕ) (before : List Item) (c c2 : Copying F)
    (place : ItemPlace) (found : Option Item) (w : Writer) (a b : Told) → b ≡ a → found ≡ None
    → MovesToItem live before place (Ok found) → c2.filter ≡ c.filter
    → filter.stands c.filter before → CopiesBody filter live before c c2 w w a b
on_last filter live before c c2 place found w a b same found_is read kept stands = record {
  some = record {
    taken = [];
    after = before;
    goes = λ rest goes. goes;
    put = subst (λ f. PutsFiltered filter before before [] c.filter f w w a b) (sym kept)
        (subst (λ t. PutsFiltered filter before before [] c.filter c.filter w w a t) (sym same)
        (filtered_none filter before c.filter w a stands));
  };
  over = subst (λ o. MovesToItem live before place (Ok o)) found_is read;
}

-- ---- at the end

-- of a whole body that the filter doesn't refuse, what it has left is put
pub body_put : {F : Type 0} (filter : Filter F) (live : List ℕ) (c c2 : Copying F) (w w2 w3 : Writer) (a b z : Told)
    (g h : ℕ) (q : Result Bool DiskRefusal) (accepts : Bool) → q ≡ Ok accepts → accepts ≡ true
    → CopiesBody filter live [] c c2 w w2 a b → Finishes filter c2.filter w2 w3 b z g h q
    → OfSomeBody filter live c.filter (λ items. Puts (spelled items) w w3 a z)
body_put filter live c c2 w w2 w3 a b z g h q accepts is accepted body end =
    let p = body.some in
    let said = ended_output filter c2.filter w2 w3 b z g h q true (is ∙ ap (λ (t : Bool). Ok t) accepted) end p.after
    p.put.filters.behind in
    record {
      body = p.taken;
      items = p.put.items ++ end.items;
      goes = subst (GoesOn live []) (append-nil p.taken) (p.goes [] body.over);
      output_is = ap (filter.output c.filter []) (sym (append-nil p.taken)) ∙ (sym (p.put.filters.goes [])
          ∙ ap (items_before p.put.items) said);
      so = two_puts p.put.items end.items w w2 w3 a b z p.put.puts (ok_of (Puts (spelled end.items) w2 w3 b z) q accepts
          is end.puts.ok);
    }

-- ---- behind a header

pub of_some : {F : Type 0} (filter : Filter F) (live : List ℕ) (f : F) (P Q : List Item → Type 0)
    → ((items : List Item) → P items → Q items) → OfSomeBody filter live f P → OfSomeBody filter live f Q
of_some filter live f P Q follows p = record {
  body = p.body;
  items = p.items;
  goes = p.goes;
  output_is = p.output_is;
  so = follows p.items p.so;
}

pub answered_body : {F : Type 0} (filter : Filter F) (live : List ℕ) (s : F) (n : List ℕ) (sums after : ℕ × ℕ)
    (w w2 : Writer) (a b : Told) → after ≡ w2.sums → w ≡ record { name = n; held = []; sums = sums } → w2.held ≡ []
    → OfSomeBody filter live s (λ items. Puts (spelled items) w w2 a b) → OfSomeBody filter live s
    (λ items. AppendsText n (spelled items) sums after a b)
answered_body filter live s n sums after w w2 a b is named none =
    of_some filter live s (λ items. Puts (spelled items) w w2 a b) (λ items. AppendsText n (spelled items) sums after a
    b) (λ items puts. sums_answered items n sums after w w2 a b is named none puts)

pub body_behind : {F U : Type 0} (filter : Filter F) (live : List ℕ) (f : F) (h : Header) (n : List ℕ) (s s2 : ℕ × ℕ)
    (a b c : Told) (g k : ℕ) (q : Result U DiskRefusal) (done : U) (r : Result (ℕ × ℕ) FileFault) → q ≡ Ok done
    → IsSumOf s [] → WritesHeader h n s s2 a b g k q
    → IfOk r (λ after. OfSomeBody filter live f (λ items. AppendsText n (spelled items) s2 after b c))
    → IfOk r (λ after. OfSomeBody filter live f (λ items. AppendsFile h items n after a c))
body_behind filter live f h n s s2 a b c g k q done (Ok after) is zero first base =
    of_some filter live f (λ items. AppendsText n (spelled items) s2 after b c)
    (λ items. AppendsFile h items n after a c) (λ items second. items_behind h items n s s2 a b c g k q done
    (Ok after) is zero first second) base
body_behind filter live f h n s s2 a b c g k q done (Err fault) is zero first base = tt

-- ---- a body that stays as it is

pub header_comes : {F : Type 0} (file : List ℕ) (front : Front) (items : List Item) (c : Copying F)
    → IsFrontFor file front → items_of file front ≡ Ok items
    → ((bytes : List ℕ) → IsFrontFor bytes front → ToCome bytes (live_serials front.header.records) []
    (items_of bytes front) c.items) → CopyComes identity file items c
header_comes file front items c is are comes = record {
  live = live_serials front.header.records;
  before = [];
  rest = items;
  comes = subst (λ found. ToCome file (live_serials front.header.records) [] found c.items) are (comes file is);
  stands = tt;
  output_is = refl;
}
