-- A body that is appended behind a header.
use Rattle.std.proofs.Common.{◌≡◌, ℕ, List, [], ◌++◌, Result, Ok, Err, OnOk, sym, ap, subst, ◌∙◌, arith, append-nil}
use Rattle.std.proofs.Common.{append_assoc}
use Rattle.sccs_disk.specs.Told.{Told, seen}
use Rattle.sccs_disk.specs.declared.disks.DiskRefusal.{DiskRefusal}
use Rattle.sccs_tokens.specs.Written.{ended, sum_line}
use Rattle.sccs_grammar.specs.declared.faults.FileFault.{FileFault}
use Rattle.sccs_history.specs.declared.headers.Header.{Header}
use Rattle.sccs_history.specs.declared.headers.Item.{Item}
use Rattle.sccs_table.specs.SumOf.{IsSumOf}
use Rattle.sccs_writers.specs.HeaderBytes.{WritesHeader, header_bytes}
use Rattle.sccs_writers.specs.Puts.{Appends, Puts, Writer}
use Rattle.sccs_writers.specs.Spelled.{spelled}
use Rattle.sccs_writers.proofs.OneFile.{only_both}
use Rattle.sccs_writers.proofs.PutLaws.{views_two}
use Rattle.sccs_copies.specs.Copies.{AppendsSome, AppendsItems, AppendsText, AppendsWhole}
use Rattle.sccs_base.proofs.Rises.{rose_later}

-- all that was put is appended, where nothing is held back before and after it
pub whole_appended : (text n : List ℕ) (sums : ℕ × ℕ) (w w2 : Writer) (a b : Told)
    → w ≡ record { name = n; held = []; sums = sums } → w2.held ≡ [] → Puts text w w2 a b
    → AppendsText n text sums w2.sums a b
whole_appended text n sums w w2 a b named none puts =
    let split : puts.added ≡ text =
    sym (append-nil puts.added) ∙ (ap (λ (x : List ℕ). puts.added ++ x) (sym none)
    ∙ (sym puts.split ∙ ap (λ (v : Writer). v.held ++ text) named)) in
    record {
      file = subst (λ m. Appends m text a b) (ap (λ (v : Writer). v.name) named)
          (subst (λ x. Appends w.name x a b) split puts.file);
      sums = λ front of. subst (λ x. IsSumOf w2.sums (front ++ x)) split
          (puts.sums front (subst (λ (v : Writer). IsSumOf v.sums front) (sym named) of));
    }

-- the answer with the sums is that of the writer
pub sums_answered : (items : List Item) (n : List ℕ) (sums after : ℕ × ℕ) (w w2 : Writer) (a b : Told) → after ≡ w2.sums
    → w ≡ record { name = n; held = []; sums = sums } → w2.held ≡ [] → Puts (spelled items) w w2 a b
    → AppendsItems items n sums a b (Ok after)
sums_answered items n sums after w w2 a b is named none puts = subst (λ s. AppendsText n (spelled items) sums s a b)
    (sym is) (whole_appended (spelled items) n sums w w2 a b named none puts)

ok_of : {T E : Type 0} (P : Type 0) (r : Result T E) (x : T) → r ≡ Ok x → OnOk r P → P
ok_of P r x is on = subst (λ (s : Result _ _). OnOk s P) is on

-- behind a header some bytes are appended
pub behind_header : {T U : Type 0} (h : Header) (n : List ℕ) (s s2 : ℕ × ℕ) (a b c : Told) (f g k : ℕ)
    (q : Result U DiskRefusal) (done : U) (r : Result T FileFault) → q ≡ Ok done → WritesHeader h n s s2 a b f g q
    → AppendsSome n [] b c g k r → AppendsSome n (ended (sum_line 0)) a c f k r
behind_header h n s s2 a b c f g k q done r is first second = record {
  more = header_bytes h ++ second.more;
  ok = both r second.ok;
  only = only_both n a b c first.only second.only;
  later = omega (arith, first.later, second.later);
  cause = λ failed. rose_later f g k first.later (second.cause failed);
}
  where
    both : {T : Type 0} (r : Result T FileFault) → OnOk r (Appends n ([] ++ second.more) b c)
        → OnOk r (Appends n (ended (sum_line 0) ++ (header_bytes h ++ second.more)) a c)
    both (Ok x) p =
        subst (λ text. Appends n text a c) (append_assoc (ended (sum_line 0)) (header_bytes h) second.more)
        (views_two n (ended (sum_line 0) ++ header_bytes h) second.more (seen a) (seen b) (seen c)
        (ok_of (Appends n (ended (sum_line 0) ++ header_bytes h) a b) q done is first.ok) p)
    both (Err e) p = tt

-- behind a header all items are appended
pub items_behind : {U : Type 0} (h : Header) (items : List Item) (n : List ℕ) (s s2 : ℕ × ℕ) (a b c : Told) (f g : ℕ)
    (q : Result U DiskRefusal) (done : U) (r : Result (ℕ × ℕ) FileFault) → q ≡ Ok done → IsSumOf s []
    → WritesHeader h n s s2 a b f g q → AppendsItems items n s2 b c r → AppendsWhole h items n a c r
items_behind h items n s s2 a b c f g q done (Ok after) is zero first second = record {
  file = views_two n (ended (sum_line 0) ++ header_bytes h) (spelled items) (seen a) (seen b) (seen c)
      (ok_of (Appends n (ended (sum_line 0) ++ header_bytes h) a b) q done is first.ok) second.file;
  sum = second.sums (header_bytes h) (ok_of ((front : List ℕ) → IsSumOf s front → IsSumOf s2 (front ++ header_bytes h))
      q done is first.sums [] zero);
}
items_behind h items n s s2 a b c f g q done (Err fault) is zero first second = second
