-- What writing a header says, from its two calls.
use Rattle.std.proofs.Common.{◌≡◌, ℕ, ◌≤◌, List, [], ◌++◌, option_map, Result, Ok, Err, OnOk, IsErrOf, refl, sym, ap}
use Rattle.std.proofs.Common.{subst, ◌∙◌, append-nil, arith}
use Rattle.std.specs.Result.{IsErrAnd}
use Rattle.std.proofs.lemmas.Result.{err_from_is_err_and}
use Rattle.sccs_base.specs.Stream.{Rose}
use Rattle.sccs_disk.specs.Told.{Told, seen}
use Rattle.sccs_disk.specs.Effects.{appending, altered, appended}
use Rattle.sccs_disk.specs.Calls.{Writes}
use Rattle.sccs_disk.specs.declared.disks.DiskRefusal.{DiskRefusal}
use Rattle.sccs_disk.specs.declared.disks.DiskRefusal.TheVariants as fault
use Rattle.sccs_history.specs.declared.headers.Header.{Header}
use Rattle.sccs_tokens.specs.Written.{ended, sum_line}
use Rattle.sccs_table.specs.SumOf.{IsSumOf}
use Rattle.sccs_writers.specs.OneFile.{OnlyWrites}
use Rattle.sccs_writers.specs.Puts.{Appends, Puts, PutsText, Writer}
use Rattle.sccs_writers.specs.HeaderBytes.{WritesHeader, header_bytes}
use Rattle.sccs_writers.proofs.OneFile.{only_both}
use Rattle.sccs_writers.proofs.PutLaws.{views_two, writes_only, ok_puts}
use Rattle.sccs_base.proofs.Rises.{rose_later}

failed_of : {T : Type 0} (r : Result T DiskRefusal) → r ≡ Err fault.Failed → IsErrOf r fault.Failed
failed_of r failed = subst (λ (s : Result _ DiskRefusal). IsErrOf s fault.Failed) (sym failed) refl

again : {A B : Type 0} (x : DiskRefusal) (q : Result A DiskRefusal) (r : Result B DiskRefusal) → q ≡ Err x → r ≡ Err x
    → r ≡ Err fault.Failed → q ≡ Err fault.Failed
again x q r is so failed = cc

on_err : {T : Type 0} (P : Type 0) (r : Result T DiskRefusal) (refusal : DiskRefusal) → r ≡ Err refusal → OnOk r P
on_err P r refusal is = subst (λ (s : Result _ DiskRefusal). OnOk s P) (sym is) tt

cut_by : {T U : Type 0} (h : Header) (n : List ℕ) (s s2 : ℕ × ℕ) (a b : Told) (f g : ℕ) (q : Result U DiskRefusal)
    (r : Result T DiskRefusal) (refusal : DiskRefusal) → q ≡ Err refusal → IsErrAnd r (λ e. e ≡ refusal)
    → OnlyWrites n a b → f ≤ g → (q ≡ Err fault.Failed → Rose f g) → WritesHeader h n s s2 a b f g r
cut_by h n s s2 a b f g q r refusal is left only later cause =
    let p = err_from_is_err_and r left in
    let so : r ≡ Err refusal = p.1 ∙ ap Err p.2 in
    record {
      ok = on_err _ r refusal so;
      sums = on_err _ r refusal so;
      only = only;
      later = later;
      cause = λ failed. cause (again refusal q r is so failed);
    }

-- the sum line isn't appended
pub header_unbegun : {T U : Type 0} (h : Header) (n : List ℕ) (s s2 : ℕ × ℕ) (a b : Told) (f g : ℕ)
    (q : Result U DiskRefusal) (r : Result T DiskRefusal) (refusal : DiskRefusal) → q ≡ Err refusal
    → IsErrAnd r (λ e. e ≡ refusal)
    → Writes (appending n (ended (sum_line 0))) a b f g q → WritesHeader h n s s2 a b f g r
header_unbegun h n s s2 a b f g q r refusal is left writes =
    cut_by h n s s2 a b f g q r refusal is left (writes_only n (ended (sum_line 0)) a b f g q writes) writes.later
    (λ failed. writes.cause (failed_of q failed))

-- the header isn't put
pub header_cut : {S T U : Type 0} (h : Header) (n : List ℕ) (s s2 : ℕ × ℕ) (w2 : Writer) (a b c : Told) (f g k : ℕ)
    (p : Result S DiskRefusal) (q : Result U DiskRefusal) (r : Result T DiskRefusal) (refusal : DiskRefusal)
    → q ≡ Err refusal → IsErrAnd r (λ e. e ≡ refusal)
    → Writes (appending n (ended (sum_line 0))) a b f g p → PutsText (header_bytes h)
    (record { name = n; held = []; sums = s }) w2 b c g k q → WritesHeader h n s s2 a c f k r
header_cut h n s s2 w2 a b c f g k p q r refusal is left writes puts =
    cut_by h n s s2 a c f k q r refusal is left (only_both n a b c (writes_only n (ended (sum_line 0)) a b f g p writes)
    puts.only) (omega (arith, writes.later, puts.later))
    (λ failed. rose_later f g k writes.later (puts.cause failed))

all_added : (hb added held : List ℕ) → [] ++ hb ≡ added ++ held → held ≡ [] → added ≡ hb
all_added hb added held split none = sym (append-nil added) ∙ (ap (λ (x : List ℕ). added ++ x) (sym none) ∙ sym split)

done_view : {S : Type 0} (n : List ℕ) (a b : Told) (f g : ℕ) (p : Result S DiskRefusal) (done : S) → p ≡ Ok done
    → Writes (appending n (ended (sum_line 0))) a b f g p → Appends n (ended (sum_line 0)) a b
done_view n a b f g (Ok x) done is writes = writes.done.view
done_view n a b f g (Err x) done is writes = absurd cc

-- both are appended
pub header_whole : {S U : Type 0} (h : Header) (n : List ℕ) (s : ℕ × ℕ) (w2 : Writer) (a b c : Told) (f g k : ℕ)
    (p : Result S DiskRefusal) (q : Result U DiskRefusal) (done : S) (put : U) → p ≡ Ok done → q ≡ Ok put
    → Writes (appending n (ended (sum_line 0))) a b f g p → PutsText (header_bytes h)
    (record { name = n; held = []; sums = s }) w2 b c g k q → w2.held ≡ []
    → WritesHeader {T = Unit {0}} h n s w2.sums a c f k (Ok tt)
header_whole h n s w2 a b c f g k p q done put is so writes puts none =
    let all : Puts (header_bytes h) (record { name = n; held = []; sums = s }) w2 b c =
    ok_puts (header_bytes h) _ w2 b c q put so puts.ok in
    let added : all.added ≡ header_bytes h = all_added (header_bytes h) all.added w2.held all.split none in
    record {
      ok = views_two n (ended (sum_line 0)) (header_bytes h) (seen a) (seen b) (seen c)
          (done_view n a b f g p done is writes) (subst (λ bytes. seen c ≡ option_map (altered n (appended bytes))
          (seen b)) added all.file);
      sums = λ front of. subst (λ bytes. IsSumOf w2.sums (front ++ bytes)) added (all.sums front of);
      only = only_both n a b c (writes_only n (ended (sum_line 0)) a b f g p writes) puts.only;
      later = omega (arith, writes.later, puts.later);
      cause = λ failed. absurd cc;
    }
