-- A new file that is written: header, body and sum.
use Rattle.std.proofs.Common.{◌≡◌, ℕ, List, [], ◌++◌, IfOk, OnOk, Result, Ok, Err, sym, ap, subst, ◌∙◌, append-nil}
use Rattle.sccs_disk.specs.Told.{Told, seen}
use Rattle.sccs_disk.specs.declared.disks.DiskRefusal.{DiskRefusal}
use Rattle.sccs_disk.specs.declared.disks.DiskRefusal.TheVariants as fault
use Rattle.sccs_tokens.specs.Written.{ended, sum_line}
use Rattle.sccs_history.specs.declared.headers.Header.{Header}
use Rattle.sccs_table.specs.SumOf.{IsSumOf}
use Rattle.sccs_writers.specs.HeaderBytes.{WritesHeader, header_bytes}
use Rattle.sccs_writers.specs.OneFile.{OnlyWrites}
use Rattle.sccs_writers.specs.Puts.{Appends, Puts, PutsText, Writer}
use Rattle.sccs_writers.proofs.PutLaws.{views_two, ok_puts}
use Rattle.sccs_new_files.specs.Writing.{AppendsSum}

-- ---- the body

-- the body is put, and what was held back appended
pub body_whole : {U : Type 0} (text : List ℕ) (w w2 : Writer) (n : List ℕ) (sums : ℕ × ℕ) (a b : Told) (f g : ℕ)
    (q : Result U DiskRefusal) (done : U) → w ≡ record { name = n; held = []; sums = sums } → q ≡ Ok done → w2.held ≡ []
    → PutsText text w w2 a b f g q → AppendsSum text n sums a b f g (Ok w2.sums)
body_whole text w w2 n sums a b f g q done named is none puts =
    let all : Puts text w w2 a b = ok_puts text w w2 a b q done is puts.ok in
    let name : w.name ≡ n = ap (λ (v : Writer). v.name) named in
    let split : all.added ≡ text =
    sym (append-nil all.added) ∙ (ap (λ (x : List ℕ). all.added ++ x) (sym none)
    ∙ (sym all.split ∙ ap (λ (v : Writer). v.held ++ text) named)) in
    record {
      ok = subst (λ m. Appends m text a b) name (subst (λ x. Appends w.name x a b) split all.file);
      added = λ front of. subst (λ x. IsSumOf w2.sums (front ++ x)) split
          (all.sums front (subst (λ (v : Writer). IsSumOf v.sums front) (sym named) of));
      only = subst (λ m. OnlyWrites m a b) name puts.only;
      later = puts.later;
      cause = λ failed. absurd cc;
    }

-- ---- header and body

pub both_appended : {T : Type 0} (h : Header) (text n : List ℕ) (s s2 : ℕ × ℕ) (a b c : Told) (f g k : ℕ)
    (q : Result T DiskRefusal) (done : T) (r : Result (ℕ × ℕ) DiskRefusal) → q ≡ Ok done
    → WritesHeader h n s s2 a b f g q → AppendsSum text n s2 b c g k r
    → OnOk r (Appends n (ended (sum_line 0) ++ header_bytes h ++ text) a c)
both_appended h text n s s2 a b c f g k q done (Ok sums) is first second =
    views_two n (ended (sum_line 0) ++ header_bytes h) text (seen a) (seen b) (seen c)
    (subst (λ (x : Result _ DiskRefusal). OnOk x (Appends n (ended (sum_line 0) ++ header_bytes h) a b)) is
    first.ok) second.ok
both_appended h text n s s2 a b c f g k q done (Err refusal) is first second = tt

pub both_summed : {T : Type 0} (h : Header) (text n : List ℕ) (s s2 : ℕ × ℕ) (a b c : Told) (f g k : ℕ)
    (q : Result T DiskRefusal) (done : T) (r : Result (ℕ × ℕ) DiskRefusal) → q ≡ Ok done → IsSumOf s []
    → WritesHeader h n s s2 a b f g q → AppendsSum text n s2 b c g k r
    → IfOk r (λ sums. IsSumOf sums (header_bytes h ++ text))
both_summed h text n s s2 a b c f g k q done (Ok sums) is zero first second =
    second.added (header_bytes h) (subst (λ (x : Result _ DiskRefusal). OnOk x ((front : List ℕ) → IsSumOf s front
    → IsSumOf s2 (front ++ header_bytes h))) is first.sums [] zero)
both_summed h text n s s2 a b c f g k q done (Err refusal) is zero first second = tt
