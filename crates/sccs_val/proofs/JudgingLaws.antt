-- What is judged of several operands, and why judging ends early.
use Rattle.std.proofs.Common.{◌≡◌, inl, ℕ, ◌+◌, ◌<◌, ◌≤◌, List, ◌++◌, length, take, flat_map, get_or, Option, None}
use Rattle.std.proofs.Common.{Some, Result, Ok, Err, OnOk, IfSome, refl, sym, ap, subst, ◌∙◌, arith, add-one}
use Rattle.std.proofs.Common.{append_assoc, append-nil}
use Rattle.std.specs.List.{fold}
use Rattle.std.specs.Int.Bits.{bit_or}
use Rattle.std.proofs.lemmas.List.{take_all}
use Rattle.std.proofs.lemmas.List.Sums.{fold_more}
use Rattle.sccs_base.specs.Stream.{Rose}
use Rattle.sccs_base.proofs.Gifts.{part_more}
use Rattle.sccs_sid.specs.declared.refusals.StepFault.{StepFault}
use Rattle.sccs_sid.specs.declared.refusals.StepFault.TheVariants.{Memory, ReadFault, WriteFault, DiskFault}
use Rattle.sccs_steps.specs.Causes.{PrintCauses, StepCauses, counts}
use Rattle.sccs_base.proofs.Rises.{rose_later}

-- ---- causes

pub ok_causes : {X : Type 0} (x : X) (o d d2 : ℕ) → d ≤ d2 → PrintCauses (Ok x) o o d d2
ok_causes x o d d2 later = record {
  out_later = omega arith;
  disk_later = later;
  write = λ is. absurd cc;
  read =
      λ is. cc;
  broke = λ is. absurd cc;
}

pub memory_causes : {X : Type 0} (o d d2 : ℕ) → d ≤ d2 → PrintCauses {X = X} (Err Memory) o o d d2
memory_causes o d d2 later = record {
  out_later = omega arith;
  disk_later = later;
  write = λ is. absurd cc;
  read =
      λ is. cc;
  broke = λ is. absurd cc;
}

-- a fault that is passed on
pub same_causes : {X Y : Type 0} (fault : StepFault) (o o2 d d1 d2 : ℕ) → d ≤ d1
    → PrintCauses {X = X} (Err fault) o o2 d1 d2 → PrintCauses {X = Y} (Err fault) o o2 d d2
same_causes fault o o2 d d1 d2 later causes = record {
  out_later = causes.out_later;
  disk_later = omega (arith, later, causes.disk_later);
  write = λ is. causes.write (let e : fault ≡ WriteFault = cc in ap Err e);
  read = λ is. causes.read (let e : fault ≡ ReadFault = cc in ap Err e);
  broke = λ is. rose_later d d1 d2 later (causes.broke (let e : fault ≡ DiskFault = cc in ap Err e));
}

-- ---- lines that are added one after the other

back : (u x v rest w : List ℕ) → v ≡ u ++ x → w ≡ v ++ rest → w ≡ u ++ (x ++ rest)
back u x v rest w first second = second ∙ (ap (λ (l : List ℕ). l ++ rest) first ∙ append_assoc u x rest)

pub two_added : {T E : Type 0} (r : Result T E) (v a b v1 v2 : List ℕ) → v1 ≡ v ++ a → OnOk r (v2 ≡ v1 ++ b)
    → OnOk r (v2 ≡ v ++ (a ++ b))
two_added (Ok x) v a b v1 v2 first second = back v a v1 b v2 first second
two_added (Err e) v a b v1 v2 first second = tt

pub six_added : {T E : Type 0} (r : Result T E) (v a b c d e f v1 v2 v3 v4 v5 v6 : List ℕ) → v1 ≡ v ++ a → v2 ≡ v1 ++ b
    → v3 ≡ v2 ++ c → v4 ≡ v3 ++ d → v5 ≡ v4 ++ e → OnOk r (v6 ≡ v5 ++ f)
    → OnOk r (v6 ≡ v ++ (a ++ (b ++ (c ++ (d ++ (e ++ f))))))
six_added (Ok x) v a b c d e f v1 v2 v3 v4 v5 v6 p1 p2 p3 p4 p5 p6 = back v a v1 (b ++ (c ++ (d ++ (e ++ f)))) v6 p1
    (back v1 b v2 (c ++ (d ++ (e ++ f))) v6 p2 (back v2 c v3 (d ++ (e ++ f)) v6 p3 (back v3 d v4 (e ++ f) v6 p4
    (back v4 e v5 f v6 p5 p6))))
six_added (Err e2) v a b c d e f v1 v2 v3 v4 v5 v6 p1 p2 p3 p4 p5 p6 = tt

-- ---- one thing more is judged

-- so many of some things were judged: their bits together, and their texts behind those before
pub record Judged (f : List ℕ → List ℕ) (g : List ℕ → ℕ) (things : List (List ℕ)) (count status : ℕ)
    (old report : List ℕ) : Type 0 where
  pub status_is : status ≡ fold (λ s x. bit_or s (g x)) 0 (take count things)
  pub report_is : report ≡ old ++ flat_map f (take count things)

pub judged_none : (f : List ℕ → List ℕ) (g : List ℕ → ℕ) (things : List (List ℕ)) (old : List ℕ)
    → Judged f g things 0 0 old old
judged_none f g things old = record { status_is = refl; report_is = sym (append-nil old) }

pub judged_more : (f : List ℕ → List ℕ) (g : List ℕ → ℕ) (things : List (List ℕ)) (count status bits : ℕ)
    (thing old report report2 : List ℕ) → count < length things → thing ≡ get_or things count thing
    → Judged f g things count status old report
    → bits ≡ g thing → report2 ≡ report ++ f thing → Judged f g things (count + 1) (bit_or status bits) old report2
judged_more f g things count status bits thing old report report2 below is so bits_is report_is = record {
  status_is = ap (λ s. bit_or s bits) so.status_is
      ∙ (ap (λ b. bit_or (fold (λ s x. bit_or s (g x)) 0 (take count things)) b) (bits_is ∙ ap g is)
      ∙ sym (fold_more (λ s x. bit_or s (g x)) 0 things count thing below));
  report_is = report_is
      ∙ (ap (λ (l : List ℕ). l ++ f thing) so.report_is
      ∙ (append_assoc old (flat_map f (take count things)) (f thing)
      ∙ ap (λ (l : List ℕ). old ++ l) (ap (λ x. flat_map f (take count things) ++ f x) is
      ∙ sym (ap (λ k. flat_map f (take k things)) (add-one count) ∙ part_more f things count thing below))));
}

pub judged_all : (f : List ℕ → List ℕ) (g : List ℕ → ℕ) (things : List (List ℕ)) (count status : ℕ)
    (old report : List ℕ) → length things ≤ count → Judged f g things count status old report
    → (status ≡ fold (λ s x. bit_or s (g x)) 0 things) × (report ≡ old ++ flat_map f things)
judged_all f g things count status old report past so = (
  so.status_is ∙ ap (λ l. fold (λ s x. bit_or s (g x)) 0 l) (take_all count things past),
  so.report_is
      ∙ ap (λ l. old ++ flat_map f l) (take_all count things past),
)

-- ---- what is told

pub told_at : {A : Type 0} (P : A → Type 0) (o : Option A) (x : A) → o ≡ Some x → IfSome o P → P x
told_at P o x is holds = subst (λ o. IfSome o P) is holds

pub if_told : {A : Type 0} (P : A → Type 0) (o : Option A) → ((x : A) → o ≡ Some x → P x) → IfSome o P
if_told P None each = tt
if_told P (Some x) each = each x refl

-- ---- what is given

pub given_causes : {X : Type 0} (x : X) (o o2 d d2 : ℕ) → o ≤ o2 → d ≤ d2 → PrintCauses (Ok x) o o2 d d2
given_causes x o o2 d d2 out_later disk_later =
    record {
      out_later = out_later;
      disk_later = disk_later;
      write = λ is. absurd cc;
      read = λ is. cc;
      broke =
          λ is. absurd cc;
    }

pub write_causes : {X : Type 0} (o o2 d d2 : ℕ) → o ≤ o2 → Rose o o2 → d ≤ d2
    → PrintCauses {X = X} (Err WriteFault) o o2 d d2
write_causes o o2 d d2 out_later rose disk_later =
    record {
      out_later = out_later;
      disk_later = disk_later;
      write = λ is. rose;
      read = λ is. cc;
      broke =
          λ is. absurd cc;
    }

-- behind a reading of the disk
pub causes_then : {X : Type 0} (r : Result X StepFault) (o o2 d d1 d2 : ℕ) → d ≤ d1 → PrintCauses r o o2 d1 d2
    → PrintCauses r o o2 d d2
causes_then r o o2 d d1 d2 later causes = record {
  out_later = causes.out_later;
  disk_later = omega (arith, later, causes.disk_later);
  write = causes.write;
  read = causes.read;
  broke = λ is. rose_later d d1 d2 later (causes.broke is);
}

-- behind calls that failed nothing
pub causes_both : {X : Type 0} (fault : StepFault) (o o1 o2 d d1 d2 : ℕ) → o ≤ o1 → d ≤ d1
    → PrintCauses {X = X} (Err fault) o1 o2 d1 d2 → PrintCauses {X = X} (Err fault) o o2 d d2
causes_both fault o o1 o2 d d1 d2 out_later disk_later causes = record {
  out_later = omega (arith, out_later, causes.out_later);
  disk_later = omega (arith, disk_later, causes.disk_later);
  write = λ is. rose_later o o1 o2 out_later (causes.write is);
  read = causes.read;
  broke = λ is. rose_later d d1 d2 disk_later (causes.broke is);
}

-- of a step that takes the input too
pub as_step : {X : Type 0} (r : Result X StepFault) (i i2 o o2 e d d2 : ℕ) → i ≤ i2 → PrintCauses r o o2 d d2
    → StepCauses r (counts i o e d) (counts i2 o2 e d2)
as_step r i i2 o o2 e d d2 later causes = record {
  input_later = later;
  out_later = causes.out_later;
  err_later = omega arith;
  disk_later = causes.disk_later;
  read = λ is. absurd (causes.read is);
  write = λ is. inl (causes.write is);
  broke = causes.broke;
}
