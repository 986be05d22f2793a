-- A text that goes into a file.
use Rattle.std.proofs.Common.{◌≡◌, ℕ, ◌≤◌, List, Option, None, Some, option_map, Result, Err, refl, sym, ap, subst, ◌∙◌}
use Rattle.std.proofs.Common.{arith}
use Rattle.sccs_base.specs.Stream.{Buffers, GivesOk, Rose}
use Rattle.sccs_disk.proofs.Puts.{put_same}
use Rattle.sccs_disk.specs.Effects.{altered, appended}
use Rattle.sccs_disk.specs.Files.{Content, View}
use Rattle.sccs_disk.specs.Told.{Told, seen}
use Rattle.sccs_disk.specs.declared.disks.DiskRefusal.{DiskRefusal}
use Rattle.sccs_disk.specs.declared.disks.DiskRefusal.TheVariants as refusals
use Rattle.sccs_sid.specs.declared.refusals.Refusal.{Refusal}
use Rattle.sccs_sid.specs.declared.refusals.StepFault.{StepFault}
use Rattle.sccs_sid.specs.declared.refusals.StepFault.TheVariants.{Refused}
use Rattle.sccs_steps.specs.Causes.{PrintCauses}
use Rattle.sccs_table.specs.ReaderState.{bytes_in}
use Rattle.sccs_writers.specs.Puts.{Puts, Writer}
use Rattle.sccs_printing.specs.Targets.{Cuts, KeepsTargetMark, SparesSink, file_of, target_bytes, held_back, mark_in}
use Rattle.sccs_printing.specs.Targets.{writing_fault}
use Rattle.sccs_printing.specs.declared.targets.Target.{Target}
use Rattle.sccs_printing.specs.declared.targets.Target.TheVariants.{ToFile}

-- ---- what the file has then

bytes_more : (x : List ℕ) (o : Option Content) → GivesOk (option_map (λ (c : Content). c.bytes) o)
    (option_map (λ (c : Content). c.bytes) (option_map (appended x) o)) x
bytes_more x None = refl
bytes_more x (Some c) = refl

mark_same : (x : List ℕ) (o : Option Content) → option_map (λ (c : Content). c.writable) (option_map (appended x) o)
    ≡ option_map (λ (c : Content). c.writable) o
mark_same x None = refl
mark_same x (Some c) = refl

bytes_appended : (n x : List ℕ) (o : Option View)
    → GivesOk (bytes_in o n) (bytes_in (option_map (altered n (appended x)) o) n) x
bytes_appended n x None = refl
bytes_appended n x (Some v) = subst (λ c. GivesOk (option_map (λ (c : Content). c.bytes) (v n))
    (option_map (λ (c : Content). c.bytes) c) x) (sym (put_same v n (option_map (appended x) (v n))))
    (bytes_more x (v n))

mark_appended : (n x : List ℕ) (o : Option View) → mark_in (option_map (altered n (appended x)) o) n ≡ mark_in o n
mark_appended n x None = refl
mark_appended n x (Some v) = ap (λ c. option_map (λ (c : Content). c.writable) c)
    (put_same v n (option_map (appended x) (v n))) ∙ mark_same x (v n)

puts_buffers : (text : List ℕ) (w w2 : Writer) (a b : Told) → Puts text w w2 a b → Buffers w.held text w2.held
    (bytes_in (seen a) w.name) (bytes_in (seen b) w.name)
puts_buffers text w w2 a b puts = record {
  gone = puts.added;
  gives = subst (λ o. GivesOk (bytes_in (seen a) w.name) (bytes_in o w.name) puts.added) (sym puts.file)
      (bytes_appended w.name puts.added (seen a));
  split = puts.split;
}

-- ---- as a target

pub file_given : (t : Target) (text : List ℕ) (w w2 : Writer) (out : Option (List ℕ)) (a b : Told) → t ≡ ToFile w
    → Puts text w w2 a b → Buffers (held_back t) text w2.held (target_bytes (file_of t) out a)
    (target_bytes (file_of t) out b)
file_given t text w w2 out a b is puts = subst (λ t. Buffers (held_back t) text w2.held (target_bytes (file_of t) out a)
    (target_bytes (file_of t) out b)) (sym is) (puts_buffers text w w2 a b puts)

pub mark_kept : (t : Target) (text : List ℕ) (w w2 : Writer) (a b : Told) → t ≡ ToFile w → Puts text w w2 a b
    → KeepsTargetMark (file_of t) a b
mark_kept t text w w2 a b is puts = subst (λ t. KeepsTargetMark (file_of t) a b) (sym is)
    (ap (λ o. mark_in o w.name) puts.file ∙ mark_appended w.name puts.added (seen a))

pub file_cut : (t : Target) (text held held2 : List ℕ) (w : Writer) (refusal : DiskRefusal) (fault : StepFault)
    (a b : Option (List ℕ)) → t ≡ ToFile w → fault ≡ writing_fault refusal → Cuts (file_of t) text fault held held2 a b
file_cut t text held held2 w refusal fault a b is so = subst (λ t. Cuts (file_of t) text fault held held2 a b) (sym is)
    (subst (λ f. Cuts (Some w.name) text f held held2 a b) (sym so) (no_claim refusal))
  where
    no_claim : (refusal : DiskRefusal) → Cuts (Some w.name) text (writing_fault refusal) held held2 a b
    no_claim refusals.Failed = tt
    no_claim refusals.Memory = tt

pub sink_spared : (t : Target) (w : Writer) (refusal : DiskRefusal) (fault : StepFault) → t ≡ ToFile w
    → fault ≡ writing_fault refusal → SparesSink (file_of t) fault
sink_spared t w refusal fault is so = subst (λ t. SparesSink (file_of t) fault) (sym is)
    (subst (λ f. SparesSink (Some w.name) f) (sym so) (no_claim refusal))
  where
    no_claim : (refusal : DiskRefusal) → SparesSink (Some w.name) (writing_fault refusal)
    no_claim refusals.Failed = tt
    no_claim refusals.Memory = tt

pub file_causes : {X Y : Type 0} (q : Result Y DiskRefusal) (refusal : DiskRefusal) (fault : StepFault) (out d d2 : ℕ)
    → q ≡ Err refusal → fault ≡ writing_fault refusal → d ≤ d2 → (q ≡ Err refusals.Failed → Rose d d2)
    → PrintCauses {X = X} (Err fault) out out d d2
file_causes q refusals.Failed fault out d d2 is so later cause =
    record {
      out_later = omega arith;
      disk_later = later;
      write = λ e. absurd cc;
      read = λ e. cc;
      broke =
          λ e. cause is;
    }
file_causes q refusals.Memory fault out d d2 is so later cause =
    record {
      out_later = omega arith;
      disk_later = later;
      write = λ e. absurd cc;
      read = λ e. cc;
      broke =
          λ e. absurd cc;
    }

pub no_refusal : {X : Type 0} (refusal : DiskRefusal) (fault : StepFault) (other : Refusal) (r : Result X StepFault)
    → fault ≡ writing_fault refusal → r ≡ Err fault → r ≡ Err (Refused other) → ⊥
no_refusal refusals.Failed fault other r so is e = cc
no_refusal refusals.Memory fault other r so is e = cc
