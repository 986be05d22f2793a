-- Calls that run batches.
use Rattle.std.proofs.Common.{◌≡◌, ℕ, ◌<◌, ◌≤◌, Bool, true, false, cond, nat_lt, List, [], ◌∷◌, length, codes, Option}
use Rattle.std.proofs.Common.{Some, IfSome, Result, Ok, Err, inl, inr, refl, sym, ap, subst, ◌∙◌, arith}
use Rattle.std.specs.List.{AllByRecursion}
use Rattle.std.proofs.lemmas.Bool.{le-ltb, lt-ltb}
use Rattle.sccs_base.specs.Constants.{file_limit}
use Rattle.sccs_base.specs.Cut.{text_of}
use Rattle.sccs_base.specs.Stream.{Rose}
use Rattle.sccs_base.proofs.Gifts.{gives_none, some_none}
use Rattle.sccs_disk.specs.Files.{Folder}
use Rattle.sccs_operands.specs.InputNames.{GivesLines}
use Rattle.sccs_sid.specs.Refusal.{refusal_line}
use Rattle.sccs_sid.specs.declared.refusals.Refusal.TheVariants.{TooLong}
use Rattle.sccs_steps.specs.Actions.{IsHeard}
use Rattle.sccs_steps.specs.Calls.{Scene, scene}
use Rattle.sccs_steps.specs.Causes.{RunCauses, counts}
use Rattle.sccs_steps.specs.Messages.{SaysRefusal}
use Rattle.sccs_steps.specs.Settings.{Setting}
use Rattle.sccs_steps.specs.StepLists.{NamedStep}
use Rattle.sccs_steps.specs.declared.faults.Fault.{Fault}
use Rattle.sccs_steps.specs.declared.faults.Fault.TheVariants as ends
use Rattle.sccs_step_lists.specs.StepLists.{AllTake, StepLists, follow, portions_of, said, saying, steps_along}
use Rattle.sccs_step_lists.specs.Sayings.{BegunSaid, IsSaid, WholeSaid}
use Rattle.sccs_step_lists.proofs.JoinedStepLists.{step_list_then}
use Rattle.sccs_step_lists.proofs.Portions.{steps_more}
use Rattle.sccs_step_lists.proofs.QuietStepLists.{step_list_as, step_list_chosen, step_list_heard}
use Rattle.sccs_step_lists.proofs.SaidStepLists.{never_step_list, said_step_list}
use Rattle.sccs_batch.specs.BatchText.{batch_of}
use Rattle.sccs_batch.specs.Batches.{BegunBatch, BegunEntries, RefusesInput, RunsBatch, RunsEntries, WholeBatch}
use Rattle.sccs_batch.specs.Batches.{WholeEntries, batch_step_list, batch_on, entries_step_list}
use Rattle.sccs_batch.specs.declared.entries.BatchEntry.{BatchEntry}
use Rattle.sccs_batch.proofs.EntryStepLists.{entries_take}

abbrev Takes : (BatchEntry → StepLists) → Type 0
Takes command = (e : BatchEntry) (folder : Folder) (i : List ℕ) → AllTake (portions_of (command e) folder i)

-- the list of steps of an input that is refused, and of one that is read
abbrev refused : StepLists
refused = saying [] (refusal_line (codes "-") TooLong) 1

abbrev read_step_list : (BatchEntry → StepLists) → List (List ℕ) → StepLists
read_step_list command lines = follow (saying [] [] 0) (λ code. entries_step_list command (batch_of lines))

read_takes : (command : BatchEntry → StepLists) (lines : List (List ℕ)) → Takes command → (folder : Folder) (i : List ℕ)
    → AllTake (portions_of (read_step_list command lines) folder i)
read_takes command lines takes folder i =
    ((λ changes n fits. absurd (cc)), entries_take command takes (batch_of lines).entries (batch_of lines).bad folder i)

pub batch_take : (command : BatchEntry → StepLists) → Takes command → (folder : Folder) (i : List ℕ)
    → AllTake (portions_of (batch_on command i) folder i)
batch_take command takes folder i = by (nat_lt file_limit (length i))
  where
    by : (long : Bool) → AllTake (portions_of (cond long refused (read_step_list command (text_of i))) folder i)
    by true = (λ changes n fits. absurd (cc), tt)
    by false = read_takes command (text_of i) takes folder i

batch_some : (command : BatchEntry → StepLists) (folder : Folder) (i : List ℕ)
    → 0 < length (steps_along (batch_on command i) folder i)
batch_some command folder i = by (nat_lt file_limit (length i))
  where
    by : (long : Bool) → 0 < length (steps_along (cond long refused (read_step_list command (text_of i))) folder i)
    by true = omega arith
    by false = subst (λ (ts : List NamedStep). 0 < length ts)
        (sym (steps_more (portions_of (saying [] [] 0) folder i) _)) (omega arith)

-- ---- which list of steps it is

heard_is : (left : Option (List ℕ)) (i : List ℕ) → IsHeard true left i → left ≡ Some i
heard_is left i (inl never) = absurd (cc)
heard_is left i (inr is) = is

pub told_of : (P : List ℕ → Type 0) (left : Option (List ℕ)) (i : List ℕ) → IsHeard true left i → IfSome left P → P i
told_of P left i heard told = subst (λ (o : Option (List ℕ)). IfSome o P) (heard_is left i heard) told

read_is : (command : BatchEntry → StepLists) (lines : List (List ℕ)) (i : List ℕ) → GivesLines file_limit i (Ok lines)
    → batch_on command i ≡ read_step_list command lines
read_is command lines i gives =
    ap (λ (long : Bool). cond long refused (read_step_list command (text_of i))) (le-ltb file_limit (length i) gives.0)
    ∙ ap (λ (ls : List (List ℕ)). read_step_list command ls) (sym gives.1)

refused_is : (command : BatchEntry → StepLists) (i : List ℕ) → file_limit < length i → batch_on command i ≡ refused
refused_is command i long = ap (λ (b : Bool). cond b refused (read_step_list command (text_of i)))
    (lt-ltb file_limit (length i) long)

-- ---- calls

pub batch_ran : (command : BatchEntry → StepLists) (fits : BatchEntry → Type 0) (whole : BatchEntry → ℕ → List NamedStep
    → Type 0) (begun : BatchEntry → List NamedStep → Type 0) (lines : List (List ℕ)) (r : Result ℕ Fault)
    (left left2 : Option (List ℕ)) (a b : Scene) (i0 i1 o o2 e e2 d d2 : ℕ) → Takes command
    → IfSome left (λ bytes. GivesLines file_limit bytes (Ok lines)) → i0 ≤ i1
    → RunsEntries command fits whole begun (batch_of lines) r
    (record { left = Some []; stage = a; faults = counts 0 o e d })
    (record { left = Some []; stage = b; faults = counts 0 o2 e2 d2 })
    → RunsBatch command fits whole begun r (record { left = left; stage = a; faults = counts i0 o e d })
    (record { left = left2; stage = b; faults = counts i1 o2 e2 d2 })
batch_ran command fits whole begun lines r left left2 a b i0 i1 o o2 e e2 d d2 takes told later runs =
    let s : Setting = record { left = left; stage = a; faults = counts i0 o e d } in
    let t : Setting = record { left = left2; stage = a; faults = counts i1 o e d } in
    let u : Setting = record { left = left2; stage = b; faults = counts i1 o2 e2 d2 } in
    step_list_chosen (batch_on command) (read_step_list command lines) (λ i. IsHeard true left i × AllByRecursion fits
    (batch_of (text_of i)).entries) (λ i. AllByRecursion fits (batch_of lines).entries) (WholeBatch whole)
    (BegunBatch whole begun) r s u
    (batch_take command takes) (λ i given. read_is command lines i
    (told_of (λ bytes. GivesLines file_limit bytes (Ok lines)) left i given.0 told))
    (λ i given. subst (λ (ls : List (List ℕ)). AllByRecursion fits (batch_of ls).entries)
    (sym (told_of (λ bytes. GivesLines file_limit bytes (Ok lines)) left i given.0 told).1) given.1)
    (step_list_as (read_step_list command lines) (λ i. AllByRecursion fits (batch_of lines).entries) _
    (WholeBatch whole) _ (BegunBatch whole begun) r s u (λ status ts it. inl (lines, it)) (λ ts it. inl (lines, it))
    (step_list_then (saying [] [] 0) (λ code. entries_step_list command (batch_of lines)) (λ i. AllByRecursion fits
    (batch_of lines).entries) (λ i. Unit {0}) (λ i. AllByRecursion fits (batch_of lines).entries)
    (WholeSaid [] [] 0) (BegunSaid [] []) (λ code. WholeEntries whole (batch_of lines))
    (λ code. BegunEntries whole begun (batch_of lines)) 0 r s t u (λ i given. tt) (λ i given. given)
    (λ code. entries_take command takes (batch_of lines).entries (batch_of lines).bad)
    (said_step_list [] [] 0 (λ i. Unit {0}) (Ok 0) s t refl (refl, gives_none a.out, gives_none a.err)
    (record {
      input_later = later;
      out_later = omega arith;
      err_later = omega arith;
      disk_later = omega arith;
      read = λ is. absurd (cc);
      write = λ is. absurd (cc);
      broke = λ is. absurd (cc);
    }))
    (step_list_heard (entries_step_list command (batch_of lines)) (λ i. AllByRecursion fits (batch_of lines).entries)
    (WholeEntries whole (batch_of lines)) (BegunEntries whole begun (batch_of lines)) r
    (record { left = Some []; stage = a; faults = counts 0 o e d })
    (record { left = Some []; stage = b; faults = counts 0 o2 e2 d2 }) left2 left2 i1 refl refl runs)))

pub refusal_said : (r : Result ℕ Fault) (a : Scene) (err2 : Option (List ℕ))
    → SaysRefusal (codes "-") TooLong r a.err err2 → IsSaid [] (refusal_line (codes "-") TooLong) 1 r a
    (scene a.told a.out err2)
refusal_said (Ok status) a err2 says = (says.0, gives_none a.out, says.1)
refusal_said (Err ends.WriteFault) a err2 says = (some_none a.out [], says)
refusal_said (Err ends.Memory) a err2 says = absurd says
refusal_said (Err ends.ReadFault) a err2 says = absurd says
refusal_said (Err ends.DiskFault) a err2 says = absurd says

pub batch_refused : (command : BatchEntry → StepLists) (fits : BatchEntry → Type 0) (whole : BatchEntry → ℕ
    → List NamedStep → Type 0) (begun : BatchEntry → List NamedStep → Type 0) (r : Result ℕ Fault) (s t : Setting)
    (err2 : Option (List ℕ))
    → Takes command → IfSome s.left (λ bytes. file_limit < length bytes) → t.stage ≡ scene s.stage.told s.stage.out err2
    → SaysRefusal (codes "-") TooLong r s.stage.err err2 → RunCauses r s.faults t.faults
    → RunsBatch command fits whole begun r s t
batch_refused command fits whole begun r s t err2 takes told same says causes =
    step_list_chosen (batch_on command) refused (λ i. IsHeard true s.left i × AllByRecursion fits
    (batch_of (text_of i)).entries) (λ i. Unit {0}) (WholeBatch whole) (BegunBatch whole begun) r s t
    (batch_take command takes) (λ i given. refused_is command i (told_of (λ bytes. file_limit < length bytes) s.left i
    given.0 told)) (λ i given. tt)
    (step_list_as refused (λ i. Unit {0}) (WholeSaid [] (refusal_line (codes "-") TooLong) 1) (WholeBatch whole)
    (BegunSaid [] (refusal_line (codes "-") TooLong)) (BegunBatch whole begun) r s t (λ status ts it. inr it)
    (λ ts it. inr it)
    (said_step_list [] (refusal_line (codes "-") TooLong) 1 (λ i. Unit {0}) r s t (ap (λ (b : Scene). b.told) same)
    (subst (λ (b : Scene). IsSaid [] (refusal_line (codes "-") TooLong) 1 r s.stage b) (sym same)
    (refusal_said r s.stage err2 says)) causes))

pub batch_never : (command : BatchEntry → StepLists) (fits : BatchEntry → Type 0) (whole : BatchEntry → ℕ
    → List NamedStep → Type 0) (begun : BatchEntry → List NamedStep → Type 0) (fault : Fault) (s t : Setting)
    → Takes command → t.stage ≡ s.stage → RunCauses (Err fault) s.faults t.faults → RunsBatch command fits whole begun
    (Err fault) s t
batch_never command fits whole begun fault s t takes same causes =
    never_step_list (batch_step_list command) (λ i. IsHeard true s.left i × AllByRecursion fits
    (batch_of (text_of i)).entries) (WholeBatch whole) (BegunBatch whole begun) (said [] [] ∷ []) fault s t
    (batch_take command takes) (batch_some command) (inl ([], inl refl)) same causes

-- ---- why such a call ends early

said_write : (r : Result ℕ Fault) (err err2 : Option (List ℕ)) (fault : Fault)
    → SaysRefusal (codes "-") TooLong r err err2 → r ≡ Err fault → fault ≡ ends.WriteFault
said_write (Ok status) err err2 fault says is = absurd (cc)
said_write (Err ends.WriteFault) err err2 fault says is = cc
said_write (Err ends.Memory) err err2 fault says is = absurd says
said_write (Err ends.ReadFault) err err2 fault says is = absurd says
said_write (Err ends.DiskFault) err err2 fault says is = absurd says

pub refused_causes : (r : Result ℕ Fault) (err err2 : Option (List ℕ)) (i0 i1 o e e2 d : ℕ) → i0 ≤ i1
    → RefusesInput r err err2 e e2 → RunCauses r (counts i0 o e d) (counts i1 o e2 d)
refused_causes r err err2 i0 i1 o e e2 d later refuses = record {
  input_later = later;
  out_later = omega arith;
  err_later = refuses.later;
  disk_later = omega arith;
  read = λ is. absurd (let other = said_write r err err2 ends.ReadFault refuses.says is in cc);
  write = λ is. inr (refuses.cause is);
  broke = λ is. absurd (let other = said_write r err err2 ends.DiskFault refuses.says is in cc);
}

pub unread_causes : (fault : Fault) (i0 i1 o e d : ℕ) → i0 ≤ i1 → (fault ≡ ends.ReadFault → Rose i0 i1)
    → (fault ≡ ends.WriteFault → ⊥) → (fault ≡ ends.DiskFault → ⊥) → RunCauses (Err fault) (counts i0 o e d)
    (counts i1 o e d)
unread_causes fault i0 i1 o e d later rose write broke = record {
  input_later = later;
  out_later = omega arith;
  err_later = omega arith;
  disk_later = omega arith;
  read = λ is. rose (cc);
  write = λ is. absurd (write (cc));
  broke = λ is. absurd (broke (cc));
}
