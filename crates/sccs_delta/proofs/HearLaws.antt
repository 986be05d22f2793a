-- A script that is heard, and a delta that is prepared by it.
use Rattle.std.proofs.Common.{◌≡◌, ◌⊎◌, ℕ, ◌<◌, Bool, true, false, ◌&&◌, List, [], length, Option, None, Some, Result}
use Rattle.std.proofs.Common.{Ok, Err, inl, inr, refl, sym, ap, subst, ◌∙◌}
use Rattle.std.specs.Prelude.{IfSome, is_some, nat_le}
use Rattle.std.proofs.lemmas.Bool.{lt-leb}
use Rattle.sccs_base.specs.Constants.{file_limit}
use Rattle.sccs_base.specs.Name.{IsSFileName}
use Rattle.sccs_base.proofs.Gifts.{some_none}
use Rattle.sccs_disk.specs.Files.{Content, View}
use Rattle.sccs_sid.specs.Reading.{◌>>=◌}
use Rattle.sccs_sid.specs.declared.moments.Stamp.{Stamp}
use Rattle.sccs_sid.specs.declared.refusals.Refusal.{Refusal}
use Rattle.sccs_sid.specs.declared.refusals.Refusal.TheVariants as refusals
use Rattle.sccs_sid.specs.declared.refusals.StepFault.{StepFault}
use Rattle.sccs_sid.specs.declared.refusals.StepFault.TheVariants.{Refused, Memory, ReadFault, WriteFault, DiskFault}
use Rattle.sccs_name_files.specs.StepFiles.{Files, look}
use Rattle.sccs_steps.specs.Calls.{world}
use Rattle.sccs_steps.specs.StepEffects.{check}
use Rattle.sccs_changes.specs.Changes.{Prepares, PreparesChange, unlocked}
use Rattle.sccs_changes.specs.declared.prepared.Prepared.{Prepared}
use Rattle.sccs_changes.specs.PFiles.{PassesCheck, is_short}
use Rattle.sccs_words.specs.declared.commands.DeltaWords.{DeltaWords}
use Rattle.sccs_delta.specs.DeltaStep.{delta_change, delta_outcome, sizes_checked}
use Rattle.sccs_delta.specs.Sizes.{HearsScript, heard, s_is_there}
use Rattle.sccs_delta.proofs.PrepareLaws.{sizes_end}

-- ---- the input

heard_by : (i : List ℕ) (s : Option Content)
    → heard i s ≡ (s_is_there s >>= λ there. check (nat_le (length i) file_limit) refusals.TooLong)
unfolding heard
heard_by i s = refl

pub not_there : (i : List ℕ) (s : Option Content) (fault : StepFault) → PassesCheck (s_is_there s) (Err fault)
    → HearsScript i s (Err fault)
not_there i s (Refused refusal) passes = heard_by i s ∙ ap (λ (r : Result Bool Refusal). r >>= λ there. check
    (nat_le (length i) file_limit) refusals.TooLong) passes
not_there i s Memory passes = tt
not_there i s ReadFault passes = tt
not_there i s WriteFault passes = passes
not_there i s DiskFault passes = tt

long_by : (b : Bool) → b ≡ false → check b refusals.TooLong ≡ Err refusals.TooLong
long_by b is = ap (λ t. check t refusals.TooLong) is

pub too_long : (i : List ℕ) (s : Option Content) → s_is_there s ≡ Ok true → file_limit < length i
    → HearsScript i s (Err (Refused refusals.TooLong))
too_long i s there long =
    heard_by i s ∙ (ap (λ (r : Result Bool Refusal). r >>= λ there. check (nat_le (length i) file_limit)
    refusals.TooLong) there ∙ long_by (nat_le (length i) file_limit) (le_false (length i) long))
  where
    le_false : (k : ℕ) → file_limit < k → nat_le k file_limit ≡ false
    le_false k more = lt-leb k file_limit more

-- over a view that may be told
pub unheard : (o : Option View) (n i : List ℕ) (fault : StepFault)
    → IfSome o (λ (v : View). PassesCheck (s_is_there (v n)) (Err fault))
    → IfSome o (λ (v : View). HearsScript i (v n) (Err fault))
unheard None n i fault passes = tt
unheard (Some v) n i fault passes = not_there i (v n) fault passes

pub heard_long : (o : Option View) (n i : List ℕ) → IfSome o (λ (v : View). PassesCheck (s_is_there (v n)) (Ok tt))
    → file_limit < length i → IfSome o (λ (v : View). HearsScript i (v n) (Err (Refused refusals.TooLong)))
heard_long None n i there long = tt
heard_long (Some v) n i there long = too_long i (v n) there long

-- ---- the checks of the sizes

sizes_by : (a b c d e : Bool) (refusal : Refusal) → (check a refusals.Missing >>= λ x. check e refusals.TooLong)
    ≡ Err refusal → (check a refusals.Missing >>= λ x. check (b && (c && (d && e))) refusals.TooLong) ≡ Err refusal
sizes_by false b c d e refusal is = is
sizes_by true b c d true refusal is = absurd cc
sizes_by true true true true false refusal is = is
sizes_by true true true false false refusal is = is
sizes_by true true false d false refusal is = is
sizes_by true false c d false refusal is = is

unheard_sizes : (i : List ℕ) (f : Files) (refusal : Refusal) → heard i f.s ≡ Err refusal
    → sizes_checked i f ≡ Err refusal
unfolding sizes_checked
unheard_sizes i f refusal is = sizes_by (is_some f.s) (is_short f.s) (is_short f.p) (is_short f.g)
    (nat_le (length i) file_limit) refusal (sym (heard_by i f.s) ∙ is)

-- a refusal by the input, as one by the sizes; another end is that
unheard_passes : (i : List ℕ) (n : List ℕ) (v : View) (fault : StepFault) → HearsScript i (v n) (Err fault)
    → (fault ≡ ReadFault → ⊥) → PassesCheck (sizes_checked i (look v n)) (Err fault)
unheard_passes i n v (Refused refusal) hears read = unheard_sizes i (look v n) refusal hears
unheard_passes i n v Memory hears read = tt
unheard_passes i n v ReadFault hears read = read refl
unheard_passes i n v WriteFault hears read = hears
unheard_passes i n v DiskFault hears read = tt

pub unheard_prepares : (words : DeltaWords) (stamp : Stamp) (n : List ℕ) (fault : StepFault) (left : Option (List ℕ))
    (o o2 : Option View) (out err : Option (List ℕ)) → IsSFileName n → o2 ≡ o → ((i : List ℕ) → left ≡ Some i
    → IfSome o (λ (v : View). HearsScript i (v n) (Err fault)))
    → PreparesChange (delta_change words stamp) (Err fault) n left (world o out err) (world o2 out err)
unheard_prepares words stamp n fault left None o2 out err sfile same hears = tt
unheard_prepares words stamp n fault left (Some v) o2 out err sfile same hears = λ i is. by i (taken is)
  where
    taken : {i : List ℕ} → (true ≡ false) ⊎ (left ≡ Some i) → left ≡ Some i
    taken (inl isnt) = absurd cc
    taken (inr is) = is

    unmade : (i : List ℕ) → Prepares (Err ReadFault) n (delta_outcome words stamp n i [] (look (unlocked n v) n))
        (world (Some v) out err) (world o2 out err)
    unmade i = subst (λ (w : Option View). Prepares (Err ReadFault) n (delta_outcome words stamp n i []
        (look (unlocked n v) n)) (world (Some v) out err) (world w out err)) (sym same)
        (record { view = λ k h. refl; out = some_none out _ })

    by : (i : List ℕ) → left ≡ Some i → Prepares (Err fault) n (delta_outcome words stamp n i []
        (look (unlocked n v) n)) (world (Some v) out err) (world o2 out err)
    by i is = at fault (hears i is)
      where
        at : (f : StepFault) → HearsScript i (v n) (Err f) → Prepares (Err f) n (delta_outcome words stamp n i []
            (look (unlocked n v) n)) (world (Some v) out err) (world o2 out err)
        at (Refused refusal) hear = sizes_end words stamp n i (Refused refusal) (Some v) o2 out err sfile same
            (unheard_passes i n v (Refused refusal) hear (λ no. cc))
        at Memory hear = sizes_end words stamp n i Memory (Some v) o2 out err sfile same tt
        at ReadFault hear = unmade i
        at WriteFault hear = absurd hear
        at DiskFault hear = sizes_end words stamp n i DiskFault (Some v) o2 out err sfile same tt

pub heard_prepares : (words : DeltaWords) (stamp : Stamp) (n script : List ℕ) (r : Result Prepared StepFault)
    (left : Option (List ℕ)) (o o1 o2 : Option View) (out err : Option (List ℕ)) → o1 ≡ o
    → ((i : List ℕ) → left ≡ Some i → IfSome o (λ (v : View). HearsScript i (v n) (Ok script)))
    → IfSome o1 (λ (v : View). Prepares r n (delta_outcome words stamp n script [] (look (unlocked n v) n))
    (world (Some v) out err) (world o2 out err)) → PreparesChange (delta_change words stamp) r n left
    (world o out err) (world o2 out err)
heard_prepares words stamp n script r left None o1 o2 out err same hears prepares = tt
heard_prepares words stamp n script r left (Some v) o1 o2 out err same hears prepares = λ i is.
    subst (λ (s : List ℕ). Prepares r n (delta_outcome words stamp n s [] (look (unlocked n v) n))
    (world (Some v) out err) (world o2 out err)) (hears i (taken is))
    (subst (λ (o : Option View). IfSome o (λ (w : View). Prepares r n (delta_outcome words stamp n script []
    (look (unlocked n w) n)) (world (Some w) out err) (world o2 out err))) same prepares)
  where
    taken : {i : List ℕ} → (true ≡ false) ⊎ (left ≡ Some i) → left ≡ Some i
    taken (inl isnt) = absurd cc
    taken (inr is) = is
