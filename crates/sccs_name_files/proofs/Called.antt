-- What one call of a disk touches, however it ends.
use Rattle.std.proofs.Common.{◌≡◌, ℕ, List, ◌∷◌, refl, sym, subst, ◌∙◌, Result, Ok, Err, IfOk}
use Rattle.std.specs.Prelude.{IsErrOf}
use Rattle.std.specs.Str.{bytes_eq}
use Rattle.sccs_base.specs.declared.streams.Failed.{Failed}
use Rattle.sccs_disk.specs.Calls.{Done, Half, Writes, Changes, Creates}
use Rattle.sccs_disk.specs.Effects.{Effect, writing, creating, removing, syncing, protecting}
use Rattle.sccs_disk.specs.Files.{Content, Model}
use Rattle.sccs_disk.specs.Images.{IsOwn, IsFirm}
use Rattle.sccs_disk.specs.Told.{Told, Tells}
use Rattle.sccs_disk.specs.declared.disks.Creation.{Creation}
use Rattle.sccs_disk.specs.declared.disks.Creation.TheVariants.{Created, Exists}
use Rattle.sccs_disk.specs.declared.disks.DiskRefusal.{DiskRefusal}
use Rattle.sccs_disk.specs.declared.disks.DiskRefusal.TheVariants as fault
use Rattle.sccs_name_files.specs.Touches.{Touches, TouchesOnly, WritesOnly, Leaves, TellsSane}
use Rattle.sccs_name_files.proofs.Owned.{own_created, firm_synced}
use Rattle.sccs_name_files.proofs.Touched.{touches_created, touches_removed, touches_changed, same_touching}
use Rattle.sccs_name_files.proofs.Touched.{done_touching, half_touching}

pub write_written : {T : Type 0} (n : List ℕ) (g : Content → Content) (may : (Content → Content) → Type 0)
    (old new : Told) (faults faults_after : ℕ) (r : Result T DiskRefusal)
    → TellsSane old → Writes (writing n g may) old new faults faults_after r → WritesOnly n old new
write_written n g may old new faults faults_after (Ok x) sane call m past is own =
    done_touching (writing n g may) (bytes_eq n) m past old new is (touches_changed n _ m (sane m past is) own)
    call.done
write_written n g may old new faults faults_after (Err fault.Failed) sane call m past is own =
    half_touching (writing n g may) (bytes_eq n) m past old new is (λ m2 half. subst (Touches (bytes_eq n) m)
    (sym half.2) (touches_changed n _ m (sane m past is) own)) (call.half refl)
write_written n g may old new faults faults_after (Err fault.Memory) sane call m past is own =
    same_touching (bytes_eq n) m past old new is (call.memory refl)

pub protect_written : {T : Type 0} (n : List ℕ) (old new : Told) (faults faults_after : ℕ) (r : Result T Failed)
    → TellsSane old → Changes (protecting n) old new faults faults_after r → WritesOnly n old new
protect_written n old new faults faults_after (Ok x) sane call m past is own =
    done_touching (protecting n) (bytes_eq n) m past old new is (touches_changed n _ m (sane m past is) own) call.done
protect_written n old new faults faults_after (Err f) sane call m past is own =
    half_touching (protecting n) (bytes_eq n) m past old new is (λ m2 half. subst (Touches (bytes_eq n) m) (sym half.2)
    (touches_changed n _ m (sane m past is) own)) call.half

pub sync_written : {T : Type 0} (n : List ℕ) (old new : Told) (faults faults_after : ℕ) (r : Result T Failed)
    → TellsSane old → Changes (syncing n) old new faults faults_after r → WritesOnly n old new
sync_written n old new faults faults_after (Ok x) sane call m past is own =
    done_touching (syncing n) (bytes_eq n) m past old new is (touches_changed n _ m (sane m past is) own) call.done
sync_written n old new faults faults_after (Err f) sane call m past is own =
    half_touching (syncing n) (bytes_eq n) m past old new is (λ m2 half. subst (Touches (bytes_eq n) m) (sym half)
    (touches_changed n _ m (sane m past is) own)) call.half

pub remove_touched : {T : Type 0} (n : List ℕ) (old new : Told) (faults faults_after : ℕ) (r : Result T Failed)
    → Changes (removing n) old new faults faults_after r → TouchesOnly (bytes_eq n) old new
remove_touched n old new faults faults_after (Ok x) call m past is = done_touching (removing n) (bytes_eq n) m past old
    new is (touches_removed n m) call.done
remove_touched n old new faults faults_after (Err f) call m past is =
    half_touching (removing n) (bytes_eq n) m past old new is (λ m2 half. subst (Touches (bytes_eq n) m) (sym half)
    (touches_removed n m)) call.half

pub create_touched : (n : List ℕ) (old new : Told) (r : Result Creation DiskRefusal) → TellsSane old
    → IfOk r (Creates n old new) → (IsErrOf r fault.Failed → Half (creating n) old new)
    → (IsErrOf r fault.Memory → new ≡ old) → TouchesOnly (bytes_eq n) old new
create_touched n old new (Ok Created) sane done half memory m past is = done_touching (creating n) (bytes_eq n) m past
    old new is (touches_created n m (sane m past is)) done
create_touched n old new (Ok Exists) sane done half memory m past is = same_touching (bytes_eq n) m past old new is done
create_touched n old new (Err fault.Failed) sane done half memory m past is =
    half_touching (creating n) (bytes_eq n) m past old new is (λ m2 made. subst (Touches (bytes_eq n) m) (sym made)
    (touches_created n m (sane m past is))) (half refl)
create_touched n old new (Err fault.Memory) sane done half memory m past is =
    same_touching (bytes_eq n) m past old new is (memory refl)

model_is : (m n : Model) (past past2 : List Model) → Tells m past ≡ Tells n past2 → m ≡ n
model_is m n past past2 e = cc

done_leaves : (e : Effect) (P : Model → Type 0) (old new : Told) → ((m : Model) (past : List Model) → old ≡ Tells m past
    → P (e.model m)) → Done e old new → Leaves P old new
done_leaves e P old new holds done m past is m2 past2 now =
    subst P (model_is (e.model m) m2 (m ∷ past) past2 (sym (done.model m past is) ∙ now)) (holds m past is)

-- a file that was created is its name's own, and one that was synced is firm
pub create_owned : (n : List ℕ) (old new : Told) → TellsSane old → Creates n old new Created → Leaves (IsOwn n) old new
create_owned n old new sane done = done_leaves (creating n) (IsOwn n) old new (λ m past is. own_created n m
    (sane m past is)) done

pub sync_firm : (n : List ℕ) (old new : Told) → Done (syncing n) old new → Leaves (IsFirm n) old new
sync_firm n old new done = done_leaves (syncing n) (IsFirm n) old new (λ m past is. firm_synced n m) done
