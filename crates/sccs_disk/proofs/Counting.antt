-- A call that is counted, in the record of calls and in the plan.
use Rattle.std.specs.Prelude.{Contains}
use Rattle.std.proofs.Common.{◌≡◌, ◌⊎◌, ℕ, ◌<◌, ◌≤◌, min, Bool, true, false, cond, nat_le, List, [], ◌∷◌, ◌++◌, length}
use Rattle.std.proofs.Common.{take, Option, None, refl, sym, ap, subst, ◌∙◌, arith}
use Rattle.std.proofs.lemmas.Bool.{leb-true}
use Rattle.std.proofs.lemmas.List.{take-append-le}
use Rattle.sccs_base.specs.Stream.{last_count, one_more}
use Rattle.sccs_disk.specs.Files.{Model, IsSane}
use Rattle.sccs_disk.specs.MemoryFiles.{model_of, model_after, told_after, noted}
use Rattle.sccs_disk.specs.MemoryDisks.{IsPlanned}
use Rattle.sccs_disk.specs.States.{State, state}
use Rattle.sccs_disk.specs.declared.changes.Change.{Change}
use Rattle.sccs_disk.specs.declared.memory_disk.MemoryDisk.{MemoryDisk}
use Rattle.sccs_disk.proofs.Logs.{model_none, told_none}

either : (b : Bool) {X : Type 0} (f : List (Option Change) → X) (log : List (Option Change))
    → f (log ++ None ∷ []) ≡ f log → f (cond b (log ++ None ∷ []) log) ≡ f log
either true f log same = same
either false f log same = refl

pub noted_model : (s : State) (call room : ℕ) (log new : List (Option Change)) → new ≡ noted call room log
    → model_after (model_of s) new ≡ model_after (model_of s) log
noted_model s call room log new is = ap (model_after (model_of s)) is ∙ either (nat_le call room)
    (model_after (model_of s)) log (model_none s log)

pub noted_told : (s : State) (call room : ℕ) (log new : List (Option Change)) → new ≡ noted call room log
    → told_after s new ≡ told_after s log
noted_told s call room log new is = ap (told_after s) is ∙ either (nat_le call room) (told_after s) log
    (told_none s log)

pub noted_state : (s t : State) (call room : ℕ) (log new : List (Option Change)) → new ≡ noted call room log
    → t ≡ state (model_after (model_of s) log) → t ≡ state (model_after (model_of s) new)
noted_state s t call room log new is now = now ∙ ap state (sym (noted_model s call room log new is))

pub noted_sane : (s : State) (call room : ℕ) (log new : List (Option Change)) → new ≡ noted call room log
    → IsSane (model_after (model_of s) log) → IsSane (model_after (model_of s) new)
noted_sane s call room log new is sane = subst IsSane (sym (noted_model s call room log new is)) sane

front_kept : (b : Bool) (m : Model) (log : List (Option Change)) (k : ℕ) → (b ≡ true → k ≤ length log)
    → model_after m (take k (cond b (log ++ None ∷ []) log)) ≡ model_after m (take k log)
front_kept true m log k low = ap (model_after m) (take-append-le k log (None ∷ []) (low refl))
front_kept false m log k low = refl

within_room : (call room calls k : ℕ) (log : List (Option Change)) → call ≡ one_more calls → length log ≡ min calls room
    → calls ≤ last_count → k ≤ calls → nat_le call room ≡ true → k ≤ length log
within_room call room calls k log next count most low fits =
    let room_left : call ≤ room = leb-true call room fits in omega (arith, next, count)

pub noted_before : (s : State) (call room calls k : ℕ) (log new : List (Option Change)) → new ≡ noted call room log
    → call ≡ one_more calls → length log ≡ min calls room → calls ≤ last_count → k ≤ calls
    → model_after (model_of s) (take k new) ≡ model_after (model_of s) (take k log)
noted_before s call room calls k log new is next count most low =
    ap (λ l. model_after (model_of s) (take k l)) is ∙ front_kept (nat_le call room) (model_of s) log k
    (within_room call room calls k log next count most low)

pub planned_at : (disk : MemoryDisk) (failing : List ℕ) (call : ℕ) → failing ≡ disk.failing.items
    → Contains failing call ⊎ ((disk.room < call) ⊎ (disk.stop < call)) → IsPlanned disk call
planned_at disk failing call is planned = subst (λ l. Contains l call ⊎ ((disk.room < call) ⊎ (disk.stop < call))) is
    planned

pub planned_by : (disk : MemoryDisk) (failing : List ℕ) (call : ℕ) → failing ≡ disk.failing.items → IsPlanned disk call
    → Contains failing call ⊎ ((disk.room < call) ⊎ (disk.stop < call))
planned_by disk failing call is planned = subst (λ l. Contains l call ⊎ ((disk.room < call) ⊎ (disk.stop < call)))
    (sym is) planned
