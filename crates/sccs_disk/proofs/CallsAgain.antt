-- Calls that are made again, and the names that a stop leaves after them.
use Rattle.std.proofs.Common.{◌≡◌, ℕ, zero, suc, ◌+◌, ◌<◌, ◌≤◌, List, [], ◌∷◌, ◌++◌, length, take, get_or, Option, None}
use Rattle.std.proofs.Common.{Some, ◌⊎◌, inl, inr, refl, sym, ap, subst, ◌∙◌, add-one, length-append, true, false}
use Rattle.std.proofs.Common.{arith}
use Rattle.std.proofs.lemmas.List.{take-append-le}
use Rattle.sccs_disk.specs.Files.{File, Op, Model, names, names_at, names_after}
use Rattle.sccs_disk.specs.MemoryFiles.{model_of, model_after, entry_model, entry_state, pending_after}
use Rattle.sccs_disk.specs.States.{State, state, made, change_effect, file_effect}
use Rattle.sccs_disk.specs.declared.changes.Change.{Change}
use Rattle.sccs_disk.specs.declared.changes.Change.TheVariants as call
use Rattle.sccs_disk.specs.declared.changes.FileChange.{FileChange}
use Rattle.sccs_disk.specs.declared.changes.FileChange.TheVariants as file
use Rattle.sccs_disk.proofs.Models.{names_past, change_length}
use Rattle.sccs_disk.proofs.Views.{made_state}

-- one call of the record more
model_step : (m : Model) (log : List (Option Change)) (i : ℕ) (e : Option Change) → i < length log → get_or log i e ≡ e
    → model_after m (take (suc i) log) ≡ entry_model e (model_after m (take i log))
model_step m [] i e low is = absurd (omega arith)
model_step m (None ∷ log) zero e low is = ap (λ x. entry_model x m) is
model_step m (Some c ∷ log) zero e low is = ap (λ x. entry_model x m) is
model_step m (None ∷ log) (suc i) e low is = model_step m log i e (omega arith) is
model_step m (Some c ∷ log) (suc i) e low is = model_step ((change_effect c).model m) log i e (omega arith) is

pub model_next : (m : Model) (log : List (Option Change)) (i : ℕ) (e : Option Change) → i < length log
    → get_or log i e ≡ e → model_after m (take (i + 1) log) ≡ entry_model e (model_after m (take i log))
model_next m log i e low is = ap (λ n. model_after m (take n log)) (add-one i) ∙ model_step m log i e low is

file_pending : (n : List ℕ) (c : FileChange) (m : Model) → ((file_effect n c).model m).pending ≡ m.pending
file_pending n (file.Append bytes) m = refl
file_pending n (file.WriteAt from bytes) m = refl
file_pending n file.Protect m = refl
file_pending n file.Sync m = refl

file_names_at : (n : List ℕ) (c : FileChange) (m : Model) (j : ℕ) → names_at ((file_effect n c).model m) j
    ≡ names_at m j
file_names_at n (file.Append bytes) m j = refl
file_names_at n (file.WriteAt from bytes) m j = refl
file_names_at n file.Protect m j = refl
file_names_at n file.Sync m j = refl

pub pending_next : (e : Option Change) (m : Model) → length (entry_model e m).pending ≡ pending_after e
    (length m.pending)
pending_next None m = refl
pending_next (Some (call.Create n)) m = length-append m.pending _
pending_next (Some (call.File n c)) m = ap (λ (ops : List Op). length ops) (file_pending n c m)
pending_next (Some (call.Rename a b)) m = length-append m.pending _
pending_next (Some (call.Remove n)) m = length-append m.pending _
pending_next (Some call.SyncNames) m = refl

same_front : (m : Model) (op : Op) (j : ℕ) → j < length m.pending + 1 → names_after (take j (m.pending ++ op ∷ []))
    m.base ≡ names_at m j
same_front m op j low = ap (λ ops. names_after ops m.base) (take-append-le j m.pending (op ∷ []) (omega arith))

-- where more operations are pending than are made, the call changed nothing of the names that a stop leaves
pub names_same : (e : Option Change) (m : Model) (j : ℕ) → j < pending_after e (length m.pending)
    → names_at (entry_model e m) j ≡ names_at m j
names_same None m j low = refl
names_same (Some (call.Create n)) m j low = same_front m _ j low
names_same (Some (call.File n c)) m j low = file_names_at n c m j
names_same (Some (call.Rename a b)) m j low = same_front m _ j low
names_same (Some (call.Remove n)) m j low = same_front m _ j low
names_same (Some call.SyncNames) m j low = absurd (omega arith)

entry_made : (e : Option Change) (m : Model) → entry_state e (state m) ≡ state (entry_model e m)
entry_made None m = refl
entry_made (Some c) m = made_state c m

-- files in memory on which the same calls are made
pub state_next : (s old new : State) (log : List (Option Change)) (i : ℕ) (e : Option Change) → i < length log
    → e ≡ get_or log i e → old ≡ state (model_after (model_of s) (take i log))
    → new ≡ entry_state e old → new ≡ state (model_after (model_of s) (take (i + 1) log))
state_next s old new log i e low is same now =
    now ∙ (ap (entry_state e) same ∙ (entry_made e (model_after (model_of s) (take i log))
    ∙ ap state (sym (model_next (model_of s) log i e low (sym is)))))

-- the number of operations that are pending, and the names that a stop leaves
pub count_next : (log : List (Option Change)) (i pending next : ℕ) (e : Option Change) → i < length log
    → e ≡ get_or log i e → next ≡ pending_after e pending
    → ((s : State) → length (model_after (model_of s) (take i log)).pending ≡ pending) → (s : State)
    → length (model_after (model_of s) (take (i + 1) log)).pending ≡ next
count_next log i pending next e low is now count s =
    ap (λ (m : Model). length m.pending) (model_next (model_of s) log i e low (sym is))
    ∙ (pending_next e (model_after (model_of s) (take i log)) ∙ (ap (pending_after e) (count s) ∙ sym now))

pub kept_next : (log : List (Option Change)) (i kept kept2 pending next made : ℕ) (e : Option Change) → i < length log
    → e ≡ get_or log i e → next ≡ pending_after e pending
    → ((s : State) → length (model_after (model_of s) (take i log)).pending ≡ pending)
    → ((s : State) → names (model_after (model_of s) (take kept log)) ≡ names_at (model_after (model_of s)
    (take i log)) made)
    → ((next ≤ made) × (kept2 ≡ i + 1)) ⊎ ((made < next) × (kept2 ≡ kept)) → (s : State)
    → names (model_after (model_of s) (take kept2 log)) ≡ names_at (model_after (model_of s) (take (i + 1) log))
    made
kept_next log i kept kept2 pending next made e low is now count names_so_far (inl all) s =
    let many : length (model_after (model_of s) (take (i + 1) log)).pending ≡ next =
    count_next log i pending next e low is now count s in
    ap (λ n. names (model_after (model_of s) (take n log))) all.1
    ∙ sym (names_past (model_after (model_of s) (take (i + 1) log)) made (omega (arith, many, all.0)))
kept_next log i kept kept2 pending next made e low is now count names_so_far (inr few) s =
    let m : Model = model_after (model_of s) (take i log) in
    let more : made < pending_after e (length m.pending) =
    subst (λ n. made < n) (now ∙ ap (pending_after e) (sym (count s))) few.0 in
    ap (λ n. names (model_after (model_of s) (take n log))) few.1
    ∙ (names_so_far s ∙ (sym (names_same e m made more) ∙ ap (λ x. names_at x made)
    (sym (model_next (model_of s) log i e low (sym is)))))

-- Files only come to be.
file_count : (n : List ℕ) (c : FileChange) (m : Model) → length ((file_effect n c).model m).files ≡ length m.files
file_count n (file.Append bytes) m = change_length m.files (names m n) _
file_count n (file.WriteAt from bytes) m = change_length m.files (names m n) _
file_count n file.Protect m = change_length m.files (names m n) _
file_count n file.Sync m = change_length m.files (names m n) _

grows_by : (c : Change) (m : Model) → length m.files ≤ length ((change_effect c).model m).files
grows_by (call.Create n) m = omega (arith, length-append m.files (new ∷ []))
  where
    new : File
    new = record { content = record { bytes = []; writable = true }; firm = false }
grows_by (call.File n c) m = omega (arith, file_count n c m)
grows_by (call.Rename a b) m = omega arith
grows_by (call.Remove n) m = omega arith
grows_by call.SyncNames m = omega arith

pub grows : (m : Model) (log : List (Option Change)) → length m.files ≤ length (model_after m log).files
grows m [] = omega arith
grows m (None ∷ log) = grows m log
grows m (Some c ∷ log) =
    let one : length m.files ≤ length ((change_effect c).model m).files = grows_by c m in
    let more : length ((change_effect c).model m).files ≤ length (model_after ((change_effect c).model m) log).files =
    grows ((change_effect c).model m) log in
    omega arith

pub fewer : (m : Model) (log : List (Option Change)) (n : ℕ) → length (model_after m (take n log)).files ≤ length
    (model_after m log).files
fewer m log zero = grows m log
fewer m [] (suc n) = omega arith
fewer m (None ∷ log) (suc n) = fewer m log n
fewer m (Some c ∷ log) (suc n) = fewer ((change_effect c).model m) log n
