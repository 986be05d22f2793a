-- The disk that a stop leaves.
use Rattle.std.proofs.Common.{◌≡◌, ℕ, ◌<◌, ◌≤◌, min, List, [], length, map, take, Option, sym, ap, subst, ◌∙◌, ⊎_elim}
use Rattle.std.proofs.Common.{arith}
use Rattle.std.proofs.lemmas.Bool.{cases_lt}
use Rattle.std.proofs.lemmas.List.{take_all, length-map}
use Rattle.sccs_disk.specs.Files.{Model, names, names_at, view_of}
use Rattle.sccs_disk.specs.MemoryFiles.{model_of, model_after, left_by_stop, left_files}
use Rattle.sccs_disk.specs.States.{State, AreNamesPlaced, state, stored}
use Rattle.sccs_disk.specs.declared.changes.Change.{Change}
use Rattle.sccs_disk.specs.declared.changes.StoredFile.{StoredFile}
use Rattle.sccs_disk.specs.declared.fills.Fill.{Fill}
use Rattle.sccs_disk.proofs.CallsAgain.{fewer}
use Rattle.sccs_disk.proofs.Left.{left_shown}

-- no more calls than were made
pub take_least : (calls count : ℕ) (items : List (Option Change)) → count ≡ min (length items) calls
    → take count items ≡ take calls items
take_least calls count items is =
    ⊎_elim (λ low. ap (λ n. take n items) (omega (arith, is, low))) (λ high. ap (λ n. take n items) (omega (arith, is))
    ∙ (take_all (length items) items (omega arith) ∙ sym (take_all calls items high)))
    (cases_lt calls (length items))

pub start_state : (log : List (Option Change)) (s d : State) → log ≡ [] → d ≡ s
    → d ≡ state (model_after (model_of s) log)
start_state log s d none is = is ∙ ap (λ l. state (model_after (model_of s) l)) (sym none)

-- the names that are left lead to no more files than there are
pub names_fewer : (s : State) (log : List (Option Change)) (kept : ℕ) (files named : List StoredFile) (t u : List ℕ
    → Option ℕ)
    → record { files = map stored files; names = t } ≡ state (model_after (model_of s) log)
    → record { files = map stored named; names = u } ≡ state (model_after (model_of s) (take kept log))
    → length named ≤ length files
names_fewer s log kept files named t u all part =
    let less : length (model_after (model_of s) (take kept log)).files ≤ length (model_after (model_of s) log).files =
    fewer (model_of s) log kept in
    let many : length (map stored files) ≡ length (model_after (model_of s) log).files =
    ap (λ (x : State). length x.files) all in
    let few : length (map stored named) ≡ length (model_after (model_of s) (take kept log)).files =
    ap (λ (x : State). length x.files) part in
    omega (arith, less, many, few, length-map files stored, length-map named stored)

pub crash_view : (s : State) (items log : List (Option Change)) (calls count kept made many : ℕ) (fill : Fill)
    (files named start : State) → count ≡ min (length items) calls
    → files ≡ state (model_after (model_of s) (take count items))
    → named ≡ state (model_after (model_of s) (take kept (take count items)))
    → names (model_after (model_of s) (take kept (take count items))) ≡ names_at (model_after (model_of s)
    (take count items)) made
    → start.files ≡ left_files fill many files.files → start.names ≡ named.names → many ≡ length named.files
    → AreNamesPlaced named → log ≡ []
    → view_of (model_after (model_of start) log) ≡ left_by_stop (model_after (model_of s) (take calls items)) made fill
crash_view s items log calls count kept made many fill files named start least files_are named_is names_are left_are
    named_too many_are placed none =
    let m : Model = model_after (model_of s) (take count items) in
    ap (λ l. view_of (model_after (model_of start) l)) none
    ∙ (left_shown m made fill many start (left_are ∙ ap (λ (x : State). left_files fill many x.files) files_are)
    (named_too ∙ (ap (λ (x : State). x.names) named_is ∙ names_are))
    (λ n p at. subst (λ count. p < count) (sym many_are)
    (placed.within n p (sym (ap (λ (t : List ℕ → Option ℕ). t n) named_too) ∙ at)))
    ∙ ap (λ l. left_by_stop (model_after (model_of s) l) made fill) (take_least calls count items least))
