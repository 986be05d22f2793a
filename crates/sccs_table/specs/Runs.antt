-- Whole text lines at the front of bytes.
use Rattle.std.specs.Prelude.{◌≡◌, ◌≢◌, ◌⊎◌, ℕ, suc, ◌-◌, ◌<◌, ◌==◌, true, List, [], ◌++◌, get_or, sum_by}
use Rattle.std.specs.Prelude.{if◌then◌else◌}
use Rattle.sccs_base.specs.Cut.{HasNoLf, cut}
use Rattle.sccs_sid.specs.SidLists.{begins}
use Rattle.sccs_history.specs.History.{AreBare}
use Rattle.sccs_table.specs.ReaderState.{ReaderState, StandsIn, left}

-- whole lines, each with its LF, none of which begins with SOH
abbrev pub IsRun : List ℕ → Type 0
IsRun bytes = ((cut bytes).tail ≡ []) × AreBare (cut bytes).lines

-- how many bytes are LF
abbrev pub lf_count : List ℕ → ℕ
lf_count bytes = sum_by (λ b. if b == 10 then 1 else 0) bytes

-- no SOH stands behind LF before a place
abbrev pub HasNoMark : List ℕ → ℕ → Type 0
HasNoMark bytes n = (k : ℕ) → suc k < n → get_or bytes k 0 ≡ 10 → get_or bytes (suc k) 0 ≢ 1

-- SOH stands behind LF at a place
abbrev pub IsMark : List ℕ → ℕ → Type 0
IsMark bytes n = (0 < n) × (get_or bytes (n - 1) 0 ≡ 10) × (get_or bytes n 0 ≡ 1)

-- no such line stands at the front: SOH does, or there is no LF
abbrev pub HasNoRun : List ℕ → Type 0
HasNoRun bytes = (begins 1 bytes ≡ true) ⊎ HasNoLf bytes

-- a reader passed over a run: what was left of the file is its lines, and what is left now
abbrev pub PassesRun : List ℕ → List ℕ → ReaderState → ReaderState → Type 0
PassesRun run file old new =
    StandsIn old file → StandsIn new file
    × (left old file ≡ record { lines = (cut run).lines ++ (left new file).lines; tail = (left new file).tail })
