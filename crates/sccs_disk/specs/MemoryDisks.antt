-- What a disk in memory tells, and when its calls fail.
use Rattle.std.specs.Prelude.{◌≡◌, ◌<◌, ◌≤◌, ◌⊎◌, ◌↔◌, ℕ, List, take, Contains}
use Rattle.sccs_base.specs.Stream.{one_more}
use Rattle.sccs_disk.specs.DirectoryStates.{state_of}
use Rattle.sccs_disk.specs.Files.{View, Model, view_of}
use Rattle.sccs_disk.specs.MemoryFiles.{model_of, model_after, told_after}
use Rattle.sccs_disk.specs.Told.{Told}
use Rattle.sccs_disk.specs.declared.memory_disk.MemoryDisk.{MemoryDisk}

abbrev pub disk_told : MemoryDisk → Told
disk_told d = told_after (state_of d.start) d.log.items

abbrev pub disk_model : MemoryDisk → Model
disk_model d = model_after (model_of (state_of d.start)) d.log.items

-- the model after so many calls, or after all that were made where these are fewer
abbrev pub disk_after : MemoryDisk → ℕ → Model
disk_after d calls = model_after (model_of (state_of d.start)) (take calls d.log.items)

abbrev pub disk_view : MemoryDisk → View
disk_view d = view_of (disk_model d)

abbrev pub disk_call : MemoryDisk → ℕ
disk_call d = d.calls

abbrev pub disk_room : MemoryDisk → ℕ
disk_room d = d.room

abbrev pub disk_stop : MemoryDisk → ℕ
disk_stop d = d.stop

abbrev pub disk_failing : MemoryDisk → List ℕ
disk_failing d = d.failing.items

-- the call of that number is to fail: by plan, past the room, or past the stop
abbrev pub IsPlanned : MemoryDisk → ℕ → Type 0
IsPlanned d call = Contains (disk_failing d) call ⊎ ((disk_room d < call) ⊎ (disk_stop d < call))

-- A call counts as one more, and fails exactly by plan, past the room or past the stop, which stay; then nothing
-- changes.
pub record GoesByPlan (failed : Type 0) (old new : MemoryDisk) : Type 0 where
  pub planned : failed ↔ IsPlanned old (disk_call new)
  pub still : failed → disk_told new ≡ disk_told old
  pub call : disk_call new ≡ one_more (disk_call old)
  pub before : (calls : ℕ) → calls ≤ disk_call old → disk_after new calls ≡ disk_after old calls
  pub plan : disk_failing new ≡ disk_failing old
  pub room : disk_room new ≡ disk_room old
  pub stop : disk_stop new ≡ disk_stop old

-- the plan, the room, the stop and the count of calls stay
pub record KeepsPlan (old new : MemoryDisk) : Type 0 where
  pub call : disk_call new ≡ disk_call old
  pub plan : disk_failing new ≡ disk_failing old
  pub room : disk_room new ≡ disk_room old
  pub stop : disk_stop new ≡ disk_stop old
