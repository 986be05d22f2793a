use Rattle.std.proofs.Common.{◌≡◌, ◌≤◌, length, take}
use Rattle.sccs_disk.specs.Files.{names, names_at}
use Rattle.sccs_disk.specs.MemoryFiles.{model_of, model_after}
use Rattle.sccs_disk.specs.States.{State}
use Rattle.sccs_disk.proofs.replays.count_kept.Given as goal

-- what is said of all calls, of those so far
abbrev pub invariant-loop-place : goal.invariant-loop-place
invariant-loop-place l = record {
  within : l.kept ≤ l.place;
  few : l.pending ≤ l.place;
  pending : (s : State) → length (model_after (model_of s) (take l.place l.log)).pending ≡ l.pending;
  names : (s : State) → names (model_after (model_of s) (take l.kept l.log)) ≡ names_at (model_after (model_of s)
      (take l.place l.log)) l.made;
}
