use Rattle.std.proofs.Common.{◌≡◌, take}
use Rattle.sccs_disk.specs.DirectoryStates.{state_of}
use Rattle.sccs_disk.specs.MemoryFiles.{model_of, model_after}
use Rattle.sccs_disk.specs.States.{state}
use Rattle.sccs_disk.proofs.replays.replay.Given as goal

-- the calls so far are made
abbrev pub invariant-loop-entry : goal.invariant-loop-entry
invariant-loop-entry l = state_of l.directory ≡ state (model_after (model_of (state_of l.start))
    (take l.entry-index l.log))
