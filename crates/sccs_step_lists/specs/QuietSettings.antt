-- Streams without an input of their own.
use Rattle.std.specs.Prelude.{ℕ, List, [], Option, Some}
use Rattle.sccs_base.specs.declared.streams.Sink.{Ghosts as SinkGhosts}
use Rattle.sccs_disk.specs.declared.disks.Disk.{Ghosts as DiskGhosts}
use Rattle.sccs_steps.specs.Calls.{scene}
use Rattle.sccs_steps.specs.Causes.{counts}
use Rattle.sccs_steps.specs.Settings.{Setting}

-- no byte is to come, and no call of the input failed
abbrev pub quiet : {O E D : Type 0} → SinkGhosts O → SinkGhosts E → DiskGhosts D → O → E → D → Setting
quiet o e d out err disk = record {
  left = Some [];
  stage = scene (d.told disk) (o.given out) (e.given err);
  faults = counts 0 (o.faults out) (e.faults err) (d.faults disk);
}

-- the same with an input that has these bytes to come, and whose calls failed so often
abbrev pub with_input : Option (List ℕ) → ℕ → Setting → Setting
with_input left count s =
    record { left = left; stage = s.stage; faults = counts count s.faults.out s.faults.err s.faults.disk }
