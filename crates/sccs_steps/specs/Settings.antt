-- The streams of a run, as they are told.
use Rattle.std.specs.Prelude.{◌≡◌, ℕ, List, Option}
use Rattle.sccs_base.specs.declared.streams.Sink.{Ghosts as SinkGhosts}
use Rattle.sccs_base.specs.declared.streams.Source.{Ghosts as SourceGhosts}
use Rattle.sccs_disk.specs.declared.disks.Disk.{Ghosts as DiskGhosts}
use Rattle.sccs_steps.specs.Calls.{Scene, scene}
use Rattle.sccs_steps.specs.Causes.{Counts, counts}
use Rattle.sccs_steps.specs.declared.streams.Streams.{Streams}

-- the bytes still to come, what disk and sinks tell, and how often each of them failed
pub record Setting : Type 0 where
  pub left : Option (List ℕ)
  pub stage : Scene
  pub faults : Counts

abbrev pub setting_of : {I O E D : Type 0} → SourceGhosts I → SinkGhosts O → SinkGhosts E → DiskGhosts D → I → O → E → D
    → Setting
setting_of i o e d input out err disk = record {
  left = i.left input;
  stage = scene (d.told disk) (o.given out) (e.given err);
  faults = counts (i.faults input) (o.faults out) (e.faults err) (d.faults disk);
}

abbrev pub setting : {I O E D : Type 0} → SourceGhosts I → SinkGhosts O → SinkGhosts E → DiskGhosts D → Streams I O E D
    → Setting
setting i o e d s = setting_of i o e d s.input.now s.out.now s.err.now s.disk.now

-- they are lent from the same owners
pub record SameLoans {I O E D : Type 0} (a b : Streams I O E D) : Type 0 where
  pub input : b.input.ghost_name ≡ a.input.ghost_name
  pub out : b.out.ghost_name ≡ a.out.ghost_name
  pub err : b.err.ghost_name ≡ a.err.ghost_name
  pub disk : b.disk.ghost_name ≡ a.disk.ghost_name
