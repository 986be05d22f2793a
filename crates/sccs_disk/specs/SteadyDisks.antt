-- What a disk in memory that never fails shows.
use Rattle.std.specs.Prelude.{◌≡◌, List, None, Some}
use Rattle.std.proofs.Common.{subst}
use Rattle.sccs_disk.specs.DirectoryFolders.{shown_finite}
use Rattle.sccs_disk.specs.DirectoryStates.{state_of}
use Rattle.sccs_disk.specs.Files.{View, Model, IsSane, IsFinite}
use Rattle.sccs_disk.specs.States.{shown}
use Rattle.sccs_disk.specs.Told.{Shows, Tells, seen}
use Rattle.sccs_disk.specs.declared.steady_disk.SteadyDisk.{SteadyDisk}

abbrev pub empty_view : View
empty_view name = None

abbrev pub steady_view : SteadyDisk → View
steady_view d = shown (state_of d.directory)

pub never_tells : (disk : SteadyDisk) (m : Model) (past : List Model) → Shows (steady_view disk) ≡ Tells m past
    → IsSane m
never_tells disk m past told = cc

view_is : (v w : View) → Some v ≡ Some w → v ≡ w
view_is v w e = cc

pub steady_finite : (disk : SteadyDisk) (v : View) → seen (Shows (steady_view disk)) ≡ Some v → IsFinite v
steady_finite disk v told = subst IsFinite (view_is (steady_view disk) v told) (shown_finite disk.directory)
