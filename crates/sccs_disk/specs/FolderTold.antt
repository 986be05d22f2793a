-- A disk that tells nothing tells neither a model nor a view.
use Rattle.std.specs.Prelude.{◌≡◌, List, Some}
use Rattle.sccs_disk.specs.Files.{View, Model, IsSane, IsFinite}
use Rattle.sccs_disk.specs.Told.{Nothing, Tells, seen}

pub never_tells : {Disk : Type 0} (disk : Disk) (m : Model) (past : List Model) → Nothing ≡ Tells m past → IsSane m
never_tells disk m past told = cc

pub never_shows : {Disk : Type 0} (disk : Disk) (v : View) → seen Nothing ≡ Some v → IsFinite v
never_shows disk v told = cc
