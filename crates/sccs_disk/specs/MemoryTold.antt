-- What a disk in memory tells is sane and finite.
use Rattle.std.specs.Prelude.{◌≡◌, List, Some}
use Rattle.std.proofs.Common.{ap, ◌∙◌, subst}
use Rattle.sccs_disk.specs.DirectoryFolders.{shown_finite}
use Rattle.sccs_disk.specs.Files.{View, Model, IsSane, IsFinite}
use Rattle.sccs_disk.specs.MemoryDisks.{disk_told, disk_model}
use Rattle.sccs_disk.specs.States.{shown}
use Rattle.sccs_disk.specs.Told.{Tells, seen}
use Rattle.sccs_disk.specs.declared.memory_disk.MemoryDisk.{MemoryDisk}

model_is : (m n : Model) (past past2 : List Model) → Tells m past ≡ Tells n past2 → m ≡ n
model_is m n past past2 e = cc

pub disk_sane : (disk : MemoryDisk) (m : Model) (past : List Model) → disk_told disk ≡ Tells m past → IsSane m
disk_sane disk m past told = subst IsSane (model_is (disk_model disk) m _ past told) disk.sane

view_is : (v w : View) → Some v ≡ Some w → v ≡ w
view_is v w e = cc

pub disk_finite : (disk : MemoryDisk) (v : View) → seen (disk_told disk) ≡ Some v → IsFinite v
disk_finite disk v told = subst IsFinite (ap shown disk.current ∙ view_is _ v told) (shown_finite disk.directory)
