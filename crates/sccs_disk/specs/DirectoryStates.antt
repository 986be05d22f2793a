-- The files of a directory and the places of its names.
use Rattle.std.specs.Prelude.{map}
use Rattle.sccs_disk.specs.Places.{place_of}
use Rattle.sccs_disk.specs.States.{State, stored}
use Rattle.sccs_disk.specs.declared.directories.Directory.{Directory}

abbrev pub state_of : Directory → State
state_of d = record { files = map stored d.files.items; names = place_of d.names.names.items }
