use Rattle.std.proofs.Common.{take}
use Rattle.sccs_pfile.specs.MadeSids.{HasMakers}
use Rattle.sccs_pfile.proofs.makers.find_makers.Given as goal

-- the SIDs of the entries so far were found
abbrev pub invariant-loop-edit : goal.invariant-loop-edit
invariant-loop-edit l = HasMakers l.found (take l.edit-index l.edits)
