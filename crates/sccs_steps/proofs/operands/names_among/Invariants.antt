use Rattle.std.proofs.Common.{◌≡◌, take}
use Rattle.std.specs.List.{filter}
use Rattle.sccs_steps.proofs.operands.names_among.Given as goal

-- the names among the lines so far
abbrev pub invariant-loop-line : goal.invariant-loop-line
invariant-loop-line g l = l.names ≡ filter (g.U.UtilityWithStatus.action l.utility).fits (take l.line-index l.lines)
