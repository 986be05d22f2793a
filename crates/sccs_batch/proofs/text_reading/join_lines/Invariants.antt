use Rattle.std.proofs.Common.{◌≡◌, take}
use Rattle.sccs_batch.specs.Entries.{with_lfs}
use Rattle.sccs_batch.proofs.text_reading.join_lines.Given as goal

abbrev pub invariant-loop-line : goal.invariant-loop-line
invariant-loop-line l = l.bytes.items ≡ with_lfs (take l.line-index l.lines)
