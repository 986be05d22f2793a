use Rattle.std.proofs.Common.{◌≡◌, take}
use Rattle.sccs_batch.proofs.text_reading.copy_words.Given as goal

abbrev pub invariant-loop-line : goal.invariant-loop-line
invariant-loop-line l = l.words ≡ take l.line-index l.lines
