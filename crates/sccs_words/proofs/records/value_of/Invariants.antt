use Rattle.std.proofs.Common.{◌≡◌, drop}
use Rattle.sccs_words.specs.Records.{value_of}
use Rattle.sccs_words.proofs.records.value_of.Given as goal

abbrev pub invariant-loop-one : goal.invariant-loop-one
invariant-loop-one l = value_of l.letter (drop l.one-index l.uses) ≡ value_of l.letter l.uses
