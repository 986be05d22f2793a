use Rattle.std.proofs.Common.{◌≡◌, ◌++◌, drop}
use Rattle.sccs_words.specs.Records.{values_of}
use Rattle.sccs_words.proofs.records.values_of.Given as goal

-- the values so far and those of the rest are all values
abbrev pub invariant-loop-one : goal.invariant-loop-one
invariant-loop-one l = l.values ++ values_of l.letter (drop l.one-index l.uses) ≡ values_of l.letter l.uses
