use Rattle.std.proofs.Common.{◌≡◌, [], drop}
use Rattle.sccs_words.specs.MrWords.{split_from}
use Rattle.sccs_words.proofs.values.mr_words.Given as goal

-- what is still to be split, after what was split, is the whole
abbrev pub invariant-loop-byte : goal.invariant-loop-byte
invariant-loop-byte l = split_from l.words l.word.items (drop l.byte-index l.bytes) ≡ split_from [] [] l.bytes
