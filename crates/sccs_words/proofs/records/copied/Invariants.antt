use Rattle.std.proofs.Common.{◌≡◌, ◌++◌, drop}
use Rattle.sccs_words.proofs.records.copied.Given as goal

-- the copies so far and the rest are all words
abbrev pub invariant-loop-word : goal.invariant-loop-word
invariant-loop-word l = l.copies ++ drop l.word-index l.words ≡ l.words
