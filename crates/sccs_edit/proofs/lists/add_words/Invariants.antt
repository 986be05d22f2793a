use Rattle.std.proofs.Common.{◌≡◌, ◌++◌, take}
use Rattle.sccs_edit.proofs.lists.add_words.Given as goal

-- the words so far were added
abbrev pub invariant-loop-word : goal.invariant-loop-word
invariant-loop-word l = l.words ≡ l.fn.words ++ take l.word-index l.more
