use Rattle.std.proofs.Common.{◌≡◌, take}
use Rattle.sccs_history.specs.History.{AreLines}
use Rattle.sccs_alter.proofs.changes.word_lines.Given as goal

-- the words so far are lines
abbrev pub invariant-loop-word : goal.invariant-loop-word
invariant-loop-word l = record {
  same : l.text ≡ take l.word-index l.words;
  lines : AreLines l.text;
}
