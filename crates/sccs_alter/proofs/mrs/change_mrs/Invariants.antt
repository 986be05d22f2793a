use Rattle.std.proofs.Common.{◌≡◌, ◌++◌, drop}
use Rattle.sccs_alter.specs.Changes.{changed_mrs, gone_mrs}
use Rattle.sccs_alter.proofs.mrs.change_mrs.Given as goal

-- what is done and what the rest of the words does is all
abbrev pub invariant-loop-word : goal.invariant-loop-word
invariant-loop-word l = record {
  mrs : changed_mrs (drop l.word-index l.words) l.changed.mrs ≡ changed_mrs l.words l.fn.mrs;
  gone : l.changed.gone ++ gone_mrs (drop l.word-index l.words) l.changed.mrs ≡ gone_mrs l.words l.fn.mrs;
}
