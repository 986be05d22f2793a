use Rattle.sccs_rmdel.proofs.RemovedTables.{header_removed, history_valid, live_removed, rooted_removed}
use Rattle.sccs_rmdel.proofs.RemovedTables.{spelled_removed}
use Rattle.sccs_rmdel.proofs.laws.removal_keeps_rules.Goals as goal

pub returns : goal.returns
returns c = record {
  header = λ n header is. header_removed n header is;
  spelled = λ n header is. spelled_removed n header is;
  live = λ n records. live_removed n records;
  valid = λ n h is. history_valid n h is;
  rooted = λ n h is free. rooted_removed n h is free;
}
