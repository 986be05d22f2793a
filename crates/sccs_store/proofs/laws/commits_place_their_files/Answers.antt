use Rattle.sccs_store.proofs.Committed.{committed_at, part_at}
use Rattle.sccs_store.proofs.laws.commits_place_their_files.Goals as goal

pub returns : goal.returns
returns c = record { whole = committed_at; parts = part_at }
