use Rattle.sccs_store.proofs.MadeWhole.{ends_after, ends_before, ends_pairs, ends_within}
use Rattle.sccs_store.proofs.gfile_laws.g_files_are_made_whole.Goals as goal

pub returns-clause-before : goal.returns-clause-before
returns-clause-before c = ends_before

pub returns-clause-within : goal.returns-clause-within
returns-clause-within c = ends_within

pub returns-clause-after : goal.returns-clause-after
returns-clause-after c = ends_after

pub returns-clause-pairs : goal.returns-clause-pairs
returns-clause-pairs c = ends_pairs
