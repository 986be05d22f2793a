use Rattle.sccs_disk.specs.Effects.{appended, overwritten, KeepsMark}
use Rattle.sccs_name_files.proofs.Called.{write_written, protect_written, sync_written, sync_firm}
use Rattle.sccs_name_files.proofs.laws.written_files.Goals as goal

pub returns-clause-append : goal.returns-clause-append
returns-clause-append c = λ n bytes old new before after r. write_written n (appended bytes) KeepsMark old new before
    after r

pub returns-clause-write_at : goal.returns-clause-write_at
returns-clause-write_at c = λ n from bytes old new before after r. write_written n (overwritten from bytes) KeepsMark
    old new before after r

pub returns-clause-protect : goal.returns-clause-protect
returns-clause-protect c = λ n old new before after r. protect_written n old new before after r

pub returns-clause-sync : goal.returns-clause-sync
returns-clause-sync c = λ n old new before after r. sync_written n old new before after r

pub returns-clause-firm : goal.returns-clause-firm
returns-clause-firm c = sync_firm
