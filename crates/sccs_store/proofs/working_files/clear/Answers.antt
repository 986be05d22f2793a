use Rattle.std.specs.Str.{bytes_eq}
use Rattle.sccs_name_files.proofs.Called.{remove_touched}
use Rattle.sccs_store.proofs.Working.{same_touches, touches_from}
use Rattle.sccs_store.proofs.working_files.clear.Goals as goal

pub returns-in-Some-clause-touches : goal.returns-in-Some-clause-touches
returns-in-Some-clause-touches g c =
    touches_from (bytes_eq c.args.name.now) _ (g.D.Disk.told c.size.new.self) _ c.size.ensures.same
    (remove_touched c.args.name.now _ _ _ _ c.remove.result c.remove.ensures)

pub returns-in-None-clause-touches : goal.returns-in-None-clause-touches
returns-in-None-clause-touches g c = same_touches (bytes_eq c.args.name.now) _ _ c.size.ensures.same

pub returns-in_err-size-clause-touches : goal.returns-in_err-size-clause-touches
returns-in_err-size-clause-touches g c = same_touches (bytes_eq c.args.name.now) _ _ c.size.ensures.same
