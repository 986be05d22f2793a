use Rattle.std.proofs.Common.{Ok, refl}
use Rattle.std.specs.Str.{bytes_eq}
use Rattle.sccs_disk.specs.Files.{Remove}
use Rattle.sccs_name_files.proofs.Called.{remove_touched}
use Rattle.sccs_store.proofs.Working.{same_touches, touches_from}
use Rattle.sccs_group.proofs.Called.{may_remove, may_same, size_some}
use Rattle.sccs_group.proofs.calls.clear.Goals as goal

pub returns-in-Some-clause-call : goal.returns-in-Some-clause-call
returns-in-Some-clause-call g c =
    may_remove c.args.name.now _ (g.D.Disk.told c.size.new.self) _ _ _ c.remove.result c.size.ensures.same
    (size_some _ c.args.name.now (Ok c.in_ok-size.field-0) _ _ refl c.in-Some.is c.in_ok-size.ensures.ok)
    c.remove.ensures

pub returns-in-None-clause-call : goal.returns-in-None-clause-call
returns-in-None-clause-call g c = may_same (Remove c.args.name.now) c.args.name.now _ _ c.size.ensures.same

pub returns-in_err-size-clause-call : goal.returns-in_err-size-clause-call
returns-in_err-size-clause-call g c = may_same (Remove c.args.name.now) c.args.name.now _ _ c.size.ensures.same

pub returns-in-Some-clause-touches : goal.returns-in-Some-clause-touches
returns-in-Some-clause-touches g c =
    touches_from (bytes_eq c.args.name.now) _ (g.D.Disk.told c.size.new.self) _ c.size.ensures.same
    (remove_touched c.args.name.now _ _ _ _ c.remove.result c.remove.ensures)

pub returns-in-None-clause-touches : goal.returns-in-None-clause-touches
returns-in-None-clause-touches g c = same_touches (bytes_eq c.args.name.now) _ _ c.size.ensures.same

pub returns-in_err-size-clause-touches : goal.returns-in_err-size-clause-touches
returns-in_err-size-clause-touches g c = same_touches (bytes_eq c.args.name.now) _ _ c.size.ensures.same
