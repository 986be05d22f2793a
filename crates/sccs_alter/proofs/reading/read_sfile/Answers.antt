use Rattle.std.proofs.Common.{subst, sym}
use Rattle.std.specs.Prelude.{IfSome}
use Rattle.sccs_disk.specs.Told.{seen}
use Rattle.sccs_table.specs.ReaderState.{file_in}
use Rattle.sccs_alter.specs.Parts.{AnswersRead}
use Rattle.sccs_alter.proofs.ReadLaws.{read_unsummed, read_whole}
use Rattle.sccs_alter.proofs.reading.read_sfile.Goals as goal

pub returns-then-fix-clause-told : goal.returns-then-fix-clause-told
returns-then-fix-clause-told g c =
    subst (λ fix. IfSome (seen (g.D.Disk.told c.args.disk.now)) (λ view. AnswersRead fix (file_in view c.args.name.now)
    c.inspect_any_sum.result)) (sym c.if-fix.true)
    (read_unsummed c.args.name.now (seen (g.D.Disk.told c.args.disk.now)) c.inspect_any_sum.result
    c.inspect_any_sum.ensures.told)

pub returns-else-fix-clause-told : goal.returns-else-fix-clause-told
returns-else-fix-clause-told g c =
    subst (λ fix. IfSome (seen (g.D.Disk.told c.args.disk.now)) (λ view. AnswersRead fix (file_in view c.args.name.now)
    c.inspect.result)) (sym c.if-fix.false)
    (read_whole c.args.name.now (seen (g.D.Disk.told c.args.disk.now)) c.inspect.result c.inspect.ensures.placed
    c.inspect.ensures.told)
