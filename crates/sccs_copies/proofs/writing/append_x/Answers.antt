use Rattle.std.proofs.Common.{◌∙◌, IfOk, ap, subst}
use Rattle.sccs_disk.specs.Told.{seen}
use Rattle.sccs_table.specs.ReaderState.{bytes_in}
use Rattle.sccs_copies.specs.Copies.{AppendsFile, AppendsWhole, OfSomeBody}
use Rattle.sccs_copies.proofs.writing.append_x.Goals as goal

pub returns-clause-told : goal.returns-clause-told
returns-clause-told g c = λ file items is come.
    subst (λ n. AppendsWhole c.args.header.now items n (g.D.Disk.told c.args.disk.now)
    (g.D.Disk.told c.append_all.new.disk) c.append_all.result) c.sibling.ensures
    (c.append_all.ensures.told file items (ap (bytes_in (seen (g.D.Disk.told c.args.disk.now))) c.requires.own
    ∙ is) come)

pub returns-clause-whole : goal.returns-clause-whole
returns-clause-whole g c = λ live begun.
    subst (λ n. IfOk c.append_all.result (λ after. OfSomeBody g.F.BodyFilter.filter live c.args.copying.filter
    (λ items. AppendsFile c.args.header.now items n after (g.D.Disk.told c.args.disk.now)
    (g.D.Disk.told c.append_all.new.disk)))) c.sibling.ensures (c.append_all.ensures.whole live begun)
