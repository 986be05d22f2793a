use Rattle.std.proofs.Common.{Ok, subst, sym}
use Rattle.sccs_disk.specs.Told.{seen}
use Rattle.sccs_alter.proofs.ReadLaws.{TextIs, bare_text, no_text}
use Rattle.sccs_alter.proofs.reading.read_text.Goals as goal

pub returns-in-No-clause-told : goal.returns-in-No-clause-told
returns-in-No-clause-told g c =
    subst (λ given. TextIs given c.args.name.now (seen (g.D.Disk.told c.args.disk.now)) (Ok c.empty.result))
    (sym c.in-No.is) (no_text c.args.name.now c.empty.result (seen (g.D.Disk.told c.args.disk.now)) c.empty.ensures)

pub returns-in-Bare-clause-told : goal.returns-in-Bare-clause-told
returns-in-Bare-clause-told g c =
    subst (λ given. TextIs given c.args.name.now (seen (g.D.Disk.told c.args.disk.now)) (Ok c.empty-in-Bare.result))
    (sym c.in-Bare.is) (bare_text c.args.name.now c.empty-in-Bare.result (seen (g.D.Disk.told c.args.disk.now))
    c.empty-in-Bare.ensures)
