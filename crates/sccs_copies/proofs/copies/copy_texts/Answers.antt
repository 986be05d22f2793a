use Rattle.std.proofs.Common.{length, refl}
use Rattle.sccs_copies.proofs.BodyLaws.{on_none}
use Rattle.sccs_copies.proofs.CopyLaws.{copies_none, some_none}
use Rattle.sccs_copies.proofs.TextRuns.{copies_texts, on_texts}
use Rattle.sccs_copies.proofs.copies.copy_texts.Goals as goal

pub returns-in_default-clause-puts : goal.returns-in_default-clause-puts
returns-in_default-clause-puts g c = some_none c.args.out.now (g.D.Disk.told c.args.disk.now)
    (g.D.Disk.faults c.args.disk.now)

pub returns-in_default-clause-goes : goal.returns-in_default-clause-goes
returns-in_default-clause-goes g c = λ live before behind stands. on_none g.F.BodyFilter.filter live before
    c.args.copying.now c.args.out.now (g.D.Disk.told c.args.disk.now) behind stands

pub returns-in_default-clause-told : goal.returns-in_default-clause-told
returns-in_default-clause-told g c = λ file items come. copies_none g.F.BodyFilter.filter file items c.args.copying.now
    c.args.out.now (g.D.Disk.told c.args.disk.now) come

pub returns-clause-goes : goal.returns-clause-goes
returns-clause-goes g c = λ live before behind stands.
    on_texts g.F.BodyFilter.filter live before c.args.copying.now
    (record { items = c.pass.new.self; filter = c.args.copying.now.filter; line = c.saturating_add-copying.result })
    c.pass.new.self (length c.texts-texts.result.now) c.texts-texts.result.now c.in-Some.wanted
    c.args.out.now c.put_texts.new.out _ _ _ _ c.put_texts.result c.in-Ok.field-0 c.in-Ok.is c.texts-texts.ensures.value
    c.texts-texts.ensures.may c.in-Some.ensures c.put_texts.ensures refl refl (c.pass.ensures.behind live before)
    behind stands

pub returns-clause-told : goal.returns-clause-told
returns-clause-told g c = λ file items come.
    copies_texts g.F.BodyFilter.filter file items c.args.copying.now
    (record { items = c.pass.new.self; filter = c.args.copying.now.filter; line = c.saturating_add-copying.result })
    c.pass.new.self (length c.texts-texts.result.now) c.texts-texts.result.now c.in-Some.wanted
    c.args.out.now c.put_texts.new.out _ _ _ _ c.put_texts.result c.in-Ok.field-0 c.in-Ok.is c.texts-texts.ensures.value
    c.texts-texts.ensures.may c.in-Some.ensures c.put_texts.ensures refl refl (c.pass.ensures.told file) come
