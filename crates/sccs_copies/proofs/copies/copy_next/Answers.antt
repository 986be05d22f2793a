use Rattle.std.proofs.Common.{◌∙◌, ap}
use Rattle.sccs_disk.specs.Told.{seen}
use Rattle.sccs_table.specs.ReaderState.{bytes_in}
use Rattle.sccs_copies.proofs.ComingItems.{bytes_stay}
use Rattle.sccs_copies.proofs.CopyLaws.{next_left, some_both}
use Rattle.sccs_copies.proofs.TextRuns.{item_after, next_after}
use Rattle.sccs_copies.proofs.copies.copy_next.Goals as goal

pub returns-clause-puts : goal.returns-clause-puts
returns-clause-puts g c =
    some_both c.args.out.now c.copy_texts.new.out c.copy_item.new.out _ _ _ _ _ _ c.copy_texts.result
    c.in_ok-copy_texts.field-0
    c.copy_item.result c.in_ok-copy_texts.was c.copy_texts.ensures.puts c.copy_item.ensures.puts

pub returns-clause-goes : goal.returns-clause-goes
returns-clause-goes g c = λ live before behind stands.
    let p = c.in_ok-copy_texts.ensures.goes live before behind stands in
    item_after g.F.BodyFilter.filter live before c.args.copying.now c.copy_texts.new.copying c.copy_item.new.copying
    c.args.out.now c.copy_texts.new.out c.copy_item.new.out _ _ _ c.copy_item.result p
    (c.copy_item.ensures.goes live p.some.after p.behind p.some.put.filters.behind)

pub returns-clause-told : goal.returns-clause-told
returns-clause-told g c = λ file items is come.
    let here = ap (bytes_in (seen (g.D.Disk.told c.copy_texts.new.disk))) c.copy_texts.ensures.read
    ∙ bytes_stay c.args.out.now.name _ file _ _ c.requires.apart c.copy_texts.ensures.puts.only.view is in
    let p = c.in_ok-copy_texts.ensures.told file items come in
    next_after g.F.BodyFilter.filter file items c.args.copying.now c.copy_texts.new.copying c.copy_item.new.copying
    c.args.out.now c.copy_texts.new.out c.copy_item.new.out _ _ _ c.copy_item.result p
    (c.copy_item.ensures.told file p.rest here p.on)

pub returns-in_err-copy_texts-clause-told : goal.returns-in_err-copy_texts-clause-told
returns-in_err-copy_texts-clause-told g c = λ file items is come.
    next_left g.F.BodyFilter.filter file items c.args.copying.now c.copy_texts.new.copying c.args.out.now
    c.copy_texts.new.out (g.D.Disk.told c.args.disk.now) (g.D.Disk.told c.copy_texts.new.disk)
    c.in_err-copy_texts.field-0.0 c.from_residual.result c.from_residual.ensures.1
    (c.in_err-copy_texts.ensures.told file items come)
