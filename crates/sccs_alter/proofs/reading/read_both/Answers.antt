use Rattle.std.proofs.lemmas.Result.{err_from_is_err_and}
use Rattle.std.proofs.Common.{refl, ap, ◌∙◌}
use Rattle.sccs_disk.specs.Told.{seen}
use Rattle.sccs_alter.proofs.ReadLaws.{file_ends, file_found, has_text, text_ends, there_ends}
use Rattle.sccs_alter.proofs.reading.read_both.Goals as goal

pub returns-in_err-check_there-clause-told : goal.returns-in_err-check_there-clause-told
returns-in_err-check_there-clause-told g c =
    let p = err_from_is_err_and c.from_residual.result c.from_residual.ensures.1 in
    rw (p.1, p.2) (there_ends c.args.words.now c.args.name.now (seen (g.D.Disk.told c.args.disk.now))
    c.in_err-check_there.field-0.0 c.in_err-check_there.ensures.told)

pub returns-in_err-text-clause-told : goal.returns-in_err-text-clause-told
returns-in_err-text-clause-told g c =
    let p = err_from_is_err_and c.from_residual-in_err-text.result c.from_residual-in_err-text.ensures.1 in
    rw (p.1, p.2) (text_ends c.args.words.now c.args.name.now (seen (g.D.Disk.told c.args.disk.now))
    (seen (g.D.Disk.told c.check_there.new.disk)) c.in_err-text.field-0.0
    (ap seen c.check_there.ensures.frame.same) c.in_ok-check_there.ensures.told c.in_err-text.ensures.told)

pub returns-clause-told : goal.returns-clause-told
returns-clause-told g c =
    file_found c.args.words.now c.args.name.now c.in_ok-text.text (seen (g.D.Disk.told c.args.disk.now))
    (seen (g.D.Disk.told c.read_text.new.disk)) c.in_ok-front.front _ refl refl
    (ap seen (c.read_text.ensures.frame.same ∙ c.check_there.ensures.frame.same))
    (has_text c.args.words.now c.args.name.now c.in_ok-text.text (seen (g.D.Disk.told c.args.disk.now))
    (seen (g.D.Disk.told c.check_there.new.disk)) (ap seen c.check_there.ensures.frame.same)
    c.in_ok-check_there.ensures.told c.in_ok-text.ensures.told) c.in_ok-front.ensures.told

pub returns-in_err-front-clause-told : goal.returns-in_err-front-clause-told
returns-in_err-front-clause-told g c =
    let p = err_from_is_err_and c.from_residual-in_err-front.result c.from_residual-in_err-front.ensures.1 in
    rw (p.1) (file_ends c.args.words.now c.args.name.now c.in_ok-text.text (seen (g.D.Disk.told c.args.disk.now))
    (seen (g.D.Disk.told c.read_text.new.disk)) c.in_err-front.field-0.0 p.0
    (ap seen (c.read_text.ensures.frame.same ∙ c.check_there.ensures.frame.same))
    (has_text c.args.words.now c.args.name.now c.in_ok-text.text (seen (g.D.Disk.told c.args.disk.now))
    (seen (g.D.Disk.told c.check_there.new.disk)) (ap seen c.check_there.ensures.frame.same)
    c.in_ok-check_there.ensures.told c.in_ok-text.ensures.told) p.2 c.in_err-front.ensures.told)
