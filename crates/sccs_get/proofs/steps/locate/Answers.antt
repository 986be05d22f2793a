use Rattle.std.proofs.lemmas.Result.{err_from_is_err_and}
use Rattle.std.proofs.Common.{ap, ◌∙◌}
use Rattle.sccs_disk.specs.Told.{seen}
use Rattle.sccs_get.proofs.LocatedLaws.{all_located, file_ends, found_ends, g_ends, keywords_end}
use Rattle.sccs_get.proofs.steps.locate.Goals as goal

pub returns-in_err-front-clause-told : goal.returns-in_err-front-clause-told
returns-in_err-front-clause-told g c =
    let p = err_from_is_err_and c.from_residual.result c.from_residual.ensures.1 in
    rw (p.1) (file_ends c.args.get.now.words.now c.args.get.now.stamp.now c.args.get.now.place.now
    c.args.name.now (seen (g.D.Disk.told c.args.disk.now)) c.in_err-front.field-0.0 p.0 p.2
    c.in_err-front.ensures.told)

pub returns-in_err-found-clause-told : goal.returns-in_err-found-clause-told
returns-in_err-found-clause-told g c =
    let p = err_from_is_err_and c.from_residual-in_err-found.result c.from_residual-in_err-found.ensures.1 in
    rw (p.1, p.2) (found_ends c.args.get.now.words.now c.args.get.now.stamp.now c.args.get.now.place.now c.args.name.now
    (seen (g.D.Disk.told c.args.disk.now)) c.in_ok-front.front c.in_err-found.field-0.0 c.in_ok-front.ensures.told
    c.in_err-found.ensures.value)

pub returns-in_err-check_keywords-clause-told : goal.returns-in_err-check_keywords-clause-told
returns-in_err-check_keywords-clause-told g c =
    let p = err_from_is_err_and c.from_residual-in_err-check_keywords.result
    c.from_residual-in_err-check_keywords.ensures.1 in
    rw (p.1, p.2) (keywords_end c.args.get.now.words.now c.args.get.now.stamp.now c.args.get.now.place.now
    c.args.name.now (seen (g.D.Disk.told c.args.disk.now)) (seen (g.D.Disk.told c.inspect.new.disk)) c.in_ok-front.front
    c.in_ok-found.found c.in_err-check_keywords.field-0.0 (ap seen c.inspect.ensures.frame.same)
    c.in_ok-front.ensures.placed c.in_ok-found.ensures.no_zero c.in_ok-front.ensures.told c.in_ok-found.ensures.value
    c.in_err-check_keywords.ensures.told)

pub returns-in_err-check_g-clause-told : goal.returns-in_err-check_g-clause-told
returns-in_err-check_g-clause-told g c =
    let p = err_from_is_err_and c.from_residual-in_err-check_g.result c.from_residual-in_err-check_g.ensures.1 in
    rw (p.1, p.2) (g_ends c.args.get.now.words.now c.args.get.now.stamp.now c.args.get.now.place.now c.args.name.now
    (seen (g.D.Disk.told c.args.disk.now)) (seen (g.D.Disk.told c.inspect.new.disk))
    (seen (g.D.Disk.told c.check_keywords.new.disk)) c.in_ok-front.front c.in_ok-found.found c.in_err-check_g.field-0.0
    (ap seen c.inspect.ensures.frame.same) (ap seen (c.check_keywords.ensures.frame.same
    ∙ c.inspect.ensures.frame.same)) c.in_ok-front.ensures.placed c.in_ok-found.ensures.no_zero
    c.in_ok-front.ensures.told c.in_ok-found.ensures.value c.in_ok-check_keywords.ensures.told
    c.in_err-check_g.ensures.told)

pub returns-clause-told : goal.returns-clause-told
returns-clause-told g c =
    all_located c.args.get.now.words.now c.args.get.now.stamp.now c.args.get.now.place.now c.args.name.now
    (seen (g.D.Disk.told c.args.disk.now)) (seen (g.D.Disk.told c.inspect.new.disk))
    (seen (g.D.Disk.told c.check_keywords.new.disk)) c.in_ok-front.front c.in_ok-found.found
    (ap seen c.inspect.ensures.frame.same) (ap seen (c.check_keywords.ensures.frame.same
    ∙ c.inspect.ensures.frame.same)) c.in_ok-front.ensures.placed c.in_ok-found.ensures.no_zero
    c.in_ok-front.ensures.told c.in_ok-found.ensures.value c.in_ok-check_keywords.ensures.told
    c.in_ok-check_g.ensures.told
