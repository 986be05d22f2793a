use Rattle.std.proofs.Common.{refl}
use Rattle.sccs_copies.proofs.CheckLaws.{line_seen}
use Rattle.sccs_copies.proofs.result_checks.see_line.Goals as goal

pub returns-then-check-clause-sees : goal.returns-then-check-clause-sees
returns-then-check-clause-sees g c =
    line_seen _ c.args.line.now c.args.check.now (record c.args.check.now { keyword = c.sees_keyword-check.result })
    c.compare.new.check c.compare.result c.sees_keyword-check.result c.sees_keyword-check.ensures refl
    c.compare.ensures.keyword c.compare.ensures.compares c.compare.ensures.name c.compare.ensures.outer
    c.compare.ensures.told
