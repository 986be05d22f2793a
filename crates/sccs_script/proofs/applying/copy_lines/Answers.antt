use Rattle.std.proofs.Common.{◌∷◌, ◌++◌, [], ap, ◌∙◌, arith}
use Rattle.sccs_script.proofs.PlanLaws.{copy_next}
use Rattle.sccs_script.proofs.applying.copy_lines.Goals as goal

pub loop-place-preserved : goal.loop-place-preserved
loop-place-preserved c =
    copy_next c.args.text.now c.loop-place.lines c.push.new.self c.loop-place.place c.args.last c.at.result.now
    (omega (arith, c.loop-place-test.true, c.requires.there)) c.at.ensures c.loop-place-test.true
    (c.in_ok-push.ensures.ok ∙ ap (λ l. c.loop-place.lines ++ l ∷ []) c.in_ok-line.ensures)
    ∙ c.loop-place.invariant
