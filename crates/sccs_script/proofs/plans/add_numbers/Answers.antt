use Rattle.std.proofs.Common.{◌+◌, ◌-◌, ◌∷◌, ◌++◌, [], sym, ap, ◌∙◌, append_assoc}
use Rattle.sccs_script.specs.Drafts.{span}
use Rattle.sccs_script.proofs.PlanLaws.{span_next}
use Rattle.sccs_script.proofs.plans.add_numbers.Goals as goal

pub loop-number-preserved : goal.loop-number-preserved
loop-number-preserved c =
    ap (λ l. l ++ span (c.loop-number.number + 1) (c.args.to - (c.loop-number.number + 1))) c.in_ok-push.ensures.ok
    ∙ (append_assoc c.loop-number.numbers (c.loop-number.number ∷ []) (span (c.loop-number.number + 1)
    (c.args.to - (c.loop-number.number + 1)))
    ∙ (ap (λ l. c.loop-number.numbers ++ l) (sym (span_next c.loop-number.number c.args.to c.loop-number-test.true))
    ∙ c.loop-number.invariant))
