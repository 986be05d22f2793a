use Rattle.std.proofs.Common.{◌+◌, List, drop, sym, ap, ◌∙◌}
use Rattle.std.specs.List.{position}
use Rattle.sccs_sid.specs.SidLists.{begins}
use Rattle.sccs_script_laws.specs.declared.scripts.Order.{Order}
use Rattle.sccs_script.specs.Checks.{bare_soh, or_bad}
use Rattle.sccs_script.specs.Commands.{FitsIn}
use Rattle.sccs_script.proofs.Bare.{bare_at, fit_rest, numbered}
use Rattle.sccs_script.proofs.checks.check_texts.Goals as goal

pub returns-in-Some : goal.returns-in-Some
returns-in-Some c =
    let order : Order = c.order-item.result in
    let orders : List Order = c.args.orders.now in
    sym (sym c.loop-order.invariant.all
    ∙ (bare_at orders c.loop-order.order-index order c.bad_place.result c.loop-order-test.true c.order-item.is
    (c.bad_place.ensures ∙ ap (position (begins 1)) c.items.ensures)
    ∙ ap (λ p. or_bad (numbered order.line p) (bare_soh (drop (c.loop-order.order-index + 1) orders))) c.in-Some.is))

pub loop-order-preserved : goal.loop-order-preserved
loop-order-preserved c =
    let order : Order = c.order-item.result in
    let orders : List Order = c.args.orders.now in
    record {
      all =
          sym (ap (λ p. or_bad (numbered order.line p) (bare_soh (drop (c.loop-order.order-index + 1) orders)))
          c.in_default.is)
          ∙ (sym (bare_at orders c.loop-order.order-index order c.bad_place.result c.loop-order-test.true
          c.order-item.is (c.bad_place.ensures ∙ ap (position (begins 1)) c.items.ensures))
          ∙ c.loop-order.invariant.all);
      fits = (fit_rest (FitsIn 18446744073709551616) orders c.loop-order.order-index order c.loop-order-test.true
          c.order-item.is c.loop-order.invariant.fits).1;
    }
