use Rattle.std.proofs.Common.{◌≡◌, ◌^◌, drop}
use Rattle.std.specs.List.{AllByRecursion}
use Rattle.sccs_script.specs.Checks.{bare_soh}
use Rattle.sccs_script.specs.Commands.{FitsIn}
use Rattle.sccs_script.proofs.checks.check_texts.Given as goal

-- the texts of the rest of the orders are judged as all of them
abbrev pub invariant-loop-order : goal.invariant-loop-order
invariant-loop-order l = record {
  all : bare_soh (drop l.order-index l.orders) ≡ bare_soh l.orders;
  fits : AllByRecursion (FitsIn (2 ^ 64)) (drop l.order-index l.orders);
}
