use Rattle.std.proofs.Common.{◌≡◌, ◌+◌, ◌*◌, ◌^◌, ◌≤◌, drop}
use Rattle.sccs_script.specs.Checks.{ranged}
use Rattle.sccs_script.proofs.checks.check_numbers.Given as goal

-- the rest of the orders on the text so far is judged as all of them, and each order adds fewer than 2^64 lines
abbrev pub invariant-loop-order : goal.invariant-loop-order
invariant-loop-order l = record {
  all : ranged (drop l.order-index l.orders) l.length ≡ ranged l.orders l.lines;
  small : l.length ≤ (l.order-index + 1) * 2 ^ 64;
}
