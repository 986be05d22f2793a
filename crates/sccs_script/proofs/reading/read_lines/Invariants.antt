use Rattle.std.proofs.Common.{◌≡◌, ◌+◌, ◌^◌, [], None, drop, IfSome}
use Rattle.std.specs.List.{AllByRecursion}
use Rattle.sccs_script.specs.Commands.{FitsIn, orders_from}
use Rattle.sccs_script.proofs.reading.read_lines.Given as goal

-- the orders so far, the open text and the lines that are left give what all lines give
abbrev pub invariant-loop-place : goal.invariant-loop-place
invariant-loop-place l = record {
  all : orders_from l.orders.items l.text l.place (drop l.place l.lines) ≡ orders_from [] None 0 l.lines;
  fits : AllByRecursion (FitsIn (2 ^ 64)) l.orders.items;
  text : IfSome l.text (FitsIn (l.place + 1));
}
