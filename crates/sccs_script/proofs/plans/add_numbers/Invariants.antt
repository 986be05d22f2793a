use Rattle.std.proofs.Common.{◌≡◌, ◌-◌, ◌++◌}
use Rattle.sccs_script.specs.Drafts.{span}
use Rattle.sccs_script.proofs.plans.add_numbers.Given as goal

-- the numbers so far and those that are left are all
abbrev pub invariant-loop-number : goal.invariant-loop-number
invariant-loop-number l = l.numbers ++ span l.number (l.to - l.number) ≡ l.fn.numbers ++ span l.from (l.to - l.from)
