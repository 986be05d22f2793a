use Rattle.std.proofs.Common.{arith, rules}
use Rattle.sccs_copies.proofs.CheckLaws.{more_left, none_left}
use Rattle.sccs_copies.proofs.result_checks.first_difference.Goals as goal

pub returns-then-branch-clause-told : goal.returns-then-branch-clause-told
returns-then-branch-clause-told g c = λ file rest is compares comes.
    more_left file c.next_line.new.line.items c.args.check.now c.next_line.new.check rest c.in_ok-next_line.field-0
    c.saturating_add.result (search rules) (c.in_ok-next_line.ensures.told file rest is comes.left)
    c.if-branch.true (omega (
      arith,
      c.saturating_add.ensures,
      c.in_ok-next_line.ensures.keeps.number,
      comes.few,
    ))

pub returns-clause-told : goal.returns-clause-told
returns-clause-told g c = λ file rest is compares comes.
    none_left file c.next_line.new.line.items c.args.check.now c.next_line.new.check rest c.in_ok-next_line.field-0
    (search rules) (c.in_ok-next_line.ensures.told file rest is comes.left) c.if-branch.false
