use Rattle.std.proofs.Common.{arith}
use Rattle.sccs_table.proofs.CountLaws.{held_lines}
use Rattle.sccs_table.proofs.line_readers.LineReader.lines_held.Goals as goal

pub overflow_sub-result : goal.overflow_sub-result
overflow_sub-result c =
    omega (
      arith,
      c.lines_before.ensures,
      c.lines_before-before.ensures,
      held_lines c.args.self.now c.self.inside.name c.self.inside.piece c.self.inside.start c.self.inside.end
          c.self.inside.place c.self.inside.limit _ c.args.count c.self.view_is c.requires,
    )

pub returns : goal.returns
returns c =
    omega (
      arith,
      c.lines_before.ensures,
      c.lines_before-before.ensures,
      held_lines c.args.self.now c.self.inside.name c.self.inside.piece c.self.inside.start c.self.inside.end
          c.self.inside.place c.self.inside.limit _ c.args.count c.self.view_is c.requires,
    )
