use Rattle.std.proofs.Common.{refl, rules}
use Rattle.sccs_table.proofs.line_readers.LineReader.new.Goals as goal

pub invariant_of-result : goal.invariant_of-result
invariant_of-result c = record {
  order = search rules;
  within = search rules;
  ahead = search rules;
  limit = search rules;
  marks = c.new-marks.ensures _ refl;
  whole = search rules;
  rest = search rules;
}
