use Rattle.std.proofs.Common.{codes, subst, OnOk, ◌≡◌, ◌++◌}
use Rattle.sccs_val.specs.Reports.{has_bit, bit_line}
use Rattle.sccs_val.proofs.JudgingLaws.{two_added}
use Rattle.sccs_val.proofs.reports.add_faults.Goals as goal

pub returns : goal.returns
returns c =
    two_added c.add_line-2.result c.args.report.now.items (bit_line (codes "val") (has_bit c.args.fault 128)
    (codes "missing file argument")) (bit_line (codes "val") (has_bit c.args.fault 64)
    (codes "unknown or duplicate option")) c.add_line.new.report.items c.add_line-2.new.report.items
    (subst (λ said. c.add_line.new.report.items ≡ c.args.report.now.items ++ bit_line (codes "val") said
    (codes "missing file argument")) c.has_bit.ensures c.in_ok-add_line.ensures)
    (subst (λ said. OnOk c.add_line-2.result (c.add_line-2.new.report.items ≡ c.add_line.new.report.items ++ bit_line
    (codes "val") said (codes "unknown or duplicate option"))) c.has_bit-2.ensures c.add_line-2.ensures)
