use Rattle.std.proofs.Common.{codes}
use Rattle.sccs_val.specs.Reports.{bit_line}
use Rattle.sccs_val.proofs.JudgingLaws.{six_added}
use Rattle.sccs_val.proofs.reports.add_lines.Goals as goal

pub returns : goal.returns
returns c =
    let n = c.args.operand.now in
    let f = c.args.found.now in
    six_added c.add_line-6.result c.args.report.now.items
    (bit_line n f.corrupted (codes "corrupted SCCS file"))
    (bit_line n f.unopened (codes "cannot open file or file not SCCS")) (bit_line n f.invalid_sid
    (codes "SID is invalid or ambiguous"))
    (bit_line n f.missing_sid (codes "SID does not exist")) (bit_line n f.other_kind (codes "%Y%, -y mismatch"))
    (bit_line n f.other_module (codes "%M%, -m mismatch"))
    c.add_line.new.report.items c.add_line-2.new.report.items c.add_line-3.new.report.items
    c.add_line-4.new.report.items c.add_line-5.new.report.items c.add_line-6.new.report.items
    c.in_ok-add_line.ensures c.in_ok-add_line-2.ensures c.in_ok-add_line-3.ensures c.in_ok-add_line-4.ensures
    c.in_ok-add_line-5.ensures c.add_line-6.ensures
