use Rattle.sccs_new_files.specs.Writing.{body_bytes}
use Rattle.sccs_writers.proofs.OneFile.{only_both}
use Rattle.sccs_new_files.proofs.WritingLaws.{both_appended, both_summed}
use Rattle.sccs_new_files.proofs.writing.append_all.Goals as goal

pub returns-clause-appends : goal.returns-clause-appends
returns-clause-appends g c = both_appended c.args.header.now (body_bytes (g.B.NewBody.items c.args.body.now))
    c.args.name.now _ _ _ _ _ _ _ _ c.write_header.result c.in_ok-write_header.field-0 c.append_body.result
    c.in_ok-write_header.was c.write_header.ensures c.append_body.ensures

pub returns-clause-sum : goal.returns-clause-sum
returns-clause-sum g c = both_summed c.args.header.now (body_bytes (g.B.NewBody.items c.args.body.now)) c.args.name.now
    _ _ _ _ _ _ _ _ c.write_header.result c.in_ok-write_header.field-0 c.append_body.result c.in_ok-write_header.was
    c.new-sum.ensures c.write_header.ensures c.append_body.ensures

pub returns-clause-only : goal.returns-clause-only
returns-clause-only g c = only_both c.args.name.now _ (g.D.Disk.told c.write_header.new.disk) _
    c.write_header.ensures.only c.append_body.ensures.only
