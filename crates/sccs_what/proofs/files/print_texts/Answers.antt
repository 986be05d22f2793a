use Rattle.std.proofs.Common.{arith}
use Rattle.sccs_what.proofs.FileLaws.{causes_both, heading_given, heading_stopped}
use Rattle.sccs_what.proofs.files.print_texts.Goals as goal

pub returns-in_default-give_parts-clause-told : goal.returns-in_default-give_parts-clause-told
returns-in_default-give_parts-clause-told g c = λ bytes is size. heading_stopped c.args.first c.args.name.now
    c.bytes.result.now c.in-Ok.held bytes _ _ c.in-Ok.ensures c.bytes.ensures.value c.in_default-give_parts.ensures.err

pub returns-clause-told : goal.returns-clause-told
returns-clause-told g c = λ bytes is size.
    c.flush_after.ensures.prints c.args.first bytes c.args.name.now c.give_parts.new.self
    (g.O.Sink.given c.args.out.now) (g.O.Sink.given c.give_parts.new.out)
    (heading_given c.args.name.now c.bytes.result.now c.in-Ok.held c.give_parts.new.self _ _ c.in-Ok.ensures
    c.bytes.ensures.value c.in-Ok-give_parts.ensures.ok) (c.search_file-searched.ensures.told bytes is size)

pub returns-clause-causes : goal.returns-clause-causes
returns-clause-causes g c =
    causes_both c.flush_after.result _ (g.O.Sink.faults c.give_parts.new.out) _ (g.D.Disk.faults c.args.disk.now)
    (g.D.Disk.faults c.args.disk.now) _ c.in-Ok-give_parts.ensures.later (omega arith)
    (c.flush_after.ensures.causes (g.O.Sink.faults c.give_parts.new.out) (g.D.Disk.faults c.args.disk.now)
    (g.D.Disk.faults c.search_file-searched.new.disk) c.search_file-searched.ensures.causes)

pub returns-clause-checks : goal.returns-clause-checks
returns-clause-checks g c = λ refusal. c.flush_after.ensures.checks refusal
    (c.search_file-searched.ensures.checks refusal)
