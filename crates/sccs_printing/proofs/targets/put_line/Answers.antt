use Rattle.std.proofs.Common.{[], ◌∷◌}
use Rattle.sccs_printing.specs.Targets.{file_of, held_back, target_bytes}
use Rattle.sccs_printing.proofs.TargetLaws.{given_then}
use Rattle.sccs_printing.proofs.TurnLaws.{uses_both}
use Rattle.sccs_printing.proofs.targets.put_line.Goals as goal

pub returns-clause-frame : goal.returns-clause-frame
returns-clause-frame g c =
    uses_both c.in_ok-put.field-0 c.put-2.result (file_of c.args.target.now) (file_of c.put.new.target) g.O.Sink.given
    g.O.Sink.faults g.D.Disk.told g.D.Disk.faults c.args.out.now c.put.new.out c.put-2.new.out c.args.disk.now
    c.put.new.disk c.put-2.new.disk
    c.in_ok-put.ensures.file c.in_ok-put.ensures.frame c.put-2.ensures.frame

pub returns-clause-gives : goal.returns-clause-gives
returns-clause-gives g c =
    given_then (file_of c.args.target.now) (file_of c.put.new.target) c.put-2.result c.args.line.now (10 ∷ [])
    (held_back c.args.target.now) (held_back c.put.new.target) (held_back c.put-2.new.target)
    (target_bytes (file_of c.args.target.now) (g.O.Sink.given c.args.out.now) (g.D.Disk.told c.args.disk.now))
    (λ to. target_bytes to (g.O.Sink.given c.put.new.out) (g.D.Disk.told c.put.new.disk))
    (λ to. target_bytes to (g.O.Sink.given c.put-2.new.out) (g.D.Disk.told c.put-2.new.disk))
    c.in_ok-put.ensures.file c.in_ok-put.ensures.gives c.put-2.ensures.gives
