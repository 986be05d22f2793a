use Rattle.std.proofs.Common.{Ok, [], ◌∷◌, ◌+◌, sym, subst}
use Rattle.std.proofs.lemmas.Result.{err_from_is_err_and}
use Rattle.sccs_base.specs.Stream.{Buffers}
use Rattle.sccs_disk.specs.Told.{Told}
use Rattle.sccs_keywords.specs.Forms.{formed_lines}
use Rattle.sccs_versions.specs.Coming.{GivesNextLine}
use Rattle.sccs_versions.specs.declared.readers.Next.{Next}
use Rattle.sccs_versions.specs.WasRead.{ReadsNext}
use Rattle.sccs_printing.specs.Giving.{CutsLines, Gave, Moved, ReadSome, ReadWhole, giving_form}
use Rattle.sccs_printing.specs.Targets.{Cuts, file_of, target_bytes, held_back}
use Rattle.sccs_printing.proofs.GivingLaws.{end_read, fault_cut, hidden_read, moved_none, next_cut, next_given}
use Rattle.sccs_printing.proofs.GivingLaws.{none_next, some_read}
use Rattle.sccs_printing.proofs.givings.give_next.Goals as goal

pub returns-in-Ok-clause-gives : goal.returns-in-Ok-clause-gives
returns-in-Ok-clause-gives g c = λ file lines told p.
    let target = c.args.giving.now.target in
    let b = target_bytes (file_of target) (g.O.Sink.given c.give_line.new.out) (g.D.Disk.told c.give_line.new.disk) in
    next_given file c.next.new.self c.in-Line.line c.inserter.result lines c.args.giving.now c.give_line.new.self _ b
    c.inserter.ensures
    (subst (λ (n : Next). GivesNextLine file c.next.new.self lines (Ok n)) c.in-Line.is
    (c.in_ok-line.ensures.told file lines told p))
    (subst (λ (t : Told). Buffers (held_back target) (formed_lines (giving_form c.args.giving.now)
    c.args.giving.now.sids (c.args.giving.now.shown.lines + 1) c.inserter.result (c.in-Line.line ∷ []))
    (held_back c.give_line.new.self.target) (target_bytes (file_of target) (g.O.Sink.given c.args.out.now) t) b)
    c.in_ok-line.ensures.frame.same c.in-Ok.ensures.gives) c.in-Ok.ensures.shown

pub returns-in-Ok-clause-read : goal.returns-in-Ok-clause-read
returns-in-Ok-clause-read g c = λ live before h.
    let target = c.args.giving.now.target in
    let b = target_bytes (file_of target) (g.O.Sink.given c.give_line.new.out) (g.D.Disk.told c.give_line.new.disk) in
    some_read live c.next.new.self c.next.new.self.regions before c.inserter.result (c.in-Line.line ∷ [])
    c.args.giving.now c.give_line.new.self _ b c.inserter.ensures
    (subst (λ (n : Next). ReadsNext live c.next.new.self before (Ok n)) c.in-Line.is
    (c.in_ok-line.ensures.read live before h))
    (subst (λ (t : Told). Buffers (held_back target) (formed_lines (giving_form c.args.giving.now)
    c.args.giving.now.sids (c.args.giving.now.shown.lines + 1) c.inserter.result (c.in-Line.line ∷ []))
    (held_back c.give_line.new.self.target) (target_bytes (file_of target) (g.O.Sink.given c.args.out.now) t) b)
    c.in_ok-line.ensures.frame.same c.in-Ok.ensures.gives) c.in-Ok.ensures.shown

pub returns-in-Line-clause-gives : goal.returns-in-Line-clause-gives
returns-in-Line-clause-gives g c = λ file lines told p.
    let target = c.args.giving.now.target in
    let b = target_bytes (file_of target) (g.O.Sink.given c.give_line.new.out) (g.D.Disk.told c.give_line.new.disk) in
    next_cut file c.next.new.self c.in-Line.line c.inserter.result lines c.in-Err.fault c.args.giving.now
    c.give_line.new.self _ b c.inserter.ensures
    (subst (λ (n : Next). GivesNextLine file c.next.new.self lines (Ok n)) c.in-Line.is
    (c.in_ok-line.ensures.told file lines told p))
    (subst (λ (t : Told). Cuts (file_of target) (formed_lines (giving_form c.args.giving.now) c.args.giving.now.sids
    (c.args.giving.now.shown.lines + 1) c.inserter.result (c.in-Line.line ∷ [])) c.in-Err.fault
    (held_back target) (held_back c.give_line.new.self.target) (target_bytes (file_of target)
    (g.O.Sink.given c.args.out.now) t) b) c.in_ok-line.ensures.frame.same c.in-Err.ensures.gives)

pub returns-in-Hidden-clause-gives : goal.returns-in-Hidden-clause-gives
returns-in-Hidden-clause-gives g c = λ file lines told p.
    let to = target_bytes (file_of c.args.giving.now.target) (g.O.Sink.given c.args.out.now) in
    subst (λ (t : Told). Moved file c.next.new.self lines c.args.giving.now c.args.giving.now
    (to (g.D.Disk.told c.args.disk.now)) (to t)) (sym c.in_ok-line.ensures.frame.same)
    (moved_none file c.next.new.self lines c.args.giving.now (to (g.D.Disk.told c.args.disk.now))
    (subst (λ (n : Next). GivesNextLine file c.next.new.self lines (Ok n)) c.in-Hidden.is
    (c.in_ok-line.ensures.told file lines told p)))

pub returns-in-Hidden-clause-read : goal.returns-in-Hidden-clause-read
returns-in-Hidden-clause-read g c = λ live before h.
    let to = target_bytes (file_of c.args.giving.now.target) (g.O.Sink.given c.args.out.now) in
    subst (λ (t : Told). ReadSome live c.next.new.self before c.args.giving.now c.args.giving.now
    (to (g.D.Disk.told c.args.disk.now)) (to t)) (sym c.in_ok-line.ensures.frame.same)
    (hidden_read live c.next.new.self c.next.new.self.regions before c.args.giving.now
    (to (g.D.Disk.told c.args.disk.now)) (subst (λ (n : Next). ReadsNext live c.next.new.self before (Ok n))
    c.in-Hidden.is (c.in_ok-line.ensures.read live before h)))

pub returns-clause-gives : goal.returns-clause-gives
returns-clause-gives g c = λ file lines told p.
    let to = target_bytes (file_of c.args.giving.now.target) (g.O.Sink.given c.args.out.now) in
    subst (λ (t : Told). Gave lines c.args.giving.now c.args.giving.now (to (g.D.Disk.told c.args.disk.now)) (to t))
    (sym c.in_ok-line.ensures.frame.same)
    (none_next lines c.args.giving.now (to (g.D.Disk.told c.args.disk.now))
    (subst (λ (n : Next). GivesNextLine file c.next.new.self lines (Ok n)) c.in-End.is
    (c.in_ok-line.ensures.told file lines told p)))

pub returns-clause-read : goal.returns-clause-read
returns-clause-read g c = λ live before h.
    let to = target_bytes (file_of c.args.giving.now.target) (g.O.Sink.given c.args.out.now) in
    subst (λ (t : Told). ReadWhole live c.next.new.self.set before c.args.giving.now c.args.giving.now
    (to (g.D.Disk.told c.args.disk.now)) (to t)) (sym c.in_ok-line.ensures.frame.same)
    (end_read live c.next.new.self before c.args.giving.now (to (g.D.Disk.told c.args.disk.now))
    (subst (λ (n : Next). ReadsNext live c.next.new.self before (Ok n)) c.in-End.is
    (c.in_ok-line.ensures.read live before h)))

pub returns-in_err-line-clause-gives : goal.returns-in_err-line-clause-gives
returns-in_err-line-clause-gives g c =
    let e = err_from_is_err_and c.from_residual.result c.from_residual.ensures.1 in
    rw e.1 (λ file lines told p.
    let to = target_bytes (file_of c.args.giving.now.target) (g.O.Sink.given c.args.out.now) in
    subst (λ (t : Told). CutsLines lines e.0 c.args.giving.now c.args.giving.now
    (to (g.D.Disk.told c.args.disk.now)) (to t)) (sym c.in_err-line.ensures.frame.same)
    (fault_cut file c.next.new.self lines c.in_err-line.field-0.0 e.0 c.args.giving.now
    (to (g.D.Disk.told c.args.disk.now)) e.2 (c.in_err-line.ensures.told file lines told p)))
