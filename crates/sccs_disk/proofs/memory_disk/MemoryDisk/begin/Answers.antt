use Rattle.std.proofs.Common.{refl, arith}
use Rattle.sccs_disk.specs.DirectoryStates.{state_of}
use Rattle.sccs_disk.proofs.Counting.{noted_told, noted_state, noted_sane, noted_before, planned_at, planned_by}
use Rattle.sccs_disk.proofs.memory_disk.MemoryDisk.begin.Goals as goal

pub invariant_of-self : goal.invariant_of-self
invariant_of-self c =
    let old = c.args.self.now in
    record {
      current = noted_state (state_of old.start) (state_of old.directory) _ _ old.log.items _ c.note_call.ensures.items
          old.current;
      sane = noted_sane (state_of old.start) _ _ old.log.items _ c.note_call.ensures.items old.sane;
      firm = old.firm;
      recorded = c.note_call.ensures.recorded;
      fits = c.note_call.ensures.fits;
    }

pub returns-clause-plan : goal.returns-clause-plan
returns-clause-plan c =
    let old = c.args.self.now in
    record {
      planned = (
        λ e. planned_at old c.deref.result.now _ c.deref.ensures.value (c.must_fail-fails.ensures.0
            (c.answer_of.ensures.fails.0 e)),
        λ x. c.answer_of.ensures.fails.1 (c.must_fail-fails.ensures.1
            (planned_by old c.deref.result.now _ c.deref.ensures.value x)),
      );
      still = λ _. noted_told (state_of old.start) _ _ old.log.items _ c.note_call.ensures.items;
      call = c.one_more-call.ensures.value;
      before = λ k low. noted_before (state_of old.start) _ _ old.calls k old.log.items _ c.note_call.ensures.items
          c.one_more-call.ensures.value old.recorded (omega arith) low;
      plan = refl;
      room = refl;
      stop = refl;
    }

pub returns-clause-same : goal.returns-clause-same
returns-clause-same c =
    let old = c.args.self.now in noted_told (state_of old.start) _ _ old.log.items _ c.note_call.ensures.items
