use Rattle.std.proofs.Common.{◌≡◌, arith, inl, refl}
use Rattle.sccs_sid.specs.declared.refusals.StepFault.TheVariants.{DiskFault}
use Rattle.sccs_store.proofs.Working.{same_touches}
use Rattle.sccs_group_command.specs.Preparing.{is_any_left, made_names}
use Rattle.sccs_group_command.proofs.Firms.{abandoned_touches}
use Rattle.sccs_group_command.proofs.Losing.{none_loses, picked_at, sound_next}
use Rattle.sccs_group_command.proofs.Turns.{back_done, back_on, cause_then, item_at, named_at}
use Rattle.sccs_group_command.proofs.preparing.abandon_all.Goals as goal

pub loop-entry-init : goal.loop-entry-init
loop-entry-init g c = record {
  back = λ r o all. all;
  touches = same_touches (is_any_left (made_names c.args.made.now))
      _ _ refl;
  lose = none_loses (made_names c.args.made.now) _;
  later = omega arith;
  cause = λ is. inl (is, refl);
}

pub give_up-fault-requires : goal.give_up-fault-requires
give_up-fault-requires g c = (named_at c.args.made.now c.loop-entry.entry-index c.entry-item.result _ c.requires
    (item_at c.args.made.now c.loop-entry.entry-index c.entry-item.result c.loop-entry-test.true c.entry-item.is)).1

pub loop-entry-preserved : goal.loop-entry-preserved
loop-entry-preserved g c =
    let at = item_at c.args.made.now c.loop-entry.entry-index c.entry-item.result c.loop-entry-test.true
    c.entry-item.is in
    let before = c.loop-entry.invariant.later in
    let now = c.give_up-fault.ensures.later in
    record {
      back = back_on c.args.made.now c.loop-entry.entry-index c.entry-item.result c.loop-entry.fault
          c.give_up-fault.result c.args.fault _ _ _ at c.give_up-fault.ensures.gives_back c.loop-entry.invariant.back;
      touches = abandoned_touches c.args.made.now c.loop-entry.entry-index c.entry-item.result _ _ _ at
          c.loop-entry.invariant.touches c.give_up-fault.ensures.touches;
      lose = sound_next c.args.made.now c.entry-item.result.name _ _ _
          (picked_at c.args.made.now c.loop-entry.entry-index c.entry-item.result _ at)
          (named_at c.args.made.now c.loop-entry.entry-index c.entry-item.result _ c.requires at).1
          c.loop-entry.invariant.lose c.give_up-fault.ensures.touches;
      later = omega (arith, before, now);
      cause = λ is. cause_then (c.args.fault ≡ DiskFault) (c.loop-entry.fault ≡ DiskFault) _ _ _ before
          c.loop-entry.invariant.cause (c.give_up-fault.ensures.cause is);
    }

pub returns-clause-gives_back : goal.returns-clause-gives_back
returns-clause-gives_back g c = c.loop-entry.invariant.back _ _ (back_done c.args.made.now c.loop-entry.entry-index _ _
    c.loop-entry-test.false)

pub returns-clause-later : goal.returns-clause-later
returns-clause-later g c = c.loop-entry.invariant.later

pub returns-clause-cause : goal.returns-clause-cause
returns-clause-cause g c = c.loop-entry.invariant.cause

pub returns-clause-before : goal.returns-clause-before
returns-clause-before g c = c.loop-entry.invariant.lose

pub returns-clause-touches : goal.returns-clause-touches
returns-clause-touches g c = c.loop-entry.invariant.touches
