use Rattle.std.proofs.Common.{List, arith, ap, refl, sym, subst, ◌∙◌}
use Rattle.std.proofs.lemmas.List.{drop_all, take_all}
use Rattle.std.specs.List.{AllByRecursion}
use Rattle.sccs_disk.specs.Told.{seen}
use Rattle.sccs_name_files.specs.Touches.{TouchesOnly}
use Rattle.sccs_store.proofs.Working.{same_touches}
use Rattle.sccs_group_command.specs.GroupStep.{names_of}
use Rattle.sccs_group_command.specs.Preparing.{AreFirm, Between, CouldCome, GivesAllBack, IsNamed, LosesOfSound}
use Rattle.sccs_group_command.specs.Preparing.{is_any_left, made_names}
use Rattle.sccs_group_command.proofs.Firms.{firm_added, touches_back, touches_next}
use Rattle.sccs_group_command.proofs.Losing.{loses_back, loses_next, same_loses}
use Rattle.sccs_group_command.specs.declared.prepared_entries.PreparedEntry.{PreparedEntry}
use Rattle.sccs_group_command.proofs.Backs.{added_at, given_up_at}
use Rattle.sccs_group_command.proofs.SoFars.{SoFar, all_prepared, none_yet}
use Rattle.sccs_group_command.proofs.Turns.{front_at, given_up_causes, item_at, named_added, names_added, names_whole}
use Rattle.sccs_group_command.proofs.Speaking.{could_back_all, could_next}
use Rattle.sccs_group_command.proofs.preparing.prepare_all.Goals as goal
use Rattle.sccs_changes.specs.Utilities.{is_sfile}

pub loop-entry-init : goal.loop-entry-init
loop-entry-init g c = record {
  told = λ plain. subst (λ (made : List PreparedEntry). Between (SoFar c.args.stamp.now c.args.entries.now 0 made)
      (seen (g.D.Disk.told c.args.disk.now)) (seen (g.D.Disk.told c.args.disk.now))) (sym c.empty-made.ensures)
      (none_yet c.args.stamp.now c.args.entries.now _);
  names = ap made_names c.empty-made.ensures;
  named = subst (λ (made : List PreparedEntry). AllByRecursion IsNamed (made_names made)) (sym c.empty-made.ensures) tt;
  firm = subst (λ (made : List PreparedEntry). AreFirm made (g.D.Disk.told c.args.disk.now)
      (g.D.Disk.told c.args.disk.now)) (sym c.empty-made.ensures) tt;
  touches = same_touches (is_any_left (names_of c.args.entries.now)) _ _ refl;
  lose = λ plain. same_loses (names_of c.args.entries.now) _ _ refl;
  come = subst CouldCome (sym c.empty-made.ensures) tt;
  later = omega arith;
}

pub loop-entry-preserved : goal.loop-entry-preserved
loop-entry-preserved g c =
    let at = item_at c.args.entries.now c.loop-entry.entry-index c.entry-item.result c.loop-entry-test.true
    c.entry-item.is in
    let more = front_at c.args.entries.now c.loop-entry.entry-index c.entry-item.result c.loop-entry-test.true
    c.entry-item.is in
    let before = c.loop-entry.invariant.later in
    let now = c.add_entry.ensures.causes.later in
    record {
      told = λ plain. added_at c.args.stamp.now c.args.entries.now c.loop-entry.entry-index c.loop-entry.made
          c.add_entry.new.made c.entry-item.result _ _ _ _ (is_sfile c.entry-item.result.name) c.requires.different
          plain at more (c.loop-entry.invariant.told plain) c.in-Ok.ensures.told;
      names = names_added c.args.entries.now c.loop-entry.entry-index c.entry-item.result c.loop-entry.made
          c.add_entry.new.made _ _ c.in-Ok.ensures.added more c.loop-entry.invariant.names;
      named = named_added c.entry-item.result.name c.loop-entry.made c.add_entry.new.made _ _ c.in-Ok.ensures.added
          c.loop-entry.invariant.named;
      firm = firm_added c.args.entries.now c.loop-entry.entry-index c.entry-item.result c.loop-entry.made
          c.add_entry.new.made (is_any_left (names_of c.args.entries.now)) _ _ _ c.requires.different at
          c.loop-entry.invariant.names c.loop-entry.invariant.named c.loop-entry.invariant.touches
          c.add_entry.ensures.touches c.in-Ok.ensures.added c.loop-entry.invariant.firm;
      touches = touches_next c.args.entries.now c.loop-entry.entry-index c.entry-item.result _ _ _ at
          c.loop-entry.invariant.touches c.add_entry.ensures.touches;
      lose = λ plain. loses_next c.args.stamp.now c.args.entries.now c.loop-entry.entry-index c.loop-entry.made
          c.entry-item.result _ _ _ c.requires.different plain at (c.loop-entry.invariant.told plain)
          (c.loop-entry.invariant.lose plain) c.add_entry.ensures.before;
      come = could_next tt c.loop-entry.made c.add_entry.new.made c.in-Ok.ensures.speaks c.loop-entry.invariant.come;
      later = omega (arith, before, now);
    }

pub returns-clause-told : goal.returns-clause-told
returns-clause-told g c = λ plain. all_prepared c.args.stamp.now c.args.entries.now c.loop-entry.entry-index
    c.loop-entry.made _ _ (drop_all c.loop-entry.entry-index c.args.entries.now c.loop-entry-test.false)
    (take_all c.loop-entry.entry-index c.args.entries.now c.loop-entry-test.false) (c.loop-entry.invariant.told plain)

pub returns-clause-made : goal.returns-clause-made
returns-clause-made g c =
    record {
      names_are = names_whole c.args.entries.now c.loop-entry.entry-index _ c.loop-entry-test.false
          c.loop-entry.invariant.names;
      named = c.loop-entry.invariant.named;
      firm = c.loop-entry.invariant.firm;
    }

pub returns-clause-touches : goal.returns-clause-touches
returns-clause-touches g c = c.loop-entry.invariant.touches

pub returns-in-Err-clause-touches : goal.returns-in-Err-clause-touches
returns-in-Err-clause-touches g c =
    let at = item_at c.args.entries.now c.loop-entry.entry-index c.entry-item.result c.loop-entry-test.true
    c.entry-item.is in
    touches_back c.args.entries.now c.loop-entry.entry-index c.entry-item.result (made_names c.loop-entry.made) _ _
    (g.D.Disk.told c.add_entry.new.disk) _ at c.loop-entry.invariant.names c.loop-entry.invariant.touches
    c.add_entry.ensures.touches
    (subst (λ (l : List PreparedEntry). TouchesOnly (is_any_left (made_names l)) (g.D.Disk.told c.add_entry.new.disk)
    (g.D.Disk.told c.abandon_all-fault.new.disk)) (c.items.ensures ∙ c.in-Err.ensures.same)
    c.abandon_all-fault.ensures.touches)

pub abandon_all-fault-requires : goal.abandon_all-fault-requires
abandon_all-fault-requires g c =
    subst (λ (l : List PreparedEntry). AllByRecursion IsNamed (made_names l))
    (sym (c.items.ensures ∙ c.in-Err.ensures.same)) c.loop-entry.invariant.named

pub returns-in-Err-clause-told : goal.returns-in-Err-clause-told
returns-in-Err-clause-told g c = λ plain.
    let at = item_at c.args.entries.now c.loop-entry.entry-index c.entry-item.result c.loop-entry-test.true
    c.entry-item.is in
    given_up_at c.args.stamp.now c.args.entries.now c.loop-entry.entry-index c.loop-entry.made c.add_entry.new.made
    c.entry-item.result c.in-Err.fault c.abandon_all-fault.result _ _ _ _ (is_sfile c.entry-item.result.name)
    c.requires.different plain at (c.loop-entry.invariant.told plain) c.in-Err.ensures.told
    (subst (λ (l : List PreparedEntry). GivesAllBack c.abandon_all-fault.result c.in-Err.fault (made_names l)
    (seen (g.D.Disk.told c.add_entry.new.disk)) (seen (g.D.Disk.told c.abandon_all-fault.new.disk)))
    (c.items.ensures ∙ c.in-Err.ensures.same) c.abandon_all-fault.ensures.gives_back)

pub returns-in-Err-clause-causes : goal.returns-in-Err-clause-causes
returns-in-Err-clause-causes g c =
    given_up_causes g.D.Disk.faults _ _ c.add_entry.new.disk _ c.add_entry.result c.in-Err.fault
    c.abandon_all-fault.result c.entry-item.result.name _ _ _ _ c.loop-entry.invariant.later c.in-Err.is
    c.add_entry.ensures.causes c.abandon_all-fault.ensures.later c.abandon_all-fault.ensures.cause
    c.abandon_all-fault.ensures.gives_back refl

pub returns-clause-before : goal.returns-clause-before
returns-clause-before g c = c.loop-entry.invariant.lose

pub returns-in-Err-clause-before : goal.returns-in-Err-clause-before
returns-in-Err-clause-before g c = λ plain.
    let at = item_at c.args.entries.now c.loop-entry.entry-index c.entry-item.result c.loop-entry-test.true
    c.entry-item.is in
    loses_back c.args.stamp.now c.args.entries.now c.loop-entry.entry-index c.loop-entry.made c.entry-item.result _ _
    (g.D.Disk.told c.add_entry.new.disk) _ c.requires.different plain at (c.loop-entry.invariant.told plain)
    (c.loop-entry.invariant.lose plain) c.add_entry.ensures.before
    (subst (λ (l : List PreparedEntry). LosesOfSound (made_names l) (g.D.Disk.told c.add_entry.new.disk)
    (g.D.Disk.told c.abandon_all-fault.new.disk)) (c.items.ensures ∙ c.in-Err.ensures.same)
    c.abandon_all-fault.ensures.before)

pub returns-clause-speaks : goal.returns-clause-speaks
returns-clause-speaks g c = c.loop-entry.invariant.come

pub returns-in-Err-clause-speaks : goal.returns-in-Err-clause-speaks
returns-in-Err-clause-speaks g c = could_back_all c.abandon_all-fault.result c.in-Err.fault _ _ _
    c.abandon_all-fault.ensures.gives_back c.in-Err.ensures.speaks
