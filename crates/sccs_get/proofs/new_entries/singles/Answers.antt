use Rattle.std.proofs.Common.{List, All, insert, ap, subst, sym, ◌∙◌}
use Rattle.sccs_sid.specs.SidLists.{IsRange}
use Rattle.sccs_sid.specs.declared.sid_lists.Range.{Range}
use Rattle.sccs_changes.proofs.EntryLaws.{all_with}
use Rattle.sccs_get.proofs.EditLaws.{live_at, single_added}
use Rattle.sccs_get.proofs.EntrySids.{sid_there}
use Rattle.sccs_get.proofs.new_entries.singles.Goals as goal
use Rattle.sccs_sets.specs.LiveIndexes.{single}

pub sid_of-sid-requires-clause-there : goal.sid_of-sid-requires-clause-there
sid_of-sid-requires-clause-there c = live_at c.args.records.now c.args.serials.now c.loop-serial.serial-index 0
    c.requires.live c.loop-serial-test.true

pub loop-serial-preserved : goal.loop-serial-preserved
loop-serial-preserved c = record {
  value = single_added c.args.records.now c.args.serials.now c.loop-serial.list c.insert.new.self
      c.loop-serial.serial-index 0 c.sid_of-sid.result c.loop-serial-test.true c.loop-serial.invariant.value
      c.sid_of-sid.ensures (c.in_ok-insert.ensures.ok
      ∙ ap (λ k. insert c.loop-serial.list k (single c.sid_of-sid.result)) c.len.ensures);
  valid = subst (λ (l : List Range). All IsRange l) (sym (c.in_ok-insert.ensures.ok
      ∙ ap (λ k. insert c.loop-serial.list k (single c.sid_of-sid.result)) c.len.ensures))
      (all_with IsRange c.loop-serial.list (single c.sid_of-sid.result) c.loop-serial.invariant.valid (
        sid_there c.args.records.now _ c.sid_of-sid.result c.requires.spelled c.sid_of-sid.ensures,
        sid_there c.args.records.now _ c.sid_of-sid.result c.requires.spelled c.sid_of-sid.ensures,
      ));
}
