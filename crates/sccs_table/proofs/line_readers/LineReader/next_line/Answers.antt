use Rattle.std.proofs.Common.{◌∙◌, true, false, ap, refl, rules, subst, sym}
use Rattle.sccs_disk.specs.Told.{seen}
use Rattle.sccs_table.specs.ReaderState.{Stays, bytes_in}
use Rattle.sccs_table.proofs.ReaderLaws.{line_taken, line_without, going_on_by, line_over, same_file, takes_at}
use Rattle.sccs_table.proofs.ReaderLaws.{filled_at, later_place, past_place, going_stays, gone_stays, line_stays}
use Rattle.sccs_table.proofs.ReaderLaws.{stays_on}
use Rattle.sccs_table.proofs.line_readers.LineReader.next_line.Goals as goal

pub returns-in-Ok-true-clause-told : goal.returns-in-Ok-true-clause-told
returns-in-Ok-true-clause-told g c =
    line_taken _ c.args.self.now c.pieces.self c.take_held.new.self c.pieces.line.items c.take_held.new.line.items
    c.pieces.invariant.going c.pieces.invariant.none (c.in-Ok-true.ensures.limit, c.in-Ok-true.ensures.sum)
    (takes_at c.pieces.self c.take_held.new.self c.pieces.line.items c.take_held.new.line.items c.in-Ok-true.field-0
    true c.in-Ok-true.field-0-test c.in-Ok-true.ensures.taken)

pub pieces-preserved : goal.pieces-preserved
pieces-preserved g c =
    let start = bytes_in (seen (g.D.Disk.told c.args.disk.now)) c.args.self.now.name in
    let here = bytes_in (seen (g.D.Disk.told c.pieces.disk)) c.take_held.new.self.name in
    let file_is = same_file _ _ _ _ (ap seen c.pieces.invariant.same) (c.in-Ok-false.ensures.name
    ∙ c.pieces.invariant.name) in
    let taken = takes_at c.pieces.self c.take_held.new.self c.pieces.line.items c.take_held.new.line.items
    c.in-Ok-false.field-0 false c.in-Ok-false.field-0-test c.in-Ok-false.ensures.taken in
    record {
      same = search rules;
      later = search rules;
      name = search rules;
      limit = search rules;
      ahead = search rules;
      moved = later_place c.pieces.self c.take_held.new.self c.pieces.line.items c.take_held.new.line.items _ _
          c.pieces.invariant.moved taken c.in-Ok-true-fill.ensures.place;
      none = line_without c.pieces.self c.take_held.new.self c.pieces.line.items c.take_held.new.line.items false
          c.pieces.invariant.none taken;
      going = going_on_by start here c.args.self.now c.pieces.self c.take_held.new.self c.fill.new.self
          c.pieces.line.items c.take_held.new.line.items true file_is c.pieces.invariant.going
          (c.in-Ok-false.ensures.limit, c.in-Ok-false.ensures.sum) taken
          (filled_at here c.take_held.new.self c.fill.new.self c.in-Ok-true-fill.field-0 true
          c.in-Ok-true-fill.field-0-test c.in-Ok-true-fill.ensures.told) c.in-Ok-true-fill.ensures.place;
    }

pub returns-in-Ok-false-fill-clause-told : goal.returns-in-Ok-false-fill-clause-told
returns-in-Ok-false-fill-clause-told g c =
    let start = bytes_in (seen (g.D.Disk.told c.args.disk.now)) c.args.self.now.name in
    let here = bytes_in (seen (g.D.Disk.told c.pieces.disk)) c.take_held.new.self.name in
    let file_is = same_file _ _ _ _ (ap seen c.pieces.invariant.same) (c.in-Ok-false.ensures.name
    ∙ c.pieces.invariant.name) in
    let taken = takes_at c.pieces.self c.take_held.new.self c.pieces.line.items c.take_held.new.line.items
    c.in-Ok-false.field-0 false c.in-Ok-false.field-0-test c.in-Ok-false.ensures.taken in
    line_over start here c.args.self.now c.pieces.self c.take_held.new.self c.fill.new.self c.pieces.line.items
    c.take_held.new.line.items file_is c.pieces.invariant.going c.pieces.invariant.none
    (c.in-Ok-false.ensures.limit, c.in-Ok-false.ensures.sum) taken
    (filled_at here c.take_held.new.self c.fill.new.self c.in-Ok-false-fill.field-0 false
    c.in-Ok-false-fill.field-0-test c.in-Ok-false-fill.ensures.told) c.in-Ok-false-fill.ensures.place

pub returns-in-Ok-true-clause-moved : goal.returns-in-Ok-true-clause-moved
returns-in-Ok-true-clause-moved g c = λ ended.
    past_place c.pieces.self c.take_held.new.self c.pieces.line.items c.take_held.new.line.items _
    c.pieces.invariant.moved (takes_at c.pieces.self c.take_held.new.self c.pieces.line.items
    c.take_held.new.line.items c.in-Ok-true.field-0 true c.in-Ok-true.field-0-test c.in-Ok-true.ensures.taken)

pub returns-in-Ok-true-clause-stays : goal.returns-in-Ok-true-clause-stays
returns-in-Ok-true-clause-stays g c =
    line_stays _ c.args.self.now c.take_held.new.self c.take_held.new.line.items true
    (line_taken _ c.args.self.now c.pieces.self c.take_held.new.self c.pieces.line.items c.take_held.new.line.items
    c.pieces.invariant.going c.pieces.invariant.none (c.in-Ok-true.ensures.limit, c.in-Ok-true.ensures.sum)
    (takes_at c.pieces.self c.take_held.new.self c.pieces.line.items c.take_held.new.line.items c.in-Ok-true.field-0
    true c.in-Ok-true.field-0-test c.in-Ok-true.ensures.taken))

pub returns-in-Err-clause-stays : goal.returns-in-Err-clause-stays
returns-in-Err-clause-stays g c =
    subst (λ s. Stays (bytes_in (seen (g.D.Disk.told c.args.disk.now)) c.args.self.now.name) c.args.self.now s)
    (sym c.in-Err.ensures.kept) (going_stays _ c.args.self.now c.pieces.self c.pieces.line.items
    c.pieces.invariant.going)

pub returns-in-Ok-false-fill-clause-stays : goal.returns-in-Ok-false-fill-clause-stays
returns-in-Ok-false-fill-clause-stays g c =
    let file_is = same_file _ _ _ _ (ap seen c.pieces.invariant.same) (c.in-Ok-false.ensures.name
    ∙ c.pieces.invariant.name) in
    let taken = takes_at c.pieces.self c.take_held.new.self c.pieces.line.items c.take_held.new.line.items
    c.in-Ok-false.field-0 false c.in-Ok-false.field-0-test c.in-Ok-false.ensures.taken in
    let gone = stays_on (bytes_in (seen (g.D.Disk.told c.args.disk.now)) c.args.self.now.name) _ c.args.self.now
    c.pieces.self c.take_held.new.self refl (going_stays _ c.args.self.now c.pieces.self c.pieces.line.items
    c.pieces.invariant.going) (gone_stays _ c.pieces.self c.take_held.new.self c.pieces.line.items
    c.take_held.new.line.items (c.in-Ok-false.ensures.limit, c.in-Ok-false.ensures.sum) taken) in
    stays_on (bytes_in (seen (g.D.Disk.told c.args.disk.now)) c.args.self.now.name)
    (bytes_in (seen (g.D.Disk.told c.pieces.disk)) c.take_held.new.self.name) c.args.self.now c.take_held.new.self
    c.fill.new.self file_is gone c.in-Ok-false-fill.ensures.stays

pub returns-in-Err-fill-clause-stays : goal.returns-in-Err-fill-clause-stays
returns-in-Err-fill-clause-stays g c =
    let file_is = same_file _ _ _ _ (ap seen c.pieces.invariant.same) (c.in-Ok-false.ensures.name
    ∙ c.pieces.invariant.name) in
    let taken = takes_at c.pieces.self c.take_held.new.self c.pieces.line.items c.take_held.new.line.items
    c.in-Ok-false.field-0 false c.in-Ok-false.field-0-test c.in-Ok-false.ensures.taken in
    let gone = stays_on (bytes_in (seen (g.D.Disk.told c.args.disk.now)) c.args.self.now.name) _ c.args.self.now
    c.pieces.self c.take_held.new.self refl (going_stays _ c.args.self.now c.pieces.self c.pieces.line.items
    c.pieces.invariant.going) (gone_stays _ c.pieces.self c.take_held.new.self c.pieces.line.items
    c.take_held.new.line.items (c.in-Ok-false.ensures.limit, c.in-Ok-false.ensures.sum) taken) in
    stays_on (bytes_in (seen (g.D.Disk.told c.args.disk.now)) c.args.self.now.name)
    (bytes_in (seen (g.D.Disk.told c.pieces.disk)) c.take_held.new.self.name) c.args.self.now c.take_held.new.self
    c.fill.new.self file_is gone c.in-Err-fill.ensures.stays

pub returns-in-Ok-false-fill-clause-line : goal.returns-in-Ok-false-fill-clause-line
returns-in-Ok-false-fill-clause-line g c =
    line_without c.pieces.self c.take_held.new.self c.pieces.line.items c.take_held.new.line.items false
    c.pieces.invariant.none (takes_at c.pieces.self c.take_held.new.self c.pieces.line.items
    c.take_held.new.line.items c.in-Ok-false.field-0 false c.in-Ok-false.field-0-test c.in-Ok-false.ensures.taken)

pub returns-in-Ok-true-clause-line : goal.returns-in-Ok-true-clause-line
returns-in-Ok-true-clause-line g c = line_without c.pieces.self c.take_held.new.self c.pieces.line.items
    c.take_held.new.line.items c.in-Ok-true.field-0 c.pieces.invariant.none c.in-Ok-true.ensures.taken
