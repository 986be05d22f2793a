use Rattle.std.proofs.Common.{◌∙◌, false, ap, rules}
use Rattle.sccs_disk.specs.Told.{seen}
use Rattle.sccs_table.specs.ReaderState.{bytes_in}
use Rattle.sccs_table.proofs.ReaderLaws.{summing_on, summing_end, same_file, filled_at}
use Rattle.sccs_table.proofs.line_readers.LineReader.sum_left.Goals as goal

pub returns-then-not-branch-clause-told : goal.returns-then-not-branch-clause-told
returns-then-not-branch-clause-told g c =
    let start = bytes_in (seen (g.D.Disk.told c.args.disk.now)) c.args.self.now.name in
    let here = bytes_in (seen (g.D.Disk.told c.pieces.disk)) c.add_held.new.self.name in
    let file_is = same_file _ _ _ _ (ap seen c.pieces.invariant.same) (c.add_held.ensures.name
    ∙ c.pieces.invariant.name) in
    summing_end start here c.args.self.now c.pieces.self c.add_held.new.self c.fill.new.self c.pieces.sum
    c.add_held.new.sum file_is c.pieces.invariant.summing (c.add_held.ensures.limit, c.add_held.ensures.kept)
    c.add_held.ensures.held c.add_held.ensures.place c.add_held.ensures.sum
    (filled_at here c.add_held.new.self c.fill.new.self c.in_ok-fill.field-0 false c.if-not-branch.true
    c.in_ok-fill.ensures.told) c.in_ok-fill.ensures.place

pub pieces-preserved : goal.pieces-preserved
pieces-preserved g c =
    let start = bytes_in (seen (g.D.Disk.told c.args.disk.now)) c.args.self.now.name in
    let here = bytes_in (seen (g.D.Disk.told c.pieces.disk)) c.add_held.new.self.name in
    let file_is = same_file _ _ _ _ (ap seen c.pieces.invariant.same) (c.add_held.ensures.name
    ∙ c.pieces.invariant.name) in
    record {
      same = search rules;
      later = search rules;
      name = search rules;
      ahead = search rules;
      summing = summing_on start here c.args.self.now c.pieces.self c.add_held.new.self c.fill.new.self c.pieces.sum
          c.add_held.new.sum c.in_ok-fill.field-0 file_is c.pieces.invariant.summing (
            c.add_held.ensures.limit,
            c.add_held.ensures.kept,
          ) c.add_held.ensures.held c.add_held.ensures.place c.add_held.ensures.sum
          c.in_ok-fill.ensures.told c.in_ok-fill.ensures.place;
    }
