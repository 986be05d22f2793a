use Rattle.std.proofs.Common.{◌∙◌, ap, refl, rules}
use Rattle.sccs_disk.specs.Told.{seen}
use Rattle.sccs_table.specs.ReaderState.{bytes_in}
use Rattle.sccs_table.proofs.ReaderLaws.{emptied_stays, same_file, skipped_all, stays_on}
use Rattle.sccs_table.proofs.line_readers.LineReader.skip_to.Goals as goal

pub returns-in_err-fill_to-clause-stays : goal.returns-in_err-fill_to-clause-stays
returns-in_err-fill_to-clause-stays g c =
    let start = bytes_in (seen (g.D.Disk.told c.args.disk.now)) c.args.self.now.name in
    let here = bytes_in (seen (g.D.Disk.told c.pieces.disk)) c.let_go.new.self.name in
    let file_is = same_file _ _ _ _ (ap seen c.pieces.invariant.same) (c.let_go.ensures.name
    ∙ c.pieces.invariant.name) in
    let gone = stays_on start start c.args.self.now c.pieces.self c.let_go.new.self refl c.pieces.invariant.stays
    (emptied_stays start c.pieces.self c.let_go.new.self (c.let_go.ensures.limit, c.let_go.ensures.sum)
    c.let_go.ensures.held c.let_go.ensures.place) in
    stays_on start here c.args.self.now c.let_go.new.self c.fill_to.new.self file_is gone c.in_err-fill_to.ensures.stays

pub returns-then-not-branch-clause-stays : goal.returns-then-not-branch-clause-stays
returns-then-not-branch-clause-stays g c =
    let start = bytes_in (seen (g.D.Disk.told c.args.disk.now)) c.args.self.now.name in
    let here = bytes_in (seen (g.D.Disk.told c.pieces.disk)) c.let_go.new.self.name in
    let file_is = same_file _ _ _ _ (ap seen c.pieces.invariant.same) (c.let_go.ensures.name
    ∙ c.pieces.invariant.name) in
    let gone = stays_on start start c.args.self.now c.pieces.self c.let_go.new.self refl c.pieces.invariant.stays
    (emptied_stays start c.pieces.self c.let_go.new.self (c.let_go.ensures.limit, c.let_go.ensures.sum)
    c.let_go.ensures.held c.let_go.ensures.place) in
    stays_on start here c.args.self.now c.let_go.new.self c.fill_to.new.self file_is gone c.in_ok-fill_to.ensures.stays

pub returns-then-not-branch-clause-told : goal.returns-then-not-branch-clause-told
returns-then-not-branch-clause-told g c =
    let start = bytes_in (seen (g.D.Disk.told c.args.disk.now)) c.args.self.now.name in
    let here = bytes_in (seen (g.D.Disk.told c.pieces.disk)) c.let_go.new.self.name in
    let file_is = same_file _ _ _ _ (ap seen c.pieces.invariant.same) (c.let_go.ensures.name
    ∙ c.pieces.invariant.name) in
    let gone = stays_on start start c.args.self.now c.pieces.self c.let_go.new.self refl c.pieces.invariant.stays
    (emptied_stays start c.pieces.self c.let_go.new.self (c.let_go.ensures.limit, c.let_go.ensures.sum)
    c.let_go.ensures.held c.let_go.ensures.place) in
    skipped_all start here c.args.self.now c.let_go.new.self c.fill_to.new.self c.in_ok-fill_to.field-0 c.args.to
    file_is gone c.if-not-branch.true c.in_ok-fill_to.ensures.told

pub pieces-preserved : goal.pieces-preserved
pieces-preserved g c =
    let start = bytes_in (seen (g.D.Disk.told c.args.disk.now)) c.args.self.now.name in
    let here = bytes_in (seen (g.D.Disk.told c.pieces.disk)) c.let_go.new.self.name in
    let file_is = same_file _ _ _ _ (ap seen c.pieces.invariant.same) (c.let_go.ensures.name
    ∙ c.pieces.invariant.name) in
    let gone = stays_on start start c.args.self.now c.pieces.self c.let_go.new.self refl c.pieces.invariant.stays
    (emptied_stays start c.pieces.self c.let_go.new.self (c.let_go.ensures.limit, c.let_go.ensures.sum)
    c.let_go.ensures.held c.let_go.ensures.place) in
    record {
      same = search rules;
      later = search rules;
      name = search rules;
      limit = search rules;
      ahead = search rules;
      onward = search rules;
      bound = search rules;
      stays = stays_on start here c.args.self.now c.let_go.new.self c.fill_to.new.self file_is gone
          c.in_ok-fill_to.ensures.stays;
    }
