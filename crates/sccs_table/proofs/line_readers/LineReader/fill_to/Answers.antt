use Rattle.std.proofs.Common.{◌+◌, ◌-◌, ◌%◌, ◌∙◌, ◌++◌, List, ℕ, ap, drop, rules, sum, sym, take}
use Rattle.sccs_disk.specs.Told.{seen}
use Rattle.sccs_table.specs.SumOf.{IsPlainSumOf}
use Rattle.sccs_table.specs.ReaderState.{bytes_in}
use Rattle.sccs_table.proofs.ReaderLaws.{fill_told, filled_stays, sum_rest}
use Rattle.sccs_table.proofs.line_readers.LineReader.fill_to.Goals as goal

pub returns-clause-told : goal.returns-clause-told
returns-clause-told g c =
    let piece = c.read_piece-read.new.piece in
    let front_is = c.front_part.ensures ∙ ap (λ n. take n piece) c.saturating_sub-before.ensures in
    let added : (front : List ℕ) → IsPlainSumOf c.self.inside.sum front → IsPlainSumOf c.add_behind.new.self
    (front ++ drop (8 - c.self.inside.place) (take c.in_ok-count.count piece)) =
    λ front is. c.add_behind.ensures front (drop (8 - c.self.inside.place) (take c.in_ok-count.count piece))
    (sum_rest piece c.in_ok-count.count _ (8 - c.self.inside.place) c.read-total.result c.in_ok-count.ensures.rest
    c.read-total.ensures.sum
    ∙ ap (λ bytes. (sum bytes + sum (drop (8 - c.self.inside.place) (take c.in_ok-count.count piece))) % 65536)
    (sym front_is)) is in
    fill_told (seen (g.D.Disk.told c.args.disk.now)) c.args.self.now c.self.inside.name _ piece c.self.inside.place
    c.self.inside.limit c.self.inside.sum c.add_behind.new.self c.in_ok-count.count c.min-room.result c.args.to
    c.self.view_is c.requires.empty c.in_ok-count.ensures.within (search rules) c.requires.within added
    c.in_ok-count.ensures.told

pub returns-clause-stays : goal.returns-clause-stays
returns-clause-stays g c =
    let piece = c.read_piece-read.new.piece in
    let front_is = c.front_part.ensures ∙ ap (λ n. take n piece) c.saturating_sub-before.ensures in
    let added : (front : List ℕ) → IsPlainSumOf c.self.inside.sum front → IsPlainSumOf c.add_behind.new.self
    (front ++ drop (8 - c.self.inside.place) (take c.in_ok-count.count piece)) =
    λ front is. c.add_behind.ensures front (drop (8 - c.self.inside.place) (take c.in_ok-count.count piece))
    (sum_rest piece c.in_ok-count.count _ (8 - c.self.inside.place) c.read-total.result c.in_ok-count.ensures.rest
    c.read-total.ensures.sum
    ∙ ap (λ bytes. (sum bytes + sum (drop (8 - c.self.inside.place) (take c.in_ok-count.count piece))) % 65536)
    (sym front_is)) is in
    let told = fill_told (seen (g.D.Disk.told c.args.disk.now)) c.args.self.now c.self.inside.name _ piece
    c.self.inside.place c.self.inside.limit c.self.inside.sum c.add_behind.new.self c.in_ok-count.count
    c.min-room.result c.args.to c.self.view_is c.requires.empty c.in_ok-count.ensures.within
    (search rules) c.requires.within added c.in_ok-count.ensures.told in
    filled_stays (bytes_in (seen (g.D.Disk.told c.args.disk.now)) c.args.self.now.name) c.args.self.now _ _ told
