use Rattle.std.proofs.Common.{ℕ, [], take, refl, subst}
use Rattle.sccs_disk.specs.Told.{Told}
use Rattle.sccs_writers.specs.HeldBytes.{writer_of}
use Rattle.sccs_writers.specs.Puts.{Writer, PutsText}
use Rattle.sccs_writers.proofs.PutLaws.{appended_puts}
use Rattle.sccs_writers.proofs.piece_writers.PieceWriter.flush.Goals as goal

pub returns-clause-puts : goal.returns-clause-puts
returns-clause-puts g c =
    let a : Told = g.D.Disk.told c.args.disk.now in
    let b : Told = g.D.Disk.told c.append.new.disk in
    let before : ℕ = g.D.Disk.faults c.args.disk.now in
    let after : ℕ = g.D.Disk.faults c.append.new.disk in
    let flushed : Writer = record { name = c.self.inside.name; held = []; sums = c.append.new.sum } in
    subst (λ w. PutsText [] w flushed a b before after c.append.result) c.self.view_is
    (appended_puts [] (take c.self.inside.len c.self.inside.piece) (writer_of c.self.inside) flushed a b before after
    c.append.result c.append.ensures.writes c.append.ensures.sums refl refl)
