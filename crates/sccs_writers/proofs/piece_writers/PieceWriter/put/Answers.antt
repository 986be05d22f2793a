use Rattle.std.proofs.Common.{◌≡◌, ℕ, List, [], ◌++◌, take, refl, subst, sym, ap, ◌∙◌}
use Rattle.std.proofs.lemmas.List.{append-nil}
use Rattle.sccs_disk.specs.Told.{Told}
use Rattle.sccs_writers.specs.HeldBytes.{writer_of}
use Rattle.sccs_writers.specs.Puts.{Writer, PutsText}
use Rattle.sccs_writers.proofs.PutLaws.{appended_puts, held_puts, text_both}
use Rattle.sccs_writers.proofs.piece_writers.PieceWriter.put.Goals as goal

pub returns-then-hold : goal.returns-then-hold
returns-then-hold g c = held_puts c.args.bytes.now c.args.self.now c.hold.new.self _ _ _ tt refl
    (c.if-hold.ensures.held refl) c.if-hold.ensures.name c.if-hold.ensures.sums

pub returns : goal.returns
returns g c =
    let a : Told = g.D.Disk.told c.args.disk.now in
    let b : Told = g.D.Disk.told c.flush.new.disk in
    let d : Told = g.D.Disk.told c.append.new.disk in
    let before : ℕ = g.D.Disk.faults c.args.disk.now in
    let between : ℕ = g.D.Disk.faults c.flush.new.disk in
    let after : ℕ = g.D.Disk.faults c.append.new.disk in
    let held : List ℕ = take c.self.inside.len c.self.inside.piece in
    let put : Writer = record { name = c.self.inside.name; held = held; sums = c.append.new.sum } in
    let same : c.hold.new.self ≡ c.args.self.now = c.if-hold.ensures.full (λ is. cc) in
    let kept : c.hold-2.new.self ≡ c.flush.new.self = c.if-hold-2.ensures.full (λ is. cc) in
    let none : held ≡ [] = ap (λ (w : Writer). w.held) (c.self.view_is ∙ kept) ∙ c.in_default.ensures.empty in
    let first : PutsText [] c.args.self.now c.flush.new.self a b before between c.flush.result =
    subst (λ w. PutsText [] w c.flush.new.self a b before between c.flush.result) same c.flush.ensures.puts in
    let second : PutsText c.args.bytes.now c.flush.new.self put b d between after c.append.result =
    subst (λ w. PutsText c.args.bytes.now w put b d between after c.append.result) (c.self.view_is ∙ kept)
    (appended_puts c.args.bytes.now c.args.bytes.now (writer_of c.self.inside) put b d between after c.append.result
    c.append.ensures.writes c.append.ensures.sums
    (ap (λ front. front ++ c.args.bytes.now) none ∙ (sym (append-nil c.args.bytes.now)
    ∙ ap (λ rest. c.args.bytes.now ++ rest) (sym none))) refl) in
    text_both [] c.args.bytes.now c.args.self.now c.flush.new.self put a b d before between after c.flush.result
    c.append.result c.in_default.field-0 c.in_default.is first second
