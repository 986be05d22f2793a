use Rattle.sccs_name_files.proofs.Called.{create_touched}
use Rattle.std.proofs.Common.{Err, ap, subst, ◌∙◌}
use Rattle.std.specs.Str.{bytes_eq}
use Rattle.sccs_name_files.specs.Touches.{TouchesOnly}
use Rattle.sccs_disk.specs.Calls.{Half}
use Rattle.sccs_disk.specs.Effects.{creating}
use Rattle.sccs_store.proofs.HeldLocks.{held_ends, held_stays}
use Rattle.sccs_store.proofs.locks.lock.Goals as goal

pub returns-in-Ok-Created-clause-touches : goal.returns-in-Ok-Created-clause-touches
returns-in-Ok-Created-clause-touches g c =
    subst (λ k. TouchesOnly (bytes_eq k) (g.D.Disk.told c.args.disk.now) (g.D.Disk.told c.create.new.self))
    c.sibling.ensures (create_touched c.sibling.result _ _ c.create.result (g.met.D.Disk.sane c.args.disk.now)
    c.create.ensures.ok c.create.ensures.half c.create.ensures.memory)

pub returns-in-Ok-Exists-clause-touches : goal.returns-in-Ok-Exists-clause-touches
returns-in-Ok-Exists-clause-touches g c =
    subst (λ k. TouchesOnly (bytes_eq k) (g.D.Disk.told c.args.disk.now) (g.D.Disk.told c.create.new.self))
    c.sibling.ensures (create_touched c.sibling.result _ _ c.create.result (g.met.D.Disk.sane c.args.disk.now)
    c.create.ensures.ok c.create.ensures.half c.create.ensures.memory)

pub returns-in-Err-Failed-clause-touches : goal.returns-in-Err-Failed-clause-touches
returns-in-Err-Failed-clause-touches g c =
    subst (λ k. TouchesOnly (bytes_eq k) (g.D.Disk.told c.args.disk.now) (g.D.Disk.told c.create.new.self))
    c.sibling.ensures (create_touched c.sibling.result _ _ c.create.result (g.met.D.Disk.sane c.args.disk.now)
    c.create.ensures.ok c.create.ensures.half c.create.ensures.memory)

pub returns-in-Err-Memory-clause-touches : goal.returns-in-Err-Memory-clause-touches
returns-in-Err-Memory-clause-touches g c =
    subst (λ k. TouchesOnly (bytes_eq k) (g.D.Disk.told c.args.disk.now) (g.D.Disk.told c.create.new.self))
    c.sibling.ensures (create_touched c.sibling.result _ _ c.create.result (g.met.D.Disk.sane c.args.disk.now)
    c.create.ensures.ok c.create.ensures.half c.create.ensures.memory)

pub returns-in-Err-Failed-clause-held : goal.returns-in-Err-Failed-clause-held
returns-in-Err-Failed-clause-held g c = λ fault.
    held_ends c.args.name.now (g.D.Disk.told c.args.disk.now) (g.D.Disk.told c.create.new.self) c.requires
    (g.met.D.Disk.sane c.args.disk.now)
    (subst (λ k. Half (creating k) (g.D.Disk.told c.args.disk.now) (g.D.Disk.told c.create.new.self)) c.sibling.ensures
    (c.create.ensures.half (c.in-Err-Failed.is ∙ ap Err c.in-Err-Failed.field-0-is)))

pub returns-in-Err-Failed-clause-stays : goal.returns-in-Err-Failed-clause-stays
returns-in-Err-Failed-clause-stays g c = λ fault.
    held_stays c.args.name.now (g.D.Disk.told c.args.disk.now) (g.D.Disk.told c.create.new.self)
    (g.met.D.Disk.sane c.args.disk.now)
    (subst (λ k. Half (creating k) (g.D.Disk.told c.args.disk.now) (g.D.Disk.told c.create.new.self)) c.sibling.ensures
    (c.create.ensures.half (c.in-Err-Failed.is ∙ ap Err c.in-Err-Failed.field-0-is)))
