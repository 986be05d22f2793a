use Rattle.std.proofs.Common.{Ok, ap, ◌∙◌, option_map, refl}
use Rattle.sccs_disk.specs.Effects.{renamed}
use Rattle.sccs_disk.specs.Files.{Rename}
use Rattle.sccs_disk.specs.Told.{seen}
use Rattle.sccs_store.proofs.Working.{ok_map}
use Rattle.sccs_group.proofs.Called.{may_rename, may_same, size_none, size_some, taken_none, taken_there}
use Rattle.sccs_group.proofs.calls.take_place.Goals as goal

pub returns-in-Some-clause-view : goal.returns-in-Some-clause-view
returns-in-Some-clause-view g c =
    ok_map c.rename.result
    (λ done. taken_there c.args.from.now c.args.to.now _ _ (size_some _ c.args.from.now (Ok c.in_ok-size.field-0) _ _
    refl c.in-Some.is c.in_ok-size.ensures.ok)
    (done.view ∙ ap (option_map (renamed c.args.from.now c.args.to.now)) (ap seen c.size.ensures.same)))
    c.rename.ensures.done

pub returns-in-Some-clause-call : goal.returns-in-Some-clause-call
returns-in-Some-clause-call g c =
    may_rename c.args.from.now c.args.to.now _ (g.D.Disk.told c.size.new.self) _ _ _ c.rename.result c.size.ensures.same
    (size_some _ c.args.from.now (Ok c.in_ok-size.field-0) _ _ refl c.in-Some.is c.in_ok-size.ensures.ok)
    c.rename.ensures

pub returns-in-None-clause-view : goal.returns-in-None-clause-view
returns-in-None-clause-view g c =
    taken_none c.args.from.now c.args.to.now _ _ (size_none _ c.args.from.now (Ok c.in_ok-size.field-0) _ refl
    c.in-None.is c.in_ok-size.ensures.ok) (ap seen c.size.ensures.same)

pub returns-in-None-clause-call : goal.returns-in-None-clause-call
returns-in-None-clause-call g c = may_same (Rename c.args.from.now c.args.to.now) c.args.from.now _ _
    c.size.ensures.same

pub returns-in_err-size-clause-call : goal.returns-in_err-size-clause-call
returns-in_err-size-clause-call g c = may_same (Rename c.args.from.now c.args.to.now) c.args.from.now _ _
    c.size.ensures.same
