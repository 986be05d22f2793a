use Rattle.std.proofs.Common.{Err, IfSome, Ok, ap, refl, subst}
use Rattle.std.proofs.lemmas.Result.{err_from_is_err_and}
use Rattle.sccs_store.proofs.Working.{err_of}
use Rattle.sccs_disk.specs.Files.{View}
use Rattle.sccs_crash_points.specs.Unlocked.{KeepsOthers}
use Rattle.sccs_group.specs.Halfway.{IsHalfway, intended, is_own_of_group}
use Rattle.sccs_group.proofs.Intended.{halfway_still, others_still}
use Rattle.sccs_disk.specs.Told.{Told, seen}
use Rattle.sccs_group.specs.Recovering.{IsWellFormed}
use Rattle.sccs_group.specs.Finishing.{Always, CompletesBy, FinishesBy}
use Rattle.sccs_group.proofs.Found.{answer_told, bad_told, told_found}
use Rattle.sccs_group.proofs.Runs.{by_same}
use Rattle.sccs_group.proofs.recovering.finish_intent.Goals as goal

pub finish_found-requires-clause-members : goal.finish_found-requires-clause-members
finish_found-requires-clause-members g c = c.in_ok-found.ensures.members

pub finish_found-requires-clause-told : goal.finish_found-requires-clause-told
finish_found-requires-clause-told g c = told_found c.args.intent.now (g.D.Disk.told c.args.disk.now)
    (g.D.Disk.told c.read_members.new.disk) (Ok c.in_ok-found.found) c.requires c.read_members.ensures.same
    c.in_ok-found.ensures.told

pub returns-in-Ok-clause-found : goal.returns-in-Ok-clause-found
returns-in-Ok-clause-found g c =
    answer_told (seen (g.D.Disk.told c.args.disk.now)) c.in_ok-found.found c.in-Ok.answer
    c.in-Ok.ensures.found
    (told_found c.args.intent.now (g.D.Disk.told c.args.disk.now) (g.D.Disk.told c.args.disk.now)
    (Ok c.in_ok-found.found) c.requires refl c.in_ok-found.ensures.told)

pub returns-in-Ok-clause-story : goal.returns-in-Ok-clause-story
returns-in-Ok-clause-story g c =
    subst (λ (t : Told). FinishesBy Always t (g.D.Disk.told c.finish_found.new.disk)) c.read_members.ensures.same
    c.finish_found.ensures.story

pub returns-in-Ok-clause-done : goal.returns-in-Ok-clause-done
returns-in-Ok-clause-done g c =
    subst (λ (t : Told). CompletesBy Always t (g.D.Disk.told c.finish_found.new.disk)) c.read_members.ensures.same
    c.in-Ok.ensures.done

pub returns-clause-story : goal.returns-clause-story
returns-clause-story g c = subst (λ (t : Told). FinishesBy Always t (g.D.Disk.told c.finish_found.new.disk))
    c.read_members.ensures.same c.finish_found.ensures.story

pub returns-in_err-found-clause-bad : goal.returns-in_err-found-clause-bad
returns-in_err-found-clause-bad g c =
    let p = err_from_is_err_and c.from_residual.result c.from_residual.ensures.1 in
    rw (p.1, p.2) (λ line is. (
      c.read_members.ensures.same,
      bad_told c.args.intent.now (g.D.Disk.told c.args.disk.now) (Err c.in_err-found.field-0.0)
          c.in_err-found.field-0.0 line c.requires refl is c.in_err-found.ensures.told,
    ))

pub returns-in_err-found-clause-story : goal.returns-in_err-found-clause-story
returns-in_err-found-clause-story g c = by_same Always _ _ c.read_members.ensures.same

pub returns-in_err-found-clause-memory : goal.returns-in_err-found-clause-memory
returns-in_err-found-clause-memory g c = λ is. c.read_members.ensures.same

pub returns-clause-halfway : goal.returns-clause-halfway
returns-clause-halfway g c =
    subst (λ (t : Told). IfSome (seen t) (λ (v : View). IsHalfway (intended v) (seen t)
    (seen (g.D.Disk.told c.finish_found.new.disk)))) c.read_members.ensures.same
    c.in-Err.ensures.halfway

pub returns-in_err-found-clause-halfway : goal.returns-in_err-found-clause-halfway
returns-in_err-found-clause-halfway g c = err_of c.from_residual.result
    (halfway_still _ _ (ap seen c.read_members.ensures.same))

pub returns-in-Ok-clause-others : goal.returns-in-Ok-clause-others
returns-in-Ok-clause-others g c =
    subst (λ (t : Told). IfSome (seen t) (λ (v : View). KeepsOthers (is_own_of_group (intended v)) t
    (g.D.Disk.told c.finish_found.new.disk))) c.read_members.ensures.same c.finish_found.ensures.others

pub returns-clause-others : goal.returns-clause-others
returns-clause-others g c =
    subst (λ (t : Told). IfSome (seen t) (λ (v : View). KeepsOthers (is_own_of_group (intended v)) t
    (g.D.Disk.told c.finish_found.new.disk))) c.read_members.ensures.same c.finish_found.ensures.others

pub returns-in_err-found-clause-others : goal.returns-in_err-found-clause-others
returns-in_err-found-clause-others g c = others_still _ _ c.read_members.ensures.same

pub returns-in-Ok-clause-form : goal.returns-in-Ok-clause-form
returns-in-Ok-clause-form g c = subst (λ k. IfSome (seen (g.D.Disk.told c.args.disk.now))
    (λ (v : View). IsWellFormed (v k))) c.requires c.in_ok-found.ensures.form
