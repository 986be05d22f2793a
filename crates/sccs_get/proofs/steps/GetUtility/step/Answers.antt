use Rattle.std.proofs.lemmas.Result.{err_from_is_err_and}
use Rattle.std.proofs.Common.{◌≡◌, ◌||◌, Bool, true, false, Ok, Err, refl, ◌∙◌}
use Rattle.std.specs.Str.{bytes_eq}
use Rattle.sccs_base.specs.Name.{y_file}
use Rattle.sccs_disk.specs.Told.{seen}
use Rattle.sccs_name_files.proofs.Touched.{only_then}
use Rattle.sccs_crash_points.proofs.Unlocked.{others_same}
use Rattle.sccs_steps.specs.Calls.{scene}
use Rattle.sccs_steps.specs.StepStops.{StepCrashPoints}
use Rattle.sccs_changes.specs.Utilities.{is_sfile}
use Rattle.sccs_get.specs.SummaryStep.{summary_got, writes_l}
use Rattle.sccs_get.specs.VersionStep.{get_action, writes_g}
use Rattle.sccs_get.proofs.SpeakLaws.{failed_speaks, finished_speaks, given_up_causes, given_up_speaks, none_within}
use Rattle.sccs_get.proofs.SpeakLaws.{print_print, read_causes, read_later, read_print, ready_finished}
use Rattle.sccs_get.proofs.StepLaws.{cut_got, cut_crash_points, cut_steps, finished_got, finished_crash_points}
use Rattle.sccs_get.proofs.StepLaws.{finished_steps, gives_from, given_up_got, given_up_crash_points, given_up_steps}
use Rattle.sccs_get.proofs.StepLaws.{got_others, got_unlocked, is_got, located_crash_points, located_steps, loses_from}
use Rattle.sccs_get.proofs.StepLaws.{others_from, read_crash_points, sums_from}
use Rattle.sccs_get.proofs.steps.GetUtility.step.Goals as goal
use Rattle.sccs_base.proofs.Bools.{right_false, left_false}
use Rattle.std.proofs.lemmas.Bool.{not-true}

pub locate-requires : goal.locate-requires
locate-requires g c = (is_sfile c.args.name.now c.requires)

pub give_summary-requires-clause-sfile : goal.give_summary-requires-clause-sfile
give_summary-requires-clause-sfile g c = (is_sfile c.args.name.now c.requires)

pub give_up-requires : goal.give_up-requires
give_up-requires g c = (is_sfile c.args.name.now c.requires)

pub ready-requires-clause-sfile : goal.ready-requires-clause-sfile
ready-requires-clause-sfile g c = (is_sfile c.args.name.now c.requires)

pub finish-requires-clause-sfile : goal.finish-requires-clause-sfile
finish-requires-clause-sfile g c = (is_sfile c.args.name.now c.requires)

pub give_up-requires-in-Err-ready : goal.give_up-requires-in-Err-ready
give_up-requires-in-Err-ready g c = (is_sfile c.args.name.now c.requires)

pub returns-in_err-located-clause-step : goal.returns-in_err-located-clause-step
returns-in_err-located-clause-step g c = let p = err_from_is_err_and c.from_residual.result c.from_residual.ensures.1 in
    rw (p.1, p.2) (located_steps c.args.self.now.words.now c.args.self.now.stamp.now c.args.self.now.place.now
    c.args.self.now.heading c.args.name.now c.in_err-located.field-0.0 (g.I.Source.left c.args._input.now)
    (g.D.Disk.told c.args.disk.now) (g.D.Disk.told c.locate.new.disk) (g.O.Sink.given c.args.out.now)
    (g.E.Sink.given c.args.err.now) c.locate.ensures.frame.same c.in_err-located.ensures.told)

pub returns-in_err-located-clause-crash_points : goal.returns-in_err-located-clause-crash_points
returns-in_err-located-clause-crash_points g c = let p =
    err_from_is_err_and c.from_residual.result c.from_residual.ensures.1 in
    rw (p.1, p.2) (located_crash_points c.args.self.now.words.now c.args.self.now.stamp.now c.args.self.now.place.now
    c.args.self.now.heading c.args.name.now c.in_err-located.field-0.0 (g.I.Source.left c.args._input.now)
    (g.D.Disk.told c.args.disk.now) (g.D.Disk.told c.locate.new.disk) (g.O.Sink.given c.args.out.now)
    (g.E.Sink.given c.args.err.now) (is_sfile c.args.name.now c.requires) c.locate.ensures.frame.same
    c.in_err-located.ensures.told)

pub returns-in_err-located-clause-unlocked : goal.returns-in_err-located-clause-unlocked
returns-in_err-located-clause-unlocked g c = got_unlocked c.args.self.now.words.now c.args.self.now.stamp.now
    c.args.self.now.place.now c.args.self.now.heading c.args.name.now (g.D.Disk.told c.args.disk.now)
    (g.D.Disk.told c.locate.new.disk) (others_same (is_got c.args.name.now) (g.D.Disk.told c.args.disk.now)
    (g.D.Disk.told c.locate.new.disk) c.locate.ensures.frame.same) (λ none. c.locate.ensures.frame.same)

pub returns-in_err-located-clause-others : goal.returns-in_err-located-clause-others
returns-in_err-located-clause-others g c = got_others c.args.self.now.words.now c.args.self.now.stamp.now
    c.args.self.now.place.now c.args.self.now.heading c.args.name.now (g.D.Disk.told c.args.disk.now)
    (g.D.Disk.told c.locate.new.disk) (is_sfile c.args.name.now c.requires) (others_same (is_got c.args.name.now)
    (g.D.Disk.told c.args.disk.now) (g.D.Disk.told c.locate.new.disk) c.locate.ensures.frame.same)

pub returns-in_err-located-clause-speaks : goal.returns-in_err-located-clause-speaks
returns-in_err-located-clause-speaks g c = let p =
    err_from_is_err_and c.from_residual.result c.from_residual.ensures.1 in
    rw (p.1, p.2) (failed_speaks c.args.self.now.words.now c.args.name.now c.in_err-located.field-0.0
    (Err c.in_err-located.field-0.0) (Err c.in_err-located.field-0.0) (g.E.Sink.given c.args.err.now) refl
    c.in_err-located.ensures.checks refl)

pub returns-in_err-located-clause-causes : goal.returns-in_err-located-clause-causes
returns-in_err-located-clause-causes g c = let p =
    err_from_is_err_and c.from_residual.result c.from_residual.ensures.1 in
    rw (p.1, p.2) (read_causes g.D.Disk.told g.D.Disk.faults c.args.disk.now c.locate.new.disk
    c.in_err-located.field-0.0 _ _ _ c.in_err-located.ensures.frame)

pub returns-in-Err-clause-step : goal.returns-in-Err-clause-step
returns-in-Err-clause-step g c = cut_steps c.args.self.now.words.now c.args.self.now.stamp.now c.args.self.now.place.now
    c.args.self.now.heading c.args.name.now (is_sfile c.args.name.now c.requires) c.in_ok-located.located c.in-Err.fault
    c.give_up.result (g.I.Source.left c.args._input.now) (g.D.Disk.told c.args.disk.now)
    (g.D.Disk.told c.give_summary.new.disk) (g.D.Disk.told c.give_up.new.disk) (g.O.Sink.given c.args.out.now)
    (g.O.Sink.given c.give_summary.new.out) (g.E.Sink.given c.args.err.now) c.in_ok-located.ensures.told
    (sums_from c.args.self.now.words.now c.args.name.now
    (summary_got c.args.self.now.words.now c.in_ok-located.located.front.header.records c.in_ok-located.located.found)
    (Err c.in-Err.fault) (g.D.Disk.told c.args.disk.now) (g.D.Disk.told c.locate.new.disk)
    (seen (g.D.Disk.told c.give_summary.new.disk)) (g.O.Sink.given c.args.out.now)
    (g.O.Sink.given c.give_summary.new.out) (g.E.Sink.given c.args.err.now) c.locate.ensures.frame.same
    (c.in-Err.ensures.gives (g.E.Sink.given c.args.err.now))) (gives_from c.writes_l.result
    (writes_l c.args.self.now.words.now) c.args.name.now c.in-Err.fault c.give_up.result
    (seen (g.D.Disk.told c.give_summary.new.disk)) (seen (g.D.Disk.told c.give_up.new.disk)) c.writes_l.ensures
    c.give_up.ensures.gives_up)

pub returns-in-Err-clause-crash_points : goal.returns-in-Err-clause-crash_points
returns-in-Err-clause-crash_points g c = by (writes_g c.args.self.now.words.now || writes_l c.args.self.now.words.now)
    refl
  where
    by : (b : Bool) → (writes_g c.args.self.now.words.now || writes_l c.args.self.now.words.now) ≡ b
        → StepCrashPoints (get_action c.args.self.now.words.now c.args.self.now.stamp.now c.args.self.now.place.now
        c.args.self.now.heading) c.give_up.result c.args.name.now (g.I.Source.left c.args._input.now)
        (scene (g.D.Disk.told c.args.disk.now) (g.O.Sink.given c.args.out.now) (g.E.Sink.given c.args.err.now))
        (scene (g.D.Disk.told c.give_up.new.disk) (g.O.Sink.given c.give_summary.new.out)
        (g.E.Sink.given c.args.err.now))
    by true changes = cut_crash_points c.args.self.now.words.now c.args.self.now.stamp.now c.args.self.now.place.now
        c.args.self.now.heading c.args.name.now (is_sfile c.args.name.now c.requires) c.in_ok-located.located
        c.in-Err.fault c.give_up.result (g.I.Source.left c.args._input.now) (g.D.Disk.told c.args.disk.now)
        (g.D.Disk.told c.give_summary.new.disk) (g.D.Disk.told c.give_up.new.disk) (g.O.Sink.given c.args.out.now)
        (g.O.Sink.given c.give_summary.new.out) (g.E.Sink.given c.args.err.now) c.in_ok-located.ensures.told
        (sums_from c.args.self.now.words.now c.args.name.now
        (summary_got c.args.self.now.words.now c.in_ok-located.located.front.header.records
        c.in_ok-located.located.found) (Err c.in-Err.fault) (g.D.Disk.told c.args.disk.now)
        (g.D.Disk.told c.locate.new.disk) (seen (g.D.Disk.told c.give_summary.new.disk)) (g.O.Sink.given c.args.out.now)
        (g.O.Sink.given c.give_summary.new.out) (g.E.Sink.given c.args.err.now) c.locate.ensures.frame.same
        (c.in-Err.ensures.gives (g.E.Sink.given c.args.err.now))) (gives_from c.writes_l.result
        (writes_l c.args.self.now.words.now) c.args.name.now c.in-Err.fault c.give_up.result
        (seen (g.D.Disk.told c.give_summary.new.disk)) (seen (g.D.Disk.told c.give_up.new.disk)) c.writes_l.ensures
        c.give_up.ensures.gives_up) (loses_from (g.D.Disk.told c.args.disk.now) (g.D.Disk.told c.locate.new.disk)
        (g.D.Disk.told c.give_summary.new.disk) c.locate.ensures.frame.same c.give_summary.ensures.stops)
        c.give_up.ensures.touches
    by false none = read_crash_points c.args.self.now.words.now c.args.self.now.stamp.now c.args.self.now.place.now
        c.args.self.now.heading c.args.name.now c.give_up.result (g.I.Source.left c.args._input.now)
        (g.D.Disk.told c.args.disk.now) (g.D.Disk.told c.give_up.new.disk) (g.O.Sink.given c.args.out.now)
        (g.O.Sink.given c.give_summary.new.out) (g.E.Sink.given c.args.err.now) (g.E.Sink.given c.args.err.now) none
        (c.give_up.ensures.same (c.writes_l.ensures ∙ right_false (writes_g c.args.self.now.words.now)
        (writes_l c.args.self.now.words.now) none)
        ∙ (c.give_summary.ensures.same (right_false (writes_g c.args.self.now.words.now)
        (writes_l c.args.self.now.words.now) none) ∙ c.locate.ensures.frame.same)) (returns-in-Err-clause-step g c)

pub returns-in-Err-clause-unlocked : goal.returns-in-Err-clause-unlocked
returns-in-Err-clause-unlocked g c = got_unlocked c.args.self.now.words.now c.args.self.now.stamp.now
    c.args.self.now.place.now c.args.self.now.heading c.args.name.now (g.D.Disk.told c.args.disk.now)
    (g.D.Disk.told c.give_up.new.disk) (cut_got c.args.name.now (g.D.Disk.told c.args.disk.now)
    (g.D.Disk.told c.give_summary.new.disk) (g.D.Disk.told c.give_up.new.disk) (others_from c.args.name.now
    (g.D.Disk.told c.args.disk.now) (g.D.Disk.told c.locate.new.disk) (g.D.Disk.told c.give_summary.new.disk)
    c.locate.ensures.frame.same c.give_summary.ensures.others) c.give_up.ensures.touches)
    (λ none. (c.give_up.ensures.same (c.writes_l.ensures ∙ right_false (writes_g c.args.self.now.words.now)
    (writes_l c.args.self.now.words.now) none)
    ∙ (c.give_summary.ensures.same (right_false (writes_g c.args.self.now.words.now)
    (writes_l c.args.self.now.words.now) none) ∙ c.locate.ensures.frame.same)))

pub returns-in-Err-clause-others : goal.returns-in-Err-clause-others
returns-in-Err-clause-others g c = got_others c.args.self.now.words.now c.args.self.now.stamp.now
    c.args.self.now.place.now c.args.self.now.heading c.args.name.now (g.D.Disk.told c.args.disk.now)
    (g.D.Disk.told c.give_up.new.disk) (is_sfile c.args.name.now c.requires)
    (cut_got c.args.name.now (g.D.Disk.told c.args.disk.now) (g.D.Disk.told c.give_summary.new.disk)
    (g.D.Disk.told c.give_up.new.disk) (others_from c.args.name.now (g.D.Disk.told c.args.disk.now)
    (g.D.Disk.told c.locate.new.disk) (g.D.Disk.told c.give_summary.new.disk) c.locate.ensures.frame.same
    c.give_summary.ensures.others) c.give_up.ensures.touches)

pub returns-in-Err-clause-speaks : goal.returns-in-Err-clause-speaks
returns-in-Err-clause-speaks g c = given_up_speaks c.args.self.now.words.now (writes_l c.args.self.now.words.now)
    c.args.name.now c.in-Err.fault c.give_summary.result c.give_up.result _ _ _ c.in-Err.is
    (none_within c.give_summary.result c.give_summary.ensures.checks) (gives_from c.writes_l.result
    (writes_l c.args.self.now.words.now) c.args.name.now c.in-Err.fault c.give_up.result
    (seen (g.D.Disk.told c.give_summary.new.disk)) (seen (g.D.Disk.told c.give_up.new.disk)) c.writes_l.ensures
    c.give_up.ensures.gives_up)

pub returns-in-Err-clause-reads : goal.returns-in-Err-clause-reads
returns-in-Err-clause-reads g c =
    λ reads. let none : (writes_g c.args.self.now.words.now || writes_l c.args.self.now.words.now) ≡ false =
    not-true (writes_g c.args.self.now.words.now || writes_l c.args.self.now.words.now) reads in
    c.give_up.ensures.same (c.writes_l.ensures ∙ right_false (writes_g c.args.self.now.words.now)
    (writes_l c.args.self.now.words.now) none)
    ∙ (c.give_summary.ensures.same (right_false (writes_g c.args.self.now.words.now)
    (writes_l c.args.self.now.words.now) none) ∙ c.locate.ensures.frame.same)

pub returns-in-Err-clause-causes : goal.returns-in-Err-clause-causes
returns-in-Err-clause-causes g c = given_up_causes (writes_l c.args.self.now.words.now) c.args.name.now c.in-Err.fault
    c.give_summary.result c.give_up.result _ _ _ _ _ _ _ _ _ c.in-Err.is (gives_from c.writes_l.result
    (writes_l c.args.self.now.words.now) c.args.name.now c.in-Err.fault c.give_up.result
    (seen (g.D.Disk.told c.give_summary.new.disk)) (seen (g.D.Disk.told c.give_up.new.disk)) c.writes_l.ensures
    c.give_up.ensures.gives_up) (read_print c.give_summary.result _ _ _ _ _ c.locate.ensures.frame.later
    c.give_summary.ensures.causes) c.give_up.ensures.later c.give_up.ensures.cause

pub returns-in-Ok-clause-step : goal.returns-in-Ok-clause-step
returns-in-Ok-clause-step g c = finished_steps c.args.self.now.words.now c.args.self.now.stamp.now
    c.args.self.now.place.now c.args.self.now.heading c.args.name.now (is_sfile c.args.name.now c.requires)
    c.in_ok-located.located c.finish.result c.in-Ok.prepared (g.I.Source.left c.args._input.now)
    (g.D.Disk.told c.args.disk.now) (g.D.Disk.told c.give_summary.new.disk) (g.D.Disk.told c.ready.new.disk)
    (g.D.Disk.told c.finish.new.disk) (g.O.Sink.given c.args.out.now) (g.O.Sink.given c.give_summary.new.out)
    (g.O.Sink.given c.ready.new.out) (g.O.Sink.given c.finish.new.out) (g.E.Sink.given c.args.err.now)
    (g.E.Sink.given c.finish.new.err) c.in_ok-located.ensures.told (sums_from c.args.self.now.words.now c.args.name.now
    (summary_got c.args.self.now.words.now c.in_ok-located.located.front.header.records c.in_ok-located.located.found)
    (Ok tt) (g.D.Disk.told c.args.disk.now) (g.D.Disk.told c.locate.new.disk)
    (seen (g.D.Disk.told c.give_summary.new.disk)) (g.O.Sink.given c.args.out.now)
    (g.O.Sink.given c.give_summary.new.out) (g.E.Sink.given c.args.err.now) c.locate.ensures.frame.same
    (c.in_default.ensures.gives (g.E.Sink.given c.args.err.now))) (λ parsed. c.in-Ok.ensures.readies parsed
    (g.E.Sink.given c.args.err.now)) c.finish.ensures.finishes

pub returns-in-Ok-clause-crash_points : goal.returns-in-Ok-clause-crash_points
returns-in-Ok-clause-crash_points g c = by (writes_g c.args.self.now.words.now || writes_l c.args.self.now.words.now)
    refl
  where
    by : (b : Bool) → (writes_g c.args.self.now.words.now || writes_l c.args.self.now.words.now) ≡ b
        → StepCrashPoints (get_action c.args.self.now.words.now c.args.self.now.stamp.now c.args.self.now.place.now
        c.args.self.now.heading) c.finish.result c.args.name.now (g.I.Source.left c.args._input.now)
        (scene (g.D.Disk.told c.args.disk.now) (g.O.Sink.given c.args.out.now) (g.E.Sink.given c.args.err.now))
        (scene (g.D.Disk.told c.finish.new.disk) (g.O.Sink.given c.finish.new.out) (g.E.Sink.given c.finish.new.err))
    by true changes = finished_crash_points c.args.self.now.words.now c.args.self.now.stamp.now
        c.args.self.now.place.now c.args.self.now.heading c.args.name.now (is_sfile c.args.name.now c.requires)
        c.in_ok-located.located c.finish.result c.in-Ok.prepared (g.I.Source.left c.args._input.now)
        (g.D.Disk.told c.args.disk.now) (g.D.Disk.told c.give_summary.new.disk) (g.D.Disk.told c.ready.new.disk)
        (g.D.Disk.told c.finish.new.disk) (g.O.Sink.given c.args.out.now) (g.O.Sink.given c.give_summary.new.out)
        (g.O.Sink.given c.ready.new.out) (g.O.Sink.given c.finish.new.out) (g.E.Sink.given c.args.err.now)
        (g.E.Sink.given c.finish.new.err) changes c.in_ok-located.ensures.told
        (sums_from c.args.self.now.words.now c.args.name.now
        (summary_got c.args.self.now.words.now c.in_ok-located.located.front.header.records
        c.in_ok-located.located.found) (Ok tt) (g.D.Disk.told c.args.disk.now) (g.D.Disk.told c.locate.new.disk)
        (seen (g.D.Disk.told c.give_summary.new.disk)) (g.O.Sink.given c.args.out.now)
        (g.O.Sink.given c.give_summary.new.out) (g.E.Sink.given c.args.err.now) c.locate.ensures.frame.same
        (c.in_default.ensures.gives (g.E.Sink.given c.args.err.now))) (λ parsed. c.in-Ok.ensures.readies parsed
        (g.E.Sink.given c.args.err.now)) c.finish.ensures.finishes (loses_from (g.D.Disk.told c.args.disk.now)
        (g.D.Disk.told c.locate.new.disk) (g.D.Disk.told c.give_summary.new.disk) c.locate.ensures.frame.same
        c.give_summary.ensures.stops) c.finish.ensures.places c.ready.ensures.touches c.in-Ok.ensures.firm
        (λ none. c.finish.ensures.same none ∙ c.ready.ensures.same none)
    by false none = read_crash_points c.args.self.now.words.now c.args.self.now.stamp.now c.args.self.now.place.now
        c.args.self.now.heading c.args.name.now c.finish.result (g.I.Source.left c.args._input.now)
        (g.D.Disk.told c.args.disk.now) (g.D.Disk.told c.finish.new.disk) (g.O.Sink.given c.args.out.now)
        (g.O.Sink.given c.finish.new.out) (g.E.Sink.given c.args.err.now) (g.E.Sink.given c.finish.new.err) none
        (c.finish.ensures.same (left_false (writes_g c.args.self.now.words.now) (writes_l c.args.self.now.words.now)
        none) ∙ (c.ready.ensures.same (left_false (writes_g c.args.self.now.words.now)
        (writes_l c.args.self.now.words.now) none)
        ∙ (c.give_summary.ensures.same (right_false (writes_g c.args.self.now.words.now)
        (writes_l c.args.self.now.words.now) none) ∙ c.locate.ensures.frame.same))) (returns-in-Ok-clause-step g c)

pub returns-in-Ok-clause-unlocked : goal.returns-in-Ok-clause-unlocked
returns-in-Ok-clause-unlocked g c = got_unlocked c.args.self.now.words.now c.args.self.now.stamp.now
    c.args.self.now.place.now c.args.self.now.heading c.args.name.now (g.D.Disk.told c.args.disk.now)
    (g.D.Disk.told c.finish.new.disk) (finished_got c.args.name.now (g.D.Disk.told c.args.disk.now)
    (g.D.Disk.told c.give_summary.new.disk) (g.D.Disk.told c.ready.new.disk) (g.D.Disk.told c.finish.new.disk)
    (others_from c.args.name.now (g.D.Disk.told c.args.disk.now) (g.D.Disk.told c.locate.new.disk)
    (g.D.Disk.told c.give_summary.new.disk) c.locate.ensures.frame.same c.give_summary.ensures.others)
    c.ready.ensures.touches c.finish.ensures.others)
    (λ none. (c.finish.ensures.same (left_false (writes_g c.args.self.now.words.now)
    (writes_l c.args.self.now.words.now) none)
    ∙ (c.ready.ensures.same (left_false (writes_g c.args.self.now.words.now) (writes_l c.args.self.now.words.now) none)
    ∙ (c.give_summary.ensures.same (right_false (writes_g c.args.self.now.words.now)
    (writes_l c.args.self.now.words.now) none) ∙ c.locate.ensures.frame.same))))

pub returns-in-Ok-clause-others : goal.returns-in-Ok-clause-others
returns-in-Ok-clause-others g c = got_others c.args.self.now.words.now c.args.self.now.stamp.now
    c.args.self.now.place.now c.args.self.now.heading c.args.name.now (g.D.Disk.told c.args.disk.now)
    (g.D.Disk.told c.finish.new.disk) (is_sfile c.args.name.now c.requires) (finished_got c.args.name.now
    (g.D.Disk.told c.args.disk.now) (g.D.Disk.told c.give_summary.new.disk) (g.D.Disk.told c.ready.new.disk)
    (g.D.Disk.told c.finish.new.disk) (others_from c.args.name.now (g.D.Disk.told c.args.disk.now)
    (g.D.Disk.told c.locate.new.disk) (g.D.Disk.told c.give_summary.new.disk) c.locate.ensures.frame.same
    c.give_summary.ensures.others) c.ready.ensures.touches c.finish.ensures.others)

pub returns-in-Ok-clause-speaks : goal.returns-in-Ok-clause-speaks
returns-in-Ok-clause-speaks g c = finished_speaks c.args.self.now.words.now c.args.name.now c.in-Ok.prepared
    c.finish.result _ _ _ _ _ _ c.in-Ok.ensures.says c.finish.ensures.finishes

pub returns-in-Ok-clause-reads : goal.returns-in-Ok-clause-reads
returns-in-Ok-clause-reads g c =
    λ reads. let none : (writes_g c.args.self.now.words.now || writes_l c.args.self.now.words.now) ≡ false =
    not-true (writes_g c.args.self.now.words.now || writes_l c.args.self.now.words.now) reads in
    c.finish.ensures.same (left_false (writes_g c.args.self.now.words.now) (writes_l c.args.self.now.words.now) none)
    ∙ (c.ready.ensures.same (left_false (writes_g c.args.self.now.words.now) (writes_l c.args.self.now.words.now) none)
    ∙ (c.give_summary.ensures.same (right_false (writes_g c.args.self.now.words.now)
    (writes_l c.args.self.now.words.now) none) ∙ c.locate.ensures.frame.same))

pub returns-in-Ok-clause-causes : goal.returns-in-Ok-clause-causes
returns-in-Ok-clause-causes g c = ready_finished c.ready.result c.finish.result _ _ _ _ _ _ _ _ _
    (print_print c.ready.result _ _ _ _ _ _ c.give_summary.ensures.causes.out_later
    (read_later _ _ _ c.locate.ensures.frame.later c.give_summary.ensures.causes.disk_later) c.ready.ensures.causes)
    c.finish.ensures.causes

pub returns-clause-step : goal.returns-clause-step
returns-clause-step g c = given_up_steps c.args.self.now.words.now c.args.self.now.stamp.now c.args.self.now.place.now
    c.args.self.now.heading c.args.name.now (is_sfile c.args.name.now c.requires) c.in_ok-located.located
    c.in-Err-ready.fault c.give_up-in-Err-ready.result (g.I.Source.left c.args._input.now)
    (g.D.Disk.told c.args.disk.now) (g.D.Disk.told c.give_summary.new.disk) (g.D.Disk.told c.ready.new.disk)
    (g.D.Disk.told c.give_up-in-Err-ready.new.disk) (g.O.Sink.given c.args.out.now)
    (g.O.Sink.given c.give_summary.new.out) (g.O.Sink.given c.ready.new.out) (g.E.Sink.given c.args.err.now)
    c.in_ok-located.ensures.told (sums_from c.args.self.now.words.now c.args.name.now
    (summary_got c.args.self.now.words.now c.in_ok-located.located.front.header.records c.in_ok-located.located.found)
    (Ok tt) (g.D.Disk.told c.args.disk.now) (g.D.Disk.told c.locate.new.disk)
    (seen (g.D.Disk.told c.give_summary.new.disk)) (g.O.Sink.given c.args.out.now)
    (g.O.Sink.given c.give_summary.new.out) (g.E.Sink.given c.args.err.now) c.locate.ensures.frame.same
    (c.in_default.ensures.gives (g.E.Sink.given c.args.err.now))) (λ parsed. c.in-Err-ready.ensures.readies parsed
    (g.E.Sink.given c.args.err.now)) c.ready.ensures.moves c.ready.ensures.same (gives_from c.writes_g.result
    (writes_g c.args.self.now.words.now) c.args.name.now c.in-Err-ready.fault c.give_up-in-Err-ready.result
    (seen (g.D.Disk.told c.ready.new.disk)) (seen (g.D.Disk.told c.give_up-in-Err-ready.new.disk)) c.writes_g.ensures
    c.give_up-in-Err-ready.ensures.gives_up)

pub returns-clause-crash_points : goal.returns-clause-crash_points
returns-clause-crash_points g c = by (writes_g c.args.self.now.words.now || writes_l c.args.self.now.words.now) refl
  where
    by : (b : Bool) → (writes_g c.args.self.now.words.now || writes_l c.args.self.now.words.now) ≡ b
        → StepCrashPoints (get_action c.args.self.now.words.now c.args.self.now.stamp.now c.args.self.now.place.now
        c.args.self.now.heading) c.give_up-in-Err-ready.result c.args.name.now (g.I.Source.left c.args._input.now)
        (scene (g.D.Disk.told c.args.disk.now) (g.O.Sink.given c.args.out.now) (g.E.Sink.given c.args.err.now))
        (scene (g.D.Disk.told c.give_up-in-Err-ready.new.disk) (g.O.Sink.given c.ready.new.out)
        (g.E.Sink.given c.args.err.now))
    by true changes = given_up_crash_points c.args.self.now.words.now c.args.self.now.stamp.now
        c.args.self.now.place.now c.args.self.now.heading c.args.name.now (is_sfile c.args.name.now c.requires)
        c.in_ok-located.located c.in-Err-ready.fault c.give_up-in-Err-ready.result (g.I.Source.left c.args._input.now)
        (g.D.Disk.told c.args.disk.now) (g.D.Disk.told c.give_summary.new.disk) (g.D.Disk.told c.ready.new.disk)
        (g.D.Disk.told c.give_up-in-Err-ready.new.disk) (g.O.Sink.given c.args.out.now)
        (g.O.Sink.given c.give_summary.new.out) (g.O.Sink.given c.ready.new.out) (g.E.Sink.given c.args.err.now)
        c.in_ok-located.ensures.told (sums_from c.args.self.now.words.now c.args.name.now
        (summary_got c.args.self.now.words.now c.in_ok-located.located.front.header.records
        c.in_ok-located.located.found) (Ok tt) (g.D.Disk.told c.args.disk.now) (g.D.Disk.told c.locate.new.disk)
        (seen (g.D.Disk.told c.give_summary.new.disk)) (g.O.Sink.given c.args.out.now)
        (g.O.Sink.given c.give_summary.new.out) (g.E.Sink.given c.args.err.now) c.locate.ensures.frame.same
        (c.in_default.ensures.gives (g.E.Sink.given c.args.err.now))) (λ parsed. c.in-Err-ready.ensures.readies parsed
        (g.E.Sink.given c.args.err.now)) c.ready.ensures.moves c.ready.ensures.same (gives_from c.writes_g.result
        (writes_g c.args.self.now.words.now) c.args.name.now c.in-Err-ready.fault c.give_up-in-Err-ready.result
        (seen (g.D.Disk.told c.ready.new.disk)) (seen (g.D.Disk.told c.give_up-in-Err-ready.new.disk))
        c.writes_g.ensures c.give_up-in-Err-ready.ensures.gives_up) (loses_from (g.D.Disk.told c.args.disk.now)
        (g.D.Disk.told c.locate.new.disk) (g.D.Disk.told c.give_summary.new.disk) c.locate.ensures.frame.same
        c.give_summary.ensures.stops) (only_then (bytes_eq (y_file c.args.name.now))
        (g.D.Disk.told c.give_summary.new.disk) (g.D.Disk.told c.ready.new.disk)
        (g.D.Disk.told c.give_up-in-Err-ready.new.disk) c.ready.ensures.touches c.give_up-in-Err-ready.ensures.touches)
    by false none = read_crash_points c.args.self.now.words.now c.args.self.now.stamp.now c.args.self.now.place.now
        c.args.self.now.heading c.args.name.now c.give_up-in-Err-ready.result (g.I.Source.left c.args._input.now)
        (g.D.Disk.told c.args.disk.now) (g.D.Disk.told c.give_up-in-Err-ready.new.disk) (g.O.Sink.given c.args.out.now)
        (g.O.Sink.given c.ready.new.out) (g.E.Sink.given c.args.err.now) (g.E.Sink.given c.args.err.now) none
        (c.give_up-in-Err-ready.ensures.same (c.writes_g.ensures ∙ left_false (writes_g c.args.self.now.words.now)
        (writes_l c.args.self.now.words.now) none)
        ∙ (c.ready.ensures.same (left_false (writes_g c.args.self.now.words.now) (writes_l c.args.self.now.words.now)
        none) ∙ (c.give_summary.ensures.same (right_false (writes_g c.args.self.now.words.now)
        (writes_l c.args.self.now.words.now) none) ∙ c.locate.ensures.frame.same))) (returns-clause-step g c)

pub returns-clause-unlocked : goal.returns-clause-unlocked
returns-clause-unlocked g c = got_unlocked c.args.self.now.words.now c.args.self.now.stamp.now c.args.self.now.place.now
    c.args.self.now.heading c.args.name.now (g.D.Disk.told c.args.disk.now)
    (g.D.Disk.told c.give_up-in-Err-ready.new.disk) (given_up_got c.args.name.now (g.D.Disk.told c.args.disk.now)
    (g.D.Disk.told c.give_summary.new.disk) (g.D.Disk.told c.ready.new.disk)
    (g.D.Disk.told c.give_up-in-Err-ready.new.disk) (others_from c.args.name.now (g.D.Disk.told c.args.disk.now)
    (g.D.Disk.told c.locate.new.disk) (g.D.Disk.told c.give_summary.new.disk) c.locate.ensures.frame.same
    c.give_summary.ensures.others) c.ready.ensures.touches c.give_up-in-Err-ready.ensures.touches)
    (λ none. (c.give_up-in-Err-ready.ensures.same (c.writes_g.ensures ∙ left_false (writes_g c.args.self.now.words.now)
    (writes_l c.args.self.now.words.now) none)
    ∙ (c.ready.ensures.same (left_false (writes_g c.args.self.now.words.now) (writes_l c.args.self.now.words.now) none)
    ∙ (c.give_summary.ensures.same (right_false (writes_g c.args.self.now.words.now)
    (writes_l c.args.self.now.words.now) none) ∙ c.locate.ensures.frame.same))))

pub returns-clause-others : goal.returns-clause-others
returns-clause-others g c = got_others c.args.self.now.words.now c.args.self.now.stamp.now c.args.self.now.place.now
    c.args.self.now.heading c.args.name.now (g.D.Disk.told c.args.disk.now)
    (g.D.Disk.told c.give_up-in-Err-ready.new.disk) (is_sfile c.args.name.now c.requires) (given_up_got c.args.name.now
    (g.D.Disk.told c.args.disk.now) (g.D.Disk.told c.give_summary.new.disk) (g.D.Disk.told c.ready.new.disk)
    (g.D.Disk.told c.give_up-in-Err-ready.new.disk) (others_from c.args.name.now (g.D.Disk.told c.args.disk.now)
    (g.D.Disk.told c.locate.new.disk) (g.D.Disk.told c.give_summary.new.disk) c.locate.ensures.frame.same
    c.give_summary.ensures.others) c.ready.ensures.touches c.give_up-in-Err-ready.ensures.touches)

pub returns-clause-speaks : goal.returns-clause-speaks
returns-clause-speaks g c = given_up_speaks c.args.self.now.words.now (writes_g c.args.self.now.words.now)
    c.args.name.now c.in-Err-ready.fault c.ready.result c.give_up-in-Err-ready.result _ _ _ c.in-Err-ready.is
    c.ready.ensures.checks (gives_from c.writes_g.result (writes_g c.args.self.now.words.now) c.args.name.now
    c.in-Err-ready.fault c.give_up-in-Err-ready.result (seen (g.D.Disk.told c.ready.new.disk))
    (seen (g.D.Disk.told c.give_up-in-Err-ready.new.disk)) c.writes_g.ensures c.give_up-in-Err-ready.ensures.gives_up)

pub returns-clause-reads : goal.returns-clause-reads
returns-clause-reads g c =
    λ reads. let none : (writes_g c.args.self.now.words.now || writes_l c.args.self.now.words.now) ≡ false =
    not-true (writes_g c.args.self.now.words.now || writes_l c.args.self.now.words.now) reads in
    c.give_up-in-Err-ready.ensures.same (c.writes_g.ensures ∙ left_false (writes_g c.args.self.now.words.now)
    (writes_l c.args.self.now.words.now) none)
    ∙ (c.ready.ensures.same (left_false (writes_g c.args.self.now.words.now) (writes_l c.args.self.now.words.now) none)
    ∙ (c.give_summary.ensures.same (right_false (writes_g c.args.self.now.words.now)
    (writes_l c.args.self.now.words.now) none) ∙ c.locate.ensures.frame.same))

pub returns-clause-causes : goal.returns-clause-causes
returns-clause-causes g c = given_up_causes (writes_g c.args.self.now.words.now) c.args.name.now c.in-Err-ready.fault
    c.ready.result c.give_up-in-Err-ready.result _ _ _ _ _ _ _ _ _ c.in-Err-ready.is (gives_from c.writes_g.result
    (writes_g c.args.self.now.words.now) c.args.name.now c.in-Err-ready.fault c.give_up-in-Err-ready.result
    (seen (g.D.Disk.told c.ready.new.disk)) (seen (g.D.Disk.told c.give_up-in-Err-ready.new.disk)) c.writes_g.ensures
    c.give_up-in-Err-ready.ensures.gives_up)
    (print_print c.ready.result _ _ _ _ _ _ c.give_summary.ensures.causes.out_later
    (read_later _ _ _ c.locate.ensures.frame.later c.give_summary.ensures.causes.disk_later) c.ready.ensures.causes)
    c.give_up-in-Err-ready.ensures.later c.give_up-in-Err-ready.ensures.cause
