use Rattle.std.proofs.Common.{◌≡◌, Bool, true, false, None, ap, refl, ◌∙◌}
use Rattle.std.specs.Prelude.{if◌then◌else◌}
use Rattle.sccs_steps.specs.Actions.{Action}
use Rattle.sccs_steps.specs.Settings.{setting}
use Rattle.sccs_changes.specs.Changes.{locking}
use Rattle.sccs_get.specs.EditStep.{edit_change}
use Rattle.sccs_get.specs.VersionStep.{get_action}
use Rattle.sccs_top.specs.Runs.{caller_in, get_in, has_heading, hushed, words_in}
use Rattle.sccs_top.proofs.ListedRuns.{runs_as}
use Rattle.sccs_top.proofs.commands.run_get.Goals as goal

-- one of two, where it is meant
first : (b : Bool) (x y : Action) → b ≡ true → x ≡ (if b then x else y)
first true x y is = refl
first false x y is = absurd cc

second : (b : Bool) (x y : Action) → b ≡ false → y ≡ (if b then x else y)
second true x y is = absurd cc
second false x y is = refl

pub returns-then-words-clause-run : goal.returns-then-words-clause-run
returns-then-words-clause-run g c =
    runs_as (hushed None c.args.context.now.quiet
    (locking (edit_change c.args.words.now c.args.context.now.stamp.now c.args.context.now.place.now
    c.has_heading-heading.result))) (hushed None c.args.context.now.quiet
    (get_in c.args.words.now (caller_in c.args.context.now) (has_heading c.args.operands.now)))
    (words_in c.args.operands.now) (words_in c.args.operands.now) c.run_ordinary.result
    (setting g.I.Source g.O.Sink g.E.Sink g.D.Disk c.args.streams.now)
    (setting g.I.Source g.O.Sink g.E.Sink g.D.Disk c.run_ordinary.new.streams)
    (ap (λ (x : Action). hushed None c.args.context.now.quiet x)
    (ap (λ heading. locking (edit_change c.args.words.now c.args.context.now.stamp.now c.args.context.now.place.now
    heading))
    c.has_heading-heading.ensures ∙ first c.args.words.now.edit _ _ c.if-words.true)) refl
    c.run_ordinary.ensures.run

pub returns-else-words-clause-run : goal.returns-else-words-clause-run
returns-else-words-clause-run g c =
    runs_as (hushed None c.args.context.now.quiet (get_action c.args.words.now c.args.context.now.stamp.now
    c.args.context.now.place.now
    c.has_heading-heading.result)) (hushed None c.args.context.now.quiet
    (get_in c.args.words.now (caller_in c.args.context.now) (has_heading c.args.operands.now)))
    (words_in c.args.operands.now) (words_in c.args.operands.now) c.run_ordinary-else-words.result
    (setting g.I.Source g.O.Sink g.E.Sink g.D.Disk c.args.streams.now)
    (setting g.I.Source g.O.Sink g.E.Sink g.D.Disk c.run_ordinary-else-words.new.streams)
    (ap (λ (x : Action). hushed None c.args.context.now.quiet x)
    (ap (λ heading. get_action c.args.words.now c.args.context.now.stamp.now c.args.context.now.place.now heading)
    c.has_heading-heading.ensures ∙ second c.args.words.now.edit _ _ c.if-words.false)) refl
    c.run_ordinary-else-words.ensures.run
