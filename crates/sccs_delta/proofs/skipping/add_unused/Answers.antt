use Rattle.std.proofs.Common.{◌+◌, ◌-◌, ◌++◌, [], not, ap, ◌∙◌}
use Rattle.sccs_history.specs.Numbers.{front_if}
use Rattle.sccs_delta.specs.DeltaStep.{first_in_release, unused_from}
use Rattle.sccs_delta.proofs.SkippedLaws.{release_put}
use Rattle.sccs_delta.proofs.skipping.add_unused.Goals as goal

pub loop-release-preserved : goal.loop-release-preserved
loop-release-preserved c = λ records reserved marks.
    ap (λ l. l ++ unused_from records reserved (c.loop-release.release + 1) (c.args.to - (c.loop-release.release + 1)))
    (c.in_ok-push_unused.ensures ∙ ap (λ t. c.loop-release.sids ++ front_if (not t)
    (first_in_release c.loop-release.release) []) (c.is_marked.ensures
    ∙ marks c.loop-release.release c.loop-release-test.true))
    ∙ (release_put records reserved c.loop-release.release c.args.to c.loop-release.sids c.loop-release-test.true
    ∙ c.loop-release.invariant records reserved marks)
