use Rattle.std.proofs.Common.{◌≡◌, [], inl, length, sym, subst, ◌∙◌}
use Rattle.sccs_base.specs.Cut.{cut}
use Rattle.sccs_versions.specs.Coming.{Coming, StandFirst}
use Rattle.sccs_versions.specs.Place.{AreShown, VersionPlace}
use Rattle.sccs_versions.proofs.RunLaws.{comes_first, no_tail, none_first, none_shown}
use Rattle.sccs_versions.proofs.readers.VersionReader.texts.Goals as goal

pub returns-else-keep-clause-shown : goal.returns-else-keep-clause-shown
returns-else-keep-clause-shown c = none_shown c.args.self.now

pub returns-then-keep-clause-first : goal.returns-then-keep-clause-first
returns-then-keep-clause-first c = λ file lines p.
    let here : VersionPlace =
    record { set = c.self.inside.set.now; items = c.self.inside.items; regions = c.self.inside.weaver } in
    let are : AreShown here (length c.texts.result.now) = record {
      may = c.texts.ensures.may;
      kept = inl (λ set before text holds. sym (c.keep.ensures set before text holds) ∙ c.if-keep.true);
    } in
    subst (λ (r : VersionPlace). StandFirst r c.texts.result.now lines) c.self.view_is
    (comes_first file here c.texts.result.now lines are c.texts.ensures.value (c.texts.ensures.first file)
    (subst (λ r. Coming file r lines) (sym c.self.view_is) p))

pub returns-then-keep-clause-whole : goal.returns-then-keep-clause-whole
returns-then-keep-clause-whole c = subst (λ t. (cut t).tail ≡ []) c.texts.ensures.value c.texts.ensures.may.run.0

pub returns-else-keep-clause-whole : goal.returns-else-keep-clause-whole
returns-else-keep-clause-whole c = no_tail

pub returns-else-keep-clause-first : goal.returns-else-keep-clause-first
returns-else-keep-clause-first c = λ file lines p. none_first c.args.self.now lines
