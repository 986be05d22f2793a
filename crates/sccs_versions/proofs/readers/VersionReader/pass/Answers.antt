use Rattle.std.proofs.Common.{refl, sym, subst}
use Rattle.sccs_base.specs.Cut.{cut}
use Rattle.sccs_versions.specs.Coming.{Coming, ComeFirst}
use Rattle.sccs_versions.specs.Place.{AreShown, VersionPlace, bytes_held}
use Rattle.sccs_versions.specs.WasRead.{HasRead, ReadsOn}
use Rattle.sccs_versions.proofs.ReadLaws.{shown_on}
use Rattle.sccs_versions.proofs.RunLaws.{lines_passed}
use Rattle.sccs_versions.proofs.readers.VersionReader.pass.Goals as goal

pub returns-clause-coming : goal.returns-clause-coming
returns-clause-coming c = λ file lines p.
    let here : VersionPlace =
    record { set = c.self.inside.set.now; items = c.self.inside.items; regions = c.self.inside.weaver } in
    let gone : VersionPlace =
    record { set = c.self.inside.set.now; items = c.pass.new.self; regions = c.self.inside.weaver } in
    subst (λ r. ComeFirst file r gone (bytes_held r c.args.count) lines) c.self.view_is
    (lines_passed file here gone c.args.count lines (subst (λ r. AreShown r c.args.count) (sym c.self.view_is)
    c.requires)
    (record { set = refl; regions = refl; behind = c.pass.ensures.behind; told = c.pass.ensures.told })
    (subst (λ r. Coming file r lines) (sym c.self.view_is) p))

pub returns-clause-read : goal.returns-clause-read
returns-clause-read c = λ live before h.
    let here : VersionPlace =
    record { set = c.self.inside.set.now; items = c.self.inside.items; regions = c.self.inside.weaver } in
    let gone : VersionPlace =
    record { set = c.self.inside.set.now; items = c.pass.new.self; regions = c.self.inside.weaver } in
    subst (λ (r : VersionPlace). ReadsOn live gone r.regions before (cut (bytes_held r c.args.count)).lines)
    c.self.view_is
    (shown_on live here gone c.args.count before (subst (λ r. AreShown r c.args.count) (sym c.self.view_is) c.requires)
    (record { set = refl; regions = refl; behind = c.pass.ensures.behind; told = c.pass.ensures.told })
    (subst (λ r. HasRead live r before) (sym c.self.view_is) h))
