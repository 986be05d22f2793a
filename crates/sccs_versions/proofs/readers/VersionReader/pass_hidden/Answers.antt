use Rattle.std.proofs.Common.{[], refl, sym, subst}
use Rattle.sccs_versions.specs.Coming.{Coming}
use Rattle.sccs_versions.specs.Place.{VersionPlace}
use Rattle.sccs_versions.specs.WasRead.{HasRead, ReadsOn}
use Rattle.sccs_versions.proofs.ReadLaws.{hidden_read, read_same}
use Rattle.sccs_versions.proofs.RunLaws.{hidden_run}
use Rattle.sccs_versions.proofs.readers.VersionReader.pass_hidden.Goals as goal

pub returns-then-not-keep-clause-coming : goal.returns-then-not-keep-clause-coming
returns-then-not-keep-clause-coming c = λ file lines p.
    let here : VersionPlace =
    record { set = c.self.inside.set.now; items = c.self.inside.items; regions = c.self.inside.weaver } in
    let gone : VersionPlace =
    record { set = c.self.inside.set.now; items = c.pass.new.self; regions = c.self.inside.weaver } in
    hidden_run file here gone c.texts-count.result.now lines c.keep.result c.texts-count.ensures.value
    (record { set = refl; regions = refl; behind = c.pass.ensures.behind; told = c.pass.ensures.told }) c.keep.ensures
    c.if-not-keep.true
    (subst (λ r. Coming file r lines) (sym c.self.view_is) p)

pub returns-then-not-keep-clause-read : goal.returns-then-not-keep-clause-read
returns-then-not-keep-clause-read c = λ live before h.
    let here : VersionPlace =
    record { set = c.self.inside.set.now; items = c.self.inside.items; regions = c.self.inside.weaver } in
    let gone : VersionPlace =
    record { set = c.self.inside.set.now; items = c.pass.new.self; regions = c.self.inside.weaver } in
    subst (λ (r : VersionPlace). ReadsOn live gone r.regions before []) c.self.view_is
    (hidden_read live here gone c.texts-count.result.now before c.keep.result c.texts-count.ensures.value
    (record { set = refl; regions = refl; behind = c.pass.ensures.behind; told = c.pass.ensures.told })
    c.texts-count.ensures.may.stand c.keep.ensures c.if-not-keep.true
    (subst (λ r. HasRead live r before) (sym c.self.view_is) h))

pub returns-else-not-keep-clause-read : goal.returns-else-not-keep-clause-read
returns-else-not-keep-clause-read c = λ live before h. read_same live c.args.self.now c.args.self.now.regions before h
