use Rattle.std.proofs.Common.{ap, refl, sym, subst, ◌∙◌}
use Rattle.sccs_disk.specs.Told.{seen}
use Rattle.sccs_table.specs.ReaderState.{bytes_in}
use Rattle.sccs_table.proofs.FrontLaws.{exit_is}
use Rattle.sccs_body.specs.ToCome.{HasChanged, IsChange}
use Rattle.sccs_versions.specs.Coming.{Coming}
use Rattle.sccs_versions.specs.Place.{VersionPlace, name_of}
use Rattle.sccs_versions.specs.WasRead.{HasRead}
use Rattle.sccs_versions.proofs.ReadLaws.{end_read, next_read, read_same}
use Rattle.sccs_versions.proofs.ItemLaws.{next_shown, next_none, next_fails}
use Rattle.sccs_versions.proofs.readers.VersionReader.next_item.Goals as goal

pub returns-in-Some-clause-told : goal.returns-in-Some-clause-told
returns-in-Some-clause-told g c = λ file lines told p.
    let here : VersionPlace =
    record { set = c.self.inside.set.now; items = c.self.inside.items; regions = c.self.inside.weaver } in
    let gone : VersionPlace =
    record { set = c.self.inside.set.now; items = c.next.new.self; regions = c.show_item.new.weaver } in
    next_shown file here gone lines c.in_ok-item.field-0 c.in-Some.item c.show_item.result c.in-Some.is refl
    (λ live before found comes. c.in_ok-item.ensures.told file live before found
    (ap (λ r. bytes_in (seen (g.D.Disk.told c.args.disk.now)) (name_of r)) c.self.view_is ∙ told) comes)
    c.show_item.ensures.shows
    (subst (λ r. Coming file r lines) (sym c.self.view_is) p)

pub returns-in-None-clause-told : goal.returns-in-None-clause-told
returns-in-None-clause-told g c = λ file lines told p.
    let here : VersionPlace =
    record { set = c.self.inside.set.now; items = c.self.inside.items; regions = c.self.inside.weaver } in
    next_none file here c.next.new.self lines c.in_ok-item.field-0 c.in-None.is (λ live before found comes.
    c.in_ok-item.ensures.told file live before found (ap (λ r. bytes_in (seen (g.D.Disk.told c.args.disk.now))
    (name_of r)) c.self.view_is ∙ told) comes)
    (subst (λ r. Coming file r lines) (sym c.self.view_is) p)

pub returns-in_err-item-clause-told : goal.returns-in_err-item-clause-told
returns-in_err-item-clause-told g c = λ file lines told p.
    let here : VersionPlace =
    record { set = c.self.inside.set.now; items = c.self.inside.items; regions = c.self.inside.weaver } in
    let gone : VersionPlace =
    record { set = c.self.inside.set.now; items = c.next.new.self; regions = c.self.inside.weaver } in
    next_fails file here gone lines c.in_err-item.field-0.0 c.from_residual.result
    (exit_is c.from_residual.result c.in_err-item.field-0.0 c.from_residual.ensures.1) (λ live before found comes.
    c.in_err-item.ensures.told file live before found (ap (λ r. bytes_in (seen (g.D.Disk.told c.args.disk.now))
    (name_of r)) c.self.view_is ∙ told) comes)
    (subst (λ r. Coming file r lines) (sym c.self.view_is) p)

pub returns-in-Some-clause-read : goal.returns-in-Some-clause-read
returns-in-Some-clause-read g c = λ live before h.
    let here : VersionPlace =
    record { set = c.self.inside.set.now; items = c.self.inside.items; regions = c.self.inside.weaver } in
    let gone : VersionPlace =
    record { set = c.self.inside.set.now; items = c.next.new.self; regions = c.show_item.new.weaver } in
    next_read live here gone here.regions before c.in_ok-item.field-0 c.in-Some.item c.show_item.result c.in-Some.is
    refl c.in_ok-item.ensures.goes c.show_item.ensures.shows
    (read_same live here here.regions before (subst (λ r. HasRead live r before) (sym c.self.view_is) h))

pub returns-in_err-item-clause-changed : goal.returns-in_err-item-clause-changed
returns-in_err-item-clause-changed g c =
    let exit = exit_is c.from_residual.result c.in_err-item.field-0.0 c.from_residual.ensures.1 in
    let size_is = ap (λ (r : VersionPlace). r.items.size) c.self.view_is in
    let sum_is = ap (λ (r : VersionPlace). r.items.sum) c.self.view_is in
    subst (λ r. HasChanged c.args.self.now.items r) (sym exit)
    (subst (λ n. IsChange n c.args.self.now.items.sum c.in_err-item.field-0.0) size_is
    (subst (λ n. IsChange c.self.inside.items.size n c.in_err-item.field-0.0) sum_is c.in_err-item.ensures.changed))

pub returns-in-None-clause-read : goal.returns-in-None-clause-read
returns-in-None-clause-read g c = λ live before h.
    let here : VersionPlace =
    record { set = c.self.inside.set.now; items = c.self.inside.items; regions = c.self.inside.weaver } in
    end_read live here here.regions c.next.new.self c.self.inside.set.now before c.in_ok-item.field-0 c.in-None.is refl
    c.in_ok-item.ensures.goes
    (read_same live here here.regions before (subst (λ r. HasRead live r before) (sym c.self.view_is) h))
