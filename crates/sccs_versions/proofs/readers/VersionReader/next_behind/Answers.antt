use Rattle.std.proofs.Common.{Some, ap, refl, subst, sym, ◌∙◌}
use Rattle.sccs_disk.specs.Told.{seen}
use Rattle.sccs_table.specs.ReaderState.{bytes_in}
use Rattle.sccs_table.proofs.ReaderLaws.{same_file}
use Rattle.sccs_body.specs.ItemsRead.{GoesOrStays}
use Rattle.sccs_body.specs.ToCome.{ComesOrStays}
use Rattle.sccs_versions.specs.Coming.{Coming}
use Rattle.sccs_versions.specs.Place.{VersionPlace, name_of}
use Rattle.sccs_versions.specs.WasRead.{HasRead}
use Rattle.sccs_versions.proofs.ReadLaws.{next_read, read_same}
use Rattle.sccs_versions.proofs.ItemLaws.{coming_still, next_shown, read_still}
use Rattle.sccs_versions.proofs.readers.VersionReader.next_behind.Goals as goal

pub returns-in-Some-clause-told : goal.returns-in-Some-clause-told
returns-in-Some-clause-told g c = λ file lines told p.
    let here : VersionPlace =
    record { set = c.self.inside.set.now; items = c.self.inside.items; regions = c.self.inside.weaver } in
    let gone : VersionPlace = record {
      set = c.self.inside.set.now;
      items = c.next_control.new.self;
      regions =
          c.show_item.new.weaver;
    } in
    next_shown file here gone lines (Some c.in-Some.item) c.in-Some.item c.show_item.result refl refl
    (λ live before found comes. subst (λ t. ComesOrStays file live before found c.next_control.new.self t)
    c.in-Some.is (c.next_control.ensures.told file live before found comes)) c.show_item.ensures.shows
    (subst (λ r. Coming file r lines) (sym c.self.view_is) p)

pub returns-in-Some-clause-read : goal.returns-in-Some-clause-read
returns-in-Some-clause-read g c = λ live before h.
    let here : VersionPlace =
    record { set = c.self.inside.set.now; items = c.self.inside.items; regions = c.self.inside.weaver } in
    let gone : VersionPlace = record {
      set = c.self.inside.set.now;
      items = c.next_control.new.self;
      regions =
          c.show_item.new.weaver;
    } in
    next_read live here gone here.regions before (Some c.in-Some.item) c.in-Some.item c.show_item.result refl refl
    (λ live before behind. subst (λ t. GoesOrStays live before c.next_control.new.self t) c.in-Some.is
    (c.next_control.ensures.goes live before behind)) c.show_item.ensures.shows
    (read_same live here here.regions before (subst (λ r. HasRead live r before) (sym c.self.view_is) h))

pub returns-then-branch-clause-told : goal.returns-then-branch-clause-told
returns-then-branch-clause-told g c = λ file lines told p.
    let here : VersionPlace =
    record { set = c.self.inside.set.now; items = c.self.inside.items; regions = c.self.inside.weaver } in
    let gone : VersionPlace =
    record { set = c.self.inside.set.now; items = c.read_on.new.self; regions = c.self.inside.weaver } in
    let file_is = ap (λ name. bytes_in (seen (g.D.Disk.told c.args.disk.now)) name) (c.next_control.ensures.name
    ∙ ap name_of c.self.view_is) ∙ told in
    coming_still file here gone c.next_control.new.self lines c.next_control.result c.in_default.is refl refl
    (c.next_control.ensures.told file) (λ live before found comes. c.in_ok-read_on.ensures.told file live before
    found file_is comes)
    (subst (λ r. Coming file r lines) (sym c.self.view_is) p)

pub returns-then-branch-clause-read : goal.returns-then-branch-clause-read
returns-then-branch-clause-read g c = λ live before h.
    let here : VersionPlace =
    record { set = c.self.inside.set.now; items = c.self.inside.items; regions = c.self.inside.weaver } in
    let gone : VersionPlace =
    record { set = c.self.inside.set.now; items = c.read_on.new.self; regions = c.self.inside.weaver } in
    read_same live gone here.regions before
    (read_still live here gone c.next_control.new.self before c.next_control.result c.in_default.is refl refl
    c.next_control.ensures.goes c.in_ok-read_on.ensures.goes (subst (λ r. HasRead live r before)
    (sym c.self.view_is) h))

pub returns-clause-told : goal.returns-clause-told
returns-clause-told g c = λ file lines told p.
    let here : VersionPlace =
    record { set = c.self.inside.set.now; items = c.self.inside.items; regions = c.self.inside.weaver } in
    let gone : VersionPlace =
    record { set = c.self.inside.set.now; items = c.read_on.new.self; regions = c.self.inside.weaver } in
    let name_is = c.next_control.ensures.name ∙ ap name_of c.self.view_is in
    let file_is = ap (λ name. bytes_in (seen (g.D.Disk.told c.args.disk.now)) name) name_is ∙ told in
    let there = same_file _ _ _ _ (ap seen c.in_ok-read_on.ensures.frame.same) (c.in_ok-read_on.ensures.name ∙ name_is)
    ∙ told in
    c.next_item.ensures.told file lines there
    (coming_still file here gone c.next_control.new.self lines c.next_control.result c.in_default.is refl refl
    (c.next_control.ensures.told file) (λ live before found comes. c.in_ok-read_on.ensures.told file live before
    found file_is comes)
    (subst (λ r. Coming file r lines) (sym c.self.view_is) p))
