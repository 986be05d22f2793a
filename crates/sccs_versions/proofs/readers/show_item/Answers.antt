use Rattle.std.proofs.Common.{◌∷◌, Ok, refl, sym, subst}
use Rattle.sccs_history.specs.declared.headers.Item.{Item}
use Rattle.sccs_versions.specs.Regions.{Holds}
use Rattle.sccs_versions.specs.Coming.{ShowsItem}
use Rattle.sccs_versions.specs.declared.readers.Next.TheVariants.{Line, Hidden}
use Rattle.sccs_versions.proofs.ItemLaws.{kept_text, hidden_text}
use Rattle.sccs_versions.proofs.readers.show_item.Goals as goal

pub returns-then-keep-clause-shows : goal.returns-then-keep-clause-shows
returns-then-keep-clause-shows c = λ before holds.
    let behind = subst (λ (i : Item). Holds c.args.set.now (i ∷ before) c.push_item.new.self) c.in-Text.is
    (c.in-Ok.ensures.ok before holds) in
    subst (λ (i : Item). ShowsItem c.args.set.now before i c.push_item.new.self (Ok (Line c.in-Text.line)))
    (sym c.in-Text.is)
    (kept_text c.args.set.now before c.in-Text.line c.push_item.new.self c.keep.result behind c.keep.ensures
    c.if-keep.true)

pub returns-else-keep-clause-shows : goal.returns-else-keep-clause-shows
returns-else-keep-clause-shows c = λ before holds.
    let behind = subst (λ (i : Item). Holds c.args.set.now (i ∷ before) c.push_item.new.self) c.in-Text.is
    (c.in-Ok.ensures.ok before holds) in
    subst (λ (i : Item). ShowsItem c.args.set.now before i c.push_item.new.self (Ok Hidden)) (sym c.in-Text.is)
    (hidden_text c.args.set.now before c.in-Text.line c.push_item.new.self c.keep.result behind c.keep.ensures
    c.if-keep.false)

pub returns-in-Insert-clause-shows : goal.returns-in-Insert-clause-shows
returns-in-Insert-clause-shows c = λ before holds.
    subst (λ (i : Item). ShowsItem c.args.set.now before i c.push_item.new.self (Ok Hidden)) (sym c.in-Insert.is) (
      subst (λ (i : Item). Holds c.args.set.now (i ∷ before) c.push_item.new.self) c.in-Insert.is
          (c.in-Ok.ensures.ok before holds),
      refl,
    )

pub returns-in-Delete-clause-shows : goal.returns-in-Delete-clause-shows
returns-in-Delete-clause-shows c = λ before holds.
    subst (λ (i : Item). ShowsItem c.args.set.now before i c.push_item.new.self (Ok Hidden)) (sym c.in-Delete.is) (
      subst (λ (i : Item). Holds c.args.set.now (i ∷ before) c.push_item.new.self) c.in-Delete.is
          (c.in-Ok.ensures.ok before holds),
      refl,
    )

pub returns-in-End-clause-shows : goal.returns-in-End-clause-shows
returns-in-End-clause-shows c = λ before holds.
    subst (λ (i : Item). ShowsItem c.args.set.now before i c.push_item.new.self (Ok Hidden)) (sym c.in-End.is) (
      subst (λ (i : Item). Holds c.args.set.now (i ∷ before) c.push_item.new.self) c.in-End.is
          (c.in-Ok.ensures.ok before holds),
      refl,
    )
