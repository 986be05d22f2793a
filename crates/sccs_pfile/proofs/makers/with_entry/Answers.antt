use Rattle.std.proofs.Common.{true, sym, subst, ap, ◌∙◌}
use Rattle.std.specs.BTreeSet.{contains, Updates}
use Rattle.sccs_grammar.specs.SidKeys.{sid_key}
use Rattle.sccs_pfile.specs.declared.makers.Makers.{Makers}
use Rattle.sccs_pfile.proofs.MadeSidLaws.{first_maker, one_more_maker}
use Rattle.sccs_pfile.proofs.makers.with_entry.Goals as goal
use Rattle.sccs_pfile.proofs.makers.with_entry.Goals.{then-contains+in_ok-insert, else-contains+in_ok-insert-2}
use Rattle.sccs_sid.specs.FourNumbers.{four_cmp}

pub returns : goal.returns
returns c = λ before has.
    let found : Makers = c.args.found in
    let more : Makers = record { some = c.if-contains.some; several = c.if-contains.several } in
    elim c.if-contains.branch [
      | then-contains+in_ok-insert w ↦
          one_more_maker found more before c.args.edit.now has
          (ap (contains four_cmp found.some) (sym c.sid_key.ensures) ∙ (sym c.contains.ensures ∙ w.if-contains.true))
          (subst (λ s. Updates four_cmp found.several s (sid_key c.args.edit.now.made) true) (sym w.several-is)
          (subst (λ key. Updates four_cmp found.several w.insert.new.self key true) w.sid_key-then-contains.ensures
          w.in_ok-insert.ensures.updates))
          w.some-is
      | else-contains+in_ok-insert-2 w ↦
          first_maker found more before c.args.edit.now has
          (ap (contains four_cmp found.some) (sym c.sid_key.ensures) ∙ (sym c.contains.ensures ∙ w.if-contains.false))
          (subst (λ s. Updates four_cmp found.some s (sid_key c.args.edit.now.made) true) (sym w.some-is)
          (subst (λ key. Updates four_cmp found.some w.insert-else-contains.new.self key true)
          w.sid_key-else-contains.ensures w.in_ok-insert-2.ensures.updates))
          w.several-is
    ]
