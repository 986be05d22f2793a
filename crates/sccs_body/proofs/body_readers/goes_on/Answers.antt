use Rattle.std.proofs.Common.{◌∙◌, true, refl, sym}
use Rattle.sccs_history.specs.declared.headers.Item.TheVariants.{Text, Insert, Delete, End}
use Rattle.sccs_body.proofs.ItemLaws.{so_is, behind_text}
use Rattle.sccs_body.proofs.body_readers.goes_on.Goals as goal

pub returns-in-Text-clause-goes : goal.returns-in-Text-clause-goes
returns-in-Text-clause-goes c = λ live before knows.
    so_is live before c.args.state.now c.may_stand_text.result c.args.item.now (Text c.in-Text.field-0) c.in-Text.is (
      sym (c.may_stand_text.ensures live before c.in-Text.field-0 knows),
      λ stands.
          behind_text live before c.in-Text.field-0 c.args.state.now knows,
    )

pub returns-in_ok-open-in-Insert-clause-goes : goal.returns-in_ok-open-in-Insert-clause-goes
returns-in_ok-open-in-Insert-clause-goes c = λ live before knows.
    let may = sym (c.may_open.ensures.insert live before knows) ∙ c.if-not-may_open.false in
    so_is live before c.open.new.self true c.args.item.now (Insert c.in-Insert.serial) c.in-Insert.is
    (may, λ stands. c.in_ok-open-in-Insert.ensures.insert live before knows may refl)

pub returns-in_ok-open-in-Delete-clause-goes : goal.returns-in_ok-open-in-Delete-clause-goes
returns-in_ok-open-in-Delete-clause-goes c = λ live before knows.
    let may = sym (c.may_open-in-Delete.ensures.delete live before knows) ∙ c.if-not-may_open-2.false in
    so_is live before c.open-in-Delete.new.self true c.args.item.now (Delete c.in-Delete.serial) c.in-Delete.is
    (may, λ stands. c.in_ok-open-in-Delete.ensures.delete live before knows may refl)

pub returns-else-not-may_end-clause-goes : goal.returns-else-not-may_end-clause-goes
returns-else-not-may_end-clause-goes c = λ live before knows.
    let may = sym (c.may_end.ensures live before knows) ∙ c.if-not-may_end.false in
    so_is live before c.end.new.self true c.args.item.now (End c.in-End.serial) c.in-End.is
    (may, λ stands. c.end.ensures live before knows)
