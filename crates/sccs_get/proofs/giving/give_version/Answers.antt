use Rattle.std.proofs.Common.{ap, refl}
use Rattle.std.specs.Str.{bytes_eq}
use Rattle.sccs_base.specs.Name.{y_file}
use Rattle.sccs_disk.specs.Told.{seen}
use Rattle.sccs_store.proofs.Working.{same_touches}
use Rattle.sccs_keywords.specs.Forms.{line_form}
use Rattle.sccs_get.specs.VersionStep.{lines_got}
use Rattle.sccs_get.proofs.GivingLaws.{print_gives, y_gives}
use Rattle.sccs_get.proofs.WholeLaws.{makes_whole, prints_whole}
use Rattle.sccs_get.proofs.giving.give_version.Goals as goal

pub returns-then-words-clause-touches : goal.returns-then-words-clause-touches
returns-then-words-clause-touches g c = same_touches (bytes_eq (y_file c.args.name.now)) _ _ refl

pub returns-then-words-2-clause-gives : goal.returns-then-words-2-clause-gives
returns-then-words-2-clause-gives g c = λ file items err body.
    print_gives c.args.words.now c.args.name.now c.args.front.now.header.records c.args.found.now
    (line_form c.form-form.result) (lines_got c.args.found.now items) c.print_text.result _ _ _ _ err
    c.if-words.false c.if-words-2.true c.form-form.ensures (ap seen c.print_text.ensures.same)
    (c.print_text.ensures.prints file items body) (c.print_text.ensures.found file items body)

pub returns-then-words-2-clause-touches : goal.returns-then-words-2-clause-touches
returns-then-words-2-clause-touches g c = same_touches (bytes_eq (y_file c.args.name.now)) _ _ c.print_text.ensures.same

pub returns-else-words-2-clause-gives : goal.returns-else-words-2-clause-gives
returns-else-words-2-clause-gives g c = λ file items err body.
    y_gives c.args.words.now c.args.name.now c.args.front.now.header.records c.args.found.now
    (line_form c.form-form.result) c.mode_of.result (lines_got c.args.found.now items) c.make_y.result _ _ _ err
    c.if-words.false c.if-words-2.false c.form-form.ensures c.mode_of.ensures
    (c.make_y.ensures.view file items body)

pub returns-then-words-2-clause-whole : goal.returns-then-words-2-clause-whole
returns-then-words-2-clause-whole g c =
    prints_whole c.args.words.now c.args.name.now c.args.front.now.header.records c.args.found.now
    (line_form c.form-form.result) _ _ _ c.print_text.result c.if-words-2.true c.form-form.ensures
    c.print_text.ensures.whole

pub returns-else-words-2-clause-whole : goal.returns-else-words-2-clause-whole
returns-else-words-2-clause-whole g c =
    makes_whole c.args.words.now c.args.name.now c.args.front.now.header.records c.args.found.now
    (line_form c.form-form.result) _ _ _ c.make_y.result c.mode_of.result c.if-words-2.false c.form-form.ensures
    c.mode_of.ensures refl c.make_y.ensures.whole
