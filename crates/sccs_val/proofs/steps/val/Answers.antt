use Rattle.std.proofs.Common.{◌≡◌, ◌∙◌, true, false, arith, sym}
use Rattle.sccs_disk.specs.Told.{seen}
use Rattle.sccs_val.proofs.JudgingLaws.{as_step}
use Rattle.sccs_val.proofs.LineLaws.{val_by_lines, val_by_words}
use Rattle.sccs_val.proofs.steps.val.Goals as goal

pub returns-then-takes_lines-clause-told : goal.returns-then-takes_lines-clause-told
returns-then-takes_lines-clause-told g c = val_by_lines (seen (g.D.Disk.told c.args.disk.now)) c.args.words.now
    (g.I.Source.left c.args.input.now) c.print_input.result _ _ (sym c.takes_lines.ensures ∙ c.if-takes_lines.true)
    c.print_input.ensures.told

pub returns-clause-told : goal.returns-clause-told
returns-clause-told g c = val_by_words (seen (g.D.Disk.told c.args.disk.now)) c.args.words.now
    (g.I.Source.left c.args.input.now) c.print_words.result _ _ (sym c.takes_lines.ensures ∙ c.if-takes_lines.false)
    c.print_words.ensures.checks c.print_words.ensures.told

pub returns-clause-long : goal.returns-clause-long
returns-clause-long g c = λ refusal is. absurd (let no : false ≡ true = c.print_words.ensures.checks refusal is in cc)

pub returns-clause-causes : goal.returns-clause-causes
returns-clause-causes g c = λ err. as_step c.print_words.result _ _ _ _ err _ _
    (omega arith) c.print_words.ensures.causes
