use Rattle.std.proofs.Common.{◌∙◌, ap, subst, sym}
use Rattle.std.specs.Prelude.{IfSome}
use Rattle.sccs_grammar.specs.File.{front_of}
use Rattle.sccs_table.specs.FrontFile.{AnswersFront}
use Rattle.sccs_table.specs.ReaderState.{file_in}
use Rattle.sccs_table.proofs.FrontLaws.{exit_is}
use Rattle.sccs_history.specs.History.{is_encoded}
use Rattle.sccs_disk.specs.Told.{seen}
use Rattle.sccs_table.proofs.FileLaws.{front_refused, front_plain, front_encoded}
use Rattle.sccs_table.proofs.fronts.read_header.Goals as goal

pub returns-in_err-front-clause-told : goal.returns-in_err-front-clause-told
returns-in_err-front-clause-told g c =
    let exit = exit_is c.from_residual.result c.in_err-front.field-0.0 c.from_residual.ensures.1 in
    subst (λ r. IfSome (seen (g.D.Disk.told c.args.disk.now)) (λ v. AnswersFront (file_in v c.args.name.now) front_of
    r)) (sym exit) (front_refused (seen (g.D.Disk.told c.args.disk.now)) c.args.name.now c.in_err-front.field-0.0
    c.in_err-front.ensures.told)

pub returns-then-is_encoded-clause-told : goal.returns-then-is_encoded-clause-told
returns-then-is_encoded-clause-told g c = front_encoded (seen (g.D.Disk.told c.args.disk.now)) c.args.name.now
    c.in_ok-front.front (ap is_encoded (sym c.items.ensures) ∙ (sym c.is_encoded.ensures ∙ c.if-is_encoded.true))
    c.in_ok-front.ensures.told

pub returns-else-is_encoded-clause-told : goal.returns-else-is_encoded-clause-told
returns-else-is_encoded-clause-told g c = front_plain (seen (g.D.Disk.told c.args.disk.now)) c.args.name.now
    c.in_ok-front.front (ap is_encoded (sym c.items.ensures) ∙ (sym c.is_encoded.ensures ∙ c.if-is_encoded.false))
    c.in_ok-front.ensures.told

pub returns-else-is_encoded-clause-rules : goal.returns-else-is_encoded-clause-rules
returns-else-is_encoded-clause-rules g c = record {
  rules = c.in_ok-front.ensures.rules;
  plain = ap is_encoded (sym c.items.ensures) ∙ (sym c.is_encoded.ensures ∙ c.if-is_encoded.false);
}
