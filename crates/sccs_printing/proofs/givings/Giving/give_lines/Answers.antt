use Rattle.std.proofs.Common.{◌≡◌, ◌+◌, length, ◌∙◌, arith}
use Rattle.sccs_base.specs.Cut.{cut}
use Rattle.sccs_printing.specs.Giving.{giving_form}
use Rattle.sccs_table.proofs.RunLaws.{lines_are}
use Rattle.sccs_printing.proofs.GivingLaws.{run_counted}
use Rattle.sccs_printing.proofs.RunTexts.{unchanged}
use Rattle.sccs_printing.proofs.givings.Giving.give_lines.Goals as goal

pub give_formed-requires-clause-few : goal.give_formed-requires-clause-few
give_formed-requires-clause-few g c =
    let many : c.args.more ≡ length (cut c.args.lines.now).lines = c.requires.counted ∙ lines_are c.args.lines.now in
    omega (arith, many, c.in-Some.ensures.0)

pub give_formed-requires-clause-same : goal.give_formed-requires-clause-same
give_formed-requires-clause-same g c = λ neither n.
    unchanged (giving_form c.args.self.now) c.args.self.now.sids (c.args.self.now.shown.lines + 1) n c.args.lines.now
    c.replaces-replaces.result c.has_prefix.result c.requires.whole c.has_prefix.ensures c.replaces-replaces.ensures
    neither

pub returns-clause-shown : goal.returns-clause-shown
returns-clause-shown g c = run_counted (giving_form c.args.self.now) c.args.self.now.shown c.give_formed.new.self.shown
    c.args.lines.now c.args.more c.in-Some.count c.replaces-replaces.result c.in_ok-give_formed.ensures.keeps.shown
    c.requires.whole c.requires.counted c.in-Some.ensures.1 c.replaces-replaces.ensures
