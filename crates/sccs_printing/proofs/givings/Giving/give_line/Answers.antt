use Rattle.std.proofs.Common.{ℕ, List, ap, ◌∙◌}
use Rattle.std.specs.List.{list_any}
use Rattle.sccs_keywords.specs.Keywords.{is_keyword, parts}
use Rattle.sccs_keywords.specs.Forms.{if_replaced}
use Rattle.sccs_printing.specs.Giving.{giving_form}
use Rattle.sccs_printing.proofs.RunTexts.{line_unchanged}
use Rattle.sccs_printing.proofs.givings.Giving.give_line.Goals as goal

pub give_one-requires-clause-same : goal.give_one-requires-clause-same
give_one-requires-clause-same g c = λ neither.
    line_unchanged (giving_form c.args.self.now) c.args.self.now.sids c.in-Some.number c.args.inserter c.args.line.now
    c.replaces-replaces.result c.has_prefix.result c.has_prefix.ensures (c.replaces-replaces.ensures
    ∙ ap (λ (bytes : List ℕ). if_replaced (giving_form c.args.self.now).facts (list_any is_keyword (parts bytes)))
    c.bytes.ensures.value) neither
