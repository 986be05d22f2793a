use Rattle.std.proofs.Common.{ap, ◌∙◌, sym}
use Rattle.std.specs.List.{list_any}
use Rattle.sccs_words.specs.Judge.{is_same}
use Rattle.sccs_words.proofs.LetterLaws.{stays}
use Rattle.sccs_words.proofs.judging.add_letter.Goals as goal

pub returns-else-not-is_there : goal.returns-else-not-is_there
returns-else-not-is_there c = stays c.args.letters.now.items c.args.one
    (ap (list_any (λ other. is_same other c.args.one)) (sym c.deref.ensures.value) ∙ sym c.if-not-is_there.ensures)
