use Rattle.std.proofs.Common.{[], ◌∷◌, ◌++◌, ap, sym, ◌∙◌, take}
use Rattle.std.specs.List.{list_any}
use Rattle.sccs_words.specs.Judge.{use_fault}
use Rattle.sccs_words.specs.declared.judging.UsedLetter.{UsedLetter}
use Rattle.sccs_words.proofs.FirstFaults.{fault_turn, none_turn, none_end}
use Rattle.sccs_words.proofs.LetterLaws.{found_by, more_letters}
use Rattle.sccs_words.proofs.judging.uses_fault.Goals as goal

pub returns-in-Some : goal.returns-in-Some
returns-in-Some c =
    fault_turn (use_fault c.args.utility) c.args.uses.now c.uses.one-index c.one-item.result _ _ c.uses-test.true
    c.one-item.is
    (sym c.in-Some.is ∙ found_by c.args.utility c.deref.result.now c.uses.letters.items
    (take c.uses.one-index c.args.uses.now) c.one-item.result _ c.deref.ensures.value c.uses.invariant.1
    c.in_ok-found.ensures) c.uses.invariant.0

pub uses-preserved : goal.uses-preserved
uses-preserved c = (
  none_turn (use_fault c.args.utility) c.args.uses.now c.uses.one-index c.one-item.result _ c.uses-test.true
      c.one-item.is
      (sym c.in-None.is ∙ found_by c.args.utility c.deref.result.now c.uses.letters.items
      (take c.uses.one-index c.args.uses.now) c.one-item.result _ c.deref.ensures.value c.uses.invariant.1
      c.in_ok-found.ensures) c.uses.invariant.0,
  more_letters c.uses.letters.items c.add_letter.new.letters.items c.args.uses.now c.uses.one-index c.one-item.result
      c.uses-test.true c.one-item.is (λ test. c.in_ok-add_letter.ensures test
      ∙ ap (λ (one : UsedLetter). list_any test (c.uses.letters.items ++ one ∷ [])) c.used_letter.ensures)
      c.uses.invariant.1,
)

pub returns : goal.returns
returns c = none_end (use_fault c.args.utility) c.args.uses.now c.uses.one-index _ c.uses-test.false c.uses.invariant.0
