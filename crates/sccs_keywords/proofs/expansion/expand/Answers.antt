use Rattle.std.proofs.Common.{◌+◌, ◌-◌, ◌++◌, length, take, drop, refl, ◌∙◌, append_assoc, arith, length-take}
use Rattle.std.proofs.Common.{length-drop}
use Rattle.sccs_keywords.specs.Expansion.{expanded, keyword_text}
use Rattle.sccs_keywords.proofs.GiveLaws.{after_given, given_ok, text_fails, text_then, text_whole}
use Rattle.sccs_keywords.proofs.KeywordLaws.{last_text, turn_text}
use Rattle.sccs_keywords.proofs.expansion.expand.Goals as goal

pub returns-in_default-give : goal.returns-in_default-give
returns-in_default-give g c =
    text_fails (c.keywords.invariant.0 ++ (take (c.keywords.from + c.in-Some.place - c.keywords.from)
    (drop c.keywords.from c.args.line.now))) ((keyword_text c.args.facts.now c.args.number c.in-Some.keyword)
    ++ (expanded c.args.facts.now c.args.number (drop (c.keywords.from + (c.in-Some.place + 3)) c.args.line.now))) _
    _ _ _ _ c.give.result c.in_default-give.field-0 _
    (turn_text c.args.facts.now c.args.number c.args.line.now c.keywords.invariant.0 _ c.keywords.from c.in-Some.place
    c.in-Some.keyword c.in-Some.ensures.first.0 c.in-Some.ensures.first.1 c.keywords.invariant.2)
    c.in_default-give.is
    (after_given c.keywords.invariant.0 (take (c.keywords.from + c.in-Some.place - c.keywords.from)
    (drop c.keywords.from c.args.line.now)) _ _ _ _ _ _ c.give.result c.keywords.invariant.1 c.keywords.invariant.4
    c.give.ensures)

pub returns-in_default-give_keyword : goal.returns-in_default-give_keyword
returns-in_default-give_keyword g c =
    text_fails ((c.keywords.invariant.0 ++ (take (c.keywords.from + c.in-Some.place - c.keywords.from)
    (drop c.keywords.from c.args.line.now))) ++ (keyword_text c.args.facts.now c.args.number c.in-Some.keyword))
    (expanded c.args.facts.now c.args.number (drop (c.keywords.from + (c.in-Some.place + 3)) c.args.line.now)) _ _ _
    _ _ c.give_keyword.result c.in_default-give_keyword.field-0 _
    (append_assoc (c.keywords.invariant.0 ++ (take (c.keywords.from + c.in-Some.place - c.keywords.from)
    (drop c.keywords.from c.args.line.now))) (keyword_text c.args.facts.now c.args.number c.in-Some.keyword)
    (expanded c.args.facts.now c.args.number (drop (c.keywords.from + (c.in-Some.place + 3)) c.args.line.now))
    ∙ turn_text c.args.facts.now c.args.number c.args.line.now c.keywords.invariant.0 _ c.keywords.from
    c.in-Some.place c.in-Some.keyword c.in-Some.ensures.first.0 c.in-Some.ensures.first.1 c.keywords.invariant.2)
    c.in_default-give_keyword.is
    (text_then (c.keywords.invariant.0 ++ (take (c.keywords.from + c.in-Some.place - c.keywords.from)
    (drop c.keywords.from c.args.line.now))) (keyword_text c.args.facts.now c.args.number c.in-Some.keyword) _ _ _ _
    _ _ _ c.give.result c.give_keyword.result _ refl c.in-Ok.is
    (after_given c.keywords.invariant.0 (take (c.keywords.from + c.in-Some.place - c.keywords.from)
    (drop c.keywords.from c.args.line.now)) _ _ _ _ _ _ c.give.result c.keywords.invariant.1 c.keywords.invariant.4
    c.give.ensures) c.give_keyword.ensures)

pub keywords-preserved : goal.keywords-preserved
keywords-preserved g c = (
  (c.keywords.invariant.0 ++ (take (c.keywords.from + c.in-Some.place - c.keywords.from)
      (drop c.keywords.from c.args.line.now))) ++ (keyword_text c.args.facts.now c.args.number c.in-Some.keyword),
  given_ok ((c.keywords.invariant.0 ++ (take (c.keywords.from + c.in-Some.place - c.keywords.from)
      (drop c.keywords.from c.args.line.now))) ++ (keyword_text c.args.facts.now c.args.number c.in-Some.keyword)) _ _ _
      _ c.give_keyword.result _ c.in-Ok-give_keyword.is
      (text_then (c.keywords.invariant.0 ++ (take (c.keywords.from + c.in-Some.place - c.keywords.from)
      (drop c.keywords.from c.args.line.now))) (keyword_text c.args.facts.now c.args.number c.in-Some.keyword) _ _ _
      _ _ _ _ c.give.result c.give_keyword.result _ refl c.in-Ok.is
      (after_given c.keywords.invariant.0 (take (c.keywords.from + c.in-Some.place - c.keywords.from)
      (drop c.keywords.from c.args.line.now)) _ _ _ _ _ _ c.give.result c.keywords.invariant.1
      c.keywords.invariant.4 c.give.ensures) c.give_keyword.ensures),
  append_assoc (c.keywords.invariant.0 ++ (take (c.keywords.from + c.in-Some.place - c.keywords.from)
      (drop c.keywords.from c.args.line.now))) (keyword_text c.args.facts.now c.args.number c.in-Some.keyword)
      (expanded c.args.facts.now c.args.number (drop (c.keywords.from + (c.in-Some.place + 3)) c.args.line.now))
      ∙ turn_text c.args.facts.now c.args.number c.args.line.now c.keywords.invariant.0 _ c.keywords.from
      c.in-Some.place c.in-Some.keyword c.in-Some.ensures.first.0 c.in-Some.ensures.first.1 c.keywords.invariant.2,
  omega (
    arith,
    c.in-Some.ensures.fits,
    c.keywords.invariant.3,
    length-take (length c.args.line.now - c.keywords.from)
        (drop c.keywords.from c.args.line.now),
    length-drop c.keywords.from c.args.line.now,
  ),
  omega (arith, c.keywords.invariant.4, c.give.ensures.later, c.give_keyword.ensures.later),
)

pub returns : goal.returns
returns g c =
    text_whole _ _ _ _ _ _ c.give-2.result
    (last_text c.args.facts.now c.args.number c.args.line.now c.keywords.invariant.0 _ c.keywords.from
    c.in_default.ensures.first c.keywords.invariant.2)
    (after_given c.keywords.invariant.0 _ _ _ _ _ _ _ c.give-2.result c.keywords.invariant.1 c.keywords.invariant.4
    c.give-2.ensures)
