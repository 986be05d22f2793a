use Rattle.std.proofs.Common.{◌≢◌, ◌<◌, ◌+◌, ◌-◌, arith, get_or, take, drop, length, eq-eqb, length-drop, length-take}
use Rattle.std.proofs.Common.{sym, subst, ◌∙◌}
use Rattle.sccs_keywords.proofs.KeywordLaws.{found_length, found_rest, none_on, none_to, rest_is}
use Rattle.sccs_keywords.proofs.keywords.find_keyword.Goals as goal

pub returns-in-Some-keyword_at-clause-first : goal.returns-in-Some-keyword_at-clause-first
returns-in-Some-keyword_at-clause-first c =
    let line = c.args.line.now in
    let from = c.places.from in
    let rest = take (length line - from) (drop from line) in (
      none_to line from (from + c.in-Some.at) c.places.invariant.none
          (λ k low below. subst (λ l. get_or l k 0 ≢ 37) (rest_is line from) (λ is. c.in-Some.ensures.0.before k low
          (omega arith) (eq-eqb (get_or rest k 0) 37 is))),
      sym (found_rest line (from + c.in-Some.at)) ∙ (sym c.keyword_at.ensures ∙ c.in-Some-keyword_at.is),
    )

pub places-preserved : goal.places-preserved
places-preserved c =
    let line = c.args.line.now in
    let from = c.places.from in
    let rest = take (length line - from) (drop from line) in
    record {
      fits = omega (
        arith,
        c.in-Some.ensures.0.high,
        c.places.invariant.fits,
        length-take (length line - from)
            (drop from line),
        length-drop from line,
      );
      none = none_on line (from + c.in-Some.at)
          (none_to line from (from + c.in-Some.at) c.places.invariant.none
          (λ k low below. subst (λ l. get_or l k 0 ≢ 37) (rest_is line from) (λ is. c.in-Some.ensures.0.before k low
          (omega arith) (eq-eqb (get_or rest k 0) 37 is))))
          (sym (found_rest line (from + c.in-Some.at)) ∙ (sym c.keyword_at.ensures ∙ c.in_default-keyword_at.is));
    }

pub returns-clause-first : goal.returns-clause-first
returns-clause-first c =
    let line = c.args.line.now in
    let from = c.places.from in
    let rest = take (length line - from) (drop from line) in
    none_to line from (length line) c.places.invariant.none
    (λ k low below. subst (λ l. get_or l k 0 ≢ 37) (rest_is line from) (λ is. c.in_default.ensures k low
    (omega (arith, below, length-take (length line - from) (drop from line), length-drop from line))
    (eq-eqb (get_or rest k 0) 37 is)))

pub returns-in-Some-keyword_at-clause-fits : goal.returns-in-Some-keyword_at-clause-fits
returns-in-Some-keyword_at-clause-fits c =
    let line = c.args.line.now in
    let from = c.places.from in
    let place = c.places.from + c.in-Some.at in
    let within : place < length line = omega (
      arith,
      c.in-Some.ensures.0.high,
      c.places.invariant.fits,
      length-take
          (length line - from) (drop from line),
      length-drop from line,
    ) in
    omega (
      arith,
      within,
      length-drop place line,
      found_length (drop place line) c.in-Some-keyword_at.keyword
          (sym (found_rest line place) ∙ (sym c.keyword_at.ensures ∙ c.in-Some-keyword_at.is)),
    )
