use Rattle.std.proofs.Common.{◌≤◌, ◌<◌, ◌++◌, ◌∷◌, [], arith, ap, length, sym, subst, take, ◌∙◌}
use Rattle.std.proofs.Math.Seq.{take-length}
use Rattle.sccs_base.specs.Constants.{lf}
use Rattle.sccs_what.proofs.TextLaws.{text_is_front, text_within}
use Rattle.sccs_what.proofs.SearchLaws.{ends, ends_cut, fits_take, giving_cut, giving_ended, giving_searched, goes_on}
use Rattle.sccs_what.proofs.SearchLaws.{goes_on_cut, less_giving, less_left}
use Rattle.sccs_what.proofs.searches.give_text.Goals as goal

pub slice_bounds-text-end : goal.slice_bounds-text-end
slice_bounds-text-end g c = fits_take c.text_length-length.result c.args.bytes.now
    (subst (λ n. n ≤ length c.args.bytes.now) (sym c.text_length-length.ensures) (text_within c.args.bytes.now))

pub returns-in_err-give-clause-piece : goal.returns-in_err-give-clause-piece
returns-in_err-give-clause-piece g c =
    let t = c.args.bytes.now in
    let n = c.text_length-length.result in
    giving_cut c.args.first t c.args.search.now c.args.held.now _ _ _ c.from_residual.result _ c.requires.giving
    c.from_residual.ensures.1
    (goes_on_cut c.args.first t (take n t) n c.args.held.now _ _ c.text_length-length.ensures c.if-length-bytes.true
    (ap (λ k. take k t) c.if-length-bytes.true ∙ take-length t) c.in_err-give.ensures.err)
    c.in_err-give.ensures.empty

pub returns-then-length-bytes-clause-piece : goal.returns-then-length-bytes-clause-piece
returns-then-length-bytes-clause-piece g c =
    let t = c.args.bytes.now in
    let n = c.text_length-length.result in
    giving_searched c.args.first t n c.args.search.now c.args.held.now _ _ _ c.requires.giving
    (goes_on c.args.first t (take n t) n c.args.held.now _ _ _ c.text_length-length.ensures c.if-length-bytes.true
    (ap (λ k. take k t) c.if-length-bytes.true ∙ take-length t) c.in_ok-give.ensures.ok)

pub returns-in_err-give_parts-clause-piece : goal.returns-in_err-give_parts-clause-piece
returns-in_err-give_parts-clause-piece g c =
    let t = c.args.bytes.now in
    let n = c.text_length-length.result in
    let short : n < length t = omega (arith, c.if-length-bytes.false, c.text_length-length.ensures, text_within t) in
    giving_cut c.args.first t c.args.search.now c.args.held.now _ _ _ c.from_residual-in_err-give_parts.result _
    c.requires.giving c.from_residual-in_err-give_parts.ensures.1
    (ends_cut c.args.first t (take n t ++ lf ∷ []) n c.args.held.now _ _ c.text_length-length.ensures short
    (ap (λ k. take k t ++ lf ∷ []) c.text_length-length.ensures ∙ ap (λ x. x ++ lf ∷ []) (text_is_front t))
    c.in_err-give_parts.ensures.err)
    c.in_err-give_parts.ensures.empty

pub returns-clause-piece : goal.returns-clause-piece
returns-clause-piece g c =
    let t = c.args.bytes.now in
    let n = c.text_length-length.result in
    let short : n < length t = omega (arith, c.if-length-bytes.false, c.text_length-length.ensures, text_within t) in
    giving_ended c.args.first t n c.args.search.now c.args.held.now _ _ _ c.requires.giving
    (ends c.args.first t (take n t ++ lf ∷ []) n c.args.held.now _ _ _ c.text_length-length.ensures short
    (ap (λ k. take k t ++ lf ∷ []) c.text_length-length.ensures ∙ ap (λ x. x ++ lf ∷ []) (text_is_front t))
    c.in_ok-give_parts.ensures.ok)

pub returns-then-length-bytes-clause-less : goal.returns-then-length-bytes-clause-less
returns-then-length-bytes-clause-less g c = less_left c.args.search.now c.args.search.now c.args.bytes.now
    c.text_length-length.result (omega (arith, c.if-length-bytes.true, c.requires.some))
    (omega (arith, c.if-length-bytes.true))

pub returns-clause-less : goal.returns-clause-less
returns-clause-less g c = less_giving c.args.search.now c.args.bytes.now c.text_length-length.result c.requires.giving
    (omega (arith, c.text_length-length.ensures, text_within c.args.bytes.now))
