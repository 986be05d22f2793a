use Rattle.std.proofs.Common.{◌+◌, arith, sym, ap, ◌∙◌}
use Rattle.sccs_what.specs.Texts.{is_marked}
use Rattle.sccs_what.proofs.SearchLaws.{cut_off, marks, marks_cut, passes_one, passes_to, rest_is, searched}
use Rattle.sccs_what.proofs.searches.find_mark.Goals as goal

pub returns-then-bytes-at-lt-MARK_LENGTH-clause-piece : goal.returns-then-bytes-at-lt-MARK_LENGTH-clause-piece
returns-then-bytes-at-lt-MARK_LENGTH-clause-piece g c =
    let at = c.find_at_sign-at.result in
    searched c.args.first c.args.bytes.now at c.args.search.now c.args.search.now _ _ _ _
    (passes_to c.args.first c.args.search.now c.args.bytes.now at _ _ c.requires.other
    c.find_at_sign-at.ensures.within c.find_at_sign-at.ensures.before)

pub returns-then-not-is_marked-clause-piece : goal.returns-then-not-is_marked-clause-piece
returns-then-not-is_marked-clause-piece g c =
    let at = c.find_at_sign-at.result in
    searched c.args.first c.args.bytes.now (at + 1) c.args.search.now c.args.search.now _ _ _ _
    (passes_one c.args.first c.args.search.now c.args.bytes.now at _ _ c.requires.other
    (omega (arith, c.if-bytes-at-lt-MARK_LENGTH.false, c.find_at_sign-at.ensures.within))
    c.find_at_sign-at.ensures.before (ap is_marked (sym (rest_is c.args.bytes.now at)) ∙ (sym c.is_marked.ensures
    ∙ c.if-not-is_marked.true)))

pub returns-in_err-give-clause-piece : goal.returns-in_err-give-clause-piece
returns-in_err-give-clause-piece g c =
    let at = c.find_at_sign-at.result in
    cut_off c.args.first c.args.bytes.now c.args.search.now c.args.search.now c.args.held.now _ _ _
    c.from_residual.result _ c.from_residual.ensures.1
    (marks_cut c.args.first c.args.search.now c.args.bytes.now at c.args.held.now _ _ c.requires.seeking
    c.requires.other (omega (arith, c.if-bytes-at-lt-MARK_LENGTH.false, c.find_at_sign-at.ensures.within))
    c.find_at_sign-at.ensures.before (ap is_marked (sym (rest_is c.args.bytes.now at)) ∙ (sym c.is_marked.ensures
    ∙ c.if-not-is_marked.false)) c.in_err-give.ensures.err)
    c.in_err-give.ensures.empty

pub returns-clause-piece : goal.returns-clause-piece
returns-clause-piece g c =
    let at = c.find_at_sign-at.result in
    searched c.args.first c.args.bytes.now (at + 4) c.args.search.now _ _ _ _ _
    (marks c.args.first c.args.search.now c.args.bytes.now at c.args.held.now _ _ _ c.requires.seeking c.requires.other
    (omega (arith, c.if-bytes-at-lt-MARK_LENGTH.false, c.find_at_sign-at.ensures.within))
    c.find_at_sign-at.ensures.before (ap is_marked (sym (rest_is c.args.bytes.now at)) ∙ (sym c.is_marked.ensures
    ∙ c.if-not-is_marked.false)) c.in_ok-give.ensures.ok)
