use Rattle.std.proofs.Common.{◌≡◌, true, false, sym, ◌∙◌}
use Rattle.sccs_history.specs.FlagText.{are_spaced}
use Rattle.sccs_tokens.proofs.ReleaseLaws.{first_fails, first_alone, first_passes}
use Rattle.sccs_grammar.proofs.flag_texts.are_releases.Goals as goal

pub returns-then-not-are_spaced : goal.returns-then-not-are_spaced
returns-then-not-are_spaced c =
    let fails : are_spaced c.cut_at.result.0.now ≡ false = cc in
    sym (c.pieces.invariant ∙ first_fails c.pieces.rest.now c.cut_at.result.0.now c.cut_at.ensures.piece fails)

pub pieces-preserved : goal.pieces-preserved
pieces-preserved c =
    let fits : are_spaced c.cut_at.result.0.now ≡ true = cc in
    let next = rw c.in-Some.is at c.cut_at.ensures.rest in
    c.pieces.invariant ∙ first_passes c.pieces.rest.now c.cut_at.result.0.now c.in-Some.more.now c.cut_at.ensures.piece
    fits (sym next)

pub returns-in-None : goal.returns-in-None
returns-in-None c =
    let fits : are_spaced c.cut_at.result.0.now ≡ true = cc in
    let last = rw c.in-None.is at c.cut_at.ensures.rest in
    sym (c.pieces.invariant ∙ first_alone c.pieces.rest.now c.cut_at.result.0.now c.cut_at.ensures.piece fits
    (sym last))
