use Rattle.std.proofs.Common.{◌≡◌, true, false, sym, ◌∙◌}
use Rattle.sccs_history.specs.FlagText.{is_release}
use Rattle.sccs_rules.proofs.Parts.{piece_alone, piece_fails, piece_passes}
use Rattle.sccs_rules.proofs.forms.are_joined.Goals as goal

pub returns-then-not-is_release : goal.returns-then-not-is_release
returns-then-not-is_release c =
    let fails : is_release c.cut_at.result.0.now ≡ false = cc in
    sym (c.pieces.invariant ∙ piece_fails c.pieces.rest.now c.cut_at.result.0.now c.cut_at.ensures.piece fails)

pub pieces-preserved : goal.pieces-preserved
pieces-preserved c =
    let fits : is_release c.cut_at.result.0.now ≡ true = cc in
    let next = rw c.in-Some.is at c.cut_at.ensures.rest in
    c.pieces.invariant ∙ piece_passes c.pieces.rest.now c.cut_at.result.0.now c.in-Some.more.now c.cut_at.ensures.piece
    fits (sym next)

pub returns-in-None : goal.returns-in-None
returns-in-None c =
    let fits : is_release c.cut_at.result.0.now ≡ true = cc in
    let last = rw c.in-None.is at c.cut_at.ensures.rest in
    sym (c.pieces.invariant ∙ piece_alone c.pieces.rest.now c.cut_at.result.0.now c.cut_at.ensures.piece fits
    (sym last))
