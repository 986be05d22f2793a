use Rattle.std.proofs.Common.{◌≡◌, true, false, sym, ◌∙◌}
use Rattle.sccs_sid.specs.Words.{words}
use Rattle.sccs_flags.specs.FlagValues.{has_release}
use Rattle.sccs_flags.proofs.PieceTests.{first_has, last_lacks, first_lacks}
use Rattle.sccs_flags.proofs.flag_values.lists_release.Goals as goal

pub returns-then-has_release : goal.returns-then-has_release
returns-then-has_release c =
    let there : has_release (words c.cut_at.result.0.now) c.args.release ≡ true = cc in
    sym (c.pieces.invariant ∙ first_has c.pieces.rest.now c.cut_at.result.0.now c.args.release c.cut_at.ensures.piece
    there)

pub pieces-preserved : goal.pieces-preserved
pieces-preserved c =
    let not_there : has_release (words c.cut_at.result.0.now) c.args.release ≡ false = cc in
    let next = rw c.in-Some.is at c.cut_at.ensures.rest in
    c.pieces.invariant ∙ first_lacks c.pieces.rest.now c.cut_at.result.0.now c.in-Some.more.now c.args.release
    c.cut_at.ensures.piece not_there (sym next)

pub returns-in-None : goal.returns-in-None
returns-in-None c =
    let not_there : has_release (words c.cut_at.result.0.now) c.args.release ≡ false = cc in
    let last = rw c.in-None.is at c.cut_at.ensures.rest in
    sym (c.pieces.invariant ∙ last_lacks c.pieces.rest.now c.cut_at.result.0.now c.args.release c.cut_at.ensures.piece
    not_there (sym last))
