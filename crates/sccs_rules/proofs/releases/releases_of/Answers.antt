use Rattle.std.proofs.Common.{sym, ◌∙◌}
use Rattle.sccs_rules.proofs.Parts.{all_releases, more_releases}
use Rattle.sccs_rules.proofs.releases.releases_of.Goals as goal

pub pieces-preserved : goal.pieces-preserved
pieces-preserved c =
    let next = rw c.in-Some.is at c.cut_at.ensures.rest in
    more_releases c.pieces.releases.items c.push_releases.new.releases.items c.pieces.rest.now c.cut_at.result.0.now
    c.in-Some.more.now c.in_ok-push_releases.ensures c.cut_at.ensures.piece (sym next) ∙ c.pieces.invariant

pub returns-in-None : goal.returns-in-None
returns-in-None c =
    let last = rw c.in-None.is at c.cut_at.ensures.rest in
    sym (all_releases c.pieces.releases.items c.push_releases.new.releases.items c.pieces.rest.now c.cut_at.result.0.now
    c.in_ok-push_releases.ensures c.cut_at.ensures.piece (sym last)) ∙ c.pieces.invariant
