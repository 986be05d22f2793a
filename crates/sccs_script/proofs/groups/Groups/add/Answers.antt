use Rattle.std.proofs.Common.{◌≡◌, ◌++◌, [], List, IfOk, sym, subst}
use Rattle.sccs_script_laws.specs.Plans.{with_added}
use Rattle.sccs_script.specs.Drafts.{DraftLine, expand, grouped, IsPiece}
use Rattle.sccs_script.specs.declared.pieces.Piece.TheVariants as pieces
use Rattle.sccs_script.proofs.DraftLaws.{if_three}
use Rattle.sccs_script.proofs.PlanLaws.{ended_group}
use Rattle.sccs_script.proofs.groups.Groups.add.Goals as goal

pub returns-in-Kept : goal.returns-in-Kept
returns-in-Kept c =
    let fits = subst IsPiece c.in-Kept.is c.requires in
    subst (λ p. IfOk c.end.result (λ g. (rest : List DraftLine) → g.done ++ grouped g.after g.lines rest
    ≡ c.args.self.done ++ grouped c.args.self.after c.args.self.lines (expand p ++ rest))) (sym c.in-Kept.is)
    (if_three c.end.result (λ g. g.done ≡ c.args.self.done ++ with_added c.args.self.after c.args.self.lines [])
    (λ g. g.after ≡ c.in-Kept.last) (λ g. g.lines ≡ [])
    (λ g. (rest : List DraftLine) → g.done ++ grouped g.after g.lines rest ≡ c.args.self.done
    ++ grouped c.args.self.after c.args.self.lines (expand (pieces.Kept c.in-Kept.field-0 c.in-Kept.last) ++ rest))
    (λ g done after lines rest. ended_group c.args.self.done g.done c.args.self.after c.args.self.lines g.lines
    c.in-Kept.field-0 c.in-Kept.last g.after rest fits.1 done after lines)
    c.end.ensures.done c.end.ensures.after c.end.ensures.lines)
