use Rattle.std.proofs.Common.{List, ℕ, rules, subst, ◌++◌}
use Rattle.sccs_base.specs.Stream.{GivesSome}
use Rattle.sccs_what.specs.Owed.{Searches, what_owed}
use Rattle.sccs_what.proofs.SearchLaws.{both, cut_off, rest_is, then_cut}
use Rattle.sccs_what.proofs.searches.search_piece.Goals as goal

pub returns-in_err-at-clause-piece : goal.returns-in_err-at-clause-piece
returns-in_err-at-clause-piece g c =
    let piece = c.args.piece.now in
    cut_off c.args.first piece c.args.search.now c.step.new.search c.args.held.now c.step.new.held
    (g.O.Sink.given c.args.out.now) (g.O.Sink.given c.step.new.out) c.from_residual.result _
    c.from_residual.ensures.1
    (then_cut c.args.first piece c.steps.at c.args.search.now c.steps.search c.args.held.now c.steps.held
    (g.O.Sink.given c.args.out.now) (g.O.Sink.given c.steps.out) (g.O.Sink.given c.step.new.out)
    c.steps.invariant.so_far
    (λ rest. subst (λ (l : List ℕ). GivesSome (g.O.Sink.given c.steps.out) (g.O.Sink.given c.step.new.out)
    (c.steps.held ++ what_owed c.args.first c.steps.search (l ++ rest))) (rest_is piece c.steps.at)
    (c.in_err-at.ensures.piece.err rest)))
    c.in_err-at.ensures.piece.empty

pub steps-preserved : goal.steps-preserved
steps-preserved g c =
    let piece = c.args.piece.now in
    record {
      so_far = both c.args.first piece c.steps.at c.in_ok-at.field-0 c.args.search.now c.steps.search c.step.new.search
          c.args.held.now c.steps.held c.step.new.held (g.O.Sink.given c.args.out.now) (g.O.Sink.given c.steps.out)
          (g.O.Sink.given c.step.new.out)
          c.steps.invariant.so_far (subst (λ (l : List ℕ). Searches c.args.first l c.in_ok-at.field-0 c.steps.search
          c.step.new.search c.steps.held c.step.new.held (g.O.Sink.given c.steps.out)
          (g.O.Sink.given c.step.new.out)) (rest_is piece c.steps.at) c.in_ok-at.ensures.piece.ok);
      later = search rules;
    }
