use Rattle.std.proofs.Common.{take, drop, sym, ap, ◌∙◌, arith, rules}
use Rattle.sccs_script.specs.Drafts.{expand}
use Rattle.sccs_script.proofs.PieceLaws.{few_of_run, run_back, run_front}
use Rattle.sccs_script.proofs.pieces.cut_piece.Goals as goal

pub overflow_add-result : goal.overflow_add-result
overflow_add-result c = let few = few_of_run c.args.piece c.in-Kept.first c.in-Kept.last c.args.place c.in-Kept.is
    c.requires.few in search (rules, arith)

pub overflow_add-result-in-Kept : goal.overflow_add-result-in-Kept
overflow_add-result-in-Kept c = let few = few_of_run c.args.piece c.in-Kept.first c.in-Kept.last c.args.place
    c.in-Kept.is c.requires.few in search (rules, arith)

pub returns-clause-first : goal.returns-clause-first
returns-clause-first c =
    let few = few_of_run c.args.piece c.in-Kept.first c.in-Kept.last c.args.place c.in-Kept.is c.requires.few in
    run_front c.in-Kept.first c.in-Kept.last c.args.place c.requires.some few ∙ ap (λ p. take c.args.place (expand p))
    (sym c.in-Kept.is)

pub returns-clause-last : goal.returns-clause-last
returns-clause-last c =
    let few = few_of_run c.args.piece c.in-Kept.first c.in-Kept.last c.args.place c.in-Kept.is c.requires.few in
    run_back c.in-Kept.first c.in-Kept.last c.args.place c.requires.some few ∙ ap (λ p. drop c.args.place (expand p))
    (sym c.in-Kept.is)

pub returns-clause-last_piece : goal.returns-clause-last_piece
returns-clause-last_piece c =
    let few = few_of_run c.args.piece c.in-Kept.first c.in-Kept.last c.args.place c.in-Kept.is c.requires.few in
    (omega (arith, c.requires.some), omega (arith, few, c.requires.some))
