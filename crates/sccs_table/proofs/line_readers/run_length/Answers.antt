use Rattle.std.proofs.Common.{◌∙◌, arith, sym, get_or, take, eq-eqb, length-take}
use Rattle.std.proofs.lemmas.Bool.{eqb-true}
use Rattle.sccs_table.proofs.RunLaws.{longest_none, longest_to, mark_stops, no_run, run_to, run_to_mark}
use Rattle.sccs_table.proofs.line_readers.run_length.Goals as goal

pub returns-then-begins_with_soh-clause-run : goal.returns-then-begins_with_soh-clause-run
returns-then-begins_with_soh-clause-run c = no_run

pub returns-in-Some-clause-run : goal.returns-in-Some-clause-run
returns-in-Some-clause-run c =
    run_to c.args.bytes.now c.mark_place-end.result c.in-Some.at c.mark_place-end.ensures.fits
    (sym c.begins_with_soh.ensures ∙ c.if-begins_with_soh.false) c.mark_place-end.ensures.first
    (omega (arith, c.in-Some.ensures.0.high, length-take c.mark_place-end.result c.args.bytes.now))
    (eqb-true _ 10 c.in-Some.ensures.1)

pub returns-in-Some-clause-longest : goal.returns-in-Some-clause-longest
returns-in-Some-clause-longest c =
    longest_to c.args.bytes.now c.mark_place-end.result c.in-Some.at c.mark_place-end.ensures.fits
    c.mark_place-end.ensures.mark
    (omega (arith, c.in-Some.ensures.0.high, length-take c.mark_place-end.result c.args.bytes.now))
    (λ k low high is. c.in-Some.ensures.0.after k low
    (omega (arith, length-take c.mark_place-end.result c.args.bytes.now))
    (eq-eqb (get_or (take c.mark_place-end.result c.args.bytes.now) k 0) 10 is))

pub returns-in-None-clause-run : goal.returns-in-None-clause-run
returns-in-None-clause-run c = no_run

pub returns-in-None-clause-longest : goal.returns-in-None-clause-longest
returns-in-None-clause-longest c =
    longest_none c.args.bytes.now c.mark_place-end.result c.mark_place-end.ensures.fits c.mark_place-end.ensures.mark
    (λ k low high is. c.in-None.ensures k low (omega (arith, length-take c.mark_place-end.result c.args.bytes.now))
    (eq-eqb (get_or (take c.mark_place-end.result c.args.bytes.now) k 0) 10 is))

pub returns-then-end-bytes-clause-run : goal.returns-then-end-bytes-clause-run
returns-then-end-bytes-clause-run c =
    run_to_mark c.args.bytes.now c.mark_place-end.result c.if-end-bytes.true (sym c.begins_with_soh.ensures
    ∙ c.if-begins_with_soh.false) c.mark_place-end.ensures.first (c.mark_place-end.ensures.mark c.if-end-bytes.true)

pub returns-then-end-bytes-clause-longest : goal.returns-then-end-bytes-clause-longest
returns-then-end-bytes-clause-longest c = mark_stops c.args.bytes.now c.mark_place-end.result c.if-end-bytes.true
    (c.mark_place-end.ensures.mark c.if-end-bytes.true)
