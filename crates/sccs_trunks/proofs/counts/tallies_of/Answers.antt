use Rattle.std.proofs.Common.{◌≡◌, ◌∙◌, ◌+◌, ◌++◌, suc, ap, arith, drop, length, refl, sym}
use Rattle.std.proofs.lemmas.Option.{slice_get_past, slice_get_read}
use Rattle.sccs_trunks.specs.Counts.{tally_of, with_more}
use Rattle.sccs_trunks.specs.Runs.{lines_of, run_lines}
use Rattle.sccs_trunks.proofs.Places.{from_end, from_place}
use Rattle.sccs_trunks.proofs.Tallies.{next_run, no_run}
use Rattle.sccs_trunks.proofs.counts.tallies_of.Goals as goal

pub runs-preserved : goal.runs-preserved
runs-preserved c =
    let there = slice_get_read c.args.runs.now (length c.args.runs.now) c.runs.at c.in-Some.run'.now refl
    c.in-Some.ensures.lookup.3.0 c.in-Some.ensures.lookup.1 in
    let next : c.runs.at + 1 ≡ suc c.runs.at = omega arith in
    next_run (lines_of c.in-Some.run'.now) (run_lines (drop (c.runs.at + 1) c.args.runs.now)) c.runs.tallies.items
    c.add_run.new.tallies.items c.in_ok-add_run.ensures
    ∙ (ap (λ k. with_more 1 (tally_of (lines_of c.in-Some.run'.now ++ run_lines (drop k c.args.runs.now)))
    c.runs.tallies.items) next
    ∙ (sym (ap (λ l. with_more 1 (tally_of (run_lines l)) c.runs.tallies.items)
    (from_place c.args.runs.now c.runs.at c.in-Some.run'.now there)) ∙ c.runs.invariant))

pub returns : goal.returns
returns c =
    no_run c.runs.tallies.items
    ∙ (sym
    (ap (λ l. with_more 1 (tally_of (run_lines l)) c.runs.tallies.items)
    (from_end c.args.runs.now c.runs.at (slice_get_past c.args.runs.now c.runs.at c.in_default.ensures.lookup.3)))
    ∙ c.runs.invariant)
