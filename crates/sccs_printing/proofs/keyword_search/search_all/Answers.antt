use Rattle.std.proofs.Common.{Ok, ◌||◌, ap, arith, subst, ◌∙◌}
use Rattle.std.proofs.lemmas.Result.{err_from_is_err_and}
use Rattle.sccs_disk.specs.Told.{seen}
use Rattle.sccs_table.specs.ReaderState.{bytes_in}
use Rattle.sccs_versions.specs.Place.{name_of}
use Rattle.sccs_printing.specs.Searching.{SearchesNextLine}
use Rattle.sccs_printing.proofs.SearchLaws.{all_searched, searched_both}
use Rattle.sccs_printing.proofs.WholeLaws.{fault_causes, quiet_causes}
use Rattle.sccs_printing.proofs.keyword_search.search_all.Goals as goal

pub lines-preserved : goal.lines-preserved
lines-preserved g c = record {
  same = c.in_ok-some.ensures.same ∙ c.lines.invariant.same;
  later = let more = (c.in_ok-some.ensures.causes 0).disk_later in omega (arith, c.lines.invariant.later, more);
  name = c.in_ok-some.ensures.name ∙ (c.search_run-run.ensures.name ∙ c.lines.invariant.name);
  told = λ file lines told p.
      let s = c.lines.invariant.told file lines told p in
      let run = searched_both file c.lines.version c.search_run-run.new.version lines c.lines.found
      c.search_run-run.result s (c.search_run-run.ensures.told file s.rest s.on) in
      let here = ap (λ t. bytes_in (seen t) (name_of c.search_run-run.new.version)) c.lines.invariant.same
      ∙ (ap (bytes_in (seen (g.D.Disk.told c.args.disk.now))) (c.search_run-run.ensures.name
      ∙ c.lines.invariant.name) ∙ told) in
      searched_both file c.search_run-run.new.version c.search_next.new.version lines
      (c.lines.found || c.search_run-run.result) c.in-Some.some run
      (subst (λ o. SearchesNextLine file c.search_next.new.version run.rest (Ok o)) c.in-Some.is
      (c.in_ok-some.ensures.told file run.rest here run.on));
}

pub returns-in-None-clause-causes : goal.returns-in-None-clause-causes
returns-in-None-clause-causes g c = λ out. let more = (c.in_ok-some.ensures.causes 0).disk_later in
    quiet_causes (c.lines.found || c.search_run-run.result) out (g.D.Disk.faults c.args.disk.now)
    (g.D.Disk.faults c.search_next.new.disk) (omega (arith, c.lines.invariant.later, more))

pub returns-in-None-clause-told : goal.returns-in-None-clause-told
returns-in-None-clause-told g c = λ file lines told p.
    let s = c.lines.invariant.told file lines told p in
    let run = searched_both file c.lines.version c.search_run-run.new.version lines c.lines.found
    c.search_run-run.result s (c.search_run-run.ensures.told file s.rest s.on) in
    let here = ap (λ t. bytes_in (seen t) (name_of c.search_run-run.new.version)) c.lines.invariant.same
    ∙ (ap (bytes_in (seen (g.D.Disk.told c.args.disk.now))) (c.search_run-run.ensures.name ∙ c.lines.invariant.name)
    ∙ told) in
    all_searched file c.search_run-run.new.version lines (c.lines.found || c.search_run-run.result) run
    (subst (λ o. SearchesNextLine file c.search_next.new.version run.rest (Ok o)) c.in-None.is
    (c.in_ok-some.ensures.told file run.rest here run.on))

pub returns-in_err-some-clause-causes : goal.returns-in_err-some-clause-causes
returns-in_err-some-clause-causes g c =
    let e = err_from_is_err_and c.from_residual.result c.from_residual.ensures.1 in
    rw (e.1, e.2) (λ out. fault_causes c.in_err-some.field-0.0 out _ _ _ c.lines.invariant.later
    (c.in_err-some.ensures.causes out))

pub returns-in_err-some-clause-told : goal.returns-in_err-some-clause-told
returns-in_err-some-clause-told g c =
    let e = err_from_is_err_and c.from_residual.result c.from_residual.ensures.1 in
    rw (e.1, e.2) (λ file lines told p.
    let s = c.lines.invariant.told file lines told p in
    let run = searched_both file c.lines.version c.search_run-run.new.version lines c.lines.found
    c.search_run-run.result s (c.search_run-run.ensures.told file s.rest s.on) in
    let here = ap (λ t. bytes_in (seen t) (name_of c.search_run-run.new.version)) c.lines.invariant.same
    ∙ (ap (bytes_in (seen (g.D.Disk.told c.args.disk.now))) (c.search_run-run.ensures.name ∙ c.lines.invariant.name)
    ∙ told) in
    c.in_err-some.ensures.told file run.rest here run.on)
