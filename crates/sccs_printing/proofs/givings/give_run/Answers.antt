use Rattle.std.proofs.Common.{ap, sym, subst, ◌∙◌}
use Rattle.sccs_base.specs.Cut.{cut}
use Rattle.sccs_table.specs.Runs.{lf_count}
use Rattle.sccs_versions.specs.Coming.{ComeFirst}
use Rattle.sccs_versions.specs.WasRead.{ReadsOn}
use Rattle.sccs_printing.proofs.GivingLaws.{moved_none, run_cut, run_given, run_left, some_none, some_read}
use Rattle.sccs_printing.proofs.givings.give_run.Goals as goal

pub returns-then-count-eq0-clause-gives : goal.returns-then-count-eq0-clause-gives
returns-then-count-eq0-clause-gives g c = λ file lines p. moved_none file c.args.version.now lines c.args.giving.now _ p

pub returns-then-count-eq0-clause-read : goal.returns-then-count-eq0-clause-read
returns-then-count-eq0-clause-read g c = λ live before h. some_none live c.args.version.now before c.args.giving.now _ h

pub give_lines-requires-clause-counted : goal.give_lines-requires-clause-counted
give_lines-requires-clause-counted g c = c.lines_held-more.ensures ∙ ap lf_count (sym c.texts-texts.ensures.value)

pub returns-in_err-give_lines-clause-gives : goal.returns-in_err-give_lines-clause-gives
returns-in_err-give_lines-clause-gives g c = λ file lines p.
    run_left file c.args.version.now lines c.in_err-give_lines.field-0.0 c.from_residual.result c.args.giving.now
    c.give_lines.new.self _ _ c.from_residual.ensures.1
    (run_cut c.args.version.now c.texts-texts.result.now c.inserter.result lines c.in_err-give_lines.field-0.0
    c.args.giving.now c.give_lines.new.self _ _ c.inserter.ensures (c.texts-texts.ensures.first file lines p)
    c.in_err-give_lines.ensures.gives)

pub returns-clause-gives : goal.returns-clause-gives
returns-clause-gives g c = λ file lines p.
    run_given file c.args.version.now c.pass.new.self c.texts-texts.result.now c.inserter.result lines c.args.giving.now
    c.give_lines.new.self _ _ c.inserter.ensures
    (subst (λ text. ComeFirst file c.args.version.now c.pass.new.self text lines) (sym c.texts-texts.ensures.value)
    (c.pass.ensures.coming file lines p)) c.in_ok-give_lines.ensures.gives c.in_ok-give_lines.ensures.shown

pub returns-clause-read : goal.returns-clause-read
returns-clause-read g c = λ live before h.
    some_read live c.pass.new.self c.args.version.now.regions before c.inserter.result _ c.args.giving.now
    c.give_lines.new.self _ _ c.inserter.ensures
    (subst (λ text. ReadsOn live c.pass.new.self c.args.version.now.regions before (cut text).lines)
    (sym c.texts-texts.ensures.value) (c.pass.ensures.read live before h)) c.in_ok-give_lines.ensures.gives
    c.in_ok-give_lines.ensures.shown
