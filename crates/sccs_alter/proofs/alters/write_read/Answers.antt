use Rattle.std.proofs.lemmas.Result.{err_from_is_err_and}
use Rattle.std.proofs.Common.{ℕ, List, Ok, ap, refl, subst}
use Rattle.sccs_base.specs.Name.{x_file}
use Rattle.sccs_disk.specs.Told.{seen}
use Rattle.sccs_copies.proofs.BodyLaws.{header_comes}
use Rattle.sccs_changes.specs.PFiles.{Answers}
use Rattle.sccs_alter.specs.AlterStep.{alter_checks, altered_header}
use Rattle.sccs_alter.proofs.HeaderLaws.{altered_spelled}
use Rattle.sccs_alter.proofs.WriteLaws.{frame_none, file_refused, header_altered, no_header}
use Rattle.sccs_alter.proofs.alters.write_read.Goals as goal

pub returns-in_default-clause-frame : goal.returns-in_default-clause-frame
returns-in_default-clause-frame g c = frame_none (x_file c.args.name.now) _ _ _ (λ is. absurd cc)

pub write_header-requires-clause-spelled : goal.write_header-requires-clause-spelled
write_header-requires-clause-spelled g c =
    altered_spelled c.args.words.now c.args.x.front.header c.bytes.result.now c.in_ok-header.header
    c.requires.spelled c.in_ok-header.ensures.value

pub returns-clause-told : goal.returns-clause-told
returns-clause-told g c = λ file items is front are.
    header_altered c.write_header.result (altered_header c.args.words.now c.args.x.front.header c.args.x.text)
    c.in_ok-header.header items c.args.name.now (seen (g.D.Disk.told c.args.disk.now))
    (seen (g.D.Disk.told c.write_header.new.disk))
    (subst (λ (text : List ℕ). Answers (altered_header c.args.words.now c.args.x.front.header text)
    (Ok c.in_ok-header.header)) c.bytes.ensures c.in_ok-header.ensures.value)
    (c.write_header.ensures.told file items is (header_comes file c.args.x.front items c.in-Ok.copying front are
    c.in-Ok.ensures.told))

pub returns-in_err-header-clause-frame : goal.returns-in_err-header-clause-frame
returns-in_err-header-clause-frame g c =
    let p = err_from_is_err_and c.from_residual.result c.from_residual.ensures.1 in
    rw (p.1, p.2) (frame_none (x_file c.args.name.now) _ _ _ (λ is. c.in_err-header.ensures.broke (ap no_header is)))

pub returns-clause-checks : goal.returns-clause-checks
returns-clause-checks g c = file_refused c.write_header.result alter_checks
    (refl, (refl, (refl, (refl, (refl, (refl, (refl, tt))))))) c.write_header.ensures.checks
