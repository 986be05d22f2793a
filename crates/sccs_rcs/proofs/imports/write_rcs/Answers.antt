use Rattle.std.proofs.Common.{◌<◌, length, refl, subst, sym}
use Rattle.std.specs.Str.{bytes_eq}
use Rattle.sccs_base.specs.Name.{x_file}
use Rattle.sccs_trunks.specs.Runs.{run_lines}
use Rattle.sccs_store.proofs.Working.{same_touches}
use Rattle.sccs_rcs.proofs.HeaderLaws.{revisions_fit}
use Rattle.sccs_rcs.proofs.ImportLaws.{imported_firm, rcs_written, runs_are}
use Rattle.sccs_rcs.proofs.imports.write_rcs.Goals as goal

pub trunk_runs-requires : goal.trunk_runs-requires
trunk_runs-requires g c =
    record {
      few = subst (λ rs. length rs < 65536) (sym c.items.ensures)
          (revisions_fit c.args.rcs.now c.requires.read).0;
    }

pub returns-in_default-clause-touches : goal.returns-in_default-clause-touches
returns-in_default-clause-touches g c = same_touches (bytes_eq (x_file c.args.name.now)) _ _ refl

pub returns-in_default-trunk_header-clause-touches : goal.returns-in_default-trunk_header-clause-touches
returns-in_default-trunk_header-clause-touches g c = same_touches (bytes_eq (x_file c.args.name.now)) _ _ refl

pub returns-in_default-report_of-clause-touches : goal.returns-in_default-report_of-clause-touches
returns-in_default-report_of-clause-touches g c = same_touches (bytes_eq (x_file c.args.name.now)) _ _ refl

pub trunk_header-requires-clause-lines : goal.trunk_header-requires-clause-lines
trunk_header-requires-clause-lines g c = runs_are c.args.rcs.now c.items.result.now c.in-Ok.runs.items
    c.as_slice.result.now c.requires.read c.items.ensures c.as_slice.ensures.value c.in-Ok.ensures

pub returns-in-Ok-write_new-clause-writes : goal.returns-in-Ok-write_new-clause-writes
returns-in-Ok-write_new-clause-writes g c =
    rcs_written c.args.heading c.args.name.now c.args.rcs.now c.in-Ok-trunk_header.header
    (run_lines c.as_slice-2.result.now) c.in-Ok-report_of.report c.imported.result _ _
    c.in-Ok-trunk_header.ensures.value
    (runs_are c.args.rcs.now c.items.result.now c.in-Ok.runs.items c.as_slice-2.result.now c.requires.read
    c.items.ensures c.as_slice-2.ensures.value c.in-Ok.ensures) c.in-Ok-report_of.ensures c.imported.ensures
    c.in-Ok-write_new.ensures.view

pub returns-in-Ok-write_new-clause-firm : goal.returns-in-Ok-write_new-clause-firm
returns-in-Ok-write_new-clause-firm g c = imported_firm c.in-Ok-report_of.report c.args.name.now c.imported.result _ _
    c.imported.ensures c.in-Ok-write_new.ensures.firm
