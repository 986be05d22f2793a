use Rattle.std.proofs.Common.{◌-◌}
use Rattle.std.specs.Prelude.{slice_get}
use Rattle.sccs_delta.proofs.WriteLaws.{entry_valid, sfile_made}
use Rattle.sccs_delta.proofs.new_sfiles.new_sfile.Goals as goal

pub sfile_with-requires-clause-edit : goal.sfile_with-requires-clause-edit
sfile_with-requires-clause-edit c = entry_valid c.args.edits.now (c.args.chosen.number - 1) c.at-edit.result.now
    c.requires.edits c.at-edit.ensures

pub returns-in-Ok-clause-makes : goal.returns-in-Ok-clause-makes
returns-in-Ok-clause-makes c = λ e at.
    sfile_made c.args.words.now c.args.stamp.now c.args.front.header c.args.edits.now c.items.result.now e
    c.at-edit.result.now c.args.chosen.base c.args.script.now c.args.lines c.in_ok-nulls.nulls c.in-Ok.file
    (slice_get c.args.edits.now (c.args.chosen.number - 1))
    c.at-edit.ensures at c.items.ensures c.in_ok-nulls.ensures.value c.in-Ok.ensures.makes
