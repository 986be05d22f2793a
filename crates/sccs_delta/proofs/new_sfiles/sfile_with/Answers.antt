use Rattle.std.proofs.Common.{refl}
use Rattle.sccs_delta.proofs.WriteLaws.{sfile_of}
use Rattle.sccs_delta.proofs.new_sfiles.sfile_with.Goals as goal

pub returns-clause-makes : goal.returns-clause-makes
returns-clause-makes c =
    sfile_of c.args.words.now c.args.stamp.now c.args.front.header c.args.edit.now c.args.base c.args.script.now
    c.args.lines c.serial_behind-serial.result c.args.nulls.now c.items.result.now c.counts_of-counts.result
    (record {
      header = c.in_ok-header.header;
      copying = c.in_ok-copying.copying;
      sid = c.args.edit.now.made;
      counts =
          c.counts_of-counts.result;
    })
    c.items.ensures c.in_ok-header.ensures.value c.counts_of-counts.ensures c.in_ok-copying.ensures.splicer
    c.serial_behind-serial.ensures c.in_ok-copying.ensures.set refl refl
