use Rattle.std.proofs.Common.{◌∙◌, sym, ap, arith, length, take}
use Rattle.sccs_disk.specs.Told.{seen}
use Rattle.sccs_name_files.proofs.WholeFileLaws.{all_read, one_more_piece, read_piece, too_much}
use Rattle.sccs_name_files.proofs.whole_files.read_more.Goals as goal

pub returns-then-count-eq0-clause-told : goal.returns-then-count-eq0-clause-told
returns-then-count-eq0-clause-told g c = λ bytes is whole.
    let read = read_piece (seen (g.D.Disk.told c.args.disk.now)) c.args.name.now bytes c.len.result c.args.piece.now
    c.read_at.new.into c.in-Ok.got is c.in-Ok.ensures.ok in
    all_read bytes c.args.all.now.items (length c.args.piece.now) c.len.result (omega arith) c.requires.room (sym read.0
    ∙ (sym c.unwrap_or-count.ensures ∙ c.if-count-eq0.true)) whole

pub returns-then-len-count-gt-FILE_LIMIT-clause-told : goal.returns-then-len-count-gt-FILE_LIMIT-clause-told
returns-then-len-count-gt-FILE_LIMIT-clause-told g c = λ bytes is.
    let read = read_piece (seen (g.D.Disk.told c.args.disk.now)) c.args.name.now bytes c.len.result c.args.piece.now
    c.read_at.new.into c.in-Ok.got is c.in-Ok.ensures.ok in
    too_much bytes c.args.all.now.items (length c.args.piece.now) c.unwrap_or-count.result c.len.result (omega arith)
    (c.unwrap_or-count.ensures ∙ read.0) (omega arith) (omega arith)

pub returns-in-Ok-extend_from_slice-clause-told : goal.returns-in-Ok-extend_from_slice-clause-told
returns-in-Ok-extend_from_slice-clause-told g c = λ bytes is whole.
    let read = read_piece (seen (g.D.Disk.told c.args.disk.now)) c.args.name.now bytes c.len.result c.args.piece.now
    c.read_at.new.into c.in-Ok.got is c.in-Ok.ensures.ok in
    one_more_piece bytes c.args.all.now.items (take c.unwrap_or-count.result c.read_at.new.into)
    c.extend_from_slice.new.self.items (length c.args.piece.now) c.len.result (omega arith)
    (ap (λ n. take n c.read_at.new.into) c.unwrap_or-count.ensures ∙ read.1) c.in-Ok-extend_from_slice.ensures.items
    whole
