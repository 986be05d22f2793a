use Rattle.sccs_pfile.proofs.Texts.{slice_puts}
use Rattle.sccs_pfile.proofs.writing.put_list.Goals as goal

pub returns : goal.returns
returns g c =
    slice_puts c.args.option.now c.args.ranges.now _ c.args.out.now c.put_range.new.out c.put_ranges.new.out _ _ _ _ _ _
    c.put_range.result c.put_ranges.result c.in_default-put_range.field-0 c.in-len1-up.len_at_least
    c.in_default-put_range.is c.put_range.ensures c.put_ranges.ensures
