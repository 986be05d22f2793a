use Rattle.sccs_pfile.specs.Written.{exclude_option, include_option}
use Rattle.sccs_pfile.proofs.Texts.{lists_puts}
use Rattle.sccs_pfile.proofs.writing.put_lists.Goals as goal

pub returns : goal.returns
returns g c =
    lists_puts include_option exclude_option c.items.result.now c.items-2.result.now c.args.edit.now.include
    c.args.edit.now.exclude c.args.out.now c.put_list.new.out c.put_list-2.new.out _ _ _ _ _ _ c.put_list.result
    c.put_list-2.result c.in_default.field-0 c.items.ensures c.items-2.ensures c.in_default.is c.put_list.ensures
    c.put_list-2.ensures
