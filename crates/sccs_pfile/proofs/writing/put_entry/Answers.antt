use Rattle.std.proofs.Common.{◌++◌, Err, refl}
use Rattle.sccs_tokens.specs.Written.{ended}
use Rattle.sccs_writers.proofs.PutLaws.{text_both, text_cut}
use Rattle.sccs_pfile.specs.Written.{entry_text}
use Rattle.sccs_pfile.proofs.Texts.{entry_puts, front_text, lists_text}
use Rattle.sccs_pfile.proofs.writing.put_entry.Goals as goal

pub returns-in-Err-put_lists : goal.returns-in-Err-put_lists
returns-in-Err-put_lists g c =
    text_cut (front_text c.args.edit.now ++ lists_text c.args.edit.now) (ended (entry_text c.args.edit.now))
    c.args.out.now c.put_lists.new.out _ _ _ _ c.put_lists.result (Err c.in-Err-put_lists.fault)
    c.in-Err-put_lists.fault c.in-Err-put_lists.is refl
    (text_both (front_text c.args.edit.now) (lists_text c.args.edit.now) c.args.out.now c.put_front.new.out
    c.put_lists.new.out _ _ _ _ _ _ c.put_front.result c.put_lists.result c.in_default.field-0 c.in_default.is
    c.put_front.ensures c.put_lists.ensures)

pub returns : goal.returns
returns g c =
    entry_puts c.args.edit.now c.args.out.now c.put_front.new.out c.put_lists.new.out c.put.new.self _ _ _ _ _ _ _ _
    c.put_front.result c.put_lists.result c.put.result c.in_default.field-0 c.in_default-put_lists.field-0
    c.in_default.is c.in_default-put_lists.is c.put_front.ensures c.put_lists.ensures c.put.ensures
