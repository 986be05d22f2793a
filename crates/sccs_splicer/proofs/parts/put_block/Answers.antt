use Rattle.std.proofs.Common.{length, refl, sym, ◌∙◌}
use Rattle.std.proofs.lemmas.Bool.{eqb-false, eqb-true}
use Rattle.sccs_splicer.proofs.Calls.{block_none, block_text, nothing_put, then_cut, then_puts}
use Rattle.sccs_splicer.proofs.parts.put_block.Goals as goal

pub returns-then-is_empty : goal.returns-then-is_empty
returns-then-is_empty g c =
    nothing_put _ (block_none c.args.serial c.args.lines.now (eqb-true (length c.args.lines.now) 0
    (sym c.is_empty.ensures ∙ c.if-is_empty.true))) c.args.out.now _ _

pub returns-in-Err-put_lines : goal.returns-in-Err-put_lines
returns-in-Err-put_lines g c =
    then_cut _ _ _ c.args.out.now c.put.new.self c.put_lines.new.self _ _ _ _ _ _ c.put.result c.put_lines.result _ _
    c.in-Err-put_lines.fault c.in_default.is c.in-Err-put_lines.is refl c.put.ensures c.put_lines.ensures

pub returns : goal.returns
returns g c =
    then_puts _ _ _ c.args.out.now c.put_lines.new.self c.put-2.new.self _ _ _ _ _ _ c.put_lines.result c.put-2.result _
    (block_text c.args.serial c.args.lines.now (eqb-false (length c.args.lines.now) 0 (sym c.is_empty.ensures
    ∙ c.if-is_empty.false))) c.in_default-put_lines.is
    (then_puts _ _ _ c.args.out.now c.put.new.self c.put_lines.new.self _ _ _ _ _ _ c.put.result c.put_lines.result _
    refl c.in_default.is c.put.ensures c.put_lines.ensures)
    c.put-2.ensures
