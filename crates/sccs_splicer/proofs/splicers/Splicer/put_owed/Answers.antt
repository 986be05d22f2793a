use Rattle.std.proofs.Common.{[], ◌++◌, not, ◌&&◌, ap, refl, ◌∙◌}
use Rattle.sccs_history.specs.Numbers.{front_if}
use Rattle.sccs_history.specs.declared.headers.Item.TheVariants.{End}
use Rattle.sccs_writers.specs.Spelled.{spelled}
use Rattle.sccs_splicer.specs.Splices.{due_lines, SplicerState}
use Rattle.sccs_splicer.proofs.Calls.{settled_text, then_cut, then_puts}
use Rattle.sccs_splicer.proofs.splicers.Splicer.put_owed.Goals as goal

pub returns-in-Err-put_due : goal.returns-in-Err-put_due
returns-in-Err-put_due g c =
    then_cut _ _ _ c.args.out.now c.put_if.new.out c.put_due.new.out _ _ _ _ _ _ c.put_if.result c.put_due.result _ _
    c.in-Err-put_due.fault c.in_default.is c.in-Err-put_due.is refl c.put_if.ensures c.put_due.ensures

pub returns : goal.returns
returns g c =
    then_puts _ _ _ c.args.out.now c.put_due.new.out c.put_items.new.self _ _ _ _ _ _ c.put_due.result
    c.put_items.result _
    (ap (λ items. (spelled (front_if (c.self.inside.opened && not c.args.goes) (End c.self.inside.serial) []) ++ spelled
    (due_lines c.args.self.now)) ++ spelled items) c.as_slice.ensures.value
    ∙ (ap (λ (s : SplicerState). (spelled (front_if (s.opened && not c.args.goes) (End s.serial) []) ++ spelled
    (due_lines c.args.self.now)) ++ spelled s.held) c.self.view_is
    ∙ settled_text c.args.self.now c.args.goes))
    c.in_default-put_due.is
    (then_puts _ _ _ c.args.out.now c.put_if.new.out c.put_due.new.out _ _ _ _ _ _ c.put_if.result c.put_due.result _
    refl c.in_default.is c.put_if.ensures c.put_due.ensures)
    c.put_items.ensures
