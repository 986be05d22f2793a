use Rattle.std.proofs.Common.{[], ◌∷◌, not, ◌&&◌, ap, ◌∙◌}
use Rattle.sccs_history.specs.Numbers.{front_if}
use Rattle.sccs_history.specs.declared.headers.Item.TheVariants.{Text, Delete}
use Rattle.sccs_writers.specs.Spelled.{spelled}
use Rattle.sccs_splicer.specs.Splices.{marked_items, SplicerState}
use Rattle.sccs_splicer.proofs.Calls.{marked_text, then_puts}
use Rattle.sccs_splicer.proofs.splicers.Splicer.put_marked.Goals as goal

pub returns : goal.returns
returns g c =
    then_puts _ _ _ c.args.out.now c.put_if.new.out c.put_line.new.self _ _ _ _ _ _ c.put_if.result c.put_line.result _
    (marked_text (c.deletes_next.result && not c.args.goes) (Delete c.self.inside.serial) c.args.line.now
    ∙ (ap (λ t. spelled (front_if (t && not c.args.goes) (Delete c.self.inside.serial) (Text c.args.line.now ∷ [])))
    c.deletes_next.ensures
    ∙ ap (λ (s : SplicerState). spelled (marked_items s c.args.goes c.args.line.now)) c.self.view_is))
    c.in_default.is c.put_if.ensures c.put_line.ensures
