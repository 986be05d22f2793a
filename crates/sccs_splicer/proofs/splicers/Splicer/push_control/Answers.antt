use Rattle.std.proofs.Common.{sym, ◌∙◌, ◌∷◌, [], ◌++◌, false}
use Rattle.sccs_splicer.specs.Splices.{holding, settled_splice, settled_items}
use Rattle.sccs_splicer.proofs.Calls.{kept_puts, more_text, on_any, splices_done, then_puts}
use Rattle.sccs_splicer.proofs.SpliceLaws.{goes_control, goes_held}
use Rattle.sccs_splicer.proofs.splicers.Splicer.push_control.Goals as goal

pub returns-then-may_join : goal.returns-then-may_join
returns-then-may_join g c = λ visible.
    splices_done ((c.args.item, visible) ∷ []) [] c.args.self.now (holding c.args.self.now c.args.item) c.hold.new.self
    c.args.out.now c.args.out.now _ _ _ _ c.hold.result
    (goes_held c.args.self.now c.args.item visible c.requires.control) c.hold.ensures.ok
    (kept_puts c.args.out.now _ _ c.hold.result c.hold.ensures.memory)

pub returns : goal.returns
returns g c = λ visible.
    splices_done ((c.args.item, visible) ∷ []) (settled_items c.args.self.now false ++ c.args.item ∷ []) c.args.self.now
    (settled_splice c.args.self.now) c.settle.new.self c.args.out.now c.put.new.self _ _ _ _ c.put.result
    (goes_control c.args.self.now c.args.item visible c.requires.control (sym c.may_join.ensures ∙ c.if-may_join.false))
    (on_any _ c.put.result c.in_default.ensures.ok)
    (then_puts _ _ _ c.args.out.now c.settle.new.out c.put.new.self _ _ _ _ _ _ c.settle.result c.put.result _
    (more_text (settled_items c.args.self.now false) c.args.item) c.in_default.is c.settle.ensures.puts
    c.put.ensures)
