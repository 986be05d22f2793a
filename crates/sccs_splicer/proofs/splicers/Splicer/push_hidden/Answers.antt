use Rattle.std.proofs.Common.{◌∷◌, [], ◌++◌, false}
use Rattle.sccs_history.specs.declared.headers.Item.TheVariants.{Text}
use Rattle.sccs_splicer.specs.Splices.{settled_splice, settled_items}
use Rattle.sccs_splicer.proofs.Calls.{more_text, on_any, splices_done, then_puts}
use Rattle.sccs_splicer.proofs.SpliceLaws.{goes_hidden}
use Rattle.sccs_splicer.proofs.splicers.Splicer.push_hidden.Goals as goal

pub returns : goal.returns
returns g c =
    splices_done ((Text c.args.line.now, false) ∷ []) (settled_items c.args.self.now false ++ Text c.args.line.now ∷ [])
    c.args.self.now (settled_splice c.args.self.now) c.settle.new.self c.args.out.now c.put_line.new.self _ _ _ _
    c.put_line.result
    (goes_hidden c.args.self.now c.args.line.now) (on_any _ c.put_line.result c.in_default.ensures.ok)
    (then_puts _ _ _ c.args.out.now c.settle.new.out c.put_line.new.self _ _ _ _ _ _ c.settle.result c.put_line.result _
    (more_text (settled_items c.args.self.now false) (Text c.args.line.now)) c.in_default.is c.settle.ensures.puts
    c.put_line.ensures)
