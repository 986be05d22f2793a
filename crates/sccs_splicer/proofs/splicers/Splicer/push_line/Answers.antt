use Rattle.std.proofs.Common.{◌∷◌, [], ◌++◌, true, ap, refl, ◌∙◌}
use Rattle.sccs_history.specs.declared.headers.Item.TheVariants.{Text}
use Rattle.sccs_splicer.specs.Splices.{marked_items, may_join, passed, settled_splice, settled_items}
use Rattle.sccs_splicer.proofs.Calls.{all_put, line_text, splices_cut, splices_done, then_cut, then_puts}
use Rattle.sccs_splicer.proofs.SpliceLaws.{goes_line}
use Rattle.sccs_splicer.proofs.splicers.Splicer.push_line.Goals as goal

pub returns-in-Err-put_marked : goal.returns-in-Err-put_marked
returns-in-Err-put_marked g c =
    splices_cut ((Text c.args.line.now, true) ∷ []) c.args.self.now c.settle.new.self c.args.out.now
    c.put_marked.new.out _ _ _ _ _ c.in-Err-put_marked.fault refl
    (then_cut _ _ _ c.args.out.now c.settle.new.out c.put_marked.new.out _ _ _ _ _ _ c.settle.result c.put_marked.result
    _ _ c.in-Err-put_marked.fault c.in_default.is c.in-Err-put_marked.is refl c.settle.ensures.puts
    c.put_marked.ensures)

pub returns : goal.returns
returns g c =
    splices_done ((Text c.args.line.now, true) ∷ []) (settled_items c.args.self.now (may_join c.args.self.now)
    ++ marked_items c.args.self.now (may_join c.args.self.now) c.args.line.now) c.args.self.now
    (passed (settled_splice c.args.self.now)) c.pass_line.new.self c.args.out.now c.put_marked.new.out _ _ _ _ _
    (goes_line c.args.self.now c.args.line.now) (c.pass_line.ensures ∙ ap passed c.in_default.ensures.ok)
    (all_put _ c.args.out.now c.put_marked.new.out _ _ _ _ c.put_marked.result _ c.in_default-put_marked.is
    (then_puts _ _ _ c.args.out.now c.settle.new.out c.put_marked.new.out _ _ _ _ _ _ c.settle.result
    c.put_marked.result _
    (line_text c.args.self.now c.settle.new.self c.may_join-goes.result c.args.line.now c.may_join-goes.ensures
    c.in_default.ensures.ok)
    c.in_default.is c.settle.ensures.puts c.put_marked.ensures))
