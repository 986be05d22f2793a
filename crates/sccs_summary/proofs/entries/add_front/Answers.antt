use Rattle.sccs_store.proofs.Working.{ok_map}
use Rattle.sccs_summary.proofs.Texts.{front_of}
use Rattle.sccs_summary.proofs.entries.add_front.Goals as goal

pub returns : goal.returns
returns c =
    ok_map c.add_part-4.result
    (λ last. front_of c.args.text.now.items c.add_part.new.text.items c.push.new.self.items c.add_part-2.new.text.items
    c.add_part-3.new.text.items c.add_part-4.new.text.items c.marks.result.now c.text.result.now c.text-2.result
    c.bytes.result.now _ _ _ _ c.reason.result _ c.marks.ensures c.reason.ensures c.text.ensures c.text-2.ensures
    c.bytes.ensures.value c.in_ok-add_part.ensures c.in_ok-push.ensures.items c.in_ok-add_part-2.ensures
    c.in_ok-add_part-3.ensures last)
    c.add_part-4.ensures
