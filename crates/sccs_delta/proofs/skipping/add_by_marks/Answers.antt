use Rattle.std.proofs.Common.{◌≡◌, ◌||◌, false, length, slice_index_or, ap, ◌∙◌, arith}
use Rattle.std.proofs.lemmas.List.{get_or-replicate, length-replicate}
use Rattle.sccs_delta.specs.DeltaStep.{is_used}
use Rattle.sccs_delta.proofs.skipping.add_by_marks.Goals as goal

pub returns : goal.returns
returns c =
    let long : length c.args.used.now ≡ c.args.to = ap length c.requires ∙ length-replicate c.args.to false in
    c.add_unused.ensures c.args.records.now c.args.reserved.now (λ n low.
    c.mark_used.ensures.marks n (omega (arith, low, long))
    ∙ ap (λ t. t || is_used c.args.records.now c.args.reserved.now n) (ap (λ l. slice_index_or l n false) c.requires
    ∙ get_or-replicate c.args.to n false false low))
