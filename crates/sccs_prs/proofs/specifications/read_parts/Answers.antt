use Rattle.std.proofs.Common.{◌≡◌, ◌+◌, ◌-◌, ◌++◌, List, drop, length, length-take, length-drop, ap, arith, ◌∙◌}
use Rattle.sccs_prs.specs.DataKeywords.{data_parts}
use Rattle.sccs_prs.specs.declared.keywords.Part.{Part}
use Rattle.sccs_prs.proofs.PartLaws.{all_read, turn_read}
use Rattle.sccs_prs.proofs.specifications.read_parts.Goals as goal

pub parts-preserved : goal.parts-preserved
parts-preserved c =
    let spec = c.args.spec.now in
    record {
      fits = omega (
        arith,
        c.found_part-found.ensures.fits,
        length-take (length spec - (c.parts.from + 1))
            (drop (c.parts.from + 1) spec),
        length-drop (c.parts.from + 1) spec,
        c.parts-test.true,
      );
      read = ap (λ (r : List Part). r ++ data_parts (drop (c.parts.from + (1 + c.found_part-found.result.behind)) spec))
          c.in_ok-push.ensures.items
          ∙ turn_read spec c.parts.read.items c.parts.from c.found_part-found.result c.parts-test.true
          c.found_part-found.ensures.value c.parts.invariant.read;
    }

pub returns : goal.returns
returns c =
    let ends : length c.args.spec.now ≡ c.parts.from = omega (arith, c.parts-test.false, c.parts.invariant.fits) in
    c.from_vec.ensures ∙ all_read c.args.spec.now c.parts.read.items c.parts.from ends c.parts.invariant.read
