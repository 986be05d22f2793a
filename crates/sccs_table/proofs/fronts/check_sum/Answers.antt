use Rattle.std.proofs.Common.{◌≤◌, ◌∙◌, length, ap, arith, refl, sym}
use Rattle.sccs_disk.specs.Told.{seen}
use Rattle.sccs_table.specs.ReaderState.{ReaderState, behind_sum}
use Rattle.sccs_table.specs.SumOf.{IsPlainSumOf}
use Rattle.sccs_table.proofs.ReaderLaws.{same_file}
use Rattle.sccs_table.proofs.FileLaws.{is_either, is_plain, sum_of_all, sums_again}
use Rattle.sccs_table.proofs.fronts.check_sum.Goals as goal

pub returns-then-stored-from-clause-told : goal.returns-then-stored-from-clause-told
returns-then-stored-from-clause-told g c = λ file is long stands.
    let all = c.in_ok-skip_to.ensures.told file is stands in
    let stayed = c.in_ok-skip_to.ensures.stays file is stands in
    let low : length file ≤ c.limit-end.result = omega (arith, stands.limit, c.limit-end.ensures.value) in
    let plain : IsPlainSumOf c.sum-plain.result (behind_sum file) = c.sum-plain.ensures
    ∙ sum_of_all c.skip_to.new.self file c.limit-end.result low all stayed in
    (is_plain c.args.stored (behind_sum file) (c.if-stored-from.true ∙ (c.from.ensures ∙ plain)), plain)

pub returns-then-sum_fits-clause-told : goal.returns-then-sum_fits-clause-told
returns-then-sum_fits-clause-told g c = λ file is long stands.
    let all = c.in_ok-skip_to.ensures.told file is stands in
    let stayed = c.in_ok-skip_to.ensures.stays file is stands in
    let low : length file ≤ c.limit-end.result = omega (arith, stands.limit, c.limit-end.ensures.value) in
    let plain : IsPlainSumOf c.sum-plain.result (behind_sum file) = c.sum-plain.ensures
    ∙ sum_of_all c.skip_to.new.self file c.limit-end.result low all stayed in
    let again_is = same_file _ _ _ _ (ap seen c.in_ok-skip_to.ensures.frame.same)
    (ap (λ (s : ReaderState). s.name) c.again.ensures ∙ c.in_ok-skip_to.ensures.frame.name) ∙ is in
    let sums = sums_again _ file c.skip_to.new.self.name c.skip_to.new.self.limit c.again.result c.in_ok-sums.sums
    again_is c.again.ensures stayed.limit long c.in_ok-sums.ensures.told in
    (is_either c.args.stored (behind_sum file) c.in_ok-sums.sums _ sums (sym c.if-sum_fits.ensures), plain)

pub returns-else-sum_fits-clause-told : goal.returns-else-sum_fits-clause-told
returns-else-sum_fits-clause-told g c = λ file is long stands.
    let all = c.in_ok-skip_to.ensures.told file is stands in
    let stayed = c.in_ok-skip_to.ensures.stays file is stands in
    let low : length file ≤ c.limit-end.result = omega (arith, stands.limit, c.limit-end.ensures.value) in
    let plain : IsPlainSumOf c.sum-plain.result (behind_sum file) = c.sum-plain.ensures
    ∙ sum_of_all c.skip_to.new.self file c.limit-end.result low all stayed in
    let again_is = same_file _ _ _ _ (ap seen c.in_ok-skip_to.ensures.frame.same)
    (ap (λ (s : ReaderState). s.name) c.again.ensures ∙ c.in_ok-skip_to.ensures.frame.name) ∙ is in
    let sums = sums_again _ file c.skip_to.new.self.name c.skip_to.new.self.limit c.again.result c.in_ok-sums.sums
    again_is c.again.ensures stayed.limit long c.in_ok-sums.ensures.told in
    (is_either c.args.stored (behind_sum file) c.in_ok-sums.sums _ sums (sym c.if-sum_fits.ensures), refl, plain)
