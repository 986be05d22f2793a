use Rattle.std.proofs.Common.{◌∙◌, ap, sym}
use Rattle.std.specs.Option.{option_copied}
use Rattle.std.specs.Str.{bytes_eq}
use Rattle.sccs_rmdel.proofs.FirstMade.{made_last}
use Rattle.sccs_rmdel.proofs.leaves.made_first.Goals as goal

pub returns-in-Some : goal.returns-in-Some
returns-in-Some c =
    c.eq.ensures
    ∙ (ap (λ b. bytes_eq b c.bytes-in-Some.result.now) c.bytes.ensures.value
    ∙ (ap (bytes_eq c.in-Some.delta.now.login) c.bytes-in-Some.ensures.value
    ∙ made_last (λ a. bytes_eq a.login c.args.login.now) c.args.records.now c.in-Some.delta.now
    (sym c.last.ensures.value ∙ ap option_copied c.in-Some.is)))
