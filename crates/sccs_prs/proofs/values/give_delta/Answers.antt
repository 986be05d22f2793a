use Rattle.std.proofs.Common.{◌∷◌, ◌++◌}
use Rattle.std.specs.Prelude.{decimal}
use Rattle.sccs_sid.specs.Moment.{moment_text}
use Rattle.sccs_sid.specs.Sid.{sid_text}
use Rattle.sccs_tokens.specs.Written.{kind_of}
use Rattle.sccs_keywords.proofs.GiveLaws.{text_whole}
use Rattle.sccs_prs.proofs.GiveLists.{three_words}
use Rattle.sccs_prs.proofs.values.give_delta.Goals as goal

pub returns : goal.returns
returns g c =
    let r = c.args.delta.now in
    text_whole _ _ _ _ _ _ c.give_words.result
    (three_words (kind_of r.removed) c.kind.result.now (sid_text r.sid) c.text-sid.result.now (moment_text r.moment)
    c.text.result (32 ∷ (r.login ++ (32 ∷ (decimal r.serial ++ (32 ∷ decimal r.predecessor))))) c.kind.ensures
    c.text-sid.ensures c.text.ensures) c.give_words.ensures
