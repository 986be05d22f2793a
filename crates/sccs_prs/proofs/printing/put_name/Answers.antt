use Rattle.std.proofs.Common.{◌≡◌, Bool, false, [], ◌∷◌, ◌++◌, ap, arith, cond, subst, sym, ◌∙◌}
use Rattle.std.specs.Prelude.{is_some}
use Rattle.sccs_prs.specs.Gives.{GivesHeld}
use Rattle.sccs_prs.proofs.GivesLaws.{causes_on, gives_then_gives}
use Rattle.sccs_prs.proofs.printing.put_name.Goals as goal

pub returns-clause-gives : goal.returns-clause-gives
returns-clause-gives g c =
    let n = c.args.name.now in
    let none : is_some c.args.words.now.spec ≡ false = cc in
    subst (λ t. GivesHeld t c.put-2.result c.args.listing.now.buffer c.put-2.new.buffer (g.O.Sink.given c.args.out.now)
    (g.O.Sink.given c.put-2.new.out))
    (ap (λ t. t ++ (58 ∷ 10 ∷ 10 ∷ [])) c.bytes.ensures.value ∙ ap (λ (b : Bool). cond b [] (n ++ (58 ∷ 10 ∷ 10 ∷ [])))
    (sym none))
    (gives_then_gives c.bytes.result.now (58 ∷ 10 ∷ 10 ∷ []) c.put-2.result c.args.listing.now.buffer c.put.new.buffer
    c.put-2.new.buffer _ _ _ c.in_default.ensures.gives c.put-2.ensures.gives)

pub returns-clause-causes : goal.returns-clause-causes
returns-clause-causes g c = λ disk. causes_on c.put-2.result _ _ _ disk disk disk (c.put.ensures.causes 0).out_later
    (omega arith) (c.put-2.ensures.causes disk)
