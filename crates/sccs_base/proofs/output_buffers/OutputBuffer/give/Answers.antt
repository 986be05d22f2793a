use Rattle.std.proofs.Common.{◌≡◌, [], subst, ◌∙◌, rules}
use Rattle.sccs_base.specs.Stream.{GivesOk}
use Rattle.sccs_base.proofs.Gifts.{passed_on, not_passed}
use Rattle.sccs_base.proofs.output_buffers.OutputBuffer.give.Goals as goal

pub returns-clause-ok : goal.returns-clause-ok
returns-clause-ok g c =
    let same : c.hold.new.self ≡ c.args.self.now = search rules in
    let kept : c.hold-2.new.self ≡ c.flush.new.self = search rules in
    let none : c.hold-2.new.self ≡ [] = kept ∙ c.in_ok-flush.ensures.empty in
    passed_on c.give.result c.args.self.now c.args.bytes.now c.hold-2.new.self _ (g.S.Sink.given c.flush.new.out) _ none
    (subst (λ held. GivesOk (g.S.Sink.given c.args.out.now) (g.S.Sink.given c.flush.new.out) held) same
    c.in_ok-flush.ensures.gives.ok) c.give.ensures.ok

pub returns-clause-err : goal.returns-clause-err
returns-clause-err g c =
    let same : c.hold.new.self ≡ c.args.self.now = search rules in
    not_passed c.give.result c.args.self.now c.args.bytes.now _ (g.S.Sink.given c.flush.new.out) _
    (subst (λ held. GivesOk (g.S.Sink.given c.args.out.now) (g.S.Sink.given c.flush.new.out) held) same
    c.in_ok-flush.ensures.gives.ok) c.give.ensures.err
