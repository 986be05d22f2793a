use Rattle.std.proofs.Common.{◌≡◌, ◌+◌, ◌-◌, ◌∙◌, ◌++◌, ◌<◌, List, ℕ, ap, arith, drop, rules, subst, sum, sym, take}
use Rattle.std.proofs.Common.{◌%◌, length-drop}
use Rattle.std.proofs.lemmas.Bool.{ltb-true}
use Rattle.sccs_base.specs.Cut.{HasNoLf}
use Rattle.sccs_disk.specs.Told.{seen}
use Rattle.sccs_table.specs.Runs.{lf_count}
use Rattle.sccs_table.specs.ReaderState.{ReaderState}
use Rattle.sccs_table.specs.SumOf.{IsPlainSumOf}
use Rattle.sccs_table.proofs.CountLaws.{no_lines}
use Rattle.sccs_table.proofs.ReaderLaws.{no_lf_held, read_on_stays, sum_behind}
use Rattle.sccs_table.proofs.line_readers.LineReader.read_on.Goals as goal

pub invariant_of-self : goal.invariant_of-self
invariant_of-self g c =
    let none = no_lf_held c.self.inside.piece c.self.inside.start c.self.inside.end c.self.inside.whole
    (omega (arith, c.if-self.false)) c.self.invariant.order c.self.invariant.rest in
    record {
      order = search rules;
      within = search rules;
      ahead = omega (arith, c.self.invariant.ahead);
      limit = search rules;
      marks = c.read-total.ensures.marks;
      whole = search rules;
      rest = subst HasNoLf (sym (c.read_behind-read.ensures.front ∙ c.move_front.ensures.front)) none;
    }

pub invariant_of-self-2 : goal.invariant_of-self-2
invariant_of-self-2 g c =
    record {
      order = search rules;
      within = omega (arith, c.in_ok-count.ensures.bound, c.self.invariant.within, c.self.invariant.order);
      ahead = omega (arith, c.in_ok-count.ensures.bound, c.self.invariant.ahead);
      limit = search rules;
      marks = c.read-total.ensures.marks;
      whole = search rules;
      rest = c.whole_lines-self-inside.ensures.rest;
    }

pub returns-clause-stays : goal.returns-clause-stays
returns-clause-stays g c =
    let held = c.self.inside.end - c.self.inside.start in
    let piece = c.read_behind-read.new.piece in
    let skip = 8 - (c.self.inside.place + held) in
    let front_is = c.front_part.ensures ∙ ap (λ n. take (held + n) piece) c.saturating_sub-2.ensures in
    let added : (front : List ℕ) → IsPlainSumOf c.self.inside.sum front → IsPlainSumOf c.add_behind.new.self
    (front ++ drop (8 - (c.self.inside.place + held)) (take c.in_ok-count.count (drop held piece))) =
    λ front is. c.add_behind.ensures front (drop (8 - (c.self.inside.place + held)) (take c.in_ok-count.count
    (drop held piece)))
    (sum_behind piece held c.in_ok-count.count _ skip c.read-total.result c.in_ok-count.ensures.rest
    c.read-total.ensures.sum
    ∙ ap (λ bytes. (sum bytes + sum (drop skip (take c.in_ok-count.count (drop held piece)))) % 65536)
    (sym front_is)) is in
    read_on_stays (seen (g.D.Disk.told c.args.disk.now)) c.args.self.now c.self.inside.name c.self.inside.piece piece
    c.self.inside.start c.self.inside.end c.self.inside.place c.self.inside.limit c.self.inside.sum
    c.add_behind.new.self c.in_ok-count.count c.min-room.result c.self.view_is c.self.invariant.order (search rules)
    (c.read_behind-read.ensures.front ∙ c.move_front.ensures.front)
    (omega (arith, c.in_ok-count.ensures.bound, length-drop held piece)) (omega arith)
    (omega (arith, c.self.invariant.ahead)) added c.in_ok-count.ensures.told

pub returns-clause-more : goal.returns-clause-more
returns-clause-more g c = λ some.
    let none = no_lf_held c.self.inside.piece c.self.inside.start c.self.inside.end c.self.inside.whole
    (omega (arith, c.if-self.false)) c.self.invariant.order c.self.invariant.rest in
    let here : c.self.inside.end - c.self.inside.start + c.in_ok-count.count ≡ c.self.inside.end - c.self.inside.start
    + c.in_ok-count.count - 0 = omega arith in (
      ap lf_count (sym (ap (λ (s : ReaderState). s.held) c.self.view_is)) ∙ no_lines _ none,
      subst
          (λ n. 0 < lf_count (take n c.read_behind-read.new.piece)) here (c.whole_lines-self-inside.ensures.ended
          (ltb-true 0 c.whole_lines-self-inside.result some)),
    )
