use Rattle.std.proofs.Common.{ℕ, ◌+◌, ◌∷◌, List, false, None, drop, get_or, length, option_map, sym, subst, ap, ◌∙◌}
use Rattle.std.proofs.Common.{arith}
use Rattle.std.proofs.lemmas.List.{at_drop_all}
use Rattle.sccs_history.specs.Applied.{Asked, listed, serials_of}
use Rattle.sccs_history.specs.Numbers.{Falls}
use Rattle.sccs_history.specs.declared.headers.Record.{Record}
use Rattle.sccs_sets.specs.Marks.{or_else, said_by}
use Rattle.sccs_sets.proofs.Passing.{IsAt, TurnsTo, at_start, turned, at_end, listed_said, drop-record}
use Rattle.sccs_sets.proofs.delta_sets.pass.Goals as goal
use Rattle.sccs_sets.proofs.delta_sets.pass.Goals.{then-is_applied, else-is_applied}

pub loop-record-init : goal.loop-record-init
loop-record-init c =
    let include : List ℕ = c.args.include.now in
    let exclude : List ℕ = c.args.exclude.now in
    at_start (record {
      target = c.args.target;
      include = include;
      exclude = exclude;
      cutoff =
          option_map (λ m. m.seconds) c.args.cutoff;
    }) c.args.records.now c.mark_list-2.new.marks c.args.set.now
    (c.mark_list-2.ensures.sized ∙ (c.mark_list.ensures.sized ∙ c.requires.marks)) c.requires.falls
    (λ n lt. c.mark_list-2.ensures.said n (omega (arith, lt, c.mark_list.ensures.sized, c.requires.marks))
    ∙ (ap (λ o. or_else o (said_by exclude false n)) (c.mark_list.ensures.said n (omega (arith, lt, c.requires.marks)))
    ∙ (listed_said (get_or c.args.marks.now n None) include exclude n
    ∙ ap (λ o. or_else o (listed include exclude n None)) (c.requires.unmarked n))))
    c.requires.unset

pub loop-record-preserved : goal.loop-record-preserved
loop-record-preserved c =
    let asked : Asked = record {
      target = c.args.target;
      include = c.args.include.now;
      exclude = c.args.exclude.now;
      cutoff = option_map (λ m. m.seconds) c.args.cutoff;
    } in
    let all : List Record = c.args.records.now in
    let rs : List Record = drop (c.loop-record.record-index + 1) all in
    let r : Record = c.record-item.result in
    let at : IsAt asked all (r ∷ rs) c.loop-record.wanted c.loop-record.marks c.loop-record.set =
    subst (λ l. IsAt asked all l c.loop-record.wanted c.loop-record.marks c.loop-record.set)
    (drop-record all c.loop-record.record-index r c.loop-record-test.true c.record-item.is)
    c.loop-record.invariant in
    let turn : TurnsTo r c.is_applied.result c.loop-record.marks c.if-is_applied.marks c.loop-record.set
    c.if-is_applied.set =
    elim c.if-is_applied.branch [
      | then-is_applied w ↦ subst (λ t. TurnsTo r t c.loop-record.marks c.if-is_applied.marks c.loop-record.set
          c.if-is_applied.set) (sym w.if-is_applied.true) (
            (λ n lt. ap (λ m. get_or m n None) w.marks-is
                ∙ w.apply_delta.ensures.marks n lt),
            (
              ap length w.marks-is ∙ w.apply_delta.ensures.sized,
              w.set-is
                  ∙ w.apply_delta.ensures.set,
            ),
          )
      | else-is_applied w ↦ subst (λ t. TurnsTo r t c.loop-record.marks c.if-is_applied.marks c.loop-record.set
          c.if-is_applied.set) (sym w.if-is_applied.false) (w.marks-is, w.set-is)
    ] in
    turned asked all rs r c.loop-record.wanted c.next_wanted-wanted.result c.loop-record.marks c.if-is_applied.marks
    c.loop-record.set c.if-is_applied.set c.is_applied.result at c.is_applied.ensures c.next_wanted-wanted.ensures
    turn

pub returns : goal.returns
returns c =
    let asked : Asked = record {
      target = c.args.target;
      include = c.args.include.now;
      exclude = c.args.exclude.now;
      cutoff = option_map (λ m. m.seconds) c.args.cutoff;
    } in
    let all : List Record = c.args.records.now in
    at_end asked all c.loop-record.wanted c.loop-record.marks c.loop-record.set (subst (λ b. Falls b (serials_of all))
    (sym c.loop-record.auto.set) c.requires.falls)
    (subst (λ l. IsAt asked all l c.loop-record.wanted c.loop-record.marks c.loop-record.set)
    (at_drop_all (λ l. l) all c.loop-record.record-index c.loop-record-test.false) c.loop-record.invariant)
