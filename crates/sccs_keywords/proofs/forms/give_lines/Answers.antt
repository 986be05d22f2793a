use Rattle.std.proofs.Common.{◌+◌, ◌-◌, ◌++◌, take, drop, arith, sym, subst, ◌∙◌}
use Rattle.sccs_base.specs.Cut.{cut}
use Rattle.sccs_base.specs.Stream.{GivesOk}
use Rattle.sccs_keywords.proofs.GiveLaws.{after_given, given_ok, text_fails}
use Rattle.sccs_keywords.specs.Forms.{line_form, formed, formed_lines}
use Rattle.sccs_keywords.proofs.LineTurns.{behind_sid, count_fits, count_on, last_text, next_line, no_line, turn_text}
use Rattle.sccs_keywords.proofs.forms.give_lines.Goals as goal

pub overflow_add-before : goal.overflow_add-before
overflow_add-before g c =
    let next = next_line c.args.lines.now c.lines.from c.in-Some.place c.lines.invariant.4 c.in-Some.ensures.0.high
    c.in-Some.ensures.1 c.in-Some.ensures.0.before in
    omega (
      arith,
      c.requires.few,
      count_fits c.args.lines.now c.lines.from c.in-Some.place c.lines.before _ next
          c.lines.invariant.6,
    )

pub overflow_add-before-in-Some : goal.overflow_add-before-in-Some
overflow_add-before-in-Some g c =
    let next = next_line c.args.lines.now c.lines.from c.in-Some.place c.lines.invariant.4 c.in-Some.ensures.0.high
    c.in-Some.ensures.1 c.in-Some.ensures.0.before in
    omega (
      arith,
      c.requires.few,
      count_fits c.args.lines.now c.lines.from c.in-Some.place c.lines.before _ next
          c.lines.invariant.6,
    )

pub returns-in-Err-clause-text : goal.returns-in-Err-clause-text
returns-in-Err-clause-text g c =
    let lines = c.args.lines.now in
    let from = c.lines.from in
    let place = c.in-Some.place in
    let form = line_form c.args.form.now in
    let line = formed form c.args.sids.now (c.lines.before + 1) c.args.inserter (take (from + place - from)
    (drop from lines)) in
    let whole = formed_lines form c.args.sids.now (c.args.before + 1) c.args.inserter (cut lines).lines in
    let next = next_line lines from place c.lines.invariant.4 c.in-Some.ensures.0.high c.in-Some.ensures.1
    c.in-Some.ensures.0.before in
    let gives = behind_sid form c.args.sids.now (c.lines.before + 1) c.args.inserter (take (from + place - from)
    (drop from lines)) _ _ _ _ _ c.give_behind.result c.sid_before-sid.ensures.text c.give_behind.ensures in
    text_fails (c.lines.invariant.0 ++ line) (formed_lines form c.args.sids.now (c.lines.before + 1 + 1) c.args.inserter
    (cut (drop (from + place + 1) lines)).lines) _ _ _ _ _ c.give_behind.result c.in-Err.fault c.in-Err.fault
    (turn_text form c.args.sids.now (c.lines.before + 1) (c.lines.before + 1 + 1) c.args.inserter lines from place
    c.lines.invariant.0 whole next (omega arith) c.lines.invariant.2) c.in-Err.is
    (after_given c.lines.invariant.0 line _ _ _ _ _ _ c.give_behind.result c.lines.invariant.1 c.lines.invariant.5
    gives)

pub lines-preserved : goal.lines-preserved
lines-preserved g c =
    let lines = c.args.lines.now in
    let from = c.lines.from in
    let place = c.in-Some.place in
    let form = line_form c.args.form.now in
    let line = formed form c.args.sids.now (c.lines.before + 1) c.args.inserter (take (from + place - from)
    (drop from lines)) in
    let whole = formed_lines form c.args.sids.now (c.args.before + 1) c.args.inserter (cut lines).lines in
    let next = next_line lines from place c.lines.invariant.4 c.in-Some.ensures.0.high c.in-Some.ensures.1
    c.in-Some.ensures.0.before in
    let gives = behind_sid form c.args.sids.now (c.lines.before + 1) c.args.inserter (take (from + place - from)
    (drop from lines)) _ _ _ _ _ c.give_behind.result c.sid_before-sid.ensures.text c.give_behind.ensures in (
      c.lines.invariant.0 ++ line,
      given_ok (c.lines.invariant.0 ++ line) _ _ _ _ c.give_behind.result _ c.in_default-give_behind.is
          (after_given c.lines.invariant.0 line _ _ _ _ _ _ c.give_behind.result c.lines.invariant.1 c.lines.invariant.5
          gives),
      turn_text form c.args.sids.now (c.lines.before + 1) (c.lines.before + 1 + 1) c.args.inserter lines from place
          c.lines.invariant.0 whole next (omega arith) c.lines.invariant.2,
      sym next.tail ∙ c.lines.invariant.3,
      next.within,
      omega (arith, c.lines.invariant.5, gives.later),
      count_on lines from place c.lines.before _ next c.lines.invariant.6,
    )

pub returns-clause-text : goal.returns-clause-text
returns-clause-text g c = record {
  ok = subst (λ text. GivesOk (g.S.Sink.given c.args.out.now) (g.S.Sink.given c.lines.out) text)
      (last_text (line_form c.args.form.now) c.args.sids.now (c.lines.before + 1) c.args.inserter c.args.lines.now
      c.lines.from c.lines.invariant.0 _ (no_line c.args.lines.now c.lines.from c.in_default.ensures)
      c.lines.invariant.2) c.lines.invariant.1;
  err = tt;
  later = c.lines.invariant.5;
  cause = tt;
}
