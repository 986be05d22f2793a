use Rattle.std.proofs.Common.{ℕ, ◌≡◌, ◌+◌, ◌<◌, ◌≤◌, [], List, None, Some, length, drop, sym, ap, ◌∙◌, arith}
use Rattle.std.proofs.lemmas.List.{at_drop_all}
use Rattle.sccs_history.specs.Numbers.{has}
use Rattle.sccs_sid.specs.declared.sid_lists.Range.{Range}
use Rattle.sccs_history.specs.declared.headers.Record.{Record}
use Rattle.sccs_sets.specs.Naming.{add_range, named_serials, range_fault}
use Rattle.sccs_sets.proofs.Living.{serials_live}
use Rattle.sccs_sets.proofs.Putting.{drop-at, none_of, range_stops, range_goes}
use Rattle.sccs_sets.proofs.naming.serials_by.Goals as goal

pub loop-place-init : goal.loop-place-init
loop-place-init c = (
  ap (λ (ns : List ℕ). named_serials c.args.records.now ns c.args.list.now) c.empty-seen.ensures,
  (λ n. c.requires.marks n ∙ ap (λ (ns : List ℕ). has ns n) (sym c.empty-seen.ensures)),
  c.requires.size,
)

pub returns-in-Some-clause-value : goal.returns-in-Some-clause-value
returns-in-Some-clause-value c =
    let records : List Record = c.args.records.now in
    let range : Range = c.at-range.result.now in
    let list : List Range = c.args.list.now in
    let low : c.loop-place.place < length list = omega (arith, c.loop-place-test.true, c.len-place-end.ensures) in
    let fault : range_fault records range ≡ Some c.in-Some.sid = sym c.range_fault_by.ensures ∙ c.in-Some.is in
    sym c.loop-place.invariant.0
    ∙ (ap (λ l. named_serials records c.loop-place.seen l)
    (drop-at list c.loop-place.place range low c.at-range.ensures) ∙ range_stops records c.loop-place.seen range
    (drop (c.loop-place.place + 1) list) c.in-Some.sid fault)

pub loop-place-preserved : goal.loop-place-preserved
loop-place-preserved c =
    let records : List Record = c.args.records.now in
    let range : Range = c.at-range.result.now in
    let list : List Range = c.args.list.now in
    let low : c.loop-place.place < length list = omega (arith, c.loop-place-test.true, c.len-place-end.ensures) in
    let fault : range_fault records range ≡ None = sym c.range_fault_by.ensures
    ∙ none_of c.range_fault_by.result c.in_default.not-Some in
    let more : c.add_range.new.seen ≡ add_range records c.loop-place.seen range = c.in-Ok.ensures.value in (
      range_goes records c.loop-place.seen c.add_range.new.seen range (drop (c.loop-place.place + 1) list) fault more
          ∙ (ap (λ l. named_serials records c.loop-place.seen l)
          (sym (drop-at list c.loop-place.place range low c.at-range.ensures)) ∙ c.loop-place.invariant.0),
      c.in-Ok.ensures.marks,
      c.add_range.ensures.size,
    )

pub returns-clause-live : goal.returns-clause-live
returns-clause-live c =
    let records : List Record = c.args.records.now in
    let list : List Range = c.args.list.now in
    let past : length list ≤ c.loop-place.place = omega (arith, c.loop-place-test.false, c.len-place-end.ensures) in
    serials_live records [] list c.loop-place.seen tt
    (sym c.loop-place.invariant.0 ∙ ap (λ l. named_serials records c.loop-place.seen l)
    (at_drop_all (λ l. l) list c.loop-place.place past))
