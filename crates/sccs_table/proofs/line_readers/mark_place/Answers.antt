use Rattle.std.proofs.Common.{◌≡◌, ◌≢◌, ◌<◌, ◌+◌, ◌-◌, ◌∙◌, arith, get_or, length, subst, sym}
use Rattle.std.proofs.lemmas.List.{get_or-drop}
use Rattle.sccs_table.specs.Runs.{HasNoMark}
use Rattle.sccs_table.proofs.RunLaws.{no_mark_on, no_mark_to}
use Rattle.sccs_table.proofs.line_readers.mark_place.Goals.{else-place-gt0-via-then-place-gt0+else-bytes-place-eq10}
use Rattle.sccs_table.proofs.line_readers.mark_place.Goals.{else-place-gt0-via-else-place-gt0}
use Rattle.sccs_table.proofs.line_readers.mark_place.Goals as goal

pub returns-then-bytes-place-eq10-clause-first : goal.returns-then-bytes-place-eq10-clause-first
returns-then-bytes-place-eq10-clause-first c =
    let bytes = c.args.bytes.now in
    let from = c.places.from in
    no_mark_to bytes from c.in-Some.place (omega (arith, c.in-Some.ensures.1)) c.places.invariant.none
    (λ k low below is. c.in-Some.ensures.2 (from + k) (omega arith) (omega arith) (sym (get_or-drop from bytes k 0)
    ∙ is))

pub places-preserved : goal.places-preserved
places-preserved c =
    let bytes = c.args.bytes.now in
    let from = c.places.from in
    let place = c.in-Some.place in
    let at : from + (place - from) ≡ place = omega (arith, c.in-Some.ensures.0) in
    let last : 0 < place → get_or bytes (place - 1) 0 ≢ 10 = elim c.else-place-gt0.branch [
      | else-place-gt0-via-then-place-gt0+else-bytes-place-eq10 w ↦ λ some. w.if-bytes-place-eq10.false
      | else-place-gt0-via-else-place-gt0 w ↦ λ some. absurd (omega (arith, w.if-place-gt0.false))
    ] in
    record {
      fits = omega (arith, c.in-Some.ensures.1);
      none = subst (λ n. HasNoMark bytes (n + 1)) at (no_mark_on bytes from (place - from) c.places.invariant.none
          (λ k low below is. c.in-Some.ensures.2 (from + k) (omega arith) (omega arith)
          (sym (get_or-drop from bytes k 0) ∙ is))
          (λ some. subst (λ n. get_or bytes (n - 1) 0 ≢ 10) (sym at) (last (omega (arith, some, at)))));
    }

pub returns-clause-first : goal.returns-clause-first
returns-clause-first c =
    let bytes = c.args.bytes.now in
    let from = c.places.from in
    no_mark_to bytes from (length bytes) (omega arith) c.places.invariant.none
    (λ k low below is. c.in_default.ensures (from + k) (omega arith) (omega arith) (sym (get_or-drop from bytes k 0)
    ∙ is))
