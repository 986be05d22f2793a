use Rattle.std.proofs.Common.{length, ap, ◌∙◌}
use Rattle.std.proofs.Math.Seq.{drop-length}
use Rattle.sccs_sid.specs.Reading.{until, behind}
use Rattle.sccs_sid.proofs.Digits.{rest_from}
use Rattle.sccs_sid.proofs.WordLemmas.{rest_of, next_is}
use Rattle.sccs_sid.proofs.words.next_word.Goals as goal

pub returns-in-Some-clause-value : goal.returns-in-Some-clause-value
returns-in-Some-clause-value c =
    let rest = rw c.in-Some.is at c.cut_at.ensures.rest in
    next_is c.args.bytes.now c.cut_at.result.0.now c.in-Some.rest.now (c.cut_at.ensures.piece
    ∙ ap (until 32) c.skip_blanks-bytes.ensures.value)
    (ap rest_of rest ∙ ap (λ bytes. rest_of (behind 32 bytes)) c.skip_blanks-bytes.ensures.value)

pub returns-in-None-clause-value : goal.returns-in-None-clause-value
returns-in-None-clause-value c =
    let rest = rw c.in-None.is at c.cut_at.ensures.rest in
    let bytes = c.skip_blanks-bytes.result.now in
    next_is c.args.bytes.now c.cut_at.result.0.now _ (c.cut_at.ensures.piece
    ∙ ap (until 32) c.skip_blanks-bytes.ensures.value)
    (rest_from (length bytes) bytes
    ∙ (drop-length bytes ∙ (ap rest_of rest
    ∙ ap (λ bytes. rest_of (behind 32 bytes)) c.skip_blanks-bytes.ensures.value)))
