use Rattle.std.proofs.Common.{◌≡◌, ◌+◌, None, Some, sym, ap, ◌∙◌, rules}
use Rattle.sccs_pfile.specs.Reading.{entries_at, entry_of, edits_with_entry}
use Rattle.sccs_pfile.proofs.Cuts.{first_line}
use Rattle.sccs_pfile.proofs.reading.next_entry.Goals as goal

pub returns-in-Ok-Some-clause-value : goal.returns-in-Ok-Some-clause-value
returns-in-Ok-Some-clause-value c =
    let read : Some c.in-Ok-Some.edit ≡ entry_of c.cut_at.result.0.now = search rules in
    sym (first_line c.args.number c.args.bytes.now c.in-Some.rest.now (rw c.in-Some.is at c.cut_at.ensures.rest)
    ∙ ap (λ o. edits_with_entry c.args.number o (entries_at (c.args.number + 1) c.in-Some.rest.now))
    (ap entry_of (sym c.cut_at.ensures.piece) ∙ sym read))

pub returns-in-Ok-None-clause-value : goal.returns-in-Ok-None-clause-value
returns-in-Ok-None-clause-value c =
    let read : None ≡ entry_of c.cut_at.result.0.now = search rules in
    first_line c.args.number c.args.bytes.now c.in-Some.rest.now (rw c.in-Some.is at c.cut_at.ensures.rest)
    ∙ ap (λ o. edits_with_entry c.args.number o (entries_at (c.args.number + 1) c.in-Some.rest.now))
    (ap entry_of (sym c.cut_at.ensures.piece) ∙ sym read)
