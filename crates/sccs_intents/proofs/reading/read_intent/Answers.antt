use Rattle.std.proofs.Common.{◌≡◌, None, false, nat_lt, length, sym, ◌∙◌, rules}
use Rattle.sccs_base.specs.Constants.{file_limit}
use Rattle.sccs_sid.specs.Reading.{behind}
use Rattle.sccs_intents.proofs.Cuts.{not_false}
use Rattle.sccs_intents.proofs.Turns.{bad_first, good_first, no_first}
use Rattle.sccs_intents.proofs.reading.read_intent.Goals as goal
use Rattle.std.proofs.lemmas.Bool.{not-true}

pub returns-in_default : goal.returns-in_default
returns-in_default c =
    let none : None ≡ behind 10 c.args.bytes.now = search rules in
    let short : nat_lt file_limit (length c.args.bytes.now) ≡ false = search rules in
    no_first c.args.bytes.now short none

pub returns-then-ne : goal.returns-then-ne
returns-then-ne c =
    let short : nat_lt file_limit (length c.args.bytes.now) ≡ false = search rules in
    bad_first c.args.bytes.now c.cut_at.result.0.now c.in-Some.rest.now short c.cut_at.ensures.piece
    (rw c.in-Some.is at c.cut_at.ensures.rest)
    (not-true _ (sym c.ne.ensures ∙ c.if-ne.true))

pub returns : goal.returns
returns c =
    let short : nat_lt file_limit (length c.args.bytes.now) ≡ false = search rules in
    good_first c.args.bytes.now c.cut_at.result.0.now c.in-Some.rest.now c.read_entries.result short
    c.cut_at.ensures.piece (rw c.in-Some.is at c.cut_at.ensures.rest)
    (not_false _ (sym c.ne.ensures ∙ c.if-ne.false)) c.read_entries.ensures
