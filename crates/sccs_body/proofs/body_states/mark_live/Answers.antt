use Rattle.std.proofs.Common.{◌≡◌, ◌+◌, ℕ, List, ◌∷◌, true, false, ◌||◌, drop, get_or, sym, ap, ◌∙◌, arith}
use Rattle.std.proofs.Math.Bool.{or-true}
use Rattle.std.proofs.lemmas.List.{drop_more}
use Rattle.sccs_history.specs.Applied.{live_serials}
use Rattle.sccs_history.specs.Numbers.{has}
use Rattle.sccs_history.specs.declared.headers.Record.{Record}
use Rattle.sccs_body.proofs.OpenLaws.{head_lives}
use Rattle.sccs_body.proofs.body_states.mark_live.Goals as goal

pub bounds-lives-record : goal.bounds-lives-record
bounds-lives-record c =
    let all : List Record = c.args.records.now in
    let i : ℕ = c.loop-record.record-index in
    let r : Record = c.record-item.result in
    let rest : List Record = drop (i + 1) all in
    let first : drop i all ≡ r ∷ rest = drop_more all i r c.loop-record-test.true
    ∙ ap (λ x. x ∷ rest) (sym c.record-item.is) in
    let here : has (live_serials (drop i all)) r.serial ≡ true = ap (λ l. has (live_serials l) r.serial) first
    ∙ head_lives r rest c.if-not-record.true in
    let lives : has (live_serials all) r.serial ≡ true =
    sym (c.loop-record.invariant.1 r.serial) ∙ (ap (λ t. get_or c.loop-record.lives r.serial false || t) here
    ∙ or-true (get_or c.loop-record.lives r.serial false)) in
    omega (arith, c.requires.within r.serial lives, c.loop-record.invariant.0)
