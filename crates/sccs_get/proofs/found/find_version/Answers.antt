use Rattle.std.proofs.lemmas.Result.{err_from_is_err_and}
use Rattle.std.proofs.Common.{◌≡◌, ℕ, List, true, Some, ap, sym, subst, ◌∙◌}
use Rattle.std.specs.List.{AllByRecursion}
use Rattle.sccs_history.specs.Applied.{live_serials, serials_of}
use Rattle.sccs_history.specs.Numbers.{has}
use Rattle.sccs_history.specs.declared.headers.Record.{Record}
use Rattle.sccs_sets.specs.Sets.{sid_at}
use Rattle.sccs_sets.proofs.Lookups.{live_there}
use Rattle.sccs_get.specs.NewEntry.{singles}
use Rattle.sccs_get.proofs.FoundLaws.{found_so, not_asked}
use Rattle.sccs_get.proofs.found.find_version.Goals as goal

pub returns-in_err-asked-clause-value : goal.returns-in_err-asked-clause-value
returns-in_err-asked-clause-value c =
    let p = err_from_is_err_and c.from_residual.result c.from_residual.ensures.1 in
    rw (p.1, p.2) (not_asked c.args.words.now c.args.stamp.now c.args.place.now c.args.name.now c.args.header.now
    c.in_err-asked.field-0.0 c.in_err-asked.ensures.value)

pub sid_at-sid-requires : goal.sid_at-sid-requires
sid_at-sid-requires c = subst (λ (rs : List Record). has (serials_of rs) c.in_ok-asked.asked.target ≡ true)
    (sym c.items-records.ensures) (live_there c.args.header.now.records c.in_ok-asked.asked.target
    c.in_ok-asked.ensures.live)

pub singles-requires-clause-live : goal.singles-requires-clause-live
singles-requires-clause-live c =
    subst (λ (rs : List Record). AllByRecursion (λ n. has (live_serials rs) n ≡ true) c.items.result.now)
    (sym c.items-records.ensures)
    (subst (λ (ns : List ℕ). AllByRecursion (λ n. has (live_serials c.args.header.now.records) n ≡ true) ns)
    (sym c.items.ensures) c.in_ok-asked.ensures.include)

pub singles-requires-2-clause-live : goal.singles-requires-2-clause-live
singles-requires-2-clause-live c =
    subst (λ (rs : List Record). AllByRecursion (λ n. has (live_serials rs) n ≡ true) c.items-2.result.now)
    (sym c.items-records.ensures)
    (subst (λ (ns : List ℕ). AllByRecursion (λ n. has (live_serials c.args.header.now.records) n ≡ true) ns)
    (sym c.items-2.ensures) c.in_ok-asked.ensures.exclude)

pub returns-clause-value : goal.returns-clause-value
returns-clause-value c =
    found_so c.args.words.now c.args.stamp.now c.args.place.now c.args.name.now c.args.header.now c.in_ok-asked.asked
    c.sid_at-sid.result c.in-Ok.include c.in-Ok-singles.exclude c.in-Ok-module_in.module c.in-Ok-facts_in.facts
    c.in_ok-asked.ensures.value
    (subst (λ (rs : List Record). sid_at rs c.in_ok-asked.asked.target ≡ Some c.sid_at-sid.result)
    c.items-records.ensures c.sid_at-sid.ensures)
    (c.in-Ok.ensures.value ∙ (ap (λ (rs : List Record). singles rs c.items.result.now) c.items-records.ensures
    ∙ ap (λ (ns : List ℕ). singles c.args.header.now.records ns) c.items.ensures))
    (c.in-Ok-singles.ensures.value ∙ (ap (λ (rs : List Record). singles rs c.items-2.result.now) c.items-records.ensures
    ∙ ap (λ (ns : List ℕ). singles c.args.header.now.records ns) c.items-2.ensures))
    c.in-Ok-module_in.ensures c.in-Ok-facts_in.ensures.value
