use Rattle.std.proofs.Common.{◌≡◌, ℕ, true, option_map, sym, ap, ◌∙◌, subst}
use Rattle.sccs_history.specs.Numbers.{has}
use Rattle.sccs_history.specs.Applied.{Asked, live_serials, serials_of}
use Rattle.sccs_history.specs.History.{IsTable}
use Rattle.sccs_sets.proofs.Living.{applied_no_zero}
use Rattle.sccs_sets.proofs.Lookups.{find-has, all_has, live_there}
use Rattle.sccs_sets.proofs.delta_sets.delta_set.Goals as goal

pub sid_at-requires : goal.sid_at-requires
sid_at-requires c =
    let n : ℕ = c.in-Some.serial in
    let there : has c.items-include.result.now n ≡ true = find-has (λ m. has c.items-exclude.result.now m)
    c.items-include.result.now n (sym c.first_shared.ensures ∙ c.in-Some.is) in
    let lives : has (live_serials c.args.header.now.records) n ≡ true =
    all_has (λ m. has (live_serials c.args.header.now.records) m ≡ true) c.args.include.now n c.requires.include
    (subst (λ l. has l n ≡ true) c.items-include.ensures there) in
    subst (λ rs. has (serials_of rs) n ≡ true) (sym c.items-records.ensures)
    (live_there c.args.header.now.records n lives)

pub returns-in-Ok-clause-no_zero : goal.returns-in-Ok-clause-no_zero
returns-in-Ok-clause-no_zero c table =
    let asked : Asked = record {
      target = c.args.target;
      include = c.items-include.result.now;
      exclude = c.items-exclude.result.now;
      cutoff = option_map (λ m. m.seconds) c.args.cutoff;
    } in
    ap (λ l. has l 0) c.in-Ok.ensures ∙ applied_no_zero asked c.items-records.result.now
    (subst IsTable (sym c.items-records.ensures) table)
