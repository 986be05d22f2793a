use Rattle.std.proofs.Common.{◌≡◌, [], IfOk, true, false, get_or, subst, ap, ◌∙◌, rules}
use Rattle.std.specs.List.{AllByRecursion}
use Rattle.sccs_history.specs.Applied.{live_serials}
use Rattle.sccs_history.specs.Numbers.{has}
use Rattle.sccs_sets.specs.Naming.{AnswersSerials, named_serials}
use Rattle.sccs_sets.proofs.Lookups.{places_of}
use Rattle.sccs_sets.proofs.naming.serials.Goals as goal

pub serials_by-requires-clause-marks : goal.serials_by-requires-clause-marks
serials_by-requires-clause-marks c = λ n.
    ap (λ l. get_or l n false) (c.deref_mut.ensures.value ∙ c.in-Ok-vec.ensures.items_if_clones_equal
    (λ y h. search rules)) ∙ places_of false 65536 n

pub returns-clause-value : goal.returns-clause-value
returns-clause-value c = subst (λ rs. AnswersSerials (named_serials rs [] c.args.list.now) c.serials_by.result)
    c.items-records.ensures c.serials_by.ensures.value

pub returns-clause-live : goal.returns-clause-live
returns-clause-live c = subst (λ rs. IfOk c.serials_by.result (AllByRecursion (λ n. has (live_serials rs) n ≡ true)))
    c.items-records.ensures c.serials_by.ensures.live
