use Rattle.std.proofs.Common.{Bool, false, Option, None, get_or, ap, ◌∙◌, rules}
use Rattle.sccs_sets.proofs.Lookups.{places_of}
use Rattle.sccs_sets.proofs.delta_sets.set_of.Goals as goal

pub pass-requires-clause-unmarked : goal.pass-requires-clause-unmarked
pass-requires-clause-unmarked c = λ n.
    ap (λ l. get_or l n None) (c.deref_mut.ensures.value ∙ c.in-Ok.ensures.items_if_clones_equal (λ y h. search rules))
    ∙ places_of {A = Option Bool} None c.places-count.result n

pub pass-requires-clause-unset : goal.pass-requires-clause-unset
pass-requires-clause-unset c = λ n.
    ap (λ l. get_or l n false) (c.deref_mut-2.ensures.value ∙ c.in-Ok-vec.ensures.items_if_clones_equal
    (λ y h. search rules)) ∙ places_of false c.places-count.result n
