use Rattle.std.proofs.Common.{rules}
use Rattle.std.specs.Ordering.{nat_cmp}
use Rattle.std.proofs.lemmas.Fn.{always_returns_same}
use Rattle.sccs_versions.proofs.Places.{searched}
use Rattle.sccs_versions.proofs.regions.place_of.Goals as goal

pub returns-clause-place : goal.returns-clause-place
returns-clause-place c =
    searched c.args.serial c.args.regions.now c.binary_search_by.result c.requires c.binary_search_by.ensures.bound
    (c.binary_search_by.ensures.position (λ e. nat_cmp e.serial c.args.serial) (always_returns_same _ _ _
    (λ a r f k. search rules)))
