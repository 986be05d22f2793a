use Rattle.std.proofs.Common.{rules}
use Rattle.std.specs.Ordering.{nat_cmp}
use Rattle.std.proofs.lemmas.Fn.{always_returns_same}
use Rattle.sccs_keywords.proofs.Finds.{searched}
use Rattle.sccs_keywords.proofs.finders.place_of.Goals as goal

pub returns-clause-sid : goal.returns-clause-sid
returns-clause-sid c =
    searched c.args.serial c.args.records.now c.binary_search_by.result c.requires c.binary_search_by.ensures.bound
    (c.binary_search_by.ensures.position (λ r. nat_cmp c.args.serial r.serial) (always_returns_same _ _ _
    (λ a r f k. search rules)))
