use Rattle.std.proofs.Common.{◌≡◌, ◌++◌, ℕ, map}
use Rattle.std.specs.Global.{Vec}
use Rattle.sccs_base.specs.NameSets.{names_in}
use Rattle.sccs_operands.proofs.listing.in_order.Given as goal

-- the names so far and those of the rest are all names
abbrev pub invariant-names : goal.invariant-names
invariant-names l = record {
  all : l.names ++ map (λ (name : Vec ℕ). name.items) l.name-iterator ≡ names_in l.fn.kept;
  can : (goal.iterator-names).can_next l.name-iterator;
  ends : (goal.iterator-names).is_finite l.name-iterator;
}
