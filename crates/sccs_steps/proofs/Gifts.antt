-- A sink that was given nothing.
use Rattle.std.proofs.Common.{◌≡◌, ℕ, List, [], Option, sym, subst}
use Rattle.sccs_base.specs.Stream.{GivesSome}
use Rattle.sccs_base.proofs.Gifts.{some_none}

pub some_same : (a b : Option (List ℕ)) (x : List ℕ) → b ≡ a → GivesSome a b x
some_same a b x is = subst (λ c. GivesSome a c x) (sym is) (some_none a x)
