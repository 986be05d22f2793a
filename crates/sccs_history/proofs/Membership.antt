-- The computed test of membership, and std's word for it.
use Rattle.std.proofs.Common.{◌≡◌, ℕ, ◌==◌, List, refl, Decides}
use Rattle.std.specs.List.{Contains}
use Rattle.std.proofs.lemmas.Bool.Decides.{Decides-eqb, Decides-by_or}
use Rattle.std.proofs.lemmas.List.Elements.{Decides-contains}
use Rattle.sccs_history.specs.Numbers.{has}

pub has_decides : (ns : List ℕ) (n : ℕ) → Decides (has ns n) (Contains ns n)
has_decides ns n =
    Decides-contains ns n (has ns n) (Decides-by_or (λ m. m == n) (λ m. m ≡ n) (λ l. has l n) (λ m. Decides-eqb m n)
    refl (λ _ _. refl) ns)
