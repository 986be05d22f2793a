-- The first delta of a file stands last in its table.
use Rattle.std.proofs.Common.{◌≡◌, ℕ, suc, ◌-◌, Bool, List, [], ◌∷◌, Some, length, slice_get, ap, subst, arith}
use Rattle.sccs_history.specs.declared.headers.Record.{Record}
use Rattle.sccs_rmdel.specs.Leaves.{first_made}

one_less : (n : ℕ) → suc (suc n) - 1 ≡ suc (suc n - 1)
one_less n = omega arith

pub made_last : (test : Record → Bool) (records : List Record) (r : Record) → slice_get records (length records - 1)
    ≡ Some r → test r ≡ first_made test records
made_last test [] r is = absurd cc
made_last test (a ∷ []) r is = let same : r ≡ a = cc in ap test same
made_last test (a ∷ b ∷ rs) r is = made_last test (b ∷ rs) r (subst (λ k. slice_get (a ∷ b ∷ rs) k ≡ Some r)
    (one_less (length rs)) is)
