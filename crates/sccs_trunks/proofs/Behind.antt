-- Changes of which none is before a line, and what reading a script gives.
use Rattle.std.proofs.Common.{◌≡◌, ℕ, ◌+◌, ◌≤◌, ◌<◌, nat_le, nat_lt, Bool, true, false, ◌&&◌, List, [], ◌∷◌, Result, Ok}
use Rattle.std.proofs.Common.{Err, refl, sym, ap, ◌∙◌, arith}
use Rattle.std.proofs.lemmas.Bool.{and_left, false≢true, lt-leb, ne_eqb, or_from}
use Rattle.sccs_history.specs.Numbers.{front_if}
use Rattle.sccs_trunks.specs.Changes.{Change, Strike, Put, added, strikes, then_changes}

-- ---- changes of which none is before a line

-- changes that leave the lines up to `last` as they are, and add none before line `last`
pub record IsBehind (last : ℕ) (changes : List Change) : Type 0 where
  pub leaves : (k : ℕ) → k ≤ last → strikes changes k ≡ false
  pub adds : (k : ℕ) → k < last → added changes k ≡ []

pub behind_none : (last : ℕ) → IsBehind last []
behind_none last = record { leaves = λ k le. refl; adds = λ k lt. refl }

pub behind_wider : (low high : ℕ) (changes : List Change) → low ≤ high → IsBehind high changes → IsBehind low changes
behind_wider low high changes le is =
    record { leaves = λ k le2. is.leaves k (omega arith); adds = λ k lt. is.adds k (omega arith) }

pub behind_put : (last : ℕ) (line : List ℕ) (changes : List Change) → IsBehind last changes
    → IsBehind last (Put last line ∷ changes)
behind_put last line changes is = record {
  leaves = λ k le. is.leaves k le;
  adds = λ k lt. ap (λ t. front_if t line (added changes k)) (ne_eqb last k (λ e. omega arith)) ∙ is.adds k lt;
}

pub behind_strike : (last first count : ℕ) (changes : List Change) → last < first → IsBehind last changes
    → IsBehind last (Strike first count ∷ changes)
behind_strike last first count changes lt is = record {
  leaves = λ k le. or_from (nat_le first k && nat_lt k (first + count)) (strikes changes k) (and_left (nat_le first k)
      (nat_lt k (first + count)) (lt-leb first k (omega arith))) (is.leaves k le);
  adds = λ k lt2. is.adds k lt2;
}

pub record Within (r : Result (List Change) ℕ) (more : List Change → List Change) (changes : List Change) : Type 0 where
  pub inner : List Change
  pub read : r ≡ Ok inner
  pub whole : more inner ≡ changes

abbrev pub changes_or : Result (List Change) ℕ → List Change
changes_or (Ok changes) = changes
changes_or (Err left) = []

abbrev is_fault : Result (List Change) ℕ → Bool
is_fault (Ok changes) = false
is_fault (Err left) = true

pub no_fault : {P : Type 0} (left : ℕ) (changes : List Change) → Err left ≡ Ok changes → P
no_fault left changes e = absurd (false≢true (sym (ap is_fault e)))

pub within : (more : List Change → List Change) (r : Result (List Change) ℕ) (changes : List Change)
    → then_changes more r ≡ Ok changes → Within r more changes
within more (Ok inner) changes e = record { inner = inner; read = refl; whole = ap changes_or e }
within more (Err left) changes e = no_fault left changes e
