-- Look-ups in a table.
use Rattle.std.proofs.Common.{◌≡◌, ℕ, ◌==◌, Bool, true, false, cond, not, ◌||◌, List, [], ◌∷◌, Option, None, Some}
use Rattle.std.proofs.Common.{subst, ⊎_elim, eq-eqb, get_or, replicate, arith}
use Rattle.std.specs.List.{find, AllByRecursion}
use Rattle.std.proofs.lemmas.Bool.{false≢true, or_left, or_right, or_cases, eqb-true, cases_lt}
use Rattle.std.proofs.lemmas.List.{get_or-replicate, get_or_past, length-replicate}
use Rattle.sccs_history.proofs.Falling.{front_has}
use Rattle.sccs_history.specs.Numbers.{has}
use Rattle.sccs_history.specs.Applied.{serials_of, live_serials}
use Rattle.sccs_history.specs.declared.headers.Record.{Record}
use Rattle.sccs_sets.specs.Sets.{record_at}

found_or : (t h : Bool) (r : Record) (o : Option Record) → (t || h) ≡ true → cond t (Some r) o ≡ None
    → (h ≡ true → o ≡ None → ⊥) → ⊥
found_or true h r o there none rest = cc
found_or false h r o there none rest = rest there none

-- a serial of the table has its record
pub record_there : (records : List Record) (n : ℕ) → has (serials_of records) n ≡ true → record_at records n ≡ None → ⊥
record_there [] n there none = false≢true there
record_there (r ∷ rs) n there none = found_or (r.serial == n) (has (serials_of rs) n) r (record_at rs n) there none
    (record_there rs n)

found_has : (t : Bool) (p : ℕ → Bool) (x n : ℕ) (xs : List ℕ) → cond t (Some x) (find p xs) ≡ Some n
    → (find p xs ≡ Some n → has xs n ≡ true) → has (x ∷ xs) n ≡ true
found_has true p x n xs found rest = or_left (x == n) (has xs n) (eq-eqb x n (cc))
found_has false p x n xs found rest = or_right (x == n) (has xs n) (rest found)

-- what is found in a list is in it
pub find-has : (p : ℕ → Bool) (xs : List ℕ) (n : ℕ) → find p xs ≡ Some n → has xs n ≡ true
find-has p [] n found = cc
find-has p (x ∷ xs) n found = found_has (p x) p x n xs found (find-has p xs n)

-- what holds of each number of a list holds of one that is there
pub all_has : (P : ℕ → Type 0) (ns : List ℕ) (n : ℕ) → AllByRecursion P ns → has ns n ≡ true → P n
all_has P [] n each there = absurd (false≢true there)
all_has P (m ∷ ns) n each there =
    ⊎_elim (λ e. subst P (eqb-true m n e) each.0) (λ e. all_has P ns n each.1 e) (or_cases (m == n) (has ns n) there)

-- a live serial is a serial
pub live_there : (rs : List Record) (n : ℕ) → has (live_serials rs) n ≡ true → has (serials_of rs) n ≡ true
live_there [] n there = there
live_there (r ∷ rs) n there =
    ⊎_elim (λ e. or_left (r.serial == n) (has (serials_of rs) n) (eq-eqb r.serial n e.1)) (λ e. or_right (r.serial == n)
    (has (serials_of rs) n) (live_there rs n e))
    (front_has (not r.removed) r.serial (live_serials rs) n there)

-- a list of one value has it at each place
pub places_of : {A : Type 0} (x : A) (k n : ℕ) → get_or (replicate k x) n x ≡ x
places_of x k n =
    ⊎_elim (λ low. get_or-replicate k n x x low) (λ past. get_or_past (replicate k x) n x
    (omega (arith, length-replicate k x, past))) (cases_lt n k)
