-- Checks one after the other.
use Rattle.std.proofs.Common.{◌≡◌, Result, Ok, Err, refl, ap, subst, sym}
use Rattle.sccs_sid.specs.Reading.{◌>>=◌}
use Rattle.sccs_sid.specs.declared.refusals.Refusal.{Refusal}
use Rattle.sccs_sid.specs.declared.refusals.StepFault.{StepFault}
use Rattle.sccs_sid.specs.declared.refusals.StepFault.TheVariants.{Refused, Memory, ReadFault, WriteFault, DiskFault}
use Rattle.sccs_changes.specs.PFiles.{Answers}

-- a check that ends the chain ends the whole
pub ends : {A B : Type 0} (r : Result A Refusal) (f : A → Result B Refusal) (fault : StepFault)
    → Answers {A = A} r (Err fault) → Answers {A = B} (r >>= f) (Err fault)
ends r f (Refused refusal) is = ap (λ x. x >>= f) is
ends r f Memory is = tt
ends r f ReadFault is = is
ends r f WriteFault is = is
ends r f DiskFault is = tt

-- one that is passed leaves the rest
pub goes : {A B : Type 0} (r : Result A Refusal) (f : A → Result B Refusal) (x : A) → r ≡ Ok x → (r >>= f) ≡ f x
goes r f x is = ap (λ y. y >>= f) is

-- the same answer to what is the same
pub answers_as : {A : Type 0} (r s : Result A Refusal) (fault : StepFault) → r ≡ s → Answers {A = A} s (Err fault)
    → Answers {A = A} r (Err fault)
answers_as r s fault is answers = subst (λ x. Answers {A = _} x (Err fault)) (sym is) answers

-- where the whole is passed each check was
pub passed : {A B : Type 0} (r : Result A Refusal) (f : A → Result B Refusal) (y : B) → (r >>= f) ≡ Ok y → (x : A)
    × (r ≡ Ok x) × (f x ≡ Ok y)
passed (Ok x) f y is = (x, refl, is)
passed (Err refusal) f y is = absurd cc

pub assoc : {A B C : Type 0} (r : Result A Refusal) (f : A → Result B Refusal) (k : B → Result C Refusal)
    → (r >>= λ x. f x >>= k) ≡ ((r >>= f) >>= k)
assoc (Ok x) f k = refl
assoc (Err refusal) f k = refl

-- two checks that end the chain end the whole
pub both_end : {A B C : Type 0} (r : Result A Refusal) (s : Result B Refusal) (k : A → B → Result C Refusal)
    (fault : StepFault) → Answers {A = B} (r >>= λ x. s) (Err fault) → Answers {A = C} (r >>= λ x. s >>= k x)
    (Err fault)
both_end (Ok x) s k fault is = ends s (k x) fault is
both_end (Err refusal) s k (Refused other) is = let same : refusal ≡ other = cc in ap Err same
both_end (Err refusal) s k Memory is = tt
both_end (Err refusal) s k ReadFault is = is
both_end (Err refusal) s k WriteFault is = is
both_end (Err refusal) s k DiskFault is = tt
