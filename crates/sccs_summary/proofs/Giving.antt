-- Items that are given to a sink one after the other.
use Rattle.std.proofs.Common.{◌≡◌, ℕ, suc, ◌+◌, ◌<◌, ◌≤◌, List, ◌++◌, length, take, drop, flat_map, get_or, Option}
use Rattle.std.proofs.Common.{None, Result, Err, sym, ap, subst, ◌∙◌, append_assoc, add-one, arith}
use Rattle.sccs_base.specs.Stream.{GivesOk, GivesSome}
use Rattle.sccs_base.proofs.Gifts.{gives_both, gives_then, part_more, some_longer}
use Rattle.sccs_base.proofs.Runs.{pieces_at}
use Rattle.sccs_sid.specs.declared.refusals.StepFault.{StepFault}
use Rattle.sccs_sid.specs.declared.refusals.StepFault.TheVariants.{Refused, Memory, ReadFault, WriteFault, DiskFault}
use Rattle.sccs_printing.specs.Targets.{IsCut}
use Rattle.sccs_steps.specs.Causes.{PrintCauses}
use Rattle.sccs_base.proofs.Rises.{rose_later}

pub next_given : {X : Type 0} (f : X → List ℕ) (xs : List X) (i : ℕ) (x d : X) (a b c : Option (List ℕ)) → i < length xs
    → x ≡ get_or xs i d → GivesOk a b (flat_map f (take i xs)) → GivesOk b c (f x)
    → GivesOk a c (flat_map f (take (i + 1) xs))
next_given f xs i x d a b c below is first second =
    subst (λ text. GivesOk a c text) (sym (ap (λ k. flat_map f (take k xs)) (add-one i) ∙ part_more f xs i d below))
    (gives_both a b c (flat_map f (take i xs)) (f (get_or xs i d)) first (subst (λ y. GivesOk b c (f y)) is second))

part_given : {X : Type 0} (f : X → List ℕ) (xs : List X) (i : ℕ) (x d : X) (a b c : Option (List ℕ)) → i < length xs
    → x ≡ get_or xs i d → GivesOk a b (flat_map f (take i xs)) → GivesSome b c (f x) → GivesSome a c (flat_map f xs)
part_given f xs i x d a b c below is first some =
    subst (λ text. GivesSome a c text)
    (append_assoc (flat_map f (take i xs)) (f (get_or xs i d)) (flat_map f (drop (suc i) xs))
    ∙ sym (pieces_at f xs i d below))
    (some_longer a c (flat_map f (take i xs) ++ f (get_or xs i d)) (flat_map f (drop (suc i) xs))
    (gives_then a b c (flat_map f (take i xs)) (f (get_or xs i d)) first
    (subst (λ y. GivesSome b c (f y)) is some)))

-- an item isn't given whole
pub cut_given : {X : Type 0} (f : X → List ℕ) (xs : List X) (i : ℕ) (x d : X) (fault : StepFault)
    (a b c : Option (List ℕ)) → i < length xs → x ≡ get_or xs i d → GivesOk a b (flat_map f (take i xs))
    → IsCut None (f x) fault b c → IsCut None (flat_map f xs) fault a c
cut_given f xs i x d Memory a b c below is first some = part_given f xs i x d a b c below is first some
cut_given f xs i x d DiskFault a b c below is first some = part_given f xs i x d a b c below is first some
cut_given f xs i x d WriteFault a b c below is first some = part_given f xs i x d a b c below is first some
cut_given f xs i x d ReadFault a b c below is first some = absurd some
cut_given f xs i x d (Refused refusal) a b c below is first some = absurd some

same_fault : {T U : Type 0} (fault other : StepFault) → ◌≡◌ {A = Result U StepFault} (Err fault) (Err other)
    → ◌≡◌ {A = Result T StepFault} (Err fault) (Err other)
same_fault fault other is = cc

-- behind items that raised no count
pub item_causes : {T U : Type 0} (fault : StepFault) (o o2 o3 d : ℕ) → o ≤ o2
    → PrintCauses {X = T} (Err fault) o2 o3 d d → PrintCauses {X = U} (Err fault) o o3 d d
item_causes fault o o2 o3 d later causes = record {
  out_later = omega (arith, later, causes.out_later);
  disk_later = omega arith;
  write = λ is. rose_later o o2 o3 later (causes.write (same_fault fault WriteFault is));
  read = λ is. causes.read (same_fault fault ReadFault is);
  broke = λ is. causes.broke (same_fault fault DiskFault is);
}
