-- Texts that are printed one after the other, some of it being held back.
use Rattle.std.proofs.Common.{◌≡◌, ℕ, ◌+◌, ◌<◌, ◌≤◌, List, [], ◌++◌, length, take, flat_map, get_or, Option, Result, Ok}
use Rattle.std.proofs.Common.{Err, sym, ap, subst, ◌∙◌, arith, append_assoc, append-nil}
use Rattle.sccs_base.specs.Stream.{Buffers, GivesOk, GivesSome}
use Rattle.sccs_base.proofs.Gifts.{buffers_both, buffers_cut, buffers_flushed, buffers_part, buffers_part_cut}
use Rattle.sccs_base.proofs.Gifts.{buffers_then, gives_both, gives_then, some_longer, some_none}
use Rattle.sccs_sid.specs.declared.refusals.StepFault.{StepFault}
use Rattle.sccs_sid.specs.declared.refusals.StepFault.TheVariants.{Refused, Memory, ReadFault, WriteFault, DiskFault}
use Rattle.sccs_steps.specs.Causes.{PrintCauses}
use Rattle.sccs_prs.specs.Gives.{GivesHeld, PrintsAll}
use Rattle.sccs_base.proofs.Rises.{rose_later}

-- ---- one text behind another

pub gives_then_gives : {T : Type 0} (x y : List ℕ) (r : Result T StepFault) (held mid left : List ℕ)
    (a b c : Option (List ℕ)) → Buffers held x mid a b → GivesHeld y r mid left b c → GivesHeld (x ++ y) r held left a c
gives_then_gives x y (Ok done) held mid left a b c first second = buffers_both held x mid y left a b c first second
gives_then_gives x y (Err Memory) held mid left a b c first second = buffers_then held x mid y a b c first second
gives_then_gives x y (Err DiskFault) held mid left a b c first second = buffers_then held x mid y a b c first second
gives_then_gives x y (Err WriteFault) held mid left a b c first second = buffers_then held x mid y a b c first second
gives_then_gives x y (Err ReadFault) held mid left a b c first second = absurd second
gives_then_gives x y (Err (Refused refusal)) held mid left a b c first second = absurd second

longer : (x y held : List ℕ) (a b : Option (List ℕ)) → GivesSome a b (held ++ x) → GivesSome a b (held ++ (x ++ y))
longer x y held a b some = subst (λ t. GivesSome a b t) (append_assoc held x y) (some_longer a b (held ++ x) y some)

-- a text of which a prefix was given is longer
pub gives_less : (x y : List ℕ) (fault : StepFault) (held left left2 : List ℕ) (a b : Option (List ℕ))
    → GivesHeld {T = Unit {0}} x (Err fault) held left a b → GivesHeld {T = Unit {0}} (x ++ y) (Err fault) held left2 a
    b
gives_less x y Memory held left left2 a b some = longer x y held a b some
gives_less x y DiskFault held left left2 a b some = longer x y held a b some
gives_less x y WriteFault held left left2 a b some = longer x y held a b some
gives_less x y ReadFault held left left2 a b some = absurd some
gives_less x y (Refused refusal) held left left2 a b some = absurd some

-- behind a text nothing more is given
pub gives_no_more : (x y held mid : List ℕ) (a b : Option (List ℕ)) → Buffers held x mid a b
    → GivesSome a b (held ++ (x ++ y))
gives_no_more x y held mid a b first = buffers_then held x mid y a b b first (some_none b (mid ++ y))

-- ---- the texts of a list

pub part_gives : {X : Type 0} (f : X → List ℕ) (xs : List X) (i : ℕ) (d : X) (held mid left : List ℕ)
    (a b c : Option (List ℕ)) → i < length xs → Buffers held (flat_map f (take i xs)) mid a b
    → Buffers mid (f (get_or xs i d)) left b c → Buffers held (flat_map f (take (i + 1) xs)) left a c
part_gives f xs i d held mid left a b c below first second = buffers_part f xs i d held mid left a b c below first
    second

pub part_fails : {X : Type 0} (f : X → List ℕ) (xs : List X) (i : ℕ) (d : X) (fault : StepFault)
    (held mid left left2 : List ℕ) (a b c : Option (List ℕ)) → i < length xs
    → Buffers held (flat_map f (take i xs)) mid a b → GivesHeld {T = Unit {0}} (f (get_or xs i d)) (Err fault) mid left
    b c → GivesHeld {T = Unit {0}} (flat_map f xs) (Err fault) held left2 a c
part_fails f xs i d Memory held mid left left2 a b c below first some = buffers_part_cut f xs i d held mid a b c below
    first some
part_fails f xs i d DiskFault held mid left left2 a b c below first some =
    buffers_part_cut f xs i d held mid a b c below first some
part_fails f xs i d WriteFault held mid left left2 a b c below first some =
    buffers_part_cut f xs i d held mid a b c below first some
part_fails f xs i d ReadFault held mid left left2 a b c below first some = absurd some
part_fails f xs i d (Refused refusal) held mid left left2 a b c below first some = absurd some

-- the same where the item is that of a list with the same items
pub item_gives : {X : Type 0} (f : X → List ℕ) (xs items : List X) → items ≡ xs
    → (i : ℕ) (x d : X) (held mid left : List ℕ) (a b c : Option (List ℕ)) → i < length items → x ≡ get_or items i d
    → Buffers held (flat_map f (take i xs)) mid a b → Buffers mid (f x) left b c
    → Buffers held (flat_map f (take (i + 1) xs)) left a c
item_gives {X} f xs items same i x d held mid left a b c below is first second =
    part_gives f xs i d held mid left a b c (subst (λ (l : List X). i < length l) same below) first
    (subst (λ (y : X). Buffers mid (f y) left b c) (is ∙ ap (λ (l : List X). get_or l i d) same) second)

pub item_fails : {X : Type 0} (f : X → List ℕ) (xs items : List X) → items ≡ xs → (i : ℕ) (x d : X) (fault : StepFault)
    (held mid left left2 : List ℕ) (a b c : Option (List ℕ)) → i < length items → x ≡ get_or items i d
    → Buffers held (flat_map f (take i xs)) mid a b → GivesHeld {T = Unit {0}} (f x) (Err fault) mid left b c
    → GivesHeld {T = Unit {0}} (flat_map f xs) (Err fault) held left2 a c
item_fails {X} f xs items same i x d fault held mid left left2 a b c below is first some =
    part_fails f xs i d fault held mid left left2 a b c (subst (λ (l : List X). i < length l) same below) first
    (subst (λ (y : X). GivesHeld {T = Unit {0}} (f y) (Err fault) mid left b c) (is
    ∙ ap (λ (l : List X). get_or l i d) same) some)

-- ---- what was held back is given first, and then a text

pub flushed_gives : {T : Type 0} (text : List ℕ) (r : Result T StepFault) (held left : List ℕ) (a b c : Option (List ℕ))
    → left ≡ [] → GivesOk a b held → PrintsAll text r b c → GivesHeld text r held left a c
flushed_gives text (Ok done) held left a b c none first rest = record {
  gone = held ++ text;
  gives = gives_both a b c held text first rest;
  split = sym (append-nil (held ++ text)) ∙ ap (λ t. (held ++ text) ++ t) (sym none);
}
flushed_gives text (Err Memory) held left a b c none first rest = gives_then a b c held text first rest
flushed_gives text (Err DiskFault) held left a b c none first rest = gives_then a b c held text first rest
flushed_gives text (Err WriteFault) held left a b c none first rest = gives_then a b c held text first rest
flushed_gives text (Err ReadFault) held left a b c none first rest = absurd rest
flushed_gives text (Err (Refused refusal)) held left a b c none first rest = absurd rest

-- ---- all of it

pub gives_prints : (text : List ℕ) (fault : StepFault) (held left : List ℕ) (a b : Option (List ℕ)) → held ≡ []
    → GivesHeld {T = Unit {0}} text (Err fault) held left a b → PrintsAll {T = Unit {0}} text (Err fault) a b
gives_prints text Memory held left a b none some = subst (λ h. GivesSome a b (h ++ text)) none some
gives_prints text DiskFault held left a b none some = subst (λ h. GivesSome a b (h ++ text)) none some
gives_prints text WriteFault held left a b none some = subst (λ h. GivesSome a b (h ++ text)) none some
gives_prints text ReadFault held left a b none some = absurd some
gives_prints text (Refused refusal) held left a b none some = absurd some

pub prints_all : (text held mid : List ℕ) (a b c : Option (List ℕ)) → held ≡ [] → Buffers held text mid a b
    → GivesOk b c mid → GivesOk a c text
prints_all text held mid a b c none first rest = subst (λ h. GivesOk a c (h ++ text)) none
    (buffers_flushed held text mid a b c first rest)

pub prints_some : (text held mid : List ℕ) (a b c : Option (List ℕ)) → held ≡ [] → Buffers held text mid a b
    → GivesSome b c mid → GivesSome a c text
prints_some text held mid a b c none first rest = subst (λ h. GivesSome a c (h ++ text)) none
    (buffers_cut held text mid a b c first rest)

-- ---- why

-- behind calls that raised no count
pub causes_on : {T : Type 0} (r : Result T StepFault) (o o2 o3 d d2 d3 : ℕ) → o ≤ o2 → d ≤ d2
    → PrintCauses r o2 o3 d2 d3 → PrintCauses r o o3 d d3
causes_on r o o2 o3 d d2 d3 out_later disk_later causes = record {
  out_later = omega (arith, out_later, causes.out_later);
  disk_later = omega (arith, disk_later, causes.disk_later);
  write = λ is. rose_later o o2 o3 out_later (causes.write is);
  read = causes.read;
  broke = λ is. rose_later d d2 d3 disk_later (causes.broke is);
}
