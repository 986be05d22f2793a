-- What a sink was given by one call after another, directly or out of a buffer.
use Rattle.std.proofs.Common.{◌≡◌, ℕ, zero, suc, ◌+◌, ◌<◌, List, [], ◌∷◌, ◌++◌, Option, None, Some, Result, Ok, Err}
use Rattle.std.proofs.Common.{length, take, drop, flat_map, get_or, refl, sym, ap, subst, ◌∙◌, arith, add-one}
use Rattle.std.proofs.Common.{append_assoc, length-append, OnOk, OnErr}
use Rattle.std.specs.Result.{OnOk, OnErr}
use Rattle.std.proofs.Math.Seq.{take-length}
use Rattle.std.proofs.lemmas.List.{append-nil, take-append-le}
use Rattle.sccs_base.specs.Stream.{GivesOk, GivesSome, Buffers}
use Rattle.sccs_base.proofs.Runs.{some_after, pieces_at}

pub gives_none : (a : Option (List ℕ)) → GivesOk a a []
gives_none None = refl
gives_none (Some g) = ap Some (sym (append-nil g))

pub gives_both : (a b c : Option (List ℕ)) (x y : List ℕ) → GivesOk a b x → GivesOk b c y → GivesOk a c (x ++ y)
gives_both None None c x y first second = second
gives_both None (Some g) c x y first second = cc
gives_both (Some f) None c x y first second = cc
gives_both (Some f) (Some g) c x y first second =
    let same : g ≡ f ++ x = cc in second ∙ ap Some (ap (λ front. front ++ y) same ∙ append_assoc f x y)

pub some_of_whole : (a b : Option (List ℕ)) (x : List ℕ) → GivesOk a b x → GivesSome a b x
some_of_whole None b x whole = whole
some_of_whole (Some f) b x whole = (
  length x,
  omega arith,
  whole ∙ ap (λ front. Some (f ++ front))
      (sym (take-length x)),
)

pub some_none : (a : Option (List ℕ)) (x : List ℕ) → GivesSome a a x
some_none None x = refl
some_none (Some f) x = (0, omega arith, ap Some (sym (append-nil f)))

pub some_longer : (a b : Option (List ℕ)) (x y : List ℕ) → GivesSome a b x → GivesSome a b (x ++ y)
some_longer None b x y some = some
some_longer (Some f) b x y some = (
  some.0,
  omega (arith, length-append x y, some.1),
  some.2 ∙ ap (λ front. Some (f ++ front))
      (sym (take-append-le some.0 x y some.1)),
)

pub gives_then : (a b c : Option (List ℕ)) (x y : List ℕ) → GivesOk a b x → GivesSome b c y → GivesSome a c (x ++ y)
gives_then a b c x y whole some =
    subst (λ text. GivesSome a c (x ++ text)) (append-nil y) (some_after a b c x y [] whole some)

-- a buffer that nothing was put into
pub buffers_none : (held : List ℕ) (a : Option (List ℕ)) → Buffers held [] held a a
buffers_none held a = record { gone = []; gives = gives_none a; split = append-nil held }

-- two gifts through a buffer are one
pub buffers_both : (held x mid y left : List ℕ) (a b c : Option (List ℕ)) → Buffers held x mid a b
    → Buffers mid y left b c → Buffers held (x ++ y) left a c
buffers_both held x mid y left a b c first second =
    record {
      gone = first.gone ++ second.gone;
      gives = gives_both a b c first.gone second.gone first.gives second.gives;
      split = sym (append_assoc held x y)
          ∙ (ap (λ front. front ++ y) first.split
          ∙ (append_assoc first.gone mid y ∙ (ap (λ rest. first.gone ++ rest) second.split
          ∙ sym (append_assoc first.gone second.gone left))));
    }

-- after a gift through a buffer the next one fails
pub buffers_then : (held x mid y : List ℕ) (a b c : Option (List ℕ)) → Buffers held x mid a b → GivesSome b c (mid ++ y)
    → GivesSome a c (held ++ (x ++ y))
buffers_then held x mid y a b c first some =
    subst (λ text. GivesSome a c text)
    (sym (append_assoc first.gone mid y) ∙ (ap (λ front. front ++ y) (sym first.split) ∙ append_assoc held x y))
    (gives_then a b c first.gone (mid ++ y) first.gives some)

-- after a gift through a buffer its flush fails
pub buffers_cut : (held x mid : List ℕ) (a b c : Option (List ℕ)) → Buffers held x mid a b → GivesSome b c mid
    → GivesSome a c (held ++ x)
buffers_cut held x mid a b c first some =
    subst (λ text. GivesSome a c text) (sym first.split) (gives_then a b c first.gone mid first.gives some)

-- after a gift through a buffer and a flush the sink has all
pub buffers_flushed : (held x mid : List ℕ) (a b c : Option (List ℕ)) → Buffers held x mid a b → GivesOk b c mid
    → GivesOk a c (held ++ x)
buffers_flushed held x mid a b c first rest =
    subst (λ text. GivesOk a c text) (sym first.split) (gives_both a b c first.gone mid first.gives rest)

-- what was held and then the bytes went to the sink
pub passed_on : {T E : Type 0} (result : Result T E) (held bytes left : List ℕ) (a b c : Option (List ℕ)) → left ≡ []
    → GivesOk a b held → OnOk result (GivesOk b c bytes) → OnOk result (Buffers held bytes left a c)
passed_on (Ok x) held bytes left a b c none first second =
    record {
      gone = held ++ bytes;
      gives = gives_both a b c held bytes first second;
      split = sym (append-nil (held ++ bytes)) ∙ ap (λ rest. (held ++ bytes) ++ rest) (sym none);
    }
passed_on (Err e) held bytes left a b c none first second = tt

pub not_passed : {T E : Type 0} (result : Result T E) (held bytes : List ℕ) (a b c : Option (List ℕ)) → GivesOk a b held
    → OnErr result (GivesSome b c bytes) → OnErr result (GivesSome a c (held ++ bytes))
not_passed (Ok x) held bytes a b c first second = tt
not_passed (Err e) held bytes a b c first second = gives_then a b c held bytes first second

-- the parts up to one and that one
pub part_more : {X : Type 0} (f : X → List ℕ) (xs : List X) (i : ℕ) (d : X) → i < length xs
    → flat_map f (take (suc i) xs) ≡ flat_map f (take i xs) ++ f (get_or xs i d)
part_more f [] i d below = absurd (omega arith)
part_more f (x ∷ xs) zero d below = append-nil (f x)
part_more f (x ∷ xs) (suc i) d below =
    ap (λ rest. f x ++ rest) (part_more f xs i d (omega arith)) ∙ sym (append_assoc (f x) (flat_map f (take i xs))
    (f (get_or xs i d)))

pub buffers_part : {X : Type 0} (f : X → List ℕ) (xs : List X) (i : ℕ) (d : X) (held mid left : List ℕ)
    (a b c : Option (List ℕ)) → i < length xs → Buffers held (flat_map f (take i xs)) mid a b
    → Buffers mid (f (get_or xs i d)) left b c → Buffers held (flat_map f (take (i + 1) xs)) left a c
buffers_part f xs i d held mid left a b c below first second =
    subst (λ text. Buffers held text left a c) (sym (ap (λ k. flat_map f (take k xs)) (add-one i)
    ∙ part_more f xs i d below)) (buffers_both held (flat_map f (take i xs)) mid (f (get_or xs i d)) left a b c
    first second)

pub buffers_part_cut : {X : Type 0} (f : X → List ℕ) (xs : List X) (i : ℕ) (d : X) (held mid : List ℕ)
    (a b c : Option (List ℕ)) → i < length xs → Buffers held (flat_map f (take i xs)) mid a b
    → GivesSome b c (mid ++ f (get_or xs i d)) → GivesSome a c (held ++ flat_map f xs)
buffers_part_cut f xs i d held mid a b c below first some =
    let front : List ℕ = flat_map f (take i xs) in
    let part : List ℕ = f (get_or xs i d) in
    let rest : List ℕ = flat_map f (drop (suc i) xs) in
    let regroup : (held ++ (front ++ part)) ++ rest ≡ held ++ flat_map f xs =
    append_assoc held (front ++ part) rest ∙ ap (λ text. held ++ text) (append_assoc front part rest
    ∙ sym (pieces_at f xs i d below)) in
    subst (λ text. GivesSome a c text) regroup (some_longer a c (held ++ (front ++ part)) rest
    (buffers_then held front mid part a b c first some))
