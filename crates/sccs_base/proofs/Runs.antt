-- One call after several.
use Rattle.std.proofs.Common.{◌≡◌, ℕ, zero, suc, ◌+◌, ◌≤◌, ◌<◌, List, [], ◌∷◌, ◌++◌, Option, None, Some, length, take}
use Rattle.std.proofs.Common.{drop, flat_map, get_or, subst, refl, sym, ap, ◌∙◌, arith, append_assoc, length-append}
use Rattle.std.proofs.Common.{length-take}
use Rattle.std.proofs.lemmas.List.{take-append-drop, take-append-le}
use Rattle.std.proofs.Math.Seq.{take-append-add}
use Rattle.sccs_base.specs.Stream.{TakesFront, TakesOk, TakesUpTo, GivesOk, GivesSome}

-- taking once more, from a source that had given a front
pub takes_more : (before now after : Option (List ℕ)) (taken old new : List ℕ) (n most : ℕ)
    → TakesFront before now taken → TakesOk now after old new n → length taken + n ≤ most → TakesUpTo most before after
takes_more None None after taken old new n most front ok short = ([], omega arith, ok)
takes_more None (Some left) after taken old new n most front ok short = cc
takes_more (Some all) None after taken old new n most front ok short = cc (front.1)
takes_more (Some all) (Some left) after taken old new n most front ok short =
    let same : left ≡ front.0 = cc (front.1) in (
      taken ++ take n left,
      omega (arith, length-append taken (take n left), length-take n left),
      (
        drop n left,
        ok.1,
        front.2 ∙ (ap (λ rest. taken ++ rest) (sym same ∙ sym (take-append-drop n left))
            ∙ sym (append_assoc taken (take n left) (drop n left))),
      ),
    )

-- a front of a second text, after the whole of a first, is a front of the two and whatever comes behind
pub some_after : (before now after : Option (List ℕ)) (first second behind : List ℕ) → GivesOk before now first
    → GivesSome now after second → GivesSome before after (first ++ (second ++ behind))
some_after None None after first second behind whole some = some
some_after None (Some given) after first second behind whole some = cc
some_after (Some all) None after first second behind whole some = cc
some_after (Some all) (Some given) after first second behind whole some =
    let n : ℕ = some.0 in
    let same : given ≡ all ++ first = cc in
    let front : take (length first + n) (first ++ (second ++ behind)) ≡ first ++ take n second =
    take-append-add first (second ++ behind) n ∙ ap (λ rest. first ++ rest) (take-append-le n second behind some.1) in (
      length first + n,
      omega (arith, length-append first (second ++ behind), length-append second behind, some.1),
      some.2 ∙ ap Some (ap (λ front. front ++ take n second) same ∙ (append_assoc all first (take n second)
          ∙ ap (λ rest. all ++ rest) (sym front))),
    )

-- the parts, cut at a place
pub pieces_at : {X : Type 0} (f : X → List ℕ) (xs : List X) (i : ℕ) (d : X) → i < length xs → flat_map f xs ≡ flat_map f
    (take i xs) ++ (f (get_or xs i d) ++ flat_map f (drop (suc i) xs))
pieces_at f [] i d below = absurd (omega arith)
pieces_at f (x ∷ xs) zero d below = refl
pieces_at f (x ∷ xs) (suc i) d below =
    ap (λ rest. f x ++ rest) (pieces_at f xs i d (omega arith)) ∙ sym (append_assoc (f x) (flat_map f (take i xs))
    (f (get_or xs i d) ++ flat_map f (drop (suc i) xs)))

-- the whole texts of the first things, and a front of the next one's, are a front of the texts of all
pub some_of_pieces : {X : Type 0} (f : X → List ℕ) (before now after : Option (List ℕ)) (xs : List X) (i : ℕ) (d : X)
    → i < length xs → GivesOk before now (flat_map f (take i xs)) → GivesSome now after (f (get_or xs i d))
    → GivesSome before after (flat_map f xs)
some_of_pieces f before now after xs i d below whole some =
    subst (λ text. GivesSome before after text) (sym (pieces_at f xs i d below)) (some_after before now after
    (flat_map f (take i xs)) (f (get_or xs i d)) (flat_map f (drop (suc i) xs)) whole some)
