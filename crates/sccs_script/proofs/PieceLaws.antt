-- The entries of pieces that are put and taken.
use Rattle.std.proofs.Common.{◌≡◌, ℕ, zero, suc, ◌+◌, ◌-◌, ◌<◌, ◌≤◌, List, [], ◌∷◌, ◌++◌, Option, Some, length, map}
use Rattle.std.proofs.Common.{take, drop, sym, subst, ap, ◌∙◌, arith, append_assoc, append-nil}
use Rattle.std.specs.List.{AllByRecursion}
use Rattle.std.specs.Option.{option_to_list}
use Rattle.std.proofs.lemmas.List.{drop_at, map-append, take_at}
use Rattle.sccs_script.specs.Drafts.{expand, Kept, span, unstacked}
use Rattle.sccs_script.specs.declared.pieces.Piece.{Piece}
use Rattle.sccs_script.specs.declared.pieces.Piece.TheVariants as pieces
use Rattle.sccs_script.proofs.Entries.{span_length}

pub all_push : {A : Type 0} (P : A → Type 0) (xs : List A) (x : A) → AllByRecursion P xs → P x
    → AllByRecursion P (xs ++ x ∷ [])
all_push P [] x each one = (one, tt)
all_push P (y ∷ xs) x each one = (each.0, all_push P xs x each.1 one)

pub all_but_last : {A : Type 0} (P : A → Type 0) (xs : List A) (x : A) → AllByRecursion P (xs ++ x ∷ [])
    → AllByRecursion P xs × P x
all_but_last P [] x each = (tt, each.0)
all_but_last P (y ∷ xs) x each = let rest = all_but_last P xs x each.1 in ((each.0, rest.0), rest.1)

pub unstacked_push : (ps : List Piece) (p : Piece) → unstacked (ps ++ p ∷ []) ≡ expand p ++ unstacked ps
unstacked_push [] p = sym (append-nil (expand p))
unstacked_push (q ∷ ps) p = ap (λ l. l ++ expand q) (unstacked_push ps p) ∙ append_assoc (expand p) (unstacked ps)
    (expand q)

span_split : (n a b : ℕ) → span n (a + b) ≡ span n a ++ span (n + a) b
span_split n zero b = let same : n + 0 ≡ n = omega arith in let all : 0 + b ≡ b = omega arith in ap (span n) all
    ∙ ap (λ m. span m b) (sym same)
span_split n (suc a) b =
    let more : suc a + b ≡ suc (a + b) = omega arith in
    let on : suc n + a ≡ n + suc a = omega arith in
    ap (span n) more ∙ ap (λ l. n ∷ l) (span_split (suc n) a b ∙ ap (λ m. span (suc n) a ++ span m b) on)

pub run_length : (first last : ℕ) → length (expand (pieces.Kept first last)) ≡ suc last - first
run_length first last = span_length first (suc last - first)

-- a run of base lines in two
pub run_split : (first last most : ℕ) → 0 < most → first + most ≤ last → expand (pieces.Kept first last) ≡ expand
    (pieces.Kept first (first + most - 1)) ++ expand (pieces.Kept (first + most) last)
run_split first last most some le =
    let all : suc last - first ≡ most + (suc last - (first + most)) = omega arith in
    let one : suc (first + most - 1) - first ≡ most = omega arith in
    ap (λ n. map Kept (span first n)) all
    ∙ (ap (map Kept) (span_split first most (suc last - (first + most)))
    ∙ (map-append Kept (span first most) (span (first + most) (suc last - (first + most)))
    ∙ ap (λ n. map Kept (span first n) ++ map Kept (span (first + most) (suc last - (first + most)))) (sym one)))

-- some, but not all, of a run
pub few_of_run : (p : Piece) (first last place : ℕ) → p ≡ pieces.Kept first last → place < length (expand p)
    → place ≤ last - first
few_of_run p first last place is few = let size : length (expand p) ≡ suc last - first = ap (λ q. length (expand q)) is
    ∙ run_length first last in omega (arith, size, few)

-- a run of base lines cut behind some
pub run_front : (first last place : ℕ) → 0 < place → place ≤ last - first
    → expand (pieces.Kept first (first + place - 1)) ≡ take place (expand (pieces.Kept first last))
run_front first last place some le =
    let low : ℕ = first + place - 1 in
    let size : length (expand (pieces.Kept first low)) ≡ place = omega (arith, run_length first low, some) in
    sym (ap (take place) (run_split first last place some (omega (arith, some, le)))
    ∙ take_at (expand (pieces.Kept first low)) (expand (pieces.Kept (first + place) last)) place size)

pub run_back : (first last place : ℕ) → 0 < place → place ≤ last - first → expand (pieces.Kept (first + place) last)
    ≡ drop place (expand (pieces.Kept first last))
run_back first last place some le =
    let low : ℕ = first + place - 1 in
    let size : length (expand (pieces.Kept first low)) ≡ place = omega (arith, run_length first low, some) in
    sym (ap (drop place) (run_split first last place some (omega (arith, some, le)))
    ∙ drop_at (expand (pieces.Kept first low)) (expand (pieces.Kept (first + place) last)) place size)

-- what a stack is without its last piece
pub popped : (old new : List Piece) (p : Piece) (result : Option Piece) → old ≡ new ++ option_to_list result
    → result ≡ Some p → unstacked old ≡ expand p ++ unstacked new
popped old new p result items is = ap unstacked (items ∙ ap (λ o. new ++ option_to_list o) is) ∙ unstacked_push new p

pub popped_rest : {A : Type 0} (P : A → Type 0) (old new : List A) (x : A) (result : Option A)
    → old ≡ new ++ option_to_list result → result ≡ Some x → AllByRecursion P old → AllByRecursion P new × P x
popped_rest P old new x result items is each =
    all_but_last P new x (subst (AllByRecursion P) (items ∙ ap (λ o. new ++ option_to_list o) is) each)
