-- The base line that new lines follow.
use Rattle.std.proofs.Common.{◌≡◌, ℕ, zero, suc, ◌+◌, ◌-◌, List, [], ◌∷◌, ◌++◌, Result, Ok, Err, IfOk, map, refl, ap}
use Rattle.std.proofs.Common.{◌∙◌, arith}
use Rattle.sccs_script.specs.Drafts.{anchor_from, DraftLine, expand, Fresh, IsPiece, Kept, span}
use Rattle.sccs_script.specs.declared.pieces.Piece.{Piece}
use Rattle.sccs_script.specs.declared.pieces.Piece.TheVariants as pieces

-- the base line that a line behind a piece follows
abbrev pub piece_end : Piece → ℕ
piece_end (pieces.Kept first last) = last
piece_end (pieces.Fresh after line) = after

pub anchor_append : (k : ℕ) (xs ys : List DraftLine) → anchor_from k (xs ++ ys) ≡ anchor_from (anchor_from k xs) ys
anchor_append k [] ys = refl
anchor_append k (Kept n ∷ xs) ys = anchor_append n xs ys
anchor_append k (Fresh n text ∷ xs) ys = anchor_append n xs ys

anchor_run : (k first count : ℕ) → anchor_from k (map Kept (span first (suc count))) ≡ first + count
anchor_run k first zero = omega arith
anchor_run k first (suc count) = anchor_run first (suc first) count ∙ omega arith

pub anchor_piece : (k : ℕ) (p : Piece) → IsPiece p → anchor_from k (expand p) ≡ piece_end p
anchor_piece k (pieces.Kept first last) fits =
    let more : suc last - first ≡ suc (last - first) = omega (arith, fits.1) in
    let whole : first + (last - first) ≡ last = omega (arith, fits.1) in
    ap (λ n. anchor_from k (map Kept (span first n))) more ∙ (anchor_run k first (last - first) ∙ whole)
anchor_piece k (pieces.Fresh after line) fits = refl

-- three things that hold of what was answered
pub if_three : {A E : Type 0} (r : Result A E) (P Q R S : A → Type 0) → ((a : A) → P a → Q a → R a → S a) → IfOk r P
    → IfOk r Q → IfOk r R → IfOk r S
if_three (Ok a) P Q R S joined one two three = joined a one two three
if_three (Err e) P Q R S joined one two three = tt
