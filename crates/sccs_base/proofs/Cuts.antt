-- What cutting gives, by where the first LF is.
use Rattle.std.proofs.Common.{◌≡◌, ◌≢◌, ℕ, ◌<◌, ◌==◌, List, [], ◌∷◌, length, take, get_or, refl, sym, ◌∙◌, arith}
use Rattle.std.proofs.Common.{length-take}
use Rattle.std.proofs.lemmas.List.{get_or-take, get_or_default}
use Rattle.sccs_base.specs.Cut.{Cut, HasNoLf, cut, before, closed, text_of}

-- no byte before a place is LF
abbrev pub NoLfBefore : List ℕ → ℕ → Type 0
NoLfBefore bytes n = (k : ℕ) → k < n → get_or bytes k 0 ≢ 10

-- a line before what is cut
abbrev pub with_line : List ℕ → Cut → Cut
with_line line rest = record { lines = line ∷ rest.lines; tail = rest.tail }

pub cut-cons : (b : ℕ) (bytes : List ℕ) → cut (b ∷ bytes) ≡ before (b == 10) b (cut bytes)
unfolding cut
cut-cons b bytes = refl

pub closed-cons : (line : List ℕ) (lines : List (List ℕ)) (tail : List ℕ) → closed (line ∷ lines) tail ≡ line
    ∷ closed lines tail
closed-cons line lines [] = refl
closed-cons line lines (b ∷ tail) = refl

pub text-nil : text_of [] ≡ []
unfolding cut
text-nil = refl

pub no_lf_front : (at : ℕ) (bytes : List ℕ) → NoLfBefore bytes at → at < length bytes → HasNoLf (take at bytes)
no_lf_front at bytes none l k d below =
    let short : k < at = omega (arith, length-take at bytes) in
    let here : get_or (take at bytes) k d ≡ get_or bytes k 0 = get_or-take at bytes k d short
    ∙ get_or_default bytes k d 0 (omega arith) in
    λ is. none k short (sym here ∙ is)

pub no_lf_all : (bytes : List ℕ) → NoLfBefore bytes (length bytes) → HasNoLf bytes
no_lf_all bytes none k d below is = none k below (get_or_default bytes k 0 d below ∙ is)
