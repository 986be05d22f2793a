-- Passing over bytes.
use Rattle.std.proofs.Common.{◌≡◌, ℕ, suc, ◌+◌, ◌-◌, ◌<◌, ◌≤◌, Bool, true, false, cond, List, [], ◌∷◌, length, get_or}
use Rattle.std.proofs.Common.{take, drop, refl, sym, ap, ◌∙◌, arith, add-one, drop-cons, inl, inr}
use Rattle.std.proofs.lemmas.Bool.{lt-ltb, le-ltb}
use Rattle.std.proofs.Math.Seq.{drop-length}
use Rattle.std.proofs.Math.ListN.{drop_of_length-le}
use Rattle.std.specs.Char.{IsAsciiDigit, IsNotAsciiDigit}
use Rattle.sccs_sid.specs.Reading.{skip, is_no_digit}
use Rattle.sccs_sid.proofs.Digits.{rest_from}

skip_cons : (passes : ℕ → Bool) (b : ℕ) (bytes : List ℕ) → skip passes (b ∷ bytes) ≡ cond (passes b) (skip passes bytes)
    (b ∷ bytes)
unfolding skip
skip_cons passes b bytes = refl

pub skip_step : (passes : ℕ → Bool) (bytes : List ℕ) (at : ℕ) (whole : List ℕ) → at < length bytes
    → passes (get_or bytes at 0) ≡ true → skip passes (drop at bytes) ≡ skip passes whole
    → skip passes (drop (at + 1) bytes) ≡ skip passes whole
skip_step passes bytes at whole low test is =
    let more : drop at bytes ≡ get_or bytes at 0 ∷ drop (suc at) bytes = drop-cons bytes at 0 low in
    let step : skip passes (drop at bytes) ≡ skip passes (drop (suc at) bytes) =
    ap (skip passes) more ∙ (skip_cons passes (get_or bytes at 0) (drop (suc at) bytes)
    ∙ ap (λ t. cond t (skip passes (drop (suc at) bytes)) (get_or bytes at 0 ∷ drop (suc at) bytes)) test) in
    rw add-one (sym step ∙ is)

pub skip_stop : (passes : ℕ → Bool) (bytes : List ℕ) (at : ℕ) (whole : List ℕ) → at < length bytes
    → passes (get_or bytes at 0) ≡ false → skip passes (drop at bytes) ≡ skip passes whole → take (length bytes - at)
    (drop at bytes) ≡ skip passes whole
skip_stop passes bytes at whole low test is =
    let more : drop at bytes ≡ get_or bytes at 0 ∷ drop (suc at) bytes = drop-cons bytes at 0 low in
    let stop : skip passes (drop at bytes) ≡ drop at bytes =
    ap (skip passes) more ∙ (skip_cons passes (get_or bytes at 0) (drop (suc at) bytes)
    ∙ (ap (λ t. cond t (skip passes (drop (suc at) bytes)) (get_or bytes at 0 ∷ drop (suc at) bytes)) test
    ∙ sym more)) in
    rest_from at bytes ∙ (sym stop ∙ is)

pub skip_all : (passes : ℕ → Bool) (bytes : List ℕ) (at : ℕ) (whole : List ℕ) → length bytes ≤ at
    → skip passes (drop at bytes) ≡ skip passes whole → take (length bytes - length bytes) (drop (length bytes) bytes)
    ≡ skip passes whole
unfolding skip
skip_all passes bytes at whole high is =
    let none : drop at bytes ≡ [] = drop_of_length-le bytes high in
    let empty : drop (length bytes) bytes ≡ [] = drop-length bytes in
    rest_from (length bytes) bytes ∙ (empty ∙ (sym (ap (skip passes) none) ∙ is))

pub digit_stops : (b : ℕ) → IsAsciiDigit b → is_no_digit b ≡ false
digit_stops b digit = rw (le-ltb b 48 digit.0, le-ltb 57 b digit.1) refl

pub other_passes : (b : ℕ) → IsNotAsciiDigit b → is_no_digit b ≡ true
other_passes b (inl under) = rw (lt-ltb b 48 under) refl
other_passes b (inr over) = rw (le-ltb b 48 (omega arith), lt-ltb 57 b over) refl
