-- Lines are counted list by list.
use Rattle.std.proofs.Common.{◌≡◌, ℕ, ◌+◌, ◌<◌, List, [], ◌∷◌, ◌++◌, length, min, take, get_or, ap, sym, ◌∙◌, arith}
use Rattle.std.proofs.lemmas.Grind.{take_at_read}
use Rattle.sccs_script_laws.specs.Plans.{added_count}
use Rattle.sccs_script_laws.specs.declared.scripts.Added.{Added}

counted_both : (xs ys : List Added) → added_count (xs ++ ys) ≡ added_count xs + added_count ys
counted_both [] ys = omega arith
counted_both (x ∷ xs) ys = omega (arith, counted_both xs ys)

pub counted_more : (xs : List Added) (i : ℕ) (d : Added) → i < length xs → added_count (take (i + 1) xs) ≡ added_count
    (take i xs) + length (get_or xs i d).lines
counted_more xs i d below =
    let same : added_count (take (i + 1) xs) ≡ added_count (take i xs ++ get_or xs i d ∷ []) =
    ap added_count (take_at_read xs i d below).1 in
    omega (arith, same, counted_both (take i xs) (get_or xs i d ∷ []))

capped : (s l top : ℕ) → min (min s top + l) top ≡ min (s + l) top
capped s l top = omega arith

-- one list more is counted
pub counts_more : (xs : List Added) (i : ℕ) (d : Added) (count result top : ℕ) → i < length xs
    → count ≡ min (added_count (take i xs)) top → result ≡ min (count + length d.lines) top → d ≡ get_or xs i d
    → result ≡ min (added_count (take (i + 1) xs)) top
counts_more xs i d count result top below so is same =
    is ∙ (ap (λ (k : ℕ). min (k + length d.lines) top) so ∙ (capped (added_count (take i xs)) (length d.lines) top
    ∙ (ap (λ (x : Added). min (added_count (take i xs) + length x.lines) top) same ∙ ap (λ (k : ℕ). min k top)
    (sym (counted_more xs i d below)))))
