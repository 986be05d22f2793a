-- Putting the y-file in the place of another file changes these two files alone.
use Rattle.std.proofs.Common.{◌≡◌, ℕ, List, inl, inr, subst}
use Rattle.std.specs.Prelude.{OnErr, OnOk, Result, Ok, Err}
use Rattle.sccs_base.specs.Name.{y_file}
use Rattle.sccs_disk.specs.Effects.{pended, renamed, settled}
use Rattle.sccs_disk.specs.Files.{Rename}
use Rattle.sccs_disk.specs.Told.{Told}
use Rattle.sccs_crash_points.specs.Unlocked.{KeepsOthers}
use Rattle.sccs_crash_points.proofs.Unlocked.{is_either, others_done, others_half, others_renamed, others_settled}
use Rattle.sccs_crash_points.proofs.Unlocked.{others_then}
use Rattle.sccs_store.specs.Placing.{HalfPlaces, Places}

placed : (from to : List ℕ) (a b : Told) → Places from to a b → KeepsOthers (is_either from to) a b
placed from to a b (mid, done, synced) =
    others_then (is_either from to) a mid b (others_done (renamed from to) (pended (Rename from to)) (is_either from to)
    a mid (others_renamed from to) done) (others_done (λ v. v) settled (is_either from to) mid b
    (others_settled (is_either from to)) synced)

half_placed : (from to : List ℕ) (a b : Told) → HalfPlaces from to a b → KeepsOthers (is_either from to) a b
half_placed from to a b (inl half) = others_half (renamed from to) (pended (Rename from to)) (is_either from to) a b
    (others_renamed from to) half
half_placed from to a b (inr (mid, done, half)) =
    others_then (is_either from to) a mid b (others_done (renamed from to) (pended (Rename from to)) (is_either from to)
    a mid (others_renamed from to) done) (others_half (λ v. v) settled (is_either from to) mid b
    (others_settled (is_either from to)) half)

of_name : (n from at to : List ℕ) (a b : Told) → from ≡ y_file n → at ≡ to → KeepsOthers (is_either from at) a b
    → KeepsOthers (is_either (y_file n) to) a b
of_name n from at to a b is to_is keeps = subst (λ f. KeepsOthers (is_either f to) a b) is
    (subst (λ t. KeepsOthers (is_either from t) a b) to_is keeps)

pub place_others : {E : Type 0} (r : Result (Unit {0}) E) (n from at to : List ℕ) (a b : Told) → from ≡ y_file n
    → at ≡ to → OnOk r (Places from at a b) → OnErr r (HalfPlaces from at a b)
    → KeepsOthers (is_either (y_file n) to) a b
place_others (Ok done) n from at to a b is to_is places half = of_name n from at to a b is to_is
    (placed from at a b places)
place_others (Err fault) n from at to a b is to_is places half = of_name n from at to a b is to_is
    (half_placed from at a b half)
