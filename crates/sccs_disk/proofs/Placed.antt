-- A firm file placed in a disk in memory to which no call was made.
use Rattle.std.specs.List.{All}
use Rattle.std.proofs.Common.{◌≡◌, ℕ, zero, suc, min, List, [], ◌∷◌, length, Option, Some, refl, sym, ap, subst, ◌∙◌}
use Rattle.std.proofs.Common.{arith}
use Rattle.std.proofs.lemmas.List.Elements.{All-append}
use Rattle.sccs_disk.specs.Effects.{firm}
use Rattle.sccs_disk.specs.Files.{Content, File, IsSane, put, view_of}
use Rattle.sccs_disk.specs.MemoryFiles.{model_of, model_after, IsFirmFile}
use Rattle.sccs_disk.specs.States.{State, AreNamesPlaced, state, state_put, shown}
use Rattle.sccs_disk.specs.declared.changes.Change.{Change}
use Rattle.sccs_disk.proofs.Left.{start_sane}
use Rattle.sccs_disk.proofs.Views.{shown_put}

pub no_calls : (log : List (Option Change)) (calls room : ℕ) → length log ≡ min calls room → calls ≡ 0 → log ≡ []
no_calls [] calls room count none = refl
no_calls (e ∷ log) calls room count none = absurd (omega (arith, count, none))

pub placed_state : (log : List (Option Change)) (n : List ℕ) (f : File) (s d s2 d2 : State) → log ≡ []
    → d ≡ state (model_after (model_of s) log) → s2 ≡ state_put n f s → d2 ≡ state_put n f d
    → d2 ≡ state (model_after (model_of s2) log)
placed_state log n f s d s2 d2 none same start now =
    now ∙ (ap (state_put n f) (same ∙ ap (λ l. state (model_after (model_of s) l)) none)
    ∙ (sym start ∙ ap (λ l. state (model_after (model_of s2) l)) (sym none)))

pub placed_sane : (log : List (Option Change)) (s2 : State) → log ≡ [] → AreNamesPlaced s2
    → IsSane (model_after (model_of s2) log)
placed_sane log s2 none placed = subst (λ l. IsSane (model_after (model_of s2) l)) (sym none) (start_sane s2 placed)

one_firm : (c : Content) → All IsFirmFile (firm c ∷ [])
one_firm c zero d low = refl
one_firm c (suc k) d low = absurd (omega arith)

pub placed_firm : (n : List ℕ) (c : Content) (s s2 : State) → s2 ≡ state_put n (firm c) s → All IsFirmFile s.files
    → All IsFirmFile s2.files
placed_firm n c s s2 is each = subst (λ (t : State). All IsFirmFile t.files) (sym is) (All-append IsFirmFile s.files
    (firm c ∷ []) each (one_firm c))

pub placed_view : (log : List (Option Change)) (n : List ℕ) (c : Content) (s s2 : State) → log ≡ []
    → s2 ≡ state_put n (firm c) s → AreNamesPlaced s
    → view_of (model_after (model_of s2) log) ≡ put (view_of (model_after (model_of s) log)) n (Some c)
placed_view log n c s s2 none is placed =
    ap (λ l. view_of (model_after (model_of s2) l)) none
    ∙ (ap shown is ∙ (shown_put n (firm c) s placed ∙ ap (λ l. put (view_of (model_after (model_of s) l)) n (Some c))
    (sym none)))
