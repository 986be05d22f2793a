-- What a disk shows after a step: of a command that only reads all that it showed, else all but working files.
use Rattle.std.proofs.Common.{◌≡◌, ℕ, Bool, true, false, List, [], ◌∷◌, drop, map, Option, None, Ok, Err, inl, inr}
use Rattle.std.proofs.Common.{refl, sym, ap, subst, ◌∙◌}
use Rattle.std.specs.List.{AllByRecursion}
use Rattle.sccs_base.specs.Name.{p_file, z_file}
use Rattle.sccs_disk.specs.Files.{Content, Folder, View, view_in}
use Rattle.sccs_name_files.specs.StepFiles.{Alike, Files, Moves, MovesEarly, Shows, early_moved, is_working, l_file}
use Rattle.sccs_name_files.specs.StepFiles.{look, moved, moved_in}
use Rattle.sccs_name_files.proofs.Folders.{moved_view}
use Rattle.sccs_name_files.proofs.Views.{look_alike, shows_early, shows_moved}
use Rattle.sccs_steps.specs.StepEffects.{StepEffect, Outcome, effect_of}
use Rattle.sccs_steps.specs.FirstFiles.{MovesInOrder}
use Rattle.sccs_steps.specs.StepLists.{ShowsNext, named_step}
use Rattle.sccs_steps.specs.Actions.{IsClear}
use Rattle.sccs_steps.proofs.FirstMoved.{shows_in_order, shows_none}

-- where it only reads the files are left as they are
abbrev pub IsKept : Bool → Outcome → Type 0
IsKept reads o = reads ≡ true → (d : StepEffect) → o ≡ Ok d → d.new ≡ None

pub kept_effect : (reads : Bool) (n : List ℕ) (o : Outcome) → IsKept reads o → reads ≡ true → (effect_of n o).new ≡ None
kept_effect reads n (Ok d) kept is = kept is d refl
kept_effect reads n (Err refusal) kept is = refl

-- a step sees the files that are shown
pub clear_look : (reads : Bool) (w : List ℕ → Bool) (n : List ℕ) (u v : View) → IsClear reads w n → Alike w u v
    → look u n ≡ look v n
clear_look reads w n u v (inl (only, seen)) alike =
    ap (λ (o : Option Content). record {
      s = o;
      p = u (p_file n);
      z = u (z_file n);
      g = u (drop 2 n);
      l =
          u (l_file n);
    }) (alike n seen.s)
    ∙ (ap (λ (o : Option Content). record { s = v n; p = o; z = u (z_file n); g = u (drop 2 n); l = u (l_file n) })
    (alike (p_file n) seen.p)
    ∙ (ap (λ (o : Option Content). record { s = v n; p = v (p_file n); z = o; g = u (drop 2 n); l = u (l_file n) })
    (alike (z_file n) seen.z)
    ∙ (ap (λ (o : Option Content). record { s = v n; p = v (p_file n); z = v (z_file n); g = o; l = u (l_file n) })
    (alike (drop 2 n) seen.g)
    ∙ ap (λ (o : Option Content). record { s = v n; p = v (p_file n); z = v (z_file n); g = v (drop 2 n); l = o })
    (alike (l_file n) seen.l))))
clear_look reads w n u v (inr apart) alike = look_alike w n u v apart alike

-- a step sees the files that its words name
pub named_alike : (w : List ℕ → Bool) (u v : View) (names : List (List ℕ)) → Alike w u v
    → AllByRecursion (λ k. w k ≡ false) names → map u names ≡ map v names
named_alike w u v [] alike spared = refl
named_alike w u v (n ∷ names) alike spared =
    ap (λ (c : Option Content). c ∷ map u names) (alike n spared.0) ∙ ap (λ (cs : List (Option Content)). v n ∷ cs)
    (named_alike w u v names alike spared.1)

stays : (m : Folder) (n : List ℕ) (new : Option Files) → new ≡ None → m ≡ moved_in m n new
stays m n new none = ap (λ (f : Option Files). moved_in m n f) (sym none)

pub clear_moved : (reads : Bool) (w : List ℕ → Bool) (m : Folder) (n : List ℕ) (new : Option Files) (a b : Option View)
    → IsClear reads w n → (reads ≡ true → b ≡ a) → (reads ≡ true → new ≡ None)
    → Shows w a (view_in m) → Moves (is_working n) (λ u. moved u n new) a b → Shows w b (view_in (moved_in m n new))
clear_moved reads w m n new a b (inl all) same none shows moves =
    subst (λ (u : Folder). Shows w b (view_in u)) (stays m n new (none all.0)) (subst (λ told. Shows w told (view_in m))
    (sym (same all.0)) shows)
clear_moved reads w m n new a b (inr apart) same none shows moves =
    subst (λ (v : View). Shows w b v) (sym (moved_view m n new)) (shows_moved w n new (view_in m) a b apart shows moves)

-- of a step that isn't made at most the l-file is new
pub clear_early : (reads : Bool) (w : List ℕ → Bool) (m : Folder) (n : List ℕ) (new : Option Files) (a b : Option View)
    → IsClear reads w n → (reads ≡ true → b ≡ a)
    → Shows w a (view_in m) → MovesEarly n new a b → (first : Bool) × Shows w b (early_moved first (view_in m) n new)
clear_early reads w m n new a b (inl all) same shows moves =
    (false, subst (λ told. Shows w told (view_in m)) (sym (same all.0)) shows)
clear_early reads w m n new a b (inr apart) same shows moves =
    (moves.0, shows_early w n moves.0 new (view_in m) a b apart shows moves.1)

-- a refused one changes nothing
pub clear_refused : (reads : Bool) (w : List ℕ → Bool) (m : Folder) (n : List ℕ) (a b : Option View) → IsClear reads w n
    → (reads ≡ true → b ≡ a)
    → Shows w a (view_in m) → MovesEarly n None a b → Shows w b (view_in m)
clear_refused reads w m n a b clear same shows moves = by (clear_early reads w m n None a b clear same shows moves)
  where
    by : (first : Bool) × Shows w b (early_moved first (view_in m) n None) → Shows w b (view_in m)
    by (false, shows) = shows
    by (true, shows) = shows

pub clear_in_order : (reads : Bool) (w : List ℕ → Bool) (m : Folder) (n : List ℕ) (o : Outcome) (a b : Option View)
    → IsClear reads w n → (reads ≡ true → b ≡ a)
    → Shows w a (view_in m) → MovesInOrder n (effect_of n o).new a b → ShowsNext w (named_step n o ∷ []) b (view_in m)
clear_in_order reads w m n o a b (inl all) same shows moves = shows_none w b (view_in m) (named_step n o) []
    (subst (λ told. Shows w told (view_in m)) (sym (same all.0)) shows)
clear_in_order reads w m n o a b (inr apart) same shows moves =
    (0, moves.0, shows_in_order w moves.0 n (effect_of n o).new (view_in m) a b apart shows moves.1)
