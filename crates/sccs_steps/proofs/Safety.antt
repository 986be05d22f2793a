-- Safe names stay safe from step to step.
use Rattle.std.proofs.Common.{◌≡◌, ℕ, Bool, true, false, List, drop, Option, None, Some, is_some, refl, sym, ap, subst}
use Rattle.std.proofs.Common.{◌∙◌, ⊎_elim}
use Rattle.std.specs.Str.{bytes_eq}
use Rattle.sccs_base.specs.Name.{IsSFileName, p_file, z_file}
use Rattle.sccs_disk.specs.Files.{Content, Folder, View, view_in}
use Rattle.sccs_disk.proofs.Puts.{name_cases}
use Rattle.sccs_name_files.specs.StepFiles.{Alike, Files, moved, moved_in, placed}
use Rattle.sccs_name_files.proofs.Folders.{moved_view}
use Rattle.sccs_intents.specs.Intents.{intent_file}
use Rattle.sccs_pfile.specs.Recovered.{recovered_pfile}
use Rattle.sccs_crash_points.specs.Recovery.{IsSettledPair, IsSound, Pair, RecoversAs, fate_at, is_kept, pair_of}
use Rattle.sccs_crash_points.specs.Recovery.{recover, IsHeldAt}
use Rattle.sccs_crash_points.proofs.Recovering.{LooksAlike, fate_same, recovered_alike, recovered_is, sound_pair, pair}
use Rattle.sccs_crash_points.proofs.Recovering.{recovered, recovered_under}
use Rattle.sccs_steps.specs.Actions.{Action, KeepsFiles}
use Rattle.sccs_steps.specs.StepStops.{ArePaired, IsPaired, IsSafe, IsSafeFor}
use Rattle.sccs_steps.specs.ListStops.{KeepsSafe, Spares, StaySafe}
use Rattle.sccs_steps.proofs.Carried.{moved_others, moved_p, moved_s, others_fate, others_look}
use Rattle.sccs_intents.specs.declared.intents.Fate.{Fate}

-- ---- views

pub none_of : (o : Option Content) → is_some o ≡ false → o ≡ None
none_of None is = refl
none_of (Some c) is = cc

-- where recovery leaves the pair
pub sound_settled : (n : List ℕ) (v : View) → IsSFileName n → IsSound n v → IsSettledPair (pair_of (recover n v) n)
sound_settled n v sfile sound = subst IsSettledPair (sym (sound_pair n v sfile sound)) sound.entries

-- what recovers to the same pair
pub pair_settled : (n : List ℕ) (u v : View) → pair_of (recover n v) n ≡ pair_of (recover n u) n
    → IsSettledPair (pair_of (recover n u) n) → IsSettledPair (pair_of (recover n v) n)
pair_settled n u v same settled = subst IsSettledPair (sym same) settled

pub pair_paired : (n : List ℕ) (u v : View) → pair_of (recover n v) n ≡ pair_of (recover n u) n
    → IsPaired n (recover n u) → IsPaired n (recover n v)
pair_paired n u v same paired = subst (λ (x : Pair). ArePaired x.s x.p) (sym same) paired

-- where recovery leaves the pair
pub sound_paired : (n : List ℕ) (v : View) → IsSFileName n → IsSound n v → IsPaired n v → IsPaired n (recover n v)
sound_paired n v sfile sound paired = subst (λ (x : Pair). ArePaired x.s x.p) (sym (sound_pair n v sfile sound)) paired

-- a safe name that isn't locked has no p-file without an s-file
pub paired_now : (n : List ℕ) (v : View) → IsSFileName n → v (z_file n) ≡ None → IsSafe n v → IsPaired n v
paired_now n v sfile free safe = subst (λ (x : Pair). ArePaired x.s x.p) (sound_pair n v sfile (safe.sound free))
    safe.paired

sound_same : (n : List ℕ) (u v : View) → u n ≡ v n → u (p_file n) ≡ v (p_file n) → fate_at v n ≡ fate_at u n
    → IsSound n u → IsSound n v
sound_same n u v s p fate sound = record {
  entries = subst (λ (o : Option Content). recovered_pfile o (v (p_file n)) ≡ v (p_file n)) s
      (subst (λ (o : Option Content). recovered_pfile (u n) o ≡ o) p sound.entries);
  unnamed = fate ∙ sound.unnamed;
}

-- the same files at which recovery looks
pub same_safe : (n : List ℕ) (u v : View) → IsSFileName n → LooksAlike n u v → IsSafe n u → IsSafe n v
same_safe n u v sfile looks safe = record {
  plain = safe.plain;
  sound = λ none. sound_same n u v (sym looks.s) (sym looks.p) looks.fate
      (safe.sound (none_of (u (z_file n)) (sym looks.z ∙ ap is_some none)));
  paired = pair_paired n u v (recovered_is n v sfile ∙ (recovered_alike n u v looks ∙ sym (recovered_is n u sfile)))
      safe.paired;
  settled = pair_settled n u v (recovered_is n v sfile ∙ (recovered_alike n u v looks ∙ sym (recovered_is n u sfile)))
      safe.settled;
}

-- views that are alike but for working files, and recover alike
pub alike_safe : (work : List ℕ → Bool) (n : List ℕ) (u v : View) → Spares work → IsSFileName n → Alike work u v
    → RecoversAs u v → IsSafe n u → IsSafe n v
alike_safe work n u v spares sfile alike recovers safe = record {
  plain = safe.plain;
  sound = λ none. sound_same n u v (alike n (spares.s n sfile)) (alike (p_file n) (spares.p n sfile))
      (fate_same n u v (sym (alike intent_file spares.intent)))
      (safe.sound (alike (z_file n) (spares.z n sfile) ∙ none));
  paired = pair_paired n u v (recovers n sfile) safe.paired;
  settled = pair_settled n u v (recovers n sfile) safe.settled;
}

-- what recovers as a view in which a name is safe, where the name is held if an intent names it
pub safe_by : (n : List ℕ) (v u : View) → IsSFileName n → RecoversAs v u → IsHeldAt n u → IsSafe n v → IsSafe n u
safe_by n v u sfile recovers held safe = record {
  plain = safe.plain;
  sound = λ none. by none (fate_at u n) refl;
  paired = pair_paired n v u (recovers n sfile) safe.paired;
  settled = settled;
}
  where
    settled : IsSettledPair (pair_of (recover n u) n)
    settled = pair_settled n v u (recovers n sfile) safe.settled

    by : u (z_file n) ≡ None → (f : Option Fate) → fate_at u n ≡ f → IsSound n u
    by none (Some fate) is = absurd (let there = held (ap is_some is) in let e : false ≡ true = sym (ap is_some none)
        ∙ there in cc)
    by none None is =
        let same : pair_of (recover n u) n ≡ pair (u n) (u (p_file n)) = recovered_is n u sfile
        ∙ (recovered_under n u None is ∙ ap (λ (o : Option Content). recovered (u n) (u (p_file n)) (is_some o))
        none) in
        record { entries = subst IsSettledPair same settled; unnamed = is }

-- new files of a name that no intent names
pub placed_safe : (n : List ℕ) (v : View) (f : Files) → IsSFileName n → is_kept (drop 2 n) ≡ false → fate_at v n ≡ None
    → recovered_pfile f.s f.p ≡ f.p → ArePaired f.s f.p → IsSafe n (placed v n f)
placed_safe n v f sfile plain free entries paired = record {
  plain = plain;
  sound = λ none. sound;
  paired = sound_paired n (placed v n f) sfile sound (λ none. moved_p n f v sfile ∙ paired (sym (moved_s n f v)
      ∙ none));
  settled = sound_settled n (placed v n f) sfile sound;
}
  where
    sound : IsSound n (placed v n f)
    sound = record {
      entries = subst (λ (o : Option Content). recovered_pfile o (placed v n f (p_file n)) ≡ placed v n f (p_file n))
          (sym (moved_s n f v)) (subst (λ (o : Option Content). recovered_pfile f.s o ≡ o) (sym (moved_p n f v sfile))
          entries);
      unnamed = others_fate n n v (placed v n f) sfile plain (moved_others n v (Some f)) ∙ free;
    }

-- new files of another name
other_moved : (n k : List ℕ) (v : View) (new : Option Files) → IsSFileName n → IsSFileName k
    → is_kept (drop 2 n) ≡ false → bytes_eq n k ≡ false → IsSafe k v → IsSafe k (moved v n new)
other_moved n k v new sfile other plain apart safe = same_safe k v (moved v n new) other
    (others_look n k v (moved v n new) sfile other plain apart (moved_others n v new)) safe

-- ---- names

-- after the step of a name all that were safe are safe, where it is
pub stay_moved : (x : Action) (n : List ℕ) (v : View) (new : Option Files) → KeepsFiles x → x.fits n ≡ true
    → (x.reads ≡ true → new ≡ None) → IsSafeFor x n v → IsSafeFor x n (moved v n new) → StaySafe x v (moved v n new)
stay_moved x n v new keeps fits quiet before own = λ k taken safe changes.
    ⊎_elim (λ e. subst (λ l. IsSafe l (moved v n new)) e (own changes))
    (λ apart. other_moved n k v new (keeps.names changes n fits) (keeps.names changes k taken) (before changes).plain
    apart (safe changes)) (name_cases n k)

-- the same of every s-file's name, also where nothing changes
pub keeps_moved : (x : Action) (n : List ℕ) (v : View) (new : Option Files) → KeepsFiles x → x.fits n ≡ true
    → (x.reads ≡ true → new ≡ None) → IsSafeFor x n v → IsSafeFor x n (moved v n new) → KeepsSafe v (moved v n new)
keeps_moved x n v new keeps fits none before own = by x.reads refl
  where
    by : (b : Bool) → x.reads ≡ b → KeepsSafe v (moved v n new)
    by true reads = subst (λ (f : Option Files). KeepsSafe v (moved v n f)) (sym (none reads)) (λ k sfile safe. safe)
    by false changes = λ k sfile safe.
        ⊎_elim (λ e. subst (λ l. IsSafe l (moved v n new)) e (own changes)) (λ apart. other_moved n k v new
        (keeps.names changes n fits) sfile (before changes).plain apart safe) (name_cases n k)

pub stay_folder : (x : Action) (m : Folder) (n : List ℕ) (new : Option Files) → KeepsFiles x → x.fits n ≡ true
    → (x.reads ≡ true → new ≡ None) → IsSafeFor x n (view_in m) → IsSafeFor x n (view_in (moved_in m n new))
    → StaySafe x (view_in m) (view_in (moved_in m n new))
stay_folder x m n new keeps fits quiet before own =
    subst (λ (v : View). StaySafe x (view_in m) v) (sym (moved_view m n new))
    (stay_moved x n (view_in m) new keeps fits quiet before (subst (λ (v : View). IsSafeFor x n v)
    (moved_view m n new) own))

pub keeps_folder : (x : Action) (m : Folder) (n : List ℕ) (new : Option Files) → KeepsFiles x → x.fits n ≡ true
    → (x.reads ≡ true → new ≡ None) → IsSafeFor x n (view_in m) → IsSafeFor x n (view_in (moved_in m n new))
    → KeepsSafe (view_in m) (view_in (moved_in m n new))
keeps_folder x m n new keeps fits quiet before own =
    subst (λ (v : View). KeepsSafe (view_in m) v) (sym (moved_view m n new))
    (keeps_moved x n (view_in m) new keeps fits quiet before (subst (λ (v : View). IsSafeFor x n v)
    (moved_view m n new) own))

pub stay_same : (x : Action) (v : View) → StaySafe x v v
stay_same x v = λ n fits may. may

pub keeps_same : (v : View) → KeepsSafe v v
keeps_same v = λ n sfile safe. safe

pub stay_on : (x : Action) (u v w : View) → StaySafe x u v → StaySafe x v w → StaySafe x u w
stay_on x u v w first second = λ n fits may. second n fits (first n fits may)

pub keeps_then : (u v w : View) → KeepsSafe u v → KeepsSafe v w → KeepsSafe u w
keeps_then u v w first next = λ n sfile safe. next n sfile (first n sfile safe)

-- the folder's view and the one that is told
pub told_safe : (x : Action) (work : List ℕ → Bool) (n : List ℕ) (u v : View) → KeepsFiles x → x.fits n ≡ true
    → Spares work → Alike work u v → RecoversAs u v → IsSafeFor x n u → IsSafeFor x n v
told_safe x work n u v keeps fits spares alike recovers safe = λ changes. alike_safe work n u v spares
    (keeps.names changes n fits) alike recovers (safe changes)
