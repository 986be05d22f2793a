-- What a step is without its output.
use Rattle.std.proofs.Common.{◌≡◌, ◌⊎◌, ℕ, Bool, true, List, [], Option, None, Some, map, IfSome, Result, Ok, Err, inl}
use Rattle.std.proofs.Common.{inr, refl, sym, ap, subst}
use Rattle.sccs_base.proofs.Gifts.{gives_none, some_none}
use Rattle.sccs_disk.specs.Files.{Model, View, view_of}
use Rattle.sccs_disk.specs.Told.{Told, seen}
use Rattle.sccs_sid.specs.declared.refusals.StepFault.{StepFault}
use Rattle.sccs_sid.specs.declared.refusals.StepFault.TheVariants.{Refused, Memory, ReadFault, WriteFault, DiskFault}
use Rattle.sccs_name_files.specs.StepFiles.{Files, MovesEarly, look, moved}
use Rattle.sccs_steps.specs.FirstFiles.{MovesInOrder}
use Rattle.sccs_steps.specs.Actions.{Action, IsHeard, SpeaksAs, SpeaksByAs, SteppedAs}
use Rattle.sccs_steps.specs.Calls.{Meets, Scene, Uncommitted, World, scene, shown, world}
use Rattle.sccs_steps.specs.StepEffects.{Outcome, effect_of}
use Rattle.sccs_steps.specs.StepStops.{After, Before, Ends, MeetsAtAs, Place, StepCrashPointsAs, Within, place_as}
use Rattle.sccs_soak.specs.Dropping.{could_drop, dropped, dropped_effect, dropping}

pub new_is : (n : List ℕ) (o : Outcome) → (effect_of n (dropped o)).new ≡ (effect_of n o).new
new_is n (Ok d) = refl
new_is n (Err refusal) = refl

-- nothing is committed, and no prefix of a text is written
uncommitted : (n : List ℕ) (new new2 : Option Files) (text other : List ℕ) (w w2 : World) (out err : Option (List ℕ))
    → new2 ≡ new → Uncommitted n new text w w2 → Uncommitted n new2 other (world w.view out err) (world w2.view out err)
uncommitted n new new2 text other w w2 out err is left =
    record {
      view = subst (λ (f : Option Files). MovesEarly n f w.view w2.view) (sym is) left.view;
      cleared =
          left.cleared;
      out = some_none out other;
      err = refl;
    }

module _ {X : Type 0} (code : X → ℕ) (n : List ℕ) where
  pub dropped_meets : (r : Result X StepFault) (o : Outcome) (w w2 : World) (out err : Option (List ℕ))
      → Meets code r n o w w2 → Meets code r n (dropped o) (world w.view out err) (world w2.view out err)
  dropped_meets (Ok x) o w w2 out err met = (
    dropped_effect met.0,
    ap dropped met.1,
    met.2,
    record { view = met.3.view; cleared = met.3.cleared; out = gives_none out; err = gives_none err },
  )
  dropped_meets (Err (Refused refusal)) o w w2 out err met =
      (ap dropped met.0, uncommitted n None None [] [] w w2 out err refl met.1)
  dropped_meets (Err Memory) o w w2 out err met = uncommitted n _ _ (effect_of n o).text (effect_of n (dropped o)).text
      w w2 out err (new_is n o) met
  dropped_meets (Err ReadFault) o w w2 out err met = uncommitted n _ _ (effect_of n o).text
      (effect_of n (dropped o)).text w w2 out err (new_is n o) met
  dropped_meets (Err WriteFault) o w w2 out err (inl kept) =
      inl (uncommitted n _ _ (effect_of n o).text (effect_of n (dropped o)).text w w2 out err (new_is n o) kept)
  dropped_meets (Err WriteFault) o w w2 out err (inr cut) =
      inr (
        dropped_effect cut.0,
        ap dropped cut.1,
        record {
          status = cut.2.status;
          view = cut.2.view;
          cleared =
              cut.2.cleared;
          out = some_none out [];
          err = some_none err [];
        },
      )
  dropped_meets (Err DiskFault) o w w2 out err met = record {
    view = subst (λ (new : Option Files). MovesInOrder n new w.view w2.view) (sym (new_is n o)) met.view;
    out = some_none out (effect_of n (dropped o)).text;
    err = refl;
  }

  -- it ends where it ends without dropping
  place_is : (r : Result X StepFault) (o : Outcome) (w w2 : World) (out err : Option (List ℕ))
      (met : Meets code r n o w w2)
      → place_as code r n (dropped o) (world w.view out err) (world w2.view out err)
      (dropped_meets r o w w2 out err met) ≡ place_as code r n o w w2 met
  unfolding dropped_meets
  place_is (Ok x) o w w2 out err met = refl
  place_is (Err (Refused refusal)) o w w2 out err met = refl
  place_is (Err Memory) o w w2 out err met = refl
  place_is (Err ReadFault) o w w2 out err met = refl
  place_is (Err WriteFault) o w w2 out err (inl kept) = refl
  place_is (Err WriteFault) o w w2 out err (inr cut) = refl
  place_is (Err DiskFault) o w w2 out err met = refl

  ends_so : (p : Place) (x : Action) (v w : View) (m : Model) (past : List Model) (t : Told) → Ends p x n v w m past t
      → Ends p (dropping x) n v w m past t
  ends_so Before x v w m past t ends = ends
  ends_so Within x v w m past t ends = ends
  ends_so After x v w m past t ends = ends

  dropped_at : (x : Action) (r : Result X StepFault) (o : Outcome) (v : View) (m : Model) (past : List Model)
      (a b : Scene) (out err : Option (List ℕ)) → MeetsAtAs code x r n o v m past a b
      → MeetsAtAs code (dropping x) r n (dropped o) v m past (scene a.told out err) (scene b.told out err)
  dropped_at x r o v m past a b out err met = (
    dropped_meets r o (shown a) (shown b) out err met.0,
    subst (λ (p : Place). Ends p (dropping x) n v (moved v n (effect_of n (dropped o)).new) m past b.told)
        (sym (place_is r o (shown a) (shown b) out err met.0))
        (subst (λ (new : Option Files). Ends (place_as code r n o (shown a) (shown b) met.0) (dropping x) n v
        (moved v n new) m past b.told) (sym (new_is n o))
        (ends_so (place_as code r n o (shown a) (shown b) met.0) x v (moved v n (effect_of n o).new) m past b.told
        met.1)),
  )

  -- ---- the clauses of a step

  pub dropped_steps : (x : Action) (r : Result X StepFault) (left : Option (List ℕ)) (a b : Scene)
      (out err : Option (List ℕ)) → SteppedAs code x r n left a b → SteppedAs code (dropping x) r n left
      (scene a.told out err) (scene b.told out err)
  dropped_steps x r left a b out err stepped = by (seen a.told) stepped
    where
      by : (o : Option View) → IfSome o (λ v. (i : List ℕ) → IsHeard x.takes left i
          → Meets code r n (x.step n i (map v (x.named n)) (look v n)) (world o a.out a.err) (shown b))
          → IfSome o (λ v. (i : List ℕ) → IsHeard x.takes left i
          → Meets code r n (dropped (x.step n i (map v (x.named n)) (look v n))) (world o out err)
          (world (seen b.told) out err))
      by None stepped = tt
      by (Some v) stepped = λ i heard. dropped_meets r (x.step n i (map v (x.named n)) (look v n))
          (world (Some v) a.out a.err) (shown b) out err (stepped i heard)

  pub dropped_crash_points : (x : Action) (r : Result X StepFault) (left : Option (List ℕ)) (a b : Scene)
      (out err : Option (List ℕ)) → StepCrashPointsAs code x r n left a b → StepCrashPointsAs code (dropping x) r n left
      (scene a.told out err) (scene b.told out err)
  dropped_crash_points x r left a b out err crash_points = λ m past i told heard calm may.
      dropped_at x r (x.step n i (map (view_of m) (x.named n)) (look (view_of m) n)) (view_of m) m past a b out err
      (crash_points m past i told heard calm may)

  -- over any disk
  could_so : (could : Outcome → Bool) (o : Outcome) → could o ≡ true → could_drop could (dropped o) ≡ true
  could_so could (Ok d) is = refl
  could_so could (Err refusal) is = is

  speaks_so : (r : Result X StepFault) (o : Outcome) (a b err : Option (List ℕ)) → SpeaksAs code r n o a b
      → SpeaksAs code r n (dropped o) err err
  speaks_so (Ok x) o a b err says = (dropped_effect says.0, ap dropped says.1, says.2, gives_none err)
  speaks_so (Err (Refused refusal)) o a b err says = (ap dropped says.0, refl)
  speaks_so (Err Memory) o a b err says = some_none err _
  speaks_so (Err ReadFault) o a b err says = some_none err _
  speaks_so (Err WriteFault) o a b err says = some_none err _
  speaks_so (Err DiskFault) o a b err says = some_none err _

  pub dropped_speaks : (could : Outcome → Bool) (r : Result X StepFault) (a b err : Option (List ℕ))
      → SpeaksByAs code could r n a b → SpeaksByAs code (could_drop could) r n err err
  dropped_speaks could r a b err says = (
    dropped says.0,
    could_so could says.0 says.1,
    speaks_so r says.0 a b err
        says.2,
  )
