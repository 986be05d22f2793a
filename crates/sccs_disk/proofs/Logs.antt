-- One call more in a record of calls.
use Rattle.std.proofs.Common.{◌≡◌, ℕ, List, [], ◌∷◌, ◌++◌, length, set, Option, None, Some, refl, sym, ap, subst, ◌∙◌}
use Rattle.std.proofs.Common.{◌-◌, length-append, arith}
use Rattle.std.proofs.Math.Seq.{set-append_seam}
use Rattle.sccs_disk.specs.Files.{Model, IsSane, view_of}
use Rattle.sccs_disk.specs.Calls.{Done}
use Rattle.sccs_disk.specs.MemoryFiles.{model_after, past_after, model_of, told_after}
use Rattle.sccs_disk.specs.States.{State, AreNamesPlaced, state, shown, made, change_effect}
use Rattle.sccs_disk.specs.Told.{Tells}
use Rattle.sccs_disk.specs.declared.changes.Change.{Change}
use Rattle.sccs_disk.proofs.Sanity.{HasPlaces, places_kept, sane_from, placed_from}
use Rattle.sccs_disk.proofs.Views.{made_state, shown_made}

model_quiet : (m : Model) (log : List (Option Change)) → model_after m (log ++ None ∷ []) ≡ model_after m log
model_quiet m [] = refl
model_quiet m (None ∷ log) = model_quiet m log
model_quiet m (Some c ∷ log) = model_quiet ((change_effect c).model m) log

past_quiet : (m : Model) (past : List Model) (log : List (Option Change)) → past_after m past (log ++ None ∷ [])
    ≡ past_after m past log
past_quiet m past [] = refl
past_quiet m past (None ∷ log) = past_quiet m past log
past_quiet m past (Some c ∷ log) = past_quiet ((change_effect c).model m) (m ∷ past) log

-- a call that changed nothing
pub model_none : (s : State) (log : List (Option Change)) → model_after (model_of s) (log ++ None ∷ []) ≡ model_after
    (model_of s) log
model_none s log = model_quiet (model_of s) log

pub told_none : (s : State) (log : List (Option Change)) → told_after s (log ++ None ∷ []) ≡ told_after s log
told_none s log =
    ap (λ m. Tells m (past_after (model_of s) [] (log ++ None ∷ []))) (model_quiet (model_of s) log)
    ∙ ap (λ past. Tells (model_after (model_of s) log) past) (past_quiet (model_of s) [] log)

model_some : (m : Model) (log : List (Option Change)) (c : Change) → model_after m (log ++ Some c ∷ [])
    ≡ (change_effect c).model (model_after m log)
model_some m [] c = refl
model_some m (None ∷ log) c = model_some m log c
model_some m (Some d ∷ log) c = model_some ((change_effect d).model m) log c

past_some : (m : Model) (past : List Model) (log : List (Option Change)) (c : Change)
    → past_after m past (log ++ Some c ∷ []) ≡ model_after m log ∷ past_after m past log
past_some m past [] c = refl
past_some m past (None ∷ log) c = past_some m past log c
past_some m past (Some d ∷ log) c = past_some ((change_effect d).model m) (m ∷ past) log c

-- a call that made a change
pub model_made : (s : State) (log : List (Option Change)) (c : Change) → model_after (model_of s) (log ++ Some c ∷ [])
    ≡ (change_effect c).model (model_after (model_of s) log)
model_made s log c = model_some (model_of s) log c

told_is : (m n : Model) (past past2 : List Model) → Tells m past ≡ Tells n past2 → (m ≡ n) × (past ≡ past2)
told_is m n past past2 e = (cc, cc)

told_made : (e : Model → Model) (m n m2 : Model) (past past2 pasts : List Model) → m2 ≡ e m → pasts ≡ m ∷ past
    → Tells m past ≡ Tells n past2 → Tells m2 pasts ≡ Tells (e n) (n ∷ past2)
told_made e m n m2 past past2 pasts is was same =
    let both = told_is m n past past2 same in
    ap (λ x. Tells x pasts) (is ∙ ap e both.0) ∙ ap (λ x. Tells (e n) x) (was ∙ (ap (λ x. x ∷ past) both.0
    ∙ ap (λ x. n ∷ x) both.1))

pub done_by : (s : State) (log : List (Option Change)) (c : Change) → IsSane (model_after (model_of s) log)
    → Done (change_effect c) (told_after s log) (told_after s (log ++ Some c ∷ []))
done_by s log c sane =
    let m : Model = model_after (model_of s) log in
    record {
      view = ap (λ v. Some v) (ap view_of (model_made s log c) ∙ (ap shown (sym (made_state c m))
          ∙ shown_made c (state m) (placed_from m sane)));
      model = λ n past2 is. told_made (change_effect c).model m n _ _ past2 _ (model_made s log c)
          (past_some (model_of s) [] log c) is;
    }

pub state_by : (s : State) (log : List (Option Change)) (c : Change) (old new : State)
    → old ≡ state (model_after (model_of s) log) → new ≡ made c old
    → new ≡ state (model_after (model_of s) (log ++ Some c ∷ []))
state_by s log c old new is now =
    now ∙ (ap (made c) is ∙ (made_state c (model_after (model_of s) log) ∙ ap state (sym (model_made s log c))))

pub sane_by : (s : State) (log : List (Option Change)) (c : Change) (new : State)
    → IsSane (model_after (model_of s) log) → new ≡ state (model_after (model_of s) (log ++ Some c ∷ []))
    → AreNamesPlaced new
    → IsSane (model_after (model_of s) (log ++ Some c ∷ []))
sane_by s log c new sane is placed =
    sane_from (model_after (model_of s) (log ++ Some c ∷ [])) new is placed
    (subst HasPlaces (sym (model_made s log c)) (places_kept c (model_after (model_of s) log) sane.within))

-- The entry of a call that was counted is given its change.
last_made : (items log : List (Option Change)) (n : ℕ) (e : Option Change) → items ≡ log ++ None ∷ [] → n ≡ length items
    → set items (n - 1) e ≡ log ++ e ∷ []
last_made items log n e is count =
    let place : n - 1 ≡ length log = omega (arith, count, ap length is, length-append log (None ∷ [])) in
    ap (λ l. set l (n - 1) e) is ∙ (ap (λ p. set (log ++ None ∷ []) p e) place ∙ set-append_seam log None [] e)

pub state_now : (s : State) (items log : List (Option Change)) (n : ℕ) (c : Change) (old new : State)
    → items ≡ log ++ None ∷ [] → n ≡ length items → old ≡ state (model_after (model_of s) items) → new ≡ made c old
    → new ≡ state (model_after (model_of s) (set items (n - 1) (Some c)))
state_now s items log n c old new is count same now =
    let before : old ≡ state (model_after (model_of s) log) = same ∙ ap state (ap (model_after (model_of s)) is
    ∙ model_none s log) in
    state_by s log c old new before now
    ∙ ap state (ap (model_after (model_of s)) (sym (last_made items log n (Some c) is count)))

pub sane_now : (s : State) (items log : List (Option Change)) (n : ℕ) (c : Change) (new : State)
    → items ≡ log ++ None ∷ [] → n ≡ length items → IsSane (model_after (model_of s) items)
    → new ≡ state (model_after (model_of s) (set items (n - 1) (Some c))) → AreNamesPlaced new
    → IsSane (model_after (model_of s) (set items (n - 1) (Some c)))
sane_now s items log n c new is count sane now placed =
    let made_log : set items (n - 1) (Some c) ≡ log ++ Some c ∷ [] = last_made items log n (Some c) is count in
    let before : IsSane (model_after (model_of s) log) = subst IsSane (ap (model_after (model_of s)) is
    ∙ model_none s log) sane in
    subst (λ l. IsSane (model_after (model_of s) l)) (sym made_log)
    (sane_by s log c new before (now ∙ ap state (ap (model_after (model_of s)) made_log)) placed)

pub done_now : (s : State) (items log : List (Option Change)) (n : ℕ) (c : Change) → items ≡ log ++ None ∷ []
    → n ≡ length items → IsSane (model_after (model_of s) items)
    → Done (change_effect c) (told_after s items) (told_after s (set items (n - 1) (Some c)))
done_now s items log n c is count sane =
    let before : IsSane (model_after (model_of s) log) = subst IsSane (ap (model_after (model_of s)) is
    ∙ model_none s log) sane in
    let told : told_after s items ≡ told_after s log = ap (told_after s) is ∙ told_none s log in
    subst (λ t. Done (change_effect c) t (told_after s (set items (n - 1) (Some c)))) (sym told)
    (subst (λ l. Done (change_effect c) (told_after s log) (told_after s l))
    (sym (last_made items log n (Some c) is count)) (done_by s log c before))
