-- The lists of steps of a soak.
use Rattle.std.proofs.Common.{◌≡◌, ◌≢◌, ℕ, zero, suc, ◌+◌, ◌<◌, ◌≤◌, List, [], ◌∷◌, ◌++◌, length, Result, Ok, Err, inl}
use Rattle.std.proofs.Common.{inr, refl, sym, ap, subst, arith, ◌∙◌}
use Rattle.sccs_base.proofs.Gifts.{gives_none}
use Rattle.sccs_disk.specs.Files.{Folder}
use Rattle.sccs_steps.specs.Causes.{Counts, RunCauses}
use Rattle.sccs_steps.specs.Settings.{Setting}
use Rattle.sccs_steps.specs.StepLists.{NamedStep}
use Rattle.sccs_steps.specs.declared.faults.Fault.{Fault}
use Rattle.sccs_steps.specs.declared.faults.Fault.TheVariants as ends
use Rattle.sccs_step_lists.specs.StepLists.{AllTake, StepLists, portions_of, said, saying, steps_along, steps_in}
use Rattle.sccs_step_lists.specs.Sayings.{BegunSaid, WholeSaid}
use Rattle.sccs_step_lists.specs.WhileFine.{RunsWhileFine}
use Rattle.sccs_step_lists.proofs.FineLoops.{fine_cut, fine_ends, fine_on}
use Rattle.sccs_step_lists.proofs.JoinedStepLists.{step_list_then}
use Rattle.sccs_step_lists.proofs.Portions.{steps_more}
use Rattle.sccs_step_lists.proofs.SaidStepLists.{never_step_list, said_step_list}
use Rattle.sccs_batch.specs.Batches.{RunsOwn}
use Rattle.sccs_batch.specs.declared.entries.BatchEntry.{BatchEntry}
use Rattle.sccs_soak.specs.Commands.{delta_command, edit_command, rounds_from}
use Rattle.sccs_soak.specs.Draws.{draw_of, next_state}
use Rattle.sccs_soak.specs.Runs.{LeadsSoak, RoundEnds, RunsRound, RunsSoaked}
use Rattle.sccs_soak.specs.Soak.{BegunSoaked, WholeSoaked, soaked, soaking}
use Rattle.sccs_soak.specs.Summaries.{summary_step_list}
use Rattle.sccs_soak.specs.Turns.{lines_after, turn_of}
use Rattle.sccs_soak.specs.declared.turns.Turn.{Turn}
use Rattle.sccs_soak.specs.declared.turns.Turn.TheVariants as turns

-- ---- one command

ok_causes : (code : ℕ) (c : Counts) → RunCauses (Ok code) c c
ok_causes code c = record {
  input_later = omega arith;
  out_later = omega arith;
  err_later = omega arith;
  disk_later = omega arith;
  read = λ is. absurd (cc);
  write = λ is. absurd (cc);
  broke = λ is. absurd (cc);
}

pub memory_causes : (c : Counts) → RunCauses (Err ends.Memory) c c
memory_causes c = record {
  input_later = omega arith;
  out_later = omega arith;
  err_later = omega arith;
  disk_later = omega arith;
  read = λ is. absurd (cc);
  write = λ is. absurd (cc);
  broke = λ is. absurd (cc);
}

pub soaked_takes : (command : StepLists) → ((folder : Folder) (i : List ℕ) → AllTake (portions_of command folder i))
    → (folder : Folder) (i : List ℕ) → AllTake (portions_of (soaked command) folder i)
soaked_takes command takes folder i = ((λ changes n fits. absurd (cc)), takes folder i)

some_steps : (ts us : List NamedStep) (t : NamedStep) → ts ≡ t ∷ us → 0 < length ts
some_steps ts us t is = subst (λ (vs : List NamedStep). 0 < length vs) (sym is) (omega arith)

module _ (command : StepLists) (fits : Type 0) (whole : ℕ → List NamedStep → Type 0) (begun : List NamedStep → Type 0)
    (takes : (folder : Folder) (i : List ℕ) → AllTake (portions_of command folder i)) where
  -- nothing was done
  pub soaked_never : (r : Result ℕ Fault) (s t : Setting) → r ≡ Err ends.Memory → t ≡ s
      → RunsSoaked command fits whole begun r s t
  soaked_never r s t is same =
      subst (λ (x : Result ℕ Fault). RunsSoaked command fits whole begun x s t) (sym is)
      (subst (λ (u : Setting). RunsSoaked command fits whole begun (Err ends.Memory) s u) (sym same)
      (never_step_list (soaked command) (λ i. fits) (WholeSoaked whole) (BegunSoaked begun)
      (said [] [] ∷ []) ends.Memory s s (soaked_takes command takes)
      (λ folder i. some_steps (steps_along (soaked command) folder i) (steps_in (portions_of command folder i))
      (said [] []) (steps_more (portions_of (saying [] [] 0) folder i) (portions_of command folder i)))
      (inl refl) refl (memory_causes s.faults)))

  pub soaked_ran : (r : Result ℕ Fault) (s t : Setting) → RunsOwn command fits whole begun r s t
      → RunsSoaked command fits whole begun r s t
  soaked_ran r s t (inl runs) =
      step_list_then (saying [] [] 0) (λ code. command) (λ i. fits) (λ i. Unit {0}) (λ i. fits) (WholeSaid [] [] 0)
      (BegunSaid [] []) (λ code. whole) (λ code. begun) 0 r
      s s t (λ i are. tt) (λ i are. are) (λ code folder i. takes folder i)
      (said_step_list [] [] 0 (λ i. Unit {0}) (Ok 0) s s refl (refl, gives_none s.stage.out, gives_none s.stage.err)
      (ok_causes 0 s.faults)) runs
  soaked_ran r s t (inr never) = soaked_never r s t never.0 never.1

-- ---- rounds

module _ (command : BatchEntry → StepLists) (fits : BatchEntry → Type 0) (whole : BatchEntry → ℕ → List NamedStep
    → Type 0) (begun : BatchEntry → List NamedStep → Type 0)
    (takes : (e : BatchEntry) (folder : Folder) (i : List ℕ) → AllTake (portions_of (command e) folder i))
    (number : ℕ) where
  each_takes : (e : BatchEntry) (folder : Folder) (i : List ℕ) → AllTake (portions_of (soaked (command e)) folder i)
  each_takes e folder i = soaked_takes (command e) (takes e) folder i

  last_takes : (folder : Folder) (i : List ℕ) → AllTake (portions_of (summary_step_list number) folder i)
  last_takes folder i = ((λ changes n fits. absurd (cc)), tt)

  abbrev Does : BatchEntry → Result ℕ Fault → Setting → Setting → Type 0
  Does e r s t = RunsSoaked (command e) (fits e) (whole e) (begun e) r s t

  abbrev All : List BatchEntry → Result ℕ Fault → Setting → Setting → Type 0
  All es r s t = RunsWhileFine (soaking command fits whole begun number) es r s t

  pub soak_on : (e : BatchEntry) (es : List BatchEntry) (r : Result ℕ Fault) (s t u : Setting) → Does e (Ok 0) s t
      → All es r t u → All (e ∷ es) r s u
  soak_on e es r s t u done next = fine_on (soaking command fits whole begun number) each_takes last_takes e es r s t u
      done next

  pub soak_ends : (e : BatchEntry) (es : List BatchEntry) (status : ℕ) (s t : Setting) → status ≢ 0
      → Does e (Ok status) s t → All (e ∷ es) (Ok status) s t
  soak_ends e es status s t other done = fine_ends (soaking command fits whole begun number) each_takes last_takes e es
      status s t other done

  pub soak_cut : (e : BatchEntry) (es : List BatchEntry) (fault : Fault) (s t : Setting) → Does e (Err fault) s t
      → All (e ∷ es) (Err fault) s t
  soak_cut e es fault s t cut = fine_cut (soaking command fits whole begun number) each_takes last_takes e es fault s t
      cut

  -- a round that ended otherwise
  pub other_ends : (round rest : List BatchEntry) (status : ℕ) (s t : Setting) → status ≢ 0
      → All (round ++ rest) (Ok status) s t → RoundEnds command fits whole begun number round rest (Ok status) s t
  other_ends round rest zero s t other ends = absurd (other refl)
  other_ends round rest (suc code) s t other ends = ends

  ended_by : (round rest : List BatchEntry) (status : ℕ) (s t : Setting) → status ≢ 0
      → RoundEnds command fits whole begun number round rest (Ok status) s t → All (round ++ rest) (Ok status) s t
  ended_by round rest zero s t other ends = absurd (other refl)
  ended_by round rest (suc code) s t other ends = ends

  -- its second command
  pub round_made : (one two : BatchEntry) (rest : List BatchEntry) (r : Result ℕ Fault) (s t u : Setting)
      → Does one (Ok 0) s t → Does two r t u → RoundEnds command fits whole begun number (one ∷ two ∷ []) rest r s u
  round_made one two rest (Ok zero) s t u first second = λ r v next. soak_on one (two ∷ rest) r s t v first
      (soak_on two rest r t u v second next)
  round_made one two rest (Ok (suc code)) s t u first second = soak_on one (two ∷ rest) (Ok (suc code)) s t u first
      (soak_ends two rest (suc code) t u (λ none. absurd cc) second)
  round_made one two rest (Err fault) s t u first second = soak_on one (two ∷ rest) (Err fault) s t u first
      (soak_cut two rest fault t u second)

  -- the rounds that are left
  pub round_goes : (round : ℕ) (turn : Turn) (rest : List BatchEntry) (s t : Setting)
      → RunsRound command fits whole begun round turn (Ok 0) s t → (r : Result ℕ Fault) (u : Setting) → All rest r t u
      → All (edit_command round turn ∷ delta_command round turn ∷ rest) r s u
  round_goes round turn rest s t runs = runs number rest

  pub round_stops : (round : ℕ) (turn : Turn) (rest : List BatchEntry) (status : ℕ) (s t : Setting) → status ≢ 0
      → RunsRound command fits whole begun round turn (Ok status) s t
      → All (edit_command round turn ∷ delta_command round turn ∷ rest) (Ok status) s t
  round_stops round turn rest status s t other runs = ended_by (edit_command round turn ∷ delta_command round turn ∷ [])
      rest status s t other (runs number rest)

  pub round_cut : (round : ℕ) (turn : Turn) (rest : List BatchEntry) (fault : Fault) (s t : Setting)
      → RunsRound command fits whole begun round turn (Err fault) s t
      → All (edit_command round turn ∷ delta_command round turn ∷ rest) (Err fault) s t
  round_cut round turn rest fault s t runs = runs number rest

-- ---- all rounds

-- the first round of those that are left
pub round_first : (left next round state lines first second choice place : ℕ) (turn : Turn) → left ≡ suc next
    → first ≡ next_state state → second ≡ next_state first → choice ≡ draw_of first → place ≡ draw_of second
    → turn ≡ turn_of choice place lines
    → rounds_from left round state lines ≡ edit_command round turn ∷ delta_command round turn ∷ rounds_from next
    (round + 1) second (lines_after lines turn)
round_first left next round state lines first second choice place turn is first_is second_is choice_is place_is
    turn_is =
    ap (λ k. rounds_from k round state lines) is
    ∙ (ap (λ (c : ℕ). begun c (next_state c) (turn_of (draw_of c) (draw_of (next_state c)) lines)) (sym first_is)
    ∙ (ap (λ (p : ℕ). begun first p (turn_of (draw_of first) (draw_of p) lines)) (sym second_is)
    ∙ ap (λ (t : Turn). begun first second t) (sym (turn_is ∙ (ap (λ c. turn_of c place lines) choice_is
    ∙ ap (λ p. turn_of (draw_of first) p lines) place_is)))))
  where
    begun : ℕ → ℕ → Turn → List BatchEntry
    begun c p t = edit_command round t ∷ delta_command round t ∷ rounds_from next (round + 1) p (lines_after lines t)

pub none_left : (left round state lines : ℕ) → left ≡ 0 → rounds_from left round state lines ≡ []
none_left left round state lines is = ap (λ k. rounds_from k round state lines) is

pub lines_most : (lines : ℕ) (turn : Turn) → lines_after lines turn ≤ lines + 1
lines_most lines (turns.Add place) = omega arith
lines_most lines (turns.Change place) = omega arith
lines_most lines (turns.Delete place) = omega arith
lines_most lines turns.Branch = omega arith

-- where a call stands before some rounds
module _ (command : BatchEntry → StepLists) (fits : BatchEntry → Type 0) (whole : BatchEntry → ℕ → List NamedStep
    → Type 0) (begun : BatchEntry → List NamedStep → Type 0)
    (takes : (e : BatchEntry) (folder : Folder) (i : List ℕ) → AllTake (portions_of (command e) folder i)) (number : ℕ)
    (all : List BatchEntry) (s : Setting) where
  abbrev Leads : List BatchEntry → Setting → Type 0
  Leads rest t = LeadsSoak command fits whole begun number all s rest t

  module _ (round : ℕ) (turn : Turn) (these rest : List BatchEntry) (t u : Setting)
      (is : these ≡ edit_command round turn ∷ delta_command round turn ∷ rest) (leads : Leads these t) where
    pub leads_on : RunsRound command fits whole begun round turn (Ok 0) t u → Leads rest u
    leads_on runs r v next =
        leads r v (subst (λ (es : List BatchEntry). RunsWhileFine (soaking command fits whole begun number) es r t v)
        (sym is) (round_goes command fits whole begun takes number round turn rest t u runs r v next))

    pub leads_stop : (status : ℕ) → status ≢ 0 → RunsRound command fits whole begun round turn (Ok status) t u
        → RunsWhileFine (soaking command fits whole begun number) all (Ok status) s u
    leads_stop status other runs =
        leads (Ok status) u (subst (λ (es : List BatchEntry). RunsWhileFine (soaking command fits whole begun number) es
        (Ok status) t u) (sym is) (round_stops command fits whole begun takes number round turn rest status t u
        other runs))

    pub leads_cut : (fault : Fault) → RunsRound command fits whole begun round turn (Err fault) t u
        → RunsWhileFine (soaking command fits whole begun number) all (Err fault) s u
    leads_cut fault runs =
        leads (Err fault) u (subst (λ (es : List BatchEntry). RunsWhileFine (soaking command fits whole begun number) es
        (Err fault) t u) (sym is) (round_cut command fits whole begun takes number round turn rest fault t u runs))

  pub leads_end : (these : List BatchEntry) (t u : Setting) (r : Result ℕ Fault) → these ≡ [] → Leads these t
      → RunsWhileFine (soaking command fits whole begun number) [] r t u
      → RunsWhileFine (soaking command fits whole begun number) all r s u
  leads_end these t u r none leads runs =
      leads r u (subst (λ (es : List BatchEntry). RunsWhileFine (soaking command fits whole begun number) es r t u)
      (sym none) runs)
