-- A change of entries, part by part.
use Rattle.std.proofs.Common.{◌≡◌, ℕ, Bool, false, List, [], drop, Option, None, Some, Result, Ok, Err, refl, sym, ap}
use Rattle.std.proofs.Common.{subst, ◌∙◌}
use Rattle.std.specs.Prelude.{IfOk, IfSome}
use Rattle.std.specs.Str.{bytes_eq}
use Rattle.sccs_base.specs.Name.{IsSFileName, p_file, q_file, z_file}
use Rattle.sccs_base.proofs.Gifts.{some_none}
use Rattle.sccs_disk.specs.Calls.{IsThere}
use Rattle.sccs_disk.specs.Files.{Content, View}
use Rattle.sccs_disk.specs.Told.{Told, seen}
use Rattle.sccs_disk.proofs.Puts.{put_other}
use Rattle.sccs_sid.specs.Reading.{◌>>=◌}
use Rattle.sccs_sid.specs.declared.refusals.Refusal.{Refusal}
use Rattle.sccs_sid.specs.declared.refusals.StepFault.{StepFault}
use Rattle.sccs_sid.specs.declared.refusals.StepFault.TheVariants.{Refused, Memory, ReadFault, WriteFault, DiskFault}
use Rattle.sccs_name_files.specs.StepFiles.{Files, Moves, is_working, look}
use Rattle.sccs_steps.specs.Actions.{RefusesWithin, quiet_checks}
use Rattle.sccs_steps.specs.Calls.{world}
use Rattle.sccs_steps.specs.StepEffects.{Outcome}
use Rattle.sccs_store.specs.Commits.{chosen}
use Rattle.sccs_crash_points.proofs.FileNames.{from_g, from_s, no_q}
use Rattle.sccs_store.proofs.Working.{moves_wider}
use Rattle.sccs_changes.specs.Changes.{Changing, CouldPrepare, IsReady, IsTakenOrGone, IsUnmade, Prepares}
use Rattle.sccs_changes.specs.Changes.{PreparesChange, unlocked}
use Rattle.sccs_changes.specs.declared.prepared.Prepared.{Prepared}
use Rattle.sccs_changes.specs.NewEntries.{Decided, PreparesDecided, entries_outcome, kept_g, with_entries}
use Rattle.sccs_changes.specs.PFiles.{Answers}
use Rattle.sccs_changes.specs.Pending.{AnswersPending, Found, bytes_at, pending_of}
use Rattle.sccs_changes.specs.declared.pending.Pending.{Pending}
use Rattle.sccs_changes.proofs.EntryLaws.{entries_prepared, entries_ready}
use Rattle.sccs_changes.proofs.PendingLaws.{found_there, shown_header}

-- what is decided of what was found
abbrev pub Deciding : Type 0
Deciding = List ℕ → Found → Result Decided Refusal

-- the change that decides so, which takes no input and names no files
abbrev pub changing : Deciding → (Outcome → Bool) → Changing
changing decide could = record {
  outcome = entries_outcome decide;
  named = λ n. [];
  takes = false;
  silent = false;
  early = false;
  could = could;
}

-- ---- the step, part by part

abbrev with_decided : Files → Decided → Outcome
with_decided f d = Ok (with_entries f d.edits (kept_g d.keep f.g) d.report)

abbrev from_found : Deciding → List ℕ → Files → Result Found Refusal → Outcome
from_found decide n f r = r >>= λ found. decide n found >>= λ d. with_decided f d

outcome_is : (decide : Deciding) (n i : List ℕ) (named : List (Option Content)) (f : Files)
    → entries_outcome decide n i named f ≡ from_found decide n f (pending_of f.s f.p)
unfolding entries_outcome
outcome_is decide n i named f = refl

-- the files as they were before the lock
as_seen : (n : List ℕ) (v : View) (r : Result Found Refusal) → IsSFileName n → pending_of (v n) (v (p_file n)) ≡ r
    → pending_of (look (unlocked n v) n).s (look (unlocked n v) n).p ≡ r
as_seen n v r sfile is =
    ap (λ (o : Option Content). pending_of o (unlocked n v (p_file n))) (put_other v (z_file n) n None
    (from_s 122 n sfile refl))
    ∙ (ap (λ (o : Option Content). pending_of (v n) o) (put_other v (z_file n) (p_file n) None refl) ∙ is)

step_as : (decide : Deciding) (n i : List ℕ) (named : List (Option Content)) (v : View) (r : Result Found Refusal)
    → IsSFileName n → pending_of (v n) (v (p_file n)) ≡ r
    → entries_outcome decide n i named (look (unlocked n v) n) ≡ from_found decide n (look (unlocked n v) n) r
step_as decide n i named v r sfile is = outcome_is decide n i named (look (unlocked n v) n)
    ∙ ap (from_found decide n (look (unlocked n v) n)) (as_seen n v r sfile is)

unmade : (n text : List ℕ) (v : View) (o2 : Option View) (out err : Option (List ℕ)) → Moves (bytes_eq (q_file n))
    (λ u. u) (Some v) o2 → IsUnmade n text (world (Some v) out err) (world o2 out err)
unmade n text v o2 out err moves =
    record {
      view = moves_wider (bytes_eq (q_file n)) (is_working n) (Some v) o2 (no_q n) moves;
      out =
          some_none out text;
    }

-- ---- the files aren't read

unread : (decide : Deciding) (fault : StepFault) (n i : List ℕ) (named : List (Option Content)) (v : View)
    (out err : Option (List ℕ)) → IsSFileName n → AnswersPending (v n) (v (p_file n)) (Err fault)
    → Prepares (Err fault) n (entries_outcome decide n i named (look (unlocked n v) n)) (world (Some v) out err)
    (world (Some v) out err)
unread decide (Refused refusal) n i named v out err sfile answers =
    (step_as decide n i named v (Err refusal) sfile answers, unmade n [] v (Some v) out err (λ k h. refl))
unread decide Memory n i named v out err sfile answers = unmade n _ v (Some v) out err (λ k h. refl)
unread decide DiskFault n i named v out err sfile answers = unmade n _ v (Some v) out err (λ k h. refl)
unread decide ReadFault n i named v out err sfile answers = absurd answers
unread decide WriteFault n i named v out err sfile answers = absurd answers

pub unread_prepares : (decide : Deciding) (could : Outcome → Bool) (fault : StepFault) (n : List ℕ)
    (left : Option (List ℕ)) (o o2 : Option View) (out err : Option (List ℕ)) → IsSFileName n → o2 ≡ o
    → IfSome o (λ (v : View). AnswersPending (v n) (v (p_file n)) (Err fault))
    → PreparesChange (changing decide could) (Err fault) n left (world o out err) (world o2 out err)
unread_prepares decide could fault n left None o2 out err sfile same answers = tt
unread_prepares decide could fault n left (Some v) o2 out err sfile same answers = λ i heard.
    subst (λ (w : Option View). Prepares (Err fault) n (entries_outcome decide n i [] (look (unlocked n v) n))
    (world (Some v) out err) (world w out err)) (sym same) (unread decide fault n i [] v out err sfile answers)

-- ---- nothing is decided

abbrev IsRead : View → List ℕ → Pending → Type 0
IsRead v n x = AnswersPending (v n) (v (p_file n)) (Ok x)

-- the header and the entries that were found are those that were read
abbrev pub ShowsFound : Pending → Found → Type 0
ShowsFound x found = (found.parsed.header ≡ x.front.header) × (found.edits ≡ x.edits)

found_in : (v : View) (n : List ℕ) (x : Pending) → IsRead v n x → (found : Found) × ShowsFound x found
    × (pending_of (v n) (v (p_file n)) ≡ Ok found)
found_in v n x read = (
  record { parsed = read.0; edits = x.edits },
  (sym (shown_header (bytes_at (v n)) read.0 x.front read.1), refl),
  read.2,
)

decided_step : (decide : Deciding) (n i : List ℕ) (named : List (Option Content)) (v : View) (x : Pending)
    (r : Result Decided Refusal) → IsSFileName n → IsRead v n x → ((found : Found) → ShowsFound x found
    → decide n found ≡ r)
    → entries_outcome decide n i named (look (unlocked n v) n) ≡ (r >>= λ d. with_decided (look (unlocked n v) n) d)
decided_step decide n i named v x r sfile read is =
    let f = found_in v n x read in
    step_as decide n i named v (Ok f.0) sfile f.2 ∙ ap (λ (s : Result Decided Refusal). s >>= λ d. with_decided
    (look (unlocked n v) n) d) (is f.0 f.1)

undecided : (decide : Deciding) (fault : StepFault) (n i : List ℕ) (named : List (Option Content)) (v : View)
    (x : Pending) (out err : Option (List ℕ)) → IsSFileName n → IsRead v n x → ((found : Found) → ShowsFound x found
    → Answers {A = Decided} (decide n found) (Err fault))
    → Prepares (Err fault) n (entries_outcome decide n i named (look (unlocked n v) n)) (world (Some v) out err)
    (world (Some v) out err)
undecided decide (Refused refusal) n i named v x out err sfile read answers =
    (decided_step decide n i named v x (Err refusal) sfile read answers, unmade n [] v (Some v) out err (λ k h. refl))
undecided decide Memory n i named v x out err sfile read answers = unmade n _ v (Some v) out err (λ k h. refl)
undecided decide DiskFault n i named v x out err sfile read answers = unmade n _ v (Some v) out err (λ k h. refl)
undecided decide ReadFault n i named v x out err sfile read answers =
    absurd (answers (found_in v n x read).0 (found_in v n x read).1)
undecided decide WriteFault n i named v x out err sfile read answers =
    absurd (answers (found_in v n x read).0 (found_in v n x read).1)

pub undecided_prepares : (decide : Deciding) (could : Outcome → Bool) (fault : StepFault) (n : List ℕ) (x : Pending)
    (left : Option (List ℕ)) (o o2 : Option View) (out err : Option (List ℕ)) → IsSFileName n → o2 ≡ o
    → IfSome o (λ (v : View). IsRead v n x) → ((found : Found) → ShowsFound x found
    → Answers {A = Decided} (decide n found) (Err fault))
    → PreparesChange (changing decide could) (Err fault) n left (world o out err) (world o2 out err)
undecided_prepares decide could fault n x left None o2 out err sfile same read answers = tt
undecided_prepares decide could fault n x left (Some v) o2 out err sfile same read answers = λ i heard.
    subst (λ (w : Option View). Prepares (Err fault) n (entries_outcome decide n i [] (look (unlocked n v) n))
    (world (Some v) out err) (world w out err)) (sym same) (undecided decide fault n i [] v x out err sfile read
    answers)

-- ---- what was decided is prepared

decided : (decide : Deciding) (n i : List ℕ) (named : List (Option Content)) (v : View) (x : Pending) (d : Decided)
    (r : Result Prepared StepFault) (a b : Told) (out err : Option (List ℕ)) → IsSFileName n → seen a ≡ Some v
    → IsRead v n x → ((found : Found) → ShowsFound x found → decide n found ≡ Ok d) → PreparesDecided r n d a b
    → Prepares r n (entries_outcome decide n i named (look (unlocked n v) n)) (world (Some v) out err)
    (world (seen b) out err)
decided decide n i named v x d (Ok p) a b out err sfile is read means drops =
    entries_prepared n d.edits (kept_g d.keep (unlocked n v (drop 2 n))) d.report p _ v (seen b) out err sfile
    (decided_step decide n i named v x (Ok d) sfile read means) drops.of
    (subst (λ (o : Option View). Moves (bytes_eq (q_file n)) (λ u. u) o (seen b)) is drops.moves)
    drops.entries.chosen_is
    (λ y. subst (λ (o : Option View). IfSome o (λ (u : View). (z : Option Content) → chosen p.new_g z (u (drop 2 n))
    ≡ kept_g d.keep (u (drop 2 n)))) is drops.g.chosen_is y
    ∙ ap (kept_g d.keep) (sym (put_other v (z_file n) (drop 2 n) None (from_g 122 n sfile))))
    (subst (λ (o : Option View). IfSome o (λ (w : View). IfSome (seen b) (λ (u : View). IsTakenOrGone p.new_p
    (w (q_file n)) (u (q_file n))))) is drops.entries.taken)
decided decide n i named v x d (Err (Refused refusal)) a b out err sfile is read means drops = absurd drops
decided decide n i named v x d (Err Memory) a b out err sfile is read means drops = unmade n _ v (seen b) out err
    (subst (λ (o : Option View). Moves (bytes_eq (q_file n)) (λ u. u) o (seen b)) is drops)
decided decide n i named v x d (Err ReadFault) a b out err sfile is read means drops = unmade n _ v (seen b) out err
    (subst (λ (o : Option View). Moves (bytes_eq (q_file n)) (λ u. u) o (seen b)) is drops)
decided decide n i named v x d (Err WriteFault) a b out err sfile is read means drops = unmade n _ v (seen b) out err
    (subst (λ (o : Option View). Moves (bytes_eq (q_file n)) (λ u. u) o (seen b)) is drops)
decided decide n i named v x d (Err DiskFault) a b out err sfile is read means drops = unmade n _ v (seen b) out err
    (subst (λ (o : Option View). Moves (bytes_eq (q_file n)) (λ u. u) o (seen b)) is drops)

pub decided_prepares : (decide : Deciding) (could : Outcome → Bool) (n : List ℕ) (x : Pending) (d : Decided)
    (r : Result Prepared StepFault) (left : Option (List ℕ)) (o : Told) (a b : Told) (out err : Option (List ℕ))
    → IsSFileName n → a ≡ o → IfSome (seen o) (λ (v : View). IsRead v n x) → ((found : Found) → ShowsFound x found
    → decide n found ≡ Ok d) → PreparesDecided r n d a b
    → PreparesChange (changing decide could) r n left (world (seen o) out err) (world (seen b) out err)
decided_prepares decide could n x d r left o a b out err sfile same read means drops = by (seen o) refl read
  where
    by : (w : Option View) → seen o ≡ w → IfSome w (λ (v : View). IsRead v n x)
        → PreparesChange (changing decide could) r n left (world w out err) (world (seen b) out err)
    by None is read = tt
    by (Some v) is read = λ i heard. decided decide n i [] v x d r a b out err sfile (ap seen same
        ∙ is) read means drops

-- ---- what a commit needs, and what may come

pub decided_ready : (n : List ℕ) (x : Pending) (d : Decided) (r : Result Prepared StepFault) (o a b : Told)
    → IsSFileName n → a ≡ o → IsThere (z_file n) o → IfSome (seen o) (λ (v : View). IsRead v n x)
    → (d.edits ≡ [] → x.edits ≡ [] → ⊥) → PreparesDecided r n d a b → IfOk r (λ p. IsReady n p b)
decided_ready n x d (Ok p) o a b sfile same z read some drops =
    entries_ready n d.edits p d.report a b sfile drops.of (subst (λ t. IsThere (z_file n) t) (sym same) z) drops.moves
    drops.entries
    (λ none. found_there n x a (subst (λ t. IfSome (seen t) (λ (v : View). IsRead v n x)) (sym same) read) (some none))
    drops.g.needs
decided_ready n x d (Err fault) o a b sfile same z read some drops = tt

pub decided_speaks : (checks : List ℕ) (n : List ℕ) (d : Decided) (r : Result Prepared StepFault) (a b : Told)
    → PreparesDecided r n d a b → RefusesWithin checks r → CouldPrepare (quiet_checks checks) r
decided_speaks checks n d (Ok p) a b drops within = (
  record { new = None; text = []; out = []; err = []; status = 0 },
  refl,
  refl,
  sym drops.of.message,
)
decided_speaks checks n d (Err (Refused refusal)) a b drops within = within refusal refl
decided_speaks checks n d (Err Memory) a b drops within = tt
decided_speaks checks n d (Err ReadFault) a b drops within = tt
decided_speaks checks n d (Err WriteFault) a b drops within = tt
decided_speaks checks n d (Err DiskFault) a b drops within = tt
