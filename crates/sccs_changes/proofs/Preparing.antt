-- What a step answers that is refused or fails while it reads its files.
use Rattle.std.proofs.Common.{◌≡◌, ℕ, Bool, List, Option, None, Some, Result, Ok, Err, refl, sym, ap, subst, ◌∙◌, true}
use Rattle.std.proofs.Common.{false, IfSome, []}
use Rattle.sccs_base.specs.Name.{IsSFileName, p_file, z_file}
use Rattle.sccs_disk.specs.Files.{Content, View}
use Rattle.sccs_disk.proofs.Puts.{put_other}
use Rattle.sccs_sid.specs.declared.refusals.Refusal.{Refusal}
use Rattle.sccs_sid.specs.declared.refusals.StepFault.{StepFault}
use Rattle.sccs_sid.specs.declared.refusals.StepFault.TheVariants.{Refused, Memory, ReadFault, WriteFault, DiskFault}
use Rattle.sccs_name_files.specs.StepFiles.{Files, look, Alike, Moves}
use Rattle.sccs_steps.specs.Calls.{world}
use Rattle.sccs_steps.specs.StepEffects.{Outcome, StepEffect}
use Rattle.sccs_crash_points.proofs.FileNames.{from_s}
use Rattle.sccs_changes.specs.Changes.{Prepares, unlocked, plan_of, IsUnmade}
use Rattle.sccs_changes.specs.PFiles.{Answers, PassesCheck, bytes_or_none}
use Rattle.sccs_changes.specs.Pending.{AnswersPending, Found, bytes_at, pending_of}
use Rattle.sccs_changes.specs.declared.pending.Pending.{Pending}
use Rattle.sccs_changes.proofs.PendingLaws.{shown_header}
use Rattle.std.specs.Prelude.{IfSome, IsSome}
use Rattle.sccs_disk.specs.Told.{Told, seen}
use Rattle.sccs_grammar.specs.File.{IsSFile}
use Rattle.sccs_history.specs.declared.headers.Header.{Header}
use Rattle.sccs_crash_points.specs.Recovery.{IsSound}
use Rattle.sccs_store.specs.Commits.{files_after}
use Rattle.sccs_store.specs.Stops.{KeepsEntries}
use Rattle.sccs_steps.specs.StepStops.{ArePaired, IsPaired}
use Rattle.sccs_changes.specs.Stops.{SettlesEntries}
use Rattle.sccs_changes.specs.declared.prepared.Prepared.{Prepared}
use Rattle.sccs_changes.proofs.StopLaws.{pending_file}
use Rattle.std.specs.Str.{bytes_eq}
use Rattle.sccs_name_files.specs.Touches.{Leaves, Touches, TouchesOnly, Touching, earlier, newest as newest_model}
use Rattle.sccs_name_files.proofs.Touched.{each_newest, firm_touched}
use Rattle.sccs_disk.specs.Images.{IsFirm}
use Rattle.sccs_crash_points.proofs.Joined.{newest_is}
use Rattle.sccs_sid.specs.Refusal.{number_of}
use Rattle.sccs_steps.specs.Actions.{RefusesWithin, has_number}
use Rattle.sccs_base.proofs.Gifts.{some_none}

abbrev pub files_at : List ℕ → View → Files
files_at n v = look (unlocked n v) n

pub pending_seen : (n : List ℕ) (v : View) → IsSFileName n → pending_of (files_at n v).s (files_at n v).p ≡ pending_of
    (v n) (v (p_file n))
pending_seen n v sfile =
    ap (λ (o : Option Content). pending_of o (unlocked n v (p_file n))) (put_other v (z_file n) n None
    (from_s 122 n sfile refl))
    ∙ ap (λ (o : Option Content). pending_of (v n) o) (put_other v (z_file n) (p_file n) None refl)

pub pending_answers : (s p : Option Content) (fault : StepFault) → AnswersPending s p (Err fault)
    → Answers {A = Found} (pending_of s p) (Err fault)
pending_answers s p (Refused refusal) answers = answers
pending_answers s p Memory answers = tt
pending_answers s p ReadFault answers = answers
pending_answers s p WriteFault answers = answers
pending_answers s p DiskFault answers = tt

abbrev pub IsRead : List ℕ → View → Pending → Type 0
IsRead n v x = AnswersPending (v n) (v (p_file n)) (Ok x)

-- what was found, with the header of the front
abbrev pub found_of : (n : List ℕ) (v : View) (x : Pending) → IsRead n v x → Found
found_of n v x read = record { parsed = read.0; edits = x.edits }

pub header_of : (n : List ℕ) (v : View) (x : Pending) (read : IsRead n v x) → x.front.header ≡ read.0.header
header_of n v x read = shown_header (bytes_at (v n)) read.0 x.front read.1

unmade : (n text : List ℕ) (v : View) (out err : Option (List ℕ)) → IsUnmade n text (world (Some v) out err)
    (world (Some v) out err)
unmade n text v out err = record { view = λ k h. refl; out = some_none out text }

pub ended : (n : List ℕ) (o : Outcome) (fault : StepFault) (v : View) (out err : Option (List ℕ))
    → Answers {A = StepEffect} o (Err fault) → Prepares (Err fault) n o (world (Some v) out err)
    (world (Some v) out err)
ended n o (Refused refusal) v out err answers = (answers, unmade n [] v out err)
ended n o Memory v out err answers = unmade n _ v out err
ended n o ReadFault v out err answers = absurd answers
ended n o WriteFault v out err answers = absurd answers
ended n o DiskFault v out err answers = unmade n _ v out err

pub ended_as : (n : List ℕ) (o rest : Outcome) (fault : StepFault) (v : View) (w : Option View)
    (out err : Option (List ℕ)) → w ≡ Some v → o ≡ rest → Answers {A = StepEffect} rest (Err fault)
    → Prepares (Err fault) n o (world (Some v) out err) (world w out err)
ended_as n o rest fault v w out err same is answers =
    subst (λ (x : Option View). Prepares (Err fault) n o (world (Some v) out err) (world x out err)) (sym same)
    (ended n o fault v out err (subst (λ (r : Outcome). Answers {A = StepEffect} r (Err fault)) (sym is) answers))

-- a check that fails, as an answer
pub passes_answers : (found : Result Bool Refusal) (fault : StepFault) → PassesCheck found (Err fault)
    → Answers {A = Bool} found (Err fault)
passes_answers found (Refused refusal) passes = passes
passes_answers found Memory passes = tt
passes_answers found ReadFault passes = passes
passes_answers found WriteFault passes = passes
passes_answers found DiskFault passes = tt

pub was_read : (s p : Option Content) (x : Pending) (read : AnswersPending s p (Ok x))
    → IsSFile (bytes_or_none s) x.front.header read.0.items
was_read None p x read = absurd read.1
was_read (Some s) p x read = pending_file s p (record { parsed = read.0; edits = x.edits }) read.2
    ∙ ap (λ (h : Header). Ok (record { header = h; items = read.0.items })) (sym read.1.0)

-- What is so in each view after a call, where that call left all files but working files as they were, is so of what is
-- told.
pub settles_told : (n : List ℕ) (p : Prepared) (working : List ℕ → Bool) (a b : Told) → Moves working (λ v. v) (seen a)
    (seen b)
    → ((v u : View) → seen a ≡ Some v → seen b ≡ Some u → Alike working u v → KeepsEntries n (plan_of p) u
    × ArePaired (files_after n (plan_of p) u).s (files_after n (plan_of p) u).p) → SettlesEntries n p b
settles_told n p working a b moves keeps = by (seen a) (seen b) refl refl moves
  where
    by : (before after : Option View) → seen a ≡ before → seen b ≡ after → Moves working (λ v. v) before after
        → IfSome after (λ (u : View). IsPaired n u → IsSound n u → KeepsEntries n (plan_of p) u
        × ArePaired (files_after n (plan_of p) u).s (files_after n (plan_of p) u).p)
    by None after is_before is_after moved = subst (λ (o : Option View). IfSome o (λ (u : View). IsPaired n u
        → IsSound n u → KeepsEntries n (plan_of p) u × ArePaired (files_after n (plan_of p) u).s
        (files_after n (plan_of p) u).p)) (sym moved) tt
    by (Some v) None is_before is_after moved = absurd moved
    by (Some v) (Some u) is_before is_after moved = λ paired sound. keeps v u is_before is_after moved

-- a firm file stays firm through calls that don't touch it
pub firm_kept : (k : List ℕ) (mine before : List ℕ → Bool) (a b c : Told) → TouchesOnly before a b
    → TouchesOnly mine b c → mine k ≡ false → Leaves (IsFirm k) a b → Leaves (IsFirm k) a c
firm_kept k mine before a b c first next other firm = λ m past is m3 past3 is3.
    let begun : Touching before m past b = first m past is in
    let on : Touching mine (newest_model begun.added m) (earlier begun.added m past) c =
    next (newest_model begun.added m) (earlier begun.added m past) begun.is in
    subst (IsFirm k) (newest_is (newest_model begun.added m) m3 (earlier begun.added m past) past3 on.added c on.is is3)
    (firm_touched mine (newest_model begun.added m) (newest_model on.added (newest_model begun.added m)) k
    (each_newest (Touches mine (newest_model begun.added m)) on.added (newest_model begun.added m) on.each) other
    (firm m past is (newest_model begun.added m) (earlier begun.added m past) begun.is))

pub there_moved : (m k : List ℕ) (o o2 : Option View) → bytes_eq m k ≡ false → Moves (bytes_eq m) (λ v. v) o o2
    → IfSome o (λ (v : View). IsSome (v k)) → IfSome o2 (λ (v : View). IsSome (v k))
there_moved m k None o2 other moves there = subst (λ (o : Option View). IfSome o (λ (v : View). IsSome (v k)))
    (sym moves) tt
there_moved m k (Some v) None other moves there = absurd moves
there_moved m k (Some v) (Some u) other moves there = subst IsSome (sym (moves k other)) there

pub refused_within : (checks : List ℕ) (refusal : Refusal) → has_number checks (number_of refusal) ≡ true
    → RefusesWithin {X = ℕ} checks (Err (Refused refusal))
refused_within checks refusal held other is = let same : refusal ≡ other = cc in
    subst (λ r. has_number checks (number_of r) ≡ true) same held
