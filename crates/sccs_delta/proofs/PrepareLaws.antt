-- A delta that is prepared, check by check.
use Rattle.std.proofs.Common.{◌≡◌, ℕ, ◌-◌, Bool, true, false, ◌&&◌, List, [], length, drop, Option, None, Some, Result}
use Rattle.std.proofs.Common.{Ok, Err, refl, sym, ap, subst, ◌∙◌}
use Rattle.std.specs.Prelude.{IfSome, is_some, nat_le, slice_get}
use Rattle.std.specs.List.{list_any}
use Rattle.std.proofs.lemmas.Bool.{and_parts}
use Rattle.sccs_base.specs.Constants.{file_limit}
use Rattle.sccs_base.specs.Name.{IsSFileName, p_file, q_file, x_file, y_file, z_file}
use Rattle.sccs_base.proofs.Gifts.{gives_none, some_none}
use Rattle.sccs_disk.specs.Files.{Content, View}
use Rattle.sccs_disk.specs.Told.{Told, seen}
use Rattle.sccs_disk.proofs.Puts.{put_other}
use Rattle.sccs_sid.specs.Reading.{◌>>=◌}
use Rattle.sccs_sid.specs.declared.moments.Stamp.{Stamp}
use Rattle.sccs_sid.specs.declared.sids.Sid.{Sid}
use Rattle.sccs_sid.specs.declared.refusals.Refusal.{Refusal}
use Rattle.sccs_sid.specs.declared.refusals.Refusal.TheVariants as refusals
use Rattle.sccs_sid.specs.declared.refusals.StepFault.{StepFault}
use Rattle.sccs_sid.specs.declared.refusals.StepFault.TheVariants.{Refused, Memory, ReadFault, WriteFault, DiskFault}
use Rattle.sccs_name_files.specs.StepFiles.{Files, Moves, is_working, l_file, look}
use Rattle.sccs_history.specs.Numbers.{has}
use Rattle.sccs_history.specs.declared.headers.Header.{Header}
use Rattle.sccs_history.specs.declared.headers.Item.{Item}
use Rattle.sccs_body.proofs.FileLaws.{file_items}
use Rattle.sccs_table.specs.FrontFile.{IsPlaced}
use Rattle.sccs_table.specs.ReaderState.{bytes_in}
use Rattle.sccs_versions.specs.Coming.{IsBody}
use Rattle.sccs_script_laws.specs.Scripts.{apply}
use Rattle.sccs_script_laws.specs.declared.scripts.Order.{Order}
use Rattle.sccs_script.specs.Commands.{orders_of}
use Rattle.sccs_pfile.specs.declared.entries.Edit.{Edit}
use Rattle.sccs_steps.specs.Calls.{world}
use Rattle.sccs_steps.specs.StepEffects.{Outcome, check}
use Rattle.sccs_store.specs.Commits.{chosen, files_after, replaced}
use Rattle.sccs_crash_points.proofs.FileNames.{from_g, from_s}
use Rattle.sccs_changes.specs.Changes.{AreTakenOrGone, IsUnmade, Prepares, plan_of, unlocked}
use Rattle.sccs_changes.specs.declared.prepared.Prepared.{Prepared}
use Rattle.sccs_changes.specs.NewEntries.{kept_g}
use Rattle.sccs_changes.specs.PFiles.{Answers, PassesCheck, is_short}
use Rattle.sccs_changes.specs.Pending.{AnswersPending, Found, bytes_at, pending_of}
use Rattle.sccs_changes.specs.declared.pending.Pending.{Pending}
use Rattle.sccs_changes.proofs.StopLaws.{pending_answer}
use Rattle.sccs_words.specs.declared.commands.DeltaWords.{DeltaWords}
use Rattle.sccs_delta.specs.DeltaStep.{ChosenEntry, base_lines, delta_outcome, chosen_entry, fitted, makes_delta}
use Rattle.sccs_delta.specs.DeltaStep.{mrs_checked, nulls_of, or_script_fault, sizes_checked}
use Rattle.sccs_copies.specs.Examining.{has_keyword}
use Rattle.sccs_delta.specs.Preparing.{FindsAsked, FindsEntry}
use Rattle.sccs_delta.specs.Writing.{MakesDelta, script_checked}
use Rattle.sccs_delta.specs.declared.entries.Chosen.{Chosen}
use Rattle.sccs_changes.proofs.Chains.{answers_as, assoc, both_end, ends, goes}
use Rattle.sccs_changes.proofs.Preparing.{files_at, pending_seen, pending_answers, IsRead, found_of, header_of}
use Rattle.sccs_changes.proofs.Preparing.{ended_as, passes_answers}

-- ---- what follows each check

abbrev with_nulls : DeltaWords → Stamp → List ℕ → Files → Found → ChosenEntry → List Order → List Sid → Outcome
with_nulls words stamp n f found e orders nulls = Ok (makes_delta words stamp n f found e orders nulls)

abbrev with_orders : DeltaWords → Stamp → List ℕ → Files → Found → ChosenEntry → List Order → Outcome
with_orders words stamp n f found e orders =
    fitted found.parsed.header.flags orders (base_lines found.parsed.items e.base) f.g >>= λ fits.
    mrs_checked found.parsed.header.flags words.mrs >>= λ mrs.
    nulls_of found.parsed.header found.edits e.edit >>= with_nulls words stamp n f found e orders

abbrev with_entry : DeltaWords → Stamp → List ℕ → List ℕ → Files → Found → ChosenEntry → Outcome
with_entry words stamp n i f found e = or_script_fault (orders_of i) >>= with_orders words stamp n f found e

abbrev with_found : DeltaWords → Stamp → List ℕ → List ℕ → Files → Found → Outcome
with_found words stamp n i f found = chosen_entry words stamp found.parsed.header found.edits
    >>= with_entry words stamp n i f found

abbrev by_files : DeltaWords → Stamp → List ℕ → List ℕ → Files → Result Bool Refusal → Result Found Refusal → Outcome
by_files words stamp n i f sizes found = sizes >>= λ x. found >>= with_found words stamp n i f

outcome_is : (words : DeltaWords) (stamp : Stamp) (n i : List ℕ) (named : List (Option Content)) (f : Files)
    → delta_outcome words stamp n i named f ≡ by_files words stamp n i f (sizes_checked i f) (pending_of f.s f.p)
unfolding delta_outcome
outcome_is words stamp n i named f = refl

-- ---- the files as they were before the lock

abbrev sizes_by : List ℕ → Option Content → Option Content → Option Content → Result Bool Refusal
sizes_by i s p g = sizes_checked i (record { s = s; p = p; z = None; g = g; l = None })

sizes_alone : (i : List ℕ) (f : Files) → sizes_checked i f ≡ sizes_by i f.s f.p f.g
unfolding sizes_checked
sizes_alone i f = refl

sizes_seen : (n i : List ℕ) (v : View) → IsSFileName n → sizes_checked i (files_at n v) ≡ sizes_checked i (look v n)
sizes_seen n i v sfile =
    sizes_alone i (files_at n v)
    ∙ (ap (λ (o : Option Content). sizes_by i o (unlocked n v (p_file n)) (unlocked n v (drop 2 n)))
    (put_other v (z_file n) n None (from_s 122 n sfile refl))
    ∙ (ap (λ (o : Option Content). sizes_by i (v n) o (unlocked n v (drop 2 n)))
    (put_other v (z_file n) (p_file n) None refl)
    ∙ (ap (λ (o : Option Content). sizes_by i (v n) (v (p_file n)) o) (put_other v (z_file n) (drop 2 n) None
    (from_g 122 n sfile))
    ∙ sym (sizes_alone i (look v n)))))

outcome_seen : (words : DeltaWords) (stamp : Stamp) (n i : List ℕ) (v : View) → IsSFileName n
    → delta_outcome words stamp n i [] (files_at n v) ≡ by_files words stamp n i (files_at n v)
    (sizes_checked i (look v n)) (pending_of (v n) (v (p_file n)))
outcome_seen words stamp n i v sfile =
    outcome_is words stamp n i [] (files_at n v)
    ∙ (ap (λ (r : Result Bool Refusal). by_files words stamp n i (files_at n v) r (pending_of (files_at n v).s
    (files_at n v).p)) (sizes_seen n i v sfile)
    ∙ ap (λ (r : Result Found Refusal). by_files words stamp n i (files_at n v) (sizes_checked i (look v n)) r)
    (pending_seen n v sfile))

read_as : (words : DeltaWords) (stamp : Stamp) (n i : List ℕ) (v : View) (found : Found) → IsSFileName n
    → sizes_checked i (look v n) ≡ Ok true → pending_of (v n) (v (p_file n)) ≡ Ok found
    → delta_outcome words stamp n i [] (files_at n v) ≡ with_found words stamp n i (files_at n v) found
read_as words stamp n i v found sfile sizes is =
    outcome_seen words stamp n i v sfile
    ∙ (ap (λ (r : Result Bool Refusal). by_files words stamp n i (files_at n v) r (pending_of (v n) (v (p_file n))))
    sizes
    ∙ ap (λ (r : Result Found Refusal). by_files words stamp n i (files_at n v) (Ok true) r) is)

-- ---- an end before the files are written

finds_answers : (words : DeltaWords) (stamp : Stamp) (header : Header) (edits : List Edit) (fault : StepFault)
    → FindsEntry words stamp header edits (Err fault) → Answers {A = ChosenEntry}
    (chosen_entry words stamp header edits) (Err fault)
finds_answers words stamp header edits (Refused refusal) finds = finds
finds_answers words stamp header edits Memory finds = tt
finds_answers words stamp header edits ReadFault finds = finds
finds_answers words stamp header edits WriteFault finds = finds
finds_answers words stamp header edits DiskFault finds = tt

-- what a call that reads finds of a told disk
abbrev pub Whole : List ℕ → List ℕ → View → Type 0
Whole n i v = sizes_checked i (look v n) ≡ Ok true

abbrev PreparesAt : Result Prepared StepFault → DeltaWords → Stamp → List ℕ → List ℕ → View → Option View
    → Option (List ℕ) → Option (List ℕ) → Type 0
PreparesAt r words stamp n i v w out err = Prepares r n (delta_outcome words stamp n i [] (look (unlocked n v) n))
    (world (Some v) out err) (world w out err)

pub sizes_end : (words : DeltaWords) (stamp : Stamp) (n i : List ℕ) (fault : StepFault) (o o2 : Option View)
    (out err : Option (List ℕ)) → IsSFileName n → o2 ≡ o
    → IfSome o (λ (v : View). PassesCheck (sizes_checked i (look v n)) (Err fault))
    → IfSome o (λ (v : View). PreparesAt (Err fault) words stamp n i v o2 out err)
sizes_end words stamp n i fault None o2 out err sfile same passes = tt
sizes_end words stamp n i fault (Some v) o2 out err sfile same passes =
    ended_as n _ _ fault v o2 out err same (outcome_seen words stamp n i v sfile) (ends (sizes_checked i (look v n))
    (λ x. pending_of (v n) (v (p_file n)) >>= with_found words stamp n i (files_at n v)) fault
    (passes_answers _ fault passes))

pub pending_end : (words : DeltaWords) (stamp : Stamp) (n i : List ℕ) (fault : StepFault) (o o2 : Option View)
    (out err : Option (List ℕ)) → IsSFileName n → o2 ≡ o
    → IfSome o (λ (v : View). PassesCheck (sizes_checked i (look v n)) (Ok tt))
    → IfSome o (λ (v : View). AnswersPending (v n) (v (p_file n)) (Err fault))
    → IfSome o (λ (v : View). PreparesAt (Err fault) words stamp n i v o2 out err)
pending_end words stamp n i fault None o2 out err sfile same sizes answers = tt
pending_end words stamp n i fault (Some v) o2 out err sfile same sizes answers =
    ended_as n _ _ fault v o2 out err same
    (outcome_seen words stamp n i v sfile ∙ ap (λ (r : Result Bool Refusal). by_files words stamp n i (files_at n v) r
    (pending_of (v n) (v (p_file n)))) sizes)
    (ends (pending_of (v n) (v (p_file n))) (with_found words stamp n i (files_at n v)) fault
    (pending_answers (v n) (v (p_file n)) fault answers))

entry_as : (words : DeltaWords) (stamp : Stamp) (n i : List ℕ) (v : View) (x : Pending) (r : Result ChosenEntry Refusal)
    (read : IsRead n v x) → IsSFileName n → Whole n i v → chosen_entry words stamp x.front.header x.edits ≡ r
    → delta_outcome words stamp n i [] (files_at n v) ≡ (r >>= with_entry words stamp n i (files_at n v)
    (found_of n v x read))
entry_as words stamp n i v x r read sfile sizes is =
    read_as words stamp n i v (found_of n v x read) sfile sizes read.2
    ∙ ap (λ (s : Result ChosenEntry Refusal). s >>= with_entry words stamp n i (files_at n v) (found_of n v x read))
    (ap (λ header. chosen_entry words stamp header x.edits) (sym (header_of n v x read)) ∙ is)

abbrev pub entry_at : Chosen → Edit → ChosenEntry
entry_at c edit = record { number = c.number; edit = edit; base = c.base }

asked_answers : (words : DeltaWords) (stamp : Stamp) (header : Header) (edits : List Edit) (i : List ℕ)
    (fault : StepFault) → FindsAsked words stamp header edits i (Err fault) → Answers {A = List Order}
    (chosen_entry words stamp header edits >>= λ e. or_script_fault (orders_of i)) (Err fault)
asked_answers words stamp header edits i (Refused refusal) finds = finds
asked_answers words stamp header edits i Memory finds = tt
asked_answers words stamp header edits i ReadFault finds = finds
asked_answers words stamp header edits i WriteFault finds = finds
asked_answers words stamp header edits i DiskFault finds = tt

answers_asked : (words : DeltaWords) (stamp : Stamp) (header : Header) (edits : List Edit) (i : List ℕ)
    (fault : StepFault) → Answers {A = List Order} (chosen_entry words stamp header edits >>= λ e. or_script_fault
    (orders_of i)) (Err fault) → FindsAsked words stamp header edits i (Err fault)
answers_asked words stamp header edits i (Refused refusal) answers = answers
answers_asked words stamp header edits i Memory answers = tt
answers_asked words stamp header edits i ReadFault answers = answers
answers_asked words stamp header edits i WriteFault answers = answers
answers_asked words stamp header edits i DiskFault answers = tt

-- no entry is found, or the script is none
pub no_entry : (words : DeltaWords) (stamp : Stamp) (header : Header) (edits : List Edit) (i : List ℕ)
    (fault : StepFault) → FindsEntry words stamp header edits (Err fault) → FindsAsked words stamp header edits i
    (Err fault)
no_entry words stamp header edits i fault finds = answers_asked words stamp header edits i fault
    (ends (chosen_entry words stamp header edits) (λ e. or_script_fault (orders_of i)) fault
    (finds_answers words stamp header edits fault finds))

pub no_orders : (words : DeltaWords) (stamp : Stamp) (header : Header) (edits : List Edit) (i : List ℕ) (c : Chosen)
    (fault : StepFault) → FindsEntry words stamp header edits (Ok c) → Answers {A = List Order}
    (or_script_fault (orders_of i)) (Err fault) → FindsAsked words stamp header edits i (Err fault)
no_orders words stamp header edits i c fault finds answers =
    answers_asked words stamp header edits i fault (answers_as _ _ fault (goes (chosen_entry words stamp header edits)
    (λ e. or_script_fault (orders_of i)) (entry_at c finds.0) finds.2) answers)

pub asked_end : (words : DeltaWords) (stamp : Stamp) (n i : List ℕ) (x : Pending) (fault : StepFault)
    (o o2 : Option View) (out err : Option (List ℕ)) → IsSFileName n → o2 ≡ o
    → IfSome o (λ (v : View). PassesCheck (sizes_checked i (look v n)) (Ok tt)) → IfSome o (λ (v : View). IsRead n v x)
    → FindsAsked words stamp x.front.header x.edits i (Err fault)
    → IfSome o (λ (v : View). PreparesAt (Err fault) words stamp n i v o2 out err)
asked_end words stamp n i x fault None o2 out err sfile same sizes read finds = tt
asked_end words stamp n i x fault (Some v) o2 out err sfile same sizes read finds =
    ended_as n _ _ fault v o2 out err same (entry_as words stamp n i v x _ read sfile sizes refl)
    (both_end (chosen_entry words stamp x.front.header x.edits) (or_script_fault (orders_of i))
    (with_orders words stamp n (files_at n v) (found_of n v x read)) fault
    (asked_answers words stamp x.front.header x.edits i fault finds))

-- ---- the files are written, or a check of the script fails

abbrev checks_by : Result Bool Refusal → Result Bool Refusal → Result (List Sid) Refusal → Result (List Sid) Refusal
checks_by fits mrs nulls = fits >>= λ x. mrs >>= λ y. nulls

checks_are : (words : DeltaWords) (header : Header) (items : List Item) (edits : List Edit) (e : ChosenEntry)
    (orders : List Order) (g : Option Content) → script_checked words header items edits e orders g ≡ checks_by
    (fitted header.flags orders (base_lines items e.base) g) (mrs_checked header.flags words.mrs)
    (nulls_of header edits e.edit)
unfolding script_checked
checks_are words header items edits e orders g = refl

orders_as : (words : DeltaWords) (stamp : Stamp) (n : List ℕ) (f : Files) (found : Found) (e : ChosenEntry)
    (orders : List Order) → with_orders words stamp n f found e orders
    ≡ (script_checked words found.parsed.header found.parsed.items found.edits e orders f.g
    >>= with_nulls words stamp n f found e orders)
orders_as words stamp n f found e orders =
    let fits = fitted found.parsed.header.flags orders (base_lines found.parsed.items e.base) f.g in
    let mrs = mrs_checked found.parsed.header.flags words.mrs in
    let nulls = nulls_of found.parsed.header found.edits e.edit in
    ap (λ (rest : Outcome). fits >>= λ x. rest) (assoc mrs (λ y. nulls) (with_nulls words stamp n f found e orders))
    ∙ (assoc fits (λ x. mrs >>= λ y. nulls) (with_nulls words stamp n f found e orders)
    ∙ ap (λ (r : Result (List Sid) Refusal). r >>= with_nulls words stamp n f found e orders)
    (sym (checks_are words found.parsed.header found.parsed.items found.edits e orders f.g)))

abbrev files_of : Option Content → Option Content → Option Content → Option Content → Option Files
files_of s p g l = Some (record { s = s; p = p; z = None; g = g; l = l })

files_written : (n : List ℕ) (s p_state g l : Option Content) (p : Prepared) (u : View) → p.new_s ≡ true
    → u (x_file n) ≡ s → ((kept : Option Content) → chosen p.new_p (u (q_file n)) kept ≡ p_state)
    → chosen p.new_g (u (y_file n)) (u (drop 2 n)) ≡ g → u (l_file n) ≡ l
    → files_of s p_state g l ≡ Some (files_after n (plan_of p) u)
files_written n s p_state g l p u new_s x entries g_is l_is =
    ap (λ (o : Option Content). files_of o p_state g l) (sym x ∙ ap (λ b. chosen (replaced b) (u (x_file n)) (u n))
    (sym new_s))
    ∙ (ap (λ (o : Option Content). files_of (chosen (replaced p.new_s) (u (x_file n)) (u n)) o g l)
    (sym (entries (u (p_file n))))
    ∙ (ap (λ (o : Option Content). files_of (chosen (replaced p.new_s) (u (x_file n)) (u n))
    (chosen p.new_p (u (q_file n)) (u (p_file n))) o l) (sym g_is)
    ∙ ap (λ (o : Option Content). files_of (chosen (replaced p.new_s) (u (x_file n)) (u n))
    (chosen p.new_p (u (q_file n)) (u (p_file n))) (chosen p.new_g (u (y_file n)) (u (drop 2 n))) o) (sym l_is)))

g_kept : (n : List ℕ) (keep : Bool) (p : Prepared) (v u : View) → IsSFileName n → ((k : List ℕ) → is_working n k ≡ false
    → u k ≡ v k) → ((y : Option Content) → chosen p.new_g y (v (drop 2 n)) ≡ kept_g keep (v (drop 2 n)))
    → chosen p.new_g (u (y_file n)) (u (drop 2 n)) ≡ kept_g keep (unlocked n v (drop 2 n))
g_kept n keep p v u sfile same g =
    ap (λ (o : Option Content). chosen p.new_g (u (y_file n)) o) (same (drop 2 n) (g_no_working n sfile))
    ∙ (g (u (y_file n)) ∙ ap (kept_g keep) (sym (put_other v (z_file n) (drop 2 n) None (from_g 122 n sfile))))
  where
    g_no_working : (n : List ℕ) → IsSFileName n → is_working n (drop 2 n) ≡ false
    g_no_working n sfile = rw (from_g 120 n sfile) (rw (from_g 113 n sfile) (from_g 121 n sfile))

-- the delta of an entry, as it was found
abbrev pub MakesAt : Result (List Sid) Refusal → DeltaWords → Stamp → List ℕ → Header → List Item → List Edit
    → ChosenEntry → List Order → Told → Told → Result Prepared StepFault → Type 0
MakesAt checks words stamp n header items edits e orders a b r = MakesDelta checks words stamp n header items edits e
    orders (list_any has_keyword (apply orders (base_lines items e.base))) a b r

files_seen : (n : List ℕ) (s p_state : Option Content) (keep : Bool) (p : Prepared) (v : View) (w : Option View)
    → IsSFileName n → p.new_s ≡ true → Moves (is_working n) (λ x. x) (Some v) w
    → IfSome w (λ (u : View). u (x_file n) ≡ s)
    → IfSome w (λ (u : View). (kept : Option Content) → chosen p.new_p (u (q_file n)) kept ≡ p_state)
    → ((y : Option Content) → chosen p.new_g y (v (drop 2 n)) ≡ kept_g keep (v (drop 2 n)))
    → IfSome w (λ (u : View). files_of s p_state (kept_g keep (unlocked n v (drop 2 n))) (unlocked n v (l_file n))
    ≡ Some (files_after n (plan_of p) u))
files_seen n s p_state keep p v None sfile new_s moved x entries g = absurd moved
files_seen n s p_state keep p v (Some u) sfile new_s moved x entries g = files_written n s p_state
    (kept_g keep (unlocked n v (drop 2 n))) (unlocked n v (l_file n)) p u new_s x entries
    (g_kept n keep p v u sfile moved g) (moved (l_file n) refl ∙ sym (put_other v (z_file n) (l_file n) None refl))

unwritten : (n text : List ℕ) (v : View) (w : Option View) (out err : Option (List ℕ)) → Moves (is_working n) (λ x. x)
    (Some v) w → IsUnmade n text (world (Some v) out err) (world w out err)
unwritten n text v w out err moved = record { view = moved; out = some_none out text }

made : (words : DeltaWords) (stamp : Stamp) (n : List ℕ) (v : View) (found : Found) (e : ChosenEntry)
    (orders : List Order) (checks : Result (List Sid) Refusal) (r : Result Prepared StepFault) (a b : Told)
    (o : Outcome) (out err : Option (List ℕ)) → IsSFileName n → seen a ≡ Some v → Moves (is_working n) (λ w. w) (Some v)
    (seen b)
    → o ≡ (checks >>= with_nulls words stamp n (files_at n v) found e orders)
    → MakesAt checks words stamp n found.parsed.header found.parsed.items found.edits e orders a b r
    → Prepares r n o (world (Some v) out err) (world (seen b) out err)
made words stamp n v found e orders checks (Ok p) a b o out err sfile here moves is makes = record {
  effect = makes_delta words stamp n (files_at n v) found e orders makes.0;
  is = is ∙ goes checks (with_nulls words stamp n (files_at n v) found e orders) makes.0 makes.1;
  status = refl;
  report = sym makes.2.report_is;
  message = sym makes.2.message_is;
  view = moves;
  working = subst (λ (w : Option View). IfSome w (λ (x : View). IfSome (seen b) (λ (y : View). AreTakenOrGone n
      (plan_of p) x y))) here makes.2.working;
  files = files_seen n _ _ words.keep p v (seen b) sfile makes.2.new_s moves makes.2.x_state makes.2.entries
      (subst (λ (w : Option View). IfSome w (λ (x : View). (y : Option Content) → chosen p.new_g y (x (drop 2 n))
      ≡ kept_g words.keep (x (drop 2 n)))) here makes.2.g_state);
  out = gives_none out;
}
made words stamp n v found e orders checks (Err (Refused refusal)) a b o out err sfile here moves is makes = (
  is ∙ ap (λ (c : Result (List Sid) Refusal). c >>= with_nulls words stamp n (files_at n v) found e orders) makes,
  unwritten n [] v (seen b) out err moves,
)
made words stamp n v found e orders checks (Err Memory) a b o out err sfile here moves is makes =
    unwritten n _ v (seen b) out err moves
made words stamp n v found e orders checks (Err ReadFault) a b o out err sfile here moves is makes = absurd makes
made words stamp n v found e orders checks (Err WriteFault) a b o out err sfile here moves is makes = absurd makes
made words stamp n v found e orders checks (Err DiskFault) a b o out err sfile here moves is makes =
    unwritten n _ v (seen b) out err moves

-- a told file whose front was read has these items
pub body_there : (s p : Option Content) (x : Pending) (set : List ℕ) (told : Option (List ℕ)) (read : AnswersPending s p
    (Ok x)) → IsPlaced x.front → told ≡ bytes_at s → has set 0 ≡ false → (file : List ℕ) × (told ≡ Some file)
    × IsBody (Some file) x.front set file read.0.items
body_there None p x set told read placed same zero = absurd read.1
body_there (Some s) p x set told read placed same zero = (
  s.bytes,
  same,
  record {
    told_is = refl;
    front_is = record { placed = placed; size = read.1.1.2.size; sum = read.1.1.2.sum };
    items_are = file_items s.bytes read.0 read.1.1.0 x.front
        (pending_answer s p (record { parsed = read.0; edits = x.edits }) read.2) read.1.1.1 read.1.1.2;
    no_zero = zero;
  },
)

sized_by : (a b : Bool) → (check a refusals.Missing >>= λ x. check b refusals.TooLong) ≡ Ok true → b ≡ true
sized_by true true is = refl
sized_by true false is = absurd cc
sized_by false b is = absurd cc

pub g_short : (i : List ℕ) (f : Files) → sizes_checked i f ≡ Ok true → is_short f.g ≡ true
unfolding sizes_checked
g_short i f is =
    let all = sized_by (is_some f.s) (is_short f.s && (is_short f.p && (is_short f.g && nat_le (length i) file_limit)))
    is in
    (and_parts (is_short f.g) (nat_le (length i) file_limit) (and_parts (is_short f.p)
    (is_short f.g && nat_le (length i) file_limit) (and_parts (is_short f.s)
    (is_short f.p && (is_short f.g && nat_le (length i) file_limit)) all).1).1).0

-- what writing the files says of a told body
abbrev pub Writes : DeltaWords → Stamp → List ℕ → Pending → Chosen → List Order → Result Prepared StepFault → Told
    → Told → Type 0
Writes words stamp n x c orders r a b =
    (bytes : List ℕ) (items : List Item) (e : Edit) → bytes_in (seen a) n ≡ Some bytes
    → IsBody (Some bytes) x.front c.base.set bytes items → slice_get x.edits (c.number - 1) ≡ Some e
    → IfSome (seen a) (λ (v : View). is_short (v (drop 2 n)) ≡ true
    → MakesAt (script_checked words x.front.header items x.edits (entry_at c e) orders (v (drop 2 n))) words stamp n
    x.front.header items x.edits (entry_at c e) orders a b r)

written_at : (words : DeltaWords) (stamp : Stamp) (n i : List ℕ) (x : Pending) (c : Chosen) (orders : List Order)
    (r : Result Prepared StepFault) (a b : Told) (v : View) (out err : Option (List ℕ)) → IsSFileName n
    → seen a ≡ Some v → Whole n i v → (read : IsRead n v x) → IsPlaced x.front → has c.base.set 0 ≡ false
    → FindsEntry words stamp x.front.header x.edits (Ok c) → or_script_fault (orders_of i) ≡ Ok orders
    → Moves (is_working n) (λ w. w) (Some v) (seen b) → Writes words stamp n x c orders r a b
    → PreparesAt r words stamp n i v (seen b) out err
written_at words stamp n i x c orders r a b v out err sfile here sizes read placed zero finds is moves writes =
    let e = entry_at c finds.0 in
    let found = found_of n v x read in
    let body = body_there (v n) (v (p_file n)) x c.base.set (bytes_in (seen a) n) read placed
    (ap (λ (o : Option View). bytes_in o n) here) zero in
    let told = subst (λ (o : Option View). IfSome o (λ (w : View). is_short (w (drop 2 n)) ≡ true
    → MakesAt (script_checked words x.front.header read.0.items x.edits e orders (w (drop 2 n))) words stamp n
    x.front.header read.0.items x.edits e orders a b r)) here
    (writes body.0 read.0.items finds.0 body.1 body.2 finds.1) (g_short i (look v n) sizes) in
    made words stamp n v found e orders (script_checked words read.0.header read.0.items x.edits e orders
    (v (drop 2 n))) r a b _ out err sfile here moves
    (entry_as words stamp n i v x _ read sfile sizes finds.2
    ∙ (goes (or_script_fault (orders_of i)) (with_orders words stamp n (files_at n v) found e) orders is
    ∙ (orders_as words stamp n (files_at n v) found e orders
    ∙ ap (λ (g : Option Content). script_checked words read.0.header read.0.items x.edits e orders g
    >>= with_nulls words stamp n (files_at n v) found e orders) (put_other v (z_file n) (drop 2 n) None
    (from_g 122 n sfile)))))
    (subst (λ (h : Header). MakesAt (script_checked words h read.0.items x.edits e orders (v (drop 2 n))) words stamp n
    h read.0.items x.edits e orders a b r) (header_of n v x read) told)

pub delta_written : (words : DeltaWords) (stamp : Stamp) (n i : List ℕ) (x : Pending) (c : Chosen) (orders : List Order)
    (r : Result Prepared StepFault) (o : Option View) (a b : Told) (out err : Option (List ℕ)) → IsSFileName n
    → seen a ≡ o → IfSome o (λ (v : View). PassesCheck (sizes_checked i (look v n)) (Ok tt))
    → IfSome o (λ (v : View). IsRead n v x)
    → IsPlaced x.front → has c.base.set 0 ≡ false → FindsEntry words stamp x.front.header x.edits (Ok c)
    → or_script_fault (orders_of i) ≡ Ok orders → Moves (is_working n) (λ w. w) (seen a) (seen b)
    → Writes words stamp n x c orders r a b
    → IfSome o (λ (v : View). PreparesAt r words stamp n i v (seen b) out err)
delta_written words stamp n i x c orders r None a b out err sfile here sizes read placed zero finds is moves writes = tt
delta_written words stamp n i x c orders r (Some v) a b out err sfile here sizes read placed zero finds is moves
    writes =
    written_at words stamp n i x c orders r a b v out err sfile here sizes read placed zero finds is
    (subst (λ (w : Option View). Moves (is_working n) (λ y. y) w (seen b)) here moves) writes
