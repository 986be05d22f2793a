-- A removal that is prepared, check by check.
use Rattle.std.proofs.Common.{◌≡◌, ℕ, List, [], drop, Option, None, Some, Result, Ok, Err, refl, sym, ap, subst, ◌∙◌}
use Rattle.std.specs.Prelude.{IfOk, IfSome}
use Rattle.std.specs.Str.{bytes_eq}
use Rattle.sccs_base.specs.Name.{IsSFileName, p_file, q_file, x_file, y_file, z_file}
use Rattle.sccs_base.proofs.Gifts.{gives_none, some_none}
use Rattle.sccs_disk.specs.Calls.{IsThere}
use Rattle.sccs_disk.specs.Files.{Content, View, put}
use Rattle.sccs_disk.specs.Told.{Told, seen}
use Rattle.sccs_disk.proofs.Puts.{put_other, put_same}
use Rattle.sccs_sid.specs.Reading.{◌>>=◌}
use Rattle.sccs_sid.specs.declared.moments.Stamp.{Stamp}
use Rattle.sccs_sid.specs.declared.sids.Sid.{Sid}
use Rattle.sccs_sid.specs.declared.refusals.Refusal.{Refusal}
use Rattle.sccs_sid.specs.declared.refusals.StepFault.{StepFault}
use Rattle.sccs_sid.specs.declared.refusals.StepFault.TheVariants.{Refused, Memory, ReadFault, WriteFault, DiskFault}
use Rattle.sccs_name_files.specs.StepFiles.{Files, Moves, is_working, l_file}
use Rattle.sccs_history.specs.Removal.{dropped}
use Rattle.sccs_history.specs.declared.headers.Header.{Header}
use Rattle.sccs_history.specs.declared.headers.Item.{Item}
use Rattle.sccs_history.specs.declared.headers.Record.{Record}
use Rattle.sccs_table.specs.FrontFile.{IsPlaced}
use Rattle.sccs_table.specs.ReaderState.{bytes_in}
use Rattle.sccs_body.specs.BodyFile.{items_of}
use Rattle.sccs_body.specs.ToCome.{IsFrontFor}
use Rattle.sccs_pfile.specs.declared.entries.Edit.{Edit}
use Rattle.sccs_steps.specs.Actions.{RefusesWithin, quiet_checks}
use Rattle.sccs_steps.specs.Calls.{world}
use Rattle.sccs_steps.specs.StepEffects.{Outcome}
use Rattle.sccs_store.specs.Commits.{Needs, chosen, files_after, replaced}
use Rattle.sccs_store.specs.SealedFiles.{sealed}
use Rattle.sccs_store.specs.declared.new_files.NewFile.{NewFile}
use Rattle.sccs_store.proofs.Working.{moves_wider}
use Rattle.sccs_crash_points.proofs.FileNames.{from_g, no_x}
use Rattle.sccs_changes.specs.Changes.{CouldPrepare, IsQuiet, IsReady, IsUnmade, Prepares, PreparesChange, plan_of}
use Rattle.sccs_changes.specs.Changes.{unlocked}
use Rattle.sccs_changes.specs.declared.prepared.Prepared.{Prepared}
use Rattle.sccs_changes.proofs.Taken.{x_alone}
use Rattle.sccs_changes.specs.PFiles.{Answers}
use Rattle.sccs_changes.specs.Pending.{AnswersPending, Found, pending_of}
use Rattle.sccs_changes.specs.declared.pending.Pending.{Pending}
use Rattle.sccs_changes.proofs.Chains.{ends}
use Rattle.sccs_rmdel.proofs.PendingReads.{body_there}
use Rattle.sccs_rmdel.specs.Removed.{without_delta}
use Rattle.sccs_rmdel.specs.RmdelStep.{removable, removes, rmdel_change, rmdel_checks, rmdel_outcome}
use Rattle.sccs_rmdel.specs.Writing.{FindsRemovable, IsRewrite, WritesRemoval}
use Rattle.sccs_changes.proofs.Preparing.{files_at, pending_seen, pending_answers, IsRead, found_of, header_of}
use Rattle.sccs_changes.proofs.Preparing.{ended_as, there_moved}

-- ---- what follows each check

abbrev with_delta : Files → Found → Record → Outcome
with_delta f found delta = Ok (removes f found delta)

abbrev with_found : Sid → Stamp → Files → Found → Outcome
with_found sid stamp f found = removable sid stamp found.parsed.header found.edits >>= with_delta f found

abbrev by_files : Sid → Stamp → Files → Result Found Refusal → Outcome
by_files sid stamp f r = r >>= with_found sid stamp f

pub outcome_is : (sid : Sid) (stamp : Stamp) (n i : List ℕ) (named : List (Option Content)) (f : Files)
    → rmdel_outcome sid stamp n i named f ≡ (pending_of f.s f.p >>= λ found. removable sid stamp found.parsed.header
    found.edits >>= λ delta. Ok (removes f found delta))
unfolding rmdel_outcome
outcome_is sid stamp n i named f = refl

-- ---- the files as they were before the lock

outcome_seen : (sid : Sid) (stamp : Stamp) (n i : List ℕ) (named : List (Option Content)) (v : View)
    (r : Result Found Refusal) → IsSFileName n → pending_of (v n) (v (p_file n)) ≡ r → rmdel_outcome sid stamp n i named
    (files_at n v) ≡ by_files sid stamp (files_at n v) r
outcome_seen sid stamp n i named v r sfile is = outcome_is sid stamp n i named (files_at n v)
    ∙ ap (by_files sid stamp (files_at n v)) (pending_seen n v sfile ∙ is)

-- ---- an end before the file is written

abbrev OnlyX : List ℕ → Option View → Option View → Type 0
OnlyX n o o2 = Moves (bytes_eq (x_file n)) (λ u. u) o o2

unmade : (n text : List ℕ) (v : View) (o2 : Option View) (out err : Option (List ℕ)) → OnlyX n (Some v) o2
    → IsUnmade n text (world (Some v) out err) (world o2 out err)
unmade n text v o2 out err moves =
    record {
      view = moves_wider (bytes_eq (x_file n)) (is_working n) (Some v) o2 (no_x n) moves;
      out =
          some_none out text;
    }

-- the files aren't read
pub unread : (sid : Sid) (stamp : Stamp) (fault : StepFault) (n : List ℕ) (left : Option (List ℕ)) (o o2 : Option View)
    (out err : Option (List ℕ)) → IsSFileName n → o2 ≡ o → IfSome o (λ (v : View). AnswersPending (v n) (v (p_file n))
    (Err fault))
    → PreparesChange (rmdel_change sid stamp) (Err fault) n left (world o out err) (world o2 out err)
unread sid stamp fault n left None o2 out err sfile same answers = tt
unread sid stamp fault n left (Some v) o2 out err sfile same answers = λ i heard.
    ended_as n _ _ fault v o2 out err same (outcome_seen sid stamp n i [] v _ sfile refl)
    (ends (pending_of (v n) (v (p_file n))) (with_found sid stamp (files_at n v)) fault
    (pending_answers (v n) (v (p_file n)) fault answers))

-- ---- what was read

removable_at : (sid : Sid) (stamp : Stamp) (n i : List ℕ) (v : View) (x : Pending) (r : Result Record Refusal)
    (read : IsRead n v x) → IsSFileName n → removable sid stamp x.front.header x.edits ≡ r
    → rmdel_outcome sid stamp n i [] (files_at n v) ≡ (r >>= with_delta (files_at n v) (found_of n v x read))
removable_at sid stamp n i v x r read sfile is =
    outcome_seen sid stamp n i [] v _ sfile read.2
    ∙ ap (λ (s : Result Record Refusal). s >>= with_delta (files_at n v) (found_of n v x read))
    (ap (λ (h : Header). removable sid stamp h x.edits) (sym (header_of n v x read)) ∙ is)

finds_answers : (sid : Sid) (stamp : Stamp) (header : Header) (edits : List Edit) (fault : StepFault)
    → FindsRemovable sid stamp header edits (Err fault) → Answers {A = Record} (removable sid stamp header edits)
    (Err fault)
finds_answers sid stamp header edits (Refused refusal) finds = finds
finds_answers sid stamp header edits Memory finds = absurd finds
finds_answers sid stamp header edits ReadFault finds = finds
finds_answers sid stamp header edits WriteFault finds = finds
finds_answers sid stamp header edits DiskFault finds = absurd finds

-- no delta may be removed
pub unremovable : (sid : Sid) (stamp : Stamp) (fault : StepFault) (n : List ℕ) (x : Pending) (left : Option (List ℕ))
    (o o2 : Option View) (out err : Option (List ℕ)) → IsSFileName n → o2 ≡ o → IfSome o (λ (v : View). IsRead n v x)
    → FindsRemovable sid stamp x.front.header x.edits (Err fault)
    → PreparesChange (rmdel_change sid stamp) (Err fault) n left (world o out err) (world o2 out err)
unremovable sid stamp fault n x left None o2 out err sfile same read finds = tt
unremovable sid stamp fault n x left (Some v) o2 out err sfile same read finds = λ i heard.
    ended_as n _ _ fault v o2 out err same (removable_at sid stamp n i v x _ read sfile refl)
    (ends (removable sid stamp x.front.header x.edits) (with_delta (files_at n v) (found_of n v x read)) fault
    (finds_answers sid stamp x.front.header x.edits fault finds))

-- ---- the x-file is written

abbrev files_of : Option Content → Option Content → Option Content → Option Content → Option Files
files_of s p g l = Some (record { s = s; p = p; z = None; g = g; l = l })

new_files : (n : List ℕ) (c : Content) (v : View) (p : Prepared) → IsSFileName n → IsRewrite p
    → files_of (Some c) (unlocked n v (p_file n)) (unlocked n v (drop 2 n)) (unlocked n v (l_file n)) ≡ Some
    (files_after n (plan_of p) (put v (x_file n) (Some c)))
new_files n c v p sfile new =
    ap (λ (o : Option Content). files_of (Some c) o (unlocked n v (drop 2 n)) (unlocked n v (l_file n)))
    (put_other v (z_file n) (p_file n) None refl ∙ sym (put_other v (x_file n) (p_file n) (Some c) refl))
    ∙ (ap (λ (o : Option Content). files_of (Some c) (u (p_file n)) o (unlocked n v (l_file n)))
    (put_other v (z_file n) (drop 2 n) None (from_g 122 n sfile) ∙ sym (put_other v (x_file n) (drop 2 n) (Some c)
    (from_g 120 n sfile)))
    ∙ (ap (λ (o : Option Content). files_of o (u (p_file n)) (u (drop 2 n)) (unlocked n v (l_file n)))
    (sym (put_same v (x_file n) (Some c)) ∙ ap (λ b. chosen (replaced b) (u (x_file n)) (u n)) (sym new.new_s))
    ∙ (ap (λ (f : NewFile). files_of (chosen (replaced p.new_s) (u (x_file n)) (u n))
    (chosen f (u (q_file n)) (u (p_file n))) (u (drop 2 n)) (unlocked n v (l_file n))) (sym new.new_p)
    ∙ (ap (λ (f : NewFile). files_of (chosen (replaced p.new_s) (u (x_file n)) (u n)) (chosen p.new_p (u (q_file n))
    (u (p_file n))) (chosen f (u (y_file n)) (u (drop 2 n))) (unlocked n v (l_file n))) (sym new.new_g)
    ∙ ap (λ (o : Option Content). files_of (chosen (replaced p.new_s) (u (x_file n)) (u n))
    (chosen p.new_p (u (q_file n)) (u (p_file n))) (chosen p.new_g (u (y_file n)) (u (drop 2 n))) o)
    (put_other v (z_file n) (l_file n) None refl ∙ sym (put_other v (x_file n) (l_file n) (Some c) refl))))))
  where
    u : View
    u = put v (x_file n) (Some c)

removed_at : (sid : Sid) (stamp : Stamp) (n i : List ℕ) (x : Pending) (serial : ℕ) (r : Result Prepared StepFault)
    (v : View) (o2 : Option View) (out err : Option (List ℕ)) → IsSFileName n → (read : IsRead n v x)
    → FindsRemovable sid stamp x.front.header x.edits (Ok serial)
    → OnlyX n (Some v) o2 → IfOk r IsRewrite → WritesRemoval n (without_delta serial x.front.header)
    (dropped serial read.0.items) (Some v) o2 r → Prepares r n (rmdel_outcome sid stamp n i [] (files_at n v))
    (world (Some v) out err) (world o2 out err)
removed_at sid stamp n i x serial (Ok p) v o2 out err sfile read finds moves new writes =
    let f : Files = files_at n v in
    let c : Content = sealed (without_delta serial x.front.header) (dropped serial read.0.items) in
    let same : sealed (without_delta finds.0.serial read.0.header) (dropped finds.0.serial read.0.items) ≡ c =
    ap (λ (h : Header). sealed (without_delta finds.0.serial h) (dropped finds.0.serial read.0.items))
    (sym (header_of n v x read)) ∙ ap (λ m. sealed (without_delta m x.front.header) (dropped m read.0.items))
    finds.2 in
    record {
      effect = removes f (found_of n v x read) finds.0;
      is = removable_at sid stamp n i v x (Ok finds.0) read sfile finds.1;
      status = refl;
      report = sym new.report_is;
      message = sym new.message_is;
      view = moves_wider (bytes_eq (x_file n)) (is_working n) (Some v) o2 (no_x n) moves;
      working = x_alone n p (Some v) o2 new.new_s moves;
      files = subst (λ (o : Option View). IfSome o
          (λ u. files_of (Some (sealed (without_delta finds.0.serial read.0.header)
          (dropped finds.0.serial read.0.items))) f.p f.g f.l ≡ Some (files_after n (plan_of p) u))) (sym writes)
          (ap (λ (d : Content). files_of (Some d) f.p f.g f.l) same ∙ new_files n c v p sfile new);
      out = gives_none out;
    }
removed_at sid stamp n i x serial (Err (Refused refusal)) v o2 out err sfile read finds moves new writes = absurd writes
removed_at sid stamp n i x serial (Err Memory) v o2 out err sfile read finds moves new writes =
    unmade n _ v o2 out err moves
removed_at sid stamp n i x serial (Err ReadFault) v o2 out err sfile read finds moves new writes = absurd writes
removed_at sid stamp n i x serial (Err WriteFault) v o2 out err sfile read finds moves new writes = absurd writes
removed_at sid stamp n i x serial (Err DiskFault) v o2 out err sfile read finds moves new writes =
    unmade n _ v o2 out err moves

-- what writing the file says of a told body
abbrev pub Writes : List ℕ → Pending → ℕ → Result Prepared StepFault → Told → Told → Type 0
Writes n x serial r a b =
    (file : List ℕ) (items : List Item) → bytes_in (seen a) n ≡ Some file → IsFrontFor file x.front
    → items_of file x.front ≡ Ok items
    → WritesRemoval n (without_delta serial x.front.header) (dropped serial items) (seen a) (seen b) r

-- the same of the body that was read
pub written : (n : List ℕ) (x : Pending) (serial : ℕ) (r : Result Prepared StepFault) (a b : Told) (v : View)
    → seen a ≡ Some v → (read : IsRead n v x) → IsPlaced x.front → Writes n x serial r a b
    → WritesRemoval n (without_delta serial x.front.header) (dropped serial read.0.items) (Some v) (seen b) r
written n x serial r a b v here read placed writes =
    let body = body_there (v n) (v (p_file n)) x (bytes_in (seen a) n) read placed
    (ap (λ (o : Option View). bytes_in o n) here) in
    subst (λ (o : Option View). WritesRemoval n (without_delta serial x.front.header) (dropped serial read.0.items) o
    (seen b) r) here (writes body.0 read.0.items body.1 body.2.front_is body.2.items_are)

pub removed : (sid : Sid) (stamp : Stamp) (n : List ℕ) (x : Pending) (serial : ℕ) (r : Result Prepared StepFault)
    (left : Option (List ℕ)) (o : Option View) (a b : Told) (out err : Option (List ℕ)) → IsSFileName n → seen a ≡ o
    → IfSome o (λ (v : View). IsRead n v x) → IsPlaced x.front
    → FindsRemovable sid stamp x.front.header x.edits (Ok serial) → OnlyX n (seen a) (seen b) → IfOk r IsRewrite
    → Writes n x serial r a b → PreparesChange (rmdel_change sid stamp) r n left (world o out err)
    (world (seen b) out err)
removed sid stamp n x serial r left None a b out err sfile same read placed finds moves new writes = tt
removed sid stamp n x serial r left (Some v) a b out err sfile same read placed finds moves new writes = λ i heard.
    removed_at sid stamp n i x serial r v (seen b) out err sfile read finds
    (subst (λ (w : Option View). OnlyX n w (seen b)) same moves) new
    (written n x serial r a b v same read placed writes)

-- ---- what a commit needs, and what may come

pub removal_ready : (n : List ℕ) (r : Result Prepared StepFault) (a2 a b : Told) → a ≡ a2 → IsThere (z_file n) a2
    → OnlyX n (seen a) (seen b) → IfOk r (λ p. IsThere (x_file n) b) → IfOk r IsRewrite → IfOk r (λ p. IsReady n p b)
removal_ready n (Ok p) a2 a b same z moves x new = record {
  z = there_moved (x_file n) (z_file n) (seen a) (seen b) refl moves (subst (λ t. IsThere (z_file n) t) (sym same) z);
  s = subst (λ t. Needs (replaced t) (x_file n) n b) (sym new.new_s) x;
  p_state = subst (λ f. Needs f (q_file n) (p_file n) b) (sym new.new_p) tt;
  g = subst (λ f. Needs f (y_file n) (drop 2 n) b) (sym new.new_g) tt;
}
removal_ready n (Err fault) a2 a b same z moves x new = tt

pub removal_speaks : (r : Result Prepared StepFault) → IfOk r IsRewrite → RefusesWithin rmdel_checks r
    → CouldPrepare (quiet_checks rmdel_checks) r
removal_speaks (Ok p) new within = (
  record { new = None; text = []; out = []; err = []; status = 0 },
  refl,
  refl,
  sym new.message_is,
)
removal_speaks (Err (Refused refusal)) new within = within refusal refl
removal_speaks (Err Memory) new within = tt
removal_speaks (Err ReadFault) new within = tt
removal_speaks (Err WriteFault) new within = tt
removal_speaks (Err DiskFault) new within = tt

pub removal_quiet : (r : Result Prepared StepFault) → IfOk r IsRewrite → IsQuiet r
removal_quiet (Ok p) new = new.report_is
removal_quiet (Err fault) new = tt
