-- What import prepares, from its two parts.
use Rattle.std.proofs.Common.{◌≡◌, ℕ, Bool, List, [], ◌∷◌, drop, Option, None, Some, IfOk, IfSome, Result, Ok, Err}
use Rattle.std.proofs.Common.{refl, sym, ap, subst, ◌∙◌}
use Rattle.std.specs.Str.{bytes_eq}
use Rattle.sccs_base.specs.Name.{IsSFileName, p_file, q_file, x_file, y_file, z_file}
use Rattle.sccs_base.proofs.Gifts.{gives_none}
use Rattle.sccs_disk.specs.Calls.{IsThere}
use Rattle.sccs_disk.specs.Files.{Content, View, put}
use Rattle.sccs_disk.specs.Images.{IsFirm}
use Rattle.sccs_disk.specs.Told.{Told, seen}
use Rattle.sccs_name_files.specs.StepFiles.{Files, is_working, look}
use Rattle.sccs_name_files.specs.Touches.{Leaves}
use Rattle.sccs_crash_points.proofs.FileNames.{no_x}
use Rattle.sccs_sid.specs.declared.refusals.Refusal.{Refusal}
use Rattle.sccs_sid.specs.declared.refusals.StepFault.{StepFault}
use Rattle.sccs_sid.specs.declared.refusals.StepFault.TheVariants.{Refused, Memory, ReadFault, WriteFault, DiskFault}
use Rattle.sccs_sid.specs.Reading.{◌>>=◌}
use Rattle.sccs_steps.specs.Actions.{quiet_checks}
use Rattle.sccs_steps.specs.Calls.{world}
use Rattle.sccs_store.specs.Commits.{Becomes, Needs, files_after, replaced}
use Rattle.sccs_store.proofs.Working.{made_moves, made_there, moves_wider}
use Rattle.sccs_changes.specs.Changes.{CouldPrepare, IsReady, Prepares, PreparesChange, plan_of, unlocked}
use Rattle.sccs_changes.specs.Stops.{IsFirmPrepared, SettlesEntries}
use Rattle.sccs_changes.specs.declared.prepared.Prepared.{Prepared}
use Rattle.sccs_changes.proofs.Taken.{x_alone}
use Rattle.sccs_admin.specs.Parts.{IsNewSfile}
use Rattle.sccs_admin.proofs.PrepareLaws.{files_of, new_files, s_unlocked, there_after, unmade}
use Rattle.sccs_admin.proofs.StopLaws.{new_firm, settled_seen}
use Rattle.sccs_history.specs.Body.{HistoryLine}
use Rattle.sccs_history.specs.declared.headers.Header.{Header}
use Rattle.sccs_trunks.specs.Changes.{Change}
use Rattle.sccs_trunks.specs.TrunkHistories.{head_text, history_of, scripts_of, trunk_scripts}
use Rattle.sccs_trunks.specs.TrunkItems.{items_of}
use Rattle.sccs_trunks.specs.Trunks.{trunk_lines}
use Rattle.sccs_trunks.specs.declared.revisions.Rcs.{Rcs}
use Rattle.sccs_trunks.specs.declared.revisions.Revision.{Revision}
use Rattle.sccs_trunks.specs.Runs.{run_lines}
use Rattle.sccs_trunks.specs.declared.runs.LineRun.{LineRun}
use Rattle.sccs_store.specs.SealedFiles.{sealed}
use Rattle.sccs_rcs.specs.ImportStep.{found_rcs, import_change, import_checks, import_outcome, import_report, imports}
use Rattle.sccs_rcs.specs.ImportStep.{rcs_content, rcs_file}
use Rattle.sccs_rcs.specs.Parts.{AnswersRcs, FindsRcs, IsImported, IsRead, WritesRcs}
use Rattle.sccs_rcs.proofs.ReadTrunks.{are_scripts}

-- without its report it is what admin prepares
abbrev silent : Prepared → Prepared
silent p = record p { report = [] }

as_new : (said : List ℕ) (p : Prepared) → IsImported said p → IsNewSfile (silent p)
as_new said p is = record { s = is.s; p_state = is.p_state; g = is.g; report = refl; message = is.message }

-- ---- the outcome

outcome_of : (heading : Bool) (n i : List ℕ) (named : List (Option Content)) (f : Files) (r : Result Rcs Refusal)
    → found_rcs named f.s ≡ r → import_outcome heading n i named f ≡ (r >>= imports heading n f)
unfolding import_outcome
outcome_of heading n i named f r is = ap (λ (found : Result Rcs Refusal). found >>= imports heading n f) is

-- what was found, as the step sees it
as_seen : (n : List ℕ) (v : View) (r : Result Rcs Refusal) → IsSFileName n → found_rcs (unlocked n v (rcs_file n) ∷ [])
    (v n) ≡ r → found_rcs (unlocked n v (rcs_file n) ∷ []) (look (unlocked n v) n).s ≡ r
as_seen n v r sfile is = ap (λ (o : Option Content). found_rcs (unlocked n v (rcs_file n) ∷ []) o)
    (s_unlocked n v sfile) ∙ is

outcome_seen : (heading : Bool) (n i : List ℕ) (v : View) (r : Result Rcs Refusal) → IsSFileName n
    → found_rcs (unlocked n v (rcs_file n) ∷ []) (v n) ≡ r
    → import_outcome heading n i (unlocked n v (rcs_file n) ∷ []) (look (unlocked n v) n) ≡ (r >>= imports heading n
    (look (unlocked n v) n))
outcome_seen heading n i v r sfile is = outcome_of heading n i (unlocked n v (rcs_file n) ∷ []) (look (unlocked n v) n)
    r (as_seen n v r sfile is)

-- ---- the trunk wasn't found

not_found : (heading : Bool) (fault : StepFault) (n i : List ℕ) (v : View) (out err : Option (List ℕ)) → IsSFileName n
    → AnswersRcs (found_rcs (unlocked n v (rcs_file n) ∷ []) (v n)) (Err fault)
    → Prepares (Err fault) n (import_outcome heading n i (unlocked n v (rcs_file n) ∷ []) (look (unlocked n v) n))
    (world (Some v) out err) (world (Some v) out err)
not_found heading (Refused refusal) n i v out err sfile answers =
    (outcome_seen heading n i v (Err refusal) sfile answers, unmade n [] v (Some v) out err (λ k h. refl))
not_found heading Memory n i v out err sfile answers = unmade n _ v (Some v) out err (λ k h. refl)
not_found heading ReadFault n i v out err sfile answers = unmade n _ v (Some v) out err (λ k h. refl)
not_found heading WriteFault n i v out err sfile answers = unmade n _ v (Some v) out err (λ k h. refl)
not_found heading DiskFault n i v out err sfile answers = unmade n _ v (Some v) out err (λ k h. refl)

pub find_fails : (heading : Bool) (fault : StepFault) (n : List ℕ) (left : Option (List ℕ)) (o o2 : Option View)
    (out err : Option (List ℕ)) → IsSFileName n → o2 ≡ o → FindsRcs (Err fault) n o
    → PreparesChange (import_change heading) (Err fault) n left (world o out err) (world o2 out err)
find_fails heading fault n left None o2 out err sfile same finds = tt
find_fails heading fault n left (Some v) o2 out err sfile same finds = λ i heard.
    subst (λ (w : Option View). Prepares (Err fault) n (import_outcome heading n i (unlocked n v (rcs_file n) ∷ [])
    (look (unlocked n v) n)) (world (Some v) out err) (world w out err)) (sym same)
    (not_found heading fault n i v out err sfile finds)

-- ---- the x-file is written

rcs_prepared : (heading : Bool) (r : Result Prepared StepFault) (rcs : Rcs) (n i : List ℕ) (v : View) (o2 : Option View)
    (out err : Option (List ℕ)) → IsSFileName n → found_rcs (unlocked n v (rcs_file n) ∷ []) (v n) ≡ Ok rcs
    → WritesRcs r heading rcs n (Some v) o2
    → Prepares r n (import_outcome heading n i (unlocked n v (rcs_file n) ∷ []) (look (unlocked n v) n))
    (world (Some v) out err) (world o2 out err)
rcs_prepared heading (Ok p) rcs n i v o2 out err sfile found writes =
    let f : Files = look (unlocked n v) n in
    let c : Content = rcs_content rcs in
    record {
      effect = record {
        new = files_of (Some c) f.p f.g f.l;
        text = [];
        out = import_report heading n rcs;
        err = [];
        status = 0;
      };
      is = outcome_seen heading n i v (Ok rcs) sfile found;
      status = refl;
      report = sym writes.0.report;
      message = sym writes.0.message;
      view = moves_wider (bytes_eq (x_file n)) (is_working n) (Some v) o2 (no_x n)
          (made_moves (x_file n) c (Some v) o2 writes.1);
      working = x_alone n p (Some v) o2 writes.0.s (made_moves (x_file n) c (Some v) o2 writes.1);
      files = subst (λ (o : Option View). IfSome o (λ u. files_of (Some c) f.p f.g f.l ≡ Some
          (files_after n (plan_of p) u))) (sym writes.1) (new_files n c v (silent p) sfile
          (as_new (import_report heading n rcs) p writes.0));
      out = gives_none out;
    }
rcs_prepared heading (Err (Refused refusal)) rcs n i v o2 out err sfile found writes = absurd writes
rcs_prepared heading (Err Memory) rcs n i v o2 out err sfile found writes = unmade n _ v o2 out err writes
rcs_prepared heading (Err ReadFault) rcs n i v o2 out err sfile found writes = unmade n _ v o2 out err writes
rcs_prepared heading (Err WriteFault) rcs n i v o2 out err sfile found writes = unmade n _ v o2 out err writes
rcs_prepared heading (Err DiskFault) rcs n i v o2 out err sfile found writes = unmade n _ v o2 out err writes

pub found_prepares : (heading : Bool) (r : Result Prepared StepFault) (rcs : Rcs) (n : List ℕ) (left : Option (List ℕ))
    (o o1 o2 : Option View) (out err : Option (List ℕ)) → IsSFileName n → o1 ≡ o → FindsRcs (Ok rcs) n o
    → WritesRcs r heading rcs n o1 o2
    → PreparesChange (import_change heading) r n left (world o out err) (world o2 out err)
found_prepares heading r rcs n left None o1 o2 out err sfile same finds writes = tt
found_prepares heading r rcs n left (Some v) o1 o2 out err sfile same finds writes = λ i heard.
    rcs_prepared heading r rcs n i v o2 out err sfile finds (subst (λ (w : Option View). WritesRcs r heading rcs n w o2)
    same writes)

-- ---- what is written

-- the lines of a trunk in runs are those of its history
pub runs_are : (rcs : Rcs) (revisions : List Revision) (items runs : List LineRun) → IsRead rcs
    → revisions ≡ rcs.revisions → runs ≡ items
    → ((scripts : List (List Change)) → trunk_scripts revisions ≡ Ok scripts → run_lines items ≡ trunk_lines
    (head_text revisions) scripts)
    → run_lines runs ≡ (history_of rcs).lines
runs_are rcs revisions items runs read is same each =
    ap run_lines same
    ∙ (each (scripts_of rcs.revisions) (ap trunk_scripts is ∙ are_scripts read.0 rcs read.1)
    ∙ ap (λ (rs : List Revision). trunk_lines (head_text rs) (scripts_of rcs.revisions)) is)

pub rcs_written : (heading : Bool) (n : List ℕ) (rcs : Rcs) (header : Header) (lines : List HistoryLine)
    (report : List ℕ) (p : Prepared) (old new : Option View)
    → header ≡ (history_of rcs).header → lines ≡ (history_of rcs).lines → report ≡ import_report heading n rcs
    → IsImported report p
    → Becomes (λ v. put v (x_file n) (Some (sealed header (items_of lines)))) old new
    → WritesRcs (Ok p) heading rcs n old new
rcs_written heading n rcs header lines report p old new header_is lines_are report_is is becomes =
    let same : sealed header (items_of lines) ≡ rcs_content rcs = ap (λ (h : Header). sealed h (items_of lines))
    header_is ∙ ap (λ (ls : List HistoryLine). sealed (history_of rcs).header (items_of ls)) lines_are in (
      subst (λ (r : List ℕ). IsImported r p) report_is is,
      subst (λ (c : Content). Becomes
          (λ v. put v (x_file n) (Some c)) old new) same becomes,
    )

-- ---- what a commit needs, and what may come

pub rcs_ready : (heading : Bool) (r : Result Prepared StepFault) (rcs : Rcs) (n : List ℕ) (a b : Told)
    → IsThere (z_file n) a → WritesRcs r heading rcs n (seen a) (seen b) → IfOk r (λ p. IsReady n p b)
rcs_ready heading (Ok p) rcs n a b there writes =
    let c : Content = rcs_content rcs in
    record {
      z = there_after (x_file n) (z_file n) c (seen a) (seen b) refl writes.1 there;
      s = subst (λ t. Needs (replaced t) (x_file n) n b) (sym writes.0.s) (made_there (x_file n) c a b writes.1);
      p_state = subst (λ f. Needs f (q_file n) (p_file n) b) (sym writes.0.p_state) tt;
      g = subst (λ f. Needs f (y_file n) (drop 2 n) b) (sym writes.0.g) tt;
    }
rcs_ready heading (Err fault) rcs n a b there writes = tt

pub rcs_speaks : (heading : Bool) (r : Result Prepared StepFault) (rcs : Rcs) (n : List ℕ) (a b : Option View)
    → WritesRcs r heading rcs n a b → CouldPrepare (quiet_checks import_checks) r
rcs_speaks heading (Ok p) rcs n a b writes = (
  record { new = None; text = []; out = []; err = []; status = 0 },
  refl,
  refl,
  sym writes.0.message,
)
rcs_speaks heading (Err (Refused refusal)) rcs n a b writes = absurd writes
rcs_speaks heading (Err Memory) rcs n a b writes = tt
rcs_speaks heading (Err ReadFault) rcs n a b writes = tt
rcs_speaks heading (Err WriteFault) rcs n a b writes = tt
rcs_speaks heading (Err DiskFault) rcs n a b writes = tt

pub imported_firm : (said n : List ℕ) (p : Prepared) (a b : Told) → IsImported said p → Leaves (IsFirm (x_file n)) a b
    → IsFirmPrepared n p a b
imported_firm said n p a b is firm = let f = new_firm n (silent p) a b (as_new said p is) firm in
    record { x_state = f.x_state; q_state = f.q_state }

-- ---- recovery

pub rcs_settles : (heading : Bool) (r : Result Prepared StepFault) (rcs : Rcs) (n : List ℕ) (o : Option View)
    (a b : Told) → IsSFileName n → seen a ≡ o → IfSome o (λ v. v n ≡ None) → WritesRcs r heading rcs n (seen a) (seen b)
    → IfOk r (λ p. SettlesEntries n p b)
rcs_settles heading (Ok p) rcs n o a b sfile same fresh writes =
    settled_seen n (silent p) (rcs_content rcs) (seen a) (seen b) sfile
    (as_new (import_report heading n rcs) p writes.0) (subst (λ (x : Option View). IfSome x (λ v. v n ≡ None))
    (sym same) fresh) writes.1
rcs_settles heading (Err fault) rcs n o a b sfile same fresh writes = tt
