-- What a stop leaves of a change of entries: what its step asks of recovery.
use Rattle.std.proofs.Common.{◌≡◌, ℕ, zero, suc, ◌==◌, ◌&&◌, Bool, true, false, cond, not, List, [], ◌∷◌, length}
use Rattle.std.proofs.Common.{Option, None, Some, IfOk, IfSome, Result, Ok, Err, refl, sym, ap, subst, ◌∙◌}
use Rattle.std.specs.Prelude.{nat_lt, remove}
use Rattle.std.specs.List.{AllByRecursion}
use Rattle.std.specs.Str.{bytes_eq}
use Rattle.std.proofs.lemmas.Bool.{and_parts, not-true}
use Rattle.sccs_base.specs.Name.{IsSFileName, p_file, q_file, x_file}
use Rattle.sccs_disk.specs.Files.{Content, View}
use Rattle.sccs_disk.specs.Images.{IsFirm}
use Rattle.sccs_disk.specs.Told.{Told, seen}
use Rattle.sccs_name_files.specs.StepFiles.{Moves}
use Rattle.sccs_name_files.specs.Touches.{Leaves}
use Rattle.sccs_crash_points.proofs.FileNames.{from_s}
use Rattle.sccs_history.specs.History.{lives}
use Rattle.sccs_history.specs.declared.headers.Record.{Record}
use Rattle.sccs_sid.specs.Reading.{◌>>=◌}
use Rattle.sccs_sid.specs.Words.{found}
use Rattle.sccs_sid.specs.declared.refusals.Refusal.{Refusal}
use Rattle.sccs_sid.specs.declared.refusals.Refusal.TheVariants.{TooLong}
use Rattle.sccs_sid.specs.declared.refusals.StepFault.{StepFault}
use Rattle.sccs_grammar.specs.File.{Parsed, answer, file_of}
use Rattle.sccs_grammar.specs.FileRefusals.{or_refusal}
use Rattle.sccs_grammar.specs.declared.faults.FileFault.{FileFault}
use Rattle.sccs_grammar.specs.declared.faults.FileFault.TheVariants as faults
use Rattle.sccs_steps.specs.StepEffects.{check}
use Rattle.sccs_pfile.specs.Agreement.{agrees, first_disagreeing, has_lists, makers}
use Rattle.sccs_pfile.specs.Entries.{IsEdit}
use Rattle.sccs_pfile.specs.Reading.{edits_of}
use Rattle.sccs_crash_points.specs.Recovery.{IsSound}
use Rattle.sccs_grammar.specs.AnySum.{unsummed_file}
use Rattle.sccs_grammar.proofs.AnySumLaws.{unsummed_ok}
use Rattle.sccs_pfile.specs.Recovered.{is_done, pfile_of, recovered_pfile, table_of, without_done}
use Rattle.sccs_pfile.specs.declared.entries.Edit.{Edit}
use Rattle.sccs_pfile.proofs.Recovering.{left_stays}
use Rattle.sccs_store.specs.Commits.{chosen, files_after, replaced}
use Rattle.sccs_store.specs.Stops.{KeepsEntries, OnChange, OnReplace}
use Rattle.sccs_changes.specs.Changes.{plan_of}
use Rattle.sccs_steps.specs.StepStops.{ArePaired, IsPaired}
use Rattle.sccs_changes.specs.Stops.{IsFirmPrepared, SettlesEntries}
use Rattle.sccs_changes.specs.declared.prepared.Prepared.{Prepared}
use Rattle.sccs_changes.specs.NewEntries.{Decided, PreparesDecided}
use Rattle.sccs_changes.specs.PFiles.{bytes_or_none, is_short, or_bad_pfile}
use Rattle.sccs_changes.specs.Pending.{AnswersPending, Found, agreeing, pending_of}
use Rattle.sccs_changes.specs.declared.pending.Pending.{Pending}

-- ---- the table that was read

-- what is done with the parts of a file that was read
abbrev with_file : List ℕ → Parsed → Result Found Refusal
with_file bytes parsed = or_bad_pfile (edits_of bytes) >>= λ edits. agreeing
    (first_disagreeing parsed.header.records edits) >>= λ agreed. Ok (record { parsed = parsed; edits = edits })

kept_by : (parsed : Parsed) (f : Found) (edits : List Edit) (o : Option ℕ)
    → (agreeing o >>= λ agreed. Ok (record { parsed = parsed; edits = edits })) ≡ Ok f → parsed ≡ f.parsed
kept_by parsed f edits None e =
    ap (λ (r : Result Found Refusal). elim r as (λ _. Parsed) [ Ok g ↦ g.parsed | Err refusal ↦ parsed ]) e
kept_by parsed f edits (Some entry) e = absurd (cc)

parsed_by : (parsed : Parsed) (f : Found) (r : Result (List Edit) Refusal)
    → (r >>= λ edits. agreeing (first_disagreeing parsed.header.records edits) >>= λ agreed.
    Ok (record { parsed = parsed; edits = edits })) ≡ Ok f → parsed ≡ f.parsed
parsed_by parsed f (Ok edits) e = kept_by parsed f edits (first_disagreeing parsed.header.records edits) e
parsed_by parsed f (Err refusal) e = absurd (cc)

file_by : (bytes : List ℕ) (f : Found) (r : Result Parsed FileFault) → (or_refusal r >>= with_file bytes) ≡ Ok f
    → r ≡ Ok f.parsed
file_by bytes f (Ok parsed) e = ap (λ (x : Parsed). Ok x) (parsed_by parsed f (or_bad_pfile (edits_of bytes)) e)
file_by bytes f (Err fault) e = absurd (cc)

limit_by : (s : Content) (parsed : Parsed) (b : Bool) → ((cond b (Err faults.TooLong) (Ok s.bytes)) >>= file_of)
    ≡ Ok parsed → file_of s.bytes ≡ Ok parsed
limit_by s parsed true e = absurd (cc)
limit_by s parsed false e = e

short_by : (s : Content) (bytes : List ℕ) (f : Found) (b : Bool)
    → (check b TooLong >>= λ short. or_refusal (answer file_of (Some s.bytes)) >>= with_file bytes) ≡ Ok f
    → answer file_of (Some s.bytes) ≡ Ok f.parsed
short_by s bytes f true e = file_by bytes f (answer file_of (Some s.bytes)) e
short_by s bytes f false e = absurd (cc)

pub pending_answer : (s : Content) (p : Option Content) (f : Found) → pending_of (Some s) p ≡ Ok f
    → answer file_of (Some s.bytes) ≡ Ok f.parsed
unfolding pending_of
pending_answer s p f e = short_by s (bytes_or_none p) f (is_short (Some s) && is_short p) e

pub pending_file : (s : Content) (p : Option Content) (f : Found) → pending_of (Some s) p ≡ Ok f
    → file_of s.bytes ≡ Ok f.parsed
pending_file s p f e = limit_by s f.parsed (nat_lt 1073741824 (length s.bytes)) (pending_answer s p f e)

pub unsummed_table : (s : Content) (parsed : Parsed) → unsummed_file s.bytes ≡ Ok parsed
    → table_of s.bytes ≡ Some parsed.header.records
unfolding table_of
unsummed_table s parsed e = ap (λ (r : Result Parsed FileFault). option_records (found r)) e
  where
    option_records : Option Parsed → Option (List Record)
    option_records o = elim o as (λ _. Option (List Record)) [ None ↦ None | Some f ↦ Some f.header.records ]

pub table_is : (s : Content) (parsed : Parsed) → file_of s.bytes ≡ Ok parsed
    → table_of s.bytes ≡ Some parsed.header.records
table_is s parsed e = unsummed_table s parsed (unsummed_ok s.bytes parsed e)

-- ---- entries that stay

kept_entries : (records : List Record) (edits : List Edit) → AllByRecursion (λ e. is_done records e ≡ false) edits
    → without_done records edits ≡ edits
kept_entries records [] are = refl
kept_entries records (e ∷ edits) are = ap (λ (b : Bool). cond (not b) (e ∷ without_done records edits)
    (without_done records edits)) are.0 ∙ ap (λ (l : List Edit). e ∷ l) (kept_entries records edits are.1)

entries_stay : (s : Content) (records : List Record) (edits : List Edit) → table_of s.bytes ≡ Some records
    → AllByRecursion IsEdit edits → AllByRecursion (λ e. is_done records e ≡ false) edits → recovered_pfile (Some s)
    (pfile_of edits) ≡ pfile_of edits
entries_stay s records edits table valid undone =
    subst (λ (l : List Edit). recovered_pfile (Some s) (pfile_of l) ≡ pfile_of l) (kept_entries records edits undone)
    (left_stays s records edits table valid)

-- the deltas of entries that agree aren't made
pub agreeing_undone : (records : List Record) (all edits : List Edit)
    → AllByRecursion (λ e. agrees records all e ≡ true) edits → AllByRecursion (λ e. is_done records e ≡ false) edits
agreeing_undone records all [] are = tt
agreeing_undone records all (e ∷ edits) are = (
  not-true (lives records e.made) (and_parts (not (lives records e.made)) (makers all e.made == 1
      && has_lists records e) (and_parts (lives records e.got) (not (lives records e.made) && (makers all e.made == 1
      && has_lists records e)) are.0).1).0,
  agreeing_undone records all edits are.1,
)

pub still_all : (P : Edit → Type 0) (edits : List Edit) (n : ℕ) → AllByRecursion P edits
    → AllByRecursion P (remove edits n)
still_all P [] zero are = tt
still_all P [] (suc n) are = tt
still_all P (e ∷ edits) zero are = are.1
still_all P (e ∷ edits) (suc n) are = (are.0, still_all P edits n are.1)

-- ---- what was decided

no_change : (b : Bool) (P : Type 0) → b ≡ false → OnChange (replaced b) P
no_change b P is = subst (λ (x : Bool). OnChange (replaced x) P) (sym is) tt

no_replace : (b : Bool) (P : Type 0) → b ≡ false → OnReplace (replaced b) P
no_replace b P is = subst (λ (x : Bool). OnReplace (replaced x) P) (sym is) tt

stays_at : (o p : Option Content) (x : Pending) (edits : List Edit) → AnswersPending o p (Ok x)
    → AllByRecursion IsEdit edits → AllByRecursion (λ e. is_done x.front.header.records e ≡ false) edits
    → recovered_pfile o (pfile_of edits) ≡ pfile_of edits
stays_at None p x edits read valid undone = absurd read.1
stays_at (Some s) p x edits read valid undone =
    entries_stay s x.front.header.records edits
    (table_is s read.0 (pending_file s p (record { parsed = read.0; edits = x.edits }) read.2)
    ∙ ap (λ header. Some header.records) (sym read.1.0)) valid undone

-- an s-file that was read is there
read_there : (o p : Option Content) (x : Pending) → AnswersPending o p (Ok x) → o ≡ None → ⊥
read_there None p x read none = absurd read.1
read_there (Some s) p x read none = cc

settled_at : (n : List ℕ) (x : Pending) (d : Decided) (p : Prepared) (v u : View) → p.new_s ≡ false
    → AnswersPending (v n) (v (p_file n)) (Ok x) → AllByRecursion IsEdit d.edits
    → AllByRecursion (λ e. is_done x.front.header.records e ≡ false) d.edits → u n ≡ v n
    → ((old : Option Content) → chosen p.new_p (u (q_file n)) old ≡ pfile_of d.edits) → KeepsEntries n (plan_of p) u
    × ArePaired (files_after n (plan_of p) u).s (files_after n (plan_of p) u).p
settled_at n x d p v u new_s read valid undone same is = (
  record {
    leaves = no_change p.new_s (recovered_pfile (files_after n (plan_of p) u).s (u (p_file n))
        ≡ (files_after n (plan_of p) u).p) new_s;
    sound =
        ap (λ (o : Option Content). recovered_pfile o (files_after n (plan_of p) u).p)
        (ap (λ (b : Bool). chosen (replaced b) (u (x_file n)) (u n)) new_s ∙ same)
        ∙ (ap (recovered_pfile (v n)) (is (u (p_file n))) ∙ (stays_at (v n) (v (p_file n)) x d.edits read valid undone
        ∙ sym (is (u (p_file n)))));
  },
  λ gone. absurd (read_there (v n) (v (p_file n)) x read
      (sym (ap (λ (b : Bool). chosen (replaced b) (u (x_file n)) (u n)) new_s ∙ same) ∙ gone)),
)

pub decided_settles : (n : List ℕ) (x : Pending) (d : Decided) (r : Result Prepared StepFault) (o a b : Told)
    → IsSFileName n → a ≡ o → IfSome (seen o) (λ (v : View). AnswersPending (v n) (v (p_file n)) (Ok x))
    → AllByRecursion IsEdit d.edits → AllByRecursion (λ e. is_done x.front.header.records e ≡ false) d.edits
    → PreparesDecided r n d a b → IfOk r (λ p. SettlesEntries n p b)
decided_settles n x d (Err fault) o a b sfile same read valid undone prepares = tt
decided_settles n x d (Ok p) o a b sfile same read valid undone prepares =
    by (seen a) (seen b) (subst (λ (t : Told). IfSome (seen t) (λ (v : View). AnswersPending (v n) (v (p_file n))
    (Ok x))) (sym same) read) prepares.moves prepares.entries.chosen_is
  where
    by : (oa ob : Option View) → IfSome oa (λ (v : View). AnswersPending (v n) (v (p_file n)) (Ok x))
        → Moves (bytes_eq (q_file n)) (λ v. v) oa ob → IfSome ob (λ (v : View). (old : Option Content)
        → chosen p.new_p (v (q_file n)) old ≡ pfile_of d.edits)
        → IfSome ob (λ v. IsPaired n v → IsSound n v → KeepsEntries n (plan_of p) v
        × ArePaired (files_after n (plan_of p) v).s (files_after n (plan_of p) v).p)
    by None None r2 moves is = tt
    by None (Some u) r2 moves is = cc
    by (Some v) None r2 moves is = tt
    by (Some v) (Some u) r2 moves is = λ paired sound. settled_at n x d p v u prepares.of.s r2 valid undone
        (moves n (from_s 113 n sfile refl)) is

-- no x-file takes a place, and the q-file is firm where it does
pub entries_firm : (n : List ℕ) (p : Prepared) (a a2 b : Told) → a2 ≡ a → p.new_s ≡ false
    → OnReplace p.new_p (Leaves (IsFirm (q_file n)) a2 b) → IsFirmPrepared n p a b
entries_firm n p a a2 b same new_s firm = record {
  x_state = no_replace p.new_s (Leaves (IsFirm (x_file n)) a b) new_s;
  q_state = subst (λ (t : Told). OnReplace p.new_p (Leaves (IsFirm (q_file n)) t b)) same firm;
}

pub firm_still : (r : Result Prepared StepFault) (n : List ℕ) (a a2 b : Told) → a2 ≡ a
    → IfOk r (λ p. IsFirmPrepared n p a2 b) → IfOk r (λ p. IsFirmPrepared n p a b)
firm_still r n a a2 b same firm = subst (λ t. IfOk r (λ p. IsFirmPrepared n p t b)) same firm
