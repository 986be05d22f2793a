-- What is written of a delta, part by part.
use Rattle.std.proofs.Common.{◌≡◌, ℕ, zero, suc, ◌+◌, ◌-◌, ◌<◌, ◌≤◌, Bool, true, false, List, [], ◌∷◌, length, map}
use Rattle.std.proofs.Common.{remove, Option, None, Some, Result, Ok, Err, refl, sym, ap, subst, ◌∙◌, arith}
use Rattle.std.specs.Prelude.{All, IfOk, IfSome, IsSome, drop, slice_get}
use Rattle.std.specs.List.{AllByRecursion}
use Rattle.std.proofs.lemmas.List.Elements.{recursion_from_All}
use Rattle.sccs_pfile.specs.Entries.{IsEdit}
use Rattle.std.specs.Str.{bytes_eq}
use Rattle.sccs_disk.proofs.Puts.{put_same}
use Rattle.sccs_disk.specs.Files.{put}
use Rattle.sccs_name_files.specs.StepFiles.{Moves}
use Rattle.sccs_name_files.specs.Touches.{Leaves, TouchesOnly}
use Rattle.sccs_disk.specs.Calls.{IsThere}
use Rattle.sccs_disk.specs.Images.{IsFirm}
use Rattle.sccs_crash_points.proofs.FileNames.{from_g}
use Rattle.sccs_base.specs.Name.{IsSFileName, p_file, q_file, x_file, y_file, z_file}
use Rattle.sccs_store.proofs.Working.{leaves_from}
use Rattle.sccs_store.specs.Commits.{Becomes, Needs, chosen, replaced}
use Rattle.sccs_store.specs.Stops.{OnReplace}
use Rattle.sccs_store.specs.declared.new_files.NewFile.{NewFile}
use Rattle.sccs_store.specs.declared.new_files.NewFile.TheVariants.{Keep, Replace, Remove}
use Rattle.sccs_changes.specs.Changes.{AreTakenOrGone, IsReady, IsTakenOrGone, plan_of}
use Rattle.sccs_changes.proofs.Taken.{untouched}
use Rattle.sccs_changes.specs.Stops.{IsFirmPrepared}
use Rattle.sccs_changes.specs.NewEntries.{LeavesG, PreparesEntries, kept_g}
use Rattle.sccs_disk.specs.Files.{Content, View}
use Rattle.sccs_disk.specs.Told.{Told, seen}
use Rattle.sccs_sid.specs.declared.moments.Stamp.{Stamp}
use Rattle.sccs_sid.specs.declared.sids.Sid.{Sid}
use Rattle.sccs_sid.specs.declared.refusals.StepFault.{StepFault}
use Rattle.sccs_sid.specs.declared.refusals.StepFault.TheVariants.{Refused, Memory, ReadFault, WriteFault, DiskFault}
use Rattle.sccs_script_laws.specs.Places.{places, spliced, told_behind}
use Rattle.sccs_script_laws.specs.Plans.{plan}
use Rattle.sccs_script_laws.specs.declared.scripts.Order.{Order}
use Rattle.sccs_history.specs.Applied.{live_serials, newest}
use Rattle.sccs_history.specs.History.{IsSpelled}
use Rattle.sccs_pfile.specs.declared.entries.Edit.{Edit}
use Rattle.sccs_records.specs.NewDeltas.{null_delta}
use Rattle.sccs_records.specs.declared.new_deltas.Counts.{Counts}
use Rattle.sccs_splicer.specs.Splices.{SplicerState, new_splice, items_owed}
use Rattle.sccs_splicer.proofs.SpliceLaws.{owed_first}
use Rattle.sccs_store.specs.SealedFiles.{sealed}
use Rattle.sccs_changes.specs.declared.prepared.Prepared.{Prepared}
use Rattle.sccs_words.specs.declared.commands.DeltaWords.{DeltaWords}
use Rattle.sccs_delta.specs.DeltaStep.{ChosenEntry, base_lines, counts_of, entry_delta, delta_report, header_with}
use Rattle.sccs_delta.specs.DeltaStep.{nulls_of}
use Rattle.sccs_changes.specs.Reports.{warning}
use Rattle.sccs_delta.specs.declared.entries.Base.{Base}
use Rattle.sccs_copies.specs.declared.copies.Copying.{Copying}
use Rattle.sccs_delta.specs.declared.new_sfiles.NewSfile.{NewSfile}
use Rattle.sccs_grammar.specs.FileRefusals.{file_fault}
use Rattle.sccs_grammar.specs.declared.faults.FileFault.{FileFault}
use Rattle.sccs_grammar.specs.declared.faults.FileFault.TheVariants as files
use Rattle.sccs_history.specs.declared.headers.Header.{Header}
use Rattle.sccs_history.specs.declared.headers.Item.{Item}
use Rattle.sccs_copies.specs.BaseSplicing.{base_splicing}
use Rattle.sccs_copies.specs.Copies.{CopyComes, MakesFile}
use Rattle.sccs_copies.specs.declared.base_splicers.BaseSplicer.{BaseSplicer}
use Rattle.sccs_copies.proofs.SplicingLaws.{output_made}
use Rattle.sccs_body.specs.BodyFile.{items_of}
use Rattle.sccs_body.specs.ToCome.{IsFrontFor, ToCome}
use Rattle.sccs_history.specs.Body.{lines_of}
use Rattle.sccs_history.specs.Select.{select}
use Rattle.sccs_table.specs.declared.fronts.Front.{Front}
use Rattle.sccs_versions.specs.Coming.{IsBody}
use Rattle.sccs_versions.specs.Regions.{Holds}
use Rattle.sccs_delta.specs.Writing.{IsSfileOf, MakesDelta, MakesSfile, WritesDelta, WritesFiles, WritesX}
use Rattle.sccs_changes.proofs.Preparing.{firm_kept}

pub x_unwritten : (h : Header) (items : List Item) (n : List ℕ) (old new : Option View) (fault : FileFault)
    (ended : StepFault) → MakesFile h items n old new (Err fault) → ended ≡ file_fault fault → WritesX h items n old new
    (Err ended)
x_unwritten h items n old new files.Failed ended outer is = subst (λ e. WritesX h items n old new (Err e)) (sym is) tt
x_unwritten h items n old new files.Memory ended outer is = subst (λ e. WritesX h items n old new (Err e)) (sym is) tt
x_unwritten h items n old new files.Missing ended outer is = absurd outer
x_unwritten h items n old new files.TooLong ended outer is = absurd outer
x_unwritten h items n old new files.NotSccs ended outer is = absurd outer
x_unwritten h items n old new (files.BadSum stored sum) ended outer is = absurd outer
x_unwritten h items n old new (files.BadFormat line) ended outer is = absurd outer
x_unwritten h items n old new files.Encoded ended outer is = absurd outer
x_unwritten h items n old new (files.Changed a b c d) ended outer is = absurd outer

-- ---- the copy

-- before all items, of which as many are lines of the base as were counted
pub copy_begins : (file : List ℕ) (front : Front) (items : List Item) (lines : ℕ) (c : Copying BaseSplicer)
    (set : List ℕ) → c.filter.set ≡ set → c.filter.lines ≡ lines → c.filter.splicer.line ≡ 0
    → lines ≡ length (select set (lines_of items)) → IsBody (Some file) front set file items
    → Holds c.filter.set [] c.filter.weaver
    → (IsFrontFor file front → ToCome file (live_serials front.header.records) [] (items_of file front) c.items)
    → CopyComes base_splicing file (items_owed c.filter.splicer (told_behind set [] items)) c
copy_begins file front items lines c set same count start is body holds comes = record {
  live = live_serials front.header.records;
  before = [];
  rest = items;
  comes = subst (λ found. ToCome file (live_serials front.header.records) [] found c.items) body.items_are
      (comes body.front_is);
  stands = holds;
  output_is = output_made c.filter items start (ap (λ s. length (select s (lines_of items))) same
      ∙ (sym is ∙ sym count)) ∙ ap (λ s. Some (items_owed c.filter.splicer (told_behind s [] items))) same;
}

-- the copy that is made with such a splicer
pub copy_begun : {E : Type 0} (file : List ℕ) (front : Front) (items : List Item) (lines : ℕ)
    (r : Result (Copying BaseSplicer) E) (b : BaseSplicer) (set : List ℕ) (s : SplicerState) → b.set ≡ set
    → b.lines ≡ lines → b.splicer ≡ s → s.line ≡ 0
    → lines ≡ length (select set (lines_of items)) → IsBody (Some file) front set file items → Holds set [] b.weaver
    → IfOk r (λ c. c.filter ≡ b)
    → (IsFrontFor file front → IfOk r (λ c. ToCome file (live_serials front.header.records) [] (items_of file front)
    c.items)) → IfOk r (λ c. CopyComes base_splicing file (items_owed c.filter.splicer (told_behind set [] items))
    c)
copy_begun file front items lines (Ok c) b set s same count splicer start is body holds filter comes =
    copy_begins file front items lines c set (ap (λ (f : BaseSplicer). f.set) filter ∙ same)
    (ap (λ (f : BaseSplicer). f.lines) filter ∙ count)
    (ap (λ (f : BaseSplicer). f.splicer.line) filter ∙ (ap (λ (t : SplicerState). t.line) splicer ∙ start)) is body
    (subst (λ (f : BaseSplicer). Holds f.set [] f.weaver) (sym filter) (subst (λ x. Holds x [] b.weaver)
    (sym same) holds)) comes
copy_begun file front items lines (Err e) b set s same count splicer start is body holds filter comes = tt

-- ---- the s-file

pub no_sfile : (words : DeltaWords) (stamp : Stamp) (n : List ℕ) (header : Header) (items : List Item)
    (edits : List Edit) (e : ChosenEntry) (orders : List Order) (lines : ℕ) (keyword : Bool) (a b : Told)
    (fault : StepFault) → MakesSfile words stamp header edits e.edit e.base orders lines (Err fault)
    → MakesDelta (nulls_of header edits e.edit) words stamp n header items edits e orders keyword a b (Err fault)
no_sfile words stamp n header items edits e orders lines keyword a b (Refused refusal) makes = makes
no_sfile words stamp n header items edits e orders lines keyword a b Memory makes = tt
no_sfile words stamp n header items edits e orders lines keyword a b ReadFault makes = makes
no_sfile words stamp n header items edits e orders lines keyword a b WriteFault makes = makes
no_sfile words stamp n header items edits e orders lines keyword a b DiskFault makes = tt

writes_as : (n : List ℕ) (h h2 : Header) (items items2 : List Item) (edits : List Edit) (keep : Bool)
    (report report2 message message2 : List ℕ) (p : Prepared) (a b : Told) → h ≡ h2 → items ≡ items2 → report ≡ report2
    → message ≡ message2 → WritesFiles n h items edits keep report message p a b
    → WritesFiles n h2 items2 edits keep report2 message2 p a b
writes_as n h h2 items items2 edits keep report report2 message message2 p a b same_h same_items same_report
    same_message writes = record {
      spelled = subst IsSpelled same_h writes.spelled;
      new_s = writes.new_s;
      report_is = writes.report_is ∙ same_report;
      message_is = writes.message_is ∙ same_message;
      x_state = subst (λ (i : List Item). IfSome (seen b) (λ (v : View). v (x_file n) ≡ Some (sealed h2 i))) same_items
          (subst (λ (x : Header). IfSome (seen b) (λ (v : View). v (x_file n) ≡ Some (sealed x items))) same_h
          writes.x_state);
      entries = writes.entries;
      g_state = writes.g_state;
      working = writes.working;
    }

pub delta_made : (words : DeltaWords) (stamp : Stamp) (n : List ℕ) (header : Header) (items : List Item)
    (edits : List Edit) (e : ChosenEntry) (orders : List Order) (lines : ℕ) (keyword : Bool) (s : NewSfile)
    (report message : List ℕ) (r : Result Prepared StepFault) (a b : Told) → lines ≡ length (base_lines items e.base)
    → (makes : MakesSfile words stamp header edits e.edit e.base orders lines (Ok s))
    → report ≡ delta_report words.silent s.sid s.counts → message ≡ warning n keyword
    → WritesDelta n s.header (items_owed s.copying.filter.splicer (told_behind e.base.set [] items))
    (remove edits (e.number - 1)) words.keep report message a b r → MakesDelta (nulls_of header edits e.edit) words
    stamp n header items edits e orders keyword a b r
delta_made words stamp n header items edits e orders lines keyword s report message (Ok p) a b is makes report_is
    message_is writes = (
      makes.0,
      makes.1,
      writes_as n s.header _ (items_owed s.copying.filter.splicer (told_behind e.base.set [] items)) _
          (remove edits (e.number - 1)) words.keep report _ message _ p a b
          (makes.2.header_is ∙ ap (λ k. header_with header e.base.got (map (null_delta stamp) makes.0)
          (entry_delta words stamp e.edit e.base.include e.base.exclude (counts_of (plan orders k) k))) is)
          (ap (λ (t : SplicerState). items_owed t (told_behind e.base.set [] items)) makes.2.splicer_is
          ∙ (owed_first (suc (newest header.records + length makes.0)) (plan orders lines)
          (told_behind e.base.set [] items)
          ∙ placed_for lines is))
          (report_is ∙ (ap (λ sid. delta_report words.silent sid s.counts) makes.2.sid_is
          ∙ ap (delta_report words.silent e.edit.made) (makes.2.counts_is ∙ ap (λ k. counts_of (plan orders k) k) is)))
          message_is
          writes,
    )
  where
    placed_for : (k : ℕ) → k ≡ length (base_lines items e.base) → spliced (plan orders k)
        (suc (newest header.records + length makes.0)) (told_behind e.base.set [] items) ≡ places items e.base.set
        orders (suc (newest header.records + length makes.0))
    placed_for k same = ap (λ j. spliced (plan orders j) (suc (newest header.records + length makes.0))
        (told_behind e.base.set [] items)) same
delta_made words stamp n header items edits e orders lines keyword s report message (Err (Refused refusal)) a b is makes
    report_is message_is writes = absurd writes
delta_made words stamp n header items edits e orders lines keyword s report message (Err Memory) a b is makes report_is
    message_is writes = tt
delta_made words stamp n header items edits e orders lines keyword s report message (Err ReadFault) a b is makes
    report_is message_is writes = writes
delta_made words stamp n header items edits e orders lines keyword s report message (Err WriteFault) a b is makes
    report_is message_is writes = writes
delta_made words stamp n header items edits e orders lines keyword s report message (Err DiskFault) a b is makes
    report_is message_is writes = tt

-- ---- the files

-- what the x-file holds stays while the q-file is written, and what is written is chosen
g_before : (n : List ℕ) (keep : Bool) (p : Prepared) (o o2 : Option View) → bytes_eq (x_file n) (drop 2 n) ≡ false
    → Moves (bytes_eq (x_file n)) (λ v. v) o o2 → IfSome o2 (λ (v : View). (y : Option Content)
    → chosen p.new_g y (v (drop 2 n)) ≡ kept_g keep (v (drop 2 n)))
    → IfSome o (λ (v : View). (y : Option Content) → chosen p.new_g y (v (drop 2 n)) ≡ kept_g keep (v (drop 2 n)))
g_before n keep p None o2 apart moves g = tt
g_before n keep p (Some v) None apart moves g = absurd moves
g_before n keep p (Some v) (Some w) apart moves g = subst (λ (c : Option Content). (y : Option Content)
    → chosen p.new_g y c ≡ kept_g keep c) (moves (drop 2 n) apart) g

-- the x-file is taken, and no y-file is made
both_taken : (n : List ℕ) (p : Prepared) (o o2 o3 : Option View) → p.new_s ≡ true → Moves (bytes_eq (x_file n))
    (λ v. v) o o2 → Moves (bytes_eq (q_file n)) (λ v. v) o2 o3
    → IfSome o2 (λ (u : View). IfSome o3 (λ (v : View). IsTakenOrGone p.new_p (u (q_file n)) (v (q_file n))))
    → IfSome o (λ u. IfSome o3 (λ v. AreTakenOrGone n (plan_of p) u v))
both_taken n p None o2 o3 new x q taken = tt
both_taken n p (Some u) None o3 new x q taken = absurd x
both_taken n p (Some u) (Some w) None new x q taken = tt
both_taken n p (Some u) (Some w) (Some v) new x q taken = record {
  x = subst (λ b. IsTakenOrGone (replaced b) (u (x_file n)) (v (x_file n))) (sym new) tt;
  q = subst (λ (c : Option Content). IsTakenOrGone p.new_p c (v (q_file n))) (x (q_file n) refl) taken;
  y = untouched p.new_g _ _ (q (y_file n) refl ∙ x (y_file n) refl);
}

-- where the x-file wasn't written no file is
pub unwritten : (n x : List ℕ) (h : Header) (items : List Item) (edits : List Edit) (keep : Bool)
    (report message : List ℕ) (old new : Told) (a b : Option View) (fault : StepFault)
    → WritesX h items x a b (Err fault) → WritesDelta n h items edits keep report message old new (Err fault)
unwritten n x h items edits keep report message old new a b (Refused refusal) writes = writes
unwritten n x h items edits keep report message old new a b Memory writes = tt
unwritten n x h items edits keep report message old new a b DiskFault writes = tt
unwritten n x h items edits keep report message old new a b ReadFault writes = writes
unwritten n x h items edits keep report message old new a b WriteFault writes = writes

pub files_written : (n : List ℕ) (h : Header) (items : List Item) (edits : List Edit) (keep : Bool)
    (report message : List ℕ) (p : Prepared) (a b b2 c : Told) → IsSpelled h → b2 ≡ b → bytes_eq (q_file n) (x_file n)
    ≡ false → bytes_eq (x_file n) (drop 2 n) ≡ false → p.new_s ≡ true → p.report ≡ report → p.message ≡ message
    → WritesX h items (x_file n) (seen a) (seen b) (Ok tt)
    → Moves (bytes_eq (q_file n)) (λ v. v) (seen b2) (seen c) → PreparesEntries n edits p.new_p b2 c
    → Moves (bytes_eq (x_file n)) (λ v. v) (seen a) (seen b) → IfSome (seen b) (λ (v : View). (y : Option Content)
    → chosen p.new_g y (v (drop 2 n)) ≡ kept_g keep (v (drop 2 n)))
    → WritesFiles n h items edits keep report message p a c
files_written n h items edits keep report message p a b b2 c spelling same apart apart_g new_s report_is message_is x
    moves entries before g = record {
      spelled = spelling;
      new_s = new_s;
      report_is = report_is;
      message_is = message_is;
      x_state = by (seen a) (seen b) (seen c) x (subst (λ t. Moves (bytes_eq (q_file n)) (λ v. v) (seen t) (seen c))
          same
          moves);
      entries = entries.chosen_is;
      g_state = g_before n keep p (seen a) (seen b) apart_g before g;
      working = both_taken n p (seen a) (seen b) (seen c) new_s before
          (subst (λ t. Moves (bytes_eq (q_file n)) (λ v. v) (seen t) (seen c)) same moves)
          (subst (λ t. IfSome (seen t) (λ (u : View). IfSome (seen c) (λ (v : View). IsTakenOrGone p.new_p
          (u (q_file n))
          (v (q_file n))))) same entries.taken);
    }
  where
    by : (o o2 o3 : Option View) → Becomes (λ v. put v (x_file n) (Some (sealed h items))) o o2
        → Moves (bytes_eq (q_file n)) (λ v. v) o2 o3 → IfSome o3 (λ (v : View). v (x_file n) ≡ Some (sealed h items))
    by None o2 o3 x moves = none o2 o3 x moves
      where
        none : (o2 o3 : Option View) → o2 ≡ None → Moves (bytes_eq (q_file n)) (λ v. v) o2 o3
            → IfSome o3 (λ (v : View). v (x_file n) ≡ Some (sealed h items))
        none None None is moves = tt
        none None (Some u) is moves = cc
        none (Some w) o3 is moves = absurd cc
    by (Some v) None o3 x moves = absurd cc
    by (Some v) (Some w) None x moves = absurd moves
    by (Some v) (Some w) (Some u) x moves = moves (x_file n) apart ∙ (ap (λ (o : Option View). at o) x
        ∙ put_same v (x_file n) (Some (sealed h items)))
      where
        at : Option View → Option Content
        at o = elim o as (λ _. Option Content) [ None ↦ None | Some f ↦ f (x_file n) ]

-- ---- what is firm

pub files_firm : (n : List ℕ) (p : Prepared) (a b b2 c : Told) → b2 ≡ b → p.new_s ≡ true
    → bytes_eq (q_file n) (x_file n) ≡ false → TouchesOnly (bytes_eq (x_file n)) a b → Leaves (IsFirm (x_file n)) a b
    → TouchesOnly (bytes_eq (q_file n)) b2 c
    → OnReplace p.new_p (Leaves (IsFirm (q_file n)) b2 c) → IsFirmPrepared n p a c
files_firm n p a b b2 c same new_s apart touches_x x touches_q q = record {
  x_state = subst (λ (t : Bool). OnReplace (replaced t) (Leaves (IsFirm (x_file n)) a c)) (sym new_s)
      (firm_kept (x_file n) (bytes_eq (q_file n)) (bytes_eq (x_file n)) a b c touches_x
      (subst (λ t. TouchesOnly (bytes_eq (q_file n)) t c) same touches_q) apart x);
  q_state = on_replace p.new_p (leaves_from (IsFirm (q_file n)) (bytes_eq (x_file n)) a b c touches_x)
      (subst (λ t. OnReplace p.new_p (Leaves (IsFirm (q_file n)) t c)) same q);
}
  where
    on_replace : (new : NewFile) → (Leaves (IsFirm (q_file n)) b c → Leaves (IsFirm (q_file n)) a c)
        → OnReplace new (Leaves (IsFirm (q_file n)) b c) → OnReplace new (Leaves (IsFirm (q_file n)) a c)
    on_replace Keep on firm = tt
    on_replace Replace on firm = on firm
    on_replace Remove on firm = tt

-- ---- what a commit needs

still_there : (k : List ℕ) (mine : List ℕ → Bool) (o o2 : Option View) → mine k ≡ false → Moves mine (λ v. v) o o2
    → IfSome o (λ (v : View). IsSome (v k)) → IfSome o2 (λ (v : View). IsSome (v k))
still_there k mine None o2 other moves there = subst (λ (o : Option View). IfSome o (λ (v : View). IsSome (v k)))
    (sym moves) tt
still_there k mine (Some v) None other moves there = absurd moves
still_there k mine (Some v) (Some u) other moves there = subst IsSome (sym (moves k other)) there

g_needed : (n : List ℕ) (new : NewFile) (mine : List ℕ → Bool) (b c : Told) → mine (drop 2 n) ≡ false
    → mine (y_file n) ≡ false → Moves mine (λ v. v) (seen b) (seen c) → Needs new (y_file n) (drop 2 n) b
    → Needs new (y_file n) (drop 2 n) c
g_needed n Keep mine b c g y moves needs = tt
g_needed n Replace mine b c g y moves needs = still_there (y_file n) mine (seen b) (seen c) y moves needs
g_needed n Remove mine b c g y moves needs = still_there (drop 2 n) mine (seen b) (seen c) g moves needs

pub files_ready : (n : List ℕ) (edits : List Edit) (keep : Bool) (p : Prepared) (a b b2 c : Told) → IsSFileName n
    → b2 ≡ b → p.new_s ≡ true → Moves (bytes_eq (x_file n)) (λ v. v) (seen a) (seen b) → IsThere (x_file n) b
    → Moves (bytes_eq (q_file n)) (λ v. v) (seen b2) (seen c)
    → PreparesEntries n edits p.new_p b2 c → LeavesG n keep p.new_g b → IsThere (z_file n) a → IsThere (p_file n) a
    → IsReady n p c
files_ready n edits keep p a b b2 c sfile same new_s moves_x x moves_q2 entries g z p_there =
    let moves_q = subst (λ t. Moves (bytes_eq (q_file n)) (λ v. v) (seen t) (seen c)) same moves_q2 in record {
      z = still_there (z_file n) (bytes_eq (q_file n)) (seen b) (seen c) refl moves_q
          (still_there (z_file n) (bytes_eq (x_file n)) (seen a) (seen b) refl moves_x z);
      s = subst (λ (t : Bool). Needs (replaced t) (x_file n) n c) (sym new_s)
          (still_there (x_file n) (bytes_eq (q_file n)) (seen b) (seen c) refl moves_q x);
      p_state = entries.needs (λ none. subst (IsThere (p_file n)) (sym same)
          (still_there (p_file n) (bytes_eq (x_file n)) (seen a) (seen b) refl moves_x p_there));
      g = g_needed n p.new_g (bytes_eq (q_file n)) b c (from_g 113 n sfile) refl moves_q g.needs;
    }

-- ---- the entries

pub some_entries : (edits : List Edit) (number : ℕ) → 0 < number → number ≤ length edits → edits ≡ [] → ⊥
some_entries [] number some there none = omega (arith, some, there)
some_entries (e ∷ edits) number some there none = cc

pub entry_valid : (edits : List Edit) (k : ℕ) (e : Edit) → All IsEdit edits → slice_get edits k ≡ Some e → IsEdit e
entry_valid edits k e are at = at_place edits k (recursion_from_All IsEdit edits are) at
  where
    at_place : (edits : List Edit) (k : ℕ) → AllByRecursion IsEdit edits → slice_get edits k ≡ Some e → IsEdit e
    at_place [] k are at = cc
    at_place (x ∷ edits) zero are at = let same : x ≡ e = cc in subst IsEdit same are.0
    at_place (x ∷ edits) (suc k) are at = at_place edits k are.1 at

-- ---- the new s-file

pub sfile_of : (words : DeltaWords) (stamp : Stamp) (header : Header) (edit : Edit) (base : Base) (orders : List Order)
    (lines serial : ℕ) (nulls sids : List Sid) (counts : Counts) (s : NewSfile) → sids ≡ nulls
    → s.header ≡ header_with header base.got (map (null_delta stamp) sids)
    (entry_delta words stamp edit base.include base.exclude counts)
    → counts ≡ counts_of s.copying.filter.splicer.plan lines → s.copying.filter.splicer ≡ new_splice serial
    (plan orders lines) → serial ≡ suc (newest header.records + length nulls)
    → s.copying.filter.set ≡ base.set → s.sid ≡ edit.made → s.counts ≡ counts
    → IsSfileOf words stamp header edit base orders lines nulls s
sfile_of words stamp header edit base orders lines serial nulls sids counts s sids_are header_is counts_are splicer_is
    serial_is set_is sid_is said =
    let plan_counts : counts ≡ counts_of (plan orders lines) lines = counts_are
    ∙ ap (λ (t : SplicerState). counts_of t.plan lines) splicer_is in
    record {
      header_is = header_is ∙ (ap (λ (l : List Sid). header_with header base.got (map (null_delta stamp) l)
          (entry_delta words stamp edit base.include base.exclude counts)) sids_are
          ∙ ap (λ (k : Counts). header_with header base.got (map (null_delta stamp) nulls)
          (entry_delta words stamp edit base.include base.exclude k)) plan_counts);
      splicer_is = splicer_is ∙ ap (λ k. new_splice k (plan orders lines)) serial_is;
      set_is = set_is;
      sid_is = sid_is;
      counts_is = said ∙ plan_counts;
    }

pub sfile_made : (words : DeltaWords) (stamp : Stamp) (header : Header) (edits edits2 : List Edit) (e edit : Edit)
    (base : Base) (orders : List Order) (lines : ℕ) (nulls : List Sid) (s : NewSfile) (o : Option Edit) → o ≡ Some edit
    → o ≡ Some e → edits2 ≡ edits → nulls_of header edits2 edit ≡ Ok nulls
    → IsSfileOf words stamp header edit base orders lines nulls s → MakesSfile words stamp header edits e base orders
    lines (Ok s)
sfile_made words stamp header edits edits2 e edit base orders lines nulls s o one two same_edits is made =
    let same : edit ≡ e = the_same edit e (sym one ∙ two) in (
      nulls,
      ap (λ (l : List Edit). nulls_of header l e) (sym same_edits) ∙ (ap (nulls_of header edits2) (sym same) ∙ is),
      subst (λ (x : Edit). IsSfileOf words stamp header x base orders lines nulls s) same made,
    )
  where
    the_same : (a b : Edit) → Some a ≡ Some b → a ≡ b
    the_same a b is = cc
