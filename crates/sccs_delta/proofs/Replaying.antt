-- Behind calls of delta each version is its replay.
use Rattle.std.proofs.Common.{◌≡◌, ℕ, suc, ◌<◌, ◌≤◌, ◌&&◌, false, List, [], ◌∷◌, Option, Some, Result, Ok, Err, refl}
use Rattle.std.proofs.Common.{sym, ap, subst, ◌∙◌, ⊎_elim, arith}
use Rattle.std.specs.Prelude.{if◌then◌else◌, nat_le, nat_lt, option_and_then, unwrap_or}
use Rattle.std.specs.List.{AllByRecursion}
use Rattle.std.proofs.lemmas.Bool.{cases_lt, le-leb, lt-leb}
use Rattle.sccs_disk.specs.Files.{Content}
use Rattle.sccs_sid.specs.Reading.{◌>>=◌, is_empty}
use Rattle.sccs_sid.specs.declared.refusals.Refusal.{Refusal}
use Rattle.sccs_sid.specs.declared.sid_lists.Range.{Range}
use Rattle.sccs_history.specs.Applied.{newest}
use Rattle.sccs_history.specs.History.{same_sid}
use Rattle.sccs_grammar.specs.File.{IsSFile, Parsed, file_of}
use Rattle.sccs_grammar.specs.FileRefusals.{or_refusal}
use Rattle.sccs_script_laws.specs.Scripts.{apply}
use Rattle.sccs_script.specs.Commands.{orders_of}
use Rattle.sccs_sets.proofs.Living.{newest_live}
use Rattle.sccs_name_files.specs.StepFiles.{Files}
use Rattle.sccs_pfile.specs.Reading.{edits_of}
use Rattle.sccs_steps.specs.StepEffects.{Outcome, StepEffect}
use Rattle.sccs_store.specs.SealedFiles.{sealed}
use Rattle.sccs_changes.specs.PFiles.{bytes_or_none, or_bad_pfile}
use Rattle.sccs_delta.specs.DeltaStep.{ChosenEntry, chosen_entry, or_script_fault}
use Rattle.sccs_delta.specs.NewVersions.{MakesVersions, base_text, version_text}
use Rattle.sccs_delta.specs.Replays.{CallRead, DeltaCall, IsDeltaCall, ReplaysVersions, Texts, call_read, files_at}
use Rattle.sccs_delta.specs.Replays.{call_outcome, replayed_calls, replayed_base, s_after, s_behind, texts_after}
use Rattle.sccs_delta.specs.Replays.{with_texts}
use Rattle.sccs_delta.proofs.AddedVersions.{versions_made}
use Rattle.sccs_copies.proofs.FileReads.{file_keeps}
use Rattle.sccs_delta.proofs.NullVersions.{older_live}

-- the texts of a file's serials are these
abbrev Follows : Parsed → Texts → Type 0
Follows file texts = (m : ℕ) → m ≤ newest file.header.records → version_text file m ≡ texts m

-- ---- one call

-- what it reads
pub read_is : (s : Content) (c : DeltaCall) (effect : StepEffect) (made : MakesVersions c.words c.stamp c.input
    (files_at s c) s effect)
    → call_read s c ≡ Ok (record { file = made.before; edits = made.edits; entry = made.entry; orders = made.orders })
unfolding call_read
read_is s c effect made =
    ap (λ r. or_refusal r >>= λ file.
    or_bad_pfile (edits_of (bytes_or_none c.p)) >>= λ edits.
    chosen_entry c.words c.stamp file.header edits >>= λ entry.
    or_script_fault (orders_of c.input) >>= λ orders.
    Ok (record { file = file; edits = edits; entry = entry; orders = orders })) made.was
    ∙ (ap (λ r. or_bad_pfile r >>= λ edits.
    chosen_entry c.words c.stamp made.before.header edits >>= λ entry.
    or_script_fault (orders_of c.input) >>= λ orders.
    Ok (record { file = made.before; edits = edits; entry = entry; orders = orders })) made.pending
    ∙ (ap (λ (r : Result ChosenEntry Refusal). r >>= λ entry.
    or_script_fault (orders_of c.input) >>= λ orders.
    Ok (record { file = made.before; edits = made.edits; entry = entry; orders = orders })) made.meant
    ∙ ap (λ r. or_script_fault r >>= λ orders.
    Ok (record { file = made.before; edits = made.edits; entry = made.entry; orders = orders })) made.script))

-- the text on which its delta is made
pub base_replayed : (include exclude : List Range) (shown text : List (List ℕ)) → (include ≡ [] → exclude ≡ []
    → shown ≡ text) → shown ≡ (if is_empty include && is_empty exclude then text else shown)
base_replayed [] [] shown text alone = alone refl refl
base_replayed [] (range ∷ exclude) shown text alone = refl
base_replayed (range ∷ include) exclude shown text alone = refl

-- a serial is an older one, one of the null deltas, or that of the new delta
pub by_age : (old new m : ℕ) (text older null own : List (List ℕ)) → (m ≤ old → text ≡ older)
    → (old < m → m < new → text ≡ null) → (old < m → new ≤ m → text ≡ own) → text ≡ (if nat_le m old then older
    else if nat_lt m new then null else own)
by_age old new m text older null own one two three =
    ⊎_elim (λ high. later high (lt-leb m old high)) (λ low. one low ∙ ap (λ t. if t then older else if nat_lt m new
    then null else own) (sym (le-leb m old low))) (cases_lt old m)
  where
    later : old < m → nat_le m old ≡ false → text ≡ (if nat_le m old then older else if nat_lt m new then null else own)
    later high is =
        ⊎_elim (λ low. two high low ∙ ap (λ t. if t then null else own) (sym (le-leb (suc m) new low)))
        (λ last. three high last ∙ ap (λ t. if t then null else own)
        (sym (lt-leb (suc m) new (omega (arith, last))))) (cases_lt m new)
        ∙ ap (λ t. if t then older else if nat_lt m new then null else own) (sym is)

-- the versions behind a call follow the texts behind it
follows_on : (c : DeltaCall) (s : Content) (effect : StepEffect) (texts : Texts)
    (made : MakesVersions c.words c.stamp c.input (files_at s c) s effect) → Follows made.before texts
    → Follows made.after (with_texts texts
    (record { file = made.before; edits = made.edits; entry = made.entry; orders = made.orders }))
follows_on c s effect texts made follows m low =
    by_age (newest made.before.header.records) _ m (version_text made.after m) (texts m) (texts made.entry.base.got)
    (apply made.orders (replayed_base texts read))
    (λ old. made.versions.others m old ∙ follows m old)
    (λ high within. made.versions.nulls m high (omega (arith, within, made.serial)) ∙ got_follows)
    (λ high last. ap (λ k. version_text made.after k) (let same : m ≡ newest made.after.header.records =
    omega (arith, low, last, made.serial) in same)
    ∙ (made.versions.own ∙ ap (apply made.orders) (base_replayed made.entry.edit.include made.entry.edit.exclude
    (base_text made.before made.entry.base) (texts made.entry.base.got) (λ none_in none_out.
    made.base.alone none_in none_out ∙ got_follows))))
  where
    read : CallRead
    read = record { file = made.before; edits = made.edits; entry = made.entry; orders = made.orders }

    got_follows : version_text made.before made.entry.base.got ≡ texts made.entry.base.got
    got_follows = follows made.entry.base.got (older_live made.before.header.records made.entry.base.got
        (file_keeps s.bytes made.before made.was).header.rules.table
        (newest_live (λ sid. same_sid sid made.entry.edit.got) made.before.header.records made.entry.base.got
        made.base.got))

-- ---- calls one after the other

-- What is so behind calls.
record Replayed (n : List ℕ) (s : Content) (first : Parsed) (texts : Texts) (calls : List DeltaCall) : Type 0 where
  last : Parsed
  reads : IsSFile (s_after n s calls).bytes last.header last.items
  follows : Follows last (replayed_calls n s texts calls)
  grows : newest first.header.records ≤ newest last.header.records
  stay : (m : ℕ) → m ≤ newest first.header.records → version_text last m ≡ version_text first m

-- the same file is read
same_file : (bytes : List ℕ) (a b : Parsed) → file_of bytes ≡ Ok a → file_of bytes ≡ Ok b → a ≡ b
same_file bytes a b one two = let same : Ok a ≡ Ok b = sym one ∙ two in cc

s_is : (s x : Content) (effect : StepEffect) (p z g l : Option Content)
    → effect.new ≡ Some (record { s = Some x; p = p; z = z; g = g; l = l }) → s_behind s (Ok effect) ≡ x
s_is s x effect p z g l is = ap (λ (o : Option Files). unwrap_or (option_and_then (λ (f : Files). f.s) o) s) is

run : (n : List ℕ) (calls : List DeltaCall) (s : Content) (file : Parsed) (texts : Texts) → file_of s.bytes ≡ Ok file
    → Follows file texts → AllByRecursion IsDeltaCall calls → Replayed n s file texts calls
run n [] s file texts is follows are = record {
  last = file;
  reads = is;
  follows = follows;
  grows = omega arith;
  stay =
      λ m low. refl;
}
run n (c ∷ calls) s file texts is follows are =
    by (call_outcome n s c) refl (λ s2 file2 texts2 is2 follows2. run n calls s2 file2 texts2 is2 follows2 are.1)
  where
    made_by : (effect : StepEffect) → call_outcome n s c ≡ Ok effect → MakesVersions c.words c.stamp c.input
        (files_at s c) s effect
    made_by effect accepted = versions_made c.words c.stamp are.0.moment are.0.login are.0.mrs are.0.comment n c.input
        (files_at s c) s effect refl accepted

    before_is : (effect : StepEffect) (accepted : call_outcome n s c ≡ Ok effect)
        → file ≡ (made_by effect accepted).before
    before_is effect accepted = same_file s.bytes file (made_by effect accepted).before is (made_by effect accepted).was

    behind : (s2 : Content) (file2 : Parsed) (texts2 : Texts) → s_behind s (call_outcome n s c) ≡ s2
        → texts_after texts (call_outcome n s c) (call_read s c) ≡ texts2
        → newest file.header.records ≤ newest file2.header.records
        → ((m : ℕ) → m ≤ newest file.header.records → version_text file2 m ≡ version_text file m)
        → Replayed n s2 file2 texts2 calls → Replayed n s file texts (c ∷ calls)
    behind s2 file2 texts2 s_same texts_same grows stays more = record {
      last = more.last;
      reads = subst (λ x. IsSFile (s_after n x calls).bytes more.last.header more.last.items) (sym s_same) more.reads;
      follows = λ m low. more.follows m low ∙ (ap (λ x. replayed_calls n x texts2 calls m) (sym s_same)
          ∙ ap (λ x. replayed_calls n (s_behind s (call_outcome n s c)) x calls m) (sym texts_same));
      grows = omega (arith, grows, more.grows);
      stay = λ m low. more.stay m (omega (arith, low, grows)) ∙ stays m low;
    }

    by : (o : Outcome) → call_outcome n s c ≡ o → ((s2 : Content) (file2 : Parsed) (texts2 : Texts)
        → file_of s2.bytes ≡ Ok file2 → Follows file2 texts2 → Replayed n s2 file2 texts2 calls)
        → Replayed n s file texts (c ∷ calls)
    by (Err refusal) refused more =
        behind s file texts (ap (s_behind s) refused) (ap (λ o. texts_after texts o (call_read s c)) refused)
        (omega arith) (λ m low. refl) (more s file texts is follows)
    by (Ok effect) accepted more =
        let made = made_by effect accepted in
        let same = before_is effect accepted in
        let x = sealed made.after.header made.after.items in
        let read : CallRead = record {
          file = made.before;
          edits = made.edits;
          entry = made.entry;
          orders =
              made.orders;
        } in
        behind x made.after (with_texts texts read) (ap (s_behind s) accepted ∙ s_is s x effect _ _ _ _ made.files)
        (ap (λ o. texts_after texts o (call_read s c)) accepted ∙ ap (λ r. texts_after texts (Ok effect) r)
        (read_is s c effect made))
        (let newer : newest made.before.header.records < newest made.after.header.records = made.versions.newer in
        subst (λ (f : Parsed). newest f.header.records ≤ newest made.after.header.records) (sym same)
        (omega (arith, newer)))
        (subst (λ (f : Parsed). (m : ℕ) → m ≤ newest f.header.records → version_text made.after m ≡ version_text f m)
        (sym same) made.versions.others)
        (more x made.after (with_texts texts read) made.reads (follows_on c s effect texts made
        (subst (λ (f : Parsed). Follows f texts) same follows)))

pub calls_replayed : (n : List ℕ) (s : Content) (file : Parsed) (calls : List DeltaCall)
    → IsSFile s.bytes file.header file.items → AllByRecursion IsDeltaCall calls → ReplaysVersions n s file calls
calls_replayed n s file calls is are =
    let behind = run n calls s file (version_text file) is (λ m low. refl) are in
    record {
      last = behind.last;
      reads = behind.reads;
      versions = λ m live. behind.follows m (older_live behind.last.header.records m
          (file_keeps (s_after n s calls).bytes behind.last behind.reads).header.rules.table live);
      stay = behind.stay;
    }
