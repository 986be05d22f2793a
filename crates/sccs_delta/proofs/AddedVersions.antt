-- The versions of the file that a delta's step makes.
use Rattle.std.proofs.Common.{◌≡◌, ℕ, zero, suc, ◌+◌, ◌-◌, ◌<◌, ◌≤◌, ◌==◌, Bool, true, false, not, ◌&&◌, ◌||◌, List, []}
use Rattle.std.proofs.Common.{◌∷◌, length, Option, None, Some, Ok, refl, sym, ap, subst, ◌∙◌, cond, find, option_map}
use Rattle.std.proofs.Common.{⊎_elim, arith, eq-eqb}
use Rattle.std.specs.Prelude.{remove, slice_get}
use Rattle.std.specs.List.{AllByRecursion}
use Rattle.std.proofs.lemmas.Bool.{cases_lt, ne_eqb, or_left, or_right}
use Rattle.sccs_base.specs.Login.{IsLogin}
use Rattle.sccs_disk.specs.Files.{Content}
use Rattle.sccs_sid.specs.Moment.{IsMoment}
use Rattle.sccs_sid.specs.declared.moments.Stamp.{Stamp}
use Rattle.sccs_sid.specs.declared.sids.Sid.{Sid}
use Rattle.sccs_script_laws.specs.Places.{places}
use Rattle.sccs_script_laws.specs.Plans.{plan}
use Rattle.sccs_script_laws.specs.declared.scripts.Order.{Order}
use Rattle.sccs_script.proofs.ScriptLines.{have_lines}
use Rattle.sccs_name_files.specs.StepFiles.{Files}
use Rattle.sccs_grammar.specs.File.{Parsed, file_of}
use Rattle.sccs_history.specs.Applied.{applied, live_serials, newest}
use Rattle.sccs_history.specs.Body.{lines_of}
use Rattle.sccs_history.specs.History.{AreLines, same_sid}
use Rattle.sccs_history.specs.Numbers.{has}
use Rattle.sccs_history.specs.Select.{select}
use Rattle.sccs_history.specs.declared.headers.Header.{Header}
use Rattle.sccs_history.specs.declared.headers.Item.{Item}
use Rattle.sccs_history.specs.declared.headers.Record.{Record}
use Rattle.sccs_pfile.specs.Entries.{IsEdit}
use Rattle.sccs_pfile.specs.Recovered.{pfile_of}
use Rattle.sccs_pfile.specs.declared.entries.Edit.{Edit}
use Rattle.sccs_pfile.proofs.EntriesValid.{edits_are}
use Rattle.sccs_pfile.proofs.Recovering.{same_self}
use Rattle.sccs_changes.specs.NewEntries.{kept_g}
use Rattle.sccs_changes.specs.PFiles.{bytes_or_none}
use Rattle.sccs_changes.specs.Pending.{pending_of}
use Rattle.sccs_changes.proofs.StopLaws.{pending_file}
use Rattle.sccs_records.specs.NewDeltas.{with_delta, with_deltas}
use Rattle.sccs_records.specs.declared.new_deltas.Counts.{Counts}
use Rattle.sccs_records.specs.declared.new_deltas.NewDelta.{NewDelta}
use Rattle.sccs_sets.specs.Naming.{named_serials}
use Rattle.sccs_steps.specs.StepEffects.{StepEffect}
use Rattle.sccs_store.specs.SealedFiles.{sealed}
use Rattle.sccs_words.specs.declared.commands.DeltaWords.{DeltaWords}
use Rattle.sccs_delta.specs.DeltaStep.{ChosenEntry, base_lines, entry_base, counts_of, entry_delta, delta_outcome}
use Rattle.sccs_delta.specs.NewVersions.{AddsVersions, MakesVersions, base_text, version_text}
use Rattle.sccs_delta.specs.NullDeltas.{null_deltas, serial_behind, skipped_by, with_nulls}
use Rattle.sccs_delta.specs.declared.entries.Base.{Base}
use Rattle.sccs_delta.proofs.AgreeLaws.{others_agree}
use Rattle.sccs_delta.proofs.DeltaReads.{delta_reads}
use Rattle.sccs_delta.proofs.EntryChains.{has_base}
use Rattle.sccs_delta.proofs.EntryLaws.{HasBase, base_found}
use Rattle.sccs_copies.proofs.FileReads.{IsFileOfRules, file_keeps}
use Rattle.sccs_delta.proofs.NullFits.{rules_kept, same_base, spelling_kept}
use Rattle.sccs_delta.proofs.NullLaws.{newest_deltas, newest_nulls}
use Rattle.sccs_delta.proofs.NullTables.{live_in_turn}
use Rattle.sccs_delta.proofs.NullVersions.{null_version, others_nulls, own_behind}
use Rattle.sccs_delta.proofs.SettleLaws.{room_of}
use Rattle.sccs_delta.proofs.StepParts.{StepParts, base_set_is, entry_numbered, step_parts}
use Rattle.sccs_changes.proofs.PendingReads.{pending_agrees, pending_entries}

-- ---- which serials are live

-- an older serial is live where it was
older_lives : (header : Header) (on m : ℕ) (ds : List NewDelta) → m ≤ newest header.records
    → has (live_serials (with_deltas header on ds).records) m ≡ has (live_serials header.records) m
older_lives header on m [] low = refl
older_lives header on m (d ∷ ds) low =
    older_lives (with_delta header on d) (suc (newest header.records)) m ds (omega (arith, low))
    ∙ ap (λ b. b || has (live_serials header.records) m) (ne_eqb (suc (newest header.records)) m
    (λ e. omega (arith, e, low)))

-- each new one is live
newer_lives : (header : Header) (on k : ℕ) (ds : List NewDelta) → newest header.records < k
    → k ≤ newest header.records + length ds → has (live_serials (with_deltas header on ds).records) k ≡ true
newer_lives header on k [] high low = absurd (omega (arith, high, low))
newer_lives header on k (d ∷ ds) high low =
    ⊎_elim (λ more. newer_lives (with_delta header on d) (suc (newest header.records)) k ds more (omega (arith, low)))
    (λ first. live_in_turn (with_delta header on d) (suc (newest header.records)) ds k
    (or_left (suc (newest header.records) == k) (has (live_serials header.records) k)
    (let same : suc (newest header.records) ≡ k = omega (arith, high, first) in
    eq-eqb (suc (newest header.records)) k same)))
    (cases_lt (suc (newest header.records)) k)

found_first : (r : Record) (records : List Record) (t : Bool) → t ≡ true → option_map (λ (a : Record). a.serial)
    (cond t (Some r) (find (λ (a : Record). not a.removed && same_sid a.sid r.sid) records)) ≡ Some r.serial
found_first r records true is = refl
found_first r records false is = absurd cc

-- ---- the versions

no_list : (records : List Record) (ns : List ℕ) → named_serials records [] [] ≡ Ok ns → ns ≡ []
no_list records ns is = cc

-- of an entry without lists
alone_is : (file : Parsed) (edit : Edit) (base : Base) → HasBase file.header.records edit base → edit.include ≡ []
    → edit.exclude ≡ [] → base_text file base ≡ version_text file base.got
alone_is file edit base is none_in none_out =
    ap (λ (l : List ℕ). select
    (applied (record { target = base.got; include = l; exclude = base.exclude; cutoff = None }) file.header.records)
    (lines_of file.items))
    (no_list file.header.records base.include (ap (λ l. named_serials file.header.records [] l) (sym none_in)
    ∙ is.include))
    ∙ ap (λ (l : List ℕ). select (applied (record { target = base.got; include = []; exclude = l; cutoff = None })
    file.header.records) (lines_of file.items))
    (no_list file.header.records base.exclude (ap (λ l. named_serials file.header.records [] l) (sym none_out)
    ∙ is.exclude))

module _ (file : Parsed) (keeps : IsFileOfRules file) (words : DeltaWords) (stamp : Stamp) (edit : Edit) (base : Base)
    (is : HasBase file.header.records edit base) (sids : List Sid) (few : newest file.header.records
    + length sids < 65535) (counts : Counts) (orders : List Order) where
  abbrev new_delta : NewDelta
  new_delta = entry_delta words stamp edit base.include base.exclude counts

  abbrev nulls : List NewDelta
  nulls = null_deltas stamp sids

  abbrev new_header : Header
  new_header = with_nulls file.header base.got nulls new_delta

  abbrev set : List ℕ
  set = applied (record { target = base.got; include = base.include; exclude = base.exclude; cutoff = None })
      file.header.records

  abbrev after : Parsed
  after = record {
    header = new_header;
    items = places file.items set orders
        (serial_behind file.header base.got nulls);
  }

  older_live : (m : ℕ) → m ≤ newest file.header.records → has (live_serials new_header.records) m ≡ has
      (live_serials file.header.records) m
  older_live m low =
      ap (λ b. b || has (live_serials (with_deltas file.header base.got nulls).records) m)
      (ne_eqb (serial_behind file.header base.got nulls) m
      (λ e. omega (arith, e, low, newest_nulls file.header base.got stamp sids)))
      ∙ older_lives file.header base.got m nulls low

  newer_live : (k : ℕ) → newest file.header.records < k → k ≤ newest new_header.records
      → has (live_serials new_header.records) k ≡ true
  newer_live k high low =
      ⊎_elim (λ last. or_right (serial_behind file.header base.got nulls == k)
      (has (live_serials (with_deltas file.header base.got nulls).records) k)
      (newer_lives file.header base.got k nulls high
      (omega (arith, last, newest_deltas file.header base.got nulls))))
      (λ first. or_left (serial_behind file.header base.got nulls == k)
      (has (live_serials (with_deltas file.header base.got nulls).records) k)
      (let same : serial_behind file.header base.got nulls ≡ k = omega (arith, low, first) in
      eq-eqb (serial_behind file.header base.got nulls) k same))
      (cases_lt k (serial_behind file.header base.got nulls))

  pub added : AddsVersions file after edit base orders
  added = record {
    newer = omega (arith, newest_nulls file.header base.got stamp sids);
    sid = found_first _ (with_deltas file.header base.got nulls).records (same_sid edit.made edit.made)
        (same_self edit.made);
    added_live = newer_live;
    live = older_live;
    own = own_behind stamp file.header base.got sids new_delta file.items orders keeps.header.rules.table keeps.goes few
        is.included is.excluded;
    nulls = λ k high low. null_version stamp file.header base.got sids new_delta file.items orders
        keeps.header.rules.table keeps.goes few k high (omega (arith, low));
    others = others_nulls stamp file.header base.got sids new_delta file.items orders keeps.header.rules.table
        keeps.goes few;
  }

-- ---- the step

module _ (words : DeltaWords) (stamp : Stamp) (moment : IsMoment stamp.moment) (login : IsLogin stamp.login)
    (mrs : AreLines words.mrs) (comment : AreLines words.comment) where
  -- what its parts make
  parts_make : (n i : List ℕ) (f : Files) (s : Content) (effect : StepEffect) → f.s ≡ Some s
      → StepParts words stamp n i f effect → MakesVersions words stamp i f s effect
  parts_make n i f s effect there parts =
      let file = parts.found.parsed in
      let edits = parts.found.edits in
      let e = parts.entry in
      let read : file_of s.bytes ≡ Ok file = pending_file s f.p parts.found
      (subst (λ (o : Option Content). pending_of o f.p ≡ Ok parts.found) there parts.pending) in
      let keeps = file_keeps s.bytes file read in
      let listed = pending_entries f.s f.p parts.found parts.pending in
      let agree = pending_agrees f.s f.p parts.found parts.pending in
      let at = entry_numbered words stamp file.header edits e parts.meant in
      let based = has_base words stamp file.header edits e parts.meant in
      let found = base_found file.header.records edits (e.number - 1) e.edit keeps.header.rules.table.falls agree at in
      let base : HasBase file.header.records e.edit e.base = subst (HasBase file.header.records e.edit)
      (same_base (entry_base file.header.records e.number e.edit) found.0 e.base (found.1.is e.number) based)
      found.1 in
      let room = room_of file.header edits e.edit parts.nulls parts.skipped in
      let lines = length (base_lines file.items e.base) in
      let counts = counts_of (plan parts.orders lines) lines in
      let d = entry_delta words stamp e.edit e.base.include e.base.exclude counts in
      let sids = skipped_by file.header edits e.edit in
      let made = after file keeps words stamp e.edit e.base base sids room.0 counts parts.orders in
      record {
        before = file;
        edits = edits;
        entry = e;
        orders = parts.orders;
        after = made;
        was = read;
        pending = listed;
        meant = parts.meant;
        numbered = at;
        base = record {
          got = base.got;
          include = base.include;
          exclude = base.exclude;
          alone =
              alone_is file e.edit e.base base;
        };
        script = parts.script;
        header = ap (λ (set : List ℕ). with_nulls file.header e.base.got (null_deltas stamp sids)
            (entry_delta words stamp e.edit e.base.include e.base.exclude
            (counts_of (plan parts.orders (length (select set (lines_of file.items))))
            (length (select set (lines_of file.items)))))) (base_set_is file.header.records e.number e.edit e.base
            based);
        serial = ap suc (newest_nulls file.header e.base.got stamp sids);
        files = ap (λ (x : StepEffect). x.new) (sym parts.made)
            ∙ (ap (λ (l : List Sid). files_with file d e l (places file.items e.base.set parts.orders
            (suc (newest file.header.records + length l)))) room.1
            ∙ (ap (λ k. files_with file d e sids (places file.items e.base.set parts.orders (suc k)))
            (sym (newest_nulls file.header e.base.got stamp sids))
            ∙ ap (λ (set : List ℕ). files_with file d e sids (places file.items set parts.orders
            (serial_behind file.header e.base.got (null_deltas stamp sids))))
            (base_set_is file.header.records e.number e.edit e.base based)));
        reads = delta_reads s.bytes file.header file.items e.base.got (null_deltas stamp sids) d _ parts.orders read
            keeps.header
            (rules_kept file.header edits (e.number - 1) e.number e.edit e.base words stamp counts keeps.header agree at
            based room.0)
            (spelling_kept file.header edits e.edit e.base words stamp counts keeps.spelled
            (edit_at IsEdit edits (e.number - 1) e.edit (edits_are (bytes_or_none f.p) edits listed) at) moment
            login mrs comment)
            (have_lines i parts.orders lines parts.script parts.fits);
        left = others_agree stamp file.header e.base.got edits (e.number - 1) e.edit d agree at refl;
        versions = added file keeps words stamp e.edit e.base base sids room.0 counts parts.orders;
      }
    where
      files_with : Parsed → NewDelta → ChosenEntry → List Sid → List Item → Option Files
      files_with file d e sids items =
          Some (record {
            s = Some (sealed (with_nulls file.header e.base.got (null_deltas stamp sids) d) items);
            p =
                pfile_of (remove parts.found.edits (e.number - 1));
            z = None;
            g = kept_g words.keep f.g;
            l = f.l;
          })

      edit_at : (P : Edit → Type 0) (edits : List Edit) (place : ℕ) (edit : Edit) → AllByRecursion P edits
          → slice_get edits place ≡ Some edit → P edit
      edit_at P [] place edit are at = absurd cc
      edit_at P (x ∷ edits) zero edit are at = let same : x ≡ edit = cc in subst P same are.0
      edit_at P (x ∷ edits) (suc place) edit are at = edit_at P edits place edit are.1 at

  pub versions_made : (n i : List ℕ) (f : Files) (s : Content) (effect : StepEffect) → f.s ≡ Some s
      → delta_outcome words stamp n i [] f ≡ Ok effect → MakesVersions words stamp i f s effect
  versions_made n i f s effect there is = parts_make n i f s effect there (step_parts words stamp n i f effect is)
