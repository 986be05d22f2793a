-- A delta that is prepared settles the entries of its name.
use Rattle.std.proofs.Common.{◌≡◌, ℕ, suc, ◌+◌, ◌-◌, ◌<◌, Bool, true, false, All, List, length, map, drop, Option, None}
use Rattle.std.proofs.Common.{Some, Result, Ok, Err, refl, sym, ap, subst, ◌∙◌}
use Rattle.std.specs.Prelude.{IfOk, IfSome, nat_lt, remove}
use Rattle.std.proofs.lemmas.Bool.{leb-true}
use Rattle.sccs_base.specs.Name.{IsSFileName, p_file, q_file, x_file}
use Rattle.sccs_disk.specs.Files.{Content, View}
use Rattle.sccs_disk.specs.Told.{Told, seen}
use Rattle.sccs_sid.specs.declared.moments.Stamp.{Stamp}
use Rattle.sccs_sid.specs.declared.sids.Sid.{Sid}
use Rattle.sccs_sid.specs.declared.refusals.Refusal.{Refusal}
use Rattle.sccs_sid.specs.declared.refusals.Refusal.TheVariants as refusals
use Rattle.sccs_sid.specs.declared.refusals.StepFault.{StepFault}
use Rattle.sccs_sid.specs.Reading.{◌>>=◌}
use Rattle.sccs_script_laws.specs.Places.{places}
use Rattle.sccs_script_laws.specs.Plans.{plan}
use Rattle.sccs_script_laws.specs.declared.scripts.Order.{Order}
use Rattle.sccs_script.specs.Checks.{checked_script}
use Rattle.sccs_script.specs.Commands.{orders_of}
use Rattle.sccs_script.specs.declared.faults.ScriptFault.{ScriptFault}
use Rattle.sccs_script.specs.declared.faults.ScriptFault.TheVariants as faults
use Rattle.sccs_script.proofs.ScriptLines.{have_lines}
use Rattle.sccs_name_files.specs.StepFiles.{Alike, Moves, is_working, look}
use Rattle.sccs_history.specs.Applied.{newest}
use Rattle.sccs_history.specs.History.{IsHeader, IsSpelled}
use Rattle.sccs_history.specs.Numbers.{has}
use Rattle.sccs_history.specs.declared.headers.Flag.{Flag}
use Rattle.sccs_history.specs.declared.headers.Header.{Header}
use Rattle.sccs_history.specs.declared.headers.Item.{Item}
use Rattle.sccs_pfile.specs.Agreement.{Agrees}
use Rattle.sccs_pfile.specs.Entries.{IsEdit}
use Rattle.sccs_pfile.specs.Recovered.{pfile_of}
use Rattle.sccs_pfile.specs.declared.entries.Edit.{Edit}
use Rattle.sccs_table.specs.FrontFile.{IsPlaced}
use Rattle.sccs_table.specs.ReaderState.{bytes_in}
use Rattle.sccs_records.specs.NewDeltas.{null_delta}
use Rattle.sccs_steps.specs.StepEffects.{check}
use Rattle.sccs_steps.specs.StepStops.{ArePaired}
use Rattle.sccs_store.specs.Commits.{chosen, files_after, replaced}
use Rattle.sccs_store.specs.SealedFiles.{sealed}
use Rattle.sccs_store.specs.Stops.{KeepsEntries}
use Rattle.sccs_changes.specs.Changes.{plan_of}
use Rattle.sccs_changes.specs.Stops.{SettlesEntries}
use Rattle.sccs_changes.specs.declared.prepared.Prepared.{Prepared}
use Rattle.sccs_changes.specs.PFiles.{PassesCheck, is_short}
use Rattle.sccs_changes.specs.declared.pending.Pending.{Pending}
use Rattle.sccs_words.specs.declared.commands.DeltaWords.{DeltaWords}
use Rattle.sccs_delta.specs.DeltaStep.{ChosenEntry, base_lines, counts_of, entry_delta, fitted, header_with}
use Rattle.sccs_delta.specs.DeltaStep.{mrs_checked, nulls_of, or_script_fault, sizes_checked}
use Rattle.sccs_delta.specs.NullDeltas.{null_deltas, skipped_by, with_nulls}
use Rattle.sccs_delta.specs.Preparing.{FindsEntry}
use Rattle.sccs_delta.specs.Writing.{script_checked}
use Rattle.sccs_delta.specs.declared.entries.Chosen.{Chosen}
use Rattle.sccs_changes.proofs.Chains.{passed}
use Rattle.sccs_delta.proofs.DeltaStops.{delta_settles_read}
use Rattle.sccs_delta.proofs.EntryChains.{has_base}
use Rattle.sccs_delta.proofs.NullFits.{rules_kept}
use Rattle.sccs_delta.proofs.NullLaws.{newest_nulls}
use Rattle.sccs_delta.proofs.PrepareLaws.{MakesAt, Whole, Writes, body_there, entry_at, g_short}
use Rattle.sccs_changes.proofs.Preparing.{IsRead, settles_told}

-- ---- what was passed

abbrev found_sids : List Sid → Result (List Sid) Refusal
found_sids sids = Ok sids

pub room_of : (header : Header) (edits : List Edit) (edit : Edit) (nulls : List Sid) → nulls_of header edits edit
    ≡ Ok nulls → (newest header.records + length (skipped_by header edits edit) < 65535)
    × (nulls ≡ skipped_by header edits edit)
unfolding nulls_of
room_of header edits edit nulls is =
    let room = passed (check (nat_lt (newest header.records + length (skipped_by header edits edit)) 65535)
    refusals.Full) (λ left. Ok (skipped_by header edits edit)) nulls is in (
      leb-true (suc (newest header.records + length (skipped_by header edits edit))) 65535
          (checked_true (nat_lt (newest header.records + length (skipped_by header edits edit)) 65535) room.0 room.1),
      the_sids (skipped_by header edits edit) nulls room.2,
    )
  where
    checked_true : (b t : Bool) → check b refusals.Full ≡ Ok t → b ≡ true
    checked_true true t is = refl
    checked_true false t is = absurd cc

    the_sids : (a b : List Sid) → found_sids a ≡ found_sids b → b ≡ a
    the_sids a b is = cc

script_ok : (r : Result (Unit {0}) ScriptFault) (x : Unit {0}) → or_script_fault r ≡ Ok x → r ≡ Ok tt
script_ok (Ok tt) x is = refl
script_ok (Err (faults.BadScript line)) x is = absurd cc
script_ok (Err (faults.ScriptRange line lines)) x is = absurd cc
script_ok (Err (faults.BadText line)) x is = absurd cc
script_ok (Err faults.Memory) x is = absurd cc

pub orders_ok : (r : Result (List Order) ScriptFault) (orders : List Order) → or_script_fault r ≡ Ok orders
    → r ≡ Ok orders
orders_ok (Ok x) orders is = let same : x ≡ orders = cc in ap (λ (l : List Order). Ok l) same
orders_ok (Err (faults.BadScript line)) orders is = absurd cc
orders_ok (Err (faults.ScriptRange line lines)) orders is = absurd cc
orders_ok (Err (faults.BadText line)) orders is = absurd cc
orders_ok (Err faults.Memory) orders is = absurd cc

pub fitted_ok : (flags : List Flag) (orders : List Order) (base : List (List ℕ)) (g : Option Content) (t : Bool)
    → fitted flags orders base g ≡ Ok t → checked_script orders (length base) ≡ Ok tt
unfolding fitted
fitted_ok flags orders base g t is = let first = passed (or_script_fault (checked_script orders (length base))) _ t
    is in script_ok (checked_script orders (length base)) first.0 first.1

script_passed : (words : DeltaWords) (header : Header) (items : List Item) (edits : List Edit) (e : ChosenEntry)
    (orders : List Order) (g : Option Content) (nulls : List Sid) → script_checked words header items edits e orders g
    ≡ Ok nulls → (checked_script orders (length (base_lines items e.base)) ≡ Ok tt)
    × (nulls_of header edits e.edit ≡ Ok nulls)
unfolding script_checked
script_passed words header items edits e orders g nulls is =
    let fits = passed (fitted header.flags orders (base_lines items e.base) g) (λ x. mrs_checked header.flags words.mrs
    >>= λ mrs. nulls_of header edits e.edit) nulls is in
    let mrs = passed (mrs_checked header.flags words.mrs) (λ x. nulls_of header edits e.edit) nulls fits.2 in
    (fitted_ok header.flags orders (base_lines items e.base) g fits.0 fits.1, mrs.2)

-- ---- the entries

-- the new p-file has its s-file
paired_there : (n : List ℕ) (p : Prepared) (u : View) (c : Content) → p.new_s ≡ true → u (x_file n) ≡ Some c
    → ArePaired (files_after n (plan_of p) u).s (files_after n (plan_of p) u).p
paired_there n p u c new_s x = λ gone. absurd (none_some (sym (ap (λ b. chosen (replaced b) (u (x_file n)) (u n)) new_s
    ∙ x) ∙ gone))
  where
    none_some : Some c ≡ None → ⊥
    none_some is = cc

-- what follows from a fact on the view that is told
at_view : (o : Option View) (v : View) (P Q : View → Type 0) → o ≡ Some v → P v → IfSome o (λ (w : View). P w → Q w)
    → IfSome o Q
at_view None v P Q is fact told = tt
at_view (Some w) v P Q is fact told = let same : w ≡ v = cc in told (subst P (sym same) fact)

settled : (words : DeltaWords) (stamp : Stamp) (n i : List ℕ) (x : Pending) (c : Chosen) (orders : List Order)
    (p : Prepared) (a b : Told) (v u : View) → IsSFileName n → seen a ≡ Some v → seen b ≡ Some u
    → Alike (is_working n) u v → Whole n i v → (read : IsRead n v x) → IsPlaced x.front → has c.base.set 0 ≡ false
    → IsHeader x.front.header → All IsEdit x.edits → Agrees x.front.header.records x.edits
    → FindsEntry words stamp x.front.header x.edits (Ok c) → or_script_fault (orders_of i) ≡ Ok orders
    → Writes words stamp n x c orders (Ok p) a b
    → KeepsEntries n (plan_of p) u × ArePaired (files_after n (plan_of p) u).s (files_after n (plan_of p) u).p
settled words stamp n i x c orders p a b v u sfile here there alike sizes read placed zero rules valid agree finds is
    writes =
    let e = entry_at c finds.0 in
    let body = body_there (v n) (v (p_file n)) x c.base.set (bytes_in (seen a) n) read placed
    (ap (λ (o : Option View). bytes_in o n) here) zero in
    let told = subst (λ (o : Option View). IfSome o
    (λ (w : View). MakesAt (script_checked words x.front.header read.0.items x.edits e orders (w (drop 2 n))) words
    stamp n x.front.header read.0.items x.edits e orders a b (Ok p))) here
    (at_view (seen a) v (λ w. is_short (w (drop 2 n)) ≡ true)
    (λ w. MakesAt (script_checked words x.front.header read.0.items x.edits e orders (w (drop 2 n))) words stamp n
    x.front.header read.0.items x.edits e orders a b (Ok p)) here (g_short i (look v n) sizes)
    (writes body.0 read.0.items finds.0 body.1 body.2 finds.1)) in
    let passes = script_passed words x.front.header read.0.items x.edits e orders (v (drop 2 n)) told.0 told.1 in
    let room = room_of x.front.header x.edits e.edit told.0 passes.1 in
    let counts = counts_of (plan orders (length (base_lines read.0.items e.base)))
    (length (base_lines read.0.items e.base)) in
    let d = entry_delta words stamp e.edit e.base.include e.base.exclude counts in
    let x_is = subst (λ (o : Option View). IfSome o (λ (w : View). w (x_file n) ≡ Some
    (sealed (header_with x.front.header e.base.got (map (null_delta stamp) told.0) d)
    (places read.0.items e.base.set orders (suc (newest x.front.header.records + length told.0)))))) there
    told.2.x_state in (
      delta_settles_read n x stamp c.number e.base.got e.edit d e.base.set orders p v u read rules valid agree finds.1
          refl
          (rules_kept x.front.header x.edits (c.number - 1) c.number e.edit e.base words stamp counts rules agree
          finds.1 (has_base words stamp x.front.header x.edits e finds.2) room.0)
          (subst (λ (sids : List Sid). IsSpelled (header_with x.front.header e.base.got (map (null_delta stamp) sids)
          d)) room.1 told.2.spelled)
          (have_lines i orders (length (base_lines read.0.items e.base)) (orders_ok (orders_of i) orders is) passes.0)
          (alike (p_file n) refl)
          (subst (λ (sids : List Sid). u (x_file n) ≡ Some
          (sealed (header_with x.front.header e.base.got (map (null_delta stamp) sids) d)
          (places read.0.items e.base.set orders (suc (newest x.front.header.records + length sids))))) room.1 x_is
          ∙ ap (λ k. Some (sealed (with_nulls x.front.header e.base.got
          (null_deltas stamp (skipped_by x.front.header x.edits e.edit)) d) (places read.0.items e.base.set orders
          (suc k)))) (sym (newest_nulls x.front.header e.base.got stamp
          (skipped_by x.front.header x.edits e.edit))))
          told.2.new_s
          (subst (λ (o : Option View). IfSome o (λ (w : View). (kept : Option Content)
          → chosen p.new_p (w (q_file n)) kept ≡ pfile_of (remove x.edits (c.number - 1)))) there told.2.entries),
      paired_there n p u _ told.2.new_s x_is,
    )

pub delta_entries : (words : DeltaWords) (stamp : Stamp) (n i : List ℕ) (x : Pending) (c : Chosen) (orders : List Order)
    (r : Result Prepared StepFault) (o : Option View) (a b : Told) → IsSFileName n → seen a ≡ o
    → IfSome o (λ (v : View). PassesCheck (sizes_checked i (look v n)) (Ok tt)) → IfSome o (λ (v : View). IsRead n v x)
    → IsPlaced x.front → has c.base.set 0 ≡ false → IsHeader x.front.header → All IsEdit x.edits
    → Agrees x.front.header.records x.edits → FindsEntry words stamp x.front.header x.edits (Ok c)
    → or_script_fault (orders_of i) ≡ Ok orders
    → Moves (is_working n) (λ w. w) (seen a) (seen b) → Writes words stamp n x c orders r a b
    → IfOk r (λ p. SettlesEntries n p b)
delta_entries words stamp n i x c orders (Err fault) o a b sfile here sizes read placed zero rules valid agree finds is
    moves writes = tt
delta_entries words stamp n i x c orders (Ok p) o a b sfile here sizes read placed zero rules valid agree finds is moves
    writes =
    settles_told n p (is_working n) a b moves (λ v u is_a is_b alike.
    settled words stamp n i x c orders p a b v u sfile is_a is_b alike
    (subst (λ (w : Option View). IfSome w (λ (y : View). PassesCheck (sizes_checked i (look y n)) (Ok tt))) (sym here
    ∙ is_a) sizes)
    (subst (λ (w : Option View). IfSome w (λ (y : View). IsRead n y x)) (sym here ∙ is_a) read) placed zero rules valid
    agree finds is writes)
