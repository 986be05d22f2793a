-- What is left where entries are given up.
use Rattle.std.proofs.Common.{◌≡◌, ◌≢◌, ◌⊎◌, ◌+◌, ℕ, Bool, true, false, ◌&&◌, ◌||◌, cond, List, [], ◌∷◌, ◌++◌, drop}
use Rattle.std.proofs.Common.{take, Option, None, Some, IfSome, Ok, Err, inl, inr, refl, sym, ap, subst, ◌∙◌}
use Rattle.std.proofs.lemmas.List.{take-append-drop, map-append}
use Rattle.std.proofs.lemmas.List.Folds.{list_any-append}
use Rattle.std.specs.List.{AllByRecursion, list_any}
use Rattle.std.specs.Str.{bytes_eq}
use Rattle.sccs_base.specs.Name.{IsName, IsSFileName, is_sfile_name, q_file, sfile_name_decides, x_file, y_file, z_file}
use Rattle.sccs_sid.specs.declared.moments.Stamp.{Stamp}
use Rattle.sccs_sid.specs.declared.refusals.Refusal.{Refusal}
use Rattle.sccs_sid.specs.declared.refusals.StepFault.{StepFault}
use Rattle.sccs_sid.specs.declared.refusals.StepFault.TheVariants.{Refused, Memory, ReadFault, WriteFault, DiskFault}
use Rattle.sccs_base.proofs.SameBytes.{same_bytes}
use Rattle.sccs_disk.specs.Files.{Content, View}
use Rattle.sccs_disk.proofs.Puts.{name_cases}
use Rattle.sccs_name_files.specs.StepFiles.{Alike, Moves, is_left, is_working, l_file}
use Rattle.sccs_steps.specs.StepEffects.{Outcome}
use Rattle.sccs_store.specs.Commits.{Becomes, abandoned}
use Rattle.sccs_store.proofs.Working.{becomes_both, moves_same, moves_then, moves_wider}
use Rattle.sccs_changes.specs.declared.prepared.Prepared.{Prepared}
use Rattle.sccs_group_command.specs.declared.entries.GroupEntry.{GroupEntry}
use Rattle.sccs_group_command.specs.GroupStep.{EntrySteps, entry_outcome, entry_steps, names_of}
use Rattle.sccs_group_command.specs.LFiles.{with_l}
use Rattle.sccs_group_command.specs.Preparing.{AddsEntry, AreDifferent, ArePlain, Between, GivesAllBack, GivesBack}
use Rattle.sccs_group_command.specs.Preparing.{GivesUpAt, IsGivenBack, IsPreparedEntry, PreparesEntry, IsNamed}
use Rattle.sccs_group_command.specs.Preparing.{all_abandoned, is_among, is_any_left, is_any_working, is_sfile_left}
use Rattle.sccs_group_command.specs.Preparing.{is_sfile_working, made_names, sfiles_of, steps_in, IsPlainName}
use Rattle.sccs_group_command.specs.declared.prepared_entries.PreparedEntry.{PreparedEntry}
use Rattle.sccs_group_command.proofs.EntryEnds.{sfile_alike, sfile_back}
use Rattle.sccs_group_command.proofs.GroupNames.{named_sfiles}
use Rattle.sccs_group_command.proofs.SoFars.{AreHeld, SoFar, different_at, left_in, next_outcome, plain_at}
use Rattle.sccs_group_command.proofs.SoFars.{prepared_next}
use Rattle.sccs_group_command.proofs.StepsAhead.{put_all, refused_next}
use Rattle.std.proofs.lemmas.Bool.{or_from}
use Rattle.sccs_base.proofs.Bools.{right_false, left_false}

-- ---- one name

gone_by : (x q y z : Bool) (o : Option Content) → ((x || (q || y)) || z) ≡ true
    → cond z None (cond y None (cond q None (cond x None o))) ≡ None
gone_by x q y true o is = refl
gone_by x q true false o is = refl
gone_by x true false false o is = refl
gone_by true false false false o is = refl
gone_by false false false false o is = cc

kept_by : (x q y z : Bool) (o : Option Content) → ((x || (q || y)) || z) ≡ false
    → cond z None (cond y None (cond q None (cond x None o))) ≡ o
kept_by false false false false o is = refl
kept_by true q y z o is = absurd (cc)
kept_by false true y z o is = absurd (cc)
kept_by false false true z o is = absurd (cc)
kept_by false false false true o is = absurd (cc)

gone_at : (n : List ℕ) (v : View) (k : List ℕ) → is_left n k ≡ true → abandoned n v k ≡ None
gone_at n v k h = gone_by (bytes_eq (x_file n) k) (bytes_eq (q_file n) k) (bytes_eq (y_file n) k)
    (bytes_eq (z_file n) k) (v k) h

kept_at : (n : List ℕ) (v : View) (k : List ℕ) → is_left n k ≡ false → abandoned n v k ≡ v k
kept_at n v k h = kept_by (bytes_eq (x_file n) k) (bytes_eq (q_file n) k) (bytes_eq (y_file n) k)
    (bytes_eq (z_file n) k) (v k) h

-- a left file that is no working file is the z-file
pub z_or_not : (n k : List ℕ) → is_working n k ≡ false → (z_file n ≡ k) ⊎ (is_left n k ≡ false)
z_or_not n k h = by (name_cases (z_file n) k)
  where
    by : (z_file n ≡ k) ⊎ (bytes_eq (z_file n) k ≡ false) → (z_file n ≡ k) ⊎ (is_left n k ≡ false)
    by (inl is) = inl is
    by (inr other) = inr (or_from (is_working n k) _ h other)

working_left : (n k : List ℕ) → is_working n k ≡ true → is_left n k ≡ true
working_left n k h = ap (λ (b : Bool). b || bytes_eq (z_file n) k) h

-- what was prepared of a name is given up
given_back : (n : List ℕ) (u v : View) → u (z_file n) ≡ None → Alike (is_left n) v u → IsGivenBack (is_working n) u
    (abandoned n v)
given_back n u v free alike =
    record { view = λ k h. by k (z_or_not n k h); cleared = λ k h. inl (gone_at n v k (working_left n k h)) }
  where
    by : (k : List ℕ) → (z_file n ≡ k) ⊎ (is_left n k ≡ false) → abandoned n v k ≡ u k
    by k (inl is) = subst (λ (l : List ℕ). abandoned n v l ≡ u l) is (gone_at n v (z_file n) (z_left n) ∙ sym free)
      where
        z_left : (m : List ℕ) → is_left m (z_file m) ≡ true
        z_left m = same_bytes (z_file m)
    by k (inr out) = kept_at n v k out ∙ alike k out

-- a name that is prepared wasn't locked
pub told_free : (o : View → Outcome) (n : List ℕ) (p : Prepared) (ou ov : Option View)
    → Between (λ u v. IsPreparedEntry u v n p (o u)) ou ov → IfSome ou (λ (u : View). u (z_file n) ≡ None)
told_free o n p None ov one = tt
told_free o n p (Some u) None one = absurd one
told_free o n p (Some u) (Some v) one = one.held.free

fits_named : (n : List ℕ) → IsName n → IsSFileName n → is_sfile_name n ≡ true
fits_named n name sfile = (sfile_name_decides n).1 (name, sfile)

-- memory is wanting for the list
pub memory_back : (o : View → Outcome) (n : List ℕ) (p : Prepared) (made all : List PreparedEntry) (r : StepFault)
    (ou ov ow : Option View) → Between (λ u v. IsPreparedEntry u v n p (o u)) ou ov → GivesBack r Memory n ov ow
    → Between (λ u w. AddsEntry (Err r) n (o u) made all u w) ou ow
memory_back o n p made all r None ov ow one gives = tt
memory_back o n p made all r (Some u) None ow one gives = absurd one
memory_back o n p made all r (Some u) (Some v) ow one (inl gone) =
    subst (λ (f : StepFault). Between (λ u w. AddsEntry (Err f) n (o u) made all u w) (Some u) ow) (sym gone.0)
    (subst (λ (x : Option View). Between (λ u w. AddsEntry (Err Memory) n (o u) made all u w) (Some u) x) (sym gone.2)
    (sfile_back n u (abandoned n v) (fits_named n one.held.name one.held.sfile)
    (given_back n u v one.held.free one.view)))
memory_back o n p made all r (Some u) (Some v) None one (inr broken) = absurd broken.1
memory_back o n p made all r (Some u) (Some v) (Some w) one (inr broken) =
    subst (λ (f : StepFault). AddsEntry (Err f) n (o u) made all u w) (sym broken.0)
    (sfile_alike n u w (fits_named n one.held.name one.held.sfile) (λ k h. broken.1 k h ∙ one.view k h))

-- ---- all names

pub all_kept : (names : List (List ℕ)) (v : View) (k : List ℕ) → is_any_left names k ≡ false → all_abandoned names v k
    ≡ v k
all_kept [] v k h = refl
all_kept (n ∷ names) v k h = all_kept names (abandoned n v) k (right_false (is_left n k) _ h)
    ∙ kept_at n v k (left_false (is_left n k) _ h)

pub all_gone : (names : List (List ℕ)) (v : View) (k : List ℕ) → is_any_left names k ≡ true → all_abandoned names v k
    ≡ None
all_gone [] v k h = absurd (cc)
all_gone (n ∷ names) v k h = by (is_any_left names k) refl (λ later. all_gone names (abandoned n v) k later)
  where
    first : (b c : Bool) → (b || c) ≡ true → c ≡ false → b ≡ true
    first true c is none = refl
    first false true is none = absurd (cc)
    first false false is none = absurd (cc)

    by : (b : Bool) → is_any_left names k ≡ b → (is_any_left names k ≡ true → all_abandoned names (abandoned n v) k
        ≡ None) → all_abandoned names (abandoned n v) k ≡ None
    by true is rest = rest is
    by false is rest = all_kept names (abandoned n v) k is
        ∙ gone_at n v k (first (is_left n k) (is_any_left names k) h is)

-- a left file of a held name that is no working file wasn't there
pub z_free : (made : List PreparedEntry) (u v : View) (k : List ℕ) → AreHeld u v made → is_any_left (made_names made) k
    ≡ true → is_any_working (made_names made) k ≡ false → u k ≡ None
z_free [] u v k held left free = absurd (cc)
z_free (x ∷ made) u v k held left free = by (z_or_not x.name k (left_false (is_working x.name k) _ free))
    (λ later. z_free made u v k held.1 later (right_false (is_working x.name k) _ free))
  where
    later_one : (b c : Bool) → (b || c) ≡ true → b ≡ false → c ≡ true
    later_one true c is none = absurd (cc)
    later_one false c is none = is

    by : (z_file x.name ≡ k) ⊎ (is_left x.name k ≡ false) → (is_any_left (made_names made) k ≡ true → u k ≡ None)
        → u k ≡ None
    by (inl is) rest = subst (λ (l : List ℕ). u l ≡ None) is held.0.free
    by (inr out) rest = rest (later_one (is_left x.name k) _ left out)

-- ---- the names of a group

-- some name of an s-file
any_sfiles : (P : List ℕ → Bool) (names : List (List ℕ)) → list_any P (sfiles_of names) ≡ list_any
    (λ (n : List ℕ). is_sfile_name n && P n) names
any_sfiles P [] = refl
any_sfiles P (n ∷ names) = by (is_sfile_name n) (any_sfiles P names)
  where
    by : (fits : Bool) → list_any P (sfiles_of names) ≡ list_any (λ (m : List ℕ). is_sfile_name m && P m) names
        → list_any P (cond fits (n ∷ sfiles_of names) (sfiles_of names)) ≡ ((fits && P n) || list_any
        (λ (m : List ℕ). is_sfile_name m && P m) names)
    by true rest = ap (λ (b : Bool). P n || b) rest
    by false rest = rest

-- of those that are prepared, and the next one
parts_at : (P : List ℕ → Bool) (entries : List GroupEntry) (i : ℕ) (made : List PreparedEntry) (e : GroupEntry)
    (rest : List GroupEntry) → drop i entries ≡ e ∷ rest → made_names made ≡ names_of (take i entries)
    → AllByRecursion IsNamed (made_names made) → list_any P (sfiles_of (names_of entries)) ≡ false
    → (list_any P (made_names made) ≡ false) × ((is_sfile_name e.name && P e.name) ≡ false)
parts_at P entries i made e rest at are named h =
    let Q : (List ℕ → Bool) = λ n. is_sfile_name n && P n in
    let whole : entries ≡ take i entries ++ e ∷ rest = sym (take-append-drop i entries)
    ∙ ap (λ (es : List GroupEntry). take i entries ++ es) at in
    let names : names_of entries ≡ names_of (take i entries) ++ names_of (e ∷ rest) = ap names_of whole
    ∙ map-append (λ (x : GroupEntry). x.name) (take i entries) (e ∷ rest) in
    let both = sym (list_any-append Q (names_of (take i entries)) (names_of (e ∷ rest)))
    ∙ (sym (ap (λ (ns : List (List ℕ)). list_any Q ns) names) ∙ (sym (any_sfiles P (names_of entries)) ∙ h)) in (
      sym (ap (λ (ns : List (List ℕ)). list_any P ns) (named_sfiles (made_names made) named))
          ∙ (any_sfiles P (made_names made) ∙ (ap (λ (ns : List (List ℕ)). list_any Q ns) are
          ∙ left_false (list_any Q (names_of (take i entries))) _ both)),
      left_false (Q e.name) _ (right_false (list_any Q (names_of (take i entries))) _ both),
    )

made_named : (made : List PreparedEntry) (u v : View) → AreHeld u v made → AllByRecursion IsNamed (made_names made)
made_named [] u v held = tt
made_named (x ∷ made) u v held = ((held.0.name, held.0.sfile), made_named made u v held.1)

pub left_of : (entries : List GroupEntry) (i : ℕ) (e : GroupEntry) (rest : List GroupEntry) (k : List ℕ)
    → drop i entries ≡ e ∷ rest → is_any_left (names_of entries) k ≡ false
    → (is_any_left (names_of (take i entries)) k ≡ false) × (is_left e.name k ≡ false)
left_of entries i e rest k at h =
    let whole : entries ≡ take i entries ++ e ∷ rest = sym (take-append-drop i entries)
    ∙ ap (λ (es : List GroupEntry). take i entries ++ es) at in
    let names : names_of entries ≡ names_of (take i entries) ++ names_of (e ∷ rest) = ap names_of whole
    ∙ map-append (λ (x : GroupEntry). x.name) (take i entries) (e ∷ rest) in
    let both = sym (list_any-append (λ (n : List ℕ). is_left n k) (names_of (take i entries)) (names_of (e ∷ rest)))
    ∙ (sym (ap (λ (ns : List (List ℕ)). is_any_left ns k) names) ∙ h) in (
      left_false (is_any_left (names_of (take i entries)) k) _ both,
      left_false (is_left e.name k) _
          (right_false (is_any_left (names_of (take i entries)) k) _ both),
    )

-- all that was prepared is given up
all_back : (names : List (List ℕ)) (made : List PreparedEntry) (n : List ℕ) (u v w : View)
    → ((k : List ℕ) → is_any_working names k ≡ false → (is_any_working (made_names made) k ≡ false)
    × (is_sfile_working n k ≡ false)) → AreHeld u v made
    → Alike (is_any_left (made_names made)) v u → IsGivenBack (is_sfile_working n) v w
    → IsGivenBack (is_any_working names) u (all_abandoned (made_names made) w)
all_back names made n u v w parts held alike back =
    record {
      view = λ k h. view_at k (parts k h) (is_any_left (made_names made) k) refl;
      cleared =
          λ k h. clear_at k (is_any_left (made_names made) k) refl (is_sfile_working n k) refl;
    }
  where
    view_at : (k : List ℕ) → (is_any_working (made_names made) k ≡ false) × (is_sfile_working n k ≡ false) → (b : Bool)
        → is_any_left (made_names made) k ≡ b → all_abandoned (made_names made) w k ≡ u k
    view_at k free true is = all_gone (made_names made) w k is ∙ sym (z_free made u v k held is free.0)
    view_at k free false is = all_kept (made_names made) w k is ∙ (back.view k free.1 ∙ alike k is)

    own_at : (k : List ℕ) → is_any_left (made_names made) k ≡ false → (w k ≡ None) ⊎ (w k ≡ v k)
        → (all_abandoned (made_names made) w k ≡ None) ⊎ (all_abandoned (made_names made) w k ≡ u k)
    own_at k out (inl gone) = inl (all_kept (made_names made) w k out ∙ gone)
    own_at k out (inr same) = inr (all_kept (made_names made) w k out ∙ (same ∙ alike k out))

    clear_at : (k : List ℕ) → (b : Bool) → is_any_left (made_names made) k ≡ b → (c : Bool) → is_sfile_working n k ≡ c
        → (all_abandoned (made_names made) w k ≡ None) ⊎ (all_abandoned (made_names made) w k ≡ u k)
    clear_at k true is c own = inl (all_gone (made_names made) w k is)
    clear_at k false is true own = own_at k is (back.cleared k own)
    clear_at k false is false own = own_at k is (inr (back.view k own))

sfile_part : (fits a b : Bool) → (fits && (a || b)) ≡ false → (fits && a) ≡ false
sfile_part true a b h = left_false a b h
sfile_part false a b h = refl

-- at most left files of the entry have changed, however preparing it failed
err_alike : (fault : StepFault) (n : List ℕ) (o : Outcome) (v w : View) → PreparesEntry (Err fault) n o v w
    → Alike (is_sfile_left n) w v
err_alike (Refused refusal) n o v w ends = λ k h. ends.1.view k (sfile_part (is_sfile_name n) (is_working n k) _ h)
err_alike Memory n o v w ends = λ k h. ends.view k (sfile_part (is_sfile_name n) (is_working n k) _ h)
err_alike ReadFault n o v w ends = absurd ends
err_alike WriteFault n o v w ends = absurd ends
err_alike DiskFault n o v w ends = ends

-- where preparing an entry failed, and those before it are given up
ended_by : (names : List (List ℕ)) (made : List PreparedEntry) (n : List ℕ) (fault : StepFault) (o : Outcome)
    (steps : EntrySteps) (u v w : View) → ((k : List ℕ) → is_any_working names k ≡ false
    → (is_any_working (made_names made) k ≡ false) × (is_sfile_working n k ≡ false))
    → ((refusal : Refusal) → o ≡ Err refusal → steps ≡ Err (record { name = n; refusal = refusal })) → AreHeld u v made
    → Alike (is_any_left (made_names made)) v u → fault ≢ DiskFault → PreparesEntry (Err fault) n o v w
    → GivesUpAt fault n names steps u (all_abandoned (made_names made) w)
ended_by names made n (Refused refusal) o steps u v w parts refused held alike disk ends =
    (refused refusal ends.0, all_back names made n u v w parts held alike ends.1)
ended_by names made n Memory o steps u v w parts refused held alike disk ends =
    all_back names made n u v w parts held alike ends
ended_by names made n ReadFault o steps u v w parts refused held alike disk ends = absurd ends
ended_by names made n WriteFault o steps u v w parts refused held alike disk ends = absurd ends
ended_by names made n DiskFault o steps u v w parts refused held alike disk ends = absurd (disk refl)

broke_by : (names : List (List ℕ)) (made : List PreparedEntry) (n : List ℕ) (fault : StepFault) (o : Outcome)
    (steps : EntrySteps) (u v w x : View) → ((k : List ℕ) → is_any_left names k ≡ false
    → (is_any_left (made_names made) k ≡ false) × (is_sfile_left n k ≡ false))
    → Alike (is_any_left (made_names made)) v u → PreparesEntry (Err fault) n o v w
    → Alike (is_any_left (made_names made)) x w → GivesUpAt DiskFault n names steps u x
broke_by names made n fault o steps u v w x parts alike ends broken = λ k h.
    let free = parts k h in
    broken k free.0 ∙ (err_alike fault n o v w ends k free.1 ∙ alike k free.0)

given_up_in : (stamp : Stamp) (entries : List GroupEntry) (i : ℕ) (made : List PreparedEntry) (e : GroupEntry)
    (fault r : StepFault) (u v w : View) (ox : Option View) → (is_sfile_name e.name ≡ true → IsSFileName e.name)
    → AreDifferent (names_of entries) → ArePlain (names_of entries)
    → drop i entries ≡ e ∷ drop (i + 1) entries → SoFar stamp entries i made u v → PreparesEntry (Err fault) e.name
    (entry_outcome stamp v e) v w → GivesAllBack r fault (made_names made) (Some w) ox
    → Between (λ u x. GivesUpAt r e.name (sfiles_of (names_of entries)) (entry_steps stamp u entries) u x) (Some u) ox
given_up_in stamp entries i made e fault r u v w ox fits different plain at far ends gives = by gives
  where
    apart : is_among (made_names made) e.name ≡ false
    apart = subst (λ (names : List (List ℕ)). is_among names e.name ≡ false) (sym far.names_are)
        (different_at entries i e (drop (i + 1) entries) different at).0

    plains : IsPlainName e.name × ArePlain (names_of (drop (i + 1) entries)) × ArePlain (names_of (take i entries))
    plains = plain_at entries i e (drop (i + 1) entries) plain at

    outcome : (refusal : Refusal) → entry_outcome stamp v e ≡ Err refusal → entry_outcome stamp (left_in v u made) e
        ≡ Err refusal
    outcome refusal is =
        next_outcome stamp made e u v fits apart plains.0 (subst ArePlain (sym far.names_are) plains.2) far.held
        far.view ∙ ap (with_l (left_in v u made (l_file e.name))) is

    refused : (refusal : Refusal) → entry_outcome stamp v e ≡ Err refusal → entry_steps stamp u entries ≡ Err
        (record { name = e.name; refusal = refusal })
    refused refusal is =
        far.steps ∙ (ap (λ (es : List GroupEntry). put_all (steps_in v u made)
        (entry_steps stamp (left_in v u made) es)) at
        ∙ refused_next stamp (steps_in v u made) e (drop (i + 1) entries) (left_in v u made) refusal
        (outcome refusal is))

    named : AllByRecursion IsNamed (made_names made)
    named = made_named made u v far.held

    working : (k : List ℕ) → is_any_working (sfiles_of (names_of entries)) k ≡ false
        → (is_any_working (made_names made) k ≡ false) × (is_sfile_working e.name k ≡ false)
    working k h = parts_at (λ n. is_working n k) entries i made e (drop (i + 1) entries) at far.names_are named h

    left : (k : List ℕ) → is_any_left (sfiles_of (names_of entries)) k ≡ false
        → (is_any_left (made_names made) k ≡ false) × (is_sfile_left e.name k ≡ false)
    left k h = parts_at (λ n. is_left n k) entries i made e (drop (i + 1) entries) at far.names_are named h

    broke : (x : Option View) → Moves (is_any_left (made_names made)) (λ v. v) (Some w) x
        → Between (λ u x. GivesUpAt DiskFault e.name (sfiles_of (names_of entries)) (entry_steps stamp u entries) u x)
        (Some u) x
    broke None moves = absurd moves
    broke (Some x) moves = broke_by (sfiles_of (names_of entries)) made e.name fault (entry_outcome stamp v e)
        (entry_steps stamp u entries) u v w x left far.view ends moves

    by : ((r ≡ fault) × (fault ≢ DiskFault) × Becomes (all_abandoned (made_names made)) (Some w) ox)
        ⊎ ((r ≡ DiskFault) × Moves (is_any_left (made_names made)) (λ v. v) (Some w) ox)
        → Between (λ u x. GivesUpAt r e.name (sfiles_of (names_of entries)) (entry_steps stamp u entries) u x)
        (Some u) ox
    by (inl gone) =
        subst (λ (f : StepFault). Between (λ u x. GivesUpAt f e.name (sfiles_of (names_of entries))
        (entry_steps stamp u entries) u x) (Some u) ox) (sym gone.0)
        (subst (λ (x : Option View). Between (λ u x. GivesUpAt fault e.name (sfiles_of (names_of entries))
        (entry_steps stamp u entries) u x) (Some u) x) (sym gone.2)
        (ended_by (sfiles_of (names_of entries)) made e.name fault (entry_outcome stamp v e)
        (entry_steps stamp u entries) u v w working refused far.held far.view gone.1 ends))
    by (inr broken) = subst (λ (f : StepFault). Between (λ u x. GivesUpAt f e.name (sfiles_of (names_of entries))
        (entry_steps stamp u entries) u x) (Some u) ox) (sym broken.0) (broke ox broken.1)

-- the same of what is told
pub given_up_at : (stamp : Stamp) (entries : List GroupEntry) (i : ℕ) (made : List PreparedEntry)
    (all : List PreparedEntry) (e : GroupEntry) (fault r : StepFault) (ou ov ow ox : Option View)
    → (is_sfile_name e.name ≡ true → IsSFileName e.name) → AreDifferent (names_of entries) → ArePlain (names_of entries)
    → drop i entries ≡ e ∷ drop (i + 1) entries → Between (SoFar stamp entries i made) ou ov
    → Between (λ v w. AddsEntry (Err fault) e.name (entry_outcome stamp v e) made all v w) ov ow
    → GivesAllBack r fault (made_names made) ow ox
    → Between (λ u x. GivesUpAt r e.name (sfiles_of (names_of entries)) (entry_steps stamp u entries) u x) ou ox
given_up_at stamp entries i made all e fault r None ov ow ox fits different plain at far ends gives = tt
given_up_at stamp entries i made all e fault r (Some u) None ow ox fits different plain at far ends gives = absurd far
given_up_at stamp entries i made all e fault r (Some u) (Some v) None ox fits different plain at far ends gives =
    absurd ends
given_up_at stamp entries i made all e fault r (Some u) (Some v) (Some w) ox fits different plain at far ends gives =
    given_up_in stamp entries i made e fault r u v w ox fits different plain at far ends gives

-- the next entry is put behind the others
pub added_at : (stamp : Stamp) (entries : List GroupEntry) (i : ℕ) (made all : List PreparedEntry) (e : GroupEntry)
    (done : Unit {0}) (ou ov ow : Option View) → (is_sfile_name e.name ≡ true → IsSFileName e.name)
    → AreDifferent (names_of entries) → ArePlain (names_of entries)
    → drop i entries ≡ e ∷ drop (i + 1) entries → take (i + 1) entries ≡ take i entries ++ e ∷ []
    → Between (SoFar stamp entries i made) ou ov
    → Between (λ v w. AddsEntry (Ok done) e.name (entry_outcome stamp v e) made all v w) ov ow
    → Between (SoFar stamp entries (i + 1) all) ou ow
added_at stamp entries i made all e done None ov ow fits different plain at more far ends = tt
added_at stamp entries i made all e done (Some u) None ow fits different plain at more far ends = absurd far
added_at stamp entries i made all e done (Some u) (Some v) None fits different plain at more far ends = absurd ends
added_at stamp entries i made all e done (Some u) (Some v) (Some w) fits different plain at more far ends =
    subst (λ (l : List PreparedEntry). SoFar stamp entries (i + 1) l u w) (sym ends.1)
    (prepared_next stamp entries i made e ends.0 u v w fits different plain at more far ends.2)

-- ---- giving up names in turn

moves_of_gone : (n : List ℕ) (o o2 : Option View) → Becomes (abandoned n) o o2 → Moves (is_left n) (λ v. v) o o2
moves_of_gone n None o2 gone = gone
moves_of_gone n (Some v) o2 gone = subst (λ (o : Option View). Moves (is_left n) (λ u. u) (Some v) o) (sym gone)
    (λ k h. kept_at n v k h)

-- a name, and those behind it
pub back_then : (r f fault : StepFault) (n : List ℕ) (names : List (List ℕ)) (a b c : Option View)
    → GivesBack f fault n a b → GivesAllBack r f names b c → GivesAllBack r fault (n ∷ names) a c
back_then r f fault n names a b c (inl gone) (inl all) = inl (
  all.0 ∙ gone.0,
  gone.1,
  becomes_both (abandoned n)
      (all_abandoned names) a b c gone.2 all.2,
)
back_then r f fault n names a b c (inl gone) (inr broken) =
    inr (
      broken.0,
      moves_then (is_any_left (n ∷ names)) a b c (moves_wider (is_left n) (is_any_left (n ∷ names)) a b
          (λ k h. left_false (is_left n k) _ h) (moves_of_gone n a b gone.2)) (moves_wider (is_any_left names)
          (is_any_left (n ∷ names)) b c (λ k h. right_false (is_left n k) _ h) broken.1),
    )
back_then r f fault n names a b c (inr broken) (inl all) = absurd (all.1 broken.0)
back_then r f fault n names a b c (inr broken) (inr more) =
    inr (
      more.0,
      moves_then (is_any_left (n ∷ names)) a b c (moves_wider (is_left n) (is_any_left (n ∷ names)) a b
          (λ k h. left_false (is_left n k) _ h) broken.1) (moves_wider (is_any_left names) (is_any_left (n ∷ names)) b c
          (λ k h. right_false (is_left n k) _ h) more.1),
    )

same_becomes : (o : Option View) → Becomes (λ v. v) o o
same_becomes None = refl
same_becomes (Some v) = refl

pub none_back : (r : StepFault) (o : Option View) → GivesAllBack r r [] o o
none_back (Refused refusal) o = inl (refl, λ is. cc, same_becomes o)
none_back Memory o = inl (refl, λ is. cc, same_becomes o)
none_back ReadFault o = inl (refl, λ is. cc, same_becomes o)
none_back WriteFault o = inl (refl, λ is. cc, same_becomes o)
none_back DiskFault o = inr (refl, moves_same (is_any_left []) o)
