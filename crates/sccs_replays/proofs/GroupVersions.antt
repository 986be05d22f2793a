-- What a group makes of the versions of an s-file: what the deltas of its entries make of them.
use Rattle.std.proofs.Common.{◌≡◌, ℕ, zero, suc, Bool, true, false, ◌&&◌, List, [], ◌∷◌, ◌++◌, codes, drop, length}
use Rattle.std.proofs.Common.{take, map, Some, Result, Ok, Err, inr, refl, sym, ap, subst, ◌∙◌}
use Rattle.std.specs.Prelude.{if◌then◌else◌, is_some, nat_lt, flat_map, not}
use Rattle.std.specs.List.{AllByRecursion}
use Rattle.sccs_base.specs.Constants.{file_limit}
use Rattle.sccs_base.specs.Cut.{text_of}
use Rattle.sccs_base.specs.Login.{IsLogin}
use Rattle.sccs_base.specs.Name.{IsSFileName, is_sfile_name}
use Rattle.sccs_disk.specs.Files.{Folder, view_in, View}
use Rattle.sccs_sid.specs.Moment.{IsMoment}
use Rattle.sccs_sid.specs.Refusal.{refusal_line}
use Rattle.sccs_sid.specs.declared.refusals.Refusal.TheVariants.{TooLong, BadName, GroupPending}
use Rattle.sccs_words.specs.declared.commands.Command.{Command}
use Rattle.sccs_words.specs.declared.commands.Command.TheVariants as c
use Rattle.sccs_name_files.specs.StepFiles.{look, moved_in, moved}
use Rattle.sccs_steps.specs.StepLists.{NamedStep, folder_after, Move, all_moved_in, moves_of, named_step, step_in}
use Rattle.sccs_delta.specs.DeltaStep.{delta_change}
use Rattle.sccs_delta.specs.Replays.{Texts}
use Rattle.sccs_step_lists.specs.StepLists.{StepLists, said, saying, steps_along}
use Rattle.sccs_top.specs.Runs.{Caller, action_of, caller}
use Rattle.sccs_replays.specs.PastRuns.{HasVersions, versions_after_step, versions_after_steps, deltas_in, deltas_read}
use Rattle.sccs_replays.specs.PastRuns.{group_entries, entries_read, versions_after_deltas, versions_with}
use Rattle.sccs_replays.proofs.MadeSteps.{IsStepOf}
use Rattle.sccs_replays.proofs.MeantValues.{HasMeantValues, group_values}
use Rattle.sccs_sid.specs.Reading.{is_empty}
use Rattle.sccs_sid.specs.declared.refusals.Refusal.{Refusal}
use Rattle.sccs_name_files.proofs.Folders.{moved_view}
use Rattle.sccs_intents.specs.Intents.{intent_file}
use Rattle.sccs_crash_points.specs.Recovery.{is_kept}
use Rattle.sccs_steps.specs.StepEffects.{Outcome, StepEffect}
use Rattle.sccs_changes.specs.Changes.{locking_step}
use Rattle.sccs_group_command.specs.GroupText.{group_of}
use Rattle.sccs_group_command.specs.declared.entries.GroupEntry.{GroupEntry}
use Rattle.sccs_group_command.specs.GroupStep.{EntrySteps, entry_outcome, entry_steps, go_on, group_step, joined}
use Rattle.sccs_group_command.specs.GroupStep.{joint_step, names_of, put_first, refused_step, unmoved}
use Rattle.sccs_group_command.specs.GroupStepLists.{bad_line, group_step_list, read_step_list}
use Rattle.sccs_top.specs.declared.commands.GroupUse.TheVariants as uses
use Rattle.sccs_replays.proofs.CommandSteps.{step_goes}

-- ---- the deltas

delta_step : (who : Caller) (m : Folder) (e : GroupEntry) (d : StepEffect) → entry_outcome who.stamp (view_in m) e
    ≡ Ok d
    → IsStepOf (action_of (caller who.stamp who.place) (c.Delta e.words e.name)) e.script m (named_step e.name (Ok d))
unfolding entry_outcome
delta_step who m e d are = by (is_sfile_name e.name) refl
  where
    made : (b : Bool) → (if b then locking_step (delta_change e.words who.stamp).outcome e.name e.script []
        (look (view_in m) e.name) else Err BadName) ≡ Ok d → b ≡ true
        → locking_step (delta_change e.words who.stamp).outcome e.name e.script [] (look (view_in m) e.name) ≡ Ok d
    made true is so = is
    made false is so = absurd cc

    refuses : (b : Bool) → (if b then locking_step (delta_change e.words who.stamp).outcome e.name e.script []
        (look (view_in m) e.name) else Err BadName) ≡ Ok d → b ≡ false → ⊥
    refuses true is so = absurd cc
    refuses false is so = absurd cc

    by : (b : Bool) → is_sfile_name e.name ≡ b
        → IsStepOf (action_of (caller who.stamp who.place) (c.Delta e.words e.name)) e.script m
        (named_step e.name (Ok d))
    by true fits = record {
      alone = refl;
      made =
          inr (record { fits = fits; made = made (is_sfile_name e.name) are fits });
    }
    by false unfit = absurd (refuses (is_sfile_name e.name) are unfit)

module _ (who : Caller) (n : List ℕ) where
  abbrev OnePlain : NamedStep → Type 0
  OnePlain t = is_kept (drop 2 t.name) ≡ false

  -- who makes each of them
  abbrev one : Caller
  one = caller who.stamp who.place

  -- the versions behind the delta of an entry
  abbrev texts_after : Folder → GroupEntry → StepEffect → Texts → Texts
  texts_after m e d texts = versions_after_step one (c.Delta e.words e.name) e.script n m (named_step e.name (Ok d))
      texts

  -- what the others make of them
  abbrev OthersGo : Folder → GroupEntry → List GroupEntry → Texts → Type 0
  OthersGo m e es texts = (d : StepEffect) (us : List NamedStep)
      → (let u : Folder = step_in m (named_step e.name (Ok d)) in AllByRecursion OnePlain us
      → entry_steps who.stamp (view_in u) es ≡ Ok us
      → HasVersions (view_in u n) (texts_after m e d texts) → HasVersions (view_in (folder_after u us) n)
      (versions_after_deltas who n u es us (texts_after m e d texts)))

  first_goes : (m : Folder) (e : GroupEntry) (es : List GroupEntry) (ts : List NamedStep) (texts : Texts)
      → IsSFileName n → IsMoment who.stamp.moment → IsLogin who.stamp.login
      → HasMeantValues (c.Delta e.words e.name) → AllByRecursion OnePlain ts → entry_steps who.stamp (view_in m)
      (e ∷ es) ≡ Ok ts
      → HasVersions (view_in m n) texts → OthersGo m e es texts → HasVersions (view_in (folder_after m ts) n)
      (versions_after_deltas who n m (e ∷ es) ts texts)
  first_goes m e es ts texts sfile moment login values plain is has others =
      by (entry_outcome who.stamp (view_in m) e) refl
    where
      rest_of : StepEffect → EntrySteps
      rest_of effect = entry_steps who.stamp (moved (view_in m) e.name effect.new) es

      by : (o : Outcome) → entry_outcome who.stamp (view_in m) e ≡ o → HasVersions (view_in (folder_after m ts) n)
          (versions_after_deltas who n m (e ∷ es) ts texts)
      by (Err refusal) are = absurd (let no : Err (record { name = e.name; refusal = refusal }) ≡ Ok ts =
          sym (ap (λ (o : Outcome). go_on e.name o rest_of) are) ∙ is in cc)
      by (Ok d) are = next (rest_of d) refl
        where
          t : NamedStep
          t = named_step e.name (Ok d)

          made : put_first t (rest_of d) ≡ Ok ts
          made = sym (ap (λ (o : Outcome). go_on e.name o rest_of) are) ∙ is

          next : (more : EntrySteps) → rest_of d ≡ more → HasVersions (view_in (folder_after m ts) n)
              (versions_after_deltas who n m (e ∷ es) ts texts)
          next (Err other) rest = absurd (let no : Err other ≡ Ok ts = sym (ap (λ (s : EntrySteps). put_first t s) rest)
              ∙ made in cc)
          next (Ok us) rest =
              subst (λ (ws : List NamedStep). HasVersions (view_in (folder_after m ws) n) (versions_after_deltas who n m
              (e ∷ es) ws texts)) same
              (others d us both_plain.1 (ap (λ (v : View). entry_steps who.stamp v es) (moved_view m e.name d.new)
              ∙ rest)
              (step_goes one (c.Delta e.words e.name) e.script n m t texts sfile moment login values
              (λ fits changes. both_plain.0) (delta_step who m e d are) has))
            where
              same : (t ∷ us) ≡ ts
              same = let whole : Ok (t ∷ us) ≡ Ok ts = sym (ap (λ (s : EntrySteps). put_first t s) rest) ∙ made in cc

              both_plain : AllByRecursion OnePlain (t ∷ us)
              both_plain = subst (AllByRecursion OnePlain) (sym same) plain

-- those of a group's deltas
deltas_go : (who : Caller) (n : List ℕ) (m : Folder) (es : List GroupEntry) (ts : List NamedStep) (texts : Texts)
    → IsSFileName n → IsMoment who.stamp.moment → IsLogin who.stamp.login
    → AllByRecursion (λ (e : GroupEntry). HasMeantValues (c.Delta e.words e.name)) es
    → AllByRecursion (λ (t : NamedStep). is_kept (drop 2 t.name) ≡ false) ts → entry_steps who.stamp (view_in m) es
    ≡ Ok ts
    → HasVersions (view_in m n) texts → HasVersions (view_in (folder_after m ts) n)
    (versions_after_deltas who n m es ts texts)
deltas_go who n m [] ts texts sfile moment login values plain is has =
    subst (λ (us : List NamedStep). HasVersions (view_in (folder_after m us) n) texts) (let same : [] ≡ ts = cc in
    same) has
deltas_go who n m (e ∷ es) ts texts sfile moment login values plain is has =
    first_goes who n m e es ts texts sfile moment login values.0 plain is has
    (λ d us others rest first. deltas_go who n (step_in m (named_step e.name (Ok d))) es us
    (texts_after who n m e d texts) sfile moment login values.1 others rest first)

-- ---- the step of all

moves_more : (m : Folder) (xs ys : List Move) → all_moved_in m (xs ++ ys) ≡ all_moved_in (all_moved_in m xs) ys
moves_more m [] ys = refl
moves_more m (x ∷ xs) ys = moves_more (moved_in m x.name x.new) xs ys

-- what the steps of entries move in turn is what the joint step moves
moves_after : (m : Folder) (ts : List NamedStep) → all_moved_in m (flat_map moves_of ts) ≡ folder_after m ts
moves_after m [] = refl
moves_after m (t ∷ ts) = moves_more m (moves_of t) (flat_map moves_of ts) ∙ moves_after (step_in m t) ts

unmoved_all : (m : Folder) (names : List (List ℕ)) → all_moved_in m (map unmoved names) ≡ m
unmoved_all m [] = refl
unmoved_all m (n ∷ names) = unmoved_all m names

-- a step that is refused
refused_goes : (who : Caller) (i n : List ℕ) (m : Folder) (names : List (List ℕ)) (k : List ℕ) (refusal : Refusal)
    (command : Command) (texts : Texts) → HasVersions (view_in m n) texts
    → HasVersions (view_in (step_in m (refused_step names k refusal)) n) (versions_with (Some uses.Makes) who command i
    n m (refused_step names k refusal) texts)
refused_goes who i n m names k refusal command texts has =
    subst (λ (u : Folder). HasVersions (view_in u n) (versions_with (Some uses.Makes) who command i n m
    (refused_step names k refusal) texts)) (sym (unmoved_all m names))
    (subst (λ (b : Bool). HasVersions (view_in m n) (if b then versions_after_deltas who n m (group_entries i)
    (deltas_in who m (group_entries i)) texts else texts)) (sym (never (not (is_empty (map unmoved names))))) has)
  where
    never : (b : Bool) → (b && false) ≡ false
    never true = refl
    never false = refl

-- the step that joins those of entries
joint_goes : (who : Caller) (i n : List ℕ) (m : Folder) (ts : List NamedStep) (command : Command) (texts : Texts)
    → (HasVersions (view_in m n) texts → HasVersions (view_in (folder_after m ts) n) (versions_after_deltas who n m
    (group_entries i) (deltas_in who m (group_entries i)) texts))
    → HasVersions (view_in m n) texts → HasVersions (view_in (step_in m (joint_step ts)) n)
    (versions_with (Some uses.Makes) who command i n m (joint_step ts) texts)
joint_goes who i n m [] command texts goes has = has
joint_goes who i n m (t ∷ ts) command texts goes has =
    subst (λ (u : Folder). HasVersions (view_in u n) (versions_after_deltas who n m (group_entries i)
    (deltas_in who m (group_entries i)) texts)) (sym (moves_after m (t ∷ ts))) (goes has)

group_step_goes : (who : Caller) (i n : List ℕ) (m : Folder) (entries : List GroupEntry) (command : Command)
    (texts : Texts) → IsSFileName n → IsMoment who.stamp.moment → IsLogin who.stamp.login
    → group_entries i ≡ entries → AllByRecursion (λ (e : GroupEntry). HasMeantValues (c.Delta e.words e.name)) entries
    → AllByRecursion (λ (t : NamedStep). is_kept (drop 2 t.name) ≡ false) (deltas_in who m (group_entries i))
    → HasVersions (view_in m n) texts
    → HasVersions (view_in (step_in m (group_step who.stamp (view_in m) entries)) n)
    (versions_with (Some uses.Makes) who command i n m (group_step who.stamp (view_in m) entries) texts)
group_step_goes who i n m entries command texts sfile moment login read values plain has =
    by_intent (is_some (view_in m intent_file))
  where
    Goes_to : NamedStep → Type 0
    Goes_to t = HasVersions (view_in (step_in m t) n) (versions_with (Some uses.Makes) who command i n m t texts)

    by_steps : (s : EntrySteps) → entry_steps who.stamp (view_in m) entries ≡ s → Goes_to (joined (names_of entries) s)
    by_steps (Err e) is = refused_goes who i n m (names_of entries) e.name e.refusal command texts has
    by_steps (Ok ts) is =
        joint_goes who i n m ts command texts
        (λ had. subst (λ (es : List GroupEntry). HasVersions (view_in (folder_after m ts) n)
        (versions_after_deltas who n m es (deltas_in who m es) texts)) (sym read)
        (subst (λ (s : EntrySteps). HasVersions (view_in (folder_after m ts) n) (versions_after_deltas who n m entries
        (deltas_read s) texts)) (sym is)
        (deltas_go who n m entries ts texts sfile moment login values plain_ts is had))) has
      where
        plain_ts : AllByRecursion (λ (t : NamedStep). is_kept (drop 2 t.name) ≡ false) ts
        plain_ts =
            subst (λ (s : EntrySteps). AllByRecursion (λ (t : NamedStep). is_kept (drop 2 t.name) ≡ false)
            (deltas_read s)) is
            (subst (λ (es : List GroupEntry). AllByRecursion (λ (t : NamedStep). is_kept (drop 2 t.name) ≡ false)
            (deltas_in who m es)) read plain)

    by_intent : (b : Bool) → Goes_to (if b then refused_step (names_of entries) (codes "-") GroupPending
        else joined (names_of entries) (entry_steps who.stamp (view_in m) entries))
    by_intent true = refused_goes who i n m (names_of entries) (codes "-") GroupPending command texts has
    by_intent false = by_steps (entry_steps who.stamp (view_in m) entries) refl

-- the steps of a group's list of steps, as far as they are made
pub group_goes : (who : Caller) (i n : List ℕ) (m : Folder) (made : ℕ) (command : Command) (texts : Texts)
    → IsSFileName n → IsMoment who.stamp.moment → IsLogin who.stamp.login
    → AllByRecursion (λ (t : NamedStep). is_kept (drop 2 t.name) ≡ false) (deltas_in who m (group_entries i))
    → HasVersions (view_in m n) texts
    → HasVersions (view_in (folder_after m (take made (steps_along (group_step_list who.stamp) m i))) n)
    (versions_after_steps (Some uses.Makes) who command i n m
    (take made (steps_along (group_step_list who.stamp) m i)) texts)
group_goes who i n m made command texts sfile moment login plain has = by_length (nat_lt file_limit (length i))
  where
    GoesAlong : StepLists → Type 0
    GoesAlong step_list = HasVersions (view_in (folder_after m (take made (steps_along step_list m i))) n)
        (versions_after_steps (Some uses.Makes) who command i n m (take made (steps_along step_list m i)) texts)

    said_goes : (count : ℕ) (out err : List ℕ) → HasVersions (view_in (folder_after m (take count (said out err ∷ [])))
        n) (versions_after_steps (Some uses.Makes) who command i n m (take count (said out err ∷ [])) texts)
    said_goes zero out err = has
    said_goes (suc zero) out err = has
    said_goes (suc (suc count)) out err = has

    one_goes : (count : ℕ) (entries : List GroupEntry) → group_entries i ≡ entries
        → AllByRecursion (λ (e : GroupEntry). HasMeantValues (c.Delta e.words e.name)) entries
        → HasVersions (view_in (folder_after m (take count (group_step who.stamp (view_in m) entries ∷ []))) n)
        (versions_after_steps (Some uses.Makes) who command i n m
        (take count (group_step who.stamp (view_in m) entries ∷ [])) texts)
    one_goes zero entries read values = has
    one_goes (suc zero) entries read values = group_step_goes who i n m entries command texts sfile moment login read
        values plain has
    one_goes (suc (suc count)) entries read values = group_step_goes who i n m entries command texts sfile moment login
        read values plain has

    by_entries : (read : Result (List GroupEntry) ℕ) → group_of (text_of i) ≡ read
        → GoesAlong (read_step_list who.stamp read)
    by_entries (Err number) is = said_goes made [] (bad_line number)
    by_entries (Ok entries) is = one_goes made entries (ap entries_read is) (group_values (text_of i) entries is)

    by_length : (long : Bool) → GoesAlong (λ folder input. (if long then saying [] (refusal_line (codes "-") TooLong) 1
        else read_step_list who.stamp (group_of (text_of i))) folder input)
    by_length true = said_goes made [] (refusal_line (codes "-") TooLong)
    by_length false = by_entries (group_of (text_of i)) refl
