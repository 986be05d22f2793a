-- After runs each version is its replay.
use Rattle.std.proofs.lemmas.Bool.{ne_eqb}
use Rattle.std.proofs.Common.{◌≡◌, ◌⊎◌, ℕ, zero, suc, ◌-◌, ◌==◌, Bool, true, false, List, [], ◌∷◌, ◌++◌, codes, drop}
use Rattle.std.proofs.Common.{length, take, map, Option, None, Some, Result, Ok, Err, inl, inr, refl, sym, ap, subst}
use Rattle.std.proofs.Common.{◌∙◌, arith}
use Rattle.std.specs.Prelude.{if◌then◌else◌, nat_lt}
use Rattle.std.specs.List.{AllByRecursion}
use Rattle.sccs_base.specs.Constants.{file_limit}
use Rattle.sccs_base.specs.Cut.{text_of}
use Rattle.sccs_base.specs.Login.{IsLogin}
use Rattle.sccs_base.specs.Name.{IsSFileName}
use Rattle.sccs_disk.specs.Files.{Content, Folder, view_in}
use Rattle.sccs_sid.specs.Moment.{IsMoment}
use Rattle.sccs_sid.specs.Refusal.{refusal_line}
use Rattle.sccs_sid.specs.declared.refusals.Refusal.TheVariants.{TooLong}
use Rattle.sccs_words.specs.Meaning.{meaning}
use Rattle.sccs_steps.proofs.Turns.{front_all, rest_all}
use Rattle.sccs_words.specs.declared.commands.Command.{Command}
use Rattle.sccs_words.specs.declared.commands.Usage.{Usage}
use Rattle.sccs_words.specs.declared.commands.ValWords.{ValWords}
use Rattle.sccs_name_files.specs.StepFiles.{Files, look, moved_in}
use Rattle.sccs_steps.specs.Actions.{Action, KeepsFiles}
use Rattle.sccs_steps.specs.StepLists.{NamedStep, folder_after, step_in}
use Rattle.sccs_steps.specs.Unlocked.{ArePlain}
use Rattle.sccs_delta.specs.Replays.{Texts}
use Rattle.sccs_val.proofs.RunLaws.{val_leaves}
use Rattle.sccs_step_lists.specs.StepLists.{StepLists, follow, if_fine, no_action, one_by_one, portion, said, saying}
use Rattle.sccs_step_lists.specs.StepLists.{steps_along, steps_in, while_fine}
use Rattle.sccs_step_lists.proofs.Portions.{steps_more}
use Rattle.sccs_batch.specs.BatchLines.{bad_entry_line, status_line}
use Rattle.sccs_batch.specs.BatchText.{batch_of}
use Rattle.sccs_batch.specs.Batches.{batch_step_list, batch_end, entries_step_list, entry_step_list}
use Rattle.sccs_batch.specs.declared.entries.BatchEntry.{BatchEntry}
use Rattle.sccs_edit.specs.Front.{front_of}
use Rattle.sccs_top.specs.Asked.{as_typed, asked_by, one_asked, two_asked, typed_place}
use Rattle.sccs_top.specs.Messages.{usage_line}
use Rattle.sccs_soak.specs.Commands.{soak_commands, soak_file}
use Rattle.sccs_soak.specs.Keeps.{summary_keeps}
use Rattle.sccs_soak.specs.Soak.{soaked}
use Rattle.sccs_soak.specs.Summaries.{summary_action, summary_step_list}
use Rattle.sccs_top.specs.Runs.{Caller, action_of, caller_by, command_step_list, command_steps, step_list_by}
use Rattle.sccs_top.specs.Runs.{entry_command, freed_at, freeing, group_use, meant_step_list, next_step_list}
use Rattle.sccs_top.specs.Runs.{operands_of, run_steps, steps_by, val_words_of}
use Rattle.sccs_top.specs.declared.commands.CommandList.{CommandList}
use Rattle.sccs_top.specs.declared.commands.CommandList.TheVariants as list
use Rattle.sccs_replays.specs.PastRuns.{AreInTurn, HasVersions, IsPastCommand, IsPastRun, IsPlainBy, PastRun}
use Rattle.sccs_replays.specs.PastRuns.{commands_by, commands_listed, commands_meant, commands_of, entry_run}
use Rattle.sccs_replays.specs.PastRuns.{entry_runs, first_run, folder_after_run, list_meant, next_run, replay}
use Rattle.sccs_replays.specs.PastRuns.{soak_runs, s_file_after, single_steps, steps_meant, steps_of_entry}
use Rattle.sccs_replays.specs.PastRuns.{versions_after_commands, versions_after_run, versions_after_steps}
use Rattle.sccs_replays.specs.PastRuns.{HasPlainNames, steps_with}
use Rattle.sccs_replays.proofs.MadeSteps.{AreStepsOf, are_some, are_steps, IsMadeOf, alone_in}
use Rattle.sccs_replays.proofs.MeantValues.{AreMeantValues, HasMeantValues, meant_values}
use Rattle.sccs_top.specs.declared.commands.GroupUse.{GroupUse}
use Rattle.sccs_top.specs.declared.commands.GroupUse.TheVariants as uses
use Rattle.sccs_replays.proofs.CommandSteps.{steps_go}
use Rattle.sccs_replays.proofs.GroupVersions.{group_goes}
use Rattle.sccs_replays.proofs.FinishedGroups.{finishing_goes, finishing_stays}
use Rattle.sccs_recovery.specs.FinishStep.{finishing_step}

-- ---- usage faults

-- a usage fault changes no file
usage_leaves : (m : Folder) (usage : Usage) (count : ℕ) → folder_after m (take count (said [] (usage_line usage) ∷ []))
    ≡ m
usage_leaves m usage zero = refl
usage_leaves m usage (suc zero) = refl
usage_leaves m usage (suc (suc count)) = refl

-- the steps of a command
are_made : (val : Option ValWords) (x : Action) (m : Folder) (i : List ℕ) (operands : List (List ℕ))
    → AreStepsOf x i m (steps_by val x operands m i)
are_made None x m i operands = are_steps x m i operands
are_made (Some words) x m i operands = (record { alone = refl; made = inl (val_leaves words m i) }, tt)

-- by what the command does with a group
with_goes : (group : Option GroupUse) (n : List ℕ) (r : PastRun) (command : Command) (texts : Texts)
    → group_use command ≡ group → IsSFileName n → IsMoment r.who.stamp.moment → IsLogin r.who.stamp.login
    → HasMeantValues command → HasPlainNames n group r command
    → HasVersions (view_in r.folder n) texts → HasVersions (view_in (folder_after r.folder (steps_with group r command))
    n) (versions_after_steps group r.who command r.input n r.folder (steps_with group r command) texts)
with_goes None n r command texts is sfile moment login values names has =
    steps_go r.who command r.input n r.folder (steps_with None r command) texts sfile moment login values names.plain
    (are_some (action_of r.who command) r.input r.made r.folder (steps_by (val_words_of command)
    (action_of r.who command) (operands_of command) r.folder r.input) (are_made (val_words_of command)
    (action_of r.who command) r.folder r.input (operands_of command))) has
with_goes (Some uses.Makes) n r command texts is sfile moment login values names has =
    group_goes r.who r.input n r.folder r.made command texts sfile moment login names.plain has
with_goes (Some uses.Finishes) n r command texts is sfile moment login values names has =
    subst (λ (x : Texts). HasVersions (view_in (folder_after r.folder (steps_with (Some uses.Finishes) r command)) n) x)
    (sym (finishing_stays r.who command r.input n r.folder (steps_with (Some uses.Finishes) r command) texts))
    (by r.made names.plain.1)
  where
    behind : Caller
    behind = freeing r.who (freed_at r.folder)

    x : Action
    x = action_of behind command

    after : Folder
    after = step_in r.folder (finishing_step (view_in r.folder))

    ts : List NamedStep
    ts = steps_by (val_words_of command) x (operands_of command) after r.input

    by : (made : ℕ) → ArePlain x (drop 1 (take made (finishing_step (view_in r.folder) ∷ ts)))
        → HasVersions (view_in (folder_after r.folder (take made (finishing_step (view_in r.folder) ∷ ts))) n) texts
    by zero plain = has
    by (suc made) plain =
        finishing_goes behind command r.input n r.folder made ts texts is sfile moment login names.plain.0 names.free
        plain
        (are_some x r.input made after ts (are_made (val_words_of command) x after r.input (operands_of command))) has

command_run_goes : (n : List ℕ) (r : PastRun) (meant : Result Command Usage) (texts : Texts) → IsSFileName n
    → IsMoment r.who.stamp.moment → IsLogin r.who.stamp.login → AreMeantValues meant → IsPlainBy n r meant
    → HasVersions (view_in r.folder n) texts → HasVersions (view_in (folder_after r.folder (single_steps r meant)) n)
    (versions_after_run n r meant texts)
command_run_goes n r (Ok command) texts sfile moment login values plain has =
    with_goes (group_use command) n r command texts refl sfile moment login values plain has
command_run_goes n r (Err usage) texts sfile moment login values plain has =
    subst (λ (u : Folder). HasVersions (view_in u n) texts) (sym (usage_leaves r.folder usage r.made)) has

single_goes : (n : List ℕ) (r : PastRun) (meant : Result Command Usage) (texts : Texts) → meaning r.words ≡ meant
    → IsSFileName n → AllByRecursion (IsPastCommand n) (r ∷ [])
    → HasVersions (view_in r.folder n) texts
    → HasVersions (view_in (folder_after r.folder (take r.made (command_steps r.who meant r.folder r.input))) n)
    (versions_after_commands n texts (r ∷ []))
single_goes n r meant texts words sfile are has =
    subst (λ (w : Result Command Usage). HasVersions
    (view_in (folder_after r.folder (take r.made (command_steps r.who w r.folder r.input))) n)
    (versions_after_run n r (meaning r.words) texts)) words
    (command_run_goes n r (meaning r.words) texts sfile are.0.moment are.0.login (meant_values r.words) are.0.plain has)

-- ---- the entries of a batch

-- the folder that entries leave of which so many steps are made
abbrev folder_after_entries : List ℕ → Folder → ℕ → List BatchEntry → Folder
folder_after_entries place m made [] = m
folder_after_entries place m made (e ∷ es) =
    let r = entry_run false place m made e in folder_after_entries place
    (folder_after m (single_steps r (meaning e.words))) (made - suc (length (steps_of_entry r))) es

entries_go : (n place : List ℕ) (m : Folder) (made : ℕ) (es : List BatchEntry) (texts : Texts) → IsSFileName n
    → AllByRecursion (IsPastCommand n) (entry_runs place m made es)
    → HasVersions (view_in m n) texts → HasVersions (view_in (folder_after_entries place m made es) n)
    (versions_after_commands n texts (entry_runs place m made es))
entries_go n place m made [] texts sfile are has = has
entries_go n place m made (e ∷ es) texts sfile are has =
    let r = entry_run false place m made e in
    entries_go n place (folder_after m (single_steps r (meaning e.words))) (made - suc (length (steps_of_entry r))) es
    (versions_after_run n r (meaning e.words) texts) sfile are.1
    (command_run_goes n r (meaning e.words) texts sfile are.0.moment are.0.login (meant_values e.words) are.0.plain has)

-- the first steps of some, and then of what goes on in the folder that all of them left
after_both : (m : Folder) (made : ℕ) (xs : List NamedStep) (more : Folder → List NamedStep)
    → folder_after m (take made (xs ++ more (folder_after m xs))) ≡ folder_after (folder_after m (take made xs))
    (take (made - length xs) (more (folder_after m (take made xs))))
after_both m zero xs more = let none : 0 - length xs ≡ 0 = omega arith in ap (λ k. folder_after m (take k (more m)))
    (sym none)
after_both m (suc made) [] more = let all : suc made ≡ suc made - 0 = omega arith in
    ap (λ k. folder_after m (take k (more m))) all
after_both m (suc made) (x ∷ xs) more =
    let left = step_in m x in
    let less : made - length xs ≡ suc made - length (x ∷ xs) = omega arith in
    after_both left made xs more ∙ ap (λ k. folder_after (folder_after left (take made xs))
    (take k (more (folder_after left (take made xs))))) less

-- a text that is written leaves the folder
said_leaves : (m : Folder) (out err : List ℕ) (made : ℕ) → folder_after m (take made (said out err ∷ [])) ≡ m
said_leaves m out err zero = refl
said_leaves m out err (suc zero) = refl
said_leaves m out err (suc (suc made)) = refl

said_after : (m : Folder) (made : ℕ) (xs : List NamedStep) (out err : List ℕ)
    → folder_after m (take made (xs ++ said out err ∷ [])) ≡ folder_after m (take made xs)
said_after m made xs out err = after_both m made xs (λ u. said out err ∷ [])
    ∙ said_leaves (folder_after m (take made xs)) out err (made - length xs)

one_more : (xs : List NamedStep) (t : NamedStep) → length (xs ++ t ∷ []) ≡ suc (length xs)
one_more [] t = refl
one_more (x ∷ xs) t = ap suc (one_more xs t)

ending_leaves : (m : Folder) (i : List ℕ) (made : ℕ) (bad : Option ℕ)
    → folder_after m (take made (steps_along (batch_end bad) m i)) ≡ m
ending_leaves m i zero bad = refl
ending_leaves m i (suc made) None = refl
ending_leaves m i (suc made) (Some number) = said_leaves m [] (bad_entry_line number) (suc made)

-- the steps of an entry, and then those of the others
entry_steps : (place : List ℕ) (m : Folder) (i : List ℕ) (e : BatchEntry) (rest : StepLists) → (status : ℕ)
    × (steps_along (follow (entry_step_list (entry_command false place e)) (λ code. rest)) m i
    ≡ (command_steps (caller_by false e.stamp place) (meaning e.words) m e.input ++ said (status_line status) [] ∷ [])
    ++ steps_along rest (folder_after m (command_steps (caller_by false e.stamp place) (meaning e.words) m e.input
    ++ said (status_line status) [] ∷ [])) i)
entry_steps place m i e rest =
    let step_list = command_step_list (caller_by false e.stamp place) (meaning e.words) m e.input in
    let text = portion no_action (said (status_line step_list.status) [] ∷ []) ∷ [] in
    let own : steps_in (step_list.portions ++ text) ≡ steps_in step_list.portions ++ said (status_line step_list.status)
    [] ∷ [] = steps_more step_list.portions text in (
      step_list.status,
      steps_more (step_list.portions ++ text) (rest (folder_after m (steps_in (step_list.portions ++ text))) i).portions
          ∙ ap (λ (ts : List NamedStep). ts ++ steps_in (rest (folder_after m ts) i).portions) own,
    )

entries_after : (place : List ℕ) (m : Folder) (i : List ℕ) (made : ℕ) (es : List BatchEntry) (bad : Option ℕ)
    → folder_after m (take made
    (steps_along (one_by_one (λ (e : BatchEntry). entry_step_list (entry_command false place e)) (batch_end bad) es)
    m i)) ≡ folder_after_entries place m made es
entries_after place m i made [] bad = ending_leaves m i made bad
entries_after place m i made (e ∷ es) bad =
    let rest = one_by_one (λ (e : BatchEntry). entry_step_list (entry_command false place e)) (batch_end bad) es in
    let split = entry_steps place m i e rest in
    let steps = command_steps (caller_by false e.stamp place) (meaning e.words) m e.input in
    let text = said (status_line split.0) [] in
    let left : folder_after m (take made (steps ++ text ∷ [])) ≡ folder_after m (take made steps) =
    said_after m made steps (status_line split.0) [] in
    ap (λ (ts : List NamedStep). folder_after m (take made ts)) split.1
    ∙ (after_both m made (steps ++ text ∷ []) (λ u. steps_along rest u i)
    ∙ (ap (λ u. folder_after u (take (made - length (steps ++ text ∷ [])) (steps_along rest u i))) left
    ∙ (ap (λ k. folder_after (folder_after m (take made steps))
    (take (made - k) (steps_along rest (folder_after m (take made steps)) i))) (one_more steps text)
    ∙ entries_after place (folder_after m (take made steps)) i (made - suc (length steps)) es bad)))

-- what a batch leaves of which so many steps are made, is what its entries leave
batch_after : (place : List ℕ) (m : Folder) (i : List ℕ) (made : ℕ) (long : Bool) → nat_lt file_limit (length i) ≡ long
    → folder_after m (take made (steps_along (batch_step_list (entry_command false place)) m i)) ≡ (if long then m
    else folder_after_entries place m (made - 1) (batch_of (text_of i)).entries)
batch_after place m i made true is =
    ap (λ (t : Bool). folder_after m
    (take made (steps_in ((if t then saying [] (refusal_line (codes "-") TooLong) 1 else follow (saying [] [] 0)
    (λ code. entries_step_list (entry_command false place) (batch_of (text_of i)))) m i).portions))) is
    ∙ said_leaves m [] (refusal_line (codes "-") TooLong) made
batch_after place m i made false is =
    let rest = entries_step_list (entry_command false place) (batch_of (text_of i)) in
    ap (λ (t : Bool). folder_after m
    (take made (steps_in ((if t then saying [] (refusal_line (codes "-") TooLong) 1 else follow (saying [] [] 0)
    (λ code. rest)) m i).portions))) is
    ∙ (ap (λ (ts : List NamedStep). folder_after m (take made ts))
    (steps_more (portion no_action (said [] [] ∷ []) ∷ []) (rest m i).portions)
    ∙ (after_both m made (said [] [] ∷ []) (λ u. steps_along rest u i)
    ∙ (ap (λ u. folder_after u (take (made - 1) (steps_along rest u i))) (said_leaves m [] [] made)
    ∙ entries_after place m i (made - 1) (batch_of (text_of i)).entries (batch_of (text_of i)).bad)))

-- ---- the commands of a soak

-- the folder that they leave of which so many steps are made
abbrev folder_after_soak : List ℕ → Folder → ℕ → List BatchEntry → Folder
folder_after_soak place m made [] = m
folder_after_soak place m made (e ∷ es) =
    let r = entry_run true place m (made - 1) e in
    let left = folder_after m (single_steps r (meaning e.words)) in
    if (entry_command true place e m []).status == 0 then folder_after_soak place left
    (made - suc (length (steps_of_entry r))) es else left

soak_goes : (n place : List ℕ) (m : Folder) (made : ℕ) (es : List BatchEntry) (texts : Texts) → IsSFileName n
    → AllByRecursion (IsPastCommand n) (soak_runs place m made es)
    → HasVersions (view_in m n) texts → HasVersions (view_in (folder_after_soak place m made es) n)
    (versions_after_commands n texts (soak_runs place m made es))
soak_goes n place m made [] texts sfile are has = has
soak_goes n place m made (e ∷ es) texts sfile are has =
    let r = entry_run true place m (made - 1) e in
    let left = folder_after m (single_steps r (meaning e.words)) in
    let first = command_run_goes n r (meaning e.words) texts sfile are.0.moment are.0.login (meant_values e.words)
    are.0.plain has in
    fine_goes n place left (made - suc (length (steps_of_entry r))) es (versions_after_run n r (meaning e.words) texts)
    ((entry_command true place e m []).status == 0) sfile are.1 first
    (λ others. soak_goes n place left (made - suc (length (steps_of_entry r))) es
    (versions_after_run n r (meaning e.words) texts) sfile others first)
  where
    fine_goes : (n place : List ℕ) (left : Folder) (more : ℕ) (es : List BatchEntry) (texts : Texts) (fine : Bool)
        → IsSFileName n → AllByRecursion (IsPastCommand n) (if fine then soak_runs place left more es else [])
        → HasVersions (view_in left n) texts
        → (AllByRecursion (IsPastCommand n) (soak_runs place left more es)
        → HasVersions (view_in (folder_after_soak place left more es) n) (versions_after_commands n texts
        (soak_runs place left more es)))
        → HasVersions (view_in (if fine then folder_after_soak place left more es else left) n)
        (versions_after_commands n texts (if fine then soak_runs place left more es else []))
    fine_goes n place left more es texts true sfile are first others = others are
    fine_goes n place left more es texts false sfile are first others = first

-- what only reads leaves the folder
reads_leave : (x : Action) (i : List ℕ) (m : Folder) (made : ℕ) (ts : List NamedStep) → KeepsFiles x → x.reads ≡ true
    → AreStepsOf x i m ts → folder_after m (take made ts) ≡ m
reads_leave x i m zero ts keeps reads are = refl
reads_leave x i m (suc made) [] keeps reads are = refl
reads_leave x i m (suc made) (t ∷ ts) keeps reads are =
    reads_leave x i (step_in m t) made ts keeps reads are.1 ∙ (alone_in m t are.0.alone
    ∙ ap (λ (new : Option Files). moved_in m t.name new) (no_new are.0.made))
  where
    no_new : (t.effect.new ≡ None) ⊎ IsMadeOf x i m t → t.effect.new ≡ None
    no_new (inl none) = none
    no_new (inr of) = keeps.quiet reads t.name i (map (view_in m) (x.named t.name)) (look (view_in m) t.name) t.effect
        of.made

-- a step in front that does nothing
said_before : (m : Folder) (made : ℕ) (ts : List NamedStep) → folder_after m (take made (said [] [] ∷ ts))
    ≡ folder_after m (take (made - 1) ts)
said_before m zero ts = let none : 0 - 1 ≡ 0 = omega arith in ap (λ k. folder_after m (take k ts)) (sym none)
said_before m (suc made) ts = let one : suc made - 1 ≡ made = omega arith in ap (λ k. folder_after m (take k ts))
    (sym one)

-- the steps of a command, and then of the others where its status is 0
soaked_steps : (place : List ℕ) (m : Folder) (i : List ℕ) (e : BatchEntry) (rest : StepLists)
    → steps_along (follow (soaked (entry_command true place e)) (if_fine rest)) m i
    ≡ (said [] [] ∷ command_steps (caller_by true e.stamp place) (meaning e.words) m e.input)
    ++ steps_along (if_fine rest (entry_command true place e m []).status)
    (folder_after m (command_steps (caller_by true e.stamp place) (meaning e.words) m e.input)) i
soaked_steps place m i e rest =
    let step_list = command_step_list (caller_by true e.stamp place) (meaning e.words) m e.input in
    let own : steps_in (portion no_action (said [] [] ∷ []) ∷ step_list.portions) ≡ said [] []
    ∷ steps_in step_list.portions = steps_more (portion no_action (said [] [] ∷ []) ∷ []) step_list.portions in
    steps_more (portion no_action (said [] [] ∷ []) ∷ step_list.portions) (if_fine rest step_list.status
    (folder_after m (steps_in (portion no_action (said [] [] ∷ []) ∷ step_list.portions))) i).portions
    ∙ ap (λ (ts : List NamedStep). ts ++ steps_in (if_fine rest step_list.status (folder_after m ts) i).portions) own

fine_after : (rest : StepLists) (m left : Folder) (i : List ℕ) (made status : ℕ)
    → folder_after m (take made (steps_along rest m i)) ≡ left
    → folder_after m (take made (steps_along (if_fine rest status) m i)) ≡ (if status == 0 then left else m)
fine_after rest m left i made zero is = is
fine_after rest m left i made (suc code) is = no_more made ∙ ap (λ (b : Bool). if b then left else m)
    (sym (ne_eqb (suc code) 0 (λ e. omega (arith, e))))
  where
    no_more : (made : ℕ) → folder_after m (take made (steps_along (if_fine rest (suc code)) m i)) ≡ m
    no_more zero = refl
    no_more (suc made) = refl

soak_after : (place : List ℕ) (m : Folder) (i : List ℕ) (made number : ℕ) (es : List BatchEntry)
    → folder_after m (take made (steps_along (while_fine (λ (e : BatchEntry). soaked (entry_command true place e))
    (summary_step_list number) es) m i)) ≡ folder_after_soak place m made es
soak_after place m i made number [] =
    reads_leave (summary_action number) i m made (steps_along (summary_step_list number) m i) (summary_keeps number)
    refl (are_steps (summary_action number) m i (soak_file ∷ []))
soak_after place m i made number (e ∷ es) =
    let rest = while_fine (λ (e : BatchEntry). soaked (entry_command true place e)) (summary_step_list number) es in
    let steps = command_steps (caller_by true e.stamp place) (meaning e.words) m e.input in
    let status = (entry_command true place e m []).status in
    let first : folder_after m (take made (said [] [] ∷ steps)) ≡ folder_after m (take (made - 1) steps) =
    said_before m made steps in
    ap (λ (ts : List NamedStep). folder_after m (take made ts)) (soaked_steps place m i e rest)
    ∙ (after_both m made (said [] [] ∷ steps) (λ u. steps_along (if_fine rest status) u i)
    ∙ (ap (λ u. folder_after u (take (made - suc (length steps)) (steps_along (if_fine rest status) u i))) first
    ∙ fine_after rest (folder_after m (take (made - 1) steps)) _ i (made - suc (length steps)) status
    (soak_after place (folder_after m (take (made - 1) steps)) i (made - suc (length steps)) number es)))

-- ---- runs

-- a run that is a list of commands, or one that is none
list_goes : (n : List ℕ) (r : PastRun) (meant : Result Command Usage) (texts : Texts) (some : Option CommandList)
    → meaning r.words ≡ meant → list_meant meant ≡ some → IsSFileName n → AllByRecursion (IsPastCommand n)
    (commands_by some r)
    → HasVersions (view_in r.folder n) texts
    → HasVersions (view_in (folder_after r.folder
    (take r.made (steps_along (meant_step_list r.who meant) r.folder r.input))) n) (versions_after_commands n texts
    (commands_by some r))
list_goes n r (Err usage) texts None words is sfile are has = single_goes n r (Err usage) texts words sfile are has
list_goes n r (Err usage) texts (Some some) words is sfile are has = absurd cc
list_goes n r (Ok command) texts None words is sfile are has =
    subst (λ (o : Option CommandList). HasVersions
    (view_in (folder_after r.folder (take r.made (steps_along (step_list_by o r.who command) r.folder r.input))) n)
    (versions_after_commands n texts (r ∷ []))) (sym is) (single_goes n r (Ok command) texts words sfile are has)
list_goes n r (Ok command) texts (Some (list.Soak number)) words is sfile are has =
    subst (λ (o : Option CommandList). HasVersions
    (view_in (folder_after r.folder (take r.made (steps_along (step_list_by o r.who command) r.folder r.input))) n)
    (versions_after_commands n texts (commands_by (Some (list.Soak number)) r))) (sym is)
    (subst (λ (u : Folder). HasVersions (view_in u n) (versions_after_commands n texts
    (commands_by (Some (list.Soak number)) r))) (sym (soak_after r.who.place r.folder r.input r.made number
    (soak_commands number)))
    (soak_goes n r.who.place r.folder r.made (soak_commands number) texts sfile are has))
list_goes n r (Ok command) texts (Some list.Batch) words is sfile are has =
    subst (λ (o : Option CommandList). HasVersions
    (view_in (folder_after r.folder (take r.made (steps_along (step_list_by o r.who command) r.folder r.input))) n)
    (versions_after_commands n texts (commands_by (Some list.Batch) r))) (sym is)
    (batch_goes (nat_lt file_limit (length r.input)) refl)
  where
    batch_goes : (long : Bool) → nat_lt file_limit (length r.input) ≡ long
        → HasVersions (view_in (folder_after r.folder
        (take r.made (steps_along (batch_step_list (entry_command false r.who.place)) r.folder r.input))) n)
        (versions_after_commands n texts (commands_by (Some list.Batch) r))
    batch_goes true long =
        subst (λ (u : Folder). HasVersions (view_in u n) (versions_after_commands n texts
        (commands_by (Some list.Batch) r))) (sym (batch_after r.who.place r.folder r.input r.made true long))
        (subst (λ (t : Bool). HasVersions (view_in r.folder n) (versions_after_commands n texts (if t then []
        else entry_runs r.who.place r.folder (r.made - 1) (batch_of (text_of r.input)).entries))) (sym long) has)
    batch_goes false long =
        subst (λ (u : Folder). HasVersions (view_in u n) (versions_after_commands n texts
        (commands_by (Some list.Batch) r))) (sym (batch_after r.who.place r.folder r.input r.made false long))
        (subst (λ (t : Bool). HasVersions (view_in (folder_after_entries r.who.place r.folder (r.made - 1)
        (batch_of (text_of r.input)).entries) n) (versions_after_commands n texts (if t then []
        else entry_runs r.who.place r.folder (r.made - 1) (batch_of (text_of r.input)).entries))) (sym long)
        (entries_go n r.who.place r.folder (r.made - 1) (batch_of (text_of r.input)).entries texts sfile
        (subst (λ (t : Bool). AllByRecursion (IsPastCommand n) (if t then [] else entry_runs r.who.place r.folder
        (r.made - 1) (batch_of (text_of r.input)).entries)) long are) has))

meant_goes : (n : List ℕ) (r : PastRun) (texts : Texts) → IsSFileName n → AllByRecursion (IsPastCommand n)
    (commands_meant r) → HasVersions (view_in r.folder n) texts
    → HasVersions (view_in (folder_after r.folder (take r.made (steps_meant r))) n) (versions_after_commands n texts
    (commands_meant r))
meant_goes n r texts sfile are has = list_goes n r (meaning r.words) texts (list_meant (meaning r.words)) refl refl
    sfile are has

-- ---- words of the front end

-- one command, be it as it was typed
one_after : (who : Caller) (meant : Result Command Usage) (m : Folder) (i : List ℕ) (made : ℕ)
    → folder_after m (take made (run_steps who (one_asked meant) m i)) ≡ folder_after m
    (take made (steps_along (meant_step_list who meant) m i))
one_after who (Ok command) m i made = refl
one_after who (Err usage) m i made = refl

typed_after : (who : Caller) (words first : List (List ℕ)) (meant : Result Command Usage) (m : Folder) (i : List ℕ)
    (made : ℕ)
    → folder_after m (take made (run_steps who (one_asked (as_typed words first meant)) m i)) ≡ folder_after m
    (take made (steps_along (meant_step_list who meant) m i))
typed_after who words first (Ok command) m i made = refl
typed_after who words first (Err usage) m i made = said_leaves m [] (usage_line (typed_place words first usage)) made
    ∙ sym (said_leaves m [] (usage_line usage) made)

-- two commands
both_after : (who : Caller) (words first : List (List ℕ)) (meant next : Result Command Usage) (m : Folder) (i : List ℕ)
    (made : ℕ)
    → folder_after m (take made (run_steps who (two_asked (as_typed words first meant) next) m i))
    ≡ (if (meant_step_list who meant m i).status == 0
    then folder_after (folder_after m (take made (steps_along (meant_step_list who meant) m i)))
    (take (made - length (steps_along (meant_step_list who meant) m i)) (steps_along (meant_step_list who next)
    (folder_after m (take made (steps_along (meant_step_list who meant) m i))) []))
    else folder_after m (take made (steps_along (meant_step_list who meant) m i)))
both_after who words first (Err usage) next m i made = said_leaves m [] (usage_line (typed_place words first usage))
    made ∙ sym (said_leaves m [] (usage_line usage) made)
both_after who words first (Ok command) next m i made =
    let step_list = meant_step_list who (Ok command) m i in
    let xs = steps_in step_list.portions in
    let rest = if_fine (next_step_list who next) step_list.status in
    let left = folder_after m (take made xs) in
    ap (λ (ts : List NamedStep). folder_after m (take made ts)) (steps_more step_list.portions
    (rest (folder_after m xs) i).portions)
    ∙ (after_both m made xs (λ u. steps_along rest u i)
    ∙ fine_after (next_step_list who next) left
    (folder_after left (take (made - length xs) (steps_along (meant_step_list who next) left []))) i
    (made - length xs) step_list.status refl)

versions_both : (n : List ℕ) (texts : Texts) (rs more : List PastRun) → versions_after_commands n
    (versions_after_commands n texts rs) more ≡ versions_after_commands n texts (rs ++ more)
versions_both n texts [] more = refl
versions_both n texts (r ∷ rs) more = versions_both n (versions_after_run n r (meaning r.words) texts) rs more

two_go : (n : List ℕ) (r : PastRun) (next : List (List ℕ)) (texts : Texts) (fine : Bool) → IsSFileName n
    → AllByRecursion (IsPastCommand n) (commands_meant r) → AllByRecursion (IsPastCommand n)
    (if fine then commands_meant (next_run r next) else []) → HasVersions (view_in r.folder n) texts
    → HasVersions
    (view_in (if fine then folder_after (folder_after r.folder (take r.made (steps_meant r)))
    (take (r.made - length (steps_meant r)) (steps_meant (next_run r next))) else folder_after r.folder
    (take r.made (steps_meant r))) n)
    (versions_after_commands n (versions_after_commands n texts (commands_meant r)) (if fine then commands_meant
    (next_run r next) else []))
two_go n r next texts true sfile are more has = meant_goes n (next_run r next) (versions_after_commands n texts
    (commands_meant r)) sfile more (meant_goes n r texts sfile are has)
two_go n r next texts false sfile are more has = meant_goes n r texts sfile are has

listed_go : (n : List ℕ) (r : PastRun) (texts : Texts) (commands : List (List (List ℕ))) → IsSFileName n
    → AllByRecursion (IsPastCommand n) (commands_listed r commands) → HasVersions (view_in r.folder n) texts
    → HasVersions (view_in (folder_after r.folder
    (take r.made (run_steps r.who (asked_by r.words commands) r.folder r.input))) n)
    (versions_after_commands n texts (commands_listed r commands))
listed_go n r texts [] sfile are has =
    subst (λ (u : Folder). HasVersions (view_in u n) (versions_after_commands n texts (commands_meant r)))
    (sym (one_after r.who (meaning r.words) r.folder r.input r.made)) (meant_goes n r texts sfile are has)
listed_go n r texts (first ∷ []) sfile are has =
    subst (λ (u : Folder). HasVersions (view_in u n) (versions_after_commands n texts
    (commands_meant (first_run r first))))
    (sym (typed_after r.who r.words first (meaning first) r.folder r.input r.made))
    (meant_goes n (first_run r first) texts sfile are has)
listed_go n r texts (first ∷ next ∷ rest) sfile are has =
    let one = first_run r first in
    let fine = (meant_step_list r.who (meaning first) r.folder r.input).status == 0 in
    let more = if fine then commands_meant (next_run one next) else [] in
    subst (λ (u : Folder). HasVersions (view_in u n) (versions_after_commands n texts (commands_meant one ++ more)))
    (sym (both_after r.who r.words first (meaning first) (meaning next) r.folder r.input r.made))
    (subst (λ (t : Texts). HasVersions
    (view_in (if fine then folder_after (folder_after one.folder (take one.made (steps_meant one)))
    (take (one.made - length (steps_meant one)) (steps_meant (next_run one next))) else folder_after one.folder
    (take one.made (steps_meant one))) n) t)
    (versions_both n texts (commands_meant one) more)
    (two_go n one next texts fine sfile (front_all (IsPastCommand n) (commands_meant one) more are)
    (rest_all (IsPastCommand n) (commands_meant one) more are) has))

run_goes : (n : List ℕ) (r : PastRun) (texts : Texts) → IsSFileName n → IsPastRun n r
    → HasVersions (view_in r.folder n) texts → HasVersions (view_in (folder_after_run r) n)
    (versions_after_commands n texts (commands_of r))
run_goes n r texts sfile are has = listed_go n r texts (front_of r.words) sfile are has

pub runs_replayed : (n : List ℕ) (s : Option Content) (texts : Texts) (runs : List PastRun) → IsSFileName n
    → AllByRecursion (IsPastRun n) runs → AreInTurn n s runs → HasVersions s texts
    → HasVersions (s_file_after n s runs) (replay n texts runs)
runs_replayed n s texts [] sfile are turn has = has
runs_replayed n s texts (r ∷ runs) sfile are turn has =
    runs_replayed n (view_in (folder_after_run r) n) (versions_after_commands n texts (commands_of r)) runs sfile are.1
    turn.1
    (run_goes n r texts sfile are.0 (subst (λ (o : Option Content). HasVersions o texts) (sym turn.0) has))
