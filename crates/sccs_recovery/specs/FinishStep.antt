-- The step that finishes a group which was stopped, as the first one of recover: for each name of the intent that is
-- there the files of recovery (own), and no intent and no plan.
use Rattle.std.specs.Prelude.{ℕ, Bool, true, false, List, [], ◌∷◌, map, Option, None, Some, Err, if◌then◌else◌}
use Rattle.std.specs.Result.{is_ok}
use Rattle.sccs_base.specs.Name.{is_sfile_name, p_file, q_file, x_file}
use Rattle.sccs_disk.specs.Files.{Content, View, view_in}
use Rattle.sccs_name_files.specs.StepFiles.{Files, look, moved}
use Rattle.sccs_intents.specs.Intents.{entries_in, intent_file, intent_of, plan_file}
use Rattle.sccs_intents.specs.declared.intents.IntentEntry.{IntentEntry}
use Rattle.sccs_crash_points.specs.Recovery.{fated, newer}
use Rattle.sccs_sid.specs.declared.refusals.Refusal.TheVariants.{BadName}
use Rattle.sccs_steps.specs.Actions.{Action}
use Rattle.sccs_steps.specs.StepEffects.{StepEffect}
use Rattle.sccs_steps.specs.StepLists.{Move, NamedStep}
use Rattle.sccs_steps.specs.declared.statuses.StatusRule.TheVariants.{Greatest}
use Rattle.sccs_step_lists.specs.StepLists.{StepLists, Portion, step_list_of}

-- whether an intent is there and has its form
abbrev pub is_formed : Option Content → Bool
is_formed None = false
is_formed (Some c) = is_ok (intent_of c.bytes)

-- the names of entries, in their order
abbrev pub names_of : List IntentEntry → List (List ℕ)
names_of entries = map (λ (e : IntentEntry). e.name) entries

-- the names that finishing frees: those of an intent that is there and has its form
abbrev pub freed_in : View → List (List ℕ)
freed_in v = names_of (entries_in (v intent_file))

-- the files of a name that an intent names, after its recovery
abbrev pub finished_files : IntentEntry → View → Files
finished_files e v =
    record (look v e.name) {
      s = newer (v (x_file e.name)) (v e.name);
      p = fated e.fate (v (q_file e.name)) (v (p_file e.name));
      z = None;
    }

-- one name after the other
abbrev pub name_moves : View → List IntentEntry → List Move
name_moves v [] = []
name_moves v (e ∷ es) = record { name = e.name; new = Some (finished_files e v) } ∷ name_moves
    (moved v e.name (Some (finished_files e v))) es

-- the intent is gone, where it has its form
abbrev pub intent_taken : View → Option Files
intent_taken v = if is_formed (v intent_file) then Some (record (look v intent_file) { s = None }) else None

-- what writes nothing
abbrev pub quiet : Option Files → StepEffect
quiet new = record { new = new; text = []; out = []; err = []; status = 0 }

-- The intent goes first; the plan, which is a working file, is one of the further names, so that it may go where the
-- disk fails.
abbrev pub finishing_step : View → NamedStep
finishing_step v = record {
  name = intent_file;
  effect = quiet (intent_taken v);
  more = record { name = plan_file; new = None } ∷ name_moves (moved v intent_file (intent_taken v))
      (entries_in (v intent_file));
}

-- what is asked of names is asked of those of the intent; they aren't locked anew
abbrev pub finishing_action : Action
finishing_action = record {
  fits = is_sfile_name;
  step = λ n input named files. Err BadName;
  named = λ n. [];
  takes = false;
  reads = false;
  locks = false;
  silent = true;
  rule = Greatest;
  could = λ o. false;
}

abbrev pub name_part : IntentEntry → NamedStep
name_part e = record { name = e.name; effect = quiet None; more = [] }

abbrev pub finishing_portion : View → Portion
finishing_portion v = record {
  by = finishing_action;
  steps = finishing_step v ∷ [];
  parts = map name_part (entries_in (v intent_file));
  finishes = is_formed (v intent_file);
  plans = true;
}

-- whatever it finds, the status is 0
abbrev pub finishing_step_list : StepLists
finishing_step_list = λ folder i. step_list_of (finishing_portion (view_in folder) ∷ []) 0
