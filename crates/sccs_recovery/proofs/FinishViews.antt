-- What the finishing step makes of a view.
use Rattle.std.proofs.Common.{◌≡◌, ℕ, Bool, true, false, cond, List, [], ◌∷◌, drop, Option, None, Some, Result, Ok, Err}
use Rattle.std.proofs.Common.{is_some, refl, sym, ap, subst, ◌∙◌}
use Rattle.std.specs.Prelude.{IsSome}
use Rattle.std.specs.Result.{is_ok}
use Rattle.std.specs.Str.{bytes_eq}
use Rattle.sccs_base.specs.Name.{IsSFileName, p_file, q_file, x_file, z_file}
use Rattle.sccs_disk.specs.Files.{Content, View}
use Rattle.sccs_name_files.specs.StepFiles.{Files, l_file, look, moved}
use Rattle.sccs_intents.specs.Intents.{AreOthers, entries_in, fate_in, intent_file, intent_of, plan_file, well_formed}
use Rattle.sccs_intents.specs.declared.intents.IntentEntry.{IntentEntry}
use Rattle.sccs_intents.specs.declared.intents.Fate.{Fate}
use Rattle.sccs_intents.proofs.IntentTexts.{text_read}
use Rattle.sccs_crash_points.specs.Recovery.{RecoversAs, fate_at, fated, newer}
use Rattle.sccs_crash_points.proofs.FileNames.{intent_and_sfile}
use Rattle.sccs_crash_points.proofs.Recovering.{recovered_at, recovered_same, recovered_under, recovers_from}
use Rattle.sccs_crash_points.proofs.Recovering.{recovers_itself}
use Rattle.sccs_steps.specs.ListStops.{KeepsSafe}
use Rattle.sccs_steps.specs.StepLists.{NamedStep, all_moved, moves_of}
use Rattle.sccs_steps.proofs.Safety.{keeps_same, safe_by}
use Rattle.sccs_recovery.specs.FinishStep.{finishing_step, is_formed, name_moves, quiet}
use Rattle.sccs_recovery.proofs.Moved.{FilesAfter, after_from, after_moves, intent_gone}
use Rattle.sccs_recovery.proofs.NameFiles.{kept_file}

-- ---- the view without the intent

abbrev pub gone_files : View → Files
gone_files v = record (look v intent_file) { s = None }

abbrev pub without_intent : View → View
without_intent v = moved v intent_file (Some (gone_files v))

pub without_at : (v : View) (k : List ℕ) → bytes_eq intent_file k ≡ false → without_intent v k ≡ v k
without_at v k other =
    ap (λ (b : Bool). cond b None (cond (bytes_eq (p_file intent_file) k) (v (p_file intent_file))
    (cond (bytes_eq (drop 2 intent_file) k) (v (drop 2 intent_file)) (cond (bytes_eq (z_file intent_file) k)
    (v (z_file intent_file)) (cond (bytes_eq (l_file intent_file) k) (v (l_file intent_file)) (v k)))))) other
    ∙ (ap (λ (o : Option Content). cond (bytes_eq (p_file intent_file) k) (v (p_file intent_file))
    (cond (bytes_eq (drop 2 intent_file) k) (v (drop 2 intent_file)) o))
    (ap (λ (o : Option Content). cond (bytes_eq (z_file intent_file) k) (v (z_file intent_file)) o)
    (kept_file v (l_file intent_file) k) ∙ kept_file v (z_file intent_file) k)
    ∙ (ap (λ (o : Option Content). cond (bytes_eq (p_file intent_file) k) (v (p_file intent_file)) o)
    (kept_file v (drop 2 intent_file) k) ∙ kept_file v (p_file intent_file) k))

pub without_none : (v : View) → without_intent v intent_file ≡ None
without_none v = refl

-- ---- what an intent is

-- It has its form, with these entries, or none is there of that form.
pub data IntentCase (o : Option Content) : Type 0 where
  Formed : (es : List IntentEntry) → is_formed o ≡ true → entries_in o ≡ es → AreOthers es → IntentCase o
  Unformed : is_formed o ≡ false → entries_in o ≡ [] → IntentCase o

read_case : (c : Content) (r : Result (List IntentEntry) ℕ) → intent_of c.bytes ≡ r → IntentCase (Some c)
read_case c (Ok es) is = Formed es (ap (λ (r : Result (List IntentEntry) ℕ). is_ok r) is) (ap well_formed is)
    (text_read c.bytes es is).others
read_case c (Err line) is = Unformed (ap (λ (r : Result (List IntentEntry) ℕ). is_ok r) is) (ap well_formed is)

pub intent_case : (o : Option Content) → IntentCase o
intent_case None = Unformed refl refl
intent_case (Some c) = read_case c (intent_of c.bytes) refl

-- ---- the step

-- by whether the intent has its form, and its entries
abbrev pub step_by : View → Bool → List IntentEntry → NamedStep
step_by v formed es = record {
  name = intent_file;
  effect = quiet (cond formed (Some (gone_files v)) None);
  more = record { name = plan_file; new = None } ∷ name_moves
      (moved v intent_file (cond formed (Some (gone_files v)) None)) es;
}

pub step_is : (v : View) (formed : Bool) (es : List IntentEntry) → is_formed (v intent_file) ≡ formed
    → entries_in (v intent_file) ≡ es → finishing_step v ≡ step_by v formed es
step_is v formed es is entries = ap (λ (b : Bool). step_by v b (entries_in (v intent_file))) is
    ∙ ap (step_by v formed) entries

-- the view after it
abbrev pub finished : View → View
finished v = all_moved v (moves_of (finishing_step v))

pub finished_formed : (v : View) (es : List IntentEntry) → is_formed (v intent_file) ≡ true → entries_in (v intent_file)
    ≡ es → finished v ≡ all_moved (without_intent v) (name_moves (without_intent v) es)
finished_formed v es is entries = ap (λ (t : NamedStep). all_moved v (moves_of t)) (step_is v true es is entries)

pub finished_unformed : (v : View) → is_formed (v intent_file) ≡ false → entries_in (v intent_file) ≡ []
    → finished v ≡ v
finished_unformed v is none = ap (λ (t : NamedStep). all_moved v (moves_of t)) (step_is v false [] is none)

-- ---- it recovers as before

pub files_after : (v : View) (es : List IntentEntry) (n : List ℕ) → AreOthers es → IsSFileName n
    → FilesAfter (fate_in es n) n v (all_moved (without_intent v) (name_moves (without_intent v) es))
files_after v es n others sfile =
    after_from (fate_in es n) n v (without_intent v) (all_moved (without_intent v) (name_moves (without_intent v) es))
    (without_at v n (intent_and_sfile n sfile)) (without_at v (p_file n) refl) (without_at v (z_file n) refl)
    (without_at v (x_file n) refl) (without_at v (q_file n) refl) (after_moves es (without_intent v) n others sfile)

-- where no intent is there any more
alone_at : (f : Option Fate) (n : List ℕ) (v w : View) → fate_at v n ≡ f → fate_at w n ≡ None → FilesAfter f n v w
    → recovered_at w n ≡ recovered_at v n
alone_at None n v w is none after =
    recovered_under n w None none
    ∙ (recovered_same (w n) (v n) (w (p_file n)) (v (p_file n)) (is_some (w (z_file n))) (is_some (v (z_file n)))
    after.0 after.1 (ap is_some after.2) ∙ sym (recovered_under n v None is))
alone_at (Some fate) n v w is none after =
    recovered_under n w None none
    ∙ (recovered_same (w n) (newer (v (x_file n)) (v n)) (w (p_file n)) (fated fate (v (q_file n)) (v (p_file n)))
    (is_some (w (z_file n))) false after.0 after.1 (ap is_some after.2) ∙ sym (recovered_under n v (Some fate) is))

pub gone_unnamed : (v : View) (es : List IntentEntry) (n : List ℕ) → AreOthers es
    → fate_at (all_moved (without_intent v) (name_moves (without_intent v) es)) n ≡ None
gone_unnamed v es n others = ap (λ (o : Option Content). fate_in (entries_in o) n)
    (intent_gone es (without_intent v) others (without_none v))

formed_recovers : (v : View) (es : List IntentEntry) → entries_in (v intent_file) ≡ es → AreOthers es
    → RecoversAs v (all_moved (without_intent v) (name_moves (without_intent v) es))
formed_recovers v es entries others =
    recovers_from v (all_moved (without_intent v) (name_moves (without_intent v) es))
    (λ n sfile. alone_at (fate_in es n) n v (all_moved (without_intent v) (name_moves (without_intent v) es))
    (ap (λ (l : List IntentEntry). fate_in l n) entries) (gone_unnamed v es n others)
    (files_after v es n others sfile))

-- finishing leaves what recovers as before
pub finished_recovers : (v : View) → RecoversAs v (finished v)
finished_recovers v = by (intent_case (v intent_file))
  where
    by : IntentCase (v intent_file) → RecoversAs v (finished v)
    by (Formed es is entries others) = subst (λ (w : View). RecoversAs v w) (sym (finished_formed v es is entries))
        (formed_recovers v es entries others)
    by (Unformed is none) = subst (λ (w : View). RecoversAs v w) (sym (finished_unformed v is none)) (recovers_itself v)

-- ---- names stay safe

none_held : (f : Option Fate) (P : Type 0) → f ≡ None → IsSome f → P
none_held None P none some = absurd cc
none_held (Some fate) P none some = absurd cc

pub finished_safe : (v : View) → KeepsSafe v (finished v)
finished_safe v = by (intent_case (v intent_file))
  where
    by : IntentCase (v intent_file) → KeepsSafe v (finished v)
    by (Formed es is entries others) = λ n sfile safe.
        safe_by n v (finished v) sfile (finished_recovers v)
        (λ named. none_held (fate_at (finished v) n) (IsSome (finished v (z_file n)))
        (subst (λ (w : View). fate_at w n ≡ None) (sym (finished_formed v es is entries))
        (gone_unnamed v es n others)) named) safe
    by (Unformed is none) = subst (λ (w : View). KeepsSafe v w) (sym (finished_unformed v is none)) (keeps_same v)
