-- The one step of val in a run.
use Rattle.std.proofs.Common.{◌≡◌, ◌⊎◌, ℕ, ◌<◌, ◌≤◌, ◌==◌, length, Bool, true, false, cond, List, [], ◌∷◌, ◌++◌, Option}
use Rattle.std.proofs.Common.{None, Some, option_map, IfSome, IfOk, Result, Ok, Err, inl, inr, refl, sym, ap, subst}
use Rattle.std.proofs.Common.{◌∙◌, append-nil, codes, flat_map}
use Rattle.std.specs.List.{fold}
use Rattle.std.specs.Int.Bits.{bit_or}
use Rattle.sccs_base.specs.Constants.{file_limit}
use Rattle.sccs_base.specs.Cut.{text_of}
use Rattle.sccs_base.specs.Name.{is_sfile_name, sfile_name_decides}
use Rattle.sccs_base.specs.Stream.{GivesOk, GivesSome, Rose}
use Rattle.sccs_base.proofs.Gifts.{gives_none, some_none}
use Rattle.sccs_disk.specs.Files.{Content, Folder, View, view_in}
use Rattle.sccs_disk.specs.Told.{Told, seen}
use Rattle.sccs_name_files.specs.StepFiles.{Shows, Moves, is_working}
use Rattle.sccs_sid.specs.Refusal.{number_of}
use Rattle.sccs_sid.specs.declared.refusals.Refusal.{Refusal}
use Rattle.sccs_sid.specs.declared.refusals.Refusal.TheVariants as refusals
use Rattle.sccs_sid.specs.declared.refusals.StepFault.{StepFault}
use Rattle.sccs_sid.specs.declared.refusals.StepFault.TheVariants.{Refused, Memory, ReadFault, WriteFault, DiskFault}
use Rattle.sccs_steps.specs.Actions.{IsHeard, KeepsFiles, RefusesWithin, SteppedAs, has_number, step_at}
use Rattle.sccs_steps.specs.Calls.{Meets, scene, shown, world}
use Rattle.sccs_steps.specs.Causes.{RunCauses, StepCauses, counts}
use Rattle.sccs_steps.specs.ListStops.{RunCrashPoints, Spares}
use Rattle.sccs_steps.specs.Messages.{Concludes}
use Rattle.sccs_steps.specs.Running.{MakesBy, StopsBy}
use Rattle.sccs_steps.specs.StepEffects.{Outcome, StepEffect, effect_of}
use Rattle.sccs_steps.specs.declared.faults.Fault.{Fault}
use Rattle.sccs_steps.specs.declared.faults.Fault.TheVariants as ends
use Rattle.sccs_steps.proofs.NameLaws.{fitting, stepped_runs}
use Rattle.sccs_steps.proofs.NameStops.{stepped_stops}
use Rattle.sccs_steps.proofs.ReadingCrashPoints.{reading_crash_points_as}
use Rattle.sccs_steps.proofs.ReadingSteps.{broken, kept, same_cleared}
use Rattle.sccs_words.specs.declared.commands.ValWords.{ValWords}
use Rattle.sccs_table.specs.ReaderState.{file_in}
use Rattle.sccs_val.specs.Findings.{bits, findings}
use Rattle.sccs_val.specs.Reports.{fault_lines, line_heading, line_status, line_text, line_words, bit_lines}
use Rattle.sccs_val.specs.Reports.{lines_status, val_lines_text, operand_status, operand_text, operands_in, takes_lines}
use Rattle.sccs_val.specs.Reports.{val_status, val_text, words_status, words_text}
use Rattle.sccs_val.specs.ValStep.{Judges, is_long, val_judged, val_effect, val_action, val_outcome, val_over}
use Rattle.sccs_val.specs.ValStep.{val_steps}

-- ---- only s-files are looked at

-- two views have the same s-files
abbrev pub SameSfiles : View → View → Type 0
SameSfiles u v = (n : List ℕ) → is_sfile_name n ≡ true → u n ≡ v n

-- where the disk shows a folder
pub shown_sfiles : (w : List ℕ → Bool) (u v : View) → Spares w → Shows w (Some u) v → SameSfiles u v
shown_sfiles w u v spares shows n is = shows n (spares.s n ((sfile_name_decides n).0 is).1)

same_bytes : (words : ValWords) (n : List ℕ) (a b : Option Content) → a ≡ b
    → findings words n (option_map (λ (c : Content). c.bytes) a) ≡ findings words n
    (option_map (λ (c : Content). c.bytes) b)
same_bytes words n a b same = ap (λ (o : Option Content). findings words n (option_map (λ (c : Content). c.bytes) o))
    same

same_found : (words : ValWords) (u v : View) (n : List ℕ) → SameSfiles u v → findings words n (file_in u n)
    ≡ findings words n (file_in v n)
same_found words u v n same = by (is_sfile_name n) refl
  where
    by : (t : Bool) → is_sfile_name n ≡ t → findings words n (file_in u n) ≡ findings words n (file_in v n)
    by true is = same_bytes words n (u n) (v n) (same n is)
    by false is = rw is refl

same_text : (f g : List ℕ → List ℕ) (ns : List (List ℕ)) → ((n : List ℕ) → f n ≡ g n) → flat_map f ns ≡ flat_map g ns
same_text f g [] same = refl
same_text f g (n ∷ ns) same = ap (λ (l : List ℕ). l ++ flat_map f ns) (same n) ∙ ap (λ (l : List ℕ). g n ++ l)
    (same_text f g ns same)

same_status : (f g : List ℕ → ℕ) (ns : List (List ℕ)) (status : ℕ) → ((n : List ℕ) → f n ≡ g n)
    → fold (λ s n. bit_or s (f n)) status ns ≡ fold (λ s n. bit_or s (g n)) status ns
same_status f g [] status same = refl
same_status f g (n ∷ ns) status same = ap (λ b. fold (λ s n. bit_or s (f n)) (bit_or status b) ns) (same n)
    ∙ same_status f g ns (bit_or status (g n)) same

same_operand : (words : ValWords) (u v : View) → SameSfiles u v → (n : List ℕ)
    → operand_text words u n ≡ operand_text words v n
same_operand words u v same n = ap (λ f. cond words.silent [] (bit_lines n f)) (same_found words u v n same)

same_bits : (words : ValWords) (u v : View) → SameSfiles u v → (n : List ℕ) → operand_status words u n
    ≡ operand_status words v n
same_bits words u v same n = ap bits (same_found words u v n same)

same_words : (words : ValWords) (u v : View) → SameSfiles u v → words_text words u ≡ words_text words v
same_words words u v same =
    ap (λ t. cond (words.fault == 0) t (cond words.silent [] (fault_lines words.fault)))
    (same_text (operand_text words u) (operand_text words v) (operands_in words.operands)
    (same_operand words u v same))

same_words_status : (words : ValWords) (u v : View) → SameSfiles u v → words_status words u ≡ words_status words v
same_words_status words u v same =
    ap (λ s. cond (words.fault == 0) s words.fault) (same_status (operand_status words u) (operand_status words v)
    (operands_in words.operands) 0 (same_bits words u v same))

same_line_status : (u v : View) → SameSfiles u v → (line : List ℕ) → line_status u line ≡ line_status v line
same_line_status u v same line = same_words_status (line_words line) u v same

same_line : (u v : View) → SameSfiles u v → (line : List ℕ) → line_text u line ≡ line_text v line
same_line u v same line =
    ap (λ s. line_heading line s (line_words line).silent ++ words_text (line_words line) u)
    (same_line_status u v same line)
    ∙ ap (λ t. line_heading line (line_status v line) (line_words line).silent ++ t)
    (same_words (line_words line) u v same)

same_val_text : (words : ValWords) (u v : View) (i : List ℕ) → SameSfiles u v → val_text words u i ≡ val_text words v i
same_val_text words u v i same =
    ap (λ t. cond (takes_lines words) t (words_text words u)) (same_text (line_text u) (line_text v) (text_of i)
    (same_line u v same))
    ∙ ap (λ t. cond (takes_lines words) (val_lines_text v (text_of i)) t) (same_words words u v same)

same_val_status : (words : ValWords) (u v : View) (i : List ℕ) → SameSfiles u v
    → val_status words u i ≡ val_status words v i
same_val_status words u v i same =
    ap (λ s. cond (takes_lines words) s (words_status words u)) (same_status (line_status u) (line_status v)
    (text_of i) 0 (same_line_status u v same))
    ∙ ap (λ s. cond (takes_lines words) (lines_status v (text_of i)) s) (same_words_status words u v same)

pub same_outcome : (words : ValWords) (u v : View) (i : List ℕ) → SameSfiles u v
    → val_outcome words u i ≡ val_outcome words v i
same_outcome words u v i same =
    ap (λ t. val_judged (is_long words i) t (val_status words u i)) (same_val_text words u v i same)
    ∙ ap (λ s. val_judged (is_long words i) (val_text words v i) s) (same_val_status words u v i same)

-- ---- the call of the step

-- what is printed meets what is judged
judged_meets : (long : Bool) (text : List ℕ) (status : ℕ) (n : List ℕ) (r : Result ℕ StepFault) (v : View)
    (told2 : Option View) (out out2 err : Option (List ℕ)) → told2 ≡ Some v → Judges long text status r out out2
    → Meets (λ (code : ℕ). code) r n (val_judged long text status) (world (Some v) out err) (world told2 out2 err)
judged_meets false text status n (Ok code) v told2 out out2 err same judges = (
  val_effect text status,
  refl,
  sym judges.1,
  record {
    view = subst (λ (t : Option View). Moves (is_working n) (λ u. u) (Some v) t) (sym same) (λ k h. refl);
    cleared = same_cleared v told2 n same;
    out = subst (λ (l : List ℕ). GivesOk out out2 l) (sym (append-nil text)) judges.2;
    err = gives_none err;
  },
)
judged_meets true text status n (Ok code) v told2 out out2 err same judges = absurd (let no : true ≡ false = judges.0 in
    cc)
judged_meets true text status n (Err (Refused refusal)) v told2 out out2 err same judges = (
  ap Err (sym judges.1),
  kept v told2 n None [] out out2 err same
      (subst (λ (o : Option (List ℕ)). GivesSome out o []) (sym judges.2) (some_none out [])),
)
judged_meets false text status n (Err (Refused refusal)) v told2 out out2 err same judges =
    absurd (let no : false ≡ true = judges.0 in cc)
judged_meets true text status n (Err Memory) v told2 out out2 err same judges =
    kept v told2 n None [] out out2 err same judges
judged_meets false text status n (Err Memory) v told2 out out2 err same judges =
    kept v told2 n None text out out2 err same judges
judged_meets true text status n (Err ReadFault) v told2 out out2 err same judges =
    kept v told2 n None [] out out2 err same judges
judged_meets false text status n (Err ReadFault) v told2 out out2 err same judges =
    kept v told2 n None text out out2 err same judges
judged_meets true text status n (Err WriteFault) v told2 out out2 err same judges =
    inl (kept v told2 n None [] out out2 err same judges)
judged_meets false text status n (Err WriteFault) v told2 out out2 err same judges =
    inl (kept v told2 n None text out out2 err same judges)
judged_meets true text status n (Err DiskFault) v told2 out out2 err same judges =
    broken v told2 n (val_judged true text status) out out2 err same judges
judged_meets false text status n (Err DiskFault) v told2 out out2 err same judges =
    broken v told2 n (val_judged false text status) out out2 err same judges

-- what the call of val says
abbrev pub ValTold : ValWords → Option View → Option (List ℕ) → Result ℕ StepFault → Option (List ℕ) → Option (List ℕ)
    → Type 0
ValTold words told left r out out2 = IfSome told (λ v. (i : List ℕ) → (takes_lines words ≡ false) ⊎ (left ≡ Some i)
    → Judges (is_long words i) (val_text words v i) (val_status words v i) r out out2)

-- over the files of a folder that the disk shows
pub val_stepped : (words : ValWords) (w : List ℕ → Bool) (folder : Folder) (n : List ℕ) (r : Result ℕ StepFault)
    (left : Option (List ℕ)) (a b : Told) (out out2 err : Option (List ℕ)) → b ≡ a → Spares w
    → Shows w (seen a) (view_in folder) → ValTold words (seen a) left r out out2
    → SteppedAs (λ (code : ℕ). code) (val_over words (view_in folder)) r n left (scene a out err) (scene b out2 err)
val_stepped words w folder n r left a b out out2 err same spares shows told = by (seen a) refl shows told
  where
    by : (o : Option View) → seen a ≡ o → Shows w o (view_in folder) → ValTold words o left r out out2
        → IfSome o (λ (v : View). (i : List ℕ) → IsHeard (takes_lines words) left i → Meets (λ (code : ℕ). code) r n
        (val_outcome words (view_in folder) i) (shown (scene a out err)) (shown (scene b out2 err)))
    by None is shows told = absurd shows
    by (Some u) is shows told = λ i heard.
        subst (λ (o : Outcome). Meets (λ (code : ℕ). code) r n o (shown (scene a out err)) (shown (scene b out2 err)))
        (same_outcome words u (view_in folder) i (shown_sfiles w u (view_in folder) spares shows))
        (subst (λ (o : Option View). Meets (λ (code : ℕ). code) r n (val_outcome words u i) (world o out err)
        (world (seen b) out2 err)) (sym is)
        (judged_meets (is_long words i) (val_text words u i) (val_status words u i) n r u (seen b) out out2 err
        (ap seen same ∙ is) (told i heard)))

-- no file changes
kept_judged : (long : Bool) (text : List ℕ) (status : ℕ) (d : StepEffect) → val_judged long text status ≡ Ok d
    → d.new ≡ None
kept_judged true text status d is = absurd cc
kept_judged false text status d is = subst (λ (r : Outcome). IfOk r (λ (e : StepEffect). e.new ≡ None)) is refl

pub val_keeps : (words : ValWords) (v : View) → KeepsFiles (val_over words v)
val_keeps words v = record {
  quiet = λ reads n i named f d is. kept_judged (is_long words i) (val_text words v i) (val_status words v i) d is;
  names = λ changes n fits. absurd cc;
  locked = λ changes locks n i named f d is there g new. absurd cc;
  pending = λ changes never n i v f d there is. absurd cc;
}

judged_leaves : (n : List ℕ) (long : Bool) (text : List ℕ) (status : ℕ)
    → (effect_of n (val_judged long text status)).new ≡ None
judged_leaves n true text status = refl
judged_leaves n false text status = refl

-- its step leaves all files
pub val_leaves : (words : ValWords) (m : Folder) (i : List ℕ)
    → (step_at (val_over words (view_in m)) m i (codes "-")).effect.new ≡ None
val_leaves words m i =
    ap (λ (o : Outcome). (effect_of (codes "-") o).new) (fitting (val_over words (view_in m)) m i (codes "-") refl)
    ∙ judged_leaves (codes "-") (is_long words i) (val_text words (view_in m) i) (val_status words (view_in m) i)

-- ---- the run of the step

pub val_makes : (words : ValWords) (made : Result ℕ StepFault) (r : Result ℕ Fault) (left : Option (List ℕ))
    (a b : Told) (out out2 err err2 : Option (List ℕ)) → b ≡ a → ValTold words (seen a) left made out out2
    → Concludes made (codes "-") r err err2
    → MakesBy (val_action words) (val_steps words) (IsHeard (takes_lines words) left) r (scene a out err)
    (scene b out2 err2)
val_makes words made r left a b out out2 err err2 same told says = λ w folder i spares clear shows heard.
    stepped_runs (val_over words (view_in folder)) w folder i (codes "-") (codes "-") made r left (scene a out err)
    (scene b out2 err) err2 (val_keeps words (view_in folder)) refl refl clear.0 (λ reads. same) shows heard
    (val_stepped words w folder (codes "-") made left a b out out2 err same spares shows told) says

pub val_stops : (words : ValWords) (made : Result ℕ StepFault) (r : Result ℕ Fault) (left : Option (List ℕ))
    (a b : Told) (out out2 err err2 : Option (List ℕ)) → b ≡ a → ValTold words (seen a) left made out out2
    → Concludes made (codes "-") r err err2
    → StopsBy (val_action words) (val_steps words) (IsHeard (takes_lines words) left) r (scene a out err)
    (scene b out2 err2)
val_stops words made r left a b out out2 err err2 same told says = λ w folder i m past spares clear shows heard is may
    safe.
    let y = val_over words (view_in folder) in
    let ran : RunCrashPoints y w r folder (val_steps words folder i) (scene a out err) (scene b out2 err2) m past =
    stepped_stops y (codes "-") (codes "-") made r left (scene a out err) (scene b out2 err) err2
    (val_keeps words (view_in folder)) refl refl (λ reads. same)
    (reading_crash_points_as (λ (code : ℕ). code) y made (codes "-") left (scene a out err) (scene b out2 err)
    (val_keeps words (view_in folder)) refl same (val_stepped words w folder (codes "-") made left a b out out2 err
    same spares shows told))
    (λ changes. absurd (cc), λ changes locks. absurd (cc)) says w folder i m past spares clear shows heard is may
    safe in
    record { list = ran.list; acknowledged = ran.acknowledged; safe = ran.safe; keeps = ran.keeps; images = ran.images }

-- over any disk
pub val_refuses : (r : Result ℕ StepFault) (left : Option (List ℕ)) → ((refusal : Refusal) → r ≡ Err (Refused refusal)
    → (refusal ≡ refusals.TooLong) × IfSome left (λ i. file_limit < length i))
    → RefusesWithin (number_of refusals.TooLong ∷ []) r
val_refuses r left long refusal is = subst (λ (q : Refusal). has_number (number_of refusals.TooLong ∷ []) (number_of q)
    ≡ true) (sym (long refusal is).0) refl

-- why the run ends early
pub val_causes : (made : Result ℕ StepFault) (r : Result ℕ Fault) (i i2 o o2 e e2 d d2 : ℕ)
    → StepCauses made (counts i o e d) (counts i2 o2 e d2) → e ≤ e2
    → (r ≡ Err ends.WriteFault → ((made ≡ Err WriteFault) × (e2 ≡ e)) ⊎ Rose e e2) → (r ≡ Err ends.ReadFault
    → made ≡ Err ReadFault) → (r ≡ Err ends.DiskFault → made ≡ Err DiskFault)
    → RunCauses r (counts i o e d) (counts i2 o2 e2 d2)
val_causes made r i i2 o o2 e e2 d d2 causes later write read broke = record {
  input_later = causes.input_later;
  out_later = causes.out_later;
  err_later = later;
  disk_later = causes.disk_later;
  read = λ is. causes.read (read is);
  write = λ is. written (write is);
  broke = λ is. causes.broke (broke is);
}
  where
    written : ((made ≡ Err WriteFault) × (e2 ≡ e)) ⊎ Rose e e2 → Rose o o2 ⊎ Rose e e2
    written (inl (failed, same)) = subst (λ k. Rose o o2 ⊎ Rose e k) (sym same) (causes.write failed)
    written (inr rose) = inr rose
