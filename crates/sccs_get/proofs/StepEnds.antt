-- How a get ends behind what is ready, over a disk that tells its files.
use Rattle.std.proofs.Common.{◌≡◌, ◌⊎◌, ℕ, Bool, true, false, List, [], drop, Option, None, Some, option_map, Result}
use Rattle.std.proofs.Common.{Ok, Err, inl, inr, refl, sym, ap, subst, ◌∙◌, ⊎_elim}
use Rattle.std.specs.Prelude.{if◌then◌else◌}
use Rattle.std.specs.Str.{bytes_eq}
use Rattle.sccs_base.specs.Name.{IsSFileName, p_file, y_file, z_file}
use Rattle.sccs_base.specs.Stream.{GivesOk, GivesSome}
use Rattle.sccs_base.proofs.Gifts.{gives_both, gives_then, some_none, some_of_whole}
use Rattle.sccs_sid.specs.declared.refusals.StepFault.{StepFault}
use Rattle.sccs_sid.specs.declared.refusals.StepFault.TheVariants.{Refused, Memory, ReadFault, WriteFault, DiskFault}
use Rattle.sccs_disk.specs.Effects.{renamed}
use Rattle.sccs_disk.specs.Files.{Content, View, put}
use Rattle.sccs_disk.proofs.Puts.{name_cases, put_back, put_other, put_same}
use Rattle.sccs_name_files.specs.StepFiles.{AreCleared, Files, Moves, is_left, is_working, l_file, look, moved, placed}
use Rattle.sccs_crash_points.specs.Recovery.{without_name}
use Rattle.sccs_base.proofs.SameBytes.{other_bytes, same_bytes}
use Rattle.sccs_crash_points.proofs.FileNames.{from_g, no_working, no_y, s_and_g, to_g}
use Rattle.sccs_steps.specs.Calls.{Fails, Meets, Uncommitted, World, world}
use Rattle.sccs_steps.specs.StepEffects.{Outcome, effect_of}
use Rattle.sccs_steps.specs.FirstFiles.{MovesInOrder}
use Rattle.sccs_store.specs.Commits.{Becomes, MayBecome}
use Rattle.sccs_changes.specs.declared.prepared.Prepared.{Prepared}
use Rattle.sccs_words.specs.declared.commands.GetWords.{GetWords}
use Rattle.sccs_get.specs.Giving.{FinishesGet, GivesUpGet, IsReadied, Readies, g_placed, with_y, y_cleared}
use Rattle.sccs_get.specs.VersionStep.{stays_writable, with_g, writes_g}

-- ---- views

abbrev pub content : List ℕ → Bool → Content
content text writable = record { bytes = text; writable = writable }

-- a g-file anew, and all else as it was
abbrev pub g_put : List ℕ → Content → View → View
g_put n c v = put v (drop 2 n) (Some c)

-- the name of the g-file isn't that of the s-file
pub g_and_s : (n : List ℕ) → IsSFileName n → bytes_eq (drop 2 n) n ≡ false
g_and_s n sfile = other_bytes (drop 2 n) n (λ e. absurd (let apart : bytes_eq n n ≡ false =
    subst (λ k. bytes_eq n k ≡ false) e (s_and_g n sfile) in let same : bytes_eq n n ≡ true = same_bytes n in cc))

pub placed_g : (n : List ℕ) (v : View) (text : List ℕ) (writable : Bool) → IsSFileName n
    → placed v n (with_g (look v n) text writable) ≡ g_put n (record { bytes = text; writable = writable }) v
placed_g n v text writable sfile =
    ap (λ (t : View). put (put (put t (drop 2 n) (Some (content text writable))) (p_file n) (v (p_file n))) n (v n))
    (ap (λ (u : View). put u (z_file n) (v (z_file n))) (put_back v (l_file n)) ∙ put_back v (z_file n))
    ∙ (ap (λ (t : View). put t n (v n)) (ap (λ x. put (g_put n (content text writable) v) (p_file n) x)
    (sym (put_other v (drop 2 n) (p_file n) (Some (content text writable)) (to_g 112 n sfile)))
    ∙ put_back (g_put n (content text writable) v) (p_file n))
    ∙ (ap (λ x. put (g_put n (content text writable) v) n x)
    (sym (put_other v (drop 2 n) n (Some (content text writable)) (g_and_s n sfile)))
    ∙ put_back (g_put n (content text writable) v) n))

-- the y-file in the place of the g-file
pub placed_y : (n : List ℕ) (c : Content) (v : View) (k : List ℕ) → is_working n k ≡ false
    → renamed (y_file n) (drop 2 n) (put v (y_file n) (Some c)) k ≡ g_put n c v k
placed_y n c v k h = ⊎_elim here there (name_cases (drop 2 n) k)
  where
    here : drop 2 n ≡ k → renamed (y_file n) (drop 2 n) (put v (y_file n) (Some c)) k ≡ g_put n c v k
    here e = subst (λ l. renamed (y_file n) (drop 2 n) (put v (y_file n) (Some c)) l ≡ g_put n c v l) e
        (put_same (put (put v (y_file n) (Some c)) (y_file n) None) (drop 2 n) (put v (y_file n) (Some c) (y_file n))
        ∙ (put_same v (y_file n) (Some c) ∙ sym (put_same v (drop 2 n) (Some c))))

    there : bytes_eq (drop 2 n) k ≡ false → renamed (y_file n) (drop 2 n) (put v (y_file n) (Some c)) k ≡ g_put n c v k
    there apart =
        put_other (put (put v (y_file n) (Some c)) (y_file n) None) (drop 2 n) k (put v (y_file n) (Some c) (y_file n))
        apart
        ∙ (put_other (put v (y_file n) (Some c)) (y_file n) k None (no_y n k h)
        ∙ (put_other v (y_file n) k (Some c) (no_y n k h) ∙ sym (put_other v (drop 2 n) k (Some c) apart)))

-- by whether a g-file is written
abbrev pub new_by : Bool → List ℕ → List ℕ → Bool → View → Option Files
new_by b n text writable v = if b then Some (with_g (look v n) text writable) else None

abbrev y_by : Bool → List ℕ → Content → View → View
y_by b n c v = if b then put v (y_file n) (Some c) else v

abbrev g_by : Bool → List ℕ → View → View
g_by b n v = if b then renamed (y_file n) (drop 2 n) v else v

abbrev gone_by : Bool → List ℕ → View → View
gone_by b n v = if b then without_name (y_file n) v else v

pub made_by : (b : Bool) (n text : List ℕ) (writable : Bool) (v : View) (k : List ℕ) → IsSFileName n
    → is_working n k ≡ false → g_by b n (y_by b n (content text writable) v) k ≡ moved v n (new_by b n text writable v)
    k
made_by true n text writable v k sfile h = placed_y n (content text writable) v k h
    ∙ sym (ap (λ (t : View). t k) (placed_g n v text writable sfile))
made_by false n text writable v k sfile h = refl

pub y_other : (b : Bool) (n : List ℕ) (c : Content) (v : View) (k : List ℕ) → bytes_eq (y_file n) k ≡ false
    → y_by b n c v k ≡ v k
y_other true n c v k h = put_other v (y_file n) k (Some c) h
y_other false n c v k h = refl

pub gone_other : (b : Bool) (n : List ℕ) (v : View) (k : List ℕ) → bytes_eq (y_file n) k ≡ false → gone_by b n v k ≡ v k
gone_other true n v k h = put_other v (y_file n) k None h
gone_other false n v k h = refl

-- the y-file is gone, and other working files are as they were
working_g : (n k : List ℕ) → IsSFileName n → is_working n k ≡ true → bytes_eq (drop 2 n) k ≡ false
working_g n k sfile h =
    ⊎_elim (λ e. absurd (let some : is_working n (drop 2 n) ≡ true = subst (λ l. is_working n l ≡ true) (sym e) h in
    let none : is_working n (drop 2 n) ≡ false = apart in cc)) (λ other. other) (name_cases (drop 2 n) k)
  where
    apart : is_working n (drop 2 n) ≡ false
    apart = rw (from_g 120 n sfile) (rw (from_g 113 n sfile) (from_g 121 n sfile))

cleared_by : (b : Bool) (n : List ℕ) (c : Content) (v : View) (k : List ℕ) → IsSFileName n → is_working n k ≡ true
    → (g_by b n (y_by b n c v) k ≡ None) ⊎ (g_by b n (y_by b n c v) k ≡ v k)
cleared_by false n c v k sfile h = inr refl
cleared_by true n c v k sfile h =
    ⊎_elim (λ e. inl (subst (λ l. placed l ≡ None) e (put_other (put y (y_file n) None) (drop 2 n) (y_file n)
    (y (y_file n)) (to_g 121 n sfile) ∙ put_same y (y_file n) None)))
    (λ apart. inr (put_other (put y (y_file n) None) (drop 2 n) k (y (y_file n)) (working_g n k sfile h)
    ∙ (put_other y (y_file n) k None apart ∙ put_other v (y_file n) k (Some c) apart))) (name_cases (y_file n) k)
  where
    y : View
    y = put v (y_file n) (Some c)

    placed : View
    placed = renamed (y_file n) (drop 2 n) y

-- ---- the view at the end

module _ (words : GetWords) (n : List ℕ) (sfile : IsSFileName n) where
  abbrev files_new : List ℕ → View → Option Files
  files_new text v = new_by (writes_g words) n text (stays_writable words) v

  -- all is made
  pub made_view : (text : List ℕ) (v : View) (o4 o5 : Option View) (new : Option Files) → new ≡ files_new text v
      → Becomes (with_y words n text) (Some v) o4 → Becomes (g_placed words n) o4 o5
      → Moves (is_working n) (λ u. moved u n new) (Some v) o5
  made_view text v o4 o5 new is given placed =
      subst (λ (o : Option View). Moves (is_working n) (λ u. moved u n new) (Some v) o)
      (sym (placed ∙ ap (option_map (g_placed words n)) given))
      (λ k h. made_by (writes_g words) n text (stays_writable words) v k sfile h
      ∙ ap (λ (f : Option Files). moved v n f k) (sym is))

  -- and no y-file is left
  pub made_clears : (text : List ℕ) (v : View) (o4 o5 : Option View) → Becomes (with_y words n text) (Some v) o4
      → Becomes (g_placed words n) o4 o5 → AreCleared n (Some v) o5
  made_clears text v o4 o5 given placed =
      subst (λ (o : Option View). AreCleared n (Some v) o) (sym (placed ∙ ap (option_map (g_placed words n)) given))
      (λ k h. cleared_by (writes_g words) n (content text (stays_writable words)) v k sfile h)

  -- the g-file is placed or not
  pub placed_partly : (text : List ℕ) (v : View) (o4 o5 : Option View) (new : Option Files) → new ≡ files_new text v
      → Becomes (with_y words n text) (Some v) o4 → MayBecome (g_placed words n) o4 o5 → MovesInOrder n new (Some v) o5
  placed_partly text v o4 o5 new is given (inl same) = (
    0,
    subst (λ (o : Option View). Moves (is_left n) (λ u. u) (Some v) o) (sym (same ∙ given))
        (λ k h. y_other (writes_g words) n (content text (stays_writable words)) v k (no_y n k (no_working n k h))),
  )
  placed_partly text v o4 o5 new is given (inr placed) = (4, whole o5 (made_view text v o4 o5 new is given placed))
    where
      whole : (o : Option View) → Moves (is_working n) (λ u. moved u n new) (Some v) o
          → Moves (is_left n) (λ u. moved u n new) (Some v) o
      whole None moves = absurd moves
      whole (Some w) moves = λ k h. moves k (no_working n k h)

  -- nothing is made, and no y-file is left
  pub undone : (b : Bool) (new : Option Files) (text : List ℕ) (v : View) (o4 o5 : Option View)
      (out out2 err : Option (List ℕ)) → Moves (bytes_eq (y_file n)) (λ u. u) (Some v) o4 → (b ≡ false → o4 ≡ Some v)
      → Becomes (gone_by b n) o4 o5 → GivesSome out out2 text → Uncommitted n new text (world (Some v) out err)
      (world o5 out2 err)
  undone b new text v None o5 out out2 err moves same gone gives = absurd moves
  undone b new text v (Some u) o5 out out2 err moves same gone gives = record {
    view = (
      false,
      subst (λ (o : Option View). Moves (is_working n) (λ w. w) (Some v) o) (sym gone)
          (λ k h. gone_other b n u k (no_y n k h) ∙ moves k (no_y n k h)),
    );
    cleared = subst (λ (o : Option View). AreCleared n (Some v) o) (sym gone) (λ k h. cleared_at b same k);
    out = gives;
    err = refl;
  }
    where
      view_is : Some u ≡ Some v → u ≡ v
      view_is e = cc

      cleared_at : (b : Bool) → (b ≡ false → Some u ≡ Some v) → (k : List ℕ) → (gone_by b n u k ≡ None)
          ⊎ (gone_by b n u k ≡ v k)
      cleared_at true same k =
          ⊎_elim (λ e. inl (subst (λ l. without_name (y_file n) u l ≡ None) e (put_same u (y_file n) None)))
          (λ apart. inr (put_other u (y_file n) k None apart ∙ moves k apart)) (name_cases (y_file n) k)
      cleared_at false same k = inr (ap (λ (t : View). t k) (view_is (same refl)))

  -- the y-file alone is another
  pub left_y : (v : View) (o4 o5 : Option View) → Moves (bytes_eq (y_file n)) (λ u. u) (Some v) o4
      → Moves (bytes_eq (y_file n)) (λ u. u) o4 o5 → Moves (is_left n) (λ u. u) (Some v) o5
  left_y v None o5 moves more = absurd moves
  left_y v (Some u) None moves more = absurd more
  left_y v (Some u) (Some w) moves more = λ k h. more k (no_y n k (no_working n k h))
      ∙ moves k (no_y n k (no_working n k h))

  pub cleared_moves : (b : Bool) (o4 o5 : Option View) → Becomes (gone_by b n) o4 o5 → Moves (bytes_eq (y_file n))
      (λ u. u) o4 o5
  cleared_moves b None o5 gone = gone
  cleared_moves b (Some u) o5 gone = subst (λ (o : Option View). Moves (bytes_eq (y_file n)) (λ w. w) (Some u) o)
      (sym gone) (λ k h. gone_other b n u k h)

  -- ---- how the call ends

  -- what was written behind what is ready
  abbrev Met : Result (Unit {0}) StepFault → Outcome → View → Option View → Option (List ℕ) → Option (List ℕ)
      → Option (List ℕ) → Option (List ℕ) → Type 0
  Met r o v o5 out out3 err err2 = Meets (λ (done : Unit {0}). 0) r n o (world (Some v) out err) (world o5 out3 err2)

  abbrev pub finished : (r : Result (Unit {0}) StepFault) (p : Prepared) (o : Outcome) (v : View) (o4 o5 : Option View)
      (out out2 out3 err err2 : Option (List ℕ)) → IsReadied words n p o (world (Some v) out err) (world o4 out2 err)
      → FinishesGet words n p r (world o4 out2 err) (world o5 out3 err2) → Met r o v o5 out out3 err err2
  finished (Ok done) p o v o4 o5 out out2 out3 err err2 ready finishes = (
    ready.effect,
    ready.is,
    ready.status,
    record {
      view = made_view ready.text v o4 o5 ready.effect.new ready.new ready.given.view finishes.0;
      cleared = made_clears ready.text v o4 o5 ready.given.view finishes.0;
      out = gives_both out out2 out3 ready.effect.text ready.effect.out (subst (λ t. GivesOk out out2 t)
          (sym ready.text_is) ready.given.out) (subst (λ t. GivesOk out2 out3 t) (sym ready.report) finishes.1.out);
      err = subst (λ t. GivesOk err err2 t) (sym ready.message) finishes.1.err;
    },
  )
  finished (Err WriteFault) p o v o4 o5 out out2 out3 err err2 ready finishes = inr (
    ready.effect,
    ready.is,
    record {
      status = ready.status;
      view = made_view ready.text v o4 o5 ready.effect.new ready.new ready.given.view finishes.0;
      cleared = made_clears ready.text v o4 o5 ready.given.view finishes.0;
      out = gives_then out out2 out3 ready.effect.text ready.effect.out (subst (λ t. GivesOk out out2 t)
          (sym ready.text_is) ready.given.out) (subst (λ t. GivesSome out2 out3 t) (sym ready.report) finishes.1.out);
      err = subst (λ t. GivesSome err err2 t) (sym ready.message) finishes.1.err;
    },
  )
  finished (Err DiskFault) p o v o4 o5 out out2 out3 err err2 ready finishes = record {
    view = subst (λ (x : Outcome). MovesInOrder n (effect_of n x).new (Some v) o5) (sym ready.is)
        (placed_partly ready.text v o4 o5 ready.effect.new ready.new ready.given.view finishes.0);
    out = subst (λ (x : Option (List ℕ)). GivesSome out x (effect_of n o).text) (sym finishes.1)
        (some_of_whole out out2 (effect_of n o).text (subst (λ t. GivesOk out out2 t)
        (sym (ap (λ x. (effect_of n x).text) ready.is ∙ ready.text_is)) ready.given.out));
    err = finishes.2;
  }
  finished (Err (Refused refusal)) p o v o4 o5 out out2 out3 err err2 ready finishes = absurd finishes
  finished (Err Memory) p o v o4 o5 out out2 out3 err err2 ready finishes = absurd finishes
  finished (Err ReadFault) p o v o4 o5 out out2 out3 err err2 ready finishes = absurd finishes

  -- get gave up, and the y-file is gone
  abbrev pub gave_up : (fault : StepFault) (o : Outcome) (v : View) (o4 o5 : Option View)
      (out out2 err : Option (List ℕ)) → Readies words n o (Err fault) (world (Some v) out err) (world o4 out2 err)
      → Moves (bytes_eq (y_file n)) (λ u. u) (Some v) o4 → (writes_g words ≡ false → o4 ≡ Some v)
      → Becomes (y_cleared (writes_g words) n) o4 o5 → Fails fault n o (world (Some v) out err) (world o5 out2 err)
  gave_up (Refused refusal) o v o4 o5 out out2 err ready moves same gone = (
    ready.0,
    undone (writes_g words) None [] v o4 o5 out out2 err moves same gone
        (subst (λ (x : Option (List ℕ)). GivesSome out x []) (sym ready.1) (some_none out [])),
  )
  gave_up Memory o v o4 o5 out out2 err ready moves same gone = undone (writes_g words) (effect_of n o).new
      (effect_of n o).text v o4 o5 out out2 err moves same gone ready
  gave_up WriteFault o v o4 o5 out out2 err ready moves same gone =
      inl (undone (writes_g words) (effect_of n o).new (effect_of n o).text v o4 o5 out out2 err moves same gone ready)
  gave_up DiskFault o v o4 o5 out out2 err ready moves same gone =
      record { view = (0, left_y v o4 o5 moves (cleared_moves (writes_g words) o4 o5 gone)); out = ready; err = refl }
  gave_up ReadFault o v o4 o5 out out2 err ready moves same gone = absurd ready

  -- a prefix of the text was written, whatever failed
  pub written : (fault : StepFault) (o : Outcome) (w w2 : World) → Readies words n o (Err fault) w w2
      → GivesSome w.out w2.out (effect_of n o).text
  written (Refused refusal) o w w2 ready = subst (λ (x : Option (List ℕ)). GivesSome w.out x (effect_of n o).text)
      (sym ready.1) (some_none w.out (effect_of n o).text)
  written Memory o w w2 ready = ready
  written WriteFault o w w2 ready = ready
  written DiskFault o w w2 ready = ready
  written ReadFault o w w2 ready = absurd ready

  abbrev pub gives_up : (fault : StepFault) (r : Result (Unit {0}) StepFault) (o : Outcome) (v : View)
      (o4 o5 : Option View) (out out2 err : Option (List ℕ)) → Readies words n o (Err fault) (world (Some v) out err)
      (world o4 out2 err) → Moves (bytes_eq (y_file n)) (λ u. u) (Some v) o4 → (writes_g words ≡ false → o4 ≡ Some v)
      → GivesUpGet (writes_g words) n fault r o4 o5 → Met r o v o5 out out2 err err
  gives_up fault r o v o4 o5 out out2 err ready moves same (inl gone) =
      subst (λ (s : Result (Unit {0}) StepFault). Met s o v o5 out out2 err err) (sym gone.0)
      (gave_up fault o v o4 o5 out out2 err ready moves same gone.1)
  gives_up fault r o v o4 o5 out out2 err ready moves same (inr broken) =
      subst (λ (s : Result (Unit {0}) StepFault). Met s o v o5 out out2 err err) (sym broken.0)
      (record {
        view = (0, left_y v o4 o5 moves broken.1);
        out = written fault o (world (Some v) out err)
            (world o4 out2 err) ready;
        err = refl;
      })
