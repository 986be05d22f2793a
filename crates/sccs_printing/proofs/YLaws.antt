-- A y-file that is begun, written and finished.
use Rattle.std.proofs.Common.{◌≡◌, ℕ, Bool, true, false, cond, List, Option, None, Some, option_map, refl, sym, ap}
use Rattle.std.proofs.Common.{subst, ◌∙◌}
use Rattle.std.specs.Prelude.{IfSome}
use Rattle.std.specs.Str.{bytes_eq}
use Rattle.std.proofs.Math.Path.{fun_ext}
use Rattle.sccs_base.specs.Stream.{GivesOk}
use Rattle.sccs_disk.proofs.Puts.{put_same}
use Rattle.sccs_disk.specs.Effects.{altered, empty_file}
use Rattle.sccs_disk.specs.Files.{Content, View, put}
use Rattle.sccs_name_files.specs.StepFiles.{Moves}
use Rattle.sccs_store.specs.Finished.{finished}
use Rattle.sccs_store.specs.declared.modes.Mode.{Mode}
use Rattle.sccs_store.specs.declared.modes.Mode.TheVariants.{Writable, Protected}
use Rattle.sccs_history.specs.declared.headers.Record.{Record}
use Rattle.sccs_store.specs.Commits.{Becomes}
use Rattle.sccs_table.specs.ReaderState.{bytes_in}
use Rattle.sccs_keywords.specs.Forms.{LineForm}
use Rattle.sccs_versions.specs.WasRead.{shown_before}
use Rattle.sccs_printing.specs.Printing.{MakesWhole, PrintsWhole, finished_text, version_text}
use Rattle.sccs_printing.specs.Targets.{mark_in}
use Rattle.sccs_printing.specs.declared.shown.Shown.{Shown}

-- a file with a text, that may be written
abbrev writable_text : List ℕ → Content
writable_text text = record { bytes = text; writable = true }

finished_is : (mode : Mode) (text : List ℕ) → finished mode (writable_text text) ≡ finished_text mode text
finished_is Writable text = refl
finished_is Protected text = refl

same_content : (b b2 : List ℕ) (w w2 : Bool) → b ≡ b2 → w ≡ w2 → ◌≡◌ {A = Content} (record { bytes = b; writable = w })
    (record { bytes = b2; writable = w2 })
same_content b b2 w w2 bytes mark = cc

some_same : {X : Type 0} (x y : X) → ◌≡◌ {A = Option X} (Some x) (Some y) → x ≡ y
some_same x y is = cc

content_is : (text : List ℕ) (o : Option Content) → option_map (λ (c : Content). c.bytes) o ≡ Some text
    → option_map (λ (c : Content). c.writable) o ≡ Some true → o ≡ Some (writable_text text)
content_is text None bytes mark = absurd cc
content_is text (Some c) bytes mark = ap (λ (d : Content). Some d) (same_content c.bytes text c.writable true
    (some_same c.bytes text bytes) (some_same c.writable true mark))

-- the same file put into views that differ in it alone
put_alike : (n : List ℕ) (x : Option Content) (v w : View) → ((k : List ℕ) → bytes_eq n k ≡ false → w k ≡ v k)
    → put w n x ≡ put v n x
put_alike n x v w alike = fun_ext (λ k. by_test k (bytes_eq n k) refl)
  where
    by_test : (k : List ℕ) (test : Bool) → bytes_eq n k ≡ test → cond test x (w k) ≡ cond test x (v k)
    by_test k true is = refl
    by_test k false is = alike k is

put_over : (n : List ℕ) (x y : Option Content) (v w : View) → ((k : List ℕ) → bytes_eq n k ≡ false → w k ≡ put v n x k)
    → put w n y ≡ put v n y
put_over n x y v w alike = put_alike n y v w (λ k other. alike k other ∙ ap (λ test. cond test x (v k)) other)

made_on : (n : List ℕ) (mode : Mode) (text : List ℕ) (v : View) (c d : Option View) → Moves (bytes_eq n) (λ v. v)
    (Some (put v n (Some empty_file))) c → GivesOk (bytes_in (Some (put v n (Some empty_file))) n) (bytes_in c n) text
    → mark_in c n ≡ mark_in (Some (put v n (Some empty_file))) n → Becomes (altered n (finished mode)) c d
    → d ≡ Some (put v n (Some (finished_text mode text)))
made_on n mode text v None d moves gives mark finish = absurd moves
made_on n mode text v (Some w) d moves gives mark finish =
    finish
    ∙ (ap (λ (o : Option Content). Some (put w n (option_map (finished mode) o))) content
    ∙ (ap (λ (c : Content). Some (put w n (Some c))) (finished_is mode text) ∙ ap (λ (u : View). Some u)
    (put_over n (Some empty_file) (Some (finished_text mode text)) v w moves)))
  where
    content : w n ≡ Some (writable_text text)
    content = content_is text (w n)
        (subst (λ (o : Option Content). GivesOk (option_map (λ (c : Content). c.bytes) o)
        (option_map (λ (c : Content). c.bytes) (w n)) text) (put_same v n (Some empty_file)) gives)
        (mark ∙ ap (λ (o : Option Content). option_map (λ (c : Content). c.writable) o)
        (put_same v n (Some empty_file)))

pub y_made : (n : List ℕ) (mode : Mode) (text : List ℕ) (a b c d : Option View)
    → Becomes (λ v. put v n (Some empty_file)) a b → Moves (bytes_eq n) (λ v. v) b c
    → GivesOk (bytes_in b n) (bytes_in c n) text → mark_in c n ≡ mark_in b n
    → Becomes (altered n (finished mode)) c d → Becomes (λ v. put v n (Some (finished_text mode text))) a d
y_made n mode text None b c d begun moves gives mark finish =
    finish ∙ ap (λ (o : Option View). option_map (altered n (finished mode)) o)
    (subst (λ (o : Option View). Moves (bytes_eq n) (λ v. v) o c) begun moves)
y_made n mode text (Some v) b c d begun moves gives mark finish =
    made_on n mode text v c d (subst (λ (o : Option View). Moves (bytes_eq n) (λ v. v) o c) begun moves)
    (subst (λ (o : Option View). GivesOk (bytes_in o n) (bytes_in c n) text) begun gives)
    (subst (λ (o : Option View). mark_in c n ≡ mark_in o n) begun mark) finish

has_it : (n : List ℕ) (x : Content) (a d : Option View) → Becomes (λ v. put v n (Some x)) a d
    → IfSome d (λ (v : View). v n ≡ Some x)
has_it n x None d is = subst (λ (o : Option View). IfSome o (λ (v : View). v n ≡ Some x)) (sym is) tt
has_it n x (Some v) d is = subst (λ (o : Option View). IfSome o (λ (u : View). u n ≡ Some x)) (sym is)
    (put_same v n (Some x))

-- the same over any disk
pub y_whole : (n : List ℕ) (mode : Mode) (form : LineForm) (records : List Record) (set : List ℕ) (shown : Shown)
    (a b c d : Option View) → Becomes (λ v. put v n (Some empty_file)) a b → Moves (bytes_eq n) (λ v. v) b c
    → mark_in c n ≡ mark_in b n
    → Becomes (altered n (finished mode)) c d → PrintsWhole form records set shown (bytes_in b n) (bytes_in c n)
    → MakesWhole n mode form records set shown d
y_whole n mode form records set shown a b c d begun moves mark finish whole = record {
  items = whole.items;
  stood = whole.stood;
  over = whole.over;
  made = has_it n (finished_text mode (version_text form records (shown_before set whole.items))) a d
      (y_made n mode (version_text form records (shown_before set whole.items)) a b c d begun moves whole.gives mark
      finish);
  counted = whole.counted;
}
