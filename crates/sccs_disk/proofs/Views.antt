-- What a change makes of the view.
use Rattle.std.proofs.Common.{◌≡◌, ℕ, zero, suc, take, drop, subst, length-append, length-take, length-drop, arith, ◌<◌}
use Rattle.std.proofs.Common.{Bool, true, false, cond, List, [], ◌∷◌, ◌++◌, length, map, slice_get, Option, None, Some}
use Rattle.std.proofs.Common.{option_map, refl, sym, ap, ◌∙◌}
use Rattle.std.specs.Str.{bytes_eq}
use Rattle.std.proofs.Math.Path.{fun_ext}
use Rattle.sccs_disk.specs.Files.{View, Content, File, Model, file_at, put}
use Rattle.sccs_disk.specs.Effects.{change, loose, empty_file, appended, overwritten, protected, altered, renamed}
use Rattle.sccs_disk.specs.States.{State, AreNamesPlaced, state, stored, shown, state_put, made, change_effect}
use Rattle.sccs_disk.specs.States.{file_effect, file_changed}
use Rattle.sccs_disk.specs.Calls.{Done}
use Rattle.sccs_disk.specs.Told.{Shows}
use Rattle.sccs_disk.specs.declared.changes.Change.{Change}
use Rattle.sccs_disk.specs.declared.changes.Change.TheVariants as call
use Rattle.sccs_disk.specs.declared.changes.FileChange.{FileChange}
use Rattle.sccs_disk.specs.declared.changes.FileChange.TheVariants as file
use Rattle.sccs_disk.proofs.Models.{names_pended, names_created, get_changed, get_kept, get_front, get_end}
use Rattle.sccs_base.proofs.SameBytes.{same_bytes}
use Rattle.sccs_disk.proofs.Places.{files_without}
use Rattle.sccs_disk.proofs.Places.{moved as moved_twice}
use Rattle.sccs_disk.proofs.Puts.{same_name, put_again, put_back, put_other}
use Rattle.sccs_disk.proofs.Sanity.{placed}
use Rattle.sccs_disk.specs.Files as op
use Rattle.sccs_disk.specs.Files.{apply_operation}
use Rattle.sccs_disk.specs.Places.{AreOnce, place_of}
use Rattle.sccs_disk.specs.declared.changes.StoredFile.{StoredFile}
use Rattle.std.specs.List.{remove}
use Rattle.std.proofs.lemmas.List.{length-map}

abbrev pub content : File → Content
content f = f.content

abbrev shown_at : List File → Option ℕ → Option Content
shown_at files p = option_map content (file_at files p)

-- a file more, under a name
added_at : (files : List File) (f : File) (b : Bool) (t : Option ℕ) → ((p : ℕ) → t ≡ Some p → p < length files)
    → shown_at (files ++ f ∷ []) (cond b (Some (length files)) t) ≡ cond b (Some f.content) (shown_at files t)
added_at files f true t within = ap (option_map content) (get_end files f)
added_at files f false None within = refl
added_at files f false (Some p) within = ap (option_map content) (get_front files f p (within p refl))

pub shown_put : (n : List ℕ) (f : File) (s : State) → AreNamesPlaced s → shown (state_put n f s) ≡ put (shown s) n
    (Some f.content)
shown_put n f s placed = fun_ext (λ k. added_at s.files f (bytes_eq n k) (s.names k) (placed.within k))

content_of : (g : File → File) (h : Content → Content) (o : Option File) → ((f : File) → (g f).content ≡ h f.content)
    → option_map content (option_map g o) ≡ option_map h (option_map content o)
content_of g h None same = refl
content_of g h (Some f) same = ap (λ c. Some c) (same f)

-- the file at a place is changed
here_at : (files : List File) (g : File → File) (h : Content → Content) (tn tk : Option ℕ)
    → ((f : File) → (g f).content ≡ h f.content) → tk ≡ tn
    → shown_at (change files tn g) tk ≡ option_map h (shown_at files tn)
here_at files g h None None same is = refl
here_at files g h None (Some q) same is = cc
here_at files g h (Some p) None same is = cc
here_at files g h (Some p) (Some q) same is =
    let one : q ≡ p = cc in
    ap (λ r. option_map content (slice_get (change files (Some p) g) r)) one
    ∙ (ap (option_map content) (get_changed files p g) ∙ content_of g h (slice_get files p) same)

other_at : (files : List File) (g : File → File) (tn tk : Option ℕ) → ((p : ℕ) → tn ≡ Some p → tk ≡ Some p → ⊥)
    → shown_at (change files tn g) tk ≡ shown_at files tk
other_at files g None tk apart = refl
other_at files g (Some p) None apart = refl
other_at files g (Some p) (Some q) apart =
    ap (option_map content) (get_kept files p q g (λ e. apart p refl (ap (λ r. Some r) (sym e))))

changed_at : (s : State) (n k : List ℕ) (g : File → File) (h : Content → Content) → AreNamesPlaced s
    → ((f : File) → (g f).content ≡ h f.content) → (b : Bool) → bytes_eq n k ≡ b
    → shown_at (change s.files (s.names n) g) (s.names k) ≡ cond b (option_map h (shown s n)) (shown s k)
changed_at s n k g h placed same true e = here_at s.files g h (s.names n) (s.names k) same
    (ap s.names (sym (same_name n k e)))
changed_at s n k g h placed same false e = other_at s.files g (s.names n) (s.names k) (λ p at too. differ n k e
    (placed.apart n k p at too))
  where
    differ : (n k : List ℕ) → bytes_eq n k ≡ false → n ≡ k → ⊥
    differ n k e is = cc (same_bytes k)

pub shown_changed : (s : State) (n : List ℕ) (g : File → File) (h : Content → Content) → AreNamesPlaced s
    → ((f : File) → (g f).content ≡ h f.content)
    → shown (record { files = change s.files (s.names n) g; names = s.names }) ≡ altered n h (shown s)
shown_changed s n g h placed same = fun_ext (λ k. changed_at s n k g h placed same (bytes_eq n k) refl)

map_same : {X : Type 0} (o : Option X) → option_map (λ x. x) o ≡ o
map_same None = refl
map_same (Some x) = refl

shown_file : (n : List ℕ) (c : FileChange) (s : State) → AreNamesPlaced s → shown (made (call.File n c) s)
    ≡ (file_effect n c).view (shown s)
shown_file n (file.Append bytes) s placed = shown_changed s n (file_changed (file.Append bytes)) (appended bytes.items)
    placed (λ f. refl)
shown_file n (file.WriteAt from bytes) s placed = shown_changed s n (file_changed (file.WriteAt from bytes))
    (overwritten from bytes.items) placed (λ f. refl)
shown_file n file.Protect s placed = shown_changed s n (file_changed file.Protect) protected placed (λ f. refl)
shown_file n file.Sync s placed =
    shown_changed s n (file_changed file.Sync) (λ c. c) placed (λ f. refl)
    ∙ (ap (λ x. put (shown s) n x) (map_same (shown s n)) ∙ put_back (shown s) n)

moved : (files : List File) (ba bb : Bool) (ta tk : Option ℕ) → shown_at files (cond bb ta (cond ba None tk)) ≡ cond bb
    (shown_at files ta) (cond ba None (shown_at files tk))
moved files ba true ta tk = refl
moved files true false ta tk = refl
moved files false false ta tk = refl

-- a change makes of the view what its effect says
pub shown_made : (c : Change) (s : State) → AreNamesPlaced s → shown (made c s) ≡ (change_effect c).view (shown s)
shown_made (call.Create n) s placed = shown_put n (loose empty_file) s placed
shown_made (call.File n c) s placed = shown_file n c s placed
shown_made (call.Rename a b) s placed = fun_ext (λ k. moved s.files (bytes_eq a k) (bytes_eq b k) (s.names a)
    (s.names k))
shown_made (call.Remove n) s placed = fun_ext (λ k. moved s.files (bytes_eq n k) false None (s.names k))
shown_made call.SyncNames s placed = refl

abbrev pub with_names : List File → (List ℕ → Option ℕ) → State
with_names files t = record { files = files; names = t }

file_state : (n : List ℕ) (c : FileChange) (m : Model) → made (call.File n c) (state m) ≡ state
    ((file_effect n c).model m)
file_state n (file.Append bytes) m = refl
file_state n (file.WriteAt from bytes) m = refl
file_state n file.Protect m = refl
file_state n file.Sync m = refl

-- and of files in memory what it makes of the model
pub made_state : (c : Change) (m : Model) → made c (state m) ≡ state ((change_effect c).model m)
made_state (call.Create n) m = ap (with_names (m.files ++ loose empty_file ∷ [])) (sym (names_created n m))
made_state (call.File n c) m = file_state n c m
made_state (call.Rename a b) m = ap (with_names m.files) (sym (names_pended _ m))
made_state (call.Remove n) m = ap (with_names m.files) (sym (names_pended _ m))
made_state call.SyncNames m = refl

-- a disk that shows its view alone has made a change
pub shown_done : (c : Change) (s t : State) → AreNamesPlaced s → t ≡ made c s → Done (change_effect c) (Shows (shown s))
    (Shows (shown t))
shown_done c s t placed now = record {
  view = ap (λ v. Some v) (ap shown now ∙ shown_made c s placed);
  model =
      λ m past is. cc;
}

map_without : (files : List StoredFile) (p : ℕ) → map stored (remove files p) ≡ remove (map stored files) p
map_without [] zero = refl
map_without [] (suc p) = refl
map_without (f ∷ files) zero = refl
map_without (f ∷ files) (suc p) = ap (λ l. stored f ∷ l) (map_without files p)

content_unless : (b : Bool) (o : Option File) → option_map content (cond b None o) ≡ cond b None (option_map content o)
content_unless true o = refl
content_unless false o = refl

pub count_without : {X Y : Type 0} (xs : List X) (ys : List Y) (p : ℕ) → length xs ≡ length ys
    → length (remove xs p) ≡ length (remove ys p)
count_without xs ys p same =
    length-append (take p xs) (drop (suc p) xs)
    ∙ (omega (arith, same, length-take p xs, length-take p ys, length-drop (suc p) xs, length-drop (suc p) ys)
    ∙ sym (length-append (take p ys) (drop (suc p) ys)))

-- a file is taken out with its name
pub shown_without : (names : List (Option (List ℕ))) (files : List StoredFile) (p : ℕ) (n : List ℕ)
    → length names ≡ length files → AreOnce names → place_of names n ≡ Some p
    → shown (with_names (map stored (remove files p)) (place_of (remove names p))) ≡ put
    (shown (with_names (map stored files) (place_of names))) n None
shown_without names files p n paired once at = fun_ext (λ k.
    ap (λ l. option_map content (file_at l (place_of (remove names p) k))) (map_without files p)
    ∙ (ap (option_map content) (files_without names (map stored files) p n k (paired ∙ sym (length-map files stored))
    once at)
    ∙ content_unless (bytes_eq n k) (file_at (map stored files) (place_of names k))))

-- a file that goes away before another one takes its name
pub renamed_again : (v w : View) (a b : List ℕ) → bytes_eq b a ≡ false → w ≡ put v b None
    → renamed a b w ≡ renamed a b v
renamed_again v w a b apart is =
    ap (renamed a b) is
    ∙ (ap (λ x. put (put (put v b None) a None) b x) (put_other v b a None apart)
    ∙ fun_ext (λ k. moved_twice (bytes_eq a k) (bytes_eq b k) (v k) (v a)))

pub renamed_self : (v : View) (a b : List ℕ) → bytes_eq a b ≡ true → v ≡ renamed a b v
renamed_self v a b same = subst (λ c. v ≡ renamed a c v) (same_name a b same) (sym (put_again v a None (v a)
    ∙ put_back v a))

-- a name is given to another file, with the file that had it gone
pub renamed_after : (files : List StoredFile) (names names2 : List (Option (List ℕ))) (v : View) (a b : List ℕ)
    → length names ≡ length files → bytes_eq b a ≡ false
    → place_of names2 ≡ apply_operation (op.Rename a b) (place_of names)
    → shown (with_names (map stored files) (place_of names)) ≡ put v b None
    → shown (with_names (map stored files) (place_of names2)) ≡ renamed a b v
renamed_after files names names2 v a b paired apart now gone =
    ap (λ t. shown (with_names (map stored files) t)) now
    ∙ (shown_made (call.Rename a b) (with_names (map stored files) (place_of names)) (placed files names paired)
    ∙ renamed_again v (shown (with_names (map stored files) (place_of names))) a b apart gone)
