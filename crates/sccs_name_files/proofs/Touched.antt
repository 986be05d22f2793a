-- Calls that touch the files of some names alone.
use Rattle.std.proofs.Common.{◌≡◌, ℕ, Bool, true, false, List, [], ◌∷◌, ◌++◌, None, refl, sym, ap, subst, ◌∙◌, ⊎_elim}
use Rattle.std.proofs.Common.{append_assoc}
use Rattle.std.proofs.lemmas.List.{append-nil}
use Rattle.std.specs.Prelude.{IfSome}
use Rattle.std.specs.Str.{bytes_eq}
use Rattle.sccs_disk.specs.Calls.{Done, Half}
use Rattle.sccs_disk.specs.Effects.{Effect, changed, created, pended, loose, empty_file}
use Rattle.sccs_disk.specs.Files.{File, View, Names, Remove, Model, names, file_at, put, view_of, IsSane}
use Rattle.sccs_disk.specs.Images.{Image, Full, Fits, IsOwn, IsFirm, file_under}
use Rattle.sccs_disk.specs.Told.{Told, Tells}
use Rattle.sccs_disk.proofs.Models.{names_created, names_pended}
use Rattle.sccs_disk.proofs.Puts.{put_other}
use Rattle.sccs_name_files.specs.Touches.{newest, earlier, Each, IsBut, Grew, Touches, Touching, TouchesOnly}
use Rattle.sccs_name_files.specs.Touches.{WritesOnly}
use Rattle.sccs_name_files.proofs.Images.{full_image, image_created, image_pended, image_but, fits_put, front_file}
use Rattle.sccs_name_files.proofs.Images.{but_changed, but_other, but_own}
use Rattle.sccs_name_files.proofs.Owned.{own_kept_created, own_removed}

pub touches_same : (mine : List ℕ → Bool) (m : Model) → Touches mine m m
touches_same mine m = record { images = λ w image. (w, image, λ k h. refl); files = λ k h. refl; own = λ k own. own }

pub touches_then : (mine : List ℕ → Bool) (m m2 m3 : Model) → Touches mine m m2 → Touches mine m2 m3 → Touches mine m m3
touches_then mine m m2 m3 a b = record {
  images = λ w image. let mid = b.images w image in let old = a.images mid.0 mid.1 in (
    old.0,
    old.1,
    λ k h. old.2 k h
        ∙ mid.2 k h,
  );
  files = λ k h. b.files k h ∙ a.files k h;
  own = λ k own. b.own k (a.own k own);
}

-- a call that touches some files touches more
pub touches_wider : (mine more : List ℕ → Bool) (m m2 : Model) → ((k : List ℕ) → more k ≡ false → mine k ≡ false)
    → Touches mine m m2 → Touches more m m2
touches_wider mine more m m2 within a = record {
  images = λ w image. let old = a.images w image in (old.0, old.1, λ k h. old.2 k (within k h));
  files = λ k h. a.files k (within k h);
  own = a.own;
}

-- a view in which all operations are made, with what stood under the name before
full_before : (n : List ℕ) (m m2 : Model) (w : View) → ((k : List ℕ) → bytes_eq n k ≡ false
    → file_under m2 k ≡ file_under m k) → Full m2 w → (u : View) × Image m u × ((k : List ℕ) → bytes_eq n k ≡ false
    → u k ≡ w k)
full_before n m m2 w same full =
    let u : View = put w n (view_of m n) in (
      u,
      full_image m u (fits_put m.files (names m) w n (λ k apart. subst (λ o. Fits o (w k)) (same k apart) (full k))),
      λ k apart. put_other w n k (view_of m n) apart,
    )

file_created : (n k : List ℕ) (m : Model) → IsSane m → bytes_eq n k ≡ false → file_under (created n m) k
    ≡ file_under m k
file_created n k m sane apart =
    ap (λ (t : Names). file_at (m.files ++ loose empty_file ∷ []) (t k)) (names_created n m)
    ∙ (ap (file_at (m.files ++ loose empty_file ∷ [])) (put_other (names m) n k _ apart)
    ∙ front_file m.files (loose empty_file) (names m k) (sane.whole k))

file_removed : (n k : List ℕ) (m : Model) → bytes_eq n k ≡ false → file_under (pended (Remove n) m) k ≡ file_under m k
file_removed n k m apart = ap (λ (t : Names). file_at m.files (t k)) (names_pended (Remove n) m) ∙ ap (file_at m.files)
    (put_other (names m) n k None apart)

unchanged : (n : List ℕ) (m : Model) (w : View) → Image m w → (u : View) × Image m u
    × ((k : List ℕ) → bytes_eq n k ≡ false → u k ≡ w k)
unchanged n m w image = (w, image, λ k h. refl)

pub touches_created : (n : List ℕ) (m : Model) → IsSane m → Touches (bytes_eq n) m (created n m)
touches_created n m sane = record {
  images = λ w image. ⊎_elim (λ old. unchanged n m w old) (λ full. full_before n m (created n m) w
      (λ k apart. file_created n k m sane apart) full) (image_created n m w sane image);
  files = λ k apart. file_created n k m sane apart;
  own = λ k own. own_kept_created n k m sane own;
}

pub touches_removed : (n : List ℕ) (m : Model) → Touches (bytes_eq n) m (pended (Remove n) m)
touches_removed n m = record {
  images = λ w image. ⊎_elim (λ old. unchanged n m w old) (λ full. full_before n m (pended (Remove n) m) w
      (λ k apart. file_removed n k m apart) full) (image_pended (Remove n) m w image);
  files = λ k apart. file_removed n k m apart;
  own = λ k own. own_removed n k m own;
}

-- a change of the file under a name alone touches it alone, where no other name has led to it
pub touches_but : (n : List ℕ) (m m2 : Model) → IsSane m → IsOwn n m → IsBut n m m2 → Touches (bytes_eq n) m m2
touches_but n m m2 sane own but = record {
  images = λ w image. image_but n m m2 w but own image;
  files = λ k apart. but_other n k m m2 sane but apart;
  own = λ k own_k. but_own n k m m2 but own_k;
}

pub touches_changed : (n : List ℕ) (g : File → File) (m : Model) → IsSane m → IsOwn n m
    → Touches (bytes_eq n) m (changed n g m)
touches_changed n g m sane own = touches_but n m (changed n g m) sane own (but_changed n g m)

each_touches : (n : List ℕ) (added : List Model) (m from : Model) → IsSane from → IsOwn n from
    → Each (IsBut n from) added m → Each (Touches (bytes_eq n) from) added m
each_touches n [] m from sane own each = touches_but n from m sane own each
each_touches n (a ∷ added) m from sane own each =
    (touches_but n from a sane own each.0, each_touches n added m from sane own each.1)

pub grew_touching : (n : List ℕ) (m : Model) (past : List Model) (new : Told) → IsSane m → IsOwn n m → Grew n m past new
    → Touching (bytes_eq n) m past new
grew_touching n m past new sane own grew =
    record { added = grew.added; is = grew.is; each = each_touches n grew.added m m sane own grew.each }

-- what is firm under another name stays so
pub firm_touched : (mine : List ℕ → Bool) (m m2 : Model) (k : List ℕ) → Touches mine m m2 → mine k ≡ false → IsFirm k m
    → IsFirm k m2
firm_touched mine m m2 k touches other firm = subst (λ o. IfSome o (λ (f : File). f.firm ≡ true))
    (sym (touches.files k other)) firm

-- Two runs of a story are one.
pub newest_more : (xs ys : List Model) (m : Model) → newest (xs ++ ys) m ≡ newest xs (newest ys m)
newest_more [] ys m = refl
newest_more (a ∷ xs) ys m = refl

pub earlier_more : (xs ys : List Model) (m : Model) (past : List Model) → earlier (xs ++ ys) m past ≡ earlier xs
    (newest ys m) (earlier ys m past)
earlier_more [] ys m past = refl
earlier_more (a ∷ xs) [] m past = ap (λ l. l ++ m ∷ past) (append-nil xs)
earlier_more (a ∷ xs) (b ∷ ys) m past = append_assoc xs (b ∷ ys) (m ∷ past)

pub each_newest : (P : Model → Type 0) (xs : List Model) (m : Model) → Each P xs m → P (newest xs m)
each_newest P [] m each = each
each_newest P (a ∷ xs) m each = each.0

each_more : (mine : List ℕ → Bool) (xs ys : List Model) (m mid : Model) → Touches mine m mid
    → Each (Touches mine mid) xs mid → Each (Touches mine m) ys m → Each (Touches mine m) (xs ++ ys) m
each_more mine [] ys m mid to later before = before
each_more mine (a ∷ xs) ys m mid to later before =
    (touches_then mine m mid a to later.0, each_more mine xs ys m mid to later.1 before)

joined : (mine : List ℕ → Bool) (m : Model) (past : List Model) (b c : Told) (first : Touching mine m past b)
    → Touching mine (newest first.added m) (earlier first.added m past) c → Touching mine m past c
joined mine m past b c first next = record {
  added = next.added ++ first.added;
  is = next.is ∙ (ap (λ x. Tells x (earlier next.added (newest first.added m) (earlier first.added m past)))
      (sym (newest_more next.added first.added m))
      ∙ ap (λ x. Tells (newest (next.added ++ first.added) m) x) (sym (earlier_more next.added first.added m past)));
  each = each_more mine next.added first.added m (newest first.added m)
      (each_newest (Touches mine m) first.added m first.each) next.each first.each;
}

pub only_then : (mine : List ℕ → Bool) (a b c : Told) → TouchesOnly mine a b → TouchesOnly mine b c
    → TouchesOnly mine a c
only_then mine a b c first next m past is =
    let begun : Touching mine m past b = first m past is in joined mine m past b c begun (next (newest begun.added m)
    (earlier begun.added m past) begun.is)

pub writes_then : (n : List ℕ) (a b c : Told) → WritesOnly n a b → WritesOnly n b c → WritesOnly n a c
writes_then n a b c first next m past is own =
    let begun : Touching (bytes_eq n) m past b = first m past is own in
    joined (bytes_eq n) m past b c begun
    (next (newest begun.added m) (earlier begun.added m past) begun.is
    ((each_newest (Touches (bytes_eq n) m) begun.added m begun.each).own n own))

each_wider : (mine more : List ℕ → Bool) (xs : List Model) (m from : Model) → ((k : List ℕ) → more k ≡ false
    → mine k ≡ false) → Each (Touches mine from) xs m → Each (Touches more from) xs m
each_wider mine more [] m from within each = touches_wider mine more from m within each
each_wider mine more (a ∷ xs) m from within each = (
  touches_wider mine more from a within each.0,
  each_wider mine more xs m from within each.1,
)

pub only_wider : (mine more : List ℕ → Bool) (a b : Told) → ((k : List ℕ) → more k ≡ false → mine k ≡ false)
    → TouchesOnly mine a b → TouchesOnly more a b
only_wider mine more a b within only m past is =
    let run : Touching mine m past b = only m past is in
    record { added = run.added; is = run.is; each = each_wider mine more run.added m m within run.each }

-- One call, done or failed, on a disk that tells its model.
pub same_touching : (mine : List ℕ → Bool) (m : Model) (past : List Model) (old new : Told) → old ≡ Tells m past
    → new ≡ old → Touching mine m past new
same_touching mine m past old new is same = record { added = []; is = same ∙ is; each = touches_same mine m }

one_touching : (mine : List ℕ → Bool) (m m2 : Model) (past : List Model) (new : Told) → new ≡ Tells m2 (m ∷ past)
    → Touches mine m m2 → Touching mine m past new
one_touching mine m m2 past new is touches = record { added = m2 ∷ []; is = is; each = (touches, touches_same mine m) }

pub done_touching : (e : Effect) (mine : List ℕ → Bool) (m : Model) (past : List Model) (old new : Told)
    → old ≡ Tells m past → Touches mine m (e.model m) → Done e old new → Touching mine m past new
done_touching e mine m past old new is touches done = one_touching mine m (e.model m) past new (done.model m past is)
    touches

pub half_touching : (e : Effect) (mine : List ℕ → Bool) (m : Model) (past : List Model) (old new : Told)
    → old ≡ Tells m past → ((m2 : Model) → e.half m m2 → Touches mine m m2) → Half e old new → Touching mine m past new
half_touching e mine m past old new is touches half =
    ⊎_elim (λ same. same_touching mine m past old new is same) (λ made. one_touching mine m made.0 past new made.1
    (touches made.0 made.2)) (half.model m past is)
