-- Images with all operations made, after one name operation more.
use Rattle.std.proofs.Common.{◌≡◌, ℕ, false, List, Option, None, sym, ap, subst, ◌∙◌, ⊎_elim}
use Rattle.std.specs.Str.{bytes_eq}
use Rattle.std.proofs.Math.Path.{fun_ext}
use Rattle.sccs_disk.specs.Effects.{pended, renamed}
use Rattle.sccs_disk.specs.Files.{Content, File, Model, Names, Op, Remove, Rename, View, file_at, names, put, view_of}
use Rattle.sccs_disk.specs.Images.{Fits, Full, file_under}
use Rattle.sccs_disk.proofs.Models.{names_pended}
use Rattle.sccs_disk.proofs.Puts.{name_cases, put_other, put_same}
use Rattle.sccs_name_files.proofs.Images.{fits_itself}
use Rattle.sccs_crash_points.specs.Recovery.{without_name}

file_pended : (op : Op) (m : Model) (t : Names) → names (pended op m) ≡ t → (k : List ℕ) → file_under (pended op m) k
    ≡ file_at m.files (t k)
file_pended op m t is k = ap (λ (names_now : Names). file_at m.files (names_now k)) is

-- a view that fits a model everywhere but under a name, where it has what stands there
fits_with : (m : Model) (w : View) (n : List ℕ) (x : Option Content) → Fits (file_under m n) x
    → ((k : List ℕ) → bytes_eq n k ≡ false → Fits (file_under m k) (w k)) → Full m (put w n x)
fits_with m w n x here others k =
    ⊎_elim (λ e. subst (λ l. Fits (file_under m l) (put w n x l)) e (subst (λ o. Fits (file_under m n) o)
    (sym (put_same w n x)) here))
    (λ apart. subst (λ o. Fits (file_under m k) o) (sym (put_other w n k x apart)) (others k apart))
    (name_cases n k)

none_fits : (o : Option File) (w : Option Content) → o ≡ None → Fits o w → w ≡ None
none_fits o w is fits = subst (λ f. Fits f w) is fits

-- ---- removed

removed_back : (n : List ℕ) (w : View) (x : Option Content) → w n ≡ None → w ≡ without_name n (put w n x)
removed_back n w x none = fun_ext (λ k. ⊎_elim (λ e. subst (λ l. w l ≡ without_name n (put w n x) l) e (none
    ∙ sym (put_same (put w n x) n None)))
    (λ apart. sym (put_other (put w n x) n k None apart ∙ put_other w n k x apart)) (name_cases n k))

pub full_removed : (n : List ℕ) (m : Model) (w : View) → Full (pended (Remove n) m) w → (u : View) × Full m u
    × (w ≡ without_name n u)
full_removed n m w full = (
  put w n (view_of m n),
  fits_with m w n (view_of m n) (fits_itself (file_under m n)) (λ k apart. subst (λ o. Fits o (w k)) (file k
      ∙ ap (file_at m.files) (put_other (names m) n k None apart)) (full k)),
  removed_back n w (view_of m n) (none_fits (file_under (pended (Remove n) m) n) (w n) (file n ∙ ap (file_at m.files)
      (put_same (names m) n None)) (full n)),
)
  where
    file : (k : List ℕ) → file_under (pended (Remove n) m) k ≡ file_at m.files (put (names m) n None k)
    file k = file_pended (Remove n) m (put (names m) n None) (names_pended (Remove n) m) k

-- ---- renamed

-- what stood where before a file was renamed
abbrev unrenamed : List ℕ → List ℕ → View → Option Content → View
unrenamed a b w old = put (put w b old) a (w b)

renamed_at : (a b : List ℕ) (w : View) (old : Option Content) (k : List ℕ) → (bytes_eq b a ≡ false → w a ≡ None)
    → w k ≡ renamed a b (unrenamed a b w old) k
renamed_at a b w old k none =
    ⊎_elim (λ e. subst (λ l. w l ≡ renamed a b (unrenamed a b w old) l) e
    (sym (put_same (put (unrenamed a b w old) a None) b (unrenamed a b w old a) ∙ put_same (put w b old) a (w b))))
    (λ to. ⊎_elim (λ e. at_from e (subst (λ l. bytes_eq b l ≡ false) (sym e) to)) (λ from. elsewhere from to)
    (name_cases a k))
    (name_cases b k)
  where
    at_from : a ≡ k → bytes_eq b a ≡ false → w k ≡ renamed a b (unrenamed a b w old) k
    at_from e to = subst (λ l. w l ≡ renamed a b (unrenamed a b w old) l) e
        (none to ∙ sym (put_other (put (unrenamed a b w old) a None) b a (unrenamed a b w old a) to
        ∙ put_same (unrenamed a b w old) a None))

    elsewhere : bytes_eq a k ≡ false → bytes_eq b k ≡ false → w k ≡ renamed a b (unrenamed a b w old) k
    elsewhere from to =
        sym (put_other (put (unrenamed a b w old) a None) b k (unrenamed a b w old a) to
        ∙ (put_other (unrenamed a b w old) a k None from ∙ (put_other (put w b old) a k (w b) from
        ∙ put_other w b k old to)))

pub full_renamed : (a b : List ℕ) (m : Model) (w : View) → Full (pended (Rename a b) m) w → (u : View) × Full m u
    × (w ≡ renamed a b u)
full_renamed a b m w full = (
  unrenamed a b w (view_of m b),
  fits_with m (put w b (view_of m b)) a (w b)
      (subst (λ o. Fits o (w b)) (file b ∙ ap (file_at m.files) (put_same (put (names m) a None) b (names m a)))
      (full b))
      (λ k from. ⊎_elim (λ e. subst (λ l. Fits (file_under m l) (put w b (view_of m b) l)) e
      (subst (λ o. Fits (file_under m b) o) (sym (put_same w b (view_of m b))) (fits_itself (file_under m b))))
      (λ to. subst (λ o. Fits (file_under m k) o) (sym (put_other w b k (view_of m b) to))
      (subst (λ o. Fits o (w k)) (file k ∙ ap (file_at m.files) (put_other (put (names m) a None) b k (names m a) to
      ∙ put_other (names m) a k None from)) (full k)))
      (name_cases b k)),
  fun_ext (λ k. renamed_at a b w (view_of m b) k
      (λ to. none_fits (file_under (pended (Rename a b) m) a) (w a) (file a ∙ ap (file_at m.files)
      (put_other (put (names m) a None) b a (names m a) to ∙ put_same (names m) a None)) (full a))),
)
  where
    file : (k : List ℕ) → file_under (pended (Rename a b) m) k ≡ file_at m.files (put (put (names m) a None) b
        (names m a) k)
    file k = file_pended (Rename a b) m (put (put (names m) a None) b (names m a)) (names_pended (Rename a b) m) k
