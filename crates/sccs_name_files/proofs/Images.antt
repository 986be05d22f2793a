-- What each call does to the images of a model.
use Rattle.std.proofs.Common.{◌≡◌, ℕ, zero, suc, ◌<◌, ◌⊎◌, Bool, true, false, cond, List, [], ◌∷◌, ◌++◌, length, take}
use Rattle.std.proofs.Common.{slice_get, Option, None, Some, option_map, inl, inr, refl, sym, ap, subst, ◌∙◌, ⊎_elim}
use Rattle.std.specs.Str.{bytes_eq}
use Rattle.sccs_base.proofs.SameBytes.{same_bytes}
use Rattle.sccs_disk.specs.Effects.{change, changed, created, pended, settled, loose, empty_file}
use Rattle.sccs_disk.specs.Files.{Content, File, View, Names, Op, Model, names, names_at, names_after, file_at, put}
use Rattle.sccs_disk.specs.Files.{view_of, IsSane}
use Rattle.sccs_disk.specs.Images.{Image, Full, Fits, IsOwn, file_under}
use Rattle.sccs_disk.proofs.Models.{names_all, names_at_pended, names_at_created, names_created, names_pended}
use Rattle.sccs_disk.proofs.Models.{change_length, get_front, get_kept}
use Rattle.sccs_disk.proofs.Puts.{same_name, put_other}
use Rattle.sccs_name_files.specs.Touches.{IsBut}
use Rattle.sccs_disk.proofs.Views.{content}

fits_as : (b : Bool) (c : Content) → Fits (Some (record { content = c; firm = b })) (Some c)
fits_as true c = refl
fits_as false c = refl

-- what stands under a name fits it
pub fits_itself : (o : Option File) → Fits o (option_map content o)
fits_itself None = refl
fits_itself (Some f) = fits_as f.firm f.content

-- the view is one of the images
pub view_full : (m : Model) → Full m (view_of m)
view_full m n = fits_itself (file_under m n)

pub full_image : (m : Model) (w : View) → Full m w → Image m w
full_image m w full = (
  length m.pending,
  λ n. subst (λ (t : Names). Fits (file_at m.files (t n)) (w n))
      (sym (names_all m)) (full n),
)

pub view_image : (m : Model) → Image m (view_of m)
view_image m = full_image m (view_of m) (view_full m)

-- One operation more adds only images that have all operations made.
pub image_pended : (op : Op) (m : Model) (w : View) → Image (pended op m) w → Image m w ⊎ Full (pended op m) w
image_pended op m w (j, fits) =
    ⊎_elim (λ e. inl (j, λ n. subst (λ (t : Names). Fits (file_at m.files (t n)) (w n)) e (fits n)))
    (λ e. inr (λ n. subst (λ (t : Names). Fits (file_at m.files (t n)) (w n)) (e ∙ sym (names_pended op m)) (fits n)))
    (names_at_pended op m j)

pub front_file : (files : List File) (f : File) (t : Option ℕ) → ((p : ℕ) → t ≡ Some p → p < length files)
    → file_at (files ++ f ∷ []) t ≡ file_at files t
front_file files f None within = refl
front_file files f (Some p) within = get_front files f p (within p refl)

pub image_created : (n : List ℕ) (m : Model) (w : View) → IsSane m → Image (created n m) w → Image m w
    ⊎ Full (created n m) w
image_created n m w sane (j, fits) =
    let new : File = loose empty_file in
    ⊎_elim (λ e. inl (
      j,
      λ k. subst (λ o. Fits o (w k)) (ap (λ (t : Names). file_at (m.files ++ new ∷ []) (t k)) e
          ∙ front_file m.files new (names_at m j k) (sane.within j k)) (fits k),
    ))
    (λ e. inr (λ k. subst (λ (t : Names). Fits (file_at (m.files ++ new ∷ []) (t k)) (w k)) (e
    ∙ sym (names_created n m)) (fits k)))
    (names_at_created n m j)

-- After the names are synced each image has all operations made.
pub image_settled : (m : Model) (w : View) → Image (settled m) w → Full m w
image_settled m w (j, fits) n = subst (λ (t : Names). Fits (file_at m.files (t n)) (w n)) (settled_at m j) (fits n)
  where
    settled_at : (m : Model) (j : ℕ) → names_at (settled m) j ≡ names m
    settled_at m zero = refl
    settled_at m (suc j) = refl

pub differ : (n k : List ℕ) → bytes_eq n k ≡ false → k ≡ n → ⊥
differ n k apart is =
    let other : bytes_eq n n ≡ false = subst (λ l. bytes_eq n l ≡ false) is apart in
    let same : bytes_eq n n ≡ true = same_bytes n in
    cc

chosen : (b : Bool) (o : Option File) (x y : Option Content) → (b ≡ true → Fits o x) → (b ≡ false → Fits o y)
    → Fits o (cond b x y)
chosen true o x y here there = here refl
chosen false o x y here there = there refl

-- a view that fits everywhere but under a name fits there too with what stands there
pub fits_put : (files : List File) (t : Names) (w : View) (n : List ℕ) → ((k : List ℕ) → bytes_eq n k ≡ false
    → Fits (file_at files (t k)) (w k))
    → (k : List ℕ) → Fits (file_at files (t k)) (put w n (option_map content (file_at files (t n))) k)
fits_put files t w n others k =
    chosen (bytes_eq n k) (file_at files (t k)) (option_map content (file_at files (t n))) (w k)
    (λ e. subst (λ l. Fits (file_at files (t k)) (option_map content (file_at files (t l)))) (sym (same_name n k e))
    (fits_itself (file_at files (t k)))) (others k)

-- One change of a file, as the word for the others says it.
pub but_changed : (n : List ℕ) (g : File → File) (m : Model) → IsBut n m (changed n g m)
but_changed n g m = record {
  base = refl;
  pending = refl;
  count = change_length m.files (names m n) g;
  others = λ p apart. others m.files (names m n) p apart;
}
  where
    others : (files : List File) (t : Option ℕ) (p : ℕ) → (t ≡ Some p → ⊥) → slice_get (change files t g) p
        ≡ slice_get files p
    others files None p apart = refl
    others files (Some q) p apart = get_kept files q p g (λ e. apart (ap (λ r. Some r) e))

but_names_at : (n : List ℕ) (m m2 : Model) → IsBut n m m2 → (j : ℕ) → names_at m2 j ≡ names_at m j
but_names_at n m m2 but j = ap (λ ops. names_after (take j ops) m2.base) but.pending
    ∙ ap (names_after (take j m.pending)) but.base

but_file : (n : List ℕ) (m m2 : Model) → IsBut n m m2 → (t : Option ℕ) → ((p : ℕ) → names m n ≡ Some p → t ≡ Some p → ⊥)
    → file_at m2.files t ≡ file_at m.files t
but_file n m m2 but None apart = refl
but_file n m m2 but (Some q) apart = but.others q (λ here. apart q here refl)

but_names : (n : List ℕ) (m m2 : Model) → IsBut n m m2 → names m2 ≡ names m
but_names n m m2 but = ap (λ ops. names_after ops m2.base) but.pending ∙ ap (names_after m.pending) but.base

-- the file under another name is as it was
pub but_other : (n k : List ℕ) (m m2 : Model) → IsSane m → IsBut n m m2 → bytes_eq n k ≡ false
    → file_under m2 k ≡ file_under m k
but_other n k m m2 sane but apart =
    ap (λ (t : Names). file_at m2.files (t k)) (but_names n m m2 but) ∙ but_file n m m2 but (names m k)
    (λ p here there. differ n k apart (sane.apart k n p there here))

pub but_own : (n k : List ℕ) (m m2 : Model) → IsBut n m m2 → IsOwn k m → IsOwn k m2
but_own n k m m2 but own = record {
  only = λ j l p here there. own.only j l p (ap (λ (t : Names). t k) (sym (but_names n m m2 but)) ∙ here)
      (ap (λ (t : Names). t l) (sym (but_names_at n m m2 but j)) ∙ there);
}

-- Where the file under a name changes to which no other name has led, an image is one from before it but for that name.
pub image_but : (n : List ℕ) (m m2 : Model) (w : View) → IsBut n m m2 → IsOwn n m → Image m2 w
    → (u : View) × Image m u × ((k : List ℕ) → bytes_eq n k ≡ false → u k ≡ w k)
image_but n m m2 w but own (j, fits) = (
  put w n (option_map content (file_at m.files (names_at m j n))),
  (
    j,
    fits_put m.files (names_at m j) w n (λ k apart.
        subst (λ o. Fits o (w k)) (ap (λ (t : Names). file_at m2.files (t k)) (but_names_at n m m2 but j)
        ∙ but_file n m m2 but (names_at m j k) (λ p here there. differ n k apart (own.only j k p here there)))
        (fits k)),
  ),
  λ k apart. put_other w n k _ apart,
)

pub image_changed : (n : List ℕ) (g : File → File) (m : Model) (w : View) → IsOwn n m → Image (changed n g m) w
    → (u : View) × Image m u × ((k : List ℕ) → bytes_eq n k ≡ false → u k ≡ w k)
image_changed n g m w own image = image_but n m (changed n g m) w (but_changed n g m) own image
