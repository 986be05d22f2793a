-- Files to which one name alone has led, and firm files.
use Rattle.std.proofs.Common.{◌≡◌, ℕ, zero, suc, ◌<◌, ◌⊎◌, true, false, cond, List, length, Option, None, Some}
use Rattle.std.proofs.Common.{option_map, inl, inr, refl, sym, ap, subst, ◌∙◌, ⊎_elim, arith}
use Rattle.std.specs.Prelude.{IfSome, is_some}
use Rattle.std.specs.Str.{bytes_eq}
use Rattle.sccs_disk.specs.Effects.{change, created, pended, settled, firm, synced}
use Rattle.sccs_disk.specs.Files.{Content, File, View, Names, Rename, Remove, Model, names, names_at, file_at, put}
use Rattle.sccs_disk.specs.Files.{view_of, IsSane}
use Rattle.sccs_disk.specs.Images.{Full, Fits, IsOwn, IsFirm, file_under}
use Rattle.sccs_disk.proofs.Models.{names_all, names_at_pended, names_at_created, names_created, names_pended}
use Rattle.sccs_disk.proofs.Models.{get_changed}
use Rattle.sccs_disk.proofs.Puts.{name_cases, put_same, put_other}

-- what leads to a place after one name more does so before, but for that name
put_at : (t : Names) (n k : List ℕ) (x : Option ℕ) (p : ℕ) → put t n x k ≡ Some p → ((n ≡ k) × (x ≡ Some p))
    ⊎ (t k ≡ Some p)
put_at t n k x p at =
    ⊎_elim (λ e. inl (e, sym (put_same t n x) ∙ (ap (put t n x) e ∙ at))) (λ apart. inr (sym (put_other t n k x apart)
    ∙ at)) (name_cases n k)

below : (m : Model) (j : ℕ) (k : List ℕ) → IsSane m → names_at m j k ≡ Some (length m.files) → ⊥
below m j k sane at = let low : length m.files < length m.files = sane.within j k (length m.files) at in
    absurd (omega arith)

-- A new file has no other name.
pub own_created : (n : List ℕ) (m : Model) → IsSane m → IsOwn n (created n m)
own_created n m sane = record { only = λ j k p here there. by j k p (place n m p here) there }
  where
    place : (n : List ℕ) (m : Model) (p : ℕ) → names (created n m) n ≡ Some p → Some (length m.files) ≡ Some p
    place n m p here = sym (put_same (names m) n (Some (length m.files)))
        ∙ (sym (ap (λ (t : Names). t n) (names_created n m)) ∙ here)

    by : (j : ℕ) (k : List ℕ) (p : ℕ) → Some (length m.files) ≡ Some p → names_at (created n m) j k ≡ Some p → k ≡ n
    by j k p is there =
        ⊎_elim (λ e. absurd (below m j k sane (ap (λ (t : Names). t k) (sym e) ∙ (there ∙ sym is))))
        (λ e. ⊎_elim (λ same. sym same.0)
        (λ old. absurd (below m (length m.pending) k sane (ap (λ (t : Names). t k) (names_all m) ∙ (old ∙ sym is))))
        (put_at (names m) n k (Some (length m.files)) p (ap (λ (t : Names). t k) (sym e) ∙ there)))
        (names_at_created n m j)

pub own_kept_created : (n o : List ℕ) (m : Model) → IsSane m → IsOwn o m → IsOwn o (created n m)
own_kept_created n o m sane own =
    record {
      only = λ j k p here there. by j k p (put_at (names m) n o (Some (length m.files)) p
          (sym (ap (λ (t : Names). t o) (names_created n m)) ∙ here)) there;
    }
  where
    new_name : (j : ℕ) (k : List ℕ) (p : ℕ) → n ≡ o → Some (length m.files) ≡ Some p → names_at (created n m) j k
        ≡ Some p → k ≡ o
    new_name j k p same is there = (own_created n m sane).only j k p (ap (λ (t : Names). t n) (names_created n m)
        ∙ (put_same (names m) n (Some (length m.files)) ∙ is)) there ∙ same

    old_name : (j : ℕ) (k : List ℕ) (p : ℕ) → names m o ≡ Some p → names_at (created n m) j k ≡ Some p → k ≡ o
    old_name j k p here there =
        ⊎_elim (λ e. own.only j k p here (ap (λ (t : Names). t k) (sym e) ∙ there))
        (λ e. ⊎_elim (λ new. absurd (below m (length m.pending) o sane (ap (λ (t : Names). t o) (names_all m)
        ∙ (here ∙ sym new.1))))
        (λ old. own.only (length m.pending) k p here (ap (λ (t : Names). t k) (names_all m) ∙ old))
        (put_at (names m) n k (Some (length m.files)) p (ap (λ (t : Names). t k) (sym e) ∙ there)))
        (names_at_created n m j)

    by : (j : ℕ) (k : List ℕ) (p : ℕ) → ((n ≡ o) × (Some (length m.files) ≡ Some p)) ⊎ (names m o ≡ Some p)
        → names_at (created n m) j k ≡ Some p → k ≡ o
    by j k p (inl new) there = new_name j k p new.0 new.1 there
    by j k p (inr old) there = old_name j k p old there

-- A file stays its name's own where another name is removed, a file changes or the names are synced.
pub own_removed : (n o : List ℕ) (m : Model) → IsOwn o m → IsOwn o (pended (Remove n) m)
own_removed n o m own = record {
  only = λ j k p here there. by j k p
      (kept o p (ap (λ (t : Names). t o) (sym (names_pended (Remove n) m)) ∙ here)) there;
}
  where
    kept : (k : List ℕ) (p : ℕ) → put (names m) n None k ≡ Some p → names m k ≡ Some p
    kept k p at = ⊎_elim (λ gone. cc gone.1) (λ old. old) (put_at (names m) n k None p at)

    by : (j : ℕ) (k : List ℕ) (p : ℕ) → names m o ≡ Some p → names_at (pended (Remove n) m) j k ≡ Some p → k ≡ o
    by j k p here there =
        ⊎_elim (λ e. own.only j k p here (ap (λ (t : Names). t k) (sym e) ∙ there))
        (λ e. own.only (length m.pending) k p here (ap (λ (t : Names). t k) (names_all m)
        ∙ kept k p (ap (λ (t : Names). t k) (sym e) ∙ there)))
        (names_at_pended (Remove n) m j)

pub own_settled : (o : List ℕ) (m : Model) → IsOwn o m → IsOwn o (settled m)
own_settled o m own = record {
  only = λ j k p here there. own.only (length m.pending) k p here
      (ap (λ (t : Names). t k) (names_all m) ∙ (sym (at j k) ∙ there));
}
  where
    at : (j : ℕ) (k : List ℕ) → names_at (settled m) j k ≡ names m k
    at zero k = refl
    at (suc j) k = refl

-- What is firm is as it was in each image with all operations made.
firm_fits : (o : Option File) (w : Option Content) → IfSome o (λ (f : File). f.firm ≡ true) → Fits o w
    → w ≡ option_map (λ (f : File). f.content) o
firm_fits None w is fits = fits
firm_fits (Some f) w is fits = subst (λ b. cond b (w ≡ Some f.content) (is_some w ≡ true)) is fits

pub firm_stays : (n : List ℕ) (m : Model) (w : View) → IsFirm n m → Full m w → w n ≡ view_of m n
firm_stays n m w firm full = firm_fits (file_under m n) (w n) firm (full n)

here_file : (files : List File) (g : File → File) (t : Option ℕ) → file_at (change files t g) t ≡ option_map g
    (file_at files t)
here_file files g None = refl
here_file files g (Some p) = get_changed files p g

all_firm : (o : Option File) → IfSome (option_map (λ (f : File). firm f.content) o) (λ (f : File). f.firm ≡ true)
all_firm None = tt
all_firm (Some f) = refl

-- a file that was synced is firm
pub firm_synced : (n : List ℕ) (m : Model) → IsFirm n (synced n m)
firm_synced n m = subst (λ o. IfSome o (λ (f : File). f.firm ≡ true))
    (sym (here_file m.files (λ f. firm f.content) (names m n))) (all_firm (file_under m n))

-- and stays so under its new name, and where the names are synced
pub firm_renamed : (a b : List ℕ) (m : Model) → IsFirm a m → IsFirm b (pended (Rename a b) m)
firm_renamed a b m firm =
    subst (λ t. IfSome (file_at m.files t) (λ (f : File). f.firm ≡ true))
    (sym (ap (λ (t : Names). t b) (names_pended (Rename a b) m) ∙ put_same (put (names m) a None) b (names m a)))
    firm

pub firm_moved : (a b k : List ℕ) (m : Model) → bytes_eq a k ≡ false → bytes_eq b k ≡ false → IsFirm k m
    → IsFirm k (pended (Rename a b) m)
firm_moved a b k m from to is =
    subst (λ t. IfSome (file_at m.files t) (λ (f : File). f.firm ≡ true))
    (sym (ap (λ (t : Names). t k) (names_pended (Rename a b) m) ∙ (put_other (put (names m) a None) b k (names m a) to
    ∙ put_other (names m) a k None from))) is

pub firm_settled : (n : List ℕ) (m : Model) → IsFirm n m → IsFirm n (settled m)
firm_settled n m firm = firm
