-- S-files and p-files that change after a moment without their z-file, but for names that are exempt.
use Rattle.std.proofs.Common.{◌≡◌, ◌⊎◌, ℕ, Bool, true, false, List, [], ◌∷◌, ◌++◌, drop, inl, inr, sym, ap, ◌∙◌, ⊎_elim}
use Rattle.std.specs.Str.{bytes_eq}
use Rattle.sccs_base.specs.Name.{IsSFileName, p_file}
use Rattle.sccs_disk.specs.Files.{Model, view_of}
use Rattle.sccs_disk.specs.Told.{Told}
use Rattle.sccs_disk.proofs.Puts.{name_cases}
use Rattle.sccs_name_files.specs.Touches.{Each, earlier, newest}
use Rattle.sccs_name_files.proofs.Touched.{each_newest, newest_more}
use Rattle.sccs_crash_points.specs.Recovery.{is_kept, pair_of}
use Rattle.sccs_crash_points.specs.Unlocked.{BeganUnlocked, BeganUnlockedBut, BeginsUnlocked, BeginsUnlockedBut}
use Rattle.sccs_crash_points.specs.Unlocked.{ComeUnlocked, ComeUnlockedBut, KeepsOthers, KeptOthers, SameOthers, is_own}
use Rattle.sccs_crash_points.proofs.Recovering.{pair_same}
use Rattle.sccs_crash_points.proofs.Unlocked.{each_now, joined_is, own_p, own_s, unlocked_more}

-- ---- whatever is exempt

come_but : (exempt : List ℕ → Bool) (added : List Model) (m : Model) → ComeUnlocked added m
    → ComeUnlockedBut exempt added m
come_but exempt [] m come = tt
come_but exempt (a ∷ added) m come = (λ n sfile asked. come.0 n sfile, come_but exempt added m come.1)

pub but_of : (exempt : List ℕ → Bool) (a b : Told) → BeginsUnlocked a b → BeginsUnlockedBut exempt a b
but_of exempt a b begins m past is = by (begins m past is)
  where
    by : BeganUnlocked m past b → BeganUnlockedBut exempt m past b
    by began = record { added = began.added; is = began.is; changes = come_but exempt began.added m began.changes }

pub but_same : (exempt : List ℕ → Bool) (a b : Told) → b ≡ a → BeginsUnlockedBut exempt a b
but_same exempt a b same m past is = record { added = []; is = same ∙ is; changes = tt }

-- ---- one call after another

but_joined : (exempt : List ℕ → Bool) (later added : List Model) (m : Model) → ComeUnlockedBut exempt added m
    → ComeUnlockedBut exempt later (newest added m) → ComeUnlockedBut exempt (later ++ added) m
but_joined exempt [] added m first next = first
but_joined exempt (a ∷ later) added m first next = (
  λ n sfile asked. ⊎_elim (λ same. inl (same ∙ ap (λ (x : Model). pair_of (view_of x) n)
      (sym (newest_more later added m)))) (λ was. inr (unlocked_more n later added m was)) (next.0 n sfile asked),
  but_joined exempt later added m first next.1,
)

pub but_then : (exempt : List ℕ → Bool) (a b c : Told) → BeginsUnlockedBut exempt a b → BeginsUnlockedBut exempt b c
    → BeginsUnlockedBut exempt a c
but_then exempt a b c first next m past is = joined (first m past is)
  where
    joined : BeganUnlockedBut exempt m past b → BeganUnlockedBut exempt m past c
    joined one = again (next (newest one.added m) (earlier one.added m past) one.is)
      where
        again : BeganUnlockedBut exempt (newest one.added m) (earlier one.added m past) c
            → BeganUnlockedBut exempt m past c
        again two = record {
          added = two.added ++ one.added;
          is = joined_is m past one.added two.added c two.is;
          changes = but_joined exempt two.added one.added m one.changes two.changes;
        }

-- ---- a call that changes the files of a name alone, which is exempt

pub kept_but : (exempt mine : List ℕ → Bool) (m : Model) (added : List Model) → ((k : List ℕ) → IsSFileName k
    → exempt k ≡ false → (mine k ≡ false) × (mine (p_file k) ≡ false))
    → Each (λ m2. SameOthers mine (view_of m) (view_of m2)) added m
    → ComeUnlockedBut exempt added m
kept_but exempt mine m [] cases each = tt
kept_but exempt mine m (a ∷ added) cases each = (
  λ n sfile asked. inl (same n (cases n sfile asked)),
  kept_but exempt mine m added cases each.1,
)
  where
    before : SameOthers mine (view_of m) (view_of (newest added m))
    before = each_newest (λ m2. SameOthers mine (view_of m) (view_of m2)) added m each.1

    same : (n : List ℕ) → (mine n ≡ false) × (mine (p_file n) ≡ false) → pair_of (view_of a) n ≡ pair_of
        (view_of (newest added m)) n
    same n other = pair_same _ _ _ _ (each.0 n other.0 ∙ sym (before n other.0)) (each.0 (p_file n) other.1
        ∙ sym (before (p_file n) other.1))

-- a name that isn't exempt is another one
is_another : (exempt : List ℕ → Bool) (n k : List ℕ) → exempt n ≡ true → exempt k ≡ false → bytes_eq n k ≡ false
is_another exempt n k has asked = ⊎_elim (λ (e : n ≡ k). absurd (both (sym has ∙ (ap exempt e ∙ asked))))
    (λ apart. apart) (name_cases n k)
  where
    both : true ≡ false → ⊥
    both e = cc

pub but_own : (exempt : List ℕ → Bool) (n : List ℕ) (a b : Told) → IsSFileName n → is_kept (drop 2 n) ≡ false
    → exempt n ≡ true → KeepsOthers (is_own n) a b → BeginsUnlockedBut exempt a b
but_own exempt n a b sfile plain has keeps m past is = by (keeps m past is)
  where
    by : KeptOthers (is_own n) m past b → BeganUnlockedBut exempt m past b
    by kept = record {
      added = kept.added;
      is = kept.is;
      changes = kept_but exempt (is_own n) m kept.added
          (λ k other asked. let apart = is_another exempt n k has asked in
          (own_s n k other plain apart, own_p n k sfile other plain apart))
          (each_now (is_own n) m kept.added kept.each);
    }
