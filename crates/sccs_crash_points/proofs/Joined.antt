-- Runs of a story, with the numbers of their crash points.
use Rattle.std.proofs.Common.{◌≡◌, ◌≤◌, ℕ, List, [], ◌∷◌, ◌++◌, refl, sym, ap, subst, ◌∙◌, arith}
use Rattle.sccs_disk.specs.Files.{Model, View, view_of}
use Rattle.sccs_disk.specs.Images.{Allows}
use Rattle.sccs_disk.specs.Told.{Told, Tells}
use Rattle.sccs_name_files.specs.Touches.{Each, earlier, newest}
use Rattle.sccs_name_files.proofs.Touched.{earlier_more, newest_more}
use Rattle.sccs_crash_points.specs.CrashPoints.{Guarded, Guards, Numbered, Went, Stays}
use Rattle.sccs_crash_points.specs.Calm.{KeepsPairs}
use Rattle.sccs_crash_points.proofs.Recovering.{recovers_then}

-- what holds of the number and the moment now
pub numbered_now : (P : ℕ → Model → Type 0) (low : ℕ) (added : List Model) (m : Model) (j : ℕ)
    → Numbered P low added m j → P j (newest added m)
numbered_now P low [] m j numbers = numbers.1
numbered_now P low (a ∷ added) m j numbers = numbers.0

-- the number may rise where it holds of the moment now
pub raised : (P : ℕ → Model → Type 0) (low : ℕ) (added : List Model) (m : Model) (i j : ℕ) → i ≤ j
    → P j (newest added m) → Numbered P low added m i → Numbered P low added m j
raised P low [] m i j more now numbers = (let low_i = numbers.0 in omega (arith, more, low_i), now)
raised P low (a ∷ added) m i j more now numbers =
    (now, (numbers.1.0, let below = numbers.1.1 in omega (arith, more, below), numbers.1.2))

pub numbered_joined : (P : ℕ → Model → Type 0) (low : ℕ) (later added : List Model) (m : Model) (i j : ℕ)
    → Numbered P low added m i → Numbered P i later (newest added m) j → Numbered P low (later ++ added) m j
numbered_joined P low [] added m i j first next = raised P low added m i j next.0 next.1 first
numbered_joined P low (a ∷ later) added m i j first next =
    (next.0, (next.1.0, next.1.1, numbered_joined P low later added m i next.1.0 first next.1.2))

-- each moment has the number 0
pub numbered_zero : (T : Model → Type 0) (P : ℕ → Model → Type 0) (added : List Model) (m : Model)
    → ((m2 : Model) → T m2 → P 0 m2) → Each T added m → Numbered P 0 added m 0
numbered_zero T P [] m holds each = (omega arith, holds m each)
numbered_zero T P (a ∷ added) m holds each = (holds a each.0, (0, omega arith, numbered_zero T P added m holds each.1))

-- what is said of each number up to the last may be said otherwise
pub numbered_as : (P Q : ℕ → Model → Type 0) (low : ℕ) (added : List Model) (m : Model) (j : ℕ)
    → ((i : ℕ) → i ≤ j → (m2 : Model) → P i m2 → Q i m2) → Numbered P low added m j → Numbered Q low added m j
numbered_as P Q low [] m j as_q numbers = (numbers.0, as_q j (omega arith) m numbers.1)
numbered_as P Q low (a ∷ added) m j as_q numbers = (
  as_q j (omega arith) a numbers.0,
  (
    numbers.1.0,
    numbers.1.1,
    numbered_as P Q low added m numbers.1.0
        (λ i below. as_q i (let high = numbers.1.1 in omega (arith, below, high))) numbers.1.2,
  ),
)

-- what is said of each moment, whatever its number
pub numbered_plain : (P : ℕ → Model → Type 0) (Q : Model → Type 0) (low : ℕ) (added : List Model) (m : Model) (j : ℕ)
    → ((i : ℕ) (m2 : Model) → P i m2 → Q m2) → Numbered P low added m j → Numbered (λ i m2. Q m2) 0 added m 0
numbered_plain P Q low [] m j as_q numbers = (omega arith, as_q j m numbers.1)
numbered_plain P Q low (a ∷ added) m j as_q numbers =
    (as_q j a numbers.0, (0, omega arith, numbered_plain P Q low added m numbers.1.0 as_q numbers.1.2))

-- ---- guards

pub guarded_joined : (later added : List Model) (m : Model) → Guarded added m → Guarded later (newest added m)
    → Guarded (later ++ added) m
guarded_joined [] added m first next = first
guarded_joined (a ∷ later) added m first next = (
  subst (λ (x : Model). Guards (view_of x) (view_of a)) (sym (newest_more later added m)) next.0,
  guarded_joined later added m first next.1,
)

-- ---- runs

-- the moment before, and the story before it
pub story_of : (added : List Model) (m : Model) (past : List Model) → newest added m ∷ earlier added m past ≡ added
    ++ m ∷ past
story_of [] m past = refl
story_of (a ∷ added) m past = refl

-- two runs are one, where the number hasn't risen in the first
abbrev pub went_then : (P : ℕ → View → Type 0) (m : Model) (past : List Model) (j : ℕ) (b c : Told)
    → (first : Went P m past 0 b)
    → Went P (newest first.added m) (earlier first.added m past) j c → Went P m past j c
went_then P m past j b c first next = record {
  added = next.added ++ first.added;
  is =
      next.is
      ∙ (ap (λ (x : Model). Tells x (earlier next.added (newest first.added m) (earlier first.added m past)))
      (sym (newest_more next.added first.added m))
      ∙ ap (λ (x : List Model). Tells (newest (next.added ++ first.added) m) x)
      (sym (earlier_more next.added first.added m past)));
  numbers = numbered_joined (λ k m2. Allows (P k) m2) 0 next.added first.added m 0 j first.numbers next.numbers;
  guarded = guarded_joined next.added first.added m first.guarded next.guarded;
}

-- the model now is the newest of the run
pub newest_is : (m m2 : Model) (past past2 : List Model) (added : List Model) (new : Told)
    → new ≡ Tells (newest added m) (earlier added m past) → new ≡ Tells m2 past2 → newest added m ≡ m2
newest_is m m2 past past2 added new is now = model (sym is ∙ now)
  where
    model : {a b : Model} {p q : List Model} → Tells a p ≡ Tells b q → a ≡ b
    model e = cc

-- ---- what is said of each moment

pub each_then : (P : Model → Type 0) (later added : List Model) (m : Model) → Each P added m
    → Each P later (newest added m) → Each P (later ++ added) m
each_then P [] added m first next = first
each_then P (a ∷ later) added m first next = (next.0, each_then P later added m first next.1)

pub each_by : (P Q : Model → Type 0) (added : List Model) (m : Model) → ((m2 : Model) → P m2 → Q m2) → Each P added m
    → Each Q added m
each_by P Q [] m so each = so m each
each_by P Q (a ∷ added) m so each = (so a each.0, each_by P Q added m so each.1)

-- ---- pairs that are kept

pub keeps_then : (u v w : View) → KeepsPairs u v → KeepsPairs v w → KeepsPairs u w
keeps_then u v w first next = record {
  intent = next.intent ∙ first.intent;
  pairs = λ k sfile. next.pairs k sfile ∙ first.pairs k sfile;
  recovers = recovers_then u v w first.recovers next.recovers;
}

abbrev pub stays_as : (v : View) (m1 : Model) (past1 : List Model) (d : Told) → KeepsPairs v (view_of m1)
    → Stays (view_of m1) m1 past1 d → Stays v m1 past1 d
stays_as v m1 past1 d keeps went = record {
  added = went.added;
  is = went.is;
  numbers = numbered_as (λ i m2. Allows (KeepsPairs (view_of m1)) m2) (λ i m2. Allows (KeepsPairs v) m2) 0 went.added m1
      0 (λ i low m2 all w image. keeps_then v (view_of m1) w keeps (all w image)) went.numbers;
  guarded = went.guarded;
}
