-- What one call says that changes a file where it is there.
use Rattle.std.proofs.Common.{◌≡◌, ℕ, cond, List, ◌∷◌, length, Option, None, Some, option_map, is_some, Result, Ok, Err}
use Rattle.std.proofs.Common.{IfOk, IfSome, IsSome, inl, inr, refl, sym, ap, subst, ◌∙◌, ⊎_elim}
use Rattle.sccs_base.specs.declared.streams.Failed.{Failed}
use Rattle.sccs_disk.specs.Calls.{Changes, IsThere}
use Rattle.sccs_disk.specs.Effects.{removing, renamed, renaming}
use Rattle.sccs_disk.specs.Files.{Content, Model, Op, Remove, Rename, View, view_of}
use Rattle.sccs_disk.specs.Reads.{Measures}
use Rattle.sccs_disk.specs.Told.{Told, Tells, seen}
use Rattle.sccs_store.specs.Commits.{Becomes}
use Rattle.sccs_group.specs.Finishing.{MayCall}
use Rattle.sccs_group.specs.Members.{taken}

-- ---- what was measured

measured : (o : Option Content) (len : ℕ) → Some len ≡ option_map (λ (c : Content). length c.bytes) o → IsSome o
measured None len e = absurd (cc)
measured (Some c) len e = refl

measured_none : (o : Option Content) → None ≡ option_map (λ (c : Content). length c.bytes) o → o ≡ None
measured_none None e = refl
measured_none (Some c) e = absurd (cc)

there_is : (o : Option View) (name : List ℕ) (len : ℕ) → Measures o name (Some len)
    → IfSome o (λ (v : View). IsSome (v name))
there_is None name len e = tt
there_is (Some v) name len e = measured (v name) len e

pub size_some : (t : Told) (name : List ℕ) (r : Result (Option ℕ) Failed) (o : Option ℕ) (len : ℕ) → r ≡ Ok o
    → o ≡ Some len → IfOk r (Measures (seen t) name) → IsThere name t
size_some t name r o len is is_some_now ok =
    there_is (seen t) name len (subst (λ (x : Option ℕ). Measures (seen t) name x) is_some_now
    (subst (λ (x : Result (Option ℕ) Failed). IfOk x (Measures (seen t) name)) is ok))

pub size_none : (t : Told) (name : List ℕ) (r : Result (Option ℕ) Failed) (o : Option ℕ) → r ≡ Ok o → o ≡ None
    → IfOk r (Measures (seen t) name) → Measures (seen t) name None
size_none t name r o is none ok = subst (λ (x : Option ℕ). Measures (seen t) name x) none
    (subst (λ (x : Result (Option ℕ) Failed). IfOk x (Measures (seen t) name)) is ok)

-- ---- the view

pub taken_there : (from to : List ℕ) (o o2 : Option View) → IfSome o (λ (v : View). IsSome (v from))
    → o2 ≡ option_map (renamed from to) o → Becomes (taken from to) o o2
taken_there from to None o2 there is = is
taken_there from to (Some v) o2 there is = is ∙ ap (λ b. Some (cond b (renamed from to v) v)) (sym there)

pub taken_none : (from to : List ℕ) (o o2 : Option View) → Measures o from None → o2 ≡ o → Becomes (taken from to) o o2
taken_none from to None o2 none is = is
taken_none from to (Some v) o2 none is = is ∙ ap (λ b. Some (cond b (renamed from to v) v))
    (sym (ap is_some (measured_none (v from) none)))

-- ---- the story

model_there : (n : List ℕ) (m : Model) (past : List Model) (t : Told) → t ≡ Tells m past → IsThere n t
    → IsSome (view_of m n)
model_there n m past t is there = subst (λ (x : Told). IfSome (seen x) (λ (v : View). IsSome (v n))) is there

pub may_same : (op : Op) (k : List ℕ) (a b : Told) → b ≡ a → MayCall op k a b
may_same op k a b same = λ m past is. inl same

pub may_rename : (from to : List ℕ) (a mid b : Told) (f f2 : ℕ) (r : Result (Unit {0}) Failed) → mid ≡ a
    → IsThere from a → Changes (renaming from to) mid b f f2 r → MayCall (Rename from to) from a b
may_rename from to a mid b f f2 (Ok x) same there call = λ m past is. inr (
  model_there from m past a is there,
  call.done.model m past (same ∙ is),
)
may_rename from to a mid b f f2 (Err e) same there call = λ m past is.
    ⊎_elim (λ still. inl (still ∙ same)) (λ made. inr (
      model_there from m past a is there,
      subst
          (λ (x : Model). b ≡ Tells x (m ∷ past)) made.2 made.1,
    )) (call.half.model m past (same ∙ is))

pub may_remove : (n : List ℕ) (a mid b : Told) (f f2 : ℕ) (r : Result (Unit {0}) Failed) → mid ≡ a → IsThere n a
    → Changes (removing n) mid b f f2 r → MayCall (Remove n) n a b
may_remove n a mid b f f2 (Ok x) same there call = λ m past is. inr (
  model_there n m past a is there,
  call.done.model m past (same ∙ is),
)
may_remove n a mid b f f2 (Err e) same there call = λ m past is.
    ⊎_elim (λ still. inl (still ∙ same)) (λ made. inr (
      model_there n m past a is there,
      subst
          (λ (x : Model). b ≡ Tells x (m ∷ past)) made.2 made.1,
    )) (call.half.model m past (same ∙ is))
