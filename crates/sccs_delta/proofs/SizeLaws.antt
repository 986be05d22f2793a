-- The checks of sizes, one after the other.
use Rattle.std.proofs.Common.{◌≡◌, ℕ, Bool, true, false, ◌&&◌, List, length, Option, None, Some, Result, Ok, Err, refl}
use Rattle.std.proofs.Common.{sym, ap, subst, ◌∙◌}
use Rattle.std.specs.Prelude.{IfSome, drop, is_some, nat_le}
use Rattle.sccs_base.specs.Constants.{file_limit}
use Rattle.sccs_base.specs.Name.{p_file}
use Rattle.sccs_disk.specs.Files.{View}
use Rattle.sccs_sid.specs.Reading.{◌>>=◌}
use Rattle.sccs_sid.specs.declared.refusals.Refusal.{Refusal}
use Rattle.sccs_sid.specs.declared.refusals.Refusal.TheVariants.{Missing, TooLong}
use Rattle.sccs_sid.specs.declared.refusals.StepFault.{StepFault}
use Rattle.sccs_sid.specs.declared.refusals.StepFault.TheVariants.{Refused, Memory, ReadFault, WriteFault, DiskFault}
use Rattle.sccs_name_files.specs.StepFiles.{Files, look}
use Rattle.sccs_steps.specs.StepEffects.{check}
use Rattle.sccs_changes.specs.PFiles.{PassesCheck, is_short}
use Rattle.sccs_delta.specs.DeltaStep.{sizes_checked}
use Rattle.sccs_delta.specs.Sizes.{is_short_enough, s_is_there, script_is_short}

abbrev sizes_by : Bool → Bool → Bool → Bool → Bool → Result Bool Refusal
sizes_by a b c d e = check a Missing >>= λ x. check (b && (c && (d && e))) TooLong

sizes_are : (i : List ℕ) (f : Files) → sizes_checked i f ≡ sizes_by (is_some f.s) (is_short f.s) (is_short f.p)
    (is_short f.g) (nat_le (length i) file_limit)
unfolding sizes_checked
sizes_are i f = refl

-- ---- a check that fails

no_s : (a b c d e : Bool) (fault : StepFault) → PassesCheck (check a Missing) (Err fault)
    → PassesCheck (sizes_by a b c d e) (Err fault)
no_s a b c d e (Refused refusal) is = ap (λ x. x >>= λ y. check (b && (c && (d && e))) TooLong) is
no_s a b c d e Memory is = tt
no_s a b c d e ReadFault is = is
no_s a b c d e WriteFault is = is
no_s a b c d e DiskFault is = tt

-- one of three is false, and those before it are true
long_one : (t rest : Bool) (fault : StepFault) → PassesCheck (check t TooLong) (Err fault)
    → PassesCheck (check (t && rest) TooLong) (Err fault)
long_one true rest (Refused refusal) is = absurd cc
long_one false rest (Refused refusal) is = is
long_one t rest Memory is = tt
long_one t rest ReadFault is = is
long_one t rest WriteFault is = is
long_one t rest DiskFault is = tt

-- the last of four is false
long_last : (b c d e : Bool) (fault : StepFault) → PassesCheck (check e TooLong) (Err fault)
    → PassesCheck (check (b && (c && (d && e))) TooLong) (Err fault)
long_last b c d true (Refused refusal) is = absurd cc
long_last b c d false (Refused refusal) is = ap (λ x. check x TooLong) (never b c d) ∙ is
  where
    never : (b c d : Bool) → (b && (c && (d && false))) ≡ false
    never false c d = refl
    never true false d = refl
    never true true false = refl
    never true true true = refl
long_last b c d e Memory is = tt
long_last b c d e ReadFault is = is
long_last b c d e WriteFault is = is
long_last b c d e DiskFault is = tt

last_one : (t : Bool) (r : Result (Unit {0}) StepFault) → PassesCheck (check t TooLong) r
    → PassesCheck (check (t && true) TooLong) r
last_one true r is = is
last_one false r is = is

is_true : (t : Bool) (refusal : Refusal) → check t refusal ≡ Ok true → t ≡ true
is_true true refusal is = refl
is_true false refusal is = absurd cc

-- ---- over a view that may be told

pub there_ends : (o : Option View) (n i : List ℕ) (fault : StepFault)
    → IfSome o (λ (v : View). PassesCheck (s_is_there (v n)) (Err fault))
    → IfSome o (λ (v : View). PassesCheck (sizes_checked i (look v n)) (Err fault))
there_ends None n i fault is = tt
there_ends (Some v) n i fault is =
    subst (λ (r : Result Bool Refusal). PassesCheck r (Err fault)) (sym (sizes_are i (look v n)))
    (no_s (is_some (v n)) (is_short (v n)) (is_short (v (p_file n))) (is_short (v (drop 2 n)))
    (nat_le (length i) file_limit) fault is)

pub script_ends : (o : Option View) (n i : List ℕ) (fault : StepFault)
    → IfSome o (λ (v : View). PassesCheck (s_is_there (v n)) (Ok tt)) → PassesCheck (script_is_short i) (Err fault)
    → IfSome o (λ (v : View). PassesCheck (sizes_checked i (look v n)) (Err fault))
script_ends None n i fault there is = tt
script_ends (Some v) n i fault there is =
    subst (λ (r : Result Bool Refusal). PassesCheck r (Err fault)) (sym (sizes_are i (look v n)))
    (subst (λ (a : Bool). PassesCheck (sizes_by a (is_short (v n)) (is_short (v (p_file n))) (is_short (v (drop 2 n)))
    (nat_le (length i) file_limit)) (Err fault)) (sym (is_true (is_some (v n)) Missing there))
    (long_last (is_short (v n)) (is_short (v (p_file n))) (is_short (v (drop 2 n))) (nat_le (length i) file_limit) fault
    is))

pub s_ends : (o o2 : Option View) (n i : List ℕ) (fault : StepFault) → o2 ≡ o
    → IfSome o (λ (v : View). PassesCheck (s_is_there (v n)) (Ok tt))
    → IfSome o2 (λ (v : View). PassesCheck (is_short_enough (v n)) (Err fault))
    → IfSome o (λ (v : View). PassesCheck (sizes_checked i (look v n)) (Err fault))
s_ends None o2 n i fault same there is = tt
s_ends (Some v) o2 n i fault same there is =
    subst (λ (r : Result Bool Refusal). PassesCheck r (Err fault)) (sym (sizes_are i (look v n)))
    (subst (λ (a : Bool). PassesCheck (sizes_by a (is_short (v n)) (is_short (v (p_file n))) (is_short (v (drop 2 n)))
    (nat_le (length i) file_limit)) (Err fault)) (sym (is_true (is_some (v n)) Missing there))
    (long_one (is_short (v n)) _ fault
    (subst (λ (w : Option View). IfSome w (λ (u : View). PassesCheck (is_short_enough (u n)) (Err fault))) same
    is)))

pub p_ends : (o o2 o3 : Option View) (n k i : List ℕ) (fault : StepFault) → o2 ≡ o → o3 ≡ o → k ≡ p_file n
    → IfSome o (λ (v : View). PassesCheck (s_is_there (v n)) (Ok tt))
    → IfSome o2 (λ (v : View). PassesCheck (is_short_enough (v n)) (Ok tt))
    → IfSome o3 (λ (v : View). PassesCheck (is_short_enough (v k)) (Err fault))
    → IfSome o (λ (v : View). PassesCheck (sizes_checked i (look v n)) (Err fault))
p_ends None o2 o3 n k i fault same same3 named there s is = tt
p_ends (Some v) o2 o3 n k i fault same same3 named there s is =
    let short = subst (λ (w : Option View). IfSome w (λ (u : View). PassesCheck (is_short_enough (u n)) (Ok tt))) same
    s in
    let long = subst (λ (w : Option View). IfSome w (λ (u : View). PassesCheck (is_short_enough (u (p_file n)))
    (Err fault))) same3 (subst (λ (m : List ℕ). IfSome o3 (λ (u : View). PassesCheck (is_short_enough (u m))
    (Err fault))) named is) in
    subst (λ (r : Result Bool Refusal). PassesCheck r (Err fault)) (sym (sizes_are i (look v n)))
    (subst (λ (a : Bool). PassesCheck (sizes_by a (is_short (v n)) (is_short (v (p_file n))) (is_short (v (drop 2 n)))
    (nat_le (length i) file_limit)) (Err fault)) (sym (is_true (is_some (v n)) Missing there))
    (subst (λ (b : Bool). PassesCheck (sizes_by true b (is_short (v (p_file n))) (is_short (v (drop 2 n)))
    (nat_le (length i) file_limit)) (Err fault)) (sym (is_true (is_short (v n)) TooLong short))
    (long_one (is_short (v (p_file n))) _ fault long)))

pub all_sized : (o o2 o3 o4 : Option View) (n k g i : List ℕ) (r : Result (Unit {0}) StepFault) → o2 ≡ o → o3 ≡ o
    → o4 ≡ o → k ≡ p_file n → g ≡ drop 2 n → PassesCheck (script_is_short i) (Ok tt)
    → IfSome o (λ (v : View). PassesCheck (s_is_there (v n)) (Ok tt))
    → IfSome o2 (λ (v : View). PassesCheck (is_short_enough (v n)) (Ok tt))
    → IfSome o3 (λ (v : View). PassesCheck (is_short_enough (v k)) (Ok tt))
    → IfSome o4 (λ (v : View). PassesCheck (is_short_enough (v g)) r)
    → IfSome o (λ (v : View). PassesCheck (sizes_checked i (look v n)) r)
all_sized None o2 o3 o4 n k g i r same same3 same4 named named4 few there s p is = tt
all_sized (Some v) o2 o3 o4 n k g i r same same3 same4 named named4 few there s p is =
    let short = subst (λ (w : Option View). IfSome w (λ (u : View). PassesCheck (is_short_enough (u n)) (Ok tt))) same
    s in
    let short_p = subst (λ (w : Option View). IfSome w (λ (u : View). PassesCheck (is_short_enough (u (p_file n)))
    (Ok tt))) same3 (subst (λ (m : List ℕ). IfSome o3 (λ (u : View). PassesCheck (is_short_enough (u m)) (Ok tt)))
    named p) in
    let last = subst (λ (w : Option View). IfSome w (λ (u : View). PassesCheck (is_short_enough (u (drop 2 n))) r))
    same4 (subst (λ (m : List ℕ). IfSome o4 (λ (u : View). PassesCheck (is_short_enough (u m)) r)) named4 is) in
    subst (λ (x : Result Bool Refusal). PassesCheck x r) (sym (sizes_are i (look v n)))
    (subst (λ (a : Bool). PassesCheck (sizes_by a (is_short (v n)) (is_short (v (p_file n))) (is_short (v (drop 2 n)))
    (nat_le (length i) file_limit)) r) (sym (is_true (is_some (v n)) Missing there))
    (subst (λ (b : Bool). PassesCheck (sizes_by true b (is_short (v (p_file n))) (is_short (v (drop 2 n)))
    (nat_le (length i) file_limit)) r) (sym (is_true (is_short (v n)) TooLong short))
    (subst (λ (c : Bool). PassesCheck (sizes_by true true c (is_short (v (drop 2 n))) (nat_le (length i) file_limit)) r)
    (sym (is_true (is_short (v (p_file n))) TooLong short_p))
    (subst (λ (e : Bool). PassesCheck (sizes_by true true true (is_short (v (drop 2 n))) e) r)
    (sym (is_true (nat_le (length i) file_limit) TooLong few))
    (last_one (is_short (v (drop 2 n))) r last)))))
