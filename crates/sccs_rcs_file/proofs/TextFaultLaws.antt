-- The fault of a trunk's texts by the numbers of lines is that of the texts.
use Rattle.std.proofs.Common.{◌≡◌, ℕ, suc, ◌+◌, ◌-◌, List, [], ◌∷◌, length, Bool, true, false, Option, None, Some}
use Rattle.std.proofs.Common.{Result, Ok, Err, refl, sym, ap, ◌∙◌, arith}
use Rattle.sccs_rcs_file.specs.Trunk.{rcs_with}
use Rattle.sccs_rcs_file.specs.declared.faults.RcsFault.TheVariants.{RcsScript}
use Rattle.sccs_rcs_file.specs.TextFaults.{fault_from, fault_in, fault_of, head_fault, or_next}
use Rattle.sccs_trunks.specs.Changes.{Change, changes_of, revised}
use Rattle.sccs_trunks.specs.Lengths.{counted, put_count, struck_count}
use Rattle.sccs_trunks.specs.TrunkHistories.{behind_head, first_with_soh, scripts_from, then_scripts, trunk_scripts}
use Rattle.sccs_trunks.specs.TrunkHistories.{with_changes}
use Rattle.sccs_trunks.specs.declared.revisions.Revision.{Revision}
use Rattle.sccs_trunks.proofs.TextLengths.{length_revised}

then_same : (changes : List Change) (r : Result (List (List Change)) (ℕ × ℕ)) → fault_of (then_scripts changes r)
    ≡ fault_of r
then_same changes (Ok scripts) = refl
then_same changes (Err fault) = refl

faults_from : (n : ℕ) (text : List (List ℕ)) (revisions : List Revision) → fault_of (scripts_from n text revisions)
    ≡ fault_from n (length text) revisions
faults_from n text [] = refl
faults_from n text (r ∷ revisions) = by_changes (changes_of (length text) r.text) refl (λ changes. faults_from (suc n)
    (revised changes text) revisions)
  where
    by_changes : (c : Result (List Change) ℕ) → changes_of (length text) r.text ≡ c
        → ((changes : List Change) → fault_of (scripts_from (suc n) (revised changes text) revisions) ≡ fault_from
        (suc n) (length (revised changes text)) revisions)
        → fault_of (with_changes n c (λ changes. then_scripts changes
        (scripts_from (suc n) (revised changes text) revisions)))
        ≡ or_next n (counted (length text) 0 c) (λ after. fault_from (suc n) after revisions)
    by_changes (Err line) is more = refl
    by_changes (Ok changes) is more =
        then_same changes (scripts_from (suc n) (revised changes text) revisions)
        ∙ (more changes ∙ ap (λ k. fault_from (suc n) k revisions) (length_revised text r.text changes is
        ∙ same (length text + put_count changes) (struck_count changes)))
      where
        same : (a b : ℕ) → a - b ≡ a - (0 + b)
        same a b = omega arith

pub faults_are : (revisions : List Revision) → fault_of (trunk_scripts revisions) ≡ fault_in revisions
faults_are [] = refl
faults_are (r ∷ revisions) = by_head (first_with_soh 1 r.text)
  where
    by_head : (o : Option ℕ) → fault_of (behind_head o r.text revisions) ≡ head_fault o r revisions
    by_head (Some line) = refl
    by_head None = faults_from 2 r.text revisions

-- ---- the answer by the fault that was found

none_some : {P : Type 0} (x : ℕ × ℕ) → Some x ≡ None → P
none_some x e = absurd (Rattle.std.proofs.lemmas.Bool.false≢true (sym (ap is_there e)))
  where
    is_there : Option (ℕ × ℕ) → Bool
    is_there None = false
    is_there (Some y) = true

pub rcs_fits : (description : List (List ℕ)) (revisions : List Revision) → fault_in revisions ≡ None
    → rcs_with description revisions (trunk_scripts revisions) ≡ Ok
    (record { revisions = revisions; description = description })
rcs_fits description revisions e = by_scripts (trunk_scripts revisions) (faults_are revisions ∙ e)
  where
    by_scripts : (r : Result (List (List Change)) (ℕ × ℕ)) → fault_of r ≡ None → rcs_with description revisions r ≡ Ok
        (record { revisions = revisions; description = description })
    by_scripts (Ok scripts) e2 = refl
    by_scripts (Err (n, line)) e2 = none_some (n, line) e2

pub rcs_fails : (description : List (List ℕ)) (revisions : List Revision) (n line : ℕ) → fault_in revisions ≡ Some
    (n, line)
    → rcs_with description revisions (trunk_scripts revisions) ≡ Err (RcsScript n line)
rcs_fails description revisions n line e = by_scripts (trunk_scripts revisions) (faults_are revisions ∙ e)
  where
    same : (x y : ℕ × ℕ) → Some x ≡ Some y → x ≡ y
    same x y e2 = ap (or_pair x) e2
      where
        or_pair : ℕ × ℕ → Option (ℕ × ℕ) → ℕ × ℕ
        or_pair d None = d
        or_pair d (Some z) = z

    by_scripts : (r : Result (List (List Change)) (ℕ × ℕ)) → fault_of r ≡ Some (n, line)
        → rcs_with description revisions r ≡ Err (RcsScript n line)
    by_scripts (Ok scripts) e2 = none_some (n, line) (sym e2)
    by_scripts (Err (m, other)) e2 = ap (λ (x : ℕ × ℕ). Err (RcsScript x.0 x.1)) (same (m, other) (n, line) e2)
