-- What holds of a delta that may be removed.
use Rattle.std.proofs.Common.{◌≡◌, ◌==◌, Bool, true, false, cond, not, ◌&&◌, List, [], ◌∷◌, Option, None, Some, Result}
use Rattle.std.proofs.Common.{Ok, refl, sym, ap, subst, ◌∙◌}
use Rattle.std.proofs.lemmas.Bool.{and_parts, not-true}
use Rattle.sccs_sid.specs.declared.moments.Stamp.{Stamp}
use Rattle.sccs_sid.specs.declared.sids.Sid.{Sid}
use Rattle.sccs_sid.specs.declared.refusals.Refusal.{Refusal}
use Rattle.sccs_sid.specs.declared.refusals.Refusal.TheVariants as refusals
use Rattle.sccs_flags.specs.Logins.{is_allowed}
use Rattle.sccs_history.specs.Applied.{live_serials}
use Rattle.sccs_history.specs.History.{same_sid}
use Rattle.sccs_history.specs.Numbers.{has}
use Rattle.sccs_history.specs.declared.headers.Header.{Header}
use Rattle.sccs_history.specs.declared.headers.Record.{Record}
use Rattle.sccs_history.proofs.Falling.{has_front, has_front_self}
use Rattle.sccs_pfile.specs.declared.entries.Edit.{Edit}
use Rattle.sccs_steps.specs.StepEffects.{check, there}
use Rattle.sccs_changes.proofs.Chains.{passed}
use Rattle.sccs_rmdel.specs.Leaves.{first_made, has_later, is_base, is_edited, is_leaf, is_owner, live_delta}
use Rattle.sccs_rmdel.proofs.DroppedItems.{by_test}
use Rattle.sccs_rmdel.specs.RmdelStep.{removable}

check_ok : (b : Bool) (refusal : Refusal) (t : Bool) → check b refusal ≡ Ok t → b ≡ true
check_ok true refusal t is = refl
check_ok false refusal t is = absurd cc

there_ok : (o : Option Record) (refusal : Refusal) (x : Record) → there o refusal ≡ Ok x → o ≡ Some x
there_ok None refusal x is = absurd cc
there_ok (Some y) refusal x is = let same : y ≡ x = cc in ap (λ (r : Record). Some r) same

same_delta : (a b : Record) → (let r : Result Record Refusal = Ok a in r) ≡ Ok b → a ≡ b
same_delta a b is = cc

-- It is the live delta of the SID, no pending edit got or lists it, and it is a leaf.
pub record IsRemovable (sid : Sid) (header : Header) (edits : List Edit) (delta : Record) : Type 0 where
  pub found : live_delta header.records sid ≡ Some delta
  pub free : is_edited edits sid ≡ false
  pub leaf : is_leaf header.records delta ≡ true

pub removable_is : (sid : Sid) (stamp : Stamp) (header : Header) (edits : List Edit) (delta : Record)
    → removable sid stamp header edits ≡ Ok delta → IsRemovable sid header edits delta
unfolding removable
removable_is sid stamp header edits delta is =
    let allowed = passed (check (is_allowed header.users stamp.login) refusals.NotAllowed) _ delta is in
    let found = passed (there (live_delta header.records sid) refusals.NoSid) _ delta allowed.2 in
    let free = passed (check (not (is_edited edits sid)) refusals.BeingEdited) _ delta found.2 in
    let leaf = passed (check (is_leaf header.records found.0) refusals.NotTip) _ delta free.2 in
    let owner = passed (check (is_owner header.records found.0 stamp.login) refusals.NotOwner) _ delta leaf.2 in
    subst (IsRemovable sid header edits) (same_delta found.0 delta owner.2)
    (record {
      found = there_ok (live_delta header.records sid) refusals.NoSid found.0 found.1;
      free = not-true (is_edited edits sid) (check_ok (not (is_edited edits sid)) refusals.BeingEdited free.0 free.1);
      leaf = check_ok (is_leaf header.records found.0) refusals.NotTip leaf.0 leaf.1;
    })

-- no live delta rests on a leaf
pub leaf_is_free : (records : List Record) (delta : Record) → is_leaf records delta ≡ true
    → is_base records delta.serial ≡ false
leaf_is_free records delta is =
    let both = and_parts (not (first_made (λ a. a.serial == delta.serial) records)) (not (has_later records delta.sid)
    && not (is_base records delta.serial)) is in
    not-true (is_base records delta.serial) (and_parts (not (has_later records delta.sid))
    (not (is_base records delta.serial)) both.1).1

-- a delta that is found is live
pub found_live : (records : List Record) (sid : Sid) (delta : Record) → live_delta records sid ≡ Some delta
    → has (live_serials records) delta.serial ≡ true
found_live [] sid delta is = absurd cc
found_live (r ∷ rs) sid delta is =
    by_test (λ t. cond t (Some r) (live_delta rs sid) ≡ Some delta → has (live_serials (r ∷ rs)) delta.serial ≡ true)
    (not r.removed && same_sid r.sid sid)
    (λ here found. let same : r ≡ delta = cc in
    ap (λ (x : Record). has (live_serials (r ∷ rs)) x.serial) (sym same) ∙ has_front_self (not r.removed) r.serial
    (live_serials rs) (and_parts (not r.removed) (same_sid r.sid sid) here).0)
    (λ away found. has_front (not r.removed) r.serial (live_serials rs) delta.serial (found_live rs sid delta found)) is
