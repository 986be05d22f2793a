-- The walk along a trunk, revision by revision.
use Rattle.std.proofs.Common.{◌≡◌, ℕ, suc, ◌-◌, ◌<◌, List, [], ◌∷◌, ◌++◌, Option, None, Some, Result, Ok, Err, refl}
use Rattle.std.proofs.Common.{sym, ap, ◌∙◌, arith, append_assoc}
use Rattle.sccs_sid.specs.declared.sids.Sid.{Sid}
use Rattle.sccs_rcs_file.specs.Forms.{RcsFile}
use Rattle.sccs_rcs_file.specs.Trunk.{revision_of, revisions_at, revisions_from, then_revisions, with_all}
use Rattle.sccs_rcs_file.specs.Trunk.{with_revision}
use Rattle.sccs_trunks.specs.declared.revisions.Revision.{Revision}

all_none : (r : Result (List Revision) ℕ) → with_all [] r ≡ r
all_none (Ok revisions) = refl
all_none (Err n) = refl

all_more : (came : List Revision) (r : Revision) (x : Result (List Revision) ℕ) → with_all (came ++ r ∷ []) x
    ≡ with_all came (with_revision r x)
all_more came r (Ok revisions) = ap Ok (append_assoc came (r ∷ []) revisions)
all_more came r (Err n) = refl

-- the first step
pub walk_begins : (file : RcsFile) (head : List ℕ) → with_all [] (revisions_from (65536 - 1) 1 None (Some head) file)
    ≡ revisions_at (Some head) file
walk_begins file head = all_none (revisions_from (65536 - 1) 1 None (Some head) file)

from_step : (most : ℕ) (count : ℕ) (above : Option Sid) (number : List ℕ) (file : RcsFile) (left : ℕ) → left ≡ suc most
    → revisions_from left count above (Some number) file ≡ then_revisions count (revision_of above number file)
    (λ sid next. revisions_from most (suc count) (Some sid) next file)
from_step most count above number file left is = ap (λ k. revisions_from k count above (Some number) file) is

pub walk_goes_on : (came new : List Revision) (count count_new : ℕ) (above : Option Sid) (number : List ℕ)
    (file : RcsFile) (r : Revision) (next : Option (List ℕ)) (all : Result (List Revision) ℕ)
    → 0 < count → count < 65536 → count_new ≡ suc count → new ≡ came ++ r ∷ []
    → Some (r, next) ≡ revision_of above number file
    → with_all came (revisions_from (65536 - count) count above (Some number) file) ≡ all
    → with_all new (revisions_from (65536 - count_new) count_new (Some r.sid) next file) ≡ all
walk_goes_on came new count count_new above number file r next all some lt count_is new_is is so_far =
    ap (λ l. with_all l (revisions_from (65536 - count_new) count_new (Some r.sid) next file)) new_is
    ∙ (ap (λ k. with_all (came ++ r ∷ []) (revisions_from (65536 - k) k (Some r.sid) next file)) count_is
    ∙ (all_more came r (revisions_from (65536 - suc count) (suc count) (Some r.sid) next file)
    ∙ (ap (λ o. with_all came (then_revisions count o (λ sid after. revisions_from (65536 - suc count) (suc count)
    (Some sid) after file))) is
    ∙ (ap (λ x. with_all came x) (sym (from_step (65536 - suc count) count above number file (65536 - count) same))
    ∙ so_far))))
  where
    same : 65536 - count ≡ suc (65536 - suc count)
    same = omega arith

pub walk_full : (came : List Revision) (count : ℕ) (above : Option Sid) (number : List ℕ) (file : RcsFile)
    (all : Result (List Revision) ℕ)
    → 65535 < count → with_all came (revisions_from (65536 - count) count above (Some number) file) ≡ all
    → all ≡ Err count
walk_full came count above number file all high so_far = sym so_far
    ∙ ap (λ k. with_all came (revisions_from k count above (Some number) file)) none
  where
    none : 65536 - count ≡ 0
    none = omega arith
