-- The set of the SIDs of live records.
use Rattle.std.proofs.Common.{◌≡◌, ℕ, suc, Bool, true, false, cond, not, ◌&&◌, ◌||◌, List, [], ◌∷◌, ◌++◌, ◌==◌, length}
use Rattle.std.proofs.Common.{refl, sym, ap, ◌∙◌, arith}
use Rattle.std.specs.BTreeSet.{BTreeSet, Updates, contains}
use Rattle.std.proofs.lemmas.Bool.{eqb-true}
use Rattle.std.proofs.lemmas.List.Folds.{list_any-append}
use Rattle.sccs_sid.specs.declared.sids.Sid.{Sid}
use Rattle.sccs_sid.specs.declared.sid_lists.Range.{Range}
use Rattle.sccs_history.specs.History.{lives, same_sid}
use Rattle.sccs_history.specs.declared.headers.Record.{Record}
use Rattle.sccs_grammar.specs.SidKeys.{sid_key}
use Rattle.sccs_pfile.specs.Agreement.{is_listed, share_sid}
use Rattle.sccs_pfile.specs.LiveSets.{HasLive}
use Rattle.sccs_pfile.specs.declared.live_sets.LiveSet.{LiveSet}
use Rattle.sccs_sid.specs.FourNumbers.{four_cmp}
use Rattle.sccs_grammar.proofs.TableSets.{sid_same}

live_more : (before : List Record) (r : Record) (sid : Sid) → lives (before ++ r ∷ []) sid
    ≡ (lives before sid || ((not r.removed && same_sid r.sid sid) || false))
live_more before r sid = list_any-append (λ (o : Record). not o.removed && same_sid o.sid sid) before (r ∷ [])

one_else : (s a : Bool) → cond s true a ≡ (a || (s || false))
one_else true true = refl
one_else true false = refl
one_else false true = refl
one_else false false = refl

none_else : (a : Bool) → a ≡ (a || false)
none_else true = refl
none_else false = refl

-- a removed record adds no SID
pub none_more_live : (found : LiveSet) (before : List Record) (r : Record) → r.removed ≡ true → HasLive found before
    → HasLive found (before ++ r ∷ [])
none_more_live found before r removed has sid =
    has sid
    ∙ (none_else (lives before sid)
    ∙ (sym (ap (λ (t : Bool). lives before sid || ((not t && same_sid r.sid sid) || false)) removed)
    ∙ sym (live_more before r sid)))

-- a live one adds its own
pub one_more_live : (old new : BTreeSet (ℕ × ℕ × ℕ × ℕ)) (before : List Record) (r : Record) → r.removed ≡ false
    → Updates four_cmp old new (sid_key r.sid) true
    → ((sid : Sid) → contains four_cmp old (sid_key sid) ≡ lives before sid) → (sid : Sid)
    → contains four_cmp new (sid_key sid) ≡ lives (before ++ r ∷ []) sid
one_more_live old new before r live updates has sid =
    updates.0 (sid_key sid)
    ∙ (ap (λ same. cond same true (contains four_cmp old (sid_key sid))) (sid_same r.sid sid)
    ∙ (ap (λ there. cond (same_sid r.sid sid) true there) (has sid)
    ∙ (one_else (same_sid r.sid sid) (lives before sid)
    ∙ (sym (ap (λ (t : Bool). lives before sid || ((not t && same_sid r.sid sid) || false)) live)
    ∙ sym (live_more before r sid)))))

-- ---- lists of which one is empty

and_false : (b : Bool) → (b && false) ≡ false
and_false true = refl
and_false false = refl

none_left : (records : List Record) (exclude : List Range) → false ≡ share_sid records [] exclude
none_left [] exclude = refl
none_left (r ∷ records) exclude = none_left records exclude ∙ ap (λ (t : Bool). t || share_sid records [] exclude)
    (sym (and_false (not r.removed)))

none_right : (records : List Record) (include : List Range) → false ≡ share_sid records include []
none_right [] include = refl
none_right (r ∷ records) include =
    none_right records include
    ∙ ap (λ (t : Bool). t || share_sid records include [])
    (sym (ap (λ (t : Bool). not r.removed && t) (and_false (is_listed include r.sid)) ∙ and_false (not r.removed)))

pub shared_none : (records : List Record) (include exclude : List Range) → (length include == 0) ≡ true
    → false ≡ share_sid records include exclude
shared_none records [] exclude none = none_left records exclude
shared_none records (range ∷ include) exclude none = let no : suc (length include) ≡ 0 =
    eqb-true (suc (length include)) 0 none in absurd (omega (arith, no))

pub shared_no_other : (records : List Record) (include exclude : List Range) → (length exclude == 0) ≡ true
    → false ≡ share_sid records include exclude
shared_no_other records include [] none = none_right records include
shared_no_other records include (range ∷ exclude) none = let no : suc (length exclude) ≡ 0 =
    eqb-true (suc (length exclude)) 0 none in absurd (omega (arith, no))
