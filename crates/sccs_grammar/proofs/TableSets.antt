-- What a table keeps of its SIDs.
use Rattle.std.proofs.Common.{◌≡◌, ℕ, ◌+◌, ◌*◌, ◌<◌, ◌≤◌, ◌==◌, Bool, true, false, not, cond, ◌&&◌, ◌||◌, List, [], ◌∷◌}
use Rattle.std.proofs.Common.{◌++◌, refl, sym, ap, ◌∙◌, arith}
use Rattle.std.specs.Ordering.{is_eq}
use Rattle.std.specs.BTreeSet.{BTreeSet, Updates, contains}
use Rattle.std.proofs.lemmas.Bool.{and_parts, eqb-true}
use Rattle.std.proofs.lemmas.List.Folds.{list_any-append}
use Rattle.sccs_sid.specs.declared.sids.Sid.{Sid}
use Rattle.sccs_history.specs.History.{lives, same_sid}
use Rattle.sccs_history.specs.declared.headers.Record.{Record}
use Rattle.sccs_grammar.specs.SidKeys.{sid_key, sid_number}
use Rattle.sccs_grammar.specs.HeldTable.{HasSids, AreFrom}
use Rattle.sccs_sid.proofs.FourNumbers.{four_same}
use Rattle.sccs_sid.specs.FourNumbers.{four_cmp}
use Rattle.sccs_base.proofs.Bools.{and_assoc, or_none}

-- ---- one record more

or_swap : (a b : Bool) → (a || b) ≡ (b || a)
or_swap true true = refl
or_swap true false = refl
or_swap false true = refl
or_swap false false = refl

chosen : (same there : Bool) → cond same true there ≡ (there || same)
chosen true there = or_swap true there
chosen false there = sym (or_none there)

lives_more : (rs : List Record) (r : Record) (sid : Sid) → lives (rs ++ r ∷ []) sid
    ≡ (lives rs sid || (not r.removed && same_sid r.sid sid))
lives_more rs r sid =
    list_any-append (λ (q : Record). not q.removed && same_sid q.sid sid) rs (r ∷ [])
    ∙ ap (λ rest. lives rs sid || rest) (or_none (not r.removed && same_sid r.sid sid))

-- ---- equal keys

pub sid_same : (a b : Sid) → is_eq (four_cmp (sid_key a) (sid_key b)) ≡ same_sid a b
sid_same a b =
    let r : Bool = a.release == b.release in
    let l : Bool = a.level == b.level in
    let n : Bool = a.branch == b.branch in
    let s : Bool = a.sequence == b.sequence in
    four_same (sid_key a) (sid_key b) ∙ (and_assoc (r && l) n s ∙ and_assoc r l (n && s))

-- ---- one key more

pub sids_more : (old new : BTreeSet (ℕ × ℕ × ℕ × ℕ)) (rs : List Record) (r : Record) → HasSids old rs
    → r.removed ≡ false → Updates four_cmp old new (sid_key r.sid) true → HasSids new (rs ++ r ∷ [])
sids_more old new rs r has_old live updates = λ sid.
    updates.0 (sid_key sid) ∙ (ap (λ same. cond same true (contains four_cmp old (sid_key sid))) (sid_same r.sid sid)
    ∙ (chosen (same_sid r.sid sid) (contains four_cmp old (sid_key sid))
    ∙ (ap (λ there. there || same_sid r.sid sid) (has_old sid)
    ∙ (ap (λ removed. lives rs sid || (not removed && same_sid r.sid sid)) (sym live) ∙ sym (lives_more rs r sid)))))

-- ---- SIDs that fall

abbrev of_four : (release level branch sequence : ℕ) → ℕ
of_four release level branch sequence = ((release * 65536 + level) * 65536 + branch) * 65536 + sequence

same_number : (a b : Sid) → same_sid a b ≡ true → sid_number a ≡ sid_number b
same_number a b is =
    let release = and_parts (a.release == b.release) (a.level == b.level
    && (a.branch == b.branch && a.sequence == b.sequence)) is in
    let level = and_parts (a.level == b.level) (a.branch == b.branch && a.sequence == b.sequence) release.1 in
    let last = and_parts (a.branch == b.branch) (a.sequence == b.sequence) level.1 in
    ap (λ r. of_four r a.level a.branch a.sequence) (eqb-true a.release b.release release.0)
    ∙ (ap (λ l. of_four b.release l a.branch a.sequence) (eqb-true a.level b.level level.0)
    ∙ (ap (λ n. of_four b.release b.level n a.sequence) (eqb-true a.branch b.branch last.0)
    ∙ ap (of_four b.release b.level b.branch) (eqb-true a.sequence b.sequence last.1)))

below_number : (a b : Sid) (last : ℕ) (same : Bool) → (same ≡ true → sid_number a ≡ sid_number b) → last ≤ sid_number a
    → sid_number b < last → same ≡ false
below_number a b last true number low below = let is : sid_number a ≡ sid_number b = number refl in
    absurd (omega (arith, is, low, below))
below_number a b last false number low below = refl

none_lives : (removed same rest : Bool) → same ≡ false → rest ≡ false → ((not removed && same) || rest) ≡ false
none_lives true same rest other none = none
none_lives false same rest other none = rw other none

-- a SID below those of all records is none of theirs
pub lives_below : (last : ℕ) (rs : List Record) (sid : Sid) → AreFrom last rs → sid_number sid < last
    → lives rs sid ≡ false
lives_below last [] sid all below = refl
lives_below last (r ∷ rs) sid all below =
    none_lives r.removed (same_sid r.sid sid) (lives rs sid) (below_number r.sid sid last (same_sid r.sid sid)
    (same_number r.sid sid) all.0 below) (lives_below last rs sid all.1 below)
