-- Entries whose delta is made leave the p-file.
use Rattle.std.proofs.Common.{◌≡◌, ℕ, zero, suc, ◌==◌, Bool, true, false, cond, not, ◌&&◌, ◌||◌, List, [], ◌∷◌, length}
use Rattle.std.proofs.Common.{Option, None, Some, Result, Ok, Err, refl, sym, ap, subst, ◌∙◌, arith, rules}
use Rattle.std.specs.Prelude.{filter, remove, slice_get}
use Rattle.std.specs.List.{AllByRecursion, list_any}
use Rattle.std.proofs.lemmas.Bool.{and_parts, eqb-true, or_right, not-true}
use Rattle.sccs_disk.specs.Files.{Content}
use Rattle.sccs_sid.specs.declared.sids.Sid.{Sid}
use Rattle.sccs_history.specs.History.{lives, same_sid}
use Rattle.sccs_history.specs.declared.headers.Record.{Record}
use Rattle.sccs_pfile.specs.Agreement.{Agrees, agrees, has_lists, makers}
use Rattle.sccs_pfile.specs.Entries.{IsEdit}
use Rattle.sccs_pfile.specs.Reading.{edits_of}
use Rattle.sccs_pfile.specs.Recovered.{is_done, pfile_of, recovered_by, recovered_pfile, table_of, without_done}
use Rattle.sccs_pfile.specs.declared.entries.Edit.{Edit}
use Rattle.sccs_pfile.proofs.EntriesValid.{edits_are}
use Rattle.sccs_pfile.proofs.EntryTexts.{edits_again}
use Rattle.sccs_base.proofs.Bools.{or_none}

-- ---- lists that a test goes over

kept_all : (P : Edit → Type 0) (t : Bool) (e : Edit) (rest : List Edit) → P e → AllByRecursion P rest
    → AllByRecursion P (cond t (e ∷ rest) rest)
kept_all P true e rest here are = (here, are)
kept_all P false e rest here are = are

filter_all : (P : Edit → Type 0) (test : Edit → Bool) (edits : List Edit) → AllByRecursion P edits
    → AllByRecursion P (filter test edits)
filter_all P test [] are = tt
filter_all P test (e ∷ edits) are = kept_all P (test e) e (filter test edits) are.0 (filter_all P test edits are.1)

none_left_by : (test : Edit → Bool) (e : Edit) (rest : List Edit) (t : Bool) → test e ≡ t → list_any test rest ≡ false
    → list_any test (cond (not t) (e ∷ rest) rest) ≡ false
none_left_by test e rest true is none = none
none_left_by test e rest false is none = rw is none

-- none that passes is left where those that pass are taken out
none_left : (test : Edit → Bool) (edits : List Edit) → list_any test (filter (λ e. not (test e)) edits) ≡ false
none_left test [] = refl
none_left test (e ∷ edits) = none_left_by test e (filter (λ x. not (test x)) edits) (test e) refl (none_left test edits)

none_all : (test : Edit → Bool) (edits : List Edit) → AllByRecursion (λ e. test e ≡ false) edits
    → list_any test edits ≡ false
none_all test [] are = refl
none_all test (e ∷ edits) are = rw are.0 (none_all test edits are.1)

-- ---- dropping twice

again_by : (s : Content) (records : List Record) (edits : List Edit) → table_of s.bytes ≡ Some records
    → AllByRecursion IsEdit edits → list_any (is_done records) edits ≡ false
    → recovered_pfile (Some s) (pfile_of edits) ≡ pfile_of edits
again_by s records [] table are none = refl
again_by s records (e ∷ edits) table are none = rw (table, edits_again (e ∷ edits) are, none) refl

-- what is left of entries stays
pub left_stays : (s : Content) (records : List Record) (edits : List Edit) → table_of s.bytes ≡ Some records
    → AllByRecursion IsEdit edits
    → recovered_pfile (Some s) (pfile_of (without_done records edits)) ≡ pfile_of (without_done records edits)
left_stays s records edits table are =
    again_by s records (without_done records edits) table (filter_all IsEdit (λ e. not (is_done records e)) edits are)
    (none_left (is_done records) edits)

twice_by : (s p : Content) (table : Option (List Record)) (read : Result (List Edit) ℕ)
    → table_of s.bytes ≡ table → edits_of p.bytes ≡ read → recovered_pfile (Some s) (recovered_by table read p)
    ≡ recovered_by table read p
twice_by s p None read is reads = rw is refl
twice_by s p (Some records) (Err line) is reads = rw (is, reads) refl
twice_by s p (Some records) (Ok edits) is reads =
    by_test (list_any (is_done records) edits) refl
  where
    by_test : (any : Bool) → list_any (is_done records) edits ≡ any → recovered_pfile (Some s)
        (cond any (pfile_of (without_done records edits)) (Some p)) ≡ cond any (pfile_of (without_done records edits))
        (Some p)
    by_test true any = left_stays s records edits is (edits_are p.bytes edits reads)
    by_test false none = rw (is, reads, none) refl

-- ---- entries that agree

agree_undone : (records : List Record) (all edits : List Edit) → AllByRecursion (λ e. agrees records all e ≡ true) edits
    → AllByRecursion (λ e. is_done records e ≡ false) edits
agree_undone records all [] are = tt
agree_undone records all (e ∷ edits) are = (
  not-true (lives records e.made) (and_parts (not (lives records e.made)) (makers all e.made == 1
      && has_lists records e) (and_parts (lives records e.got) (not (lives records e.made) && (makers all e.made == 1
      && has_lists records e)) are.0).1).0,
  agree_undone records all edits are.1,
)

pub nothing_drops : (s p : Content) (records : List Record) (edits : List Edit) → table_of s.bytes ≡ Some records
    → edits_of p.bytes ≡ Ok edits → Agrees records edits
    → recovered_pfile (Some s) (Some p) ≡ Some p
nothing_drops s p records edits table read agree =
    rw (table, read, none_all (is_done records) edits (agree_undone records edits edits agree)) refl

pub twice_once : (s p : Option Content) → recovered_pfile s (recovered_pfile s p) ≡ recovered_pfile s p
twice_once None None = refl
twice_once None (Some p) = refl
twice_once (Some s) None = refl
twice_once (Some s) (Some p) = twice_by s p (table_of s.bytes) (edits_of p.bytes) refl refl

-- ---- the entry that a delta takes

pub found_some : (test : Edit → Bool) (edits : List Edit) (k : ℕ) (e : Edit) → slice_get edits k ≡ Some e
    → test e ≡ true → length (filter test edits) ≡ 0 → ⊥
found_some test [] k e at passes none = cc
found_some test (x ∷ edits) zero e at passes none =
    let same : x ≡ e = cc in
    let here : test x ≡ true = ap test same ∙ passes in
    let some : suc (length (filter test edits)) ≡ 0 = (rw here at none) in absurd (omega (arith, some))
found_some test (x ∷ edits) (suc k) e at passes none = by (test x) none (found_some test edits k e at passes)
  where
    by : (t : Bool) → length (cond t (x ∷ filter test edits) (filter test edits)) ≡ 0 → (length (filter test edits) ≡ 0
        → ⊥) → ⊥
    by true some rest = absurd (omega (arith, some))
    by false some rest = rest some

pub none_passes : (test : Edit → Bool) (edits : List Edit) → length (filter test edits) ≡ 0
    → filter (λ e. not (test e)) edits ≡ edits
none_passes test [] none = refl
none_passes test (x ∷ edits) none = by (test x) none (none_passes test edits)
  where
    by : (t : Bool) → length (cond t (x ∷ filter test edits) (filter test edits)) ≡ 0 → (length (filter test edits) ≡ 0
        → filter (λ e. not (test e)) edits ≡ edits)
        → cond (not t) (x ∷ filter (λ e. not (test e)) edits) (filter (λ e. not (test e)) edits) ≡ x ∷ edits
    by true some rest = absurd (omega (arith, some))
    by false some rest = ap (λ l. x ∷ l) (rest some)

-- the one that passes is taken out
pub one_out : (test : Edit → Bool) (edits : List Edit) (k : ℕ) (e : Edit) → slice_get edits k ≡ Some e → test e ≡ true
    → length (filter test edits) ≡ 1 → filter (λ x. not (test x)) edits ≡ remove edits k
one_out test [] k e at passes one = cc
one_out test (x ∷ edits) zero e at passes one =
    let same : x ≡ e = cc in
    let here : test x ≡ true = ap test same ∙ passes in
    let some : suc (length (filter test edits)) ≡ 1 = (rw here at one) in
    rw here (none_passes test edits (omega (arith, some)))
one_out test (x ∷ edits) (suc k) e at passes one = by (test x) one (one_out test edits k e at passes)
  where
    by : (t : Bool) → length (cond t (x ∷ filter test edits) (filter test edits)) ≡ 1 → (length (filter test edits) ≡ 1
        → filter (λ y. not (test y)) edits ≡ remove edits k)
        → cond (not t) (x ∷ filter (λ y. not (test y)) edits) (filter (λ y. not (test y)) edits) ≡ x ∷ remove edits k
    by true some rest = absurd (found_some test edits k e at passes (omega (arith, some)))
    by false some rest = ap (λ l. x ∷ l) (rest some)

pub filter_same : (f g : Edit → Bool) (edits : List Edit) → AllByRecursion (λ e. f e ≡ g e) edits
    → filter f edits ≡ filter g edits
filter_same f g [] are = refl
filter_same f g (e ∷ edits) are = ap (λ t. cond t (e ∷ filter f edits) (filter f edits)) are.0
    ∙ ap (λ rest. cond (g e) (e ∷ rest) rest) (filter_same f g edits are.1)

pub all_at : (P : Edit → Type 0) (edits : List Edit) (k : ℕ) (e : Edit) → AllByRecursion P edits
    → slice_get edits k ≡ Some e → P e
all_at P [] k e are at = cc
all_at P (x ∷ edits) zero e are at = let same : x ≡ e = cc in subst P same are.0
all_at P (x ∷ edits) (suc k) e are at = all_at P edits k e are.1 at

pub any_at : (test : Edit → Bool) (edits : List Edit) (k : ℕ) (e : Edit) → slice_get edits k ≡ Some e → test e ≡ true
    → list_any test edits ≡ true
any_at test [] k e at passes = cc
any_at test (x ∷ edits) zero e at passes = let same : x ≡ e = cc in rw (ap test same ∙ passes) refl
any_at test (x ∷ edits) (suc k) e at passes = or_right (test x) (list_any test edits) (any_at test edits k e at passes)

pub same_self : (sid : Sid) → same_sid sid sid ≡ true
same_self sid = search rules

lives_as : (old new : List Record) (e : Edit) (edits : List Edit)
    → ((sid : Sid) → lives new sid ≡ (same_sid e.made sid || lives old sid))
    → AllByRecursion (λ x. is_done old x ≡ false) edits
    → AllByRecursion (λ x. not (is_done new x) ≡ not (same_sid e.made x.made)) edits
lives_as old new e [] more are = tt
lives_as old new e (x ∷ edits) more are = (
  ap not (more x.made ∙ (ap (λ b. same_sid e.made x.made || b) are.0 ∙ or_none (same_sid e.made x.made))),
  lives_as old new e edits more are.1,
)

pub one_maker : (records : List Record) (all : List Edit) (e : Edit) → agrees records all e ≡ true
    → makers all e.made ≡ 1
one_maker records all e is =
    eqb-true (makers all e.made) 1 (and_parts (makers all e.made == 1) (has_lists records e)
    (and_parts (not (lives records e.made)) (makers all e.made == 1 && has_lists records e)
    (and_parts (lives records e.got) (not (lives records e.made) && (makers all e.made == 1 && has_lists records e))
    is).1).1).0

-- where a delta made the SID of an entry, this entry leaves and no other
pub entry_leaves : (s p : Content) (old new : List Record) (edits : List Edit) (k : ℕ) (e : Edit)
    → table_of s.bytes ≡ Some new → edits_of p.bytes ≡ Ok edits → Agrees old edits
    → slice_get edits k ≡ Some e → ((sid : Sid) → lives new sid ≡ (same_sid e.made sid || lives old sid))
    → recovered_pfile (Some s) (Some p) ≡ pfile_of (remove edits k)
entry_leaves s p old new edits k e table read agree at more =
    let done : is_done new e ≡ true = more e.made ∙ rw (same_self e.made) refl in
    let left : without_done new edits ≡ remove edits k =
    filter_same (λ x. not (is_done new x)) (λ x. not (same_sid e.made x.made)) edits (lives_as old new e edits more
    (agree_undone old edits edits agree))
    ∙ one_out (λ x. same_sid e.made x.made) edits k e at (same_self e.made)
    (one_maker old edits e (all_at (λ x. agrees old edits x ≡ true) edits k e agree at)) in
    rw (table, read, any_at (is_done new) edits k e at done) (ap pfile_of left)

-- and what is left stays
pub others_stay : (s p : Content) (old new : List Record) (edits : List Edit) (k : ℕ) (e : Edit)
    → table_of s.bytes ≡ Some new → edits_of p.bytes ≡ Ok edits → Agrees old edits
    → slice_get edits k ≡ Some e → ((sid : Sid) → lives new sid ≡ (same_sid e.made sid || lives old sid))
    → recovered_pfile (Some s) (pfile_of (remove edits k)) ≡ pfile_of (remove edits k)
others_stay s p old new edits k e table read agree at more =
    let leaves = entry_leaves s p old new edits k e table read agree at more in
    ap (recovered_pfile (Some s)) (sym leaves) ∙ (twice_once (Some s) (Some p) ∙ leaves)
