-- An entry with a SID that nobody has keeps the agreement.
use Rattle.std.proofs.Common.{◌≡◌, ℕ, ◌+◌, ◌==◌, Bool, true, false, cond, not, ◌&&◌, List, [], ◌∷◌, ◌++◌, length, map}
use Rattle.std.proofs.Common.{Option, None, Some, refl, ap, ◌∙◌, arith}
use Rattle.std.specs.Prelude.{filter, option_and_then}
use Rattle.std.specs.List.{AllByRecursion, list_any}
use Rattle.std.proofs.lemmas.Bool.{or_parts}
use Rattle.sccs_sid.specs.declared.sids.Sid.{Sid}
use Rattle.sccs_sid.specs.declared.sids.Spec.{Spec}
use Rattle.sccs_history.specs.FlagText.{flag_b}
use Rattle.sccs_history.specs.History.{lives, same_sid}
use Rattle.sccs_history.specs.declared.headers.Header.{Header}
use Rattle.sccs_history.specs.declared.headers.Record.{Record}
use Rattle.sccs_flags.specs.FlagValues.{has_flag}
use Rattle.sccs_grammar.proofs.EntryLaws.{flip_sids}
use Rattle.sccs_sets.specs.Made.{is_taken, made_on, to_be_made}
use Rattle.sccs_sets.specs.Sets.{sid_at}
use Rattle.sccs_sets.proofs.NewSids.{made_is_free}
use Rattle.sccs_pfile.specs.Agreement.{Agrees, agrees, has_lists, makers}
use Rattle.sccs_pfile.specs.declared.entries.Edit.{Edit}
use Rattle.sccs_pfile.proofs.Recovering.{same_self}

-- no entry has the SID
each_other : (sid : Sid) (edits : List Edit) → list_any (λ s. same_sid s sid) (map (λ x. x.made) edits) ≡ false
    → AllByRecursion (λ x. same_sid x.made sid ≡ false) edits
each_other sid [] none = tt
each_other sid (x ∷ edits) none =
    let parts = or_parts (same_sid x.made sid) (list_any (λ s. same_sid s sid) (map (λ y. y.made) edits)) none in
    (parts.0, each_other sid edits parts.1)

-- one more of those that pass a test, or none
pub count_more : (test : Edit → Bool) (edits : List Edit) (e : Edit) → length (filter test (edits ++ e ∷ [])) ≡ length
    (filter test edits) + cond (test e) 1 0
count_more test [] e = by (test e)
  where
    by : (t : Bool) → length (cond t (e ∷ []) []) ≡ 0 + cond t 1 0
    by true = refl
    by false = refl
count_more test (x ∷ edits) e = by (test x) (count_more test edits e)
  where
    by : (t : Bool) → length (filter test (edits ++ e ∷ [])) ≡ length (filter test edits) + cond (test e) 1 0
        → length (cond t (x ∷ filter test (edits ++ e ∷ [])) (filter test (edits ++ e ∷ []))) ≡ length
        (cond t (x ∷ filter test edits) (filter test edits)) + cond (test e) 1 0
    by true more = omega (arith, more)
    by false more = more

none_count : (sid : Sid) (edits : List Edit) → AllByRecursion (λ x. same_sid x.made sid ≡ false) edits
    → makers edits sid ≡ 0
none_count sid [] others = refl
none_count sid (x ∷ edits) others = rw (flip_sids sid x.made ∙ others.0) (none_count sid edits others.1)

-- the count of an entry's SID stays
agrees_more : (records : List Record) (all more : List Edit) (x : Edit) → makers more x.made ≡ makers all x.made
    → agrees records all x ≡ true → agrees records more x ≡ true
agrees_more records all more x same is =
    ap (λ n. lives records x.got && (not (lives records x.made) && (n == 1 && has_lists records x))) same ∙ is

old_agree : (records : List Record) (all : List Edit) (e : Edit) (edits : List Edit)
    → AllByRecursion (λ x. same_sid x.made e.made ≡ false) edits → AllByRecursion (λ x. agrees records all x ≡ true)
    edits
    → AllByRecursion (λ x. agrees records (all ++ e ∷ []) x ≡ true) edits
old_agree records all e [] others are = tt
old_agree records all e (x ∷ edits) others are =
    let stays : makers (all ++ e ∷ []) x.made ≡ makers all x.made + 0 = count_more (λ o. same_sid x.made o.made) all e
    ∙ ap (λ t. makers all x.made + cond t 1 0) others.0 in (
      agrees_more records all (all ++ e ∷ []) x (omega (arith, stays)) are.0,
      old_agree records all e edits others.1
          are.1,
    )

all_push : (P : Edit → Type 0) (edits : List Edit) (e : Edit) → AllByRecursion P edits → P e
    → AllByRecursion P (edits ++ e ∷ [])
all_push P [] e are here = (here, tt)
all_push P (x ∷ edits) e are here = (are.0, all_push P edits e are.1 here)

pub agreement_kept : (records : List Record) (edits : List Edit) (e : Edit) → Agrees records edits
    → lives records e.got ≡ true → has_lists records e ≡ true
    → is_taken records (map (λ x. x.made) edits) (λ s. same_sid s e.made) ≡ false → Agrees records (edits ++ e ∷ [])
agreement_kept records edits e agree got lists free =
    let parts = or_parts (lives records e.made) (list_any (λ s. same_sid s e.made) (map (λ x. x.made) edits)) free in
    let others = each_other e.made edits parts.1 in
    let one : makers (edits ++ e ∷ []) e.made ≡ 1 = count_more (λ o. same_sid e.made o.made) edits e
    ∙ rw (none_count e.made edits others, same_self e.made) refl in
    all_push (λ x. agrees records (edits ++ e ∷ []) x ≡ true) edits e (old_agree records edits e edits others agree)
    (rw (got, parts.0, one, lists) refl)

free_by : (header : Header) (reserved : List Sid) (sid : Sid) (spec : Option Spec) (branch : Bool) (on : Option Sid)
    → option_and_then (λ on. made_on header.records reserved on spec branch) on ≡ Some sid
    → is_taken header.records reserved (λ s. same_sid s sid) ≡ false
free_by header reserved sid spec branch None is = cc
free_by header reserved sid spec branch (Some on) is = made_is_free header.records reserved on sid spec branch is

-- the SID to be made is such a one
pub reserving_keeps : (header : Header) (edits : List Edit) (e : Edit) (got : ℕ) (spec : Option Spec) (branch : Bool)
    → Agrees header.records edits → lives header.records e.got ≡ true
    → has_lists header.records e ≡ true → to_be_made header (map (λ x. x.made) edits) got spec branch ≡ Some e.made
    → Agrees header.records (edits ++ e ∷ [])
reserving_keeps header edits e got spec branch agree live lists made =
    agreement_kept header.records edits e agree live lists
    (free_by header (map (λ x. x.made) edits) e.made spec (branch && has_flag header.flags flag_b)
    (sid_at header.records got) made)
