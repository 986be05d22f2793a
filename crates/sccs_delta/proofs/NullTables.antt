-- Tables with null deltas and a new delta behind them.
use Rattle.std.proofs.Common.{◌≡◌, ℕ, zero, suc, ◌+◌, ◌-◌, ◌<◌, ◌≤◌, ◌==◌, Bool, true, false, not, ◌&&◌, ◌||◌, List, []}
use Rattle.std.proofs.Common.{◌∷◌, length, refl, sym, ap, ◌∙◌, arith, eq-eqb}
use Rattle.std.specs.Prelude.{if◌then◌else◌}
use Rattle.std.specs.List.{AllByRecursion, list_any}
use Rattle.std.proofs.lemmas.Bool.{false≢true, ne_eqb, or_left, or_right, or_from, or_parts}
use Rattle.sccs_sid.specs.declared.moments.Stamp.{Stamp}
use Rattle.sccs_sid.specs.declared.sids.Sid.{Sid}
use Rattle.sccs_flags.specs.FlagValues.{has_flag}
use Rattle.sccs_grammar.proofs.EntryLaws.{flip_sids}
use Rattle.sccs_history.specs.Applied.{live_serials, newest, serials_of}
use Rattle.sccs_history.specs.FlagText.{flag_n}
use Rattle.sccs_history.specs.History.{IsHeader, IsSpelled, lives, same_sid}
use Rattle.sccs_history.specs.Numbers.{front_if, has}
use Rattle.sccs_history.specs.declared.headers.Header.{Header}
use Rattle.sccs_history.specs.declared.headers.Record.{Record}
use Rattle.sccs_pfile.specs.declared.entries.Edit.{Edit}
use Rattle.sccs_records.specs.NewDeltas.{FitsTable, HasSpellings, last_of, null_delta, with_delta, with_deltas}
use Rattle.sccs_records.specs.NewDeltas.{with_record}
use Rattle.sccs_records.specs.declared.new_deltas.NewDelta.{NewDelta}
use Rattle.sccs_records.proofs.TableLaws.{header_kept, spelled_kept}
use Rattle.sccs_delta.specs.DeltaStep.{first_in_release, is_on_trunk, is_used, skipped, unused_from}
use Rattle.sccs_delta.specs.NullDeltas.{made_sids, null_deltas}

-- ---- deltas one after the other

-- each may be put on the table that has the ones before it
abbrev pub FitInTurn : Header → ℕ → List NewDelta → Type 0
FitInTurn header on [] = Unit {0}
FitInTurn header on (d ∷ ds) = FitsTable header.records on d × FitInTurn (with_delta header on d)
    (suc (newest header.records)) ds

pub kept_in_turn : (header : Header) (on : ℕ) (ds : List NewDelta) → IsHeader header → FitInTurn header on ds
    → IsHeader (with_deltas header on ds)
kept_in_turn header on [] is fit = is
kept_in_turn header on (d ∷ ds) is fit = kept_in_turn (with_delta header on d) (suc (newest header.records)) ds
    (header_kept header on d is fit.0) fit.1

pub spelled_in_turn : (header : Header) (on : ℕ) (ds : List NewDelta) → IsSpelled header
    → AllByRecursion HasSpellings ds → IsSpelled (with_deltas header on ds)
spelled_in_turn header on [] is have = is
spelled_in_turn header on (d ∷ ds) is have = spelled_in_turn (with_delta header on d) (suc (newest header.records)) ds
    (spelled_kept header on d is have.0) have.1

itself : (n : ℕ) (ns : List ℕ) → has (0 ∷ n ∷ ns) n ≡ true
itself n ns = or_right (0 == n) ((n == n) || has ns n) (or_left (n == n) (has ns n) (eq-eqb n n refl))

-- the last one is there
pub last_there : (header : Header) (on : ℕ) (ds : List NewDelta) → has (0 ∷ serials_of header.records) on ≡ true
    → has (0 ∷ serials_of (with_deltas header on ds).records) (last_of on (newest header.records) ds) ≡ true
last_there header on [] there = there
last_there header on (d ∷ ds) there = last_there (with_delta header on d) (suc (newest header.records)) ds
    (itself (suc (newest header.records)) (serials_of header.records))

-- live deltas stay live
pub live_in_turn : (header : Header) (on : ℕ) (ds : List NewDelta) (n : ℕ) → has (live_serials header.records) n ≡ true
    → has (live_serials (with_deltas header on ds).records) n ≡ true
live_in_turn header on [] n there = there
live_in_turn header on (d ∷ ds) n there =
    live_in_turn (with_delta header on d) (suc (newest header.records)) ds n
    (or_right (suc (newest header.records) == n) (has (live_serials header.records) n) there)

pub all_live : (header : Header) (on : ℕ) (ds : List NewDelta) (ns : List ℕ)
    → AllByRecursion (λ n. has (live_serials header.records) n ≡ true) ns
    → AllByRecursion (λ n. has (live_serials (with_deltas header on ds).records) n ≡ true) ns
all_live header on ds [] are = tt
all_live header on ds (n ∷ ns) are = (live_in_turn header on ds n are.0, all_live header on ds ns are.1)

-- ---- SIDs that may be made

-- none of them is live, and no two are the same
abbrev pub AreFree : List Record → List Sid → Type 0
AreFree records [] = Unit {0}
AreFree records (sid ∷ sids) = (lives records sid ≡ false) × AllByRecursion (λ t. same_sid sid t ≡ false) sids
    × AreFree records sids

free_more : (records : List Record) (on : ℕ) (stamp : Stamp) (sid : Sid) (sids : List Sid)
    → AllByRecursion (λ t. same_sid sid t ≡ false) sids → AreFree records sids
    → AreFree (with_record records on (null_delta stamp sid)) sids
free_more records on stamp sid [] apart free = tt
free_more records on stamp sid (t ∷ sids) apart free = (
  ap (λ b. b || lives records t) apart.0 ∙ free.0,
  free.1,
  free_more records on stamp sid sids apart.1 free.2,
)

pub nulls_fit : (stamp : Stamp) (header : Header) (on : ℕ) (sids : List Sid) → has (0 ∷ serials_of header.records) on
    ≡ true → newest header.records + length sids ≤ 65535 → AreFree header.records sids
    → FitInTurn header on (null_deltas stamp sids)
nulls_fit stamp header on [] base few free = tt
nulls_fit stamp header on (sid ∷ sids) base few free = (
  record { serial = omega (arith, few); base = base; include = tt; exclude = tt; apart = refl; sid = free.0 },
  nulls_fit stamp (with_delta header on (null_delta stamp sid)) (suc (newest header.records)) sids
      (itself (suc (newest header.records)) (serials_of header.records)) (omega (arith, few))
      (free_more header.records on stamp sid sids free.1 free.2),
)

-- which SIDs are live then
pub lives_nulls : (stamp : Stamp) (header : Header) (on : ℕ) (sids : List Sid) (t : Sid)
    → lives (with_deltas header on (null_deltas stamp sids)).records t ≡ (list_any (λ s. same_sid s t) sids || lives
    header.records t)
lives_nulls stamp header on [] t = refl
lives_nulls stamp header on (sid ∷ sids) t =
    lives_nulls stamp (with_delta header on (null_delta stamp sid)) (suc (newest header.records)) sids t
    ∙ turned (list_any (λ s. same_sid s t) sids) (same_sid sid t) (lives header.records t)
  where
    turned : (a b c : Bool) → (a || (b || c)) ≡ ((b || a) || c)
    turned true true c = refl
    turned true false c = refl
    turned false true c = refl
    turned false false c = refl

-- ---- releases that are passed over

off : (a b c d : Bool) → (c && a) ≡ false → (a && (b && (c && d))) ≡ false
off false b c d is = refl
off true false c d is = refl
off true true false d is = refl
off true true true d is = absurd (false≢true (sym is))

-- a SID that isn't of a release of the trunk isn't its first one
not_first : (release : ℕ) (sid : Sid) → is_on_trunk release sid ≡ false → same_sid sid (first_in_release release)
    ≡ false
not_first release sid is = off (sid.release == release) (sid.level == 1) (sid.branch == 0) (sid.sequence == 0) is

none_live : (release : ℕ) (records : List Record) → list_any (λ r. not r.removed && is_on_trunk release r.sid) records
    ≡ false → lives records (first_in_release release) ≡ false
none_live release [] none = refl
none_live release (r ∷ records) none =
    let both = or_parts (not r.removed && is_on_trunk release r.sid)
    (list_any (λ a. not a.removed && is_on_trunk release a.sid) records) none in
    or_from (not r.removed && same_sid r.sid (first_in_release release)) (lives records (first_in_release release))
    (kept (not r.removed) both.0) (none_live release records both.1)
  where
    kept : (live : Bool) → (live && is_on_trunk release r.sid) ≡ false
        → (live && same_sid r.sid (first_in_release release)) ≡ false
    kept true is = not_first release r.sid is
    kept false is = refl

other_release : (release later : ℕ) → release < later → same_sid (first_in_release release) (first_in_release later)
    ≡ false
other_release release later low = ap (λ b. b && ((1 == 1) && ((0 == 0) && (0 == 0))))
    (ne_eqb release later (λ e. omega (arith, e, low)))

later_sids : (records : List Record) (reserved : List Sid) (release from count : ℕ) → release < from
    → AllByRecursion (λ t. same_sid (first_in_release release) t ≡ false) (unused_from records reserved from count)
later_sids records reserved release from zero low = tt
later_sids records reserved release from (suc count) low =
    put (not (is_used records reserved from)) (other_release release from low) (later_sids records reserved release
    (suc from) count (omega (arith, low)))
  where
    put : (t : Bool) → same_sid (first_in_release release) (first_in_release from) ≡ false
        → AllByRecursion (λ s. same_sid (first_in_release release) s ≡ false) (unused_from records reserved
        (suc from) count)
        → AllByRecursion (λ s. same_sid (first_in_release release) s ≡ false) (front_if t (first_in_release from)
        (unused_from records reserved (suc from) count))
    put true here rest = (here, rest)
    put false here rest = rest

unused_free : (records : List Record) (reserved : List Sid) (release count : ℕ)
    → AreFree records (unused_from records reserved release count)
unused_free records reserved release zero = tt
unused_free records reserved release (suc count) =
    put (is_used records reserved release) refl (later_sids records reserved release (suc release) count (omega arith))
    (unused_free records reserved (suc release) count)
  where
    put : (t : Bool) → is_used records reserved release ≡ t → AllByRecursion (λ s. same_sid (first_in_release release) s
        ≡ false) (unused_from records reserved (suc release) count)
        → AreFree records (unused_from records reserved (suc release) count)
        → AreFree records (front_if (not t) (first_in_release release) (unused_from records reserved
        (suc release) count))
    put true is later rest = rest
    put false is later rest = (
      none_live release records (or_parts (list_any (λ r. not r.removed && is_on_trunk release r.sid) records)
          (list_any (is_on_trunk release) reserved) is).0,
      later,
      rest,
    )

pub skipped_free : (header : Header) (got made : Sid) (reserved : List Sid)
    → AreFree header.records (skipped header got made reserved)
skipped_free header got made reserved =
    by (has_flag header.flags flag_n && (got.branch == 0 && made.branch == 0)) (unused_free header.records reserved
    (suc got.release) (made.release - suc got.release))
  where
    by : (t : Bool) → AreFree header.records (unused_from header.records reserved (suc got.release)
        (made.release - suc got.release))
        → AreFree header.records (if t then unused_from header.records reserved (suc got.release)
        (made.release - suc got.release) else [])
    by true free = free
    by false free = tt

-- ---- SIDs that entries are to make

-- a SID that is reserved is of no release that is passed over
unused_apart : (records : List Record) (reserved : List Sid) (release count : ℕ) (t : Sid)
    → ((n : ℕ) → list_any (is_on_trunk n) reserved ≡ false → is_on_trunk n t ≡ false)
    → list_any (λ s. same_sid s t) (unused_from records reserved release count) ≡ false
unused_apart records reserved release zero t away = refl
unused_apart records reserved release (suc count) t away = put (is_used records reserved release) refl
    (unused_apart records reserved (suc release) count t away)
  where
    put : (b : Bool) → is_used records reserved release ≡ b → list_any (λ s. same_sid s t) (unused_from records reserved
        (suc release) count) ≡ false
        → list_any (λ s. same_sid s t) (front_if (not b) (first_in_release release) (unused_from records reserved
        (suc release) count)) ≡ false
    put true is rest = rest
    put false is rest =
        ap (λ b. b || list_any (λ s. same_sid s t) (unused_from records reserved (suc release) count))
        (flip_sids (first_in_release release) t
        ∙ not_first release t (away release
        (or_parts (list_any (λ r. not r.removed && is_on_trunk release r.sid) records)
        (list_any (is_on_trunk release) reserved) is).1))
        ∙ rest

skipped_apart : (header : Header) (got made : Sid) (reserved : List Sid) (t : Sid)
    → ((n : ℕ) → list_any (is_on_trunk n) reserved ≡ false → is_on_trunk n t ≡ false)
    → list_any (λ s. same_sid s t) (skipped header got made reserved) ≡ false
skipped_apart header got made reserved t away =
    by (has_flag header.flags flag_n && (got.branch == 0 && made.branch == 0)) (unused_apart header.records reserved
    (suc got.release) (made.release - suc got.release) t away)
  where
    by : (b : Bool) → list_any (λ s. same_sid s t) (unused_from header.records reserved (suc got.release)
        (made.release - suc got.release)) ≡ false
        → list_any (λ s. same_sid s t) (if b then unused_from header.records reserved (suc got.release)
        (made.release - suc got.release) else []) ≡ false
    by true none = none
    by false none = refl

-- what holds of no reserved SID holds of none that an entry is to make
reserved_none : (all edits : List Edit) → ((test : Sid → Bool) → list_any test (made_sids all) ≡ false
    → list_any test (made_sids edits) ≡ false) → AllByRecursion (λ x. (test : Sid → Bool)
    → list_any test (made_sids all) ≡ false → test x.made ≡ false) edits
reserved_none all [] within = tt
reserved_none all (x ∷ edits) within = (
  (λ test none. (or_parts (test x.made) (list_any test (made_sids edits)) (within test none)).0),
  reserved_none all edits (λ test none. (or_parts (test x.made) (list_any test (made_sids edits))
      (within test none)).1),
)

each_apart : (header : Header) (got made : Sid) (all edits : List Edit) → AllByRecursion (λ x. (test : Sid → Bool)
    → list_any test (made_sids all) ≡ false → test x.made ≡ false) edits
    → AllByRecursion (λ x. list_any (λ s. same_sid s x.made) (skipped header got made (made_sids all)) ≡ false) edits
each_apart header got made all [] away = tt
each_apart header got made all (x ∷ edits) away = (
  skipped_apart header got made (made_sids all) x.made
      (λ n none. away.0 (is_on_trunk n) none),
  each_apart header got made all edits away.1,
)

-- no null delta has the SID that an entry is to make
pub nulls_apart : (header : Header) (got made : Sid) (edits : List Edit)
    → AllByRecursion (λ x. list_any (λ s. same_sid s x.made) (skipped header got made (made_sids edits)) ≡ false) edits
nulls_apart header got made edits = each_apart header got made edits edits (reserved_none edits edits
    (λ test none. none))
