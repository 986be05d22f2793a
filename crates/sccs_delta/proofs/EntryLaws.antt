-- What an entry that agrees with the table says by serials.
use Rattle.std.proofs.Common.{◌≡◌, ℕ, zero, suc, ◌<◌, ◌⊎◌, ◌==◌, Bool, true, false, cond, not, ◌&&◌, ◌||◌, List, []}
use Rattle.std.proofs.Common.{◌∷◌, ◌++◌, find, Option, None, Some, option_map, Ok, refl, sym, ap, subst, ◌∙◌, inl, inr}
use Rattle.std.proofs.Common.{⊎_elim, arith, eq-eqb}
use Rattle.std.specs.Prelude.{is_none, slice_get}
use Rattle.std.specs.List.{AllByRecursion, flat_map, list_any}
use Rattle.std.specs.Option.{option_and_then}
use Rattle.std.proofs.lemmas.Bool.{and_from, and_parts, eqb-true, false_from_ne_true, false≢true, or_cases, or_left}
use Rattle.std.proofs.lemmas.Bool.{or_right, not-true}
use Rattle.sccs_sid.specs.declared.sids.Sid.{Sid}
use Rattle.sccs_sid.specs.declared.sid_lists.Range.{Range}
use Rattle.sccs_history.specs.Applied.{live_serials, serials_of}
use Rattle.sccs_history.specs.History.{lives, same_sid}
use Rattle.sccs_history.specs.Numbers.{Falls, has, share}
use Rattle.sccs_history.specs.declared.headers.Record.{Record}
use Rattle.sccs_pfile.specs.Agreement.{Agrees, agrees, are_ranges, has_lists, is_listed, makers, share_sid}
use Rattle.sccs_pfile.specs.declared.entries.Edit.{Edit}
use Rattle.sccs_records.proofs.TableLaws.{below_bound}
use Rattle.sccs_sets.specs.Naming.{add_range, in_range, named_serials, range_fault, unless}
use Rattle.sccs_sets.specs.OnceNamed.{first_fault, first_places, range_serials}
use Rattle.sccs_sets.specs.Retrieved.{live_where, serial_of}
use Rattle.sccs_sets.specs.Sets.{both_listed, first_shared, sid_at}
use Rattle.sccs_sets.proofs.Living.{newest_live, serials_live}
use Rattle.sccs_sets.proofs.OnceNamed.{places_all, serials_once}
use Rattle.sccs_sets.proofs.Ranges.{ranges_named}
use Rattle.sccs_delta.specs.DeltaStep.{entry_base}
use Rattle.sccs_delta.specs.declared.entries.Base.{Base}
use Rattle.sccs_delta.proofs.EntryBases.{base_made, base_with}
use Rattle.sccs_base.proofs.Bools.{or_assoc}

-- ---- the SID got

module _ (test : Record → Bool) where
  found_by : (t : Bool) (r : Record) (records : List Record) → (t || list_any test records) ≡ true
      → (list_any test records ≡ true → (n : ℕ) × (option_map (λ (a : Record). a.serial) (find test records) ≡ Some n))
      → (n : ℕ) × (option_map (λ (a : Record). a.serial) (cond t (Some r) (find test records)) ≡ Some n)
  found_by true r records some rest = (r.serial, refl)
  found_by false r records some rest = rest some

  found_any : (records : List Record) → list_any test records ≡ true → (n : ℕ)
      × (option_map (λ (a : Record). a.serial) (find test records) ≡ Some n)
  found_any [] some = absurd (false≢true some)
  found_any (r ∷ records) some = found_by (test r) r records some (found_any records)

got_found : (records : List Record) (sid : Sid) → lives records sid ≡ true → (n : ℕ) × (serial_of records sid ≡ Some n)
got_found records sid live = found_any (λ r. not r.removed && same_sid r.sid sid) records live

-- ---- lists of live SIDs

none_is : (o : Option Sid) → is_none o ≡ true → o ≡ None
none_is None is = refl
none_is (Some sid) is = absurd (false≢true is)

ranges_ok : (records : List Record) (seen : List ℕ) (ranges : List Range) → are_ranges records ranges ≡ true
    → (ns : List ℕ) × (named_serials records seen ranges ≡ Ok ns)
ranges_ok records seen [] are = (seen, refl)
ranges_ok records seen (range ∷ ranges) are =
    let both = and_parts (is_none (range_fault records range)) (are_ranges records ranges) are in
    let (ns, is) = ranges_ok records (add_range records seen range) ranges both.1 in (
      ns,
      ap (λ o. unless o (named_serials records (add_range records seen range) ranges))
          (none_is (range_fault records range) both.0) ∙ is,
    )

ok_by : (o : Option Sid) (ms ns : List ℕ) → unless o (Ok ms) ≡ Ok ns → ms ≡ ns
ok_by None ms ns is = cc
ok_by (Some sid) ms ns is = absurd (cc)

has_both : (ms ns : List ℕ) (n : ℕ) → has (ms ++ ns) n ≡ (has ms n || has ns n)
has_both [] ns n = refl
has_both (m ∷ ms) ns n = ap (λ b. m == n || b) (has_both ms ns n) ∙ or_assoc (m == n) (has ms n) (has ns n)

-- the live deltas of one test or of another
module _ (f g : Sid → Bool) where
  either_step : (r : Record) (n : ℕ) (fs gs both : List Record) (live a b : Bool) → has (serials_of both) n
      ≡ (has (serials_of fs) n || has (serials_of gs) n)
      → has (serials_of (cond (live && (a || b)) (r ∷ both) both)) n ≡ (has (serials_of (cond (live && a) (r ∷ fs) fs))
      n || has (serials_of (cond (live && b) (r ∷ gs) gs)) n)
  either_step r n fs gs both false a b is = is
  either_step r n fs gs both true true true is = ap (λ t. r.serial == n || t) is ∙ once (r.serial == n)
      (has (serials_of fs) n) (has (serials_of gs) n)
    where
      once : (x y z : Bool) → (x || (y || z)) ≡ ((x || y) || (x || z))
      once true y z = refl
      once false y z = refl
  either_step r n fs gs both true true false is = ap (λ t. r.serial == n || t) is ∙ or_assoc (r.serial == n)
      (has (serials_of fs) n) (has (serials_of gs) n)
  either_step r n fs gs both true false true is = ap (λ t. r.serial == n || t) is ∙ second (r.serial == n)
      (has (serials_of fs) n) (has (serials_of gs) n)
    where
      second : (x y z : Bool) → (x || (y || z)) ≡ (y || (x || z))
      second true true z = refl
      second true false z = refl
      second false y z = refl
  either_step r n fs gs both true false false is = is

  either_live : (records : List Record) (n : ℕ) → has (serials_of (live_where (λ s. f s || g s) records)) n
      ≡ (has (serials_of (live_where f records)) n || has (serials_of (live_where g records)) n)
  either_live [] n = refl
  either_live (r ∷ records) n =
      either_step r n (live_where f records) (live_where g records) (live_where (λ s. f s || g s) records)
      (not r.removed) (f r.sid) (g r.sid) (either_live records n)

none_live : (records : List Record) → live_where (λ s. false) records ≡ []
none_live [] = refl
none_live (r ∷ records) = by (not r.removed) (none_live records)
  where
    by : (live : Bool) → live_where (λ s. false) records ≡ []
        → cond (live && false) (r ∷ live_where (λ s. false) records) (live_where (λ s. false) records) ≡ []
    by true is = is
    by false is = is

-- a list names the live deltas on its ranges
listed_live : (records : List Record) (ranges : List Range) (n : ℕ) → has (flat_map (range_serials records) ranges) n
    ≡ has (serials_of (live_where (is_listed ranges) records)) n
listed_live records [] n = ap (λ rs. has (serials_of rs) n) (sym (none_live records))
listed_live records (range ∷ ranges) n =
    has_both (range_serials records range) (flat_map (range_serials records) ranges) n
    ∙ (ap (λ b. b || has (flat_map (range_serials records) ranges) n) (ranges_named records range n)
    ∙ (ap (λ b. has (serials_of (live_where (in_range range) records)) n || b) (listed_live records ranges n)
    ∙ sym (either_live (in_range range) (is_listed ranges) records n)))

named_live : (records : List Record) (ranges : List Range) (ns : List ℕ) (n : ℕ) → named_serials records [] ranges
    ≡ Ok ns → has ns n ≡ true → has (serials_of (live_where (is_listed ranges) records)) n ≡ true
named_live records ranges ns n is there =
    let same : first_places (flat_map (range_serials records) ranges) ≡ ns =
    ok_by (first_fault records ranges) (first_places (flat_map (range_serials records) ranges)) ns
    (sym (serials_once records ranges) ∙ is) in
    sym (listed_live records ranges n) ∙ (sym (places_all (flat_map (range_serials records) ranges) n)
    ∙ (ap (λ l. has l n) same ∙ there))

-- ---- two lists that share no SID share no serial

front_is : (t : Bool) (r : Record) (rest : List Record) (n : ℕ) → has (serials_of (cond t (r ∷ rest) rest)) n ≡ true
    → ((t ≡ true) × (r.serial ≡ n)) ⊎ (has (serials_of rest) n ≡ true)
front_is true r rest n there = ⊎_elim (λ same. inl (refl, eqb-true r.serial n same)) (λ behind. inr behind)
    (or_cases (r.serial == n) (has (serials_of rest) n) there)
front_is false r rest n there = inr there

where_there : (test : Sid → Bool) (records : List Record) (n : ℕ) → has (serials_of (live_where test records)) n ≡ true
    → has (serials_of records) n ≡ true
where_there test [] n there = there
where_there test (r ∷ records) n there =
    ⊎_elim (λ here. or_left (r.serial == n) (has (serials_of records) n) (eq-eqb r.serial n here.1))
    (λ behind. or_right (r.serial == n) (has (serials_of records) n) (where_there test records n behind))
    (front_is (not r.removed && test r.sid) r (live_where test records) n there)

all_three : (live a b : Bool) → (live && a) ≡ true → (live && b) ≡ true → (live && (a && b)) ≡ true
all_three live a b first second = and_from live (a && b) (and_parts live a first).0
    (and_from a b (and_parts live a first).1 (and_parts live b second).1)

both_there : (f g : Sid → Bool) (records : List Record) (b n : ℕ) → Falls b (serials_of records)
    → has (serials_of (live_where f records)) n ≡ true → has (serials_of (live_where g records)) n ≡ true
    → list_any (λ (r : Record). not r.removed && (f r.sid && g r.sid)) records ≡ true
both_there f g [] b n falls one two = one
both_there f g (r ∷ records) b n falls one two =
    by (front_is (not r.removed && f r.sid) r (live_where f records) n one) (front_is (not r.removed && g r.sid) r
    (live_where g records) n two) (both_there f g records r.serial n falls.1)
  where
    low : (test : Sid → Bool) → has (serials_of (live_where test records)) n ≡ true → n < r.serial
    low test there = below_bound (serials_of records) r.serial n falls.1 (where_there test records n there)

    by : (((not r.removed && f r.sid) ≡ true) × (r.serial ≡ n)) ⊎ (has (serials_of (live_where f records)) n ≡ true)
        → (((not r.removed && g r.sid) ≡ true) × (r.serial ≡ n)) ⊎ (has (serials_of (live_where g records)) n ≡ true)
        → (has (serials_of (live_where f records)) n ≡ true → has (serials_of (live_where g records)) n ≡ true
        → list_any (λ (a : Record). not a.removed && (f a.sid && g a.sid)) records ≡ true)
        → ((not r.removed && (f r.sid && g r.sid)) || list_any (λ (a : Record). not a.removed && (f a.sid && g a.sid))
        records) ≡ true
    by (inl here) (inl there) rest = or_left (not r.removed && (f r.sid && g r.sid))
        (list_any (λ (a : Record). not a.removed && (f a.sid && g a.sid)) records) (all_three (not r.removed) (f r.sid)
        (g r.sid) here.0 there.0)
    by (inl here) (inr behind) rest = let less : n < r.serial = low g behind in absurd (omega (arith, less, here.1))
    by (inr behind) (inl here) rest = let less : n < r.serial = low f behind in absurd (omega (arith, less, here.1))
    by (inr one_behind) (inr two_behind) rest = or_right (not r.removed && (f r.sid && g r.sid))
        (list_any (λ (a : Record). not a.removed && (f a.sid && g a.sid)) records) (rest one_behind two_behind)

none_shared : (ms ns : List ℕ) → ((n : ℕ) → has ms n ≡ true → has ns n ≡ true → ⊥) → share ms ns ≡ false
none_shared [] ns never = refl
none_shared (m ∷ ms) ns never =
    ap (λ b. b || share ms ns) (false_from_ne_true (has ns m)
    (λ there. never m (or_left (m == m) (has ms m) (eq-eqb m m refl)) there))
    ∙ none_shared ms ns (λ n one two. never n (or_right (m == n) (has ms n) one) two)

none_found : (ms ns : List ℕ) → share ms ns ≡ false → first_shared ms ns ≡ None
none_found [] ns apart = refl
none_found (m ∷ ms) ns apart = by (has ns m) apart (none_found ms ns)
  where
    by : (t : Bool) → (t || share ms ns) ≡ false → (share ms ns ≡ false → first_shared ms ns ≡ None)
        → cond t (Some m) (first_shared ms ns) ≡ None
    by true apart2 rest = absurd (false≢true (sym apart2))
    by false apart2 rest = rest apart2

-- ---- an entry that agrees

-- What an entry says by serials: each is live, and its lists share none.
pub record HasBase (records : List Record) (edit : Edit) (base : Base) : Type 0 where
  pub is : (number : ℕ) → entry_base records number edit ≡ Ok base
  pub got : serial_of records edit.got ≡ Some base.got
  pub include : named_serials records [] edit.include ≡ Ok base.include
  pub exclude : named_serials records [] edit.exclude ≡ Ok base.exclude
  pub got_lives : has (live_serials records) base.got ≡ true
  pub included : AllByRecursion (λ n. has (live_serials records) n ≡ true) base.include
  pub excluded : AllByRecursion (λ n. has (live_serials records) n ≡ true) base.exclude
  pub apart : share base.include base.exclude ≡ false
  pub unshared : both_listed records base.include base.exclude ≡ None

pub agreeing_base : (records : List Record) (edits : List Edit) (edit : Edit) → Falls 65536 (serials_of records)
    → agrees records edits edit ≡ true → (base : Base) × HasBase records edit base
agreeing_base records edits edit falls agree =
    let first = and_parts (lives records edit.got) (not (lives records edit.made) && (makers edits edit.made == 1
    && has_lists records edit)) agree in
    let lists = and_parts (are_ranges records edit.include) (are_ranges records edit.exclude
    && not (share_sid records edit.include edit.exclude))
    (and_parts (makers edits edit.made == 1) (has_lists records edit) (and_parts (not (lives records edit.made))
    (makers edits edit.made == 1 && has_lists records edit) first.1).1).1 in
    let apart = and_parts (are_ranges records edit.exclude) (not (share_sid records edit.include edit.exclude))
    lists.1 in
    let (got, got_is) = got_found records edit.got first.0 in
    let (include, include_is) = ranges_ok records [] edit.include lists.0 in
    let (exclude, exclude_is) = ranges_ok records [] edit.exclude apart.0 in
    let unshared : share include exclude ≡ false =
    none_shared include exclude
    (λ n one two. false≢true
    (sym (not-true (share_sid records edit.include edit.exclude) apart.1)
    ∙ both_there (is_listed edit.include) (is_listed edit.exclude) records 65536 n falls
    (named_live records edit.include include n include_is one) (named_live records edit.exclude exclude n exclude_is
    two))) in (
      base_with records got include exclude,
      record {
        is = λ number. base_made records number edit got include exclude _ got_is include_is exclude_is
            (ap (λ o. option_and_then (sid_at records) o) (none_found include exclude unshared)) refl;
        got = got_is;
        include = include_is;
        exclude = exclude_is;
        got_lives = newest_live (λ s. same_sid s edit.got) records got got_is;
        included = serials_live records [] edit.include include tt include_is;
        excluded = serials_live records [] edit.exclude exclude tt exclude_is;
        apart = unshared;
        unshared = ap (λ o. option_and_then (sid_at records) o) (none_found include exclude unshared);
      },
    )

pub entry_agrees : (records : List Record) (all edits : List Edit) (place : ℕ) (edit : Edit)
    → AllByRecursion (λ e. agrees records all e ≡ true) edits → slice_get edits place ≡ Some edit
    → agrees records all edit ≡ true
entry_agrees records all [] place edit are at = cc
entry_agrees records all (e ∷ edits) zero edit are at = let same : e ≡ edit = cc in
    subst (λ (x : Edit). agrees records all x ≡ true) same are.0
entry_agrees records all (e ∷ edits) (suc place) edit are at = entry_agrees records all edits place edit are.1 at

-- where all entries agree each has its base
pub base_found : (records : List Record) (edits : List Edit) (place : ℕ) (edit : Edit)
    → Falls 65536 (serials_of records) → Agrees records edits → slice_get edits place ≡ Some edit → (base : Base)
    × HasBase records edit base
base_found records edits place edit falls agree at = agreeing_base records edits edit falls
    (entry_agrees records edits edits place edit agree at)
