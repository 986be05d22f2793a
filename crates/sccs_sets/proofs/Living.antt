-- What is named by a SID is live.
use Rattle.std.proofs.Common.{◌≡◌, ℕ, ◌<◌, ◌==◌, Bool, true, false, cond, not, ◌&&◌, ◌||◌, List, [], ◌∷◌, ◌++◌, Option}
use Rattle.std.proofs.Common.{None, Some, option_map, Result, Ok, fold, map, find, refl, sym, subst, ap, ◌∙◌, arith}
use Rattle.std.specs.List.{AllByRecursion}
use Rattle.std.specs.Option.{option_and_then}
use Rattle.std.proofs.lemmas.Bool.{and_parts, cond_both, false_from_ne_true, ne_eqb, true≢false}
use Rattle.sccs_sid.specs.declared.sids.Sid.{Sid}
use Rattle.sccs_sid.specs.declared.sids.Spec.{Spec}
use Rattle.sccs_sid.specs.declared.sids.Spec.TheVariants.{Release, Branch, Full}
use Rattle.sccs_sid.specs.declared.sid_lists.Range.{Range}
use Rattle.sccs_history.specs.Numbers.{has}
use Rattle.sccs_history.specs.Applied.{Asked, applied, live_serials, serials_of}
use Rattle.sccs_history.specs.History.{IsRecord, IsTable, same_sid}
use Rattle.sccs_history.specs.declared.headers.Record.{Record}
use Rattle.sccs_history.proofs.AppliedSets.{applied_live}
use Rattle.sccs_history.proofs.Falling.{has_front, has_front_self}
use Rattle.sccs_sets.specs.Naming.{not_after, in_range, sid_named, put_named, range_named, range_fault, add_new}
use Rattle.sccs_sets.specs.Naming.{add_range, unless, named_serials}
use Rattle.sccs_sets.specs.Retrieved.{live_where, newest_where, serial_of, trunk_release, trunk_level, branch_sequence}
use Rattle.sccs_sets.specs.Retrieved.{trunk_sid, branch_sid, trunk_tip, top_of, top_at, retrieved}
use Rattle.sccs_sets.specs.declared.naming.Named.{Named}
use Rattle.sccs_sets.proofs.Lookups.{live_there}

-- a serial of a live record
abbrev pub Lives : List Record → ℕ → Type 0
Lives records n = has (live_serials records) n ≡ true

newest_step : (test : Sid → Bool) (r : Record) (rs : List Record) (n : ℕ) (t : Bool) → (not r.removed && test r.sid) ≡ t
    → (newest_where test rs ≡ Some n → Lives rs n)
    → option_map (λ (a : Record). a.serial) (cond t (Some r) (find (λ a. not a.removed && test a.sid) rs)) ≡ Some n
    → Lives (r ∷ rs) n
newest_step test r rs n true is rest found =
    let same : r.serial ≡ n = cc in
    subst (λ k. Lives (r ∷ rs) k) same (has_front_self (not r.removed) r.serial (live_serials rs)
    (and_parts (not r.removed) (test r.sid) is).0)
newest_step test r rs n false is rest found = has_front (not r.removed) r.serial (live_serials rs) n (rest found)

pub newest_live : (test : Sid → Bool) (records : List Record) (n : ℕ) → newest_where test records ≡ Some n
    → Lives records n
newest_live test [] n found = cc
newest_live test (r ∷ rs) n found = newest_step test r rs n (not r.removed && test r.sid) refl (newest_live test rs n)
    found

and_then_live : (records : List Record) (f : ℕ → Option ℕ) (o : Option ℕ) (n : ℕ) → ((x m : ℕ) → f x ≡ Some m
    → Lives records m) → option_and_then f o ≡ Some n → Lives records n
and_then_live records f None n each found = cc
and_then_live records f (Some x) n each found = each x n found

serial_live : (records : List Record) (sid : Sid) (n : ℕ) → serial_of records sid ≡ Some n → Lives records n
serial_live records sid n found = newest_live (λ s. same_sid s sid) records n found

trunk_live : (records : List Record) (limit : Option ℕ) (n : ℕ) → trunk_tip records limit ≡ Some n → Lives records n
trunk_live records limit n found =
    and_then_live records (λ release. option_and_then (λ level. serial_of records (trunk_sid release level))
    (trunk_level records release)) (trunk_release records limit) n
    (λ release m e. and_then_live records (λ level. serial_of records (trunk_sid release level))
    (trunk_level records release) m (λ level k. serial_live records (trunk_sid release level) k) e) found

top_live : (records : List Record) (limit : Option ℕ) (n : ℕ) → top_of records limit ≡ Some n → Lives records n
top_live records None n found =
    and_then_live records (λ release. newest_where (λ s. s.release == release) records) (trunk_release records None) n
    (λ release m. newest_live (λ s. s.release == release) records m) found
top_live records (Some release) n found = newest_live (λ s. s.release == release) records n found

top_at_live : (records : List Record) (sid : Sid) (n : ℕ) → top_at records sid ≡ Some n → Lives records n
top_at_live records sid n =
    cond_both (sid.branch == 0) (newest_where (λ s. s.release == sid.release && s.level == sid.level) records)
    (serial_of records sid) (λ o. o ≡ Some n → Lives records n)
    (λ _. newest_live (λ s. s.release == sid.release && s.level == sid.level) records n)
    (λ _. serial_live records sid n)

pub retrieved_live : (records : List Record) (spec : Option Spec) (top : Bool) (n : ℕ) → retrieved records spec top
    ≡ Some n → Lives records n
retrieved_live records None false n found = trunk_live records None n found
retrieved_live records None true n found = top_live records None n found
retrieved_live records (Some (Release release)) false n found = trunk_live records (Some release) n found
retrieved_live records (Some (Release release)) true n found = top_live records (Some release) n found
retrieved_live records (Some (Branch release level number)) top n found =
    and_then_live records (λ sequence. serial_of records (branch_sid release level number sequence))
    (branch_sequence records release level number) n (λ sequence m. serial_live records
    (branch_sid release level number sequence) m) found
retrieved_live records (Some (Full sid)) false n found = serial_live records sid n found
retrieved_live records (Some (Full sid)) true n found = top_at_live records sid n found

module _ (live : List ℕ) where
  named_step : (test : Sid → Bool) (r : Record) (rest : List Record) (t : Bool) → (not r.removed && test r.sid) ≡ t
      → (not r.removed ≡ true → has live r.serial ≡ true) → AllByRecursion (λ q. has live q.serial ≡ true)
      (map sid_named rest)
      → AllByRecursion (λ q. has live q.serial ≡ true) (map sid_named (cond t (r ∷ rest) rest))
  named_step test r rest true is here each = (here (and_parts (not r.removed) (test r.sid) is).0, each)
  named_step test r rest false is here each = each

  named_live : (test : Sid → Bool) (rs : List Record) → ((m : ℕ) → has (live_serials rs) m ≡ true → has live m ≡ true)
      → AllByRecursion (λ q. has live q.serial ≡ true) (map sid_named (live_where test rs))
  named_live test [] within = tt
  named_live test (r ∷ rs) within =
      named_step test r (live_where test rs) (not r.removed && test r.sid) refl
      (λ e. within r.serial (has_front_self (not r.removed) r.serial (live_serials rs) e))
      (named_live test rs (λ m there. within m (has_front (not r.removed) r.serial (live_serials rs) m there)))

  put_step : (a q : Named) (rest over : List Named) (t : Bool) → has live a.serial ≡ true → has live q.serial ≡ true
      → AllByRecursion (λ x. has live x.serial ≡ true) rest → AllByRecursion (λ x. has live x.serial ≡ true) over
      → AllByRecursion (λ x. has live x.serial ≡ true) (cond t (a ∷ over) (q ∷ a ∷ rest))
  put_step a q rest over true one two each each2 = (one, each2)
  put_step a q rest over false one two each each2 = (two, (one, each))

  put_live : (found : List Named) (q : Named) → AllByRecursion (λ x. has live x.serial ≡ true) found
      → has live q.serial ≡ true → AllByRecursion (λ x. has live x.serial ≡ true) (put_named found q)
  put_live [] q each here = (here, tt)
  put_live (a ∷ rest) q each here = put_step a q rest (put_named rest q) (not_after a.sid q.sid) each.0 here each.1
      (put_live rest q each.1 here)

  sorted_live : (found qs : List Named) → AllByRecursion (λ x. has live x.serial ≡ true) found
      → AllByRecursion (λ x. has live x.serial ≡ true) qs → AllByRecursion (λ x. has live x.serial ≡ true)
      (fold put_named found qs)
  sorted_live found [] each more = each
  sorted_live found (q ∷ qs) each more = sorted_live (put_named found q) qs (put_live found q each more.0) more.1

  pushed_live : (ns : List ℕ) (n : ℕ) → AllByRecursion (λ m. has live m ≡ true) ns → has live n ≡ true
      → AllByRecursion (λ m. has live m ≡ true) (ns ++ n ∷ [])
  pushed_live [] n each here = (here, tt)
  pushed_live (m ∷ ns) n each here = (each.0, pushed_live ns n each.1 here)

  new_live : (ns : List ℕ) (n : ℕ) → AllByRecursion (λ m. has live m ≡ true) ns → has live n ≡ true
      → AllByRecursion (λ m. has live m ≡ true) (add_new ns n)
  new_live ns n each here =
      cond_both (has ns n) ns (ns ++ n ∷ []) (λ l. AllByRecursion (λ m. has live m ≡ true) l) (λ _. each)
      (λ _. pushed_live ns n each here)

  added_live : (ns : List ℕ) (qs : List Named) → AllByRecursion (λ m. has live m ≡ true) ns
      → AllByRecursion (λ x. has live x.serial ≡ true) qs → AllByRecursion (λ m. has live m ≡ true)
      (fold (λ l q. add_new l q.serial) ns qs)
  added_live ns [] each more = each
  added_live ns (q ∷ qs) each more = added_live (add_new ns q.serial) qs (new_live ns q.serial each more.0) more.1

unless_ok : (o : Option Sid) (rest : Result (List ℕ) Sid) (ns : List ℕ) → unless o rest ≡ Ok ns → rest ≡ Ok ns
unless_ok None rest ns is = is
unless_ok (Some sid) rest ns is = cc

range_live : (records : List Record) (seen : List ℕ) (range : Range) → AllByRecursion (Lives records) seen
    → AllByRecursion (Lives records) (add_range records seen range)
range_live records seen range each =
    added_live (live_serials records) seen (range_named records range) each
    (sorted_live (live_serials records) [] (map sid_named (live_where (in_range range) records)) tt
    (named_live (live_serials records) (in_range range) records (λ m there. there)))

-- the serials that a list names are live
pub serials_live : (records : List Record) (seen : List ℕ) (ranges : List Range) (ns : List ℕ)
    → AllByRecursion (Lives records) seen → named_serials records seen ranges ≡ Ok ns
    → AllByRecursion (Lives records) ns
serials_live records seen [] ns each is = let same : seen ≡ ns = cc in subst (λ l. AllByRecursion (Lives records) l)
    same each
serials_live records seen (range ∷ ranges) ns each is =
    serials_live records (add_range records seen range) ranges ns (range_live records seen range each)
    (unless_ok (range_fault records range) (named_serials records (add_range records seen range) ranges) ns is)

no_zero_serial : (all rs : List Record) → AllByRecursion (IsRecord all) rs → has (serials_of rs) 0 ≡ false
no_zero_serial all [] each = refl
no_zero_serial all (r ∷ rs) each =
    let positive : 0 < r.serial = each.0.serial in ap (λ t. t || has (serials_of rs) 0)
    (ne_eqb r.serial 0 (λ e. omega arith)) ∙ no_zero_serial all rs each.1

-- 0 isn't applied
pub applied_no_zero : (asked : Asked) (records : List Record) → IsTable records → has (applied asked records) 0 ≡ false
applied_no_zero asked records table =
    false_from_ne_true (has (applied asked records) 0)
    (λ there. let lives : has (serials_of records) 0 ≡ true =
    live_there records 0 (applied_live asked records 0 there) in
    true≢false (sym lives ∙ no_zero_serial records records table.each))
