-- A table with one delta more keeps the rules.
use Rattle.std.proofs.Common.{◌≡◌, ℕ, suc, ◌<◌, ◌≤◌, ◌⊎◌, ◌==◌, Bool, true, false, not, ◌&&◌, ◌||◌, List, [], ◌∷◌, refl}
use Rattle.std.proofs.Common.{sym, ap, ◌∙◌, ⊎_elim, arith}
use Rattle.std.specs.List.{AllByRecursion}
use Rattle.std.proofs.lemmas.Bool.{eqb-true, false≢true, or_cases, or_right}
use Rattle.std.proofs.Math.Nat.{min-le_right}
use Rattle.sccs_history.specs.Numbers.{Falls, has}
use Rattle.sccs_history.specs.Applied.{live_serials, newest, serials_of}
use Rattle.sccs_history.specs.History.{IsHeader, IsRecord, IsSpelled, IsTable, NamesSmaller, has_own_sids}
use Rattle.sccs_history.specs.declared.headers.Header.{Header}
use Rattle.sccs_history.specs.declared.headers.Record.{Record}
use Rattle.sccs_history.proofs.Falling.{front_has}
use Rattle.sccs_records.specs.NewDeltas.{FitsTable, HasSpellings, record_of, with_delta, with_record}
use Rattle.sccs_records.specs.declared.new_deltas.NewDelta.{NewDelta}

-- ---- serials

pub below_bound : (ns : List ℕ) (b m : ℕ) → Falls b ns → has ns m ≡ true → m < b
below_bound [] b m falls h = absurd (false≢true h)
below_bound (n ∷ ns) b m falls h =
    ⊎_elim (λ same. let is : n ≡ m = eqb-true n m same in omega (arith, is, falls.0))
    (λ rest. let low : m < n = below_bound ns n m falls.1 rest in omega (arith, low, falls.0))
    (or_cases (n == m) (has ns m) h)

-- the serials of a table are no greater than the newest
pub falls_newest : (records : List Record) (b : ℕ) → Falls b (serials_of records) → Falls (suc (newest records))
    (serials_of records)
falls_newest [] b falls = tt
falls_newest (r ∷ records) b falls = (omega arith, falls.1)

pub at_most_newest : (records : List Record) (b m : ℕ) → Falls b (serials_of records) → has (serials_of records) m
    ≡ true → m ≤ newest records
at_most_newest records b m falls h = let low : m < suc (newest records) = below_bound (serials_of records)
    (suc (newest records)) m (falls_newest records b falls) h in omega (arith, low)

pub live_is_there : (records : List Record) (n : ℕ) → has (live_serials records) n ≡ true → has (serials_of records) n
    ≡ true
live_is_there [] n h = h
live_is_there (r ∷ records) n h =
    ⊎_elim (λ (here : (not r.removed ≡ true) × (r.serial ≡ n)). ap (λ m. (r.serial == m) || has (serials_of records) n)
    (sym here.1) ∙ is_itself r.serial (has (serials_of records) n))
    (λ rest. or_right (r.serial == n) (has (serials_of records) n) (live_is_there records n rest))
    (front_has (not r.removed) r.serial (live_serials records) n h)
  where
    is_itself : (m : ℕ) (rest : Bool) → ((m == m) || rest) ≡ true
    is_itself m rest = grind arith

pub some_serial : (all records : List Record) (n : ℕ) → AllByRecursion (IsRecord all) records
    → has (serials_of records) n ≡ true → 0 < n
some_serial all [] n each h = absurd (false≢true h)
some_serial all (r ∷ records) n each h =
    ⊎_elim (λ same. let is : r.serial ≡ n = eqb-true r.serial n same in omega (arith, is, each.0.serial))
    (λ rest. some_serial all records n each.1 rest)
    (or_cases (r.serial == n) (has (serials_of records) n) h)

-- a list of live deltas of the table names smaller serials than the next
names_smaller : (records : List Record) (ns : List ℕ) → Falls 65536 (serials_of records)
    → AllByRecursion (IsRecord records) records → AllByRecursion (λ n. has (live_serials records) n ≡ true) ns
    → NamesSmaller (suc (newest records)) ns
names_smaller records [] falls each live = tt
names_smaller records (n ∷ ns) falls each live =
    let there : has (serials_of records) n ≡ true = live_is_there records n live.0 in
    let low : n ≤ newest records = at_most_newest records 65536 n falls there in
    ((some_serial records records n each there, omega (arith, low)), names_smaller records ns falls each live.1)

-- ---- records

one_more : (a b c : Bool) → (a || c) ≡ true → (a || (b || c)) ≡ true
one_more true b c h = refl
one_more false true c h = refl
one_more false false c h = h

record_wider : (r a : Record) (records : List Record) → IsRecord records a → IsRecord (r ∷ records) a
record_wider r a records is = record {
  serial = is.serial;
  predecessor = one_more (0 == a.predecessor) (r.serial == a.predecessor) (has (serials_of records) a.predecessor)
      is.predecessor;
  older = is.older;
  include = is.include;
  exclude = is.exclude;
  ignore = is.ignore;
  apart = is.apart;
  inserted = is.inserted;
  deleted = is.deleted;
  unchanged = is.unchanged;
}

records_wider : (r : Record) (all records : List Record) → AllByRecursion (IsRecord all) records
    → AllByRecursion (IsRecord (r ∷ all)) records
records_wider r all [] each = tt
records_wider r all (a ∷ records) each = (record_wider r a all each.0, records_wider r all records each.1)

on_older : (records : List Record) (on : ℕ) → Falls 65536 (serials_of records) → has (0 ∷ serials_of records) on ≡ true
    → on < suc (newest records)
on_older records on falls h =
    ⊎_elim (λ none. let is : 0 ≡ on = eqb-true 0 on none in omega (arith, is))
    (λ there. let low : on ≤ newest records = at_most_newest records 65536 on falls there in omega (arith, low))
    (or_cases (0 == on) (has (serials_of records) on) h)

pub table_kept : (records : List Record) (on : ℕ) (d : NewDelta) → IsTable records → FitsTable records on d
    → IsTable (with_record records on d)
table_kept records on d table fits =
    let new : Record = record_of (suc (newest records)) on d in
    record {
      some = refl;
      falls = (omega (arith, fits.serial), falls_newest records 65536 table.falls);
      each = (
        record {
          serial = omega arith;
          predecessor = one_more (0 == on) (suc (newest records) == on) (has (serials_of records) on) fits.base;
          older = on_older records on table.falls fits.base;
          include = names_smaller records d.include table.falls table.each fits.include;
          exclude = names_smaller records d.exclude table.falls table.each fits.exclude;
          ignore = tt;
          apart = fits.apart;
          inserted = min-le_right d.counts.inserted 99999;
          deleted = min-le_right d.counts.deleted 99999;
          unchanged = min-le_right d.counts.unchanged 99999;
        },
        records_wider new records records table.each,
      );
      sids = ap (λ t. not t && has_own_sids records) fits.sid ∙ table.sids;
    }

pub header_kept : (header : Header) (on : ℕ) (d : NewDelta) → IsHeader header → FitsTable header.records on d
    → IsHeader (with_delta header on d)
header_kept header on d is fits = record {
  rules = record {
    table = table_kept header.records on d is.rules.table fits;
    flags = is.rules.flags;
    letters = is.rules.letters;
    users = is.rules.users;
    description = is.rules.description;
  };
  plain = is.plain;
}

pub spelled_kept : (header : Header) (on : ℕ) (d : NewDelta) → IsSpelled header → HasSpellings d
    → IsSpelled (with_delta header on d)
spelled_kept header on d is has = record {
  records = (
    record { sid = has.sid; moment = has.moment; login = has.login; mrs = has.mrs; comments = has.comments },
    is.records,
  );
  users = is.users;
  flags = is.flags;
  description = is.description;
}
