-- The record of a new delta, and tables that get one: sccsfile(4), "Delta table"; POSIX, delta.
use Rattle.std.specs.Prelude.{◌≡◌, ℕ, suc, ◌<◌, min, true, false, List, [], ◌∷◌, codes}
use Rattle.std.specs.List.{AllByRecursion}
use Rattle.sccs_base.specs.Login.{IsLogin}
use Rattle.sccs_sid.specs.Moment.{IsMoment}
use Rattle.sccs_sid.specs.Sid.{IsSid}
use Rattle.sccs_sid.specs.declared.moments.Stamp.{Stamp}
use Rattle.sccs_sid.specs.declared.sids.Sid.{Sid}
use Rattle.sccs_history.specs.Numbers.{has, share}
use Rattle.sccs_history.specs.Applied.{live_serials, newest, serials_of}
use Rattle.sccs_history.specs.History.{AreLines, lives}
use Rattle.sccs_history.specs.declared.headers.Header.{Header}
use Rattle.sccs_history.specs.declared.headers.Record.{Record}
use Rattle.sccs_records.specs.declared.new_deltas.NewDelta.{NewDelta}

-- a count as the table has it: it stops at 99,999
abbrev pub count_of : ℕ → ℕ
count_of n = min n 99999

-- the record of a delta of a serial, made on another
abbrev pub record_of : ℕ → ℕ → NewDelta → Record
record_of serial on d = record {
  serial = serial;
  removed = false;
  sid = d.sid;
  moment = d.stamp.moment;
  login = d.stamp.login;
  predecessor = on;
  include = d.include;
  exclude = d.exclude;
  ignore = [];
  mrs = d.mrs;
  comments = d.comments;
  inserted = count_of d.counts.inserted;
  deleted = count_of d.counts.deleted;
  unchanged = count_of d.counts.unchanged;
}

-- a table with a new delta, whose serial is the newest one plus 1
abbrev pub with_record : List Record → ℕ → NewDelta → List Record
with_record records on d = record_of (suc (newest records)) on d ∷ records

-- a header with it; users, flags and description stay
abbrev pub with_delta : Header → ℕ → NewDelta → Header
with_delta header on d = record header { records = with_record header.records on d }

-- A delta that may be put on a table: a number is left for it, it is made on 0 or a delta of the table, its lists name
-- live deltas and share none, and its SID isn't live.
pub record FitsTable (records : List Record) (on : ℕ) (d : NewDelta) : Type 0 where
  pub serial : newest records < 65535
  pub base : has (0 ∷ serials_of records) on ≡ true
  pub include : AllByRecursion (λ n. has (live_serials records) n ≡ true) d.include
  pub exclude : AllByRecursion (λ n. has (live_serials records) n ≡ true) d.exclude
  pub apart : share d.include d.exclude ≡ false
  pub sid : lives records d.sid ≡ false

-- Its SID, moment, login and texts are such, so that its record has a spelling.
pub record HasSpellings (d : NewDelta) : Type 0 where
  pub sid : IsSid d.sid
  pub moment : IsMoment d.stamp.moment
  pub login : IsLogin d.stamp.login
  pub mrs : AreLines d.mrs
  pub comments : AreLines d.comments

-- ---- null deltas

-- a delta of a release that was passed over
abbrev pub null_delta : Stamp → Sid → NewDelta
null_delta stamp sid = record {
  sid = sid;
  stamp = stamp;
  include = [];
  exclude = [];
  mrs = [];
  comments = codes "AUTO NULL DELTA" ∷ [];
  counts = record { inserted = 0; deleted = 0; unchanged = 0 };
}

-- deltas one after the other, each made on the one before, and the first on that of a serial
abbrev pub with_deltas : Header → ℕ → List NewDelta → Header
with_deltas header on [] = header
with_deltas header on (d ∷ ds) = with_deltas (with_delta header on d) (suc (newest header.records)) ds

-- the serial of the last one, on which the next is made
abbrev pub last_of : ℕ → ℕ → List NewDelta → ℕ
last_of on serial [] = on
last_of on serial (d ∷ ds) = last_of (suc serial) (suc serial) ds
