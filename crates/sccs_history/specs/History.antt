-- Histories, and which of them are valid.
use Rattle.std.specs.Prelude.{◌≡◌, ℕ, ◌<◌, ◌≤◌, ◌==◌, nat_le, Bool, true, false, not, ◌&&◌, ◌||◌, List, [], ◌∷◌}
use Rattle.std.specs.List.{AllByRecursion, list_any, list_all}
use Rattle.sccs_base.specs.Cut.{HasNoLf}
use Rattle.sccs_base.specs.Login.{IsLogin}
use Rattle.sccs_sid.specs.Moment.{IsMoment}
use Rattle.sccs_sid.specs.Sid.{IsSid}
use Rattle.sccs_sid.specs.SidLists.{begins}
use Rattle.sccs_sid.specs.Words.{begins_blank, ends_blank}
use Rattle.sccs_sid.specs.declared.sids.Sid.{Sid}
use Rattle.sccs_history.specs.Numbers.{is_empty, has, share, Falls}
use Rattle.sccs_history.specs.Body.{HistoryLine, IsLine}
use Rattle.sccs_history.specs.Applied.{serials_of, live_serials}
use Rattle.sccs_history.specs.FlagText.{fits_letter, flag_e}
use Rattle.sccs_history.specs.declared.headers.Record.{Record}
use Rattle.sccs_history.specs.declared.headers.Flag.{Flag}
use Rattle.sccs_history.specs.declared.headers.Header.{Header}

-- A history: all of a file but its body, and the lines.
pub record History : Type 0 where
  pub header : Header
  pub lines : List HistoryLine

-- no line begins with SOH
abbrev pub AreBare : List (List ℕ) → Type 0
AreBare text = AllByRecursion (λ line. begins 1 line ≡ false) text

-- a list of a record names smaller serials
abbrev pub NamesSmaller : ℕ → List ℕ → Type 0
NamesSmaller serial ns = AllByRecursion (λ n. (0 < n) × (n < serial)) ns

-- A record of a table: its predecessor is 0 or a smaller serial of the table, its lists name smaller serials,
-- it takes in none that it leaves out, and its counts have at most five digits.
pub record IsRecord (records : List Record) (r : Record) : Type 0 where
  pub serial : 0 < r.serial
  pub predecessor : has (0 ∷ serials_of records) r.predecessor ≡ true
  pub older : r.predecessor < r.serial
  pub include : NamesSmaller r.serial r.include
  pub exclude : NamesSmaller r.serial r.exclude
  pub ignore : NamesSmaller r.serial r.ignore
  pub apart : share r.include r.exclude ≡ false
  pub inserted : r.inserted ≤ 99999
  pub deleted : r.deleted ≤ 99999
  pub unchanged : r.unchanged ≤ 99999

-- the same four numbers
abbrev pub same_sid : Sid → Sid → Bool
same_sid a b = a.release == b.release && (a.level == b.level && (a.branch == b.branch && a.sequence == b.sequence))

-- some live record has the SID
abbrev pub lives : List Record → Sid → Bool
lives records sid = list_any (λ r. not r.removed && same_sid r.sid sid) records

-- no two live records have one SID
abbrev pub has_own_sids : List Record → Bool
has_own_sids [] = true
has_own_sids (r ∷ rs) = (r.removed || not (lives rs r.sid)) && has_own_sids rs

-- A delta table: at least one record, and serials 1 to 65535 that go strictly down.
pub record IsTable (records : List Record) : Type 0 where
  pub some : is_empty records ≡ false
  pub falls : Falls 65536 (serials_of records)
  pub each : AllByRecursion (IsRecord records) records
  pub sids : has_own_sids records ≡ true

-- a lower-case letter
abbrev pub is_letter : ℕ → Bool
is_letter b = nat_le 97 b && nat_le b 122

-- A flag: a lower-case letter, and a text without blanks at its ends that the letter may have.
pub record IsFlag (f : Flag) : Type 0 where
  pub letter : is_letter f.letter ≡ true
  pub front : begins_blank f.text ≡ false
  pub back : ends_blank f.text ≡ false
  pub text : fits_letter f.letter f.text ≡ true

-- none of the flags has the letter of another one
abbrev pub is_new : List Flag → Flag → Bool
is_new flags f = not (list_any (λ g. g.letter == f.letter) flags)

-- no letter stands twice
abbrev pub has_own_letters : List Flag → Bool
has_own_letters [] = true
has_own_letters (f ∷ fs) = is_new fs f && has_own_letters fs

-- the text `1`
abbrev pub is_one : List ℕ → Bool
is_one [] = false
is_one (b ∷ bytes) = b == 49 && is_empty bytes

-- some flag e has the text `1`, which says that the body is encoded
abbrev pub is_encoded : List Flag → Bool
is_encoded flags = list_any (λ f. f.letter == flag_e && is_one f.text) flags

-- A header that keeps the rules on records, flags, users and description, whatever it says of the body.
pub record KeepsRules (header : Header) : Type 0 where
  pub table : IsTable header.records
  pub flags : AllByRecursion IsFlag header.flags
  pub letters : has_own_letters header.flags ≡ true
  pub users : AreBare header.users
  pub description : AreBare header.description

-- The same, and the body isn't encoded.
pub record IsHeader (header : Header) : Type 0 where
  pub rules : KeepsRules header
  pub open rules use *
  pub plain : is_encoded header.flags ≡ false

-- the lines of a text are lines
abbrev pub AreLines : List (List ℕ) → Type 0
AreLines text = AllByRecursion HasNoLf text

-- SID, moment, login and texts of a record are such, so that each has a spelling.
pub record HasSpelling (r : Record) : Type 0 where
  pub sid : IsSid r.sid
  pub moment : IsMoment r.moment
  pub login : IsLogin r.login
  pub mrs : AreLines r.mrs
  pub comments : AreLines r.comments

-- The parts of a header are such as have a spelling.
pub record IsSpelled (header : Header) : Type 0 where
  pub records : AllByRecursion HasSpelling header.records
  pub users : AreLines header.users
  pub flags : AllByRecursion (λ f. HasNoLf f.text) header.flags
  pub description : AreLines header.description

-- A valid history: its header keeps the rules and has a spelling, and each line is a line that doesn't begin
-- with SOH, which a live serial inserted and greater live ones deleted.
pub record IsValid (h : History) : Type 0 where
  pub header : IsHeader h.header
  pub spelled : IsSpelled h.header
  pub lines : AllByRecursion (IsLine (live_serials h.header.records)) h.lines
  pub texts : AllByRecursion (λ line. HasNoLf line.text × (begins 1 line.text ≡ false)) h.lines

-- the predecessor of each live record is 0 or live
abbrev pub is_rooted : List Record → Bool
is_rooted records = list_all (λ r. r.removed || has (0 ∷ live_serials records) r.predecessor) records

abbrev pub IsRooted : History → Type 0
IsRooted h = is_rooted h.header.records ≡ true
