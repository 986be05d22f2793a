-- The history of a trunk: a delta for each revision, and the lines of all their texts.
use Rattle.std.specs.Prelude.{◌≡◌, ℕ, zero, suc, ◌<◌, ◌-◌, min, nat_lt, ◌==◌, Bool, true, false, ◌&&◌, ◌||◌, List, []}
use Rattle.std.specs.Prelude.{◌∷◌, length, Result, Ok, Err, Option, None, Some, if◌then◌else◌}
use Rattle.std.specs.List.{AllByRecursion}
use Rattle.sccs_base.specs.Cut.{HasNoLf}
use Rattle.sccs_base.specs.Login.{IsLogin}
use Rattle.sccs_sid.specs.Moment.{IsMoment}
use Rattle.sccs_sid.specs.Sid.{IsSid}
use Rattle.sccs_sid.specs.SidLists.{begins}
use Rattle.sccs_sid.specs.declared.sids.Sid.{Sid}
use Rattle.sccs_history.specs.Body.{HistoryLine}
use Rattle.sccs_history.specs.History.{AreBare, AreLines, History}
use Rattle.sccs_history.specs.Select.{select}
use Rattle.sccs_history.specs.declared.headers.Record.{Record}
use Rattle.sccs_script_laws.specs.Weave.{deleted, inserted}
use Rattle.sccs_trunks.specs.Changes.{Change, Strike, Put, changes_of, revised}
use Rattle.sccs_trunks.specs.Trunks.{revision_text, trunk_lines}
use Rattle.sccs_trunks.specs.declared.revisions.Rcs.{Rcs}
use Rattle.sccs_trunks.specs.declared.revisions.Revision.{Revision}

-- the serials from one down to 1
abbrev pub down : ℕ → List ℕ
down zero = []
down (suc n) = suc n ∷ down n

-- a count as a delta table has it, where it stops
abbrev pub count_of : ℕ → ℕ
count_of n = min n 99999

-- the record of a revision that so many others follow: what it left of the version before it are the lines of its own
-- version but those that it inserted
abbrev pub record_of : List HistoryLine → ℕ → Revision → Record
record_of lines below r = record {
  serial = suc below;
  removed = false;
  sid = r.sid;
  moment = r.moment;
  login = r.login;
  predecessor = below;
  include = [];
  exclude = [];
  ignore = [];
  mrs = [];
  comments = r.log;
  inserted = count_of (inserted (suc below) lines);
  deleted = count_of (deleted (suc below) lines);
  unchanged = count_of (length (select (down (suc below)) lines) - inserted (suc below) lines);
}

abbrev pub records_of : List HistoryLine → List Revision → List Record
records_of lines [] = []
records_of lines (r ∷ revisions) = record_of lines (length revisions) r ∷ records_of lines revisions

-- a history with a delta for each revision
abbrev pub trunk_history : List Revision → List (List ℕ) → List HistoryLine → History
trunk_history revisions description lines = record {
  header = record { records = records_of lines revisions; users = []; flags = []; description = description };
  lines = lines;
}

-- ---- a trunk as it is read

-- the first line that begins with SOH, where the first one has the number n
abbrev pub first_with_soh : ℕ → List (List ℕ) → Option ℕ
first_with_soh n [] = None
first_with_soh n (line ∷ lines) = if begins 1 line then Some n else first_with_soh (suc n) lines

-- What is said of the scripts of revisions from the n-th on: a fault is the number of the revision and the line of its
-- text.
abbrev pub with_changes : ℕ → Result (List Change) ℕ → (List Change → Result (List (List Change)) (ℕ × ℕ))
    → Result (List (List Change)) (ℕ × ℕ)
with_changes n (Ok changes) next = next changes
with_changes n (Err line) next = Err (n, line)

abbrev pub then_scripts : List Change → Result (List (List Change)) (ℕ × ℕ) → Result (List (List Change)) (ℕ × ℕ)
then_scripts changes (Ok scripts) = Ok (changes ∷ scripts)
then_scripts changes (Err fault) = Err fault

-- the scripts of revisions behind one that has a text, each for the text that those before it make
abbrev pub scripts_from : ℕ → List (List ℕ) → List Revision → Result (List (List Change)) (ℕ × ℕ)
scripts_from n text [] = Ok []
scripts_from n text (r ∷ revisions) =
    with_changes n (changes_of (length text) r.text) (λ changes. then_scripts changes
    (scripts_from (suc n) (revised changes text) revisions))

-- the scripts behind a head, whose lines don't begin with SOH
abbrev pub behind_head : Option ℕ → List (List ℕ) → List Revision → Result (List (List Change)) (ℕ × ℕ)
behind_head None head revisions = scripts_from 2 head revisions
behind_head (Some line) head revisions = Err (1, line)

-- the scripts of a trunk, or the first revision whose text is at fault
abbrev pub trunk_scripts : List Revision → Result (List (List Change)) (ℕ × ℕ)
trunk_scripts [] = Ok []
trunk_scripts (r ∷ revisions) = behind_head (first_with_soh 1 r.text) r.text revisions

-- those of a trunk without a fault
abbrev pub or_none : Result (List (List Change)) (ℕ × ℕ) → List (List Change)
or_none (Ok scripts) = scripts
or_none (Err fault) = []

abbrev pub scripts_of : List Revision → List (List Change)
scripts_of revisions = or_none (trunk_scripts revisions)

abbrev pub head_text : List Revision → List (List ℕ)
head_text [] = []
head_text (r ∷ revisions) = r.text

-- the text of the revision so many places behind the head
abbrev pub text_behind : ℕ → Rcs → List (List ℕ)
text_behind n rcs = revision_text n (head_text rcs.revisions) (scripts_of rcs.revisions)

-- the history that an s-file gets of a trunk
abbrev pub history_of : Rcs → History
history_of rcs = trunk_history rcs.revisions rcs.description (trunk_lines (head_text rcs.revisions)
    (scripts_of rcs.revisions))

-- ---- what reading makes sure of

-- a line that may stand in an s-file as a text line
abbrev pub IsBareLine : List ℕ → Type 0
IsBareLine line = HasNoLf line × (begins 1 line ≡ false)

-- the lines that changes add are bare
abbrev pub PutsBare : List Change → Type 0
PutsBare [] = Unit {0}
PutsBare (Strike first count ∷ changes) = PutsBare changes
PutsBare (Put after line ∷ changes) = IsBareLine line × PutsBare changes

-- a SID of the trunk is below another one
abbrev pub is_below : Sid → Sid → Bool
is_below a b = nat_lt a.release b.release || (a.release == b.release && nat_lt a.level b.level)

-- whether the SIDs of revisions are below one, and fall
abbrev pub sids_fall : Sid → List Revision → Bool
sids_fall sid [] = true
sids_fall sid (r ∷ revisions) = is_below r.sid sid && sids_fall r.sid revisions

-- A revision's SID, moment, login and log are such.
pub record IsRevision (r : Revision) : Type 0 where
  pub sid : IsSid r.sid
  pub trunk : (r.sid.branch ≡ 0) × (r.sid.sequence ≡ 0)
  pub moment : IsMoment r.moment
  pub login : IsLogin r.login
  pub log : AreLines r.log

-- the SIDs of all revisions fall from the head on
abbrev pub AreFalling : List Revision → Type 0
AreFalling [] = Unit {0}
AreFalling (r ∷ revisions) = sids_fall r.sid revisions ≡ true

-- A trunk of 1 to 65,535 revisions, as it is read: their SIDs fall, and all texts and the description can stand in an
-- s-file.
pub record IsTrunk (revisions : List Revision) (description head : List (List ℕ)) (scripts : List (List Change)) : Type
    0 where
  pub some : 0 < length revisions
  pub few : length revisions < 65536
  pub scripts_are : length revisions ≡ suc (length scripts)
  pub each : AllByRecursion IsRevision revisions
  pub sids : AreFalling revisions
  pub about : AreLines description × AreBare description
  pub first_text : AllByRecursion IsBareLine head
  pub others : AllByRecursion PutsBare scripts
