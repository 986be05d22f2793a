-- What is read of an RCS file is a trunk.
use Rattle.std.proofs.Common.{◌≡◌, ℕ, zero, suc, ◌<◌, ◌≤◌, ◌==◌, Bool, true, false, List, [], ◌∷◌, length, Option, None}
use Rattle.std.proofs.Common.{Some, Result, Ok, Err, refl, sym, ap, subst, arith}
use Rattle.std.specs.Prelude.{if◌then◌else◌}
use Rattle.std.specs.List.{AllByRecursion}
use Rattle.std.specs.Option.{IfSome}
use Rattle.std.specs.Result.{IfOk}
use Rattle.std.proofs.lemmas.Bool.{and_from, eqb-true}
use Rattle.std.proofs.lemmas.List.Elements.{recursion_from_All}
use Rattle.sccs_base.specs.Cut.{HasNoLf, text_of}
use Rattle.sccs_base.specs.Login.{IsLogin, is_login, login_decides}
use Rattle.sccs_base.proofs.Lines.{text_fit}
use Rattle.sccs_sid.specs.Moment.{IsMoment, moment_of}
use Rattle.sccs_sid.specs.Reading.{behind, only, until}
use Rattle.sccs_sid.specs.Sid.{IsBranch, IsSid, sid_of}
use Rattle.sccs_sid.specs.SidLists.{begins}
use Rattle.sccs_sid.specs.Words.{found}
use Rattle.sccs_sid.specs.declared.sids.Sid.{Sid}
use Rattle.sccs_history.specs.History.{AreBare, AreLines}
use Rattle.sccs_tokens.proofs.TokenRules.{either, found_so, only_so, then_any, then_some}
use Rattle.sccs_grammar.proofs.SpellingRules.{moment_is, sid_is}
use Rattle.sccs_trunks.specs.Changes.{Change, Put, changes_from, changes_of, at_line, fit_command, last_of, or_at}
use Rattle.sccs_trunks.specs.Changes.{revised, taken_by, then_changes, with_command}
use Rattle.sccs_trunks.specs.TrunkHistories.{AreFalling, IsBareLine, IsRevision, IsTrunk, PutsBare, behind_head}
use Rattle.sccs_trunks.specs.TrunkHistories.{first_with_soh, head_text, is_below, or_none, scripts_from, scripts_of}
use Rattle.sccs_trunks.specs.TrunkHistories.{sids_fall, then_scripts, trunk_scripts, with_changes}
use Rattle.sccs_trunks.specs.declared.revisions.Rcs.{Rcs}
use Rattle.sccs_trunks.specs.declared.revisions.Revision.{Revision}
use Rattle.sccs_trunks.specs.declared.revisions.ScriptCommand.{ScriptCommand}
use Rattle.sccs_trunks.specs.declared.revisions.ScriptCommand.TheVariants.{Delete, Add}
use Rattle.sccs_rcs_file.specs.Forms.{DeltaText, RcsEntry, RcsFile}
use Rattle.sccs_rcs_file.specs.Lookups.{one_named}
use Rattle.sccs_rcs_file.specs.Reading.{file_of}
use Rattle.sccs_rcs_file.specs.Tokens.{dot}
use Rattle.sccs_rcs_file.specs.Trunk.{Facts, date_of, facts_of, fields_of, head_of, is_next, lines_in, most_revisions}
use Rattle.sccs_rcs_file.specs.Trunk.{on_trunk, or_empty_line, pieces_of, rcs_about, rcs_at, rcs_by, rcs_read, rcs_with}
use Rattle.sccs_rcs_file.specs.Trunk.{revision_by, revision_of, revisions_at, revisions_from, then_revisions, trunk_of}
use Rattle.sccs_rcs_file.specs.Trunk.{trunk_sid, unquoted, with_revision, year_of}
use Rattle.sccs_rcs_file.specs.declared.faults.RcsFault.{RcsFault}

-- ---- texts

lines_are : (raw : List ℕ) → AreLines (lines_in raw)
lines_are raw = recursion_from_All HasNoLf (text_of (unquoted raw)) (text_fit (unquoted raw))

empty_line : HasNoLf []
empty_line k d low = absurd (omega arith)

log_lines : (lines : List (List ℕ)) → AreLines lines → AreLines (or_empty_line lines)
log_lines [] are = (empty_line, tt)
log_lines (line ∷ lines) are = are

soh_by : (n : ℕ) (line : List ℕ) (lines : List (List ℕ)) (t : Bool) → begins 1 line ≡ t
    → (if t then Some n else first_with_soh (suc n) lines) ≡ None
    → (first_with_soh (suc n) lines ≡ None → AreBare lines) → AreBare (line ∷ lines)
soh_by n line lines true is none more = absurd (cc)
soh_by n line lines false is none more = (is, more none)

none_with_soh : (n : ℕ) (lines : List (List ℕ)) → first_with_soh n lines ≡ None → AreBare lines
none_with_soh n [] none = tt
none_with_soh n (line ∷ lines) none = soh_by n line lines (begins 1 line) refl none (none_with_soh (suc n) lines)

bare_lines : (lines : List (List ℕ)) → AreLines lines → AreBare lines → AllByRecursion IsBareLine lines
bare_lines [] are bare = tt
bare_lines (line ∷ lines) are bare = ((are.0, bare.0), bare_lines lines are.1 bare.1)

-- ---- scripts

PutsOnlyBare : Result (List Change) ℕ → Type 0
PutsOnlyBare r = IfOk r PutsBare

command_bare : (command : ScriptCommand) (r : Result (List Change) ℕ) → PutsOnlyBare r
    → PutsOnlyBare (then_changes (with_command command) r)
unfolding PutsOnlyBare
command_bare (Delete line count) (Ok changes) bare = bare
command_bare (Add line count) (Ok changes) bare = bare
command_bare command (Err left) bare = tt

at_command : (rest : List (List ℕ)) (o : Option ScriptCommand) (next : ScriptCommand → Result (List Change) ℕ)
    → ((c : ScriptCommand) → PutsOnlyBare (next c)) → PutsOnlyBare (or_at rest o next)
unfolding PutsOnlyBare
at_command rest None next bare = tt
at_command rest (Some c) next bare = bare c

else_bare : (t : Bool) (left : ℕ) (r : Result (List Change) ℕ) → PutsOnlyBare r → PutsOnlyBare (if t then Err left
    else r)
unfolding PutsOnlyBare
else_bare true left r bare = tt
else_bare false left r bare = bare

put_bare : (last : ℕ) (line : List ℕ) (t : Bool) (left : ℕ) (r : Result (List Change) ℕ) → begins 1 line ≡ t
    → HasNoLf line → PutsOnlyBare r
    → PutsOnlyBare (if t then Err left else then_changes (λ changes. Put last line ∷ changes) r)
unfolding PutsOnlyBare
put_bare last line true left r is whole bare = tt
put_bare last line false left (Ok changes) is whole bare = ((whole, is), bare)
put_bare last line false left (Err fault) is whole bare = tt

changes_bare : (lines last taken : ℕ) (script : List (List ℕ)) → AreLines script
    → PutsOnlyBare (changes_from lines last taken script)
unfolding PutsOnlyBare
changes_bare lines last taken [] are = tt
changes_bare lines last zero (line ∷ rest) are =
    else_bare (begins 1 line) (suc (length rest)) _
    (at_command rest (fit_command lines last (length rest) line) (λ c. then_changes (with_command c)
    (changes_from lines (last_of c) (taken_by c) rest))
    (λ c. command_bare c (changes_from lines (last_of c) (taken_by c) rest) (changes_bare lines (last_of c)
    (taken_by c) rest are.1)))
changes_bare lines last (suc taken) (line ∷ rest) are =
    put_bare last line (begins 1 line) (suc (length rest)) (changes_from lines last taken rest) refl are.0
    (changes_bare lines last taken rest are.1)

numbered_bare : (script : List (List ℕ)) (r : Result (List Change) ℕ) → PutsOnlyBare r → PutsOnlyBare (at_line script r)
unfolding PutsOnlyBare
numbered_bare script (Ok changes) bare = bare
numbered_bare script (Err left) bare = tt

script_bare : (lines : ℕ) (script : List (List ℕ)) → AreLines script → PutsOnlyBare (changes_of lines script)
script_bare lines script are = numbered_bare script (changes_from lines 0 0 script) (changes_bare lines 0 0 script are)

-- the lines of a revision's text
HasText : Revision → Type 0
HasText r = AreLines r.text

-- as many scripts as revisions, and what they add is bare
AreScripts : List Revision → List (List Change) → Type 0
AreScripts revisions scripts = (length revisions ≡ length scripts) × AllByRecursion PutsBare scripts

with_script : (n : ℕ) (r : Result (List Change) ℕ) (next : List Change → Result (List (List Change)) (ℕ × ℕ))
    (Q : List (List Change) → Type 0)
    → PutsOnlyBare r → ((c : List Change) → PutsBare c → IfOk (next c) Q) → IfOk (with_changes n r next) Q
unfolding PutsOnlyBare
with_script n (Ok changes) next Q bare more = more changes bare
with_script n (Err line) next Q bare more = tt

one_more : (r : Revision) (revisions : List Revision) (changes : List Change) (x : Result (List (List Change)) (ℕ × ℕ))
    → PutsBare changes → IfOk x (AreScripts revisions) → IfOk (then_scripts changes x) (AreScripts (r ∷ revisions))
unfolding AreScripts
one_more r revisions changes (Ok scripts) bare are = (ap suc are.0, (bare, are.1))
one_more r revisions changes (Err fault) bare are = tt

scripts_are : (n : ℕ) (text : List (List ℕ)) (revisions : List Revision) → AllByRecursion HasText revisions
    → IfOk (scripts_from n text revisions) (AreScripts revisions)
unfolding AreScripts HasText
scripts_are n text [] are = (refl, tt)
scripts_are n text (r ∷ revisions) are =
    with_script n (changes_of (length text) r.text) (λ changes. then_scripts changes
    (scripts_from (suc n) (revised changes text) revisions)) (AreScripts (r ∷ revisions))
    (script_bare (length text) r.text are.0)
    (λ changes bare. one_more r revisions changes (scripts_from (suc n) (revised changes text) revisions) bare
    (scripts_are (suc n) (revised changes text) revisions are.1))

-- the same of a trunk, whose head is a text
AreTrunkScripts : List Revision → List (List Change) → Type 0
AreTrunkScripts revisions scripts = (length revisions ≡ suc (length scripts)) × (AllByRecursion PutsBare scripts
    × AllByRecursion IsBareLine (head_text revisions))

head_more : (r : Revision) (revisions : List Revision) (x : Result (List (List Change)) (ℕ × ℕ))
    → AllByRecursion IsBareLine r.text → IfOk x (AreScripts revisions) → IfOk x (AreTrunkScripts (r ∷ revisions))
unfolding AreScripts AreTrunkScripts
head_more r revisions (Ok scripts) bare are = (ap suc are.0, (are.1, bare))
head_more r revisions (Err fault) bare are = tt

behind_are : (o : Option ℕ) (r : Revision) (revisions : List Revision) → first_with_soh 1 r.text ≡ o → AreLines r.text
    → AllByRecursion HasText revisions → IfOk (behind_head o r.text revisions) (AreTrunkScripts (r ∷ revisions))
behind_are None r revisions is are texts = head_more r revisions (scripts_from 2 r.text revisions)
    (bare_lines r.text are (none_with_soh 1 r.text is)) (scripts_are 2 r.text revisions texts)
behind_are (Some line) r revisions is are texts = tt

trunk_scripts_are : (revisions : List Revision) → 0 < length revisions → AllByRecursion HasText revisions
    → IfOk (trunk_scripts revisions) (AreTrunkScripts revisions)
unfolding HasText
trunk_scripts_are [] some are = absurd (omega (arith, some))
trunk_scripts_are (r ∷ revisions) some are = behind_are (first_with_soh 1 r.text) r revisions refl are.0 are.1

-- ---- revisions

-- a SID of the trunk, below another one
record IsOnTrunk (above : Option Sid) (sid : Sid) : Type 0 where
  is : IsSid sid
  trunk : sid.branch ≡ 0
  below : is_next above sid ≡ true

-- a revision, with a text, below another one
record IsRead (above : Option Sid) (r : Revision) : Type 0 where
  is : IsRevision r
  text : AreLines r.text
  below : is_next above r.sid ≡ true

sid_read : (above : Option Sid) (number : List ℕ) → IfSome (trunk_sid above number) (IsOnTrunk above)
sid_read above number =
    then_some IsSid (IsOnTrunk above) (found (sid_of number)) _ (found_so IsSid (sid_of number) (sid_is number))
    λ spelled is.
    then_some (λ (s : Sid). IsSid s × (s.branch ≡ 0)) (IsOnTrunk above) (on_trunk spelled) _
    (only_so (λ (s : Sid). IsSid s × (s.branch ≡ 0)) (spelled.branch == 0) spelled
    (λ zero_is. (is, eqb-true spelled.branch 0 zero_is))) λ sid both.
    only_so (IsOnTrunk above) (is_next above sid) sid (λ below. record { is = both.0; trunk = both.1; below = below })

no_sequence : (branch sequence : ℕ) → branch ≡ 0 → IsBranch branch sequence → sequence ≡ 0
no_sequence zero sequence is branch-is = branch-is
no_sequence (suc b) sequence is branch-is = absurd (omega (arith, is))

date_read : (date : List ℕ) → IfSome (date_of date) IsMoment
date_read date =
    then_any IsMoment (year_of (until dot date)) _ λ year.
    then_any IsMoment (behind dot date) _ λ rest.
    then_any IsMoment (pieces_of rest) _ λ pieces. either IsMoment _ _ None (found_so IsMoment (moment_of _ _)
    (moment_is _ _)) tt

-- what is read of a revision, and the number of the next
AreRead : Option Sid → Revision × Option (List ℕ) → Type 0
AreRead above x = IsRead above x.0

facts_read : (above : Option Sid) (number : List ℕ) (file : RcsFile) → IfSome (facts_of above number file)
    (λ f. IsOnTrunk above f.sid)
facts_read above number file =
    then_any (λ (f : Facts). IsOnTrunk above f.sid) (one_named (λ (e : RcsEntry). e.number) number file.entries) _
    λ entry.
    then_any (λ (f : Facts). IsOnTrunk above f.sid) (one_named (λ (t : DeltaText). t.number) number file.texts) _
    λ text.
    then_some (IsOnTrunk above) (λ (f : Facts). IsOnTrunk above f.sid) (trunk_sid above number) _
    (sid_read above number) λ sid on.
    then_any (λ (f : Facts). IsOnTrunk above f.sid) (fields_of entry.phrases) _ λ fields. on

by_facts : (above : Option Sid) (f : Facts) → IsOnTrunk above f.sid → IfSome (revision_by f) (AreRead above)
unfolding AreRead
by_facts above f on =
    then_some IsMoment (AreRead above) (date_of f.fields.date) _ (date_read f.fields.date) λ moment moment-is.
    then_some IsLogin (AreRead above) (only (is_login f.fields.author) f.fields.author) _
    (only_so IsLogin (is_login f.fields.author) f.fields.author (λ is. (login_decides f.fields.author).0 is))
    λ login login-is.
    record {
      is = record {
        sid = on.is;
        trunk = (on.trunk, no_sequence f.sid.branch f.sid.sequence on.trunk on.is.branch);
        moment = moment-is;
        login = login-is;
        log = log_lines (lines_in f.log) (lines_are f.log);
      };
      text = lines_are f.text;
      below = on.below;
    }

revision_read : (above : Option Sid) (number : List ℕ) (file : RcsFile) → IfSome (revision_of above number file)
    (AreRead above)
revision_read above number file =
    then_some (λ (f : Facts). IsOnTrunk above f.sid) (AreRead above) (facts_of above number file) _
    (facts_read above number file) λ facts on. by_facts above facts on

FallsBelow : Option Sid → List Revision → Type 0
FallsBelow None revisions = AreFalling revisions
FallsBelow (Some sid) revisions = sids_fall sid revisions ≡ true

-- so many revisions at most, whose SIDs fall
record AreWalked (most : ℕ) (above : Option Sid) (revisions : List Revision) : Type 0 where
  each : AllByRecursion IsRevision revisions
  texts : AllByRecursion HasText revisions
  falls : FallsBelow above revisions
  few : length revisions ≤ most

none_walked : (most : ℕ) (above : Option Sid) → AreWalked most above []
unfolding FallsBelow
none_walked most None = record { each = tt; texts = tt; falls = tt; few = omega arith }
none_walked most (Some sid) = record { each = tt; texts = tt; falls = refl; few = omega arith }

falls_on : (above : Option Sid) (r : Revision) (revisions : List Revision) → is_next above r.sid ≡ true
    → FallsBelow (Some r.sid) revisions → FallsBelow above (r ∷ revisions)
unfolding FallsBelow
falls_on None r revisions below falls = falls
falls_on (Some sid) r revisions below falls = and_from (is_below r.sid sid) (sids_fall r.sid revisions) below falls

one_walked : (most : ℕ) (above : Option Sid) (r : Revision) (x : Result (List Revision) ℕ) → IsRead above r
    → IfOk x (AreWalked most (Some r.sid)) → IfOk (with_revision r x) (AreWalked (suc most) above)
unfolding HasText
one_walked most above r (Ok revisions) is walked =
    record {
      each = (is.is, walked.each);
      texts = (is.text, walked.texts);
      falls =
          falls_on above r revisions is.below walked.falls;
      few = omega (arith, walked.few);
    }
one_walked most above r (Err n) is walked = tt

then_walked : (most n : ℕ) (above : Option Sid) (o : Option (Revision × Option (List ℕ))) (more : Sid → Option (List ℕ)
    → Result (List Revision) ℕ) → IfSome o (AreRead above)
    → ((sid : Sid) (next : Option (List ℕ)) → IfOk (more sid next) (AreWalked most (Some sid)))
    → IfOk (then_revisions n o more) (AreWalked (suc most) above)
unfolding AreRead
then_walked most n above None more is walked = tt
then_walked most n above (Some (r, next)) more is walked = one_walked most above r (more r.sid next) is
    (walked r.sid next)

walk : (most n : ℕ) (above : Option Sid) (next : Option (List ℕ)) (file : RcsFile)
    → IfOk (revisions_from most n above next file) (AreWalked most above)
walk zero n above None file = none_walked 0 above
walk (suc most) n above None file = none_walked (suc most) above
walk zero n above (Some number) file = tt
walk (suc most) n above (Some number) file =
    then_walked most n above (revision_of above number file) (λ sid next. revisions_from most (suc n)
    (Some sid) next file) (revision_read above number file)
    (λ sid next. walk most (suc n) (Some sid) next file)

some_with : (r : Revision) (x : Result (List Revision) ℕ) → IfOk (with_revision r x) (λ revisions. 0 < length revisions)
some_with r (Ok revisions) = omega arith
some_with r (Err n) = tt

some_then : (n : ℕ) (o : Option (Revision × Option (List ℕ))) (more : Sid → Option (List ℕ) → Result (List Revision) ℕ)
    → IfOk (then_revisions n o more) (λ revisions. 0 < length revisions)
some_then n None more = tt
some_then n (Some (r, next)) more = some_with r (more r.sid next)

some_walked : (most n : ℕ) (above : Option Sid) (number : List ℕ) (file : RcsFile)
    → IfOk (revisions_from most n above (Some number) file) (λ revisions. 0 < length revisions)
some_walked zero n above number file = tt
some_walked (suc most) n above number file = some_then n (revision_of above number file)
    (λ sid next. revisions_from most (suc n) (Some sid) next file)

-- those of a trunk
record AreRevisions (revisions : List Revision) : Type 0 where
  some : 0 < length revisions
  walked : AreWalked most_revisions None revisions

both_are : (x : Result (List Revision) ℕ) → IfOk x (λ revisions. 0 < length revisions)
    → IfOk x (AreWalked most_revisions None) → IfOk x AreRevisions
both_are (Ok revisions) some walked = record { some = some; walked = walked }
both_are (Err n) some walked = tt

at_head : (o : Option (List ℕ)) (file : RcsFile) → IfOk (revisions_at o file) AreRevisions
at_head None file = tt
at_head (Some number) file = both_are (revisions_from most_revisions 1 None (Some number) file)
    (some_walked most_revisions 1 None number file) (walk most_revisions 1 None (Some number) file)

-- ---- the whole file

IsReadTrunk : Rcs → Type 0
IsReadTrunk rcs = IsTrunk rcs.revisions rcs.description (head_text rcs.revisions) (scripts_of rcs.revisions)
    × (trunk_scripts rcs.revisions ≡ Ok (scripts_of rcs.revisions))

with_scripts : (description : List (List ℕ)) (revisions : List Revision) (x : Result (List (List Change)) (ℕ × ℕ))
    → trunk_scripts revisions ≡ x → AreLines description → AreBare description
    → AreRevisions revisions → IfOk x (AreTrunkScripts revisions) → IfOk (rcs_with description revisions x) IsReadTrunk
unfolding IsReadTrunk AreTrunkScripts FallsBelow
with_scripts description revisions (Ok scripts) is lines bare are scripts-are =
    subst (λ (x : Result (List (List Change)) (ℕ × ℕ)). IsTrunk revisions description (head_text revisions) (or_none x)
    × (trunk_scripts revisions ≡ Ok (or_none x))) (sym is) (
      record {
        some = are.some;
        few = omega (arith, are.walked.few);
        scripts_are = scripts-are.0;
        each = are.walked.each;
        sids = are.walked.falls;
        about = (lines, bare);
        first_text = scripts-are.1.1;
        others = scripts-are.1.0;
      },
      is,
    )
with_scripts description revisions (Err (n, line)) is lines bare are scripts-are = tt

with_trunk : (description : List (List ℕ)) (x : Result (List Revision) ℕ) → AreLines description → AreBare description
    → IfOk x AreRevisions → IfOk (rcs_by description x) IsReadTrunk
with_trunk description (Ok revisions) lines bare are = with_scripts description revisions (trunk_scripts revisions) refl
    lines bare are (trunk_scripts_are revisions are.some are.walked.texts)
with_trunk description (Err n) lines bare are = tt

with_description : (description : List (List ℕ)) (o : Option ℕ) (file : RcsFile) → first_with_soh 1 description ≡ o
    → AreLines description → IfOk (rcs_about description o file) IsReadTrunk
with_description description (Some line) file is lines = tt
with_description description None file is lines = with_trunk description (trunk_of file) lines
    (none_with_soh 1 description is) (at_head (head_of file) file)

with_file : (bytes : List ℕ) (x : Result RcsFile ℕ) → IfOk (rcs_at bytes x) IsReadTrunk
with_file bytes (Ok file) = with_description (lines_in file.description) (first_with_soh 1 (lines_in file.description))
    file refl (lines_are file.description)
with_file bytes (Err left) = tt

ok_is : (r : Result Rcs RcsFault) (rcs : Rcs) → r ≡ Ok rcs → IfOk r IsReadTrunk → IsReadTrunk rcs
ok_is (Ok found) rcs is are = let same : found ≡ rcs = cc in subst IsReadTrunk same are
ok_is (Err fault) rcs is are = cc

pub is_trunk : (bytes : List ℕ) (rcs : Rcs) → rcs_read bytes ≡ Ok rcs → IsTrunk rcs.revisions rcs.description
    (head_text rcs.revisions) (scripts_of rcs.revisions)
unfolding IsReadTrunk
is_trunk bytes rcs is = (ok_is (rcs_read bytes) rcs is (with_file bytes (file_of bytes))).0

pub are_scripts : (bytes : List ℕ) (rcs : Rcs) → rcs_read bytes ≡ Ok rcs → trunk_scripts rcs.revisions ≡ Ok
    (scripts_of rcs.revisions)
unfolding IsReadTrunk
are_scripts bytes rcs is = (ok_is (rcs_read bytes) rcs is (with_file bytes (file_of bytes))).1
