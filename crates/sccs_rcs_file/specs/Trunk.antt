-- The trunk of an RCS file: the revisions from the one that `head` names on, each by `next` of the one before.
use Rattle.std.specs.Prelude.{◌-◌, ◌≡◌, ℕ, zero, suc, ◌+◌, ◌%◌, ◌==◌, nat_le, Bool, true, ◌&&◌, List, [], ◌∷◌, ◌++◌}
use Rattle.std.specs.Prelude.{length, codes, Option, None, Some, option_map, option_and_then, Result, Ok, Err}
use Rattle.std.specs.Prelude.{if◌then◌else◌}
use Rattle.sccs_base.specs.Cut.{text_of}
use Rattle.sccs_base.specs.Login.{is_login}
use Rattle.sccs_sid.specs.Moment.{moment_of, two}
use Rattle.sccs_sid.specs.Reading.{behind, number, only, until}
use Rattle.sccs_sid.specs.Sid.{sid_of}
use Rattle.sccs_sid.specs.Words.{◌>>=◌, found}
use Rattle.sccs_sid.specs.declared.moments.Moment.{Moment}
use Rattle.sccs_sid.specs.declared.sids.Sid.{Sid}
use Rattle.sccs_rcs_file.specs.Forms.{DeltaText, RcsEntry, Phrase, RcsFile}
use Rattle.sccs_rcs_file.specs.Lookups.{one_named}
use Rattle.sccs_rcs_file.specs.Reading.{file_of}
use Rattle.sccs_rcs_file.specs.declared.faults.RcsFault.{RcsFault}
use Rattle.sccs_rcs_file.specs.declared.faults.RcsFault.TheVariants.{BadRcs, BadRevision, RcsScript, Memory}
use Rattle.sccs_rcs_file.specs.TokenValues.{Token, Number, Word}
use Rattle.sccs_rcs_file.specs.Tokens.{at_sign, dot}
use Rattle.sccs_trunks.specs.Changes.{Change}
use Rattle.sccs_trunks.specs.TrunkHistories.{first_with_soh, is_below, trunk_scripts}
use Rattle.sccs_trunks.specs.declared.revisions.Rcs.{Rcs}
use Rattle.sccs_trunks.specs.declared.revisions.Revision.{Revision}

-- ---- texts

-- the bytes of a string, each doubled at sign once
abbrev pub unquoted : List ℕ → List ℕ
unquoted [] = []
unquoted (b ∷ []) = b ∷ []
unquoted (b ∷ c ∷ bytes) = if b == at_sign then b ∷ unquoted bytes else b ∷ unquoted (c ∷ bytes)

abbrev pub lines_in : List ℕ → List (List ℕ)
lines_in raw = text_of (unquoted raw)

-- a log without lines is one empty line
abbrev pub or_empty_line : List (List ℕ) → List (List ℕ)
or_empty_line [] = [] ∷ []
or_empty_line (line ∷ lines) = line ∷ lines

-- ---- phrases

-- what stands in the one phrase of a name
abbrev pub inside_of : List ℕ → List Phrase → Option (List Token)
inside_of name phrases = option_map (λ (p : Phrase). p.inside) (one_named (λ (p : Phrase). p.name) name phrases)

-- one number, one word, and at most one number
abbrev pub one_number : List Token → Option (List ℕ)
one_number (Number number ∷ []) = Some number
one_number _ = None

abbrev pub one_word : List Token → Option (List ℕ)
one_word (Number word ∷ []) = Some word
one_word (Word word ∷ []) = Some word
one_word _ = None

abbrev pub at_most_one : List Token → Option (Option (List ℕ))
at_most_one [] = Some None
at_most_one (Number number ∷ []) = Some (Some number)
at_most_one _ = None

-- ---- dates

-- a year of two digits is 1900 and more, one of four digits is whole
abbrev pub year_of : List ℕ → Option ℕ
year_of piece =
    if length piece == 2 then option_map (λ y. 1900 + y) (number 2 piece)
    else if length piece == 4 then number 4 piece else None

-- The pieces of a date behind its year.
pub record DatePieces : Type 0 where
  pub month : List ℕ
  pub day : List ℕ
  pub hour : List ℕ
  pub minute : List ℕ
  pub second : List ℕ

-- the moment of a year of 1969 to 2068 and the pieces behind it, which are read as those of an s-file's date are
abbrev pub moment_in : ℕ → DatePieces → Option Moment
moment_in year p =
    if nat_le 1969 year && nat_le year 2068
    then found (moment_of (two (year % 100) ++ (47 ∷ p.month ++ (47 ∷ p.day)))
    (p.hour ++ (58 ∷ p.minute ++ (58 ∷ p.second))))
    else None

-- the pieces of `M.D.h.m.s`
abbrev pub pieces_of : List ℕ → Option DatePieces
pieces_of bytes = do
  from_day ← behind dot bytes
  from_hour ← behind dot from_day
  from_minute ← behind dot from_hour
  second ← behind dot from_minute
  Some (record {
    month = until dot bytes;
    day = until dot from_day;
    hour = until dot from_hour;
    minute =
        until dot from_minute;
    second = second;
  })

-- the moment of a date `Y.M.D.h.m.s`
abbrev pub date_of : List ℕ → Option Moment
date_of date = do
  year ← year_of (until dot date)
  rest ← behind dot date
  pieces ← pieces_of rest
  moment_in year pieces

-- ---- revisions

-- a SID of the trunk, below the one of the revision before it
abbrev pub on_trunk : Sid → Option Sid
on_trunk sid = only (sid.branch == 0) sid

abbrev pub is_next : Option Sid → Sid → Bool
is_next None sid = true
is_next (Some above) sid = is_below sid above

abbrev pub trunk_sid : Option Sid → List ℕ → Option Sid
trunk_sid above number = do
  spelled ← found (sid_of number)
  sid ← on_trunk spelled
  only (is_next above sid) sid

-- What an entry says: its date and author as they are written, and the number of the next revision, if one is named.
pub record EntryFields : Type 0 where
  pub date : List ℕ
  pub author : List ℕ
  pub next : Option (List ℕ)

abbrev pub fields_of : List Phrase → Option EntryFields
fields_of phrases = do
  in_date ← inside_of (codes "date") phrases
  date ← one_number in_date
  in_author ← inside_of (codes "author") phrases
  author ← one_word in_author
  in_next ← inside_of (codes "next") phrases
  next ← at_most_one in_next
  Some (record { date = date; author = author; next = next })

-- What a file says of a revision: its SID, what its entry says, and its log and text as they stand in the file.
pub record Facts : Type 0 where
  pub sid : Sid
  pub fields : EntryFields
  pub log : List ℕ
  pub text : List ℕ

-- those of a number that has one entry and one text
abbrev pub facts_of : Option Sid → List ℕ → RcsFile → Option Facts
facts_of above number file = do
  entry ← one_named (λ (e : RcsEntry). e.number) number file.entries
  text ← one_named (λ (t : DeltaText). t.number) number file.texts
  sid ← trunk_sid above number
  fields ← fields_of entry.phrases
  Some (record { sid = sid; fields = fields; log = text.log; text = text.text })

-- the revision, where the date is a moment and the author a login
abbrev pub revision_by : Facts → Option (Revision × Option (List ℕ))
revision_by f = do
  moment ← date_of f.fields.date
  login ← only (is_login f.fields.author) f.fields.author
  Some (
    record {
      sid = f.sid;
      moment = moment;
      login = login;
      log = or_empty_line (lines_in f.log);
      text =
          lines_in f.text;
    },
    f.fields.next,
  )

-- the revision of a number, and the number of the next one
abbrev pub revision_of : Option Sid → List ℕ → RcsFile → Option (Revision × Option (List ℕ))
revision_of above number file = do
  facts ← facts_of above number file
  revision_by facts

abbrev pub with_revision : Revision → Result (List Revision) ℕ → Result (List Revision) ℕ
with_revision r (Ok revisions) = Ok (r ∷ revisions)
with_revision r (Err n) = Err n

abbrev pub then_revisions : ℕ → Option (Revision × Option (List ℕ)) → (Sid → Option (List ℕ) → Result (List Revision) ℕ)
    → Result (List Revision) ℕ
then_revisions n None more = Err n
then_revisions n (Some (r, next)) more = with_revision r (more r.sid next)

-- the revisions from the n-th on, of which at most so many may come, or the number of the first that is unfit
abbrev pub revisions_from : ℕ → ℕ → Option Sid → Option (List ℕ) → RcsFile → Result (List Revision) ℕ
revisions_from most n above None file = Ok []
revisions_from zero n above (Some number) file = Err n
revisions_from (suc most) n above (Some number) file =
    then_revisions n (revision_of above number file) (λ sid next. revisions_from most (suc n) (Some sid) next file)

abbrev pub most_revisions : ℕ
most_revisions = 65535

-- the number of the head
abbrev pub head_of : RcsFile → Option (List ℕ)
head_of file = option_and_then one_number (inside_of (codes "head") file.head)

abbrev pub revisions_at : Option (List ℕ) → RcsFile → Result (List Revision) ℕ
revisions_at None file = Err 1
revisions_at (Some number) file = revisions_from most_revisions 1 None (Some number) file

abbrev pub trunk_of : RcsFile → Result (List Revision) ℕ
trunk_of file = revisions_at (head_of file) file

-- revisions that came before others, and the first unfit one among those
abbrev pub with_all : List Revision → Result (List Revision) ℕ → Result (List Revision) ℕ
with_all came (Ok revisions) = Ok (came ++ revisions)
with_all came (Err n) = Err n

-- ---- the whole file

-- the trunk with its description, or the first line of a text at fault
abbrev pub rcs_with : List (List ℕ) → List Revision → Result (List (List Change)) (ℕ × ℕ) → Result Rcs RcsFault
rcs_with description revisions (Ok scripts) = Ok (record { revisions = revisions; description = description })
rcs_with description revisions (Err (n, line)) = Err (RcsScript n line)

-- a revision that is unfit comes before all texts
abbrev pub rcs_by : List (List ℕ) → Result (List Revision) ℕ → Result Rcs RcsFault
rcs_by description (Err n) = Err (BadRevision n)
rcs_by description (Ok revisions) = rcs_with description revisions (trunk_scripts revisions)

-- and a description that can't stand in an s-file before all revisions
abbrev pub rcs_about : List (List ℕ) → Option ℕ → RcsFile → Result Rcs RcsFault
rcs_about description (Some line) file = Err (BadRevision 0)
rcs_about description None file = rcs_by description (trunk_of file)

abbrev pub rcs_of : RcsFile → Result Rcs RcsFault
rcs_of file = rcs_about (lines_in file.description) (first_with_soh 1 (lines_in file.description)) file

abbrev pub rcs_at : List ℕ → Result RcsFile ℕ → Result Rcs RcsFault
rcs_at bytes (Ok file) = rcs_of file
rcs_at bytes (Err left) = Err (BadRcs (suc (length bytes) - left))

-- the trunk that bytes are, or what is at fault with them
abbrev pub rcs_read : List ℕ → Result Rcs RcsFault
rcs_read bytes = rcs_at bytes (file_of bytes)

-- an answer that is what reading gives, or that there was no memory
abbrev pub ReadsRcs : Result Rcs RcsFault → Result Rcs RcsFault → Type 0
ReadsRcs (Err Memory) read = Unit {0}
ReadsRcs (Err (BadRcs byte)) read = read ≡ Err (BadRcs byte)
ReadsRcs (Err (BadRevision n)) read = read ≡ Err (BadRevision n)
ReadsRcs (Err (RcsScript n line)) read = read ≡ Err (RcsScript n line)
ReadsRcs (Ok rcs) read = read ≡ Ok rcs

-- the same of the revisions alone
abbrev pub ReadsTrunk : Result (List Revision) RcsFault → Result (List Revision) ℕ → Type 0
ReadsTrunk (Ok revisions) read = read ≡ Ok revisions
ReadsTrunk (Err Memory) read = Unit {0}
ReadsTrunk (Err (BadRevision n)) read = read ≡ Err n
ReadsTrunk (Err (BadRcs byte)) read = ⊥
ReadsTrunk (Err (RcsScript n line)) read = ⊥
