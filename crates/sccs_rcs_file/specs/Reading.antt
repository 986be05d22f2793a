-- The reading of an RCS file, token by token: where it stands and what was read, and the first token that can't come.
use Rattle.std.specs.Prelude.{◌≡◌, ℕ, suc, ◌-◌, length, Bool, true, false, List, [], ◌∷◌, ◌++◌, codes, Option, None}
use Rattle.std.specs.Prelude.{Some, Result, Ok, Err, if◌then◌else◌}
use Rattle.std.specs.Str.{bytes_eq}
use Rattle.sccs_rcs_file.specs.Forms.{Phrase, RcsFile}
use Rattle.sccs_rcs_file.specs.TokenValues.{Token, Number, Word, Quoted, Semicolon}
use Rattle.sccs_rcs_file.specs.Tokens.{Lexeme, lexemes}
use Rattle.sccs_rcs_file.specs.declared.faults.RcsFault.{RcsFault}
use Rattle.sccs_rcs_file.specs.declared.faults.RcsFault.TheVariants.{BadRcs, BadRevision, RcsScript, Memory}
use Rattle.sccs_rcs_file.specs.declared.places.Place.{Place}
use Rattle.sccs_rcs_file.specs.declared.places.Place.TheVariants.{HeadPhrases, HeadPhrase, EntryPhrases, EntryPhrase}
use Rattle.sccs_rcs_file.specs.declared.places.Place.TheVariants.{Description, Texts, Log, LogText, TextPhrases}
use Rattle.sccs_rcs_file.specs.declared.places.Place.TheVariants.{TextPhrase, Text}

-- Where reading stands, what was read of the file, and what of an entry, a text and a phrase that aren't ended yet.
pub record State : Type 0 where
  pub place : Place
  pub file : RcsFile
  pub number : List ℕ
  pub log : List ℕ
  pub phrases : List Phrase
  pub name : List ℕ
  pub inside : List Token

abbrev pub no_file : RcsFile
no_file = record { head = []; entries = []; description = []; texts = [] }

abbrev pub start : State
start = record { place = HeadPhrases; file = no_file; number = []; log = []; phrases = []; name = []; inside = [] }

-- a phrase is begun
abbrev pub opened : Place → List ℕ → State → State
opened place word s = record s { place = place; name = word; inside = [] }

-- a token of a phrase, or the semicolon that ends it
abbrev pub in_phrase : Place → State → Token → Option State
in_phrase place s Semicolon =
    Some (record s {
      place = place;
      phrases = s.phrases ++ record { name = s.name; inside = s.inside } ∷ [];
      inside =
          [];
    })
in_phrase place s token = Some (record s { inside = s.inside ++ token ∷ [] })

-- the phrases of the head are ended, or those of an entry, or a text
abbrev pub with_head : State → RcsFile
with_head s = record s.file { head = s.phrases }

abbrev pub with_entry : State → RcsFile
with_entry s = record s.file { entries = s.file.entries ++ record { number = s.number; phrases = s.phrases } ∷ [] }

abbrev pub with_text : List ℕ → State → RcsFile
with_text raw s = record s.file {
  texts = s.file.texts ++ record {
    number = s.number;
    log = s.log;
    phrases = s.phrases;
    text = raw;
  } ∷ [];
}

-- an entry is begun, or the description comes
abbrev pub entry_begun : RcsFile → List ℕ → State → State
entry_begun file number s = record s { place = EntryPhrases; file = file; number = number; phrases = [] }

abbrev pub description_next : RcsFile → State → State
description_next file s = record s { place = Description; file = file; phrases = [] }

-- what a token does where phrases of the head or of an entry may come, by the file with those that came
abbrev pub between : RcsFile → Place → State → Token → Option State
between file place s (Word word) = Some (if bytes_eq word (codes "desc") then description_next file s
    else opened place word s)
between file place s (Number number) = Some (entry_begun file number s)
between file place s token = None

-- what a token does behind those that were read
abbrev pub step_at : Place → State → Token → Option State
step_at HeadPhrases s token = between (with_head s) HeadPhrase s token
step_at HeadPhrase s token = in_phrase HeadPhrases s token
step_at EntryPhrases s token = between (with_entry s) EntryPhrase s token
step_at EntryPhrase s token = in_phrase EntryPhrases s token
step_at Description s (Quoted raw) = Some (record s { place = Texts; file = record s.file { description = raw } })
step_at Texts s (Number number) = Some (record s { place = Log; number = number })
step_at Log s (Word word) = if bytes_eq word (codes "log") then Some (record s { place = LogText }) else None
step_at LogText s (Quoted raw) = Some (record s { place = TextPhrases; log = raw; phrases = [] })
step_at TextPhrases s (Word word) = Some (if bytes_eq word (codes "text") then record s { place = Text }
    else opened TextPhrase word s)
step_at TextPhrase s token = in_phrase TextPhrases s token
step_at Text s (Quoted raw) = Some (record s { place = Texts; file = with_text raw s; phrases = [] })
step_at place s token = None

abbrev pub step : State → Token → Option State
step s token = step_at s.place s token

-- whether a file may end there
abbrev pub is_end : Place → Bool
is_end Texts = true
is_end _ = false

abbrev pub by_state : ℕ → Option State → (State → Result RcsFile ℕ) → Result RcsFile ℕ
by_state left None next = Err left
by_state left (Some s) next = next s

abbrev pub by_token : State → Lexeme → Option Token → (State → Result RcsFile ℕ) → Result RcsFile ℕ
by_token s l None next = Err l.left
by_token s l (Some token) next = by_state l.left (step s token) next

-- the file that tokens make behind those that were read, or how many bytes are left with the first that can't come
abbrev pub read_on : State → List Lexeme → Result RcsFile ℕ
read_on s [] = if is_end s.place then Ok s.file else Err 0
read_on s (l ∷ rest) = by_token s l l.token (λ next. read_on next rest)

-- the file that bytes are
abbrev pub file_of : List ℕ → Result RcsFile ℕ
file_of bytes = read_on start (lexemes bytes)

-- how a call stands to the state behind a token: it answers whether the token can come
abbrev pub Steps : Bool → Option State → State → Type 0
Steps true expected new = expected ≡ Some new
Steps false expected new = expected ≡ None

-- whether one string or word alone can come
abbrev pub is_part : Place → Bool
is_part Description = true
is_part Texts = true
is_part Log = true
is_part LogText = true
is_part Text = true
is_part _ = false

-- How an answer stands to what reading gives: a fault is told by its byte, from 1; want of memory says nothing.
abbrev pub AnswersRead : List ℕ → Result RcsFile ℕ → Result RcsFile RcsFault → Type 0
AnswersRead bytes read (Ok file) = read ≡ Ok file
AnswersRead bytes read (Err (BadRcs byte)) = (left : ℕ) × ((read ≡ Err left) × (byte ≡ suc (length bytes) - left))
AnswersRead bytes read (Err Memory) = Unit {0}
AnswersRead bytes read (Err (BadRevision n)) = ⊥
AnswersRead bytes read (Err (RcsScript n line)) = ⊥

abbrev pub Reads : List ℕ → Result RcsFile RcsFault → Type 0
Reads bytes answer = AnswersRead bytes (file_of bytes) answer
