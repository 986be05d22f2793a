-- What one line of an s-file says, by itself. A line that says nothing has no spelling anywhere.
use Rattle.std.specs.Prelude.{ℕ, ◌==◌, Bool, true, false, not, ◌&&◌, ◌||◌, List, [], ◌∷◌, Option, Some, None}
use Rattle.std.specs.Prelude.{option_map, nat_lt, if◌then◌else◌}
use Rattle.sccs_base.specs.Login.{is_login}
use Rattle.sccs_sid.specs.Reading.{only, number, skip}
use Rattle.sccs_sid.specs.Sid.{sid_of}
use Rattle.sccs_sid.specs.Moment.{moment_of}
use Rattle.sccs_history.specs.Numbers.{is_empty}
use Rattle.sccs_sid.specs.Words.{◌>>=◌, one, found, begins_blank, ends_blank, skip_blanks, drop_blanks, words, three}
use Rattle.sccs_tokens.specs.declared.line_tokens.LineToken.{LineToken}
use Rattle.sccs_tokens.specs.declared.line_tokens.LineToken.TheVariants.{Counts, Delta, Listed, Mr, Comment, EndEntry}
use Rattle.sccs_tokens.specs.declared.line_tokens.LineToken.TheVariants.{Users, EndUsers, FlagIs, Description}
use Rattle.sccs_tokens.specs.declared.line_tokens.LineToken.TheVariants.{EndDescription, Insert, Delete, End, Plain}
use Rattle.sccs_tokens.specs.declared.line_tokens.ListKind.TheVariants.{Included, Excluded, Ignored}

-- 1 to 65535, in one to five digits
unfoldable pub serial : List ℕ → Option ℕ
serial word = do
  n ← number 5 word
  only (nat_lt 0 n && nat_lt n 65536) n

-- the same or 0
unfoldable pub predecessor : List ℕ → Option ℕ
predecessor word = do
  n ← number 5 word
  only (nat_lt n 65536) n

-- D for a delta that lives, R for a removed one
abbrev pub is_removed : List ℕ → Option Bool
is_removed [] = None
is_removed (letter ∷ []) = if letter == 68 then Some false else only (letter == 82) true
is_removed (letter ∷ c ∷ word) = None

-- a record without lists, MRs, comments and counts, of its seven words
unfoldable pub delta_of : List ℕ → List ℕ → List ℕ → List ℕ → List ℕ → List ℕ → List ℕ → Option LineToken
delta_of kind sid date time login own before = do
  removed ← is_removed kind
  s ← found (sid_of sid)
  m ← found (moment_of date time)
  who ← only (is_login login) login
  n ← serial own
  p ← predecessor before
  Some (Delta (record {
    serial = n;
    removed = removed;
    sid = s;
    moment = m;
    login = who;
    predecessor = p;
    include = [];
    exclude = [];
    ignore = [];
    mrs = [];
    comments = [];
    inserted = 0;
    deleted = 0;
    unchanged = 0;
  }))

-- the words, where there are seven
abbrev pub exactly_seven : List (List ℕ) → Option (List (List ℕ))
exactly_seven (a ∷ b ∷ c ∷ d ∷ e ∷ f ∷ g ∷ []) = Some (a ∷ b ∷ c ∷ d ∷ e ∷ f ∷ g ∷ [])
exactly_seven _ = None

abbrev pub delta_token : List (List ℕ) → Option LineToken
delta_token (kind ∷ sid ∷ date ∷ time ∷ login ∷ own ∷ before ∷ []) = delta_of kind sid date time login own before
delta_token _ = None

-- a word of lines inserted, deleted and unchanged
unfoldable pub count_token : List (List ℕ) → Option LineToken
count_token ws = do
  word ← one ws
  n ← three 5 47 word
  Some (Counts n.0 n.1 n.2)

-- a serial without zeros in front
abbrev pub plain_serial : List ℕ → Option ℕ
plain_serial [] = None
plain_serial (b ∷ word) = if b == 48 then None else serial (b ∷ word)

-- all the words are serials
unfoldable pub serials : List (List ℕ) → Option (List ℕ)
serials [] = Some []
serials (word ∷ others) = do
  n ← plain_serial word
  ns ← serials others
  Some (n ∷ ns)

-- behind blanks, and without blanks at the end
abbrev pub is_set_off : List ℕ → Bool
is_set_off bytes = begins_blank bytes && not (ends_blank bytes)

-- serials, each behind blanks; or blanks or nothing
unfoldable pub listed : List ℕ → Option (List ℕ)
listed bytes = if is_empty (skip_blanks bytes) then Some [] else if is_set_off bytes then serials (words bytes)
    else None

-- a text behind one blank, or no text
abbrev pub text : List ℕ → Option (List ℕ)
text [] = Some []
text (b ∷ bytes) = only (b == 32) bytes

-- a letter, and behind blanks its text, without blanks at the end
abbrev pub flag : List ℕ → Option LineToken
flag [] = None
flag (letter ∷ bytes) = only (is_empty bytes || begins_blank bytes)
    (FlagIs (record { letter = letter; text = drop_blanks (skip_blanks bytes) }))

-- without the zeros in front
abbrev pub drop_zeros : List ℕ → List ℕ
drop_zeros bytes = skip (λ b. b == 48) bytes

abbrev pub padded_serial : List (List ℕ) → Option ℕ
padded_serial ws = do
  word ← one ws
  serial (drop_zeros word)

-- one serial behind blanks, with any zeros in front
unfoldable pub serial_field : List ℕ → Option ℕ
serial_field bytes = if is_set_off bytes then padded_serial (words bytes) else None

-- what follows SOH and a letter in a body
abbrev pub body_control : ℕ → List ℕ → Option LineToken
body_control letter bytes =
    if letter == 73 then option_map Insert (serial_field bytes)
    else if letter == 68 then option_map Delete (serial_field bytes)
    else if letter == 69 then option_map End (serial_field bytes)
    else None

-- the same among users, flags and description, or in a body
abbrev pub part_control : ℕ → List ℕ → Option LineToken
part_control letter bytes =
    if letter == 117 then only (is_empty bytes) Users
    else if letter == 85 then only (is_empty bytes) EndUsers
    else if letter == 102 then (if begins_blank bytes then flag (skip_blanks bytes) else None)
    else if letter == 116 then only (is_empty bytes) Description
    else if letter == 84 then only (is_empty bytes) EndDescription
    else body_control letter bytes

-- the same in a delta table, or behind it
unfoldable pub control : ℕ → List ℕ → Option LineToken
control letter bytes =
    if letter == 115 then (if is_set_off bytes then count_token (words bytes) else None)
    else if letter == 100 then (if begins_blank bytes then delta_token (words bytes) else None)
    else if letter == 105 then option_map (Listed Included) (listed bytes)
    else if letter == 120 then option_map (Listed Excluded) (listed bytes)
    else if letter == 103 then option_map (Listed Ignored) (listed bytes)
    else if letter == 109 then option_map Mr (text bytes)
    else if letter == 99 then option_map Comment (text bytes)
    else if letter == 101 then only (is_empty bytes) EndEntry
    else part_control letter bytes

abbrev pub behind_soh : List ℕ → Option LineToken
behind_soh [] = None
behind_soh (letter ∷ bytes) = control letter bytes

-- what a line says: a control line begins with SOH and a letter
unfoldable pub token : List ℕ → Option LineToken
token [] = Some (Plain [])
token (b ∷ bytes) = if b == 1 then behind_soh bytes else Some (Plain (b ∷ bytes))
