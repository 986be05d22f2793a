-- The lines of a header, in order: what may stand next, and the first line at which nothing goes on.
use Rattle.std.specs.Prelude.{◌≡◌, ℕ, suc, Bool, true, false, not, ◌&&◌, ◌||◌, List, [], ◌∷◌, ◌++◌, Result, Ok, Err}
use Rattle.std.specs.Prelude.{Option, Some, None, nat_lt, if◌then◌else◌}
use Rattle.std.specs.List.{list_all}
use Rattle.sccs_sid.specs.Reading.{◌>>=◌}
use Rattle.sccs_history.specs.Numbers.{is_empty, has, share}
use Rattle.sccs_history.specs.Applied.{serials_of}
use Rattle.sccs_history.specs.FlagText.{fits_letter}
use Rattle.sccs_history.specs.History.{lives, is_letter, is_new}
use Rattle.sccs_history.specs.declared.headers.Record.{Record}
use Rattle.sccs_history.specs.declared.headers.Flag.{Flag}
use Rattle.sccs_history.specs.declared.headers.Header.{Header}
use Rattle.sccs_grammar.specs.Entries.{Entries, no_entries, with_entry}
use Rattle.sccs_tokens.specs.Tokens.{token}
use Rattle.sccs_grammar.specs.declared.header_parsers.FrontFault.{FrontFault}
use Rattle.sccs_grammar.specs.declared.header_parsers.FrontFault.TheVariants.{Format, Memory}
use Rattle.sccs_grammar.specs.declared.header_parsers.TableEntry.{TableEntry}
use Rattle.sccs_grammar.specs.declared.header_parsers.ListsSeen.{ListsSeen}
use Rattle.sccs_grammar.specs.declared.header_parsers.PartialHeader.{PartialHeader}
use Rattle.sccs_grammar.specs.declared.header_parsers.HeaderState.{HeaderState}
use Rattle.sccs_grammar.specs.declared.header_parsers.HeaderState.TheVariants.{AtEntry, AtDelta, InLists, InTexts}
use Rattle.sccs_grammar.specs.declared.header_parsers.HeaderState.TheVariants.{InUsers, InFlags, InDescription, AtBody}
use Rattle.sccs_grammar.specs.declared.header_parsers.HeaderParser.{HeaderParser}
use Rattle.sccs_tokens.specs.declared.line_tokens.LineToken.{LineToken}
use Rattle.sccs_tokens.specs.declared.line_tokens.LineToken.TheVariants.{Counts, Delta, Listed, Mr, Comment, EndEntry}
use Rattle.sccs_tokens.specs.declared.line_tokens.LineToken.TheVariants.{Users, EndUsers, FlagIs, Description}
use Rattle.sccs_tokens.specs.declared.line_tokens.LineToken.TheVariants.{EndDescription, Plain}
use Rattle.sccs_tokens.specs.declared.line_tokens.ListKind.{ListKind}
use Rattle.sccs_tokens.specs.declared.line_tokens.ListKind.TheVariants.{Included, Excluded, Ignored}

abbrev pub header_of : HeaderParser → Header
header_of r = record {
  records = r.parts.table.records;
  users = r.parts.users;
  flags = r.parts.flags;
  description =
      r.parts.description;
}

abbrev pub parser_at : HeaderState → PartialHeader → HeaderParser
parser_at state parts = record { state = state; parts = parts }

-- these entries alone
abbrev pub table_alone : Entries → PartialHeader
table_alone entries = record { table = entries; users = []; flags = []; description = [] }

-- the table was read up to these entries; all of it, and of the users these; all users, and of the flags these; all
-- flags, and of the description these lines
abbrev pub at_table : Entries → HeaderParser
at_table entries = parser_at AtEntry (table_alone entries)

abbrev pub at_users : Entries → List (List ℕ) → HeaderParser
at_users entries users = parser_at InUsers (record (table_alone entries) { users = users })

abbrev pub at_flags : Entries → List (List ℕ) → List Flag → HeaderParser
at_flags entries users flags = parser_at InFlags (record (table_alone entries) { users = users; flags = flags })

abbrev pub at_description : Entries → List (List ℕ) → List Flag → List (List ℕ) → HeaderParser
at_description entries users flags description =
    parser_at InDescription (record { table = entries; users = users; flags = flags; description = description })

-- the table was read up to these entries, and of the next one its delta line and some lists, or an MR or comment too
abbrev pub at_lists : Entries → TableEntry → ListsSeen → HeaderParser
at_lists entries e seen = parser_at (InLists e seen) (table_alone entries)

abbrev pub at_texts : Entries → TableEntry → HeaderParser
at_texts entries e = parser_at (InTexts e) (table_alone entries)

-- nothing was read
abbrev pub start : HeaderParser
start = at_table no_entries

-- ---- the rules that a line may break

-- the serial of the last record, or a bound where there is none
abbrev pub least : ℕ → List Record → ℕ
least bound [] = bound
least bound (r ∷ records) = least r.serial records

-- serials fall, a predecessor is smaller, SIDs of live records differ
abbrev pub may_follow : Record → List Record → Bool
may_follow r above =
    nat_lt r.serial (least 65536 above) && nat_lt r.predecessor r.serial && (r.removed || not (lives above r.sid))

-- the delta line of the first entry whose predecessor is neither 0 nor in the table
unfoldable pub dangling_predecessor : List Record → List Record → List ℕ → Option ℕ
dangling_predecessor table (r ∷ records) (line ∷ lines) = if has (0 ∷ serials_of table) r.predecessor
    then dangling_predecessor table records lines else Some line
dangling_predecessor table records lines = None

-- smaller serials
abbrev pub all_below : ℕ → List ℕ → Bool
all_below n ns = list_all (λ m. nat_lt m n) ns

-- a lower-case letter with a text that it may have
abbrev pub flag_fits : Flag → Bool
flag_fits f = is_letter f.letter && fits_letter f.letter f.text

-- ---- one line, of number n

-- what is read, where the test holds
abbrev pub if_fits : {A : Type 0} → Bool → ℕ → A → Result A ℕ
if_fits true n x = Ok x
if_fits false n x = Err n

abbrev pub with_mr : TableEntry → List ℕ → TableEntry
with_mr e t = record e { row = record e.row { mrs = e.row.mrs ++ t ∷ [] } }

abbrev pub with_comment : TableEntry → List ℕ → TableEntry
with_comment e t = record e { row = record e.row { comments = e.row.comments ++ t ∷ [] } }

-- with several more, and with these lists
abbrev pub with_mrs : TableEntry → List (List ℕ) → TableEntry
with_mrs e ts = record e { row = record e.row { mrs = e.row.mrs ++ ts } }

abbrev pub with_comments : TableEntry → List (List ℕ) → TableEntry
with_comments e ts = record e { row = record e.row { comments = e.row.comments ++ ts } }

abbrev pub with_include : TableEntry → List ℕ → TableEntry
with_include e ns = record e { row = record e.row { include = ns } }

abbrev pub with_exclude : TableEntry → List ℕ → TableEntry
with_exclude e ns = record e { row = record e.row { exclude = ns } }

abbrev pub with_ignore : TableEntry → List ℕ → TableEntry
with_ignore e ns = record e { row = record e.row { ignore = ns } }

-- MRs and comments, mixed, and the end of the entry
abbrev pub in_texts : ℕ → PartialHeader → TableEntry → LineToken → Result HeaderParser ℕ
in_texts n parts e (Mr t) = Ok (parser_at (InTexts (with_mr e t)) parts)
in_texts n parts e (Comment t) = Ok (parser_at (InTexts (with_comment e t)) parts)
in_texts n parts e EndEntry = Ok (parser_at AtEntry (record parts { table = with_entry parts.table e }))
in_texts n parts e _ = Err n

-- a list of one kind stands once, it names smaller serials, and none is both included and excluded
abbrev pub list_fits : TableEntry → ListsSeen → ListKind → List ℕ → Bool
list_fits e seen Included ns = not seen.included && all_below e.row.serial ns && not (share ns e.row.exclude)
list_fits e seen Excluded ns = not seen.excluded && all_below e.row.serial ns && not (share ns e.row.include)
list_fits e seen Ignored ns = not seen.ignored && all_below e.row.serial ns

abbrev pub put_list : TableEntry → ListKind → List ℕ → TableEntry
put_list e Included ns = with_include e ns
put_list e Excluded ns = with_exclude e ns
put_list e Ignored ns = with_ignore e ns

abbrev pub seen_with : ListsSeen → ListKind → ListsSeen
seen_with seen Included = record seen { included = true }
seen_with seen Excluded = record seen { excluded = true }
seen_with seen Ignored = record seen { ignored = true }

abbrev pub with_list : ℕ → PartialHeader → TableEntry → ListsSeen → ListKind → List ℕ → Result HeaderParser ℕ
with_list n parts e seen which ns = if_fits (list_fits e seen which ns) n
    (parser_at (InLists (put_list e which ns) (seen_with seen which)) parts)

abbrev pub in_lists : ℕ → PartialHeader → TableEntry → ListsSeen → LineToken → Result HeaderParser ℕ
in_lists n parts e seen (Listed which ns) = with_list n parts e seen which ns
in_lists n parts e seen s = in_texts n parts e s

-- the table ends: there is an entry, and each predecessor is there
abbrev pub ends_table : ℕ → PartialHeader → Option ℕ → Result HeaderParser ℕ
ends_table n parts (Some line) = Err line
ends_table n parts None = if_fits (not (is_empty parts.table.records)) n (parser_at InUsers parts)

abbrev pub at_entry : ℕ → PartialHeader → LineToken → Result HeaderParser ℕ
at_entry n parts (Counts i d u) = Ok (parser_at (AtDelta i d u) parts)
at_entry n parts Users = ends_table n parts (dangling_predecessor parts.table.records parts.table.records
    parts.table.lines)
at_entry n parts _ = Err n

abbrev pub none_seen : ListsSeen
none_seen = record { included = false; excluded = false; ignored = false }

abbrev pub entry : ℕ → ℕ → ℕ → ℕ → Record → TableEntry
entry n i d u row = record { line = n; row = record row { inserted = i; deleted = d; unchanged = u } }

abbrev pub at_delta : ℕ → PartialHeader → ℕ → ℕ → ℕ → LineToken → Result HeaderParser ℕ
at_delta n parts i d u (Delta row) = if_fits (may_follow row parts.table.records) n
    (parser_at (InLists (entry n i d u row) none_seen) parts)
at_delta n parts i d u _ = Err n

abbrev pub in_users : ℕ → PartialHeader → LineToken → Result HeaderParser ℕ
in_users n parts (Plain t) = Ok (parser_at InUsers (record parts { users = parts.users ++ t ∷ [] }))
in_users n parts EndUsers = Ok (parser_at InFlags parts)
in_users n parts _ = Err n

abbrev pub new_flag : ℕ → PartialHeader → Flag → Result HeaderParser ℕ
new_flag n parts f =
    if_fits (flag_fits f && is_new parts.flags f) n (parser_at InFlags (record parts { flags = parts.flags ++ f ∷ [] }))

abbrev pub in_flags : ℕ → PartialHeader → LineToken → Result HeaderParser ℕ
in_flags n parts (FlagIs f) = new_flag n parts f
in_flags n parts Description = Ok (parser_at InDescription parts)
in_flags n parts _ = Err n

abbrev pub in_description : ℕ → PartialHeader → LineToken → Result HeaderParser ℕ
in_description n parts (Plain t) =
    Ok (parser_at InDescription (record parts { description = parts.description ++ t ∷ [] }))
in_description n parts EndDescription = Ok (parser_at AtBody parts)
in_description n parts _ = Err n

-- what is read with a line that says this, at this place
abbrev pub after : ℕ → PartialHeader → HeaderState → LineToken → Result HeaderParser ℕ
after n parts AtEntry s = at_entry n parts s
after n parts (AtDelta i d u) s = at_delta n parts i d u s
after n parts (InLists e seen) s = in_lists n parts e seen s
after n parts (InTexts e) s = in_texts n parts e s
after n parts InUsers s = in_users n parts s
after n parts InFlags s = in_flags n parts s
after n parts InDescription s = in_description n parts s
after n parts AtBody s = Err n

abbrev pub accepted : ℕ → HeaderParser → Option LineToken → Result HeaderParser ℕ
accepted n r None = Err n
accepted n r (Some s) = after n r.parts r.state s

-- what accepting a line returned is what is read; there may have been no memory
abbrev pub Accepts : {A : Type 0} → Result A FrontFault → Result A ℕ → Type 0
Accepts (Ok x) read = read ≡ Ok x
Accepts (Err Memory) read = Unit {0}
Accepts (Err (Format line)) read = read ≡ Err line

-- the same of a line that leads to another place and leaves these parts
abbrev pub AcceptsAt : PartialHeader → Result HeaderState FrontFault → Result HeaderParser ℕ → Type 0
AcceptsAt new (Ok state) read = read ≡ Ok (parser_at state new)
AcceptsAt new (Err Memory) read = Unit {0}
AcceptsAt new (Err (Format line)) read = read ≡ Err line

-- the same of a line that leaves this reading
abbrev pub AcceptsIn : HeaderParser → Result (Unit {0}) FrontFault → Result HeaderParser ℕ → Type 0
AcceptsIn new (Ok done) read = read ≡ Ok new
AcceptsIn new (Err Memory) read = Unit {0}
AcceptsIn new (Err (Format line)) read = read ≡ Err line

unfoldable pub line_after : ℕ → HeaderParser → List ℕ → Result HeaderParser ℕ
line_after n r line = accepted n r (token line)

-- ---- all lines up to the body

-- A header, the number of the line behind it, and the lines from there on.
pub record ParsedFront : Type 0 where
  pub header : Header
  pub line : ℕ
  pub rest : List (List ℕ)

abbrev pub is_whole : HeaderState → Bool
is_whole AtBody = true
is_whole _ = false

-- the header that the lines from number n on complete, or the first line at which nothing goes on
unfoldable pub front_from : ℕ → HeaderParser → List (List ℕ) → Result ParsedFront ℕ
front_from n r [] = Err n
front_from n r (line ∷ lines) = do
  s ← line_after n r line
  if is_whole s.state then Ok (record { header = header_of s; line = suc n; rest = lines })
      else front_from (suc n) s lines
