-- A header that is read of lines without LF has a spelling.
use Rattle.std.proofs.Common.{◌≡◌, ◌≢◌, ℕ, ◌==◌, ◌⊎◌, inl, inr, Bool, true, false, ◌||◌, List, [], ◌∷◌, Option, Some}
use Rattle.std.proofs.Common.{None, Ok}
use Rattle.std.specs.Prelude.{option_map}
use Rattle.std.specs.List.{AllByRecursion}
use Rattle.std.specs.Option.{IfSome}
use Rattle.std.specs.Result.{IfOk}
use Rattle.std.proofs.lemmas.Bool.{cases_Bool}
use Rattle.std.proofs.lemmas.List.Elements.{recursion_from_All, All-from_recursion}
use Rattle.sccs_base.specs.Cut.{HasNoLf}
use Rattle.sccs_base.specs.Login.{IsLogin, is_login, login_decides}
use Rattle.sccs_sid.specs.Reading.{only}
use Rattle.sccs_sid.specs.Sid.{IsSid, sid_of}
use Rattle.sccs_sid.specs.Moment.{IsMoment, moment_of}
use Rattle.sccs_sid.specs.Words.{one, found, begins_blank, skip_blanks, drop_blanks, words, three}
use Rattle.sccs_history.specs.Numbers.{is_empty}
use Rattle.sccs_history.specs.History.{AreLines, HasSpelling, IsSpelled}
use Rattle.sccs_history.specs.declared.headers.Record.{Record}
use Rattle.sccs_history.specs.declared.headers.Flag.{Flag}
use Rattle.sccs_tokens.specs.Tokens.{serial, predecessor, is_removed, delta_of, delta_token, count_token, listed, text}
use Rattle.sccs_tokens.specs.Tokens.{flag, behind_soh, token}
use Rattle.sccs_grammar.specs.Front.{ParsedFront, header_of, start, if_fits, in_texts, in_lists, ends_table, at_entry}
use Rattle.sccs_grammar.specs.Front.{at_delta, in_users, in_flags, in_description, after, accepted, line_after}
use Rattle.sccs_grammar.specs.Front.{front_from}
use Rattle.sccs_grammar.specs.declared.header_parsers.TableEntry.{TableEntry}
use Rattle.sccs_grammar.specs.declared.header_parsers.ListsSeen.{ListsSeen}
use Rattle.sccs_grammar.specs.declared.header_parsers.HeaderState.{HeaderState}
use Rattle.sccs_grammar.specs.declared.header_parsers.HeaderState.TheVariants.{AtEntry, AtDelta, InLists, InTexts}
use Rattle.sccs_grammar.specs.declared.header_parsers.HeaderState.TheVariants.{InUsers, InFlags, InDescription, AtBody}
use Rattle.sccs_grammar.specs.declared.header_parsers.PartialHeader.{PartialHeader}
use Rattle.sccs_grammar.specs.declared.header_parsers.HeaderParser.{HeaderParser}
use Rattle.sccs_tokens.specs.declared.line_tokens.LineToken.{LineToken}
use Rattle.sccs_tokens.specs.declared.line_tokens.LineToken.TheVariants.{Counts, Delta, Listed, Mr, Comment, EndEntry}
use Rattle.sccs_tokens.specs.declared.line_tokens.LineToken.TheVariants.{Users, EndUsers, FlagIs, Description}
use Rattle.sccs_tokens.specs.declared.line_tokens.LineToken.TheVariants.{EndDescription, Plain}
use Rattle.sccs_tokens.specs.declared.line_tokens.ListKind.{ListKind}
use Rattle.sccs_tokens.specs.declared.line_tokens.ListKind.TheVariants.{Included, Excluded, Ignored}
use Rattle.sccs_grammar.proofs.LinesKeep.{Kept, lines_keep}
use Rattle.sccs_tokens.proofs.NoLf.{NoLf, no_lf_skip, no_lf_drop}
use Rattle.sccs_grammar.proofs.ParserRules.{all_push}
use Rattle.sccs_tokens.proofs.TokenRules.{EachKeeps, control_keeps, then_some, then_any, only_so, found_so}
use Rattle.sccs_grammar.proofs.SpellingRules.{sid_is, moment_is}

-- ---- one line

-- the same as a record of a header says, but for the records' other parts
abbrev pub Spelled : Record → Type 0
Spelled r = IsSid r.sid × IsMoment r.moment × IsLogin r.login × AreLines r.mrs × AreLines r.comments

abbrev pub Spells : LineToken → Type 0
Spells (Delta r) = Spelled r
Spells (Mr t) = HasNoLf t
Spells (Comment t) = HasNoLf t
Spells (FlagIs f) = HasNoLf f.text
Spells (Plain t) = HasNoLf t
Spells _ = Unit {0}

bare : (t : List ℕ) → NoLf t → HasNoLf t
bare t none = All-from_recursion (λ b. b ≢ 10) t none

delta_of_spells : (kind sid date time login own before : List ℕ) → IfSome (delta_of kind sid date time login own before)
    Spells
unfolding delta_of
delta_of_spells kind sid date time login own before =
    then_any Spells (is_removed kind) _ λ removed.
    then_some IsSid Spells (found (sid_of sid)) _ (found_so IsSid (sid_of sid) (sid_is sid)) λ s is_sid.
    then_some IsMoment Spells (found (moment_of date time)) _ (found_so IsMoment (moment_of date time)
    (moment_is date time)) λ m is_moment.
    then_some IsLogin Spells (only (is_login login) login) _ (only_so IsLogin (is_login login) login
    (λ is. (login_decides login).0 is)) λ who is_who.
    then_any Spells (serial own) _ λ n.
    then_any Spells (predecessor before) _ λ p. (is_sid, is_moment, is_who, tt, tt)

delta_spells : (ws : List (List ℕ)) → IfSome (delta_token ws) Spells
delta_spells (kind ∷ sid ∷ date ∷ time ∷ login ∷ own ∷ before ∷ []) =
    delta_of_spells kind sid date time login own before
delta_spells _ = tt

counts_spell : (ws : List (List ℕ)) → IfSome (count_token ws) Spells
unfolding count_token
counts_spell ws = then_any Spells (one ws) _ λ word. then_any Spells (three 5 47 word) _ λ n. tt

list_spells : (which : ListKind) (o : Option (List ℕ)) → IfSome (option_map (Listed which) o) Spells
list_spells which None = tt
list_spells which (Some ns) = tt

text_bare : (bytes : List ℕ) → NoLf bytes → IfSome (text bytes) HasNoLf
text_bare [] none = bare [] none
text_bare (b ∷ bytes) none = only_so HasNoLf (b == 32) bytes (λ is. bare bytes none.1)

mr_spells : (o : Option (List ℕ)) → IfSome o HasNoLf → IfSome (option_map Mr o) Spells
mr_spells None none = tt
mr_spells (Some t) none = none

comment_spells : (o : Option (List ℕ)) → IfSome o HasNoLf → IfSome (option_map Comment o) Spells
comment_spells None none = tt
comment_spells (Some t) none = none

flag_spells : (bytes : List ℕ) → NoLf bytes → IfSome (flag bytes) Spells
flag_spells [] none = tt
flag_spells (letter ∷ bytes) none =
    only_so Spells (is_empty bytes || begins_blank bytes)
    (FlagIs (record { letter = letter; text = drop_blanks (skip_blanks bytes) })) λ is.
    bare (drop_blanks (skip_blanks bytes)) (no_lf_drop (skip_blanks bytes) (no_lf_skip bytes none.1))

each_spells : (letter : ℕ) (bytes : List ℕ) → NoLf bytes → EachKeeps Spells letter bytes
each_spells letter bytes none = record {
  on_counts = counts_spell (words bytes);
  on_delta = delta_spells (words bytes);
  on_list = λ which. list_spells which (listed bytes);
  on_mr = mr_spells (text bytes) (text_bare bytes none);
  on_comment = comment_spells (text bytes) (text_bare bytes none);
  on_flag = flag_spells (skip_blanks bytes) (no_lf_skip bytes none);
  on_end_entry = tt;
  on_users = tt;
  on_end_users = tt;
  on_description = tt;
  on_end_description = tt;
  on_insert = λ is n. tt;
  on_delete = λ is n. tt;
  on_end = λ is n. tt;
}

behind_spells : (bytes : List ℕ) → NoLf bytes → IfSome (behind_soh bytes) Spells
behind_spells [] none = tt
behind_spells (letter ∷ bytes) none = control_keeps Spells letter bytes (each_spells letter bytes none.1)

line_spells : (b : ℕ) (bytes : List ℕ) → (b == 1 ≡ true) ⊎ (b == 1 ≡ false) → NoLf (b ∷ bytes)
    → IfSome (token (b ∷ bytes)) Spells
unfolding token
line_spells b bytes (inl is) none = rw is (behind_spells bytes none.1)
line_spells b bytes (inr other) none = rw other (bare (b ∷ bytes) none)

token_spells : (line : List ℕ) → NoLf line → IfSome (token line) Spells
unfolding token
token_spells [] none = bare [] none
token_spells (b ∷ bytes) none = line_spells b bytes (cases_Bool (b == 1)) none

-- ---- what is read

abbrev pub SpelledEntry : HeaderState → Type 0
SpelledEntry (InLists e seen) = Spelled e.row
SpelledEntry (InTexts e) = Spelled e.row
SpelledEntry _ = Unit {0}

abbrev pub SpelledParts : PartialHeader → Type 0
SpelledParts parts =
    AllByRecursion Spelled parts.table.records × AreLines parts.users × AllByRecursion (λ (f : Flag). HasNoLf f.text)
    parts.flags × AreLines parts.description

-- what is read so far has a spelling
abbrev pub IsSpelledSoFar : HeaderParser → Type 0
IsSpelledSoFar r = SpelledEntry r.state × SpelledParts r.parts

fits : (t : Bool) (n : ℕ) (r : HeaderParser) → IsSpelledSoFar r → IfOk (if_fits t n r) IsSpelledSoFar
fits true n r h = h
fits false n r h = tt

texts_spell : (n : ℕ) (parts : PartialHeader) (e : TableEntry) (s : LineToken) → Spelled e.row → SpelledParts parts
    → Spells s → IfOk (in_texts n parts e s) IsSpelledSoFar
texts_spell n parts e (Mr t) row rest spells = (
  (row.0, row.1, row.2, all_push HasNoLf e.row.mrs t row.3 spells, row.4),
  rest,
)
texts_spell n parts e (Comment t) row rest spells =
    ((row.0, row.1, row.2, row.3, all_push HasNoLf e.row.comments t row.4 spells), rest)
texts_spell n parts e EndEntry row rest spells =
    (tt, (all_push Spelled parts.table.records e.row rest.0 row, rest.1, rest.2, rest.3))
texts_spell n parts e _ row rest spells = tt

lists_spell : (n : ℕ) (parts : PartialHeader) (e : TableEntry) (seen : ListsSeen) (s : LineToken) → Spelled e.row
    → SpelledParts parts → Spells s → IfOk (in_lists n parts e seen s) IsSpelledSoFar
lists_spell n parts e seen (Listed Included ns) row rest spells = fits _ n _ (row, rest)
lists_spell n parts e seen (Listed Excluded ns) row rest spells = fits _ n _ (row, rest)
lists_spell n parts e seen (Listed Ignored ns) row rest spells = fits _ n _ (row, rest)
lists_spell n parts e seen s row rest spells = texts_spell n parts e s row rest spells

table_spells : (n : ℕ) (parts : PartialHeader) (o : Option ℕ) → SpelledParts parts
    → IfOk (ends_table n parts o) IsSpelledSoFar
table_spells n parts (Some line) rest = tt
table_spells n parts None rest = fits _ n _ (tt, rest)

entry_spells : (n : ℕ) (parts : PartialHeader) (s : LineToken) → SpelledParts parts
    → IfOk (at_entry n parts s) IsSpelledSoFar
entry_spells n parts (Counts i d u) rest = (tt, rest)
entry_spells n parts Users rest = table_spells n parts _ rest
entry_spells n parts _ rest = tt

delta_line_spells : (n : ℕ) (parts : PartialHeader) (i d u : ℕ) (s : LineToken) → SpelledParts parts → Spells s
    → IfOk (at_delta n parts i d u s) IsSpelledSoFar
delta_line_spells n parts i d u (Delta row) rest spells = fits _ n _ (spells, rest)
delta_line_spells n parts i d u _ rest spells = tt

users_spell : (n : ℕ) (parts : PartialHeader) (s : LineToken) → SpelledParts parts → Spells s
    → IfOk (in_users n parts s) IsSpelledSoFar
users_spell n parts (Plain t) rest spells = (tt, (rest.0, all_push HasNoLf parts.users t rest.1 spells, rest.2, rest.3))
users_spell n parts EndUsers rest spells = (tt, rest)
users_spell n parts _ rest spells = tt

flags_spell : (n : ℕ) (parts : PartialHeader) (s : LineToken) → SpelledParts parts → Spells s
    → IfOk (in_flags n parts s) IsSpelledSoFar
flags_spell n parts (FlagIs f) rest spells =
    fits _ n _ (tt, (rest.0, rest.1, all_push (λ (g : Flag). HasNoLf g.text) parts.flags f rest.2 spells, rest.3))
flags_spell n parts Description rest spells = (tt, rest)
flags_spell n parts _ rest spells = tt

description_spells : (n : ℕ) (parts : PartialHeader) (s : LineToken) → SpelledParts parts → Spells s
    → IfOk (in_description n parts s) IsSpelledSoFar
description_spells n parts (Plain t) rest spells =
    (tt, (rest.0, rest.1, rest.2, all_push HasNoLf parts.description t rest.3 spells))
description_spells n parts EndDescription rest spells = (tt, rest)
description_spells n parts _ rest spells = tt

after_spells : (n : ℕ) (parts : PartialHeader) (p : HeaderState) (s : LineToken) → SpelledEntry p → SpelledParts parts
    → Spells s → IfOk (after n parts p s) IsSpelledSoFar
after_spells n parts AtEntry s row rest spells = entry_spells n parts s rest
after_spells n parts (AtDelta i d u) s row rest spells = delta_line_spells n parts i d u s rest spells
after_spells n parts (InLists e seen) s row rest spells = lists_spell n parts e seen s row rest spells
after_spells n parts (InTexts e) s row rest spells = texts_spell n parts e s row rest spells
after_spells n parts InUsers s row rest spells = users_spell n parts s rest spells
after_spells n parts InFlags s row rest spells = flags_spell n parts s rest spells
after_spells n parts InDescription s row rest spells = description_spells n parts s rest spells
after_spells n parts AtBody s row rest spells = tt

heard_spells : (n : ℕ) (r : HeaderParser) (o : Option LineToken) → IsSpelledSoFar r → IfSome o Spells
    → IfOk (accepted n r o) IsSpelledSoFar
heard_spells n r None so_far spells = tt
heard_spells n r (Some s) so_far spells = after_spells n r.parts r.state s so_far.0 so_far.1 spells

line_so : (n : ℕ) (r : HeaderParser) (line : List ℕ) → HasNoLf line → IsSpelledSoFar r
    → IfOk (line_after n r line) IsSpelledSoFar
unfolding line_after
line_so n r line none so_far =
    heard_spells n r (token line) so_far (token_spells line (recursion_from_All (λ b. b ≢ 10) line none))

pub line_spelled : (n : ℕ) (r s : HeaderParser) (line : List ℕ) → HasNoLf line → line_after n r line ≡ Ok s
    → IsSpelledSoFar r → IsSpelledSoFar s
line_spelled n r s line none is so_far = rw is at (line_so n r line none so_far)

pub start_spelled : IsSpelledSoFar start
start_spelled = (tt, (tt, tt, tt, tt))

records_spelled : (rs : List Record) → AllByRecursion Spelled rs → AllByRecursion HasSpelling rs
records_spelled [] are = tt
records_spelled (r ∷ rs) are = (
  record { sid = are.0.0; moment = are.0.1; login = are.0.2; mrs = are.0.3; comments = are.0.4 },
  records_spelled rs are.1,
)

pub whole_spelled : (s : HeaderParser) → IsSpelledSoFar s → IsSpelled (header_of s)
whole_spelled s so_far = record {
  records = records_spelled s.parts.table.records so_far.1.0;
  users = so_far.1.1;
  flags = so_far.1.2;
  description = so_far.1.3;
}

-- ---- all lines

spelling_kept : Kept HasNoLf IsSpelledSoFar IsSpelled
spelling_kept = record { line = line_so; whole = λ s is so_far. whole_spelled s so_far }

pub lines_spelled : (n : ℕ) (lines : List (List ℕ)) (p : ParsedFront) → AreLines lines → front_from n start lines ≡ Ok p
    → IsSpelled p.header
lines_spelled n lines p are is =
    rw is at (lines_keep HasNoLf IsSpelledSoFar IsSpelled spelling_kept n start lines are start_spelled)
