-- What is read of a header keeps the rules, line by line.
use Rattle.std.proofs.Common.{◌≡◌, ℕ, ◌+◌, ◌<◌, ◌≤◌, ◌==◌, nat_lt, ◌⊎◌, inl, inr, Bool, true, false, not, ◌&&◌, ◌||◌}
use Rattle.std.proofs.Common.{List, [], ◌∷◌, ◌++◌, length, Option, Some, None, Ok, refl, sym, ap, ◌∙◌, arith}
use Rattle.std.proofs.Common.{length-append}
use Rattle.std.specs.List.{AllByRecursion, list_any}
use Rattle.std.specs.Option.{IfSome}
use Rattle.std.specs.Result.{IfOk}
use Rattle.std.proofs.lemmas.Bool.{and_parts, or_parts, cases_Bool, not-true, ltb-true, ne_eqb, eqb-false}
use Rattle.std.proofs.lemmas.List.Folds.{list_any-append}
use Rattle.sccs_sid.specs.SidLists.{begins}
use Rattle.sccs_sid.specs.declared.sids.Sid.{Sid}
use Rattle.sccs_history.specs.Numbers.{is_empty, has, share, Falls}
use Rattle.sccs_history.specs.Applied.{serials_of}
use Rattle.sccs_history.specs.FlagText.{fits_letter}
use Rattle.sccs_history.specs.History.{AreBare, NamesSmaller, IsRecord, IsTable, IsFlag, KeepsRules, is_letter, is_new}
use Rattle.sccs_history.specs.History.{same_sid, lives, has_own_sids, has_own_letters}
use Rattle.sccs_history.specs.declared.headers.Record.{Record}
use Rattle.sccs_history.specs.declared.headers.Flag.{Flag}
use Rattle.sccs_grammar.specs.Front.{ParsedFront, header_of, start, least, may_follow, dangling_predecessor, all_below}
use Rattle.sccs_grammar.specs.Front.{flag_fits, if_fits, in_texts, with_list, in_lists, ends_table, at_entry, at_delta}
use Rattle.sccs_grammar.specs.Front.{in_users, in_flags, in_description, after, accepted, line_after, is_whole}
use Rattle.sccs_grammar.specs.Front.{front_from}
use Rattle.sccs_tokens.specs.Tokens.{token}
use Rattle.sccs_grammar.specs.declared.header_parsers.TableEntry.{TableEntry}
use Rattle.sccs_grammar.specs.declared.header_parsers.ListsSeen.{ListsSeen}
use Rattle.sccs_grammar.specs.Entries.{Entries, with_entry}
use Rattle.sccs_grammar.specs.declared.header_parsers.PartialHeader.{PartialHeader}
use Rattle.sccs_grammar.specs.declared.header_parsers.HeaderState.{HeaderState}
use Rattle.sccs_grammar.specs.declared.header_parsers.HeaderState.TheVariants.{AtEntry, AtDelta, InLists, InTexts}
use Rattle.sccs_grammar.specs.declared.header_parsers.HeaderState.TheVariants.{InUsers, InFlags, InDescription, AtBody}
use Rattle.sccs_grammar.specs.declared.header_parsers.HeaderParser.{HeaderParser}
use Rattle.sccs_tokens.specs.declared.line_tokens.LineToken.{LineToken}
use Rattle.sccs_tokens.specs.declared.line_tokens.LineToken.TheVariants.{Counts, Delta, Listed, Mr, Comment, EndEntry}
use Rattle.sccs_tokens.specs.declared.line_tokens.LineToken.TheVariants.{Users, EndUsers, FlagIs, Description}
use Rattle.sccs_tokens.specs.declared.line_tokens.LineToken.TheVariants.{EndDescription, Plain}
use Rattle.sccs_tokens.specs.declared.line_tokens.ListKind.{ListKind}
use Rattle.sccs_tokens.specs.declared.line_tokens.ListKind.TheVariants.{Included, Excluded, Ignored}
use Rattle.sccs_grammar.proofs.EntryLaws.{share_flip, flip_sids}
use Rattle.sccs_grammar.proofs.SectionLaws.{any-push}
use Rattle.sccs_grammar.proofs.LinesKeep.{Kept, lines_keep}
use Rattle.sccs_tokens.proofs.TokenRules.{IsValidToken, token_well}

-- ---- what is kept

-- a record as it may stand in a table, but for its predecessor's place there
abbrev pub IsRow : Record → Type 0
IsRow r =
    (0 < r.serial) × (r.predecessor < r.serial) × NamesSmaller r.serial r.include × NamesSmaller r.serial r.exclude
    × NamesSmaller r.serial r.ignore × (share r.include r.exclude ≡ false) × (r.inserted ≤ 99999)
    × (r.deleted ≤ 99999) × (r.unchanged ≤ 99999)

-- the entries before the end of a table: a predecessor may come later
pub record SoFar (t : Entries) : Type 0 where
  pub falls : Falls 65536 (serials_of t.records)
  pub rows : AllByRecursion IsRow t.records
  pub sids : has_own_sids t.records ≡ true
  pub lines : length t.lines ≡ length t.records

-- a record that may stand behind these
abbrev pub MayStand : List Record → Record → Type 0
MayStand above r =
    IsRow r × (r.serial < least 65536 above) × ((r.removed || not (lives above r.sid)) ≡ true)

abbrev pub KeepsTable : HeaderState → Entries → Type 0
KeepsTable AtEntry t = SoFar t
KeepsTable (AtDelta i d u) t = SoFar t × (i ≤ 99999) × (d ≤ 99999) × (u ≤ 99999)
KeepsTable (InLists e seen) t = SoFar t × MayStand t.records e.row
KeepsTable (InTexts e) t = SoFar t × MayStand t.records e.row
KeepsTable InUsers t = IsTable t.records
KeepsTable InFlags t = IsTable t.records
KeepsTable InDescription t = IsTable t.records
KeepsTable AtBody t = IsTable t.records

-- the parts behind the table
abbrev pub KeepsRest : PartialHeader → Type 0
KeepsRest parts =
    AreBare parts.users × AllByRecursion IsFlag parts.flags × (has_own_letters parts.flags ≡ true)
    × AreBare parts.description

-- what is read so far keeps the rules
abbrev pub Keeps : HeaderParser → Type 0
Keeps r = KeepsTable r.state r.parts.table × KeepsRest r.parts

-- ---- one more

pub all_push : {A : Type 0} (P : A → Type 0) (xs : List A) (x : A) → AllByRecursion P xs → P x
    → AllByRecursion P (xs ++ x ∷ [])
all_push P [] x are is = (is, tt)
all_push P (y ∷ xs) x are is = (are.0, all_push P xs x are.1 is)

falls_push : (bound : ℕ) (above : List Record) (r : Record) → Falls bound (serials_of above)
    → r.serial < least bound above → Falls bound (serials_of (above ++ r ∷ []))
falls_push bound [] r falls below = (below, tt)
falls_push bound (a ∷ above) r falls below = (falls.0, falls_push a.serial above r falls.1 below)

-- whether a live record has the SID
abbrev lives_as : Sid → Record → Bool
lives_as sid r = not r.removed && same_sid r.sid sid

-- a record a is before others, and r comes behind them
own_before : (a_gone r_gone others same flipped any : Bool) → (a_gone || not any) ≡ true
    → (r_gone || not ((not a_gone && flipped) || others)) ≡ true → same ≡ flipped
    → (a_gone || not (any || ((not r_gone && same) || false))) ≡ true
own_before true r_gone others same flipped any own new flip = refl
own_before false true others same flipped false own new flip = refl
own_before false true others same flipped true own new flip = cc
own_before false false others false flipped false own new flip = refl
own_before false false others true false false own new flip = cc
own_before false false others true true false own new flip = cc
own_before false false others same flipped true own new flip = cc

others_own : (r_gone here others : Bool) → (r_gone || not (here || others)) ≡ true → (r_gone || not others) ≡ true
others_own true here others new = refl
others_own false false others new = new
others_own false true others new = cc

one_lives : (gone : Bool) → ((gone || true) && true) ≡ true
one_lives true = refl
one_lives false = refl

sids_push : (above : List Record) (r : Record) → has_own_sids above ≡ true → (r.removed || not (lives above r.sid))
    ≡ true → has_own_sids (above ++ r ∷ []) ≡ true
sids_push [] r own new = one_lives r.removed
sids_push (a ∷ above) r own new =
    let parts = and_parts (a.removed || not (lives above a.sid)) (has_own_sids above) own in
    let before : (a.removed || not (lives (above ++ r ∷ []) a.sid)) ≡ true =
    rw (list_any-append (lives_as a.sid) above (r ∷ [])) (own_before a.removed r.removed (lives above r.sid)
    (same_sid r.sid a.sid) (same_sid a.sid r.sid) (lives above a.sid) parts.0 new (flip_sids r.sid a.sid)) in
    rw before (sids_push above r parts.1 (others_own r.removed (lives_as r.sid a) (lives above r.sid) new))

entry_keeps : (t : Entries) (e : TableEntry) → SoFar t → MayStand t.records e.row → SoFar (with_entry t e)
entry_keeps t e h is = record {
  falls = falls_push 65536 t.records e.row h.falls is.1;
  rows = all_push IsRow t.records e.row h.rows is.0;
  sids = sids_push t.records e.row h.sids is.2;
  lines = length-append t.lines (e.line ∷ []) ∙ (ap (λ n. n + 1) h.lines ∙ sym (length-append t.records (e.row ∷ [])));
}

-- ---- one line

fits : (t : Bool) (n : ℕ) (r : HeaderParser) → (t ≡ true → Keeps r) → IfOk (if_fits t n r) Keeps
fits true n r h = h refl
fits false n r h = tt

texts_keep : (n : ℕ) (parts : PartialHeader) (e : TableEntry) (s : LineToken) → SoFar parts.table
    → MayStand parts.table.records e.row → KeepsRest parts → IfOk (in_texts n parts e s) Keeps
texts_keep n parts e (Mr t) table is rest = ((table, is), rest)
texts_keep n parts e (Comment t) table is rest = ((table, is), rest)
texts_keep n parts e EndEntry table is rest = (entry_keeps parts.table e table is, rest)
texts_keep n parts e _ table is rest = tt

names_smaller : (serial : ℕ) (ns : List ℕ) → all_below serial ns ≡ true → AllByRecursion (λ n. 0 < n) ns
    → NamesSmaller serial ns
names_smaller serial [] below some = tt
names_smaller serial (n ∷ ns) below some =
    let parts = and_parts (nat_lt n serial) (all_below serial ns) below in
    ((some.0, ltb-true n serial parts.0), names_smaller serial ns parts.1 some.1)

list_keeps : (n : ℕ) (parts : PartialHeader) (e : TableEntry) (seen : ListsSeen) (which : ListKind) (ns : List ℕ)
    → SoFar parts.table → MayStand parts.table.records e.row → KeepsRest parts → AllByRecursion (λ n. 0 < n) ns
    → IfOk (with_list n parts e seen which ns) Keeps
list_keeps n parts e seen Included ns table is rest some =
    fits (not seen.included && all_below e.row.serial ns && not (share ns e.row.exclude)) n _ λ test.
    let tests = and_parts (not seen.included && all_below e.row.serial ns) (not (share ns e.row.exclude)) test in
    let below = (and_parts (not seen.included) (all_below e.row.serial ns) tests.0).1 in
    let row = is.0 in (
      (
        table,
        (
          (
            row.0,
            row.1,
            names_smaller e.row.serial ns below some,
            row.3,
            row.4,
            not-true (share ns e.row.exclude)
                tests.1,
            row.6,
            row.7,
            row.8,
          ),
          is.1,
          is.2,
        ),
      ),
      rest,
    )
list_keeps n parts e seen Excluded ns table is rest some =
    fits (not seen.excluded && all_below e.row.serial ns && not (share ns e.row.include)) n _ λ test.
    let tests = and_parts (not seen.excluded && all_below e.row.serial ns) (not (share ns e.row.include)) test in
    let below = (and_parts (not seen.excluded) (all_below e.row.serial ns) tests.0).1 in
    let row = is.0 in (
      (
        table,
        (
          (
            row.0,
            row.1,
            row.2,
            names_smaller e.row.serial ns below some,
            row.4,
            share_flip ns e.row.include
                (not-true (share ns e.row.include) tests.1),
            row.6,
            row.7,
            row.8,
          ),
          is.1,
          is.2,
        ),
      ),
      rest,
    )
list_keeps n parts e seen Ignored ns table is rest some =
    fits (not seen.ignored && all_below e.row.serial ns) n _ λ test.
    let tests = and_parts (not seen.ignored) (all_below e.row.serial ns) test in
    let row = is.0 in (
      (
        table,
        (
          (row.0, row.1, row.2, row.3, names_smaller e.row.serial ns tests.1 some, row.5, row.6, row.7, row.8),
          is.1,
          is.2,
        ),
      ),
      rest,
    )

lists_keep : (n : ℕ) (parts : PartialHeader) (e : TableEntry) (seen : ListsSeen) (s : LineToken) → SoFar parts.table
    → MayStand parts.table.records e.row → KeepsRest parts → IsValidToken s → IfOk (in_lists n parts e seen s) Keeps
lists_keep n parts e seen (Listed which ns) table is rest well = list_keeps n parts e seen which ns table is rest well
lists_keep n parts e seen s table is rest well = texts_keep n parts e s table is rest

some_none : {P : Type 0} (line : ℕ) → Some line ≡ None → P
some_none line is = cc

first_there : (table : List Record) (r : Record) (rs : List Record) (line : ℕ) (lines : List ℕ)
    → (has (0 ∷ serials_of table) r.predecessor ≡ true) ⊎ (has (0 ∷ serials_of table) r.predecessor ≡ false)
    → dangling_predecessor table (r ∷ rs) (line ∷ lines) ≡ None → IsRow r → (dangling_predecessor table rs lines ≡ None
    → AllByRecursion (IsRecord table) rs) → AllByRecursion (IsRecord table) (r ∷ rs)
unfolding dangling_predecessor
first_there table r rs line lines (inl is) none row others = (
  record {
    serial = row.0;
    predecessor = is;
    older = row.1;
    include = row.2;
    exclude = row.3;
    ignore = row.4;
    apart = row.5;
    inserted = row.6;
    deleted = row.7;
    unchanged = row.8;
  },
  others (rw is at none),
)
first_there table r rs line lines (inr gone) none row others = some_none line (rw gone at none)

-- where no predecessor is dangling_predecessor each is in the table
each_there : (table rs : List Record) (lines : List ℕ) → length lines ≡ length rs → dangling_predecessor table rs lines
    ≡ None → AllByRecursion IsRow rs → AllByRecursion (IsRecord table) rs
each_there table [] lines long none rows = tt
each_there table (r ∷ rs) [] long none rows = absurd (omega (arith, long))
each_there table (r ∷ rs) (line ∷ lines) long none rows =
    first_there table r rs line lines (cases_Bool (has (0 ∷ serials_of table) r.predecessor)) none rows.0
    (λ others. each_there table rs lines (omega (arith, long)) others rows.1)

table_ends : (n : ℕ) (parts : PartialHeader) (o : Option ℕ)
    → dangling_predecessor parts.table.records parts.table.records parts.table.lines ≡ o → SoFar parts.table
    → KeepsRest parts → IfOk (ends_table n parts o) Keeps
table_ends n parts (Some line) is table rest = tt
table_ends n parts None is table rest = fits (not (is_empty parts.table.records)) n _ λ some. (
  record {
    some = not-true (is_empty parts.table.records) some;
    falls = table.falls;
    each = each_there parts.table.records parts.table.records parts.table.lines table.lines is table.rows;
    sids = table.sids;
  },
  rest,
)

entry_begins : (n : ℕ) (parts : PartialHeader) (s : LineToken) → SoFar parts.table → KeepsRest parts → IsValidToken s
    → IfOk (at_entry n parts s) Keeps
entry_begins n parts (Counts i d u) table rest well = ((table, well.0, well.1, well.2), rest)
entry_begins n parts Users table rest well = table_ends n parts _ refl table rest
entry_begins n parts _ table rest well = tt

delta_keeps : (n : ℕ) (parts : PartialHeader) (i d u : ℕ) (s : LineToken) → SoFar parts.table → (i ≤ 99999)
    × (d ≤ 99999) × (u ≤ 99999) → KeepsRest parts → IsValidToken s → IfOk (at_delta n parts i d u s) Keeps
delta_keeps n parts i d u (Delta row) table counts rest well =
    fits (may_follow row parts.table.records) n _ λ test.
    let tests = and_parts (nat_lt row.serial (least 65536 parts.table.records) && nat_lt row.predecessor row.serial)
    (row.removed || not (lives parts.table.records row.sid)) test in
    let numbers = and_parts (nat_lt row.serial (least 65536 parts.table.records)) (nat_lt row.predecessor row.serial)
    tests.0 in (
      (
        table,
        (
          (
            well.0,
            ltb-true row.predecessor row.serial numbers.1,
            well.1,
            well.2,
            well.3,
            well.4,
            counts.0,
            counts.1,
            counts.2,
          ),
          ltb-true row.serial (least 65536 parts.table.records) numbers.0,
          tests.1,
        ),
      ),
      rest,
    )
delta_keeps n parts i d u _ table counts rest well = tt

users_keep : (n : ℕ) (parts : PartialHeader) (s : LineToken) → IsTable parts.table.records → KeepsRest parts
    → IsValidToken s → IfOk (in_users n parts s) Keeps
users_keep n parts (Plain t) table rest well =
    (table, (all_push (λ line. begins 1 line ≡ false) parts.users t rest.0 well, rest.1, rest.2, rest.3))
users_keep n parts EndUsers table rest well = (table, rest)
users_keep n parts _ table rest well = tt

letters_push : (flags : List Flag) (f : Flag) → has_own_letters flags ≡ true → is_new flags f ≡ true
    → has_own_letters (flags ++ f ∷ []) ≡ true
letters_push [] f own new = refl
letters_push (g ∷ flags) f own new =
    let parts = and_parts (is_new flags g) (has_own_letters flags) own in
    let none = or_parts (g.letter == f.letter) (list_any (λ h. h.letter == f.letter) flags) (not-true _ new) in
    let other : (f.letter == g.letter) ≡ false = ne_eqb f.letter g.letter (λ e. eqb-false g.letter f.letter none.0
    (sym e)) in
    let alone = any-push (λ h. h.letter == g.letter) flags f (not-true _ parts.0) other in
    rw alone (letters_push flags f parts.1 (rw none.1 refl))

flag_is : (f : Flag) → flag_fits f ≡ true → IsValidToken (FlagIs f) → IsFlag f
flag_is f is well =
    let parts = and_parts (is_letter f.letter) (fits_letter f.letter f.text) is in
    record { letter = parts.0; front = well.0; back = well.1; text = parts.1 }

flags_keep : (n : ℕ) (parts : PartialHeader) (s : LineToken) → IsTable parts.table.records → KeepsRest parts
    → IsValidToken s → IfOk (in_flags n parts s) Keeps
flags_keep n parts (FlagIs f) table rest well =
    fits (flag_fits f && is_new parts.flags f) n _ λ test.
    let tests = and_parts (flag_fits f) (is_new parts.flags f) test in (
      table,
      (
        rest.0,
        all_push IsFlag parts.flags f rest.1 (flag_is f tests.0 well),
        letters_push parts.flags f rest.2
            tests.1,
        rest.3,
      ),
    )
flags_keep n parts Description table rest well = (table, rest)
flags_keep n parts _ table rest well = tt

description_keeps : (n : ℕ) (parts : PartialHeader) (s : LineToken) → IsTable parts.table.records → KeepsRest parts
    → IsValidToken s → IfOk (in_description n parts s) Keeps
description_keeps n parts (Plain t) table rest well =
    (table, (rest.0, rest.1, rest.2, all_push (λ line. begins 1 line ≡ false) parts.description t rest.3 well))
description_keeps n parts EndDescription table rest well = (table, rest)
description_keeps n parts _ table rest well = tt

after_keeps : (n : ℕ) (parts : PartialHeader) (p : HeaderState) (s : LineToken) → KeepsTable p parts.table
    → KeepsRest parts → IsValidToken s → IfOk (after n parts p s) Keeps
after_keeps n parts AtEntry s table rest well = entry_begins n parts s table rest well
after_keeps n parts (AtDelta i d u) s table rest well = delta_keeps n parts i d u s table.0 (table.1, table.2, table.3)
    rest well
after_keeps n parts (InLists e seen) s table rest well = lists_keep n parts e seen s table.0 table.1 rest well
after_keeps n parts (InTexts e) s table rest well = texts_keep n parts e s table.0 table.1 rest
after_keeps n parts InUsers s table rest well = users_keep n parts s table rest well
after_keeps n parts InFlags s table rest well = flags_keep n parts s table rest well
after_keeps n parts InDescription s table rest well = description_keeps n parts s table rest well
after_keeps n parts AtBody s table rest well = tt

heard_keeps : (n : ℕ) (r : HeaderParser) (o : Option LineToken) → Keeps r → IfSome o IsValidToken
    → IfOk (accepted n r o) Keeps
heard_keeps n r None keeps well = tt
heard_keeps n r (Some s) keeps well = after_keeps n r.parts r.state s keeps.0 keeps.1 well

line_so : (n : ℕ) (r : HeaderParser) (line : List ℕ) → Keeps r → IfOk (line_after n r line) Keeps
unfolding line_after
line_so n r line keeps = heard_keeps n r (token line) keeps (token_well line)

pub line_keeps : (n : ℕ) (r s : HeaderParser) (line : List ℕ) → line_after n r line ≡ Ok s → Keeps r → Keeps s
line_keeps n r s line is keeps = rw is at (line_so n r line keeps)

-- ---- all lines

pub start_keeps : Keeps start
start_keeps =
    (record { falls = tt; rows = tt; sids = refl; lines = refl }, (tt, tt, refl, tt))

whole_table : (p : HeaderState) (t : Entries) → is_whole p ≡ true → KeepsTable p t → IsTable t.records
whole_table AtBody t is keeps = keeps
whole_table _ t is keeps = cc

pub whole_keeps : (s : HeaderParser) → is_whole s.state ≡ true → Keeps s → KeepsRules (header_of s)
whole_keeps s is keeps = record {
  table = whole_table s.state s.parts.table is keeps.0;
  flags = keeps.1.1;
  letters = keeps.1.2;
  users = keeps.1.0;
  description = keeps.1.3;
}

rules_kept : Kept (λ line. Unit {0}) Keeps KeepsRules
rules_kept = record { line = λ n r line any keeps. line_so n r line keeps; whole = whole_keeps }

any_lines : (lines : List (List ℕ)) → AllByRecursion (λ line. Unit {0}) lines
any_lines [] = tt
any_lines (line ∷ lines) = (tt, any_lines lines)

pub lines_keep_rules : (n : ℕ) (lines : List (List ℕ)) (p : ParsedFront) → front_from n start lines ≡ Ok p
    → KeepsRules p.header
lines_keep_rules n lines p is =
    rw is at (lines_keep (λ line. Unit {0}) Keeps KeepsRules rules_kept n start lines (any_lines lines) start_keeps)
