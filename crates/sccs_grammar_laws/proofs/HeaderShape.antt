-- What is read of a header has the shape of one, by what its lines say.
use Rattle.std.proofs.Common.{◌≡◌, ℕ, suc, Bool, true, false, not, ◌&&◌, ◌||◌, List, [], ◌∷◌, ◌++◌, map, Option, None}
use Rattle.std.proofs.Common.{Some, Result, Ok, Err, refl, sym, ap, subst, ◌∙◌, append-nil, append_assoc}
use Rattle.std.specs.Option.{IfSome}
use Rattle.std.specs.List.{AllByRecursion, IsDistinct, list_any, flat_map}
use Rattle.std.proofs.lemmas.Bool.{and_parts, or_parts, not-true}
use Rattle.sccs_sid.specs.Reading.{◌>>=◌}
use Rattle.sccs_tokens.proofs.TokenRules.{KindsKeep, each_of_kinds, line_keeps}
use Rattle.sccs_history.specs.Numbers.{is_empty, share}
use Rattle.sccs_history.specs.History.{is_new}
use Rattle.sccs_history.specs.declared.headers.Record.{Record}
use Rattle.sccs_history.specs.declared.headers.Flag.{Flag}
use Rattle.sccs_history.specs.declared.headers.Header.{Header}
use Rattle.sccs_grammar.specs.Entries.{with_entry}
use Rattle.sccs_grammar.specs.Front.{ParsedFront, after, all_below, at_delta, at_entry, ends_table, entry, flag_fits}
use Rattle.sccs_grammar.specs.Front.{front_from, header_of, if_fits, in_description, in_flags, in_lists, in_texts}
use Rattle.sccs_grammar.specs.Front.{in_users, is_whole, dangling_predecessor, may_follow, none_seen, parser_at, start}
use Rattle.sccs_grammar.specs.Front.{with_comment, with_list, with_mr, put_list, seen_with}
use Rattle.sccs_tokens.specs.Tokens.{token}
use Rattle.sccs_tokens.specs.Written.{delta_part}
use Rattle.sccs_grammar.specs.declared.header_parsers.TableEntry.{TableEntry}
use Rattle.sccs_grammar.specs.declared.header_parsers.PartialHeader.{PartialHeader}
use Rattle.sccs_grammar.specs.declared.header_parsers.HeaderState.{HeaderState}
use Rattle.sccs_grammar.specs.declared.header_parsers.HeaderState.TheVariants.{AtEntry, AtDelta, InLists, InTexts}
use Rattle.sccs_grammar.specs.declared.header_parsers.HeaderState.TheVariants.{InUsers, InFlags, InDescription, AtBody}
use Rattle.sccs_grammar.specs.declared.header_parsers.HeaderParser.{HeaderParser}
use Rattle.sccs_grammar.specs.declared.header_parsers.ListsSeen.{ListsSeen}
use Rattle.sccs_tokens.specs.declared.line_tokens.LineToken.{LineToken}
use Rattle.sccs_tokens.specs.declared.line_tokens.LineToken.TheVariants.{Counts, Delta, Listed, Mr, Comment, EndEntry}
use Rattle.sccs_tokens.specs.declared.line_tokens.LineToken.TheVariants.{Users, EndUsers, FlagIs, Description}
use Rattle.sccs_tokens.specs.declared.line_tokens.LineToken.TheVariants.{EndDescription, Plain}
use Rattle.sccs_tokens.specs.declared.line_tokens.ListKind.{ListKind}
use Rattle.sccs_tokens.specs.declared.line_tokens.ListKind.TheVariants.{Included, Excluded, Ignored}
use Rattle.sccs_grammar_laws.specs.HeaderLines.{BeginWithHeader, EntryText, MrText, CommentText, EntryLines, IsEntry}
use Rattle.sccs_grammar_laws.specs.HeaderLines.{serials_listed, same_list, mrs_in, comments_in, list_says, text_says}
use Rattle.sccs_grammar_laws.specs.HeaderLines.{entry_says, users_say, description_says, header_says}
use Rattle.sccs_grammar_laws.proofs.MoreRead.{more, no_texts, regroup, text_row}
use Rattle.sccs_grammar_laws.proofs.TokenLists.{Found, found as found_sayings, run, same_first}
use Rattle.sccs_grammar.proofs.SectionLaws.{push_more}

-- ---- shapes of what follows, by place

-- the rest of a description
record DescriptionShape (parts : PartialHeader) (ss : List LineToken) (h : Header) : Type 0 where
  lines : List (List ℕ)
  say : ss ≡ map Plain lines ++ (EndDescription ∷ [])
  header : h ≡ record {
    records = parts.table.records;
    users = parts.users;
    flags = parts.flags;
    description =
        parts.description ++ lines;
  }

-- flags, and a description
record FlagsShape (parts : PartialHeader) (ss : List LineToken) (h : Header) : Type 0 where
  flags : List Flag
  lines : List (List ℕ)
  say : ss ≡ map FlagIs flags ++ (Description ∷ (map Plain lines ++ (EndDescription ∷ [])))
  header : h ≡ record {
    records = parts.table.records;
    users = parts.users;
    flags = parts.flags ++ flags;
    description =
        parts.description ++ lines;
  }

record UsersShape (parts : PartialHeader) (ss : List LineToken) (h : Header) : Type 0 where
  users : List (List ℕ)
  flags : List Flag
  lines : List (List ℕ)
  say : ss ≡ map Plain users ++ (EndUsers ∷ (map FlagIs flags ++ description_says lines))
  header : h ≡ record {
    records = parts.table.records;
    users = parts.users ++ users;
    flags = parts.flags ++ flags;
    description = parts.description ++ lines;
  }

abbrev after_table : List (List ℕ) → List Flag → List (List ℕ) → List LineToken
after_table users flags lines = users_say users ++ (map FlagIs flags ++ description_says lines)

-- entries, and all that follows
record TableShape (parts : PartialHeader) (ss : List LineToken) (h : Header) : Type 0 where
  entries : List EntryLines
  each : AllByRecursion IsEntry entries
  users : List (List ℕ)
  flags : List Flag
  lines : List (List ℕ)
  say : ss ≡ flat_map entry_says entries ++ after_table users flags lines
  header : h ≡ record {
    records = parts.table.records ++ map (λ e. e.row) entries;
    users = parts.users ++ users;
    flags =
        parts.flags ++ flags;
    description = parts.description ++ lines;
  }

record TextsShape (parts : PartialHeader) (e : TableEntry) (ss : List LineToken) (h : Header) : Type 0 where
  texts : List EntryText
  rest : List LineToken
  say : ss ≡ map text_says texts ++ (EndEntry ∷ rest)
  table : TableShape (more parts e.line (text_row e.row texts)) rest h

abbrev without_lists : Record → Record
without_lists r = record r { include = []; exclude = []; ignore = [] }

abbrev stood_has : ListsSeen → ListKind → Bool
stood_has seen Included = seen.included
stood_has seen Excluded = seen.excluded
stood_has seen Ignored = seen.ignored

record ListsShape (parts : PartialHeader) (e : TableEntry) (seen : ListsSeen) (ss : List LineToken) (h : Header) : Type
    0 where
  row : Record
  lists : List ListKind
  texts : List EntryText
  rest : List LineToken
  once : IsDistinct same_list lists
  free : (which : ListKind) → stood_has seen which ≡ true → list_any (same_list which) lists ≡ false
  others : (which : ListKind) → list_any (same_list which) lists ≡ false → serials_listed row which
      ≡ serials_listed e.row which
  same : without_lists row ≡ without_lists (text_row e.row texts)
  say : ss ≡ map (list_says row) lists ++ (map text_says texts ++ (EndEntry ∷ rest))
  table : TableShape (more parts e.line row) rest h

record DeltaShape (parts : PartialHeader) (i d u : ℕ) (ss : List LineToken) (h : Header) : Type 0 where
  entry : EntryLines
  is : IsEntry entry
  counts : (entry.row.inserted ≡ i) × (entry.row.deleted ≡ d) × (entry.row.unchanged ≡ u)
  line : ℕ
  rest : List LineToken
  say : ss ≡ Delta (delta_part entry.row) ∷ (map (list_says entry.row) entry.lists ++ (map text_says entry.texts
      ++ (EndEntry ∷ rest)))
  table : TableShape (more parts line entry.row) rest h

abbrev ShapeAt : HeaderState → PartialHeader → List LineToken → Header → Type 0
ShapeAt AtEntry parts ss h = TableShape parts ss h
ShapeAt (AtDelta i d u) parts ss h = DeltaShape parts i d u ss h
ShapeAt (InLists e seen) parts ss h = ListsShape parts e seen ss h
ShapeAt (InTexts e) parts ss h = TextsShape parts e ss h
ShapeAt InUsers parts ss h = UsersShape parts ss h
ShapeAt InFlags parts ss h = FlagsShape parts ss h
ShapeAt InDescription parts ss h = DescriptionShape parts ss h
ShapeAt AtBody parts ss h = (ss ≡ []) × (h ≡ header_of (parser_at AtBody parts))

-- what a delta line says has neither lists nor MRs, comments and counts
abbrev pub IsBare : LineToken → Type 0
IsBare (Delta r) = delta_part r ≡ r
IsBare _ = Unit {0}

-- ---- one line

no_error : {P : Type 0} (n : ℕ) (q : HeaderParser) → ◌≡◌ {A = Result HeaderParser ℕ} (Err n) (Ok q) → P
no_error n q same = absurd (never same)
  where
    never : ◌≡◌ {A = Result HeaderParser ℕ} (Err n) (Ok q) → ⊥
    never same = cc

only_ok : (x q : HeaderParser) → ◌≡◌ {A = Result HeaderParser ℕ} (Ok x) (Ok q) → q ≡ x
only_ok x q same = cc

fits_ok : (test : Bool) (n : ℕ) (x q : HeaderParser) → if_fits test n x ≡ Ok q → (test ≡ true) × (q ≡ x)
fits_ok true n x q same = (refl, only_ok x q same)
fits_ok false n x q same = no_error n q same

-- a shape at what was read with the line
at_read : (q x : HeaderParser) (ss : List LineToken) (h : Header) → q ≡ x → ShapeAt q.state q.parts ss h
    → ShapeAt x.state x.parts ss h
at_read q x ss h same shape = subst (λ (r : HeaderParser). ShapeAt r.state r.parts ss h) same shape

-- the description
abbrev header_by : PartialHeader → List (List ℕ) → List Flag → List (List ℕ) → Header
header_by parts users flags lines = record {
  records = parts.table.records;
  users = users;
  flags = flags;
  description =
      lines;
}

description_line : (n : ℕ) (parts : PartialHeader) (s : LineToken) (q : HeaderParser) (ss : List LineToken) (h : Header)
    → in_description n parts s ≡ Ok q → ShapeAt q.state q.parts ss h → DescriptionShape parts (s ∷ ss) h
description_line n parts (Plain t) q ss h is shape =
    let later = at_read q (parser_at InDescription (record parts { description = parts.description ++ t ∷ [] })) ss h
    (only_ok _ q is) shape in
    record {
      lines = t ∷ later.lines;
      say = ap (λ (os : List LineToken). Plain t ∷ os) later.say;
      header = later.header ∙ ap (header_by parts parts.users parts.flags) (push_more parts.description t later.lines);
    }
description_line n parts EndDescription q ss h is shape =
    let later = at_read q (parser_at AtBody parts) ss h (only_ok _ q is) shape in
    record {
      lines = [];
      say = ap (λ (os : List LineToken). EndDescription ∷ os) later.0;
      header = later.1 ∙ ap (header_by parts parts.users parts.flags) (sym (append-nil parts.description));
    }
description_line n parts _ q ss h is shape = no_error n q is

flags_line : (n : ℕ) (parts : PartialHeader) (s : LineToken) (q : HeaderParser) (ss : List LineToken) (h : Header)
    → in_flags n parts s ≡ Ok q → ShapeAt q.state q.parts ss h → FlagsShape parts (s ∷ ss) h
flags_line n parts (FlagIs f) q ss h is shape =
    let fits = fits_ok (flag_fits f && is_new parts.flags f) n _ q is in
    let later = at_read q (parser_at InFlags (record parts { flags = parts.flags ++ f ∷ [] })) ss h fits.1 shape in
    record {
      flags = f ∷ later.flags;
      lines = later.lines;
      say = ap (λ (os : List LineToken). FlagIs f ∷ os) later.say;
      header = later.header ∙ ap (λ (fs : List Flag). header_by parts parts.users fs (parts.description ++ later.lines))
          (push_more parts.flags f later.flags);
    }
flags_line n parts Description q ss h is shape =
    let later = at_read q (parser_at InDescription parts) ss h (only_ok _ q is) shape in
    record {
      flags = [];
      lines = later.lines;
      say = ap (λ (os : List LineToken). Description ∷ os) later.say;
      header = later.header ∙ ap (λ (fs : List Flag). header_by parts parts.users fs (parts.description ++ later.lines))
          (sym (append-nil parts.flags));
    }
flags_line n parts _ q ss h is shape = no_error n q is

users_line : (n : ℕ) (parts : PartialHeader) (s : LineToken) (q : HeaderParser) (ss : List LineToken) (h : Header)
    → in_users n parts s ≡ Ok q → ShapeAt q.state q.parts ss h → UsersShape parts (s ∷ ss) h
users_line n parts (Plain t) q ss h is shape =
    let later = at_read q (parser_at InUsers (record parts { users = parts.users ++ t ∷ [] })) ss h
    (only_ok _ q is) shape in
    record {
      users = t ∷ later.users;
      flags = later.flags;
      lines = later.lines;
      say = ap (λ (os : List LineToken). Plain t ∷ os) later.say;
      header = later.header ∙ ap (λ (us : List (List ℕ)). header_by parts us (parts.flags ++ later.flags)
          (parts.description ++ later.lines)) (push_more parts.users t later.users);
    }
users_line n parts EndUsers q ss h is shape =
    let later = at_read q (parser_at InFlags parts) ss h (only_ok _ q is) shape in
    record {
      users = [];
      flags = later.flags;
      lines = later.lines;
      say = ap (λ (os : List LineToken). EndUsers ∷ os) later.say;
      header = later.header ∙ ap (λ (us : List (List ℕ)). header_by parts us (parts.flags ++ later.flags)
          (parts.description ++ later.lines)) (sym (append-nil parts.users));
    }
users_line n parts _ q ss h is shape = no_error n q is

-- ---- the lines of an entry

at_row : (parts : PartialHeader) (line : ℕ) (r s : Record) (ss : List LineToken) (h : Header) → r ≡ s
    → TableShape (more parts line r) ss h → TableShape (more parts line s) ss h
at_row parts line r s ss h same table = subst (λ (x : Record). TableShape (more parts line x) ss h) same table

texts_line : (n : ℕ) (parts : PartialHeader) (e : TableEntry) (s : LineToken) (q : HeaderParser) (ss : List LineToken)
    (h : Header) → in_texts n parts e s ≡ Ok q → ShapeAt q.state q.parts ss h → TextsShape parts e (s ∷ ss) h
texts_line n parts e (Mr t) q ss h is shape =
    let later = at_read q (parser_at (InTexts (with_mr e t)) parts) ss h (only_ok _ q is) shape in
    record {
      texts = MrText t ∷ later.texts;
      rest = later.rest;
      say = ap (λ (os : List LineToken). Mr t ∷ os) later.say;
      table = at_row parts e.line (text_row (with_mr e t).row later.texts) (text_row e.row (MrText t ∷ later.texts))
          later.rest h
          (ap (λ (ms : List (List ℕ)). record e.row { mrs = ms; comments = e.row.comments ++ comments_in later.texts })
          (push_more e.row.mrs t (mrs_in later.texts))) later.table;
    }
texts_line n parts e (Comment t) q ss h is shape =
    let later = at_read q (parser_at (InTexts (with_comment e t)) parts) ss h (only_ok _ q is) shape in
    record {
      texts = CommentText t ∷ later.texts;
      rest = later.rest;
      say = ap (λ (os : List LineToken). Comment t ∷ os) later.say;
      table = at_row parts e.line (text_row (with_comment e t).row later.texts)
          (text_row e.row (CommentText t ∷ later.texts)) later.rest h
          (ap (λ (cs : List (List ℕ)). record e.row { mrs = e.row.mrs ++ mrs_in later.texts; comments = cs })
          (push_more e.row.comments t (comments_in later.texts))) later.table;
    }
texts_line n parts e EndEntry q ss h is shape =
    let later = at_read q (parser_at AtEntry (record parts { table = with_entry parts.table e })) ss h
    (only_ok _ q is) shape in
    record {
      texts = [];
      rest = ss;
      say = refl;
      table = at_row parts e.line e.row (text_row e.row []) ss h (no_texts e.row) later;
    }
texts_line n parts e _ q ss h is shape = no_error n q is

same_lists : (r : Record) (texts : List EntryText) (which : ListKind) → serials_listed (text_row r texts) which
    ≡ serials_listed r which
same_lists r texts Included = refl
same_lists r texts Excluded = refl
same_lists r texts Ignored = refl

-- no list comes, and then MRs and comments
no_lists : (parts : PartialHeader) (e : TableEntry) (seen : ListsSeen) (ss : List LineToken) (h : Header)
    → TextsShape parts e ss h → ListsShape parts e seen ss h
unfolding IsDistinct
no_lists parts e seen ss h shape = record {
  row = text_row e.row shape.texts;
  lists = [];
  texts = shape.texts;
  rest = shape.rest;
  once = tt;
  free = λ which has. refl;
  others = λ which none. same_lists e.row shape.texts which;
  same = refl;
  say = shape.say;
  table = shape.table;
}

list_read : (which : ListKind) (ns : List ℕ) (n : ℕ) (parts : PartialHeader) (e : TableEntry) (seen : ListsSeen)
    (q : HeaderParser) → with_list n parts e seen which ns ≡ Ok q
    → (stood_has seen which ≡ false) × (q ≡ parser_at (InLists (put_list e which ns) (seen_with seen which)) parts)
list_read Included ns n parts e seen q is =
    let fits = fits_ok (not seen.included && all_below e.row.serial ns && not (share ns e.row.exclude)) n _ q is in
    let tests = and_parts (not seen.included && all_below e.row.serial ns) (not (share ns e.row.exclude)) fits.0 in
    (not-true seen.included (and_parts (not seen.included) (all_below e.row.serial ns) tests.0).0, fits.1)
list_read Excluded ns n parts e seen q is =
    let fits = fits_ok (not seen.excluded && all_below e.row.serial ns && not (share ns e.row.include)) n _ q is in
    let tests = and_parts (not seen.excluded && all_below e.row.serial ns) (not (share ns e.row.include)) fits.0 in
    (not-true seen.excluded (and_parts (not seen.excluded) (all_below e.row.serial ns) tests.0).0, fits.1)
list_read Ignored ns n parts e seen q is =
    let fits = fits_ok (not seen.ignored && all_below e.row.serial ns) n _ q is in
    (not-true seen.ignored (and_parts (not seen.ignored) (all_below e.row.serial ns) fits.0).0, fits.1)

set_same : (e : TableEntry) (which : ListKind) (ns : List ℕ) → serials_listed (put_list e which ns).row which ≡ ns
set_same e Included ns = refl
set_same e Excluded ns = refl
set_same e Ignored ns = refl

set_other : (e : TableEntry) (w which : ListKind) (ns : List ℕ) → same_list w which ≡ false
    → serials_listed (put_list e which ns).row w ≡ serials_listed e.row w
set_other e Included Included ns other = absurd cc
set_other e Included Excluded ns other = refl
set_other e Included Ignored ns other = refl
set_other e Excluded Included ns other = refl
set_other e Excluded Excluded ns other = absurd cc
set_other e Excluded Ignored ns other = refl
set_other e Ignored Included ns other = refl
set_other e Ignored Excluded ns other = refl
set_other e Ignored Ignored ns other = absurd cc

set_line : (e : TableEntry) (which : ListKind) (ns : List ℕ) → (put_list e which ns).line ≡ e.line
set_line e Included ns = refl
set_line e Excluded ns = refl
set_line e Ignored ns = refl

set_rest : (e : TableEntry) (which : ListKind) (ns : List ℕ) (texts : List EntryText)
    → without_lists (text_row (put_list e which ns).row texts) ≡ without_lists (text_row e.row texts)
set_rest e Included ns texts = refl
set_rest e Excluded ns texts = refl
set_rest e Ignored ns texts = refl

stands_now : (seen : ListsSeen) (which : ListKind) → stood_has (seen_with seen which) which ≡ true
stands_now seen Included = refl
stands_now seen Excluded = refl
stands_now seen Ignored = refl

stands_still : (seen : ListsSeen) (w which : ListKind) → stood_has seen w ≡ true → stood_has (seen_with seen which) w
    ≡ true
stands_still seen Included Included has = refl
stands_still seen Included Excluded has = has
stands_still seen Included Ignored has = has
stands_still seen Excluded Included has = has
stands_still seen Excluded Excluded has = refl
stands_still seen Excluded Ignored has = has
stands_still seen Ignored Included has = has
stands_still seen Ignored Excluded has = has
stands_still seen Ignored Ignored has = refl

same_kind : (seen : ListsSeen) (w which : ListKind) → same_list w which ≡ true → stood_has seen w ≡ stood_has seen which
same_kind seen Included Included is = refl
same_kind seen Excluded Excluded is = refl
same_kind seen Ignored Ignored is = refl
same_kind seen Included Excluded is = absurd cc
same_kind seen Included Ignored is = absurd cc
same_kind seen Excluded Included is = absurd cc
same_kind seen Excluded Ignored is = absurd cc
same_kind seen Ignored Included is = absurd cc
same_kind seen Ignored Excluded is = absurd cc

none_same : (which : ListKind) (lists : List ListKind) → list_any (same_list which) lists ≡ false
    → AllByRecursion (λ w. same_list which w ≡ false) lists
none_same which [] none = tt
none_same which (w ∷ lists) none = let parts = or_parts (same_list which w) (list_any (same_list which) lists) none in
    (parts.0, none_same which lists parts.1)

still_free : (seen : ListsSeen) (which w : ListKind) (lists : List ListKind) (test : Bool) → same_list w which ≡ test
    → stood_has seen which ≡ false → stood_has seen w ≡ true → list_any (same_list w) lists ≡ false
    → (test || list_any (same_list w) lists) ≡ false
still_free seen which w lists true is gone has none = absurd (both (sym has ∙ (same_kind seen w which is ∙ gone)))
  where
    both : ◌≡◌ {A = Bool} true false → ⊥
    both same = cc
still_free seen which w lists false is gone has none = none

list_line : (n : ℕ) (parts : PartialHeader) (e : TableEntry) (seen : ListsSeen) (which : ListKind) (ns : List ℕ)
    (q : HeaderParser) (ss : List LineToken) (h : Header) → with_list n parts e seen which ns ≡ Ok q
    → ShapeAt q.state q.parts ss h
    → ListsShape parts e seen (Listed which ns ∷ ss) h
unfolding IsDistinct
list_line n parts e seen which ns q ss h is shape =
    let read = list_read which ns n parts e seen q is in
    let later : ListsShape parts (put_list e which ns) (seen_with seen which) ss h =
    at_read q (parser_at (InLists (put_list e which ns) (seen_with seen which)) parts) ss h read.1 shape in
    let none : list_any (same_list which) later.lists ≡ false = later.free which (stands_now seen which) in
    let numbers : serials_listed later.row which ≡ ns = later.others which none ∙ set_same e which ns in
    record {
      row = later.row;
      lists = which ∷ later.lists;
      texts = later.texts;
      rest = later.rest;
      once = (none_same which later.lists none, later.once);
      free = λ w has. still_free seen which w later.lists (same_list w which) refl read.0 has
          (later.free w (stands_still seen w which has));
      others = λ w gone.
          let tests = or_parts (same_list w which) (list_any (same_list w) later.lists) gone in
          later.others w tests.1 ∙ set_other e w which ns tests.0;
      same = later.same ∙ set_rest e which ns later.texts;
      say = ap (λ (os : List LineToken). Listed which ns ∷ os) later.say
          ∙ ap (λ (ms : List ℕ). Listed which ms ∷ (map (list_says later.row) later.lists ++ (map text_says later.texts
          ++ (EndEntry ∷ later.rest)))) (sym numbers);
      table = subst (λ (line : ℕ). TableShape (more parts line later.row) later.rest h) (set_line e which ns)
          later.table;
    }

lists_line : (n : ℕ) (parts : PartialHeader) (e : TableEntry) (seen : ListsSeen) (s : LineToken) (q : HeaderParser)
    (ss : List LineToken) (h : Header) → in_lists n parts e seen s ≡ Ok q → ShapeAt q.state q.parts ss h
    → ListsShape parts e seen (s ∷ ss) h
lists_line n parts e seen (Listed which ns) q ss h is shape = list_line n parts e seen which ns q ss h is shape
lists_line n parts e seen s q ss h is shape = no_lists parts e seen (s ∷ ss) h (texts_line n parts e s q ss h is shape)

bare_list : (r : Record) (which : ListKind) → delta_part r ≡ r → serials_listed r which ≡ []
bare_list r Included bare = sym (ap (λ (x : Record). x.include) bare)
bare_list r Excluded bare = sym (ap (λ (x : Record). x.exclude) bare)
bare_list r Ignored bare = sym (ap (λ (x : Record). x.ignore) bare)

counted_list : (n i d u : ℕ) (r : Record) (which : ListKind) → serials_listed (entry n i d u r).row which
    ≡ serials_listed r which
counted_list n i d u r Included = refl
counted_list n i d u r Excluded = refl
counted_list n i d u r Ignored = refl

delta_line : (n : ℕ) (parts : PartialHeader) (i d u : ℕ) (s : LineToken) (q : HeaderParser) (ss : List LineToken)
    (h : Header) → IsBare s → at_delta n parts i d u s ≡ Ok q → ShapeAt q.state q.parts ss h
    → DeltaShape parts i d u (s ∷ ss) h
delta_line n parts i d u (Delta r) q ss h bare is shape =
    let fits = fits_ok (may_follow r parts.table.records) n _ q is in
    let later : ListsShape parts (entry n i d u r) none_seen ss h =
    at_read q (parser_at (InLists (entry n i d u r) none_seen) parts) ss h fits.1 shape in
    let row : without_lists later.row ≡ without_lists (text_row (entry n i d u r).row later.texts) = later.same in
    record {
      entry = record { row = later.row; lists = later.lists; texts = later.texts };
      is = record {
        once = later.once;
        others = λ which none. later.others which none ∙ (counted_list n i d u r which ∙ bare_list r which bare);
        mrs = sym (ap (λ (x : Record). x.mrs) row ∙ ap (λ (x : Record). x.mrs ++ mrs_in later.texts) (sym bare));
        comments = sym (ap (λ (x : Record). x.comments) row ∙ ap (λ (x : Record). x.comments ++ comments_in later.texts)
            (sym bare));
      };
      counts = (
        ap (λ (x : Record). x.inserted) row,
        ap (λ (x : Record). x.deleted) row,
        ap (λ (x : Record). x.unchanged) row,
      );
      line = n;
      rest = later.rest;
      say = ap (λ (os : List LineToken). Delta r ∷ os) later.say
          ∙ ap (λ (x : Record). Delta x ∷ (map (list_says later.row) later.lists ++ (map text_says later.texts
          ++ (EndEntry ∷ later.rest)))) (sym (ap delta_part row ∙ bare));
      table = later.table;
    }
delta_line n parts i d u _ q ss h bare is shape = no_error n q is

-- ---- the table

abbrev counts_says : ℕ → ℕ → ℕ → List LineToken → List LineToken
counts_says i d u os = Counts i d u ∷ os

entry_line : (parts : PartialHeader) (i d u : ℕ) (ss : List LineToken) (h : Header) → DeltaShape parts i d u ss h
    → TableShape parts (Counts i d u ∷ ss) h
entry_line parts i d u ss h first =
    let e : EntryLines = first.entry in
    let later : TableShape (more parts first.line e.row) first.rest h = first.table in
    let lists : List LineToken = map (list_says e.row) e.lists in
    let texts : List LineToken = map text_says e.texts in
    let others : List LineToken = flat_map entry_says later.entries in
    let last : List LineToken = after_table later.users later.flags later.lines in
    let says : ss ≡ Delta (delta_part e.row) ∷ (lists ++ (texts ++ (EndEntry ∷ (others ++ last)))) =
    first.say ∙ ap (λ (os : List LineToken). Delta (delta_part e.row) ∷ (lists ++ (texts ++ (EndEntry ∷ os))))
    later.say in
    record {
      entries = e ∷ later.entries;
      each = (first.is, later.each);
      users = later.users;
      flags = later.flags;
      lines = later.lines;
      say = ap (counts_says i d u) says
          ∙ (ap (λ (k : ℕ). counts_says k d u
          (Delta (delta_part e.row) ∷ (lists ++ (texts ++ (EndEntry ∷ (others ++ last)))))) (sym first.counts.0)
          ∙ (ap (λ (k : ℕ). counts_says e.row.inserted k u
          (Delta (delta_part e.row) ∷ (lists ++ (texts ++ (EndEntry ∷ (others ++ last)))))) (sym first.counts.1)
          ∙ (ap (λ (k : ℕ). counts_says e.row.inserted e.row.deleted k
          (Delta (delta_part e.row) ∷ (lists ++ (texts ++ (EndEntry ∷ (others ++ last)))))) (sym first.counts.2)
          ∙ ap (λ (os : List LineToken). Counts e.row.inserted e.row.deleted e.row.unchanged ∷ Delta (delta_part e.row)
          ∷ os) (sym (append_assoc (lists ++ (texts ++ (EndEntry ∷ []))) others last
          ∙ regroup lists texts (others ++ last) EndEntry)))));
      header = later.header ∙ ap (λ (rs : List Record). record {
        records = rs;
        users = parts.users ++ later.users;
        flags = parts.flags ++ later.flags;
        description = parts.description ++ later.lines;
      })
          (push_more parts.table.records e.row (map (λ x. x.row) later.entries));
    }

users_begin : (n : ℕ) (parts : PartialHeader) (o : Option ℕ) (q : HeaderParser) → ends_table n parts o ≡ Ok q
    → q ≡ parser_at InUsers parts
users_begin n parts (Some line) q is = no_error line q is
users_begin n parts None q is = (fits_ok (not (is_empty parts.table.records)) n (parser_at InUsers parts) q is).1

table_ends : (parts : PartialHeader) (ss : List LineToken) (h : Header) → UsersShape parts ss h
    → TableShape parts (Users ∷ ss) h
table_ends parts ss h later =
    record {
      entries = [];
      each = tt;
      users = later.users;
      flags = later.flags;
      lines = later.lines;
      say = ap (λ (os : List LineToken). Users ∷ os) (later.say
          ∙ sym (append_assoc (map Plain later.users) (EndUsers ∷ []) (map FlagIs later.flags
          ++ description_says later.lines)));
      header = later.header ∙ ap (λ (rs : List Record). record {
        records = rs;
        users = parts.users ++ later.users;
        flags = parts.flags ++ later.flags;
        description = parts.description ++ later.lines;
      })
          (sym (append-nil parts.table.records));
    }

table_line : (n : ℕ) (parts : PartialHeader) (s : LineToken) (q : HeaderParser) (ss : List LineToken) (h : Header)
    → at_entry n parts s ≡ Ok q → ShapeAt q.state q.parts ss h → TableShape parts (s ∷ ss) h
table_line n parts (Counts i d u) q ss h is shape =
    entry_line parts i d u ss h (at_read q (parser_at (AtDelta i d u) parts) ss h (only_ok _ q is) shape)
table_line n parts Users q ss h is shape =
    table_ends parts ss h (at_read q (parser_at InUsers parts) ss h
    (users_begin n parts (dangling_predecessor parts.table.records parts.table.records parts.table.lines) q is)
    shape)
table_line n parts _ q ss h is shape = no_error n q is

-- ---- all lines

line_at : (state : HeaderState) (n : ℕ) (parts : PartialHeader) (s : LineToken) (q : HeaderParser) (ss : List LineToken)
    (h : Header) → IsBare s → after n parts state s ≡ Ok q → ShapeAt q.state q.parts ss h
    → ShapeAt state parts (s ∷ ss) h
line_at AtEntry n parts s q ss h bare is shape = table_line n parts s q ss h is shape
line_at (AtDelta i d u) n parts s q ss h bare is shape = delta_line n parts i d u s q ss h bare is shape
line_at (InLists e seen) n parts s q ss h bare is shape = lists_line n parts e seen s q ss h is shape
line_at (InTexts e) n parts s q ss h bare is shape = texts_line n parts e s q ss h is shape
line_at InUsers n parts s q ss h bare is shape = users_line n parts s q ss h is shape
line_at InFlags n parts s q ss h bare is shape = flags_line n parts s q ss h is shape
line_at InDescription n parts s q ss h bare is shape = description_line n parts s q ss h is shape
line_at AtBody n parts s q ss h bare is shape = no_error n q is

whole_shape : (state : HeaderState) (parts : PartialHeader) → is_whole state ≡ true
    → ShapeAt state parts [] (header_of (parser_at state parts))
whole_shape AtBody parts is = (refl, refl)
whole_shape _ parts is = absurd cc

by_read : (read : Result HeaderParser ℕ) (n : ℕ) (r t : HeaderParser) (s : LineToken) (ss : List LineToken) → IsBare s
    → after n r.parts r.state s ≡ read → (read >>= λ q. run (suc n) q ss) ≡ Ok t
    → ((q : HeaderParser) → run (suc n) q ss ≡ Ok t → ShapeAt q.state q.parts ss (header_of t))
    → ShapeAt r.state r.parts (s ∷ ss) (header_of t)
by_read (Err k) n r t s ss bare is ran later = no_error k t ran
by_read (Ok q) n r t s ss bare is ran later = line_at r.state n r.parts s q ss (header_of t) bare is (later q ran)

shape : (ss : List LineToken) (n : ℕ) (r t : HeaderParser) → AllByRecursion IsBare ss → run n r ss ≡ Ok t
    → is_whole t.state ≡ true → ShapeAt r.state r.parts ss (header_of t)
shape [] n r t bare ran whole =
    let same : t ≡ r = only_ok r t ran in
    at_read t r [] (header_of t) same (whole_shape t.state t.parts whole)
shape (s ∷ ss) n r t bare ran whole =
    by_read (after n r.parts r.state s) n r t s ss bare.0 refl ran (λ q ran_on. shape ss (suc n) q t bare.1 ran_on
    whole)

-- ---- what a line says of a delta

kinds_bare : KindsKeep IsBare
kinds_bare = record {
  counts = λ i d u. tt;
  delta = λ r is. is;
  listed = λ which ns. tt;
  mr = λ t. tt;
  comment = λ t. tt;
  flag = λ f. tt;
  end_entry = tt;
  users = tt;
  end_users = tt;
  description = tt;
  end_description = tt;
}

token_bare : (line : List ℕ) → IfSome (token line) IsBare
token_bare line = line_keeps IsBare line (λ letter bytes. each_of_kinds IsBare letter bytes kinds_bare (λ is n. tt)
    (λ is n. tt) (λ is n. tt)) (λ t is. tt)

lines_bare : (lines : List (List ℕ)) (ss : List LineToken) → map token lines ≡ map Some ss → AllByRecursion IsBare ss
lines_bare lines [] say = tt
lines_bare [] (s ∷ ss) say = absurd (no_line say)
  where
    no_line : map token [] ≡ map Some (s ∷ ss) → ⊥
    no_line same = cc
lines_bare (line ∷ lines) (s ∷ ss) say =
    let first = same_first line lines s ss say in
    (subst (λ (o : Option LineToken). IfSome o IsBare) first.0 (token_bare line), lines_bare lines ss first.1)

-- ---- a header that is read

pub header_shape : (n : ℕ) (lines : List (List ℕ)) (p : ParsedFront) → front_from n start lines ≡ Ok p
    → BeginWithHeader n lines p
header_shape n lines p read =
    let token_by : Found n start lines p = found_sayings lines n start p read in
    let table : TableShape start.parts token_by.line_tokens (header_of token_by.last) =
    shape token_by.line_tokens n start token_by.last (lines_bare token_by.prefix token_by.line_tokens token_by.say)
    token_by.ran token_by.whole in
    let h : Header = record {
      records = map (λ e. e.row) table.entries;
      users = table.users;
      flags = table.flags;
      description = table.lines;
    } in
    let is : p.header ≡ h = token_by.header ∙ table.header in
    record {
      prefix = token_by.prefix;
      split = token_by.split;
      line = token_by.line;
      are = record {
        entries = table.entries;
        each = table.each;
        records = sym (ap (λ (x : Header). x.records) is);
        say = token_by.say ∙ ap (map Some) (table.say ∙ ap (header_says table.entries) (sym is));
      };
    }
