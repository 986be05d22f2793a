-- What has the shape of a header, and keeps the rules, is read.
use Rattle.std.proofs.Common.{◌≡◌, ℕ, suc, ◌+◌, ◌≤◌, ◌==◌, Bool, true, false, not, ◌&&◌, ◌||◌, List, [], ◌∷◌, ◌++◌}
use Rattle.std.proofs.Common.{length, map, Option, Ok, refl, sym, ap, subst, ◌∙◌, arith, cond, append-nil, append_assoc}
use Rattle.std.specs.List.{AllByRecursion, IsDistinct, list_any, flat_map}
use Rattle.std.proofs.lemmas.Bool.{and_parts, or_from, not-true}
use Rattle.sccs_sid.specs.Reading.{◌>>=◌}
use Rattle.sccs_history.specs.Applied.{serials_of}
use Rattle.sccs_history.specs.Numbers.{is_empty, share, Falls}
use Rattle.sccs_history.specs.History.{IsFlag, IsRecord, KeepsRules, has_own_letters, has_own_sids, is_new, lives}
use Rattle.sccs_history.specs.declared.headers.Record.{Record}
use Rattle.sccs_history.specs.declared.headers.Flag.{Flag}
use Rattle.sccs_history.specs.declared.headers.Header.{Header}
use Rattle.sccs_grammar.specs.Front.{ParsedFront, all_below, ends_table, entry, flag_fits, front_from, if_fits, least}
use Rattle.sccs_grammar.specs.Front.{may_follow, none_seen, parser_at, start, table_alone, with_comment, with_mr}
use Rattle.sccs_tokens.specs.Written.{delta_part}
use Rattle.sccs_grammar.specs.declared.header_parsers.TableEntry.{TableEntry}
use Rattle.sccs_grammar.specs.declared.header_parsers.PartialHeader.{PartialHeader}
use Rattle.sccs_grammar.specs.declared.header_parsers.HeaderState.TheVariants.{AtEntry, InLists, InTexts, InUsers}
use Rattle.sccs_grammar.specs.declared.header_parsers.HeaderState.TheVariants.{InFlags, InDescription, AtBody}
use Rattle.sccs_grammar.specs.declared.header_parsers.HeaderParser.{HeaderParser}
use Rattle.sccs_grammar.specs.declared.header_parsers.ListsSeen.{ListsSeen}
use Rattle.sccs_tokens.specs.declared.line_tokens.LineToken.{LineToken}
use Rattle.sccs_tokens.specs.declared.line_tokens.LineToken.TheVariants.{EndEntry, Users, EndUsers, FlagIs}
use Rattle.sccs_tokens.specs.declared.line_tokens.LineToken.TheVariants.{EndDescription, Plain}
use Rattle.sccs_tokens.specs.declared.line_tokens.ListKind.{ListKind}
use Rattle.sccs_tokens.specs.declared.line_tokens.ListKind.TheVariants.{Included, Excluded, Ignored}
use Rattle.sccs_grammar.proofs.EntryLaws.{AreOwn, all_own, each_differs, follows_by, least-push, none_lost, own_push}
use Rattle.sccs_grammar.proofs.EntryLaws.{share-nil, share_flip, smaller_below}
use Rattle.sccs_grammar.proofs.SectionLaws.{AreNew, all_new, still_new, push_more}
use Rattle.sccs_grammar_laws.specs.HeaderLines.{AreHeaderLines, BeginWithHeader, EntryText, MrText, CommentText}
use Rattle.sccs_grammar_laws.specs.HeaderLines.{EntryLines, IsEntry, serials_listed, same_list, mrs_in, comments_in}
use Rattle.sccs_grammar_laws.specs.HeaderLines.{list_says, text_says, entry_says, users_say, description_says}
use Rattle.sccs_grammar_laws.specs.HeaderLines.{header_says}
use Rattle.sccs_grammar_laws.proofs.MoreRead.{more, no_texts, regroup, text_row}
use Rattle.sccs_grammar_laws.proofs.TokenLists.{completes, run}
use Rattle.sccs_base.proofs.Bools.{or_none}

at_other : (n : ℕ) (r s : HeaderParser) (ss : List LineToken) → r ≡ s → run n r ss ≡ run n s ss
at_other n r s ss same = ap (λ (x : HeaderParser). run n x ss) same

-- reading goes from here to there over these line_tokens, whatever follows
abbrev Goes : ℕ → HeaderParser → HeaderParser → List LineToken → Type 0
Goes n r s ss = (rest : List LineToken) → (m : ℕ) × (run n r (ss ++ rest) ≡ run m s rest)

-- ---- users, flags and description

users_go : (us : List (List ℕ)) (n : ℕ) (parts : PartialHeader) → Goes n (parser_at InUsers parts)
    (parser_at InUsers (record parts { users = parts.users ++ us })) (map Plain us)
users_go [] n parts rest = (
  n,
  at_other n _ _ rest (ap (λ (us : List (List ℕ)). parser_at InUsers (record parts { users = us }))
      (sym (append-nil parts.users))),
)
users_go (u ∷ us) n parts rest =
    let later = users_go us (suc n) (record parts { users = parts.users ++ u ∷ [] }) rest in (
      later.0,
      later.1 ∙ at_other later.0 _ _ rest
          (ap (λ (vs : List (List ℕ)). parser_at InUsers (record parts { users = vs })) (push_more parts.users u us)),
    )

description_goes : (ls : List (List ℕ)) (n : ℕ) (parts : PartialHeader) → Goes n (parser_at InDescription parts)
    (parser_at InDescription (record parts { description = parts.description ++ ls })) (map Plain ls)
description_goes [] n parts rest = (
  n,
  at_other n _ _ rest (ap (λ (ls : List (List ℕ)). parser_at InDescription (record parts { description = ls }))
      (sym (append-nil parts.description))),
)
description_goes (l ∷ ls) n parts rest =
    let later = description_goes ls (suc n) (record parts { description = parts.description ++ l ∷ [] }) rest in (
      later.0,
      later.1 ∙ at_other later.0 _ _ rest (ap (λ (vs : List (List ℕ)). parser_at InDescription
          (record parts { description = vs })) (push_more parts.description l ls)),
    )

-- where the test of a line holds
fits_on : (test : Bool) (n : ℕ) (x : HeaderParser) (ss : List LineToken) → test ≡ true
    → (if_fits test n x >>= λ q. run (suc n) q ss) ≡ run (suc n) x ss
fits_on true n x ss is = refl
fits_on false n x ss is = absurd cc

flags_go : (fs : List Flag) (n : ℕ) (parts : PartialHeader) → AllByRecursion IsFlag fs → has_own_letters fs ≡ true
    → AreNew parts.flags fs
    → Goes n (parser_at InFlags parts) (parser_at InFlags (record parts { flags = parts.flags ++ fs })) (map FlagIs fs)
flags_go [] n parts are own new rest = (
  n,
  at_other n _ _ rest (ap (λ (fs : List Flag). parser_at InFlags (record parts { flags = fs }))
      (sym (append-nil parts.flags))),
)
flags_go (f ∷ fs) n parts are own new rest =
    let letters = and_parts (not (list_any (λ g. g.letter == f.letter) fs)) (has_own_letters fs) own in
    let one : PartialHeader = record parts { flags = parts.flags ++ f ∷ [] } in
    let later = flags_go fs (suc n) one are.1 letters.1 (still_new parts.flags f fs new.1 (not-true _ letters.0))
    rest in
    let test : (flag_fits f && is_new parts.flags f) ≡ true = rw (are.0.letter, are.0.text, new.0) refl in (
      later.0,
      fits_on (flag_fits f && is_new parts.flags f) n (parser_at InFlags one) (map FlagIs fs ++ rest) test
          ∙ (later.1 ∙ at_other later.0 _ _ rest
          (ap (λ (gs : List Flag). parser_at InFlags (record parts { flags = gs })) (push_more parts.flags f fs))),
    )

-- ---- an entry

texts_go : (texts : List EntryText) (n : ℕ) (parts : PartialHeader) (e : TableEntry) (rest : List LineToken)
    → (m : ℕ) × (run n (parser_at (InTexts e) parts) (map text_says texts ++ (EndEntry ∷ rest)) ≡ run m
    (parser_at AtEntry (more parts e.line (text_row e.row texts))) rest)
texts_go [] n parts e rest =
    (suc n, at_other (suc n) _ _ rest (ap (λ (r : Record). parser_at AtEntry (more parts e.line r)) (no_texts e.row)))
texts_go (MrText t ∷ texts) n parts e rest =
    let later = texts_go texts (suc n) parts (with_mr e t) rest in (
      later.0,
      later.1 ∙ at_other later.0 _ _ rest
          (ap (λ (ms : List (List ℕ)). parser_at AtEntry
          (more parts e.line (record e.row { mrs = ms; comments = e.row.comments ++ comments_in texts })))
          (push_more e.row.mrs t (mrs_in texts))),
    )
texts_go (CommentText t ∷ texts) n parts e rest =
    let later = texts_go texts (suc n) parts (with_comment e t) rest in (
      later.0,
      later.1 ∙ at_other later.0 _ _ rest
          (ap (λ (cs : List (List ℕ)). parser_at AtEntry
          (more parts e.line (record e.row { mrs = e.row.mrs ++ mrs_in texts; comments = cs })))
          (push_more e.row.comments t (comments_in texts))),
    )

-- no list comes any more
to_texts : (texts : List EntryText) (n : ℕ) (parts : PartialHeader) (e : TableEntry) (seen : ListsSeen)
    (rest : List LineToken)
    → run n (parser_at (InLists e seen) parts) (map text_says texts ++ (EndEntry ∷ rest)) ≡ run n
    (parser_at (InTexts e) parts) (map text_says texts ++ (EndEntry ∷ rest))
to_texts [] n parts e seen rest = refl
to_texts (MrText t ∷ texts) n parts e seen rest = refl
to_texts (CommentText t ∷ texts) n parts e seen rest = refl

abbrev stands : List ListKind → ListKind → Bool
stands done which = list_any (same_list which) done

-- a record of which these lists were read, and neither MRs nor comments
abbrev row_with : Record → List ListKind → Record
row_with r done = record r {
  include = cond (stands done Included) r.include [];
  exclude = cond (stands done Excluded) r.exclude [];
  ignore = cond (stands done Ignored) r.ignore [];
  mrs = [];
  comments = [];
}

abbrev held : ℕ → Record → List ListKind → TableEntry
held line r done = record { line = line; row = row_with r done }

abbrev stood_by : List ListKind → ListsSeen
stood_by done = record {
  included = stands done Included;
  excluded = stands done Excluded;
  ignored =
      stands done Ignored;
}

share_kept : (test : Bool) (ms ns : List ℕ) → share ms ns ≡ false → share ms (cond test ns []) ≡ false
share_kept true ms ns apart = apart
share_kept false ms ns apart = share-nil ms

list_goes : (which : ListKind) (n : ℕ) (parts : PartialHeader) (line : ℕ) (all : List Record) (r : Record)
    (done : List ListKind) (ss : List LineToken) → IsRecord all r → stands done which ≡ false
    → run n (parser_at (InLists (held line r done) (stood_by done)) parts) (list_says r which ∷ ss) ≡ run (suc n)
    (parser_at (InLists (held line r (which ∷ done)) (stood_by (which ∷ done))) parts) ss
list_goes Included n parts line all r done ss is new =
    let apart = share_kept (stands done Excluded) r.include r.exclude is.apart in
    fits_on (not (stands done Included) && all_below r.serial r.include
    && not (share r.include (cond (stands done Excluded) r.exclude []))) n _ ss
    (rw (new, smaller_below r.serial r.include is.include, apart) refl)
list_goes Excluded n parts line all r done ss is new =
    let apart = share_kept (stands done Included) r.exclude r.include (share_flip r.include r.exclude is.apart) in
    fits_on (not (stands done Excluded) && all_below r.serial r.exclude
    && not (share r.exclude (cond (stands done Included) r.include []))) n _ ss
    (rw (new, smaller_below r.serial r.exclude is.exclude, apart) refl)
list_goes Ignored n parts line all r done ss is new =
    fits_on (not (stands done Ignored) && all_below r.serial r.ignore) n _ ss
    (rw (new, smaller_below r.serial r.ignore is.ignore) refl)

flip_list : (v w : ListKind) → same_list w v ≡ false → same_list v w ≡ false
flip_list Included Included other = other
flip_list Included Excluded other = refl
flip_list Included Ignored other = refl
flip_list Excluded Included other = refl
flip_list Excluded Excluded other = other
flip_list Excluded Ignored other = refl
flip_list Ignored Included other = refl
flip_list Ignored Excluded other = refl
flip_list Ignored Ignored other = other

still_new_lists : (w : ListKind) (done ws : List ListKind) → AllByRecursion (λ v. same_list w v ≡ false) ws
    → AllByRecursion (λ v. stands done v ≡ false) ws → AllByRecursion (λ v. stands (w ∷ done) v ≡ false) ws
still_new_lists w done [] others new = tt
still_new_lists w done (v ∷ ws) others new = (
  or_from (same_list v w) (stands done v) (flip_list v w others.0) new.0,
  still_new_lists w done ws others.1 new.1,
)

swap_or : (a b c : Bool) → (a || (b || c)) ≡ ((b || a) || c)
swap_or true true c = refl
swap_or true false c = refl
swap_or false true c = refl
swap_or false false c = refl

abbrev ListsGo : ℕ → PartialHeader → ℕ → Record → List ListKind → List ListKind → List LineToken → Type 0
ListsGo n parts line r ws done rest =
    (m : ℕ) × ((last : List ListKind) × (((w : ListKind) → stands last w ≡ (stands ws w || stands done w))
    × (run n (parser_at (InLists (held line r done) (stood_by done)) parts) (map (list_says r) ws ++ rest) ≡ run m
    (parser_at (InLists (held line r last) (stood_by last)) parts) rest)))

lists_go : (ws done : List ListKind) (n : ℕ) (parts : PartialHeader) (line : ℕ) (all : List Record) (r : Record)
    (rest : List LineToken) → IsRecord all r → IsDistinct same_list ws → AllByRecursion (λ w. stands done w ≡ false) ws
    → ListsGo n parts line r ws done rest
unfolding IsDistinct
lists_go [] done n parts line all r rest is distinct new = (n, (done, (λ w. refl, refl)))
lists_go (w ∷ ws) done n parts line all r rest is distinct new =
    let later = lists_go ws (w ∷ done) (suc n) parts line all r rest is distinct.1
    (still_new_lists w done ws distinct.0 new.1) in (
      later.0,
      (
        later.1.0,
        (
          λ v. later.1.1.0 v ∙ swap_or (stands ws v) (same_list v w) (stands done v),
          list_goes w n parts line all r done (map (list_says r) ws ++ rest) is new.0 ∙ later.1.1.1,
        ),
      ),
    )

none_done : (ws : List ListKind) → AllByRecursion (λ w. stands [] w ≡ false) ws
none_done [] = tt
none_done (w ∷ ws) = (refl, none_done ws)

-- a list that doesn't stand is empty
list_kept : (test : Bool) (ns : List ℕ) → (test ≡ false → ns ≡ []) → cond test ns [] ≡ ns
list_kept true ns empty = refl
list_kept false ns empty = sym (empty refl)

abbrev rowed : Record → List ℕ → List ℕ → List ℕ → List (List ℕ) → List (List ℕ) → Record
rowed r include exclude ignore mrs comments =
    record r { include = include; exclude = exclude; ignore = ignore; mrs = mrs; comments = comments }

same_row : (e : EntryLines) (last : List ListKind) → IsEntry e
    → ((w : ListKind) → stands last w ≡ (stands e.lists w || false)) → text_row (row_with e.row last) e.texts ≡ e.row
same_row e last is same =
    let kept : (w : ListKind) → cond (stands last w) (serials_listed e.row w) [] ≡ serials_listed e.row w =
    λ w. list_kept (stands last w) (serials_listed e.row w)
    (λ gone. is.others w (sym (same w ∙ or_none (stands e.lists w)) ∙ gone)) in
    let r : Record = e.row in
    ap (λ (ns : List ℕ). rowed r ns (cond (stands last Excluded) r.exclude []) (cond (stands last Ignored) r.ignore [])
    (mrs_in e.texts) (comments_in e.texts)) (kept Included)
    ∙ (ap (λ (ns : List ℕ). rowed r r.include ns (cond (stands last Ignored) r.ignore []) (mrs_in e.texts)
    (comments_in e.texts)) (kept Excluded)
    ∙ (ap (λ (ns : List ℕ). rowed r r.include r.exclude ns (mrs_in e.texts) (comments_in e.texts)) (kept Ignored)
    ∙ (ap (λ (ts : List (List ℕ)). rowed r r.include r.exclude r.ignore ts (comments_in e.texts)) is.mrs
    ∙ ap (λ (ts : List (List ℕ)). rowed r r.include r.exclude r.ignore r.mrs ts) is.comments)))

entry_goes : (e : EntryLines) (n : ℕ) (parts : PartialHeader) (all : List Record) (rest : List LineToken) → IsEntry e
    → IsRecord all e.row → may_follow (delta_part e.row) parts.table.records ≡ true
    → (m : ℕ) × (run n (parser_at AtEntry parts) (entry_says e ++ rest) ≡ run m
    (parser_at AtEntry (more parts (suc n) e.row)) rest)
entry_goes e n parts all rest is is_row follows =
    let r : Record = e.row in
    let lists : List LineToken = map (list_says r) e.lists in
    let texts : List LineToken = map text_says e.texts in
    let after_lists : List LineToken = texts ++ (EndEntry ∷ rest) in
    let listed = lists_go e.lists [] (suc (suc n)) parts (suc n) all r after_lists is_row is.once (none_done e.lists) in
    let final : TableEntry = held (suc n) r listed.1.0 in
    let texted = texts_go e.texts listed.0 parts final rest in
    let begun : HeaderParser = parser_at (InLists (entry (suc n) r.inserted r.deleted r.unchanged (delta_part r))
    none_seen) parts in (
      texted.0,
      fits_on (may_follow (delta_part r) parts.table.records) (suc n) begun ((lists ++ (texts ++ (EndEntry ∷ [])))
          ++ rest) follows
          ∙ (ap (λ (os : List LineToken). run (suc (suc n)) begun os) (regroup lists texts rest EndEntry)
          ∙ (listed.1.1.1
          ∙ (to_texts e.texts listed.0 parts final (stood_by listed.1.0) rest
          ∙ (texted.1 ∙ at_other texted.0 _ _ rest (ap (λ (x : Record). parser_at AtEntry (more parts (suc n) x))
          (same_row e listed.1.0 is listed.1.1.0)))))),
    )

-- ---- the table

abbrev rows_of : List EntryLines → List Record
rows_of entries = map (λ e. e.row) entries

abbrev at_table : List Record → List ℕ → HeaderParser
at_table above lines = parser_at AtEntry (table_alone (record { records = above; lines = lines }))

abbrev TableGoes : ℕ → List Record → List ℕ → List EntryLines → List LineToken → Type 0
TableGoes n above lines entries rest =
    (m : ℕ) × ((last : List ℕ) × (run n (at_table above lines) (flat_map entry_says entries ++ rest) ≡ run m
    (at_table (above ++ rows_of entries) last) rest))

table_goes : (entries : List EntryLines) (n : ℕ) (above : List Record) (lines : List ℕ) (all : List Record)
    (rest : List LineToken) → AllByRecursion IsEntry entries
    → least 65536 above ≤ 65536 → Falls (least 65536 above) (serials_of (rows_of entries))
    → AllByRecursion (IsRecord all) (rows_of entries) → has_own_sids (rows_of entries) ≡ true
    → AreOwn above (rows_of entries)
    → TableGoes n above lines entries rest
table_goes [] n above lines all rest each bound falls are sids own =
    (n, (lines, at_other n _ _ rest (ap (λ (rs : List Record). at_table rs lines) (sym (append-nil above)))))
table_goes (e ∷ entries) n above lines all rest each bound falls are sids own =
    let r : Record = e.row in
    let rs : List Record = rows_of entries in
    let parts = and_parts (r.removed || not (lives rs r.sid)) (has_own_sids rs) sids in
    let first = entry_goes e n (table_alone (record { records = above; lines = lines })) all
    (flat_map entry_says entries ++ rest) each.0 are.0 (follows_by r above falls.0 are.0.older own.0) in
    let here : least 65536 (above ++ r ∷ []) ≡ r.serial = least-push 65536 above r in
    let others = table_goes entries first.0 (above ++ r ∷ []) (lines ++ suc n ∷ []) all rest each.1
    (omega (arith, here, falls.0, bound)) (rw here falls.1) are.1 parts.1 (own_push above r rs own.1
    (each_differs r rs parts.0)) in (
      others.0,
      (
        others.1.0,
        ap (λ (os : List LineToken). run n (at_table above lines) os) (append_assoc (entry_says e)
            (flat_map entry_says entries) rest)
            ∙ (first.1 ∙ (others.1.1 ∙ at_other others.0 _ _ rest (ap (λ (xs : List Record). at_table xs others.1.0)
            (push_more above r rs)))),
      ),
    )

-- ---- a header

abbrev whole : List Record → List ℕ → Header → HeaderParser
whole rs last h = parser_at AtBody (record {
  table = record { records = rs; lines = last };
  users = h.users;
  flags =
      h.flags;
  description = h.description;
})

table_ends : (m : ℕ) (rs : List Record) (last : List ℕ) (ss : List LineToken) → is_empty rs ≡ false
    → AllByRecursion (IsRecord rs) rs
    → run m (at_table rs last) (Users ∷ ss) ≡ run (suc m) (parser_at InUsers (at_table rs last).parts) ss
table_ends m rs last ss some are =
    ap (λ (o : Option ℕ). ends_table m (at_table rs last).parts o >>= λ q. run (suc m) q ss) (none_lost rs rs last are)
    ∙ fits_on (not (is_empty rs)) m (parser_at InUsers (at_table rs last).parts) ss (ap not some)

rest_goes : (m : ℕ) (rs : List Record) (last : List ℕ) (h : Header) → AllByRecursion IsFlag h.flags
    → has_own_letters h.flags ≡ true
    → run m (parser_at InUsers (at_table rs last).parts) ((map Plain h.users ++ (EndUsers ∷ []))
    ++ (map FlagIs h.flags ++ description_says h.description)) ≡ Ok (whole rs last h)
rest_goes m rs last h are own =
    let parts : PartialHeader = (at_table rs last).parts in
    let with_users : PartialHeader = record parts { users = h.users } in
    let with_flags : PartialHeader = record with_users { flags = h.flags } in
    let described : List LineToken = description_says h.description in
    let flagged : List LineToken = map FlagIs h.flags ++ described in
    let users = users_go h.users m parts (EndUsers ∷ flagged) in
    let flags = flags_go h.flags (suc users.0) with_users are own (all_new h.flags) described in
    let lines = description_goes h.description (suc flags.0) with_flags (EndDescription ∷ []) in
    ap (λ (os : List LineToken). run m (parser_at InUsers parts) os) (append_assoc (map Plain h.users)
    (EndUsers ∷ []) flagged)
    ∙ (users.1 ∙ (flags.1 ∙ lines.1))

header_goes : (n : ℕ) (entries : List EntryLines) (h : Header) → AllByRecursion IsEntry entries
    → rows_of entries ≡ h.records → KeepsRules h
    → (last : List ℕ) × (run n start (header_says entries h) ≡ Ok (whole h.records last h))
header_goes n entries h each same keeps =
    let rs : List Record = rows_of entries in
    let later : List LineToken = users_say h.users ++ (map FlagIs h.flags ++ description_says h.description) in
    let falls : Falls 65536 (serials_of rs) = subst (λ (xs : List Record). Falls 65536 (serials_of xs))
    (sym same) keeps.table.falls in
    let are : AllByRecursion (IsRecord rs) rs = subst (λ (xs : List Record). AllByRecursion (IsRecord xs) xs)
    (sym same) keeps.table.each in
    let sids : has_own_sids rs ≡ true = ap has_own_sids same ∙ keeps.table.sids in
    let some : is_empty rs ≡ false = ap is_empty same ∙ keeps.table.some in
    let table = table_goes entries n [] [] rs later each (omega arith) falls are sids (all_own rs) in (
      table.1.0,
      table.1.1
          ∙ (table_ends table.0 rs table.1.0 ((map Plain h.users ++ (EndUsers ∷ []))
          ++ (map FlagIs h.flags ++ description_says h.description)) some are
          ∙ (rest_goes (suc table.0) rs table.1.0 h keeps.flags keeps.letters
          ∙ ap (λ (xs : List Record). Ok (whole xs table.1.0 h)) same)),
    )

header_made : (n : ℕ) (prefix rest : List (List ℕ)) (h : Header) → AreHeaderLines prefix h → KeepsRules h
    → front_from n start (prefix ++ rest) ≡ Ok (record { header = h; line = n + length prefix; rest = rest })
header_made n prefix rest h are keeps =
    let goes = header_goes n are.entries h are.each are.records keeps in
    completes (header_says are.entries h) n start (whole h.records goes.0 h) prefix rest are.say goes.1 refl refl

-- the same, where what follows is told with it
pub header_begins : (n : ℕ) (lines : List (List ℕ)) (p : ParsedFront) → BeginWithHeader n lines p → KeepsRules p.header
    → front_from n start lines ≡ Ok p
header_begins n lines p begins keeps =
    ap (front_from n start) begins.split ∙ (header_made n begins.prefix p.rest p.header begins.are keeps
    ∙ ap (λ (line : ℕ). Ok (record { header = p.header; line = line; rest = p.rest })) (sym begins.line))
