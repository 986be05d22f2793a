-- A table that is written is read again.
use Rattle.std.proofs.Common.{◌≡◌, ℕ, suc, ◌+◌, ◌<◌, ◌≤◌, ◌==◌, inl, inr, Bool, true, false, not, ◌&&◌, ◌||◌, List, []}
use Rattle.std.proofs.Common.{◌∷◌, ◌++◌, map, length, None, refl, sym, ap, ◌∙◌, arith, append-nil, append_assoc}
use Rattle.std.specs.List.{AllByRecursion, list_any}
use Rattle.std.proofs.lemmas.Bool.{lt-ltb, or_parts, or_from, and_parts, ne_eqb, eqb-false, cases_eq}
use Rattle.sccs_sid.specs.declared.sids.Sid.{Sid}
use Rattle.sccs_history.specs.Numbers.{is_empty, has, share, Falls}
use Rattle.sccs_history.specs.Applied.{serials_of}
use Rattle.sccs_history.specs.History.{NamesSmaller, IsRecord, HasSpelling, same_sid, lives, has_own_sids}
use Rattle.sccs_history.specs.declared.headers.Record.{Record}
use Rattle.sccs_grammar.specs.Front.{at_table, at_lists, with_include, with_exclude, with_ignore, parser_at}
use Rattle.sccs_grammar.specs.Front.{table_alone, none_seen, entry, all_below, least, may_follow, dangling_predecessor}
use Rattle.sccs_grammar.specs.Front.{front_from}
use Rattle.sccs_tokens.specs.Written.{IsSerial, counts_line, delta_line, delta_part, list_lines, mr_line, comment_line}
use Rattle.sccs_tokens.specs.Written.{end_line, entry_lines, table_lines}
use Rattle.sccs_grammar.specs.declared.header_parsers.TableEntry.{TableEntry}
use Rattle.sccs_grammar.specs.declared.header_parsers.ListsSeen.{ListsSeen}
use Rattle.sccs_grammar.specs.Entries.{Entries, with_entry}
use Rattle.sccs_grammar.specs.declared.header_parsers.HeaderState.TheVariants.{AtDelta}
use Rattle.sccs_tokens.specs.declared.line_tokens.LineToken.TheVariants.{Counts, Delta}
use Rattle.sccs_tokens.proofs.TokenLaws.{token_counts}
use Rattle.sccs_tokens.proofs.DeltaLaws.{token_delta}
use Rattle.sccs_grammar.proofs.SectionLaws.{says, include_again, exclude_again, ignore_again, texts_behind}
use Rattle.sccs_base.proofs.Bools.{or_assoc, or_none, or_true}

-- ---- lists that share nothing

pub share-nil : (ns : List ℕ) → share ns [] ≡ false
share-nil [] = refl
share-nil (n ∷ ns) = share-nil ns

share_more : (ns : List ℕ) (m : ℕ) (ms : List ℕ) → has ns m ≡ false → share ns ms ≡ false → share ns (m ∷ ms) ≡ false
share_more [] m ms none apart = refl
share_more (k ∷ ns) m ms none apart =
    let others = or_parts (k == m) (has ns m) none in
    let parts = or_parts (has ms k) (share ns ms) apart in
    or_from (m == k || has ms k) (share ns (m ∷ ms)) (or_from (m == k) (has ms k)
    (ne_eqb m k (λ e. eqb-false k m others.0 (sym e))) parts.0) (share_more ns m ms others.1 parts.1)

pub share_flip : (ms ns : List ℕ) → share ms ns ≡ false → share ns ms ≡ false
share_flip [] ns apart = share-nil ns
share_flip (m ∷ ms) ns apart =
    let parts = or_parts (has ns m) (share ms ns) apart in share_more ns m ms parts.0 (share_flip ms ns parts.1)

-- ---- one entry

pub smaller_below : (serial : ℕ) (ns : List ℕ) → NamesSmaller serial ns → all_below serial ns ≡ true
smaller_below serial [] are = refl
smaller_below serial (n ∷ ns) are = rw (lt-ltb n serial are.0.1) (smaller_below serial ns are.1)

smaller_serials : (serial : ℕ) (ns : List ℕ) → serial < 65536 → NamesSmaller serial ns → AllByRecursion IsSerial ns
smaller_serials serial [] high are = tt
smaller_serials serial (n ∷ ns) high are = (
  (are.0.0, omega (arith, are.0.1, high)),
  smaller_serials serial ns high
      are.1,
)

abbrev stood_by : Bool → Bool → Bool → ListsSeen
stood_by i x g = record { included = i; excluded = x; ignored = g }

-- the entry of a record whose delta line has this number
abbrev entry_of : ℕ → Record → TableEntry
entry_of line r = record { line = line; row = r }

pub entry_again : (n : ℕ) (entries : Entries) (all : List Record) (r : Record) (rest : List (List ℕ)) → IsRecord all r
    → HasSpelling r → r.serial < 65536 → may_follow (delta_part r) entries.records ≡ true
    → (m : ℕ) × (front_from n (at_table entries) (entry_lines r rest) ≡ front_from m
    (at_table (with_entry entries (entry_of (suc n) r))) rest)
entry_again n entries all r rest is spells high follows =
    let e0 = entry (suc n) r.inserted r.deleted r.unchanged (delta_part r) in
    let e1 = with_include e0 r.include in
    let e2 = with_exclude e1 r.exclude in
    let e3 = with_ignore e2 r.ignore in
    let i = not (is_empty r.include) in
    let x = not (is_empty r.exclude) in
    let g = not (is_empty r.ignore) in
    let texts = map mr_line r.mrs ++ (map comment_line r.comments ++ (end_line ∷ rest)) in
    let ignores = list_lines 103 r.ignore ++ texts in
    let excludes = list_lines 120 r.exclude ++ ignores in
    let includes = list_lines 105 r.include ++ excludes in
    let n2 = suc (suc n) in
    let n3 = n2 + length (list_lines 105 r.include) in
    let n4 = n3 + length (list_lines 120 r.exclude) in
    let n5 = n4 + length (list_lines 103 r.ignore) in
    let at_delta = parser_at (AtDelta r.inserted r.deleted r.unchanged) (table_alone entries) in (
      suc (n5 + length r.mrs + length r.comments),
      says n (at_table entries) at_delta (counts_line r.inserted r.deleted r.unchanged) (delta_line r ∷ includes)
          (Counts r.inserted r.deleted r.unchanged) (token_counts r.inserted r.deleted r.unchanged
          (omega (arith, is.inserted)) (omega (arith, is.deleted)) (omega (arith, is.unchanged))) refl refl
          ∙ (says (suc n) at_delta (at_lists entries e0 none_seen) (delta_line r) includes (Delta (delta_part r))
          (token_delta r spells (is.serial, high) (omega (arith, is.older, high))) (rw follows refl) refl
          ∙ (include_again n2 entries e0 none_seen r.include excludes
          (smaller_serials r.serial r.include high is.include) refl refl
          (smaller_below r.serial r.include is.include) (share-nil r.include)
          ∙ (exclude_again n3 entries e1 (stood_by i false false) r.exclude ignores
          (smaller_serials r.serial r.exclude high is.exclude) refl refl
          (smaller_below r.serial r.exclude is.exclude) (share_flip r.include r.exclude is.apart)
          ∙ (ignore_again n4 entries e2 (stood_by i x false) r.ignore texts
          (smaller_serials r.serial r.ignore high is.ignore) refl refl (smaller_below r.serial r.ignore is.ignore)
          ∙ texts_behind n5 entries e3 (stood_by i x g) r.mrs r.comments rest)))),
    )

-- ---- SIDs of live records differ from those before, too

flip_equal : (a b : ℕ) → (a == b) ≡ (b == a)
flip_equal a b = elim (cases_eq a b) [
  | inl is ↦ rw is refl
  | inr other ↦ ne_eqb a b other
      ∙ sym (ne_eqb b a (λ e. other (sym e)))
]

pub flip_sids : (a b : Sid) → same_sid a b ≡ same_sid b a
flip_sids a b = rw (
  flip_equal a.release b.release,
  flip_equal a.level b.level,
  flip_equal a.branch b.branch,
  flip_equal a.sequence b.sequence,
) refl

-- a record lives and has the SID
abbrev pub lives_as : Sid → Record → Bool
lives_as sid r = not r.removed && same_sid r.sid sid

or_more : (x p q : Bool) → (x || not (p || q)) ≡ true → ((x || not p) ≡ true) × ((x || not q) ≡ true)
or_more true p q is = (refl, refl)
or_more false false q is = (refl, is)
or_more false true q is = (is, cc)

-- none of these records has the SID of a live record
abbrev pub Differs : Record → List Record → Type 0
Differs r rs = AllByRecursion (λ s. (r.removed || not (lives_as r.sid s)) ≡ true) rs

pub each_differs : (r : Record) (rs : List Record) → (r.removed || not (lives rs r.sid)) ≡ true → Differs r rs
each_differs r [] own = tt
each_differs r (s ∷ rs) own =
    let parts = or_more r.removed (lives_as r.sid s) (lives rs r.sid) own in (parts.0, each_differs r rs parts.1)

-- each of these records may stand behind others, as to its SID
abbrev pub AreOwn : List Record → List Record → Type 0
AreOwn above rs = AllByRecursion (λ s. (s.removed || not (lives above s.sid)) ≡ true) rs

any_push : (p : Record → Bool) (above : List Record) (r : Record) → list_any p (above ++ r ∷ [])
    ≡ (list_any p above || p r)
any_push p [] r = or_none (p r)
any_push p (a ∷ above) r = ap (λ b. p a || b) (any_push p above r) ∙ or_assoc (p a) (list_any p above) (p r)

either_way : (gone other any : Bool) (same flipped : Bool) → (gone || not any) ≡ true
    → (other || not (not gone && same)) ≡ true → same ≡ flipped → (gone || not (any || (not other && flipped))) ≡ true
either_way true other any same flipped own differs flip = refl
either_way false other true same flipped own differs flip = own
either_way false true false same flipped own differs flip = refl
either_way false false false same flipped own differs flip = rw (sym flip) differs

pub own_push : (above : List Record) (r : Record) (rs : List Record) → AreOwn above rs → Differs r rs
    → AreOwn (above ++ r ∷ []) rs
own_push above r [] own differs = tt
own_push above r (s ∷ rs) own differs = (
  rw (any_push (lives_as s.sid) above r) (either_way s.removed r.removed (lives above s.sid) (same_sid s.sid r.sid)
      (same_sid r.sid s.sid) own.0 differs.0 (flip_sids s.sid r.sid)),
  own_push above r rs own.1 differs.1,
)

pub all_own : (rs : List Record) → AreOwn [] rs
all_own [] = tt
all_own (r ∷ rs) = (or_true r.removed, all_own rs)

-- ---- the table

pub least-push : (bound : ℕ) (above : List Record) (r : Record) → least bound (above ++ r ∷ []) ≡ r.serial
least-push bound [] r = refl
least-push bound (a ∷ above) r = least-push a.serial above r

pub follows_by : (r : Record) (above : List Record) → r.serial < least 65536 above → r.predecessor < r.serial
    → (r.removed || not (lives above r.sid)) ≡ true → may_follow (delta_part r) above ≡ true
follows_by r above falls older own = rw (
  lt-ltb r.serial (least 65536 above) falls,
  lt-ltb r.predecessor r.serial older,
  own,
) refl

-- entries of these records, whatever the numbers of their lines
abbrev table_of : List Record → List ℕ → Entries
table_of records lines = record { records = records; lines = lines }

pub table_again : (n : ℕ) (above : List Record) (lines : List ℕ) (all rs : List Record) (rest : List (List ℕ))
    → least 65536 above ≤ 65536 → Falls (least 65536 above) (serials_of rs) → AllByRecursion (IsRecord all) rs
    → AllByRecursion HasSpelling rs → has_own_sids rs ≡ true → AreOwn above rs
    → (m : ℕ) × ((last : List ℕ) × (front_from n (at_table (table_of above lines)) (table_lines rs rest) ≡ front_from m
    (at_table (table_of (above ++ rs) last)) rest))
table_again n above lines all [] rest bound falls are spells sids own =
    (n, (lines, ap (λ rs. front_from n (at_table (table_of rs lines)) rest) (sym (append-nil above))))
table_again n above lines all (r ∷ rs) rest bound falls are spells sids own =
    let parts = and_parts (r.removed || not (lives rs r.sid)) (has_own_sids rs) sids in
    let first = entry_again n (table_of above lines) all r (table_lines rs rest) are.0 spells.0
    (omega (arith, falls.0, bound)) (follows_by r above falls.0 are.0.older own.0) in
    let here : least 65536 (above ++ r ∷ []) ≡ r.serial = least-push 65536 above r in
    let others = table_again first.0 (above ++ r ∷ []) (lines ++ suc n ∷ []) all rs rest
    (omega (arith, here, falls.0, bound)) (rw here falls.1) are.1 spells.1 parts.1 (own_push above r rs own.1
    (each_differs r rs parts.0)) in (
      others.0,
      (
        others.1.0,
        first.1
            ∙ (others.1.1 ∙ ap (λ rs. front_from others.0 (at_table (table_of rs others.1.0)) rest)
            (append_assoc above (r ∷ []) rs)),
      ),
    )

-- no predecessor of these records is dangling_predecessor
pub none_lost : (table rs : List Record) (lines : List ℕ) → AllByRecursion (IsRecord table) rs
    → dangling_predecessor table rs lines ≡ None
unfolding dangling_predecessor
none_lost table [] lines are = refl
none_lost table (r ∷ rs) [] are = refl
none_lost table (r ∷ rs) (line ∷ lines) are = rw are.0.predecessor (none_lost table rs lines are.1)

pub whole_table : (n : ℕ) (rs : List Record) (rest : List (List ℕ)) → Falls 65536 (serials_of rs)
    → AllByRecursion (IsRecord rs) rs → AllByRecursion HasSpelling rs → has_own_sids rs ≡ true
    → (m : ℕ) × ((lines : List ℕ) × (front_from n (at_table (table_of [] [])) (table_lines rs rest) ≡ front_from m
    (at_table (table_of rs lines)) rest))
whole_table n rs rest falls are spells sids = table_again n [] [] rs rs rest (omega arith) falls are spells sids
    (all_own rs)
