-- An index of live deltas, record by record, and what is looked up in it.
use Rattle.std.proofs.Common.{◌≡◌, ℕ, ◌==◌, nat_lt, nat_le, Bool, true, false, cond, not, ◌&&◌, ◌||◌, List, [], ◌+◌}
use Rattle.std.proofs.Common.{◌<◌, length, take, get_or, ◌∷◌, ◌++◌, Option, None, Some, map, fold, refl, sym, ap, ◌∙◌}
use Rattle.std.proofs.Common.{arith, rules, append-nil}
use Rattle.std.specs.Ordering.{is_eq}
use Rattle.std.specs.BTreeMap.{BTreeMap, Updates, get}
use Rattle.std.specs.List.{list_any}
use Rattle.std.specs.Option.{option_to_list}
use Rattle.std.proofs.lemmas.Bool.{and_parts, eqb-true}
use Rattle.std.proofs.lemmas.Bool.Decides.{nat_tests}
use Rattle.std.proofs.lemmas.List.{map-append, take_more}
use Rattle.std.proofs.lemmas.List.Elements.{filter-append}
use Rattle.sccs_sid.specs.declared.sids.Sid.{Sid}
use Rattle.sccs_sid.specs.declared.sid_lists.Range.{Range}
use Rattle.sccs_history.specs.History.{lives, same_sid}
use Rattle.sccs_history.specs.declared.headers.Record.{Record}
use Rattle.sccs_sets.specs.LiveIndexes.{place_of, single}
use Rattle.sccs_sets.specs.Naming.{in_range, put_named, range_named, sid_named}
use Rattle.sccs_sets.specs.Retrieved.{live_where}
use Rattle.sccs_sets.specs.declared.naming.Named.{Named}
use Rattle.sccs_sid.specs.FourNumbers.{four_cmp}
use Rattle.sccs_sid.proofs.FourNumbers.{same_four, four_same}
use Rattle.sccs_base.proofs.Bools.{or_none}

-- ---- equal places

abbrev four_numbers : ℕ → ℕ → ℕ → ℕ → ℕ × ℕ × ℕ × ℕ
four_numbers a b c d = (a, b, c, d)

place_equal : (x y : ℕ × ℕ × ℕ × ℕ) → same_four x y ≡ true → x ≡ y
place_equal x y is =
    let last = and_parts ((x.0 == y.0 && x.1 == y.1) && x.2 == y.2) (x.3 == y.3) is in
    let third = and_parts (x.0 == y.0 && x.1 == y.1) (x.2 == y.2) last.0 in
    let first = and_parts (x.0 == y.0) (x.1 == y.1) third.0 in
    ap (λ n. four_numbers n x.1 x.2 x.3) (eqb-true x.0 y.0 first.0)
    ∙ (ap (λ n. four_numbers y.0 n x.2 x.3) (eqb-true x.1 y.1 first.1)
    ∙ (ap (λ n. four_numbers y.0 y.1 n x.3) (eqb-true x.2 y.2 third.1) ∙ ap (four_numbers y.0 y.1 y.2)
    (eqb-true x.3 y.3 last.1)))

-- ---- the range of one SID

branch_same : (a b c d e f g h : ℕ) → ((a == b && (c == d && e == f)) && (nat_le g h && nat_le h g))
    ≡ (((b == a && d == c) && f == e) && h == g)
branch_same a b c d e f g h = grind (arith, nat_tests)

-- a SID is in the range of another exactly where it stands at its place
in_single : (r s : Sid) (t u : Bool) → (s.branch == 0) ≡ t → (r.branch == 0) ≡ u
    → (cond t (r.branch == 0) (s.release == r.release && (s.level == r.level && s.branch == r.branch))
    && (cond t (nat_lt s.release r.release || (s.release == r.release && nat_le s.level r.level))
    (nat_le s.sequence r.sequence)
    && cond u (nat_lt r.release s.release || (r.release == s.release && nat_le r.level s.level))
    (nat_le r.sequence s.sequence)))
    ≡ (((r.release == s.release && r.level == s.level) && r.branch == s.branch) && cond u 0 r.sequence == cond t 0
    s.sequence)
in_single r s true true one two = grind (arith, nat_tests)
in_single r s true false one two = grind (arith, nat_tests)
in_single r s false true one two = grind (arith, nat_tests)
in_single r s false false one two = branch_same s.release r.release s.level r.level s.branch r.branch s.sequence
    r.sequence

at_place : (r s : Sid) → is_eq (four_cmp (place_of r) (place_of s)) ≡ in_range (single s) r
at_place r s = four_same (place_of r) (place_of s) ∙ sym (in_single r s (s.branch == 0) (r.branch == 0) refl refl)

-- ---- one record more

none_or_one : (q : Named) (t : Bool) (o : Option Named) (found : List Named) → (t ≡ true → o ≡ None)
    → option_to_list o ≡ found → option_to_list (cond t (Some q) o) ≡ found ++ cond t (q ∷ []) []
none_or_one q true o found none same = ap (λ l. l ++ q ∷ []) (ap option_to_list (sym (none refl)) ∙ same)
none_or_one q false o found none same = same ∙ sym (append-nil found)

one_named : (t : Bool) (r : Record) → map sid_named (cond t (r ∷ []) []) ≡ cond t (sid_named r ∷ []) []
one_named true r = refl
one_named false r = refl

-- what the range of a SID names with one record more
more_named : (before : List Record) (r : Record) (s : Sid)
    → map sid_named (live_where (in_range (single s)) (before ++ r ∷ []))
    ≡ map sid_named (live_where (in_range (single s)) before) ++ cond (not r.removed && in_range (single s) r.sid)
    (sid_named r ∷ []) []
more_named before r s =
    ap (map sid_named) (filter-append (λ (q : Record). not q.removed && in_range (single s) q.sid) before (r ∷ []))
    ∙ (map-append sid_named (live_where (in_range (single s)) before) (cond (not r.removed && in_range (single s) r.sid)
    (r ∷ []) [])
    ∙ ap (λ l. map sid_named (live_where (in_range (single s)) before) ++ l)
    (one_named (not r.removed && in_range (single s) r.sid) r))

abbrev Deltas : Type 0
Deltas = BTreeMap (ℕ × ℕ × ℕ × ℕ) Named

abbrev AreDeltas : Deltas → List Record → Type 0
AreDeltas deltas records = (s : Sid) → option_to_list (get four_cmp deltas (place_of s)) ≡ map sid_named
    (live_where (in_range (single s)) records)

-- a live record whose place is free
pub index_more : (old new : Deltas) (before : List Record) (r : Record) → r.removed ≡ false
    → get four_cmp old (place_of r.sid) ≡ None
    → Updates four_cmp old new (place_of r.sid) (Some (sid_named r)) → AreDeltas old before
    → AreDeltas new (before ++ r ∷ [])
index_more old new before r live free updates has = λ s.
    let here : is_eq (four_cmp (place_of r.sid) (place_of s)) ≡ in_range (single s) r.sid = at_place r.sid s in
    ap option_to_list (updates.0 (place_of s))
    ∙ (ap (λ t. option_to_list (cond t (Some (sid_named r)) (get four_cmp old (place_of s)))) here
    ∙ (none_or_one (sid_named r) (in_range (single s) r.sid) (get four_cmp old (place_of s))
    (map sid_named (live_where (in_range (single s)) before))
    (λ is. ap (get four_cmp old)
    (sym (place_equal (place_of r.sid) (place_of s) (sym (four_same (place_of r.sid) (place_of s)) ∙ (here ∙ is))))
    ∙ free) (has s)
    ∙ (ap (λ gone. map sid_named (live_where (in_range (single s)) before) ++ cond
    (not gone && in_range (single s) r.sid) (sid_named r ∷ []) []) (sym live)
    ∙ sym (more_named before r s))))

-- ---- what is looked up

put_one : (o : Option Named) → fold put_named [] (option_to_list o) ≡ option_to_list o
put_one None = refl
put_one (Some q) = refl

-- the one at a SID's place is all that its range names
pub index_names : (deltas : Deltas) (records : List Record) (s : Sid) → AreDeltas deltas records
    → option_to_list (get four_cmp deltas (place_of s)) ≡ range_named records (single s)
index_names deltas records s has = sym (put_one (get four_cmp deltas (place_of s))) ∙ ap (fold put_named []) (has s)

-- one of those that are named has the SID itself
abbrev has_sid : List Named → Sid → Bool
has_sid qs s = list_any (λ (q : Named). same_sid q.sid s) qs

abbrev sid_of : ℕ → ℕ → ℕ → ℕ → Sid
sid_of a b c d = record { release = a; level = b; branch = c; sequence = d }

sid_equal : (r s : Sid) → same_sid r s ≡ true → r ≡ s
sid_equal r s is =
    let one = and_parts (r.release == s.release) (r.level == s.level
    && (r.branch == s.branch && r.sequence == s.sequence)) is in
    let two = and_parts (r.level == s.level) (r.branch == s.branch && r.sequence == s.sequence) one.1 in
    let last = and_parts (r.branch == s.branch) (r.sequence == s.sequence) two.1 in
    ap (λ n. sid_of n r.level r.branch r.sequence) (eqb-true r.release s.release one.0)
    ∙ (ap (λ n. sid_of s.release n r.branch r.sequence) (eqb-true r.level s.level two.0)
    ∙ (ap (λ n. sid_of s.release s.level n r.sequence) (eqb-true r.branch s.branch last.0)
    ∙ ap (sid_of s.release s.level s.branch) (eqb-true r.sequence s.sequence last.1)))

place_itself : (x : ℕ × ℕ × ℕ × ℕ) → same_four x x ≡ true
place_itself x = search rules

sid_in_single : (r s : Sid) → same_sid r s ≡ true → in_range (single s) r ≡ true
sid_in_single r s is =
    ap (in_range (single s)) (sid_equal r s is) ∙ (sym (at_place s s) ∙ (four_same (place_of s) (place_of s)
    ∙ place_itself (place_of s)))

others : (t : Bool) → (t ≡ true → false ≡ true) → t ≡ false
others true is = sym (is refl)
others false is = refl

lives_named : (records : List Record) (s : Sid) → has_sid (map sid_named (live_where (in_range (single s)) records)) s
    ≡ lives records s
lives_named [] s = refl
lives_named (r ∷ rs) s = step r.removed (in_range (single s) r.sid) (sid_in_single r.sid s) (lives_named rs s)
  where
    step : (gone here : Bool) → (same_sid r.sid s ≡ true → here ≡ true)
        → has_sid (map sid_named (live_where (in_range (single s)) rs)) s ≡ lives rs s
        → has_sid (map sid_named (cond (not gone && here) (r ∷ live_where (in_range (single s)) rs)
        (live_where (in_range (single s)) rs))) s ≡ ((not gone && same_sid r.sid s) || lives rs s)
    step true here is rest = rest
    step false true is rest = ap (λ t. same_sid r.sid s || t) rest
    step false false is rest = rest ∙ ap (λ t. t || lives rs s) (sym (others (same_sid r.sid s) is))

found_lives : (deltas : Deltas) (records : List Record) (s : Sid) (found : Option Named) → AreDeltas deltas records
    → option_to_list found ≡ range_named records (single s) → has_sid (option_to_list found) s ≡ lives records s
found_lives deltas records s found has names =
    ap (λ l. has_sid l s) (names ∙ (sym (index_names deltas records s has) ∙ has s)) ∙ lives_named records s

pub some_lives : (deltas : Deltas) (records : List Record) (s : Sid) (found : Option Named) (q : Named)
    → AreDeltas deltas records → option_to_list found ≡ range_named records (single s) → found ≡ Some q
    → same_sid q.sid s ≡ lives records s
some_lives deltas records s found q has names is =
    sym (or_none (same_sid q.sid s)) ∙ (ap (λ o. has_sid (option_to_list o) s) (sym is)
    ∙ found_lives deltas records s found has names)

pub none_lives : (deltas : Deltas) (records : List Record) (s : Sid) (found : Option Named) → AreDeltas deltas records
    → option_to_list found ≡ range_named records (single s) → found ≡ None → false ≡ lives records s
none_lives deltas records s found has names is = ap (λ o. has_sid (option_to_list o) s) (sym is)
    ∙ found_lives deltas records s found has names

-- a range whose ends are equal is that of one SID
pub range_single : (range : Range) → same_sid range.first range.last ≡ true → range ≡ single range.first
range_single range is = ap (λ (s : Sid). record { first = range.first; last = s })
    (sym (sid_equal range.first range.last is))

-- the records up to one, and it
pub taken_record : (records : List Record) (i : ℕ) (r : Record) → i < length records → r ≡ get_or records i r
    → take (i + 1) records ≡ take i records ++ r ∷ []
taken_record records i r low is = take_more records i r low ∙ ap (λ x. take i records ++ x ∷ []) (sym is)
