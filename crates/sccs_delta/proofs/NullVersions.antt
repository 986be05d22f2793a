-- Versions of a history with null deltas and a new delta behind them.
use Rattle.std.proofs.Common.{◌≡◌, ℕ, suc, ◌+◌, ◌<◌, ◌≤◌, ◌⊎◌, ◌==◌, true, false, not, ◌&&◌, ◌||◌, List, [], ◌∷◌}
use Rattle.std.proofs.Common.{length, refl, sym, ap, subst, ◌∙◌, inl, inr, ⊎_elim, arith, eq-eqb}
use Rattle.std.specs.List.{AllByRecursion}
use Rattle.std.proofs.lemmas.Bool.{cases_lt, eqb-true, ne_eqb, or_cases, or_left}
use Rattle.sccs_sid.specs.declared.moments.Stamp.{Stamp}
use Rattle.sccs_sid.specs.declared.sids.Sid.{Sid}
use Rattle.sccs_script_laws.specs.Places.{places}
use Rattle.sccs_script_laws.specs.Plans.{plan}
use Rattle.sccs_script_laws.specs.Scripts.{apply}
use Rattle.sccs_script_laws.specs.declared.scripts.Order.{Order}
use Rattle.sccs_script_laws.proofs.PlacedItems.{other_placed, select_placed}
use Rattle.sccs_script_laws.proofs.Rules.{rules_spliced}
use Rattle.sccs_history.specs.Applied.{applied, live_serials, newest, path, serials_of, version, version_of}
use Rattle.sccs_history.specs.Body.{GoesOn, HistoryLine, IsLine, above, lines_of}
use Rattle.sccs_history.specs.History.{IsTable}
use Rattle.sccs_history.specs.Numbers.{Falls, front_if, has, share}
use Rattle.sccs_history.specs.Select.{select, shows}
use Rattle.sccs_history.specs.declared.headers.Header.{Header}
use Rattle.sccs_history.specs.declared.headers.Item.{Item}
use Rattle.sccs_history.specs.declared.headers.Record.{Record}
use Rattle.sccs_history.proofs.AppliedSets.{applied_falls}
use Rattle.sccs_history.proofs.Falling.{has-falls}
use Rattle.sccs_history.proofs.LiveLines.{begins_whole, lines_of_live}
use Rattle.sccs_records.specs.NewDeltas.{last_of, null_delta, with_delta, with_deltas, with_record}
use Rattle.sccs_records.specs.declared.new_deltas.NewDelta.{NewDelta}
use Rattle.sccs_records.proofs.SetLaws.{older_set, own_set, set_beneath, asks}
use Rattle.sccs_records.proofs.TableLaws.{at_most_newest, falls_newest, live_is_there}
use Rattle.sccs_delta.specs.NullDeltas.{null_deltas, with_nulls}
use Rattle.sccs_delta.specs.Versions.{base_set}
use Rattle.sccs_delta.proofs.NullLaws.{newest_nulls, nulls_long}
use Rattle.sccs_delta.proofs.VersionLaws.{body_below}

-- ---- the tables

falls_more : (records : List Record) (on : ℕ) (d : NewDelta) → Falls 65536 (serials_of records) → newest records < 65535
    → Falls 65536 (serials_of (with_record records on d))
falls_more records on d falls few = (omega (arith, few), falls_newest records 65536 falls)

falls_in_turn : (header : Header) (on : ℕ) (ds : List NewDelta) → Falls 65536 (serials_of header.records)
    → newest header.records + length ds ≤ 65535 → Falls 65536 (serials_of (with_deltas header on ds).records)
falls_in_turn header on [] falls few = falls
falls_in_turn header on (d ∷ ds) falls few =
    falls_in_turn (with_delta header on d) (suc (newest header.records)) ds (falls_more header.records on d falls
    (omega (arith, few))) (omega (arith, few))

-- an older version is made of the same deltas
older_in_turn : (header : Header) (on m : ℕ) (ds : List NewDelta) → Falls 65536 (serials_of header.records)
    → newest header.records + length ds ≤ 65535 → m ≤ newest header.records
    → applied (version_of m) (with_deltas header on ds).records ≡ applied (version_of m) header.records
older_in_turn header on m [] falls few low = refl
older_in_turn header on m (d ∷ ds) falls few low =
    older_in_turn (with_delta header on d) (suc (newest header.records)) m ds (falls_more header.records on d falls
    (omega (arith, few))) (omega (arith, few)) (omega (arith, low))
    ∙ older_set header.records on m d falls low

-- ---- sets that have the same of the older deltas

other_number : (n j : ℕ) (ns : List ℕ) → j < n → has (n ∷ ns) j ≡ has ns j
other_number n j ns low = ap (λ b. b || has ns j) (ne_eqb n j (λ e. omega (arith, e, low)))

-- beneath null deltas the lists of a call go on to the delta on which the first was made
beneath_nulls : (stamp : Stamp) (header : Header) (on : ℕ) (sids : List Sid) (i x : List ℕ) (j : ℕ)
    → Falls 65536 (serials_of header.records) → newest header.records + length sids ≤ 65535
    → ((n : ℕ) → newest header.records < n → has i n ≡ false) → ((n : ℕ) → newest header.records < n → has x n ≡ false)
    → j ≤ newest header.records
    → has (applied (asks (last_of on (newest header.records) (null_deltas stamp sids)) i x)
    (with_deltas header on (null_deltas stamp sids)).records) j ≡ has (applied (asks on i x) header.records) j
beneath_nulls stamp header on [] i x j falls few none_in none_out low = refl
beneath_nulls stamp header on (sid ∷ sids) i x j falls few none_in none_out low =
    beneath_nulls stamp (with_delta header on (null_delta stamp sid)) (suc (newest header.records)) sids i x j
    (falls_more header.records on (null_delta stamp sid) falls (omega (arith, few))) (omega (arith, few))
    (λ n high. none_in n (omega (arith, high))) (λ n high. none_out n (omega (arith, high))) (omega (arith, low))
    ∙ (ap (λ l. has l j) (set_beneath header.records on (null_delta stamp sid) i x falls refl refl
    (none_in (suc (newest header.records)) (omega arith)) (none_out (suc (newest header.records)) (omega arith)))
    ∙ other_number (suc (newest header.records)) j (applied (asks on i x) header.records) (omega (arith, low)))

-- a null delta's version has the older deltas of the version of the one on which the first was made
null_alike : (stamp : Stamp) (header : Header) (on : ℕ) (sids : List Sid) (k j : ℕ)
    → Falls 65536 (serials_of header.records) → newest header.records + length sids ≤ 65535
    → newest header.records < k → k ≤ newest header.records + length sids → j ≤ newest header.records
    → has (applied (version_of k) (with_deltas header on (null_deltas stamp sids)).records) j ≡ has
    (applied (version_of on) header.records) j
null_alike stamp header on [] k j falls few high within low = absurd (omega (arith, high, within))
null_alike stamp header on (sid ∷ sids) k j falls few high within low =
    ⊎_elim (λ first. here first) (λ other. null_alike stamp (with_delta header on (null_delta stamp sid))
    (suc (newest header.records)) sids k j (falls_more header.records on (null_delta stamp sid) falls
    (omega (arith, few))) (omega (arith, few)) (omega (arith, high, other)) (omega (arith, within))
    (omega (arith, low)) ∙ own)
    (first_or_later k (suc (newest header.records)) high)
  where
    first_or_later : (m n : ℕ) → n ≤ m → (m ≡ n) ⊎ (n < m)
    first_or_later m n le = ⊎_elim (λ lt. inr lt) (λ ge. inl (omega (arith, le, ge))) (cases_lt n m)

    own : has (applied (version_of (suc (newest header.records))) (with_record header.records on
        (null_delta stamp sid))) j ≡ has (applied (version_of on) header.records) j
    own = ap (λ l. has l j) (own_set header.records on (null_delta stamp sid) falls)
        ∙ other_number (suc (newest header.records)) j (applied (version_of on) header.records) (omega (arith, low))

    here : k ≡ suc (newest header.records)
        → has (applied (version_of k) (with_deltas header on (null_deltas stamp (sid ∷ sids))).records) j ≡ has
        (applied (version_of on) header.records) j
    here is =
        ap (λ m. has (applied (version_of m) (with_deltas header on (null_deltas stamp (sid ∷ sids))).records) j) is
        ∙ (ap (λ l. has l j)
        (older_in_turn (with_delta header on (null_delta stamp sid)) (suc (newest header.records))
        (suc (newest header.records)) (null_deltas stamp sids) (falls_more header.records on (null_delta stamp sid)
        falls (omega (arith, few))) (omega (arith, few, nulls_long stamp sids)) (omega arith))
        ∙ own)

-- ---- lines

alike_share : (live xs ys ns : List ℕ) (low : ℕ) → AllByRecursion (λ d. (has live d ≡ true) × (low < d)) ns
    → ((j : ℕ) → has live j ≡ true → has xs j ≡ has ys j) → share ns xs ≡ share ns ys
alike_share live xs ys [] low are alike = refl
alike_share live xs ys (n ∷ ns) low are alike =
    ap (λ b. b || share ns xs) (alike n are.0.0) ∙ ap (λ b. has ys n || b) (alike_share live xs ys ns low are.1 alike)

-- sets that have the same of the live deltas show the same lines
alike_select : (live xs ys : List ℕ) (lines : List HistoryLine) → AllByRecursion (IsLine live) lines
    → ((j : ℕ) → has live j ≡ true → has xs j ≡ has ys j) → select xs lines ≡ select ys lines
alike_select live xs ys [] are alike = refl
alike_select live xs ys (line ∷ lines) are alike =
    ap (λ b. front_if (b && not (share line.deleters xs)) line.text (select xs lines))
    (alike line.inserter are.0.inserter)
    ∙ (ap (λ b. front_if (has ys line.inserter && not b) line.text (select xs lines))
    (alike_share live xs ys line.deleters line.inserter are.0.deleters alike)
    ∙ ap (λ l. front_if (shows ys line) line.text l) (alike_select live xs ys lines are.1 alike))

-- ---- the laws

pub older_live : (records : List Record) (j : ℕ) → IsTable records → has (live_serials records) j ≡ true
    → j ≤ newest records
older_live records j table live = at_most_newest records 65536 j table.falls (live_is_there records j live)

none_above : (records : List Record) (ns : List ℕ) → IsTable records → AllByRecursion (λ n. has (live_serials records) n
    ≡ true) ns → (m : ℕ) → newest records < m → has ns m ≡ false
none_above records [] table are m high = refl
none_above records (n ∷ ns) table are m high =
    ap (λ b. b || has ns m) (ne_eqb n m (λ e. let low : n ≤ newest records = older_live records n table are.0 in
    omega (arith, e, low, high))) ∙ none_above records ns table are.1 m high

-- whether the new delta's serial is looked for or a live one
live_or : (n : ℕ) (live xs ys : List ℕ) → has xs n ≡ has ys n → ((j : ℕ) → has live j ≡ true → has xs j ≡ has ys j)
    → (j : ℕ) → has (n ∷ live) j ≡ true → has xs j ≡ has ys j
live_or n live xs ys here alike j there =
    ⊎_elim (λ same. subst (λ k. has xs k ≡ has ys k) (eqb-true n j same) here) (λ lives. alike j lives)
    (or_cases (n == j) (has live j) there)

module _ (stamp : Stamp) (header : Header) (got : ℕ) (sids : List Sid) (d : NewDelta) (items : List Item)
    (orders : List Order)
    (table : IsTable header.records) (goes : GoesOn (live_serials header.records) [] items) (few : newest header.records
    + length sids < 65535) where
  abbrev nulls_header : Header
  nulls_header = with_deltas header got (null_deltas stamp sids)

  abbrev last_serial : ℕ
  last_serial = last_of got (newest header.records) (null_deltas stamp sids)

  abbrev new_serial : ℕ
  new_serial = suc (newest nulls_header.records)

  abbrev new_lines : List HistoryLine
  new_lines = lines_of (places items (base_set header.records got d) orders new_serial)

  newest_is : newest nulls_header.records ≡ newest header.records + length sids
  newest_is = newest_nulls header got stamp sids

  falls_before : Falls 65536 (serials_of nulls_header.records)
  falls_before = falls_in_turn header got (null_deltas stamp sids) table.falls
      (omega (arith, few, nulls_long stamp sids))

  items_below : above items ≤ new_serial
  items_below = let low : above items ≤ suc (newest header.records) = body_below header.records items table goes in
      omega (arith, low, newest_is)

  lines_are : AllByRecursion (IsLine (new_serial ∷ live_serials header.records)) new_lines
  lines_are =
      lines_of_live (new_serial ∷ live_serials header.records) (places items (base_set header.records got d) orders
      new_serial)
      (begins_whole (new_serial ∷ live_serials header.records) [] (places items (base_set header.records got d) orders
      new_serial)
      (rules_spliced (live_serials header.records) (base_set header.records got d) new_serial
      (plan orders (length (select (base_set header.records got d) (lines_of items)))) items items_below goes))

  -- a set of a table whose serials fall has none above the newest
  none_new : (records : List Record) (m k : ℕ) → Falls 65536 (serials_of records) → newest records < k
      → has (applied (version_of m) records) k ≡ false
  none_new records m k falls above_newest =
      has-falls (applied (version_of m) records) (suc (newest records)) k (applied_falls (version_of m)
      (path m records) [] records (suc (newest records)) (falls_newest records 65536 falls))
      (omega (arith, above_newest))

  shown_before : (m : ℕ) → select (applied (version_of m) header.records) new_lines ≡ version m header.records
      (lines_of items)
  shown_before m =
      other_placed items (base_set header.records got d) orders new_serial (omega arith) items_below
      (applied (version_of m) header.records) (none_new header.records m new_serial table.falls
      (omega (arith, newest_is)))

  pub others_nulls : (m : ℕ) → m ≤ newest header.records
      → version m (with_nulls header got (null_deltas stamp sids) d).records new_lines ≡ version m header.records
      (lines_of items)
  others_nulls m low =
      ap (λ set. select set new_lines) (older_set nulls_header.records last_serial m d falls_before
      (omega (arith, low, newest_is)) ∙ older_in_turn header got m (null_deltas stamp sids) table.falls
      (omega (arith, few, nulls_long stamp sids)) low)
      ∙ shown_before m

  pub null_version : (k : ℕ) → newest header.records < k → k ≤ newest nulls_header.records
      → version k (with_nulls header got (null_deltas stamp sids) d).records new_lines ≡ version got header.records
      (lines_of items)
  null_version k above_old within =
      ap (λ set. select set new_lines) (older_set nulls_header.records last_serial k d falls_before within)
      ∙ (alike_select (new_serial ∷ live_serials header.records) (applied (version_of k) nulls_header.records)
      (applied (version_of got) header.records) new_lines lines_are
      (live_or new_serial (live_serials header.records) (applied (version_of k) nulls_header.records)
      (applied (version_of got) header.records)
      (none_new nulls_header.records k new_serial falls_before (omega arith)
      ∙ sym (none_new header.records got new_serial table.falls (omega (arith, newest_is))))
      (λ j live. null_alike stamp header got sids k j table.falls (omega (arith, few)) above_old
      (omega (arith, within, newest_is)) (older_live header.records j table live)))
      ∙ shown_before got)

  pub own_behind : AllByRecursion (λ n. has (live_serials header.records) n ≡ true) d.include
      → AllByRecursion (λ n. has (live_serials header.records) n ≡ true) d.exclude
      → version new_serial (with_nulls header got (null_deltas stamp sids) d).records new_lines ≡ apply orders
      (select (base_set header.records got d) (lines_of items))
  own_behind included excluded =
      ap (λ set. select set new_lines) (own_set nulls_header.records last_serial d falls_before)
      ∙ (alike_select (new_serial ∷ live_serials header.records)
      (new_serial ∷ applied (asks last_serial d.include d.exclude) nulls_header.records)
      (new_serial ∷ base_set header.records got d) new_lines lines_are
      (live_or new_serial (live_serials header.records) (new_serial ∷ applied (asks last_serial d.include d.exclude)
      nulls_header.records) (new_serial ∷ base_set header.records got d)
      (both_first new_serial (applied (asks last_serial d.include d.exclude) nulls_header.records)
      (base_set header.records got d))
      (λ j live. ap (λ b. (new_serial == j) || b) (beneath_nulls stamp header got sids d.include d.exclude j table.falls
      (omega (arith, few)) (none_above header.records d.include table included)
      (none_above header.records d.exclude table excluded) (older_live header.records j table live))))
      ∙ select_placed items (base_set header.records got d) orders new_serial (omega arith) items_below)
    where
      both_first : (n : ℕ) (xs ys : List ℕ) → has (n ∷ xs) n ≡ has (n ∷ ys) n
      both_first n xs ys = or_left (n == n) (has xs n) (eq-eqb n n refl)
          ∙ sym (or_left (n == n) (has ys n) (eq-eqb n n refl))
