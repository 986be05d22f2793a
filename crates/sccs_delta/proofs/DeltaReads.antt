-- The s-file that a delta makes can be read.
use Rattle.std.proofs.Common.{◌≡◌, ℕ, suc, ◌≤◌, true, false, not, List, [], ◌∷◌, length, IfOk, subst, arith}
use Rattle.std.specs.List.{AllByRecursion}
use Rattle.std.proofs.lemmas.Bool.{and_parts}
use Rattle.sccs_base.specs.Cut.{HasNoLf}
use Rattle.sccs_sid.specs.SidLists.{begins}
use Rattle.sccs_script_laws.specs.Places.{places}
use Rattle.sccs_script_laws.specs.Plans.{plan}
use Rattle.sccs_script_laws.specs.declared.scripts.Order.{Order}
use Rattle.sccs_script_laws.proofs.Rules.{rules_spliced}
use Rattle.sccs_grammar.specs.File.{IsSFile, Parsed}
use Rattle.sccs_tokens.specs.Written.{HasLines, IsItem, IsSerial, canonical}
use Rattle.sccs_grammar.proofs.CanonicalLaws.{canonical_again}
use Rattle.sccs_history.specs.Applied.{live_serials, newest}
use Rattle.sccs_history.specs.Body.{GoesOn, above, is_closed, lines_of, mark, may_stand}
use Rattle.sccs_history.specs.History.{IsHeader, IsSpelled}
use Rattle.sccs_history.specs.Numbers.{has}
use Rattle.sccs_history.specs.Select.{select}
use Rattle.sccs_history.specs.declared.headers.Header.{Header}
use Rattle.sccs_history.specs.declared.headers.Item.{Item}
use Rattle.sccs_history.specs.declared.headers.Item.TheVariants.{Text, Insert, Delete, End}
use Rattle.sccs_records.specs.NewDeltas.{with_deltas}
use Rattle.sccs_records.specs.declared.new_deltas.NewDelta.{NewDelta}
use Rattle.sccs_script.specs.Checks.{HaveLines}
use Rattle.sccs_splicer.proofs.PlacedLines.{placed_all}
use Rattle.sccs_delta.specs.NullDeltas.{serial_behind, with_nulls}
use Rattle.sccs_delta.proofs.NullLaws.{newest_deltas}
use Rattle.sccs_delta.proofs.NullTables.{live_in_turn}
use Rattle.sccs_delta.proofs.VersionLaws.{body_below}
use Rattle.sccs_copies.proofs.FileReads.{HasItems, IsLegal, file_fits, legal_items, legal_lines}

-- ---- the file of a new delta

may_wider : (live more : List ℕ) (items : List Item) (item : Item) → ((n : ℕ) → has live n ≡ true → has more n ≡ true)
    → may_stand live items item ≡ true → may_stand more items item ≡ true
may_wider live more items (Text t) wider stands = stands
may_wider live more items (Insert n) wider stands = let both = and_parts (has live n) (is_closed (mark n items))
    stands in rw (wider n both.0) both.1
may_wider live more items (Delete n) wider stands = let both = and_parts (has live n) (is_closed (mark n items))
    stands in rw (wider n both.0) both.1
may_wider live more items (End n) wider stands = let both = and_parts (has live n) (not (is_closed (mark n items)))
    stands in rw (wider n both.0) both.1

-- a body over live serials is one over more of them
pub goes_wider : (live more : List ℕ) (before items : List Item) → ((n : ℕ) → has live n ≡ true → has more n ≡ true)
    → GoesOn live before items → GoesOn more before items
goes_wider live more before [] wider goes = goes
goes_wider live more before (item ∷ items) wider goes = (
  may_wider live more before item wider goes.0,
  goes_wider live more (item ∷ before) items wider goes.1,
)

-- What is written of an s-file with null deltas and a new delta reads as these, where the header keeps the rules and
-- has a spelling.
pub delta_reads : (bytes : List ℕ) (header : Header) (items : List Item) (got : ℕ) (nulls : List NewDelta)
    (d : NewDelta) (set : List ℕ) (orders : List Order) → IsSFile bytes header items → IsHeader header
    → IsHeader (with_nulls header got nulls d) → IsSpelled (with_nulls header got nulls d) → HaveLines orders
    → IsSFile (canonical (with_nulls header got nulls d) (places items set orders (serial_behind header got nulls)))
    (with_nulls header got nulls d) (places items set orders (serial_behind header got nulls))
delta_reads bytes header items got nulls d set orders whole old keeps spelled new =
    let has_items : HasItems header items = subst (λ r. IfOk r (λ (f : Parsed). HasItems f.header f.items)) whole
    (file_fits bytes) in
    let are : AllByRecursion IsLegal items = has_items.legal old.rules.table in
    let low : above items ≤ suc (newest header.records) = body_below header.records items old.rules.table
    has_items.goes in
    let high : above items ≤ serial_behind header got nulls = omega (arith, low, newest_deltas header got nulls) in
    let serial : IsSerial (serial_behind header got nulls) = (omega arith, keeps.rules.table.falls.0) in
    canonical_again (with_nulls header got nulls d) (places items set orders (serial_behind header got nulls)) keeps
    spelled
    (placed_all (λ text. (begins 1 text ≡ false) × HasNoLf text) IsItem (serial_behind header got nulls)
    (λ text fits. fits.0) serial serial serial items set orders (length (select set (lines_of items)))
    (legal_items items are) new)
    (placed_all (λ text. (begins 1 text ≡ false) × HasNoLf text) HasLines (serial_behind header got nulls)
    (λ text fits. fits.1) tt tt tt items set orders (length (select set (lines_of items))) (legal_lines items are)
    new)
    (rules_spliced (live_serials (with_deltas header got nulls).records) set (serial_behind header got nulls)
    (plan orders (length (select set (lines_of items)))) items high
    (goes_wider (live_serials header.records) (live_serials (with_deltas header got nulls).records) [] items
    (λ n live. live_in_turn header got nulls n live) has_items.goes))
