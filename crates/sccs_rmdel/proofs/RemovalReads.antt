-- The s-file that a removal makes can be read.
use Rattle.std.proofs.Common.{ℕ, ◌==◌, Bool, not, List, [], ◌∷◌, IfOk, sym, subst}
use Rattle.std.specs.List.{AllByRecursion}
use Rattle.sccs_history.specs.Applied.{live_serials}
use Rattle.sccs_history.specs.Body.{GoesOn, inserter}
use Rattle.sccs_history.specs.History.{IsHeader, IsSpelled}
use Rattle.sccs_history.specs.Numbers.{front_if}
use Rattle.sccs_history.specs.Removal.{dropped, dropped_behind}
use Rattle.sccs_history.specs.declared.headers.Header.{Header}
use Rattle.sccs_history.specs.declared.headers.Item.{Item}
use Rattle.sccs_history.specs.declared.headers.Item.TheVariants.{Text, Insert, Delete, End}
use Rattle.sccs_tokens.specs.Written.{canonical}
use Rattle.sccs_grammar.specs.File.{IsSFile, Parsed}
use Rattle.sccs_grammar.proofs.CanonicalLaws.{canonical_again}
use Rattle.sccs_copies.proofs.FileReads.{HasItems, IsLegal, file_fits, legal_items, legal_lines}
use Rattle.sccs_rmdel.specs.Removed.{without_delta}
use Rattle.sccs_rmdel.proofs.DroppedItems.{by_test, rules_dropped}
use Rattle.sccs_rmdel.proofs.RemovedTables.{header_removed, live_removed, spelled_removed}

-- ---- what is so of all items is so of those that are left

front_all : (P : Item → Type 0) (t : Bool) (item : Item) (items : List Item) → P item → AllByRecursion P items
    → AllByRecursion P (front_if t item items)
front_all P t item items one rest = by_test (λ u. AllByRecursion P (front_if u item items)) t (λ stays. (one, rest))
    (λ goes. rest)

left_all : (P : Item → Type 0) (n : ℕ) (before items : List Item) → AllByRecursion P items
    → AllByRecursion P (dropped_behind n before items)
left_all P n before [] are = tt
left_all P n before (Text text ∷ items) are = front_all P (not (inserter before == n)) (Text text)
    (dropped_behind n (Text text ∷ before) items) are.0 (left_all P n (Text text ∷ before) items are.1)
left_all P n before (Insert m ∷ items) are = front_all P (not (m == n)) (Insert m)
    (dropped_behind n (Insert m ∷ before) items) are.0 (left_all P n (Insert m ∷ before) items are.1)
left_all P n before (Delete m ∷ items) are = front_all P (not (m == n)) (Delete m)
    (dropped_behind n (Delete m ∷ before) items) are.0 (left_all P n (Delete m ∷ before) items are.1)
left_all P n before (End m ∷ items) are = front_all P (not (m == n)) (End m) (dropped_behind n (End m ∷ before) items)
    are.0 (left_all P n (End m ∷ before) items are.1)

-- ---- the file

pub removal_reads : (bytes : List ℕ) (header : Header) (items : List Item) (n : ℕ) → IsSFile bytes header items
    → IsHeader header → IsSpelled header
    → IsSFile (canonical (without_delta n header) (dropped n items)) (without_delta n header) (dropped n items)
removal_reads bytes header items n whole is spelled =
    let has_items : HasItems header items = subst (λ r. IfOk r (λ (f : Parsed). HasItems f.header f.items)) whole
    (file_fits bytes) in
    let are : AllByRecursion IsLegal (dropped n items) = left_all IsLegal n [] items (has_items.legal is.rules.table) in
    canonical_again (without_delta n header) (dropped n items) (header_removed n header is)
    (spelled_removed n header spelled) (legal_items (dropped n items) are) (legal_lines (dropped n items) are)
    (subst (λ live. GoesOn live [] (dropped n items)) (sym (live_removed n header.records))
    (rules_dropped (live_serials header.records) n items has_items.goes))
