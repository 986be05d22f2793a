-- The items of a file that was read are written and read again under another header.
use Rattle.std.proofs.Common.{◌≡◌, ℕ, List, [], IfOk, Ok, sym, subst}
use Rattle.std.specs.List.{AllByRecursion}
use Rattle.sccs_grammar.specs.AnySum.{unsummed_file}
use Rattle.sccs_grammar.specs.File.{IsSFile, Parsed}
use Rattle.sccs_tokens.specs.Written.{canonical}
use Rattle.sccs_grammar.proofs.CanonicalLaws.{canonical_again}
use Rattle.sccs_history.specs.Applied.{live_serials}
use Rattle.sccs_history.specs.Body.{GoesOn}
use Rattle.sccs_history.specs.History.{IsHeader, IsSpelled, IsTable}
use Rattle.sccs_history.specs.declared.headers.Header.{Header}
use Rattle.sccs_history.specs.declared.headers.Item.{Item}
use Rattle.sccs_copies.proofs.FileReads.{HasItems, IsLegal, legal_items, legal_lines, unsummed_fits}

-- Another header over the items of a file that was read, with the same delta table, is read back.
pub header_reads : (bytes : List ℕ) (header new : Header) (items : List Item) → unsummed_file bytes ≡ Ok
    (record { header = header; items = items }) → IsHeader new → IsSpelled new → new.records ≡ header.records
    → IsSFile (canonical new items) new items
header_reads bytes header new items whole keeps spelled same =
    let has_items : HasItems header items = subst (λ r. IfOk r (λ (f : Parsed). HasItems f.header f.items)) whole
    (unsummed_fits bytes) in
    let are : AllByRecursion IsLegal items = has_items.legal (subst IsTable same keeps.table) in
    canonical_again new items keeps spelled (legal_items items are) (legal_lines items are)
    (subst (λ records. GoesOn (live_serials records) [] items) (sym same) has_items.goes)
