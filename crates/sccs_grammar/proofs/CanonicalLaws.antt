-- The written spelling of a history is read as it.
use Rattle.std.proofs.Common.{◌≡◌, ℕ, ◌<◌, false, List, [], ◌∷◌, ◌++◌, map, Ok, Some, refl, ap, ◌∙◌, arith, eq-eqb}
use Rattle.std.specs.List.{AllByRecursion}
use Rattle.sccs_base.specs.Cut.{Cut, cut}
use Rattle.sccs_sid.specs.Reading.{number}
use Rattle.sccs_history.specs.Applied.{live_serials}
use Rattle.sccs_history.specs.Body.{GoesOn}
use Rattle.sccs_history.specs.History.{IsHeader, IsSpelled, is_encoded}
use Rattle.sccs_history.specs.declared.headers.Header.{Header}
use Rattle.sccs_history.specs.declared.headers.Item.{Item}
use Rattle.sccs_grammar.specs.Front.{ParsedFront, start, front_from}
use Rattle.sccs_tokens.specs.Items.{items_from}
use Rattle.sccs_tokens.specs.Sums.{plain_sum}
use Rattle.sccs_grammar.specs.File.{Opened, stored, opened, opened_cut, checked_front, file_of, IsSFile}
use Rattle.sccs_tokens.specs.Written.{sum_line, ended, IsItem, HasLines, item_line, header_lines, bytes_behind}
use Rattle.sccs_tokens.specs.Written.{canonical}
use Rattle.sccs_tokens.proofs.TokenLaws.{five_again}
use Rattle.sccs_tokens.proofs.CutLaws.{cut_line, cut-bytes_of}
use Rattle.sccs_tokens.proofs.BodyLaws.{items_again}
use Rattle.sccs_grammar.proofs.HeaderLaws.{header_again}
use Rattle.sccs_tokens.proofs.LineLaws.{sum_line_ends, lines_end}

-- ---- the sum line

stored_again : (n : ℕ) → n < 100000 → stored (sum_line n) ≡ Some n
unfolding stored number
stored_again n small = rw (five_again n [] small tt) refl

-- a sum line before other bytes
abbrev summed_bytes : ℕ → List ℕ → List ℕ
summed_bytes n bytes = ended (sum_line n) ++ bytes

cut_summed : (n : ℕ) (bytes : List ℕ) (lines : List (List ℕ)) → cut bytes ≡ record { lines = lines; tail = [] }
    → cut (summed_bytes n bytes) ≡ record { lines = sum_line n ∷ lines; tail = [] }
cut_summed n bytes lines is =
    cut_line (sum_line n) bytes (sum_line_ends n)
    ∙ ap (λ (c : Cut). record { lines = sum_line n ∷ c.lines; tail = c.tail }) is

abbrev opened_as : ℕ → List ℕ → List (List ℕ) → Opened
opened_as n bytes lines = record { sum_of = n; lines = lines; bytes = bytes }

opened_again : (n : ℕ) (bytes : List ℕ) (lines : List (List ℕ)) → n < 100000
    → cut bytes ≡ record { lines = lines; tail = [] } → opened (summed_bytes n bytes) ≡ Ok (opened_as n bytes lines)
unfolding opened
opened_again n bytes lines small is =
    ap (λ (c : Cut). opened_cut (summed_bytes n bytes) c.lines) (cut_summed n bytes lines is)
    ∙ rw (stored_again n small) refl

checked_again : (n : ℕ) (bytes : List ℕ) (lines : List (List ℕ)) (front : ParsedFront) → n < 100000
    → n ≡ plain_sum bytes → cut bytes ≡ record { lines = lines; tail = [] } → front_from 2 start lines ≡ Ok front
    → checked_front (summed_bytes n bytes) ≡ Ok front
unfolding checked_front
checked_again n bytes lines front small sum is reads =
    rw (opened_again n bytes lines small is, eq-eqb n (plain_sum bytes) sum, reads) refl

-- ---- a whole file

file_again : (n : ℕ) (bytes : List ℕ) (lines : List (List ℕ)) (front : ParsedFront) (items : List Item) → n < 100000
    → n ≡ plain_sum bytes → cut bytes ≡ record { lines = lines; tail = [] } → front_from 2 start lines ≡ Ok front
    → is_encoded front.header.flags ≡ false
    → items_from (live_serials front.header.records) front.line [] front.rest [] ≡ Ok items
    → file_of (summed_bytes n bytes) ≡ Ok (record { header = front.header; items = items })
unfolding file_of
file_again n bytes lines front items small sum is reads plain body =
    rw (checked_again n bytes lines front small sum is reads, cut_summed n bytes lines is, body, plain) refl

pub canonical_again : (header : Header) (items : List Item) → IsHeader header → IsSpelled header
    → AllByRecursion IsItem items → AllByRecursion HasLines items → GoesOn (live_serials header.records) [] items
    → IsSFile (canonical header items) header items
unfolding canonical
canonical_again header items is spells are lines goes =
    let body = map item_line items in
    let all = header_lines header body in
    let bytes = bytes_behind header items in
    let read = header_again 2 header body is spells in
    let front : ParsedFront = record { header = header; line = read.0; rest = body } in
    file_again (plain_sum bytes) bytes all front items (omega arith) refl
    (cut-bytes_of all (lines_end header items is spells are lines)) read.1 is.plain
    (items_again (live_serials header.records) read.0 [] items are goes)
