-- The first line of a p-file.
use Rattle.std.proofs.Common.{◌≡◌, ℕ, ◌+◌, ◌<◌, List, [], ◌∷◌, length, None, Some, Err, refl, sym, ap, ◌∙◌, arith}
use Rattle.sccs_base.specs.Cut.{Cut}
use Rattle.sccs_sid.specs.Reading.{until, behind}
use Rattle.sccs_pfile.specs.Reading.{entries_at, entries_from, entry_of, edits_with_entry}
use Rattle.sccs_sid.proofs.FirstLines.{cut_first, cut_none}

-- the entries by the first line
pub first_line : (number : ℕ) (bytes more : List ℕ) → Some more ≡ behind 10 bytes → entries_at number bytes
    ≡ edits_with_entry number (entry_of (until 10 bytes)) (entries_at (number + 1) more)
first_line number bytes more found = ap (λ (c : Cut). entries_from number c.lines c.tail)
    (cut_first bytes more (sym found))

tail_fault : (number : ℕ) (bytes : List ℕ) → 0 < length bytes → entries_from number [] bytes ≡ Err number
tail_fault number [] some = absurd (omega (arith, some))
tail_fault number (b ∷ bytes) some = refl

-- without LF the line is at fault
pub no_line : (number : ℕ) (bytes : List ℕ) → 0 < length bytes → None ≡ behind 10 bytes → entries_at number bytes
    ≡ Err number
no_line number bytes some none = ap (λ (c : Cut). entries_from number c.lines c.tail) (cut_none bytes (sym none))
    ∙ tail_fault number bytes some
