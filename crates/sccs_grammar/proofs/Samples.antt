-- Sample files, as lists of lines, and changes of such lists.
use Rattle.std.proofs.Common.{ℕ, ◌-◌, List, [], ◌∷◌, ◌++◌}
use Rattle.std.specs.Prelude.{codes}
use Rattle.sccs_tokens.specs.Sums.{plain_sum}
use Rattle.sccs_tokens.specs.Written.{bytes_of, sum_line}

-- lines with the sum line that fits them
abbrev pub with_sum : List (List ℕ) → List (List ℕ)
with_sum lines = sum_line (plain_sum (bytes_of lines)) ∷ lines

-- what the first admin command makes of a file without text
abbrev pub empty_delta : List (List ℕ)
empty_delta =
    (1 ∷ codes "s 00000/00000/00000") ∷ (1 ∷ codes "d D 1.1 21/03/04 05:06:07 ann 1 0")
    ∷ (1 ∷ codes "c date and time created 21/03/04 05:06:07 by ann") ∷ (1 ∷ codes "e") ∷ (1 ∷ codes "u")
    ∷ (1 ∷ codes "U")
    ∷ (1 ∷ codes "t") ∷ (1 ∷ codes "T") ∷ (1 ∷ codes "I 1") ∷ (1 ∷ codes "E 1") ∷ []

-- the same with a text of two lines
abbrev pub two_lines : List (List ℕ)
two_lines =
    (1 ∷ codes "s 00002/00000/00000") ∷ (1 ∷ codes "d D 1.1 21/03/04 05:06:07 ann 1 0")
    ∷ (1 ∷ codes "c date and time created 21/03/04 05:06:07 by ann") ∷ (1 ∷ codes "e") ∷ (1 ∷ codes "u")
    ∷ (1 ∷ codes "U")
    ∷ (1 ∷ codes "t") ∷ (1 ∷ codes "T") ∷ (1 ∷ codes "I 1") ∷ codes "one" ∷ codes "two %I%" ∷ (1 ∷ codes "E 1") ∷ []

-- the same after a delta that puts a line between the two
abbrev pub second_delta : List (List ℕ)
second_delta =
    (1 ∷ codes "s 00001/00000/00002") ∷ (1 ∷ codes "d D 1.2 21/03/04 05:08:00 ann 2 1") ∷ (1 ∷ codes "c second")
    ∷ (1 ∷ codes "e")
    ∷ (1 ∷ codes "s 00002/00000/00000") ∷ (1 ∷ codes "d D 1.1 21/03/04 05:06:07 ann 1 0")
    ∷ (1 ∷ codes "c date and time created 21/03/04 05:06:07 by ann") ∷ (1 ∷ codes "e") ∷ (1 ∷ codes "u")
    ∷ (1 ∷ codes "U")
    ∷ (1 ∷ codes "t") ∷ (1 ∷ codes "T") ∷ (1 ∷ codes "I 1") ∷ codes "one" ∷ (1 ∷ codes "I 2") ∷ codes "mid"
    ∷ (1 ∷ codes "E 2")
    ∷ codes "two %I%" ∷ (1 ∷ codes "E 1") ∷ []

-- a branch, a line deleted, users and a flag
abbrev pub branched : List (List ℕ)
branched =
    (1 ∷ codes "s 00001/00000/00002") ∷ (1 ∷ codes "d D 1.1.1.1 99/12/31 23:59:59 bob 3 1") ∷ (1 ∷ codes "c")
    ∷ (1 ∷ codes "e")
    ∷ (1 ∷ codes "s 00001/00001/00001") ∷ (1 ∷ codes "d D 1.2 75/03/01 00:00:00 ann 2 1") ∷ (1 ∷ codes "c two")
    ∷ (1 ∷ codes "e")
    ∷ (1 ∷ codes "s 00002/00000/00000") ∷ (1 ∷ codes "d D 1.1 75/02/28 23:59:59 ann 1 0") ∷ (1 ∷ codes "c one")
    ∷ (1 ∷ codes "e")
    ∷ (1 ∷ codes "u") ∷ codes "ann" ∷ codes "bob" ∷ (1 ∷ codes "U") ∷ (1 ∷ codes "f e 0") ∷ (1 ∷ codes "t")
    ∷ (1 ∷ codes "T")
    ∷ (1 ∷ codes "I 1") ∷ codes "a" ∷ (1 ∷ codes "D 2") ∷ codes "b" ∷ (1 ∷ codes "E 2") ∷ (1 ∷ codes "I 2") ∷ codes "B"
    ∷ (1 ∷ codes "E 2") ∷ (1 ∷ codes "I 3") ∷ codes "c" ∷ (1 ∷ codes "E 3") ∷ (1 ∷ codes "E 1") ∷ []
