-- Tables by which SIDs got, lists and sets are tried.
use Rattle.std.specs.Prelude.{ℕ, pos, true, List, [], ◌∷◌, codes, map}
use Rattle.sccs_sid.specs.declared.sids.Sid.{Sid}
use Rattle.sccs_sid.specs.declared.sid_lists.Range.{Range}
use Rattle.sccs_history.specs.Samples.{sample_delta}
use Rattle.sccs_history.specs.declared.headers.Record.{Record}
use Rattle.sccs_sets.specs.Retrieved.{trunk_sid, branch_sid}
use Rattle.sccs_sets.specs.SidTable.{Row}

-- live are 1.1, 1.2, 3.1, 3.2, 1.2.1.1, 1.2.1.2 and 1.2.2.1, with the serials 1 to 7; 4.1 is removed
abbrev pub sixteen_table : List Record
sixteen_table =
    record (sample_delta 8 4 (trunk_sid 4 1) (pos 8)) { removed = true } ∷ sample_delta 7 2 (branch_sid 1 2 2 1) (pos 7)
    ∷ sample_delta 6 5 (branch_sid 1 2 1 2) (pos 6)
    ∷ sample_delta 5 2 (branch_sid 1 2 1 1) (pos 5) ∷ sample_delta 4 3 (trunk_sid 3 2) (pos 4) ∷ sample_delta 3 2
    (trunk_sid 3 1) (pos 3) ∷ sample_delta 2 1 (trunk_sid 1 2) (pos 2) ∷ sample_delta 1 0 (trunk_sid 1 1) (pos 1)
    ∷ []

abbrev pub from_to : Sid → Sid → Range
from_to first last = record { first = first; last = last }

-- a delta by nobody that leaves out some
abbrev pub plain : ℕ → ℕ → Sid → List ℕ → Record
plain serial predecessor sid exclude = record (sample_delta serial predecessor sid (pos 0)) {
  login = codes "nobody";
  exclude = exclude;
}

-- 1.1, 1.2, 1.2.1.1, which leaves out 1.2, and 1.3
abbrev pub listing : List Record
listing =
    plain 4 2 (trunk_sid 1 3) [] ∷ plain 3 2 (branch_sid 1 2 1 1) (2 ∷ []) ∷ plain 2 1 (trunk_sid 1 2) [] ∷ plain 1 0
    (trunk_sid 1 1) [] ∷ []

-- the numbers of rows
abbrev pub numbers_of : List Row → List ℕ
numbers_of rows = map (λ (r : Row). r.number) rows
