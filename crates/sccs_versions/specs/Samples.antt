-- The table of the tests.
use Rattle.std.specs.Prelude.{ℕ, pos, List, [], ◌∷◌, codes}
use Rattle.sccs_history.specs.Samples.{sample_delta, trunk}
use Rattle.sccs_history.specs.declared.headers.Record.{Record}

-- a delta of the trunk by nobody
abbrev pub plain_record : ℕ → ℕ → Record
plain_record serial predecessor = record (sample_delta serial predecessor (trunk 1 serial)
    (pos 0)) { login = codes "nobody" }

-- 1.1, and 1.3 and 1.5 on it
abbrev pub crossing_table : List Record
crossing_table = plain_record 5 1 ∷ plain_record 3 1 ∷ plain_record 1 0 ∷ []
