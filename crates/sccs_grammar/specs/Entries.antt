-- The delta table as far as it was read.
use Rattle.std.specs.Prelude.{ℕ, List, [], ◌∷◌, ◌++◌}
use Rattle.sccs_history.specs.declared.headers.Record.{Record}
use Rattle.sccs_grammar.specs.declared.header_parsers.TableEntry.{TableEntry}

-- The records of the entries, newest first, and the numbers of their delta lines.
pub record Entries : Type 0 where
  pub records : List Record
  pub lines : List ℕ

abbrev pub no_entries : Entries
no_entries = record { records = []; lines = [] }

abbrev pub with_entry : Entries → TableEntry → Entries
with_entry entries e = record { records = entries.records ++ e.row ∷ []; lines = entries.lines ++ e.line ∷ [] }
