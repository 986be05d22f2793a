-- What reading a whole s-file answers that passes over its stored sum: POSIX, Shell and Utilities, admin, -z.
use Rattle.std.specs.Prelude.{ℕ, List, [], Result}
use Rattle.sccs_base.specs.Cut.{cut}
use Rattle.sccs_sid.specs.Reading.{◌>>=◌}
use Rattle.sccs_history.specs.Applied.{live_serials}
use Rattle.sccs_tokens.specs.Items.{items_from}
use Rattle.sccs_grammar.specs.Front.{ParsedFront, front_from, start}
use Rattle.sccs_grammar.specs.File.{Parsed, as_format, not_encoded, opened}
use Rattle.sccs_grammar.specs.declared.faults.FileFault.{FileFault}

-- the header with what comes after it, whatever the stored sum is
unfoldable pub unsummed_front : List ℕ → Result ParsedFront FileFault
unsummed_front bytes = do
  o ← opened bytes
  as_format (front_from 2 start o.lines)

-- The header and the items, whatever the stored sum is; the first fault in the order: no sum line, a line at which
-- nothing goes on, an encoded body.
unfoldable pub unsummed_file : List ℕ → Result Parsed FileFault
unsummed_file bytes = do
  f ← unsummed_front bytes
  items ← as_format (items_from (live_serials f.header.records) f.line [] f.rest (cut bytes).tail)
  not_encoded f.header (record { header = f.header; items = items })
