-- A header with other users, flags and description.
use Rattle.std.specs.Prelude.{ℕ, List}
use Rattle.sccs_history.specs.declared.headers.Flag.{Flag}
use Rattle.sccs_history.specs.declared.headers.Header.{Header}

abbrev pub with_rules : Header → List (List ℕ) → List Flag → List (List ℕ) → Header
with_rules h users flags description = record h { users = users; flags = flags; description = description }
