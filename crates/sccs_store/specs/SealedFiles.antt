-- An s-file as a commit puts it in its place.
use Rattle.std.specs.Prelude.{false, List}
use Rattle.sccs_history.specs.declared.headers.Header.{Header}
use Rattle.sccs_history.specs.declared.headers.Item.{Item}
use Rattle.sccs_disk.specs.Files.{Content}
use Rattle.sccs_tokens.specs.Written.{canonical}

-- header and items as they are written; the file isn't writable
abbrev pub sealed : Header → List Item → Content
sealed header items = record { bytes = canonical header items; writable = false }
