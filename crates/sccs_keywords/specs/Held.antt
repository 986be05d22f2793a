-- What a held line holds.
use Rattle.std.specs.Prelude.{ℕ, List}
use Rattle.sccs_keywords.specs.declared.held_lines.HeldLine.{HeldLine}

abbrev pub held_bytes : HeldLine → List ℕ
held_bytes line = line.bytes.items
