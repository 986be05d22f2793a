-- The lines of a body as they are written.
use Rattle.std.specs.Prelude.{ℕ, List, flat_map}
use Rattle.sccs_history.specs.declared.headers.Item.{Item}
use Rattle.sccs_tokens.specs.Written.{ended, item_line}

-- the written spelling of items
abbrev pub spelled : List Item → List ℕ
spelled items = flat_map (λ (item : Item). ended (item_line item)) items
