-- The items of a body that are still to be printed.
use Rattle.std.specs.Prelude.{◌≡◌, ℕ, List, Option, Some, Ok}
use Rattle.sccs_history.specs.declared.headers.Item.{Item}
use Rattle.sccs_body.specs.Reader.{ItemPlace}
use Rattle.sccs_body.specs.ToCome.{ToCome}

-- The file is told whole, and the reader stands in it before these items.
pub record IsToCome (told : Option (List ℕ)) (file : List ℕ) (items : List Item) (r : ItemPlace) : Type 0 where
  pub told_is : told ≡ Some file
  pub live : List ℕ
  pub before : List Item
  pub comes : ToCome file live before (Ok items) r
