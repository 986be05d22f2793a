-- What a state of a body knows.
use Rattle.std.specs.Prelude.{◌≡◌, ℕ, false, List, slice_index_or}
use Rattle.sccs_history.specs.Body.{mark}
use Rattle.sccs_history.specs.Numbers.{has}
use Rattle.sccs_history.specs.declared.headers.Item.{Item}
use Rattle.sccs_body.specs.Kinds.{kind}
use Rattle.sccs_body.specs.declared.body_states.BodyState.{BodyState}
use Rattle.sccs_body.specs.declared.marks.Mark.TheVariants.{Closed}

-- the state is that behind these items of a body over live serials: how each serial stands, and which live
pub record Knows (live : List ℕ) (before : List Item) (s : BodyState) : Type 0 where
  pub marks : (n : ℕ) → kind (slice_index_or s.marks n Closed) ≡ mark n before
  pub lives_are : (n : ℕ) → slice_index_or s.lives.items n false ≡ has live n
