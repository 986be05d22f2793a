-- How many serials are open.
use Rattle.std.specs.Prelude.{◌≡◌, ◌≤◌, ℕ, List, length}
use Rattle.std.specs.List.{count_by}
use Rattle.sccs_body.specs.Kinds.{is_insert_mark, is_open}
use Rattle.sccs_body.specs.declared.marks.Mark.{Mark}

-- the serials from 0 to 65,535 at most have a mark, and these numbers of serials are open by Insert, and open
pub record AreMarksCounted (marks : List Mark) (inserting opened : ℕ) : Type 0 where
  pub few : length marks ≤ 65536
  pub inserts : inserting ≡ count_by is_insert_mark marks
  pub opens : opened ≡ count_by is_open marks
