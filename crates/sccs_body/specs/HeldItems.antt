-- How a reader of items is held.
use Rattle.std.specs.Prelude.{◌≡◌, ◌≤◌}
use Rattle.sccs_body.specs.Reader.{ItemPlace}
use Rattle.sccs_body.specs.declared.item_readers.ItemReader.TheInside.{Inside}

abbrev pub item_place : Inside → ItemPlace
item_place r = record { body = r.body; size = r.size; sum = r.sum }

-- The body begins where a file may be read.
pub record IsWithinFile (r : Inside) : Type 0 where
  pub from : r.body.from ≤ r.body.lines.limit
  pub limit : r.body.lines.limit ≡ 1073741825
