-- How a serial stands.
use Rattle.std.specs.Prelude.{Bool, not}
use Rattle.sccs_history.specs.Body as body
use Rattle.sccs_body.specs.declared.marks.Mark.{Mark}
use Rattle.sccs_body.specs.declared.marks.Mark.TheVariants.{Closed, Inserts, Deletes}

-- what a mark says
abbrev pub kind : Mark → body.Mark
kind Closed = body.Closed
kind Inserts = body.ByInsert
kind Deletes = body.ByDelete

-- it is open by Insert
abbrev pub is_insert_mark : Mark → Bool
is_insert_mark m = body.is_insert (kind m)

-- it is open
abbrev pub is_open : Mark → Bool
is_open m = not (body.is_closed (kind m))
