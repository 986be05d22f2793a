-- How a reader of a body is held.
use Rattle.std.specs.Prelude.{◌≤◌}
use Rattle.sccs_body.specs.Reader.{BodyPlace}
use Rattle.sccs_body.specs.declared.body_readers.BodyReader.TheInside.{Inside}

abbrev pub body_place : Inside → BodyPlace
body_place r = record { lines = r.lines; state = r.state; first = r.first; from = r.from }

-- No file has more lines before its body.
pub record IsCounted (r : Inside) : Type 0 where
  pub first : r.first ≤ 1073741827
