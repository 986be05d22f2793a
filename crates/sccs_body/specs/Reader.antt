-- Where a reader of items stands.
use Rattle.std.specs.Prelude.{◌≡◌, ℕ, ◌+◌, ◌-◌, ◌*◌, List, take, drop}
use Rattle.sccs_table.specs.ReaderState.{ReaderState}
use Rattle.sccs_table.specs.Runs.{lf_count}
use Rattle.sccs_body.specs.declared.body_states.BodyState.{BodyState}

-- Where the next line stands in the file, what the items so far leave open, and the number and the place of the body's
-- first line.
pub record BodyPlace : Type 0 where
  pub lines : ReaderState
  pub state : BodyState
  pub first : ℕ
  pub from : ℕ

-- the number of the line that begins at a place of a file, where a line of that number begins at another before it
abbrev pub number_of_line : ℕ → ℕ → List ℕ → ℕ → ℕ
number_of_line first from file place = first + lf_count (take (place - from) (drop from file))

-- the number of the next line in a file
abbrev pub next_line_number : BodyPlace → List ℕ → ℕ
next_line_number r file = number_of_line r.first r.from file r.lines.place

-- The body whose items are given stays.
pub record KeepsBody (old new : BodyPlace) : Type 0 where
  pub first : new.first ≡ old.first
  pub from : new.from ≡ old.from

-- The same in a later reading of a file, and what the first reading found: the file's size, and its plain sum.
pub record ItemPlace : Type 0 where
  pub body : BodyPlace
  pub size : ℕ
  pub sum : ℕ

-- the file that is read
abbrev pub name_read : ItemPlace → List ℕ
name_read r = r.body.lines.name

-- how many bytes may be read yet
abbrev pub bytes_left : ItemPlace → ℕ
bytes_left r = r.body.lines.limit - r.body.lines.place

-- how many steps may be left at most: a step takes bytes, or makes a line whole where none is held whole
abbrev pub steps_left : ItemPlace → ℕ
steps_left r = 2 * bytes_left r + (1 - lf_count r.body.lines.held)

-- so many of the bytes that were read and not given yet, and those behind them
abbrev pub at_hand : ItemPlace → ℕ → List ℕ
at_hand r count = take count r.body.lines.held

abbrev pub behind_hand : ItemPlace → ℕ → List ℕ
behind_hand r count = drop count r.body.lines.held
