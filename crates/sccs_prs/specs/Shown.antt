-- An s-file that is shown, and the deltas of its table.
use Rattle.std.specs.Prelude.{◌≡◌, true, false, List}
use Rattle.sccs_history.specs.Applied.{live_serials}
use Rattle.sccs_history.specs.History.{HasSpelling}
use Rattle.sccs_history.specs.Numbers.{has}
use Rattle.sccs_history.specs.declared.headers.Item.{Item}
use Rattle.sccs_history.specs.declared.headers.Record.{Record}
use Rattle.sccs_prs.specs.Gives.{shown_by}
use Rattle.sccs_prs.specs.PrsText.{ShownFile}
use Rattle.sccs_prs.specs.declared.deltas.Shown.{Shown}

-- the file, with the items of its body
abbrev pub shown_file : Shown → List Item → ShownFile
shown_file s items = shown_by s.front.now items s.name.now s.place.now

-- A record of a table has a spelling, and one that isn't removed is live.
pub record IsShown (records : List Record) (r : Record) : Type 0 where
  pub spelled : HasSpelling r
  pub lives : r.removed ≡ false → has (live_serials records) r.serial ≡ true
