-- The cells of a script, and of the scripts of a trunk in their order.
use Rattle.std.specs.Prelude.{ℕ, zero, suc, ◌+◌, ◌-◌, List, [], ◌∷◌, ◌++◌, length, replicate, Option, None, Some}
use Rattle.sccs_history.specs.Body.{HistoryLine}
use Rattle.sccs_trunks.specs.Changes.{command_of}
use Rattle.sccs_trunks.specs.declared.revisions.Revision.{Revision}
use Rattle.sccs_trunks.specs.declared.revisions.ScriptCommand.{ScriptCommand}
use Rattle.sccs_trunks.specs.declared.revisions.ScriptCommand.TheVariants.{Delete, Add}
use Rattle.sccs_trunks.specs.Cells.{Cell, Base, New, laid}

-- the cells of a command, where the lines up to `last` are behind, and of what comes after it; a line that is no
-- command says nothing
abbrev pub command_cells : ℕ → ℕ → Option ScriptCommand → (ℕ → ℕ → List Cell) → List Cell
command_cells n last None next = next last 0
command_cells n last (Some (Delete line count)) next =
    replicate (line - 1 - last) (Base 0) ++ (replicate count (Base n) ++ next (line + count - 1) 0)
command_cells n last (Some (Add line count)) next = replicate (line - last) (Base 0) ++ next line count

-- the cells of the lines of a serial's script, where `taken` more lines are the text of a command
abbrev pub cells_from : ℕ → ℕ → ℕ → List (List ℕ) → List Cell
cells_from n last taken [] = []
cells_from n last zero (line ∷ rest) =
    command_cells n last (command_of line) (λ behind taken. cells_from n behind taken rest)
cells_from n last (suc taken) (line ∷ rest) = New n 0 line ∷ cells_from n last taken rest

abbrev pub script_cells : ℕ → List (List ℕ) → List Cell
script_cells n script = cells_from n 0 0 script

-- the serial whose script comes first, where so many come after it and below them all
abbrev pub serial_of : ℕ → ℕ → ℕ
serial_of below others = suc (suc (below + others))

-- what scripts make of lines, one after the other; `below` more scripts come after them
abbrev pub laid_scripts : ℕ → List (List (List ℕ)) → List HistoryLine → List HistoryLine
laid_scripts below [] lines = lines
laid_scripts below (script ∷ scripts) lines =
    laid_scripts below scripts (laid (script_cells (serial_of below (length scripts)) script) lines)

-- the script lines of revisions
abbrev pub texts_of : List Revision → List (List (List ℕ))
texts_of [] = []
texts_of (r ∷ revisions) = r.text ∷ texts_of revisions
