-- The lines of a trunk's history in runs, and those that cells make of a head's.
use Rattle.std.specs.Prelude.{ℕ, List, [], ◌∷◌, ◌++◌, map, Option, None, Some}
use Rattle.sccs_history.specs.Body.{HistoryLine}
use Rattle.sccs_trunks.specs.Trunks.{head_line, settled}
use Rattle.sccs_trunks.specs.Cells.{Cell, laid, line_by}
use Rattle.sccs_trunks.specs.declared.runs.LineRun.{LineRun}

-- the lines of a run
abbrev pub lines_of : LineRun → List HistoryLine
lines_of run = map (λ text. line_by run.inserter run.deleter text) run.lines.now

-- the lines of runs
abbrev pub run_lines : List LineRun → List HistoryLine
run_lines [] = []
run_lines (run ∷ runs) = lines_of run ++ run_lines runs

-- the lines that cells make of a head's, at the end
abbrev pub head_laid : List Cell → List (List ℕ) → List HistoryLine
head_laid cells head = map settled (laid cells (map head_line head))

-- those that they make of what is left of a head, where it isn't None
abbrev pub left_laid : List Cell → Option (List (List ℕ)) → List HistoryLine
left_laid cells None = []
left_laid cells (Some head) = head_laid cells head
