-- What scripts of a trunk do to the lines of a history, as cells: one for each open line that a script passes, which
-- stays open or gets an inserter, and one for each line that it adds. Scripts in a row are again such a list of cells.
use Rattle.std.specs.Prelude.{ℕ, zero, suc, Bool, List, [], ◌∷◌, ◌++◌, length, map, replicate, if◌then◌else◌}
use Rattle.sccs_history.specs.Body.{HistoryLine}
use Rattle.sccs_trunks.specs.Trunks.{is_open, is_zero}
use Rattle.sccs_trunks.specs.declared.pieces.Piece.{Piece}
use Rattle.sccs_trunks.specs.declared.pieces.Piece.TheVariants as pieces

-- an open line that is passed, whose inserter is 0 where it stays open; or a line that the script of a deleter adds
pub data Cell : Type 0 where
  Base : (inserter : ℕ) → Cell
  New : (deleter inserter : ℕ) → (text : List ℕ) → Cell

-- whether the line of a cell is open
abbrev pub cell_open : Cell → Bool
cell_open (Base inserter) = is_zero inserter
cell_open (New deleter inserter text) = is_zero inserter

-- the cell with an inserter
abbrev pub cell_begun : ℕ → Cell → Cell
cell_begun i (Base inserter) = Base i
cell_begun i (New deleter inserter text) = New deleter i text

-- the line with an inserter, where it isn't 0
abbrev pub begun_by : ℕ → HistoryLine → HistoryLine
begun_by zero line = line
begun_by (suc n) line = record line { inserter = suc n }

abbrev pub laid_at : ℕ → (List HistoryLine → List HistoryLine) → List HistoryLine → List HistoryLine
laid_at i rest [] = []
laid_at i rest (line ∷ lines) = if is_open line then begun_by i line ∷ rest lines else line ∷ laid_at i rest lines

-- the deleters of a line that has one at most, which is 0 where there is none
abbrev pub deleters_by : ℕ → List ℕ
deleters_by zero = []
deleters_by (suc n) = suc n ∷ []

-- a line with an inserter and a deleter
abbrev pub line_by : ℕ → ℕ → List ℕ → HistoryLine
line_by inserter deleter text = record { text = text; inserter = inserter; deleters = deleters_by deleter }

-- what cells make of lines
abbrev pub laid : List Cell → List HistoryLine → List HistoryLine
laid [] lines = lines
laid (Base i ∷ cells) lines = laid_at i (laid cells) lines
laid (New d i text ∷ cells) lines = line_by i d text ∷ laid cells lines

abbrev pub joined_at : ℕ → (List Cell → List Cell) → List Cell → List Cell
joined_at i rest [] = Base i ∷ rest []
joined_at i rest (c ∷ cells) = if cell_open c then cell_begun i c ∷ rest cells else c ∷ joined_at i rest cells

-- what cells make of other cells: the cells of both, these ones made first
abbrev pub joined : List Cell → List Cell → List Cell
joined [] cells = cells
joined (Base i ∷ later) cells = joined_at i (joined later) cells
joined (New d i text ∷ later) cells = New d i text ∷ joined later cells

-- ---- pieces

-- lines that the script of a deleter adds
abbrev pub new_cells : ℕ → ℕ → List (List ℕ) → List Cell
new_cells deleter inserter lines = map (λ text. New deleter inserter text) lines

abbrev pub expand : Piece → List Cell
expand (pieces.Base inserter count) = replicate count (Base inserter)
expand (pieces.New deleter inserter lines) = new_cells deleter inserter lines.now

abbrev pub cells_of : List Piece → List Cell
cells_of [] = []
cells_of (p ∷ pieces) = expand p ++ cells_of pieces

-- the inserter of a piece's lines, and how many they are
abbrev pub inserter_of : Piece → ℕ
inserter_of (pieces.Base inserter count) = inserter
inserter_of (pieces.New deleter inserter lines) = inserter

abbrev pub count_of : Piece → ℕ
count_of (pieces.Base inserter count) = count
count_of (pieces.New deleter inserter lines) = length lines.now
