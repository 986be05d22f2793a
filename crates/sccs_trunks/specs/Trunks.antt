-- The texts of a trunk's revisions, and the lines of the history that has them all: the head has the greatest serial,
-- the
-- last revision the serial 1. A line whose inserter isn't known yet, since every script so far left it, has the
-- inserter 0.
use Rattle.std.specs.Prelude.{ℕ, zero, suc, Bool, true, false, List, [], ◌∷◌, ◌++◌, length, map, if◌then◌else◌}
use Rattle.sccs_history.specs.Body.{HistoryLine}
use Rattle.sccs_trunks.specs.Changes.{Change, added, revised, strikes}

-- the text of the revision so many places behind the head, by the text of the head and the scripts of the others
abbrev pub revision_text : ℕ → List (List ℕ) → List (List Change) → List (List ℕ)
revision_text zero text scripts = text
revision_text (suc n) text [] = []
revision_text (suc n) text (changes ∷ scripts) = revision_text n (revised changes text) scripts

abbrev pub is_zero : ℕ → Bool
is_zero zero = true
is_zero (suc n) = false

-- whether the line is in the text of the revision that was reached
abbrev pub is_open : HistoryLine → Bool
is_open line = is_zero line.inserter

-- the line, with an inserter where it is known now
abbrev pub begun : ℕ → Bool → HistoryLine → HistoryLine
begun n true line = record line { inserter = n }
begun n false line = line

-- a line that the revision of a serial deleted, and an earlier one has
abbrev pub earlier_line : ℕ → List ℕ → HistoryLine
earlier_line n text = record { text = text; inserter = 0; deleters = n ∷ [] }

-- a line of the head
abbrev pub head_line : List ℕ → HistoryLine
head_line text = record { text = text; inserter = 0; deleters = [] }

-- The lines behind open line k, turned back by the script that leads from the revision of a serial to the one before
-- it:
-- the serial inserted the lines that the script deletes, and deleted those that it adds.
abbrev pub turned_from : ℕ → List Change → ℕ → List HistoryLine → List HistoryLine
turned_from n changes k [] = []
turned_from n changes k (line ∷ lines) =
    if is_open line
    then begun n (strikes changes (suc k)) line ∷ (map (earlier_line n) (added changes (suc k)) ++ turned_from n changes
    (suc k) lines)
    else line ∷ turned_from n changes k lines

abbrev pub turned : ℕ → List Change → List HistoryLine → List HistoryLine
turned n changes lines = map (earlier_line n) (added changes 0) ++ turned_from n changes 0 lines

-- a line at the end: what no script deleted the first revision inserted
abbrev pub settled : HistoryLine → HistoryLine
settled line = begun 1 (is_open line) line

-- the lines turned back by scripts, one after the other, down to the revision of serial 1
abbrev pub turned_back : List (List Change) → List HistoryLine → List HistoryLine
turned_back [] lines = map settled lines
turned_back (changes ∷ scripts) lines = turned_back scripts (turned (suc (suc (length scripts))) changes lines)

-- the lines of a trunk's history
abbrev pub trunk_lines : List (List ℕ) → List (List Change) → List HistoryLine
trunk_lines head scripts = turned_back scripts (map head_line head)
