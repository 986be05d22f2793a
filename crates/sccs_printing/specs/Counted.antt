-- What is found of lines that are given.
use Rattle.std.specs.Prelude.{ℕ, ◌+◌, false, ◌||◌, List, length}
use Rattle.sccs_history.specs.Body.{HistoryLine}
use Rattle.sccs_keywords.specs.Forms.{LineForm, replaces_in, texts}
use Rattle.sccs_printing.specs.declared.shown.Shown.{Shown}

-- no line was given yet
abbrev pub no_lines : Shown
no_lines = record { lines = 0; keywords = false }

-- lines with these texts more
abbrev pub with_lines : LineForm → Shown → List (List ℕ) → Shown
with_lines form s lines = record { lines = s.lines + length lines; keywords = s.keywords || replaces_in form lines }

-- how many lines there are, and whether a keyword of them is replaced
abbrev pub shown_of : LineForm → List HistoryLine → Shown
shown_of form lines = record { lines = length lines; keywords = replaces_in form (texts lines) }
