-- The messages of usage faults: POSIX, Shell and Utilities, the diagnostics of each utility.
use Rattle.std.specs.Prelude.{ℕ, List, ◌++◌, codes, decimal, ◌==◌, if◌then◌else◌}
use Rattle.sccs_words.specs.declared.commands.Usage.{Usage}

-- what is wrong, by the number of its kind
unfoldable pub usage_text : ℕ → List ℕ
usage_text kind =
    if kind == 1 then codes "unknown utility"
    else if kind == 2 then codes "unknown option"
    else if kind == 3 then codes "missing argument"
    else if kind == 4 then codes "option given twice"
    else if kind == 5 then codes "options exclude each other"
    else if kind == 6 then codes "malformed value"
    else if kind == 7 then codes "no operand"
    else if kind == 8 then codes "option needed"
    else codes "too many operands"

-- the line that says it, with the number of the word
abbrev pub usage_line : Usage → List ℕ
usage_line usage = codes "USAGE: " ++ (usage_text usage.kind
    ++ (codes " (word " ++ (decimal usage.word ++ codes ")\n")))
