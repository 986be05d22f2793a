-- What a round of a soak does to the trunk's newest text, by two draws and the number of its lines.
use Rattle.std.specs.Prelude.{ℕ, ◌+◌, ◌-◌, ◌%◌, ◌==◌, ◌||◌, Bool, true, false, List, ◌++◌, codes, decimal}
use Rattle.std.specs.Prelude.{if◌then◌else◌}
use Rattle.sccs_soak.specs.declared.turns.Turn.{Turn}
use Rattle.sccs_soak.specs.declared.turns.Turn.TheVariants.{Add, Change, Delete, Branch}

-- the round of a choice, a place and a number of lines: a line is added, changed or deleted, or a branch is begun
unfoldable pub turn_of : ℕ → ℕ → ℕ → Turn
turn_of choice place lines =
    if choice % 4 == 3 then Branch
    else if (choice % 4 == 0) || (lines == 0) then Add (place % (lines + 1))
    else if choice % 4 == 1 then Change (1 + place % lines)
    else Delete (1 + place % lines)

-- the number of lines of the trunk's newest text after it
abbrev pub lines_after : ℕ → Turn → ℕ
lines_after lines (Add place) = lines + 1
lines_after lines (Change place) = lines
lines_after lines (Delete place) = lines - 1
lines_after lines Branch = lines

-- the line of a round, as the text of a command of ed
abbrev pub round_line : ℕ → List ℕ
round_line round = codes "line " ++ (decimal round ++ codes "\n.\n")

-- the script of a round's delta, in the language of ed
abbrev pub script_of : ℕ → Turn → List ℕ
script_of round (Add place) = decimal place ++ (codes "a\n" ++ round_line round)
script_of round (Change place) = decimal place ++ (codes "c\n" ++ round_line round)
script_of round (Delete place) = decimal place ++ codes "d\n"
script_of round Branch = decimal 0 ++ (codes "a\n" ++ round_line round)

-- whether the round's edit begins a branch
abbrev pub begins_branch : Turn → Bool
begins_branch Branch = true
begins_branch turn = false
