-- The commands of a soak (own): those that a number makes, on the file s.soak.
use Rattle.std.specs.Prelude.{ℕ, zero, suc, ◌+◌, Bool, true, false, List, [], ◌∷◌, ◌++◌, codes, decimal, pos}
use Rattle.sccs_sid.specs.declared.moments.Stamp.{Stamp}
use Rattle.sccs_batch.specs.declared.entries.BatchEntry.{BatchEntry}
use Rattle.sccs_soak.specs.Draws.{draw_of, next_state}
use Rattle.sccs_soak.specs.Turns.{begins_branch, lines_after, script_of, turn_of}
use Rattle.sccs_soak.specs.declared.turns.Turn.{Turn}

-- the file of a soak
abbrev pub soak_file : List ℕ
soak_file = codes "s.soak"

-- so many seconds after 2000-01-01 00:00:00, by soak
abbrev pub stamp_at : ℕ → Stamp
stamp_at seconds = record { moment = record { seconds = pos (946684800 + seconds) }; login = codes "soak" }

abbrev pub command_at : ℕ → List (List ℕ) → List ℕ → BatchEntry
command_at seconds words input = record { stamp = stamp_at seconds; words = words; input = input }

-- the first one makes the file, with the flags b and j
abbrev pub first_command : BatchEntry
first_command = command_at 0 (codes "admin" ∷ codes "-n" ∷ codes "-fb" ∷ codes "-fj" ∷ soak_file ∷ []) []

-- the edit of a round begins a branch, or goes on with the trunk
abbrev pub edit_words : Bool → List (List ℕ)
edit_words true = codes "get" ∷ codes "-e" ∷ codes "-b" ∷ codes "-g" ∷ codes "-s" ∷ soak_file ∷ []
edit_words false = codes "get" ∷ codes "-e" ∷ codes "-g" ∷ codes "-s" ∷ soak_file ∷ []

abbrev pub edit_command : ℕ → Turn → BatchEntry
edit_command round turn = command_at round (edit_words (begins_branch turn)) []

-- the comment of its delta is the round's number
abbrev pub delta_command : ℕ → Turn → BatchEntry
delta_command round turn = command_at round (codes "delta" ∷ codes "-s" ∷ (codes "-y" ++ decimal round) ∷ soak_file
    ∷ []) (script_of round turn)

-- the commands of so many rounds, from a round, a state of the draws and a number of lines on
abbrev pub rounds_from : ℕ → ℕ → ℕ → ℕ → List BatchEntry
rounds_from zero round state lines = []
rounds_from (suc left) round state lines =
    let choice = next_state state in
    let place = next_state choice in
    let turn = turn_of (draw_of choice) (draw_of place) lines in
    edit_command round turn ∷ delta_command round turn ∷ rounds_from left (round + 1) place (lines_after lines turn)

-- all of them
abbrev pub soak_commands : ℕ → List BatchEntry
soak_commands number = first_command ∷ rounds_from number 1 number 0
