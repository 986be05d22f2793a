-- The commands of a soak have one operand each, so that their input is what is given to them.
use Rattle.std.proofs.Common.{◌≡◌, ℕ, zero, suc, ◌+◌, ◌≤◌, Bool, true, false, List, [], ◌∷◌, length, Option, None, Some}
use Rattle.std.proofs.Common.{IfOk, Result, Ok, Err, codes, inr, refl, sym, subst, arith}
use Rattle.std.specs.List.{AllByRecursion}
use Rattle.std.specs.Prelude.{option_and_then}
use Rattle.sccs_words.specs.Judge.{end_fault, first_from, operand_fault, usage_fault, use_fault}
use Rattle.sccs_words.specs.Meaning.{first_text, line_meaning, meaning, unless_fault, utility_of, with_name}
use Rattle.sccs_words.specs.Meaning.{words_fault}
use Rattle.sccs_words.specs.MrWords.{split_from}
use Rattle.sccs_words.specs.Records.{value_of, values_of}
use Rattle.sccs_words.specs.Scan.{CommandLine, letters, scanned, turn}
use Rattle.sccs_words.specs.Synopsis.{find_option, options_of}
use Rattle.sccs_words.specs.Values.{name_value}
use Rattle.sccs_words.specs.declared.commands.Command.{Command}
use Rattle.sccs_words.specs.declared.commands.Usage.{Usage}
use Rattle.sccs_words.specs.declared.scanning.Use.{Use}
use Rattle.sccs_words.specs.declared.tables.Utility.TheVariants as u
use Rattle.sccs_soak.specs.Commands.{delta_command, edit_command, edit_words, first_command, rounds_from, soak_commands}
use Rattle.sccs_soak.specs.Draws.{draw_of, next_state}
use Rattle.sccs_soak.specs.Turns.{begins_branch, lines_after, turn_of}
use Rattle.sccs_top.specs.Runs.{AsksInput, AsksWith, Caller, FitsEntry, caller_by, group_use, operands_of}
use Rattle.sccs_top.specs.declared.commands.GroupUse.{GroupUse}

-- the words have at most one operand, and are about no group
abbrev HasOne : Result Command Usage → Type 0
HasOne meant = IfOk meant (λ command. (length (operands_of command) ≤ 1) × (group_use command ≡ None))

meant_fits : (who : Caller) (meant : Result Command Usage) (input : List ℕ) → HasOne meant
    → AsksInput who meant (Some input) input
meant_fits who (Err usage) input one = tt
meant_fits who (Ok command) input one = subst (λ (group : Option GroupUse). AsksWith group who command
    (Some input) input) (sym one.1) (inr refl, inr one.0)

first_one : HasOne (meaning first_command.words)
unfolding meaning utility_of line_meaning find_option scanned letters turn usage_fault use_fault first_from
    operand_fault end_fault value_of values_of split_from
first_one = let one : 1 ≤ 1 = omega arith in (one, refl)

edit_one : (branch : Bool) → HasOne (meaning (edit_words branch))
unfolding meaning utility_of line_meaning find_option scanned letters turn usage_fault use_fault first_from
    operand_fault end_fault value_of values_of split_from
edit_one true = let one : 1 ≤ 1 = omega arith in (one, refl)
edit_one false = let one : 1 ≤ 1 = omega arith in (one, refl)

named_one : (uses : List Use) (n : ℕ) (fault : Option Usage) (name : Option (List ℕ))
    → HasOne (unless_fault fault (with_name uses n name))
named_one uses n (Some usage) name = tt
named_one uses n None None = tt
named_one uses n None (Some name) = let one : 1 ≤ 1 = omega arith in (one, refl)

line_one : (l : CommandLine) (n : ℕ) → HasOne (line_meaning u.Delta l n)
unfolding line_meaning
line_one l n = named_one l.uses n (words_fault u.Delta l n) (option_and_then name_value (first_text l.operands))

delta_one : (words : List (List ℕ)) → HasOne (meaning (codes "delta" ∷ words))
unfolding meaning utility_of
delta_one words = line_one (scanned (options_of u.Delta) 2 [] None words) _

rounds_fit : (quiet : Bool) (place : List ℕ) (left round state lines : ℕ) → AllByRecursion (FitsEntry quiet place)
    (rounds_from left round state lines)
rounds_fit quiet place zero round state lines = tt
rounds_fit quiet place (suc left) round state lines =
    let choice = next_state state in
    let place_drawn = next_state choice in
    let made = turn_of (draw_of choice) (draw_of place_drawn) lines in (
      meant_fits (caller_by quiet (edit_command round made).stamp place) (meaning (edit_command round made).words)
          (edit_command round made).input (edit_one (begins_branch made)),
      (
        meant_fits (caller_by quiet (delta_command round made).stamp place) (meaning (delta_command round made).words)
            (delta_command round made).input (delta_one _),
        rounds_fit quiet place left (round + 1) place_drawn (lines_after lines made),
      ),
    )

pub soak_fits : (quiet : Bool) (place : List ℕ) (number : ℕ) → AllByRecursion (FitsEntry quiet place)
    (soak_commands number)
soak_fits quiet place number = (
  meant_fits (caller_by quiet first_command.stamp place) (meaning first_command.words)
      first_command.input first_one,
  rounds_fit quiet place number 1 number 0,
)
