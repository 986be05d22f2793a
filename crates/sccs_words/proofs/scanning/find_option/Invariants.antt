use Rattle.std.proofs.Common.{◌≡◌, drop}
use Rattle.sccs_words.specs.Synopsis.{find_option}
use Rattle.sccs_words.proofs.scanning.find_option.Given as goal

abbrev pub invariant-loop-option : goal.invariant-loop-option
invariant-loop-option l = find_option (drop l.option-index l.options) l.letter ≡ find_option l.options l.letter
