use Rattle.std.proofs.Common.{◌≡◌, map, take, drop}
use Rattle.sccs_words.specs.Judge.{SameLetters, first_from, use_fault, used_letter, uses_fault}
use Rattle.sccs_words.proofs.judging.uses_fault.Given as goal

-- no fault so far, and the letters are those of the uses
abbrev pub invariant-uses : goal.invariant-uses
invariant-uses l = (first_from (use_fault l.utility) (take l.one-index l.uses) (drop l.one-index l.uses)
    ≡ uses_fault l.utility l.uses) × SameLetters l.letters.items (map used_letter (take l.one-index l.uses))
