-- Command lines and the faults that are found at a word, by computation.
use Rattle.std.proofs.Common.{[], ◌∷◌, refl}
use Rattle.std.specs.Prelude.{codes}
use Rattle.sccs_base.specs.Login.{is_login}
use Rattle.sccs_sid.specs.Reading.{number, number_at, digits_after, byte_at, skip}
use Rattle.sccs_sid.specs.Sid.{sid_of, numbers_after}
use Rattle.sccs_sid.specs.Spec.{spec_of}
use Rattle.sccs_sid.specs.SidLists.{list_of, ranges_of, piece_at, range_at, last_at, sid_at, branch_at, component_at}
use Rattle.sccs_sid.specs.Cutoff.{cutoff_of}
use Rattle.sccs_words.specs.Meaning.{meaning, utility_of, line_meaning}
use Rattle.sccs_words.specs.Synopsis.{find_option}
use Rattle.sccs_words.specs.Scan.{scanned, letters, turn}
use Rattle.sccs_words.specs.Judge.{usage_fault, use_fault, first_from, operand_fault, end_fault}
use Rattle.sccs_words.specs.Records.{value_of, values_of}
use Rattle.sccs_words.specs.MrWords.{split_from}
use Rattle.sccs_words.proofs.Outcomes.{Says}

-- an unknown utility stands always in word 1
unknown_utility :
    Says [] 1 1
    × Says (codes "vc" ∷ []) 1 1
    × Says (codes "GET" ∷ codes "s.a" ∷ []) 1 1
    × Says (codes "getx" ∷ codes "-q" ∷ codes "s.a" ∷ []) 1 1
unfolding meaning utility_of line_meaning find_option scanned letters turn usage_fault use_fault first_from
    operand_fault end_fault value_of values_of split_from is_login number number_at digits_after byte_at sid_of
    numbers_after spec_of list_of ranges_of piece_at range_at last_at sid_at branch_at component_at cutoff_of skip
unknown_utility = (refl, refl, refl, refl)

-- an unknown option in the first word after the utility, in a middle one, in the last
unknown_option :
    Says (codes "get" ∷ codes "-q" ∷ codes "s.a" ∷ []) 2 2
    × Says (codes "get" ∷ codes "-kq" ∷ codes "s.a" ∷ []) 2 2
    × Says (codes "get" ∷ codes "-kqr" ∷ codes "x" ∷ []) 2 2
    × Says (codes "get" ∷ codes "--x" ∷ codes "s.a" ∷ []) 2 2
    × Says (codes "prs" ∷ codes "-a" ∷ codes "-q" ∷ codes "s.a" ∷ []) 2 3
    × Says (codes "get" ∷ codes "-k" ∷ codes "-s" ∷ codes "-q" ∷ []) 2 4
    × Says (codes "sact" ∷ codes "-s" ∷ codes "s.a" ∷ []) 2 2
    × Says (codes "recover" ∷ codes "-z" ∷ codes "s.a" ∷ []) 2 2
    × Says (codes "import" ∷ codes "-s" ∷ codes "s.a" ∷ []) 2 2
    × Says (codes "batch" ∷ codes "-a" ∷ []) 2 2
    × Says (codes "soak" ∷ codes "-n" ∷ codes "5" ∷ []) 2 2
unfolding meaning utility_of line_meaning find_option scanned letters turn usage_fault use_fault first_from
    operand_fault end_fault value_of values_of split_from is_login number number_at digits_after byte_at sid_of
    numbers_after spec_of list_of ranges_of piece_at range_at last_at sid_at branch_at component_at cutoff_of skip
unknown_option = (refl, refl, refl, refl, refl, refl, refl, refl, refl, refl, refl)

-- a missing argument stands always in the last word
missing_argument :
    Says (codes "get" ∷ codes "-r" ∷ []) 3 2
    × Says (codes "get" ∷ codes "-kr" ∷ []) 3 2
    × Says (codes "get" ∷ codes "-k" ∷ codes "-r" ∷ []) 3 3
    × Says (codes "get" ∷ codes "-c75" ∷ codes "-c" ∷ []) 3 3
    × Says (codes "unget" ∷ codes "-n" ∷ codes "-s" ∷ codes "-r" ∷ []) 3 4
    × Says (codes "rmdel" ∷ codes "-r" ∷ []) 3 2
    × Says (codes "admin" ∷ codes "-a" ∷ codes "u" ∷ codes "-a" ∷ []) 3 4
    × Says (codes "delta" ∷ codes "-m" ∷ []) 3 2
unfolding meaning utility_of line_meaning find_option scanned letters turn usage_fault use_fault first_from
    operand_fault end_fault value_of values_of split_from is_login number number_at digits_after byte_at sid_of
    numbers_after spec_of list_of ranges_of piece_at range_at last_at sid_at branch_at component_at cutoff_of skip
missing_argument = (refl, refl, refl, refl, refl, refl, refl, refl)

-- an option given twice
given_twice :
    Says (codes "get" ∷ codes "-kk" ∷ codes "s.a" ∷ []) 4 2
    × Says (codes "get" ∷ codes "-k" ∷ codes "-k" ∷ codes "s.a" ∷ []) 4 3
    × Says (codes "get" ∷ codes "-c75" ∷ codes "-cx" ∷ codes "s.a" ∷ []) 4 3
    × Says (codes "delta" ∷ codes "-s" ∷ codes "-n" ∷ codes "-s" ∷ []) 4 4
    × Says (codes "what" ∷ codes "-s" ∷ codes "-s" ∷ codes "f" ∷ []) 4 3
    × Says (codes "admin" ∷ codes "-h" ∷ codes "-h" ∷ codes "s.a" ∷ []) 4 3
    × Says (codes "rmdel" ∷ codes "-r1.2" ∷ codes "-r" ∷ codes "1.3" ∷ codes "s.a" ∷ []) 4 3
unfolding meaning utility_of line_meaning find_option scanned letters turn usage_fault use_fault first_from
    operand_fault end_fault value_of values_of split_from is_login number number_at digits_after byte_at sid_of
    numbers_after spec_of list_of ranges_of piece_at range_at last_at sid_at branch_at component_at cutoff_of skip
given_twice = (refl, refl, refl, refl, refl, refl, refl)

-- options that exclude each other, at the later word; then `-` with another operand
exclude_each_other :
    Says (codes "get" ∷ codes "-ec75" ∷ codes "s.a" ∷ []) 5 2
    × Says (codes "get" ∷ codes "-e" ∷ codes "-c75" ∷ codes "s.a" ∷ []) 5 3
    × Says (codes "get" ∷ codes "-c75" ∷ codes "-e" ∷ codes "s.a" ∷ []) 5 3
    × Says (codes "get" ∷ codes "-e" ∷ codes "-s" ∷ codes "-c75" ∷ []) 5 4
    × Says (codes "get" ∷ codes "-e" ∷ codes "-cx" ∷ codes "s.a" ∷ []) 5 3
    × Says (codes "get" ∷ codes "-e" ∷ codes "-c" ∷ codes "x" ∷ codes "s.a" ∷ []) 5 3
    × Says (codes "admin" ∷ codes "-h" ∷ codes "-n" ∷ codes "s.a" ∷ []) 5 3
    × Says (codes "admin" ∷ codes "-hn" ∷ codes "s.a" ∷ []) 5 2
    × Says (codes "admin" ∷ codes "-n" ∷ codes "-t" ∷ codes "s.a" ∷ []) 5 3
    × Says (codes "admin" ∷ codes "-z" ∷ codes "-n" ∷ codes "s.a" ∷ []) 5 3
    × Says (codes "admin" ∷ codes "-du" ∷ codes "-i" ∷ codes "s.a" ∷ []) 5 3
    × Says (codes "admin" ∷ codes "-n" ∷ codes "-e" ∷ codes "u" ∷ codes "s.a" ∷ []) 5 3
    × Says (codes "prs" ∷ codes "-el" ∷ codes "s.a" ∷ []) 5 2
    × Says (codes "prs" ∷ codes "-c75" ∷ codes "-r" ∷ codes "s.a" ∷ []) 5 3
    × Says (codes "get" ∷ codes "-" ∷ codes "s.a" ∷ []) 5 3
    × Says (codes "get" ∷ codes "s.a" ∷ codes "-" ∷ []) 5 3
    × Says (codes "admin" ∷ codes "-i" ∷ codes "s.a" ∷ codes "-" ∷ []) 5 4
    × Says (codes "get" ∷ codes "-k" ∷ codes "s.a" ∷ codes "s.b" ∷ codes "-" ∷ codes "s.c" ∷ []) 5 5
    × Says (codes "import" ∷ codes "s.a" ∷ codes "-" ∷ []) 5 3
    × Says (codes "batch" ∷ codes "-" ∷ codes "x" ∷ []) 5 3
unfolding meaning utility_of line_meaning find_option scanned letters turn usage_fault use_fault first_from
    operand_fault end_fault value_of values_of split_from is_login number number_at digits_after byte_at sid_of
    numbers_after spec_of list_of ranges_of piece_at range_at last_at sid_at branch_at component_at cutoff_of skip
exclude_each_other = (
  refl,
  refl,
  refl,
  refl,
  refl,
  refl,
  refl,
  refl,
  refl,
  refl,
  refl,
  refl,
  refl,
  refl,
  refl,
  refl,
  refl,
  refl,
  refl,
  refl,
)
