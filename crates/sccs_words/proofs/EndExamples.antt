-- Command lines with malformed values, and the faults after the last word, by computation.
use Rattle.std.proofs.Common.{[], ◌∷◌, refl}
use Rattle.std.specs.Prelude.{codes}
use Rattle.sccs_base.specs.Login.{is_login}
use Rattle.sccs_sid.specs.Reading.{number, number_at, digits_after, byte_at, skip}
use Rattle.sccs_sid.specs.Sid.{sid_of, numbers_after}
use Rattle.sccs_sid.specs.Spec.{spec_of}
use Rattle.sccs_sid.specs.SidLists.{list_of, ranges_of, piece_at, range_at, last_at, sid_at, branch_at, component_at}
use Rattle.sccs_sid.specs.Cutoff.{cutoff_of}
use Rattle.sccs_words.specs.Meaning.{meaning, utility_of, line_meaning}
use Rattle.sccs_words.specs.Synopsis.{find_option}
use Rattle.sccs_words.specs.Scan.{scanned, letters, turn}
use Rattle.sccs_words.specs.Judge.{usage_fault, use_fault, first_from, operand_fault, end_fault}
use Rattle.sccs_words.specs.Records.{value_of, values_of}
use Rattle.sccs_words.specs.MrWords.{split_from}
use Rattle.sccs_words.proofs.Outcomes.{Says}

-- a malformed value, at the word that holds it
malformed_value :
    Says (codes "get" ∷ codes "-r1.2." ∷ codes "s.a" ∷ []) 6 2
    × Says (codes "get" ∷ codes "-r1.2.0" ∷ codes "s.a" ∷ []) 6 2
    × Says (codes "get" ∷ codes "-r" ∷ codes "x" ∷ codes "-q" ∷ []) 6 3
    × Says (codes "get" ∷ codes "-r" ∷ codes "--" ∷ codes "s.a" ∷ []) 6 3
    × Says (codes "get" ∷ codes "-s" ∷ codes "-k" ∷ codes "-r" ∷ codes "x" ∷ []) 6 5
    × Says (codes "get" ∷ codes "-i1.2,x" ∷ codes "s.a" ∷ []) 6 2
    × Says (codes "get" ∷ codes "-x" ∷ codes "1.2-" ∷ codes "s.a" ∷ []) 6 3
    × Says (codes "get" ∷ codes "-cx" ∷ codes "s.a" ∷ []) 6 2
    × Says (codes "get" ∷ codes "-c7513" ∷ codes "s.a" ∷ []) 6 2
    × Says (codes "prs" ∷ codes "-r1" ∷ codes "s.a" ∷ []) 6 2
    × Says (codes "unget" ∷ codes "-n" ∷ codes "-r1.2.3" ∷ []) 6 3
    × Says (codes "rmdel" ∷ codes "-rx" ∷ []) 6 2
    × Says (codes "admin" ∷ codes "-i" ∷ codes "-r0" ∷ codes "s.a" ∷ []) 6 3
    × Says (codes "admin" ∷ codes "-i" ∷ codes "-r10000" ∷ codes "s.a" ∷ []) 6 3
    × Says (codes "admin" ∷ codes "-i" ∷ codes "." ∷ []) 6 3
    × Says (codes "admin" ∷ codes "-i" ∷ codes "-" ∷ []) 6 3
    × Says (codes "import" ∷ codes "-" ∷ []) 6 2
    × Says (codes "import" ∷ codes "s.a" ∷ codes "." ∷ []) 6 3
    × Says (codes "soak" ∷ codes "0" ∷ []) 6 2
    × Says (codes "soak" ∷ codes "2001" ∷ []) 6 2
    × Says (codes "soak" ∷ codes "--" ∷ codes "x" ∷ []) 6 3
unfolding meaning utility_of line_meaning find_option scanned letters turn usage_fault use_fault first_from
    operand_fault end_fault value_of values_of split_from is_login number number_at digits_after byte_at sid_of
    numbers_after spec_of list_of ranges_of piece_at range_at last_at sid_at branch_at component_at cutoff_of skip
malformed_value = (
  refl,
  refl,
  refl,
  refl,
  refl,
  refl,
  refl,
  refl,
  refl,
  refl,
  refl,
  refl,
  refl,
  refl,
  refl,
  refl,
  refl,
  refl,
  refl,
  refl,
  refl,
)

-- an empty value; it can only be the next word
malformed_empty :
    Says (codes "admin" ∷ codes "-a" ∷ [] ∷ []) 6 3
    × Says (codes "admin" ∷ codes "-f" ∷ [] ∷ codes "s.a" ∷ []) 6 3
    × Says (codes "admin" ∷ codes "-n" ∷ codes "-m" ∷ [] ∷ codes "s.a" ∷ []) 6 4
    × Says (codes "get" ∷ codes "-s" ∷ codes "-r" ∷ [] ∷ []) 6 4
    × Says (codes "soak" ∷ [] ∷ []) 6 2
unfolding meaning utility_of line_meaning find_option scanned letters turn usage_fault use_fault first_from
    operand_fault end_fault value_of values_of split_from is_login number number_at digits_after byte_at sid_of
    numbers_after spec_of list_of ranges_of piece_at range_at last_at sid_at branch_at component_at cutoff_of skip
malformed_empty = (refl, refl, refl, refl, refl)

-- no operand, at the number of words and one more
no_operand :
    Says (codes "admin" ∷ []) 7 2
    × Says (codes "get" ∷ []) 7 2
    × Says (codes "delta" ∷ codes "-ya" ∷ []) 7 3
    × Says (codes "unget" ∷ codes "-n" ∷ codes "-s" ∷ []) 7 4
    × Says (codes "sact" ∷ []) 7 2
    × Says (codes "rmdel" ∷ codes "-r1.2" ∷ []) 7 3
    × Says (codes "prs" ∷ codes "--" ∷ []) 7 3
    × Says (codes "what" ∷ codes "-s" ∷ []) 7 3
    × Says (codes "recover" ∷ []) 7 2
    × Says (codes "import" ∷ []) 7 2
    × Says (codes "soak" ∷ []) 7 2
    × Says (codes "cdc" ∷ codes "-r1.2" ∷ codes "-y" ∷ []) 7 4
unfolding meaning utility_of line_meaning find_option scanned letters turn usage_fault use_fault first_from
    operand_fault end_fault value_of values_of split_from is_login number number_at digits_after byte_at sid_of
    numbers_after spec_of list_of ranges_of piece_at range_at last_at sid_at branch_at component_at cutoff_of skip
no_operand = (refl, refl, refl, refl, refl, refl, refl, refl, refl, refl, refl, refl)

-- an option that is needed
option_needed :
    Says (codes "rmdel" ∷ codes "s.a" ∷ []) 8 3
    × Says (codes "rmdel" ∷ codes "s.a" ∷ codes "-r1.2" ∷ []) 8 4
    × Says (codes "prs" ∷ codes "-c75" ∷ codes "s.a" ∷ []) 8 4
    × Says (codes "admin" ∷ codes "-r2" ∷ codes "-n" ∷ codes "s.a" ∷ []) 8 5
    × Says (codes "admin" ∷ codes "-mm1" ∷ codes "s.a" ∷ []) 8 4
    × Says (codes "admin" ∷ codes "-y" ∷ codes "s.a" ∷ []) 8 4
    × Says (codes "cdc" ∷ codes "s.a" ∷ []) 8 3
    × Says (codes "cdc" ∷ codes "-r1.2" ∷ codes "s.a" ∷ []) 8 4
    × Says (codes "cdc" ∷ codes "-mm1" ∷ codes "s.a" ∷ []) 8 4
    × Says (codes "cdc" ∷ codes "-y" ∷ codes "s.a" ∷ []) 8 4
unfolding meaning utility_of line_meaning find_option scanned letters turn usage_fault use_fault first_from
    operand_fault end_fault value_of values_of split_from is_login number number_at digits_after byte_at sid_of
    numbers_after spec_of list_of ranges_of piece_at range_at last_at sid_at branch_at component_at cutoff_of skip
option_needed = (refl, refl, refl, refl, refl, refl, refl, refl, refl, refl)

-- too many operands
too_many :
    Says (codes "batch" ∷ codes "x" ∷ []) 9 3
    × Says (codes "batch" ∷ codes "-" ∷ []) 9 3
    × Says (codes "soak" ∷ codes "1" ∷ codes "2" ∷ []) 9 4
    × Says (codes "admin" ∷ codes "-i" ∷ codes "s.a" ∷ codes "s.b" ∷ []) 9 5
    × Says (codes "admin" ∷ codes "-i" ∷ codes "-r2" ∷ codes "s.a" ∷ codes "s.b" ∷ []) 9 6
unfolding meaning utility_of line_meaning find_option scanned letters turn usage_fault use_fault first_from
    operand_fault end_fault value_of values_of split_from is_login number number_at digits_after byte_at sid_of
    numbers_after spec_of list_of ranges_of piece_at range_at last_at sid_at branch_at component_at cutoff_of skip
too_many = (refl, refl, refl, refl, refl)
