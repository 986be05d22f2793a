-- Command lines of each utility that are commands, by computation.
use Rattle.std.proofs.Common.{[], ◌∷◌, refl}
use Rattle.std.specs.Prelude.{codes}
use Rattle.sccs_base.specs.Login.{is_login}
use Rattle.sccs_sid.specs.Reading.{number, number_at, digits_after, byte_at, skip}
use Rattle.sccs_sid.specs.Sid.{sid_of, numbers_after}
use Rattle.sccs_sid.specs.Spec.{spec_of}
use Rattle.sccs_sid.specs.SidLists.{list_of, ranges_of, piece_at, range_at, last_at, sid_at, branch_at, component_at}
use Rattle.sccs_sid.specs.Cutoff.{cutoff_of}
use Rattle.sccs_words.specs.Meaning.{meaning, utility_of, line_meaning}
use Rattle.sccs_words.specs.Synopsis.{find_option}
use Rattle.sccs_words.specs.Scan.{scanned, letters, turn}
use Rattle.sccs_words.specs.Judge.{usage_fault, use_fault, first_from, operand_fault, end_fault}
use Rattle.sccs_words.specs.Records.{value_of, values_of}
use Rattle.sccs_words.specs.MrWords.{split_from}
use Rattle.sccs_words.proofs.Outcomes.{Says}

-- lines that are commands
commands :
    Says (codes "admin" ∷ codes "-n" ∷ codes "s.a" ∷ []) 0 0
    × Says (codes "admin" ∷ codes "-fb" ∷ codes "-fb" ∷ codes "-fmprog" ∷ codes "s.a" ∷ []) 0 0
    × Says (codes "admin" ∷ codes "-n" ∷ codes "-m" ∷ codes "m1" ∷ codes "s.a" ∷ []) 0 0
    × Says (codes "admin" ∷ codes "-h" ∷ codes "s.a" ∷ codes "s.b" ∷ []) 0 0
    × Says (codes "admin" ∷ codes "-i" ∷ codes "-r2" ∷ codes "s.a" ∷ []) 0 0
    × Says (codes "admin" ∷ codes "-a" ∷ codes "u" ∷ codes "-a" ∷ codes "!v" ∷ codes "-e" ∷ codes "w" ∷ codes "s.a"
    ∷ []) 0 0
    × Says (codes "admin" ∷ codes "-n" ∷ codes "-y" ∷ codes "text" ∷ codes "s.a" ∷ []) 0 0
    × Says (codes "get" ∷ codes "s.a" ∷ []) 0 0
    × Says (codes "get" ∷ codes "-kps" ∷ codes "-r" ∷ codes "1.2" ∷ codes "s.a" ∷ []) 0 0
    × Says (codes "get" ∷ codes "-r1.2.1" ∷ codes "s.a" ∷ []) 0 0
    × Says (codes "get" ∷ codes "-e" ∷ codes "-i1.2-1.4" ∷ codes "-x1.3" ∷ codes "-g" ∷ codes "s.a" ∷ []) 0 0
    × Says (codes "get" ∷ codes "-c75" ∷ codes "s.a" ∷ []) 0 0
    × Says (codes "get" ∷ codes "s.a" ∷ codes "-q" ∷ []) 0 0
    × Says (codes "get" ∷ codes "--" ∷ codes "-q" ∷ []) 0 0
    × Says (codes "get" ∷ codes "-" ∷ []) 0 0
    × Says (codes "unget" ∷ codes "-n" ∷ codes "-r1.2" ∷ codes "s.a" ∷ []) 0 0
    × Says (codes "sact" ∷ codes "s.a" ∷ codes "s.b" ∷ []) 0 0
    × Says (codes "rmdel" ∷ codes "-r" ∷ codes "1.2.1.1" ∷ codes "s.a" ∷ []) 0 0
    × Says (codes "prs" ∷ codes "-r" ∷ codes "-l" ∷ codes "s.a" ∷ []) 0 0
    × Says (codes "prs" ∷ codes "-a" ∷ codes "-e" ∷ codes "-c75" ∷ codes "s.a" ∷ []) 0 0
    × Says (codes "prs" ∷ codes "-d" ∷ codes ":I:" ∷ codes "s.a" ∷ []) 0 0
    × Says (codes "what" ∷ codes "-s" ∷ codes "f" ∷ codes "g" ∷ []) 0 0
    × Says (codes "recover" ∷ codes "s.a" ∷ []) 0 0
    × Says (codes "import" ∷ codes "s.a" ∷ codes "s.b" ∷ []) 0 0
    × Says (codes "batch" ∷ []) 0 0
    × Says (codes "group" ∷ []) 0 0
    × Says (codes "soak" ∷ codes "1" ∷ []) 0 0
    × Says (codes "soak" ∷ codes "2000" ∷ []) 0 0
    × Says (codes "cdc" ∷ codes "-r1.2" ∷ codes "-y" ∷ codes "s.a" ∷ []) 0 0
    × Says (codes "cdc" ∷ codes "-r1.2" ∷ codes "-m" ∷ codes "!m1" ∷ codes "s.a" ∷ codes "s.b" ∷ []) 0 0
unfolding meaning utility_of line_meaning find_option scanned letters turn usage_fault use_fault first_from
    operand_fault end_fault value_of values_of split_from is_login number number_at digits_after byte_at sid_of
    numbers_after spec_of list_of ranges_of piece_at range_at last_at sid_at branch_at component_at cutoff_of skip
commands = (
  refl,
  refl,
  refl,
  refl,
  refl,
  refl,
  refl,
  refl,
  refl,
  refl,
  refl,
  refl,
  refl,
  refl,
  refl,
  refl,
  refl,
  refl,
  refl,
  refl,
  refl,
  refl,
  refl,
  refl,
  refl,
  refl,
  refl,
  refl,
  refl,
  refl,
)

-- tell and check, as sact
pending_edits :
    Says (codes "tell" ∷ codes "s.a" ∷ codes "s.b" ∷ []) 0 0
    × Says (codes "check" ∷ codes "-" ∷ []) 0 0
    × Says (codes "check" ∷ codes "-s" ∷ codes "s.a" ∷ []) 2 2
    × Says (codes "tell" ∷ codes "s.a" ∷ codes "-" ∷ []) 5 3
    × Says (codes "tell" ∷ []) 7 2
unfolding meaning utility_of line_meaning find_option scanned letters turn usage_fault use_fault first_from
    operand_fault end_fault value_of values_of split_from is_login number number_at digits_after byte_at sid_of
    numbers_after spec_of list_of ranges_of piece_at range_at last_at sid_at branch_at component_at cutoff_of skip
pending_edits = (refl, refl, refl, refl, refl)

-- the bits of val: 64 for a fault of an option, 128 for no operand
bits :
    Says (codes "val" ∷ codes "s.a" ∷ []) 0 0
    × Says (codes "val" ∷ codes "-" ∷ []) 0 0
    × Says (codes "val" ∷ codes "-s" ∷ codes "-mx" ∷ codes "-r" ∷ codes "1.2" ∷ codes "-yt" ∷ codes "s.a" ∷ codes "s.b"
    ∷ []) 0 0
    × Says (codes "val" ∷ []) 0 128
    × Says (codes "val" ∷ codes "-q" ∷ []) 0 192
    × Says (codes "val" ∷ codes "-m" ∷ []) 0 192
    × Says (codes "val" ∷ codes "-ma" ∷ codes "-mb" ∷ codes "s.a" ∷ []) 0 64
    × Says (codes "val" ∷ codes "-" ∷ codes "s.a" ∷ []) 0 64
    × Says (codes "val" ∷ codes "-s" ∷ codes "-q" ∷ codes "-ma" ∷ codes "s.a" ∷ []) 0 64
unfolding meaning utility_of line_meaning find_option scanned letters turn usage_fault use_fault first_from
    operand_fault end_fault value_of values_of split_from is_login number number_at digits_after byte_at sid_of
    numbers_after spec_of list_of ranges_of piece_at range_at last_at sid_at branch_at component_at cutoff_of skip
bits = (refl, refl, refl, refl, refl, refl, refl, refl, refl)
