-- Command lines with names, by computation; a test of ASCII bytes as text is a lemma.
use Rattle.std.proofs.Common.{[], ◌∷◌, refl}
use Rattle.std.specs.Prelude.{codes}
use Rattle.sccs_base.proofs.NameTests.{utf8_ascii}
use Rattle.sccs_base.specs.Login.{is_login}
use Rattle.sccs_base.specs.Name.{is_name, is_sfile_name}
use Rattle.sccs_sid.specs.Reading.{number, number_at, digits_after, byte_at, skip}
use Rattle.sccs_sid.specs.Sid.{sid_of, numbers_after}
use Rattle.sccs_sid.specs.Spec.{spec_of}
use Rattle.sccs_sid.specs.SidLists.{list_of, ranges_of, piece_at, range_at, last_at, sid_at, branch_at, component_at}
use Rattle.sccs_sid.specs.Cutoff.{cutoff_of}
use Rattle.sccs_words.specs.Meaning.{meaning, utility_of, line_meaning}
use Rattle.sccs_words.specs.Synopsis.{find_option}
use Rattle.sccs_words.specs.Scan.{scanned, letters, turn}
use Rattle.sccs_words.specs.Judge.{usage_fault, use_fault, first_from, operand_fault, end_fault}
use Rattle.sccs_words.specs.Records.{value_of, values_of}
use Rattle.sccs_words.specs.MrWords.{split_from}
use Rattle.sccs_words.proofs.Outcomes.{Says}

-- names that are none
no_names :
    Says (codes "delta" ∷ codes "." ∷ []) 6 2
    × Says (codes "delta" ∷ codes "s.a/b" ∷ []) 6 2
    × Says (codes "admin" ∷ codes "-if/g" ∷ codes "s.a" ∷ []) 6 2
    × Says (codes "admin" ∷ codes "-n" ∷ codes "-t." ∷ codes "s.a" ∷ []) 6 3
unfolding meaning utility_of line_meaning find_option scanned letters turn usage_fault use_fault first_from
    operand_fault end_fault value_of values_of split_from is_login number number_at digits_after byte_at sid_of
    numbers_after spec_of list_of ranges_of piece_at range_at last_at sid_at branch_at component_at cutoff_of skip
    is_name is_sfile_name
no_names = (refl, refl, refl, refl)

delta_command : Says (codes "delta" ∷ codes "s.a" ∷ []) 0 0
unfolding meaning utility_of line_meaning find_option scanned letters turn usage_fault use_fault first_from
    operand_fault end_fault value_of values_of split_from is_login number number_at digits_after byte_at sid_of
    numbers_after spec_of list_of ranges_of piece_at range_at last_at sid_at branch_at component_at cutoff_of skip
    is_name is_sfile_name
delta_command = rw (utf8_ascii (codes "s.a") refl) (rw (utf8_ascii (codes "a") refl) refl)

delta_with_options : Says (codes "delta" ∷ codes "-s" ∷ codes "-r1.2" ∷ codes "-yfirst" ∷ codes "s.a" ∷ []) 0 0
unfolding meaning utility_of line_meaning find_option scanned letters turn usage_fault use_fault first_from
    operand_fault end_fault value_of values_of split_from is_login number number_at digits_after byte_at sid_of
    numbers_after spec_of list_of ranges_of piece_at range_at last_at sid_at branch_at component_at cutoff_of skip
    is_name is_sfile_name
delta_with_options = rw (utf8_ascii (codes "s.a") refl) (rw (utf8_ascii (codes "a") refl) refl)

delta_dash : Says (codes "delta" ∷ codes "-" ∷ []) 6 2
unfolding meaning utility_of line_meaning find_option scanned letters turn usage_fault use_fault first_from
    operand_fault end_fault value_of values_of split_from is_login number number_at digits_after byte_at sid_of
    numbers_after spec_of list_of ranges_of piece_at range_at last_at sid_at branch_at component_at cutoff_of skip
    is_name is_sfile_name
delta_dash = rw (utf8_ascii (codes "-") refl) refl

delta_no_sfile : Says (codes "delta" ∷ codes "a" ∷ codes "s.b" ∷ []) 6 2
unfolding meaning utility_of line_meaning find_option scanned letters turn usage_fault use_fault first_from
    operand_fault end_fault value_of values_of split_from is_login number number_at digits_after byte_at sid_of
    numbers_after spec_of list_of ranges_of piece_at range_at last_at sid_at branch_at component_at cutoff_of skip
    is_name is_sfile_name
delta_no_sfile = rw (utf8_ascii (codes "a") refl) refl

delta_second : Says (codes "delta" ∷ codes "s.a" ∷ codes "b" ∷ []) 6 3
unfolding meaning utility_of line_meaning find_option scanned letters turn usage_fault use_fault first_from
    operand_fault end_fault value_of values_of split_from is_login number number_at digits_after byte_at sid_of
    numbers_after spec_of list_of ranges_of piece_at range_at last_at sid_at branch_at component_at cutoff_of skip
    is_name is_sfile_name
delta_second = rw (utf8_ascii (codes "s.a") refl) (rw (utf8_ascii (codes "a") refl)
    (rw (utf8_ascii (codes "b") refl) refl))

delta_two : Says (codes "delta" ∷ codes "s.a" ∷ codes "s.b" ∷ []) 9 4
unfolding meaning utility_of line_meaning find_option scanned letters turn usage_fault use_fault first_from
    operand_fault end_fault value_of values_of split_from is_login number number_at digits_after byte_at sid_of
    numbers_after spec_of list_of ranges_of piece_at range_at last_at sid_at branch_at component_at cutoff_of skip
    is_name is_sfile_name
delta_two = rw (utf8_ascii (codes "s.a") refl) (rw (utf8_ascii (codes "a") refl) (rw (utf8_ascii (codes "s.b") refl)
    (rw (utf8_ascii (codes "b") refl) refl)))

admin_text : Says (codes "admin" ∷ codes "-ifile" ∷ codes "s.a" ∷ []) 0 0
unfolding meaning utility_of line_meaning find_option scanned letters turn usage_fault use_fault first_from
    operand_fault end_fault value_of values_of split_from is_login number number_at digits_after byte_at sid_of
    numbers_after spec_of list_of ranges_of piece_at range_at last_at sid_at branch_at component_at cutoff_of skip
    is_name is_sfile_name
admin_text = rw (utf8_ascii (codes "file") refl) refl

admin_description : Says (codes "admin" ∷ codes "-n" ∷ codes "-ttext" ∷ codes "s.a" ∷ []) 0 0
unfolding meaning utility_of line_meaning find_option scanned letters turn usage_fault use_fault first_from
    operand_fault end_fault value_of values_of split_from is_login number number_at digits_after byte_at sid_of
    numbers_after spec_of list_of ranges_of piece_at range_at last_at sid_at branch_at component_at cutoff_of skip
    is_name is_sfile_name
admin_description = rw (utf8_ascii (codes "text") refl) refl

admin_two : Says (codes "admin" ∷ codes "-n" ∷ codes "-ttext" ∷ codes "s.a" ∷ codes "s.b" ∷ []) 0 0
unfolding meaning utility_of line_meaning find_option scanned letters turn usage_fault use_fault first_from
    operand_fault end_fault value_of values_of split_from is_login number number_at digits_after byte_at sid_of
    numbers_after spec_of list_of ranges_of piece_at range_at last_at sid_at branch_at component_at cutoff_of skip
    is_name is_sfile_name
admin_two = rw (utf8_ascii (codes "text") refl) refl
