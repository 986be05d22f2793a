-- SIDs, their fronts and lists by computation.
use Rattle.std.specs.Prelude.{◌≡◌, ℕ, [], ◌∷◌, Ok, Err, codes, refl}
use Rattle.sccs_sid.specs.Reading.{number_at, digits_after, byte_at}
use Rattle.sccs_sid.specs.Sid.{numbers_after, sid_of}
use Rattle.sccs_sid.specs.SidLists.{component_at, branch_at, sid_at, last_at, range_at, piece_at, ranges_of, list_of}
use Rattle.sccs_sid.specs.Spec.{spec_of}
use Rattle.sccs_sid.specs.declared.sids.Sid.{Sid}
use Rattle.sccs_sid.specs.declared.sids.Spec.TheVariants.{Release, Branch, Full}
use Rattle.sccs_sid.specs.declared.sids.SidFault.TheVariants.{Malformed, OutOfRange}
use Rattle.sccs_sid.specs.declared.sid_lists.Range.{Range}

abbrev sid : ℕ → ℕ → ℕ → ℕ → Sid
sid r l b s = record { release = r; level = l; branch = b; sequence = s }

abbrev range : Sid → Sid → Range
range first last = record { first = first; last = last }

sid_trunk : sid_of (codes "1.2") ≡ Ok (sid 1 2 0 0)
unfolding sid_of numbers_after number_at digits_after byte_at
sid_trunk = refl

sid_branch : sid_of (codes "1.2.3.4") ≡ Ok (sid 1 2 3 4)
unfolding sid_of numbers_after number_at digits_after byte_at
sid_branch = refl

sid_zeros : sid_of (codes "0001.0010") ≡ Ok (sid 1 10 0 0)
unfolding sid_of numbers_after number_at digits_after byte_at
sid_zeros = refl

sid_zero : sid_of (codes "1.0") ≡ Err OutOfRange
unfolding sid_of numbers_after number_at digits_after byte_at
sid_zero = refl

sid_zero_long : sid_of (codes "0.1.00.2") ≡ Err OutOfRange
unfolding sid_of numbers_after number_at digits_after byte_at
sid_zero_long = refl

sid_empty : sid_of [] ≡ Err Malformed
unfolding sid_of numbers_after number_at digits_after byte_at
sid_empty = refl

sid_one : sid_of (codes "1") ≡ Err Malformed
unfolding sid_of numbers_after number_at digits_after byte_at
sid_one = refl

sid_three : sid_of (codes "1.2.3") ≡ Err Malformed
unfolding sid_of numbers_after number_at digits_after byte_at
sid_three = refl

sid_five_numbers : sid_of (codes "1.2.3.4.5") ≡ Err Malformed
unfolding sid_of numbers_after number_at digits_after byte_at
sid_five_numbers = refl

sid_five_digits : sid_of (codes "1.12345") ≡ Err Malformed
unfolding sid_of numbers_after number_at digits_after byte_at
sid_five_digits = refl

sid_dot : sid_of (codes "1.2.") ≡ Err Malformed
unfolding sid_of numbers_after number_at digits_after byte_at
sid_dot = refl

sid_zero_form : sid_of (codes "1.0.0") ≡ Err Malformed
unfolding sid_of numbers_after number_at digits_after byte_at
sid_zero_form = refl

sid_blank : sid_of (codes " 1.2") ≡ Err Malformed
unfolding sid_of numbers_after number_at digits_after byte_at
sid_blank = refl

spec_release : spec_of (codes "7") ≡ Ok (Release 7)
unfolding spec_of numbers_after number_at digits_after byte_at
spec_release = refl

spec_trunk : spec_of (codes "1.2") ≡ Ok (Full (sid 1 2 0 0))
unfolding spec_of numbers_after number_at digits_after byte_at
spec_trunk = refl

spec_branch : spec_of (codes "1.2.3") ≡ Ok (Branch 1 2 3)
unfolding spec_of numbers_after number_at digits_after byte_at
spec_branch = refl

spec_full : spec_of (codes "1.2.3.4") ≡ Ok (Full (sid 1 2 3 4))
unfolding spec_of numbers_after number_at digits_after byte_at
spec_full = refl

spec_zero : spec_of (codes "0") ≡ Err OutOfRange
unfolding spec_of numbers_after number_at digits_after byte_at
spec_zero = refl

spec_zero_branch : spec_of (codes "1.2.0") ≡ Err OutOfRange
unfolding spec_of numbers_after number_at digits_after byte_at
spec_zero_branch = refl

spec_empty : spec_of [] ≡ Err Malformed
unfolding spec_of numbers_after number_at digits_after byte_at
spec_empty = refl

spec_five_numbers : spec_of (codes "1.2.3.4.5") ≡ Err Malformed
unfolding spec_of numbers_after number_at digits_after byte_at
spec_five_numbers = refl

list_one : list_of (codes "1.2") ≡ Ok (range (sid 1 2 0 0) (sid 1 2 0 0) ∷ [])
unfolding list_of ranges_of piece_at range_at last_at sid_at branch_at component_at number_at digits_after byte_at
list_one = refl

list_range : list_of (codes "1.2-1.4") ≡ Ok (range (sid 1 2 0 0) (sid 1 4 0 0) ∷ [])
unfolding list_of ranges_of piece_at range_at last_at sid_at branch_at component_at number_at digits_after byte_at
list_range = refl

list_several : list_of (codes "1.1,1.3-1.2.1.10,0002.9") ≡ Ok (range (sid 1 1 0 0) (sid 1 1 0 0) ∷ range (sid 1 3 0 0)
    (sid 1 2 1 10) ∷ range (sid 2 9 0 0) (sid 2 9 0 0) ∷ [])
unfolding list_of ranges_of piece_at range_at last_at sid_at branch_at component_at number_at digits_after byte_at
list_several = refl

list_zero : list_of (codes "1.0,1.2") ≡ Err 4
unfolding list_of ranges_of piece_at range_at last_at sid_at branch_at component_at number_at digits_after byte_at
list_zero = refl

list_zeros : list_of (codes "1.000") ≡ Err 6
unfolding list_of ranges_of piece_at range_at last_at sid_at branch_at component_at number_at digits_after byte_at
list_zeros = refl

list_four_zeros : list_of (codes "1.0000") ≡ Err 6
unfolding list_of ranges_of piece_at range_at last_at sid_at branch_at component_at number_at digits_after byte_at
list_four_zeros = refl

list_five_digits : list_of (codes "1.12345") ≡ Err 7
unfolding list_of ranges_of piece_at range_at last_at sid_at branch_at component_at number_at digits_after byte_at
list_five_digits = refl

list_three_and_comma : list_of (codes "1.2.3,") ≡ Err 6
unfolding list_of ranges_of piece_at range_at last_at sid_at branch_at component_at number_at digits_after byte_at
list_three_and_comma = refl

list_three : list_of (codes "1.2.3") ≡ Err 6
unfolding list_of ranges_of piece_at range_at last_at sid_at branch_at component_at number_at digits_after byte_at
list_three = refl

list_empty : list_of [] ≡ Err 1
unfolding list_of ranges_of piece_at range_at last_at sid_at branch_at component_at number_at digits_after byte_at
list_empty = refl

list_comma : list_of (codes "1.2,") ≡ Err 5
unfolding list_of ranges_of piece_at range_at last_at sid_at branch_at component_at number_at digits_after byte_at
list_comma = refl

list_dash : list_of (codes "1.2-") ≡ Err 5
unfolding list_of ranges_of piece_at range_at last_at sid_at branch_at component_at number_at digits_after byte_at
list_dash = refl

list_release : list_of (codes "1") ≡ Err 2
unfolding list_of ranges_of piece_at range_at last_at sid_at branch_at component_at number_at digits_after byte_at
list_release = refl

list_dot : list_of (codes "1.") ≡ Err 3
unfolding list_of ranges_of piece_at range_at last_at sid_at branch_at component_at number_at digits_after byte_at
list_dot = refl

list_double_comma : list_of (codes "1.2,,1.3") ≡ Err 5
unfolding list_of ranges_of piece_at range_at last_at sid_at branch_at component_at number_at digits_after byte_at
list_double_comma = refl

list_blank : list_of (codes "1.2, 1.3") ≡ Err 5
unfolding list_of ranges_of piece_at range_at last_at sid_at branch_at component_at number_at digits_after byte_at
list_blank = refl

list_second_range : list_of (codes "1.2-1.3-1.4") ≡ Err 8
unfolding list_of ranges_of piece_at range_at last_at sid_at branch_at component_at number_at digits_after byte_at
list_second_range = refl

list_zero_goes_on : list_of (codes "1.00x") ≡ Err 5
unfolding list_of ranges_of piece_at range_at last_at sid_at branch_at component_at number_at digits_after byte_at
list_zero_goes_on = refl

list_letter : list_of (codes "x") ≡ Err 1
unfolding list_of ranges_of piece_at range_at last_at sid_at branch_at component_at number_at digits_after byte_at
list_letter = refl

list_five_numbers : list_of (codes "1.2.3.4.5") ≡ Err 8
unfolding list_of ranges_of piece_at range_at last_at sid_at branch_at component_at number_at digits_after byte_at
list_five_numbers = refl

list_long_release : list_of (codes "12345.1") ≡ Err 5
unfolding list_of ranges_of piece_at range_at last_at sid_at branch_at component_at number_at digits_after byte_at
list_long_release = refl

list_zero_release : list_of (codes "0.1") ≡ Err 2
unfolding list_of ranges_of piece_at range_at last_at sid_at branch_at component_at number_at digits_after byte_at
list_zero_release = refl
