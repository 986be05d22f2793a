-- Dates, times and cutoffs by computation.
use Rattle.std.specs.Prelude.{◌≡◌, ℕ, [], Result, Ok, Err, codes, pos, neg_ℤ, refl}
use Rattle.jiff_core.specs.Calendar.{days_from_civil, day_count, days_of_years, days_of_months}
use Rattle.sccs_sid.specs.Cutoff.{cutoff_of}
use Rattle.sccs_sid.specs.Moment.{second_at, civil_of, month_and_day, moment_text, moment_of, date_of, time_of}
use Rattle.sccs_sid.specs.Reading.{number, number_at, digits_after, until, behind, skip}
use Rattle.sccs_sid.specs.declared.moments.Moment.{Moment}
use Rattle.sccs_sid.specs.declared.moments.MomentFault.{MomentFault}

abbrev at : ℕ → ℕ → ℕ → ℕ → ℕ → ℕ → Result Moment MomentFault
at year month day hour minute second =
    Ok (record {
      seconds = second_at (record {
        year = year;
        month = month;
        day = day;
        hour = hour;
        minute = minute;
        second = second;
      });
    })

abbrev fault : ℕ → Result Moment MomentFault
fault place = Err (record { place = place })

-- cutoffs

cutoff_month : cutoff_of (codes "7502") ≡ at 1975 2 28 23 59 59
unfolding cutoff_of number_at digits_after skip
cutoff_month = refl

cutoff_parted : cutoff_of (codes "77/2/2 9:22:25") ≡ at 1977 2 2 9 22 25
unfolding cutoff_of number_at digits_after skip
cutoff_parted = refl

cutoff_joined : cutoff_of (codes "770202092225") ≡ at 1977 2 2 9 22 25
unfolding cutoff_of number_at digits_after skip
cutoff_joined = refl

cutoff_year : cutoff_of (codes "68") ≡ at 2068 12 31 23 59 59
unfolding cutoff_of number_at digits_after skip
cutoff_year = refl

cutoff_leap : cutoff_of (codes "x0y2") ≡ at 2000 2 29 23 59 59
unfolding cutoff_of number_at digits_after skip
cutoff_leap = refl

cutoff_empty : cutoff_of [] ≡ fault 1
unfolding cutoff_of number_at digits_after skip
cutoff_empty = refl

cutoff_letters : cutoff_of (codes "abc") ≡ fault 1
unfolding cutoff_of number_at digits_after skip
cutoff_letters = refl

cutoff_bad_month : cutoff_of (codes "7513") ≡ fault 2
unfolding cutoff_of number_at digits_after skip
cutoff_bad_month = refl

cutoff_bad_day : cutoff_of (codes "750229") ≡ fault 3
unfolding cutoff_of number_at digits_after skip
cutoff_bad_day = refl

cutoff_bad_hour : cutoff_of (codes "75020124") ≡ fault 4
unfolding cutoff_of number_at digits_after skip
cutoff_bad_hour = refl

cutoff_bad_minute : cutoff_of (codes "7502012360") ≡ fault 5
unfolding cutoff_of number_at digits_after skip
cutoff_bad_minute = refl

cutoff_bad_second : cutoff_of (codes "75020123 59 60 1") ≡ fault 6
unfolding cutoff_of number_at digits_after skip
cutoff_bad_second = refl

cutoff_seventh : cutoff_of (codes "7702020922251") ≡ fault 7
unfolding cutoff_of number_at digits_after skip
cutoff_seventh = refl

-- dates and times

read_first : moment_of (codes "69/1/1") (codes "0:0:0") ≡ Ok (record { seconds = neg_ℤ (pos 31_536_000) })
unfolding moment_of date_of time_of number number_at digits_after until behind days_from_civil day_count days_of_years
    days_of_months
read_first = refl

read_last : moment_of (codes "68/12/31") (codes "23:59:59") ≡ Ok (record { seconds = pos 3_124_223_999 })
unfolding moment_of date_of time_of number number_at digits_after until behind days_from_civil day_count days_of_years
    days_of_months
read_last = refl

read_later : moment_of (codes "75/02/28") (codes "23:59:59") ≡ Ok (record { seconds = pos 162_863_999 })
unfolding moment_of date_of time_of number number_at digits_after until behind days_from_civil day_count days_of_years
    days_of_months
read_later = refl

read_no_year : moment_of [] (codes "0:0:0") ≡ fault 1
unfolding moment_of date_of time_of number number_at digits_after until behind
read_no_year = refl

read_long_year : moment_of (codes "1975/1/1") (codes "0:0:0") ≡ fault 1
unfolding moment_of date_of time_of number number_at digits_after until behind
read_long_year = refl

read_no_month : moment_of (codes "75") (codes "0:0:0") ≡ fault 2
unfolding moment_of date_of time_of number number_at digits_after until behind
read_no_month = refl

read_no_day : moment_of (codes "75/2") (codes "0:0:0") ≡ fault 3
unfolding moment_of date_of time_of number number_at digits_after until behind
read_no_day = refl

read_bad_day : moment_of (codes "75/2/29") (codes "0:0:0") ≡ fault 3
unfolding moment_of date_of time_of number number_at digits_after until behind
read_bad_day = refl

read_more_date : moment_of (codes "75/2/28/") (codes "0:0:0") ≡ fault 3
unfolding moment_of date_of time_of number number_at digits_after until behind
read_more_date = refl

read_bad_hour : moment_of (codes "75/2/28") (codes "24:0:0") ≡ fault 4
unfolding moment_of date_of time_of number number_at digits_after until behind
read_bad_hour = refl

read_no_second : moment_of (codes "75/2/28") (codes "23:0") ≡ fault 6
unfolding moment_of date_of time_of number number_at digits_after until behind
read_no_second = refl

-- written

write_later : moment_text (record { seconds = pos 162_863_999 }) ≡ codes "75/02/28 23:59:59"
unfolding civil_of month_and_day
write_later = refl

write_first : moment_text (record { seconds = neg_ℤ (pos 31_536_000) }) ≡ codes "69/01/01 00:00:00"
unfolding civil_of month_and_day
write_first = refl

write_leap : moment_text (record { seconds = pos 951_868_799 }) ≡ codes "00/02/29 23:59:59"
unfolding civil_of month_and_day
write_leap = refl
