-- Sample files, and what reading each of them answers, by computation.
use Rattle.std.proofs.Common.{◌≡◌, ℕ, ◌-◌, List, [], ◌∷◌, ◌++◌, Ok, Err, Result, true, false, Option, Some, None, refl}
use Rattle.std.proofs.Common.{ℤ, pos}
use Rattle.std.specs.Prelude.{codes, negsuc}
use Rattle.jiff_core.specs.Calendar.{days_from_civil, day_count, days_of_years, days_of_months}
use Rattle.sccs_base.specs.Cut.{cut}
use Rattle.sccs_base.specs.Login.{is_login}
use Rattle.sccs_sid.specs.Reading.{digits_after, number_at, byte_at, number, skip, until, behind}
use Rattle.sccs_sid.specs.Moment.{date_of, time_of, moment_of}
use Rattle.sccs_history.specs.FlagText.{fits_letter, pieces}
use Rattle.sccs_sid.specs.Sid.{numbers_after, sid_of}
use Rattle.sccs_sid.specs.Spec.{spec_of}
use Rattle.sccs_sid.specs.declared.sids.Sid.{Sid}
use Rattle.sccs_history.specs.declared.headers.Header.{Header}
use Rattle.sccs_history.specs.declared.headers.Record.{Record}
use Rattle.sccs_history.specs.declared.headers.Item.{Item}
use Rattle.sccs_history.specs.declared.headers.Item.TheVariants as item
use Rattle.sccs_sid.specs.Words.{ends_blank, skip_blanks, drop_blanks, words, three}
use Rattle.sccs_tokens.specs.Tokens.{serial, predecessor, delta_of, count_token, serials, listed, serial_field, control}
use Rattle.sccs_tokens.specs.Tokens.{token}
use Rattle.sccs_grammar.specs.Front.{ParsedFront, dangling_predecessor, line_after, front_from}
use Rattle.sccs_tokens.specs.Items.{item_at, items_from}
use Rattle.sccs_grammar.specs.File.{Parsed, stored, opened, checked_front, front_of, file_of}
use Rattle.sccs_tokens.specs.Written.{bytes_of, sum_line}
use Rattle.sccs_grammar.specs.declared.faults.FileFault.{FileFault}
use Rattle.sccs_tokens.specs.declared.line_tokens.LineToken.{LineToken}
use Rattle.sccs_tokens.specs.declared.line_tokens.LineToken.TheVariants.{Counts, Delta, Listed, Mr, Comment, FlagIs}
use Rattle.sccs_tokens.specs.declared.line_tokens.LineToken.TheVariants.{Insert, Plain}
use Rattle.sccs_tokens.specs.declared.line_tokens.ListKind.TheVariants.{Included, Excluded, Ignored}
use Rattle.sccs_grammar.proofs.Samples.{with_sum, empty_delta, two_lines, second_delta, branched}
use Rattle.sccs_sid.proofs.FourNumbers.{of_four}

-- the items of a file, or its fault
abbrev items_in : Result Parsed FileFault → Result (List Item) FileFault
items_in (Ok file) = Ok file.items
items_in (Err fault) = Err fault

-- what reading a list of lines answers, where its sum is right
abbrev items : List (List ℕ) → Result (List Item) FileFault
items lines = items_in (file_of (bytes_of (with_sum lines)))

-- with a sum line of its own
abbrev items_with : ℕ → List (List ℕ) → Result (List Item) FileFault
items_with sum lines = items_in (file_of (bytes_of (sum_line sum ∷ lines)))

abbrev header_in : Result ParsedFront FileFault → Result Header FileFault
header_in (Ok front) = Ok front.header
header_in (Err fault) = Err fault

-- What a whole file is read as.
record Whole : Type 0 where
  empty_delta : items_with 7227 empty_delta ≡ Ok (item.Insert 1 ∷ item.End 1 ∷ [])
  two_lines : items_with 8096 two_lines ≡ Ok (item.Insert 1 ∷ item.Text (codes "one") ∷ item.Text (codes "two %I%")
      ∷ item.End 1 ∷ [])
  second_delta : items_with 12386 second_delta ≡ Ok (item.Insert 1 ∷ item.Text (codes "one") ∷ item.Insert 2 ∷ item.Text
      (codes "mid") ∷ item.End 2 ∷ item.Text (codes "two %I%") ∷ item.End 1 ∷ [])
  branched : items_with 13003 branched ≡ Ok (item.Insert 1 ∷ item.Text (codes "a") ∷ item.Delete 2 ∷ item.Text
      (codes "b") ∷ item.End 2 ∷ item.Insert 2 ∷ item.Text (codes "B") ∷ item.End 2 ∷ item.Insert 3 ∷ item.Text
      (codes "c") ∷ item.End 3 ∷ item.End 1 ∷ [])

whole : Whole
unfolding days_from_civil day_count days_of_years days_of_months cut is_login digits_after number_at byte_at
    numbers_after sid_of ends_blank skip skip_blanks drop_blanks words pieces spec_of number three until behind date_of
    time_of moment_of serial predecessor delta_of count_token serials listed serial_field control token
    dangling_predecessor line_after front_from item_at items_from stored opened checked_front front_of file_of
whole = record { empty_delta = refl; two_lines = refl; second_delta = refl; branched = refl }

-- a delta of the samples, with one line of comments
abbrev row_of : ℕ → Sid → ℤ → List ℕ → ℕ → List (List ℕ) → ℕ → ℕ → ℕ → Record
row_of n sid second login before comments i d u =
    record {
      serial = n;
      removed = false;
      sid = sid;
      moment = record { seconds = second };
      login = login;
      predecessor =
          before;
      include = [];
      exclude = [];
      ignore = [];
      mrs = [];
      comments = comments;
      inserted = i;
      deleted = d;
      unchanged = u;
    }

-- What a header is read as.
record Headers : Type 0 where
  two_lines : header_in (front_of (bytes_of (sum_line 8096 ∷ two_lines))) ≡ Ok
      (record {
        records = row_of 1 (of_four 1 1 0 0) (pos 1614834367) (codes "ann") 0
            (codes "date and time created 21/03/04 05:06:07 by ann" ∷ []) 2 0 0 ∷ [];
        users = [];
        flags = [];
        description =
            [];
      })
  branched : header_in (front_of (bytes_of (sum_line 13003 ∷ branched))) ≡ Ok
      (record {
        records = row_of 3 (of_four 1 1 1 1) (pos 946684799) (codes "bob") 1 ([] ∷ []) 1 0 2 ∷ row_of 2
            (of_four 1 2 0 0) (pos 162864000) (codes "ann") 1 (codes "two" ∷ []) 1 1 1 ∷ row_of 1 (of_four 1 1 0 0)
            (pos 162863999) (codes "ann") 0 (codes "one" ∷ []) 2 0 0 ∷ [];
        users = codes "ann" ∷ codes "bob" ∷ [];
        flags =
            record { letter = 101; text = codes "0" } ∷ [];
        description = [];
      })

headers : Headers
unfolding days_from_civil day_count days_of_years days_of_months cut is_login digits_after number_at byte_at
    numbers_after sid_of ends_blank skip skip_blanks drop_blanks words pieces spec_of number three until behind date_of
    time_of moment_of serial predecessor delta_of count_token serials listed serial_field control token
    dangling_predecessor line_after front_from item_at items_from stored opened checked_front front_of file_of
headers = record { two_lines = refl; branched = refl }

abbrev soh : List ℕ → Option LineToken
soh line = token (1 ∷ line)

-- What single lines say.
record Lines : Type 0 where
  short_counts : soh (codes "s   1/22/333") ≡ Some (Counts 1 22 333)
  blank_behind_counts : soh (codes "s 1/2/3 ") ≡ None
  tab_before_counts : soh (115 ∷ 9 ∷ codes "1/2/3") ≡ None
  loose_delta : soh (codes "d  D 01.1   69/1/1 0:0:0  ann 00001  00000  ") ≡ Some
      (Delta (row_of 1 (of_four 1 1 0 0) (negsuc 31535999) (codes "ann") 0 [] 0 0 0))
  last_second : soh (codes "d D 1.1 68/12/31 23:59:59 ann 1 0") ≡ Some
      (Delta (row_of 1 (of_four 1 1 0 0) (pos 3124223999) (codes "ann") 0 [] 0 0 0))
  serial_past : soh (codes "d D 1.1 68/12/31 23:59:59 ann 65536 0") ≡ None
  serial_zero : soh (codes "d D 1.1 68/12/31 23:59:59 ann 0 0") ≡ None
  six_digits : soh (codes "d D 1.1 68/12/31 23:59:59 ann 000001 0") ≡ None
  eight_words : soh (codes "d D 1.1 68/12/31 23:59:59 ann 1 0 0") ≡ None
  list : soh (codes "i  2   1") ≡ Some (Listed Included (2 ∷ 1 ∷ []))
  list_of_none : soh (codes "x  ") ≡ Some (Listed Excluded [])
  bare_list : soh (codes "g") ≡ Some (Listed Ignored [])
  zero_before : soh (codes "i 02") ≡ None
  blank_behind_list : soh (codes "i 2 ") ≡ None
  list_without_blank : soh (codes "i2") ≡ None
  empty_mr : soh (codes "m ") ≡ Some (Mr [])
  bare_mr : soh (codes "m") ≡ Some (Mr [])
  mr_without_blank : soh (codes "mx") ≡ None
  comment : soh (codes "c  two ") ≡ Some (Comment (codes " two "))
  loose_flag : soh (codes "f  e   0  1  ") ≡ Some (FlagIs (record { letter = 101; text = codes "0  1" }))
  flag_without_blank : soh (codes "f ee") ≡ None
  insert : soh (codes "I   0000000001") ≡ Some (Insert 1)
  blank_behind_insert : soh (codes "I 1 ") ≡ None
  end_of_none : soh (codes "E 0") ≡ None
  unknown : soh (codes "z") ≡ None
  plain : token (codes "one") ≡ Some (Plain (codes "one"))
  empty : token [] ≡ Some (Plain [])

lines : Lines
unfolding days_from_civil day_count days_of_years days_of_months cut is_login digits_after number_at byte_at
    numbers_after sid_of ends_blank skip skip_blanks drop_blanks words pieces spec_of number three until behind date_of
    time_of moment_of serial predecessor delta_of count_token serials listed serial_field control token
    dangling_predecessor line_after front_from item_at items_from stored opened checked_front front_of file_of
lines = record {
  short_counts = refl;
  blank_behind_counts = refl;
  tab_before_counts = refl;
  loose_delta = refl;
  last_second = refl;
  serial_past = refl;
  serial_zero = refl;
  six_digits = refl;
  eight_words = refl;
  list = refl;
  list_of_none = refl;
  bare_list = refl;
  zero_before = refl;
  blank_behind_list = refl;
  list_without_blank = refl;
  empty_mr = refl;
  bare_mr = refl;
  mr_without_blank = refl;
  comment = refl;
  loose_flag = refl;
  flag_without_blank =
      refl;
  insert = refl;
  blank_behind_insert = refl;
  end_of_none = refl;
  unknown = refl;
  plain = refl;
  empty = refl;
}

-- ListKind texts a flag may have.
record FlagTexts : Type 0 where
  floor : fits_letter 102 (codes "0000") ≡ true
  bare_floor : fits_letter 102 [] ≡ false
  long_ceiling : fits_letter 99 (codes "12345") ≡ false
  default_branch : fits_letter 100 (codes "1.2.3") ≡ true
  default_release : fits_letter 100 (codes "01") ≡ true
  bare_default : fits_letter 100 [] ≡ false
  zero_default : fits_letter 100 (codes "1.0") ≡ false
  all_locked : fits_letter 108 (codes "a") ≡ true
  locked : fits_letter 108 (codes "1,2  0003,9999") ≡ true
  nothing_locked : fits_letter 108 [] ≡ false
  two_commas : fits_letter 108 (codes "1,,2") ≡ false
  comma_and_blank : fits_letter 108 (codes "1, 2") ≡ false
  release_zero : fits_letter 108 (codes "1,0") ≡ false
  other : fits_letter 109 [] ≡ true

flag_texts : FlagTexts
unfolding days_from_civil day_count days_of_years days_of_months cut is_login digits_after number_at byte_at
    numbers_after sid_of ends_blank skip skip_blanks drop_blanks words pieces spec_of number three until behind date_of
    time_of moment_of serial predecessor delta_of count_token serials listed serial_field control token
    dangling_predecessor line_after front_from item_at items_from stored opened checked_front front_of file_of
flag_texts = record {
  floor = refl;
  bare_floor = refl;
  long_ceiling = refl;
  default_branch = refl;
  default_release =
      refl;
  bare_default = refl;
  zero_default = refl;
  all_locked = refl;
  locked = refl;
  nothing_locked = refl;
  two_commas = refl;
  comma_and_blank = refl;
  release_zero = refl;
  other = refl;
}
