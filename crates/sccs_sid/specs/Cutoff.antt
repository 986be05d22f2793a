-- Cutoffs: YY[MM[DD[HH[MM[SS]]]]], each piece the next one or two digits, other bytes passed over.
use Rattle.std.specs.Prelude.{ℕ, ◌+◌, ◌-◌, ◌*◌, List, [], ◌∷◌, Some, Result, Ok, Err, pos, if◌then◌else◌}
use Rattle.jiff_core.specs.Calendar.{days_in_month}
use Rattle.sccs_sid.specs.Reading.{◌>>=◌, number_at, is_no_digit, from_digit}
use Rattle.sccs_sid.specs.Moment.{full_year, within, second_at}
use Rattle.sccs_sid.specs.declared.moments.Moment.{Moment}
use Rattle.sccs_sid.specs.declared.moments.MomentFault.{MomentFault}

-- the next piece, and the bytes after it
abbrev pub piece_at : List ℕ → Result (ℕ × List ℕ) ℕ
piece_at bytes = number_at 2 (from_digit bytes)

-- the number of a piece, which lies from low to high
abbrev pub fitting : ℕ → ℕ → ℕ → ℕ × List ℕ → Result (ℕ × List ℕ) MomentFault
fitting place low high piece = within place low high (Some piece.0) >>= λ n. Ok (n, piece.1)

-- the year, which must be there
abbrev pub year_by : Result (ℕ × List ℕ) ℕ → Result (ℕ × List ℕ) MomentFault
year_by (Ok piece) = fitting 1 0 99 piece
year_by (Err left) = Err (record { place = 1 })

-- another unit: where no piece is left it has its greatest value
abbrev pub unit_by : ℕ → ℕ → ℕ → Result (ℕ × List ℕ) ℕ → Result (ℕ × List ℕ) MomentFault
unit_by place low high (Ok piece) = fitting place low high piece
unit_by place low high (Err left) = Ok (high, [])

-- no seventh piece
abbrev pub ended_by : Moment → Result (ℕ × List ℕ) ℕ → Result Moment MomentFault
ended_by moment (Ok piece) = Err (record { place = 7 })
ended_by moment (Err left) = Ok moment

-- the moment that bytes give as a cutoff
unfoldable pub cutoff_of : List ℕ → Result Moment MomentFault
cutoff_of bytes = do
  year ← year_by (piece_at bytes)
  month ← unit_by 2 1 12 (piece_at year.1)
  day ← unit_by 3 1 (days_in_month (pos (full_year year.0)) month.0) (piece_at month.1)
  hour ← unit_by 4 0 23 (piece_at day.1)
  minute ← unit_by 5 0 59 (piece_at hour.1)
  second ← unit_by 6 0 59 (piece_at minute.1)
  ended_by (record {
    seconds =
        second_at (record {
          year = full_year year.0;
          month = month.0;
          day = day.0;
          hour = hour.0;
          minute = minute.0;
          second = second.0;
        });
  }) (piece_at second.1)

-- the pieces in plain words: a digit with the digit after it, where one follows, else alone; other bytes are passed
-- over
unfoldable pub digit_pieces : List ℕ → List ℕ
digit_pieces [] = []
digit_pieces (b ∷ []) = if is_no_digit b then [] else (b - 48) ∷ []
digit_pieces (b ∷ c ∷ bytes) =
    if is_no_digit b then digit_pieces (c ∷ bytes) else if is_no_digit c then (b - 48) ∷ digit_pieces bytes
    else ((b - 48) * 10 + (c - 48)) ∷ digit_pieces bytes

-- the year, the first piece, and the others
abbrev pub year_piece : List ℕ → Result (ℕ × List ℕ) MomentFault
year_piece [] = Err (record { place = 1 })
year_piece (n ∷ numbers) = fitting 1 0 99 (n, numbers)

-- another unit, the next piece, and the others: where none is left it has its greatest value
abbrev pub unit_piece : ℕ → ℕ → ℕ → List ℕ → Result (ℕ × List ℕ) MomentFault
unit_piece place low high [] = Ok (high, [])
unit_piece place low high (n ∷ numbers) = fitting place low high (n, numbers)

abbrev pub no_piece : Moment → List ℕ → Result Moment MomentFault
no_piece moment [] = Ok moment
no_piece moment (n ∷ numbers) = Err (record { place = 7 })

-- the moment that pieces give
unfoldable pub of_pieces : List ℕ → Result Moment MomentFault
of_pieces numbers = do
  year ← year_piece numbers
  month ← unit_piece 2 1 12 year.1
  day ← unit_piece 3 1 (days_in_month (pos (full_year year.0)) month.0) month.1
  hour ← unit_piece 4 0 23 day.1
  minute ← unit_piece 5 0 59 hour.1
  second ← unit_piece 6 0 59 minute.1
  no_piece (record {
    seconds =
        second_at (record {
          year = full_year year.0;
          month = month.0;
          day = day.0;
          hour = hour.0;
          minute = minute.0;
          second = second.0;
        });
  }) second.1
