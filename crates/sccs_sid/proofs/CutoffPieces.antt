-- A cutoff is read by its pieces.
use Rattle.std.proofs.Common.{◌≡◌, ℕ, ◌+◌, ◌-◌, ◌*◌, ◌||◌, Bool, true, false, cond, nat_lt, List, [], ◌∷◌, Some, Result}
use Rattle.std.proofs.Common.{Ok, Err, refl, sym, ap, subst, ◌∙◌, inl, inr}
use Rattle.std.proofs.lemmas.Bool.{cases_Bool, or_parts}
use Rattle.sccs_sid.specs.Reading.{◌>>=◌, digits_after, number_at, skip, is_no_digit}
use Rattle.sccs_sid.specs.Moment.{within}
use Rattle.sccs_sid.specs.Cutoff.{piece_at, year_by, unit_by, ended_by, cutoff_of, digit_pieces, year_piece, unit_piece}
use Rattle.sccs_sid.specs.Cutoff.{no_piece, of_pieces}
use Rattle.sccs_sid.specs.declared.moments.Moment.{Moment}
use Rattle.sccs_sid.specs.declared.moments.MomentFault.{MomentFault}

-- what reading one piece leaves: a number and the other pieces, or none
abbrev Steps : List ℕ → Result (ℕ × List ℕ) ℕ → Type 0
Steps numbers (Ok piece) = numbers ≡ piece.0 ∷ digit_pieces piece.1
Steps numbers (Err left) = numbers ≡ []

passed_over : (b : ℕ) (rest : List ℕ) → is_no_digit b ≡ true → piece_at (b ∷ rest) ≡ piece_at rest
unfolding skip
passed_over b rest other = rw other refl

first_digit : (b : ℕ) (rest : List ℕ) → is_no_digit b ≡ false → piece_at (b ∷ rest) ≡ Ok (digits_after 1 (b - 48) rest)
unfolding skip number_at
first_digit b rest digit =
    let tests = or_parts (nat_lt b 48) (nat_lt 57 b) digit in
    ap (λ test. number_at 2 (cond test (skip is_no_digit rest) (b ∷ rest))) digit ∙ rw (tests.0, tests.1) refl

chosen : {A : Type 0} (x y : Bool) (other digit : A) → (x || y) ≡ true → cond x other (cond y other digit) ≡ other
chosen true y other digit is = refl
chosen false true other digit is = refl
chosen false false other digit is = cc

one_alone : (n c : ℕ) (bytes : List ℕ) → is_no_digit c ≡ true → digits_after 1 n (c ∷ bytes) ≡ (n, c ∷ bytes)
unfolding digits_after
one_alone n c bytes other = chosen (nat_lt c 48) (nat_lt 57 c) _ _ other

second_digit : (n c : ℕ) (bytes : List ℕ) → is_no_digit c ≡ false → digits_after 1 n (c ∷ bytes) ≡ (
  n * 10 + (c - 48),
  bytes,
)
unfolding digits_after
second_digit n c bytes digit =
    let tests = or_parts (nat_lt c 48) (nat_lt 57 c) digit in rw (tests.0, tests.1) refl

other_piece : (c : ℕ) (bytes : List ℕ) → is_no_digit c ≡ true → digit_pieces (c ∷ bytes) ≡ digit_pieces bytes
unfolding digit_pieces
other_piece c [] other = rw other refl
other_piece c (d ∷ bytes) other = rw other refl

two_digits : (b c : ℕ) (bytes : List ℕ) → is_no_digit b ≡ false → is_no_digit c ≡ false → digit_pieces (b ∷ c ∷ bytes)
    ≡ ((b - 48) * 10 + (c - 48)) ∷ digit_pieces bytes
unfolding digit_pieces
two_digits b c bytes first second = rw (first, second) refl

one_digit : (b c : ℕ) (bytes : List ℕ) → is_no_digit b ≡ false → is_no_digit c ≡ true → digit_pieces (b ∷ c ∷ bytes)
    ≡ (b - 48) ∷ digit_pieces bytes
unfolding digit_pieces
one_digit b c bytes first second = rw (first, second) refl

last_digit : (b : ℕ) → is_no_digit b ≡ false → digit_pieces (b ∷ []) ≡ (b - 48) ∷ []
unfolding digit_pieces
last_digit b digit = rw digit refl

no_pieces : digit_pieces [] ≡ []
unfolding digit_pieces
no_pieces = refl

none_left : piece_at [] ≡ Err 0
unfolding skip number_at
none_left = refl

at_end : (n : ℕ) → digits_after 1 n [] ≡ (n, [])
unfolding digits_after
at_end n = refl

digit_steps : (b : ℕ) (bytes : List ℕ) → is_no_digit b ≡ false → Steps (digit_pieces (b ∷ bytes))
    (Ok (digits_after 1 (b - 48) bytes))
digit_steps b [] digit =
    last_digit b digit ∙ (ap (λ (rest : List ℕ). (b - 48) ∷ rest) (sym no_pieces)
    ∙ ap (λ (x : ℕ × List ℕ). x.0 ∷ digit_pieces x.1) (sym (at_end (b - 48))))
digit_steps b (c ∷ bytes) digit =
    elim (cases_Bool (is_no_digit c)) [
      | inl other ↦ one_digit b c bytes digit other
          ∙ (ap (λ (rest : List ℕ). (b - 48) ∷ rest) (sym (other_piece c bytes other))
          ∙ ap (λ (x : ℕ × List ℕ). x.0 ∷ digit_pieces x.1) (sym (one_alone (b - 48) c bytes other)))
      | inr second ↦ two_digits b c bytes digit second ∙ ap (λ (x : ℕ × List ℕ). x.0 ∷ digit_pieces x.1)
          (sym (second_digit (b - 48) c bytes second))
    ]

pub steps : (bytes : List ℕ) → Steps (digit_pieces bytes) (piece_at bytes)
steps [] = subst (Steps (digit_pieces [])) (sym none_left) no_pieces
steps (b ∷ bytes) =
    elim (cases_Bool (is_no_digit b)) [
      | inl other ↦ subst (λ numbers. Steps numbers (piece_at (b ∷ bytes))) (sym (other_piece b bytes other))
          (subst (Steps (digit_pieces bytes)) (sym (passed_over b bytes other)) (steps bytes))
      | inr digit ↦ subst (Steps (digit_pieces (b ∷ bytes))) (sym (first_digit b bytes digit))
          (digit_steps b bytes digit)
    ]

fit_same : {A : Type 0} (found : Result ℕ MomentFault) (rest : List ℕ) (k more : ℕ × List ℕ → Result A MomentFault)
    → ((n : ℕ) (rest : List ℕ) → k (n, rest) ≡ more (n, digit_pieces rest))
    → ((found >>= λ n. Ok (n, rest)) >>= k) ≡ ((found >>= λ n. Ok (n, digit_pieces rest)) >>= more)
fit_same (Ok n) rest k more same = same n rest
fit_same (Err fault) rest k more same = refl

unit_step : {A : Type 0} (place low high : ℕ) (read : Result (ℕ × List ℕ) ℕ) (numbers : List ℕ) (k more : ℕ × List ℕ
    → Result A MomentFault) → ((n : ℕ) (rest : List ℕ) → k (n, rest) ≡ more (n, digit_pieces rest)) → Steps numbers read
    → (unit_by place low high read >>= k) ≡ (unit_piece place low high numbers >>= more)
unit_step place low high (Ok piece) numbers k more same is =
    fit_same (within place low high (Some piece.0)) piece.1 k more same
    ∙ ap (λ (ns : List ℕ). unit_piece place low high ns >>= more) (sym is)
unit_step place low high (Err left) numbers k more same is =
    same high [] ∙ (ap (λ (ns : List ℕ). more (high, ns)) no_pieces ∙ ap (λ (ns : List ℕ). unit_piece place low high ns
    >>= more) (sym is))

year_step : {A : Type 0} (read : Result (ℕ × List ℕ) ℕ) (numbers : List ℕ) (k more : ℕ × List ℕ → Result A MomentFault)
    → ((n : ℕ) (rest : List ℕ) → k (n, rest) ≡ more (n, digit_pieces rest)) → Steps numbers read
    → (year_by read >>= k) ≡ (year_piece numbers >>= more)
year_step (Ok piece) numbers k more same is =
    fit_same (within 1 0 99 (Some piece.0)) piece.1 k more same ∙ ap (λ (ns : List ℕ). year_piece ns >>= more) (sym is)
year_step (Err left) numbers k more same is = ap (λ (ns : List ℕ). year_piece ns >>= more) (sym is)

last_step : (moment : Moment) (read : Result (ℕ × List ℕ) ℕ) (numbers : List ℕ) → Steps numbers read
    → ended_by moment read ≡ no_piece moment numbers
last_step moment (Ok piece) numbers is = ap (no_piece moment) (sym is)
last_step moment (Err left) numbers is = ap (no_piece moment) (sym is)

pub cutoff_by_pieces : (bytes : List ℕ) → cutoff_of bytes ≡ of_pieces (digit_pieces bytes)
unfolding cutoff_of of_pieces
cutoff_by_pieces bytes =
    year_step (piece_at bytes) (digit_pieces bytes) _ _ (λ year rest.
    unit_step 2 1 12 (piece_at rest) (digit_pieces rest) _ _ (λ month rest.
    unit_step 3 1 _ (piece_at rest) (digit_pieces rest) _ _ (λ day rest.
    unit_step 4 0 23 (piece_at rest) (digit_pieces rest) _ _ (λ hour rest.
    unit_step 5 0 59 (piece_at rest) (digit_pieces rest) _ _ (λ minute rest.
    unit_step 6 0 59 (piece_at rest) (digit_pieces rest) _ _ (λ second rest. last_step _ (piece_at rest)
    (digit_pieces rest) (steps rest)) (steps rest)) (steps rest)) (steps rest)) (steps rest)) (steps rest))
    (steps bytes)
