-- The SID got and the SID to be made are those of the row that fits.
use Rattle.std.proofs.Common.{◌≡◌, ◌≢◌, ℕ, ◌<◌, ◌≤◌, ◌==◌, nat_lt, nat_le, max, inl, inr, Bool, true, false, cond, not}
use Rattle.std.proofs.Common.{◌&&◌, ◌||◌, List, [], ◌∷◌, length, map, Option, None, Some, IfSome, refl, sym, subst, ap}
use Rattle.std.proofs.Common.{◌∙◌, arith, rules, eq-eqb, ne_eqb}
use Rattle.std.specs.Prelude.{find, option_map, option_and_then, unwrap_or}
use Rattle.std.specs.List.{reduce}
use Rattle.std.proofs.lemmas.Bool.{and_parts, eqb-true, le-ltb, lt-ltb, cases_eq, cases_lt}
use Rattle.sccs_sid.specs.Spec.{IsSpec}
use Rattle.sccs_sid.specs.declared.sids.Sid.{Sid}
use Rattle.sccs_sid.specs.declared.sids.Spec.{Spec}
use Rattle.sccs_sid.specs.declared.sids.Spec.TheVariants.{Release, Branch, Full}
use Rattle.sccs_history.specs.Applied.{serials_of}
use Rattle.sccs_history.specs.FlagText.{flag_b}
use Rattle.sccs_history.specs.History.{same_sid}
use Rattle.sccs_history.specs.Numbers.{Falls}
use Rattle.sccs_history.specs.declared.headers.Header.{Header}
use Rattle.sccs_history.specs.declared.headers.Record.{Record}
use Rattle.sccs_flags.specs.FlagValues.{has_flag}
use Rattle.sccs_sets.specs.Made.{live_branch, made_on, next, next_on_line, on_new_branch, to_be_made}
use Rattle.sccs_sets.specs.Retrieved.{branch_sequence, branch_sid, retrieved, serial_of, trunk_level, trunk_release}
use Rattle.sccs_sets.specs.Retrieved.{trunk_sid}
use Rattle.sccs_sets.specs.Sets.{sid_at}
use Rattle.sccs_sets.specs.SidTable.{branch_up, fitting_rows, got_in, has_successor, is_trunk_release, last_level}
use Rattle.sccs_sets.specs.SidTable.{last_sequence, level_up, made_in, newest_sid, passes, release_below, Row, rows}
use Rattle.sccs_sets.specs.SidTable.{rows_alone, rows_of_branch, rows_of_level, rows_of_release, rows_of_sequence}
use Rattle.sccs_sets.specs.SidTable.{sequence_up}
use Rattle.sccs_sets.proofs.Greatest.{each, each_from, none_passes, none_top, same_top, top, top_below, top_is}
use Rattle.sccs_sets.proofs.MadeCases.{in_later_release, on_branch, on_earlier, on_newest, top_of_all}
use Rattle.sccs_sets.proofs.NewSids.{same_is}

-- ---- the greatest releases

abbrev release_of : Record → ℕ
release_of r = r.sid.release

within_as : (gone trunk low : Bool) → ((not gone && (trunk && true)) ≡ true → low ≡ true) → (not gone && (trunk && low))
    ≡ (not gone && (trunk && true))
within_as true trunk low under = refl
within_as false false low under = refl
within_as false true low under = under refl

le_is : (a b : ℕ) → a ≤ b → nat_le a b ≡ true
le_is a b le = search (rules, arith)

-- no release is past a limit that the newest isn't past
within_limit : (records : List Record) (newest limit : ℕ) → trunk_release records None ≡ Some newest → newest ≤ limit
    → trunk_release records (Some limit) ≡ Some newest
within_limit records newest limit is le =
    ap (λ rs. reduce max (map release_of rs))
    (same_top release_of (λ r. not r.removed && (r.sid.branch == 0 && nat_le r.sid.release limit)) (λ r. not r.removed
    && (r.sid.branch == 0 && true)) records
    (each_from (λ r. (not r.removed && (r.sid.branch == 0 && true)) ≡ true → r.sid.release ≤ newest)
    (λ r. (not r.removed && (r.sid.branch == 0 && nat_le r.sid.release limit))
    ≡ (not r.removed && (r.sid.branch == 0 && true))) records
    (λ r low. within_as r.removed (r.sid.branch == 0) (nat_le r.sid.release limit)
    (λ on. let under : r.sid.release ≤ newest = low on in le_is r.sid.release limit (omega (arith, under, le))))
    (top_of_all (λ s. s.release) (λ s. s.branch == 0 && true) records newest is)))
    ∙ is

within_none : (gone trunk low : Bool) → (not gone && (trunk && low)) ≡ true → (not gone && (trunk && true)) ≡ true
within_none true trunk low on = on
within_none false false low on = on
within_none false true low on = refl

none_within : (records : List Record) (limit : ℕ) → trunk_release records None ≡ None
    → trunk_release records (Some limit) ≡ None
none_within records limit is =
    none_top release_of (λ r. not r.removed && (r.sid.branch == 0 && true)) (λ r. not r.removed
    && (r.sid.branch == 0 && nat_le r.sid.release limit)) records
    (each (λ r. (not r.removed && (r.sid.branch == 0 && nat_le r.sid.release limit)) ≡ true
    → (not r.removed && (r.sid.branch == 0 && true)) ≡ true) records (λ r. within_none r.removed (r.sid.branch == 0)
    (nat_le r.sid.release limit))) is

le_from : (a b : ℕ) → nat_le a b ≡ true → a ≤ b
le_from a b is = search (rules, arith)

last_of : (gone trunk low : Bool) → (not gone && (trunk && low)) ≡ true → low ≡ true
last_of true trunk low on = cc
last_of false false low on = cc
last_of false true low on = on

with_last : (gone trunk same low : Bool) → (not gone && (trunk && same)) ≡ true → low ≡ true
    → (not gone && (trunk && low)) ≡ true
with_last true trunk same low on is = on
with_last false false same low on is = on
with_last false true same low on is = is

-- a release that is there is the greatest that isn't past it
there_within : (records : List Record) (release : ℕ) → is_trunk_release records release ≡ true
    → trunk_release records (Some release) ≡ Some release
there_within records release there =
    top_is release_of (λ r. not r.removed && (r.sid.branch == 0 && nat_le r.sid.release release)) (λ r. not r.removed
    && (r.sid.branch == 0 && r.sid.release == release)) release records
    (each (λ r. (not r.removed && (r.sid.branch == 0 && nat_le r.sid.release release)) ≡ true → r.sid.release ≤ release)
    records (λ r on. le_from r.sid.release release (last_of r.removed (r.sid.branch == 0)
    (nat_le r.sid.release release) on)))
    (λ r on.
    let same : r.sid.release ≡ release = eqb-true r.sid.release release (last_of r.removed (r.sid.branch == 0)
    (r.sid.release == release) on) in (
      with_last r.removed (r.sid.branch == 0) (r.sid.release == release) (nat_le r.sid.release release) on
          (le_is r.sid.release release (omega (arith, same))),
      same,
    ))
    there

other_below : (gone trunk same low below : Bool) → (not gone && (trunk && same)) ≡ false → (same ≡ false → low ≡ below)
    → (not gone && (trunk && low)) ≡ (not gone && (trunk && below))
other_below true trunk same low below none alike = refl
other_below false false same low below none alike = refl
other_below false true same low below none alike = alike none

le_lt : (a b : ℕ) → (a == b) ≡ false → nat_le a b ≡ nat_lt a b
le_lt a b other = search (rules, arith)

-- where a release isn't there, the greatest that isn't past it is below it
below_within : (records : List Record) (release : ℕ) → is_trunk_release records release ≡ false
    → trunk_release records (Some release) ≡ release_below records release
below_within records release none =
    ap (λ rs. reduce max (map release_of rs))
    (same_top release_of (λ r. not r.removed && (r.sid.branch == 0 && nat_le r.sid.release release)) (λ r. not r.removed
    && (r.sid.branch == 0 && nat_lt r.sid.release release)) records
    (each_from (λ r. (not r.removed && (r.sid.branch == 0 && r.sid.release == release)) ≡ false)
    (λ r. (not r.removed && (r.sid.branch == 0 && nat_le r.sid.release release))
    ≡ (not r.removed && (r.sid.branch == 0 && nat_lt r.sid.release release))) records
    (λ r other. other_below r.removed (r.sid.branch == 0) (r.sid.release == release) (nat_le r.sid.release release)
    (nat_lt r.sid.release release) other (le_lt r.sid.release release))
    (none_passes (λ r. not r.removed && (r.sid.branch == 0 && r.sid.release == release)) records none)))

lt_from : (a b : ℕ) → nat_lt a b ≡ true → a < b
lt_from a b is = search (rules, arith)

is_below : (records : List Record) (release found : ℕ) → release_below records release ≡ Some found → found < release
is_below records release found is =
    top_below release_of (λ r. not r.removed && (r.sid.branch == 0 && nat_lt r.sid.release release)) release found
    records
    (each (λ r. (not r.removed && (r.sid.branch == 0 && nat_lt r.sid.release release)) ≡ true → r.sid.release < release)
    records (λ r on. lt_from r.sid.release release (last_of r.removed (r.sid.branch == 0)
    (nat_lt r.sid.release release) on))) is

-- ---- the serial of the newest SID

level_serial : (records : List Record) (release : ℕ) (o : Option ℕ)
    → option_and_then (λ level. serial_of records (trunk_sid release level)) o ≡ option_and_then (serial_of records)
    (option_map (λ level. trunk_sid release level) o)
level_serial records release None = refl
level_serial records release (Some level) = refl

tip_serial : (records : List Record) (o : Option ℕ)
    → option_and_then (λ release. option_and_then (λ level. serial_of records (trunk_sid release level))
    (trunk_level records release)) o ≡ option_and_then (serial_of records) (option_and_then (last_level records) o)
tip_serial records None = refl
tip_serial records (Some release) = level_serial records release (trunk_level records release)

sequence_serial : (records : List Record) (release level number : ℕ) (o : Option ℕ)
    → option_and_then (λ sequence. serial_of records (branch_sid release level number sequence)) o ≡ option_and_then
    (serial_of records) (option_map (λ sequence. branch_sid release level number sequence) o)
sequence_serial records release level number None = refl
sequence_serial records release level number (Some sequence) = refl

-- ---- the rows that fit

abbrev alone : List Record → Bool → List Row
alone records branch = fitting_rows branch (rows_alone records)

got_alone : (records : List Record) (branch : Bool) → got_in (alone records branch) ≡ newest_sid records
got_alone records true = refl
got_alone records false = refl

one_alone : (records : List Record) (branch : Bool) → length (alone records branch) ≤ 1
one_alone records true = omega arith
one_alone records false = omega arith

abbrev for_release : List Record → ℕ → Bool → Bool → Bool → Bool → Bool → List Row
for_release records release branch above newest below there =
    fitting_rows branch (rows_of_release records release above newest below there)

got_above : (records : List Record) (release : ℕ) (branch there : Bool)
    → got_in (for_release records release branch true false false there) ≡ newest_sid records
got_above records release true there = refl
got_above records release false there = refl

got_newest : (records : List Record) (release : ℕ) (branch there : Bool)
    → got_in (for_release records release branch false true false there) ≡ newest_sid records
got_newest records release true there = refl
got_newest records release false there = refl

got_nowhere : (records : List Record) (release : ℕ) (branch there : Bool)
    → got_in (for_release records release branch false false false there) ≡ None
got_nowhere records release true there = refl
got_nowhere records release false there = refl

abbrev below_sid : List Record → ℕ → Bool → Option Sid
below_sid records release there = option_and_then (last_level records) (cond there (Some release)
    (release_below records release))

got_below : (records : List Record) (release : ℕ) (branch there : Bool)
    → got_in (for_release records release branch false false true there) ≡ below_sid records release there
got_below records release true true = refl
got_below records release true false = refl
got_below records release false true = refl
got_below records release false false = refl

-- a number is above another, the same or below it
data Place : Bool → Bool → Bool → Type 0 where
  Above : Place true false false
  Same : Place false true false
  Below : Place false false true

place_of : (a b : ℕ) → Place (nat_lt a b) (a == b) (nat_lt b a)
place_of a b = elim (cases_eq a b) [
  | inl is ↦ subst (λ x. Place x (a == b) (nat_lt b a)) (sym (le-ltb a b (omega (arith, is))))
      (subst (λ x. Place false x (nat_lt b a)) (sym (eq-eqb a b is)) (subst (λ x. Place false true x)
      (sym (le-ltb b a (omega (arith, is)))) Same))
  | inr other ↦ elim (cases_lt a b) [
    | inl low ↦ subst (λ x. Place x (a == b) (nat_lt b a)) (sym (lt-ltb a b low))
        (subst (λ x. Place true x (nat_lt b a)) (sym (ne_eqb a b other)) (subst (λ x. Place true false x)
        (sym (le-ltb b a (omega (arith, low)))) Above))
    | inr high ↦ subst (λ x. Place x (a == b) (nat_lt b a)) (sym (le-ltb a b high))
        (subst (λ x. Place false x (nat_lt b a)) (sym (ne_eqb a b other)) (subst (λ x. Place false false x)
        (sym (lt-ltb b a (ne_lt a b high other))) Below))
  ]
]
  where
    ne_lt : (a b : ℕ) → b ≤ a → a ≢ b → b < a
    ne_lt a b le other = search (rules, arith)

one_at : (records : List Record) (release : ℕ) (branch there : Bool) {a n b : Bool} → Place a n b
    → length (for_release records release branch a n b there) ≤ 1
one_at records release true there Above = omega arith
one_at records release false there Above = omega arith
one_at records release true there Same = omega arith
one_at records release false there Same = omega arith
one_at records release true true Below = omega arith
one_at records release true false Below = omega arith
one_at records release false true Below = omega arith
one_at records release false false Below = omega arith

one_of_release : (records : List Record) (release newest : ℕ) (branch there : Bool)
    → length (for_release records release branch (nat_lt newest release) (newest == release) (nat_lt release newest)
    there) ≤ 1
one_of_release records release newest branch there = one_at records release branch there (place_of newest release)

abbrev for_level : List Record → Sid → Bool → Bool → List Row
for_level records sid branch followed = fitting_rows branch (rows_of_level records sid followed)

got_level : (records : List Record) (sid : Sid) (branch followed : Bool)
    → got_in (for_level records sid branch followed) ≡ Some sid
got_level records sid true true = refl
got_level records sid true false = refl
got_level records sid false true = refl
got_level records sid false false = refl

one_of_level : (records : List Record) (sid : Sid) (branch followed : Bool)
    → length (for_level records sid branch followed) ≤ 1
one_of_level records sid true true = omega arith
one_of_level records sid true false = omega arith
one_of_level records sid false true = omega arith
one_of_level records sid false false = omega arith

abbrev for_branch : List Record → ℕ → ℕ → ℕ → Bool → List Row
for_branch records release level number branch = fitting_rows branch (rows_of_branch records release level number)

got_branch : (records : List Record) (release level number : ℕ) (branch : Bool)
    → got_in (for_branch records release level number branch) ≡ last_sequence records release level number
got_branch records release level number true = refl
got_branch records release level number false = refl

one_of_branch : (records : List Record) (release level number : ℕ) (branch : Bool)
    → length (for_branch records release level number branch) ≤ 1
one_of_branch records release level number true = omega arith
one_of_branch records release level number false = omega arith

abbrev for_sequence : List Record → Sid → Bool → Bool → List Row
for_sequence records sid branch followed = fitting_rows branch (rows_of_sequence records sid followed)

got_sequence : (records : List Record) (sid : Sid) (branch followed : Bool)
    → got_in (for_sequence records sid branch followed) ≡ Some sid
got_sequence records sid true true = refl
got_sequence records sid true false = refl
got_sequence records sid false true = refl
got_sequence records sid false false = refl

one_of_sequence : (records : List Record) (sid : Sid) (branch followed : Bool)
    → length (for_sequence records sid branch followed) ≤ 1
one_of_sequence records sid true true = omega arith
one_of_sequence records sid true false = omega arith
one_of_sequence records sid false true = omega arith
one_of_sequence records sid false false = omega arith

-- the rows of a release where the trunk has none
one_nowhere : (records : List Record) (release : ℕ) (branch there : Bool)
    → length (for_release records release branch false false false there) ≤ 1
one_nowhere records release true there = omega arith
one_nowhere records release false there = omega arith

-- at most one row fits
pub one_row : (records : List Record) (spec : Option Spec) (branch : Bool)
    → length (fitting_rows branch (rows records spec)) ≤ 1
one_row records None branch = one_alone records branch
one_row records (Some (Release release)) branch = by (trunk_release records None)
  where
    by : (o : Option ℕ) → length (for_release records release branch (passes o (λ newest. nat_lt newest release))
        (passes o (λ newest. newest == release)) (passes o (λ newest. nat_lt release newest))
        (is_trunk_release records release)) ≤ 1
    by None = one_nowhere records release branch (is_trunk_release records release)
    by (Some newest) = one_of_release records release newest branch (is_trunk_release records release)
one_row records (Some (Branch release level number)) branch = one_of_branch records release level number branch
one_row records (Some (Full sid)) branch = by (sid.branch == 0)
  where
    by : (t : Bool) → length (fitting_rows branch (cond t (rows_of_level records sid (has_successor records sid))
        (rows_of_sequence records sid (has_successor records sid)))) ≤ 1
    by true = one_of_level records sid branch (has_successor records sid)
    by false = one_of_sequence records sid branch (has_successor records sid)

-- ---- the SID got

-- what is got where a release is given, by the newest one
got_by_newest : (records : List Record) (release : ℕ) (branch : Bool) (o : Option ℕ) → trunk_release records None ≡ o
    → option_and_then (last_level records) (trunk_release records (Some release))
    ≡ got_in (for_release records release branch (passes o (λ newest. nat_lt newest release))
    (passes o (λ newest. newest == release)) (passes o (λ newest. nat_lt release newest))
    (is_trunk_release records release))
got_by_newest records release branch None is =
    ap (option_and_then (last_level records)) (none_within records release is)
    ∙ sym (got_nowhere records release branch (is_trunk_release records release))
got_by_newest records release branch (Some newest) is =
    elim (cases_eq newest release) [
      | inl same ↦
          ap (option_and_then (last_level records)) (within_limit records newest release is (omega (arith, same))
          ∙ sym is)
          ∙ (sym (got_newest records release branch (is_trunk_release records release))
          ∙ by_tests (le-ltb newest release (omega (arith, same))) (eq-eqb newest release same)
          (le-ltb release newest (omega (arith, same))))
      | inr other ↦ elim (cases_lt newest release) [
        | inl low ↦
            ap (option_and_then (last_level records)) (within_limit records newest release is (omega (arith, low))
            ∙ sym is)
            ∙ (sym (got_above records release branch (is_trunk_release records release))
            ∙ by_tests (lt-ltb newest release low) (ne_eqb newest release other)
            (le-ltb release newest (omega (arith, low))))
        | inr high ↦
            below_by (is_trunk_release records release) refl
            ∙ (sym (got_below records release branch (is_trunk_release records release))
            ∙ by_tests (le-ltb newest release high) (ne_eqb newest release other)
            (lt-ltb release newest (omega (arith, high, other))))
      ]
    ]
  where
    by_tests : {a n b : Bool} → nat_lt newest release ≡ a → (newest == release) ≡ n → nat_lt release newest ≡ b
        → got_in (for_release records release branch a n b (is_trunk_release records release)) ≡ got_in
        (for_release records release branch (nat_lt newest release) (newest == release) (nat_lt release newest)
        (is_trunk_release records release))
    by_tests {a} {n} {b} above same below =
        ap (λ x. got_in (for_release records release branch x n b (is_trunk_release records release))) (sym above)
        ∙ (ap (λ x. got_in (for_release records release branch (nat_lt newest release) x b
        (is_trunk_release records release))) (sym same)
        ∙ ap (λ x. got_in (for_release records release branch (nat_lt newest release) (newest == release) x
        (is_trunk_release records release))) (sym below))

    below_by : (t : Bool) → is_trunk_release records release ≡ t → option_and_then (last_level records)
        (trunk_release records (Some release)) ≡ below_sid records release t
    below_by true there = ap (option_and_then (last_level records)) (there_within records release there)
    below_by false none = ap (option_and_then (last_level records)) (below_within records release none)

-- the serial got is that of the SID of the row that fits
pub got_by_row : (records : List Record) (spec : Option Spec) (branch : Bool) → retrieved records spec false
    ≡ option_and_then (serial_of records) (got_in (fitting_rows branch (rows records spec)))
got_by_row records None branch = tip_serial records (trunk_release records None)
    ∙ ap (option_and_then (serial_of records)) (sym (got_alone records branch))
got_by_row records (Some (Release release)) branch =
    tip_serial records (trunk_release records (Some release)) ∙ ap (option_and_then (serial_of records))
    (got_by_newest records release branch (trunk_release records None) refl)
got_by_row records (Some (Branch release level number)) branch =
    sequence_serial records release level number (branch_sequence records release level number)
    ∙ ap (option_and_then (serial_of records)) (sym (got_branch records release level number branch))
got_by_row records (Some (Full sid)) branch = by (sid.branch == 0)
  where
    by : (t : Bool) → serial_of records sid ≡ option_and_then (serial_of records)
        (got_in (fitting_rows branch (cond t (rows_of_level records sid (has_successor records sid))
        (rows_of_sequence records sid (has_successor records sid)))))
    by true = ap (option_and_then (serial_of records)) (sym (got_level records sid branch (has_successor records sid)))
    by false = ap (option_and_then (serial_of records))
        (sym (got_sequence records sid branch (has_successor records sid)))

-- ---- the SID to be made

max_none : (n : ℕ) → max n 0 ≡ n
max_none n = omega arith

new_branch : (records : List Record) (got : Sid) → on_new_branch records [] got ≡ branch_up records got
new_branch records got = ap (λ n. option_map (λ number. branch_sid got.release got.level number 1) (next n))
    (max_none (unwrap_or (live_branch records got) 0))

-- no branch is asked for
by_successor : (records : List Record) (got : Sid) (spec : Option Spec) (followed : Bool) → has_successor records got
    ≡ followed
    → made_on records [] got spec false ≡ cond followed (branch_up records got) (next_on_line got spec)
by_successor records got spec followed is = ap (λ t. cond (t || false) (on_new_branch records [] got)
    (next_on_line got spec)) is ∙ by followed
  where
    by : (t : Bool) → cond (t || false) (on_new_branch records [] got) (next_on_line got spec) ≡ cond t
        (branch_up records got) (next_on_line got spec)
    by true = new_branch records got
    by false = refl

made_level : (records : List Record) (sid : Sid) (branch followed : Bool) → has_successor records sid ≡ followed
    → (sid.branch == 0) ≡ true
    → made_on records [] sid (Some (Full sid)) branch ≡ made_in (for_level records sid branch followed)
made_level records sid true true is trunk = new_branch records sid
made_level records sid true false is trunk = new_branch records sid
made_level records sid false true is trunk = by_successor records sid (Some (Full sid)) true is
made_level records sid false false is trunk = by_successor records sid (Some (Full sid)) false is
    ∙ ap (λ t. cond t (level_up sid) (sequence_up sid)) trunk

made_sequence : (records : List Record) (sid : Sid) (branch followed : Bool) → has_successor records sid ≡ followed
    → (sid.branch == 0) ≡ false
    → made_on records [] sid (Some (Full sid)) branch ≡ made_in (for_sequence records sid branch followed)
made_sequence records sid true true is side = new_branch records sid
made_sequence records sid true false is side = new_branch records sid
made_sequence records sid false true is side = by_successor records sid (Some (Full sid)) true is
made_sequence records sid false false is side = by_successor records sid (Some (Full sid)) false is
    ∙ ap (λ t. cond t (level_up sid) (sequence_up sid)) side

made_full : (records : List Record) (sid : Sid) (branch trunk : Bool) → (sid.branch == 0) ≡ trunk
    → made_on records [] sid (Some (Full sid)) branch ≡ made_in
    (fitting_rows branch (cond trunk (rows_of_level records sid (has_successor records sid))
    (rows_of_sequence records sid (has_successor records sid))))
made_full records sid branch true is = made_level records sid branch (has_successor records sid) refl is
made_full records sid branch false is = made_sequence records sid branch (has_successor records sid) refl is

-- where a number was found, its SID
record Found (f : ℕ → Sid) (o : Option ℕ) (got : Sid) : Type 0 where
  number : ℕ
  is : o ≡ Some number
  same : f number ≡ got

found : (f : ℕ → Sid) (o : Option ℕ) (got : Sid) → option_map f o ≡ Some got → Found f o got
found f None got is = cc
found f (Some n) got is = record { number = n; is = refl; same = cc }

-- the newest SID of the trunk
record Newest (records : List Record) (got : Sid) : Type 0 where
  release : ℕ
  level : ℕ
  newest : trunk_release records None ≡ Some release
  top : trunk_level records release ≡ Some level
  same : trunk_sid release level ≡ got

newest_by : (records : List Record) (got : Sid) (o : Option ℕ) → trunk_release records None ≡ o
    → option_and_then (last_level records) o ≡ Some got → Newest records got
newest_by records got None is some = cc
newest_by records got (Some release) is some =
    let it = found (λ level. trunk_sid release level) (trunk_level records release) got some in
    record { release = release; level = it.number; newest = is; top = it.is; same = it.same }

newest_found : (records : List Record) (got : Sid) → newest_sid records ≡ Some got → Newest records got
newest_found records got some = newest_by records got (trunk_release records None) refl some

made_alone : (records : List Record) (got : Sid) (branch : Bool) → newest_sid records ≡ Some got
    → made_on records [] got None branch ≡ made_in (alone records branch)
made_alone records got true is = new_branch records got ∙ sym (ap (option_and_then (branch_up records)) is)
made_alone records got false is =
    let it = newest_found records got is in
    subst (λ g. made_on records [] g None false ≡ level_up g) it.same (on_newest records it.release it.level it.newest
    it.top).0 ∙ sym (ap (option_and_then level_up) is)

-- R is given, above the newest release
made_above : (records : List Record) (got : Sid) (release newest : ℕ) (branch there : Bool) → trunk_release records None
    ≡ Some newest → newest < release → newest_sid records ≡ Some got
    → made_on records [] got (Some (Release release)) branch ≡ made_in (for_release records release branch true false
    false there)
made_above records got release newest true there top low is = new_branch records got
    ∙ sym (ap (option_and_then (branch_up records)) is)
made_above records got release newest false there top low is =
    let it = newest_found records got is in
    let same : it.release ≡ newest = cc (sym it.newest ∙ top) in
    subst (λ g. made_on records [] g (Some (Release release)) false ≡ Some (trunk_sid release 1)) it.same
    (in_later_release records it.release it.level release it.newest it.top (omega (arith, same, low)))
    ∙ sym (ap (option_and_then (λ got. Some (trunk_sid release 1))) is)

-- R is the newest release
made_newest : (records : List Record) (got : Sid) (release : ℕ) (branch there : Bool) → trunk_release records None
    ≡ Some release → newest_sid records ≡ Some got
    → made_on records [] got (Some (Release release)) branch ≡ made_in (for_release records release branch false true
    false there)
made_newest records got release true there top is = new_branch records got
    ∙ sym (ap (option_and_then (branch_up records)) is)
made_newest records got release false there top is =
    let it = newest_found records got is in
    let same : it.release ≡ release = cc (sym it.newest ∙ top) in
    subst (λ n. made_on records [] got (Some (Release n)) false ≡ level_up got) same
    (subst (λ g. made_on records [] g (Some (Release it.release)) false ≡ level_up g) it.same
    (on_newest records it.release it.level it.newest it.top).1)
    ∙ sym (ap (option_and_then level_up) is)

-- R is below the newest release
on_lower : (records : List Record) (got : Sid) (release newest : ℕ) (spec : Option Spec) (branch : Bool)
    → trunk_release records None ≡ Some newest → release < newest → last_level records release ≡ Some got
    → made_on records [] got spec branch ≡ branch_up records got
on_lower records got release newest spec branch top low is =
    let it = found (λ level. trunk_sid release level) (trunk_level records release) got is in
    subst (λ g. made_on records [] g spec branch ≡ on_new_branch records [] g) it.same
    (on_earlier records release it.number newest spec branch top low)
    ∙ new_branch records got

on_below : (records : List Record) (got : Sid) (release newest : ℕ) (spec : Option Spec) (branch : Bool) (o : Option ℕ)
    → release_below records release ≡ o → trunk_release records None ≡ Some newest → release < newest
    → option_and_then (last_level records) o ≡ Some got → made_on records [] got spec branch ≡ branch_up records got
on_below records got release newest spec branch None found top low is = cc
on_below records got release newest spec branch (Some below) found top low is =
    let less = is_below records release below found in on_lower records got below newest spec branch top
    (omega (arith, less, low)) is

made_below : (records : List Record) (got : Sid) (release newest : ℕ) (branch there : Bool) → trunk_release records None
    ≡ Some newest → release < newest → below_sid records release there ≡ Some got
    → made_on records [] got (Some (Release release)) branch ≡ made_in (for_release records release branch false false
    true there)
made_below records got release newest true true top low is = on_lower records got release newest
    (Some (Release release)) true top low is ∙ sym (ap (option_and_then (branch_up records)) is)
made_below records got release newest false true top low is = on_lower records got release newest
    (Some (Release release)) false top low is ∙ sym (ap (option_and_then (branch_up records)) is)
made_below records got release newest true false top low is =
    on_below records got release newest (Some (Release release)) true (release_below records release) refl top low is
    ∙ sym (ap (option_and_then (branch_up records)) is)
made_below records got release newest false false top low is =
    on_below records got release newest (Some (Release release)) false (release_below records release) refl top low is
    ∙ sym (ap (option_and_then (branch_up records)) is)

made_by_newest : (records : List Record) (got : Sid) (release : ℕ) (branch : Bool) (o : Option ℕ)
    → trunk_release records None ≡ o
    → got_in (for_release records release branch (passes o (λ newest. nat_lt newest release))
    (passes o (λ newest. newest == release)) (passes o (λ newest. nat_lt release newest))
    (is_trunk_release records release)) ≡ Some got
    → made_on records [] got (Some (Release release)) branch
    ≡ made_in (for_release records release branch (passes o (λ newest. nat_lt newest release))
    (passes o (λ newest. newest == release)) (passes o (λ newest. nat_lt release newest))
    (is_trunk_release records release))
made_by_newest records got release branch None top is =
    let none : got_in (for_release records release branch false false false (is_trunk_release records release)) ≡ None =
    got_nowhere records release branch (is_trunk_release records release) in cc
made_by_newest records got release branch (Some newest) top is =
    elim (cases_eq newest release) [
      | inl same ↦
          let rows_are = by_tests (le-ltb newest release (omega (arith, same))) (eq-eqb newest release same)
          (le-ltb release newest (omega (arith, same))) in
          made_newest records got release branch (is_trunk_release records release) (top ∙ ap Some same)
          (sym (got_newest records release branch (is_trunk_release records release)) ∙ (ap got_in rows_are ∙ is))
          ∙ ap made_in rows_are
      | inr other ↦ elim (cases_lt newest release) [
        | inl low ↦
            let rows_are = by_tests (lt-ltb newest release low) (ne_eqb newest release other)
            (le-ltb release newest (omega (arith, low))) in
            made_above records got release newest branch (is_trunk_release records release) top low
            (sym (got_above records release branch (is_trunk_release records release)) ∙ (ap got_in rows_are ∙ is))
            ∙ ap made_in rows_are
        | inr high ↦
            let rows_are = by_tests (le-ltb newest release high) (ne_eqb newest release other)
            (lt-ltb release newest (omega (arith, high, other))) in
            made_below records got release newest branch (is_trunk_release records release) top
            (omega (arith, high, other)) (sym (got_below records release branch (is_trunk_release records release))
            ∙ (ap got_in rows_are ∙ is)) ∙ ap made_in rows_are
      ]
    ]
  where
    by_tests : {a n b : Bool} → nat_lt newest release ≡ a → (newest == release) ≡ n → nat_lt release newest ≡ b
        → for_release records release branch a n b (is_trunk_release records release) ≡ for_release records release
        branch (nat_lt newest release) (newest == release) (nat_lt release newest)
        (is_trunk_release records release)
    by_tests {a} {n} {b} above same below =
        ap (λ x. for_release records release branch x n b (is_trunk_release records release)) (sym above)
        ∙ (ap (λ x. for_release records release branch (nat_lt newest release) x b (is_trunk_release records release))
        (sym same)
        ∙ ap (λ x. for_release records release branch (nat_lt newest release) (newest == release) x
        (is_trunk_release records release)) (sym below))

-- R.L.B is given
made_branch : (records : List Record) (got : Sid) (release level number : ℕ) (branch : Bool) → 0 < number
    → last_sequence records release level number ≡ Some got
    → made_on records [] got (Some (Branch release level number)) branch ≡ made_in
    (for_branch records release level number branch)
made_branch records got release level number true some is = new_branch records got
    ∙ sym (ap (option_and_then (branch_up records)) is)
made_branch records got release level number false some is =
    let it = found (λ sequence. branch_sid release level number sequence) (branch_sequence records release level number)
    got is in
    let side : number ≢ 0 = λ e. omega (arith, some, e) in
    subst (λ g. made_on records [] g (Some (Branch release level number)) false ≡ sequence_up g) it.same
    (on_branch records release level number it.number side it.is
    ∙ ap (λ t. cond t (level_up (branch_sid release level number it.number))
    (sequence_up (branch_sid release level number it.number))) (ne_eqb number 0 side))
    ∙ sym (ap (option_and_then sequence_up) is)

made_on_row : (records : List Record) (got : Sid) (spec : Option Spec) (branch : Bool) → IfSome spec IsSpec
    → got_in (fitting_rows branch (rows records spec)) ≡ Some got
    → made_on records [] got spec branch ≡ made_in (fitting_rows branch (rows records spec))
made_on_row records got None branch fits is = made_alone records got branch (sym (got_alone records branch) ∙ is)
made_on_row records got (Some (Release release)) branch fits is = made_by_newest records got release branch
    (trunk_release records None) refl is
made_on_row records got (Some (Branch release level number)) branch fits is =
    made_branch records got release level number branch fits.2.0 (sym (got_branch records release level number branch)
    ∙ is)
made_on_row records got (Some (Full sid)) branch fits is =
    let same : sid ≡ got = by (sid.branch == 0) is in
    subst (λ s. made_on records [] s (Some (Full sid)) branch ≡ made_in
    (fitting_rows branch (rows records (Some (Full sid))))) same (made_full records sid branch
    (sid.branch == 0) refl)
  where
    by : (t : Bool) → got_in (fitting_rows branch (cond t (rows_of_level records sid (has_successor records sid))
        (rows_of_sequence records sid (has_successor records sid)))) ≡ Some got → sid ≡ got
    by true some = cc (sym (got_level records sid branch (has_successor records sid)) ∙ some)
    by false some = cc (sym (got_sequence records sid branch (has_successor records sid)) ∙ some)

-- ---- the serial got has the SID

serial_low : (records : List Record) (bound : ℕ) (got : Sid) (n : ℕ) → Falls bound (serials_of records)
    → serial_of records got ≡ Some n → n < bound
serial_low [] bound got n falls is = cc
serial_low (r ∷ rs) bound got n falls is = by (not r.removed && same_sid r.sid got) is
    (serial_low rs r.serial got n falls.1)
  where
    by : (t : Bool) → option_map (λ (q : Record). q.serial)
        (cond t (Some r) (find (λ q. not q.removed && same_sid q.sid got) rs)) ≡ Some n → (serial_of rs got ≡ Some n
        → n < r.serial) → n < bound
    by true is rest = let same : r.serial ≡ n = cc in omega (arith, same, falls.0)
    by false is rest = let low = rest is in omega (arith, low, falls.0)

sid_of_serial : (records : List Record) (bound : ℕ) (got : Sid) (n : ℕ) → Falls bound (serials_of records)
    → serial_of records got ≡ Some n → sid_at records n ≡ Some got
sid_of_serial [] bound got n falls is = cc
sid_of_serial (r ∷ rs) bound got n falls is = by (not r.removed && same_sid r.sid got) refl is
    (sid_of_serial rs r.serial got n falls.1) (serial_low rs r.serial got n falls.1)
  where
    at_serial : {t : Bool} → (r.serial == n) ≡ t → option_map (λ (q : Record). q.sid)
        (cond t (Some r) (find (λ (q : Record). q.serial == n) rs)) ≡ sid_at (r ∷ rs) n
    at_serial is = ap (λ t. option_map (λ (q : Record). q.sid)
        (cond t (Some r) (find (λ (q : Record). q.serial == n) rs))) (sym is)

    by : (t : Bool) → (not r.removed && same_sid r.sid got) ≡ t → option_map (λ (q : Record). q.serial)
        (cond t (Some r) (find (λ q. not q.removed && same_sid q.sid got) rs)) ≡ Some n
        → (serial_of rs got ≡ Some n → sid_at rs n ≡ Some got) → (serial_of rs got ≡ Some n → n < r.serial)
        → sid_at (r ∷ rs) n ≡ Some got
    by true on is rest low =
        let same : r.serial ≡ n = cc in
        sym (at_serial (eq-eqb r.serial n same))
        ∙ ap Some (same_is r.sid got (and_parts (not r.removed) (same_sid r.sid got) on).1)
    by false on is rest low = let less = low is in sym (at_serial (ne_eqb r.serial n (λ e. omega (arith, less, e))))
        ∙ rest is

-- what was got
record Got (records : List Record) (o : Option Sid) (n : ℕ) : Type 0 where
  got : Sid
  is : o ≡ Some got
  serial : serial_of records got ≡ Some n

got_of : (records : List Record) (o : Option Sid) (n : ℕ) → option_and_then (serial_of records) o ≡ Some n
    → Got records o n
got_of records None n is = cc
got_of records (Some got) n is = record { got = got; is = refl; serial = is }

-- the SID to be made is that of the row that fits
pub made_by_row : (header : Header) (spec : Option Spec) (branch : Bool) (n : ℕ)
    → Falls 65536 (serials_of header.records) → IfSome spec IsSpec → retrieved header.records spec false ≡ Some n
    → to_be_made header [] n spec branch ≡ made_in (fitting_rows (branch && has_flag header.flags flag_b)
    (rows header.records spec))
made_by_row header spec branch n falls fits is =
    let asked : Bool = branch && has_flag header.flags flag_b in
    let it = got_of header.records (got_in (fitting_rows asked (rows header.records spec))) n
    (sym (got_by_row header.records spec asked) ∙ is) in
    ap (option_and_then (λ on. made_on header.records [] on spec asked))
    (sid_of_serial header.records 65536 it.got n falls it.serial) ∙ made_on_row header.records it.got spec asked
    fits it.is
