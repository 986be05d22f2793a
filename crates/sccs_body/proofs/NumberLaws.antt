-- The numbers of lines, by the places at which they begin.
use Rattle.std.proofs.Common.{◌≡◌, ℕ, ◌+◌, ◌-◌, ◌≤◌, List, ◌++◌, length, take, drop, sym, ap, ◌∙◌, arith, length-append}
use Rattle.std.specs.Prelude.{if◌then◌else◌, ◌==◌}
use Rattle.std.proofs.lemmas.List.{drop-drop}
use Rattle.std.proofs.lemmas.List.Sums.{sum_by-take-drop}
use Rattle.sccs_base.specs.Cut.{cut}
use Rattle.sccs_table.specs.ReaderState.{left}
use Rattle.sccs_table.specs.Runs.{lf_count}
use Rattle.sccs_table.proofs.RunLaws.{lines_are}
use Rattle.sccs_body.specs.Reader.{BodyPlace, KeepsBody, number_of_line, next_line_number}

-- the lines between two places, and those behind the second
lines_left : (file : List ℕ) (from place : ℕ) → from ≤ place → lf_count (take (place - from) (drop from file)) + length
    (cut (drop place file)).lines ≡ lf_count (drop from file)
lines_left file from place low =
    let behind : drop (place - from) (drop from file) ≡ drop place file = drop-drop (place - from) from file
    ∙ ap (λ n. drop n file) (omega arith) in
    ap (λ n. lf_count (take (place - from) (drop from file)) + n)
    (sym (ap lf_count behind ∙ lines_are (drop place file))) ∙ sum_by-take-drop (λ b. if b == 10 then 1 else 0)
    (drop from file) (place - from)

-- behind so many lines the number is greater by so many
pub number_on : (file : List ℕ) (old new : BodyPlace) (lines : List (List ℕ)) → KeepsBody old new
    → old.from ≤ old.lines.place → old.lines.place ≤ new.lines.place → (left old.lines file).lines ≡ lines
    ++ (left new.lines file).lines
    → next_line_number new file ≡ next_line_number old file + length lines
number_on file old new lines kept low onward is =
    let here = lines_left file old.from old.lines.place low in
    let there = lines_left file old.from new.lines.place (omega (arith, low, onward)) in
    let long : length (left old.lines file).lines ≡ length lines + length (left new.lines file).lines = ap length is
    ∙ length-append lines (left new.lines file).lines in
    let same : next_line_number new file ≡ number_of_line old.first old.from file new.lines.place =
    ap (λ n. number_of_line n new.from file new.lines.place) kept.first
    ∙ ap (λ n. number_of_line old.first n file new.lines.place) kept.from in
    omega (arith, same, here, there, long)

pub number_kept : (file : List ℕ) (old new : BodyPlace) → KeepsBody old new → new.lines.place ≡ old.lines.place
    → next_line_number new file ≡ next_line_number old file
number_kept file old new kept place =
    ap (λ n. number_of_line n new.from file new.lines.place) kept.first
    ∙ (ap (λ n. number_of_line old.first n file new.lines.place) kept.from
    ∙ ap (number_of_line old.first old.from file) place)

-- before its body a file has no line that counts
pub number_low : (file : List ℕ) (r : BodyPlace) → r.lines.place ≤ r.from → next_line_number r file ≡ r.first
number_low file r low =
    let none : r.lines.place - r.from ≡ 0 = omega arith in
    ap (λ n. r.first + lf_count (take n (drop r.from file))) none ∙ omega arith
