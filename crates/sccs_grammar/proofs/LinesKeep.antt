-- What each line keeps, the header that the lines complete has.
use Rattle.std.proofs.Common.{◌≡◌, ℕ, suc, ◌⊎◌, inl, inr, true, false, List, [], ◌∷◌, Result, Ok, Err}
use Rattle.std.specs.Prelude.{if◌then◌else◌}
use Rattle.std.specs.List.{AllByRecursion}
use Rattle.std.specs.Result.{IfOk}
use Rattle.std.proofs.lemmas.Bool.{cases_Bool}
use Rattle.sccs_sid.specs.Reading.{◌>>=◌}
use Rattle.sccs_history.specs.declared.headers.Header.{Header}
use Rattle.sccs_grammar.specs.Front.{ParsedFront, header_of, line_after, is_whole, front_from}
use Rattle.sccs_grammar.specs.declared.header_parsers.HeaderParser.{HeaderParser}

-- lines with L keep K of what is read, and a header of what has K has H
pub record Kept (L : List ℕ → Type 0) (K : HeaderParser → Type 0) (H : Header → Type 0) : Type 0 where
  pub line : (n : ℕ) (r : HeaderParser) (line : List ℕ) → L line → K r → IfOk (line_after n r line) K
  pub whole : (s : HeaderParser) → is_whole s.state ≡ true → K s → H (header_of s)

-- a header that was read has H
abbrev Gives : (Header → Type 0) → Result ParsedFront ℕ → Type 0
Gives H read = IfOk read (λ p. H p.header)

-- the header that is whole with a line, or what the lines behind it make
abbrev on_with : ℕ → List (List ℕ) → HeaderParser → Result ParsedFront ℕ
on_with n lines s =
    if is_whole s.state then Ok (record { header = header_of s; line = suc n; rest = lines })
    else front_from (suc n) s lines

on_so : (L : List ℕ → Type 0) (K : HeaderParser → Type 0) (H : Header → Type 0) → Kept L K H
    → (n : ℕ) (lines : List (List ℕ)) (s : HeaderParser) → K s → (is_whole s.state ≡ true) ⊎ (is_whole s.state ≡ false)
    → Gives H (front_from (suc n) s lines) → Gives H (on_with n lines s)
on_so L K H kept n lines s has (inl is) more = rw is (kept.whole s is has)
on_so L K H kept n lines s has (inr other) more = rw other more

line_on : (L : List ℕ → Type 0) (K : HeaderParser → Type 0) (H : Header → Type 0) → Kept L K H
    → (n : ℕ) (lines : List (List ℕ)) (read : Result HeaderParser ℕ) → IfOk read K → ((s : HeaderParser) → K s
    → Gives H (front_from (suc n) s lines)) → Gives H (read >>= on_with n lines)
line_on L K H kept n lines (Ok s) has more = on_so L K H kept n lines s has (cases_Bool (is_whole s.state)) (more s has)
line_on L K H kept n lines (Err k) has more = tt

pub lines_keep : (L : List ℕ → Type 0) (K : HeaderParser → Type 0) (H : Header → Type 0) → Kept L K H
    → (n : ℕ) (r : HeaderParser) (lines : List (List ℕ)) → AllByRecursion L lines → K r → IfOk (front_from n r lines)
    (λ p. H p.header)
unfolding front_from
lines_keep L K H kept n r [] are has = tt
lines_keep L K H kept n r (line ∷ lines) are has =
    line_on L K H kept n lines (line_after n r line) (kept.line n r line are.0 has) (λ s now. lines_keep L K H kept
    (suc n) s lines are.1 now)
