-- The cells of pieces in a row.
use Rattle.std.proofs.Common.{◌≡◌, ℕ, zero, suc, ◌+◌, ◌-◌, ◌≤◌, List, [], ◌∷◌, ◌++◌, length, drop, map, min, replicate}
use Rattle.std.proofs.Common.{take, Some, refl, sym, subst, ap, ◌∙◌, arith, append-nil, append_assoc}
use Rattle.std.proofs.lemmas.List.{map-append, take-append-drop}
use Rattle.sccs_trunks.specs.Cells.{Cell, Base, New, cell_begun, cells_of, count_of, expand, new_cells}
use Rattle.sccs_trunks.specs.Scripts.{cells_from, command_cells}
use Rattle.sccs_trunks.specs.declared.revisions.ScriptCommand.{ScriptCommand}
use Rattle.sccs_trunks.specs.declared.revisions.ScriptCommand.TheVariants.{Add}
use Rattle.sccs_trunks.specs.declared.pieces.Piece.{Piece}
use Rattle.sccs_trunks.specs.declared.pieces.Piece.TheVariants as pieces

pub cells_both : (a b : List Piece) → cells_of (a ++ b) ≡ cells_of a ++ cells_of b
cells_both [] b = refl
cells_both (p ∷ a) b = ap (λ l. expand p ++ l) (cells_both a b)
    ∙ sym (append_assoc (expand p) (cells_of a) (cells_of b))

pub cells_push : (a : List Piece) (p : Piece) → cells_of (a ++ p ∷ []) ≡ cells_of a ++ expand p
cells_push a p = cells_both a (p ∷ []) ∙ ap (λ l. cells_of a ++ l) (append-nil (expand p))

-- a piece without lines
pub cells_none : (p : Piece) (cells : List Cell) → count_of p ≡ 0 → cells ≡ cells ++ expand p
cells_none (pieces.Base i count) cells none = sym (append-nil cells) ∙ ap (λ n. cells ++ replicate n (Base i))
    (sym none)
cells_none (pieces.New d i lines) cells none = by_lines lines.now none
  where
    by_lines : (ls : List (List ℕ)) → length ls ≡ 0 → cells ≡ cells ++ new_cells d i ls
    by_lines [] e = sym (append-nil cells)
    by_lines (l ∷ ls) e = absurd (omega (arith, e))

-- ---- pieces with another inserter, and parts of pieces

pub begun_base : (i j count : ℕ) → replicate count (Base i) ≡ map (cell_begun i) (replicate count (Base j))
begun_base i j zero = refl
begun_base i j (suc count) = ap (λ l. Base i ∷ l) (begun_base i j count)

pub begun_new : (i d j : ℕ) (lines : List (List ℕ)) → new_cells d i lines ≡ map (cell_begun i) (new_cells d j lines)
begun_new i d j [] = refl
begun_new i d j (line ∷ lines) = ap (λ l. New d i line ∷ l) (begun_new i d j lines)

pub base_sum : (i a b : ℕ) → replicate (a + b) (Base i) ≡ replicate a (Base i) ++ replicate b (Base i)
base_sum i zero b = ap (λ n. replicate n (Base i)) same
  where
    same : 0 + b ≡ b
    same = omega arith
base_sum i (suc a) b = ap (λ n. replicate n (Base i)) same ∙ ap (λ l. Base i ∷ l) (base_sum i a b)
  where
    same : suc a + b ≡ suc (a + b)
    same = omega arith

pub base_split : (i whole count : ℕ) → count ≤ whole → replicate whole (Base i) ≡ replicate count (Base i) ++ replicate
    (whole - count) (Base i)
base_split i whole count le = ap (λ n. replicate n (Base i)) same ∙ base_sum i count (whole - count)
  where
    same : whole ≡ count + (whole - count)
    same = omega arith

pub new_split : (d i count : ℕ) (lines : List (List ℕ)) → new_cells d i lines ≡ new_cells d i (take count lines)
    ++ new_cells d i (drop count lines)
new_split d i count lines =
    ap (λ l. new_cells d i l) (sym (take-append-drop count lines)) ∙ map-append (λ text. New d i text)
    (take count lines) (drop count lines)

-- the lines that a command adds, and what comes behind them
pub taken_cells : (n last count : ℕ) (rest : List (List ℕ))
    → cells_from n last count rest ≡ new_cells n 0 (take (min (length rest) count) rest) ++ cells_from n last 0
    (drop (min (length rest) count) rest)
taken_cells n last zero rest = by_number (min (length rest) 0) (omega arith)
  where
    by_number : (k : ℕ) → k ≡ 0 → cells_from n last 0 rest ≡ new_cells n 0 (take k rest) ++ cells_from n last 0
        (drop k rest)
    by_number k e = subst (λ j. cells_from n last 0 rest ≡ new_cells n 0 (take j rest) ++ cells_from n last 0
        (drop j rest)) (sym e) refl
taken_cells n last (suc count) [] = by_number (min 0 (suc count)) (omega arith)
  where
    by_number : (k : ℕ) → k ≡ 0 → [] ≡ new_cells n 0 (take k []) ++ cells_from n last 0 (drop k [])
    by_number k e = subst (λ j. [] ≡ new_cells n 0 (take j []) ++ cells_from n last 0 (drop j [])) (sym e) refl
taken_cells n last (suc count) (line ∷ rest) =
    ap (λ l. New n 0 line ∷ l) (taken_cells n last count rest) ∙ by_number (min (length rest) count)
    (min (suc (length rest)) (suc count)) (omega arith)
  where
    by_number : (k j : ℕ) → j ≡ suc k
        → New n 0 line ∷ new_cells n 0 (take k rest) ++ cells_from n last 0 (drop k rest)
        ≡ new_cells n 0 (take j (line ∷ rest)) ++ cells_from n last 0 (drop j (line ∷ rest))
    by_number k j e =
        subst (λ i. New n 0 line ∷ new_cells n 0 (take k rest) ++ cells_from n last 0 (drop k rest) ≡ new_cells n 0
        (take i (line ∷ rest)) ++ cells_from n last 0 (drop i (line ∷ rest))) (sym e) refl

-- ---- what is put of a command

pub add_put : (n line count last kept taken : ℕ) (command : ScriptCommand) (old mid new : List Cell)
    (rest front behind : List (List ℕ))
    → command ≡ Add line count → kept ≡ line - last
    → taken ≡ min (length rest) count → front ≡ take taken rest → behind ≡ drop taken rest
    → mid ≡ old ++ replicate kept (Base 0) → new ≡ mid ++ new_cells n 0 front
    → new ++ cells_from n line 0 behind ≡ old ++ command_cells n last (Some command)
    (λ last taken. cells_from n last taken rest)
add_put n line count last kept taken command old mid new rest front behind is kept_is taken_is front_is behind_is mid_is
    new_is =
    ap (λ l. l ++ cells_from n line 0 behind) (new_is ∙ ap (λ l. l ++ new_cells n 0 front) mid_is)
    ∙ (append_assoc (old ++ replicate kept (Base 0)) (new_cells n 0 front) (cells_from n line 0 behind)
    ∙ (append_assoc old (replicate kept (Base 0)) (new_cells n 0 front ++ cells_from n line 0 behind)
    ∙ (ap (λ k. old ++ (replicate k (Base 0) ++ (new_cells n 0 front ++ cells_from n line 0 behind))) kept_is
    ∙ (ap (λ f. old ++ (replicate (line - last) (Base 0) ++ (new_cells n 0 f ++ cells_from n line 0 behind))) (front_is
    ∙ ap (λ k. take k rest) taken_is)
    ∙ (ap (λ b. old ++ (replicate (line - last) (Base 0) ++ (new_cells n 0 (take (min (length rest) count) rest)
    ++ cells_from n line 0 b))) (behind_is ∙ ap (λ k. drop k rest) taken_is)
    ∙ (ap (λ l. old ++ (replicate (line - last) (Base 0) ++ l)) (sym (taken_cells n line count rest))
    ∙ sym (ap (λ k. old ++ command_cells n last (Some k) (λ last taken. cells_from n last taken rest)) is)))))))
