-- The lines of runs, and those that the cells of a piece make of a head's.
use Rattle.std.proofs.Common.{◌≡◌, ℕ, zero, suc, ◌+◌, ◌-◌, ◌≤◌, ◌<◌, List, [], ◌∷◌, ◌++◌, length, drop, map, max, min}
use Rattle.std.proofs.Common.{replicate, take, take_all, Option, None, Some, Result, Ok, Err, refl, sym, subst, ap, ◌∙◌}
use Rattle.std.proofs.Common.{arith, append-nil, append_assoc}
use Rattle.std.proofs.lemmas.Bool.{false≢true}
use Rattle.sccs_history.specs.Body.{HistoryLine}
use Rattle.sccs_trunks.specs.Changes.{Change}
use Rattle.sccs_trunks.specs.TrunkHistories.{behind_head, first_with_soh, head_text, trunk_scripts}
use Rattle.sccs_trunks.specs.Trunks.{head_line, settled, trunk_lines}
use Rattle.sccs_trunks.specs.declared.revisions.Revision.{Revision}
use Rattle.sccs_trunks.specs.Cells.{Cell, Base, begun_by, laid, line_by, new_cells}
use Rattle.sccs_trunks.specs.Runs.{head_laid, lines_of, run_lines}
use Rattle.sccs_trunks.specs.Scripts.{laid_scripts, texts_of}
use Rattle.sccs_trunks.specs.declared.runs.LineRun.{LineRun}
use Rattle.sccs_trunks.proofs.TrunkCells.{trunk_by_cells}

lines_both : (a b : List LineRun) → run_lines (a ++ b) ≡ run_lines a ++ run_lines b
lines_both [] b = refl
lines_both (r ∷ a) b = ap (λ l. lines_of r ++ l) (lines_both a b)
    ∙ sym (append_assoc (lines_of r) (run_lines a) (run_lines b))

pub lines_push : (a : List LineRun) (r : LineRun) → run_lines (a ++ r ∷ []) ≡ run_lines a ++ lines_of r
lines_push a r = lines_both a (r ∷ []) ∙ ap (λ l. run_lines a ++ l) (append-nil (lines_of r))

pub lines_none : (lines : List HistoryLine) (f : List ℕ → HistoryLine) (texts : List (List ℕ)) → length texts ≡ 0
    → lines ≡ lines ++ map f texts
lines_none lines f [] none = sym (append-nil lines)
lines_none lines f (text ∷ texts) none = absurd (omega (arith, none))

-- ---- what a piece makes of a head

settled_line : (i d : ℕ) (text : List ℕ) → settled (line_by i d text) ≡ line_by (max i 1) d text
settled_line zero d text = ap (λ n. line_by n d text) same
  where
    same : 1 ≡ max 0 1
    same = omega arith
settled_line (suc i) d text = ap (λ n. line_by n d text) same
  where
    same : suc i ≡ max (suc i) 1
    same = omega arith

begun_head : (i : ℕ) (text : List ℕ) → settled (begun_by i (head_line text)) ≡ line_by (max i 1) 0 text
begun_head zero text = settled_line 0 0 text
begun_head (suc i) text = settled_line (suc i) 0 text

-- lines that are added
pub new_laid : (d i : ℕ) (lines : List (List ℕ)) (cells : List Cell) (head : List (List ℕ))
    → head_laid (new_cells d i lines ++ cells) head ≡ map (line_by (max i 1) d) lines ++ head_laid cells head
new_laid d i [] cells head = refl
new_laid d i (line ∷ lines) cells head =
    ap (λ l. l ∷ head_laid (new_cells d i lines ++ cells) head) (settled_line i d line)
    ∙ ap (λ l. line_by (max i 1) d line ∷ l) (new_laid d i lines cells head)

-- lines that are passed
pub base_laid : (i count : ℕ) (cells : List Cell) (head : List (List ℕ)) → count ≤ length head
    → head_laid (replicate count (Base i) ++ cells) head ≡ map (line_by (max i 1) 0) (take count head)
    ++ head_laid cells (drop count head)
base_laid i zero cells head le = refl
base_laid i (suc count) cells [] le = absurd (omega arith)
base_laid i (suc count) cells (text ∷ head) le =
    ap (λ l. l ∷ head_laid (replicate count (Base i) ++ cells) head) (begun_head i text)
    ∙ ap (λ l. line_by (max i 1) 0 text ∷ l) (base_laid i count cells head (omega arith))

-- lines that run out
pub short_laid : (i count : ℕ) (cells : List Cell) (head : List (List ℕ)) → length head < count
    → head_laid (replicate count (Base i) ++ cells) head ≡ map (line_by (max i 1) 0) head
short_laid i zero cells head lt = absurd (omega arith)
short_laid i (suc count) cells [] lt = refl
short_laid i (suc count) cells (text ∷ head) lt =
    ap (λ l. l ∷ head_laid (replicate count (Base i) ++ cells) head) (begun_head i text)
    ∙ ap (λ l. line_by (max i 1) 0 text ∷ l) (short_laid i count cells head (omega arith))

-- what is left of a head
pub rest_laid : (head : List (List ℕ)) → head_laid [] head ≡ map (line_by (max 0 1) 0) head
rest_laid [] = refl
rest_laid (text ∷ head) = ap (λ l. l ∷ head_laid [] head) (settled_line 0 0 text)
    ∙ ap (λ l. line_by (max 0 1) 0 text ∷ l) (rest_laid head)

-- ---- the whole

pub trunk_by_runs : (r : Revision) (revisions : List Revision) (lines : List HistoryLine) (cells : List Cell)
    (scripts : List (List Change))
    → ((ls : List HistoryLine) → laid cells ls ≡ laid_scripts 0 (texts_of revisions) ls)
    → lines ≡ head_laid cells r.text
    → trunk_scripts (r ∷ revisions) ≡ Ok scripts → lines ≡ trunk_lines r.text scripts
trunk_by_runs r revisions lines cells scripts says is e = by_first (first_with_soh 1 r.text) e
  where
    is_read : Result (List (List Change)) (ℕ × ℕ) → Rattle.std.proofs.Common.Bool
    is_read (Ok scripts) = Rattle.std.proofs.Common.true
    is_read (Err fault) = Rattle.std.proofs.Common.false

    by_first : (o : Option ℕ) → behind_head o r.text revisions ≡ Ok scripts → lines ≡ trunk_lines r.text scripts
    by_first None e2 =
        is ∙ (ap (λ ls. map settled ls) (says (map head_line r.text))
        ∙ sym (trunk_by_cells 2 r.text revisions scripts e2))
    by_first (Some line) e2 = absurd (false≢true (ap is_read e2))

-- ---- a piece's turn

pub put_new : (d i : ℕ) (lines : List (List ℕ)) (piece_cells : List Cell) (old new : List HistoryLine)
    (head : List (List ℕ)) → piece_cells ≡ new_cells d i lines
    → new ≡ old ++ map (line_by (max i 1) d) lines
    → (cells : List Cell) → new ++ head_laid cells head ≡ old ++ head_laid (piece_cells ++ cells) head
put_new d i lines piece_cells old new head is new_is cells =
    ap (λ l. l ++ head_laid cells head) new_is
    ∙ (append_assoc old (map (line_by (max i 1) d) lines) (head_laid cells head)
    ∙ ap (λ l. old ++ l) (sym (new_laid d i lines cells head) ∙ ap (λ l. head_laid (l ++ cells) head) (sym is)))

pub put_base : (i count taken : ℕ) (piece_cells : List Cell) (old new : List HistoryLine) (head lines behind : List
    (List ℕ)) → piece_cells ≡ replicate count (Base i)
    → count ≤ length lines → taken ≡ min (length head) count → lines ≡ take taken head → behind ≡ drop taken head
    → length lines ≡ taken
    → new ≡ old ++ map (line_by (max i 1) 0) lines
    → (cells : List Cell) → new ++ head_laid cells behind ≡ old ++ head_laid (piece_cells ++ cells) head
put_base i count taken piece_cells old new head lines behind is le taken_is lines_are behind_is same new_is cells =
    ap (λ l. l ++ head_laid cells behind) (new_is ∙ ap (λ l. old ++ map (line_by (max i 1) 0) l) (lines_are
    ∙ ap (λ k. take k head) all))
    ∙ (append_assoc old (map (line_by (max i 1) 0) (take count head)) (head_laid cells behind)
    ∙ ap (λ l. old ++ l)
    (ap (λ l. map (line_by (max i 1) 0) (take count head) ++ head_laid cells l) (behind_is ∙ ap (λ k. drop k head) all)
    ∙ (sym (base_laid i count cells head (omega (arith, same, taken_is))) ∙ ap (λ l. head_laid (l ++ cells) head)
    (sym is))))
  where
    all : taken ≡ count
    all = omega (arith, same, taken_is)

pub put_short : (i count taken : ℕ) (piece_cells : List Cell) (old new : List HistoryLine) (head lines : List (List ℕ))
    → piece_cells ≡ replicate count (Base i)
    → length lines < count → taken ≡ min (length head) count → lines ≡ take taken head → length lines ≡ taken
    → new ≡ old ++ map (line_by (max i 1) 0) lines
    → (cells : List Cell) → new ++ [] ≡ old ++ head_laid (piece_cells ++ cells) head
put_short i count taken piece_cells old new head lines is lt taken_is lines_are same new_is cells =
    append-nil new
    ∙ (new_is
    ∙ ap (λ l. old ++ l)
    (ap (λ l. map (line_by (max i 1) 0) l) (lines_are ∙ (ap (λ k. take k head) all ∙ take_all (length head) head
    (omega arith)))
    ∙ (sym (short_laid i count cells head (omega (arith, same, taken_is))) ∙ ap (λ l. head_laid (l ++ cells) head)
    (sym is))))
  where
    all : taken ≡ length head
    all = omega (arith, same, taken_is)

pub all_by_runs : (whole revisions : List Revision) (r : Revision) (lines : List HistoryLine) (cells : List Cell)
    → whole ≡ r ∷ revisions
    → ((ls : List HistoryLine) → laid cells ls ≡ laid_scripts 0 (texts_of revisions) ls)
    → lines ≡ head_laid cells r.text
    → (scripts : List (List Change)) → trunk_scripts whole ≡ Ok scripts → lines ≡ trunk_lines (head_text whole) scripts
all_by_runs whole revisions r lines cells is says lines_are scripts =
    subst (λ w. trunk_scripts w ≡ Ok scripts → lines ≡ trunk_lines (head_text w) scripts) (sym is)
    (trunk_by_runs r revisions lines cells scripts says lines_are)
