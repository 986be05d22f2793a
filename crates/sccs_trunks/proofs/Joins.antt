-- The cells of two scripts in a row.
use Rattle.std.proofs.Common.{◌≡◌, ℕ, zero, suc, ◌+◌, ◌-◌, ◌≤◌, ◌<◌, Bool, true, false, cond, List, [], ◌∷◌, ◌++◌}
use Rattle.std.proofs.Common.{length, map, min, replicate, refl, sym, subst, ap, ◌∙◌, ⊎_elim, arith, append_assoc}
use Rattle.std.proofs.lemmas.Bool.{cases_lt, false≢true}
use Rattle.std.proofs.lemmas.List.{length-map, length-replicate}
use Rattle.sccs_history.specs.Body.{HistoryLine}
use Rattle.sccs_trunks.specs.Trunks.{is_open, is_zero}
use Rattle.sccs_trunks.specs.Cells.{Cell, Base, New, begun_by, cell_begun, cell_open, count_of, expand, inserter_of}
use Rattle.sccs_trunks.specs.Cells.{joined, joined_at, laid, laid_at, line_by, new_cells}
use Rattle.sccs_trunks.specs.declared.pieces.Piece.{Piece}
use Rattle.sccs_trunks.specs.declared.pieces.Piece.TheVariants as pieces
use Rattle.sccs_trunks.proofs.PieceCells.{base_sum}

-- what comes behind the next open line may be said otherwise
pub laid_alike : (i : ℕ) (f g : List HistoryLine → List HistoryLine) (lines : List HistoryLine)
    → ((rest : List HistoryLine) → f rest ≡ g rest) → laid_at i f lines ≡ laid_at i g lines
laid_alike i f g [] alike = refl
laid_alike i f g (line ∷ lines) alike = by_test (is_open line) (laid_alike i f g lines alike)
  where
    by_test : (t : Bool) → laid_at i f lines ≡ laid_at i g lines → cond t (begun_by i line ∷ f lines)
        (line ∷ laid_at i f lines) ≡ cond t (begun_by i line ∷ g lines) (line ∷ laid_at i g lines)
    by_test true rest = ap (λ l. begun_by i line ∷ l) (alike lines)
    by_test false rest = ap (λ l. line ∷ l) rest

-- a line that was passed and stays open
at_open : (i : ℕ) (f g h : List HistoryLine → List HistoryLine) (lines : List HistoryLine) → ((rest : List HistoryLine)
    → f rest ≡ g (h rest))
    → laid_at i f lines ≡ laid_at i g (laid_at 0 h lines)
at_open i f g h [] alike = refl
at_open i f g h (line ∷ lines) alike = by_test (is_open line) refl (at_open i f g h lines alike)
  where
    by_test : (t : Bool) → is_open line ≡ t → laid_at i f lines ≡ laid_at i g (laid_at 0 h lines)
        → cond t (begun_by i line ∷ f lines) (line ∷ laid_at i f lines) ≡ laid_at i g
        (cond t (line ∷ h lines) (line ∷ laid_at 0 h lines))
    by_test true opened rest =
        ap (λ l. begun_by i line ∷ l) (alike lines)
        ∙ sym (ap (λ t. cond t (begun_by i line ∷ g (h lines)) (line ∷ laid_at i g (h lines))) opened)
    by_test false closed rest =
        ap (λ l. line ∷ l) rest ∙ sym (ap (λ t. cond t (begun_by i line ∷ g (laid_at 0 h lines))
        (line ∷ laid_at i g (laid_at 0 h lines))) closed)

-- one that got an inserter
at_closed : (i j : ℕ) (f g h : List HistoryLine → List HistoryLine) (lines : List HistoryLine)
    → ((rest : List HistoryLine) → f rest ≡ laid_at i g (h rest))
    → laid_at (suc j) f lines ≡ laid_at i g (laid_at (suc j) h lines)
at_closed i j f g h [] alike = refl
at_closed i j f g h (line ∷ lines) alike = by_test (is_open line) refl (at_closed i j f g h lines alike)
  where
    by_test : (t : Bool) → is_open line ≡ t → laid_at (suc j) f lines ≡ laid_at i g (laid_at (suc j) h lines)
        → cond t (begun_by (suc j) line ∷ f lines) (line ∷ laid_at (suc j) f lines) ≡ laid_at i g
        (cond t (begun_by (suc j) line ∷ h lines) (line ∷ laid_at (suc j) h lines))
    by_test true opened rest = ap (λ l. begun_by (suc j) line ∷ l) (alike lines)
    by_test false closed rest =
        ap (λ l. line ∷ l) rest ∙ sym (ap (λ t. cond t (begun_by i line ∷ g (laid_at (suc j) h lines))
        (line ∷ laid_at i g (laid_at (suc j) h lines))) closed)

new_begun : (d i : ℕ) (text : List ℕ) → begun_by i (line_by 0 d text) ≡ line_by i d text
new_begun d zero text = refl
new_begun d (suc i) text = refl

joins_at : (i : ℕ) (later cells : List Cell) (lines : List HistoryLine)
    → ((others : List Cell) (rest : List HistoryLine) → laid (joined later others) rest ≡ laid later (laid others rest))
    → laid (joined_at i (joined later) cells) lines ≡ laid_at i (laid later) (laid cells lines)
joins_at i later [] lines joins = laid_alike i (laid (joined later [])) (laid later) lines (joins [])
joins_at i later (Base zero ∷ cells) lines joins = at_open i (laid (joined later cells)) (laid later) (laid cells) lines
    (joins cells)
joins_at i later (Base (suc j) ∷ cells) lines joins =
    at_closed i j (laid (joined_at i (joined later) cells)) (laid later) (laid cells) lines
    (λ rest. joins_at i later cells rest joins)
joins_at i later (New d zero text ∷ cells) lines joins =
    ap (λ l. line_by i d text ∷ l) (joins cells lines)
    ∙ ap (λ line. line ∷ laid later (laid cells lines)) (sym (new_begun d i text))
joins_at i later (New d (suc j) text ∷ cells) lines joins =
    ap (λ l. line_by (suc j) d text ∷ l) (joins_at i later cells lines joins)

pub joins : (later cells : List Cell) (lines : List HistoryLine) → laid (joined later cells) lines ≡ laid later
    (laid cells lines)
joins [] cells lines = refl
joins (Base i ∷ later) cells lines = joins_at i later cells lines (λ others rest. joins later others rest)
joins (New d i text ∷ later) cells lines = ap (λ l. line_by i d text ∷ l) (joins later cells lines)

-- ---- runs of cells

-- cells of lines that the later script adds stand before those that they are made on
pub join_new : (d i : ℕ) (lines : List (List ℕ)) (later cells : List Cell) → joined (new_cells d i lines ++ later) cells
    ≡ new_cells d i lines ++ joined later cells
join_new d i [] later cells = refl
join_new d i (line ∷ lines) later cells = ap (λ l. New d i line ∷ l) (join_new d i lines later cells)

-- cells that pass lines, where none is left
pub join_none : (i count : ℕ) (later : List Cell) → joined (replicate count (Base i) ++ later) [] ≡ replicate count
    (Base i) ++ joined later []
join_none i zero later = refl
join_none i (suc count) later = ap (λ l. Base i ∷ l) (join_none i count later)

-- the cells of a piece have its inserter
abbrev pub Have : ℕ → List Cell → Type 0
Have i [] = Unit {0}
Have i (c ∷ cells) = (cell_open c ≡ is_zero i) × Have i cells

base_have : (i count : ℕ) → Have i (replicate count (Base i))
base_have i zero = tt
base_have i (suc count) = (refl, base_have i count)

new_have : (d i : ℕ) (lines : List (List ℕ)) → Have i (new_cells d i lines)
new_have d i [] = tt
new_have d i (line ∷ lines) = (refl, new_have d i lines)

pub piece_has : (p : Piece) → Have (inserter_of p) (expand p)
piece_has (pieces.Base i count) = base_have i count
piece_has (pieces.New d i lines) = new_have d i lines.now

-- cells that pass open ones give them their inserter
pub join_open : (i : ℕ) (opened later cells : List Cell) → Have 0 opened
    → joined (replicate (length opened) (Base i) ++ later) (opened ++ cells) ≡ map (cell_begun i) opened
    ++ joined later cells
join_open i [] later cells have = refl
join_open i (c ∷ opened) later cells have =
    ap (λ t. cond t (cell_begun i c ∷ joined (replicate (length opened) (Base i) ++ later) (opened ++ cells))
    (c ∷ joined_at i (joined (replicate (length opened) (Base i) ++ later)) (opened ++ cells))) have.0
    ∙ ap (λ l. cell_begun i c ∷ l) (join_open i opened later cells have.1)

-- those that are closed come first
pub join_closed : (j i : ℕ) (closed later cells : List Cell) → Have (suc j) closed
    → joined (Base i ∷ later) (closed ++ cells) ≡ closed ++ joined (Base i ∷ later) cells
join_closed j i [] later cells have = refl
join_closed j i (c ∷ closed) later cells have =
    ap (λ t. cond t (cell_begun i c ∷ joined later (closed ++ cells)) (c ∷ joined_at i (joined later)
    (closed ++ cells))) have.0
    ∙ ap (λ l. c ∷ l) (join_closed j i closed later cells have.1)

length_cells : (p : Piece) → length (expand p) ≡ count_of p
length_cells (pieces.Base i count) = length-replicate count (Base i)
length_cells (pieces.New d i lines) = length-map lines.now (λ text. New d i text)

-- ---- one piece on what is below it

-- an open piece below, as far as both go
pub joins_both : (below front : Piece) (i count both : ℕ) (rest put old first later first_new later_new new : List Cell)
    → inserter_of below ≡ 0 → inserter_of front ≡ inserter_of below → count_of front ≡ both → both ≤ count
    → expand below ≡ expand front ++ rest → put ≡ map (cell_begun i) (expand front) → first_new ≡ rest ++ first
    → later_new ≡ replicate (count - both) (Base i) ++ later → new ≡ old ++ put
    → new ++ joined later_new first_new ≡ old ++ joined (replicate count (Base i) ++ later) (expand below ++ first)
joins_both below front i count both rest put old first later first_new later_new new opened same both_is le below_is
    put_is first_is later_is new_is =
    ap (λ l. l ++ joined later_new first_new) (new_is ∙ ap (λ l. old ++ l) put_is)
    ∙ (append_assoc old (map (cell_begun i) (expand front)) (joined later_new first_new)
    ∙ ap (λ l. old ++ l)
    (ap (λ l. map (cell_begun i) (expand front) ++ joined l first_new) later_is
    ∙ (ap (λ l. map (cell_begun i) (expand front) ++ joined (replicate (count - both) (Base i) ++ later) l) first_is
    ∙ (sym (join_open i (expand front) (replicate (count - both) (Base i) ++ later) (rest ++ first)
    (subst (λ n. Have n (expand front)) (same ∙ opened) (piece_has front)))
    ∙ (ap (λ l. joined l (expand front ++ (rest ++ first))) whole
    ∙ ap (λ l. joined (replicate count (Base i) ++ later) l) (sym (append_assoc (expand front) rest first)
    ∙ ap (λ l. l ++ first) (sym below_is)))))))
  where
    counts : length (expand front) + (count - both) ≡ count
    counts = omega (arith, length_cells front)

    whole : replicate (length (expand front)) (Base i) ++ (replicate (count - both) (Base i) ++ later) ≡ replicate count
        (Base i) ++ later
    whole =
        sym (append_assoc (replicate (length (expand front)) (Base i)) (replicate (count - both) (Base i)) later)
        ∙ ap (λ l. l ++ later) (sym (base_sum i (length (expand front)) (count - both))
        ∙ ap (λ n. replicate n (Base i)) counts)

-- one of both is passed whole
pub fewer_both : (below count both rest others first later first_new later_new : ℕ) → both ≡ min below count
    → rest ≡ below - both → others ≡ count - both
    → (rest ≡ 0 → first_new ≡ first) → (others ≡ 0 → later_new ≡ later) → first_new ≤ suc first → later_new ≤ suc later
    → first_new + later_new ≤ suc (first + later)
fewer_both below count both rest others first later first_new later_new is rest_is others_is first_none later_none
    first_most later_most =
    ⊎_elim (λ lt. let same = first_none (omega (arith, is, rest_is)) in omega (arith, same)) (λ ge. let same =
    later_none (omega (arith, is, others_is)) in omega (arith, same)) (cases_lt below count)

-- a piece of lines that the later script adds
abbrev pub is_added : Piece → Bool
is_added (pieces.Base i count) = false
is_added (pieces.New d i lines) = true

pub joins_new : (p : Piece) (later cells old new : List Cell) → is_added p ≡ true → new ≡ old ++ expand p
    → new ++ joined later cells ≡ old ++ joined (expand p ++ later) cells
joins_new (pieces.Base i count) later cells old new added is = absurd (false≢true added)
joins_new (pieces.New d i lines) later cells old new added is =
    ap (λ l. l ++ joined later cells) is ∙ (append_assoc old (new_cells d i lines.now) (joined later cells)
    ∙ ap (λ l. old ++ l) (sym (join_new d i lines.now later cells)))

-- cells that pass lines, where nothing is left below them
pub joins_none : (i count : ℕ) (cells later first first_new old new : List Cell) → cells ≡ replicate count (Base i)
    → first ≡ [] → first_new ≡ [] → new ≡ old ++ cells
    → new ++ joined later first_new ≡ old ++ joined (cells ++ later) first
joins_none i count cells later first first_new old new cells_are none none_new is =
    ap (λ l. l ++ joined later first_new) (is ∙ ap (λ c. old ++ c) cells_are)
    ∙ (ap (λ f. (old ++ replicate count (Base i)) ++ joined later f) none_new
    ∙ (append_assoc old (replicate count (Base i)) (joined later [])
    ∙ (ap (λ l. old ++ l) (sym (join_none i count later))
    ∙ (ap (λ f. old ++ joined (replicate count (Base i) ++ later) f) (sym none)
    ∙ ap (λ c. old ++ joined (c ++ later) first) (sym cells_are)))))

-- cells that pass lines, where the piece below them is closed
pub joins_closed : (below : Piece) (i count : ℕ) (cells later later_new first first_new old new : List Cell)
    → cells ≡ replicate count (Base i)
    → 0 < count → 0 < inserter_of below → first ≡ expand below ++ first_new → later_new ≡ cells ++ later
    → new ≡ old ++ expand below
    → new ++ joined later_new first_new ≡ old ++ joined (cells ++ later) first
joins_closed below i count cells later later_new first first_new old new cells_are some closed first_is later_is is =
    ap (λ l. l ++ joined later_new first_new) is
    ∙ (append_assoc old (expand below) (joined later_new first_new)
    ∙ ap (λ l. old ++ l)
    (ap (λ l. expand below ++ joined l first_new) (later_is ∙ ap (λ c. c ++ later) cells_are)
    ∙ (by_numbers count (inserter_of below) some closed (piece_has below)
    ∙ (ap (λ f. joined (replicate count (Base i) ++ later) f) (sym first_is) ∙ ap (λ c. joined (c ++ later) first)
    (sym cells_are)))))
  where
    by_numbers : (n j : ℕ) → 0 < n → 0 < j → Have j (expand below)
        → expand below ++ joined (replicate n (Base i) ++ later) first_new ≡ joined (replicate n (Base i) ++ later)
        (expand below ++ first_new)
    by_numbers zero j lt lt2 have = absurd (omega arith)
    by_numbers (suc n) zero lt lt2 have = absurd (omega arith)
    by_numbers (suc n) (suc j) lt lt2 have =
        sym (join_closed j i (expand below) (replicate n (Base i) ++ later) first_new have)
