-- The cells of all scripts of a trunk.
use Rattle.std.proofs.Common.{◌≡◌, ℕ, suc, ◌+◌, Bool, true, false, List, [], ◌∷◌, ◌++◌, length, map, take, drop, Result}
use Rattle.std.proofs.Common.{Ok, Err, refl, sym, subst, ap, ◌∙◌, arith}
use Rattle.std.proofs.lemmas.Bool.{false≢true}
use Rattle.std.proofs.lemmas.List.{take-append-drop}
use Rattle.sccs_history.specs.Body.{HistoryLine}
use Rattle.sccs_trunks.specs.Changes.{Change, at_line, changes_from, revised}
use Rattle.sccs_trunks.specs.Trunks.{head_line, settled, trunk_lines, turned, turned_back}
use Rattle.sccs_trunks.specs.TrunkHistories.{scripts_from, then_scripts, with_changes}
use Rattle.sccs_trunks.specs.declared.revisions.Revision.{Revision}
use Rattle.sccs_trunks.specs.Cells.{Cell, joined, laid}
use Rattle.sccs_trunks.proofs.Joins.{joins}
use Rattle.sccs_trunks.specs.Scripts.{laid_scripts, script_cells, serial_of, texts_of}
use Rattle.sccs_trunks.proofs.ScriptCells.{script_turns}

-- ---- fit scripts in turn

record Read (n : ℕ) (text : List (List ℕ)) (script : List (List ℕ)) (revisions : List Revision)
    (scripts : List (List Change)) : Type 0 where
  changes : List Change
  fit : changes_from (length text) 0 0 script ≡ Ok changes
  others : List (List Change)
  read : scripts_from (suc n) (revised changes text) revisions ≡ Ok others
  whole : scripts ≡ changes ∷ others

abbrev is_read : Result (List (List Change)) (ℕ × ℕ) → Bool
is_read (Ok scripts) = true
is_read (Err fault) = false

abbrev scripts_or : Result (List (List Change)) (ℕ × ℕ) → List (List Change)
scripts_or (Ok scripts) = scripts
scripts_or (Err fault) = []

read_of : (n : ℕ) (text script : List (List ℕ)) (revisions : List Revision) (scripts : List (List Change))
    (r : Result (List Change) ℕ) → changes_from (length text) 0 0 script ≡ r
    → with_changes n (at_line script r) (λ changes. then_scripts changes
    (scripts_from (suc n) (revised changes text) revisions)) ≡ Ok scripts → Read n text script revisions scripts
read_of n text script revisions scripts (Err left) is e = absurd (false≢true (ap is_read e))
read_of n text script revisions scripts (Ok changes) is e =
    by_others (scripts_from (suc n) (revised changes text) revisions) refl e
  where
    by_others : (o : Result (List (List Change)) (ℕ × ℕ)) → scripts_from (suc n) (revised changes text) revisions ≡ o
        → then_scripts changes o ≡ Ok scripts → Read n text script revisions scripts
    by_others (Err fault) same e2 = absurd (false≢true (ap is_read e2))
    by_others (Ok others) same e2 =
        record { changes = changes; fit = is; others = others; read = same; whole = sym (ap scripts_or e2) }

serials : (a b : ℕ) → a ≡ b → suc (suc a) ≡ serial_of 0 b
serials a b e = omega (arith, e)

-- scripts that are read turn lines back as their cells say
back_by_cells : (n : ℕ) (base : List (List ℕ)) (revisions : List Revision) (scripts : List (List Change))
    (lines : List HistoryLine)
    → scripts_from n base revisions ≡ Ok scripts
    → (turned_back scripts lines ≡ map settled (laid_scripts 0 (texts_of revisions) lines))
    × (length scripts ≡ length (texts_of revisions))
back_by_cells n base [] scripts lines e = subst (λ s. (turned_back s lines ≡ map settled lines) × (length s ≡ 0))
    (ap scripts_or e) (refl, refl)
back_by_cells n base (r ∷ revisions) scripts lines e =
    let read = read_of n base r.text revisions scripts (changes_from (length base) 0 0 r.text) refl e in
    let m = serial_of 0 (length (texts_of revisions)) in
    let others = back_by_cells (suc n) (revised read.changes base) revisions read.others
    (laid (script_cells m r.text) lines) read.read in
    subst (λ s. (turned_back s lines ≡ map settled (laid_scripts 0 (texts_of revisions)
    (laid (script_cells m r.text) lines))) × (length s ≡ suc (length (texts_of revisions)))) (sym read.whole) (
      ap (λ k. turned_back read.others (turned k read.changes lines)) (serials (length read.others)
          (length (texts_of revisions)) others.1)
          ∙ (ap (λ ls. turned_back read.others ls) (sym (script_turns (suc (0 + length (texts_of revisions)))
          (length base) r.text read.changes lines read.fit)) ∙ others.0),
      ap suc others.1,
    )

pub trunk_by_cells : (n : ℕ) (head : List (List ℕ)) (revisions : List Revision) (scripts : List (List Change))
    → scripts_from n head revisions ≡ Ok scripts
    → trunk_lines head scripts ≡ map settled (laid_scripts 0 (texts_of revisions) (map head_line head))
trunk_by_cells n head revisions scripts e =
    (back_by_cells n head revisions scripts (map head_line head) e).0

-- ---- scripts in two halves

length_texts : (a : List Revision) → length (texts_of a) ≡ length a
length_texts [] = refl
length_texts (r ∷ a) = ap suc (length_texts a)

length_joined : (a b : List Revision) → length (texts_of (a ++ b)) ≡ length (texts_of a) + length b
length_joined [] b = length_texts b ∙ omega arith
length_joined (r ∷ a) b = ap suc (length_joined a b) ∙ omega arith

-- the scripts of two lists of revisions in a row
pub laid_both : (below : ℕ) (a b : List Revision) (lines : List HistoryLine)
    → laid_scripts below (texts_of (a ++ b)) lines ≡ laid_scripts below (texts_of b) (laid_scripts (below + length b)
    (texts_of a) lines)
laid_both below [] b lines = refl
laid_both below (r ∷ a) b lines =
    ap (λ n. laid_scripts below (texts_of (a ++ b)) (laid (script_cells n r.text) lines))
    (serial (length (texts_of (a ++ b))) (length (texts_of a)) (length_joined a b))
    ∙ laid_both below a b (laid (script_cells (serial_of (below + length b) (length (texts_of a))) r.text) lines)
  where
    serial : (k j : ℕ) → k ≡ j + length b → serial_of below k ≡ serial_of (below + length b) j
    serial k j e = omega (arith, e)

pub laid_halves : (below : ℕ) (whole a b : List Revision) (size : ℕ) (cells first later : List Cell)
    → whole ≡ a ++ b → size ≡ length b → cells ≡ joined later first
    → ((lines : List HistoryLine) → laid first lines ≡ laid_scripts (below + size) (texts_of a) lines)
    → ((lines : List HistoryLine) → laid later lines ≡ laid_scripts below (texts_of b) lines)
    → (lines : List HistoryLine) → laid cells lines ≡ laid_scripts below (texts_of whole) lines
laid_halves below whole a b size cells first later is size_is cells_are first_says later_says lines =
    ap (λ c. laid c lines) cells_are
    ∙ (joins later first lines
    ∙ (ap (λ ls. laid later ls) (first_says lines)
    ∙ (later_says (laid_scripts (below + size) (texts_of a) lines)
    ∙ (ap (λ n. laid_scripts below (texts_of b) (laid_scripts (below + n) (texts_of a) lines)) size_is
    ∙ (sym (laid_both below a b lines) ∙ ap (λ w. laid_scripts below (texts_of w) lines) (sym is))))))

pub whole_of : (m : ℕ) (whole a b : List Revision) → a ≡ take m whole → b ≡ drop m whole → whole ≡ a ++ b
whole_of m whole a b front back = sym (ap (λ l. l ++ b) front ∙ (ap (λ l. take m whole ++ l) back
    ∙ take-append-drop m whole))
