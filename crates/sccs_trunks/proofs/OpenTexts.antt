-- The lines that are open while a trunk is turned back, and what sets show of them.
use Rattle.std.proofs.Common.{◌≡◌, ℕ, suc, Bool, true, false, cond, not, List, [], ◌∷◌, ◌++◌, map, refl, ap, ◌∙◌}
use Rattle.sccs_history.specs.Numbers.{front_if}
use Rattle.sccs_history.specs.Body.{HistoryLine}
use Rattle.sccs_trunks.specs.Changes.{Change, added, revised, revised_from, strikes}
use Rattle.sccs_trunks.specs.Trunks.{begun, earlier_line, head_line, is_open, turned, turned_from}

-- the texts of the open lines
abbrev pub open_text : List HistoryLine → List (List ℕ)
open_text [] = []
open_text (line ∷ lines) = front_if (is_open line) line.text (open_text lines)

open_earlier : (n : ℕ) (texts : List (List ℕ)) (lines : List HistoryLine)
    → open_text (map (earlier_line n) texts ++ lines) ≡ texts ++ open_text lines
open_earlier n [] lines = refl
open_earlier n (text ∷ texts) lines = ap (λ l. text ∷ l) (open_earlier n texts lines)

pub open_head : (texts : List (List ℕ)) → open_text (map head_line texts) ≡ texts
open_head [] = refl
open_head (text ∷ texts) = ap (λ l. text ∷ l) (open_head texts)

-- an open line stays open where the script leaves it
begun_open : (n : ℕ) (strike : Bool) (line : HistoryLine) (rest : List HistoryLine) → is_open line ≡ true
    → open_text (begun (suc n) strike line ∷ rest) ≡ front_if (not strike) line.text (open_text rest)
begun_open n true line rest opened = refl
begun_open n false line rest opened = ap (λ t. front_if t line.text (open_text rest)) opened

open_turned_from : (n : ℕ) (changes : List Change) (k : ℕ) (lines : List HistoryLine)
    → open_text (turned_from (suc n) changes k lines) ≡ revised_from changes k (open_text lines)
open_turned_from n changes k [] = refl
open_turned_from n changes k (line ∷ lines) =
    by_state (is_open line) refl (open_turned_from n changes (suc k) lines) (open_turned_from n changes k lines)
  where
    by_state : (t : Bool) → is_open line ≡ t
        → open_text (turned_from (suc n) changes (suc k) lines) ≡ revised_from changes (suc k) (open_text lines)
        → open_text (turned_from (suc n) changes k lines) ≡ revised_from changes k (open_text lines)
        → open_text (cond t (begun (suc n) (strikes changes (suc k)) line ∷ (map (earlier_line (suc n))
        (added changes (suc k)) ++ turned_from (suc n) changes (suc k) lines))
        (line ∷ turned_from (suc n) changes k lines))
        ≡ revised_from changes k (front_if t line.text (open_text lines))
    by_state true opened next same =
        begun_open n (strikes changes (suc k)) line (map (earlier_line (suc n)) (added changes (suc k)) ++ turned_from
        (suc n) changes (suc k) lines) opened
        ∙ ap (λ l. front_if (not (strikes changes (suc k))) line.text l)
        (open_earlier (suc n) (added changes (suc k)) (turned_from (suc n) changes (suc k) lines)
        ∙ ap (λ l. added changes (suc k) ++ l) next)
    by_state false closed next same = ap (λ t. front_if t line.text (open_text (turned_from (suc n) changes k lines)))
        closed ∙ same

-- the open lines of turned ones have the text that the script makes
pub open_turned : (n : ℕ) (changes : List Change) (lines : List HistoryLine) → open_text (turned (suc n) changes lines)
    ≡ revised changes (open_text lines)
open_turned n changes lines =
    open_earlier (suc n) (added changes 0) (turned_from (suc n) changes 0 lines) ∙ ap (λ l. added changes 0 ++ l)
    (open_turned_from n changes 0 lines)
