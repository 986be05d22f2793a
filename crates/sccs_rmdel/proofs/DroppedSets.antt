-- A set without a serial shows of the lines without those of the serial what it showed of all.
use Rattle.std.proofs.Common.{◌≡◌, ℕ, ◌==◌, false, not, ◌&&◌, ◌||◌, List, [], ◌∷◌, refl, sym, ap, ◌∙◌}
use Rattle.std.proofs.lemmas.Bool.{eqb-true}
use Rattle.sccs_history.specs.Numbers.{front_if, has, share, without}
use Rattle.sccs_history.specs.Body.{HistoryLine}
use Rattle.sccs_history.specs.Removal.{dropped_lines}
use Rattle.sccs_history.specs.Select.{select, shows}
use Rattle.sccs_rmdel.proofs.DroppedItems.{by_test}

share-without : (n : ℕ) (ds set : List ℕ) → has set n ≡ false → share (without n ds) set ≡ share ds set
share-without n [] set none = refl
share-without n (d ∷ ds) set none =
    by_test (λ t. share (front_if (not t) d (without n ds)) set ≡ (has set d || share ds set)) (d == n)
    (λ e. share-without n ds set none ∙ ap (λ t. t || share ds set) (sym (ap (has set) (eqb-true d n e) ∙ none)))
    (λ e. ap (λ t. has set d || t) (share-without n ds set none))

pub selects_same : (set : List ℕ) (n : ℕ) (lines : List HistoryLine) → has set n ≡ false
    → select set (dropped_lines n lines) ≡ select set lines
selects_same set n [] none = refl
selects_same set n (line ∷ lines) none =
    by_test (λ t. select set (front_if (not t) (record line { deleters = without n line.deleters })
    (dropped_lines n lines)) ≡ front_if (shows set line) line.text (select set lines)) (line.inserter == n)
    (λ e. selects_same set n lines none ∙ ap (λ t. front_if (t && not (share line.deleters set)) line.text
    (select set lines)) (sym (ap (has set) (eqb-true line.inserter n e) ∙ none)))
    (λ e. ap (λ t. front_if (has set line.inserter && not t) line.text (select set (dropped_lines n lines)))
    (share-without n line.deleters set none)
    ∙ ap (λ l. front_if (shows set line) line.text l) (selects_same set n lines none))
