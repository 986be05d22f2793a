-- Plans and texts by the pieces that stand at the end.
use Rattle.std.proofs.Common.{◌≡◌, ℕ, zero, suc, ◌+◌, ◌-◌, ◌<◌, ◌≤◌, List, [], ◌∷◌, ◌++◌, Some, Result, Ok, Err, length}
use Rattle.std.proofs.Common.{map, take, drop, slice_get, refl, sym, subst, ap, ◌∙◌, arith, append_assoc}
use Rattle.std.specs.List.{AllByRecursion}
use Rattle.sccs_script_laws.specs.Plans.{with_added}
use Rattle.sccs_script_laws.specs.declared.scripts.Added.{Added}
use Rattle.sccs_script_laws.specs.declared.scripts.Order.{Order}
use Rattle.sccs_script_laws.specs.declared.scripts.OrderKind.{OrderKind}
use Rattle.sccs_script_laws.specs.declared.scripts.OrderKind.TheVariants.{Append, Change, Delete}
use Rattle.sccs_script.specs.Checks.{bare_soh, both_ok, checked_script, ranged}
use Rattle.sccs_script.specs.Drafts.{anchor, anchor_from, draft_base, content, cut_entries, edit, edited_draft}
use Rattle.sccs_script.specs.Drafts.{DraftLine, expand, first_line, Fresh, grouped, InBase, IsPiece, IsWithinBase, Kept}
use Rattle.sccs_script.specs.Drafts.{missing, put_entries, span, unstacked}
use Rattle.sccs_script.specs.declared.faults.ScriptFault.{ScriptFault}
use Rattle.sccs_script.specs.declared.pieces.Piece.{Piece}
use Rattle.sccs_script.specs.declared.pieces.Piece.TheVariants as pieces
use Rattle.sccs_script.proofs.OneTurn.{drop_at_place}

-- a script that fits names lines that are there
pub range_of : (orders : List Order) (lines : ℕ) → checked_script orders lines ≡ Ok tt → ranged orders lines ≡ Ok tt
range_of orders lines ok = first_ok (ranged orders lines) (bare_soh orders) ok
  where
    first_ok : (one two : Result (Unit {0}) ScriptFault) → both_ok one two ≡ Ok tt → one ≡ Ok tt
    first_ok (Ok x) two e = refl
    first_ok (Err fault) two e = cc

-- lists of which each element passes
module _ {A : Type 0} (P : A → Type 0) where
  pub all_append : (xs ys : List A) → AllByRecursion P xs → AllByRecursion P ys → AllByRecursion P (xs ++ ys)
  all_append [] ys one two = two
  all_append (x ∷ xs) ys one two = (one.0, all_append xs ys one.1 two)

  all_parts : (xs ys : List A) → AllByRecursion P (xs ++ ys) → AllByRecursion P xs × AllByRecursion P ys
  all_parts [] ys each = (tt, each)
  all_parts (x ∷ xs) ys each = let rest = all_parts xs ys each.1 in ((each.0, rest.0), rest.1)

  all_take : (k : ℕ) (xs : List A) → AllByRecursion P xs → AllByRecursion P (take k xs)
  all_take zero xs each = tt
  all_take (suc k) [] each = tt
  all_take (suc k) (x ∷ xs) each = (each.0, all_take k xs each.1)

  all_drop : (k : ℕ) (xs : List A) → AllByRecursion P xs → AllByRecursion P (drop k xs)
  all_drop zero xs each = each
  all_drop (suc k) [] each = tt
  all_drop (suc k) (x ∷ xs) each = all_drop k xs each.1

-- what stands behind orders is of the base
module _ (count : ℕ) where
  abbrev Within : List DraftLine → Type 0
  Within entries = AllByRecursion (InBase count) entries

  within_span : (n some : ℕ) → 0 < n → n + some ≤ suc count → Within (map Kept (span n some))
  within_span n zero low high = tt
  within_span n (suc some) low high = ((low, omega arith), within_span (suc n) some (omega arith) (omega arith))

  within_anchor : (n : ℕ) (entries : List DraftLine) → n ≤ count → Within entries → anchor_from n entries ≤ count
  within_anchor n [] low each = low
  within_anchor n (Kept m ∷ entries) low each = within_anchor m entries each.0.1 each.1
  within_anchor n (Fresh m text ∷ entries) low each = within_anchor m entries each.0 each.1

  within_fresh : (n : ℕ) (new : List (List ℕ)) → n ≤ count → Within (map (Fresh n) new)
  within_fresh n [] low = tt
  within_fresh n (text ∷ new) low = (low, within_fresh n new low)

  within_put : (k : ℕ) (new : List (List ℕ)) (entries : List DraftLine) → Within entries
      → Within (put_entries k new entries)
  within_put k new entries each =
      all_append (InBase count) (take k entries) (map (Fresh (anchor (take k entries))) new ++ drop k entries)
      (all_take (InBase count) k entries each)
      (all_append (InBase count) (map (Fresh (anchor (take k entries))) new) (drop k entries)
      (within_fresh (anchor (take k entries)) new (within_anchor 0 (take k entries) (omega arith)
      (all_take (InBase count) k entries each))) (all_drop (InBase count) k entries each))

  within_cut : (first last : ℕ) (entries : List DraftLine) → Within entries → Within (cut_entries first last entries)
  within_cut first last entries each =
      all_append (InBase count) (take (first - 1) entries) (drop (last - (first - 1)) (drop (first - 1) entries))
      (all_take (InBase count) (first - 1) entries each)
      (all_drop (InBase count) (last - (first - 1)) (drop (first - 1) entries)
      (all_drop (InBase count) (first - 1) entries each))

  within_edit : (kind : OrderKind) (first last : ℕ) (new : List (List ℕ)) (entries : List DraftLine) → Within entries
      → Within (edit kind first last new entries)
  within_edit Append first last new entries each = within_put first new entries each
  within_edit Delete first last new entries each = within_cut first last entries each
  within_edit Change first last new entries each = within_put (first - 1) new (cut_entries first last entries)
      (within_cut first last entries each)

  within_edited : (orders : List Order) (entries : List DraftLine) → Within entries
      → Within (edited_draft orders entries)
  within_edited [] entries each = each
  within_edited (order ∷ orders) entries each =
      within_edited orders (edit order.kind order.first order.last order.lines entries)
      (within_edit order.kind order.first order.last order.lines entries each)

  span_last : (n some : ℕ) → Within (map Kept (span n (suc some))) → n + some ≤ count
  span_last n zero each = omega (arith, each.0.1)
  span_last n (suc some) each = let later = span_last (suc n) some each.1 in omega (arith, later)

  within_piece : (p : Piece) → IsPiece p → Within (expand p) → IsWithinBase count p
  within_piece (pieces.Kept first last) fits each =
      let more : suc last - first ≡ suc (last - first) = omega (arith, fits.1) in
      let end = span_last first (last - first) (subst (λ n. Within (map Kept (span first n))) more each) in
      omega (arith, end, fits.1)
  within_piece (pieces.Fresh after line) fits each = tt

  within_stack : (ps : List Piece) → AllByRecursion IsPiece ps → Within (unstacked ps)
      → AllByRecursion (IsWithinBase count) ps
  within_stack [] fits each = tt
  within_stack (p ∷ ps) fits each =
      let parts = all_parts (InBase count) (unstacked ps) (expand p) each in
      (within_piece p fits.0 parts.1, within_stack ps fits.1 parts.0)

  -- the base lines of the pieces are among those of the base
  pub pieces_within : (orders : List Order) (ps : List Piece) → AllByRecursion IsPiece ps
      → unstacked ps ≡ edited_draft orders (draft_base count) → AllByRecursion (IsWithinBase count) ps
  pieces_within orders ps fits is =
      within_stack ps fits (subst Within (sym is) (within_edited orders (draft_base count)
      (within_span 1 count (omega arith) (omega arith))))

-- numbers one after another
pub span_next : (n to : ℕ) → n < to → span n (to - n) ≡ n ∷ span (n + 1) (to - (n + 1))
span_next n to lt =
    let more : to - n ≡ suc (to - (n + 1)) = omega arith in let on : suc n ≡ n + 1 = omega arith in
    ap (span n) more ∙ ap (λ m. n ∷ span m (to - (n + 1))) on

-- what is missing before a run of base lines
missing_run : (n some : ℕ) (rest : List DraftLine) (bound : ℕ) → missing n (map Kept (span n some) ++ rest) bound
    ≡ missing (n + some) rest bound
missing_run n zero rest bound = let same : n ≡ n + 0 = omega arith in ap (λ m. missing m rest bound) same
missing_run n (suc some) rest bound =
    let none : n - n ≡ 0 = omega arith in
    let on : suc n + some ≡ n + suc some = omega arith in
    ap (λ k. span n k ++ missing (suc n) (map Kept (span (suc n) some) ++ rest) bound) none
    ∙ (missing_run (suc n) some rest bound ∙ ap (λ m. missing m rest bound) on)

pub missing_kept : (next first last : ℕ) (rest : List DraftLine) (bound : ℕ) → first ≤ last
    → missing next (expand (pieces.Kept first last) ++ rest) bound ≡ span next (first - next) ++ missing
    (last + 1) rest bound
missing_kept next first last rest bound le =
    let more : suc last - first ≡ suc (last - first) = omega arith in
    let on : suc first + (last - first) ≡ last + 1 = omega arith in
    ap (λ n. missing next (map Kept (span first n) ++ rest) bound) more
    ∙ ap (λ l. span next (first - next) ++ l) (missing_run (suc first) (last - first) rest bound
    ∙ ap (λ m. missing m rest bound) on)

-- where a run of base lines ends a group
with_append : (k : ℕ) (texts : List (List ℕ)) (rest : List Added) → with_added k texts rest ≡ with_added k texts []
    ++ rest
with_append k [] rest = refl
with_append k (text ∷ texts) rest = refl

grouped_run : (n some : ℕ) (rest : List DraftLine) → grouped n [] (map Kept (span (suc n) some) ++ rest) ≡ grouped
    (n + some) [] rest
grouped_run n zero rest = let same : n ≡ n + 0 = omega arith in ap (λ m. grouped m [] rest) same
grouped_run n (suc some) rest =
    let on : suc n + some ≡ n + suc some = omega arith in grouped_run (suc n) some rest ∙ ap (λ m. grouped m [] rest) on

grouped_kept : (k : ℕ) (texts : List (List ℕ)) (first last : ℕ) (rest : List DraftLine) → first ≤ last
    → grouped k texts (expand (pieces.Kept first last) ++ rest) ≡ with_added k texts [] ++ grouped last [] rest
grouped_kept k texts first last rest le =
    let more : suc last - first ≡ suc (last - first) = omega arith in
    let on : first + (last - first) ≡ last = omega arith in
    ap (λ n. grouped k texts (map Kept (span first n) ++ rest)) more
    ∙ (ap (with_added k texts) (grouped_run first (last - first) rest ∙ ap (λ m. grouped m [] rest) on)
    ∙ with_append k texts (grouped last [] rest))

-- a group that ended, and a run of base lines
pub ended_group : (done done2 : List Added) (k : ℕ) (texts lines2 : List (List ℕ)) (first last after2 : ℕ)
    (rest : List DraftLine) → first ≤ last → done2 ≡ done ++ with_added k texts [] → after2 ≡ last → lines2 ≡ []
    → done2 ++ grouped after2 lines2 rest ≡ done ++ grouped k texts (expand (pieces.Kept first last) ++ rest)
ended_group done done2 k texts lines2 first last after2 rest le is after lines =
    ap (λ l. l ++ grouped after2 lines2 rest) is
    ∙ (ap (λ n. (done ++ with_added k texts []) ++ grouped n lines2 rest) after
    ∙ (ap (λ l. (done ++ with_added k texts []) ++ grouped last l rest) lines
    ∙ (append_assoc done (with_added k texts []) (grouped last [] rest)
    ∙ ap (λ l. done ++ l) (sym (grouped_kept k texts first last rest le)))))

-- one line more of a text
pub copy_next : (text lines lines2 : List (List ℕ)) (place last : ℕ) (line : List ℕ) → place < length text
    → slice_get text place ≡ Some line → place < last → lines2 ≡ lines ++ line ∷ []
    → lines2 ++ map (content text) (map Kept (span (place + 1 + 1) (last - (place + 1)))) ≡ lines ++ map (content text)
    (map Kept (span (place + 1) (last - place)))
copy_next text lines lines2 place last line low at lt is =
    let back : place + 1 - 1 ≡ place = omega arith in
    let more : last - place ≡ suc (last - (place + 1)) = omega arith in
    let on : suc (place + 1) ≡ place + 1 + 1 = omega arith in
    let here : content text (Kept (place + 1)) ≡ line = ap (λ n. first_line (drop n text)) back
    ∙ ap first_line (drop_at_place text place line low at) in
    ap (λ l. l ++ map (content text) (map Kept (span (place + 1 + 1) (last - (place + 1))))) is
    ∙ (append_assoc lines (line ∷ []) (map (content text) (map Kept (span (place + 1 + 1) (last - (place + 1)))))
    ∙ ap (λ l. lines ++ l)
    (ap (λ l. l ∷ map (content text) (map Kept (span (place + 1 + 1) (last - (place + 1))))) (sym here)
    ∙ (ap (λ n. content text (Kept (place + 1)) ∷ map (content text) (map Kept (span n (last - (place + 1))))) (sym on)
    ∙ ap (λ n. map (content text) (map Kept (span (place + 1) n))) (sym more))))
