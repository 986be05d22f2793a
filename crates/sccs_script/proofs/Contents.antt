-- The text that a script makes, by what stands in it at its end.
use Rattle.std.proofs.Common.{◌≡◌, ℕ, suc, ◌+◌, ◌-◌, ◌≤◌, nat_lt, true, List, [], ◌∷◌, ◌++◌, Ok, length, map, take}
use Rattle.std.proofs.Common.{drop, refl, sym, subst, ap, ◌∙◌, arith}
use Rattle.std.specs.List.{AllByRecursion}
use Rattle.std.proofs.lemmas.List.{drop-drop, drop-map, length-map, map-append, take-map}
use Rattle.sccs_script_laws.specs.Scripts.{apply, put_after, step, take_away}
use Rattle.sccs_script_laws.specs.declared.scripts.Order.{Order}
use Rattle.sccs_script_laws.specs.declared.scripts.OrderKind.{OrderKind}
use Rattle.sccs_script_laws.specs.declared.scripts.OrderKind.TheVariants.{Append, Change, Delete}
use Rattle.sccs_script_laws.proofs.Texts.{put_text, take_text}
use Rattle.sccs_script.specs.Checks.{length_after, ranged}
use Rattle.sccs_script.specs.Commands.{FitsIn}
use Rattle.sccs_script.specs.Drafts.{anchor, draft_base, content, cut_entries, edit, edited_draft, DraftLine}
use Rattle.sccs_script.specs.Drafts.{first_line, Fresh, Kept, NamesLines, put_entries, span}
use Rattle.sccs_script.proofs.Entries.{cut_length, edit_length, in_range, names_of, span_length}

module _ (text : List (List ℕ)) where
  abbrev lines_of : List DraftLine → List (List ℕ)
  lines_of entries = map (content text) entries

  same_new : (n : ℕ) (new : List (List ℕ)) → map (λ line. line) new ≡ lines_of (map (Fresh n) new)
  same_new n [] = refl
  same_new n (line ∷ new) = ap (λ l. line ∷ l) (same_new n new)

  put_lines : (k : ℕ) (new : List (List ℕ)) (entries : List DraftLine) → k ≤ length entries → put_after (λ _. true) k
      (map (λ line. line) new) (lines_of entries) ≡ lines_of (put_entries k new entries)
  put_lines k new entries le =
      put_text k (map (λ line. line) new) (lines_of entries)
      (subst (λ n. k ≤ n) (sym (length-map entries (content text))) le)
      ∙ (ap (λ l. l ++ (map (λ line. line) new ++ drop k (lines_of entries))) (take-map (content text) k entries)
      ∙ (ap (λ l. lines_of (take k entries) ++ l) (ap (λ l. l ++ drop k (lines_of entries))
      (same_new (anchor (take k entries)) new)
      ∙ (ap (λ l. lines_of (map (Fresh (anchor (take k entries))) new) ++ l) (drop-map (content text) k entries)
      ∙ sym (map-append (content text) (map (Fresh (anchor (take k entries))) new) (drop k entries))))
      ∙ sym (map-append (content text) (take k entries) (map (Fresh (anchor (take k entries))) new ++ drop k entries))))

  cut_lines : (first last : ℕ) (entries : List DraftLine) → take_away (λ _. true) (λ _. []) (first - 1)
      (last - (first - 1)) (lines_of entries) ≡ lines_of (cut_entries first last entries)
  cut_lines first last entries =
      take_text (first - 1) (last - (first - 1)) (lines_of entries)
      ∙ (ap (λ l. l ++ drop (last - (first - 1)) (drop (first - 1) (lines_of entries)))
      (take-map (content text) (first - 1) entries)
      ∙ (ap (λ l. lines_of (take (first - 1) entries) ++ l) (ap (drop (last - (first - 1)))
      (drop-map (content text) (first - 1) entries) ∙ drop-map (content text) (last - (first - 1))
      (drop (first - 1) entries))
      ∙ sym (map-append (content text) (take (first - 1) entries) (drop (last - (first - 1))
      (drop (first - 1) entries)))))

  lines_step : (kind : OrderKind) (first last : ℕ) (new : List (List ℕ)) (entries : List DraftLine)
      → NamesLines kind first last (length entries)
      → step (λ _. true) (λ _. []) (λ line. line) kind first last new (lines_of entries) ≡ lines_of
      (edit kind first last new entries)
  lines_step Append first last new entries names = put_lines first new entries
      (omega (arith, names.rising, names.there))
  lines_step Delete first last new entries names = cut_lines first last entries
  lines_step Change first last new entries names =
      let some = names.some refl in
      let size = cut_length first last entries some names.rising names.there in
      ap (put_after (λ _. true) (first - 1) (map (λ line. line) new)) (cut_lines first last entries)
      ∙ put_lines (first - 1) new (cut_entries first last entries)
      (omega (arith, some, size, names.rising, names.there))

  lines_run : (next : ℕ) (orders : List Order) (entries : List DraftLine) → AllByRecursion (FitsIn next) orders
      → ranged orders (length entries) ≡ Ok tt
      → apply orders (lines_of entries) ≡ lines_of (edited_draft orders entries)
  lines_run next [] entries fit ok = refl
  lines_run next (order ∷ orders) entries fit ok =
      let lines : ℕ = length entries in
      let parts = in_range (nat_lt lines order.last) order lines (ranged orders (length_after order lines)) ok in
      let names = names_of order next lines fit.0 parts.0 in
      let size = edit_length order.kind order.first order.last order.lines entries names in
      ap (apply orders) (lines_step order.kind order.first order.last order.lines entries names)
      ∙ lines_run next orders (edit order.kind order.first order.last order.lines entries) fit.1
      (ap (ranged orders) size ∙ parts.1)

  base_lines : (k : ℕ) (rest : List (List ℕ)) → drop k text ≡ rest → lines_of (map Kept (span (suc k) (length rest)))
      ≡ rest
  base_lines k [] is = refl
  base_lines k (line ∷ rest) is =
      let back : suc k - 1 ≡ k = omega arith in
      let on : k + 1 ≡ suc k = omega arith in
      ap (λ l. l ∷ lines_of (map Kept (span (suc (suc k)) (length rest)))) (ap (λ n. first_line (drop n text)) back
      ∙ ap first_line is)
      ∙ ap (λ l. line ∷ l) (base_lines (suc k) rest (ap (λ n. drop n text) (sym on) ∙ (sym (drop-drop 1 k text)
      ∙ ap (drop 1) is)))

  -- what the script makes of the text is what stands in it at its end
  pub apply_edited : (next : ℕ) (orders : List Order) → AllByRecursion (FitsIn next) orders
      → ranged orders (length text) ≡ Ok tt → apply orders text ≡ lines_of
      (edited_draft orders (draft_base (length text)))
  apply_edited next orders fit ok =
      ap (apply orders) (sym (base_lines 0 text refl)) ∙ lines_run next orders (draft_base (length text)) fit
      (ap (ranged orders) (span_length 1 (length text)) ∙ ok)
