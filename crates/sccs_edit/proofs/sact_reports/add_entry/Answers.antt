use Rattle.std.proofs.Common.{ℕ, List, ◌∷◌, [], ◌++◌, ap, ◌∙◌}
use Rattle.sccs_store.proofs.Working.{ok_map}
use Rattle.sccs_edit.proofs.SactLaws.{line_added}
use Rattle.sccs_edit.proofs.sact_reports.add_entry.Goals as goal

pub returns : goal.returns
returns c =
    ok_map c.add_part-4.result
    (λ last.
    line_added c.args.report.now.items _ _ _ _ c.add_part.new.report.items c.add_part-2.new.report.items
    c.add_part-3.new.report.items c.add_part-4.new.report.items (c.in_ok-add_part.ensures
    ∙ ap (λ (x : List ℕ). c.args.report.now.items ++ (x ++ 32 ∷ [])) c.text.ensures)
    (c.in_ok-add_part-2.ensures ∙ ap (λ (x : List ℕ). c.add_part.new.report.items ++ (x ++ 32 ∷ [])) c.text-2.ensures)
    (c.in_ok-add_part-3.ensures ∙ ap (λ (x : List ℕ). c.add_part-2.new.report.items ++ (x ++ 32 ∷ []))
    c.bytes.ensures.value)
    (last ∙ ap (λ (x : List ℕ). c.add_part-3.new.report.items ++ (x ++ 10 ∷ [])) c.text-3.ensures)) c.add_part-4.ensures
