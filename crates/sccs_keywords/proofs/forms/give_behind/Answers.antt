use Rattle.std.proofs.Common.{ℕ, List, ◌++◌, refl, append_assoc}
use Rattle.std.specs.Prelude.{option_map}
use Rattle.sccs_tokens.specs.Written.{ended}
use Rattle.sccs_keywords.proofs.GiveLaws.{text_fails, text_then}
use Rattle.sccs_keywords.specs.Forms.{line_form, replaced_line, tabbed}
use Rattle.sccs_keywords.proofs.LineTurns.{tabbed_as}
use Rattle.sccs_keywords.proofs.forms.give_behind.Goals as goal

pub returns-in-Err-give_tabbed : goal.returns-in-Err-give_tabbed
returns-in-Err-give_tabbed g c =
    let module_text : List ℕ = tabbed (line_form c.args.form.now).module_name in
    let sid : List ℕ = tabbed (option_map (λ t. t.now) c.args.sid) in
    let line : List ℕ = ended (replaced_line (line_form c.args.form.now).facts c.args.number c.args.line.now) in
    text_fails (module_text ++ sid) line _ _ _ _ _ c.give_tabbed-2.result c.in-Err-give_tabbed.fault
    c.in-Err-give_tabbed.fault (append_assoc module_text sid line) c.in-Err-give_tabbed.is
    (text_then module_text sid _ _ _ _ _ _ _ c.give_tabbed.result c.give_tabbed-2.result _ refl c.in_default.is
    (tabbed_as _ _ _ _ _ _ c.give_tabbed.result c.module_text.ensures c.give_tabbed.ensures)
    c.give_tabbed-2.ensures)

pub returns : goal.returns
returns g c =
    let module_text : List ℕ = tabbed (line_form c.args.form.now).module_name in
    let sid : List ℕ = tabbed (option_map (λ t. t.now) c.args.sid) in
    let line : List ℕ = ended (replaced_line (line_form c.args.form.now).facts c.args.number c.args.line.now) in
    text_then (module_text ++ sid) line _ _ _ _ _ _ _ c.give_tabbed-2.result c.give_replaced.result _
    (append_assoc module_text sid line) c.in_default-give_tabbed.is
    (text_then module_text sid _ _ _ _ _ _ _ c.give_tabbed.result c.give_tabbed-2.result _ refl c.in_default.is
    (tabbed_as _ _ _ _ _ _ c.give_tabbed.result c.module_text.ensures c.give_tabbed.ensures)
    c.give_tabbed-2.ensures)
    c.give_replaced.ensures
