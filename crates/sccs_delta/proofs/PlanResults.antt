-- What a plan makes of its base is what its script makes of it.
use Rattle.std.proofs.Common.{◌≡◌, ℕ, suc, Bool, true, false, cond, not, List, [], ◌∷◌, ◌++◌, length, map, refl, sym}
use Rattle.std.proofs.Common.{ap, ◌∙◌, arith}
use Rattle.sccs_script_laws.specs.Plans.{added_after, added_lines, plan, planted, planted_from}
use Rattle.sccs_script_laws.specs.Scripts.{apply}
use Rattle.sccs_script_laws.specs.Weave.{AreBelow, marked, new_line}
use Rattle.sccs_script_laws.specs.declared.scripts.Order.{Order}
use Rattle.sccs_script_laws.specs.declared.scripts.Plan.{Plan}
use Rattle.sccs_script_laws.proofs.Plants.{weave_planted}
use Rattle.sccs_script_laws.proofs.Selects.{select_woven}
use Rattle.sccs_history.specs.Numbers.{front_if, has}
use Rattle.sccs_history.specs.Body.{HistoryLine}
use Rattle.sccs_history.specs.Select.{select, shows}
use Rattle.sccs_copies.specs.Examining.{result_from, result_of}

-- the text as lines of one delta
abbrev as_lines : List (List ℕ) → List HistoryLine
as_lines text = map (new_line 1) text

all_shown : (text : List (List ℕ)) → select (1 ∷ []) (as_lines text) ≡ text
all_shown [] = refl
all_shown (line ∷ text) = ap (λ l. line ∷ l) (all_shown text)

all_below : (text : List (List ℕ)) → AreBelow 2 (as_lines text)
all_below [] = tt
all_below (line ∷ text) = (record { inserter = omega arith; deleters = tt }, all_below text)

front_both : (t : Bool) (line : List ℕ) (xs ys : List (List ℕ)) → front_if t line xs ++ ys ≡ front_if t line (xs ++ ys)
front_both true line xs ys = refl
front_both false line xs ys = refl

select_both : (set : List ℕ) (xs ys : List HistoryLine) → select set (xs ++ ys) ≡ select set xs ++ select set ys
select_both set [] ys = refl
select_both set (x ∷ xs) ys = ap (λ l. front_if (shows set x) x.text l) (select_both set xs ys)
    ∙ sym (front_both (shows set x) x.text (select set xs) (select set ys))

new_shown : (texts : List (List ℕ)) → select (2 ∷ 1 ∷ []) (map (new_line 2) texts) ≡ texts
new_shown [] = refl
new_shown (line ∷ texts) = ap (λ l. line ∷ l) (new_shown texts)

struck_shown : (deleted : Bool) (line : List ℕ) (rest : List HistoryLine)
    → select (2 ∷ 1 ∷ []) (cond deleted (marked 2 (new_line 1 line)) (new_line 1 line) ∷ rest) ≡ front_if
    (not deleted) line (select (2 ∷ 1 ∷ []) rest)
struck_shown true line rest = refl
struck_shown false line rest = refl

planted_shown : (p : Plan) (k : ℕ) (text : List (List ℕ)) → select (2 ∷ 1 ∷ []) (planted_from (shows (1 ∷ [])) p 2 k
    (as_lines text)) ≡ result_from p k text
planted_shown p k [] = refl
planted_shown p k (line ∷ text) =
    struck_shown (has p.deleted (suc k)) line (added_lines p 2 (suc k) ++ planted_from (shows (1 ∷ [])) p 2 (suc k)
    (as_lines text))
    ∙ (ap (λ l. front_if (not (has p.deleted (suc k))) line l)
    (select_both (2 ∷ 1 ∷ []) (added_lines p 2 (suc k)) (planted_from (shows (1 ∷ [])) p 2 (suc k) (as_lines text))
    ∙ (ap (λ l. l ++ select (2 ∷ 1 ∷ []) (planted_from (shows (1 ∷ [])) p 2 (suc k) (as_lines text)))
    (new_shown (added_after (suc k) p.added))
    ∙ ap (λ l. added_after (suc k) p.added ++ l) (planted_shown p (suc k) text)))
    ∙ sym (front_both (not (has p.deleted (suc k))) line (added_after (suc k) p.added) (result_from p (suc k) text)))

shown_by_plan : (p : Plan) (text : List (List ℕ)) → select (2 ∷ 1 ∷ []) (planted (shows (1 ∷ [])) p 2 (as_lines text))
    ≡ result_of p text
shown_by_plan p text =
    select_both (2 ∷ 1 ∷ []) (added_lines p 2 0) (planted_from (shows (1 ∷ [])) p 2 0 (as_lines text))
    ∙ (ap (λ l. l ++ select (2 ∷ 1 ∷ []) (planted_from (shows (1 ∷ [])) p 2 0 (as_lines text)))
    (new_shown (added_after 0 p.added))
    ∙ ap (λ l. added_after 0 p.added ++ l) (planted_shown p 0 text))

pub plan_applied : (orders : List Order) (text : List (List ℕ)) → result_of (plan orders (length text)) text
    ≡ apply orders text
plan_applied orders text =
    sym (shown_by_plan (plan orders (length text)) text)
    ∙ (ap (λ (t : List (List ℕ)). select (2 ∷ 1 ∷ []) (planted (shows (1 ∷ [])) (plan orders (length t)) 2
    (as_lines text))) (sym (all_shown text))
    ∙ (ap (select (2 ∷ 1 ∷ [])) (sym (weave_planted 2 (1 ∷ []) orders (as_lines text) (all_below text)))
    ∙ (select_woven 2 (1 ∷ []) orders (as_lines text) (all_below text) ∙ ap (apply orders) (all_shown text))))
