-- The texts of orders, where some line begins with SOH.
use Rattle.std.proofs.Common.{◌≡◌, ℕ, suc, ◌+◌, ◌<◌, ◌≤◌, nat_lt, Bool, true, false, cond, not, List, [], ◌∷◌, Option}
use Rattle.std.proofs.Common.{None, Some, length, drop, get_or, refl, sym, subst, ap, ◌∙◌, arith, lt-ltb, le-ltb}
use Rattle.std.specs.List.{AllByRecursion, position, position_or_len}
use Rattle.std.specs.Option.{option_map}
use Rattle.std.proofs.lemmas.Bool.{ltb-true, ltb-false}
use Rattle.std.proofs.lemmas.List.{drop_more}
use Rattle.sccs_sid.specs.SidLists.{begins}
use Rattle.sccs_script_laws.specs.declared.scripts.Order.{Order}
use Rattle.sccs_script.specs.Checks.{bad_line, bare_soh, or_bad}

abbrev pub numbered : ℕ → Option ℕ → Option ℕ
numbered before place = option_map (λ i. before + 1 + i) place

later : (before q len : ℕ) (u : Bool) → nat_lt q len ≡ u → numbered (suc before) (cond u (Some q) None)
    ≡ numbered before (cond (nat_lt (1 + q) (suc len)) (Some (1 + q)) None)
later before q len true lt =
    let below : q < len = ltb-true q len lt in
    let same : suc before + 1 + q ≡ before + 1 + (1 + q) = omega arith in
    ap Some same ∙ ap (λ t. numbered before (cond t (Some (1 + q)) None)) (sym (lt-ltb (1 + q) (suc len) (omega arith)))
later before q len false ge =
    let past : len ≤ q = ltb-false q len ge in
    ap (λ t. numbered before (cond t (Some (1 + q)) None)) (sym (le-ltb (1 + q) (suc len) (omega arith)))

line_step : (before : ℕ) (line : List ℕ) (lines : List (List ℕ)) (t : Bool) → begins 1 line ≡ t
    → bad_line (suc before) lines ≡ numbered (suc before) (position (begins 1) lines)
    → cond t (Some (suc before)) (bad_line (suc before) lines) ≡ numbered before
    (cond (nat_lt (cond (not t) (1 + position_or_len (begins 1) lines) 0) (suc (length lines)))
    (Some (cond (not t) (1 + position_or_len (begins 1) lines) 0)) None)
line_step before line lines true is ih =
    let first : suc before ≡ before + 1 + 0 = omega arith in
    ap Some first ∙ ap (λ u. numbered before (cond u (Some 0) None)) (sym (lt-ltb 0 (suc (length lines)) (omega arith)))
line_step before line lines false is ih =
    ih ∙ later before (position_or_len (begins 1) lines) (length lines) (nat_lt (position_or_len (begins 1) lines)
    (length lines)) refl

-- the first line that begins with SOH, by its place
pub bad_line_placed : (before : ℕ) (lines : List (List ℕ)) → bad_line before lines ≡ numbered before
    (position (begins 1) lines)
bad_line_placed before [] = refl
bad_line_placed before (line ∷ lines) = line_step before line lines (begins 1 line) refl
    (bad_line_placed (suc before) lines)

-- the orders from one on
pub bare_at : (orders : List Order) (i : ℕ) (order : Order) (place : Option ℕ) → i < length orders
    → order ≡ get_or orders i order → place ≡ position (begins 1) order.lines
    → bare_soh (drop i orders) ≡ or_bad (numbered order.line place) (bare_soh (drop (i + 1) orders))
bare_at orders i order place low at is =
    ap bare_soh (drop_more orders i order low ∙ ap (λ o. o ∷ drop (i + 1) orders) (sym at))
    ∙ ap (λ p. or_bad p (bare_soh (drop (i + 1) orders))) (bad_line_placed order.line order.lines
    ∙ ap (numbered order.line) (sym is))

-- the rest of orders that fit
pub fit_rest : (P : Order → Type 0) (orders : List Order) (i : ℕ) (order : Order) → i < length orders
    → order ≡ get_or orders i order → AllByRecursion P (drop i orders) → P order × AllByRecursion P
    (drop (i + 1) orders)
fit_rest P orders i order low at each =
    subst (AllByRecursion P) (drop_more orders i order low ∙ ap (λ o. o ∷ drop (i + 1) orders) (sym at)) each
