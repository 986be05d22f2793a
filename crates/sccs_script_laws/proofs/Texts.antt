-- What orders do to a text, by its lines in front and behind.
use Rattle.std.proofs.Common.{◌≡◌, ℕ, zero, suc, ◌+◌, ◌-◌, ◌≤◌, ◌<◌, true, List, [], ◌∷◌, ◌++◌, length, map, take, drop}
use Rattle.std.proofs.Common.{refl, ap, ◌∙◌, arith}
use Rattle.std.proofs.lemmas.List.{drop_at, drop-drop, length-append, length-take-le, take_at}
use Rattle.sccs_script_laws.specs.Scripts.{apply, put_after, step, take_away}
use Rattle.sccs_script_laws.specs.declared.scripts.Order.{Order}
use Rattle.sccs_script_laws.specs.declared.scripts.OrderKind.{OrderKind}
use Rattle.sccs_script_laws.specs.declared.scripts.OrderKind.TheVariants.{Append, Change, Delete}

-- on a list where each line is seen and a deleted one is gone
pub put_text : {A : Type 0} (k : ℕ) (new lines : List A) → k ≤ length lines → put_after (λ _. true) k new lines
    ≡ take k lines ++ (new ++ drop k lines)
put_text zero new lines le = refl
put_text (suc k) new [] le = absurd (omega arith)
put_text (suc k) new (line ∷ lines) le = ap (λ l. line ∷ l) (put_text k new lines (omega arith))

pub take_text : {A : Type 0} (k count : ℕ) (lines : List A) → take_away (λ _. true) (λ _. []) k count lines
    ≡ take k lines ++ drop count (drop k lines)
take_text zero zero lines = refl
take_text zero (suc count) [] = refl
take_text zero (suc count) (line ∷ lines) = take_text zero count lines
take_text (suc k) zero [] = refl
take_text (suc k) (suc count) [] = refl
take_text (suc k) zero (line ∷ lines) = ap (λ l. line ∷ l) (take_text k zero lines)
take_text (suc k) (suc count) (line ∷ lines) = ap (λ l. line ∷ l) (take_text k (suc count) lines)

same_lines : {A : Type 0} (lines : List A) → map (λ line. line) lines ≡ lines
same_lines [] = refl
same_lines (line ∷ lines) = ap (λ l. line ∷ l) (same_lines lines)

-- one order on a text
abbrev one_step : OrderKind → ℕ → ℕ → List (List ℕ) → List (List ℕ) → List (List ℕ)
one_step kind first last new text = step (λ _. true) (λ _. []) (λ line. line) kind first last new text

-- what a deletion leaves behind
cut_out : (first last : ℕ) (text : List (List ℕ)) → 0 < first → first ≤ last → take_away (λ _. true) (λ _. [])
    (first - 1) (last - (first - 1)) text ≡ take (first - 1) text ++ drop last text
cut_out first last text some le =
    take_text (first - 1) (last - (first - 1)) text
    ∙ ap (λ l. take (first - 1) text ++ l) (drop-drop (last - (first - 1)) (first - 1) text
    ∙ (let whole : (first - 1) + (last - (first - 1)) ≡ last = omega arith in ap (λ i. drop i text) whole))

pub append_text : (first last : ℕ) (new text : List (List ℕ)) → first ≤ length text
    → one_step Append first last new text ≡ take first text ++ (new ++ drop first text)
append_text first last new text le =
    put_text first (map (λ line. line) new) text le ∙ ap (λ l. take first text ++ (l ++ drop first text))
    (same_lines new)

pub change_text : (first last : ℕ) (new text : List (List ℕ)) → 0 < first → first ≤ last → last ≤ length text
    → one_step Change first last new text ≡ take (first - 1) text ++ (new ++ drop last text)
change_text first last new text some le high =
    let front : length (take (first - 1) text) ≡ first - 1 = length-take-le (first - 1) text (omega arith) in
    ap (λ l. put_after (λ _. true) (first - 1) (map (λ line. line) new) l) (cut_out first last text some le)
    ∙ (put_text (first - 1) (map (λ line. line) new) (take (first - 1) text ++ drop last text)
    (omega (arith, front, length-append (take (first - 1) text) (drop last text)))
    ∙ (ap (λ l. l ++ (map (λ line. line) new ++ drop (first - 1) (take (first - 1) text ++ drop last text)))
    (take_at (take (first - 1) text) (drop last text) (first - 1) front)
    ∙ (ap (λ l. take (first - 1) text ++ (map (λ line. line) new ++ l)) (drop_at (take (first - 1) text)
    (drop last text) (first - 1) front)
    ∙ ap (λ l. take (first - 1) text ++ (l ++ drop last text)) (same_lines new))))

pub appends : (order : Order) (text : List (List ℕ)) → order.kind ≡ Append → order.first ≤ length text
    → apply (order ∷ []) text ≡ take order.first text ++ (order.lines ++ drop order.first text)
appends order text is le = ap (λ k. one_step k order.first order.last order.lines text) is
    ∙ append_text order.first order.last order.lines text le

pub deletes : (order : Order) (text : List (List ℕ)) → order.kind ≡ Delete → 0 < order.first → order.first ≤ order.last
    → apply (order ∷ []) text ≡ take (order.first - 1) text ++ drop order.last text
deletes order text is some le = ap (λ k. one_step k order.first order.last order.lines text) is
    ∙ cut_out order.first order.last text some le

pub changes : (order : Order) (text : List (List ℕ)) → order.kind ≡ Change → 0 < order.first → order.first ≤ order.last
    → order.last ≤ length text
    → apply (order ∷ []) text ≡ take (order.first - 1) text ++ (order.lines ++ drop order.last text)
changes order text is some le high =
    ap (λ k. one_step k order.first order.last order.lines text) is ∙ change_text order.first order.last order.lines
    text some le high

pub turns : (orders more : List Order) (text : List (List ℕ)) → apply (orders ++ more) text ≡ apply more
    (apply orders text)
turns [] more text = refl
turns (order ∷ orders) more text = turns orders more (one_step order.kind order.first order.last order.lines text)
