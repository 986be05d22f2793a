-- A warning that is added to a message in three pieces.
use Rattle.std.proofs.Common.{◌≡◌, ℕ, Bool, true, false, List, ◌++◌, ap, ◌∙◌, append_assoc}
use Rattle.std.specs.Prelude.{codes}
use Rattle.sccs_tokens.specs.Written.{ended}
use Rattle.sccs_changes.specs.Reports.{warning}

pub warned : (old n one two three : List ℕ) (keyword : Bool) → keyword ≡ false → one ≡ old ++ codes "WARNING ["
    → two ≡ one ++ n → three ≡ two ++ ended (codes "]: no id keywords") → three ≡ old ++ warning n keyword
warned old n one two three true is a b c = absurd cc
warned old n one two three false is a b c =
    c ∙ (ap (λ x. x ++ ended (codes "]: no id keywords")) (b ∙ ap (λ x. x ++ n) a)
    ∙ (ap (λ x. x ++ ended (codes "]: no id keywords")) (append_assoc old (codes "WARNING [") n)
    ∙ (append_assoc old (codes "WARNING [" ++ n) (ended (codes "]: no id keywords"))
    ∙ ap (λ x. old ++ x) (append_assoc (codes "WARNING [") n (ended (codes "]: no id keywords"))))))
