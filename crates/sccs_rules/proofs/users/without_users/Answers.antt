use Rattle.std.proofs.Common.{◌≡◌, ℕ, List, length, ap, arith}
use Rattle.sccs_rules.proofs.KeptUsers.{all_stay, kept_all}
use Rattle.sccs_rules.proofs.users.without_users.Goals as goal

pub returns-then-is_empty : goal.returns-then-is_empty
returns-then-is_empty c = all_stay c.args.names.now c.args.users c.if-is_empty.ensures

pub returns : goal.returns
returns c =
    kept_all c.args.names.now c.args.users c.loop-user.kept c.in_ok-names.names c.loop-user.user-index
    (let same : length c.items-user-items.result.now ≡ length c.args.users =
    ap (λ (l : List (List ℕ)). length l) c.items-user-items.ensures in omega (arith, same, c.loop-user-test.false))
    c.in_ok-names.ensures c.loop-user.invariant
