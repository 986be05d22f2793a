-- ListKind lines are no items.
use Rattle.std.proofs.Common.{◌≡◌, ℕ, ◌==◌, Bool, true, false, List, Option, Some, None, refl}
use Rattle.std.specs.Prelude.{option_and_then}
use Rattle.std.specs.Option.{IfSome}
use Rattle.sccs_tokens.specs.Tokens.{control}
use Rattle.sccs_tokens.specs.Items.{item_of, item_behind}
use Rattle.sccs_tokens.specs.declared.line_tokens.LineToken.{LineToken}
use Rattle.sccs_tokens.proofs.TokenRules.{EachKeeps, control_keeps, each_of_kinds}

abbrev IsNoItem : LineToken → Type 0
IsNoItem s = item_of s ≡ None

not_so : {P : Type 0} (b : Bool) → b ≡ false → b ≡ true → P
not_so true is other = cc
not_so false is other = cc

each_none : (letter : ℕ) (bytes : List ℕ) → letter == 73 ≡ false → letter == 68 ≡ false → letter == 69 ≡ false
    → EachKeeps IsNoItem letter bytes
each_none letter bytes insert delete end = each_of_kinds IsNoItem letter bytes (record {
  counts = λ i d u. refl;
  delta = λ r is. refl;
  listed = λ which ns. refl;
  mr = λ t. refl;
  comment = λ t. refl;
  flag = λ f. refl;
  end_entry = refl;
  users = refl;
  end_users = refl;
  description = refl;
  end_description = refl;
}) (not_so (letter == 73) insert) (not_so (letter == 68) delete) (not_so (letter == 69) end)

no_item_token : (o : Option LineToken) → IfSome o IsNoItem → option_and_then item_of o ≡ None
no_item_token None none = refl
no_item_token (Some s) none = none

-- a letter that begins no control line of a body begins no item
pub no_item : (letter : ℕ) (bytes : List ℕ) → letter == 73 ≡ false → letter == 68 ≡ false → letter == 69 ≡ false
    → item_behind letter bytes ≡ None
no_item letter bytes insert delete end = no_item_token (control letter bytes) (control_keeps IsNoItem letter bytes
    (each_none letter bytes insert delete end))
