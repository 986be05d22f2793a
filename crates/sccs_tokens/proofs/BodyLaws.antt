-- A body that is written is read again.
use Rattle.std.proofs.Common.{◌≡◌, ℕ, suc, Bool, true, false, List, [], ◌∷◌, map, Option, None, Some, Ok, refl, sym, ap}
use Rattle.std.proofs.Common.{◌∙◌}
use Rattle.std.specs.List.{AllByRecursion}
use Rattle.sccs_sid.specs.Reading.{only}
use Rattle.sccs_history.specs.Body.{may_stand, GoesOn}
use Rattle.sccs_history.specs.declared.headers.Item.{Item}
use Rattle.sccs_history.specs.declared.headers.Item.TheVariants.{Text, Insert, Delete, End}
use Rattle.sccs_tokens.specs.Items.{item_at, item_read, item_standing, items_from}
use Rattle.sccs_tokens.specs.Written.{IsItem, item_line}
use Rattle.sccs_tokens.proofs.TokenLaws.{token_plain, token_insert, token_delete, token_end}

pub item_again : (live : List ℕ) (before : List Item) (item : Item) → IsItem item → may_stand live before item ≡ true
    → item_at live before (item_line item) ≡ Some item
unfolding item_at
item_again live before (Text t) is may = rw (token_plain t is) (rw may refl)
item_again live before (Insert n) is may = rw (token_insert n is) (rw may refl)
item_again live before (Delete n) is may = rw (token_delete n is) (rw may refl)
item_again live before (End n) is may = rw (token_end n is) (rw may refl)

pub items_again : (live : List ℕ) (n : ℕ) (before items : List Item) → AllByRecursion IsItem items
    → GoesOn live before items → items_from live n before (map item_line items) [] ≡ Ok items
unfolding items_from
items_again live n before [] are goes = rw goes refl
items_again live n before (item ∷ items) are goes =
    rw (item_again live before item are.0 goes.0) (rw (items_again live (suc n) (item ∷ before) items are.1 goes.1)
    refl)

-- ---- an item that a line is may stand

seen : (stands : Bool) (made item : Item) → only stands made ≡ Some item → (stands ≡ true) × (made ≡ item)
seen true made item is = (refl, cc)
seen false made item is = absurd cc

standing : (live : List ℕ) (before : List Item) (made : Option Item) (item : Item) → item_standing live before made
    ≡ Some item → may_stand live before item ≡ true
standing live before None item is = absurd cc
standing live before (Some made) item is =
    let both = seen (may_stand live before made) made item is in ap (may_stand live before) (sym both.1) ∙ both.0

pub line_may : (live : List ℕ) (before : List Item) (line : List ℕ) (item : Item) → item_at live before line ≡ Some item
    → may_stand live before item ≡ true
unfolding item_at
line_may live before line item is = standing live before (item_read line) item is
