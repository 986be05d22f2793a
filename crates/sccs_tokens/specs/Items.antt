-- The lines of a body, in order. Items before a place stand nearest first.
use Rattle.std.specs.Prelude.{◌≡◌, ℕ, suc, ◌+◌, ◌<◌, ◌==◌, ◌&&◌, List, [], ◌∷◌, ◌++◌, length, take, Result, Ok, Err}
use Rattle.std.specs.Prelude.{Option, Some, None, option_and_then, if◌then◌else◌}
use Rattle.sccs_sid.specs.Reading.{◌>>=◌, only}
use Rattle.sccs_history.specs.Numbers.{is_empty}
use Rattle.sccs_history.specs.Body.{may_stand, is_over}
use Rattle.sccs_history.specs.declared.headers.Item.{Item}
use Rattle.sccs_history.specs.declared.headers.Item.TheVariants as items
use Rattle.sccs_base.specs.Cut.{HasNoLf}
use Rattle.sccs_tokens.specs.Tokens.{control, plain_serial, token}
use Rattle.sccs_tokens.specs.declared.line_tokens.LineToken.{LineToken}
use Rattle.sccs_tokens.specs.declared.line_tokens.LineToken.TheVariants.{Insert, Delete, End, Plain}

-- the item that a line is
abbrev pub item_of : LineToken → Option Item
item_of (Plain t) = Some (items.Text t)
item_of (Insert n) = Some (items.Insert n)
item_of (Delete n) = Some (items.Delete n)
item_of (End n) = Some (items.End n)
item_of _ = None

-- the item that follows SOH and a letter
abbrev pub item_behind : ℕ → List ℕ → Option Item
item_behind letter bytes = option_and_then item_of (control letter bytes)

-- the item that a line is by itself
abbrev pub item_read : List ℕ → Option Item
item_read line = option_and_then item_of (token line)

-- the control item of a letter and a serial
abbrev pub item_for : ℕ → ℕ → Option Item
item_for letter n =
    if letter == 73 then Some (items.Insert n)
    else if letter == 68 then Some (items.Delete n)
    else if letter == 69 then Some (items.End n)
    else None

-- the first bytes are a serial as it is written, and LF stands behind them
pub record IsWrittenSerial (bytes : List ℕ) (n : ℕ) (count : ℕ) : Type 0 where
  pub short : count < length bytes
  pub ended : take (count + 1) bytes ≡ take count bytes ++ 10 ∷ []
  pub line : HasNoLf (take count bytes)
  pub serial : plain_serial (take count bytes) ≡ Some n

-- the first bytes are a line that is this item, and LF stands behind them
pub record IsWrittenItem (bytes : List ℕ) (item : Item) (count : ℕ) : Type 0 where
  pub short : count < length bytes
  pub ended : take (count + 1) bytes ≡ take count bytes ++ 10 ∷ []
  pub line : HasNoLf (take count bytes)
  pub token : item_read (take count bytes) ≡ Some item

abbrev pub item_standing : List ℕ → List Item → Option Item → Option Item
item_standing live before None = None
item_standing live before (Some item) = only (may_stand live before item) item

-- the item that a line is behind others, in a body over live serials
unfoldable pub item_at : List ℕ → List Item → List ℕ → Option Item
item_at live before line = item_standing live before (item_read line)

abbrev pub go_on : ℕ → Option Item → (Item → Result (List Item) ℕ) → Result (List Item) ℕ
go_on n None more = Err n
go_on n (Some item) more = more item >>= λ items. Ok (item ∷ items)

-- the items from line n on, behind others, up to the end of a whole body, or the first line at which nothing goes on;
-- bytes behind the last LF are no line
unfoldable pub items_from : List ℕ → ℕ → List Item → List (List ℕ) → List ℕ → Result (List Item) ℕ
items_from live n before [] tail = if is_over before && is_empty tail then Ok [] else Err n
items_from live n before (line ∷ lines) tail = go_on n (item_at live before line) (λ item. items_from live (suc n)
    (item ∷ before) lines tail)
