-- What can follow lines that were read without a fault.
use Rattle.std.specs.Prelude.{◌≡◌, ℕ, ◌+◌, true, false, List, [], ◌∷◌, ◌++◌, length, map, None, Ok}
use Rattle.std.specs.List.{AllByRecursion}
use Rattle.sccs_history.specs.Numbers.{is_empty}
use Rattle.sccs_history.specs.Body.{may_stand, open_serials}
use Rattle.sccs_history.specs.declared.headers.Item.{Item}
use Rattle.sccs_history.specs.declared.headers.Item.TheVariants.{End}
use Rattle.sccs_tokens.specs.Items.{items_from}
use Rattle.sccs_tokens.specs.Written.{IsSerial}
use Rattle.sccs_grammar.specs.Front.{ParsedFront, front_from, dangling_predecessor}
use Rattle.sccs_grammar.specs.declared.header_parsers.HeaderParser.{HeaderParser}
use Rattle.sccs_grammar.specs.Entries.{Entries, with_entry}
use Rattle.sccs_grammar.specs.declared.header_parsers.HeaderState.TheVariants.{AtEntry, AtDelta, InLists, InTexts}
use Rattle.sccs_grammar.specs.declared.header_parsers.HeaderState.TheVariants.{InUsers, InFlags, InDescription, AtBody}

-- the items before a place, the last nearest, each of which may stand there
abbrev pub Reached : List ℕ → List Item → Type 0
Reached live [] = Unit {0}
Reached live (item ∷ before) = (may_stand live before item ≡ true) × Reached live before

-- the items that end all that is open
abbrev pub ends : List Item → List Item
ends before = map End (open_serials before)

-- the numbers are serials
abbrev pub AreSerials : List ℕ → Type 0
AreSerials live = AllByRecursion IsSerial live

-- The lines of a body before the one at fault can be followed by others to the end of a whole body.
pub record BodyCompletion (live : List ℕ) (n k : ℕ) (lines : List (List ℕ)) : Type 0 where
  pub good : List (List ℕ)
  pub rest : List (List ℕ)
  pub more : List (List ℕ)
  pub items : List Item
  pub split : lines ≡ good ++ rest
  pub fault : k ≡ n + length good
  pub whole : items_from live n [] (good ++ more) [] ≡ Ok items

-- there are entries, and none has dangling_predecessor its predecessor
abbrev pub KeepsAll : Entries → Type 0
KeepsAll t = (is_empty t.records ≡ false) × (dangling_predecessor t.records t.records t.lines ≡ None)

-- the header has its table and is in a later part, or an entry could end the table
abbrev pub IsViable : HeaderParser → Type 0
IsViable r = elim r.state as (λ _. Type 0) [
  | AtEntry ↦ KeepsAll r.parts.table
  | AtDelta i d u ↦ ⊥
  | InLists e seen ↦ KeepsAll (with_entry r.parts.table e)
  | InTexts e ↦ KeepsAll (with_entry r.parts.table e)
  | InUsers ↦ Unit {0}
  | InFlags ↦ Unit {0}
  | InDescription ↦ Unit {0}
  | AtBody ↦ ⊥
]

-- From line n on some lines complete the header.
pub record HeaderCompletion (n : ℕ) (r : HeaderParser) : Type 0 where
  pub more : List (List ℕ)
  pub read : ParsedFront
  pub whole : front_from n r more ≡ Ok read
