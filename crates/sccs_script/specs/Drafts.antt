-- A text while orders are made on it, by what stands in it.
use Rattle.std.specs.Prelude.{◌≡◌, ◌<◌, ◌≤◌, ℕ, zero, suc, ◌-◌, ◌==◌, false, List, [], ◌∷◌, ◌++◌, map, take, drop}
use Rattle.std.specs.Prelude.{if◌then◌else◌}
use Rattle.sccs_script_laws.specs.Plans.{with_added}
use Rattle.sccs_script_laws.specs.declared.scripts.Added.{Added}
use Rattle.sccs_script_laws.specs.declared.scripts.Order.{Order}
use Rattle.sccs_script_laws.specs.declared.scripts.OrderKind.{OrderKind}
use Rattle.sccs_script_laws.specs.declared.scripts.OrderKind.TheVariants.{Append, Change, Delete}
use Rattle.sccs_script_laws.specs.declared.scripts.Plan.{Plan}
use Rattle.sccs_script.specs.Commands.{is_append}
use Rattle.sccs_script.specs.declared.pieces.Piece.{Piece}
use Rattle.sccs_script.specs.declared.pieces.Piece.TheVariants as pieces

-- a base line that is still there, by its number, or a new line, with the number of the base line that it follows
pub data DraftLine : Type 0 where
  Kept : (number : ℕ) → DraftLine
  Fresh : (after : ℕ) → (text : List ℕ) → DraftLine

-- as many numbers as are counted, from one on
abbrev pub span : ℕ → ℕ → List ℕ
span n zero = []
span n (suc count) = n ∷ span (suc n) count

-- a base of so many lines
abbrev pub draft_base : ℕ → List DraftLine
draft_base count = map Kept (span 1 count)

-- the base line that a line behind these entries follows, where it is `n` in front of them
abbrev pub anchor_from : ℕ → List DraftLine → ℕ
anchor_from n [] = n
anchor_from n (Kept m ∷ entries) = anchor_from m entries
anchor_from n (Fresh m text ∷ entries) = anchor_from m entries

abbrev pub anchor : List DraftLine → ℕ
anchor entries = anchor_from 0 entries

-- new lines behind the first k entries
abbrev pub put_entries : ℕ → List (List ℕ) → List DraftLine → List DraftLine
put_entries k new entries = take k entries ++ (map (Fresh (anchor (take k entries))) new ++ drop k entries)

-- without those from the one with the first number to the one with the last
abbrev pub cut_entries : ℕ → ℕ → List DraftLine → List DraftLine
cut_entries first last entries = take (first - 1) entries ++ drop (last - (first - 1)) (drop (first - 1) entries)

-- what an order makes of them
abbrev pub edit : OrderKind → ℕ → ℕ → List (List ℕ) → List DraftLine → List DraftLine
edit Append first last new entries = put_entries first new entries
edit Delete first last new entries = cut_entries first last entries
edit Change first last new entries = put_entries (first - 1) new (cut_entries first last entries)

-- what orders make of them, one after the other
abbrev pub edited_draft : List Order → List DraftLine → List DraftLine
edited_draft [] entries = entries
edited_draft (order ∷ orders) entries = edited_draft orders (edit order.kind order.first order.last order.lines entries)

-- the numbers below a bound that aren't there, where all below `next` are done with
abbrev pub missing : ℕ → List DraftLine → ℕ → List ℕ
missing next [] bound = span next (bound - next)
missing next (Kept n ∷ entries) bound = span next (n - next) ++ missing (suc n) entries bound
missing next (Fresh n text ∷ entries) bound = missing next entries bound

-- the new lines by the base lines that they follow, where these follow base line k already
abbrev pub grouped : ℕ → List (List ℕ) → List DraftLine → List Added
grouped k texts [] = with_added k texts []
grouped k texts (Kept n ∷ entries) = with_added k texts (grouped n [] entries)
grouped k texts (Fresh n text ∷ entries) = if n == k then grouped k (texts ++ text ∷ []) entries else with_added k texts
    (grouped n (text ∷ []) entries)

-- the plan of what stands in the text at the end
abbrev pub draft_plan : List DraftLine → ℕ → Plan
draft_plan entries count = record { deleted = missing 1 entries (suc count); added = grouped 0 [] entries }

-- the first of lines
abbrev pub first_line : List (List ℕ) → List ℕ
first_line [] = []
first_line (line ∷ lines) = line

-- the line that an entry is
abbrev pub content : List (List ℕ) → DraftLine → List ℕ
content text (Kept n) = first_line (drop (n - 1) text)
content text (Fresh n line) = line

-- the entries of a piece: base lines by their numbers, or one new line
abbrev pub expand : Piece → List DraftLine
expand (pieces.Kept first last) = map Kept (span first (suc last - first))
expand (pieces.Fresh after line) = Fresh after line ∷ []

-- the entries of a stack of pieces, of which the last comes first
abbrev pub unstacked : List Piece → List DraftLine
unstacked [] = []
unstacked (p ∷ ps) = unstacked ps ++ expand p

-- the numbers of base lines rise from 1 on, and there is one
abbrev pub IsPiece : Piece → Type 0
IsPiece (pieces.Kept first last) = (0 < first) × (first ≤ last)
IsPiece (pieces.Fresh after line) = Unit {0}

-- a base line of so many
abbrev pub InBase : ℕ → DraftLine → Type 0
InBase count (Kept n) = (0 < n) × (n ≤ count)
InBase count (Fresh n text) = n ≤ count

-- the base lines of a piece are among so many
abbrev pub IsWithinBase : ℕ → Piece → Type 0
IsWithinBase count (pieces.Kept first last) = last ≤ count
IsWithinBase count (pieces.Fresh after line) = Unit {0}

-- An order names lines that are there.
pub record NamesLines (kind : OrderKind) (first last lines : ℕ) : Type 0 where
  pub some : is_append kind ≡ false → 0 < first
  pub rising : first ≤ last
  pub there : last ≤ lines
