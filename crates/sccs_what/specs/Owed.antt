-- How far a search has come, and what it owes for the bytes to come: so that a mark or a text may lie across two
-- pieces.
use Rattle.std.specs.Prelude.{◌≡◌, ℕ, ◌+◌, ◌*◌, ◌≤◌, Bool, true, false, ◌||◌, List, [], ◌∷◌, ◌++◌, length, drop, nat_lt}
use Rattle.std.specs.Prelude.{Option, if◌then◌else◌, Result, IfOk, OnErr}
use Rattle.sccs_base.specs.Constants.{lf}
use Rattle.sccs_base.specs.Stream.{Buffers, GivesSome}
use Rattle.sccs_base.specs.declared.streams.Failed.{Failed}
use Rattle.sccs_sid.specs.Reading.{is_empty}
use Rattle.sccs_what.specs.Texts.{is_found, marked_lines, until_end}
use Rattle.sccs_what.specs.declared.searches.Search.{Search}
use Rattle.sccs_what.specs.declared.searches.Search.TheVariants.{Unfound, Giving, Found}

-- the bytes from the one on that ends a text
abbrev pub behind_text : List ℕ → List ℕ
behind_text bytes = drop (length (until_end bytes)) bytes

-- what is printed of bytes behind a text: with -s nothing
abbrev pub later_lines : Bool → List ℕ → List ℕ
later_lines first bytes = if first then [] else marked_lines first bytes

-- what is still to be printed of the bytes to come
abbrev pub what_owed : Bool → Search → List ℕ → List ℕ
what_owed first Unfound bytes = marked_lines first bytes
what_owed first Giving bytes = until_end bytes ++ (lf ∷ later_lines first (behind_text bytes))
what_owed first Found bytes = later_lines first bytes

-- whether something is found with those to come
abbrev pub finds : Search → List ℕ → Bool
finds Unfound bytes = is_found bytes
finds Giving bytes = true
finds Found bytes = true

-- nothing more is to be found without the bytes that come behind these
abbrev pub search_is_over : Bool → Search → List ℕ → Bool
search_is_over first Unfound bytes = nat_lt (length bytes) 4
search_is_over first Giving bytes = is_empty bytes
search_is_over first Found bytes = first || nat_lt (length bytes) 4

-- nothing more is wanted of the file
abbrev pub search_is_done : Bool → Search → Bool
search_is_done first Unfound = false
search_is_done first Giving = false
search_is_done first Found = first

-- where the file ends, a text that is being given ends too
abbrev pub last_end : Search → List ℕ
last_end Unfound = []
last_end Giving = lf ∷ []
last_end Found = []

-- a step takes bytes, or ends a text
abbrev pub work_left : Search → List ℕ → ℕ
work_left Unfound bytes = 2 * length bytes
work_left Giving bytes = 2 * length bytes + 1
work_left Found bytes = 2 * length bytes

-- Some bytes at the front of a piece were searched: what was printed and what is owed then are what was owed.
pub record Searches (first : Bool) (bytes : List ℕ) (used : ℕ) (s s2 : Search) (held held2 : List ℕ)
    (a b : Option (List ℕ)) : Type 0 where
  pub text : List ℕ
  pub gives : Buffers held text held2 a b
  pub owes : (rest : List ℕ) → text ++ what_owed first s2 (drop used bytes ++ rest) ≡ what_owed first s (bytes ++ rest)
  pub keeps : (rest : List ℕ) → finds s2 (drop used bytes ++ rest) ≡ finds s (bytes ++ rest)
  pub within : used ≤ length bytes

-- What searching bytes answers and gives: how many were searched; where the sink failed, a prefix of what was owed.
pub record SearchesPiece (first : Bool) (bytes : List ℕ) (s s2 : Search) (held held2 : List ℕ) (a b : Option (List ℕ))
    (r : Result ℕ Failed) : Type 0 where
  pub ok : IfOk r (λ used. Searches first bytes used s s2 held held2 a b)
  pub err : OnErr r ((rest : List ℕ) → GivesSome a b (held ++ what_owed first s (bytes ++ rest)))
  pub empty : OnErr r (held2 ≡ [])

-- something was found
abbrev pub was_found : Search → Bool
was_found Unfound = false
was_found Giving = true
was_found Found = true
