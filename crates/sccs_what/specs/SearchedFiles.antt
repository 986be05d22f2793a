-- A file that is searched in pieces.
use Rattle.std.specs.Prelude.{◌≡◌, ℕ, ◌+◌, Bool, List, [], ◌∷◌, ◌++◌, drop, Option, None, Some, Result, Ok, Err}
use Rattle.sccs_base.specs.Constants.{lf}
use Rattle.sccs_base.specs.Stream.{Buffers, GivesOk, GivesSome}
use Rattle.sccs_sid.specs.declared.refusals.StepFault.{StepFault}
use Rattle.sccs_sid.specs.declared.refusals.StepFault.TheVariants.{Memory, WriteFault, DiskFault}
use Rattle.sccs_what.specs.Texts.{is_found, marked_lines, what_text}
use Rattle.sccs_what.specs.Owed.{Searches, finds, last_end, what_owed, was_found}
use Rattle.sccs_what.specs.declared.searches.Search.{Search}

-- The bytes that are left of a file were searched at their front, and the search goes on at a later place.
pub record SearchGoesOn (first : Bool) (left : List ℕ) (from next : ℕ) (s s2 : Search) (held held2 : List ℕ)
    (a b : Option (List ℕ)) : Type 0 where
  pub used : ℕ
  pub place : next ≡ from + used
  pub searches : Searches first left used s s2 held held2 a b

-- They were searched, and nothing more is to be found.
pub record ComesToEnd (first : Bool) (left : List ℕ) (s s2 : Search) (held held2 : List ℕ)
    (a b : Option (List ℕ)) : Type 0 where
  pub used : ℕ
  pub searches : Searches first left used s s2 held held2 a b
  pub owes : what_owed first s2 (drop used left) ≡ last_end s2
  pub found : finds s2 (drop used left) ≡ was_found s2

-- Nothing was searched or given.
pub record Rests (s s2 : Search) (held held2 : List ℕ) (a b : Option (List ℕ)) : Type 0 where
  pub same_search : s2 ≡ s
  pub same_held : held2 ≡ held
  pub same_given : b ≡ a

-- what the search of a piece leaves of the bytes that are left
abbrev pub SearchesPiece : Bool → List ℕ → ℕ → Search → Search → List ℕ → List ℕ → Option (List ℕ) → Option (List ℕ)
    → Result (Option ℕ) StepFault → Type 0
SearchesPiece first left from s s2 held held2 a b (Ok (Some next)) = SearchGoesOn first left from next s s2 held held2 a
    b
SearchesPiece first left from s s2 held held2 a b (Ok None) = ComesToEnd first left s s2 held held2 a b
SearchesPiece first left from s s2 held held2 a b (Err WriteFault) = GivesSome a b (held ++ what_owed first s left)
    × (held2 ≡ [])
SearchesPiece first left from s s2 held held2 a b (Err DiskFault) = Rests s s2 held held2 a b
SearchesPiece first left from s s2 held held2 a b (Err _) = ⊥

-- the end of a text that was being given is given, and whether something was found is answered
abbrev pub FinishesSearch : Search → List ℕ → List ℕ → Option (List ℕ) → Option (List ℕ) → Result Bool StepFault
    → Type 0
FinishesSearch s held held2 a b (Ok found) = Buffers held (last_end s) held2 a b × (found ≡ was_found s)
FinishesSearch s held held2 a b (Err WriteFault) = GivesSome a b (held ++ last_end s) × (held2 ≡ [])
FinishesSearch s held held2 a b (Err _) = ⊥

-- A part of a text was given, and nothing else.
pub record GivesPart (text held held2 : List ℕ) (a b : Option (List ℕ)) : Type 0 where
  pub part : List ℕ
  pub more : List ℕ
  pub gives : Buffers held part held2 a b
  pub split : part ++ more ≡ text

-- what the search of a file answers and gives
abbrev pub SearchesFile : Bool → List ℕ → List ℕ → List ℕ → Option (List ℕ) → Option (List ℕ) → Result Bool StepFault
    → Type 0
SearchesFile first bytes held held2 a b (Ok found) = Buffers held (marked_lines first bytes) held2 a b
    × (found ≡ is_found bytes)
SearchesFile first bytes held held2 a b (Err WriteFault) =
    GivesSome a b (held ++ marked_lines first bytes) × (held2 ≡ [])
SearchesFile first bytes held held2 a b (Err DiskFault) = GivesPart (marked_lines first bytes) held held2 a b
SearchesFile first bytes held held2 a b (Err _) = ⊥

-- the line before the texts
abbrev pub heading : List ℕ → List ℕ
heading n = n ++ (58 ∷ lf ∷ [])

-- what is printed of a file, and whether something was found
abbrev pub PrintsTexts : Bool → List ℕ → List ℕ → Option (List ℕ) → Option (List ℕ) → Result Bool StepFault → Type 0
PrintsTexts first n bytes a b (Ok found) = GivesOk a b (what_text first n bytes) × (found ≡ is_found bytes)
PrintsTexts first n bytes a b (Err Memory) = b ≡ a
PrintsTexts first n bytes a b (Err WriteFault) = GivesSome a b (what_text first n bytes)
PrintsTexts first n bytes a b (Err DiskFault) = GivesSome a b (what_text first n bytes)
PrintsTexts first n bytes a b (Err _) = ⊥
