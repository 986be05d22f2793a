-- SIDs: what they are, how they are spelled, and their one written spelling.
use Rattle.std.specs.Prelude.{◌≡◌, ℕ, zero, suc, ◌<◌, List, [], ◌∷◌, ◌++◌, Result, Ok, Err}
use Rattle.std.specs.Fmt.{decimal}
use Rattle.sccs_sid.specs.Reading.{◌>>=◌, number_at, byte_at}
use Rattle.sccs_sid.specs.declared.sids.Sid.{Sid}
use Rattle.sccs_sid.specs.declared.sids.SidFault.{SidFault}
use Rattle.sccs_sid.specs.declared.sids.SidFault.TheVariants.{Malformed, OutOfRange}

-- a component: 1 to 9999
abbrev pub IsComponent : ℕ → Type 0
IsComponent n = (0 < n) × (n < 10000)

-- on the trunk branch and sequence are 0, else both are components
abbrev pub IsBranch : ℕ → ℕ → Type 0
IsBranch zero sequence = sequence ≡ 0
IsBranch (suc b) sequence = (suc b < 10000) × IsComponent sequence

-- A SID: release and level, and on a branch its number and the sequence.
pub record IsSid (sid : Sid) : Type 0 where
  pub release : IsComponent sid.release
  pub level : IsComponent sid.level
  pub branch : IsBranch sid.branch sid.sequence

-- the end, or a dot and more numbers
abbrev pub ended_sid : (List ℕ → List ℕ → Result (List ℕ) ℕ) → List ℕ → List ℕ → Result (List ℕ) ℕ
ended_sid more found [] = Ok found
ended_sid more found (b ∷ bytes) = byte_at 46 (b ∷ bytes) >>= more found

-- after the numbers that were found, one to `most` more of one to four digits with a dot between two
unfoldable pub numbers_after : ℕ → List ℕ → List ℕ → Result (List ℕ) ℕ
numbers_after zero found bytes = Err 0
numbers_after (suc most) found bytes = do
  n ← number_at 4 bytes
  ended_sid (numbers_after most) (found ++ n.0 ∷ []) n.1

-- one to four numbers of one to four digits with a dot between two
abbrev pub numbers : List ℕ → Result (List ℕ) ℕ
numbers bytes = numbers_after 4 [] bytes

-- two or four numbers, none of them 0
abbrev pub sid_of_numbers : List ℕ → Result Sid SidFault
sid_of_numbers (suc r ∷ suc l ∷ []) = Ok (record { release = suc r; level = suc l; branch = 0; sequence = 0 })
sid_of_numbers (r ∷ l ∷ []) = Err OutOfRange
sid_of_numbers (suc r ∷ suc l ∷ suc b ∷ suc s ∷ []) =
    Ok (record { release = suc r; level = suc l; branch = suc b; sequence = suc s })
sid_of_numbers (r ∷ l ∷ b ∷ s ∷ []) = Err OutOfRange
sid_of_numbers _ = Err Malformed

abbrev pub sid_by : Result (List ℕ) ℕ → Result Sid SidFault
sid_by (Ok found) = sid_of_numbers found
sid_by (Err left) = Err Malformed

-- the SID that all the bytes spell
unfoldable pub sid_of : List ℕ → Result Sid SidFault
sid_of bytes = sid_by (numbers bytes)

abbrev pub branch_text : ℕ → ℕ → List ℕ
branch_text zero sequence = []
branch_text (suc b) sequence = 46 ∷ decimal (suc b) ++ (46 ∷ decimal sequence)

-- the written spelling
unfoldable pub sid_text : Sid → List ℕ
sid_text sid = decimal sid.release ++ (46 ∷ decimal sid.level ++ branch_text sid.branch sid.sequence)
