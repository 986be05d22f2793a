-- Prefixes of SIDs: what they are and how they are spelled.
use Rattle.std.specs.Prelude.{ℕ, zero, suc, List, [], ◌∷◌, ◌++◌, Result, Ok, Err}
use Rattle.std.specs.Fmt.{decimal}
use Rattle.sccs_sid.specs.Sid.{IsComponent, IsSid, numbers, sid_of_numbers, sid_text}
use Rattle.sccs_sid.specs.declared.sids.Sid.{Sid}
use Rattle.sccs_sid.specs.declared.sids.Spec.{Spec}
use Rattle.sccs_sid.specs.declared.sids.Spec.TheVariants.{Release, Branch, Full}
use Rattle.sccs_sid.specs.declared.sids.SidFault.{SidFault}
use Rattle.sccs_sid.specs.declared.sids.SidFault.TheVariants.{Malformed, OutOfRange}

-- each number is 1 to 9999
abbrev pub IsSpec : Spec → Type 0
IsSpec (Release r) = IsComponent r
IsSpec (Branch r l b) = IsComponent r × IsComponent l × IsComponent b
IsSpec (Full sid) = IsSid sid

abbrev pub full_of : Result Sid SidFault → Result Spec SidFault
full_of (Ok sid) = Ok (Full sid)
full_of (Err fault) = Err fault

-- one to four numbers, none of them 0
abbrev pub spec_of_numbers : List ℕ → Result Spec SidFault
spec_of_numbers (suc r ∷ []) = Ok (Release (suc r))
spec_of_numbers (zero ∷ []) = Err OutOfRange
spec_of_numbers (suc r ∷ suc l ∷ suc b ∷ []) = Ok (Branch (suc r) (suc l) (suc b))
spec_of_numbers (r ∷ l ∷ b ∷ []) = Err OutOfRange
spec_of_numbers found = full_of (sid_of_numbers found)

abbrev pub spec_by : Result (List ℕ) ℕ → Result Spec SidFault
spec_by (Ok found) = spec_of_numbers found
spec_by (Err left) = Err Malformed

-- what all the bytes spell
unfoldable pub spec_of : List ℕ → Result Spec SidFault
spec_of bytes = spec_by (numbers bytes)

-- the written spelling
unfoldable pub spec_text : Spec → List ℕ
spec_text (Release r) = decimal r
spec_text (Branch r l b) = decimal r ++ (46 ∷ decimal l ++ (46 ∷ decimal b))
spec_text (Full sid) = sid_text sid
