-- The open regions as they are kept, the greatest serial last.
use Rattle.std.specs.Prelude.{◌≡◌, ℕ, zero, suc, ◌<◌, Bool, List, [], ◌∷◌, ⊤, Option, None, Some, Result, Ok, Err}
use Rattle.sccs_versions.specs.Regions.{AreSorted, keeps}
use Rattle.sccs_versions.specs.declared.regions.Region.{Region}

-- regions, the least first, on those below them, as one list with the greatest first
abbrev pub stacked : List Region → List Region → List Region
stacked regions [] = regions
stacked regions (e ∷ es) = stacked (e ∷ regions) es

-- the serial of the first region
abbrev pub first_serial : List Region → Option ℕ
first_serial [] = None
first_serial (r ∷ rs) = Some r.serial

-- They are all below a serial, if they are sorted.
abbrev pub IsLow : ℕ → List Region → Type 0
IsLow n [] = ⊤
IsLow n (r ∷ rs) = r.serial < n

-- the regions behind the first
abbrev pub after_first_region : List Region → List Region
after_first_region [] = []
after_first_region (r ∷ rs) = rs

-- The regions are in order, and this is whether lines are kept in them.
pub record AreAnswered (regions : List Region) (keep : Bool) : Type 0 where
  pub sorted : AreSorted (stacked [] regions)
  pub keep_is : keep ≡ keeps (stacked [] regions)

-- The regions are all above a serial.
abbrev pub AreAbove : ℕ → List Region → Type 0
AreAbove n [] = ⊤
AreAbove n (e ∷ es) = (n < e.serial) × AreAbove n es

-- At this place the serial stands, and those behind are above it.
abbrev pub StandsAt : ℕ → ℕ → List Region → Type 0
StandsAt n i [] = ⊥
StandsAt n zero (e ∷ es) = (e.serial ≡ n) × AreAbove n es
StandsAt n (suc i) (e ∷ es) = StandsAt n i es

-- Those before this place are below the serial, those from it on above.
abbrev pub FitsAt : ℕ → ℕ → List Region → Type 0
FitsAt n zero es = AreAbove n es
FitsAt n (suc i) [] = ⊤
FitsAt n (suc i) (e ∷ es) = (e.serial < n) × FitsAt n i es

-- the place of a serial, or the one where it would stand
abbrev pub IsPlace : ℕ → List Region → Result ℕ ℕ → Type 0
IsPlace n es (Ok i) = StandsAt n i es
IsPlace n es (Err i) = FitsAt n i es
