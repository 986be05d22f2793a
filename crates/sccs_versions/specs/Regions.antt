-- The regions that are open at a place of a body, the greatest serial first.
use Rattle.std.specs.Prelude.{◌≡◌, ℕ, nat_lt, ◌==◌, Bool, true, false, not, ◌&&◌, List, [], ◌∷◌, map, Option, None}
use Rattle.std.specs.Prelude.{Some, if◌then◌else◌}
use Rattle.std.specs.List.{AllByRecursion}
use Rattle.sccs_history.specs.Numbers.{has, IsFalling}
use Rattle.sccs_history.specs.Body.{Mark, Closed, ByInsert, ByDelete, mark}
use Rattle.sccs_history.specs.declared.headers.Item.{Item}
use Rattle.sccs_history.specs.declared.headers.Item.TheVariants.{Text, Insert, Delete, End}
use Rattle.sccs_versions.specs.declared.regions.Region.{Region}

-- their serials
abbrev pub region_serials : List Region → List ℕ
region_serials regions = map (λ r. r.serial) regions

-- each serial stands at most once, the greatest first
abbrev pub AreSorted : List Region → Type 0
AreSorted regions = IsFalling (region_serials regions)

-- how a region was opened
abbrev pub region_mark : Region → Mark
region_mark r = if r.inserts then ByInsert else ByDelete

-- how a serial stands in the open regions
abbrev pub serial_mark : ℕ → List Region → Mark
serial_mark n [] = Closed
serial_mark n (r ∷ rs) = if r.serial == n then region_mark r else serial_mark n rs

-- regions behind another one, where there is one
abbrev pub behind_one : Option Region → List Region → List Region
behind_one None regions = regions
behind_one (Some q) regions = q ∷ regions

-- the regions with another one, or none, in the place of that of a serial
abbrev pub replaced_region : ℕ → Option Region → List Region → List Region
replaced_region n new [] = behind_one new []
replaced_region n new (r ∷ rs) = if nat_lt n r.serial then r ∷ replaced_region n new rs
    else behind_one new (if r.serial == n then rs else r ∷ rs)

-- the regions with one more, in the place of an open one of its serial
abbrev pub with_region : Region → List Region → List Region
with_region q regions = replaced_region q.serial (Some q) regions

-- the regions without that of a serial
abbrev pub without_region : ℕ → List Region → List Region
without_region n regions = replaced_region n None regions

-- the regions behind one more item, for a set
abbrev pub regions_after : List ℕ → Item → List Region → List Region
regions_after set (Text text) regions = regions
regions_after set (Insert n) regions = with_region (record { serial = n; inserts = true; applied = has set n }) regions
regions_after set (Delete n) regions = with_region (record { serial = n; inserts = false; applied = has set n }) regions
regions_after set (End n) regions = without_region n regions

-- The regions are those that are open behind these items.
abbrev pub OpensRegions : List Item → List Region → Type 0
OpensRegions before regions = (n : ℕ) → serial_mark n regions ≡ mark n before

-- They are, each with whether its serial is in the set; and 0 is no serial of the set.
pub record Holds (set : List ℕ) (before : List Item) (regions : List Region) : Type 0 where
  pub opens : OpensRegions before regions
  pub applied : AllByRecursion (λ r. r.applied ≡ has set r.serial) regions
  pub no_zero : has set 0 ≡ false

-- the serial of the first region by Insert, 0 where there is none
abbrev pub first_insert : List Region → ℕ
first_insert [] = 0
first_insert (r ∷ rs) = if r.inserts then r.serial else first_insert rs

-- the first region by Insert is applied, and none of those by Delete before it is
abbrev pub keeps : List Region → Bool
keeps [] = false
keeps (r ∷ rs) = if r.inserts then r.applied else (not r.applied && keeps rs)
