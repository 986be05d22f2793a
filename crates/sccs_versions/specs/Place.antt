-- Where a reader of a version stands.
use Rattle.std.specs.Prelude.{◌≡◌, ℕ, ◌⊎◌, true, List}
use Rattle.sccs_history.specs.Body.{inserter, line_at}
use Rattle.sccs_history.specs.Select.{shows}
use Rattle.sccs_history.specs.declared.headers.Item.{Item}
use Rattle.sccs_body.specs.Reader.{ItemPlace, name_read, at_hand as items_at_hand, steps_left as items_steps}
use Rattle.sccs_body.specs.ToCome.{MayPass}
use Rattle.sccs_versions.specs.Regions.{Holds, OpensRegions}
use Rattle.sccs_versions.specs.declared.regions.Region.{Region}

-- The set, where the items are read, and the regions that are open there.
pub record VersionPlace : Type 0 where
  pub set : List ℕ
  pub items : ItemPlace
  pub regions : List Region

-- how many steps may be left at most
abbrev pub steps_to_end : VersionPlace → ℕ
steps_to_end r = items_steps r.items

-- the file that is read
abbrev pub name_of : VersionPlace → List ℕ
name_of r = name_read r.items

-- so many of the bytes that were read and not given yet
abbrev pub bytes_held : VersionPlace → ℕ → List ℕ
bytes_held r count = items_at_hand r.items count

-- So many bytes that were read are whole lines that may stand and that the set shows.
pub record AreShown (r : VersionPlace) (count : ℕ) : Type 0 where
  pub may : MayPass r.items count
  pub kept : ((set : List ℕ) (before : List Item) (text : List ℕ) → Holds set before r.regions
      → shows set (line_at before text) ≡ true) ⊎ (count ≡ 0)

-- a line behind these items was inserted by this serial
abbrev pub IsInserter : List Region → ℕ → Type 0
IsInserter regions n = (before : List Item) → OpensRegions before regions → n ≡ inserter before

-- What the first reading found of the file stays: its size, and its plain sum.
pub record KeepsFirst (old new : VersionPlace) : Type 0 where
  pub size : new.items.size ≡ old.items.size
  pub sum : new.items.sum ≡ old.items.sum
