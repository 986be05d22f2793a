-- What recovery makes of the files of a name, and views that recover alike.
use Rattle.std.specs.Prelude.{◌≡◌, ◌||◌, ℕ, Bool, List, [], ◌∷◌, take, Option, None, Some, is_some, IsSome}
use Rattle.std.specs.Prelude.{if◌then◌else◌}
use Rattle.std.specs.Str.{bytes_eq}
use Rattle.sccs_base.specs.Name.{IsSFileName, p_file, q_file, x_file, y_file, z_file}
use Rattle.sccs_disk.specs.Files.{Content, View, put}
use Rattle.sccs_pfile.specs.Recovered.{recovered_pfile}
use Rattle.sccs_intents.specs.Intents.{entries_in, fate_in, intent_file}
use Rattle.sccs_intents.specs.declared.intents.Fate.{Fate}
use Rattle.sccs_intents.specs.declared.intents.Fate.TheVariants.{Replaced, Removed}

-- no file under a name
abbrev pub without_name : List ℕ → View → View
without_name k v = put v k None

-- the x-, q- and y-file are gone
abbrev pub cleared : List ℕ → View → View
cleared n v = without_name (y_file n) (without_name (q_file n) (without_name (x_file n) v))

-- the working files are gone, and the entries whose delta is made
abbrev pub cleaned : List ℕ → View → View
cleaned n v = put (cleared n v) (p_file n) (recovered_pfile (v n) (v (p_file n)))

-- The view after recovery of a name that no intent names (own). Where the z-file is there, x, q and y go, entries
-- whose delta is made leave the p-file, and z goes; where it isn't, y goes alone.
abbrev pub recover_alone : List ℕ → View → View
recover_alone n v = if is_some (v (z_file n)) then without_name (z_file n) (cleaned n v) else without_name (y_file n) v

-- what the intent of a view says of a name
abbrev pub fate_at : View → List ℕ → Option Fate
fate_at v n = fate_in (entries_in (v intent_file)) n

-- a new file, where it is there
abbrev pub newer : Option Content → Option Content → Option Content
newer None old = old
newer (Some new) old = Some new

-- the p-file of a name that an intent names
abbrev pub fated : Fate → Option Content → Option Content → Option Content
fated Replaced q p = newer q p
fated Removed q p = None

-- The view after recovery of a name that an intent names (own): a new s-file that is there takes its place, and so
-- does a new p-file, or the p-file goes; x, q, y and z go.
abbrev pub recover_named : List ℕ → Fate → View → View
recover_named n fate v =
    without_name (z_file n)
    (cleared n (put (put v n (newer (v (x_file n)) (v n))) (p_file n) (fated fate (v (q_file n)) (v (p_file n)))))

abbrev pub recover_by : List ℕ → View → Option Fate → View
recover_by n v None = recover_alone n v
recover_by n v (Some fate) = recover_named n fate v

-- the view after recovery of a name
abbrev pub recover : List ℕ → View → View
recover n v = recover_by n v (fate_at v n)

-- an s-file and its p-file
pub record Pair : Type 0 where
  pub s : Option Content
  pub p : Option Content

abbrev pub pair_of : View → List ℕ → Pair
pair_of v n = record { s = v n; p = v (p_file n) }

-- w recovers to the s-files and p-files to which v recovers
abbrev pub RecoversAs : View → View → Type 0
RecoversAs v w = (n : List ℕ) → IsSFileName n → pair_of (recover n w) n ≡ pair_of (recover n v) n

-- recovery leaves the pair as it is
abbrev pub IsSettledPair : Pair → Type 0
IsSettledPair x = recovered_pfile x.s x.p ≡ x.p

-- No entry of the p-file has its delta in the s-file, so that recovery would leave the p-file as it is; and no intent
-- names the name.
pub record IsSound (n : List ℕ) (v : View) : Type 0 where
  pub entries : recovered_pfile (v n) (v (p_file n)) ≡ v (p_file n)
  pub unnamed : fate_at v n ≡ None

-- the z-file of the name is there where an intent names it
abbrev pub IsHeldAt : List ℕ → View → Type 0
IsHeldAt n v = IsSome (fate_at v n) → IsSome (v (z_file n))

-- a name begins with this letter and a dot
abbrev pub begins_by_letter : ℕ → List ℕ → Bool
begins_by_letter letter k = bytes_eq (take 2 k) (letter ∷ 46 ∷ [])

-- the names that s-files, p-files, z-files, x-files and q-files have begin so; and the intent's name
abbrev pub is_kept : List ℕ → Bool
is_kept k =
    begins_by_letter 115 k || (begins_by_letter 112 k || (begins_by_letter 122 k || (begins_by_letter 120 k ||
    (begins_by_letter 113 k || bytes_eq k intent_file))))
