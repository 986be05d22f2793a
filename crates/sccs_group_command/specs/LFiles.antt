-- The l-file passes through delta's step: steps that differ in it alone.
use Rattle.std.specs.Prelude.{◌≡◌, ℕ, List, drop, Option, option_map, Ok, Err}
use Rattle.sccs_base.specs.Name.{p_file, z_file}
use Rattle.sccs_disk.specs.Files.{Content, View}
use Rattle.sccs_name_files.specs.StepFiles.{Files}
use Rattle.sccs_steps.specs.StepEffects.{Outcome, StepEffect}

-- the same files, but for this l-file
abbrev pub files_with_l : Option Content → Files → Files
files_with_l l f = record f { l = l }

-- the same effect, where files change with this l-file among them
abbrev pub effect_with_l : Option Content → StepEffect → StepEffect
effect_with_l l effect = record effect { new = option_map (files_with_l l) effect.new }

-- the same outcome, a refusal as it is
abbrev pub with_l : Option Content → Outcome → Outcome
with_l l (Ok effect) = Ok (effect_with_l l effect)
with_l l (Err refusal) = Err refusal

-- Two views have the same s-file, p-file, z-file and g-file of a name.
pub record AgreeButL (n : List ℕ) (u v : View) : Type 0 where
  pub s : v n ≡ u n
  pub p : v (p_file n) ≡ u (p_file n)
  pub z : v (z_file n) ≡ u (z_file n)
  pub g : v (drop 2 n) ≡ u (drop 2 n)
