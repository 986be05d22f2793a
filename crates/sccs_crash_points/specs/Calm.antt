-- Disks on which a stop loses nothing.
use Rattle.std.specs.Prelude.{◌≡◌, ℕ, List, None, Some, IsSome}
use Rattle.sccs_base.specs.Name.{IsSFileName, p_file, q_file, x_file}
use Rattle.sccs_disk.specs.Files.{View, Model, view_of}
use Rattle.sccs_disk.specs.Images.{Allows, IsFirm}
use Rattle.sccs_intents.specs.Intents.{intent_file}
use Rattle.sccs_intents.specs.declared.intents.Fate.TheVariants.{Replaced}
use Rattle.sccs_crash_points.specs.Recovery.{RecoversAs, fate_at, pair_of}

-- w has the intent, the s-files and the p-files of v, and recovers as v does
pub record KeepsPairs (v w : View) : Type 0 where
  pub intent : w intent_file ≡ v intent_file
  pub pairs : (n : List ℕ) → IsSFileName n → pair_of w n ≡ pair_of v n
  pub recovers : RecoversAs v w

-- a stop leaves the intent, the s-files and p-files of the view, and what recovers as the view does
abbrev pub IsCalm : Model → Type 0
IsCalm m = Allows (KeepsPairs (view_of m)) m

-- S-files, p-files and the intent are firm, and so are the new files of each name of the intent.
pub record HasFirm (m : Model) : Type 0 where
  pub s_files : (n : List ℕ) → IsSFileName n → IsFirm n m
  pub p_files : (n : List ℕ) → IsSFileName n → IsFirm (p_file n) m
  pub intent : IsFirm intent_file m
  pub x_files : (n : List ℕ) → IsSFileName n → IsSome (fate_at (view_of m) n) → IsFirm (x_file n) m
  pub q_files : (n : List ℕ) → IsSFileName n → fate_at (view_of m) n ≡ Some Replaced → IsFirm (q_file n) m

-- a stop leaves no intent that names the name
abbrev pub IsUnnamed : List ℕ → Model → Type 0
IsUnnamed n m = Allows (λ w. fate_at w n ≡ None) m
