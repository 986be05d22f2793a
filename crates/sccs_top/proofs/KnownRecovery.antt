-- What recover does is known where the disk tells what recovers as the folder does, be it calm or not.
use Rattle.std.proofs.Common.{◌≡◌, ℕ, true, List, Option, IfSome, Some, Result, Ok, inr, refl, sym, subst}
use Rattle.sccs_disk.specs.Files.{Folder, View, view_in}
use Rattle.sccs_disk.specs.Told.{Told, seen}
use Rattle.sccs_crash_points.specs.Recovery.{RecoversAs}
use Rattle.sccs_words.specs.declared.commands.Command.TheVariants as c
use Rattle.sccs_words.specs.declared.commands.Usage.{Usage}
use Rattle.sccs_step_lists.specs.Following.{AreKnown, RecoversTold}
use Rattle.sccs_top.specs.declared.asking.Asked.{Asked}
use Rattle.sccs_top.specs.declared.asking.Asked.TheVariants as ask
use Rattle.sccs_top.specs.Runs.{Caller, run_portions, words_recover}

pub recovery_known : (who : Caller) (words : Result Asked Usage) (told : Told) (folder : Folder) (i : List ℕ)
    → words_recover words ≡ true → RecoversTold told folder → AreKnown told folder (run_portions who words folder i)
recovery_known who (Ok (ask.One (c.Recover operands))) told folder i is recovers = inr (inr (recovers, (refl, tt)))
recovery_known who words told folder i is recovers = absurd cc

-- a folder that is told recovers as itself
pub told_exactly : (told : Told) (folder : Folder) → seen told ≡ Some (view_in folder) → RecoversTold told folder
told_exactly told folder is = subst (λ (o : Option View). IfSome o (λ (u : View). RecoversAs (view_in folder) u))
    (sym is) (λ n sfile. refl)
