-- The items of a body that is read again.
use Rattle.std.proofs.Common.{◌≡◌, ℕ, false, List, Option, None, Some, option_map, Result, Ok, Err, ap, ◌∙◌}
use Rattle.std.specs.Str.{bytes_eq}
use Rattle.sccs_disk.specs.Files.{Content, View}
use Rattle.sccs_name_files.specs.StepFiles.{Moves}
use Rattle.sccs_table.specs.ReaderState.{bytes_in}
use Rattle.sccs_history.specs.declared.headers.Item.{Item}
use Rattle.sccs_grammar.specs.declared.faults.FileFault.{FileFault}
use Rattle.sccs_grammar.specs.declared.faults.FileFault.TheVariants as faults
use Rattle.sccs_body.specs.Reader.{ItemPlace}
use Rattle.sccs_body.specs.ToCome.{GivesNext, ToCome}
use Rattle.sccs_copies.specs.Copies.{CopyComes, IsFaultAroundCopy}
use Rattle.sccs_copies.specs.Filters.{Filter}
use Rattle.sccs_copies.specs.declared.copies.Copying.{Copying}
use Rattle.sccs_versions.proofs.ItemLaws.{never}

-- the bytes of another file stay
pub bytes_stay : (n k file : List ℕ) (o o2 : Option View) → bytes_eq n k ≡ false → Moves (bytes_eq n) (λ v. v) o o2
    → bytes_in o k ≡ Some file → bytes_in o2 k ≡ Some file
bytes_stay n k file None o2 other moves is = absurd cc
bytes_stay n k file (Some u) None other moves is = absurd moves
bytes_stay n k file (Some u) (Some v) other moves is =
    ap (λ (o : Option Content). option_map (λ (c : Content). c.bytes) o) (moves k other) ∙ is

-- what a reader of items says of a told file
abbrev pub Given : List ℕ → ItemPlace → ItemPlace → Result (Option Item) FileFault → Type 0
Given file old new result = (live : List ℕ) (before : List Item) (found : Result (List Item) ℕ)
    → ToCome file live before found old → GivesNext file live before found new result

fault_given : (file live : List ℕ) (before rest : List Item) (place2 : ItemPlace) (fault : FileFault)
    → GivesNext file live before (Ok rest) place2 (Err fault) → IsFaultAroundCopy fault
fault_given file live before rest place2 faults.Failed given = tt
fault_given file live before rest place2 faults.Memory given = tt
fault_given file live before rest place2 (faults.BadFormat line) given = never rest line given
fault_given file live before rest place2 faults.Missing given = given
fault_given file live before rest place2 faults.TooLong given = given
fault_given file live before rest place2 faults.NotSccs given = given
fault_given file live before rest place2 (faults.BadSum stored sum) given = given
fault_given file live before rest place2 faults.Encoded given = given
fault_given file live before rest place2 (faults.Changed a b c d) given = given

-- over a told body that is whole only the disk or memory can end it
pub item_fault : {F : Type 0} (filter : Filter F) (file : List ℕ) (items : List Item) (c : Copying F)
    (place : ItemPlace) (fault : FileFault) → Given file c.items place (Err fault) → CopyComes filter file items c
    → IsFaultAroundCopy fault
item_fault filter file items c place fault given p = fault_given file p.live p.before p.rest place fault
    (given p.live p.before (Ok p.rest) p.comes)
