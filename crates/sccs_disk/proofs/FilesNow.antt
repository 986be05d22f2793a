-- Files in memory, where one of them changes.
use Rattle.std.proofs.Common.{◌≡◌, ℕ, zero, suc, ◌<◌, List, [], ◌∷◌, length, map, set, get_or, Some, ap, ◌∙◌, arith}
use Rattle.std.proofs.Math.Seq.{map-set_same}
use Rattle.sccs_disk.specs.Files.{File, Names}
use Rattle.sccs_disk.specs.Effects.{change, change_at}
use Rattle.sccs_disk.specs.States.{State, stored}
use Rattle.sccs_disk.specs.declared.changes.StoredFile.{StoredFile}

abbrev state_with : Names → List File → State
state_with names files = record { files = files; names = names }

changed_at : (files : List StoredFile) (p : ℕ) (old new : StoredFile) (g : File → File) → p < length files
    → old ≡ get_or files p old → stored new ≡ g (stored old)
    → map stored (set files p new) ≡ change_at (map stored files) p g
changed_at [] p old new g low is now = absurd (omega arith)
changed_at (f ∷ files) zero old new g low is now = ap (λ x. x ∷ map stored files) (now ∙ ap (λ x. g (stored x)) is)
changed_at (f ∷ files) (suc p) old new g low is now = ap (λ l. stored f ∷ l) (changed_at files p old new g
    (omega arith) is now)

-- the file under a name is changed
pub file_made : (files : List StoredFile) (names : Names) (n : List ℕ) (p : ℕ) (old new : StoredFile) (g : File → File)
    → Some p ≡ names n → p < length files → old ≡ get_or files p old
    → stored new ≡ g (stored old) → state_with names (map stored (set files p new)) ≡ state_with names
    (change (map stored files) (names n) g)
file_made files names n p old new g at low is now =
    ap (state_with names) (changed_at files p old new g low is now ∙ ap (λ q. change (map stored files) q g) at)

pub file_kept : (files : List StoredFile) (names : Names) (p : ℕ) (old new : StoredFile) → old ≡ get_or files p old
    → stored new ≡ stored old
    → state_with names (map stored (set files p new)) ≡ state_with names (map stored files)
file_kept files names p old new is now =
    ap (state_with names) (map-set_same stored files p new old (now ∙ ap stored is))
