use Rattle.std.proofs.Common.{◌≡◌, ◌&&◌, ℕ, List, take}
use Rattle.std.specs.List.{list_any}
use Rattle.std.specs.Str.{bytes_eq}
use Rattle.sccs_base.specs.Name.{is_sfile_name}
use Rattle.sccs_base.specs.NameSets.{names_in}
use Rattle.sccs_operands.proofs.listing.sfiles_among.Given as goal

-- the set has the s-files' names among those so far
abbrev pub invariant-loop-name : goal.invariant-loop-name
invariant-loop-name l = (n : List ℕ) → list_any (bytes_eq n) (names_in l.kept) ≡ (is_sfile_name n && list_any
    (bytes_eq n) (take l.name-index l.names))
