-- What is left of a step in which the disk failed: the first of its files are new, in the order of a commit.
use Rattle.std.specs.Prelude.{ℕ, zero, suc, true, List, Option, None, Some}
use Rattle.sccs_base.specs.Name.{p_file}
use Rattle.sccs_disk.specs.Files.{View, put}
use Rattle.sccs_name_files.specs.StepFiles.{Files, Moves, early_moved, is_left, moved}

-- the view after none or some first of a step's files in their order: l-file, s-file, p-file, and then the g-file
abbrev pub first_moved : ℕ → View → List ℕ → Option Files → View
first_moved zero v n new = v
first_moved (suc zero) v n new = early_moved true v n new
first_moved (suc (suc zero)) v n None = v
first_moved (suc (suc zero)) v n (Some f) = put (early_moved true v n (Some f)) n f.s
first_moved (suc (suc (suc zero))) v n None = v
first_moved (suc (suc (suc zero))) v n (Some f) = put (put (early_moved true v n (Some f)) n f.s) (p_file n) f.p
first_moved (suc (suc (suc (suc i)))) v n new = moved v n new

-- what is told is the view after some first of them, but for working files and the z-file
abbrev pub MovesInOrder : List ℕ → Option Files → Option View → Option View → Type 0
MovesInOrder n new old told = (i : ℕ) × Moves (is_left n) (λ v. first_moved i v n new) old told
