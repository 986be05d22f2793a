-- The users of a file, with others and without some: POSIX, admin -a and -e; sccsfile(4), "User names".
use Rattle.std.specs.Prelude.{ℕ, ◌==◌, Bool, not, ◌&&◌, List, [], ◌∷◌, ◌++◌, filter, fold, if◌then◌else◌}
use Rattle.std.specs.List.{list_any}
use Rattle.std.specs.Str.{bytes_eq}
use Rattle.sccs_base.specs.Constants.{lf}
use Rattle.sccs_sid.specs.SidLists.{begins}

-- some byte is LF
abbrev pub has_lf : List ℕ → Bool
has_lf bytes = list_any (λ b. b == lf) bytes

-- a name that can stand in a line of its own, as each one does that a command names
abbrev pub is_own_line : List ℕ → Bool
is_own_line name = not (begins 1 name) && not (has_lf name)

-- a name is added last, unless it is there
abbrev pub with_user : List (List ℕ) → List ℕ → List (List ℕ)
with_user users name = if is_own_line name && not (list_any (bytes_eq name) users) then users ++ name ∷ [] else users

-- every line of these names goes
abbrev pub without_users : List (List ℕ) → List (List ℕ) → List (List ℕ)
without_users erased users = filter (λ user. not (list_any (bytes_eq user) erased)) users

-- names are added in their order, and then others go
abbrev pub changed_users : List (List ℕ) → List (List ℕ) → List (List ℕ) → List (List ℕ)
changed_users users added erased = without_users erased (fold with_user users added)
