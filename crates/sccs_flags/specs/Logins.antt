-- Who may make deltas (sccsfile(4), "User names"; POSIX, admin -a). That a group's number lets in only a login that is
-- spelled so is own.
use Rattle.std.specs.Prelude.{ℕ, ◌==◌, Bool, false, not, ◌&&◌, ◌||◌, List, [], ◌∷◌}
use Rattle.std.specs.List.{list_all, list_any}
use Rattle.std.specs.Str.{bytes_eq}

-- a line `!NAME`
abbrev pub is_denial : List ℕ → Bool
is_denial [] = false
is_denial (b ∷ name) = b == 33

-- it keeps the login out
abbrev pub denies : List ℕ → List ℕ → Bool
denies login [] = false
denies login (b ∷ name) = b == 33 && bytes_eq name login

-- another line, the login itself, lets it in
abbrev pub admits : List ℕ → List ℕ → Bool
admits login user = not (is_denial user) && bytes_eq user login

-- no line keeps the login out, and the list of the other names is empty or holds it
abbrev pub is_allowed : List (List ℕ) → List ℕ → Bool
is_allowed users login =
    not (list_any (denies login) users) && (list_all is_denial users || list_any (admits login) users)
