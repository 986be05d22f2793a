-- What several utilities say: the heading of a report where a command has several operands (POSIX get, STDOUT), and the
-- warning on keywords.
use Rattle.std.specs.Prelude.{ℕ, Bool, List, [], ◌∷◌, ◌++◌, codes, if◌then◌else◌}
use Rattle.sccs_tokens.specs.Written.{ended}

-- LF, the name, a colon and LF
abbrev pub heading_text : Bool → List ℕ → List ℕ
heading_text heading n = if heading then 10 ∷ n ++ (58 ∷ 10 ∷ []) else []

-- that a text has no keyword, where it has none
abbrev pub warning : List ℕ → Bool → List ℕ
warning n keyword = if keyword then [] else codes "WARNING [" ++ (n ++ ended (codes "]: no id keywords"))
