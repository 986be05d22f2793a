-- The one written spelling of a p-file (System V, p-file; POSIX, get -e).
use Rattle.std.specs.Prelude.{ℕ, List, [], ◌∷◌, ◌++◌, flat_map}
use Rattle.sccs_sid.specs.Sid.{sid_text}
use Rattle.sccs_sid.specs.SidLists.{list_text}
use Rattle.sccs_sid.specs.Moment.{moment_text}
use Rattle.sccs_sid.specs.declared.sid_lists.Range.{Range}
use Rattle.sccs_tokens.specs.Written.{ended}
use Rattle.sccs_pfile.specs.declared.entries.Edit.{Edit}

-- a list behind its option, where it isn't empty
abbrev pub option_text : List ℕ → List Range → List ℕ
option_text option [] = []
option_text option (range ∷ ranges) = option ++ list_text (range ∷ ranges)

-- blank, -i and blank, -x
abbrev pub include_option : List ℕ
include_option = 32 ∷ 45 ∷ 105 ∷ []

abbrev pub exclude_option : List ℕ
exclude_option = 32 ∷ 45 ∷ 120 ∷ []

-- the line of an entry, with one blank between two parts
abbrev pub entry_text : Edit → List ℕ
entry_text e =
    sid_text e.got ++ (32 ∷ sid_text e.made
    ++ (32 ∷ e.login ++ (32 ∷ moment_text e.moment ++ (option_text include_option e.include
    ++ option_text exclude_option e.exclude))))

-- the lines of entries, each with its LF
abbrev pub edits_text : List Edit → List ℕ
edits_text edits = flat_map (λ e. ended (entry_text e)) edits
