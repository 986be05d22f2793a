-- The text of flag l without some releases: POSIX, admin -d, `lLIST`.
use Rattle.std.specs.Prelude.{ℕ, ◌==◌, Bool, not, List, ◌∷◌, decimal, drop, filter, flat_map, map, unwrap_or}
use Rattle.std.specs.Prelude.{if◌then◌else◌}
use Rattle.std.specs.List.{list_any}
use Rattle.sccs_sid.specs.Reading.{number}
use Rattle.sccs_sid.specs.Words.{words}
use Rattle.sccs_history.specs.FlagText.{pieces}

-- the number that a word is
abbrev pub release_in : List ℕ → ℕ
release_in word = unwrap_or (number 4 word) 0

abbrev pub releases_in : List ℕ → List ℕ
releases_in piece = map release_in (words piece)

-- the releases of a text, with commas or blanks between them
abbrev pub releases_of : List ℕ → List ℕ
releases_of text = flat_map releases_in (pieces text)

-- the release is one of these
abbrev pub is_among : List ℕ → ℕ → Bool
is_among releases release = list_any (λ r. r == release) releases

abbrev pub behind_comma : ℕ → List ℕ
behind_comma release = 44 ∷ decimal release

-- releases with a comma between two: each behind one, without the first
abbrev pub with_commas : List ℕ → List ℕ
with_commas releases = drop 1 (flat_map behind_comma releases)

abbrev pub left_of : List ℕ → List ℕ → List ℕ
left_of others releases = filter (λ r. not (is_among others r)) releases

-- A text without the releases of another one. Where it has none of them it stays as it is.
abbrev pub without_releases : List ℕ → List ℕ → List ℕ
without_releases others text =
    if list_any (is_among (releases_of others)) (releases_of text)
    then with_commas (left_of (releases_of others) (releases_of text))
    else text
