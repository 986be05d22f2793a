-- What the flags of a file say (sccsfile(4), "Flags"; POSIX, admin -f).
use Rattle.std.specs.Prelude.{ℕ, ◌==◌, nat_le, Bool, false, ◌&&◌, ◌||◌, List, Option, None, Some, option_and_then}
use Rattle.std.specs.Prelude.{unwrap_or, find}
use Rattle.std.specs.List.{list_any}
use Rattle.sccs_sid.specs.Reading.{number}
use Rattle.sccs_sid.specs.Words.{words}
use Rattle.sccs_history.specs.FlagText.{is_all, pieces, flag_c, flag_f, flag_l}
use Rattle.sccs_history.specs.declared.headers.Flag.{Flag}

-- whether the flag of a letter is there
abbrev pub has_flag : List Flag → ℕ → Bool
has_flag flags letter = list_any (λ f. f.letter == letter) flags

-- the flag of a letter
abbrev pub flag_of : List Flag → ℕ → Option Flag
flag_of flags letter = find (λ f. f.letter == letter) flags

-- the number that the flag of a letter holds, else another
abbrev pub number_or : List Flag → ℕ → ℕ → ℕ
number_or flags letter otherwise = unwrap_or (option_and_then (λ f. number 4 f.text) (flag_of flags letter)) otherwise

-- the greatest release that may be got or made: flag c
abbrev pub ceiling : List Flag → ℕ
ceiling flags = number_or flags flag_c 9999

-- the least one: flag f
abbrev pub floor : List Flag → ℕ
floor flags = number_or flags flag_f 1

-- a release from floor to ceiling, both included
abbrev pub is_within_limits : List Flag → ℕ → Bool
is_within_limits flags release = nat_le (floor flags) release && nat_le release (ceiling flags)

-- some word is the number of a release
abbrev pub has_release : List (List ℕ) → ℕ → Bool
has_release ws release = list_any (λ word. unwrap_or (number 4 word) 0 == release) ws

-- the releases of a text, with commas or blanks between them, hold the release
abbrev pub lists_release : List ℕ → ℕ → Bool
lists_release text release = list_any (λ piece. has_release (words piece) release) (pieces text)

-- the text of flag l: the letter `a` for all releases, or a list of them
abbrev pub locks : List ℕ → ℕ → Bool
locks text release = is_all text || lists_release text release

abbrev pub locked_by : Option Flag → ℕ → Bool
locked_by None release = false
locked_by (Some f) release = locks f.text release

-- the release is locked against deltas: flag l
abbrev pub is_locked_release : List Flag → ℕ → Bool
is_locked_release flags release = locked_by (flag_of flags flag_l) release
