-- The keywords of a line (POSIX get, Identification Keywords): a letter between two percent signs.
use Rattle.std.specs.Prelude.{◌≡◌, ℕ, zero, suc, ◌<◌, ◌==◌, Bool, true, false, ◌&&◌, List, [], ◌∷◌, drop, Option, None}
use Rattle.std.specs.Prelude.{Some, if◌then◌else◌}
use Rattle.sccs_keywords.specs.declared.keywords.Keyword.{Keyword}
use Rattle.sccs_keywords.specs.declared.keywords.Keyword.TheVariants.{Module, Sid, Release, Level, Branch, Sequence}
use Rattle.sccs_keywords.specs.declared.keywords.Keyword.TheVariants.{Date, MonthFirstDate, Time, NewestDate}
use Rattle.sccs_keywords.specs.declared.keywords.Keyword.TheVariants.{NewestMonthFirstDate, NewestTime, Kind, User}
use Rattle.sccs_keywords.specs.declared.keywords.Keyword.TheVariants.{FileName, Path, LineNumber, Mark, What, Assembly}

-- the keyword of a letter
abbrev pub keyword_of : ℕ → Option Keyword
keyword_of letter =
    if letter == 77 then Some Module
    else if letter == 73 then Some Sid
    else if letter == 82 then Some Release
    else if letter == 76 then Some Level
    else if letter == 66 then Some Branch
    else if letter == 83 then Some Sequence
    else if letter == 68 then Some Date
    else if letter == 72 then Some MonthFirstDate
    else if letter == 84 then Some Time
    else if letter == 69 then Some NewestDate
    else if letter == 71 then Some NewestMonthFirstDate
    else if letter == 85 then Some NewestTime
    else if letter == 89 then Some Kind
    else if letter == 81 then Some User
    else if letter == 70 then Some FileName
    else if letter == 80 then Some Path
    else if letter == 67 then Some LineNumber
    else if letter == 90 then Some Mark
    else if letter == 87 then Some What
    else if letter == 65 then Some Assembly
    else None

-- the keyword that bytes begin with
abbrev pub found_keyword : List ℕ → Option Keyword
found_keyword (a ∷ letter ∷ b ∷ bytes) = if a == 37 && b == 37 then keyword_of letter else None
found_keyword _ = None

-- a byte that is given as it is, or a keyword
pub data Part : Type 0 where
  Plain : (byte : ℕ) → Part
  Key : (keyword : Keyword) → Part

abbrev pub is_keyword : Part → Bool
is_keyword (Plain byte) = false
is_keyword (Key keyword) = true

abbrev pub keyword_part : ℕ → Option Keyword → Part
keyword_part byte None = Plain byte
keyword_part byte (Some keyword) = Key keyword

-- how many bytes of a keyword stand behind its first
abbrev pub keyword_rest : Option Keyword → ℕ
keyword_rest None = 0
keyword_rest (Some keyword) = 2

-- the parts of bytes, where so many at their front belong to a keyword already
abbrev pub parts_behind : ℕ → List ℕ → List Part
parts_behind skip [] = []
parts_behind (suc skip) (byte ∷ bytes) = parts_behind skip bytes
parts_behind zero (byte ∷ bytes) = keyword_part byte (found_keyword (byte ∷ bytes)) ∷ parts_behind
    (keyword_rest (found_keyword (byte ∷ bytes))) bytes

-- the parts of a line, from left to right: bytes of a keyword that was found belong to no other
abbrev pub parts : List ℕ → List Part
parts line = parts_behind 0 line

-- no keyword begins before a place
abbrev pub HasNone : List ℕ → ℕ → Type 0
HasNone line n = (k : ℕ) → k < n → found_keyword (drop k line) ≡ None
