-- Where a reader of lines stands in a file.
use Rattle.std.specs.Prelude.{◌≡◌, ℕ, ◌+◌, ◌≤◌, Bool, true, false, List, [], ◌∷◌, ◌++◌, length, take, drop, Option}
use Rattle.std.specs.Prelude.{None, Some, option_map}
use Rattle.sccs_base.specs.Cut.{Cut, HasNoLf, cut}
use Rattle.sccs_disk.specs.Files.{Content, View}
use Rattle.sccs_tokens.specs.Sums.{plain_sum}

-- The bytes that were read and not given yet, the place of the first of them, the file's name, the place up to which
-- it is read at most, and the plain sum of all bytes that were read behind the sum line.
pub record ReaderState : Type 0 where
  pub name : List ℕ
  pub held : List ℕ
  pub place : ℕ
  pub limit : ℕ
  pub sum : ℕ

-- the bytes behind the sum line, which has 8 bytes with its LF
abbrev pub behind_sum : List ℕ → List ℕ
behind_sum file = drop 8 file

-- the bytes of the file of that name, where it is there
abbrev pub file_in : View → List ℕ → Option (List ℕ)
file_in view name = option_map (λ (c : Content). c.bytes) (view name)

abbrev pub bytes_in : Option View → List ℕ → Option (List ℕ)
bytes_in None name = None
bytes_in (Some view) name = file_in view name

-- The file is within the limit, the held bytes are those at the place, and the sum is that of the bytes up to their
-- end.
pub record StandsIn (r : ReaderState) (file : List ℕ) : Type 0 where
  pub limit : length file ≤ r.limit
  pub within : r.place + length r.held ≤ length file
  pub held : r.held ≡ take (length r.held) (drop r.place file)
  pub sum : r.sum ≡ plain_sum (behind_sum (take (r.place + length r.held) file))

-- a reader that stood in the told file still does
abbrev pub Stays : Option (List ℕ) → ReaderState → ReaderState → Type 0
Stays o old new = (file : List ℕ) → o ≡ Some file → StandsIn old file → StandsIn new file

-- what is left of the file, cut at each LF
abbrev pub left : ReaderState → List ℕ → Cut
left r file = cut (drop r.place file)

-- a line before what is cut, or bytes behind the last LF
abbrev pub LineOf : Cut → List ℕ → Bool → Cut → Type 0
LineOf all line true rest = all ≡ record { lines = line ∷ rest.lines; tail = rest.tail }
LineOf all line false rest = all ≡ record { lines = []; tail = line }

-- a reader took a line of a told file, up to its LF or to the end of the file
abbrev pub TakesLine : Option (List ℕ) → ReaderState → ReaderState → List ℕ → Bool → Type 0
TakesLine None old new line ended = Unit {0}
TakesLine (Some file) old new line ended = StandsIn old file → StandsIn new file × LineOf (left old file) line ended
    (left new file)

-- the front of the held bytes went to the line: all before LF, and LF is gone too, or all
abbrev pub TakesHeldFront : ReaderState → ReaderState → List ℕ → List ℕ → Bool → List ℕ → Type 0
TakesHeldFront old new line longer true front = (longer ≡ line ++ front) × HasNoLf front
    × (old.held ≡ front ++ 10 ∷ new.held) × (new.place ≡ old.place + length front + 1)
TakesHeldFront old new line longer false front = (longer ≡ line ++ front) × HasNoLf front × (old.held ≡ front)
    × (new.held ≡ []) × (new.place ≡ old.place + length front)

abbrev pub Takes : ReaderState → ReaderState → List ℕ → List ℕ → Bool → Type 0
Takes old new line longer ended = (front : List ℕ) × TakesHeldFront old new line longer ended front
