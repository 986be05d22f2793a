-- Bytes cut at LF.
use Rattle.std.specs.Prelude.{◌≢◌, ℕ, ◌==◌, Bool, true, false, if◌then◌else◌, List, [], ◌∷◌, ◌++◌, All}
use Rattle.sccs_base.specs.Constants.{lf}

-- no byte is LF
abbrev pub HasNoLf : List ℕ → Type 0
HasNoLf bytes = All (λ b. b ≢ lf) bytes

-- the lines that end with LF, and the bytes after the last LF
pub record Cut : Type 0 where
  pub lines : List (List ℕ)
  pub tail : List ℕ

-- a byte more in front, in the first line
abbrev pub longer : ℕ → List (List ℕ) → List ℕ → Cut
longer b [] tail = record { lines = []; tail = b ∷ tail }
longer b (line ∷ lines) tail = record { lines = (b ∷ line) ∷ lines; tail = tail }

-- a byte more in front, LF or another
abbrev pub before : Bool → ℕ → Cut → Cut
before true b rest = record { lines = [] ∷ rest.lines; tail = rest.tail }
before false b rest = longer b rest.lines rest.tail

-- bytes cut at each LF
unfoldable pub cut : List ℕ → Cut
cut [] = record { lines = []; tail = [] }
cut (b ∷ bytes) = before (b == lf) b (cut bytes)

-- the lines of a text: bytes after the last LF are a last line
abbrev pub closed : List (List ℕ) → List ℕ → List (List ℕ)
closed lines [] = lines
closed lines (b ∷ tail) = lines ++ (b ∷ tail) ∷ []

abbrev pub text_of : List ℕ → List (List ℕ)
text_of bytes = closed (cut bytes).lines (cut bytes).tail

-- a line without the LF at its end
unfoldable pub without_lf : List ℕ → List ℕ
without_lf [] = []
without_lf (b ∷ []) = if b == lf then [] else b ∷ []
without_lf (b ∷ c ∷ line) = b ∷ without_lf (c ∷ line)
