-- Where LF and SOH stand in a piece, 64 bytes at a time.
use Rattle.std.specs.Prelude.{◌≡◌, ◌≢◌, ℕ, ◌*◌, ◌-◌, ◌<◌, ◌≤◌, ◌==◌, Bool, not, Option, None, Some, List, length, map}
use Rattle.std.specs.Prelude.{drop, get_or, if◌then◌else◌, replicate, take}
use Rattle.std.specs.Int.{bit_at}
use Rattle.std.specs.Simd.Lanes.{mask_l}
use Rattle.sccs_base.specs.Cut.{HasNoLf}
use Rattle.sccs_table.specs.Runs.{lf_count}
use Rattle.sccs_table.specs.declared.piece_marks.Known.{Known}
use Rattle.sccs_table.specs.declared.piece_marks.Known.TheVariants.{Nothing, Number, Places}
use Rattle.sccs_table.specs.declared.piece_marks.PieceMarks.{PieceMarks}

-- the 64 bytes of that number, from 0
abbrev pub byte_block : ℕ → List ℕ → List ℕ
byte_block n piece = take 64 (drop (64 * n) piece)

-- a piece of 4,096 bytes is 0 from a place on
abbrev pub IsZeroFrom : List ℕ → ℕ → Type 0
IsZeroFrom piece at = drop at piece ≡ replicate (4096 - at) 0

-- bit k is whether a byte stands at place k
abbrev pub bits_of : ℕ → List ℕ → ℕ
bits_of byte bytes = mask_l (map (λ b. b == byte) bytes)

-- a test as a bit
abbrev pub bit : Bool → ℕ
bit set = if set then 1 else 0

-- of the first blocks those are marked that have an SOH
abbrev pub AreMarked : ℕ → List ℕ → ℕ → Type 0
AreMarked marked piece blocks = (n : ℕ) → n < blocks → bit_at marked n ≡ bit (not (bits_of 1 (byte_block n piece) == 0))

-- of the first blocks it is known where SOH stands
abbrev pub AreSohs : List ℕ → List ℕ → ℕ → Type 0
AreSohs sohs piece blocks = (n : ℕ) → n < blocks → get_or sohs n 0 ≡ bits_of 1 (byte_block n piece)

-- of the first blocks it is known where LF stands, and how many stand before each
pub record Describes (ends before : List ℕ) (piece : List ℕ) (blocks : ℕ) : Type 0 where
  pub ends_are : (n : ℕ) → n < blocks → get_or ends n 0 ≡ bits_of 10 (byte_block n piece)
  pub before_are : (n : ℕ) → n < blocks → get_or before n 0 ≡ lf_count (take (64 * n) piece)

-- the first blocks have no SOH
abbrev pub HasNoMarked : List ℕ → ℕ → Type 0
HasNoMarked piece blocks = (n : ℕ) → n < blocks → bits_of 1 (byte_block n piece) ≡ 0

-- nothing is known of the LFs of a piece; or how many there are, and a place behind which none stands; or each one's
-- place
abbrev pub KnowsLfs : Known → PieceMarks → List ℕ → Type 0
KnowsLfs Nothing marks piece = Unit {0}
KnowsLfs Number marks piece = (marks.count ≡ lf_count piece) × HasNoLf (drop marks.last piece)
KnowsLfs Places marks piece = Describes marks.ends marks.before piece 64 × (get_or marks.before 64 0 ≡ lf_count piece)

-- The marks are those of a piece of 4,096 bytes.
pub record MarksOf (marks : PieceMarks) (piece : List ℕ) : Type 0 where
  pub long : length piece ≡ 4096
  pub marked_are : AreMarked marks.marked piece 64
  pub sohs_are : marks.marked ≢ 0 → AreSohs marks.sohs piece 64
  pub ends_known : KnowsLfs marks.known marks piece

-- no byte from one place to another is SOH
abbrev pub HasNoSoh : List ℕ → ℕ → ℕ → Type 0
HasNoSoh piece from to = (k : ℕ) → from ≤ k → k < to → get_or piece k 0 ≢ 1

-- the first SOH from a place on, before another
abbrev pub IsNextSoh : List ℕ → ℕ → ℕ → Option ℕ → Type 0
IsNextSoh piece from to None = HasNoSoh piece from to
IsNextSoh piece from to (Some at) = (from ≤ at) × (at < to) × HasNoSoh piece from at × (get_or piece at 0 ≡ 1)

-- the first marked block behind one
abbrev pub IsNextBlock : ℕ → ℕ → Option ℕ → Type 0
IsNextBlock marked n None = (m : ℕ) → n < m → m < 64 → bit_at marked m ≡ 0
IsNextBlock marked n (Some next) = (n < next) × (next < 64) × ((m : ℕ) → n < m → m < next → bit_at marked m ≡ 0)
    × (bit_at marked next ≡ 1)
