-- What is read of a list of SIDs is a list of ranges.
use Rattle.std.proofs.Common.{◌≡◌, ◌≢◌, ℕ, zero, suc, ◌+◌, ◌<◌, ◌==◌, ◌⊎◌, inl, inr, Bool, true, false, List, [], ◌∷◌}
use Rattle.std.proofs.Common.{length, Option, None, Some, Result, Ok, Err, refl, arith}
use Rattle.std.specs.Prelude.{if◌then◌else◌}
use Rattle.std.specs.List.{AllByRecursion}
use Rattle.std.specs.Result.{IfOk}
use Rattle.std.proofs.lemmas.Bool.{cases_eq, eq-eqb, ne_eqb}
use Rattle.sccs_sid.specs.Reading.{◌>>=◌, number_at, byte_at}
use Rattle.sccs_sid.specs.Sid.{IsComponent, IsBranch, IsSid}
use Rattle.sccs_sid.specs.SidLists.{IsRange, zero_fault, component_at, begins, branch_at, sid_at, last_at, range_at}
use Rattle.sccs_sid.specs.SidLists.{after_range, piece_at, with_more, ranges_of, placed, list_of}
use Rattle.sccs_sid.specs.declared.sids.Sid.{Sid}
use Rattle.sccs_sid.specs.declared.sid_lists.Range.{Range}
use Rattle.sccs_grammar.proofs.SpellingRules.{then_ok, number_low}

-- the same where nothing is known of the first value
any_ok : {A B E : Type 0} (Q : B → Type 0) (r : Result A E) (f : A → Result B E) → ((a : A) → IfOk (f a) Q)
    → IfOk (r >>= f) Q
any_ok Q (Ok a) f more = more a
any_ok Q (Err e) f more = tt

either_ok : {A E : Type 0} (P : A → Type 0) (t : Bool) (a b : Result A E) → IfOk a P → IfOk b P
    → IfOk (if t then a else b) P
either_ok P true a b first second = first
either_ok P false a b first second = second

-- a number that isn't 0
IsRead : ℕ × List ℕ → Type 0
IsRead x = IsComponent x.0

component_by : (n : ℕ × List ℕ) (left : ℕ) → n.0 < 10000 → (n.0 ≡ 0) ⊎ (n.0 ≢ 0) → IfOk (if n.0 == 0 then Err left
    else Ok n) IsRead
unfolding IsRead
component_by n left low (inl is) = rw (eq-eqb n.0 0 is) tt
component_by n left low (inr some) = rw (ne_eqb n.0 0 some) (omega (arith, some), low)

component_is : (bytes : List ℕ) → IfOk (component_at bytes) IsRead
unfolding component_at
component_is bytes =
    then_ok (λ x. x.0 < 10000) IsRead (number_at 4 bytes) _ (number_low bytes) λ n low. component_by n
    (zero_fault bytes n.1) low (cases_eq n.0 0)

branch_is : (b s : ℕ) → IsComponent b → IsComponent s → IsBranch b s
branch_is zero s b-is s-is = absurd (omega (arith, b-is.0))
branch_is (suc b) s b-is s-is = (b-is.1, s-is)

IsSidRead : Sid × List ℕ → Type 0
IsSidRead x = IsSid x.0

branch_sid_is : (r l : ℕ) (bytes : List ℕ) → IsComponent r → IsComponent l → IfOk (branch_at r l bytes) IsSidRead
unfolding branch_at IsRead IsSidRead
branch_sid_is r l bytes r-is l-is =
    any_ok IsSidRead (byte_at 46 bytes) _ λ dotted.
    then_ok IsRead IsSidRead (component_at dotted) _ (component_is dotted) λ branch b-is.
    any_ok IsSidRead (byte_at 46 branch.1) _ λ again.
    then_ok IsRead IsSidRead (component_at again) _ (component_is again) λ sequence s-is.
    record { release = r-is; level = l-is; branch = branch_is branch.0 sequence.0 b-is s-is }

sid_is : (bytes : List ℕ) → IfOk (sid_at bytes) IsSidRead
unfolding sid_at IsRead IsSidRead
sid_is bytes =
    then_ok IsRead IsSidRead (component_at bytes) _ (component_is bytes) λ release r-is.
    any_ok IsSidRead (byte_at 46 release.1) _ λ dotted.
    then_ok IsRead IsSidRead (component_at dotted) _ (component_is dotted) λ level l-is.
    either_ok IsSidRead (begins 46 level.1) (branch_at release.0 level.0 level.1) _
    (branch_sid_is release.0 level.0 level.1 r-is l-is)
    (record { release = r-is; level = l-is; branch = refl })

IsRangeRead : Range × List ℕ → Type 0
IsRangeRead x = IsRange x.0

last_is : (first : Sid) (bytes : List ℕ) → IsSid first → IfOk (last_at first bytes) IsRangeRead
unfolding last_at IsSidRead IsRangeRead
last_is first bytes is =
    any_ok IsRangeRead (byte_at 45 bytes) _ λ dashed. then_ok IsSidRead IsRangeRead (sid_at dashed) _
    (sid_is dashed) λ last l-is. (is, l-is)

range_is : (bytes : List ℕ) → IfOk (range_at bytes) IsRangeRead
unfolding range_at IsSidRead IsRangeRead
range_is bytes =
    then_ok IsSidRead IsRangeRead (sid_at bytes) _ (sid_is bytes) λ first is.
    either_ok IsRangeRead (begins 45 first.1) (last_at first.0 first.1) _ (last_is first.0 first.1 is) (is, is)

IsPieceRead : Range × Option (List ℕ) → Type 0
IsPieceRead x = IsRange x.0

after_is : (range : Range) (bytes : List ℕ) → IsRange range → IfOk (after_range range bytes) IsPieceRead
unfolding IsPieceRead
after_is range [] is = is
after_is range (b ∷ bytes) is = any_ok IsPieceRead (byte_at 44 (b ∷ bytes)) _ λ more. is

piece_is : (bytes : List ℕ) → IfOk (piece_at bytes) IsPieceRead
unfolding piece_at IsRangeRead
piece_is bytes = then_ok IsRangeRead IsPieceRead (range_at bytes) _ (range_is bytes) λ range is.
    after_is range.0 range.1 is

-- ranges
AreRanges : List Range → Type 0
AreRanges ranges = AllByRecursion IsRange ranges

more_are : (more : List ℕ → Result (List Range) ℕ) (range : Range) (o : Option (List ℕ)) → IsRange range
    → ((bytes : List ℕ) → IfOk (more bytes) AreRanges) → IfOk (with_more more range o) AreRanges
unfolding AreRanges
more_are more range None is each = (is, tt)
more_are more range (Some bytes) is each = then_ok AreRanges AreRanges (more bytes) _ (each bytes) λ ranges are.
    (is, are)

ranges_are : (most : ℕ) (bytes : List ℕ) → IfOk (ranges_of most bytes) AreRanges
unfolding ranges_of IsPieceRead
ranges_are zero bytes = tt
ranges_are (suc most) bytes =
    then_ok IsPieceRead AreRanges (piece_at bytes) _ (piece_is bytes) λ piece is. more_are (ranges_of most) piece.0
    piece.1 is (ranges_are most)

placed_are : (bytes : List ℕ) (r : Result (List Range) ℕ) → IfOk r AreRanges → IfOk (placed bytes r) AreRanges
placed_are bytes (Ok ranges) are = are
placed_are bytes (Err left) are = tt

pub list_is : (bytes : List ℕ) → IfOk (list_of bytes) (AllByRecursion IsRange)
unfolding list_of AreRanges
list_is bytes = placed_are bytes (ranges_of (length bytes + 1) bytes) (ranges_are (length bytes + 1) bytes)
