-- Reading a list of SIDs as far as its fault: what follows a field is a function from the bytes after it to the number
-- of
-- bytes that are left at the fault, or none.
use Rattle.std.proofs.Common.{◌≡◌, ℕ, zero, suc, Bool, true, false, List, [], ◌∷◌, length, Option, None, Some, Result}
use Rattle.std.proofs.Common.{Ok, Err, refl, ap, ◌∙◌, if◌then◌else◌}
use Rattle.sccs_sid.specs.Reading.{◌>>=◌, byte_at}
use Rattle.sccs_sid.specs.SidLists.{component_at, begins, branch_at, sid_at, last_at, range_at, after_range, piece_at}
use Rattle.sccs_sid.specs.SidLists.{with_more, ranges_of}
use Rattle.sccs_sid.specs.declared.sids.Sid.{Sid}
use Rattle.sccs_sid.specs.declared.sid_lists.Range.{Range}

-- the bytes that are left at the fault, where there is one
abbrev pub left_of : {A : Type 0} → Result A ℕ → Option ℕ
left_of (Ok x) = None
left_of (Err left) = Some left

abbrev pub Rest : Type 0
Rest = List ℕ → Option ℕ

abbrev pub field_by : {A : Type 0} → Rest → Result (A × List ℕ) ℕ → Option ℕ
field_by rest (Ok x) = rest x.1
field_by rest (Err left) = Some left

abbrev pub byte_by : Rest → Result (List ℕ) ℕ → Option ℕ
byte_by rest (Ok bytes) = rest bytes
byte_by rest (Err left) = Some left

-- a component, and the rest
abbrev pub component : Rest → Rest
component rest bytes = field_by rest (component_at bytes)

-- this byte, and the rest
abbrev pub byte : ℕ → Rest → Rest
byte wanted rest bytes = byte_by rest (byte_at wanted bytes)

-- this byte and the one rest, where it comes next, else the other
abbrev pub either : ℕ → Rest → Rest → Rest
either wanted one other bytes = if begins wanted bytes then byte wanted one bytes else other bytes

abbrev pub sid_then : Rest → Rest
sid_then rest = component (byte 46 (component (either 46 (component (byte 46 (component rest))) rest)))

abbrev pub range_then : Rest → Rest
range_then rest = sid_then (either 45 (sid_then rest) rest)

-- the end, or a comma and the rest
abbrev pub ended : Rest → Rest
ended rest [] = None
ended rest (b ∷ bytes) = byte 44 rest (b ∷ bytes)

unfoldable pub list_then : ℕ → Rest
list_then zero bytes = Some (length bytes)
list_then (suc most) bytes = range_then (ended (list_then most)) bytes

field_is : {A B : Type 0} (read : Result (A × List ℕ) ℕ) (g : A × List ℕ → Result B ℕ) (rest : Rest)
    → ((x : A) (bytes : List ℕ) → left_of (g (x, bytes)) ≡ rest bytes) → left_of (read >>= g) ≡ field_by rest read
field_is (Ok x) g rest same = same x.0 x.1
field_is (Err left) g rest same = refl

byte_is : {B : Type 0} (read : Result (List ℕ) ℕ) (g : List ℕ → Result B ℕ) (rest : Rest)
    → ((bytes : List ℕ) → left_of (g bytes) ≡ rest bytes) → left_of (read >>= g) ≡ byte_by rest read
byte_is (Ok bytes) g rest same = same bytes
byte_is (Err left) g rest same = refl

bind_bind : {A B C : Type 0} (read : Result A ℕ) (f : A → Result B ℕ) (g : B → Result C ℕ)
    → ((read >>= f) >>= g) ≡ (read >>= λ x. f x >>= g)
bind_bind (Ok x) f g = refl
bind_bind (Err left) f g = refl

branch_is : {B : Type 0} (r l : ℕ) (g : Sid × List ℕ → Result B ℕ) (rest : Rest) → ((x : Sid) (bytes : List ℕ)
    → left_of (g (x, bytes)) ≡ rest bytes) → (bytes : List ℕ)
    → left_of (branch_at r l bytes >>= g) ≡ byte 46 (component (byte 46 (component rest))) bytes
unfolding branch_at
branch_is r l g rest same bytes =
    ap left_of (bind_bind (byte_at 46 bytes) _ g)
    ∙ byte_is (byte_at 46 bytes) _ _ (λ dotted.
    ap left_of (bind_bind (component_at dotted) _ g)
    ∙ field_is (component_at dotted) _ _ (λ branch more.
    ap left_of (bind_bind (byte_at 46 more) _ g)
    ∙ byte_is (byte_at 46 more) _ _ (λ again.
    ap left_of (bind_bind (component_at again) _ g)
    ∙ field_is (component_at again) _ _ (λ sequence after. same _ after))))

choice_is : {A : Type 0} (test : Bool) (x y : Result A ℕ) (a b : Option ℕ) → left_of x ≡ a → left_of y ≡ b
    → left_of (if test then x else y) ≡ (if test then a else b)
choice_is true x y a b first second = first
choice_is false x y a b first second = second

bind_if : {A B : Type 0} (test : Bool) (x y : Result A ℕ) (g : A → Result B ℕ) → ((if test then x else y) >>= g)
    ≡ (if test then (x >>= g) else (y >>= g))
bind_if true x y g = refl
bind_if false x y g = refl

sid_is : {B : Type 0} (g : Sid × List ℕ → Result B ℕ) (rest : Rest) → ((x : Sid) (bytes : List ℕ)
    → left_of (g (x, bytes)) ≡ rest bytes) → (bytes : List ℕ) → left_of (sid_at bytes >>= g) ≡ sid_then rest bytes
unfolding sid_at
sid_is g rest same bytes =
    ap left_of (bind_bind (component_at bytes) _ g)
    ∙ field_is (component_at bytes) _ _ (λ release after.
    ap left_of (bind_bind (byte_at 46 after) _ g)
    ∙ byte_is (byte_at 46 after) _ _ (λ dotted.
    ap left_of (bind_bind (component_at dotted) _ g)
    ∙ field_is (component_at dotted) _ _ (λ level more.
    ap left_of (bind_if (begins 46 more) _ _ g) ∙ choice_is (begins 46 more) _ _ _ _
    (branch_is release level g rest same more) (same _ more))))

last_is : {B : Type 0} (first : Sid) (g : Range × List ℕ → Result B ℕ) (rest : Rest) → ((x : Range) (bytes : List ℕ)
    → left_of (g (x, bytes)) ≡ rest bytes) → (bytes : List ℕ) → left_of (last_at first bytes >>= g) ≡ byte 45
    (sid_then rest) bytes
unfolding last_at
last_is first g rest same bytes =
    ap left_of (bind_bind (byte_at 45 bytes) _ g)
    ∙ byte_is (byte_at 45 bytes) _ _ (λ dashed. ap left_of (bind_bind (sid_at dashed) _ g)
    ∙ sid_is _ rest (λ last after. same _ after) dashed)

range_is : {B : Type 0} (g : Range × List ℕ → Result B ℕ) (rest : Rest) → ((x : Range) (bytes : List ℕ)
    → left_of (g (x, bytes)) ≡ rest bytes) → (bytes : List ℕ) → left_of (range_at bytes >>= g) ≡ range_then rest bytes
unfolding range_at
range_is g rest same bytes =
    ap left_of (bind_bind (sid_at bytes) _ g)
    ∙ sid_is _ _ (λ first more.
    ap left_of (bind_if (begins 45 more) _ _ g) ∙ choice_is (begins 45 more) _ _ _ _ (last_is first g rest same more)
    (same _ more)) bytes

after_is : (more : List ℕ → Result (List Range) ℕ) (rest : Rest)
    → ((bytes : List ℕ) → left_of (more bytes) ≡ rest bytes) → (range : Range) (bytes : List ℕ)
    → left_of (after_range range bytes >>= λ piece. with_more more piece.0 piece.1) ≡ ended rest bytes
after_is more rest same range [] = refl
after_is more rest same range (b ∷ bytes) =
    ap left_of (bind_bind (byte_at 44 (b ∷ bytes)) _ _)
    ∙ byte_is (byte_at 44 (b ∷ bytes)) _ _ (λ behind. kept (more behind) ∙ same behind)
  where
    kept : (read : Result (List Range) ℕ) → left_of (read >>= λ ranges. Ok (range ∷ ranges)) ≡ left_of read
    kept (Ok ranges) = refl
    kept (Err left) = refl

pub list_is : (most : ℕ) (bytes : List ℕ) → left_of (ranges_of most bytes) ≡ list_then most bytes
unfolding ranges_of list_then piece_at
list_is zero bytes = refl
list_is (suc most) bytes =
    ap left_of (bind_bind (range_at bytes) _ _)
    ∙ range_is _ _ (λ range more. after_is (ranges_of most) (list_then most) (list_is most) range more) bytes
