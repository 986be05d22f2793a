-- Which serials are open, by their marks.
use Rattle.std.proofs.Common.{◌≡◌, ℕ, zero, suc, ◌==◌, ◌<◌, Bool, true, false, cond, not, ◌||◌, max, List, [], ◌∷◌}
use Rattle.std.proofs.Common.{get_or, refl, sym, ap, ◌∙◌, arith, eq-eqb}
use Rattle.std.specs.List.{list_any}
use Rattle.std.proofs.lemmas.Bool.{eqb-true}
use Rattle.sccs_history.specs.Applied.{live_serials}
use Rattle.sccs_history.specs.Body.{is_closed as closed, is_insert as inserting, mark, above, is_over, may_stand}
use Rattle.sccs_history.specs.Body as body
use Rattle.sccs_history.specs.Numbers.{falling, front_if, has, is_empty}
use Rattle.sccs_history.proofs.Falling.{has-falling}
use Rattle.sccs_history.specs.declared.headers.Record.{Record}
use Rattle.sccs_history.specs.declared.headers.Item.{Item}
use Rattle.sccs_history.specs.declared.headers.Item.TheVariants.{Text, Insert, Delete, End}
use Rattle.sccs_body.specs.Kinds.{kind, is_insert_mark, is_open}
use Rattle.sccs_body.specs.States.{Knows}
use Rattle.sccs_body.specs.declared.body_states.BodyState.{BodyState}
use Rattle.sccs_body.specs.declared.marks.Mark.{Mark}
use Rattle.sccs_body.specs.declared.marks.Mark.TheVariants.{Closed}
use Rattle.sccs_base.proofs.Bools.{right_false, left_false}

-- a text line opens and ends nothing
pub knows_text : (live : List ℕ) (before : List Item) (text : List ℕ) (s : BodyState) → Knows live before s
    → Knows live (Text text ∷ before) s
knows_text live before text s knows = record { marks = knows.marks; lives_are = knows.lives_are }

-- the serial of a record that isn't removed lives
pub head_lives : (r : Record) (rs : List Record) → r.removed ≡ false → has (live_serials (r ∷ rs)) r.serial ≡ true
head_lives r rs kept = ap (λ t. has (front_if (not t) r.serial (live_serials rs)) r.serial) kept
    ∙ ap (λ t. t || has (live_serials rs) r.serial) (eq-eqb r.serial r.serial refl)

-- ---- whether some serial is open

falling_none : (b : ℕ) (test : ℕ → Bool) → ((n : ℕ) → test n ≡ false) → falling b test ≡ []
falling_none zero test none = refl
falling_none (suc m) test none = ap (λ (t : Bool). front_if t m (falling m test)) (none m) ∙ falling_none m test none

has_some : (ns : List ℕ) (n : ℕ) → has ns n ≡ true → is_empty ns ≡ false
has_some [] n h = cc
has_some (m ∷ ns) n h = refl

below_by : (t : Bool) (m n : ℕ) (before : List Item) (here : body.Mark) → (m == n) ≡ t
    → closed (cond t here (mark n before)) ≡ false → (closed (mark n before) ≡ false → n < above before)
    → n < max (suc m) (above before)
below_by true m n before here is opened more = let same : m ≡ n = eqb-true m n is in omega arith
below_by false m n before here is opened more = let low : n < above before = more opened in omega arith

-- only serials below the bound are open
open_below : (n : ℕ) (before : List Item) → closed (mark n before) ≡ false → n < above before
open_below n [] opened = cc
open_below n (Text text ∷ before) opened = open_below n before opened
open_below n (Insert m ∷ before) opened = below_by (m == n) m n before body.ByInsert refl opened (open_below n before)
open_below n (Delete m ∷ before) opened = below_by (m == n) m n before body.ByDelete refl opened (open_below n before)
open_below n (End m ∷ before) opened = below_by (m == n) m n before body.Closed refl opened (open_below n before)

-- a place whose mark passes
passing_by : (t : Bool) (p : Mark → Bool) (m : Mark) (ms : List Mark) → p m ≡ t
    → (list_any p ms ≡ true → (n : ℕ) × (p (get_or ms n Closed) ≡ true)) → (t || list_any p ms) ≡ true → (n : ℕ)
    × (p (get_or (m ∷ ms) n Closed) ≡ true)
passing_by true p m ms is rest some = (0, is)
passing_by false p m ms is rest some = let it = rest some in (suc it.0, it.1)

passing : (p : Mark → Bool) (ms : List Mark) → list_any p ms ≡ true → (n : ℕ) × (p (get_or ms n Closed) ≡ true)
passing p [] some = cc
passing p (m ∷ ms) some = passing_by (p m) p m ms refl (passing p ms) some

none_passes : (p : Mark → Bool) (ms : List Mark) → p Closed ≡ false → list_any p ms ≡ false → (n : ℕ)
    → p (get_or ms n Closed) ≡ false
none_passes p [] shut none n = shut
none_passes p (m ∷ ms) shut none zero = left_false (p m) (list_any p ms) none
none_passes p (m ∷ ms) shut none (suc n) = none_passes p ms shut (right_false (p m) (list_any p ms) none) n

-- Some mark passes a test where some serial below the bound does. Closed marks don't pass.
any_marked : (t : Bool) (test : body.Mark → Bool) (before : List Item) (ms : List Mark) → test body.Closed ≡ false
    → ((m : body.Mark) → test m ≡ true → closed m ≡ false) → ((n : ℕ) → kind (get_or ms n Closed) ≡ mark n before)
    → list_any (λ m. test (kind m)) ms ≡ t → t ≡ not (is_empty (falling (above before) (λ n. test (mark n before))))
any_marked true test before ms shut opened marks some =
    let it = passing (λ m. test (kind m)) ms some in
    let pass : test (mark it.0 before) ≡ true = ap test (sym (marks it.0)) ∙ it.1 in
    sym (ap not (has_some (falling (above before) (λ n. test (mark n before))) it.0 (has-falling (above before)
    (λ n. test (mark n before)) it.0 (open_below it.0 before (opened (mark it.0 before) pass)) pass)))
any_marked false test before ms shut opened marks none =
    ap (λ (ns : List ℕ). not (is_empty ns)) (sym (falling_none (above before) (λ n. test (mark n before))
    (λ n. ap test (sym (marks n)) ∙ none_passes (λ m. test (kind m)) ms shut none n)))

insert_open : (m : body.Mark) → inserting m ≡ true → closed m ≡ false
insert_open body.Closed h = cc
insert_open body.ByInsert h = refl
insert_open body.ByDelete h = refl

not_shut : (m : body.Mark) → not (closed m) ≡ true → closed m ≡ false
not_shut body.Closed h = cc
not_shut body.ByInsert h = refl
not_shut body.ByDelete h = refl

pub some_insert : (live : List ℕ) (before : List Item) (text : List ℕ) (s : BodyState) → Knows live before s
    → list_any is_insert_mark s.marks ≡ may_stand live before (Text text)
some_insert live before text s knows = any_marked (list_any is_insert_mark s.marks) inserting before s.marks refl
    insert_open knows.marks refl

twice : (b : Bool) → not (not b) ≡ b
twice true = refl
twice false = refl

pub over : (live : List ℕ) (before : List Item) (s : BodyState) → Knows live before s → not (list_any is_open s.marks)
    ≡ is_over before
over live before s knows = ap not (any_marked (list_any is_open s.marks) (λ m. not (closed m)) before s.marks refl
    not_shut knows.marks refl) ∙ twice (is_over before)
