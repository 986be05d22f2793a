-- The lines of a body that keeps the rules have live serials.
use Rattle.std.proofs.Common.{◌≡◌, ℕ, ◌<◌, ◌==◌, nat_lt, true, false, cond, ◌&&◌, List, [], ◌∷◌, refl, sym, subst}
use Rattle.std.specs.List.{AllByRecursion}
use Rattle.std.proofs.lemmas.Bool.{eqb-true, false≢true, not-true, and_parts, ltb-true, cond_both}
use Rattle.sccs_history.specs.Numbers.{is_empty, has}
use Rattle.sccs_history.specs.Body.{Mark, Closed, ByInsert, ByDelete, is_closed, is_insert, is_delete, mark, above}
use Rattle.sccs_history.specs.Body.{inserters, inserter, deleters, line_at, lines_behind, lines_of, may_stand, Begins}
use Rattle.sccs_history.specs.Body.{GoesOn, IsLine}
use Rattle.sccs_history.specs.declared.headers.Item.{Item}
use Rattle.sccs_history.specs.declared.headers.Item.TheVariants.{Text, Insert, Delete, End}
use Rattle.sccs_history.proofs.Falling.{falling_has, All-falling, Falls-falling, IsFalling-from_Falls, has-first}

-- only live serials are open behind these items
abbrev pub OpensLive : List ℕ → List Item → Type 0
OpensLive live before = (n : ℕ) → is_closed (mark n before) ≡ false → has live n ≡ true

-- whether the two numbers are the same or not, no other serial is open
opens_more : (live : List ℕ) (m n : ℕ) (here there : Mark) → has live m ≡ true → (is_closed there ≡ false
    → has live n ≡ true) → is_closed (cond (m == n) here there) ≡ false → has live n ≡ true
opens_more live m n here there lives rest =
    cond_both (m == n) here there (λ k. is_closed k ≡ false → has live n ≡ true)
    (λ e opened. subst (λ k. has live k ≡ true) (eqb-true m n e) lives) (λ e. rest)

pub opens_live : (live : List ℕ) (before : List Item) (item : Item) → OpensLive live before → may_stand live before item
    ≡ true → OpensLive live (item ∷ before)
opens_live live before (Text text) opens stands = opens
opens_live live before (Insert m) opens stands = λ n. opens_more live m n ByInsert (mark n before)
    (and_parts _ _ stands).0 (opens n)
opens_live live before (Delete m) opens stands = λ n. opens_more live m n ByDelete (mark n before)
    (and_parts _ _ stands).0 (opens n)
opens_live live before (End m) opens stands = λ n. opens_more live m n Closed (mark n before) (and_parts _ _ stands).0
    (opens n)

open_from_insert : (k : Mark) → is_insert k ≡ true → is_closed k ≡ false
open_from_insert Closed e = absurd (false≢true e)
open_from_insert ByInsert e = refl
open_from_insert ByDelete e = absurd (false≢true e)

open_from_delete : (k : Mark) → is_delete k ≡ true → is_closed k ≡ false
open_from_delete Closed e = absurd (false≢true e)
open_from_delete ByInsert e = absurd (false≢true e)
open_from_delete ByDelete e = refl

-- where a text item may stand, the inserter is open by Insert
pub inserter_inserts : (live : List ℕ) (before : List Item) (text : List ℕ) → may_stand live before (Text text) ≡ true
    → is_insert (mark (inserter before) before) ≡ true
inserter_inserts live before text stands =
    (falling_has (above before) (λ n. is_insert (mark n before)) (inserter before) (has-first (inserters before)
    (not-true (is_empty (inserters before)) stands))).1

line_lives : (live : List ℕ) (before : List Item) (text : List ℕ) → OpensLive live before
    → may_stand live before (Text text) ≡ true → IsLine live (line_at before text)
line_lives live before text opens stands =
    record {
      inserter = opens (inserter before) (open_from_insert (mark (inserter before) before)
          (inserter_inserts live before text stands));
      deleters = All-falling (λ d. (has live d ≡ true) × (inserter before < d)) (above before)
          (λ n. is_delete (mark n before) && nat_lt (inserter before) n)
          (λ n pass. let parts = and_parts (is_delete (mark n before)) (nat_lt (inserter before) n) pass in
          (opens n (open_from_delete (mark n before) parts.0), ltb-true (inserter before) n parts.1));
      order = IsFalling-from_Falls (above before) (deleters before) (Falls-falling (above before)
          (λ n. is_delete (mark n before) && nat_lt (inserter before) n));
    }

lines_live : (live : List ℕ) (before items : List Item) → OpensLive live before → Begins live before items
    → AllByRecursion (IsLine live) (lines_behind before items)
lines_live live before [] opens begins = tt
lines_live live before (Text text ∷ items) opens begins =
    (line_lives live before text opens begins.0, lines_live live (Text text ∷ before) items opens begins.1)
lines_live live before (Insert n ∷ items) opens begins =
    lines_live live (Insert n ∷ before) items (opens_live live before (Insert n) opens begins.0) begins.1
lines_live live before (Delete n ∷ items) opens begins =
    lines_live live (Delete n ∷ before) items (opens_live live before (Delete n) opens begins.0) begins.1
lines_live live before (End n ∷ items) opens begins =
    lines_live live (End n ∷ before) items (opens_live live before (End n) opens begins.0) begins.1

-- lines of items that begin a body
pub lines_of_live : (live : List ℕ) (items : List Item) → Begins live [] items → AllByRecursion (IsLine live)
    (lines_of items)
lines_of_live live items begins = lines_live live [] items (λ n opened. absurd (false≢true (sym opened))) begins

-- a whole body begins one
pub begins_whole : (live : List ℕ) (before items : List Item) → GoesOn live before items → Begins live before items
begins_whole live before [] goes = tt
begins_whole live before (item ∷ items) goes = (goes.0, begins_whole live (item ∷ before) items goes.1)
