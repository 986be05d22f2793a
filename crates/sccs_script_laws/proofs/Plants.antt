-- The woven lines are the old ones with those of the script's plan.
use Rattle.std.proofs.Common.{◌≡◌, ℕ, zero, suc, ◌+◌, ◌-◌, ◌<◌, ◌≤◌, ◌==◌, ◌⊎◌, Bool, true, false, cond, not, ◌&&◌}
use Rattle.std.proofs.Common.{◌||◌, List, [], ◌∷◌, ◌++◌, length, map, replicate, refl, sym, subst, ap, ◌∙◌, inl, inr}
use Rattle.std.proofs.Common.{arith, eq-eqb, append_assoc, append-nil, length-append}
use Rattle.std.proofs.Math.Bool.{and-false}
use Rattle.std.specs.List.{AllByRecursion, count_by}
use Rattle.std.proofs.lemmas.List.Sums.{sum_by-cons}
use Rattle.std.proofs.lemmas.Bool.{ne_eqb, false≢true}
use Rattle.sccs_history.specs.Numbers.{front_if, has}
use Rattle.sccs_history.specs.Body.{HistoryLine}
use Rattle.sccs_history.specs.Select.{select, shows}
use Rattle.sccs_script_laws.specs.Scripts.{put_after, run, step, take_away}
use Rattle.sccs_script_laws.specs.Weave.{AreBelow, deleted, gone, inserted, IsBelow, marked, new_line, unchanged, weave}
use Rattle.sccs_script_laws.specs.Plans.{added_after, added_count, added_from, added_lines, Base, Cell, cells_of}
use Rattle.sccs_script_laws.specs.Plans.{deleted_from, is_there, New, plan, planted, planted_from, struck, struck_line}
use Rattle.sccs_script_laws.specs.Plans.{with_added}
use Rattle.sccs_script_laws.specs.declared.scripts.Added.{Added}
use Rattle.sccs_script_laws.specs.declared.scripts.Order.{Order}
use Rattle.sccs_script_laws.specs.declared.scripts.OrderKind.{OrderKind}
use Rattle.sccs_script_laws.specs.declared.scripts.OrderKind.TheVariants.{Append, Change, Delete}
use Rattle.sccs_script_laws.specs.declared.scripts.Plan.{Plan}
use Rattle.sccs_script_laws.proofs.Runs.{flat, flat-run, kept-run, Shown}
use Rattle.sccs_script_laws.proofs.Selects.{hides_marked, select_below, shows_below, shows_new}

-- Numbers of a plan: those behind a place are greater.
has_past : (m k : ℕ) (cells : List Cell) → m ≤ k → has (deleted_from k cells) m ≡ false
has_past m k [] le = refl
has_past m k (Base deleted ∷ cells) le = past_front deleted (has_past m (suc k) cells (omega arith))
  where
    past_front : (t : Bool) → has (deleted_from (suc k) cells) m ≡ false
        → has (front_if t (suc k) (deleted_from (suc k) cells)) m ≡ false
    past_front true rest = ap (λ t. t || has (deleted_from (suc k) cells) m) (ne_eqb (suc k) m (λ e. omega arith))
        ∙ rest
    past_front false rest = rest
has_past m k (New text ∷ cells) le = has_past m k cells le

has_here : (k : ℕ) (t : Bool) (cells : List Cell) → has (front_if t (suc k) (deleted_from (suc k) cells)) (suc k) ≡ t
has_here k true cells = ap (λ t. t || has (deleted_from (suc k) cells) (suc k)) (eq-eqb (suc k) (suc k) refl)
has_here k false cells = has_past (suc k) (suc k) cells (omega arith)

has_later : (m k : ℕ) (t : Bool) (cells : List Cell) → suc k < m → has (front_if t (suc k) (deleted_from (suc k) cells))
    m ≡ has (deleted_from (suc k) cells) m
has_later m k true cells lt = ap (λ t. t || has (deleted_from (suc k) cells) m) (ne_eqb (suc k) m (λ e. omega arith))
has_later m k false cells lt = refl

-- the new lines that cells begin with
abbrev news : List Cell → List (List ℕ)
news [] = []
news (Base deleted ∷ cells) = []
news (New text ∷ cells) = text ∷ news cells

added_other : (m k : ℕ) (texts : List (List ℕ)) (rest : List Added) → (k == m) ≡ false
    → added_after m (with_added k texts rest) ≡ added_after m rest
added_other m k [] rest other = refl
added_other m k (text ∷ texts) rest other = ap (λ t. cond t (text ∷ texts) (added_after m rest)) other

added_past : (m k : ℕ) (texts : List (List ℕ)) (cells : List Cell) → m < k → added_after m (added_from k texts cells)
    ≡ []
added_past m k texts [] lt = added_other m k texts [] (ne_eqb k m (λ e. omega arith))
added_past m k texts (Base deleted ∷ cells) lt =
    added_other m k texts (added_from (suc k) [] cells) (ne_eqb k m (λ e. omega arith)) ∙ added_past m (suc k) [] cells
    (omega arith)
added_past m k texts (New text ∷ cells) lt = added_past m k (texts ++ text ∷ []) cells lt

added_here : (k : ℕ) (texts : List (List ℕ)) (rest : List Added) → added_after k rest ≡ []
    → added_after k (with_added k texts rest) ≡ texts
added_here k [] rest none = none
added_here k (text ∷ texts) rest none = ap (λ t. cond t (text ∷ texts) (added_after k rest)) (eq-eqb k k refl)

added_news : (k : ℕ) (texts : List (List ℕ)) (cells : List Cell) → added_after k (added_from k texts cells) ≡ texts
    ++ news cells
added_news k texts [] = added_here k texts [] refl ∙ sym (append-nil texts)
added_news k texts (Base deleted ∷ cells) = added_here k texts (added_from (suc k) [] cells)
    (added_past k (suc k) [] cells (omega arith)) ∙ sym (append-nil texts)
added_news k texts (New text ∷ cells) = added_news k (texts ++ text ∷ []) cells ∙ append_assoc texts (text ∷ [])
    (news cells)

-- a plan says this of the cells behind base line k
abbrev Agrees : Plan → ℕ → List Cell → Type 0
Agrees p k [] = Unit {0}
Agrees p k (Base deleted ∷ cells) = (has p.deleted (suc k) ≡ deleted) × (added_after (suc k) p.added ≡ news cells)
    × Agrees p (suc k) cells
Agrees p k (New text ∷ cells) = Agrees p k cells

agrees_from : (p : Plan) (k : ℕ) (texts : List (List ℕ)) (cells : List Cell)
    → ((m : ℕ) → k < m → has p.deleted m ≡ has (deleted_from k cells) m)
    → ((m : ℕ) → k < m → added_after m p.added ≡ added_after m (added_from k texts cells)) → Agrees p k cells
agrees_from p k texts [] deletes adds = tt
agrees_from p k texts (Base deleted ∷ cells) deletes adds =
    let rest : (m : ℕ) → k < m → added_after m p.added ≡ added_after m (added_from (suc k) [] cells) =
    λ m lt. adds m lt ∙ added_other m k texts (added_from (suc k) [] cells) (ne_eqb k m (λ e. omega arith)) in (
      deletes (suc k) (omega arith) ∙ has_here k deleted cells,
      rest (suc k) (omega arith) ∙ added_news (suc k) [] cells,
      agrees_from p (suc k) [] cells (λ m lt. deletes m (omega arith) ∙ has_later m k deleted cells lt)
          (λ m lt. rest m (omega arith)),
    )
agrees_from p k texts (New text ∷ cells) deletes adds = agrees_from p k (texts ++ text ∷ []) cells deletes adds

plan_agrees : (orders : List Order) (count : ℕ) → Agrees (plan orders count) 0 (cells_of orders count)
plan_agrees orders count = agrees_from (plan orders count) 0 [] (cells_of orders count) (λ m lt. refl) (λ m lt. refl)

plan_front : (orders : List Order) (count : ℕ) → added_after 0 (plan orders count).added ≡ news (cells_of orders count)
plan_front orders count = added_news 0 [] (cells_of orders count)

-- how many of the cells are new lines
abbrev fresh_count : List Cell → ℕ
fresh_count [] = 0
fresh_count (Base deleted ∷ cells) = fresh_count cells
fresh_count (New text ∷ cells) = suc (fresh_count cells)

-- how many are deleted
abbrev struck_count : List Cell → ℕ
struck_count [] = 0
struck_count (Base deleted ∷ cells) = cond deleted 1 0 + struck_count cells
struck_count (New text ∷ cells) = struck_count cells

with_counted : (k : ℕ) (texts : List (List ℕ)) (rest : List Added) → added_count (with_added k texts rest)
    ≡ length texts + added_count rest
with_counted k [] rest = omega arith
with_counted k (text ∷ texts) rest = refl

added_counted : (k : ℕ) (texts : List (List ℕ)) (cells : List Cell) → added_count (added_from k texts cells)
    ≡ length texts + fresh_count cells
added_counted k texts [] = with_counted k texts []
added_counted k texts (Base deleted ∷ cells) =
    let rest : added_count (added_from (suc k) [] cells) ≡ 0 + fresh_count cells = added_counted (suc k) [] cells in
    omega (arith, with_counted k texts (added_from (suc k) [] cells), rest)
added_counted k texts (New text ∷ cells) =
    let rest : added_count (added_from k (texts ++ text ∷ []) cells) ≡ length (texts ++ text ∷ []) + fresh_count cells =
    added_counted k (texts ++ text ∷ []) cells in
    let longer : length (texts ++ text ∷ []) ≡ length texts + 1 = length-append texts (text ∷ []) in
    omega (arith, rest, longer)

deleted_counted : (k : ℕ) (cells : List Cell) → length (deleted_from k cells) ≡ struck_count cells
deleted_counted k [] = refl
deleted_counted k (Base true ∷ cells) = let rest : length (deleted_from (suc k) cells) ≡ struck_count cells =
    deleted_counted (suc k) cells in omega (arith, rest)
deleted_counted k (Base false ∷ cells) = let rest : length (deleted_from (suc k) cells) ≡ struck_count cells =
    deleted_counted (suc k) cells in omega (arith, rest)
deleted_counted k (New text ∷ cells) = deleted_counted k cells

abbrev one_if : Bool → ℕ
one_if t = cond t 1 0

count_more : {A : Type 0} (p : A → Bool) (x : A) (xs : List A) → count_by p (x ∷ xs) ≡ one_if (p x) + count_by p xs
count_more p x xs = sum_by-cons (λ y. cond (p y) 1 0) x xs

counts_not : {A : Type 0} (p : A → Bool) (x : A) (xs : List A) (b : ℕ) → p x ≡ false → count_by p xs ≡ b
    → count_by p (x ∷ xs) ≡ b
counts_not p x xs b is same =
    let none : one_if (p x) ≡ 0 = ap one_if is in omega (arith, count_more p x xs, none, same)

counts_one : {A : Type 0} (p : A → Bool) (x : A) (xs : List A) (b : ℕ) → p x ≡ true → count_by p xs ≡ b
    → count_by p (x ∷ xs) ≡ suc b
counts_one p x xs b is same =
    let one : one_if (p x) ≡ 1 = ap one_if is in omega (arith, count_more p x xs, one, same)

one_more : (k : ℕ) → suc k ≡ 1 + k
one_more k = omega arith

none_more : (k : ℕ) → k ≡ 0 + k
none_more k = omega arith

has_below : (n : ℕ) (ns : List ℕ) → AllByRecursion (λ d. d < n) ns → has ns n ≡ false
has_below n [] below = refl
has_below n (m ∷ ms) below = ap (λ t. t || has ms n) (ne_eqb m n (λ e. omega (arith, below.0))) ∙ has_below n ms below.1

module _ (n : ℕ) (set : List ℕ) where
  -- an old line that the set doesn't show, one that it shows, deleted or not, or a new line
  data Tag : Type 0 where
    Unseen : (line : HistoryLine) → shows (n ∷ set) line ≡ false → Tag
    Old : (line : HistoryLine) → shows (n ∷ set) line ≡ true → (line.inserter == n) ≡ false → Bool → Tag
    Fresh : List ℕ → Tag

  abbrev stands : Tag → Bool
  stands (Unseen line hidden) = false
  stands (Old line shown other deleted) = not deleted
  stands (Fresh text) = true

  abbrev away : Tag → List Tag
  away (Unseen line hidden) = []
  away (Old line shown other deleted) = Old line shown other true ∷ []
  away (Fresh text) = []

  -- the line that it is, its cell, and the line that it was
  abbrev woven : Tag → List HistoryLine
  woven (Unseen line hidden) = line ∷ []
  woven (Old line shown other deleted) = cond deleted (marked n line) line ∷ []
  woven (Fresh text) = new_line n text ∷ []

  abbrev cell : Tag → List Cell
  cell (Unseen line hidden) = []
  cell (Old line shown other deleted) = Base deleted ∷ []
  cell (Fresh text) = New text ∷ []

  abbrev before : Tag → List HistoryLine
  before (Unseen line hidden) = line ∷ []
  before (Old line shown other deleted) = line ∷ []
  before (Fresh text) = []

  gone_other : (line : HistoryLine) → (line.inserter == n) ≡ false → marked n line ∷ [] ≡ gone n line
  gone_other line other = ap (λ t. cond t [] (marked n line ∷ [])) (sym other)

  gone_new : (text : List ℕ) → [] ≡ gone n (new_line n text)
  gone_new text = ap (λ t. cond t [] (marked n (new_line n text) ∷ [])) (sym (eq-eqb n n refl))

  woven_shown : (tag : Tag) → stands tag ≡ true → Shown stands away Fresh (shows (n ∷ set)) (gone n)
      (new_line n) woven tag
  woven_shown (Unseen line hidden) sees = absurd (false≢true sees)
  woven_shown (Old line shown other true) sees = absurd (false≢true sees)
  woven_shown (Old line shown other false) sees =
      record { gives = line; is = refl; there = shown; away = gone_other line other }
  woven_shown (Fresh text) sees = record {
    gives = new_line n text;
    is = refl;
    there = shows_new n set text;
    away =
        gone_new text;
  }

  woven_hidden : (tag : Tag) → stands tag ≡ false → (woven tag ≡ []) ⊎ ((line : HistoryLine) × (woven tag ≡ line ∷ [])
      × (shows (n ∷ set) line ≡ false))
  woven_hidden (Unseen line hidden) sees = inr (line, refl, hidden)
  woven_hidden (Old line shown other true) sees = inr (marked n line, refl, hides_marked n set line)
  woven_hidden (Old line shown other false) sees = absurd (false≢true (sym sees))
  woven_hidden (Fresh text) sees = absurd (false≢true (sym sees))

  woven_run : (orders : List Order) (tags : List Tag) → flat woven (run stands away Fresh orders tags)
      ≡ weave set n orders (flat woven tags)
  woven_run orders tags =
      flat-run stands away Fresh (shows (n ∷ set)) (gone n) (new_line n) woven
      (record { shown = woven_shown; hidden = woven_hidden; new = λ text. refl }) orders tags

  cell_shown : (tag : Tag) → stands tag ≡ true → Shown stands away Fresh is_there struck New cell tag
  cell_shown (Unseen line hidden) sees = absurd (false≢true sees)
  cell_shown (Old line shown other true) sees = absurd (false≢true sees)
  cell_shown (Old line shown other false) sees = record { gives = Base false; is = refl; there = refl; away = refl }
  cell_shown (Fresh text) sees = record { gives = New text; is = refl; there = refl; away = refl }

  cell_hidden : (tag : Tag) → stands tag ≡ false → (cell tag ≡ []) ⊎ ((c : Cell) × (cell tag ≡ c ∷ [])
      × (is_there c ≡ false))
  cell_hidden (Unseen line hidden) sees = inl refl
  cell_hidden (Old line shown other true) sees = inr (Base true, refl, refl)
  cell_hidden (Old line shown other false) sees = absurd (false≢true (sym sees))
  cell_hidden (Fresh text) sees = absurd (false≢true (sym sees))

  cell_run : (orders : List Order) (tags : List Tag) → flat cell (run stands away Fresh orders tags)
      ≡ run is_there struck New orders (flat cell tags)
  cell_run orders tags =
      flat-run stands away Fresh is_there struck New cell
      (record { shown = cell_shown; hidden = cell_hidden; new = λ text. refl }) orders tags

  before_kept : (tag : Tag) → stands tag ≡ true → flat before (away tag) ≡ before tag
  before_kept (Unseen line hidden) sees = absurd (false≢true sees)
  before_kept (Old line shown other deleted) sees = refl
  before_kept (Fresh text) sees = refl

  before_run : (orders : List Order) (tags : List Tag) → flat before (run stands away Fresh orders tags)
      ≡ flat before tags
  before_run orders tags = kept-run stands away Fresh before (record { new = λ text. refl; away = before_kept }) orders
      tags

  -- new lines stand in front, or directly behind a line of the base or another new one
  abbrev Packed : Bool → List Tag → Type 0
  Packed ok [] = Unit {0}
  Packed ok (Unseen line hidden ∷ tags) = Packed false tags
  Packed ok (Old line shown other deleted ∷ tags) = Packed true tags
  Packed ok (Fresh text ∷ tags) = (ok ≡ true) × Packed true tags

  packed_map : (texts : List (List ℕ)) (tags : List Tag) → Packed true tags → Packed true (map Fresh texts ++ tags)
  packed_map [] tags packed = packed
  packed_map (text ∷ texts) tags packed = (refl, packed_map texts tags packed)

  packed-put : (ok : Bool) (k : ℕ) (texts : List (List ℕ)) (tags : List Tag) → (k ≡ 0 → ok ≡ true) → Packed ok tags
      → Packed ok (put_after stands k (map Fresh texts) tags)
  packed-put ok zero texts tags front packed =
      subst (λ t. Packed t (map Fresh texts ++ tags)) (sym (front refl))
      (packed_map texts tags (subst (λ t. Packed t tags) (front refl) packed))
  packed-put ok (suc k) texts [] front packed = tt
  packed-put ok (suc k) texts (Unseen line hidden ∷ tags) front packed = packed-put false (suc k) texts tags
      (λ e. absurd (omega arith)) packed
  packed-put ok (suc k) texts (Old line shown other true ∷ tags) front packed = packed-put true (suc k) texts tags
      (λ e. refl) packed
  packed-put ok (suc k) texts (Old line shown other false ∷ tags) front packed = packed-put true k texts tags
      (λ e. refl) packed
  packed-put ok (suc k) texts (Fresh text ∷ tags) front packed =
      (packed.0, packed-put true k texts tags (λ e. refl) packed.1)

  packed-take : (ok : Bool) (k count : ℕ) (tags : List Tag) → Packed ok tags
      → Packed ok (take_away stands away k count tags)
  packed-take ok zero zero tags packed = packed
  packed-take ok (suc k) zero tags packed = packed
  packed-take ok zero (suc count) [] packed = tt
  packed-take ok (suc k) (suc count) [] packed = tt
  packed-take ok (suc k) (suc count) (Unseen line hidden ∷ tags) packed = packed-take false (suc k)
      (suc count) tags packed
  packed-take ok (suc k) (suc count) (Old line shown other true ∷ tags) packed =
      packed-take true (suc k) (suc count) tags packed
  packed-take ok (suc k) (suc count) (Old line shown other false ∷ tags) packed =
      packed-take true k (suc count) tags packed
  packed-take ok (suc k) (suc count) (Fresh text ∷ tags) packed =
      (packed.0, packed-take true k (suc count) tags packed.1)
  packed-take ok zero (suc count) (Unseen line hidden ∷ tags) packed = packed-take false zero (suc count) tags packed
  packed-take ok zero (suc count) (Old line shown other true ∷ tags) packed =
      packed-take true zero (suc count) tags packed
  packed-take ok zero (suc count) (Old line shown other false ∷ tags) packed = packed-take true zero count tags packed
  packed-take ok zero (suc count) (Fresh text ∷ tags) packed =
      packed-take ok zero count tags (subst (λ t. Packed t tags) (sym packed.0) packed.1)

  packed-step : (kind : OrderKind) (first last : ℕ) (texts : List (List ℕ)) (tags : List Tag) → Packed true tags
      → Packed true (step stands away Fresh kind first last texts tags)
  packed-step Append first last texts tags packed = packed-put true first texts tags (λ e. refl) packed
  packed-step Delete first last texts tags packed = packed-take true (first - 1) (last - (first - 1)) tags packed
  packed-step Change first last texts tags packed =
      packed-put true (first - 1) texts (take_away stands away (first - 1) (last - (first - 1)) tags) (λ e. refl)
      (packed-take true (first - 1) (last - (first - 1)) tags packed)

  packed-run : (orders : List Order) (tags : List Tag) → Packed true tags
      → Packed true (run stands away Fresh orders tags)
  packed-run [] tags packed = packed
  packed-run (order ∷ orders) tags packed =
      packed-run orders (step stands away Fresh order.kind order.first order.last order.lines tags)
      (packed-step order.kind order.first order.last order.lines tags packed)

  -- behind a hidden line no new one stands
  no_news : (tags : List Tag) → Packed false tags → news (flat cell tags) ≡ []
  no_news [] packed = refl
  no_news (Unseen line hidden ∷ tags) packed = no_news tags packed
  no_news (Old line shown other deleted ∷ tags) packed = refl
  no_news (Fresh text ∷ tags) packed = absurd (false≢true packed.0)

  plants : (p : Plan) (k : ℕ) (ok : Bool) (tags : List Tag) → Packed ok tags → Agrees p k (flat cell tags)
      → map (new_line n) (news (flat cell tags)) ++ planted_from (shows (n ∷ set)) p n k (flat before tags)
      ≡ flat woven tags
  plants p k ok [] packed agrees = refl
  plants p k ok (Unseen line hidden ∷ tags) packed agrees =
      let none : news (flat cell tags) ≡ [] = no_news tags packed in
      ap (λ l. map (new_line n) l ++ planted_from (shows (n ∷ set)) p n k (line ∷ flat before tags)) none
      ∙ (ap (λ t. cond t (struck_line p n (suc k) line ∷ (added_lines p n (suc k) ++ planted_from (shows (n ∷ set)) p n
      (suc k) (flat before tags))) (line ∷ planted_from (shows (n ∷ set)) p n k (flat before tags))) hidden
      ∙ ap (λ l. line ∷ l) (ap (λ l. map (new_line n) l ++ planted_from (shows (n ∷ set)) p n k (flat before tags))
      (sym none) ∙ plants p k false tags packed agrees))
  plants p k ok (Old line shown other deleted ∷ tags) packed agrees =
      ap (λ t. cond t (struck_line p n (suc k) line ∷ (added_lines p n (suc k) ++ planted_from (shows (n ∷ set)) p n
      (suc k) (flat before tags))) (line ∷ planted_from (shows (n ∷ set)) p n k (flat before tags))) shown
      ∙ (ap (λ t. cond t (marked n line) line ∷ (added_lines p n (suc k) ++ planted_from (shows (n ∷ set)) p n (suc k)
      (flat before tags))) agrees.0
      ∙ ap (λ l. cond deleted (marked n line) line ∷ l)
      (ap (λ l. map (new_line n) l ++ planted_from (shows (n ∷ set)) p n (suc k) (flat before tags)) agrees.1
      ∙ plants p (suc k) true tags packed agrees.2))
  plants p k ok (Fresh text ∷ tags) packed agrees = ap (λ l. new_line n text ∷ l) (plants p k true tags packed.1 agrees)

  -- the old lines as they are before any order
  abbrev tag : (line : HistoryLine) (t : Bool) → shows (n ∷ set) line ≡ t → IsBelow n line → Tag
  tag line true is below = Old line is (ne_eqb line.inserter n (λ e. omega (arith, below.inserter))) false
  tag line false is below = Unseen line is

  abbrev tags_of : (lines : List HistoryLine) → AreBelow n lines → List Tag
  tags_of [] below = []
  tags_of (line ∷ lines) below = tag line (shows (n ∷ set) line) refl below.0 ∷ tags_of lines below.1

  tag_woven : (line : HistoryLine) (t : Bool) (is : shows (n ∷ set) line ≡ t) (below : IsBelow n line)
      → woven (tag line t is below) ≡ line ∷ []
  tag_woven line true is below = refl
  tag_woven line false is below = refl

  tag_before : (line : HistoryLine) (t : Bool) (is : shows (n ∷ set) line ≡ t) (below : IsBelow n line)
      → before (tag line t is below) ≡ line ∷ []
  tag_before line true is below = refl
  tag_before line false is below = refl

  tag_cell : (line : HistoryLine) (t : Bool) (is : shows (n ∷ set) line ≡ t) (below : IsBelow n line)
      (rest : List (List ℕ)) → cell (tag line t is below) ++ replicate (length rest) (Base false) ≡ replicate
      (length (front_if t line.text rest)) (Base false)
  tag_cell line true is below rest = refl
  tag_cell line false is below rest = refl

  tags_woven : (lines : List HistoryLine) (below : AreBelow n lines) → flat woven (tags_of lines below) ≡ lines
  tags_woven [] below = refl
  tags_woven (line ∷ lines) below =
      ap (λ l. l ++ flat woven (tags_of lines below.1)) (tag_woven line (shows (n ∷ set) line) refl below.0)
      ∙ ap (λ l. line ∷ l) (tags_woven lines below.1)

  tags_before : (lines : List HistoryLine) (below : AreBelow n lines) → flat before (tags_of lines below) ≡ lines
  tags_before [] below = refl
  tags_before (line ∷ lines) below =
      ap (λ l. l ++ flat before (tags_of lines below.1)) (tag_before line (shows (n ∷ set) line) refl below.0)
      ∙ ap (λ l. line ∷ l) (tags_before lines below.1)

  tags_cells : (lines : List HistoryLine) (below : AreBelow n lines) → flat cell (tags_of lines below) ≡ replicate
      (length (select (n ∷ set) lines)) (Base false)
  tags_cells [] below = refl
  tags_cells (line ∷ lines) below =
      ap (λ l. cell (tag line (shows (n ∷ set) line) refl below.0) ++ l) (tags_cells lines below.1)
      ∙ tag_cell line (shows (n ∷ set) line) refl below.0 (select (n ∷ set) lines)

  packed_one : (line : HistoryLine) (t : Bool) (is : shows (n ∷ set) line ≡ t) (below : IsBelow n line) (ok : Bool)
      (tags : List Tag) → ((ok : Bool) → Packed ok tags) → Packed ok (tag line t is below ∷ tags)
  packed_one line true is below ok tags packed = packed true
  packed_one line false is below ok tags packed = packed false

  packed_tags : (lines : List HistoryLine) (below : AreBelow n lines) (ok : Bool) → Packed ok (tags_of lines below)
  packed_tags [] below ok = tt
  packed_tags (line ∷ lines) below ok =
      packed_one line (shows (n ∷ set) line) refl below.0 ok (tags_of lines below.1) (packed_tags lines below.1)

  planted_own : (orders : List Order) (lines : List HistoryLine) → AreBelow n lines → planted (shows (n ∷ set))
      (plan orders (length (select (n ∷ set) lines))) n lines ≡ weave set n orders lines
  planted_own orders lines below =
      let count : ℕ = length (select (n ∷ set) lines) in
      let tags : List Tag = run stands away Fresh orders (tags_of lines below) in
      let cells : flat cell tags ≡ cells_of orders count = cell_run orders (tags_of lines below)
      ∙ ap (λ l. run is_there struck New orders l) (tags_cells lines below) in
      let old : flat before tags ≡ lines = before_run orders (tags_of lines below) ∙ tags_before lines below in
      ap (λ l. map (new_line n) l ++ planted_from (shows (n ∷ set)) (plan orders count) n 0 lines)
      (plan_front orders count ∙ ap news (sym cells))
      ∙ (ap (λ l. map (new_line n) (news (flat cell tags)) ++ planted_from (shows (n ∷ set)) (plan orders count) n 0 l)
      (sym old)
      ∙ (plants (plan orders count) 0 true tags (packed-run orders (tags_of lines below) (packed_tags lines below true))
      (subst (λ l. Agrees (plan orders count) 0 l) (sym cells) (plan_agrees orders count))
      ∙ (woven_run orders (tags_of lines below) ∙ ap (λ l. weave set n orders l) (tags_woven lines below))))

  marked_has : (line : HistoryLine) → has (marked n line).deleters n ≡ true
  marked_has line = ap (λ t. t || has line.deleters n) (eq-eqb n n refl)

  counts_inserted : (tags : List Tag) → AreBelow n (flat before tags) → inserted n (flat woven tags) ≡ fresh_count
      (flat cell tags)
  counts_inserted [] below = refl
  counts_inserted (Unseen line hidden ∷ tags) below =
      counts_not (λ (l : HistoryLine). l.inserter == n) line (flat woven tags) (fresh_count (flat cell tags))
      (ne_eqb line.inserter n (λ e. omega (arith, below.0.inserter))) (counts_inserted tags below.1)
  counts_inserted (Old line shown other true ∷ tags) below =
      counts_not (λ (l : HistoryLine). l.inserter == n) (marked n line) (flat woven tags) (fresh_count (flat cell tags))
      other (counts_inserted tags below.1)
  counts_inserted (Old line shown other false ∷ tags) below =
      counts_not (λ (l : HistoryLine). l.inserter == n) line (flat woven tags) (fresh_count (flat cell tags)) other
      (counts_inserted tags below.1)
  counts_inserted (Fresh text ∷ tags) below =
      counts_one (λ (l : HistoryLine). l.inserter == n) (new_line n text) (flat woven tags)
      (fresh_count (flat cell tags)) (eq-eqb n n refl) (counts_inserted tags below)

  counts_deleted : (tags : List Tag) → AreBelow n (flat before tags) → deleted n (flat woven tags) ≡ struck_count
      (flat cell tags)
  counts_deleted [] below = refl
  counts_deleted (Unseen line hidden ∷ tags) below =
      counts_not (λ (l : HistoryLine). has l.deleters n) line (flat woven tags) (struck_count (flat cell tags))
      (has_below n line.deleters below.0.deleters) (counts_deleted tags below.1)
  counts_deleted (Old line shown other true ∷ tags) below =
      counts_one (λ (l : HistoryLine). has l.deleters n) (marked n line) (flat woven tags)
      (struck_count (flat cell tags)) (marked_has line) (counts_deleted tags below.1)
      ∙ one_more (struck_count (flat cell tags))
  counts_deleted (Old line shown other false ∷ tags) below =
      counts_not (λ (l : HistoryLine). has l.deleters n) line (flat woven tags) (struck_count (flat cell tags))
      (has_below n line.deleters below.0.deleters) (counts_deleted tags below.1)
      ∙ none_more (struck_count (flat cell tags))
  counts_deleted (Fresh text ∷ tags) below =
      counts_not (λ (l : HistoryLine). has l.deleters n) (new_line n text) (flat woven tags)
      (struck_count (flat cell tags)) refl (counts_deleted tags below)

  -- a line of the base that the serial left alone
  abbrev is_left : HistoryLine → Bool
  is_left line = shows set line && not (has line.deleters n)

  hidden_left : (line : HistoryLine) → shows set line ≡ false → is_left line ≡ false
  hidden_left line hidden = ap (λ t. t && not (has line.deleters n)) hidden

  shown_left : (line : HistoryLine) → shows set line ≡ true → has line.deleters n ≡ false → is_left line ≡ true
  shown_left line shown kept = ap (λ t. t && not (has line.deleters n)) shown ∙ ap not kept

  marked_left : (line : HistoryLine) → is_left (marked n line) ≡ false
  marked_left line = ap (λ t. shows set (marked n line) && not t) (marked_has line)
      ∙ and-false (shows set (marked n line))

  texts_hidden : (line : HistoryLine) (texts : List (List ℕ)) → shows set line ≡ false
      → length (front_if (shows set line) line.text texts) ≡ length texts
  texts_hidden line texts hidden = ap (λ t. length (front_if t line.text texts)) hidden

  texts_shown : (line : HistoryLine) (texts : List (List ℕ)) → shows set line ≡ true
      → length (front_if (shows set line) line.text texts) ≡ suc (length texts)
  texts_shown line texts shown = ap (λ t. length (front_if t line.text texts)) shown

  counts_unchanged : (tags : List Tag) → has set n ≡ false → AreBelow n (flat before tags)
      → unchanged set n (flat woven tags) + struck_count (flat cell tags) ≡ length (select set (flat before tags))
  counts_unchanged [] apart below = refl
  counts_unchanged (Unseen line hidden ∷ tags) apart below =
      let unseen : shows set line ≡ false = sym (shows_below n set line below.0) ∙ hidden in
      let rest : unchanged set n (flat woven tags) + struck_count (flat cell tags) ≡ length
      (select set (flat before tags)) = counts_unchanged tags apart below.1 in
      let one : count_by is_left (line ∷ flat woven tags) ≡ unchanged set n (flat woven tags) =
      counts_not is_left line (flat woven tags) _ (hidden_left line unseen) refl in
      omega (arith, one, rest, texts_hidden line (select set (flat before tags)) unseen)
  counts_unchanged (Old line shown other true ∷ tags) apart below =
      let seen : shows set line ≡ true = sym (shows_below n set line below.0) ∙ shown in
      let rest : unchanged set n (flat woven tags) + struck_count (flat cell tags) ≡ length
      (select set (flat before tags)) = counts_unchanged tags apart below.1 in
      let one : count_by is_left (marked n line ∷ flat woven tags) ≡ unchanged set n (flat woven tags) =
      counts_not is_left (marked n line) (flat woven tags) _ (marked_left line) refl in
      omega (arith, one, rest, texts_shown line (select set (flat before tags)) seen)
  counts_unchanged (Old line shown other false ∷ tags) apart below =
      let seen : shows set line ≡ true = sym (shows_below n set line below.0) ∙ shown in
      let rest : unchanged set n (flat woven tags) + struck_count (flat cell tags) ≡ length
      (select set (flat before tags)) = counts_unchanged tags apart below.1 in
      let one : count_by is_left (line ∷ flat woven tags) ≡ suc (unchanged set n (flat woven tags)) =
      counts_one is_left line (flat woven tags) _ (shown_left line seen (has_below n line.deleters below.0.deleters))
      refl in
      omega (arith, one, rest, texts_shown line (select set (flat before tags)) seen)
  counts_unchanged (Fresh text ∷ tags) apart below =
      let hidden : shows set (new_line n text) ≡ false = ap (λ t. t && true) apart in
      let rest : unchanged set n (flat woven tags) + struck_count (flat cell tags) ≡ length
      (select set (flat before tags)) = counts_unchanged tags apart below in
      let one : count_by is_left (new_line n text ∷ flat woven tags) ≡ unchanged set n (flat woven tags) =
      counts_not is_left (new_line n text) (flat woven tags) _ (hidden_left (new_line n text) hidden) refl in
      omega (arith, one, rest)

  -- How many lines of each kind the woven ones have, by the plan.
  pub record Counted (orders : List Order) (lines : List HistoryLine) (p : Plan) : Type 0 where
    pub inserted_is : inserted n (weave set n orders lines) ≡ added_count p.added
    pub deleted_is : deleted n (weave set n orders lines) ≡ length p.deleted
    pub unchanged_is : has set n ≡ false → unchanged set n (weave set n orders lines) + length p.deleted ≡ length
        (select set lines)

  counted_own : (orders : List Order) (lines : List HistoryLine) → AreBelow n lines
      → Counted orders lines (plan orders (length (select (n ∷ set) lines)))
  counted_own orders lines below =
      let count : ℕ = length (select (n ∷ set) lines) in
      let tags : List Tag = run stands away Fresh orders (tags_of lines below) in
      let cells : flat cell tags ≡ cells_of orders count = cell_run orders (tags_of lines below)
      ∙ ap (λ l. run is_there struck New orders l) (tags_cells lines below) in
      let old : flat before tags ≡ lines = before_run orders (tags_of lines below) ∙ tags_before lines below in
      let under : AreBelow n (flat before tags) = subst (AreBelow n) (sym old) below in
      let new : flat woven tags ≡ weave set n orders lines = woven_run orders (tags_of lines below)
      ∙ ap (λ l. weave set n orders l) (tags_woven lines below) in
      let struck_is : struck_count (flat cell tags) ≡ length (plan orders count).deleted = ap struck_count cells
      ∙ sym (deleted_counted 0 (cells_of orders count)) in
      let counted : added_count (plan orders count).added ≡ 0 + fresh_count (cells_of orders count) =
      added_counted 0 [] (cells_of orders count) in
      let plain : fresh_count (cells_of orders count) ≡ added_count (plan orders count).added =
      omega (arith, counted) in
      let fresh_is : fresh_count (flat cell tags) ≡ added_count (plan orders count).added = ap fresh_count cells
      ∙ plain in
      record {
        inserted_is = ap (λ l. inserted n l) (sym new) ∙ (counts_inserted tags under ∙ fresh_is);
        deleted_is = ap (λ l. deleted n l) (sym new) ∙ (counts_deleted tags under ∙ struck_is);
        unchanged_is = λ apart.
            ap (λ l. unchanged set n l + length (plan orders count).deleted) (sym new)
            ∙ (ap (λ k. unchanged set n (flat woven tags) + k) (sym struck_is) ∙ (counts_unchanged tags apart under
            ∙ ap (λ l. length (select set l)) old));
      }

-- how many lines of each kind the woven ones have
pub weave_counted : (n : ℕ) (set : List ℕ) (orders : List Order) (lines : List HistoryLine) → AreBelow n lines
    → Counted n set orders lines (plan orders (length (select set lines)))
weave_counted n set orders lines below = subst (λ text. Counted n set orders lines (plan orders (length text)))
    (select_below n set lines below) (counted_own n set orders lines below)

-- the set without the serial sees the same of the old lines
planted_alike : (n : ℕ) (set : List ℕ) (p : Plan) (k : ℕ) (lines : List HistoryLine) → AreBelow n lines
    → planted_from (shows set) p n k lines ≡ planted_from (shows (n ∷ set)) p n k lines
planted_alike n set p k [] below = refl
planted_alike n set p k (line ∷ lines) below =
    ap (λ l. cond (shows set line) (struck_line p n (suc k) line ∷ (added_lines p n (suc k) ++ l))
    (line ∷ planted_from (shows set) p n k lines)) (planted_alike n set p (suc k) lines below.1)
    ∙ (ap (λ l. cond (shows set line) (struck_line p n (suc k) line ∷ (added_lines p n (suc k) ++ planted_from
    (shows (n ∷ set)) p n (suc k) lines)) (line ∷ l)) (planted_alike n set p k lines below.1)
    ∙ ap (λ t. cond t (struck_line p n (suc k) line ∷ (added_lines p n (suc k) ++ planted_from (shows (n ∷ set)) p n
    (suc k) lines)) (line ∷ planted_from (shows (n ∷ set)) p n k lines)) (sym (shows_below n set line below.0)))

-- the woven lines are the old ones with those of the plan
pub weave_planted : (n : ℕ) (set : List ℕ) (orders : List Order) (lines : List HistoryLine) → AreBelow n lines
    → weave set n orders lines ≡ planted (shows set) (plan orders (length (select set lines))) n lines
weave_planted n set orders lines below =
    sym (ap (λ l. added_lines (plan orders (length (select set lines))) n 0 ++ l)
    (planted_alike n set (plan orders (length (select set lines))) 0 lines below)
    ∙ (ap (λ text. planted (shows (n ∷ set)) (plan orders (length text)) n lines) (sym (select_below n set lines below))
    ∙ planted_own n set orders lines below))
