-- The items of a new delta have a spelling where the old ones and the script's lines have one.
use Rattle.std.proofs.Common.{ℕ, zero, suc, ◌-◌, ◌==◌, ◌&&◌, Bool, true, false, cond, not, List, [], ◌∷◌, ◌++◌, map}
use Rattle.std.proofs.Common.{replicate}
use Rattle.std.specs.List.{AllByRecursion}
use Rattle.sccs_history.specs.Numbers.{front_if, has}
use Rattle.sccs_history.specs.declared.headers.Item.{Item}
use Rattle.sccs_history.specs.declared.headers.Item.TheVariants.{Text, Insert, Delete, End}
use Rattle.sccs_script_laws.specs.Places.{block, joins, spliced, spread, told_behind}
use Rattle.sccs_script_laws.specs.Plans.{added_after, added_from, Base, Cell, cells_of, is_there, New, plan, struck}
use Rattle.sccs_script_laws.specs.Plans.{with_added}
use Rattle.sccs_script_laws.specs.Scripts.{put_after, run, step, take_away}
use Rattle.sccs_script_laws.specs.declared.scripts.Added.{Added}
use Rattle.sccs_script_laws.specs.declared.scripts.Order.{Order}
use Rattle.sccs_script_laws.specs.declared.scripts.OrderKind.{OrderKind}
use Rattle.sccs_script_laws.specs.declared.scripts.OrderKind.TheVariants as kinds
use Rattle.sccs_script_laws.specs.declared.scripts.Plan.{Plan}

all_both : {A : Type 0} (P : A → Type 0) (xs ys : List A) → AllByRecursion P xs → AllByRecursion P ys
    → AllByRecursion P (xs ++ ys)
all_both P [] ys first more = more
all_both P (x ∷ xs) ys first more = (first.0, all_both P xs ys first.1 more)

module _ (P : List ℕ → Type 0) (Q : Item → Type 0) (n : ℕ) (old : (text : List ℕ) → P text → Q (Text text))
    (inserts : Q (Insert n)) (deletes : Q (Delete n)) (ends : Q (End n)) where
  abbrev Keeps : Cell → Type 0
  Keeps (Base deleted) = Unit {0}
  Keeps (New text) = P text

  news_keep : (texts : List (List ℕ)) → AllByRecursion P texts → AllByRecursion Keeps (map New texts)
  news_keep [] all = tt
  news_keep (text ∷ texts) all = (all.0, news_keep texts all.1)

  put_keeps : (k : ℕ) (new cells : List Cell) → AllByRecursion Keeps new → AllByRecursion Keeps cells
      → AllByRecursion Keeps (put_after is_there k new cells)
  put_keeps zero new cells fresh all = all_both Keeps new cells fresh all
  put_keeps (suc k) new [] fresh all = tt
  put_keeps (suc k) new (Base true ∷ cells) fresh all = (tt, put_keeps (suc k) new cells fresh all.1)
  put_keeps (suc k) new (Base false ∷ cells) fresh all = (tt, put_keeps k new cells fresh all.1)
  put_keeps (suc k) new (New text ∷ cells) fresh all = (all.0, put_keeps k new cells fresh all.1)

  take_keeps : (k count : ℕ) (cells : List Cell) → AllByRecursion Keeps cells
      → AllByRecursion Keeps (take_away is_there struck k count cells)
  take_keeps zero zero cells all = all
  take_keeps (suc k) zero cells all = all
  take_keeps zero (suc count) [] all = tt
  take_keeps (suc k) (suc count) [] all = tt
  take_keeps (suc k) (suc count) (Base true ∷ cells) all = (tt, take_keeps (suc k) (suc count) cells all.1)
  take_keeps (suc k) (suc count) (Base false ∷ cells) all = (tt, take_keeps k (suc count) cells all.1)
  take_keeps (suc k) (suc count) (New text ∷ cells) all = (all.0, take_keeps k (suc count) cells all.1)
  take_keeps zero (suc count) (Base true ∷ cells) all = (tt, take_keeps zero (suc count) cells all.1)
  take_keeps zero (suc count) (Base false ∷ cells) all = (tt, take_keeps zero count cells all.1)
  take_keeps zero (suc count) (New text ∷ cells) all = take_keeps zero count cells all.1

  step_keeps : (kind : OrderKind) (first last : ℕ) (texts : List (List ℕ)) (cells : List Cell) → AllByRecursion P texts
      → AllByRecursion Keeps cells → AllByRecursion Keeps (step is_there struck New kind first last texts cells)
  step_keeps kinds.Append first last texts cells new all = put_keeps first (map New texts) cells (news_keep texts new)
      all
  step_keeps kinds.Delete first last texts cells new all = take_keeps (first - 1) (last - (first - 1)) cells all
  step_keeps kinds.Change first last texts cells new all =
      put_keeps (first - 1) (map New texts) (take_away is_there struck (first - 1) (last - (first - 1)) cells)
      (news_keep texts new) (take_keeps (first - 1) (last - (first - 1)) cells all)

  run_keeps : (orders : List Order) (cells : List Cell) → AllByRecursion (λ (o : Order). AllByRecursion P o.lines)
      orders → AllByRecursion Keeps cells → AllByRecursion Keeps (run is_there struck New orders cells)
  run_keeps [] cells new all = all
  run_keeps (order ∷ orders) cells new all =
      run_keeps orders (step is_there struck New order.kind order.first order.last order.lines cells) new.1
      (step_keeps order.kind order.first order.last order.lines cells new.0 all)

  base_keeps : (count : ℕ) → AllByRecursion Keeps (replicate count (Base false))
  base_keeps zero = tt
  base_keeps (suc count) = (tt, base_keeps count)

  with_all : (k m : ℕ) (texts : List (List ℕ)) (rest : List Added) → AllByRecursion P texts
      → AllByRecursion P (added_after m rest) → AllByRecursion P (added_after m (with_added k texts rest))
  with_all k m [] rest all more = more
  with_all k m (text ∷ texts) rest all more = pick (k == m)
    where
      pick : (t : Bool) → AllByRecursion P (cond t (text ∷ texts) (added_after m rest))
      pick true = all
      pick false = more

  added_all : (k m : ℕ) (texts : List (List ℕ)) (cells : List Cell) → AllByRecursion P texts
      → AllByRecursion Keeps cells → AllByRecursion P (added_after m (added_from k texts cells))
  added_all k m texts [] all keeps = with_all k m texts [] all tt
  added_all k m texts (Base deleted ∷ cells) all keeps = with_all k m texts (added_from (suc k) [] cells) all
      (added_all (suc k) m [] cells tt keeps.1)
  added_all k m texts (New text ∷ cells) all keeps = added_all k m (texts ++ text ∷ []) cells
      (all_both P texts (text ∷ []) all (keeps.0, tt)) keeps.1

  texts_all : (texts : List (List ℕ)) → AllByRecursion P texts → AllByRecursion Q (map Text texts)
  texts_all [] all = tt
  texts_all (text ∷ texts) all = (old text all.0, texts_all texts all.1)

  block_all : (texts : List (List ℕ)) → AllByRecursion P texts → AllByRecursion Q (block n texts)
  block_all [] all = tt
  block_all (text ∷ texts) all = (
    inserts,
    all_both Q (map Text (text ∷ texts)) (End n ∷ [])
        (texts_all (text ∷ texts) all) (ends, tt),
  )

  front_all : (t : Bool) (item : Item) (items : List Item) → Q item → AllByRecursion Q items
      → AllByRecursion Q (front_if t item items)
  front_all true item items one all = (one, all)
  front_all false item items one all = all

  spread_all : (p : Plan) (joined : Bool) (k : ℕ) (told : List (Item × Bool))
      → ((m : ℕ) → AllByRecursion P (added_after m p.added)) → AllByRecursion (λ (t : Item × Bool). Q t.0) told
      → AllByRecursion Q (spread p n joined k told)
  spread_all p joined k [] new all = tt
  spread_all p joined k ((Text text, false) ∷ told) new all = (all.0, spread_all p false k told new all.1)
  spread_all p joined k ((Text text, true) ∷ told) new all =
      front_all (has p.deleted (suc k) && not joined) (Delete n) _ deletes (
        all.0,
        front_all (has p.deleted (suc k) && not (joins p (suc k) told)) (End n) _ ends
            (all_both Q (block n (added_after (suc k) p.added)) _ (block_all (added_after (suc k) p.added)
            (new (suc k))) (spread_all p (joins p (suc k) told) (suc k) told new all.1)),
      )
  spread_all p joined k ((Insert m, visible) ∷ told) new all = (all.0, spread_all p joined k told new all.1)
  spread_all p joined k ((Delete m, visible) ∷ told) new all = (all.0, spread_all p joined k told new all.1)
  spread_all p joined k ((End m, visible) ∷ told) new all = (all.0, spread_all p joined k told new all.1)

  told_all : (set : List ℕ) (before items : List Item) → AllByRecursion Q items
      → AllByRecursion (λ (t : Item × Bool). Q t.0) (told_behind set before items)
  told_all set before [] all = tt
  told_all set before (Text text ∷ items) all = (all.0, told_all set (Text text ∷ before) items all.1)
  told_all set before (Insert m ∷ items) all = (all.0, told_all set (Insert m ∷ before) items all.1)
  told_all set before (Delete m ∷ items) all = (all.0, told_all set (Delete m ∷ before) items all.1)
  told_all set before (End m ∷ items) all = (all.0, told_all set (End m ∷ before) items all.1)

  pub placed_all : (items : List Item) (set : List ℕ) (orders : List Order) (count : ℕ) → AllByRecursion Q items
      → AllByRecursion (λ (o : Order). AllByRecursion P o.lines) orders
      → AllByRecursion Q (spliced (plan orders count) n (told_behind set [] items))
  placed_all items set orders count all new =
      let keeps : AllByRecursion Keeps (cells_of orders count) = run_keeps orders (replicate count (Base false)) new
      (base_keeps count) in
      let added : (m : ℕ) → AllByRecursion P (added_after m (plan orders count).added) =
      λ m. added_all 0 m [] (cells_of orders count) tt keeps in
      all_both Q (block n (added_after 0 (plan orders count).added)) _
      (block_all (added_after 0 (plan orders count).added) (added 0)) (spread_all (plan orders count) false 0
      (told_behind set [] items) added (told_all set [] items all))
