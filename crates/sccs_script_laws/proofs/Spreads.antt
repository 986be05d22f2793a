-- Readings of the items of a new delta, one item after another.
use Rattle.std.proofs.Common.{◌≡◌, ℕ, suc, ◌<◌, ◌≤◌, ◌==◌, Bool, true, false, cond, not, ◌&&◌, List, [], ◌∷◌, ◌++◌, map}
use Rattle.std.proofs.Common.{refl, sym, ap, ◌∙◌, arith, eq-eqb, append_assoc}
use Rattle.std.proofs.lemmas.Bool.{ne_eqb, false≢true, and_parts}
use Rattle.sccs_history.specs.Numbers.{front_if, has, is_empty}
use Rattle.sccs_history.specs.Body.{HistoryLine, Mark, Closed, ByInsert, ByDelete, is_closed, above, inserter, line_at}
use Rattle.sccs_history.specs.Body.{lines_behind, lines_of}
use Rattle.sccs_history.specs.Removal.{dropped, dropped_behind}
use Rattle.sccs_history.specs.Select.{shows}
use Rattle.sccs_history.specs.declared.headers.Item.{Item}
use Rattle.sccs_history.specs.declared.headers.Item.TheVariants.{Text, Insert, Delete, End}
use Rattle.sccs_script_laws.specs.Weave.{marked, new_line}
use Rattle.sccs_script_laws.specs.Plans.{added_after, added_lines, planted, planted_from, struck_line}
use Rattle.sccs_script_laws.specs.Places.{block, joins, spliced, spread, told_behind, visible_next}
use Rattle.sccs_script_laws.specs.declared.scripts.Plan.{Plan}
use Rattle.sccs_script_laws.proofs.Runs.{flat}
use Rattle.sccs_script_laws.proofs.Marks.{Alike, alike_begin, alike_close, alike_delete, alike_end, alike_insert}
use Rattle.sccs_script_laws.proofs.Marks.{alike_new, alike_strike, alike_text, inserter_below, inserter_own}
use Rattle.sccs_script_laws.proofs.Marks.{inserter_same, line_marked, line_new, line_same}

-- What an item gives behind others, and what the end does.
pub record Emits (X : Type 0) : Type 0 where
  pub item : List Item → Item → List X
  pub end : List Item → List X

-- what items give that stand behind others
abbrev pub walk : {X : Type 0} → Emits X → List Item → List Item → List X
walk emit before [] = emit.end before
walk emit before (item ∷ items) = emit.item before item ++ walk emit (item ∷ before) items

-- What is read at each item: of a line of the old body, deleted or not; of a new line; of an old control item; and
-- at the end.
pub record Reading (X : Type 0) : Type 0 where
  pub old : Bool → List Item → List ℕ → List X
  pub new : List ℕ → List X
  pub control : List Item → Item → List X
  pub end : List Item → List X

-- what is read of the items with those of a plan, where the last base line before had number k
abbrev pub aim : {X : Type 0} → Reading X → List ℕ → Plan → ℕ → List Item → List Item → List X
aim r set p k before [] = r.end before
aim r set p k before (Text text ∷ items) =
    cond (shows set (line_at before text)) (r.old (has p.deleted (suc k)) before text
    ++ (flat r.new (added_after (suc k) p.added) ++ aim r set p (suc k) (Text text ∷ before) items))
    (r.old false before text ++ aim r set p k (Text text ∷ before) items)
aim r set p k before (Insert m ∷ items) = r.control before (Insert m) ++ aim r set p k (Insert m ∷ before) items
aim r set p k before (Delete m ∷ items) = r.control before (Delete m) ++ aim r set p k (Delete m ∷ before) items
aim r set p k before (End m ∷ items) = r.control before (End m) ++ aim r set p k (End m ∷ before) items

-- The items give what is read.
pub record Gives (n : ℕ) {X : Type 0} (emit : Emits X) (r : Reading X) : Type 0 where
  pub plain : (before after : List Item) (text : List ℕ) → Alike n Closed before after → emit.item after (Text text)
      ≡ r.old false before text
  pub struck : (before after : List Item) (text : List ℕ) → Alike n ByDelete before after → emit.item after (Text text)
      ≡ r.old true before text
  pub added : (before after : List Item) (text : List ℕ) → Alike n ByInsert before after → emit.item after (Text text)
      ≡ r.new text
  pub insert : (here : Mark) (before after : List Item) (m : ℕ) → m < n → Alike n here before after
      → emit.item after (Insert m) ≡ r.control before (Insert m)
  pub delete : (here : Mark) (before after : List Item) (m : ℕ) → m < n → Alike n here before after
      → emit.item after (Delete m) ≡ r.control before (Delete m)
  pub ends : (here : Mark) (before after : List Item) (m : ℕ) → m < n → Alike n here before after
      → emit.item after (End m) ≡ r.control before (End m)
  pub own_insert : (before after : List Item) → Alike n Closed before after → emit.item after (Insert n) ≡ []
  pub own_delete : (before after : List Item) → Alike n Closed before after → emit.item after (Delete n) ≡ []
  pub own_end : (here : Mark) (before after : List Item) → is_closed here ≡ false → Alike n here before after
      → emit.item after (End n) ≡ []
  pub over : (before after : List Item) → Alike n Closed before after → emit.end after ≡ r.end before

module _ {X : Type 0} (n : ℕ) (set : List ℕ) (p : Plan) (emit : Emits X) (r : Reading X) (gives : Gives n emit r) where
  both : (a b : List X) (c d : List X) → a ≡ b → c ≡ d → a ++ c ≡ b ++ d
  both a b c d one two = ap (λ l. l ++ c) one ∙ ap (λ l. b ++ l) two

  -- new lines up to their End, and what follows
  new_texts : (before after rest : List Item) (texts : List (List ℕ)) (then_it : List X) → Alike n ByInsert before after
      → ((late : List Item) → Alike n Closed before late → walk emit late rest ≡ then_it)
      → walk emit after ((map Text texts ++ End n ∷ []) ++ rest) ≡ flat r.new texts ++ then_it
  new_texts before after rest [] then_it alike later =
      both (emit.item after (End n)) [] (walk emit (End n ∷ after) rest) then_it
      (gives.own_end ByInsert before after refl alike)
      (later (End n ∷ after) (alike_close n ByInsert before after alike))
  new_texts before after rest (text ∷ texts) then_it alike later =
      both (emit.item after (Text text)) (r.new text) (walk emit (Text text ∷ after) ((map Text texts ++ End n ∷ [])
      ++ rest)) (flat r.new texts ++ then_it) (gives.added before after text alike)
      (new_texts before (Text text ∷ after) rest texts then_it (alike_new n ByInsert before after text alike) later)
      ∙ sym (append_assoc (r.new text) (flat r.new texts) then_it)

  walk_block : (before after rest : List Item) (texts : List (List ℕ)) (then_it : List X) → Alike n Closed before after
      → ((late : List Item) → Alike n Closed before late → walk emit late rest ≡ then_it)
      → walk emit after (block n texts ++ rest) ≡ flat r.new texts ++ then_it
  walk_block before after rest [] then_it alike later = later after alike
  walk_block before after rest (text ∷ texts) then_it alike later =
      both (emit.item after (Insert n)) [] (walk emit (Insert n ∷ after) ((map Text (text ∷ texts) ++ End n ∷ [])
      ++ rest)) (flat r.new (text ∷ texts) ++ then_it) (gives.own_insert before after alike)
      (new_texts before (Insert n ∷ after) rest (text ∷ texts) then_it (alike_begin n Closed before after alike) later)

  -- the region of the serial that is open where lines join
  abbrev open_if : Bool → Mark
  open_if joined = cond joined ByDelete Closed

  -- where a region is open, the next text item is a line of the base that is deleted
  abbrev Goes : Bool → ℕ → List (Item × Bool) → Type 0
  Goes joined k told = joined ≡ true → (visible_next told ≡ true) × (has p.deleted (suc k) ≡ true)

  module _ (k : ℕ) (before items : List Item) (text : List ℕ) (told : List (Item × Bool)) where
    -- what is to be shown of the items behind this line
    abbrev Later : Type 0
    Later = (joined : Bool) (k : ℕ) (after : List Item) → Alike n (open_if joined) (Text text ∷ before) after
        → Goes joined k told → walk emit after (spread p n joined k told) ≡ aim r set p k (Text text ∷ before) items

    abbrev new : List (List ℕ)
    new = added_after (suc k) p.added

    abbrev then_new : List X
    then_new = flat r.new new ++ aim r set p (suc k) (Text text ∷ before) items

    behind_closed : (after : List Item) → Later → Alike n Closed (Text text ∷ before) after
        → walk emit after (block n new ++ spread p n false (suc k) told) ≡ then_new
    behind_closed after later alike =
        walk_block (Text text ∷ before) after (spread p n false (suc k) told) new
        (aim r set p (suc k) (Text text ∷ before) items) alike
        (λ late closed. later false (suc k) late closed (λ e. absurd (false≢true e)))

    -- a deleted line whose region is open
    struck_line_on : (after : List Item) (j : Bool) → Later → Alike n ByDelete before after
        → (j ≡ true → (is_empty new ≡ true) × Goes true (suc k) told)
        → walk emit after (Text text ∷ front_if (not j) (End n) (block n new ++ spread p n j (suc k) told))
        ≡ r.old true before text ++ then_new
    struck_line_on after false later alike on =
        both (emit.item after (Text text)) (r.old true before text) (walk emit (Text text ∷ after)
        (End n ∷ (block n new ++ spread p n false (suc k) told))) then_new (gives.struck before after text alike)
        (both (emit.item (Text text ∷ after) (End n)) [] (walk emit (End n ∷ Text text ∷ after)
        (block n new ++ spread p n false (suc k) told)) then_new (gives.own_end ByDelete (Text text ∷ before)
        (Text text ∷ after) refl (alike_text n ByDelete before after text alike))
        (behind_closed (End n ∷ Text text ∷ after) later (alike_close n ByDelete (Text text ∷ before)
        (Text text ∷ after) (alike_text n ByDelete before after text alike))))
    struck_line_on after true later alike on =
        let none : new ≡ [] = nothing new (on refl).0 in
        both (emit.item after (Text text)) (r.old true before text) (walk emit (Text text ∷ after)
        (block n new ++ spread p n true (suc k) told)) then_new (gives.struck before after text alike)
        (ap (λ l. walk emit (Text text ∷ after) (block n l ++ spread p n true (suc k) told)) none
        ∙ (later true (suc k) (Text text ∷ after) (alike_text n ByDelete before after text alike) (on refl).1
        ∙ ap (λ l. flat r.new l ++ aim r set p (suc k) (Text text ∷ before) items) (sym none)))
      where
        nothing : (l : List (List ℕ)) → is_empty l ≡ true → l ≡ []
        nothing [] e = refl
        nothing (x ∷ l) e = absurd (false≢true e)

    shown_line : (after : List Item) (d joined j : Bool) → Later → (joined ≡ true → d ≡ true)
        → (j ≡ true → (d ≡ true) × (is_empty new ≡ true) × Goes true (suc k) told)
        → Alike n (open_if joined) before after
        → walk emit after (front_if (d && not joined) (Delete n) (Text text ∷ front_if (d && not j) (End n)
        (block n new ++ spread p n j (suc k) told))) ≡ r.old d before text ++ then_new
    shown_line after false true j later was on alike = absurd (false≢true (was refl))
    shown_line after false false true later was on alike = absurd (false≢true (on refl).0)
    shown_line after false false false later was on alike =
        both (emit.item after (Text text)) (r.old false before text) (walk emit (Text text ∷ after)
        (block n new ++ spread p n false (suc k) told)) then_new (gives.plain before after text alike)
        (behind_closed (Text text ∷ after) later (alike_text n Closed before after text alike))
    shown_line after true true j later was on alike = struck_line_on after j later alike (λ e. ((on e).1, (on e).2))
    shown_line after true false j later was on alike =
        both (emit.item after (Delete n)) [] (walk emit (Delete n ∷ after) (Text text ∷ front_if (not j) (End n)
        (block n new ++ spread p n j (suc k) told))) (r.old true before text ++ then_new)
        (gives.own_delete before after alike)
        (struck_line_on (Delete n ∷ after) j later (alike_strike n Closed before after alike)
        (λ e. ((on e).1, (on e).2)))

    joined_parts : joins p (suc k) told ≡ true → (has p.deleted (suc k) ≡ true) × (is_empty new ≡ true)
        × Goes true (suc k) told
    joined_parts e =
        let one = and_parts (has p.deleted (suc k)) (is_empty new && (has p.deleted (suc (suc k)) && visible_next told))
        e in
        let two = and_parts (is_empty new) (has p.deleted (suc (suc k)) && visible_next told) one.1 in
        let three = and_parts (has p.deleted (suc (suc k))) (visible_next told) two.1 in
        (one.0, two.0, λ _. (three.1, three.0))

    text_step : (after : List Item) (visible joined : Bool) → Later → Alike n (open_if joined) before after
        → Goes joined k ((Text text, visible) ∷ told)
        → walk emit after (spread p n joined k ((Text text, visible) ∷ told)) ≡ cond visible
        (r.old (has p.deleted (suc k)) before text ++ then_new) (r.old false before text ++ aim r set p k
        (Text text ∷ before) items)
    text_step after false true later alike goes = absurd (false≢true (goes refl).0)
    text_step after false false later alike goes =
        both (emit.item after (Text text)) (r.old false before text) (walk emit (Text text ∷ after)
        (spread p n false k told)) (aim r set p k (Text text ∷ before) items) (gives.plain before after text alike)
        (later false k (Text text ∷ after) (alike_text n Closed before after text alike) (λ e. absurd (false≢true e)))
    text_step after true joined later alike goes =
        shown_line after (has p.deleted (suc k)) joined (joins p (suc k) told) later (λ e. (goes e).1) joined_parts
        alike

  walks : (joined : Bool) (k : ℕ) (before after items : List Item) → above items ≤ n
      → Alike n (open_if joined) before after → Goes joined k (told_behind set before items)
      → walk emit after (spread p n joined k (told_behind set before items)) ≡ aim r set p k before items
  walks true k before after [] high alike goes = absurd (false≢true (goes refl).0)
  walks false k before after [] high alike goes = gives.over before after alike
  walks joined k before after (Text text ∷ items) high alike goes =
      text_step k before items text (told_behind set (Text text ∷ before) items) after (shows set (line_at before text))
      joined
      (λ j i late same on. walks j i (Text text ∷ before) late items high same on) alike goes
  walks joined k before after (Insert m ∷ items) high alike goes =
      both (emit.item after (Insert m)) (r.control before (Insert m)) (walk emit (Insert m ∷ after)
      (spread p n joined k (told_behind set (Insert m ∷ before) items))) (aim r set p k (Insert m ∷ before) items)
      (gives.insert (open_if joined) before after m (omega arith) alike)
      (walks joined k (Insert m ∷ before) (Insert m ∷ after) items (omega arith)
      (alike_insert n m (open_if joined) before after (omega arith) alike) goes)
  walks joined k before after (Delete m ∷ items) high alike goes =
      both (emit.item after (Delete m)) (r.control before (Delete m)) (walk emit (Delete m ∷ after)
      (spread p n joined k (told_behind set (Delete m ∷ before) items))) (aim r set p k (Delete m ∷ before) items)
      (gives.delete (open_if joined) before after m (omega arith) alike)
      (walks joined k (Delete m ∷ before) (Delete m ∷ after) items (omega arith)
      (alike_delete n m (open_if joined) before after (omega arith) alike) goes)
  walks joined k before after (End m ∷ items) high alike goes =
      both (emit.item after (End m)) (r.control before (End m)) (walk emit (End m ∷ after)
      (spread p n joined k (told_behind set (End m ∷ before) items))) (aim r set p k (End m ∷ before) items)
      (gives.ends (open_if joined) before after m (omega arith) alike)
      (walks joined k (End m ∷ before) (End m ∷ after) items (omega arith) (alike_end n m (open_if joined) before after
      (omega arith) alike) goes)

  none_yet : Alike n Closed [] []
  none_yet = record { few = omega arith; others = λ m other. refl; own = refl }

  -- the items with those of a plan give what is read
  pub walk_spliced : (items : List Item) → above items ≤ n → walk emit [] (spliced p n (told_behind set [] items))
      ≡ flat r.new (added_after 0 p.added) ++ aim r set p 0 [] items
  walk_spliced items high =
      walk_block [] [] (spread p n false 0 (told_behind set [] items)) (added_after 0 p.added) (aim r set p 0 [] items)
      none_yet
      (λ late closed. walks false 0 [] late items high closed (λ e. absurd (false≢true e)))

-- lines
abbrev line_of : List Item → Item → List HistoryLine
line_of before (Text text) = line_at before text ∷ []
line_of before (Insert m) = []
line_of before (Delete m) = []
line_of before (End m) = []

abbrev line_emits : Emits HistoryLine
line_emits = record { item = line_of; end = λ before. [] }

lines_walk : (before items : List Item) → walk line_emits before items ≡ lines_behind before items
lines_walk before [] = refl
lines_walk before (Text text ∷ items) = ap (λ l. line_at before text ∷ l) (lines_walk (Text text ∷ before) items)
lines_walk before (Insert m ∷ items) = lines_walk (Insert m ∷ before) items
lines_walk before (Delete m ∷ items) = lines_walk (Delete m ∷ before) items
lines_walk before (End m ∷ items) = lines_walk (End m ∷ before) items

abbrev as_lines : ℕ → Reading HistoryLine
as_lines n = record {
  old = λ deleted before text. cond deleted (marked n (line_at before text)) (line_at before text) ∷ [];
  new = λ text. new_line n text ∷ [];
  control = λ before item. [];
  end = λ before. [];
}

gives_lines : (n : ℕ) → 0 < n → Gives n line_emits (as_lines n)
gives_lines n some = record {
  plain = λ before after text alike. ap (λ l. l ∷ []) (line_same n before after text alike);
  struck = λ before after text alike. ap (λ l. l ∷ []) (line_marked n before after text some alike);
  added = λ before after text alike. ap (λ l. l ∷ []) (line_new n before after text alike);
  insert = λ here before after m lt alike. refl;
  delete = λ here before after m lt alike. refl;
  ends = λ here before after m lt alike. refl;
  own_insert = λ before after alike. refl;
  own_delete = λ before after alike. refl;
  own_end = λ here before after opened alike. refl;
  over = λ before after alike. refl;
}

new_lines : (n : ℕ) (texts : List (List ℕ)) → flat (λ text. new_line n text ∷ []) texts ≡ map (new_line n) texts
new_lines n [] = refl
new_lines n (text ∷ texts) = ap (λ l. new_line n text ∷ l) (new_lines n texts)

aim_lines : (n : ℕ) (set : List ℕ) (p : Plan) (k : ℕ) (before items : List Item) → aim (as_lines n) set p k before items
    ≡ planted_from (shows set) p n k (lines_behind before items)
aim_lines n set p k before [] = refl
aim_lines n set p k before (Text text ∷ items) =
    ap (λ l. cond (shows set (line_at before text)) (struck_line p n (suc k) (line_at before text) ∷ l)
    (line_at before text ∷ aim (as_lines n) set p k (Text text ∷ before) items))
    (ap (λ l. l ++ aim (as_lines n) set p (suc k) (Text text ∷ before) items)
    (new_lines n (added_after (suc k) p.added)) ∙ ap (λ l. added_lines p n (suc k) ++ l) (aim_lines n set p (suc k)
    (Text text ∷ before) items))
    ∙ ap (λ l. cond (shows set (line_at before text)) (struck_line p n (suc k) (line_at before text)
    ∷ (added_lines p n (suc k) ++ planted_from (shows set) p n (suc k) (lines_behind (Text text ∷ before) items)))
    (line_at before text ∷ l))
    (aim_lines n set p k (Text text ∷ before) items)
aim_lines n set p k before (Insert m ∷ items) = aim_lines n set p k (Insert m ∷ before) items
aim_lines n set p k before (Delete m ∷ items) = aim_lines n set p k (Delete m ∷ before) items
aim_lines n set p k before (End m ∷ items) = aim_lines n set p k (End m ∷ before) items

-- the lines of the items with those of a plan are the lines with those of the plan
pub lines_spliced : (n : ℕ) (set : List ℕ) (p : Plan) (items : List Item) → 0 < n → above items ≤ n
    → lines_of (spliced p n (told_behind set [] items)) ≡ planted (shows set) p n (lines_of items)
lines_spliced n set p items some high =
    sym (lines_walk [] (spliced p n (told_behind set [] items)))
    ∙ (walk_spliced n set p line_emits (as_lines n) (gives_lines n some) items high
    ∙ (ap (λ l. l ++ aim (as_lines n) set p 0 [] items) (new_lines n (added_after 0 p.added))
    ∙ ap (λ l. added_lines p n 0 ++ l) (aim_lines n set p 0 [] items)))

-- what stays where the serial's items are taken out
abbrev kept_of : ℕ → List Item → Item → List Item
kept_of n before (Text text) = front_if (not (inserter before == n)) (Text text) []
kept_of n before (Insert m) = front_if (not (m == n)) (Insert m) []
kept_of n before (Delete m) = front_if (not (m == n)) (Delete m) []
kept_of n before (End m) = front_if (not (m == n)) (End m) []

abbrev kept_emits : ℕ → Emits Item
kept_emits n = record { item = kept_of n; end = λ before. [] }

front_walk : (t : Bool) (item : Item) (rest : List Item) → front_if t item [] ++ rest ≡ front_if t item rest
front_walk true item rest = refl
front_walk false item rest = refl

dropped_walk : (n : ℕ) (before items : List Item) → walk (kept_emits n) before items ≡ dropped_behind n before items
dropped_walk n before [] = refl
dropped_walk n before (Text text ∷ items) = ap (λ l. kept_of n before (Text text) ++ l)
    (dropped_walk n (Text text ∷ before) items) ∙ front_walk (not (inserter before == n)) (Text text)
    (dropped_behind n (Text text ∷ before) items)
dropped_walk n before (Insert m ∷ items) = ap (λ l. kept_of n before (Insert m) ++ l)
    (dropped_walk n (Insert m ∷ before) items) ∙ front_walk (not (m == n)) (Insert m)
    (dropped_behind n (Insert m ∷ before) items)
dropped_walk n before (Delete m ∷ items) = ap (λ l. kept_of n before (Delete m) ++ l)
    (dropped_walk n (Delete m ∷ before) items) ∙ front_walk (not (m == n)) (Delete m)
    (dropped_behind n (Delete m ∷ before) items)
dropped_walk n before (End m ∷ items) = ap (λ l. kept_of n before (End m) ++ l) (dropped_walk n (End m ∷ before) items)
    ∙ front_walk (not (m == n)) (End m) (dropped_behind n (End m ∷ before) items)

abbrev as_items : Reading Item
as_items = record {
  old = λ deleted before text. Text text ∷ [];
  new = λ text. [];
  control = λ before item. item ∷ [];
  end = λ before. [];
}

other_kept : (item : Item) (m n : ℕ) → m < n → front_if (not (m == n)) item [] ≡ item ∷ []
other_kept item m n lt = ap (λ t. front_if (not t) item []) (ne_eqb m n (λ e. omega arith))

own_goes : (item : Item) (n : ℕ) → front_if (not (n == n)) item [] ≡ []
own_goes item n = ap (λ t. front_if (not t) item []) (eq-eqb n n refl)

gives_items : (n : ℕ) → 0 < n → Gives n (kept_emits n) as_items
gives_items n some = record {
  plain = λ before after text alike.
      ap (λ i. front_if (not (i == n)) (Text text) []) (inserter_same n Closed before after alike refl)
      ∙ other_kept (Text text) (inserter before) n (inserter_below n Closed before after alike some);
  struck = λ before after text alike.
      ap (λ i. front_if (not (i == n)) (Text text) []) (inserter_same n ByDelete before after alike refl)
      ∙ other_kept (Text text) (inserter before) n (inserter_below n ByDelete before after alike some);
  added = λ before after text alike. ap (λ i. front_if (not (i == n)) (Text text) [])
      (inserter_own n before after alike) ∙ own_goes (Text text) n;
  insert = λ here before after m lt alike. other_kept (Insert m) m n lt;
  delete = λ here before after m lt alike. other_kept (Delete m) m n lt;
  ends = λ here before after m lt alike. other_kept (End m) m n lt;
  own_insert = λ before after alike. own_goes (Insert n) n;
  own_delete = λ before after alike. own_goes (Delete n) n;
  own_end = λ here before after opened alike. own_goes (End n) n;
  over = λ before after alike. refl;
}

no_items : (texts : List (List ℕ)) → flat {B = Item} (λ text. []) texts ≡ []
no_items [] = refl
no_items (text ∷ texts) = no_items texts

aim_text : (t : Bool) (text : List ℕ) (new rest items : List Item) → new ≡ [] → rest ≡ items
    → cond t (Text text ∷ (new ++ rest)) (Text text ∷ rest) ≡ Text text ∷ items
aim_text true text fresh rest items none same = ap (λ l. Text text ∷ (l ++ rest)) none ∙ ap (λ l. Text text ∷ l) same
aim_text false text fresh rest items none same = ap (λ l. Text text ∷ l) same

aim_items : (set : List ℕ) (p : Plan) (k : ℕ) (before items : List Item) → aim as_items set p k before items ≡ items
aim_items set p k before [] = refl
aim_items set p k before (Text text ∷ items) =
    ap (λ l. cond (shows set (line_at before text))
    (Text text ∷ (flat {B = Item} (λ _. []) (added_after (suc k) p.added) ++ aim as_items set p (suc k)
    (Text text ∷ before) items)) (Text text ∷ l))
    (aim_items set p k (Text text ∷ before) items ∙ sym (aim_items set p (suc k) (Text text ∷ before) items))
    ∙ aim_text (shows set (line_at before text)) text (flat {B = Item} (λ _. []) (added_after (suc k) p.added))
    (aim as_items set p (suc k) (Text text ∷ before) items) items (no_items (added_after (suc k) p.added))
    (aim_items set p (suc k) (Text text ∷ before) items)
aim_items set p k before (Insert m ∷ items) = ap (λ l. Insert m ∷ l) (aim_items set p k (Insert m ∷ before) items)
aim_items set p k before (Delete m ∷ items) = ap (λ l. Delete m ∷ l) (aim_items set p k (Delete m ∷ before) items)
aim_items set p k before (End m ∷ items) = ap (λ l. End m ∷ l) (aim_items set p k (End m ∷ before) items)

-- taking the serial's items out gives the old ones
pub dropped_spliced : (n : ℕ) (set : List ℕ) (p : Plan) (items : List Item) → 0 < n → above items ≤ n
    → dropped n (spliced p n (told_behind set [] items)) ≡ items
dropped_spliced n set p items some high =
    sym (dropped_walk n [] (spliced p n (told_behind set [] items)))
    ∙ (walk_spliced n set p (kept_emits n) as_items (gives_items n some) items high
    ∙ (ap (λ l. l ++ aim as_items set p 0 [] items) (no_items (added_after 0 p.added)) ∙ aim_items set p 0 [] items))
