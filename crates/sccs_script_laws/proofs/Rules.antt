-- The items of a new delta keep the rules of a body.
use Rattle.std.proofs.Common.{◌≡◌, ℕ, suc, ◌<◌, ◌≤◌, Bool, true, false, cond, not, ◌&&◌, ◌||◌, List, [], ◌∷◌, ◌++◌}
use Rattle.std.proofs.Common.{refl, ap, ◌∙◌, arith, eq-eqb}
use Rattle.std.proofs.lemmas.Bool.{ne_eqb}
use Rattle.sccs_history.specs.Numbers.{front_if, has, is_empty}
use Rattle.sccs_history.specs.Body.{Mark, Closed, ByDelete, above, GoesOn, is_closed, is_over, line_at, mark, may_stand}
use Rattle.sccs_history.specs.Select.{shows}
use Rattle.sccs_history.specs.declared.headers.Item.{Item}
use Rattle.sccs_history.specs.declared.headers.Item.TheVariants.{Text, Insert, Delete, End}
use Rattle.sccs_script_laws.specs.Places.{spliced, told_behind}
use Rattle.sccs_script_laws.specs.Plans.{added_after}
use Rattle.sccs_script_laws.specs.declared.scripts.Plan.{Plan}
use Rattle.sccs_script_laws.proofs.Marks.{Alike, inserters_more, inserters_same, open_same}
use Rattle.sccs_script_laws.proofs.Runs.{flat}
use Rattle.sccs_script_laws.proofs.Spreads.{aim, Emits, Gives, Reading, walk, walk_spliced}

-- an item that may not stand
abbrev faults : Bool → Item → List Item
faults fits item = front_if (not fits) item []

-- the items that may not stand where they do, and one more where the body may not end
abbrev bad : List ℕ → Emits Item
bad live = record {
  item = λ before item. faults (may_stand live before item) item;
  end = λ before. faults (is_over before) (End 0);
}

abbrev old_bad : List ℕ → Reading Item
old_bad live = record {
  old = λ deleted before text. faults (may_stand live before (Text text)) (Text text);
  new = λ text. [];
  control = λ before item. faults (may_stand live before item) item;
  end = λ before. faults (is_over before) (End 0);
}

other_live : (n m : ℕ) (live : List ℕ) → m < n → has (n ∷ live) m ≡ has live m
other_live n m live lt = ap (λ t. t || has live m) (ne_eqb n m (λ e. omega arith))

own_live : (n : ℕ) (live : List ℕ) → has (n ∷ live) n ≡ true
own_live n live = ap (λ t. t || has live n) (eq-eqb n n refl)

module _ (live : List ℕ) (n : ℕ) where
  opens_same : (here : Mark) (before after : List Item) (m : ℕ) → m < n → Alike n here before after
      → (has (n ∷ live) m && is_closed (mark m after)) ≡ (has live m && is_closed (mark m before))
  opens_same here before after m lt alike =
      ap (λ t. t && is_closed (mark m after)) (other_live n m live lt) ∙ ap (λ k. has live m && is_closed k)
      (alike.others m (λ e. omega arith))

  ends_same : (here : Mark) (before after : List Item) (m : ℕ) → m < n → Alike n here before after
      → (has (n ∷ live) m && not (is_closed (mark m after))) ≡ (has live m && not (is_closed (mark m before)))
  ends_same here before after m lt alike =
      ap (λ t. t && not (is_closed (mark m after))) (other_live n m live lt) ∙ ap (λ k. has live m && not (is_closed k))
      (alike.others m (λ e. omega arith))

  own_opens : (before after : List Item) → Alike n Closed before after → (has (n ∷ live) n && is_closed (mark n after))
      ≡ true
  own_opens before after alike = ap (λ t. t && is_closed (mark n after)) (own_live n live) ∙ ap is_closed alike.own

  gives_bad : Gives n (bad (n ∷ live)) (old_bad live)
  gives_bad = record {
    plain = λ before after text alike. ap (λ l. faults (not (is_empty l)) (Text text))
        (inserters_same n Closed before after alike refl);
    struck = λ before after text alike. ap (λ l. faults (not (is_empty l)) (Text text))
        (inserters_same n ByDelete before after alike refl);
    added = λ before after text alike. ap (λ l. faults (not (is_empty l)) (Text text))
        (inserters_more n before after alike);
    insert = λ here before after m lt alike. ap (λ t. faults t (Insert m)) (opens_same here before after m lt alike);
    delete = λ here before after m lt alike. ap (λ t. faults t (Delete m)) (opens_same here before after m lt alike);
    ends = λ here before after m lt alike. ap (λ t. faults t (End m)) (ends_same here before after m lt alike);
    own_insert = λ before after alike. ap (λ t. faults t (Insert n)) (own_opens before after alike);
    own_delete = λ before after alike. ap (λ t. faults t (Delete n)) (own_opens before after alike);
    own_end = λ here before after opened alike.
        ap (λ t. faults (t && not (is_closed (mark n after))) (End n)) (own_live n live)
        ∙ ap (λ t. faults (not t) (End n)) (ap is_closed alike.own ∙ opened);
    over = λ before after alike. ap (λ l. faults (is_empty l) (End 0)) (open_same n Closed before after alike refl);
  }

  no_texts : (texts : List (List ℕ)) → flat {B = Item} (λ text. []) texts ≡ []
  no_texts [] = refl
  no_texts (text ∷ texts) = no_texts texts

  text_good : (t : Bool) (first new one two : List Item) → first ≡ [] → new ≡ [] → one ≡ [] → two ≡ []
      → cond t (first ++ (new ++ one)) (first ++ two) ≡ []
  text_good true first new one two is none good good2 = ap (λ l. l ++ (new ++ one)) is ∙ (ap (λ l. l ++ one) none
      ∙ good)
  text_good false first new one two is none good good2 = ap (λ l. l ++ two) is ∙ good2

  good_item : (item : Item) (fits : Bool) (rest : List Item) → fits ≡ true → rest ≡ [] → faults fits item ++ rest ≡ []
  good_item item fits rest is good = ap (λ t. faults t item ++ rest) is ∙ good

  -- a body that keeps the rules has no bad item
  none_bad : (set : List ℕ) (p : Plan) (k : ℕ) (before items : List Item) → GoesOn live before items
      → aim (old_bad live) set p k before items ≡ []
  none_bad set p k before [] over = ap (λ t. faults t (End 0)) over
  none_bad set p k before (Text text ∷ items) goes =
      text_good (shows set (line_at before text)) (faults (may_stand live before (Text text)) (Text text))
      (flat (λ _. []) (added_after (suc k) p.added)) (aim (old_bad live) set p (suc k) (Text text ∷ before) items)
      (aim (old_bad live) set p k (Text text ∷ before) items)
      (ap (λ t. faults t (Text text)) goes.0) (no_texts (added_after (suc k) p.added))
      (none_bad set p (suc k) (Text text ∷ before) items goes.1)
      (none_bad set p k (Text text ∷ before) items goes.1)
  none_bad set p k before (Insert m ∷ items) goes = good_item (Insert m) (may_stand live before (Insert m))
      (aim (old_bad live) set p k (Insert m ∷ before) items) goes.0 (none_bad set p k (Insert m ∷ before) items goes.1)
  none_bad set p k before (Delete m ∷ items) goes = good_item (Delete m) (may_stand live before (Delete m))
      (aim (old_bad live) set p k (Delete m ∷ before) items) goes.0 (none_bad set p k (Delete m ∷ before) items goes.1)
  none_bad set p k before (End m ∷ items) goes = good_item (End m) (may_stand live before (End m))
      (aim (old_bad live) set p k (End m ∷ before) items) goes.0 (none_bad set p k (End m ∷ before) items goes.1)

-- where no item is bad, the rules are kept
good_parts : (item : Item) (fits : Bool) (rest : List Item) → faults fits item ++ rest ≡ [] → (fits ≡ true)
    × (rest ≡ [])
good_parts item true rest e = (refl, e)
good_parts item false rest e = cc

good_end : (fits : Bool) → faults fits (End 0) ≡ [] → fits ≡ true
good_end true e = refl
good_end false e = cc

goes_on : (live : List ℕ) (before items : List Item) → walk (bad live) before items ≡ [] → GoesOn live before items
goes_on live before [] e = good_end (is_over before) e
goes_on live before (item ∷ items) e =
    let parts = good_parts item (may_stand live before item) (walk (bad live) (item ∷ before) items) e in
    (parts.0, goes_on live (item ∷ before) items parts.1)

pub rules_spliced : (live set : List ℕ) (n : ℕ) (p : Plan) (items : List Item) → above items ≤ n → GoesOn live [] items
    → GoesOn (n ∷ live) [] (spliced p n (told_behind set [] items))
rules_spliced live set n p items high goes =
    goes_on (n ∷ live) [] (spliced p n (told_behind set [] items))
    (walk_spliced n set p (bad (n ∷ live)) (old_bad live) (gives_bad live n) items high
    ∙ (ap (λ l. l ++ aim (old_bad live) set p 0 [] items) (no_texts live n (added_after 0 p.added))
    ∙ none_bad live n set p 0 [] items goes))
