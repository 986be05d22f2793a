-- The items of a body without those of a serial: their lines, and the rules that they keep.
use Rattle.std.proofs.Common.{◌≡◌, ◌≢◌, ℕ, ◌+◌, ◌==◌, nat_lt, Bool, true, false, cond, not, ◌&&◌, ◌||◌, List, [], ◌∷◌}
use Rattle.std.proofs.Common.{refl, sym, ap, ◌∙◌, inl, inr, arith}
use Rattle.std.proofs.lemmas.Bool.{ne_eqb, eqb-true, eqb-false, false≢true, cases_eq}
use Rattle.sccs_history.specs.Numbers.{falling, first, front_if, has, is_empty, without, Falls}
use Rattle.sccs_history.specs.Body.{GoesOn, HistoryLine, Mark, Closed, ByInsert, ByDelete, is_closed, is_insert}
use Rattle.sccs_history.specs.Body.{is_delete, mark, above, inserters, inserter, open_serials, deleters, line_at}
use Rattle.sccs_history.specs.Body.{lines_behind, lines_of}
use Rattle.sccs_history.specs.Removal.{dropped, dropped_behind, dropped_lines}
use Rattle.sccs_history.specs.declared.headers.Item.{Item}
use Rattle.sccs_history.specs.declared.headers.Item.TheVariants.{Text, Insert, Delete, End}
use Rattle.sccs_history.proofs.Falling.{Falls-falling, Falls-wider}
use Rattle.sccs_history.proofs.OpenSerials.{has_test, falling_same, passing}

-- ---- lists without a number

-- a case on a test
pub by_test : (P : Bool → Type 0) (t : Bool) → (t ≡ true → P true) → (t ≡ false → P false) → P t
by_test P true holds fails = holds refl
by_test P false holds fails = fails refl

pub has-without_own : (n : ℕ) (ns : List ℕ) → has (without n ns) n ≡ false
has-without_own n [] = refl
has-without_own n (m ∷ ns) =
    by_test (λ t. has (front_if (not t) m (without n ns)) n ≡ false) (m == n)
    (λ e. has-without_own n ns)
    (λ e. ap (λ t. t || has (without n ns) n) e ∙ has-without_own n ns)

pub has-without : (n m : ℕ) (ns : List ℕ) → m ≢ n → has (without n ns) m ≡ has ns m
has-without n m [] other = refl
has-without n m (k ∷ ns) other =
    by_test (λ t. has (front_if (not t) k (without n ns)) m ≡ (k == m || has ns m)) (k == n)
    (λ e. has-without n m ns other ∙ ap (λ t. t || has ns m) (sym (ne_eqb k m (λ is. other (sym is ∙ eqb-true k n e)))))
    (λ e. ap (λ t. k == m || t) (has-without n m ns other))

pub Falls-without : (n b : ℕ) (ns : List ℕ) → Falls b ns → Falls b (without n ns)
Falls-without n b [] falls = tt
Falls-without n b (k ∷ ns) falls =
    by_test (λ t. Falls b (front_if (not t) k (without n ns))) (k == n)
    (λ e. Falls-wider k b (without n ns) (omega (arith, falls.0)) (Falls-without n k ns falls.1))
    (λ e. (falls.0, Falls-without n k ns falls.1))

first-without : (n : ℕ) (ns : List ℕ) → (first ns == n) ≡ false → first (without n ns) ≡ first ns
first-without n [] other = refl
first-without n (k ∷ ns) other = ap (λ t. first (front_if (not t) k (without n ns))) other

some-without : (n : ℕ) (ns : List ℕ) → (first ns == n) ≡ false → is_empty (without n ns) ≡ is_empty ns
some-without n [] other = refl
some-without n (k ∷ ns) other = ap (λ t. is_empty (front_if (not t) k (without n ns))) other

none-without : (n : ℕ) (ns : List ℕ) → is_empty ns ≡ true → is_empty (without n ns) ≡ true
none-without n [] none = refl
none-without n (k ∷ ns) none = absurd (false≢true none)

-- ---- which serials are open

-- After says the same of all other serials as before, and that the serial isn't open.
pub record Clear (n : ℕ) (before after : List Item) : Type 0 where
  pub others : (m : ℕ) → m ≢ n → mark m after ≡ mark m before
  pub own : mark n after ≡ Closed

pub nothing_open : (n : ℕ) → Clear n [] []
nothing_open n = record { others = λ m other. refl; own = refl }

module _ (n : ℕ) (before after : List Item) (clear : Clear n before after) where
  passing_clear : (test : ℕ → Mark → Bool) → ((m : ℕ) → test m Closed ≡ false) → passing test after ≡ without n
      (passing test before)
  passing_clear test none =
      falling_same (above after + above before) (passing test after) (without n (passing test before))
      (Falls-wider (above after) (above after + above before) (passing test after) (omega arith)
      (Falls-falling (above after) (λ m. test m (mark m after))))
      (Falls-wider (above before) (above after + above before) (without n (passing test before)) (omega arith)
      (Falls-without n (above before) (passing test before) (Falls-falling (above before)
      (λ m. test m (mark m before)))))
      (λ m. has_test after test none m ∙ each m)
    where
      each : (m : ℕ) → test m (mark m after) ≡ has (without n (passing test before)) m
      each m =
          elim (cases_eq m n) [
            | inl same ↦ ap (λ k. test k (mark k after)) same
                ∙ (ap (test n) clear.own ∙ (none n ∙ (sym (has-without_own n (passing test before))
                ∙ ap (has (without n (passing test before))) (sym same))))
            | inr other ↦ ap (test m) (clear.others m other) ∙ (sym (has_test before test none m)
                ∙ sym (has-without n m (passing test before) other))
          ]

  inserters_clear : inserters after ≡ without n (inserters before)
  inserters_clear = passing_clear (λ m k. is_insert k) (λ m. refl)

  open_clear : open_serials after ≡ without n (open_serials before)
  open_clear = passing_clear (λ m k. not (is_closed k)) (λ m. refl)

  inserter_clear : (inserter before == n) ≡ false → inserter after ≡ inserter before
  inserter_clear other = ap first inserters_clear ∙ first-without n (inserters before) other

  deleters_clear : (inserter before == n) ≡ false → deleters after ≡ without n (deleters before)
  deleters_clear other =
      ap (λ k. falling (above after) (λ m. is_delete (mark m after) && nat_lt k m)) (inserter_clear other)
      ∙ passing_clear (λ m k. is_delete k && nat_lt (inserter before) m) (λ m. refl)

  line_clear : (text : List ℕ) → (inserter before == n) ≡ false
      → line_at after text ≡ record (line_at before text) { deleters = without n (deleters before) }
  line_clear text other =
      ap (λ k. a_line k (deleters after)) (inserter_clear other) ∙ ap (a_line (inserter before)) (deleters_clear other)
    where
      a_line : ℕ → List ℕ → HistoryLine
      a_line i ds = record { text = text; inserter = i; deleters = ds }

-- ---- from item to item

module _ (n : ℕ) (before after : List Item) (clear : Clear n before after) where
  -- an item that both have
  clear_insert : (m : ℕ) → (m == n) ≡ false → Clear n (Insert m ∷ before) (Insert m ∷ after)
  clear_insert m other = record {
    others = λ k is. ap (λ rest. cond (m == k) ByInsert rest) (clear.others k is);
    own = ap (λ t. cond t ByInsert (mark n after)) other ∙ clear.own;
  }

  clear_delete : (m : ℕ) → (m == n) ≡ false → Clear n (Delete m ∷ before) (Delete m ∷ after)
  clear_delete m other = record {
    others = λ k is. ap (λ rest. cond (m == k) ByDelete rest) (clear.others k is);
    own = ap (λ t. cond t ByDelete (mark n after)) other ∙ clear.own;
  }

  clear_end : (m : ℕ) → (m == n) ≡ false → Clear n (End m ∷ before) (End m ∷ after)
  clear_end m other = record {
    others = λ k is. ap (λ rest. cond (m == k) Closed rest) (clear.others k is);
    own = ap (λ t. cond t Closed (mark n after)) other ∙ clear.own;
  }

  -- one that is left out
  skip_own : (m : ℕ) (here : Mark) → (m == n) ≡ true → (k : ℕ) → k ≢ n → mark k after ≡ cond (m == k) here
      (mark k before)
  skip_own m here same k other =
      clear.others k other ∙ ap (λ t. cond t here (mark k before))
      (sym (ne_eqb m k (λ is. other (sym is ∙ eqb-true m n same))))

  skip_insert : (m : ℕ) → (m == n) ≡ true → Clear n (Insert m ∷ before) after
  skip_insert m same = record { others = skip_own m ByInsert same; own = clear.own }

  skip_delete : (m : ℕ) → (m == n) ≡ true → Clear n (Delete m ∷ before) after
  skip_delete m same = record { others = skip_own m ByDelete same; own = clear.own }

  skip_end : (m : ℕ) → (m == n) ≡ true → Clear n (End m ∷ before) after
  skip_end m same = record { others = skip_own m Closed same; own = clear.own }

  keep_text : (text : List ℕ) → Clear n (Text text ∷ before) (Text text ∷ after)
  keep_text text = record { others = clear.others; own = clear.own }

  skip_text : (text : List ℕ) → Clear n (Text text ∷ before) after
  skip_text text = record { others = clear.others; own = clear.own }

-- ---- the lines of the items that are left

abbrev line_without : ℕ → List Item → List ℕ → HistoryLine
line_without n before text = record (line_at before text) { deleters = without n (deleters before) }

lines_left : (n : ℕ) (before after items : List Item) → Clear n before after
    → lines_behind after (dropped_behind n before items) ≡ dropped_lines n (lines_behind before items)
lines_left n before after [] clear = refl
lines_left n before after (Text text ∷ items) clear =
    by_test (λ t. lines_behind after (front_if (not t) (Text text) (dropped_behind n (Text text ∷ before) items))
    ≡ front_if (not t) (line_without n before text) (dropped_lines n (lines_behind (Text text ∷ before) items)))
    (inserter before == n)
    (λ e. lines_left n (Text text ∷ before) after items (skip_text n before after clear text))
    (λ e. ap (λ line. line ∷ lines_behind (Text text ∷ after) (dropped_behind n (Text text ∷ before) items))
    (line_clear n before after clear text e)
    ∙ ap (λ rest. line_without n before text ∷ rest) (lines_left n (Text text ∷ before) (Text text ∷ after) items
    (keep_text n before after clear text)))
lines_left n before after (Insert m ∷ items) clear =
    by_test (λ t. lines_behind after (front_if (not t) (Insert m) (dropped_behind n (Insert m ∷ before) items))
    ≡ dropped_lines n (lines_behind (Insert m ∷ before) items)) (m == n)
    (λ e. lines_left n (Insert m ∷ before) after items (skip_insert n before after clear m e))
    (λ e. lines_left n (Insert m ∷ before) (Insert m ∷ after) items (clear_insert n before after clear m e))
lines_left n before after (Delete m ∷ items) clear =
    by_test (λ t. lines_behind after (front_if (not t) (Delete m) (dropped_behind n (Delete m ∷ before) items))
    ≡ dropped_lines n (lines_behind (Delete m ∷ before) items)) (m == n)
    (λ e. lines_left n (Delete m ∷ before) after items (skip_delete n before after clear m e))
    (λ e. lines_left n (Delete m ∷ before) (Delete m ∷ after) items (clear_delete n before after clear m e))
lines_left n before after (End m ∷ items) clear =
    by_test (λ t. lines_behind after (front_if (not t) (End m) (dropped_behind n (End m ∷ before) items))
    ≡ dropped_lines n (lines_behind (End m ∷ before) items)) (m == n)
    (λ e. lines_left n (End m ∷ before) after items (skip_end n before after clear m e))
    (λ e. lines_left n (End m ∷ before) (End m ∷ after) items (clear_end n before after clear m e))

pub lines_dropped : (n : ℕ) (items : List Item) → lines_of (dropped n items) ≡ dropped_lines n (lines_of items)
lines_dropped n items = lines_left n [] [] items (nothing_open n)

-- ---- the rules that they keep

two : (a b c d : Bool) → (a && b) ≡ true → c ≡ a → d ≡ b → (c && d) ≡ true
two a b c d both one other = ap (λ t. t && d) one ∙ (ap (λ t. a && t) other ∙ both)

rules_left : (live : List ℕ) (n : ℕ) (before after items : List Item) → Clear n before after → GoesOn live before items
    → GoesOn (without n live) after (dropped_behind n before items)
rules_left live n before after [] clear over = ap is_empty (open_clear n before after clear)
    ∙ none-without n (open_serials before) over
rules_left live n before after (Text text ∷ items) clear goes =
    by_test (λ t. GoesOn (without n live) after (front_if (not t) (Text text)
    (dropped_behind n (Text text ∷ before) items))) (inserter before == n)
    (λ e. rules_left live n (Text text ∷ before) after items (skip_text n before after clear text) goes.1)
    (λ e. (
      ap (λ ns. not (is_empty ns)) (inserters_clear n before after clear)
          ∙ (ap not (some-without n (inserters before) e) ∙ goes.0),
      rules_left live n (Text text ∷ before) (Text text ∷ after) items (keep_text n before after clear text) goes.1,
    ))
rules_left live n before after (Insert m ∷ items) clear goes =
    by_test (λ t. GoesOn (without n live) after (front_if (not t) (Insert m)
    (dropped_behind n (Insert m ∷ before) items))) (m == n)
    (λ e. rules_left live n (Insert m ∷ before) after items (skip_insert n before after clear m e) goes.1)
    (λ e. (
      two (has live m) (is_closed (mark m before)) (has (without n live) m) (is_closed (mark m after)) goes.0
          (has-without n m live (eqb-false m n e)) (ap is_closed (clear.others m (eqb-false m n e))),
      rules_left live n (Insert m ∷ before) (Insert m ∷ after) items (clear_insert n before after clear m e) goes.1,
    ))
rules_left live n before after (Delete m ∷ items) clear goes =
    by_test (λ t. GoesOn (without n live) after (front_if (not t) (Delete m)
    (dropped_behind n (Delete m ∷ before) items))) (m == n)
    (λ e. rules_left live n (Delete m ∷ before) after items (skip_delete n before after clear m e) goes.1)
    (λ e. (
      two (has live m) (is_closed (mark m before)) (has (without n live) m) (is_closed (mark m after)) goes.0
          (has-without n m live (eqb-false m n e)) (ap is_closed (clear.others m (eqb-false m n e))),
      rules_left live n (Delete m ∷ before) (Delete m ∷ after) items (clear_delete n before after clear m e) goes.1,
    ))
rules_left live n before after (End m ∷ items) clear goes =
    by_test (λ t. GoesOn (without n live) after (front_if (not t) (End m) (dropped_behind n (End m ∷ before) items)))
    (m == n)
    (λ e. rules_left live n (End m ∷ before) after items (skip_end n before after clear m e) goes.1)
    (λ e. (
      two (has live m) (not (is_closed (mark m before))) (has (without n live) m) (not (is_closed (mark m after)))
          goes.0 (has-without n m live (eqb-false m n e)) (ap (λ k. not (is_closed k))
          (clear.others m (eqb-false m n e))),
      rules_left live n (End m ∷ before) (End m ∷ after) items (clear_end n before after clear m e) goes.1,
    ))

pub rules_dropped : (live : List ℕ) (n : ℕ) (items : List Item) → GoesOn live [] items → GoesOn (without n live) []
    (dropped n items)
rules_dropped live n items goes = rules_left live n [] [] items (nothing_open n) goes
