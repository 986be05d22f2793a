-- What a line is behind items of a body with those of a new serial among them.
use Rattle.std.proofs.Common.{◌≡◌, ◌≢◌, ℕ, suc, ◌+◌, ◌<◌, ◌≤◌, ◌==◌, nat_lt, Bool, true, false, cond, not, ◌&&◌, ◌||◌}
use Rattle.std.proofs.Common.{List, [], ◌∷◌, refl, sym, ap, ◌∙◌, inl, inr, arith, eq-eqb, lt-ltb, le-ltb}
use Rattle.std.proofs.Math.Bool.{and-false}
use Rattle.std.proofs.lemmas.Bool.{ne_eqb, cases_lt, cases_eq}
use Rattle.sccs_history.specs.Numbers.{falling, first, Falls}
use Rattle.sccs_history.specs.Body.{HistoryLine, Mark, Closed, ByInsert, ByDelete, is_closed, is_insert, is_delete}
use Rattle.sccs_history.specs.Body.{mark, above, inserters, inserter, open_serials, deleters, line_at}
use Rattle.sccs_history.specs.declared.headers.Item.{Item}
use Rattle.sccs_history.specs.declared.headers.Item.TheVariants.{Text, Insert, Delete, End}
use Rattle.sccs_history.proofs.Falling.{Falls-falling, Falls-wider}
use Rattle.sccs_history.proofs.OpenMarks.{mark_below}
use Rattle.sccs_script_laws.specs.Weave.{marked, new_line}
use Rattle.sccs_history.proofs.OpenSerials.{has_test, falling_same, passing}

-- a serial from the bound on is closed
mark_past : (n : ℕ) (before : List Item) → above before ≤ n → mark n before ≡ Closed
mark_past n before le = closed_by (mark n before) (λ opened. let low = mark_below n before opened in
    absurd (omega (arith, low)))
  where
    closed_by : (k : Mark) → (is_closed k ≡ false → k ≡ Closed) → k ≡ Closed
    closed_by Closed e = refl
    closed_by ByInsert e = e refl
    closed_by ByDelete e = e refl

-- Before has no items of a serial or above. After says the same of all other serials, and of it this.
pub record Alike (n : ℕ) (here : Mark) (before after : List Item) : Type 0 where
  pub few : above before ≤ n
  pub others : (m : ℕ) → m ≢ n → mark m after ≡ mark m before
  pub own : mark n after ≡ here

module _ (n : ℕ) (here : Mark) (before after : List Item) (alike : Alike n here before after) where
  passing_falls : (test : ℕ → Mark → Bool) → Falls (suc n + above after) (passing test after)
  passing_falls test = Falls-wider (above after) (suc n + above after) (passing test after) (omega arith)
      (Falls-falling (above after) (λ m. test m (mark m after)))

  older_falls : (test : ℕ → Mark → Bool) → Falls n (passing test before)
  older_falls test = Falls-wider (above before) n (passing test before) alike.few (Falls-falling (above before)
      (λ m. test m (mark m before)))

  -- where the serial doesn't pass, the same pass as before
  same_pass : (test : ℕ → Mark → Bool) → ((m : ℕ) → test m Closed ≡ false) → test n here ≡ false
      → passing test after ≡ passing test before
  same_pass test none out =
      falling_same (suc n + above after) (passing test after) (passing test before) (passing_falls test)
      (Falls-wider n (suc n + above after) (passing test before) (omega arith) (older_falls test))
      (λ m. has_test after test none m ∙ (each m ∙ sym (has_test before test none m)))
    where
      each : (m : ℕ) → test m (mark m after) ≡ test m (mark m before)
      each m =
          elim (cases_eq m n) [
            | inl same ↦ ap (λ k. test k (mark k after)) same
                ∙ (ap (test n) alike.own
                ∙ (out ∙ (sym (none m) ∙ ap (test m) (sym (mark_past m before (omega (arith, alike.few)))))))
            | inr other ↦ ap (test m) (alike.others m other)
          ]

  -- where it passes, it stands before them
  one_more : (test : ℕ → Mark → Bool) → ((m : ℕ) → test m Closed ≡ false) → test n here ≡ true
      → passing test after ≡ n ∷ passing test before
  one_more test none passes =
      falling_same (suc n + above after) (passing test after) (n ∷ passing test before) (passing_falls test)
      (omega arith, older_falls test)
      (λ m. has_test after test none m ∙ (each m ∙ ap (λ t. n == m || t) (sym (has_test before test none m))))
    where
      each : (m : ℕ) → test m (mark m after) ≡ (n == m || test m (mark m before))
      each m =
          elim (cases_eq m n) [
            | inl same ↦ ap (λ k. test k (mark k after)) same
                ∙ (ap (test n) alike.own ∙ (passes ∙ ap (λ t. t || test m (mark m before))
                (sym (eq-eqb n m (sym same)))))
            | inr other ↦ ap (test m) (alike.others m other) ∙ ap (λ t. t || test m (mark m before))
                (sym (ne_eqb n m (λ e. other (sym e))))
          ]

  abbrev inserts : ℕ → Mark → Bool
  inserts m k = is_insert k

  abbrev deletes_above : ℕ → ℕ → Mark → Bool
  deletes_above low m k = is_delete k && nat_lt low m

  pub inserters_same : is_insert here ≡ false → inserters after ≡ inserters before
  inserters_same out = same_pass inserts (λ m. refl) out

  pub inserter_same : is_insert here ≡ false → inserter after ≡ inserter before
  inserter_same out = ap first (inserters_same out)

  -- where nothing of the serial is open, the same serials are open
  pub open_same : is_closed here ≡ true → open_serials after ≡ open_serials before
  open_same closed = same_pass (λ m k. not (is_closed k)) (λ m. refl) (ap not closed)

  first_below : (ns : List ℕ) → 0 < n → Falls n ns → first ns < n
  first_below [] some falls = some
  first_below (m ∷ ns) some falls = falls.0

  pub inserter_below : 0 < n → inserter before < n
  inserter_below some = first_below (inserters before) some (older_falls inserts)

abbrev a_line : List ℕ → ℕ → List ℕ → HistoryLine
a_line text i ds = record { text = text; inserter = i; deleters = ds }

-- where nothing of the serial is open, a line is what it was
pub line_same : (n : ℕ) (before after : List Item) (text : List ℕ) → Alike n Closed before after
    → line_at after text ≡ line_at before text
line_same n before after text alike =
    let i = inserter_same n Closed before after alike refl in
    ap (λ k. a_line text k (deleters after)) i
    ∙ ap (a_line text (inserter before)) (ap (λ k. falling (above after) (λ m. is_delete (mark m after) && nat_lt k m))
    i
    ∙ same_pass n Closed before after alike (λ m k. is_delete k && nat_lt (inserter before) m) (λ m. refl) refl)

-- where it is open by Delete, it is among the deleters besides
pub line_marked : (n : ℕ) (before after : List Item) (text : List ℕ) → 0 < n → Alike n ByDelete before after
    → line_at after text ≡ marked n (line_at before text)
line_marked n before after text some alike =
    let i = inserter_same n ByDelete before after alike refl in
    ap (λ k. a_line text k (deleters after)) i
    ∙ ap (a_line text (inserter before)) (ap (λ k. falling (above after) (λ m. is_delete (mark m after) && nat_lt k m))
    i
    ∙ one_more n ByDelete before after alike (λ m k. is_delete k && nat_lt (inserter before) m) (λ m. refl)
    (lt-ltb (inserter before) n (inserter_below n ByDelete before after alike some)))

-- where it is open by Insert, it is the inserter
pub inserters_more : (n : ℕ) (before after : List Item) → Alike n ByInsert before after
    → inserters after ≡ n ∷ inserters before
inserters_more n before after alike = one_more n ByInsert before after alike (λ m k. is_insert k) (λ m. refl) refl

pub inserter_own : (n : ℕ) (before after : List Item) → Alike n ByInsert before after → inserter after ≡ n
inserter_own n before after alike = ap first (inserters_more n before after alike)

no_deleters : (n : ℕ) (before after : List Item) → Alike n ByInsert before after
    → falling (above after) (λ m. is_delete (mark m after) && nat_lt n m) ≡ []
no_deleters n before after alike =
    falling_same (above after) (passing deletes after) [] (Falls-falling (above after) (λ m. deletes m (mark m after)))
    tt (λ m. has_test after deletes (λ k. refl) m ∙ none m)
  where
    deletes : ℕ → Mark → Bool
    deletes m k = is_delete k && nat_lt n m

    none : (m : ℕ) → is_delete (mark m after) && nat_lt n m ≡ false
    none m =
        elim (cases_lt n m) [
          | inl lt ↦ ap (λ k. is_delete k && nat_lt n m) (alike.others m (λ e. omega arith)
              ∙ mark_past m before (omega (arith, alike.few)))
          | inr le ↦ ap (λ t. is_delete (mark m after) && t) (le-ltb n m le) ∙ and-false (is_delete (mark m after))
        ]

pub line_new : (n : ℕ) (before after : List Item) (text : List ℕ) → Alike n ByInsert before after
    → line_at after text ≡ new_line n text
line_new n before after text alike =
    let i = inserter_own n before after alike in
    ap (λ k. a_line text k (deleters after)) i
    ∙ ap (a_line text n) (ap (λ k. falling (above after) (λ m. is_delete (mark m after) && nat_lt k m)) i
    ∙ no_deleters n before after alike)

-- items of other serials on both sides
pub alike_insert : (n m : ℕ) (here : Mark) (before after : List Item) → m < n → Alike n here before after
    → Alike n here (Insert m ∷ before) (Insert m ∷ after)
alike_insert n m here before after lt alike = record {
  few = omega (arith, alike.few);
  others = λ k other. ap (λ rest. cond (m == k) ByInsert rest) (alike.others k other);
  own = ap (λ t. cond t ByInsert (mark n after)) (ne_eqb m n (λ e. omega arith)) ∙ alike.own;
}

pub alike_delete : (n m : ℕ) (here : Mark) (before after : List Item) → m < n → Alike n here before after
    → Alike n here (Delete m ∷ before) (Delete m ∷ after)
alike_delete n m here before after lt alike = record {
  few = omega (arith, alike.few);
  others = λ k other. ap (λ rest. cond (m == k) ByDelete rest) (alike.others k other);
  own = ap (λ t. cond t ByDelete (mark n after)) (ne_eqb m n (λ e. omega arith)) ∙ alike.own;
}

pub alike_end : (n m : ℕ) (here : Mark) (before after : List Item) → m < n → Alike n here before after
    → Alike n here (End m ∷ before) (End m ∷ after)
alike_end n m here before after lt alike = record {
  few = omega (arith, alike.few);
  others = λ k other. ap (λ rest. cond (m == k) Closed rest) (alike.others k other);
  own = ap (λ t. cond t Closed (mark n after)) (ne_eqb m n (λ e. omega arith)) ∙ alike.own;
}

pub alike_text : (n : ℕ) (here : Mark) (before after : List Item) (text : List ℕ) → Alike n here before after
    → Alike n here (Text text ∷ before) (Text text ∷ after)
alike_text n here before after text alike = record { few = alike.few; others = alike.others; own = alike.own }

-- items of the serial itself, and new lines
pub alike_new : (n : ℕ) (here : Mark) (before after : List Item) (text : List ℕ) → Alike n here before after
    → Alike n here before (Text text ∷ after)
alike_new n here before after text alike = record { few = alike.few; others = alike.others; own = alike.own }

pub alike_begin : (n : ℕ) (here : Mark) (before after : List Item) → Alike n here before after → Alike n ByInsert before
    (Insert n ∷ after)
alike_begin n here before after alike = record {
  few = alike.few;
  others = λ k other. ap (λ t. cond t ByInsert (mark k after)) (ne_eqb n k (λ e. other (sym e))) ∙ alike.others k other;
  own = ap (λ t. cond t ByInsert (mark n after)) (eq-eqb n n refl);
}

pub alike_strike : (n : ℕ) (here : Mark) (before after : List Item) → Alike n here before after
    → Alike n ByDelete before (Delete n ∷ after)
alike_strike n here before after alike = record {
  few = alike.few;
  others = λ k other. ap (λ t. cond t ByDelete (mark k after)) (ne_eqb n k (λ e. other (sym e))) ∙ alike.others k other;
  own = ap (λ t. cond t ByDelete (mark n after)) (eq-eqb n n refl);
}

pub alike_close : (n : ℕ) (here : Mark) (before after : List Item) → Alike n here before after
    → Alike n Closed before (End n ∷ after)
alike_close n here before after alike = record {
  few = alike.few;
  others = λ k other. ap (λ t. cond t Closed (mark k after)) (ne_eqb n k (λ e. other (sym e))) ∙ alike.others k other;
  own = ap (λ t. cond t Closed (mark n after)) (eq-eqb n n refl);
}
