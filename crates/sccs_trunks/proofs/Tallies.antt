-- How many lines of runs each serial inserted and deleted.
use Rattle.std.proofs.Common.{◌≡◌, ℕ, zero, suc, ◌+◌, ◌-◌, ◌≤◌, ◌<◌, ◌==◌, Bool, true, false, cond, List, [], ◌∷◌, ◌++◌}
use Rattle.std.proofs.Common.{length, map, slice_set, refl, sym, ap, ◌∙◌, arith, eq-eqb}
use Rattle.std.specs.List.{count_by}
use Rattle.std.proofs.lemmas.Bool.{ne_eqb}
use Rattle.std.proofs.lemmas.List.Sums.{sum_by-append, sum_by-cons}
use Rattle.sccs_history.specs.Numbers.{has}
use Rattle.sccs_history.specs.Body.{HistoryLine}
use Rattle.sccs_script_laws.specs.Weave.{deleted, inserted}
use Rattle.sccs_trunks.specs.Cells.{deleters_by, line_by}
use Rattle.sccs_trunks.specs.Counts.{both, no_lines, tally_of, with_more}
use Rattle.sccs_trunks.specs.declared.counts.Tally.{Tally}
use Rattle.sccs_base.proofs.Bools.{or_none}

abbrev tally : ℕ → ℕ → Tally
tally a b = record { inserted = a; deleted = b }

same_tally : (a b c d : ℕ) → a ≡ c → b ≡ d → tally a b ≡ tally c d
same_tally a b c d e f = ap (λ n. tally n b) e ∙ ap (λ n. tally c n) f

both_none : (t : Tally) → both t no_lines ≡ t
both_none t = same_tally (t.inserted + 0) (t.deleted + 0) t.inserted t.deleted (omega arith) (omega arith)

both_three : (t a b : Tally) → both (both t a) b ≡ both t (both a b)
both_three t a b =
    same_tally (t.inserted + a.inserted + b.inserted) (t.deleted + a.deleted + b.deleted)
    (t.inserted + (a.inserted + b.inserted)) (t.deleted + (a.deleted + b.deleted)) (omega arith) (omega arith)

-- ---- tallies with more lines

pub more_alike : (s : ℕ) (f g : ℕ → Tally) (ts : List Tally) → ((k : ℕ) → s ≤ k → f k ≡ g k)
    → with_more s f ts ≡ with_more s g ts
more_alike s f g [] alike = refl
more_alike s f g (t ∷ ts) alike =
    ap (λ m. both t m ∷ with_more (suc s) f ts) (alike s (omega arith)) ∙ ap (λ l. both t (g s) ∷ l)
    (more_alike (suc s) f g ts (λ k le. alike k (omega arith)))

pub more_both : (s : ℕ) (f g : ℕ → Tally) (ts : List Tally) → with_more s g (with_more s f ts) ≡ with_more s
    (λ k. both (f k) (g k)) ts
more_both s f g [] = refl
more_both s f g (t ∷ ts) =
    ap (λ x. x ∷ with_more (suc s) g (with_more (suc s) f ts)) (both_three t (f s) (g s))
    ∙ ap (λ l. both t (both (f s) (g s)) ∷ l) (more_both (suc s) f g ts)

more_none : (s : ℕ) (f : ℕ → Tally) (ts : List Tally) → ((k : ℕ) → s ≤ k → k < s + length ts → f k ≡ no_lines)
    → with_more s f ts ≡ ts
more_none s f [] none = refl
more_none s f (t ∷ ts) none =
    ap (λ m. both t m ∷ with_more (suc s) f ts) (none s (omega arith) (omega arith))
    ∙ (ap (λ x. x ∷ with_more (suc s) f ts) (both_none t)
    ∙ ap (λ l. t ∷ l) (more_none (suc s) f ts (λ k le lt. none k (omega arith) (omega arith))))

abbrev pub at_serial : ℕ → Tally → ℕ → Tally
at_serial n more s = cond (n == s) more no_lines

other_serial : (n : ℕ) (more : Tally) (k : ℕ) → (n ≡ k → ⊥) → at_serial n more k ≡ no_lines
other_serial n more k apart = ap (λ t. cond t more no_lines) (ne_eqb n k apart)

-- no serial of the tallies
pub more_outside : (n : ℕ) (more : Tally) (ts : List Tally) → length ts < n → ts ≡ with_more 1 (at_serial n more) ts
more_outside n more ts high =
    sym (more_none 1 (at_serial n more) ts (λ k le lt. other_serial n more k (λ e. omega (arith, e))))

pub more_zero : (n : ℕ) (more : Tally) (ts : List Tally) → n ≡ 0 → ts ≡ with_more 1 (at_serial n more) ts
more_zero n more ts zero_is =
    sym (more_none 1 (at_serial n more) ts (λ k le lt. other_serial n more k (λ e. omega (arith, e, zero_is))))

-- one of them
set_more : (s n at : ℕ) (more x d : Tally) (ts : List Tally) → n ≡ s + at → at < length ts
    → x ≡ both (Rattle.std.proofs.Common.slice_index_or ts at d) more
    → slice_set ts at x ≡ with_more s (at_serial n more) ts
set_more s n at more x d [] is lt x_is = absurd (omega arith)
set_more s n zero more x d (t ∷ ts) is lt x_is =
    ap (λ y. y ∷ ts) (x_is ∙ ap (λ m. both t m) (sym (ap (λ b. cond b more no_lines) (eq-eqb n s (omega (arith, is))))))
    ∙ ap (λ l. both t (at_serial n more s) ∷ l)
    (sym (more_none (suc s) (at_serial n more) ts (λ k le lt2. other_serial n more k (λ e. omega (arith, e, is)))))
set_more s n (suc at) more x d (t ∷ ts) is lt x_is =
    ap (λ l. t ∷ l) (set_more (suc s) n at more x d ts (omega (arith, is)) (omega arith) x_is)
    ∙ ap (λ y. y ∷ with_more (suc s) (at_serial n more) ts)
    (sym (ap (λ m. both t m) (other_serial n more s (λ e. omega (arith, e, is))) ∙ both_none t))

pub more_at : (n at : ℕ) (more x d : Tally) (ts : List Tally) → n ≡ suc at → at < length ts
    → x ≡ both (Rattle.std.proofs.Common.slice_index_or ts at d) more
    → slice_set ts at x ≡ with_more 1 (at_serial n more) ts
more_at n at more x d ts is lt x_is = set_more 1 n at more x d ts (omega (arith, is)) lt x_is

-- ---- the lines of a run

count_more : {A : Type 0} (p : A → Bool) (x : A) (xs : List A) → count_by p (x ∷ xs) ≡ cond (p x) 1 0 + count_by p xs
count_more p x xs = sum_by-cons (λ y. cond (p y) 1 0) x xs

count_same : (p : HistoryLine → Bool) (f : List ℕ → HistoryLine) (t : Bool) (texts : List (List ℕ))
    → ((text : List ℕ) → p (f text) ≡ t)
    → count_by p (map f texts) ≡ cond t (length texts) 0
count_same p f true [] is = refl
count_same p f false [] is = refl
count_same p f t (text ∷ texts) is = count_more p (f text) (map f texts)
    ∙ (ap (λ b. cond b 1 0 + count_by p (map f texts)) (is text) ∙ by_test t (count_same p f t texts is))
  where
    by_test : (b : Bool) → count_by p (map f texts) ≡ cond b (length texts) 0 → cond b 1 0 + count_by p (map f texts)
        ≡ cond b (suc (length texts)) 0
    by_test true e = omega (arith, e)
    by_test false e = omega (arith, e)

deleted_by : (d s : ℕ) → 1 ≤ s → has (deleters_by d) s ≡ (d == s)
deleted_by zero s some = sym (ne_eqb 0 s (λ e. omega (arith, e)))
deleted_by (suc d) s some = or_none (suc d == s)

pub run_tally : (i d : ℕ) (texts : List (List ℕ)) (s : ℕ) → 1 ≤ s
    → both (at_serial i (tally (length texts) 0) s) (at_serial d (tally 0 (length texts)) s) ≡ tally_of
    (map (λ text. line_by i d text) texts) s
run_tally i d texts s some =
    by_tests (i == s) (d == s)
    ∙ sym (same_tally (inserted s (map (λ text. line_by i d text) texts))
    (deleted s (map (λ text. line_by i d text) texts)) (cond (i == s) (length texts) 0)
    (cond (d == s) (length texts) 0)
    (count_same (λ line. line.inserter == s) (λ text. line_by i d text) (i == s) texts (λ text. refl))
    (count_same (λ line. has line.deleters s) (λ text. line_by i d text) (d == s) texts (λ text. deleted_by d s some)))
  where
    by_tests : (t u : Bool) → both (cond t (tally (length texts) 0) no_lines) (cond u (tally 0 (length texts)) no_lines)
        ≡ tally (cond t (length texts) 0) (cond u (length texts) 0)
    by_tests true true = same_tally (length texts + 0) (0 + length texts) (length texts) (length texts) (omega arith)
        (omega arith)
    by_tests true false = same_tally (length texts + 0) (0 + 0) (length texts) 0 (omega arith) (omega arith)
    by_tests false true = same_tally (0 + 0) (0 + length texts) 0 (length texts) (omega arith) (omega arith)
    by_tests false false = same_tally (0 + 0) (0 + 0) 0 0 (omega arith) (omega arith)

pub run_added : (i d : ℕ) (texts : List (List ℕ)) (old mid new : List Tally)
    → mid ≡ with_more 1 (at_serial i (tally (length texts) 0)) old
    → new ≡ with_more 1 (at_serial d (tally 0 (length texts))) mid
    → new ≡ with_more 1 (tally_of (map (λ text. line_by i d text) texts)) old
run_added i d texts old mid new mid_is new_is =
    new_is
    ∙ (ap (λ l. with_more 1 (at_serial d (tally 0 (length texts))) l) mid_is
    ∙ (more_both 1 (at_serial i (tally (length texts) 0)) (at_serial d (tally 0 (length texts))) old
    ∙ more_alike 1 (λ s. both (at_serial i (tally (length texts) 0) s) (at_serial d (tally 0 (length texts)) s))
    (tally_of (map (λ text. line_by i d text) texts)) old (λ s some. run_tally i d texts s some)))

-- ---- the lines of runs in turn

tally_both : (a b : List HistoryLine) (s : ℕ) → both (tally_of a s) (tally_of b s) ≡ tally_of (a ++ b) s
tally_both a b s =
    sym (same_tally (inserted s (a ++ b)) (deleted s (a ++ b)) (inserted s a + inserted s b) (deleted s a + deleted s b)
    (sum_by-append (λ line. cond (line.inserter == s) 1 0) a b) (sum_by-append (λ line. cond (has line.deleters s) 1 0)
    a b))

-- one more run
pub next_run : (here rest : List HistoryLine) (old new : List Tally) → new ≡ with_more 1 (tally_of here) old
    → with_more 1 (tally_of rest) new ≡ with_more 1 (tally_of (here ++ rest)) old
next_run here rest old new is =
    ap (λ l. with_more 1 (tally_of rest) l) is
    ∙ (more_both 1 (tally_of here) (tally_of rest) old ∙ more_alike 1 (λ s. both (tally_of here s) (tally_of rest s))
    (tally_of (here ++ rest)) old (λ s le. tally_both here rest s))

pub no_run : (ts : List Tally) → ts ≡ with_more 1 (tally_of []) ts
no_run ts = sym (more_none 1 (tally_of []) ts (λ k le lt. refl))
