-- Runs of the same orders on two lists, where each line of the one is a line of the other, or none.
use Rattle.std.proofs.Common.{◌≡◌, ℕ, zero, suc, ◌-◌, ◌⊎◌, Bool, true, false, cond, List, [], ◌∷◌, ◌++◌, map, refl, sym}
use Rattle.std.proofs.Common.{subst, ap, ◌∙◌, inl, inr, append_assoc, append-nil}
use Rattle.sccs_script_laws.specs.Scripts.{put_after, run, step, take_away}
use Rattle.sccs_script_laws.specs.declared.scripts.Order.{Order}
use Rattle.sccs_script_laws.specs.declared.scripts.OrderKind.{OrderKind}
use Rattle.sccs_script_laws.specs.declared.scripts.OrderKind.TheVariants.{Append, Change, Delete}

-- the lines that each gives, one after another
abbrev pub flat : {A B : Type 0} → (A → List B) → List A → List B
flat f [] = []
flat f (x ∷ xs) = f x ++ flat f xs

pub flat_append : {A B : Type 0} (f : A → List B) (xs ys : List A) → flat f (xs ++ ys) ≡ flat f xs ++ flat f ys
flat_append f [] ys = refl
flat_append f (x ∷ xs) ys = ap (λ l. f x ++ l) (flat_append f xs ys) ∙ sym (append_assoc (f x) (flat f xs) (flat f ys))

pub flat_one : {A B : Type 0} (f : A → List B) (x : A) → flat f (x ∷ []) ≡ f x
flat_one f x = append-nil (f x)

module _ {A B : Type 0} (seen : A → Bool) (gone : A → List A) (made : List ℕ → A) (seen2 : B → Bool) (gone2 : B
    → List B) (made2 : List ℕ → B) (f : A → List B) where
  -- A line that is seen gives one that is seen, and what stands in its place gives what stands in the place of that
  -- one.
  pub record Shown (x : A) : Type 0 where
    pub gives : B
    pub is : f x ≡ gives ∷ []
    pub there : seen2 gives ≡ true
    pub away : flat f (gone x) ≡ gone2 gives

  -- So it is with each line; one that isn't seen gives none, or one that isn't seen; and a new one gives the new one.
  pub record Alike : Type 0 where
    pub shown : (x : A) → seen x ≡ true → Shown x
    pub hidden : (x : A) → seen x ≡ false → (f x ≡ []) ⊎ ((y : B) × (f x ≡ y ∷ []) × (seen2 y ≡ false))
    pub new : (text : List ℕ) → f (made text) ≡ made2 text ∷ []

  module _ (alike : Alike) where
    -- one line and those behind it, where new lines are put
    put_shown : (x : A) (k : ℕ) (new rest over : List B) → seen x ≡ true → over ≡ put_after seen2 k new rest
        → f x ++ over ≡ put_after seen2 (suc k) new (f x ++ rest)
    put_shown x k new rest over sees e =
        let s = alike.shown x sees in
        subst (λ l. l ++ over ≡ put_after seen2 (suc k) new (l ++ rest)) (sym s.is)
        (ap (λ l. s.gives ∷ l) (e ∙ ap (λ t. put_after seen2 (cond t k (suc k)) new rest) (sym s.there)))

    put_hidden : (x : A) (k : ℕ) (new rest over : List B) → seen x ≡ false → over ≡ put_after seen2 (suc k) new rest
        → f x ++ over ≡ put_after seen2 (suc k) new (f x ++ rest)
    put_hidden x k new rest over sees e =
        elim (alike.hidden x sees) [
          | inl none ↦ subst (λ l. l ++ over ≡ put_after seen2 (suc k) new (l ++ rest)) (sym none) e
          | inr one ↦ subst (λ l. l ++ over ≡ put_after seen2 (suc k) new (l ++ rest)) (sym one.1)
              (ap (λ l. one.0 ∷ l) (e ∙ ap (λ t. put_after seen2 (cond t k (suc k)) new rest) (sym one.2)))
        ]

    put_step : (x : A) (t : Bool) (k : ℕ) (new : List A) (xs : List A) → seen x ≡ t
        → flat f (put_after seen k new xs) ≡ put_after seen2 k (flat f new) (flat f xs)
        → flat f (put_after seen (suc k) new xs) ≡ put_after seen2 (suc k) (flat f new) (flat f xs)
        → f x ++ flat f (put_after seen (cond t k (suc k)) new xs) ≡ put_after seen2 (suc k) (flat f new)
        (f x ++ flat f xs)
    put_step x true k new xs sees one two = put_shown x k (flat f new) (flat f xs) (flat f (put_after seen k new xs))
        sees one
    put_step x false k new xs sees one two = put_hidden x k (flat f new) (flat f xs)
        (flat f (put_after seen (suc k) new xs)) sees two

    flat-put : (k : ℕ) (new xs : List A) → flat f (put_after seen k new xs) ≡ put_after seen2 k (flat f new) (flat f xs)
    flat-put zero new xs = flat_append f new xs
    flat-put (suc k) new [] = refl
    flat-put (suc k) new (x ∷ xs) = put_step x (seen x) k new xs refl (flat-put k new xs) (flat-put (suc k) new xs)

    -- the same where lines are passed over, and then taken away
    skip_step : (x : A) (t : Bool) (k count : ℕ) (xs : List A) → seen x ≡ t
        → flat f (take_away seen gone k (suc count) xs) ≡ take_away seen2 gone2 k (suc count) (flat f xs)
        → flat f (take_away seen gone (suc k) (suc count) xs) ≡ take_away seen2 gone2 (suc k) (suc count) (flat f xs)
        → f x ++ flat f (take_away seen gone (cond t k (suc k)) (suc count) xs) ≡ take_away seen2 gone2 (suc k)
        (suc count) (f x ++ flat f xs)
    skip_step x true k count xs sees one two =
        let s = alike.shown x sees in
        subst (λ l. l ++ flat f (take_away seen gone k (suc count) xs) ≡ take_away seen2 gone2 (suc k) (suc count)
        (l ++ flat f xs)) (sym s.is)
        (ap (λ l. s.gives ∷ l) (one ∙ ap (λ t. take_away seen2 gone2 (cond t k (suc k)) (suc count) (flat f xs))
        (sym s.there)))
    skip_step x false k count xs sees one two =
        elim (alike.hidden x sees) [
          | inl none ↦ subst (λ l. l ++ flat f (take_away seen gone (suc k) (suc count) xs) ≡ take_away seen2 gone2
              (suc k) (suc count) (l ++ flat f xs)) (sym none) two
          | inr one ↦ subst (λ l. l ++ flat f (take_away seen gone (suc k) (suc count) xs) ≡ take_away seen2 gone2
              (suc k) (suc count) (l ++ flat f xs)) (sym one.1)
              (ap (λ l. one.0 ∷ l) (two ∙ ap (λ t. take_away seen2 gone2 (cond t k (suc k)) (suc count) (flat f xs))
              (sym one.2)))
        ]

    take_step : (x : A) (t : Bool) (count : ℕ) (xs : List A) → seen x ≡ t
        → flat f (take_away seen gone zero count xs) ≡ take_away seen2 gone2 zero count (flat f xs)
        → flat f (take_away seen gone zero (suc count) xs) ≡ take_away seen2 gone2 zero (suc count) (flat f xs)
        → flat f (cond t (gone x) (x ∷ []) ++ take_away seen gone zero (cond t count (suc count)) xs)
        ≡ take_away seen2 gone2 zero (suc count) (f x ++ flat f xs)
    take_step x true count xs sees one two =
        let s = alike.shown x sees in
        flat_append f (gone x) (take_away seen gone zero count xs)
        ∙ subst (λ l. flat f (gone x) ++ flat f (take_away seen gone zero count xs) ≡ take_away seen2 gone2 zero
        (suc count) (l ++ flat f xs)) (sym s.is)
        (ap (λ l. l ++ flat f (take_away seen gone zero count xs)) s.away
        ∙ (ap (λ l. gone2 s.gives ++ l) one
        ∙ ap (λ t. cond t (gone2 s.gives) (s.gives ∷ []) ++ take_away seen2 gone2 zero (cond t count (suc count))
        (flat f xs)) (sym s.there)))
    take_step x false count xs sees one two =
        elim (alike.hidden x sees) [
          | inl none ↦ subst (λ l. l ++ flat f (take_away seen gone zero (suc count) xs) ≡ take_away seen2 gone2 zero
              (suc count) (l ++ flat f xs)) (sym none) two
          | inr other ↦ subst (λ l. l ++ flat f (take_away seen gone zero (suc count) xs) ≡ take_away seen2 gone2 zero
              (suc count) (l ++ flat f xs)) (sym other.1)
              (ap (λ l. other.0 ∷ l) two ∙ ap (λ t. cond t (gone2 other.0) (other.0 ∷ []) ++ take_away seen2 gone2 zero
              (cond t count (suc count)) (flat f xs)) (sym other.2))
        ]

    flat-take : (k count : ℕ) (xs : List A) → flat f (take_away seen gone k count xs) ≡ take_away seen2 gone2 k count
        (flat f xs)
    flat-take k zero xs = take_none k xs
      where
        take_none : (k : ℕ) (xs : List A) → flat f (take_away seen gone k zero xs) ≡ take_away seen2 gone2 k zero
            (flat f xs)
        take_none zero xs = refl
        take_none (suc k) xs = refl
    flat-take zero (suc count) [] = refl
    flat-take (suc k) (suc count) [] = refl
    flat-take (suc k) (suc count) (x ∷ xs) = skip_step x (seen x) k count xs refl (flat-take k (suc count) xs)
        (flat-take (suc k) (suc count) xs)
    flat-take zero (suc count) (x ∷ xs) = take_step x (seen x) count xs refl (flat-take zero count xs)
        (flat-take zero (suc count) xs)

    flat-made : (texts : List (List ℕ)) → flat f (map made texts) ≡ map made2 texts
    flat-made [] = refl
    flat-made (text ∷ texts) = ap (λ l. l ++ flat f (map made texts)) (alike.new text) ∙ ap (λ l. made2 text ∷ l)
        (flat-made texts)

    flat-put_made : (k : ℕ) (texts : List (List ℕ)) (xs : List A) → flat f (put_after seen k (map made texts) xs)
        ≡ put_after seen2 k (map made2 texts) (flat f xs)
    flat-put_made k texts xs = flat-put k (map made texts) xs ∙ ap (λ new. put_after seen2 k new (flat f xs))
        (flat-made texts)

    flat-step : (kind : OrderKind) (first last : ℕ) (texts : List (List ℕ)) (xs : List A)
        → flat f (step seen gone made kind first last texts xs) ≡ step seen2 gone2 made2 kind first last texts
        (flat f xs)
    flat-step Append first last texts xs = flat-put_made first texts xs
    flat-step Delete first last texts xs = flat-take (first - 1) (last - (first - 1)) xs
    flat-step Change first last texts xs =
        flat-put_made (first - 1) texts (take_away seen gone (first - 1) (last - (first - 1)) xs)
        ∙ ap (λ l. put_after seen2 (first - 1) (map made2 texts) l) (flat-take (first - 1) (last - (first - 1)) xs)

    -- a run on the one gives the run on the other
    pub flat-run : (orders : List Order) (xs : List A) → flat f (run seen gone made orders xs) ≡ run seen2 gone2 made2
        orders (flat f xs)
    flat-run [] xs = refl
    flat-run (order ∷ orders) xs =
        flat-run orders (step seen gone made order.kind order.first order.last order.lines xs)
        ∙ ap (λ l. run seen2 gone2 made2 orders l) (flat-step order.kind order.first order.last order.lines xs)

-- what a run doesn't change
module _ {A B : Type 0} (seen : A → Bool) (gone : A → List A) (made : List ℕ → A) (f : A → List B) where
  -- New lines give nothing, and what stands in the place of a line gives what the line does.
  pub record Keeps : Type 0 where
    pub new : (text : List ℕ) → f (made text) ≡ []
    pub away : (x : A) → seen x ≡ true → flat f (gone x) ≡ f x

  module _ (keeps : Keeps) where
    kept-made : (texts : List (List ℕ)) → flat f (map made texts) ≡ []
    kept-made [] = refl
    kept-made (text ∷ texts) = ap (λ l. l ++ flat f (map made texts)) (keeps.new text) ∙ kept-made texts

    kept-put : (k : ℕ) (texts : List (List ℕ)) (xs : List A) → flat f (put_after seen k (map made texts) xs) ≡ flat f xs
    kept-put zero texts xs = flat_append f (map made texts) xs ∙ ap (λ l. l ++ flat f xs) (kept-made texts)
    kept-put (suc k) texts [] = refl
    kept-put (suc k) texts (x ∷ xs) = put_any (seen x) (kept-put k texts xs) (kept-put (suc k) texts xs)
      where
        put_any : (t : Bool) → flat f (put_after seen k (map made texts) xs) ≡ flat f xs
            → flat f (put_after seen (suc k) (map made texts) xs) ≡ flat f xs
            → f x ++ flat f (put_after seen (cond t k (suc k)) (map made texts) xs) ≡ f x ++ flat f xs
        put_any true one two = ap (λ l. f x ++ l) one
        put_any false one two = ap (λ l. f x ++ l) two

    kept_step : (x : A) (t : Bool) (count : ℕ) (xs : List A) → seen x ≡ t → flat f (take_away seen gone zero count xs)
        ≡ flat f xs → flat f (take_away seen gone zero (suc count) xs) ≡ flat f xs
        → flat f (cond t (gone x) (x ∷ []) ++ take_away seen gone zero (cond t count (suc count)) xs) ≡ f x ++ flat f xs
    kept_step x true count xs sees one two =
        flat_append f (gone x) (take_away seen gone zero count xs)
        ∙ (ap (λ l. l ++ flat f (take_away seen gone zero count xs)) (keeps.away x sees) ∙ ap (λ l. f x ++ l) one)
    kept_step x false count xs sees one two = ap (λ l. f x ++ l) two

    kept-take : (k count : ℕ) (xs : List A) → flat f (take_away seen gone k count xs) ≡ flat f xs
    kept-take zero zero xs = refl
    kept-take (suc k) zero xs = refl
    kept-take zero (suc count) [] = refl
    kept-take (suc k) (suc count) [] = refl
    kept-take (suc k) (suc count) (x ∷ xs) = skip_any (seen x) (kept-take k (suc count) xs)
        (kept-take (suc k) (suc count) xs)
      where
        skip_any : (t : Bool) → flat f (take_away seen gone k (suc count) xs) ≡ flat f xs
            → flat f (take_away seen gone (suc k) (suc count) xs) ≡ flat f xs
            → f x ++ flat f (take_away seen gone (cond t k (suc k)) (suc count) xs) ≡ f x ++ flat f xs
        skip_any true one two = ap (λ l. f x ++ l) one
        skip_any false one two = ap (λ l. f x ++ l) two
    kept-take zero (suc count) (x ∷ xs) = kept_step x (seen x) count xs refl (kept-take zero count xs)
        (kept-take zero (suc count) xs)

    kept-step : (kind : OrderKind) (first last : ℕ) (texts : List (List ℕ)) (xs : List A)
        → flat f (step seen gone made kind first last texts xs) ≡ flat f xs
    kept-step Append first last texts xs = kept-put first texts xs
    kept-step Delete first last texts xs = kept-take (first - 1) (last - (first - 1)) xs
    kept-step Change first last texts xs =
        kept-put (first - 1) texts (take_away seen gone (first - 1) (last - (first - 1)) xs) ∙ kept-take (first - 1)
        (last - (first - 1)) xs

    pub kept-run : (orders : List Order) (xs : List A) → flat f (run seen gone made orders xs) ≡ flat f xs
    kept-run [] xs = refl
    kept-run (order ∷ orders) xs =
        kept-run orders (step seen gone made order.kind order.first order.last order.lines xs)
        ∙ kept-step order.kind order.first order.last order.lines xs
