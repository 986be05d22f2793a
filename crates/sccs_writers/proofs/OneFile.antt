-- Calls that write one file, one after the other.
use Rattle.std.proofs.Common.{◌≡◌, ℕ, ◌⊎◌, cond, List, [], ◌∷◌, ◌++◌, Option, None, Some, option_map, IfSome, IsSome}
use Rattle.std.proofs.Common.{inl, inr, refl, sym, ap, subst, ◌∙◌, append_assoc}
use Rattle.std.specs.Str.{bytes_eq}
use Rattle.sccs_base.proofs.SameBytes.{same_bytes}
use Rattle.sccs_disk.specs.Files.{Content, File, View, Model, Op, Names, names, names_after}
use Rattle.sccs_disk.specs.Told.{Told, Tells, seen}
use Rattle.sccs_disk.specs.Effects.{altered, changed, firm, loose, syncing, synced, writing}
use Rattle.sccs_disk.specs.Calls.{Done, Half}
use Rattle.sccs_name_files.specs.StepFiles.{Alike, Moves}
use Rattle.sccs_name_files.specs.Touches.{IsBut, newest, earlier, Each, Grew}
use Rattle.sccs_name_files.proofs.Images.{but_changed}
use Rattle.sccs_name_files.proofs.Touched.{each_newest}
use Rattle.sccs_writers.specs.OneFile.{OnlyWrites}

-- ---- models

but_itself : (n : List ℕ) (m : Model) → IsBut n m m
but_itself n m = record { base = refl; pending = refl; count = refl; others = λ p other. refl }

names_of : (m m2 : Model) (n : List ℕ) → m2.base ≡ m.base → m2.pending ≡ m.pending → names m2 n ≡ names m n
names_of m m2 n base pending = ap (λ (b : Names). names_after m2.pending b n) base
    ∙ ap (λ (ops : List Op). names_after ops m.base n) pending

but_both : (n : List ℕ) (m m2 m3 : Model) → IsBut n m m2 → IsBut n m2 m3 → IsBut n m m3
but_both n m m2 m3 a b = record {
  base = b.base ∙ a.base;
  pending = b.pending ∙ a.pending;
  count = b.count ∙ a.count;
  others = λ p other. b.others p (λ is. other (sym (names_of m m2 n a.base a.pending) ∙ is)) ∙ a.others p other;
}

-- ---- stories

-- later models after others, each but the file under n as the first model
each_joined : (n : List ℕ) (m m2 : Model) (more added : List Model) → IsBut n m m2 → Each (IsBut n m2) more m2
    → Each (IsBut n m) added m → Each (IsBut n m) (more ++ added) m
each_joined n m m2 [] added is later first = first
each_joined n m m2 (a ∷ more) added is later first =
    (but_both n m m2 a is later.0, each_joined n m m2 more added is later.1 first)

newest_joined : (more added : List Model) (m : Model) → newest (more ++ added) m ≡ newest more (newest added m)
newest_joined [] added m = refl
newest_joined (a ∷ more) added m = refl

earlier_of : (added : List Model) (m : Model) (past : List Model) → newest added m ∷ earlier added m past ≡ added
    ++ m ∷ past
earlier_of [] m past = refl
earlier_of (a ∷ added) m past = refl

earlier_joined : (more added : List Model) (m : Model) (past : List Model) → earlier (more ++ added) m past
    ≡ earlier more (newest added m) (earlier added m past)
earlier_joined [] added m past = refl
earlier_joined (a ∷ more) added m past =
    append_assoc more added (m ∷ past) ∙ ap (λ (rest : List Model). more ++ rest) (sym (earlier_of added m past))

grew_both : (n : List ℕ) (m : Model) (past : List Model) (mid new : Told) → (first : Grew n m past mid)
    → Grew n (newest first.added m) (earlier first.added m past) new → Grew n m past new
grew_both n m past mid new first second = record {
  added = second.added ++ first.added;
  is =
      second.is
      ∙ (ap (λ (now : Model). Tells now (earlier second.added (newest first.added m) (earlier first.added m past)))
      (sym (newest_joined second.added first.added m))
      ∙ ap (λ (before : List Model). Tells (newest (second.added ++ first.added) m) before)
      (sym (earlier_joined second.added first.added m past)));
  each =
      each_joined n m (newest first.added m) second.added first.added (each_newest (IsBut n m) first.added m first.each)
      second.each first.each;
}

-- ---- views

moves_none : (n : List ℕ) (v : Option View) → Moves (bytes_eq n) (λ u. u) v v
moves_none n None = refl
moves_none n (Some v) = λ k other. refl

moves_both : (n : List ℕ) (a b d : Option View) → Moves (bytes_eq n) (λ u. u) a b → Moves (bytes_eq n) (λ u. u) b d
    → Moves (bytes_eq n) (λ u. u) a d
moves_both n None None None first second = refl
moves_both n None None (Some d) first second = cc
moves_both n None (Some b) d first second = cc
moves_both n (Some a) None d first second = absurd first
moves_both n (Some a) (Some b) None first second = absurd second
moves_both n (Some a) (Some b) (Some d) first second = λ k other. second k other ∙ first k other

altered_other : (n : List ℕ) (g : Content → Content) (v : View) → Alike (bytes_eq n) (altered n g v) v
altered_other n g v k other = ap (λ test. cond test (option_map g (v n)) (v k)) other

map_some : (g : Content → Content) (o : Option Content) → IsSome o → IsSome (option_map g o)
map_some g None is = is
map_some g (Some c) is = refl

altered_there : (n : List ℕ) (g : Content → Content) (v : View) → IsSome (v n) → IsSome (altered n g v n)
altered_there n g v is = subst IsSome (sym (ap (λ test. cond test (option_map g (v n)) (v n)) (same_bytes n)))
    (map_some g (v n) is)

view_moves : (n : List ℕ) (g : Content → Content) (a b : Option View) → b ≡ option_map (altered n g) a
    → Moves (bytes_eq n) (λ u. u) a b
view_moves n g None b is = is
view_moves n g (Some v) b is = subst (Moves (bytes_eq n) (λ u. u) (Some v)) (sym is) (altered_other n g v)

view_there : (n : List ℕ) (g : Content → Content) (a b : Option View) → b ≡ option_map (altered n g) a
    → IfSome a (λ v. IsSome (v n)) → IfSome b (λ v. IsSome (v n))
view_there n g None b is there = subst (λ o. IfSome o (λ (v : View). IsSome (v n))) (sym is) tt
view_there n g (Some v) b is there = subst (λ o. IfSome o (λ (u : View). IsSome (u n))) (sym is)
    (altered_there n g v there)

-- ---- calls

pub only_none : (n : List ℕ) (t : Told) → OnlyWrites n t t
only_none n t = record {
  view = moves_none n (seen t);
  there = λ is. is;
  story = λ m past is. record { added = []; is = is; each = but_itself n m };
}

pub only_same : (n : List ℕ) (a b : Told) → b ≡ a → OnlyWrites n a b
only_same n a b is = subst (OnlyWrites n a) (sym is) (only_none n a)

pub only_both : (n : List ℕ) (a b d : Told) → OnlyWrites n a b → OnlyWrites n b d → OnlyWrites n a d
only_both n a b d first second = record {
  view = moves_both n (seen a) (seen b) (seen d) first.view second.view;
  there = λ is. second.there (first.there is);
  story = λ m past is.
      let start : Grew n m past b = first.story m past is in
      grew_both n m past b d start (second.story (newest start.added m) (earlier start.added m past) start.is);
}

one_more : (n : List ℕ) (g : File → File) (m : Model) (past : List Model) (new : Told) → new ≡ Tells (changed n g m)
    (m ∷ past) → Grew n m past new
one_more n g m past new is = record { added = changed n g m ∷ []; is = is; each = (but_changed n g m, but_itself n m) }

pub only_done : (n : List ℕ) (g : Content → Content) (IsHalf : (Content → Content) → Type 0) (a b : Told)
    → Done (writing n g IsHalf) a b → OnlyWrites n a b
only_done n g IsHalf a b done = record {
  view = view_moves n g (seen a) (seen b) done.view;
  there = view_there n g (seen a) (seen b) done.view;
  story = λ m past is. one_more n (λ f. loose (g f.content)) m past b (done.model m past is);
}

half_views : (n : List ℕ) (a b : Option View)
    → (b ≡ a) ⊎ ((v w : View) × (a ≡ Some v) × (b ≡ Some w) × ((h : Content → Content) × (w ≡ altered n h v)))
    → (b ≡ a) ⊎ ((h : Content → Content) × (b ≡ option_map (altered n h) a))
half_views n a b (inl same) = inl same
half_views n a b (inr (v, w, old, new, (h, made))) =
    inr (h, new ∙ (ap (λ (x : View). Some x) made ∙ ap (option_map (altered n h)) (sym old)))

without_half : (n : List ℕ) (IsHalf : (Content → Content) → Type 0) (a b : Option View)
    → (b ≡ a) ⊎ ((v w : View) × (a ≡ Some v) × (b ≡ Some w) × ((h : Content → Content) × IsHalf h
    × (w ≡ altered n h v)))
    → (b ≡ a) ⊎ ((v w : View) × (a ≡ Some v) × (b ≡ Some w) × ((h : Content → Content) × (w ≡ altered n h v)))
without_half n IsHalf a b (inl same) = inl same
without_half n IsHalf a b (inr (v, w, old, new, (h, half, made))) = inr (v, w, old, new, (h, made))

half_moves : (n : List ℕ) (a b : Option View) → (b ≡ a) ⊎ ((h : Content → Content) × (b ≡ option_map (altered n h) a))
    → Moves (bytes_eq n) (λ u. u) a b
half_moves n a b (inl same) = subst (Moves (bytes_eq n) (λ u. u) a) (sym same) (moves_none n a)
half_moves n a b (inr (h, is)) = view_moves n h a b is

half_there : (n : List ℕ) (a b : Option View) → (b ≡ a) ⊎ ((h : Content → Content) × (b ≡ option_map (altered n h) a))
    → IfSome a (λ v. IsSome (v n)) → IfSome b (λ v. IsSome (v n))
half_there n a b (inl same) there = subst (λ o. IfSome o (λ (v : View). IsSome (v n))) (sym same) there
half_there n a b (inr (h, is)) there = view_there n h a b is there

half_story : (n : List ℕ) (IsHalf : (Content → Content) → Type 0) (a b : Told) (m : Model) (past : List Model)
    → a ≡ Tells m past
    → (b ≡ a) ⊎ ((m2 : Model) × (b ≡ Tells m2 (m ∷ past)) × ((h : Content → Content) × IsHalf h
    × (m2 ≡ changed n (λ f. loose (h f.content)) m))) → Grew n m past b
half_story n IsHalf a b m past is (inl same) = record { added = []; is = same ∙ is; each = but_itself n m }
half_story n IsHalf a b m past is (inr (m2, new, (h, half, made))) =
    one_more n (λ f. loose (h f.content)) m past b (new ∙ ap (λ (x : Model). Tells x (m ∷ past)) made)

pub only_half : (n : List ℕ) (g : Content → Content) (IsHalf : (Content → Content) → Type 0) (a b : Told)
    → Half (writing n g IsHalf) a b → OnlyWrites n a b
only_half n g IsHalf a b half =
    let views = half_views n (seen a) (seen b) (without_half n IsHalf (seen a) (seen b) half.view) in
    record {
      view = half_moves n (seen a) (seen b) views;
      there = half_there n (seen a) (seen b) views;
      story = λ m past is. half_story n IsHalf a b m past is (half.model m past is);
    }

map_same : (o : Option View) → option_map (λ v. v) o ≡ o
map_same None = refl
map_same (Some v) = refl

same_view : (n : List ℕ) (a b : Told) → seen b ≡ seen a → ((m : Model) (past : List Model) → a ≡ Tells m past
    → Grew n m past b) → OnlyWrites n a b
same_view n a b same story = record {
  view = subst (Moves (bytes_eq n) (λ u. u) (seen a)) (sym same) (moves_none n (seen a));
  there = λ there. subst (λ o. IfSome o (λ (v : View). IsSome (v n))) (sym same) there;
  story = story;
}

pub only_synced : (n : List ℕ) (a b : Told) → Done (syncing n) a b → OnlyWrites n a b
only_synced n a b done =
    same_view n a b (done.view ∙ map_same (seen a)) (λ m past is. one_more n (λ f. firm f.content) m past b
    (done.model m past is))

half_same : (a b : Option View) → (b ≡ a) ⊎ ((v w : View) × (a ≡ Some v) × (b ≡ Some w) × (w ≡ v)) → b ≡ a
half_same a b (inl same) = same
half_same a b (inr (v, w, old, new, is)) = new ∙ (ap (λ (x : View). Some x) is ∙ sym old)

sync_story : (n : List ℕ) (a b : Told) (m : Model) (past : List Model) → a ≡ Tells m past
    → (b ≡ a) ⊎ ((m2 : Model) × (b ≡ Tells m2 (m ∷ past)) × (m2 ≡ synced n m)) → Grew n m past b
sync_story n a b m past is (inl same) = record { added = []; is = same ∙ is; each = but_itself n m }
sync_story n a b m past is (inr (m2, new, made)) = one_more n (λ f. firm f.content) m past b (new
    ∙ ap (λ (x : Model). Tells x (m ∷ past)) made)

pub only_sync_half : (n : List ℕ) (a b : Told) → Half (syncing n) a b → OnlyWrites n a b
only_sync_half n a b half = same_view n a b (half_same (seen a) (seen b) half.view)
    (λ m past is. sync_story n a b m past is (half.model m past is))
