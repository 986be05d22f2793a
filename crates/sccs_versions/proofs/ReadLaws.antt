-- What was read of a body, over any disk.
use Rattle.std.proofs.Common.{◌≡◌, ℕ, ◌<◌, ◌⊎◌, Bool, true, false, List, [], ◌∷◌, ◌++◌, length, map, Option, None, Some}
use Rattle.std.proofs.Common.{Result, Ok, Err, inl, inr, refl, sym, ap, subst, ◌∙◌, append_assoc, arith}
use Rattle.std.proofs.lemmas.List.{append-nil}
use Rattle.sccs_base.specs.Cut.{cut}
use Rattle.sccs_history.specs.Numbers.{front_if}
use Rattle.sccs_history.specs.Body.{HistoryLine, line_at, lines_behind, may_stand}
use Rattle.sccs_history.specs.Select.{shows}
use Rattle.sccs_history.specs.declared.headers.Item.{Item}
use Rattle.sccs_history.specs.declared.headers.Item.TheVariants.{Text, Insert, Delete}
use Rattle.sccs_history.specs.declared.headers.Item.TheVariants as items
use Rattle.sccs_grammar.specs.declared.faults.FileFault.{FileFault}
use Rattle.sccs_body.specs.Reader.{ItemPlace}
use Rattle.sccs_body.proofs.TextLaws.{some_bytes}
use Rattle.sccs_body.proofs.ComingLaws.{hand_long}
use Rattle.sccs_body.specs.ItemsRead.{MovesToItem, IsBehind, texts_behind}
use Rattle.sccs_versions.specs.Regions.{Holds}
use Rattle.sccs_versions.specs.declared.regions.Region.{Region}
use Rattle.sccs_versions.specs.Coming.{ShowsItem, shown}
use Rattle.sccs_versions.specs.Place.{AreShown, VersionPlace, bytes_held}
use Rattle.sccs_versions.specs.WasRead.{HasRead, ReadsAll, ReadsNext, ReadsOn, Stood, lines_before, shown_before}
use Rattle.sccs_versions.specs.declared.readers.Next.{Next}
use Rattle.sccs_versions.specs.declared.readers.Next.TheVariants.{Line, Hidden, End}
use Rattle.sccs_versions.proofs.RunLaws.{Passed, holds_behind, kept_or_none, run_behind, run_inserted, run_lines}
use Rattle.sccs_versions.proofs.RunLaws.{run_texts}
use Rattle.sccs_versions.proofs.ItemLaws.{shown_one}

-- ---- what is shown of lines, one behind others

front_append : (b : Bool) (line : HistoryLine) (xs ys : List HistoryLine) → front_if b line (xs ++ ys)
    ≡ front_if b line xs ++ ys
front_append true line xs ys = refl
front_append false line xs ys = refl

shown_append : (set : List ℕ) (xs ys : List HistoryLine) → shown set (xs ++ ys) ≡ shown set xs ++ shown set ys
shown_append set [] ys = refl
shown_append set (line ∷ xs) ys = ap (λ more. front_if (shows set line) line more) (shown_append set xs ys)
    ∙ front_append (shows set line) line (shown set xs) (shown set ys)

nothing_shown : (set : List ℕ) (before : List Item) → shown set (run_lines before (cut []).lines) ≡ run_lines before
    (cut []).lines
unfolding cut
nothing_shown set before = refl

-- ---- a run of lines

lines_on : (lines : List (List ℕ)) (before : List Item) → lines_before (texts_behind lines before) ≡ lines_before before
    ++ run_lines before lines
lines_on [] before = sym (append-nil (lines_before before))
lines_on (line ∷ lines) before =
    lines_on lines (Text line ∷ before)
    ∙ (append_assoc (lines_before before) (line_at before line ∷ []) (run_lines (Text line ∷ before) lines)
    ∙ ap (λ run. lines_before before ++ line_at before line ∷ run) (run_behind before line lines))

run_all : (set : List ℕ) (before : List Item) (lines : List (List ℕ)) → shows set (line_at before []) ≡ true
    → shown set (run_lines before lines) ≡ run_lines before lines
run_all set before [] is = refl
run_all set before (line ∷ lines) is =
    ap (λ b. front_if b (line_at before line) (shown set (run_lines before lines))) is
    ∙ ap (λ more. line_at before line ∷ more) (run_all set before lines is)

run_none : (set : List ℕ) (before : List Item) (lines : List (List ℕ)) → shows set (line_at before []) ≡ false
    → shown set (run_lines before lines) ≡ []
run_none set before [] is = refl
run_none set before (line ∷ lines) is = ap (λ b. front_if b (line_at before line) (shown set (run_lines before lines)))
    is ∙ run_none set before lines is

stood_texts : (live : List ℕ) (lines : List (List ℕ)) (before : List Item) → (0 < length lines → (text : List ℕ)
    → may_stand live before (Text text) ≡ true) → Stood live before → Stood live (texts_behind lines before)
stood_texts live [] before stand stood = stood
stood_texts live (line ∷ lines) before stand stood = stood_texts live lines (Text line ∷ before)
    (λ some text. stand (omega arith) text) (stand (omega arith) line, stood)

-- the reader has passed over a run
read_run : (live : List ℕ) (r r2 : VersionPlace) (run : List ℕ) (before : List Item) → HasRead live r before
    → Passed run r r2 → ((live : List ℕ) (before : List Item) (text : List ℕ) → IsBehind live before r.items
    → 0 < length run → may_stand live before (Text text) ≡ true)
    → HasRead live r2 (texts_behind (cut run).lines before)
read_run live r r2 run before h passed stand = record {
  stood = stood_texts live (cut run).lines before (λ some text. stand live before text h.behind (some_bytes run some))
      h.stood;
  behind = passed.behind live before h.behind;
  holds = subst (λ set. Holds set (texts_behind (cut run).lines before) r2.regions) (sym passed.set)
      (subst (λ w. Holds r.set (texts_behind (cut run).lines before) w) (sym passed.regions)
      (holds_behind r.set (cut run).lines before r.regions h.holds));
}

shown_first : (set : List ℕ) (before : List Item) (run : List ℕ) → (shows set (line_at before []) ≡ true) ⊎ (run ≡ [])
    → shown set (run_lines before (cut run).lines) ≡ run_lines before (cut run).lines
shown_first set before run (inl is) = run_all set before (cut run).lines is
shown_first set before run (inr none) = subst (λ bytes. shown set (run_lines before (cut bytes).lines)
    ≡ run_lines before (cut bytes).lines) (sym none) (nothing_shown set before)

pub shown_on : (live : List ℕ) (r r2 : VersionPlace) (count : ℕ) (before : List Item) → AreShown r count
    → Passed (bytes_held r count) r r2 → HasRead live r before → ReadsOn live r2 r.regions before
    (cut (bytes_held r count)).lines
shown_on live r r2 count before are passed h =
    let run = bytes_held r count in
    record {
      items = texts_behind (cut run).lines before;
      read = read_run live r r2 run before h passed (λ live before text behind some. are.may.stand live before text
          behind (subst (λ n. 0 < n) (hand_long r.items count are.may) some));
      first = run_lines before (cut run).lines;
      whole = subst (λ set. shown_before set (texts_behind (cut run).lines before) ≡ shown_before set before
          ++ run_lines before (cut run).lines) (sym passed.set)
          (ap (shown r.set) (lines_on (cut run).lines before)
          ∙ (shown_append r.set (lines_before before) (run_lines before (cut run).lines)
          ∙ ap (λ lines. shown_before r.set before ++ lines) (shown_first r.set before run
          (kept_or_none r count before are.kept h.holds))));
      texts_are = run_texts before (cut run).lines;
      inserted = λ n is. run_inserted before (cut run).lines n (sym (is before h.holds.opens));
    }

hidden_on : (live : List ℕ) (r r2 : VersionPlace) (run : List ℕ) (before : List Item) (kept : Bool) → Passed run r r2
    → ((live : List ℕ) (before : List Item) (text : List ℕ) → IsBehind live before r.items → 0 < length run
    → may_stand live before (Text text) ≡ true)
    → ((set : List ℕ) (before : List Item) (text : List ℕ) → Holds set before r.regions
    → kept ≡ shows set (line_at before text)) → kept ≡ false → HasRead live r before
    → ReadsOn live r2 r.regions before []
hidden_on live r r2 run before kept passed stand keep none h = record {
  items = texts_behind (cut run).lines before;
  read = read_run live r r2 run before h passed stand;
  first = [];
  whole = subst (λ set. shown_before set (texts_behind (cut run).lines before) ≡ shown_before set before ++ [])
      (sym passed.set)
      (ap (shown r.set) (lines_on (cut run).lines before)
      ∙ (shown_append r.set (lines_before before) (run_lines before (cut run).lines)
      ∙ ap (λ lines. shown_before r.set before ++ lines) (run_none r.set before (cut run).lines
      (sym (keep r.set before [] h.holds) ∙ none))));
  texts_are = refl;
  inserted = λ n is. tt;
}

-- the same, as the code goes over lines that aren't shown
pub hidden_read : (live : List ℕ) (r r2 : VersionPlace) (text : List ℕ) (before : List Item) (kept : Bool)
    → bytes_held r (length text) ≡ text → Passed (bytes_held r (length text)) r r2
    → ((live : List ℕ) (before : List Item) (line : List ℕ) → IsBehind live before r.items → 0 < length text
    → may_stand live before (Text line) ≡ true)
    → ((set : List ℕ) (before : List Item) (line : List ℕ) → Holds set before r.regions
    → kept ≡ shows set (line_at before line)) → kept ≡ false → HasRead live r before
    → ReadsOn live r2 r.regions before []
hidden_read live r r2 text before kept front passed stand keep none h = hidden_on live r r2 text before kept
    (subst (λ run. Passed run r r2) front passed) stand keep none h

pub read_same : (live : List ℕ) (r : VersionPlace) (regions : List Region) (before : List Item) → HasRead live r before
    → ReadsOn live r regions before []
read_same live r regions before h =
    record {
      items = before;
      read = h;
      first = [];
      whole = sym (append-nil (shown_before r.set before));
      texts_are =
          refl;
      inserted = λ n is. tt;
    }

no_texts : (lines : List HistoryLine) → map (λ (line : HistoryLine). line.text) lines ≡ [] → lines ≡ []
no_texts [] none = refl
no_texts (line ∷ lines) none = absurd cc

-- a reader that showed nothing more
nothing_more : (live : List ℕ) (r : VersionPlace) (regions : List Region) (before : List Item)
    → (on : ReadsOn live r regions before []) → shown_before r.set on.items ≡ shown_before r.set before
nothing_more live r regions before on = on.whole ∙ (ap (λ lines. shown_before r.set before ++ lines)
    (no_texts on.first on.texts_are) ∙ append-nil (shown_before r.set before))

-- ---- one item

item_shows : (set : List ℕ) (before : List Item) (item : Item) → shown_before set (item ∷ before)
    ≡ shown_before set before ++ shown set (lines_behind before (item ∷ []))
item_shows set before (Text text) = shown_append set (lines_before before) (line_at before text ∷ [])
item_shows set before (Insert n) = sym (append-nil (shown_before set before))
item_shows set before (Delete n) = sym (append-nil (shown_before set before))
item_shows set before (items.End n) = sym (append-nil (shown_before set before))

item_read : (live : List ℕ) (r r2 : VersionPlace) (before : List Item) (item : Item) → HasRead live r before
    → r2.set ≡ r.set → MovesToItem live before r2.items (Ok (Some item)) → Holds r.set (item ∷ before) r2.regions
    → HasRead live r2 (item ∷ before)
item_read live r r2 before item h same goes holds = record {
  stood = (goes.0, h.stood);
  behind = goes.1;
  holds = subst (λ set. Holds set (item ∷ before) r2.regions) (sym same) holds;
}

-- an item behind those that showed nothing more shows these lines
one_more : (live : List ℕ) (r : VersionPlace) (regions : List Region) (before : List Item)
    (on : ReadsOn live r regions before []) (item : Item) (lines : List HistoryLine)
    → shown r.set (lines_behind on.items (item ∷ [])) ≡ lines
    → shown_before r.set (item ∷ on.items) ≡ shown_before r.set before ++ lines
one_more live r regions before on item lines is =
    item_shows r.set on.items item ∙ (ap (λ front. front ++ shown r.set (lines_behind on.items (item ∷ [])))
    (nothing_more live r regions before on) ∙ ap (λ more. shown_before r.set before ++ more) is)

shown_item : (live : List ℕ) (r r2 : VersionPlace) (regions : List Region) (before : List Item)
    (on : ReadsOn live r regions before []) (item : Item) (result : Result Next FileFault) → r2.set ≡ r.set
    → MovesToItem live on.items r2.items (Ok (Some item)) → ShowsItem r.set on.items item r2.regions result
    → ReadsNext live r2 before result
shown_item live r r2 regions before on item (Ok (Line text)) same goes it = record {
  items = item ∷ on.items;
  read = item_read live r r2 on.items item on.read same goes it.0;
  first = line_at on.items text ∷ [];
  whole = subst (λ set. shown_before set (item ∷ on.items) ≡ shown_before set before ++ line_at on.items text ∷ [])
      (sym same)
      (one_more live r regions before on item (line_at on.items text ∷ [])
      (ap (λ (i : Item). shown r.set (lines_behind on.items (i ∷ []))) it.1
      ∙ shown_one (shows r.set (line_at on.items text)) (line_at on.items text) it.2));
  texts_are = refl;
  inserted = λ n is. (
    sym (is (Text text ∷ on.items) (subst (λ (i : Item). Holds r.set (i ∷ on.items) r2.regions) it.1
        it.0).opens),
    tt,
  );
}
shown_item live r r2 regions before on item (Ok Hidden) same goes it = record {
  items = item ∷ on.items;
  read = item_read live r r2 on.items item on.read same goes it.0;
  first = [];
  whole = subst (λ set. shown_before set (item ∷ on.items) ≡ shown_before set before ++ []) (sym same)
      (one_more live r regions before on item [] it.1);
  texts_are = refl;
  inserted = λ n is. tt;
}
shown_item live r r2 regions before on item (Ok End) same goes it = absurd it
shown_item live r r2 regions before on item (Err fault) same goes it = tt

pub next_read : (live : List ℕ) (r r2 : VersionPlace) (regions : List Region) (before : List Item) (found : Option Item)
    (item : Item) (result : Result Next FileFault) → found ≡ Some item → r2.set ≡ r.set
    → ((live : List ℕ) (before : List Item) → IsBehind live before r.items → MovesToItem live before r2.items
    (Ok found))
    → ((before : List Item) → Holds r.set before r.regions → ShowsItem r.set before item r2.regions result)
    → ReadsOn live r regions before [] → ReadsNext live r2 before result
next_read live r r2 regions before found item result is same goes it on =
    shown_item live r r2 regions before on item result same (subst (λ f. MovesToItem live on.items r2.items (Ok f)) is
    (goes live on.items on.read.behind)) (it on.items on.read.holds)

pub end_read : (live : List ℕ) (r : VersionPlace) (regions : List Region) (new : ItemPlace) (set : List ℕ)
    (before : List Item) (found : Option Item) → found ≡ None → set ≡ r.set → ((live : List ℕ) (before : List Item)
    → IsBehind live before r.items → MovesToItem live before new (Ok found)) → ReadsOn live r regions before []
    → ReadsAll live set before
end_read live r regions new set before found is same goes on = record {
  items = on.items;
  stood = on.read.stood;
  over = subst (λ f. MovesToItem live on.items new (Ok f)) is (goes live on.items on.read.behind);
  whole = subst (λ s. shown_before s on.items ≡ shown_before s before) (sym same)
      (nothing_more live r regions before on);
}

-- what is read of a body behind items of which nothing more is shown
pub read_then : (live : List ℕ) (r r2 : VersionPlace) (regions : List Region) (before : List Item)
    (result : Result Next FileFault) → r2.set ≡ r.set → ReadsOn live r regions before []
    → ((before : List Item) → HasRead live r before → ReadsNext live r2 before result) → ReadsNext live r2 before result
read_then live r r2 regions before result same on next = then_read live r2 before on.items result
    (ap (λ set. shown_before set on.items) same ∙ (nothing_more live r regions before on
    ∙ ap (λ set. shown_before set before) (sym same))) (next on.items on.read)
  where
    then_read : (live : List ℕ) (r : VersionPlace) (before items : List Item) (result : Result Next FileFault)
        → shown_before r.set items ≡ shown_before r.set before → ReadsNext live r items result
        → ReadsNext live r before result
    then_read live r before items (Ok (Line text)) is next =
        record {
          items = next.items;
          read = next.read;
          first = next.first;
          whole = next.whole
              ∙ ap (λ lines. lines ++ next.first) is;
          texts_are = next.texts_are;
          inserted = next.inserted;
        }
    then_read live r before items (Ok Hidden) is next =
        record {
          items = next.items;
          read = next.read;
          first = next.first;
          whole = next.whole
              ∙ ap (λ lines. lines ++ next.first) is;
          texts_are = next.texts_are;
          inserted = next.inserted;
        }
    then_read live r before items (Ok End) is next =
        record { items = next.items; stood = next.stood; over = next.over; whole = next.whole ∙ is }
    then_read live r before items (Err fault) is next = tt

-- ---- texts
