-- The next item of a body, and what of it is shown.
use Rattle.std.proofs.Common.{◌≡◌, ℕ, Bool, true, false, List, [], ◌∷◌, ◌++◌, Option, None, Some, Result, Ok, Err, refl}
use Rattle.std.proofs.Common.{sym, ap, subst, ◌∙◌}
use Rattle.sccs_history.specs.Numbers.{front_if}
use Rattle.sccs_history.specs.Body.{HistoryLine, line_at, lines_behind}
use Rattle.sccs_history.specs.Select.{shows}
use Rattle.sccs_history.specs.declared.headers.Item.{Item}
use Rattle.sccs_history.specs.declared.headers.Item.TheVariants.{Text, Insert, Delete}
use Rattle.sccs_history.specs.declared.headers.Item.TheVariants as kinds
use Rattle.sccs_grammar.specs.declared.faults.FileFault.{FileFault}
use Rattle.sccs_grammar.specs.declared.faults.FileFault.TheVariants as faults
use Rattle.sccs_body.specs.Reader.{ItemPlace}
use Rattle.sccs_body.specs.ItemsRead.{GoesOrStays, IsBehind}
use Rattle.sccs_body.specs.ToCome.{ComesOrStays, ItemComes, ToCome}
use Rattle.sccs_body.specs.ToCome as items
use Rattle.sccs_versions.proofs.RunLaws.{onto_read}
use Rattle.sccs_versions.specs.Regions.{Holds}
use Rattle.sccs_versions.specs.declared.regions.Region.{Region}
use Rattle.sccs_versions.specs.Coming.{Coming, GivesNextLine, ShowsItem, shown}
use Rattle.sccs_versions.specs.Place.{VersionPlace}
use Rattle.sccs_versions.specs.WasRead.{HasRead}
use Rattle.sccs_versions.specs.declared.readers.Next.{Next}
use Rattle.sccs_versions.specs.declared.readers.Next.TheVariants.{Line, Hidden, End}

abbrev pub ok_items : List Item → Result (List Item) ℕ
ok_items rest = Ok rest

-- ---- what of one item is shown

pub kept_text : (set : List ℕ) (before : List Item) (text : List ℕ) (regions : List Region) (kept : Bool)
    → Holds set (Text text ∷ before) regions → ((s : List ℕ) (b : List Item) (t : List ℕ) → Holds s b regions
    → kept ≡ shows s (line_at b t)) → kept ≡ true
    → ShowsItem set before (Text text) regions (Ok (Line text))
kept_text set before text regions kept holds keep is = (
  holds,
  refl,
  sym (keep set (Text text ∷ before) text holds)
      ∙ is,
)

hidden_front : (b : Bool) (line : HistoryLine) → b ≡ false → front_if b line [] ≡ []
hidden_front true line is = absurd cc
hidden_front false line is = refl

pub hidden_text : (set : List ℕ) (before : List Item) (text : List ℕ) (regions : List Region) (kept : Bool)
    → Holds set (Text text ∷ before) regions → ((s : List ℕ) (b : List Item) (t : List ℕ) → Holds s b regions
    → kept ≡ shows s (line_at b t)) → kept ≡ false
    → ShowsItem set before (Text text) regions (Ok Hidden)
hidden_text set before text regions kept holds keep is = (
  holds,
  hidden_front (shows set (line_at before text))
      (line_at before text) (sym (keep set (Text text ∷ before) text holds) ∙ is),
)

-- ---- one item and those behind it

front_shown : (b : Bool) (line : HistoryLine) (lines : List HistoryLine) → front_if b line lines ≡ front_if b line []
    ++ lines
front_shown true line lines = refl
front_shown false line lines = refl

item_then : (set : List ℕ) (before : List Item) (item : Item) (rest : List Item)
    → shown set (lines_behind before (item ∷ rest)) ≡ shown set (lines_behind before (item ∷ [])) ++ shown set
    (lines_behind (item ∷ before) rest)
item_then set before (Text text) rest = front_shown (shows set (line_at before text)) (line_at before text)
    (shown set (lines_behind (Text text ∷ before) rest))
item_then set before (Insert n) rest = refl
item_then set before (Delete n) rest = refl
item_then set before (kinds.End n) rest = refl

-- the reader stands behind the item, and the regions are those behind it
behind_item : (file : List ℕ) (r r2 : VersionPlace) (lines : List HistoryLine) (item : Item) → (p : Coming file r lines)
    → r2.set ≡ r.set → ItemComes file p.live p.before (Ok p.rest) item r2.items
    → Holds r.set (item ∷ p.before) r2.regions
    → (rest : List HistoryLine) × (lines ≡ shown r.set (lines_behind p.before (item ∷ [])) ++ rest)
    × Coming file r2 rest
behind_item file r r2 lines item p same comes holds =
    let split = onto_read (item ∷ []) comes.rest p.rest (sym comes.first) in
    let rest = shown r.set (lines_behind (item ∷ p.before) split.0) in (
      rest,
      p.lines_are ∙ (ap (λ all. shown r.set (lines_behind p.before all)) split.2
          ∙ item_then r.set p.before item split.0),
      record {
        live = p.live;
        before = item ∷ p.before;
        rest = split.0;
        holds = subst (λ set. Holds set (item ∷ p.before) r2.regions) (sym same) holds;
        comes = subst (λ found. ToCome file p.live (item ∷ p.before) found r2.items) split.1 comes.on;
        lines_are = ap (λ set. shown set (lines_behind (item ∷ p.before) split.0)) (sym same);
      },
    )

pub shown_one : (b : Bool) (line : HistoryLine) → b ≡ true → front_if b line [] ≡ line ∷ []
shown_one true line is = refl
shown_one false line is = absurd cc

item_shown : (file : List ℕ) (r r2 : VersionPlace) (lines : List HistoryLine) (item : Item)
    (result : Result Next FileFault) → (p : Coming file r lines) → r2.set ≡ r.set → ItemComes file p.live p.before
    (Ok p.rest) item r2.items
    → ShowsItem r.set p.before item r2.regions result → GivesNextLine file r2 lines result
item_shown file r r2 lines item (Ok (Line text)) p same comes shows_it =
    let on = behind_item file r r2 lines item p same comes shows_it.0 in
    let first : shown r.set (lines_behind p.before (item ∷ [])) ≡ line_at p.before text ∷ [] =
    ap (λ (i : Item). shown r.set (lines_behind p.before (i ∷ []))) shows_it.1
    ∙ shown_one (shows r.set (line_at p.before text)) (line_at p.before text) shows_it.2 in
    record {
      line = line_at p.before text;
      rest = on.0;
      whole = on.1 ∙ ap (λ front. front ++ on.0) first;
      text_is = refl;
      inserted = λ n is. sym (is (Text text ∷ p.before) (subst (λ (i : Item). Holds r.set (i ∷ p.before) r2.regions)
          shows_it.1 shows_it.0).opens);
      on = on.2;
    }
item_shown file r r2 lines item (Ok Hidden) p same comes shows_it =
    let on = behind_item file r r2 lines item p same comes shows_it.0 in
    subst (λ coming. Coming file r2 coming) (sym (on.1 ∙ ap (λ front. front ++ on.0) shows_it.1)) on.2
item_shown file r r2 lines item (Ok End) p same comes shows_it = absurd shows_it
item_shown file r r2 lines item (Err faults.Memory) p same comes shows_it = tt
item_shown file r r2 lines item (Err faults.Failed) p same comes shows_it = tt
item_shown file r r2 lines item (Err faults.Missing) p same comes shows_it = absurd shows_it
item_shown file r r2 lines item (Err faults.TooLong) p same comes shows_it = absurd shows_it
item_shown file r r2 lines item (Err faults.NotSccs) p same comes shows_it = absurd shows_it
item_shown file r r2 lines item (Err (faults.BadSum stored sum)) p same comes shows_it = absurd shows_it
item_shown file r r2 lines item (Err (faults.BadFormat line)) p same comes shows_it = absurd shows_it
item_shown file r r2 lines item (Err faults.Encoded) p same comes shows_it = absurd shows_it
item_shown file r r2 lines item (Err (faults.Changed a b c d)) p same comes shows_it = absurd shows_it

-- ---- as the reader of items gives it

-- what it says of a told file
abbrev pub Given : List ℕ → ItemPlace → ItemPlace → Result (Option Item) FileFault → Type 0
Given file old new result = (live : List ℕ) (before : List Item) (found : Result (List Item) ℕ)
    → ToCome file live before found old → items.GivesNext file live before found new result

pub next_shown : (file : List ℕ) (r r2 : VersionPlace) (lines : List HistoryLine) (found : Option Item) (item : Item)
    (result : Result Next FileFault) → found ≡ Some item → r2.set ≡ r.set → Given file r.items r2.items (Ok found)
    → ((before : List Item) → Holds r.set before r.regions → ShowsItem r.set before item r2.regions result)
    → Coming file r lines → GivesNextLine file r2 lines result
next_shown file r r2 lines found item result is same given shows_it p =
    item_shown file r r2 lines item result p same (subst (λ f. items.GivesNext file p.live p.before (Ok p.rest) r2.items
    (Ok f)) is (given p.live p.before (Ok p.rest) p.comes)) (shows_it p.before p.holds)

pub none_more : (rest : List Item) → ok_items rest ≡ ok_items [] → rest ≡ []
none_more rest is = cc

pub next_none : (file : List ℕ) (r : VersionPlace) (new : ItemPlace) (lines : List HistoryLine) (found : Option Item)
    → found ≡ None → Given file r.items new (Ok found) → Coming file r lines → lines ≡ []
next_none file r new lines found is given p =
    let none = subst (λ f. items.GivesNext file p.live p.before (Ok p.rest) new (Ok f)) is
    (given p.live p.before (Ok p.rest) p.comes) in
    p.lines_are ∙ ap (λ rest. shown r.set (lines_behind p.before rest)) (none_more p.rest none)

pub never : (rest : List Item) (k : ℕ) → ok_items rest ≡ Err k → ⊥
never rest k is = cc

-- over a told body that is whole only the disk or memory can end it
fault_given : (file : List ℕ) (r r2 : VersionPlace) (lines : List HistoryLine) (fault : FileFault)
    → (p : Coming file r lines) → items.GivesNext file p.live p.before (Ok p.rest) r2.items (Err fault)
    → GivesNextLine file r2 lines (Err fault)
fault_given file r r2 lines faults.Failed p given = tt
fault_given file r r2 lines faults.Memory p given = tt
fault_given file r r2 lines (faults.BadFormat line) p given = never p.rest line given
fault_given file r r2 lines faults.Missing p given = given
fault_given file r r2 lines faults.TooLong p given = given
fault_given file r r2 lines faults.NotSccs p given = given
fault_given file r r2 lines (faults.BadSum stored sum) p given = given
fault_given file r r2 lines faults.Encoded p given = given
fault_given file r r2 lines (faults.Changed a b c d) p given = given

pub next_fails : (file : List ℕ) (r r2 : VersionPlace) (lines : List HistoryLine) (fault : FileFault)
    (result : Result Next FileFault) → result ≡ Err fault → Given file r.items r2.items (Err fault)
    → Coming file r lines → GivesNextLine file r2 lines result
next_fails file r r2 lines fault result is given p = subst (λ x. GivesNextLine file r2 lines x) (sym is)
    (fault_given file r r2 lines fault p (given p.live p.before (Ok p.rest) p.comes))

-- a reader that took nothing: at None nothing was taken, and then more was read on
pub coming_still : (file : List ℕ) (r r2 : VersionPlace) (mid : ItemPlace) (lines : List HistoryLine)
    (taken : Option Item) → taken ≡ None → r2.set ≡ r.set → r2.regions ≡ r.regions
    → ((live : List ℕ) (before : List Item) (found : Result (List Item) ℕ) → ToCome file live before found r.items
    → ComesOrStays file live before found mid taken)
    → ((live : List ℕ) (before : List Item) (found : Result (List Item) ℕ) → ToCome file live before found mid
    → ToCome file live before found r2.items) → Coming file r lines → Coming file r2 lines
coming_still file r r2 mid lines taken none set regions taken_none read_on p = record {
  live = p.live;
  before = p.before;
  rest = p.rest;
  holds = subst (λ s. Holds s p.before r2.regions) (sym set) (subst (λ w. Holds r.set p.before w)
      (sym regions) p.holds);
  comes = read_on p.live p.before (Ok p.rest) (subst (λ t. ComesOrStays file p.live p.before (Ok p.rest) mid t) none
      (taken_none p.live p.before (Ok p.rest) p.comes));
  lines_are = p.lines_are ∙ ap (λ s. shown s (lines_behind p.before p.rest)) (sym set);
}

pub read_still : (live : List ℕ) (r r2 : VersionPlace) (mid : ItemPlace) (before : List Item) (taken : Option Item)
    → taken ≡ None → r2.set ≡ r.set → r2.regions ≡ r.regions → ((live : List ℕ) (before : List Item)
    → IsBehind live before r.items → GoesOrStays live before mid taken)
    → ((live : List ℕ) (before : List Item) → IsBehind live before mid → IsBehind live before r2.items)
    → HasRead live r before → HasRead live r2 before
read_still live r r2 mid before taken none set regions taken_none read_on h = record {
  stood = h.stood;
  behind = read_on live before (subst (λ t. GoesOrStays live before mid t) none (taken_none live before h.behind));
  holds = subst (λ s. Holds s before r2.regions) (sym set) (subst (λ w. Holds r.set before w) (sym regions) h.holds);
}
