-- Text lines that stand together.
use Rattle.std.proofs.Common.{◌≡◌, ℕ, ◌⊎◌, Bool, true, false, List, [], ◌∷◌, ◌++◌, length, map, Result, Ok, Err, inl}
use Rattle.std.proofs.Common.{inr, refl, sym, ap, subst, ◌∙◌}
use Rattle.std.specs.List.{AllByRecursion}
use Rattle.sccs_base.specs.Cut.{cut}
use Rattle.sccs_history.specs.Numbers.{front_if}
use Rattle.sccs_history.specs.Body.{HistoryLine, inserter, line_at, lines_behind}
use Rattle.sccs_history.specs.Select.{shows}
use Rattle.sccs_history.specs.declared.headers.Item.{Item}
use Rattle.sccs_history.specs.declared.headers.Item.TheVariants.{Text}
use Rattle.sccs_tokens.specs.Written.{ended, bytes_of}
use Rattle.sccs_table.proofs.RunLaws.{run_bytes}
use Rattle.sccs_body.specs.Reader.{ItemPlace}
use Rattle.sccs_body.specs.ItemsRead.{IsBehind, texts_behind}
use Rattle.sccs_body.specs.ToCome.{TextsCome, ToCome, onto}
use Rattle.sccs_body.proofs.ComingLaws.{nothing_at_hand, nothing_may_pass}
use Rattle.sccs_versions.specs.Regions.{Holds}
use Rattle.sccs_versions.specs.declared.regions.Region.{Region}
use Rattle.sccs_versions.specs.Coming.{ComeFirst, Coming, StandFirst, shown, text_of_lines}
use Rattle.sccs_versions.specs.Place.{AreShown, VersionPlace, bytes_held}

-- ---- lines that stand together behind some items

abbrev pub run_lines : List Item → List (List ℕ) → List HistoryLine
run_lines before [] = []
run_lines before (line ∷ lines) = line_at before line ∷ run_lines before lines

pub run_behind : (before : List Item) (text : List ℕ) (lines : List (List ℕ)) → run_lines (Text text ∷ before) lines
    ≡ run_lines before lines
run_behind before text [] = refl
run_behind before text (line ∷ lines) = ap (λ more. line_at before line ∷ more) (run_behind before text lines)

pub run_text : (before : List Item) (lines : List (List ℕ)) → bytes_of lines ≡ text_of_lines (run_lines before lines)
run_text before [] = refl
run_text before (line ∷ lines) = ap (λ more. ended line ++ more) (run_text before lines)

pub run_texts : (before : List Item) (lines : List (List ℕ)) → map (λ (line : HistoryLine). line.text)
    (run_lines before lines) ≡ lines
run_texts before [] = refl
run_texts before (line ∷ lines) = ap (λ more. line ∷ more) (run_texts before lines)

pub run_inserted : (before : List Item) (lines : List (List ℕ)) (n : ℕ) → inserter before ≡ n
    → AllByRecursion (λ (line : HistoryLine). line.inserter ≡ n) (run_lines before lines)
run_inserted before [] n is = tt
run_inserted before (line ∷ lines) n is = (is, run_inserted before lines n is)

-- all of them are shown, or none
run_shown : (set : List ℕ) (before : List Item) (lines : List (List ℕ)) (items : List Item)
    → shows set (line_at before []) ≡ true
    → shown set (lines_behind before (map Text lines ++ items)) ≡ run_lines before lines ++ shown set
    (lines_behind (texts_behind lines before) items)
run_shown set before [] items is = refl
run_shown set before (line ∷ lines) items is =
    ap (λ b. front_if b (line_at before line) (shown set (lines_behind (Text line ∷ before) (map Text lines ++ items))))
    is
    ∙ ap (λ more. line_at before line ∷ more) (run_shown set (Text line ∷ before) lines items is
    ∙ ap (λ run. run ++ shown set (lines_behind (texts_behind lines (Text line ∷ before)) items))
    (run_behind before line lines))

run_hidden : (set : List ℕ) (before : List Item) (lines : List (List ℕ)) (items : List Item)
    → shows set (line_at before []) ≡ false
    → shown set (lines_behind before (map Text lines ++ items)) ≡ shown set
    (lines_behind (texts_behind lines before) items)
run_hidden set before [] items is = refl
run_hidden set before (line ∷ lines) items is =
    ap (λ b. front_if b (line_at before line) (shown set (lines_behind (Text line ∷ before) (map Text lines ++ items))))
    is ∙ run_hidden set (Text line ∷ before) lines items is

-- ---- lines of a file that were passed over

pub onto_read : (given : List Item) (read : Result (List Item) ℕ) (rest : List Item) → onto given read ≡ Ok rest
    → (items : List Item) × (read ≡ Ok items) × (rest ≡ given ++ items)
onto_read given (Ok items) rest is = (items, refl, cc)
onto_read given (Err k) rest is = absurd cc

pub holds_behind : (set : List ℕ) (lines : List (List ℕ)) (before : List Item) (w : List Region) → Holds set before w
    → Holds set (texts_behind lines before) w
holds_behind set [] before w holds = holds
holds_behind set (line ∷ lines) before w holds = holds_behind set lines (Text line ∷ before) w
    (record { opens = holds.opens; applied = holds.applied; no_zero = holds.no_zero })

-- what a reader of items says that passed over a run
pub record Passed (run : List ℕ) (r r2 : VersionPlace) : Type 0 where
  pub set : r2.set ≡ r.set
  pub regions : r2.regions ≡ r.regions
  pub behind : (live : List ℕ) (before : List Item) → IsBehind live before r.items
      → IsBehind live (texts_behind (cut run).lines before) r2.items
  pub told : (file live : List ℕ) (before : List Item) (found : Result (List Item) ℕ)
      → ToCome file live before found r.items → TextsCome file live before found run r2.items

-- what is still to come when the reader has passed over a run
passed_on : (file : List ℕ) (r r2 : VersionPlace) (run : List ℕ) (lines : List HistoryLine) → (p : Coming file r lines)
    → Passed run r r2
    → (items : List Item) × (p.rest ≡ map Text (cut run).lines ++ items)
    × Coming file r2 (shown r.set (lines_behind (texts_behind (cut run).lines p.before) items))
passed_on file r r2 run lines p passed =
    let come = passed.told file p.live p.before (Ok p.rest) p.comes in
    let split = onto_read (map Text (cut run).lines) come.rest p.rest (sym come.first) in
    let behind2 = texts_behind (cut run).lines p.before in (
      split.0,
      split.2,
      record {
        live = p.live;
        before = behind2;
        rest = split.0;
        holds = subst (λ set. Holds set behind2 r2.regions) (sym passed.set) (subst (λ w. Holds r.set behind2 w)
            (sym passed.regions) (holds_behind r.set (cut run).lines p.before r.regions p.holds));
        comes = subst (λ found. ToCome file p.live behind2 found r2.items) split.1 come.on;
        lines_are = ap (λ set. shown set (lines_behind behind2 split.0)) (sym passed.set);
      },
    )

pub hidden_passed : (file : List ℕ) (r r2 : VersionPlace) (run : List ℕ) (lines : List HistoryLine) (kept : Bool)
    → Passed run r r2 → ((set : List ℕ) (before : List Item) (text : List ℕ) → Holds set before r.regions
    → kept ≡ shows set (line_at before text)) → kept ≡ false → Coming file r lines → Coming file r2 lines
hidden_passed file r r2 run lines kept passed keep none p =
    let on = passed_on file r r2 run lines p passed in
    subst (λ coming. Coming file r2 coming)
    (sym (p.lines_are ∙ (ap (λ rest. shown r.set (lines_behind p.before rest)) on.1 ∙ run_hidden r.set p.before
    (cut run).lines on.0 (sym (keep r.set p.before [] p.holds) ∙ none)))) on.2

no_lines : (set : List ℕ) (before : List Item) (items : List Item)
    → shown set (lines_behind before (map Text (cut []).lines ++ items)) ≡ run_lines before (cut []).lines ++ shown set
    (lines_behind (texts_behind (cut []).lines before) items)
unfolding cut
no_lines set before items = refl

-- the lines that come first
first_shown : (set : List ℕ) (before : List Item) (run : List ℕ) (items : List Item)
    → (shows set (line_at before []) ≡ true) ⊎ (run ≡ [])
    → shown set (lines_behind before (map Text (cut run).lines ++ items)) ≡ run_lines before (cut run).lines
    ++ shown set (lines_behind (texts_behind (cut run).lines before) items)
first_shown set before run items (inl is) = run_shown set before (cut run).lines items is
first_shown set before run items (inr none) =
    subst (λ bytes. shown set (lines_behind before (map Text (cut bytes).lines ++ items)) ≡ run_lines before
    (cut bytes).lines ++ shown set (lines_behind (texts_behind (cut bytes).lines before) items)) (sym none)
    (no_lines set before items)

pub kept_or_none : (r : VersionPlace) (count : ℕ) (before : List Item)
    → ((set : List ℕ) (before : List Item) (text : List ℕ) → Holds set before r.regions
    → shows set (line_at before text) ≡ true) ⊎ (count ≡ 0) → Holds r.set before r.regions
    → (shows r.set (line_at before []) ≡ true) ⊎ (bytes_held r count ≡ [])
kept_or_none r count before (inl kept) holds = inl (kept r.set before [] holds)
kept_or_none r count before (inr none) holds = inr (nothing_at_hand r.items count none)

-- a run, and what comes behind it
stand_first : (file : List ℕ) (r : VersionPlace) (run : List ℕ) (lines : List HistoryLine) → (p : Coming file r lines)
    → (items : List Item) → p.rest ≡ map Text (cut run).lines ++ items → (shows r.set (line_at p.before []) ≡ true)
    ⊎ (run ≡ []) → (cut run).tail ≡ []
    → StandFirst r run lines
stand_first file r run lines p items is kept whole = record {
  first = run_lines p.before (cut run).lines;
  rest = shown r.set (lines_behind (texts_behind (cut run).lines p.before) items);
  whole = p.lines_are ∙ (ap (λ rest. shown r.set (lines_behind p.before rest)) is
      ∙ first_shown r.set p.before run items kept);
  text_is = run_bytes run whole ∙ run_text p.before (cut run).lines;
  lines_are = run_texts p.before (cut run).lines;
  inserted = λ n at. run_inserted p.before (cut run).lines n (sym (at p.before p.holds.opens));
}

pub lines_passed : (file : List ℕ) (r r2 : VersionPlace) (count : ℕ) (lines : List HistoryLine) → AreShown r count
    → Passed (bytes_held r count) r r2 → Coming file r lines → ComeFirst file r r2 (bytes_held r count) lines
unfolding stand_first passed_on
lines_passed file r r2 count lines are passed p =
    let run = bytes_held r count in
    let on = passed_on file r r2 run lines p passed in
    record {
      stand = stand_first file r run lines p on.0 on.1 (kept_or_none r count p.before are.kept p.holds)
          are.may.run.0;
      on = on.2;
    }

-- the same, as the code goes over lines that aren't shown
pub hidden_run : (file : List ℕ) (r r2 : VersionPlace) (text : List ℕ) (lines : List HistoryLine) (kept : Bool)
    → bytes_held r (length text) ≡ text → Passed (bytes_held r (length text)) r r2
    → ((set : List ℕ) (before : List Item) (line : List ℕ) → Holds set before r.regions
    → kept ≡ shows set (line_at before line)) → kept ≡ false → Coming file r lines → Coming file r2 lines
hidden_run file r r2 text lines kept front passed keep none p =
    hidden_passed file r r2 text lines kept (subst (λ run. Passed run r r2) front passed) keep none p

pub none_shown : (r : VersionPlace) → AreShown r 0
none_shown r = record { may = nothing_may_pass r.items; kept = inr refl }

-- ---- the lines at hand, before they are passed over

-- what a reader of items says of the lines at hand
abbrev pub ComeAtHand : List ℕ → ItemPlace → List ℕ → Type 0
ComeAtHand file r text = (live : List ℕ) (before : List Item) (found : Result (List Item) ℕ)
    → ToCome file live before found r → (rest : Result (List Item) ℕ) × (found ≡ onto (map Text (cut text).lines) rest)

pub comes_first : (file : List ℕ) (r : VersionPlace) (text : List ℕ) (lines : List HistoryLine)
    → AreShown r (length text) → bytes_held r (length text) ≡ text → ComeAtHand file r.items text → Coming file r lines
    → StandFirst r text lines
comes_first file r text lines are is first p =
    let come = first p.live p.before (Ok p.rest) p.comes in
    let split = onto_read (map Text (cut text).lines) come.0 p.rest (sym come.1) in
    stand_first file r text lines p split.0 split.2 (subst (λ t. (shows r.set (line_at p.before []) ≡ true) ⊎ (t ≡ []))
    is (kept_or_none r (length text) p.before are.kept p.holds)) (subst (λ t. (cut t).tail ≡ []) is are.may.run.0)

pub no_tail : (cut []).tail ≡ []
unfolding cut
no_tail = refl

pub none_first : (r : VersionPlace) (lines : List HistoryLine) → StandFirst r [] lines
unfolding cut
none_first r lines = record {
  first = [];
  rest = lines;
  whole = refl;
  text_is = refl;
  lines_are = refl;
  inserted =
      λ n is. tt;
}

-- ---- the text of all lines
