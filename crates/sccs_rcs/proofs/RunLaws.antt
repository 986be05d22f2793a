-- The items of runs, run by run, and their bytes.
use Rattle.std.proofs.Common.{◌≡◌, ℕ, zero, suc, ◌==◌, Bool, true, false, not, ◌&&◌, cond, List, [], ◌∷◌, ◌++◌, map}
use Rattle.std.proofs.Common.{length, refl, sym, ap, ◌∙◌, append_assoc, append-nil, eq-eqb, arith}
use Rattle.std.proofs.lemmas.Bool.{ne_eqb}
use Rattle.sccs_history.specs.Body.{HistoryLine}
use Rattle.sccs_history.specs.Numbers.{first, front_if}
use Rattle.sccs_history.specs.declared.headers.Item.{Item}
use Rattle.sccs_history.specs.declared.headers.Item.TheVariants.{Text, End}
use Rattle.sccs_tokens.specs.Written.{bytes_of, ended, item_line}
use Rattle.sccs_new_files.specs.Writing.{body_bytes}
use Rattle.sccs_trunks.specs.TrunkItems.{between, closes, items_behind, opens}
use Rattle.sccs_trunks.specs.Trunks.{is_zero}
use Rattle.sccs_rcs.specs.RunItems.{behind_lines, between_regions, is_same, region_items, region_behind, region_of}
use Rattle.sccs_rcs.specs.RunItems.{run_items}
use Rattle.sccs_trunks.specs.Cells.{deleters_by, line_by}
use Rattle.sccs_trunks.specs.Runs.{run_lines}
use Rattle.sccs_rcs.specs.declared.bodies.Region.{Region}
use Rattle.sccs_trunks.specs.declared.runs.LineRun.{LineRun}

-- ---- bytes

-- the bytes of items that follow others
pub bytes_both : (xs ys : List Item) → body_bytes xs ++ body_bytes ys ≡ body_bytes (xs ++ ys)
bytes_both [] ys = refl
bytes_both (x ∷ xs) ys = append_assoc (ended (item_line x)) (body_bytes xs) (body_bytes ys)
    ∙ ap (λ rest. ended (item_line x) ++ rest) (bytes_both xs ys)

-- those of lines
pub bytes_of_texts : (lines : List (List ℕ)) → bytes_of lines ≡ body_bytes (map Text lines)
bytes_of_texts [] = refl
bytes_of_texts (line ∷ lines) = ap (λ rest. ended line ++ rest) (bytes_of_texts lines)

-- those of one item
pub bytes_of_one : (item : Item) → ended (item_line item) ≡ body_bytes (item ∷ [])
bytes_of_one item = sym (append-nil (ended (item_line item)))

-- ---- a run

deleter_is : (d : ℕ) → first (deleters_by d) ≡ d
deleter_is zero = refl
deleter_is (suc d) = refl

-- a line behind one of another region
between_is : (last next : Region) (text : List ℕ) → between last.inserter last.deleter
    (line_by next.inserter next.deleter text) ≡ between_regions last next
between_is last next text =
    ap (λ d. cond (next.inserter == last.inserter && d == last.deleter) [] (closes last.inserter last.deleter
    ++ opens next.inserter d)) (deleter_is next.deleter)

-- nothing stands between lines of one region
between_none : (region : Region) → between_regions region region ≡ []
between_none region =
    ap (λ t. cond (t && region.deleter == region.deleter) [] (closes region.inserter region.deleter
    ++ opens region.inserter region.deleter)) (eq-eqb region.inserter region.inserter refl)
    ∙ ap (λ t. cond t [] (closes region.inserter region.deleter ++ opens region.inserter region.deleter))
    (eq-eqb region.deleter region.deleter refl)

first_line : (last next : Region) (line : List ℕ) (rest : List HistoryLine) → items_behind last.inserter last.deleter
    (line_by next.inserter next.deleter line ∷ rest) ≡ between_regions last next
    ++ (Text line ∷ items_behind next.inserter next.deleter rest)
first_line last next line rest =
    ap (λ front. front ++ (Text line ∷ items_behind next.inserter (first (deleters_by next.deleter)) rest))
    (between_is last next line)
    ∙ ap (λ d. between_regions last next ++ (Text line ∷ items_behind next.inserter d rest)) (deleter_is next.deleter)

-- lines that go on with a region
more_lines : (region : Region) (lines : List (List ℕ)) (rest : List HistoryLine)
    → items_behind region.inserter region.deleter (map (line_by region.inserter region.deleter) lines ++ rest)
    ≡ map Text lines ++ items_behind region.inserter region.deleter rest
more_lines region [] rest = refl
more_lines region (line ∷ lines) rest =
    first_line region region line (map (line_by region.inserter region.deleter) lines ++ rest)
    ∙ (ap (λ front. front ++ (Text line ∷ items_behind region.inserter region.deleter
    (map (line_by region.inserter region.deleter) lines ++ rest))) (between_none region)
    ∙ ap (λ items. Text line ∷ items) (more_lines region lines rest))

lines_first : (last next : Region) (lines : List (List ℕ)) (rest : List HistoryLine) → region_items last next lines
    ++ items_behind (behind_lines last next lines).inserter (behind_lines last next lines).deleter rest
    ≡ items_behind last.inserter last.deleter (map (line_by next.inserter next.deleter) lines ++ rest)
lines_first last next [] rest = refl
lines_first last next (line ∷ lines) rest =
    append_assoc (between_regions last next) (map Text (line ∷ lines)) (items_behind next.inserter next.deleter rest)
    ∙ (ap (λ items. between_regions last next ++ (Text line ∷ items)) (sym (more_lines next lines rest))
    ∙ sym (first_line last next line (map (line_by next.inserter next.deleter) lines ++ rest)))

-- the items of runs begin with those of the first run
pub run_first : (last : Region) (run : LineRun) (runs : List LineRun) → run_items last run ++ items_behind
    (region_behind last run).inserter (region_behind last run).deleter (run_lines runs)
    ≡ items_behind last.inserter last.deleter (run_lines (run ∷ runs))
run_first last run runs = lines_first last (region_of run) run.lines.now (run_lines runs)

-- ---- what stands between two lines

-- no deleter is neither begun nor ended
pub none_put : (item : Item) (d : ℕ) → d ≡ 0 → [] ≡ body_bytes (front_if (not (is_zero d)) item [])
none_put item zero is = refl
none_put item (suc d) is = absurd (cc)

-- before the first line nothing is open
pub none_closed : (a d : ℕ) → a ≡ 0 → [] ≡ body_bytes (closes a d)
none_closed zero d is = refl
none_closed (suc a) d is = absurd (cc)

one_front : (t : Bool) (x y : Item) → front_if t x [] ++ (y ∷ []) ≡ front_if t x (y ∷ [])
one_front true x y = refl
one_front false x y = refl

-- a region is closed, the deletion first
pub both_closed : (a d : ℕ) → (a ≡ 0 → ⊥) → body_bytes (front_if (not (is_zero d)) (End d) []) ++ ended
    (item_line (End a)) ≡ body_bytes (closes a d)
both_closed zero d some = absurd (some refl)
both_closed (suc a) d some =
    ap (λ last. body_bytes (front_if (not (is_zero d)) (End d) []) ++ last) (bytes_of_one (End (suc a)))
    ∙ (bytes_both (front_if (not (is_zero d)) (End d) []) (End (suc a) ∷ [])
    ∙ ap body_bytes (one_front (not (is_zero d)) (End d) (End (suc a))))

pub same_between : (last next : Region) → true ≡ is_same last next → [] ≡ body_bytes (between_regions last next)
same_between last next is =
    ap (λ t. body_bytes (cond t [] (closes last.inserter last.deleter ++ opens next.inserter next.deleter))) is

pub other_between : (last next : Region) → false ≡ is_same last next → body_bytes (closes last.inserter last.deleter)
    ++ body_bytes (opens next.inserter next.deleter) ≡ body_bytes (between_regions last next)
other_between last next is =
    bytes_both (closes last.inserter last.deleter) (opens next.inserter next.deleter)
    ∙ ap (λ t. body_bytes (cond t [] (closes last.inserter last.deleter ++ opens next.inserter next.deleter))) is

-- ---- a run that is put

filled : (n : ℕ) → true ≡ (suc n == 0) → ⊥
filled n none = let other : (suc n == 0) ≡ false = ne_eqb (suc n) 0 (λ e. omega (arith, e)) in cc

pub no_lines : (last next : Region) (lines : List (List ℕ)) → true ≡ (length lines == 0)
    → [] ≡ body_bytes (region_items last next lines)
no_lines last next [] none = refl
no_lines last next (line ∷ lines) none = absurd (filled (length lines) none)

some_lines : (last next : Region) (lines : List (List ℕ)) → false ≡ (length lines == 0)
    → body_bytes (between_regions last next) ++ bytes_of lines ≡ body_bytes (region_items last next lines)
some_lines last next [] some = absurd (cc)
some_lines last next (line ∷ lines) some =
    ap (λ texts. body_bytes (between_regions last next) ++ texts) (bytes_of_texts (line ∷ lines))
    ∙ bytes_both (between_regions last next) (map Text (line ∷ lines))

pub run_put : (last next : Region) (run : LineRun) → next ≡ region_of run → false ≡ (length run.lines.now == 0)
    → body_bytes (between_regions last next) ++ bytes_of run.lines.now ≡ body_bytes (run_items last run)
run_put last next run is some =
    ap (λ (n : Region). body_bytes (between_regions last n) ++ bytes_of run.lines.now) is
    ∙ some_lines last (region_of run) run.lines.now some
