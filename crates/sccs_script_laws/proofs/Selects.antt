-- What sets show of the woven lines.
use Rattle.std.proofs.Common.{◌≡◌, ℕ, ◌<◌, ◌==◌, Bool, true, false, cond, not, ◌&&◌, ◌||◌, List, [], ◌∷◌, ◌++◌, refl}
use Rattle.std.proofs.Common.{sym, ap, ◌∙◌, inl, arith, eq-eqb}
use Rattle.std.specs.List.{AllByRecursion}
use Rattle.std.proofs.Math.Bool.{and-false}
use Rattle.std.proofs.lemmas.Bool.{eqb-true, ne_eqb}
use Rattle.sccs_history.specs.Numbers.{front_if, has, share}
use Rattle.sccs_history.specs.Body.{HistoryLine}
use Rattle.sccs_history.specs.Select.{select, shows}
use Rattle.sccs_script_laws.specs.Scripts.{apply}
use Rattle.sccs_script_laws.specs.Weave.{AreBelow, IsBelow, gone, marked, new_line, weave}
use Rattle.sccs_script_laws.specs.declared.scripts.Order.{Order}
use Rattle.sccs_script_laws.proofs.Runs.{Alike, flat, flat_one, flat-run, kept-run}

-- what a set shows of one line
abbrev pub texts_of : List ℕ → HistoryLine → List (List ℕ)
texts_of set line = front_if (shows set line) line.text []

front_flat : (t : Bool) (text : List ℕ) (rest : List (List ℕ)) → front_if t text rest ≡ front_if t text [] ++ rest
front_flat true text rest = refl
front_flat false text rest = refl

pub select_flat : (set : List ℕ) (lines : List HistoryLine) → select set lines ≡ flat (texts_of set) lines
select_flat set [] = refl
select_flat set (line ∷ lines) =
    front_flat (shows set line) line.text (select set lines) ∙ ap (λ l. texts_of set line ++ l) (select_flat set lines)

-- the serial itself is in the set with it
own : (n : ℕ) (set : List ℕ) → has (n ∷ set) n ≡ true
own n set = ap (λ t. t || has set n) (eq-eqb n n refl)

pub shows_new : (n : ℕ) (set text : List ℕ) → shows (n ∷ set) (new_line n text) ≡ true
shows_new n set text = ap (λ t. t && true) (own n set)

-- a line that the serial deleted isn't shown
pub hides_marked : (n : ℕ) (set : List ℕ) (line : HistoryLine) → shows (n ∷ set) (marked n line) ≡ false
hides_marked n set line =
    ap (λ t. has (n ∷ set) line.inserter && not (t || share line.deleters (n ∷ set))) (own n set)
    ∙ and-false (has (n ∷ set) line.inserter)

gone_shows : (n : ℕ) (set : List ℕ) (line : HistoryLine) → flat (texts_of (n ∷ set)) (gone n line) ≡ []
gone_shows n set line = cases (line.inserter == n)
  where
    cases : (t : Bool) → flat (texts_of (n ∷ set)) (cond t [] (marked n line ∷ [])) ≡ []
    cases true = refl
    cases false = ap (λ t. front_if t line.text [] ++ []) (hides_marked n set line)

pub alike_texts : (n : ℕ) (set : List ℕ) → Alike (shows (n ∷ set)) (gone n) (new_line n) (λ _. true) (λ _. [])
    (λ line. line) (texts_of (n ∷ set))
alike_texts n set = record {
  shown = λ line sees. record {
    gives = line.text;
    is = ap (λ t. front_if t line.text []) sees;
    there = refl;
    away = gone_shows n set line;
  };
  hidden = λ line sees. inl (ap (λ t. front_if t line.text []) sees);
  new = λ text. ap (λ t. front_if t text []) (shows_new n set text);
}

-- what the set with the serial shows of the woven lines is the script on what it shows of the old ones
pub select_run : (n : ℕ) (set : List ℕ) (orders : List Order) (lines : List HistoryLine)
    → select (n ∷ set) (weave set n orders lines) ≡ apply orders (select (n ∷ set) lines)
select_run n set orders lines =
    select_flat (n ∷ set) (weave set n orders lines)
    ∙ (flat-run (shows (n ∷ set)) (gone n) (new_line n) (λ _. true) (λ _. []) (λ line. line) (texts_of (n ∷ set))
    (alike_texts n set) orders lines
    ∙ ap (λ text. apply orders text) (sym (select_flat (n ∷ set) lines)))

-- a serial above those of a line shows no more of it
has_below : (n m : ℕ) (set : List ℕ) → m < n → has (n ∷ set) m ≡ has set m
has_below n m set lt = ap (λ t. t || has set m) (ne_eqb n m (λ e. omega arith))

share_below : (n : ℕ) (ds set : List ℕ) → AllByRecursion (λ d. d < n) ds → share ds (n ∷ set) ≡ share ds set
share_below n [] set below = refl
share_below n (d ∷ ds) set below = ap (λ t. t || share ds (n ∷ set)) (has_below n d set below.0)
    ∙ ap (λ t. has set d || t) (share_below n ds set below.1)

pub shows_below : (n : ℕ) (set : List ℕ) (line : HistoryLine) → IsBelow n line → shows (n ∷ set) line ≡ shows set line
shows_below n set line below =
    ap (λ t. t && not (share line.deleters (n ∷ set))) (has_below n line.inserter set below.inserter)
    ∙ ap (λ t. has set line.inserter && not t) (share_below n line.deleters set below.deleters)

pub select_below : (n : ℕ) (set : List ℕ) (lines : List HistoryLine) → AreBelow n lines
    → select (n ∷ set) lines ≡ select set lines
select_below n set [] below = refl
select_below n set (line ∷ lines) below =
    ap (λ t. front_if t line.text (select (n ∷ set) lines)) (shows_below n set line below.0)
    ∙ ap (λ l. front_if (shows set line) line.text l) (select_below n set lines below.1)

pub select_woven : (n : ℕ) (set : List ℕ) (orders : List Order) (lines : List HistoryLine) → AreBelow n lines
    → select (n ∷ set) (weave set n orders lines) ≡ apply orders (select set lines)
select_woven n set orders lines below = select_run n set orders lines ∙ ap (λ text. apply orders text)
    (select_below n set lines below)

-- a set without the serial shows what it showed
other_hides : (n m : ℕ) (other : List ℕ) → has other n ≡ false → (m == n) ≡ true → has other m ≡ false
other_hides n m other none e = ap (λ k. has other k) (eqb-true m n e) ∙ none

away_other : (n : ℕ) (other : List ℕ) (line : HistoryLine) (t : Bool) → has other n ≡ false → (line.inserter == n) ≡ t
    → flat (texts_of other) (cond t [] (marked n line ∷ [])) ≡ texts_of other line
away_other n other line true none e = ap (λ t. front_if (t && not (share line.deleters other)) line.text [])
    (sym (other_hides n line.inserter other none e))
away_other n other line false none e =
    flat_one (texts_of other) (marked n line)
    ∙ ap (λ t. front_if (has other line.inserter && not (t || share line.deleters other)) line.text []) none

pub select_other : (n : ℕ) (other set : List ℕ) (orders : List Order) (lines : List HistoryLine) → has other n ≡ false
    → select other (weave set n orders lines) ≡ select other lines
select_other n other set orders lines none =
    select_flat other (weave set n orders lines)
    ∙ (kept-run (shows (n ∷ set)) (gone n) (new_line n) (texts_of other) (record {
      new = λ text. ap (λ t. front_if (t && true) text []) none;
      away = λ line sees. away_other n other line (line.inserter == n) none refl;
    }) orders lines
    ∙ sym (select_flat other lines))
