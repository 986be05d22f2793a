-- Lines of a base that go by.
use Rattle.std.proofs.Common.{◌≡◌, ℕ, suc, ◌+◌, ◌-◌, ◌≤◌, Bool, true, false, List, [], ◌∷◌, ◌++◌, length, drop, Option}
use Rattle.std.proofs.Common.{None, Some, Result, Ok, Err, refl, sym, ap, subst, ◌∙◌, arith, append_assoc, append-nil}
use Rattle.std.proofs.Common.{length-drop}
use Rattle.std.specs.Prelude.{if◌then◌else◌, ◌&&◌, ◌||◌}
use Rattle.std.specs.List.{list_any}
use Rattle.sccs_base.specs.Cut.{cut, text_of, closed}
use Rattle.sccs_sid.specs.Reading.{◌>>=◌}
use Rattle.sccs_grammar.specs.declared.faults.FileFault.{FileFault}
use Rattle.sccs_grammar.specs.declared.faults.FileFault.TheVariants as faults
use Rattle.sccs_tokens.specs.Items.{go_on, item_at, items_from}
use Rattle.sccs_history.specs.Numbers.{front_if, is_empty}
use Rattle.sccs_history.specs.Body.{HistoryLine, is_over, line_at, lines_behind, lines_of}
use Rattle.sccs_history.specs.Select.{select, shows}
use Rattle.sccs_history.specs.declared.headers.Item.{Item}
use Rattle.sccs_history.specs.declared.headers.Item.TheVariants as items
use Rattle.sccs_script_laws.specs.declared.scripts.Plan.{Plan}
use Rattle.sccs_splicer.specs.PlanPlaces.{Passed}
use Rattle.sccs_table.proofs.RunLaws.{lines_bound}
use Rattle.sccs_versions.specs.Coming.{Coming, ComesNext, GivesNextLine, IsBody, shown}
use Rattle.sccs_versions.specs.Place.{VersionPlace}
use Rattle.sccs_copies.specs.Copies.{IsFaultAroundCopy}
use Rattle.sccs_script_laws.specs.Plans.{added_after}
use Rattle.sccs_copies.specs.Examining.{ExaminesSome, ExaminesWhole, FindsResult, GComes, IsBefore, LinesLeft}
use Rattle.sccs_copies.specs.Examining.{SeesLines, difference, first_difference, has_keyword, line_result, result_from}
use Rattle.sccs_copies.specs.Examining.{result_of, line_texts}
use Rattle.sccs_copies.specs.declared.examining.Found.{Found}
use Rattle.sccs_copies.specs.declared.result_checks.ResultCheck.{ResultCheck}
use Rattle.sccs_copies.proofs.CheckLaws.{sees_both, sees_none}

-- ---- the result, part by part

result_both : (p : Plan) (k : ℕ) (xs ys : List HistoryLine) → result_from p k (line_texts (xs ++ ys)) ≡ result_from p k
    (line_texts xs) ++ result_from p (k + length xs) (line_texts ys)
result_both p k [] ys = ap (λ n. result_from p n (line_texts ys)) (add_none k)
  where
    add_none : (n : ℕ) → n ≡ n + 0
    add_none n = omega arith
result_both p k (x ∷ xs) ys =
    ap (λ l. line_result p (suc k) x.text ++ l) (result_both p (suc k) xs ys)
    ∙ (sym (append_assoc (line_result p (suc k) x.text) (result_from p (suc k) (line_texts xs))
    (result_from p (suc k + length xs) (line_texts ys)))
    ∙ ap (λ n. (line_result p (suc k) x.text ++ result_from p (suc k) (line_texts xs)) ++ result_from p n
    (line_texts ys)) (one_on k (length xs)))
  where
    one_on : (n m : ℕ) → suc n + m ≡ n + suc m
    one_on n m = omega arith

-- ---- a reading

pub examines_none : (file : List ℕ) (r : VersionPlace) (g : Option (List ℕ)) (lines : List HistoryLine) (at : Passed)
    (s : ResultCheck) → Coming file r lines → ExaminesSome file r g lines at at s s
examines_none file r g lines at s coming = record {
  first = [];
  rest = lines;
  whole = refl;
  sees = sees_none g s;
  line =
      omega arith;
  on = coming;
}

pub examines_both : (file : List ℕ) (r r2 : VersionPlace) (g : Option (List ℕ)) (lines : List HistoryLine)
    (at at1 at2 : Passed) (s s1 s2 : ResultCheck) → at1.plan ≡ at.plan → (p : ExaminesSome file r g lines at at1 s s1)
    → ExaminesSome file r2 g p.rest at1 at2 s1 s2 → ExaminesSome file r2 g lines at at2 s s2
examines_both file r r2 g lines at at1 at2 s s1 s2 plan p q = record {
  first = p.first ++ q.first;
  rest = q.rest;
  whole = p.whole ∙ (ap (λ rest. p.first ++ rest) q.whole ∙ sym (append_assoc p.first q.first q.rest));
  sees = subst (λ l. SeesLines g l s s2) (sym (result_both at.plan at.line p.first q.first))
      (sees_both g (result_from at.plan at.line (line_texts p.first)) (result_from at.plan (at.line + length p.first)
      (line_texts q.first)) s s1 s2 p.sees
      (subst (λ n. SeesLines g (result_from at.plan n (line_texts q.first)) s1 s2) p.line
      (subst (λ (o : Plan). SeesLines g (result_from o at1.line (line_texts q.first)) s1 s2) plan q.sees)));
  line = omega (arith, p.line, q.line, both_long p.first q.first);
  on = q.on;
}
  where
    both_long : (xs ys : List HistoryLine) → length (xs ++ ys) ≡ length xs + length ys
    both_long [] ys = omega arith
    both_long (x ∷ xs) ys = omega (arith, both_long xs ys)

pub examines_end : (file : List ℕ) (r : VersionPlace) (g : Option (List ℕ)) (lines : List HistoryLine)
    (at at1 at2 : Passed) (s s1 s2 : ResultCheck) → at1.plan ≡ at.plan → (p : ExaminesSome file r g lines at at1 s s1)
    → ExaminesWhole g p.rest at1 at2 s1 s2 → ExaminesWhole g lines at at2 s s2
examines_end file r g lines at at1 at2 s s1 s2 plan p q = record {
  sees = subst (λ (l : List HistoryLine). SeesLines g (result_from at.plan at.line (line_texts l)) s s2) (sym p.whole)
      (subst (λ l. SeesLines g l s s2) (sym (result_both at.plan at.line p.first p.rest))
      (sees_both g (result_from at.plan at.line (line_texts p.first)) (result_from at.plan (at.line + length p.first)
      (line_texts p.rest)) s s1 s2 p.sees
      (subst (λ n. SeesLines g (result_from at.plan n (line_texts p.rest)) s1 s2) p.line
      (subst (λ (o : Plan). SeesLines g (result_from o at1.line (line_texts p.rest)) s1 s2) plan q.sees))));
  line = let long : length lines ≡ length p.first + length p.rest = ap length p.whole ∙ both_long p.first p.rest in
      omega (arith, p.line, q.line, long);
}
  where
    both_long : (xs ys : List HistoryLine) → length (xs ++ ys) ≡ length xs + length ys
    both_long [] ys = omega arith
    both_long (x ∷ xs) ys = omega (arith, both_long xs ys)

-- the next line
pub line_examined : (file : List ℕ) (r : VersionPlace) (g : Option (List ℕ)) (text : List ℕ) (lines : List HistoryLine)
    (at at2 : Passed) (s s2 : ResultCheck) → ComesNext file r text lines → at2.line ≡ suc at.line
    → SeesLines g (line_result at.plan (suc at.line) text) s s2 → ExaminesSome file r g lines at at2 s s2
line_examined file r g text lines at at2 s s2 next line sees = record {
  first = next.line ∷ [];
  rest = next.rest;
  whole = next.whole;
  sees = subst (λ l. SeesLines g l s s2) (ap (line_result at.plan (suc at.line)) (sym next.text_is)
      ∙ sym (append-nil (line_result at.plan (suc at.line) next.line.text))) sees;
  line = omega (arith, line);
  on = next.on;
}

-- no line is past the limit
pub not_past : (file : List ℕ) (r : VersionPlace) (text : List ℕ) (lines : List HistoryLine) (line limit : ℕ)
    → ComesNext file r text lines → line ≡ limit → line + length lines ≤ limit → ⊥
not_past file r text lines line limit next is few = let long : length lines ≡ suc (length next.rest) =
    ap length next.whole in omega (arith, is, few, long)

pub all_examined : (g : Option (List ℕ)) (lines : List HistoryLine) (at : Passed) (s : ResultCheck) → lines ≡ []
    → ExaminesWhole g lines at at s s
all_examined g lines at s none = record {
  sees = subst (λ (l : List HistoryLine). SeesLines g (result_from at.plan at.line (line_texts l)) s s) (sym none)
      (sees_none g s);
  line = let long : length lines ≡ 0 = ap length none in omega (arith, long);
}

pub next_outer : (file : List ℕ) (r : VersionPlace) (lines : List HistoryLine) (fault : FileFault)
    → GivesNextLine file r lines (Err fault) → IsFaultAroundCopy fault
next_outer file r lines faults.Failed given = tt
next_outer file r lines faults.Memory given = tt
next_outer file r lines (faults.BadFormat line) given = given
next_outer file r lines faults.Missing given = given
next_outer file r lines faults.TooLong given = given
next_outer file r lines faults.NotSccs given = given
next_outer file r lines (faults.BadSum stored sum) given = given
next_outer file r lines faults.Encoded given = given
next_outer file r lines (faults.Changed a b c d) given = given

-- ---- how many lines there are

pub shown_texts : (set : List ℕ) (lines : List HistoryLine) → line_texts (shown set lines) ≡ select set lines
shown_texts set [] = refl
shown_texts set (line ∷ lines) = one (shows set line) (shown_texts set lines)
  where
    one : (t : Bool) → line_texts (shown set lines) ≡ select set lines → line_texts (front_if t line (shown set lines))
        ≡ front_if t line.text (select set lines)
    one true same = ap (λ l. line.text ∷ l) same
    one false same = same

pub texts_long : (lines : List HistoryLine) → length (line_texts lines) ≡ length lines
texts_long [] = refl
texts_long (line ∷ lines) = ap suc (texts_long lines)

shown_few : (set : List ℕ) (before list : List Item) → length (shown set (lines_behind before list)) ≤ length list
shown_few set before [] = omega arith
shown_few set before (items.Text text ∷ list) = one (shows set (line_at before text))
    (shown_few set (items.Text text ∷ before) list)
  where
    one : (t : Bool) → length (shown set (lines_behind (items.Text text ∷ before) list)) ≤ length list
        → length (front_if t (line_at before text) (shown set (lines_behind (items.Text text ∷ before) list))) ≤ suc
        (length list)
    one true few = omega (arith, few)
    one false few = omega (arith, few)
shown_few set before (items.Insert n ∷ list) = omega (arith, shown_few set (items.Insert n ∷ before) list)
shown_few set before (items.Delete n ∷ list) = omega (arith, shown_few set (items.Delete n ∷ before) list)
shown_few set before (items.End n ∷ list) = omega (arith, shown_few set (items.End n ∷ before) list)

over_none : (over empty : Bool) (n : ℕ) (list : List Item) → (if over && empty then Ok [] else Err n) ≡ Ok list
    → list ≡ []
over_none true true n list is = cc
over_none true false n list is = absurd cc
over_none false empty n list is = absurd cc

none_read : (live : List ℕ) (n : ℕ) (before : List Item) (tail : List ℕ) (list : List Item)
    → items_from live n before [] tail ≡ Ok list → list ≡ []
unfolding items_from
none_read live n before tail list is = over_none (is_over before) (is_empty tail) n list is

read_more : (read : Result (List Item) ℕ) (item : Item) (list : List Item) → (read >>= λ rest. Ok (item ∷ rest))
    ≡ Ok list → (rest : List Item) × (read ≡ Ok rest) × (list ≡ item ∷ rest)
read_more (Ok rest) item list is = (rest, refl, cc)
read_more (Err k) item list is = absurd cc

went_on : (n : ℕ) (found : Option Item) (next : Item → Result (List Item) ℕ) (list : List Item)
    → go_on n found next ≡ Ok list → (item : Item) × ((rest : List Item) × (next item ≡ Ok rest) × (list ≡ item ∷ rest))
went_on n None next list is = absurd cc
went_on n (Some item) next list is = (item, read_more (next item) item list is)

one_read : (live : List ℕ) (n : ℕ) (before : List Item) (line : List ℕ) (lines : List (List ℕ)) (tail : List ℕ)
    (list : List Item) → items_from live n before (line ∷ lines) tail ≡ Ok list
    → (item : Item) × ((rest : List Item) × (items_from live (suc n) (item ∷ before) lines tail ≡ Ok rest)
    × (list ≡ item ∷ rest))
unfolding items_from
one_read live n before line lines tail list is = went_on n (item_at live before line) (λ item. items_from live (suc n)
    (item ∷ before) lines tail) list is

items_few : (live : List ℕ) (n : ℕ) (before : List Item) (lines : List (List ℕ)) (tail : List ℕ) (list : List Item)
    → items_from live n before lines tail ≡ Ok list → length list ≤ length lines
items_few live n before [] tail list is = let none : length list ≡ 0 =
    ap length (none_read live n before tail list is) in omega (arith, none)
items_few live n before (line ∷ lines) tail list is =
    let one = one_read live n before line lines tail list is in
    let few : length one.1.0 ≤ length lines = items_few live (suc n) (one.0 ∷ before) lines tail one.1.0 one.1.1 in
    let long : length list ≡ suc (length one.1.0) = ap length one.1.2 in
    omega (arith, few, long)

-- no body has more lines than bytes
pub body_short : (told : Option (List ℕ)) (front : _) (set file : List ℕ) (list : List Item)
    → IsBody told front set file list → length (shown set (lines_of list)) ≤ front.size - front.body_from
body_short told front set file list is =
    let few : length list ≤ length (cut (drop front.body_from file)).lines = items_few _ front.body_line []
    (cut (drop front.body_from file)).lines (cut (drop front.body_from file)).tail list is.items_are in
    let bound : length (cut (drop front.body_from file)).lines ≤ length (drop front.body_from file) =
    lines_bound (drop front.body_from file) in
    omega (arith, shown_few set [] list, few, bound, length-drop front.body_from file, is.front_is.size)

-- no file of at most so many bytes has more lines
pub body_few : (told : Option (List ℕ)) (front : _) (set file : List ℕ) (list : List Item)
    → IsBody told front set file list → length (shown set (lines_of list)) ≤ 1073741824
body_few told front set file list is = omega (arith, body_short told front set file list is, is.front_is.placed.limit)

-- those that are to come are no more than were left
pub examines_few : (file : List ℕ) (r : VersionPlace) (g : Option (List ℕ)) (lines : List HistoryLine) (at at1 : Passed)
    (s s1 : ResultCheck) (limit : ℕ) → (p : ExaminesSome file r g lines at at1 s s1) → at.line + length lines ≤ limit
    → at1.line + length p.rest ≤ limit
examines_few file r g lines at at1 s s1 limit p few = let long : length lines ≡ length p.first + length p.rest =
    ap length p.whole ∙ both_long p.first p.rest in omega (arith, p.line, few, long)
  where
    both_long : (xs ys : List HistoryLine) → length (xs ++ ys) ≡ length xs + length ys
    both_long [] ys = omega arith
    both_long (x ∷ xs) ys = omega (arith, both_long xs ys)

-- ---- what is found

text_few : (bytes : List ℕ) → length (text_of bytes) ≤ suc (length bytes)
text_few bytes = let low : length (cut bytes).lines ≤ length bytes = lines_bound bytes in
    omega (arith, low, closed_few (cut bytes).lines (cut bytes).tail)
  where
    one_more : (lines : List (List ℕ)) (line : List ℕ) → length (lines ++ line ∷ []) ≡ suc (length lines)
    one_more [] line = refl
    one_more (l ∷ lines) line = ap suc (one_more lines line)

    closed_few : (lines : List (List ℕ)) (tail : List ℕ) → length (closed lines tail) ≤ suc (length lines)
    closed_few lines [] = omega arith
    closed_few lines (b ∷ tail) = omega (arith, one_more lines (b ∷ tail))

pub g_begins : (file name : List ℕ) (s : ResultCheck)
    → s.lines ≡ record { name = name; held = []; place = 0; limit = 1073741825; sum = 0 } → s.over ≡ false
    → s.number ≡ 0 → length file ≤ 1073741824 → GComes file s (text_of file)
g_begins file name s lines over number few = record {
  left = subst (λ t. LinesLeft file s (text_of file) t) (sym over) (subst (λ r. LinesLeft file (record s { lines = r })
      (text_of file) false) (sym lines) (
        record {
          limit = omega (arith, few);
          within = omega arith;
          held = refl;
          sum =
              refl;
        },
        refl,
      ));
  few = omega (arith, number, text_few file, few);
}

pub found_result : (g : Option (List ℕ)) (set name : List ℕ) (all : List HistoryLine) (compares : Bool)
    (at at2 : Passed) (s s1 s2 : ResultCheck) (new : List (List ℕ)) (found : Found)
    → at.line ≡ 0 → new ≡ added_after at.line at.plan.added → IsBefore name compares s
    → SeesLines g new s s1 → ExaminesWhole g (shown set all) at at2 s1 s2 → found.lines ≡ at2.line
    → found.keyword ≡ s2.keyword
    → ((file : List ℕ) (rest : List (List ℕ)) → g ≡ Some file → compares ≡ true → GComes file s2 rest
    → found.differs ≡ difference s2.differs s2.number [] rest)
    → FindsResult g at.plan (select set all) compares found
found_result g set name all compares at at2 s s1 s2 new found begins new_is before first whole lines_is keyword_is
    differs_is =
    let base : line_texts (shown set all) ≡ select set all = shown_texts set all in
    let result_is : new ++ result_from at.plan at.line (line_texts (shown set all)) ≡ result_of at.plan
    (select set all) =
    ap (λ l. l ++ result_from at.plan at.line (line_texts (shown set all))) new_is
    ∙ (ap (λ n. added_after n at.plan.added ++ result_from at.plan n (line_texts (shown set all))) begins
    ∙ ap (λ l. added_after 0 at.plan.added ++ result_from at.plan 0 l) base) in
    let all_seen : SeesLines g (result_of at.plan (select set all)) s s2 =
    subst (λ l. SeesLines g l s s2) result_is
    (sees_both g new (result_from at.plan at.line (line_texts (shown set all))) s s1 s2 first whole.sees) in
    let long : length (select set all) ≡ length (shown set all) = ap length (sym base) ∙ texts_long (shown set all) in
    record {
      lines = omega (arith, lines_is, whole.line, begins, long);
      keyword = keyword_is ∙ (all_seen.keyword
          ∙ ap (λ t. t || list_any has_keyword (result_of at.plan (select set all))) before.keyword);
      differs = λ file is few compare.
          let one = all_seen.compared file (text_of file) is (before.compares ∙ compare)
          (g_begins file name s before.lines before.over before.number few) in
          differs_is file one.left is compare one.comes
          ∙ (one.same []
          ∙ (ap (λ o. difference o s.number (result_of at.plan (select set all) ++ []) (text_of file)) before.differs
          ∙ (ap (λ n. first_difference n (result_of at.plan (select set all) ++ []) (text_of file)) before.number
          ∙ ap (λ l. first_difference 0 l (text_of file)) (append-nil (result_of at.plan (select set all))))));
    }
