-- The cells of a fit script do to lines what its changes do.
use Rattle.std.proofs.Common.{◌≡◌, ℕ, zero, suc, ◌+◌, ◌-◌, ◌≤◌, ◌<◌, nat_le, nat_lt, Bool, true, false, cond, ◌&&◌}
use Rattle.std.proofs.Common.{◌||◌, List, [], ◌∷◌, ◌++◌, length, map, replicate, Option, None, Some, Ok, Err, refl, sym}
use Rattle.std.proofs.Common.{subst, ap, ◌∙◌, arith, eq-eqb}
use Rattle.std.proofs.lemmas.Bool.{and_left, and_parts, and_right, le-leb, le-ltb, leb-true, lt-leb, lt-ltb, ltb-true}
use Rattle.std.proofs.lemmas.Bool.{ne_eqb, or_from, or_left}
use Rattle.sccs_sid.specs.Reading.{only}
use Rattle.sccs_sid.specs.SidLists.{begins}
use Rattle.sccs_history.specs.Numbers.{front_if}
use Rattle.sccs_history.specs.Body.{HistoryLine}
use Rattle.sccs_trunks.specs.Changes.{Change, Strike, Put, added, changes_from, command_of, fit_command, fits, last_of}
use Rattle.sccs_trunks.specs.Changes.{or_at, strikes, taken_by, then_changes, with_command}
use Rattle.sccs_trunks.specs.Trunks.{begun, earlier_line, is_open, turned, turned_from}
use Rattle.sccs_trunks.specs.declared.revisions.ScriptCommand.{ScriptCommand}
use Rattle.sccs_trunks.specs.declared.revisions.ScriptCommand.TheVariants.{Delete, Add}
use Rattle.sccs_trunks.proofs.Behind.{IsBehind, behind_none, behind_put, behind_strike, behind_wider, changes_or}
use Rattle.sccs_trunks.proofs.Behind.{no_fault, within}
use Rattle.sccs_trunks.specs.Cells.{Cell, Base, New, begun_by, laid, laid_at}
use Rattle.sccs_trunks.specs.Scripts.{cells_from, command_cells, script_cells}

-- ---- lines that are passed

-- what comes behind open line k
abbrev pub behind_line : ℕ → List Change → ℕ → List HistoryLine → List HistoryLine
behind_line n changes k lines = map (earlier_line n) (added changes k) ++ turned_from n changes k lines

none_added : (n : ℕ) (changes : List Change) (k : ℕ) (lines : List HistoryLine) → added changes k ≡ []
    → behind_line n changes k lines ≡ turned_from n changes k lines
none_added n changes k lines none = ap (λ texts. map (earlier_line n) texts ++ turned_from n changes k lines) none

begun_same : (n : ℕ) (strike : Bool) (line : HistoryLine) → begun_by (cond strike (suc n) 0) line ≡ begun
    (suc n) strike line
begun_same n true line = refl
begun_same n false line = refl

-- one open line, struck or left, where nothing comes before it
pass_line : (n i : ℕ) (strike : Bool) (changes : List Change) (k : ℕ) (cells : List Cell) (lines : List HistoryLine)
    → i ≡ cond strike (suc n) 0 → strikes changes (suc k) ≡ strike
    → ((rest : List HistoryLine) → laid cells rest ≡ behind_line (suc n) changes (suc k) rest)
    → laid_at i (laid cells) lines ≡ turned_from (suc n) changes k lines
pass_line n i strike changes k cells [] is struck next = refl
pass_line n i strike changes k cells (line ∷ lines) is struck next =
    by_test (is_open line) (pass_line n i strike changes k cells lines is struck next)
  where
    by_test : (t : Bool) → laid_at i (laid cells) lines ≡ turned_from (suc n) changes k lines
        → cond t (begun_by i line ∷ laid cells lines) (line ∷ laid_at i (laid cells) lines)
        ≡ cond t (begun (suc n) (strikes changes (suc k)) line ∷ behind_line (suc n) changes (suc k) lines)
        (line ∷ turned_from (suc n) changes k lines)
    by_test true rest =
        ap (λ j. begun_by j line ∷ laid cells lines) is
        ∙ (ap (λ l. l ∷ laid cells lines) (begun_same n strike line)
        ∙ (ap (λ t. begun (suc n) t line ∷ laid cells lines) (sym struck)
        ∙ ap (λ l. begun (suc n) (strikes changes (suc k)) line ∷ l) (next lines)))
    by_test false rest = ap (λ l. line ∷ l) rest

-- several open lines, all struck or all left
pub pass_lines : (n i : ℕ) (strike : Bool) (changes : List Change) (k count : ℕ) (cells : List Cell)
    → i ≡ cond strike (suc n) 0
    → ((m : ℕ) → k < m → m ≤ k + count → strikes changes m ≡ strike)
    → ((m : ℕ) → k ≤ m → m < k + count → added changes m ≡ [])
    → ((rest : List HistoryLine) → laid cells rest ≡ behind_line (suc n) changes (k + count) rest)
    → (lines : List HistoryLine) → laid (replicate count (Base i) ++ cells) lines ≡ behind_line (suc n) changes k lines
pass_lines n i strike changes k zero cells is struck adds next lines = next lines
    ∙ ap (λ m. behind_line (suc n) changes m lines) same
  where
    same : k + 0 ≡ k
    same = omega arith
pass_lines n i strike changes k (suc count) cells is struck adds next lines =
    pass_line n i strike changes k (replicate count (Base i) ++ cells) lines is (struck (suc k) (omega arith)
    (omega arith)) (λ rest.
    pass_lines n i strike changes (suc k) count cells is (λ m lt le. struck m (omega arith) (omega arith))
    (λ m le lt. adds m (omega arith) (omega arith))
    (λ more. next more ∙ ap (λ m. behind_line (suc n) changes m more) same) rest)
    ∙ sym (none_added (suc n) changes k lines (adds k (omega arith) (omega arith)))
  where
    same : k + suc count ≡ suc k + count
    same = omega arith

-- ---- changes that say the same of what comes behind a line

turned_alike : (n : ℕ) (a b : List Change) (k : ℕ) (lines : List HistoryLine)
    → ((m : ℕ) → k < m → strikes a m ≡ strikes b m) → ((m : ℕ) → k < m → added a m ≡ added b m)
    → turned_from n a k lines ≡ turned_from n b k lines
turned_alike n a b k [] strikes_alike added_alike = refl
turned_alike n a b k (line ∷ lines) strikes_alike added_alike =
    by_test (is_open line) (turned_alike n a b (suc k) lines (λ m lt. strikes_alike m (omega arith))
    (λ m lt. added_alike m (omega arith))) (turned_alike n a b k lines strikes_alike added_alike)
  where
    by_test : (t : Bool) → turned_from n a (suc k) lines ≡ turned_from n b (suc k) lines → turned_from n a k lines
        ≡ turned_from n b k lines
        → cond t (begun n (strikes a (suc k)) line ∷ (map (earlier_line n) (added a (suc k)) ++ turned_from n a
        (suc k) lines)) (line ∷ turned_from n a k lines)
        ≡ cond t (begun n (strikes b (suc k)) line ∷ (map (earlier_line n) (added b (suc k)) ++ turned_from n b
        (suc k) lines)) (line ∷ turned_from n b k lines)
    by_test true next same =
        ap (λ t. begun n t line ∷ (map (earlier_line n) (added a (suc k)) ++ turned_from n a (suc k) lines))
        (strikes_alike (suc k) (omega arith))
        ∙ (ap (λ texts. begun n (strikes b (suc k)) line ∷ (map (earlier_line n) texts ++ turned_from n a
        (suc k) lines)) (added_alike (suc k) (omega arith))
        ∙ ap (λ l. begun n (strikes b (suc k)) line ∷ (map (earlier_line n) (added b (suc k)) ++ l)) next)
    by_test false next same = ap (λ l. line ∷ l) same

-- ---- the lines of a script in turn

-- changes are behind a line, and cells do to lines what they do behind it
record Says (n last : ℕ) (changes : List Change) (cells : List Cell) : Type 0 where
  behind : IsBehind last changes
  cells_say : (lines : List HistoryLine) → laid cells lines ≡ behind_line (suc n) changes last lines

taken_says : (n last : ℕ) (line : List ℕ) (inner : List Change) (cells : List Cell) → Says n last inner cells
    → Says n last (Put last line ∷ inner) (New (suc n) 0 line ∷ cells)
taken_says n last line inner cells says = record {
  behind = behind_put last line inner says.behind;
  cells_say = λ lines.
      ap (λ l. earlier_line (suc n) line ∷ l) (says.cells_say lines)
      ∙ (ap (λ l. earlier_line (suc n) line ∷ (map (earlier_line (suc n)) (added inner last) ++ l))
      (turned_alike (suc n) inner (Put last line ∷ inner) last lines (λ m lt. refl)
      (λ m lt. sym (ap (λ t. front_if t line (added inner m)) (ne_eqb last m (λ e. omega arith)))))
      ∙ sym (ap (λ t. map (earlier_line (suc n)) (front_if t line (added inner last)) ++ turned_from (suc n)
      (Put last line ∷ inner) last lines) (eq-eqb last last refl)));
}

delete_says : (n last line count : ℕ) (inner : List Change) (cells : List Cell) → last < line → 0 < count
    → Says n (line + count - 1) inner cells
    → Says n last (Strike line count ∷ inner) (replicate (line - 1 - last) (Base 0) ++ (replicate count (Base (suc n))
    ++ cells))
delete_says n last line count inner cells low some says = record {
  behind = behind_strike last line count inner low (behind_wider last (line + count - 1) inner
      (omega arith) says.behind);
  cells_say =
      pass_lines n 0 false changes last (line - 1 - last) (replicate count (Base (suc n)) ++ cells) refl
      (λ m lt le. or_from (nat_le line m && nat_lt m (line + count)) (strikes inner m) (and_left (nat_le line m)
      (nat_lt m (line + count)) (lt-leb line m (omega arith))) (says.behind.leaves m (omega arith)))
      (λ m le lt. says.behind.adds m (omega arith))
      (λ rest. pass_lines n (suc n) true changes (last + (line - 1 - last)) count cells refl
      (λ m lt le. or_left (nat_le line m && nat_lt m (line + count)) (strikes inner m)
      (Rattle.std.proofs.lemmas.Bool.and_from (nat_le line m) (nat_lt m (line + count))
      (le-leb line m (omega arith)) (lt-ltb m (line + count) (omega arith))))
      (λ m le lt. says.behind.adds m (omega arith))
      (λ more. says.cells_say more ∙ (behind_same more ∙ ap (λ k. behind_line (suc n) changes k more) same)) rest);
}
  where
    changes : List Change
    changes = Strike line count ∷ inner

    same : line + count - 1 ≡ last + (line - 1 - last) + count
    same = omega arith

    behind_same : (more : List HistoryLine) → behind_line (suc n) inner (line + count - 1) more ≡ behind_line (suc n)
        (Strike line count ∷ inner) (line + count - 1) more
    behind_same more =
        ap (λ l. map (earlier_line (suc n)) (added inner (line + count - 1)) ++ l)
        (turned_alike (suc n) inner (Strike line count ∷ inner) (line + count - 1) more
        (λ m lt. sym (ap (λ t. t || strikes inner m) (and_right (nat_le line m) (nat_lt m (line + count))
        (le-ltb m (line + count) (omega arith))))) (λ m lt. refl))

add_says : (n last line : ℕ) (inner : List Change) (cells : List Cell) → last ≤ line
    → Says n line inner cells → Says n last inner (replicate (line - last) (Base 0) ++ cells)
add_says n last line inner cells low says = record {
  behind = behind_wider last line inner low says.behind;
  cells_say =
      pass_lines n 0 false inner last (line - last) cells refl
      (λ m lt le. says.behind.leaves m (omega arith))
      (λ m le lt. says.behind.adds m (omega arith))
      (λ rest. says.cells_say rest ∙ ap (λ k. behind_line (suc n) inner k rest) same);
}
  where
    same : line ≡ last + (line - last)
    same = omega arith

-- what comes after a line of the script
abbrev Rest : ℕ → ℕ → List (List ℕ) → Type 0
Rest n lines rest =
    (last taken : ℕ) (changes : List Change) → changes_from lines last taken rest ≡ Ok changes
    → Says n last changes (cells_from (suc n) last taken rest)

command_says : (n lines last : ℕ) (rest : List (List ℕ)) (changes : List Change) (o : Option ScriptCommand)
    → or_at rest (Rattle.std.specs.Prelude.option_and_then (λ command. only (fits lines last (length rest) command)
    command) o)
    (λ command. then_changes (with_command command) (changes_from lines (last_of command) (taken_by command) rest))
    ≡ Ok changes
    → Rest n lines rest
    → Says n last changes (command_cells (suc n) last o (λ behind taken. cells_from (suc n) behind taken rest))
command_says n lines last rest changes None e more = no_fault (suc (length rest)) changes e
command_says n lines last rest changes (Some (Delete line count)) e more =
    by_fit (fits lines last (length rest) (Delete line count)) refl e
  where
    by_fit : (t : Bool) → fits lines last (length rest) (Delete line count) ≡ t
        → or_at rest (only t (Delete line count)) (λ command. then_changes (with_command command)
        (changes_from lines (last_of command) (taken_by command) rest)) ≡ Ok changes
        → Says n last changes (replicate (line - 1 - last) (Base 0) ++ (replicate count (Base (suc n)) ++ cells_from
        (suc n) (line + count - 1) 0 rest))
    by_fit false f e2 = no_fault (suc (length rest)) changes e2
    by_fit true f e2 =
        let inside = within (λ l. Strike line count ∷ l) (changes_from lines (line + count - 1) 0 rest) changes e2 in
        let parts = and_parts (nat_lt 0 count) (nat_lt last line && nat_le (line + count) (suc lines)) f in
        let low = and_parts (nat_lt last line) (nat_le (line + count) (suc lines)) parts.1 in
        subst (λ c. Says n last c (replicate (line - 1 - last) (Base 0) ++ (replicate count (Base (suc n)) ++ cells_from
        (suc n) (line + count - 1) 0 rest))) inside.whole
        (delete_says n last line count inside.inner (cells_from (suc n) (line + count - 1) 0 rest)
        (ltb-true last line low.0) (ltb-true 0 count parts.0)
        (more (line + count - 1) 0 inside.inner inside.read))
command_says n lines last rest changes (Some (Add line count)) e more =
    by_fit (fits lines last (length rest) (Add line count)) refl e
  where
    by_fit : (t : Bool) → fits lines last (length rest) (Add line count) ≡ t
        → or_at rest (only t (Add line count)) (λ command. then_changes (with_command command)
        (changes_from lines (last_of command) (taken_by command) rest)) ≡ Ok changes
        → Says n last changes (replicate (line - last) (Base 0) ++ cells_from (suc n) line count rest)
    by_fit false f e2 = no_fault (suc (length rest)) changes e2
    by_fit true f e2 =
        let inside = within (λ l. l) (changes_from lines line count rest) changes e2 in
        let parts = and_parts (nat_lt 0 count) (nat_le last line && (nat_le line lines && nat_le count (length rest)))
        f in
        let low = and_parts (nat_le last line) (nat_le line lines && nat_le count (length rest)) parts.1 in
        subst (λ c. Says n last c (replicate (line - last) (Base 0) ++ cells_from (suc n) line count rest)) inside.whole
        (add_says n last line inside.inner (cells_from (suc n) line count rest) (leb-true last line low.0)
        (more line count inside.inner inside.read))

script_says : (n lines : ℕ) (script : List (List ℕ)) → Rest n lines script
script_says n lines [] last taken changes e = subst (λ c. Says n last c []) (ap changes_or e) (record {
  behind = behind_none last;
  cells_say = λ ls. sym (turned_none ls);
})
  where
    turned_none : (ls : List HistoryLine) → turned_from (suc n) [] last ls ≡ ls
    turned_none ls = nothing_turned n last ls
      where
        nothing_turned : (n k : ℕ) (ls : List HistoryLine) → turned_from (suc n) [] k ls ≡ ls
        nothing_turned n k [] = refl
        nothing_turned n k (line ∷ ls) = by_test (is_open line) (nothing_turned n (suc k) ls) (nothing_turned n k ls)
          where
            by_test : (t : Bool) → turned_from (suc n) [] (suc k) ls ≡ ls → turned_from (suc n) [] k ls ≡ ls
                → cond t (line ∷ turned_from (suc n) [] (suc k) ls) (line ∷ turned_from (suc n) [] k ls) ≡ line ∷ ls
            by_test true next same = ap (λ l. line ∷ l) next
            by_test false next same = ap (λ l. line ∷ l) same
script_says n lines (line ∷ rest) last zero changes e = by_bare (begins 1 line) e (script_says n lines rest)
  where
    by_bare : (t : Bool) → cond t (Err (suc (length rest))) (or_at rest (fit_command lines last (length rest) line)
        (λ command. then_changes (with_command command) (changes_from lines (last_of command) (taken_by command) rest)))
        ≡ Ok changes
        → Rest n lines rest
        → Says n last changes (command_cells (suc n) last (command_of line) (λ behind taken. cells_from
        (suc n) behind taken rest))
    by_bare true e2 more = no_fault (suc (length rest)) changes e2
    by_bare false e2 more = command_says n lines last rest changes (command_of line) e2 more
script_says n lines (line ∷ rest) last (suc taken) changes e = by_bare (begins 1 line) e (script_says n lines rest)
  where
    by_bare : (t : Bool) → cond t (Err (suc (length rest))) (then_changes (λ inner. Put last line ∷ inner)
        (changes_from lines last taken rest)) ≡ Ok changes
        → Rest n lines rest
        → Says n last changes (New (suc n) 0 line ∷ cells_from (suc n) last taken rest)
    by_bare true e2 more = no_fault (suc (length rest)) changes e2
    by_bare false e2 more =
        let inside = within (λ inner. Put last line ∷ inner) (changes_from lines last taken rest) changes e2 in
        subst (λ c. Says n last c (New (suc n) 0 line ∷ cells_from (suc n) last taken rest)) inside.whole
        (taken_says n last line inside.inner (cells_from (suc n) last taken rest)
        (more last taken inside.inner inside.read))

-- the cells of a fit script turn lines back
pub script_turns : (n lines : ℕ) (script : List (List ℕ)) (changes : List Change) (ls : List HistoryLine)
    → changes_from lines 0 0 script ≡ Ok changes → laid (script_cells (suc n) script) ls ≡ turned (suc n) changes ls
script_turns n lines script changes ls e = (script_says n lines script 0 0 changes e).cells_say ls
