-- How many lines a fit script makes of a text.
use Rattle.std.proofs.Common.{◌≡◌, ℕ, zero, suc, ◌+◌, ◌-◌, ◌≤◌, ◌<◌, nat_le, nat_lt, Bool, true, false, cond, not, ◌&&◌}
use Rattle.std.proofs.Common.{◌||◌, List, [], ◌∷◌, ◌++◌, length, drop, Option, None, Some, Result, Ok, Err, refl, subst}
use Rattle.std.proofs.Common.{ap, ◌∙◌, arith, eq-eqb}
use Rattle.std.proofs.lemmas.Bool.{and_from, and_left, and_parts, and_right, le-leb, le-ltb, leb-true, lt-leb, lt-ltb}
use Rattle.std.proofs.lemmas.Bool.{ltb-true, ne_eqb, or_from, or_left}
use Rattle.std.specs.Prelude.{option_and_then}
use Rattle.sccs_sid.specs.Reading.{only}
use Rattle.sccs_sid.specs.SidLists.{begins}
use Rattle.sccs_history.specs.Numbers.{front_if}
use Rattle.sccs_trunks.specs.Changes.{Change, Strike, Put, added, at_line, changes_from, changes_of, command_of}
use Rattle.sccs_trunks.specs.Changes.{fit_command, fits, last_of, or_at, revised, revised_from, strikes, taken_by}
use Rattle.sccs_trunks.specs.Changes.{then_changes, with_command}
use Rattle.sccs_trunks.specs.Lengths.{put_count, struck_count}
use Rattle.sccs_trunks.specs.declared.revisions.ScriptCommand.{ScriptCommand}
use Rattle.sccs_trunks.specs.declared.revisions.ScriptCommand.TheVariants.{Delete, Add}
use Rattle.sccs_trunks.proofs.Behind.{IsBehind, behind_none, behind_put, behind_strike, behind_wider, changes_or}
use Rattle.sccs_trunks.proofs.Behind.{no_fault, within}

-- the text behind line k
abbrev text_behind : List Change → ℕ → List (List ℕ) → List (List ℕ)
text_behind changes k lines = added changes k ++ revised_from changes k lines

-- ---- lines that are passed, all left or all struck

pass_left : (changes : List Change) (k count : ℕ) (lines : List (List ℕ)) → count ≤ length lines
    → ((m : ℕ) → k < m → m ≤ k + count → strikes changes m ≡ false) → ((m : ℕ) → k ≤ m → m < k + count
    → added changes m ≡ [])
    → length (text_behind changes k lines) ≡ count + length (text_behind changes (k + count) (drop count lines))
pass_left changes k zero lines le struck adds = ap (λ m. length (text_behind changes m lines)) same
    ∙ zero_plus (length (text_behind changes (k + 0) lines))
  where
    same : k ≡ k + 0
    same = omega arith

    zero_plus : (n : ℕ) → n ≡ 0 + n
    zero_plus n = omega arith
pass_left changes k (suc count) [] le struck adds = absurd (omega arith)
pass_left changes k (suc count) (line ∷ lines) le struck adds =
    ap (λ l. length (l ++ revised_from changes k (line ∷ lines))) (adds k (omega arith) (omega arith))
    ∙ (ap (λ t. length (front_if (not t) line (text_behind changes (suc k) lines))) (struck (suc k) (omega arith)
    (omega arith))
    ∙ (ap suc (pass_left changes (suc k) count lines (omega arith) (λ m lt le2. struck m (omega arith) (omega arith))
    (λ m le2 lt. adds m (omega arith) (omega arith)))
    ∙ (sums count (length (text_behind changes (suc k + count) (drop count lines)))
    ∙ ap (λ m. suc count + length (text_behind changes m (drop count lines))) same)))
  where
    same : suc k + count ≡ k + suc count
    same = omega arith

    sums : (a b : ℕ) → suc (a + b) ≡ suc a + b
    sums a b = omega arith

pass_struck : (changes : List Change) (k count : ℕ) (lines : List (List ℕ)) → count ≤ length lines
    → ((m : ℕ) → k < m → m ≤ k + count → strikes changes m ≡ true) → ((m : ℕ) → k ≤ m → m < k + count
    → added changes m ≡ [])
    → length (text_behind changes k lines) ≡ length (text_behind changes (k + count) (drop count lines))
pass_struck changes k zero lines le struck adds = ap (λ m. length (text_behind changes m lines)) same
  where
    same : k ≡ k + 0
    same = omega arith
pass_struck changes k (suc count) [] le struck adds = absurd (omega arith)
pass_struck changes k (suc count) (line ∷ lines) le struck adds =
    ap (λ l. length (l ++ revised_from changes k (line ∷ lines))) (adds k (omega arith) (omega arith))
    ∙ (ap (λ t. length (front_if (not t) line (text_behind changes (suc k) lines))) (struck (suc k) (omega arith)
    (omega arith))
    ∙ (pass_struck changes (suc k) count lines (omega arith) (λ m lt le2. struck m (omega arith) (omega arith))
    (λ m le2 lt. adds m (omega arith) (omega arith))
    ∙ ap (λ m. length (text_behind changes m (drop count lines))) same))
  where
    same : suc k + count ≡ k + suc count
    same = omega arith

revised_alike : (a b : List Change) (k : ℕ) (lines : List (List ℕ)) → ((m : ℕ) → k < m → strikes a m ≡ strikes b m)
    → ((m : ℕ) → k < m → added a m ≡ added b m)
    → revised_from a k lines ≡ revised_from b k lines
revised_alike a b k [] strikes_alike added_alike = refl
revised_alike a b k (line ∷ lines) strikes_alike added_alike =
    ap (λ t. front_if (not t) line (added a (suc k) ++ revised_from a (suc k) lines))
    (strikes_alike (suc k) (omega arith))
    ∙ (ap (λ l. front_if (not (strikes b (suc k))) line (l ++ revised_from a (suc k) lines))
    (added_alike (suc k) (omega arith))
    ∙ ap (λ l. front_if (not (strikes b (suc k))) line (added b (suc k) ++ l)) (revised_alike a b (suc k) lines
    (λ m lt. strikes_alike m (omega arith)) (λ m lt. added_alike m (omega arith))))

-- ---- the lines of a script in turn

drop_length : (n : ℕ) (lines : List (List ℕ)) → length (drop n lines) ≡ length lines - n
drop_length zero lines = omega arith
drop_length (suc n) [] = omega arith
drop_length (suc n) (line ∷ lines) = drop_length n lines ∙ omega arith

-- changes are behind a line, and as many lines come of those behind it as their counts say
pub record Counts (lines last : ℕ) (changes : List Change) : Type 0 where
  pub behind : IsBehind last changes
  pub sums : (text : List (List ℕ)) → last + length text ≡ lines → length (text_behind changes last text)
      + struck_count changes ≡ length text + put_count changes

put_counts : (lines last : ℕ) (line : List ℕ) (inner : List Change) → Counts lines last inner
    → Counts lines last (Put last line ∷ inner)
put_counts lines last line inner counts = record {
  behind = behind_put last line inner counts.behind;
  sums = λ text is.
      let more : length (text_behind (Put last line ∷ inner) last text) ≡ suc (length (text_behind inner last text)) =
      ap (λ t. length (front_if t line (added inner last) ++ revised_from (Put last line ∷ inner) last text))
      (eq-eqb last last refl)
      ∙ ap (λ l. suc (length (added inner last ++ l)))
      (revised_alike (Put last line ∷ inner) inner last text (λ m lt. refl)
      (λ m lt. ap (λ t. front_if t line (added inner m)) (ne_eqb last m (λ e. omega arith)))) in
      omega (arith, more, counts.sums text is);
}

strike_counts : (lines last first count : ℕ) (inner : List Change) → last < first → 0 < count
    → first + count ≤ suc lines → Counts lines (first + count - 1) inner
    → Counts lines last (Strike first count ∷ inner)
strike_counts lines last first count inner low some high counts = record {
  behind = behind_strike last first count inner low (behind_wider last (first + count - 1) inner
      (omega arith) counts.behind);
  sums = λ text is.
      let left : length (text_behind changes last text) ≡ (first - 1 - last) + length
      (text_behind changes (last + (first - 1 - last)) (drop (first - 1 - last) text)) =
      pass_left changes last (first - 1 - last) text (omega arith)
      (λ m lt le. or_from (nat_le first m && nat_lt m (first + count)) (strikes inner m) (and_left (nat_le first m)
      (nat_lt m (first + count)) (lt-leb first m (omega arith))) (counts.behind.leaves m (omega arith)))
      (λ m le lt. counts.behind.adds m (omega arith)) in
      let gone : length (text_behind changes (last + (first - 1 - last)) (drop (first - 1 - last) text)) ≡ length
      (text_behind changes (last + (first - 1 - last) + count) (drop count (drop (first - 1 - last) text))) =
      pass_struck changes (last + (first - 1 - last)) count (drop (first - 1 - last) text)
      (omega (arith, drop_length (first - 1 - last) text))
      (λ m lt le. or_left (nat_le first m && nat_lt m (first + count)) (strikes inner m) (and_from (nat_le first m)
      (nat_lt m (first + count)) (le-leb first m (omega arith)) (lt-ltb m (first + count) (omega arith))))
      (λ m le lt. counts.behind.adds m (omega arith)) in
      let place : last + (first - 1 - last) + count ≡ first + count - 1 = omega arith in
      let rest = drop count (drop (first - 1 - last) text) in
      let same : length (text_behind changes (last + (first - 1 - last) + count) rest) ≡ length
      (text_behind inner (first + count - 1) rest) =
      ap (λ k. length (text_behind changes k rest)) place
      ∙ ap (λ l. length (added inner (first + count - 1) ++ l))
      (revised_alike changes inner (first + count - 1) rest (λ m lt. ap (λ t. t || strikes inner m)
      (and_right (nat_le first m) (nat_lt m (first + count)) (le-ltb m (first + count) (omega arith))))
      (λ m lt. refl)) in
      let size : length rest ≡ length text - (first - 1 - last) - count =
      drop_length count (drop (first - 1 - last) text)
      ∙ ap (λ n. n - count) (drop_length (first - 1 - last) text) in
      let inside : length (text_behind inner (first + count - 1) rest) + struck_count inner ≡ length rest
      + put_count inner = counts.sums rest (omega (arith, size, is)) in
      omega (arith, left, gone, same, size, inside, is);
}
  where
    changes : List Change
    changes = Strike first count ∷ inner

pub add_counts : (lines last line : ℕ) (inner : List Change) → last ≤ line → line ≤ lines → Counts lines line inner
    → Counts lines last inner
add_counts lines last line inner low high counts = record {
  behind = behind_wider last line inner low counts.behind;
  sums = λ text is.
      let left : length (text_behind inner last text) ≡ (line - last) + length (text_behind inner (last + (line - last))
      (drop (line - last) text)) =
      pass_left inner last (line - last) text (omega arith) (λ m lt le. counts.behind.leaves m (omega arith))
      (λ m le lt. counts.behind.adds m (omega arith)) in
      let place : last + (line - last) ≡ line = omega arith in
      let same : length (text_behind inner (last + (line - last)) (drop (line - last) text)) ≡ length
      (text_behind inner line (drop (line - last) text)) =
      ap (λ k. length (text_behind inner k (drop (line - last) text))) place in
      let size = drop_length (line - last) text in
      let inside = counts.sums (drop (line - last) text) (omega (arith, size, is)) in
      omega (arith, left, same, size, inside, is);
}

-- what comes after a line of the script
abbrev Rest : ℕ → List (List ℕ) → Type 0
Rest lines rest = (last taken : ℕ) (changes : List Change) → changes_from lines last taken rest ≡ Ok changes
    → Counts lines last changes

command_counts : (lines last : ℕ) (rest : List (List ℕ)) (changes : List Change) (o : Option ScriptCommand)
    → or_at rest (option_and_then (λ command. only (fits lines last (length rest) command) command) o)
    (λ command. then_changes (with_command command) (changes_from lines (last_of command) (taken_by command) rest))
    ≡ Ok changes
    → Rest lines rest → Counts lines last changes
command_counts lines last rest changes None e more = no_fault (suc (length rest)) changes e
command_counts lines last rest changes (Some (Delete line count)) e more =
    by_fit (fits lines last (length rest) (Delete line count)) refl e
  where
    by_fit : (t : Bool) → fits lines last (length rest) (Delete line count) ≡ t
        → or_at rest (only t (Delete line count)) (λ command. then_changes (with_command command)
        (changes_from lines (last_of command) (taken_by command) rest)) ≡ Ok changes
        → Counts lines last changes
    by_fit false f e2 = no_fault (suc (length rest)) changes e2
    by_fit true f e2 =
        let inside = within (λ l. Strike line count ∷ l) (changes_from lines (line + count - 1) 0 rest) changes e2 in
        let parts = and_parts (nat_lt 0 count) (nat_lt last line && nat_le (line + count) (suc lines)) f in
        let low = and_parts (nat_lt last line) (nat_le (line + count) (suc lines)) parts.1 in
        subst (λ c. Counts lines last c) inside.whole
        (strike_counts lines last line count inside.inner (ltb-true last line low.0) (ltb-true 0 count parts.0)
        (leb-true (line + count) (suc lines) low.1)
        (more (line + count - 1) 0 inside.inner inside.read))
command_counts lines last rest changes (Some (Add line count)) e more =
    by_fit (fits lines last (length rest) (Add line count)) refl e
  where
    by_fit : (t : Bool) → fits lines last (length rest) (Add line count) ≡ t
        → or_at rest (only t (Add line count)) (λ command. then_changes (with_command command)
        (changes_from lines (last_of command) (taken_by command) rest)) ≡ Ok changes
        → Counts lines last changes
    by_fit false f e2 = no_fault (suc (length rest)) changes e2
    by_fit true f e2 =
        let inside = within (λ l. l) (changes_from lines line count rest) changes e2 in
        let parts = and_parts (nat_lt 0 count) (nat_le last line && (nat_le line lines && nat_le count (length rest)))
        f in
        let low = and_parts (nat_le last line) (nat_le line lines && nat_le count (length rest)) parts.1 in
        let high = and_parts (nat_le line lines) (nat_le count (length rest)) low.1 in
        subst (λ c. Counts lines last c) inside.whole
        (add_counts lines last line inside.inner (leb-true last line low.0) (leb-true line lines high.0)
        (more line count inside.inner inside.read))

none_revised : (k : ℕ) (lines : List (List ℕ)) → revised_from [] k lines ≡ lines
none_revised k [] = refl
none_revised k (line ∷ lines) = ap (λ l. line ∷ l) (none_revised (suc k) lines)

script_counts : (lines : ℕ) (script : List (List ℕ)) → Rest lines script
script_counts lines [] last taken changes e = subst (λ c. Counts lines last c) (ap changes_or e) (record {
  behind = behind_none last;
  sums = λ text is. ap (λ l. length l + 0) (none_revised last text);
})
script_counts lines (line ∷ rest) last zero changes e = by_bare (begins 1 line) e (script_counts lines rest)
  where
    by_bare : (t : Bool) → cond t (Err (suc (length rest))) (or_at rest (fit_command lines last (length rest) line)
        (λ command. then_changes (with_command command) (changes_from lines (last_of command) (taken_by command) rest)))
        ≡ Ok changes
        → Rest lines rest → Counts lines last changes
    by_bare true e2 more = no_fault (suc (length rest)) changes e2
    by_bare false e2 more = command_counts lines last rest changes (command_of line) e2 more
script_counts lines (line ∷ rest) last (suc taken) changes e = by_bare (begins 1 line) e (script_counts lines rest)
  where
    by_bare : (t : Bool) → cond t (Err (suc (length rest))) (then_changes (λ inner. Put last line ∷ inner)
        (changes_from lines last taken rest)) ≡ Ok changes
        → Rest lines rest → Counts lines last changes
    by_bare true e2 more = no_fault (suc (length rest)) changes e2
    by_bare false e2 more =
        let inside = within (λ inner. Put last line ∷ inner) (changes_from lines last taken rest) changes e2 in
        subst (λ c. Counts lines last c) inside.whole (put_counts lines last line inside.inner
        (more last taken inside.inner inside.read))

-- a script that is read has no fault from its first line on
pub read_from_first : (lines : ℕ) (script : List (List ℕ)) (changes : List Change) → changes_of lines script
    ≡ Ok changes → changes_from lines 0 0 script ≡ Ok changes
read_from_first lines script changes e = by_result (changes_from lines 0 0 script) e
  where
    by_result : (r : Result (List Change) ℕ) → at_line script r ≡ Ok changes → r ≡ Ok changes
    by_result (Ok inner) e2 = e2
    by_result (Err left) e2 = no_fault (suc (length script) - left) changes e2

pub length_revised : (text script : List (List ℕ)) (changes : List Change) → changes_of (length text) script
    ≡ Ok changes
    → length (revised changes text) ≡ length text + put_count changes - struck_count changes
length_revised text script changes e =
    let counts = script_counts (length text) script 0 0 changes (read_from_first (length text) script changes e) in
    omega (arith, counts.sums text (omega arith))
