-- The summary of a get (POSIX, Shell and Utilities, get, -l, -L and the l-file): each live delta, newest first, whether
-- it is applied, and why where the words say so.
use Rattle.std.specs.Prelude.{ℕ, ℤ, int_lt, Bool, false, List, [], ◌∷◌, ◌++◌, flat_map, codes, Option, None, Some}
use Rattle.std.specs.Prelude.{option_map, if◌then◌else◌}
use Rattle.sccs_sid.specs.Moment.{moment_text}
use Rattle.sccs_sid.specs.Sid.{sid_text}
use Rattle.sccs_history.specs.Numbers.{has}
use Rattle.sccs_history.specs.declared.headers.Record.{Record}
use Rattle.sccs_summary.specs.declared.choices.Choices.{Choices}

-- The set of deltas that is got, the serials that are taken in and left out, and the last second that counts.
pub record Choice : Type 0 where
  pub set : List ℕ
  pub include : List ℕ
  pub exclude : List ℕ
  pub cutoff : Option ℤ

-- those that are lent
abbrev pub choice_of : Choices → Choice
choice_of c = record {
  set = c.set.now;
  include = c.include.now;
  exclude = c.exclude.now;
  cutoff =
      option_map (λ m. m.seconds) c.cutoff;
}

-- the delta was made after the last second that counts
abbrev pub is_late : Option ℤ → Record → Bool
is_late None r = false
is_late (Some last) r = int_lt last r.moment.seconds

-- why a delta is applied, or not: C for the cutoff, I and X for the lists
abbrev pub reason : Choice → Record → ℕ
reason c r = if is_late c.cutoff r then 67 else if has c.include r.serial then 73 else if has c.exclude r.serial then 88
    else 32

-- two blanks, where it is applied
abbrev pub marks : Choice → Record → List ℕ
marks c r = if has c.set r.serial then codes "  " else codes "**"

-- lines, each behind a tab
abbrev pub tabbed : List (List ℕ) → List ℕ
tabbed lines = flat_map (λ (line : List ℕ). 9 ∷ line ++ 10 ∷ []) lines

-- the line of a delta
abbrev pub front_text : Choice → Record → List ℕ
front_text c r = marks c r ++ (reason c r ∷ 32 ∷ sid_text r.sid ++ (9 ∷ moment_text r.moment
    ++ (32 ∷ r.login ++ 10 ∷ [])))

-- then its comment and its MRs, and an empty line
abbrev pub entry_text : Choice → Record → List ℕ
entry_text c r = front_text c r ++ (tabbed r.comments ++ (tabbed r.mrs ++ 10 ∷ []))

-- of a live delta
abbrev pub live_text : Choice → Record → List ℕ
live_text c r = if r.removed then [] else entry_text c r

abbrev pub summary_text : Choice → List Record → List ℕ
summary_text c records = flat_map (λ (r : Record). live_text c r) records
