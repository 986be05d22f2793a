-- The history of a trunk is valid and rooted.
use Rattle.std.proofs.Common.{◌≡◌, ℕ, zero, suc, ◌≤◌, ◌<◌, ◌⊎◌, ◌==◌, nat_lt, Bool, true, false, not, ◌&&◌, ◌||◌, List}
use Rattle.std.proofs.Common.{[], ◌∷◌, length, map, refl, sym, subst, ap, ◌∙◌, inl, inr, ⊎_elim, arith, eq-eqb}
use Rattle.std.specs.List.{AllByRecursion, list_all}
use Rattle.std.proofs.lemmas.Bool.{and_from, and_left, and_parts, eqb-true, false≢true, lt-ltb, ltb-true, ne_eqb}
use Rattle.std.proofs.lemmas.Bool.{or_cases, or_left, or_right}
use Rattle.sccs_history.specs.Numbers.{has, Falls, IsFalling}
use Rattle.sccs_history.specs.Applied.{live_serials, serials_of}
use Rattle.sccs_history.specs.Body.{HistoryLine, IsLine}
use Rattle.sccs_history.specs.History.{HasSpelling, IsRecord, IsRooted, IsTable, IsValid, has_own_sids, lives, same_sid}
use Rattle.sccs_history.specs.declared.headers.Record.{Record}
use Rattle.sccs_sid.specs.declared.sids.Sid.{Sid}
use Rattle.sccs_trunks.specs.Changes.{Change}
use Rattle.sccs_trunks.specs.Trunks.{begun, head_line, is_open, is_zero, settled, trunk_lines, turned, turned_back}
use Rattle.sccs_trunks.specs.TrunkHistories.{AreFalling, IsRevision, IsTrunk, count_of, down, is_below, records_of}
use Rattle.sccs_trunks.specs.TrunkHistories.{sids_fall, trunk_history}
use Rattle.sccs_trunks.specs.declared.revisions.Revision.{Revision}
use Rattle.sccs_trunks.specs.TrunkItems.{items_of}
use Rattle.sccs_trunks.proofs.ItemWalks.{AreItems, items_are}
use Rattle.sccs_trunks.proofs.LateLines.{bare_back, bare_head, late_head, late_turned}
use Rattle.sccs_trunks.proofs.TrunkVersions.{live_down, serials_down}
use Rattle.sccs_trunks.proofs.TurnedSets.{IsLate, down_has}

-- ---- lines

-- A line at the end: serials from 1 to m, at most one deleter, above the inserter.
pub record IsFinal (m : ℕ) (line : HistoryLine) : Type 0 where
  pub some : 0 < line.inserter
  pub inserter : line.inserter ≤ m
  pub deleters : AllByRecursion (λ d. (d ≤ m) × (line.inserter < d)) line.deleters
  pub single : length line.deleters ≤ 1

final_deleters : (m i : ℕ) (ds : List ℕ) → AllByRecursion (λ d. (1 < d) × ((d ≤ m) × (i < d))) ds
    → AllByRecursion (λ d. (d ≤ m) × (i < d)) ds
final_deleters m i [] each = tt
final_deleters m i (d ∷ ds) each = (each.0.1, final_deleters m i ds each.1)

final_deleters_first : (m i : ℕ) (ds : List ℕ) → AllByRecursion (λ d. (1 < d) × ((d ≤ m) × (i < d))) ds
    → AllByRecursion (λ d. (d ≤ m) × (1 < d)) ds
final_deleters_first m i [] each = tt
final_deleters_first m i (d ∷ ds) each = ((each.0.1.0, each.0.0), final_deleters_first m i ds each.1)

final_settled : (m : ℕ) (line : HistoryLine) → 1 ≤ m → IsLate 1 m line → IsFinal m (settled line)
final_settled m line some late = by_state (is_open line) refl
  where
    high_is : is_zero line.inserter ≡ false → (line.inserter ≡ 0) ⊎ ((1 < line.inserter) × (line.inserter ≤ m))
        → (1 < line.inserter) × (line.inserter ≤ m)
    high_is closed (inl e) = absurd (false≢true (sym closed ∙ ap is_zero e))
    high_is closed (inr high) = high

    by_state : (t : Bool) → is_open line ≡ t → IsFinal m (begun 1 t line)
    by_state true opened = record {
      some = omega arith;
      inserter = some;
      deleters =
          final_deleters_first m line.inserter line.deleters late.deleters;
      single = late.single;
    }
    by_state false closed =
        let high = high_is closed late.inserter in
        record {
          some = omega (arith, high.0);
          inserter = high.1;
          deleters =
              final_deleters m line.inserter line.deleters late.deleters;
          single = late.single;
        }

final_all : (m : ℕ) (lines : List HistoryLine) → 1 ≤ m → AllByRecursion (IsLate 1 m) lines → AllByRecursion (IsFinal m)
    (map settled lines)
final_all m [] some late = tt
final_all m (line ∷ lines) some late = (final_settled m line some late.0, final_all m lines some late.1)

pub final_back : (m : ℕ) (scripts : List (List Change)) (lines : List HistoryLine) → suc (length scripts) ≤ m
    → AllByRecursion (IsLate (suc (length scripts)) m) lines
    → AllByRecursion (IsFinal m) (turned_back scripts lines)
final_back m [] lines le late = final_all m lines le late
final_back m (changes ∷ scripts) lines le late =
    final_back m scripts (turned (suc (suc (length scripts))) changes lines) (omega arith)
    (late_turned (suc (length scripts)) m changes lines le late)

pub final_trunk : (head : List (List ℕ)) (scripts : List (List Change))
    → AllByRecursion (IsFinal (suc (length scripts))) (trunk_lines head scripts)
final_trunk head scripts =
    final_back (suc (length scripts)) scripts (map head_line head) (omega arith) (late_head (suc (length scripts))
    (suc (length scripts)) head)

live_deleters : (m i : ℕ) (ds : List ℕ) → AllByRecursion (λ d. (d ≤ m) × (i < d)) ds
    → AllByRecursion (λ d. (has (down m) d ≡ true) × (i < d)) ds
live_deleters m i [] each = tt
live_deleters m i (d ∷ ds) each = (
  (down_has m d (omega (arith, each.0.1)) each.0.0, each.0.1),
  live_deleters m i ds each.1,
)

single_falls : (ds : List ℕ) → length ds ≤ 1 → IsFalling ds
single_falls [] le = tt
single_falls (d ∷ []) le = tt
single_falls (d ∷ e ∷ ds) le = absurd (omega arith)

pub line_final : (m : ℕ) (line : HistoryLine) → IsFinal m line → IsLine (down m) line
line_final m line final = record {
  inserter = down_has m line.inserter final.some final.inserter;
  deleters = live_deleters m line.inserter line.deleters final.deleters;
  order = single_falls line.deleters final.single;
}

lines_final : (m : ℕ) (lines : List HistoryLine) → AllByRecursion (IsFinal m) lines
    → AllByRecursion (IsLine (down m)) lines
lines_final m [] final = tt
lines_final m (line ∷ lines) final = (line_final m line final.0, lines_final m lines final.1)

-- ---- SIDs

abbrev BelowAs : Sid → Sid → Type 0
BelowAs a b = (a.release < b.release) ⊎ ((a.release ≡ b.release) × (a.level < b.level))

below_is : (a b : Sid) → is_below a b ≡ true → BelowAs a b
below_is a b e =
    ⊎_elim (λ t. inl (ltb-true a.release b.release t))
    (λ t. let both = and_parts (a.release == b.release) (nat_lt a.level b.level) t in
    inr (eqb-true a.release b.release both.0, ltb-true a.level b.level both.1))
    (or_cases (nat_lt a.release b.release) (a.release == b.release && nat_lt a.level b.level) e)

is_below_from : (a b : Sid) → BelowAs a b → is_below a b ≡ true
is_below_from a b (inl lt) = or_left (nat_lt a.release b.release) (a.release == b.release && nat_lt a.level b.level)
    (lt-ltb a.release b.release lt)
is_below_from a b (inr both) =
    or_right (nat_lt a.release b.release) (a.release == b.release && nat_lt a.level b.level)
    (and_from (a.release == b.release) (nat_lt a.level b.level) (eq-eqb a.release b.release both.0)
    (lt-ltb a.level b.level both.1))

below_both : (a b c : Sid) → BelowAs a b → BelowAs b c → BelowAs a c
below_both a b c (inl lt) (inl lt2) = inl (omega arith)
below_both a b c (inl lt) (inr both2) = inl (omega (arith, both2.0))
below_both a b c (inr both) (inl lt2) = inl (omega (arith, both.0))
below_both a b c (inr both) (inr both2) = inr (both.0 ∙ both2.0, omega (arith, both.1, both2.1))

fall_wider : (a b : Sid) (revisions : List Revision) → is_below a b ≡ true → sids_fall a revisions ≡ true
    → sids_fall b revisions ≡ true
fall_wider a b [] below falls = refl
fall_wider a b (r ∷ revisions) below falls =
    let parts = and_parts (is_below r.sid a) (sids_fall r.sid revisions) falls in
    and_from (is_below r.sid b) (sids_fall r.sid revisions)
    (is_below_from r.sid b (below_both r.sid a b (below_is r.sid a parts.0) (below_is a b below))) parts.1

other_sid : (a b : Sid) → BelowAs a b → same_sid a b ≡ false
other_sid a b (inl lt) = and_left (a.release == b.release) (a.level == b.level
    && (a.branch == b.branch && a.sequence == b.sequence)) (ne_eqb a.release b.release (λ e. omega arith))
other_sid a b (inr both) =
    Rattle.std.proofs.lemmas.Bool.and_right (a.release == b.release) (a.level == b.level
    && (a.branch == b.branch && a.sequence == b.sequence))
    (and_left (a.level == b.level) (a.branch == b.branch && a.sequence == b.sequence)
    (ne_eqb a.level b.level (λ e. omega (arith, both.1))))

lives_none : (lines : List HistoryLine) (sid : Sid) (revisions : List Revision) → sids_fall sid revisions ≡ true
    → lives (records_of lines revisions) sid ≡ false
lives_none lines sid [] falls = refl
lives_none lines sid (r ∷ revisions) falls =
    let parts = and_parts (is_below r.sid sid) (sids_fall r.sid revisions) falls in
    ap (λ t. t || lives (records_of lines revisions) sid) (other_sid r.sid sid (below_is r.sid sid parts.0))
    ∙ lives_none lines sid revisions (fall_wider r.sid sid revisions parts.0 parts.1)

own_sids_below : (lines : List HistoryLine) (sid : Sid) (revisions : List Revision) → sids_fall sid revisions ≡ true
    → has_own_sids (records_of lines revisions) ≡ true
own_sids_below lines sid [] falls = refl
own_sids_below lines sid (r ∷ revisions) falls =
    let parts = and_parts (is_below r.sid sid) (sids_fall r.sid revisions) falls in
    and_from (not (lives (records_of lines revisions) r.sid)) (has_own_sids (records_of lines revisions))
    (ap not (lives_none lines r.sid revisions parts.1)) (own_sids_below lines r.sid revisions parts.1)

own_sids : (lines : List HistoryLine) (revisions : List Revision) → AreFalling revisions
    → has_own_sids (records_of lines revisions) ≡ true
own_sids lines [] falls = refl
own_sids lines (r ∷ revisions) falls =
    and_from (not (lives (records_of lines revisions) r.sid)) (has_own_sids (records_of lines revisions))
    (ap not (lives_none lines r.sid revisions falls)) (own_sids_below lines r.sid revisions falls)

-- ---- records

falls_down : (bound m : ℕ) → m < bound → Falls bound (down m)
falls_down bound zero lt = tt
falls_down bound (suc m) lt = (lt, falls_down (suc m) m (omega arith))

count_small : (n : ℕ) → count_of n ≤ 99999
count_small n = omega arith

-- a predecessor is 0 or there
root_has : (m below : ℕ) → below ≤ m → has (0 ∷ down m) below ≡ true
root_has m zero le = refl
root_has m (suc below) le = or_right (0 == suc below) (has (down m) (suc below))
    (down_has m (suc below) (omega arith) le)

each_record : (lines : List HistoryLine) (all : List Record) (m : ℕ) (revisions : List Revision)
    → serials_of all ≡ down m → length revisions ≤ m
    → AllByRecursion (IsRecord all) (records_of lines revisions)
each_record lines all m [] are le = tt
each_record lines all m (r ∷ revisions) are le = (
  record {
    serial = omega arith;
    predecessor = ap (λ ns. has (0 ∷ ns) (length revisions)) are ∙ root_has m (length revisions) (omega arith);
    older = omega arith;
    include = tt;
    exclude = tt;
    ignore = tt;
    apart = refl;
    inserted = count_small _;
    deleted = count_small _;
    unchanged = count_small _;
  },
  each_record lines all m revisions are (omega arith),
)

each_spelling : (lines : List HistoryLine) (revisions : List Revision) → AllByRecursion IsRevision revisions
    → AllByRecursion HasSpelling (records_of lines revisions)
each_spelling lines [] each = tt
each_spelling lines (r ∷ revisions) each = (
  record {
    sid = each.0.sid;
    moment = each.0.moment;
    login = each.0.login;
    mrs = tt;
    comments = each.0.log;
  },
  each_spelling lines revisions each.1,
)

some_records : (lines : List HistoryLine) (revisions : List Revision) → 0 < length revisions
    → Rattle.sccs_history.specs.Numbers.is_empty (records_of lines revisions) ≡ false
some_records lines [] some = absurd (omega arith)
some_records lines (r ∷ revisions) some = refl

table_of : (lines : List HistoryLine) (revisions : List Revision) → 0 < length revisions → length revisions < 65536
    → AreFalling revisions → IsTable (records_of lines revisions)
table_of lines revisions some few falls = record {
  some = some_records lines revisions some;
  falls = subst (Falls 65536) (sym (serials_down lines revisions)) (falls_down 65536 (length revisions) few);
  each = each_record lines (records_of lines revisions) (length revisions) revisions (serials_down lines revisions)
      (omega arith);
  sids = own_sids lines revisions falls;
}

pub valid_trunk : (revisions : List Revision) (description head : List (List ℕ)) (scripts : List (List Change))
    → IsTrunk revisions description head scripts
    → IsValid (trunk_history revisions description (trunk_lines head scripts))
valid_trunk revisions description head scripts is =
    let lines = trunk_lines head scripts in
    record {
      header = record {
        rules = record {
          table = table_of lines revisions is.some is.few is.sids;
          flags = tt;
          letters = refl;
          users = tt;
          description = is.about.1;
        };
        plain = refl;
      };
      spelled = record {
        records = each_spelling lines revisions is.each;
        users = tt;
        flags = tt;
        description = is.about.0;
      };
      lines = subst (λ live. AllByRecursion (IsLine live) lines) (ap down (sym is.scripts_are)
          ∙ sym (live_down lines revisions)) (lines_final (suc (length scripts)) lines (final_trunk head scripts));
      texts = bare_back scripts (map head_line head) is.others (bare_head head is.first_text);
    }

-- ---- roots

rooted_each : (lines : List HistoryLine) (live : List ℕ) (m : ℕ) (revisions : List Revision) → live ≡ down m
    → length revisions ≤ m
    → list_all (λ r. r.removed || has (0 ∷ live) r.predecessor) (records_of lines revisions) ≡ true
rooted_each lines live m [] are le = refl
rooted_each lines live m (r ∷ revisions) are le =
    and_from (has (0 ∷ live) (length revisions)) (list_all (λ r. r.removed || has (0 ∷ live) r.predecessor)
    (records_of lines revisions))
    (ap (λ ns. has (0 ∷ ns) (length revisions)) are ∙ root_has m (length revisions) (omega arith))
    (rooted_each lines live m revisions are (omega arith))

pub rooted_trunk : (revisions : List Revision) (description : List (List ℕ)) (lines : List HistoryLine)
    → IsRooted (trunk_history revisions description lines)
rooted_trunk revisions description lines =
    rooted_each lines (live_serials (records_of lines revisions)) (length revisions) revisions
    (live_down lines revisions) (omega arith)

-- ---- items

pub single_lines : (m : ℕ) (lines : List HistoryLine) → AllByRecursion (IsFinal m) lines
    → AllByRecursion (λ line. length line.deleters ≤ 1) lines
single_lines m [] final = tt
single_lines m (line ∷ lines) final = (final.0.single, single_lines m lines final.1)

pub some_lines : (m : ℕ) (lines : List HistoryLine) → AllByRecursion (IsFinal m) lines
    → AllByRecursion (λ line. 0 < line.inserter) lines
some_lines m [] final = tt
some_lines m (line ∷ lines) final = (final.0.some, some_lines m lines final.1)

pub trunk_items_are : (revisions : List Revision) (head : List (List ℕ)) (scripts : List (List Change))
    → length revisions ≡ suc (length scripts)
    → AreItems (live_serials (records_of (trunk_lines head scripts) revisions)) [] (items_of (trunk_lines head scripts))
    (trunk_lines head scripts)
trunk_items_are revisions head scripts same =
    let lines = trunk_lines head scripts in
    let final = final_trunk head scripts in
    items_are (live_serials (records_of lines revisions)) lines
    (subst (λ live. AllByRecursion (IsLine live) lines) (ap down (sym same) ∙ sym (live_down lines revisions))
    (lines_final (suc (length scripts)) lines final))
    (single_lines (suc (length scripts)) lines final) (some_lines (suc (length scripts)) lines final)
