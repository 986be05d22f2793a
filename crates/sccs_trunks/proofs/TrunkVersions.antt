-- What the set of each serial shows of a trunk's lines, and that it is the set of the serial's version.
use Rattle.std.proofs.Common.{◌≡◌, ℕ, zero, suc, ◌+◌, ◌-◌, ◌≤◌, ◌<◌, ◌⊎◌, ◌==◌, Bool, true, false, cond, List, [], ◌∷◌}
use Rattle.std.proofs.Common.{◌++◌, length, map, None, unwrap_or, inl, inr, refl, sym, ap, ◌∙◌, arith, eq-eqb}
use Rattle.std.specs.List.{AllByRecursion}
use Rattle.sccs_history.specs.Numbers.{front_if, has}
use Rattle.sccs_history.specs.Applied.{applied, applied_below, listed, live_serials, named, path, says, serials_of}
use Rattle.sccs_history.specs.Applied.{version, version_of}
use Rattle.sccs_history.specs.Body.{HistoryLine}
use Rattle.sccs_history.specs.Select.{select}
use Rattle.sccs_history.specs.declared.headers.Record.{Record}
use Rattle.sccs_trunks.specs.Changes.{Change}
use Rattle.sccs_trunks.specs.Trunks.{head_line, revision_text, trunk_lines, turned, turned_back}
use Rattle.sccs_trunks.specs.TrunkHistories.{down, record_of, records_of}
use Rattle.sccs_trunks.specs.declared.revisions.Revision.{Revision}
use Rattle.sccs_trunks.proofs.LateLines.{late_head, late_turned}
use Rattle.sccs_trunks.proofs.OpenTexts.{open_head, open_text, open_turned}
use Rattle.sccs_trunks.proofs.TurnedSets.{IsLate, down_has, down_lacks, select_late, select_settled, select_turned}
use Rattle.sccs_trunks.proofs.TurnedSets.{upto, upto_has}

-- a set of a serial that all scripts to come have shows at the end what it shows now
select_back : (m : ℕ) (scripts : List (List Change)) (lines : List HistoryLine) (s : ℕ) → suc (length scripts) ≤ s
    → s ≤ m
    → AllByRecursion (IsLate (suc (length scripts)) m) lines → select (down s) (turned_back scripts lines) ≡ select
    (upto s) lines
select_back m [] lines s le most late = select_settled 1 m lines s le late
select_back m (changes ∷ scripts) lines s le most late =
    let n = suc (suc (length scripts)) in
    select_back m scripts (turned n changes lines) s (omega arith) most (late_turned (suc (length scripts)) m changes
    lines (omega arith) late)
    ∙ select_turned (upto s) n changes lines (upto_has s 0 (omega arith)) (upto_has s n (omega arith))

-- the version of each serial is the text of its revision
pub versions_back : (m : ℕ) (scripts : List (List Change)) (lines : List HistoryLine) (s n : ℕ)
    → s + n ≡ suc (length scripts) → 1 ≤ s → suc (length scripts) ≤ m
    → AllByRecursion (IsLate (suc (length scripts)) m) lines → select (down s) (turned_back scripts lines)
    ≡ revision_text n (open_text lines) scripts
versions_back m scripts lines s zero sum some most late =
    select_back m scripts lines s (omega arith) (omega arith) late ∙ select_late (suc (length scripts)) m lines s
    (omega arith) late
versions_back m [] lines s (suc n) sum some most late = absurd (omega arith)
versions_back m (changes ∷ scripts) lines s (suc n) sum some most late =
    let first = suc (suc (length scripts)) in
    versions_back m scripts (turned first changes lines) s n (omega arith) some (omega arith)
    (late_turned (suc (length scripts)) m changes lines (omega arith) late)
    ∙ ap (λ text. revision_text n text scripts) (open_turned (suc (length scripts)) changes lines)

pub version_lines : (head : List (List ℕ)) (scripts : List (List Change)) (n : ℕ) → n ≤ length scripts
    → select (down (suc (length scripts) - n)) (trunk_lines head scripts) ≡ revision_text n head scripts
version_lines head scripts n le =
    versions_back (suc (length scripts)) scripts (map head_line head) (suc (length scripts) - n) n (omega arith)
    (omega arith) (omega arith) (late_head (suc (length scripts)) (suc (length scripts)) head)
    ∙ ap (λ text. revision_text n text scripts) (open_head head)

-- ---- the set of a serial's version

pub serials_down : (lines : List HistoryLine) (revisions : List Revision) → serials_of (records_of lines revisions)
    ≡ down (length revisions)
serials_down lines [] = refl
serials_down lines (r ∷ revisions) = ap (λ l. suc (length revisions) ∷ l) (serials_down lines revisions)

pub live_down : (lines : List HistoryLine) (revisions : List Revision) → live_serials (records_of lines revisions)
    ≡ down (length revisions)
live_down lines [] = refl
live_down lines (r ∷ revisions) = ap (λ l. suc (length revisions) ∷ l) (live_down lines revisions)

path_down : (lines : List HistoryLine) (s : ℕ) (revisions : List Revision) → s ≤ length revisions
    → path s (records_of lines revisions) ≡ down s
path_down lines zero [] le = refl
path_down lines (suc s) [] le = absurd (omega arith)
path_down lines s (r ∷ revisions) le = by_test (suc (length revisions) == s) refl
    (path_down lines (length revisions) revisions (omega arith)) (λ low. path_down lines s revisions low)
  where
    by_test : (t : Bool) → (suc (length revisions) == s) ≡ t → path (length revisions) (records_of lines revisions)
        ≡ down (length revisions)
        → (s ≤ length revisions → path s (records_of lines revisions) ≡ down s)
        → front_if t (suc (length revisions)) (path (cond t (length revisions) s) (records_of lines revisions)) ≡ down s
    by_test true e here later =
        ap (λ l. suc (length revisions) ∷ l) here ∙ ap down (Rattle.std.proofs.lemmas.Bool.eqb-true
        (suc (length revisions)) s e)
    by_test false e here later = later (omega (arith, apart (suc (length revisions)) s e))
      where
        apart : (a b : ℕ) → (a == b) ≡ false → a ≡ b → ⊥
        apart a b e same = Rattle.std.proofs.lemmas.Bool.false≢true (sym e ∙ eq-eqb a b same)

-- records without lists name no serial
abbrev HasNoLists : Record → Type 0
HasNoLists r = (r.include ≡ []) × (r.exclude ≡ [])

named_none : (rs : List Record) (n : ℕ) → AllByRecursion HasNoLists rs → named rs n ≡ None
named_none [] n none = refl
named_none (r ∷ rs) n none =
    ap (λ i. listed i r.exclude n (named rs n)) none.0.0 ∙ (ap (λ x. listed [] x n (named rs n)) none.0.1
    ∙ named_none rs n none.1)

none_more : (rs : List Record) (r : Record) → AllByRecursion HasNoLists rs → HasNoLists r → AllByRecursion HasNoLists
    (rs ++ r ∷ [])
none_more [] r none here = (here, tt)
none_more (a ∷ rs) r none here = (none.0, none_more rs r none.1 here)

says_trunk : (lines : List HistoryLine) (s : ℕ) (above : List Record) (below : ℕ) (r : Revision)
    → AllByRecursion HasNoLists above
    → says (version_of s) (down s) above (record_of lines below r) ≡ has (down s) (suc below)
says_trunk lines s above below r none = ap (λ o. unwrap_or o (has (down s) (suc below)))
    (named_none above (suc below) none)

-- where all serials are in the set, it is all of them
applied_all : (lines : List HistoryLine) (s : ℕ) (above : List Record) (revisions : List Revision)
    → AllByRecursion HasNoLists above → length revisions ≤ s
    → applied_below (version_of s) (down s) above (records_of lines revisions) ≡ down (length revisions)
applied_all lines s above [] none le = refl
applied_all lines s above (r ∷ revisions) none le =
    let here : says (version_of s) (down s) above (record_of lines (length revisions) r) ≡ true =
    says_trunk lines s above (length revisions) r none ∙ down_has s (suc (length revisions)) (omega arith) le in
    ap (λ t. front_if t (suc (length revisions)) (applied_below (version_of s) (down s)
    (cond t (above ++ record_of lines (length revisions) r ∷ []) above) (records_of lines revisions))) here
    ∙ ap (λ l. suc (length revisions) ∷ l) (applied_all lines s (above ++ record_of lines (length revisions) r ∷ [])
    revisions (none_more above (record_of lines (length revisions) r) none (refl, refl)) (omega arith))

applied_down : (lines : List HistoryLine) (s : ℕ) (revisions : List Revision) → s ≤ length revisions
    → applied_below (version_of s) (down s) [] (records_of lines revisions) ≡ down s
applied_down lines s [] le = ap down (sym zero_is)
  where
    zero_is : s ≡ 0
    zero_is = omega arith
applied_down lines s (r ∷ revisions) le =
    by_place (Rattle.std.proofs.lemmas.Bool.cases_lt s (suc (length revisions)))
    (λ low. applied_down lines s revisions low)
  where
    by_place : (s < suc (length revisions)) ⊎ (suc (length revisions) ≤ s)
        → (s ≤ length revisions → applied_below (version_of s) (down s) [] (records_of lines revisions) ≡ down s)
        → applied_below (version_of s) (down s) [] (records_of lines (r ∷ revisions)) ≡ down s
    by_place (inl lt) later =
        let here : says (version_of s) (down s) [] (record_of lines (length revisions) r) ≡ false =
        says_trunk lines s [] (length revisions) r tt ∙ down_lacks s (suc (length revisions)) lt in
        ap (λ t. front_if t (suc (length revisions)) (applied_below (version_of s) (down s)
        (cond t (record_of lines (length revisions) r ∷ []) []) (records_of lines revisions))) here
        ∙ later (omega arith)
    by_place (inr ge) later =
        let same : suc (length revisions) ≡ s = omega arith in
        applied_all lines s [] (r ∷ revisions) tt ge ∙ ap down same

pub applied_is : (lines : List HistoryLine) (s : ℕ) (revisions : List Revision) → s ≤ length revisions
    → applied (version_of s) (records_of lines revisions) ≡ down s
applied_is lines s revisions le =
    ap (λ way. applied_below (version_of s) way [] (records_of lines revisions)) (path_down lines s revisions le)
    ∙ applied_down lines s revisions le

pub trunk_version : (revisions : List Revision) (head : List (List ℕ)) (scripts : List (List Change)) (n : ℕ)
    → length revisions ≡ suc (length scripts) → n ≤ length scripts
    → version (length revisions - n) (records_of (trunk_lines head scripts) revisions) (trunk_lines head scripts)
    ≡ revision_text n head scripts
trunk_version revisions head scripts n same le =
    ap (λ set. select set (trunk_lines head scripts)) (applied_is (trunk_lines head scripts) (length revisions - n)
    revisions (omega arith) ∙ ap (λ k. down (k - n)) same)
    ∙ version_lines head scripts n le
