-- A rooted table stays rooted with new deltas that are made on live ones.
use Rattle.std.proofs.Common.{◌≡◌, ℕ, suc, ◌==◌, ◌<◌, Bool, true, false, not, ◌&&◌, ◌||◌, List, [], ◌∷◌, refl, sym}
use Rattle.std.proofs.Common.{subst, ap, ◌∙◌, arith, eq-eqb}
use Rattle.std.specs.List.{AllByRecursion, list_all}
use Rattle.std.proofs.lemmas.Bool.{and_parts, eqb-true, or_left, or_right, and_from}
use Rattle.sccs_history.specs.Applied.{live_serials, newest}
use Rattle.sccs_history.specs.History.{IsRecord, IsTable, is_rooted}
use Rattle.sccs_history.specs.Numbers.{has}
use Rattle.sccs_history.specs.declared.headers.Header.{Header}
use Rattle.sccs_history.specs.declared.headers.Record.{Record}
use Rattle.sccs_records.specs.NewDeltas.{last_of, with_deltas, with_delta, with_record}
use Rattle.sccs_records.specs.declared.new_deltas.NewDelta.{NewDelta}
use Rattle.sccs_rmdel.proofs.KeptVersions.{LiveIn, live_self}

abbrev rooted_in : List ℕ → Record → Bool
rooted_in ls r = r.removed || has (0 ∷ ls) r.predecessor

one_wider : (s p : ℕ) (ls : List ℕ) (removed : Bool) → (removed || has (0 ∷ ls) p) ≡ true
    → (removed || has (0 ∷ s ∷ ls) p) ≡ true
one_wider s p ls true is = refl
one_wider s p ls false is = wider (0 == p) (s == p) (has ls p) is
  where
    wider : (a b c : Bool) → (a || c) ≡ true → (a || (b || c)) ≡ true
    wider true b c is = refl
    wider false b c is = or_right b c is

roots_wider : (s : ℕ) (ls : List ℕ) (records : List Record) → list_all (rooted_in ls) records ≡ true
    → list_all (rooted_in (s ∷ ls)) records ≡ true
roots_wider s ls [] is = is
roots_wider s ls (r ∷ rs) is =
    let parts = and_parts (rooted_in ls r) (list_all (rooted_in ls) rs) is in
    and_from (rooted_in (s ∷ ls) r) (list_all (rooted_in (s ∷ ls)) rs) (one_wider s r.predecessor ls r.removed parts.0)
    (roots_wider s ls rs parts.1)

-- one more delta, on a live one or on 0
rooted_more : (records : List Record) (on : ℕ) (d : NewDelta) → is_rooted records ≡ true
    → has (0 ∷ live_serials records) on ≡ true → is_rooted (with_record records on d) ≡ true
rooted_more records on d rooted live =
    ap (λ t. t && list_all (rooted_in (suc (newest records) ∷ live_serials records)) records)
    (one_wider (suc (newest records)) on (live_serials records) false live)
    ∙ roots_wider (suc (newest records)) (live_serials records) records rooted

own_live : (header : Header) (on : ℕ) (d : NewDelta) → has (0 ∷ live_serials (with_delta header on d).records)
    (suc (newest header.records)) ≡ true
own_live header on d =
    or_right (0 == suc (newest header.records)) (has (live_serials (with_delta header on d).records)
    (suc (newest header.records)))
    (or_left (suc (newest header.records) == suc (newest header.records)) (has (live_serials header.records)
    (suc (newest header.records))) (eq-eqb (suc (newest header.records)) (suc (newest header.records)) refl))

-- deltas one after the other
pub rooted_in_turn : (header : Header) (on : ℕ) (ds : List NewDelta) → is_rooted header.records ≡ true
    → has (0 ∷ live_serials header.records) on ≡ true → is_rooted (with_deltas header on ds).records ≡ true
rooted_in_turn header on [] rooted live = rooted
rooted_in_turn header on (d ∷ ds) rooted live =
    rooted_in_turn (with_delta header on d) (suc (newest header.records)) ds
    (rooted_more header.records on d rooted live) (own_live header on d)

-- the last one is live
pub last_live : (header : Header) (on : ℕ) (ds : List NewDelta) → has (0 ∷ live_serials header.records) on ≡ true
    → has (0 ∷ live_serials (with_deltas header on ds).records) (last_of on (newest header.records) ds) ≡ true
last_live header on [] live = live
last_live header on (d ∷ ds) live = last_live (with_delta header on d) (suc (newest header.records)) ds
    (own_live header on d)

-- ---- a table whose one live delta is the first

zero_base : (n p : ℕ) (b : Bool) → (1 == n || false) ≡ true → p < n → ((0 == p) || b) ≡ true
zero_base n p b one below = or_left (0 == p) b (eq-eqb 0 p (none (eqb-true 1 n (only (1 == n) one))))
  where
    only : (t : Bool) → (t || false) ≡ true → t ≡ true
    only true is = refl
    only false is = is

    none : 1 ≡ n → 0 ≡ p
    none same = omega (arith, same, below)

one_each : (all records : List Record) → AllByRecursion (IsRecord all) records
    → AllByRecursion (LiveIn (1 ∷ [])) records → list_all (rooted_in (1 ∷ [])) records ≡ true
one_each all [] each live = refl
one_each all (r ∷ rs) each live = ap (λ t. t && list_all (rooted_in (1 ∷ [])) rs) (by r.removed refl)
    ∙ one_each all rs each.1 live.1
  where
    by : (t : Bool) → r.removed ≡ t → (t || has (0 ∷ 1 ∷ []) r.predecessor) ≡ true
    by true is = refl
    by false is = zero_base r.serial r.predecessor (has (1 ∷ []) r.predecessor) (live.0 ∙ ap not is) each.0.older

pub first_rooted : (records : List Record) → IsTable records → live_serials records ≡ 1 ∷ [] → is_rooted records ≡ true
first_rooted records table only =
    subst (λ ls. list_all (rooted_in ls) records ≡ true) (sym only) (one_each records records table.each
    (subst (λ ls. AllByRecursion (LiveIn ls) records) only (live_self records 65536 table.falls)))
