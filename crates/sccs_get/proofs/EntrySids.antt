-- The SIDs of a new entry are SIDs.
use Rattle.std.proofs.Common.{◌≡◌, ℕ, suc, zero, ◌+◌, ◌==◌, nat_lt, Bool, true, false, cond, ◌&&◌, ◌||◌, List, [], ◌∷◌}
use Rattle.std.proofs.Common.{Option, None, Some, refl, sym, ap, subst, ◌∙◌, arith}
use Rattle.std.specs.Prelude.{option_map, option_and_then, IfSome}
use Rattle.std.specs.List.{AllByRecursion}
use Rattle.std.proofs.lemmas.Bool.{ltb-true}
use Rattle.sccs_sid.specs.Sid.{IsBranch, IsComponent, IsSid}
use Rattle.sccs_sid.specs.Spec.{IsSpec}
use Rattle.sccs_sid.specs.declared.sids.Sid.{Sid}
use Rattle.sccs_sid.specs.declared.sids.Spec.{Spec}
use Rattle.sccs_sid.specs.declared.sids.Spec.TheVariants.{Release, Branch, Full}
use Rattle.sccs_flags.specs.FlagValues.{has_flag}
use Rattle.sccs_history.specs.FlagText.{flag_b}
use Rattle.sccs_history.specs.History.{HasSpelling}
use Rattle.sccs_history.specs.declared.headers.Header.{Header}
use Rattle.sccs_history.specs.declared.headers.Record.{Record}
use Rattle.sccs_get.specs.NewEntry.{release_asked}
use Rattle.sccs_sets.specs.Made.{is_taken, comes_after, made_on, next, next_level, next_on_line, next_on_trunk}
use Rattle.sccs_sets.specs.Made.{on_new_branch, taken_branch, to_be_made}
use Rattle.sccs_sets.specs.Retrieved.{branch_sid, trunk_sid}
use Rattle.sccs_sets.specs.Sets.{record_at, sid_at}

found_by : (t : Bool) (r : Record) (o : Option Record) (sid : Sid) → HasSpelling r
    → (option_map (λ (x : Record). x.sid) o ≡ Some sid → IsSid sid) → option_map (λ (x : Record). x.sid)
    (cond t (Some r) o) ≡ Some sid → IsSid sid
found_by true r o sid spelled rest is = let e : r.sid ≡ sid = cc in subst IsSid e spelled.sid
found_by false r o sid spelled rest is = rest is

-- the SID of a record that has a spelling
pub sid_there : (records : List Record) (n : ℕ) (sid : Sid) → AllByRecursion HasSpelling records
    → sid_at records n ≡ Some sid → IsSid sid
sid_there [] n sid all is = absurd cc
sid_there (r ∷ rs) n sid all is = found_by (r.serial == n) r (record_at rs n) sid all.0 (sid_there rs n sid all.1) is

component_by : (t : Bool) (n k : ℕ) → nat_lt n 9999 ≡ t → cond t (Some (n + 1)) None ≡ Some k → IsComponent k
component_by true n k low is = let e : n + 1 ≡ k = cc in let l = ltb-true n 9999 low in
    subst IsComponent e (omega (arith, l), omega (arith, l))
component_by false n k low is = absurd cc

next_component : (n k : ℕ) → next n ≡ Some k → IsComponent k
next_component n k is = component_by (nat_lt n 9999) n k refl is

mapped : (f : ℕ → Sid) (o : Option ℕ) (sid : Sid) → ((k : ℕ) → o ≡ Some k → IsSid (f k)) → option_map f o ≡ Some sid
    → IsSid sid
mapped f None sid each is = absurd cc
mapped f (Some k) sid each is = let e : f k ≡ sid = cc in subst IsSid e (each k refl)

branch_of : (k sequence : ℕ) → IsComponent k → IsComponent sequence → IsBranch k sequence
branch_of zero sequence some other = absurd (omega (arith, some.0))
branch_of (suc k) sequence some other = (some.1, other)

new_branch_is : (records : List Record) (reserved : List Sid) (got sid : Sid) → IsSid got
    → on_new_branch records reserved got ≡ Some sid → IsSid sid
new_branch_is records reserved got sid valid is =
    mapped (λ number. branch_sid got.release got.level number 1) (next (taken_branch records reserved got)) sid
    (λ k so. record {
      release = valid.release;
      level = valid.level;
      branch =
          branch_of k 1 (next_component (taken_branch records reserved got) k so) (omega arith, omega arith);
    }) is

level_is : (got sid : Sid) → IsSid got → next_level got ≡ Some sid → IsSid sid
level_is got sid valid is = mapped (λ level. trunk_sid got.release level) (next got.level) sid
    (λ k so. record { release = valid.release; level = next_component got.level k so; branch = refl }) is

release_is : (t : Bool) (got sid : Sid) (release : ℕ) → IsSid got → IsComponent release
    → cond t (Some (trunk_sid release 1)) (next_level got) ≡ Some sid → IsSid sid
release_is true got sid release valid other is = let e : trunk_sid release 1 ≡ sid = cc in
    subst IsSid e (record { release = other; level = (omega arith, omega arith); branch = refl })
release_is false got sid release valid other is = level_is got sid valid is

trunk_is : (got sid : Sid) (spec : Option Spec) → IsSid got → IsComponent (release_asked spec)
    → next_on_trunk got spec ≡ Some sid → IsSid sid
trunk_is got sid None valid asked is = level_is got sid valid is
trunk_is got sid (Some (Release release)) valid asked is = release_is (nat_lt got.release release) got sid release valid
    asked is
trunk_is got sid (Some (Branch r l b)) valid asked is = level_is got sid valid is
trunk_is got sid (Some (Full other)) valid asked is = level_is got sid valid is

line_by : (t : Bool) (got sid : Sid) (spec : Option Spec) → (got.branch == 0) ≡ t → IsSid got
    → IsComponent (release_asked spec) → cond t (next_on_trunk got spec)
    (option_map (λ sequence. branch_sid got.release got.level got.branch sequence) (next got.sequence)) ≡ Some sid
    → IsSid sid
line_by true got sid spec zero_so valid asked is = trunk_is got sid spec valid asked is
line_by false got sid spec some valid asked is =
    mapped (λ sequence. branch_sid got.release got.level got.branch sequence) (next got.sequence) sid
    (λ k so. record {
      release = valid.release;
      level = valid.level;
      branch =
          same_branch got.branch got.sequence k some valid.branch (next_component got.sequence k so);
    }) is
  where
    same_branch : (b s k : ℕ) → (b == 0) ≡ false → IsBranch b s → IsComponent k → IsBranch b k
    same_branch zero s k some valid next_so = absurd cc
    same_branch (suc b) s k some valid next_so = (valid.0, next_so)

made_by : (t : Bool) (records : List Record) (reserved : List Sid) (got sid : Sid) (spec : Option Spec) → IsSid got
    → IsComponent (release_asked spec) → cond t (on_new_branch records reserved got) (next_on_line got spec) ≡ Some sid
    → IsSid sid
made_by true records reserved got sid spec valid asked is = new_branch_is records reserved got sid valid is
made_by false records reserved got sid spec valid asked is = line_by (got.branch == 0) got sid spec refl valid asked is

-- the SID to be made on one that is got is a SID
pub made_sid : (header : Header) (reserved : List Sid) (target : ℕ) (spec : Option Spec) (branch : Bool) (got sid : Sid)
    → sid_at header.records target ≡ Some got → IsSid got → IsComponent (release_asked spec)
    → to_be_made header reserved target spec branch ≡ Some sid → IsSid sid
made_sid header reserved target spec branch got sid at valid asked is =
    made_by ((branch && has_flag header.flags flag_b) || is_taken header.records reserved (comes_after got))
    header.records reserved got sid spec valid asked
    (sym (ap (λ (o : Option Sid). option_and_then (λ on. made_on header.records reserved on spec
    (branch && has_flag header.flags flag_b)) o) at) ∙ is)

-- a release that may be asked for is a component
pub release_of_spec : (o : Option Spec) → IfSome o IsSpec → IsComponent (release_asked o)
release_of_spec None valid = (omega arith, omega arith)
release_of_spec (Some (Release release)) valid = valid
release_of_spec (Some (Branch r l b)) valid = (omega arith, omega arith)
release_of_spec (Some (Full sid)) valid = (omega arith, omega arith)
