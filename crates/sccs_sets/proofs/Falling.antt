-- Deltas of a range in falling order, and the numbers that marks say.
use Rattle.std.proofs.Common.{◌≡◌, ℕ, ◌<◌, ◌==◌, Bool, true, false, not, ◌||◌, List, [], ◌∷◌, ◌++◌, length, reverse}
use Rattle.std.proofs.Common.{slice_index_or, slice_set, Result, Ok, Err, OnOk, refl, sym, ap, ◌∙◌, arith}
use Rattle.std.specs.Prelude.{if◌then◌else◌}
use Rattle.std.proofs.lemmas.List.{reverse-append}
use Rattle.sccs_base.specs.declared.streams.Memory.{Memory}
use Rattle.sccs_history.specs.Numbers.{has}
use Rattle.sccs_sid.specs.declared.sids.Sid.{Sid}
use Rattle.sccs_sets.specs.Naming.{AreMarks, add_new, comes_first, not_after, put_named}
use Rattle.sccs_sets.specs.declared.naming.Named.{Named}
use Rattle.sccs_sets.proofs.OnceNamed.{has_push}
use Rattle.sccs_sets.proofs.Passing.{place_set}
use Rattle.sccs_base.proofs.Bools.{or_none}
use Rattle.std.proofs.lemmas.Bool.{not-true}

-- ---- ranges

pub first_of : (found rest : List Named) (last : Named) (sid : Sid) → found ≡ rest ++ last ∷ []
    → comes_first (reverse found) sid ≡ not (not_after last.sid sid)
first_of found rest last sid is = ap (λ (l : List Named). comes_first (reverse l) sid) is
    ∙ ap (λ (l : List Named). comes_first l sid) (reverse-append rest (last ∷ []))

pub none_first : (found : List Named) (sid : Sid) → length found ≡ 0 → true ≡ comes_first (reverse found) sid
none_first [] sid none = refl
none_first (a ∷ rest) sid none = absurd (omega (arith, none))

put_first : (found : List Named) (q : Named) → comes_first found q.sid ≡ true → put_named found q ≡ q ∷ found
put_first [] q is = refl
put_first (a ∷ rest) q is = ap (λ (t : Bool). if t then a ∷ put_named rest q else q ∷ a ∷ rest)
    (not-true (not_after a.sid q.sid) is)

pub pushed_falls : (old new : List Named) (q : Named) → new ≡ old ++ q ∷ [] → comes_first (reverse old) q.sid ≡ true
    → reverse new ≡ put_named (reverse old) q
pushed_falls old new q is first = ap (λ (l : List Named). reverse l) is ∙ (reverse-append old (q ∷ [])
    ∙ sym (put_first (reverse old) q first))

-- ---- marks

swap_parts : (a b : Bool) → (a || (b || false)) ≡ (a || b)
swap_parts true b = refl
swap_parts false true = refl
swap_parts false false = refl

-- one more is marked
marked : (seen new : List ℕ) (marks marks2 : List Bool) (n : ℕ) → AreMarks seen marks → n < length marks
    → marks2 ≡ slice_set marks n true → new ≡ seen ++ n ∷ [] → AreMarks new marks2
marked seen new marks marks2 n are low set is m =
    ap (λ (l : List Bool). slice_index_or l m false) set
    ∙ (sym (or_none (slice_index_or (slice_set marks n true) m false))
    ∙ (sym (place_set marks n m false low)
    ∙ (swap_parts (slice_index_or marks m false) (n == m)
    ∙ (ap (λ (b : Bool). b || n == m) (are m)
    ∙ (sym (has_push seen n m) ∙ sym (ap (λ (l : List ℕ). has l m) is))))))

-- a number that isn't there is added
added : (seen new : List ℕ) (n : ℕ) → has seen n ≡ false → new ≡ seen ++ n ∷ [] → new ≡ add_new seen n
added seen new n other is = is ∙ sym (ap (λ (t : Bool). if t then seen else seen ++ n ∷ []) other)

pub added_ok : (r : Result (Unit {0}) Memory) (seen new : List ℕ) (n : ℕ) → has seen n ≡ false
    → OnOk r (new ≡ seen ++ n ∷ []) → OnOk r (new ≡ add_new seen n)
added_ok (Ok done) seen new n other is = added seen new n other is
added_ok (Err fault) seen new n other is = tt

pub marked_ok : (r : Result (Unit {0}) Memory) (seen new : List ℕ) (marks marks2 : List Bool) (n : ℕ)
    → AreMarks seen marks → n < length marks → marks2 ≡ slice_set marks n true → OnOk r (new ≡ seen ++ n ∷ [])
    → OnOk r (AreMarks new marks2)
marked_ok (Ok done) seen new marks marks2 n are low set is = marked seen new marks marks2 n are low set is
marked_ok (Err fault) seen new marks marks2 n are low set is = tt
