-- The entries that are read of a group's lines are of different names, one at least and a thousand at most.
use Rattle.std.proofs.Common.{◌≡◌, ◌<◌, ◌≤◌, ◌+◌, ◌&&◌, ◌||◌, ℕ, zero, suc, Bool, true, false, not, nat_lt, List, []}
use Rattle.std.proofs.Common.{◌∷◌, ◌++◌, length, Option, None, Some, IfSome, Result, Ok, refl, ap, subst, ◌∙◌, arith}
use Rattle.std.specs.Result.{IfOk}
use Rattle.std.proofs.lemmas.Bool.{ltb-true, or_from}
use Rattle.std.proofs.lemmas.List.{length-append}
use Rattle.std.specs.Str.{bytes_eq}
use Rattle.sccs_base.proofs.SameBytes.{bytes_eq_sym}
use Rattle.sccs_sid.specs.Reading.{only}
use Rattle.sccs_batch.specs.Entries.{◌>>=◌}
use Rattle.sccs_batch.specs.declared.texts.Counts.{Counts}
use Rattle.sccs_group_command.specs.GroupText.{Found, entry_at, entry_with, fits_behind, go_on, group_from, group_of}
use Rattle.sccs_group_command.specs.GroupText.{has_name, head_of, some_of}
use Rattle.sccs_group_command.specs.declared.entries.GroupEntry.{GroupEntry}
use Rattle.sccs_group_command.specs.GroupStep.{names_of}
use Rattle.sccs_group_command.specs.Preparing.{AreDifferent, AreGrouped, is_among}
use Rattle.sccs_base.proofs.Bools.{right_false, left_false}

-- ---- one entry more

among_more : (es : List GroupEntry) (e : GroupEntry) (n : List ℕ) → is_among (names_of es) n ≡ false
    → bytes_eq e.name n ≡ false → is_among (names_of (es ++ e ∷ [])) n ≡ false
among_more [] e n apart other = let last : (bytes_eq e.name n || false) ≡ false = ap (λ (b : Bool). b || false) other in
    last
among_more (a ∷ es) e n apart other = or_from (bytes_eq a.name n) (is_among (names_of (es ++ e ∷ [])) n)
    (left_false (bytes_eq a.name n) _ apart) (among_more es e n (right_false (bytes_eq a.name n) _ apart) other)

different_more : (es : List GroupEntry) (e : GroupEntry) → AreDifferent (names_of es) → has_name es e.name ≡ false
    → AreDifferent (names_of (es ++ e ∷ []))
different_more [] e different other = (refl, tt)
different_more (a ∷ es) e different other = (
  among_more es e a.name different.0 (bytes_eq_sym e.name a.name ∙ left_false (bytes_eq a.name e.name) _ other),
  different_more es e different.1 (right_false (bytes_eq a.name e.name) _ other),
)

length_more : (es : List GroupEntry) (e : GroupEntry) → length es < 1000 → length (es ++ e ∷ []) ≤ 1000
length_more es e low = let more : length (es ++ e ∷ []) ≡ length es + 1 = length-append es (e ∷ []) in
    omega (arith, low, more)

-- ---- what is found fits

any_some : {A B : Type 0} (Q : B → Type 0) (o : Option A) (f : A → Option B) → ((a : A) → IfSome (f a) Q)
    → IfSome (o >>= f) Q
any_some Q None f more = tt
any_some Q (Some a) f more = more a

abbrev Fits : List GroupEntry → Found → Type 0
Fits entries found = fits_behind entries found.0 ≡ true

only_fits : (entries : List GroupEntry) (found : Found) (b : Bool) → fits_behind entries found.0 ≡ b
    → IfSome (only b found) (Fits entries)
only_fits entries found true is = is
only_fits entries found false is = tt

found_fits : (entries : List GroupEntry) (line : List ℕ) (rest : List (List ℕ)) → IfSome (entry_at entries line rest)
    (Fits entries)
found_fits entries line rest =
    any_some (Fits entries) (head_of line) _ (λ (counts : Counts). any_some (Fits entries) (entry_with counts rest) _
    (λ (e : GroupEntry). only_fits entries (e, counts.words + counts.lines) (fits_behind entries e) refl))

and_parts : (b c : Bool) → (b && not c) ≡ true → (b ≡ true) × (c ≡ false)
and_parts true true is = absurd (cc)
and_parts true false is = (refl, refl)
and_parts false c is = absurd (cc)

-- ---- all

goes : (entries : List GroupEntry) (number : ℕ) (o : Option Found) (rest : List GroupEntry → ℕ
    → Result (List GroupEntry) ℕ) → IfSome o (Fits entries) → AreDifferent (names_of entries)
    → ((all : List GroupEntry) (own : ℕ) → AreDifferent (names_of all) → length all ≤ 1000
    → IfOk (rest all own) AreGrouped) → IfOk (go_on entries number o rest) AreGrouped
goes entries number None rest fits different later = tt
goes entries number (Some found) rest fits different later =
    let parts = and_parts (nat_lt (length entries) 1000) (has_name entries found.0.name) fits in
    later (entries ++ found.0 ∷ []) found.1 (different_more entries found.0 different parts.1)
    (length_more entries found.0 (ltb-true (length entries) 1000 parts.0))

some_grouped : (entries : List GroupEntry) → AreDifferent (names_of entries) → length entries ≤ 1000
    → IfOk (some_of entries) AreGrouped
some_grouped [] different few = tt
some_grouped (e ∷ es) different few = record { different = different; some = omega arith; few = few }

grouped_from : (lines : List (List ℕ)) (skip number : ℕ) (entries : List GroupEntry) → AreDifferent (names_of entries)
    → length entries ≤ 1000 → IfOk (group_from skip number entries lines) AreGrouped
grouped_from [] skip number entries different few = some_grouped entries different few
grouped_from (line ∷ lines) zero number entries different few =
    goes entries number (entry_at entries line lines) (λ all own. group_from own (number + 1) all lines)
    (found_fits entries line lines) different (λ all own different2 few2. grouped_from lines own
    (number + 1) all different2 few2)
grouped_from (line ∷ lines) (suc skip) number entries different few =
    grouped_from lines skip (number + 1) entries different few

ok_of : (r : Result (List GroupEntry) ℕ) (entries : List GroupEntry) → IfOk r AreGrouped → r ≡ Ok entries
    → AreGrouped entries
ok_of r entries all is = subst (λ (x : Result (List GroupEntry) ℕ). IfOk x AreGrouped) is all

pub read_grouped : (lines : List (List ℕ)) (entries : List GroupEntry) → group_of lines ≡ Ok entries
    → AreGrouped entries
read_grouped lines entries is = ok_of (group_of lines) entries (grouped_from lines 0 1 [] tt (omega arith)) is
