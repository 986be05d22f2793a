-- A flag at the place of its letter.
use Rattle.std.proofs.Common.{◌≡◌, ℕ, zero, suc, ◌+◌, ◌<◌, ◌≤◌, nat_lt, ◌==◌, Bool, true, false, cond, not, List, []}
use Rattle.std.proofs.Common.{◌∷◌, ◌++◌, Option, None, Some, length, get_or, set, remove, refl, sym, ap, ◌∙◌, arith}
use Rattle.std.specs.List.{position, position_or_len}
use Rattle.std.proofs.lemmas.Bool.{ltb-false}
use Rattle.std.proofs.lemmas.List.Quantifiers.{position-Some}
use Rattle.sccs_history.specs.declared.headers.Flag.{Flag}
use Rattle.sccs_rules.specs.Flags.{with_flag, without_flag}

abbrev pub is_of : ℕ → Flag → Bool
is_of letter f = f.letter == letter

flag_at : (f : Flag) (flags : List Flag) (i : ℕ) → i < length flags → is_of f.letter (get_or flags i f) ≡ true
    → ((k : ℕ) → k < i → is_of f.letter (get_or flags k f) ≡ false) → with_flag f flags ≡ set flags i f
flag_at f [] i low here none = absurd (omega arith)
flag_at f (g ∷ flags) zero low here none = ap (λ t. cond t (f ∷ flags) (g ∷ with_flag f flags)) here
flag_at f (g ∷ flags) (suc i) low here none =
    ap (λ t. cond t (f ∷ flags) (g ∷ with_flag f flags)) (none 0 (omega arith))
    ∙ ap (λ l. g ∷ l) (flag_at f flags i (omega arith) here (λ k lt. none (suc k) (omega arith)))

pub set_at : (f : Flag) (flags : List Flag) (i : ℕ) → position (is_of f.letter) flags ≡ Some i
    → with_flag f flags ≡ set flags i f
set_at f flags i at = let there = position-Some (is_of f.letter) flags i f at in
    flag_at f flags i there.0 there.1 there.2

gone_at : (letter : ℕ) (d : Flag) (flags : List Flag) (i : ℕ) → i < length flags → is_of letter (get_or flags i d)
    ≡ true → ((k : ℕ) → k < i → is_of letter (get_or flags k d) ≡ false) → without_flag letter flags ≡ remove flags i
gone_at letter d [] i low here none = absurd (omega arith)
gone_at letter d (g ∷ flags) zero low here none = ap (λ t. cond t flags (g ∷ without_flag letter flags)) here
gone_at letter d (g ∷ flags) (suc i) low here none =
    ap (λ t. cond t flags (g ∷ without_flag letter flags)) (none 0 (omega arith))
    ∙ ap (λ l. g ∷ l) (gone_at letter d flags i (omega arith) here (λ k lt. none (suc k) (omega arith)))

pub removed_at : (letter : ℕ) (flags : List Flag) (i : ℕ) → position (is_of letter) flags ≡ Some i
    → without_flag letter flags ≡ remove flags i
removed_at letter flags i at =
    let d : Flag = record { letter = 0; text = [] } in let there = position-Some (is_of letter) flags i d at in
    gone_at letter d flags i there.0 there.1 there.2

none_passes : (t : Bool) (n : ℕ) → cond t (Some n) None ≡ None → t ≡ false
none_passes true n e = cc
none_passes false n e = refl

-- a list in which the letter isn't
record Lacks (letter : ℕ) (flags : List Flag) : Type 0 where
  pushed : (text : List ℕ) → with_flag (record { letter = letter; text = text }) flags ≡ flags
      ++ (record { letter = letter; text = text }) ∷ []
  same : without_flag letter flags ≡ flags

lacks_by : (letter : ℕ) (g : Flag) (flags : List Flag) (t : Bool) (n : ℕ) → t ≡ is_of letter g
    → suc (length flags) ≤ cond (not t) (1 + n) 0 → (length flags ≤ n → Lacks letter flags) → Lacks letter (g ∷ flags)
lacks_by letter g flags true n is past more = absurd (omega arith)
lacks_by letter g flags false n is past more =
    let rest = more (omega arith) in
    record {
      pushed = λ text. ap (λ t. cond t (record { letter = letter; text = text } ∷ flags)
          (g ∷ with_flag (record { letter = letter; text = text }) flags)) (sym is)
          ∙ ap (λ l. g ∷ l) (rest.pushed text);
      same = ap (λ t. cond t flags (g ∷ without_flag letter flags)) (sym is) ∙ ap (λ l. g ∷ l) rest.same;
    }

lacks : (letter : ℕ) (flags : List Flag) → length flags ≤ position_or_len (is_of letter) flags → Lacks letter flags
lacks letter [] past = record { pushed = λ text. refl; same = refl }
lacks letter (g ∷ flags) past = lacks_by letter g flags (is_of letter g) (position_or_len (is_of letter) flags) refl
    past (lacks letter flags)

none_there : (letter : ℕ) (flags : List Flag) → position (is_of letter) flags ≡ None → Lacks letter flags
none_there letter flags none =
    lacks letter flags (ltb-false (position_or_len (is_of letter) flags) (length flags)
    (none_passes (nat_lt (position_or_len (is_of letter) flags) (length flags))
    (position_or_len (is_of letter) flags) none))

pub set_last : (f : Flag) (flags : List Flag) → position (is_of f.letter) flags ≡ None → with_flag f flags ≡ flags
    ++ f ∷ []
set_last f flags none = (none_there f.letter flags none).pushed f.text

pub removed_none : (letter : ℕ) (flags : List Flag) → position (is_of letter) flags ≡ None → without_flag letter flags
    ≡ flags
removed_none letter flags none = (none_there letter flags none).same

pub place_none : (o : Option ℕ) → ((n : ℕ) → o ≡ Some n → ⊥) → o ≡ None
place_none None never = refl
place_none (Some n) never = absurd (never n refl)
