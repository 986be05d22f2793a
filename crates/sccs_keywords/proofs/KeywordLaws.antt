-- Keywords by their places, and by the parts of a line.
use Rattle.std.proofs.Common.{◌≡◌, ◌≢◌, ℕ, zero, suc, ◌+◌, ◌-◌, ◌<◌, ◌≤◌, ◌==◌, true, false, cond, ◌&&◌, List, [], ◌∷◌}
use Rattle.std.proofs.Common.{◌++◌, Option, None, Some, length, drop, flat_map, get_or, is_some, MatchOption, refl, sym}
use Rattle.std.proofs.Common.{ap, subst, ◌∙◌, inl, inr, length-drop, append_assoc, take, arith}
use Rattle.std.specs.List.{list_any}
use Rattle.std.proofs.Math.Seq.{take-length}
use Rattle.std.proofs.lemmas.Bool.{cases_lt, ne_eqb, false≢true}
use Rattle.std.proofs.lemmas.List.{drop-drop, get_or-drop}
use Rattle.sccs_keywords.specs.Expansion.{expanded, keyword_text, expanded_part}
use Rattle.sccs_keywords.specs.Keywords.{keyword_rest, found_keyword, HasNone, is_keyword, keyword_of, keyword_part}
use Rattle.sccs_keywords.specs.Keywords.{Part, parts, parts_behind, Plain}
use Rattle.sccs_keywords.specs.declared.facts.Facts.{Facts}
use Rattle.sccs_keywords.specs.declared.keywords.Keyword.{Keyword}

-- bytes that begin with no percent sign begin with no keyword
pub found_not : (bytes : List ℕ) → get_or bytes 0 0 ≢ 37 → found_keyword bytes ≡ None
found_not [] other = refl
found_not (a ∷ []) other = refl
found_not (a ∷ letter ∷ []) other = refl
found_not (a ∷ letter ∷ b ∷ bytes) other = ap (λ t. cond (t && (b == 37)) (keyword_of letter) None) (ne_eqb a 37 other)

found_at : (line : List ℕ) (k : ℕ) → get_or line k 0 ≢ 37 → found_keyword (drop k line) ≡ None
found_at line k other = found_not (drop k line) (λ is. other (ap (λ n. get_or line n 0) plain
    ∙ (sym (get_or-drop k line 0 0) ∙ is)))
  where
    plain : k ≡ k + 0
    plain = omega arith

-- no percent sign stands from one place to another
pub none_to : (line : List ℕ) (from n : ℕ) → HasNone line from → ((k : ℕ) → 0 ≤ k → k < n - from
    → get_or (drop from line) k 0 ≢ 37) → HasNone line n
none_to line from n none before k below = elim (cases_lt k from) [
  | inl low ↦ none k low
  | inr high ↦ found_at line k (λ is. before (k - from) (omega arith) (omega arith) (get_or-drop from line (k - from) 0
      ∙ (ap (λ m. get_or line m 0) (same high) ∙ is)))
]
  where
    same : from ≤ k → from + (k - from) ≡ k
    same high = omega (arith, high)

-- and no keyword begins at it
pub none_on : (line : List ℕ) (n : ℕ) → HasNone line n → found_keyword (drop n line) ≡ None → HasNone line (n + 1)
none_on line n none here k below = elim (cases_lt k n) [
  | inl low ↦ none k low
  | inr high ↦ subst (λ m. found_keyword (drop m line) ≡ None) (same high) here
]
  where
    same : n ≤ k → n ≡ k
    same high = omega (arith, high, below)

pub found_rest : (line : List ℕ) (n : ℕ) → found_keyword (take (length line - n) (drop n line)) ≡ found_keyword
    (drop n line)
found_rest line n = ap (λ k. found_keyword (take k (drop n line))) (sym (length-drop n line))
    ∙ ap found_keyword (take-length (drop n line))

pub rest_is : (line : List ℕ) (n : ℕ) → take (length line - n) (drop n line) ≡ drop n line
rest_is line n = ap (λ k. take k (drop n line)) (sym (length-drop n line)) ∙ take-length (drop n line)

-- ---- parts

pub none_there : (line : List ℕ) → HasNone line (length line) → list_any is_keyword (parts line) ≡ false
none_there [] none = refl
none_there (b ∷ line) none =
    ap (λ o. list_any is_keyword (keyword_part b o ∷ parts_behind (keyword_rest o) line)) (none 0 (omega arith))
    ∙ (any_plain b (parts line) ∙ none_there line (λ k below. none (suc k) (omega arith)))
  where
    any_plain : (b : ℕ) (rest : List Part) → list_any is_keyword (Plain b ∷ rest) ≡ list_any is_keyword rest
    any_plain b rest = refl

pub one_there : (line : List ℕ) (n : ℕ) (keyword : Keyword) → HasNone line n → found_keyword (drop n line)
    ≡ Some keyword → list_any is_keyword (parts line) ≡ true
one_there [] zero keyword none is = absurd (no_none keyword is)
  where
    no_none : (keyword : Keyword) → None ≡ Some keyword → ⊥
    no_none keyword e = cc
one_there [] (suc n) keyword none is = absurd (no_none keyword is)
  where
    no_none : (keyword : Keyword) → None ≡ Some keyword → ⊥
    no_none keyword e = cc
one_there (b ∷ line) zero keyword none is =
    ap (λ o. list_any is_keyword (keyword_part b o ∷ parts_behind (keyword_rest o) line)) is
one_there (b ∷ line) (suc n) keyword none is =
    ap (λ o. list_any is_keyword (keyword_part b o ∷ parts_behind (keyword_rest o) line)) (none 0 (omega arith))
    ∙ one_there line n keyword (λ k below. none (suc k) (omega arith)) is

-- the answer of a search tells whether there is one
pub any_found : (line : List ℕ) (r : Option (ℕ × Keyword)) → MatchOption r (HasNone line (length line))
    (λ p. HasNone line p.0 × (found_keyword (drop p.0 line) ≡ Some p.1)) → is_some r ≡ list_any is_keyword (parts line)
any_found line None none = sym (none_there line none)
any_found line (Some p) here = sym (one_there line p.0 p.1 here.0 here.1)

-- a line without keywords stays
pub plain_stays : (f : Facts) (number : ℕ) (line : List ℕ) → list_any is_keyword (parts line) ≡ false
    → expanded f number line ≡ line
plain_stays f number [] none = refl
plain_stays f number (b ∷ line) none = by_found (found_keyword (b ∷ line)) none (plain_stays f number line)
  where
    by_found : (o : Option Keyword) → list_any is_keyword (keyword_part b o ∷ parts_behind (keyword_rest o) line)
        ≡ false → (list_any is_keyword (parts line) ≡ false → expanded f number line ≡ line)
        → flat_map (expanded_part f number) (keyword_part b o ∷ parts_behind (keyword_rest o) line) ≡ b ∷ line
    by_found None none rest = ap (λ l. b ∷ l) (rest none)
    by_found (Some keyword) none rest = absurd (false≢true (sym none))

-- ---- a keyword is replaced

pub found_length : (bytes : List ℕ) (keyword : Keyword) → found_keyword bytes ≡ Some keyword → 3 ≤ length bytes
found_length [] keyword is = absurd (none_is keyword is)
  where
    none_is : (keyword : Keyword) → None ≡ Some keyword → ⊥
    none_is keyword e = cc
found_length (a ∷ []) keyword is = absurd (none_is keyword is)
  where
    none_is : (keyword : Keyword) → None ≡ Some keyword → ⊥
    none_is keyword e = cc
found_length (a ∷ b ∷ []) keyword is = absurd (none_is keyword is)
  where
    none_is : (keyword : Keyword) → None ≡ Some keyword → ⊥
    none_is keyword e = cc
found_length (a ∷ b ∷ c ∷ bytes) keyword is = omega arith

-- of the first keyword and what stands before it and behind it
pub expanded_at : (f : Facts) (number : ℕ) (line : List ℕ) (n : ℕ) (keyword : Keyword) → HasNone line n
    → found_keyword (drop n line) ≡ Some keyword
    → expanded f number line ≡ take n line ++ (keyword_text f number keyword ++ expanded f number
    (drop 3 (drop n line)))
expanded_at f number [] zero keyword none is = absurd (too_short (found_length [] keyword is))
  where
    too_short : 3 ≤ 0 → ⊥
    too_short le = omega (arith, le)
expanded_at f number [] (suc n) keyword none is = absurd (too_short (found_length [] keyword is))
  where
    too_short : 3 ≤ 0 → ⊥
    too_short le = omega (arith, le)
expanded_at f number (a ∷ []) zero keyword none is = absurd (too_short (found_length (a ∷ []) keyword is))
  where
    too_short : 3 ≤ 1 → ⊥
    too_short le = omega (arith, le)
expanded_at f number (a ∷ b ∷ []) zero keyword none is = absurd (too_short (found_length (a ∷ b ∷ []) keyword is))
  where
    too_short : 3 ≤ 2 → ⊥
    too_short le = omega (arith, le)
expanded_at f number (a ∷ b ∷ c ∷ line) zero keyword none is =
    ap (λ o. flat_map (expanded_part f number) (keyword_part a o ∷ parts_behind (keyword_rest o) (b ∷ c ∷ line))) is
expanded_at f number (b ∷ line) (suc n) keyword none is =
    ap (λ o. flat_map (expanded_part f number) (keyword_part b o ∷ parts_behind (keyword_rest o) line))
    (none 0 (omega arith))
    ∙ ap (λ l. b ∷ l) (expanded_at f number line n keyword (λ k below. none (suc k) (omega arith)) is)

pub expanded_none : (f : Facts) (number : ℕ) (line : List ℕ) → HasNone line (length line)
    → expanded f number line ≡ line
expanded_none f number line none = plain_stays f number line (none_there line none)

-- a turn: what was given, the bytes before the keyword, its text and the expansion of the rest
pub turn_text : (f : Facts) (number : ℕ) (line done whole : List ℕ) (from place : ℕ) (keyword : Keyword)
    → HasNone (take (length line - from) (drop from line)) place
    → found_keyword (drop place (take (length line - from) (drop from line))) ≡ Some keyword
    → done ++ expanded f number (drop from line) ≡ whole
    → (done ++ take (from + place - from) (drop from line)) ++ (keyword_text f number keyword ++ expanded f number
    (drop (from + (place + 3)) line)) ≡ whole
turn_text f number line done whole from place keyword none is same =
    let near : from + place - from ≡ place = omega arith in
    let far : from + place + 3 ≡ from + (place + 3) = omega arith in
    let rest : expanded f number (drop from line) ≡ take place (drop from line) ++ (keyword_text f number keyword
    ++ expanded f number (drop 3 (drop place (drop from line)))) =
    expanded_at f number (drop from line) place keyword (subst (λ l. HasNone l place) (rest_is line from) none)
    (subst (λ l. found_keyword (drop place l) ≡ Some keyword) (rest_is line from) is) in
    let behind : drop 3 (drop place (drop from line)) ≡ drop (from + (place + 3)) line =
    ap (λ l. drop 3 l) (drop-drop place from line) ∙ (drop-drop 3 (from + place) line ∙ ap (λ k. drop k line) far) in
    append_assoc done (take (from + place - from) (drop from line)) (keyword_text f number keyword ++ expanded f number
    (drop (from + (place + 3)) line))
    ∙ (ap (λ k. done ++ (take k (drop from line) ++ (keyword_text f number keyword ++ expanded f number
    (drop (from + (place + 3)) line)))) near
    ∙ (ap (λ l. done ++ (take place (drop from line) ++ (keyword_text f number keyword ++ expanded f number l)))
    (sym behind)
    ∙ (ap (λ l. done ++ l) (sym rest) ∙ same)))

-- the end: no keyword is left
pub last_text : (f : Facts) (number : ℕ) (line done whole : List ℕ) (from : ℕ)
    → HasNone (take (length line - from) (drop from line)) (length (take (length line - from) (drop from line)))
    → done ++ expanded f number (drop from line) ≡ whole → done ++ take (length line - from) (drop from line) ≡ whole
last_text f number line done whole from none same =
    ap (λ l. done ++ l) (sym (expanded_none f number (take (length line - from) (drop from line)) none)
    ∙ ap (expanded f number) (rest_is line from)) ∙ same
