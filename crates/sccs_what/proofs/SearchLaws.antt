-- What the steps of a search give and owe, whatever bytes come behind a piece.
use Rattle.std.proofs.Common.{◌≡◌, ◌≢◌, ℕ, ◌+◌, ◌-◌, ◌<◌, ◌≤◌, Bool, true, false, cond, List, [], ◌∷◌, ◌++◌, length}
use Rattle.std.proofs.Common.{take, drop, flat_map, get_or, length-take, Option, Result, Ok, Err, refl, sym, ap, subst}
use Rattle.std.proofs.Common.{◌∙◌, arith, append_assoc, append-nil, length-drop}
use Rattle.std.specs.Prelude.{IsErrAnd, not}
use Rattle.std.proofs.lemmas.Bool.{ltb-true}
use Rattle.std.proofs.lemmas.List.{drop-drop}
use Rattle.std.proofs.Math.Seq.{take-length}
use Rattle.sccs_base.specs.Constants.{lf}
use Rattle.sccs_base.specs.Stream.{Buffers, GivesSome}
use Rattle.sccs_base.specs.declared.streams.Failed.{Failed}
use Rattle.sccs_base.proofs.Gifts.{buffers_both, buffers_none, buffers_then, some_longer}
use Rattle.sccs_sid.specs.Reading.{is_empty}
use Rattle.sccs_what.specs.Texts.{is_marked, marked_lines, only_first, text_line, texts_behind_marks, until_end}
use Rattle.sccs_what.specs.Owed.{Searches, SearchesPiece, behind_text, finds, search_is_over, last_end, later_lines}
use Rattle.sccs_what.specs.Owed.{what_owed, was_found, work_left}
use Rattle.sccs_what.specs.declared.searches.Search.{Search}
use Rattle.sccs_what.specs.declared.searches.Search.TheVariants.{Unfound, Giving, Found}
use Rattle.sccs_what.proofs.TextLaws.{behind_ends, behind_goes_on, text_ends, text_goes_on, texts_marked, texts_past}
use Rattle.sccs_what.proofs.TextLaws.{texts_short, texts_unmarked}

drop_all : (t : List ℕ) → drop (length t) t ≡ []
drop_all [] = refl
drop_all (b ∷ t) = drop_all t

-- less is left where bytes were taken
pub less_left : (s s2 : Search) (bytes : List ℕ) (used : ℕ) → 0 < used → used ≤ length bytes
    → work_left s2 (drop used bytes) < work_left s bytes
less_left Unfound Unfound bytes used some within = omega (arith, length-drop used bytes)
less_left Unfound Giving bytes used some within = omega (arith, length-drop used bytes)
less_left Unfound Found bytes used some within = omega (arith, length-drop used bytes)
less_left Giving Unfound bytes used some within = omega (arith, length-drop used bytes)
less_left Giving Giving bytes used some within = omega (arith, length-drop used bytes)
less_left Giving Found bytes used some within = omega (arith, length-drop used bytes)
less_left Found Unfound bytes used some within = omega (arith, length-drop used bytes)
less_left Found Giving bytes used some within = omega (arith, length-drop used bytes)
less_left Found Found bytes used some within = omega (arith, length-drop used bytes)

-- a prefix of the front of what is owed
pub some_owed : (held text more whole : List ℕ) (a b : Option (List ℕ)) → text ++ more ≡ whole
    → GivesSome a b (held ++ text) → GivesSome a b (held ++ whole)
some_owed held text more whole a b is some = subst (λ t. GivesSome a b t) (append_assoc held text more
    ∙ ap (λ t. held ++ t) is) (some_longer a b (held ++ text) more some)

-- ---- a text is being given

given_on : (first : Bool) (t rest : List ℕ) → length (until_end t) ≡ length t → t ++ what_owed first Giving rest
    ≡ what_owed first Giving (t ++ rest)
given_on first t rest whole =
    sym (append_assoc t (until_end rest) (lf ∷ later_lines first (behind_text rest)))
    ∙ (ap (λ x. x ++ (lf ∷ later_lines first (behind_text rest))) (sym (text_goes_on t rest whole))
    ∙ ap (λ x. until_end (t ++ rest) ++ (lf ∷ later_lines first x)) (sym (behind_goes_on t rest whole)))

given_end : (first : Bool) (t rest : List ℕ) → length (until_end t) < length t → (until_end t ++ lf ∷ [])
    ++ later_lines first (behind_text t ++ rest) ≡ what_owed first Giving (t ++ rest)
given_end first t rest short =
    append_assoc (until_end t) (lf ∷ []) (later_lines first (behind_text t ++ rest))
    ∙ (ap (λ x. x ++ (lf ∷ later_lines first (behind_text t ++ rest))) (sym (text_ends t rest short))
    ∙ ap (λ x. until_end (t ++ rest) ++ (lf ∷ later_lines first x)) (sym (behind_ends t rest short)))

pub goes_on : (first : Bool) (t text : List ℕ) (used : ℕ) (held held2 : List ℕ) (a b : Option (List ℕ))
    → used ≡ length (until_end t) → used ≡ length t → text ≡ t → Buffers held text held2 a b
    → Searches first t used Giving Giving held held2 a b
goes_on first t text used held held2 a b is all same gives = record {
  text = t;
  gives = subst (λ x. Buffers held x held2 a b) same gives;
  owes = λ rest. ap (λ n. t ++ what_owed first Giving (drop n t ++ rest)) all
      ∙ (ap (λ x. t ++ what_owed first Giving (x ++ rest)) (drop_all t) ∙ given_on first t rest (sym is ∙ all));
  keeps = λ rest. refl;
  within = omega (arith, all);
}

pub goes_on_cut : (first : Bool) (t text : List ℕ) (used : ℕ) (held : List ℕ) (a b : Option (List ℕ))
    → used ≡ length (until_end t) → used ≡ length t → text ≡ t → GivesSome a b (held ++ text) → (rest : List ℕ)
    → GivesSome a b (held ++ what_owed first Giving (t ++ rest))
goes_on_cut first t text used held a b is all same some rest = some_owed held t (what_owed first Giving rest)
    (what_owed first Giving (t ++ rest)) a b (given_on first t rest (sym is ∙ all))
    (subst (λ x. GivesSome a b (held ++ x)) same some)

pub ends : (first : Bool) (t text : List ℕ) (used : ℕ) (held held2 : List ℕ) (a b : Option (List ℕ))
    → used ≡ length (until_end t) → used < length t → text ≡ until_end t ++ lf ∷ [] → Buffers held text held2 a b
    → Searches first t used Giving Found held held2 a b
ends first t text used held held2 a b is short same gives = record {
  text = until_end t ++ lf ∷ [];
  gives = subst (λ x. Buffers held x held2 a b) same gives;
  owes = λ rest. ap (λ n. (until_end t ++ lf ∷ []) ++ later_lines first (drop n t ++ rest)) is ∙ given_end first t rest
      (subst (λ n. n < length t) is short);
  keeps = λ rest. refl;
  within = omega (arith, short);
}

pub ends_cut : (first : Bool) (t text : List ℕ) (used : ℕ) (held : List ℕ) (a b : Option (List ℕ))
    → used ≡ length (until_end t) → used < length t → text ≡ until_end t ++ lf ∷ [] → GivesSome a b (held ++ text)
    → (rest : List ℕ) → GivesSome a b (held ++ what_owed first Giving (t ++ rest))
ends_cut first t text used held a b is short same some rest =
    some_owed held (until_end t ++ lf ∷ []) (later_lines first (behind_text t ++ rest))
    (what_owed first Giving (t ++ rest)) a b (given_end first t rest (subst (λ n. n < length t) is short))
    (subst (λ x. GivesSome a b (held ++ x)) same some)

-- ---- a mark is looked for

-- bytes in which no mark begins were passed
passes : (first : Bool) (s : Search) (bytes : List ℕ) (used : ℕ) (held : List ℕ) (a : Option (List ℕ)) → s ≢ Giving
    → used ≤ length bytes → ((rest : List ℕ) → texts_behind_marks (drop used bytes ++ rest) ≡ texts_behind_marks
    (bytes ++ rest)) → Searches first bytes used s s held held a a
passes first s bytes used held a seeks within same = record {
  text = [];
  gives = buffers_none held a;
  owes = λ rest. owes_same s seeks rest;
  keeps = λ rest. keeps_same s seeks rest;
  within = within;
}
  where
    owes_same : (s : Search) → s ≢ Giving → (rest : List ℕ) → what_owed first s (drop used bytes ++ rest)
        ≡ what_owed first s (bytes ++ rest)
    owes_same Unfound seeks rest = ap (λ ts. flat_map text_line (only_first first ts)) (same rest)
    owes_same Giving seeks rest = absurd (seeks refl)
    owes_same Found seeks rest = ap (λ ts. cond first [] (flat_map text_line (only_first first ts))) (same rest)

    keeps_same : (s : Search) → s ≢ Giving → (rest : List ℕ) → finds s (drop used bytes ++ rest) ≡ finds s
        (bytes ++ rest)
    keeps_same Unfound seeks rest = ap (λ (ts : List (List ℕ)). not (is_empty ts)) (same rest)
    keeps_same Giving seeks rest = absurd (seeks refl)
    keeps_same Found seeks rest = refl

pub passes_to : (first : Bool) (s : Search) (bytes : List ℕ) (at : ℕ) (held : List ℕ) (a : Option (List ℕ)) → s ≢ Giving
    → at ≤ length bytes → ((j : ℕ) → j < at → get_or bytes j 0 ≢ 64) → Searches first bytes at s s held held a a
passes_to first s bytes at held a seeks within before = passes first s bytes at held a seeks within
    (λ rest. texts_past at bytes rest before)

pub passes_one : (first : Bool) (s : Search) (bytes : List ℕ) (at : ℕ) (held : List ℕ) (a : Option (List ℕ))
    → s ≢ Giving → at + 4 ≤ length bytes → ((j : ℕ) → j < at → get_or bytes j 0 ≢ 64) → is_marked (drop at bytes)
    ≡ false → Searches first bytes (at + 1) s s held held a a
passes_one first s bytes at held a seeks within before none =
    passes first s bytes (at + 1) held a seeks (omega arith)
    (λ rest. ap (λ (l : List ℕ). texts_behind_marks (l ++ rest)) (sym (drop-drop 1 at bytes))
    ∙ (texts_unmarked (drop at bytes) rest (omega (arith, length-drop at bytes)) none
    ∙ texts_past at bytes rest before))

first_line : (first : Bool) (text : List ℕ) (ts : List (List ℕ)) → flat_map text_line (only_first first (text ∷ ts)) ≡ 9
    ∷ (text ++ (lf ∷ cond first [] (flat_map text_line (only_first first ts))))
first_line true text ts = ap (λ (l : List ℕ). 9 ∷ l) (append-nil (text ++ lf ∷ []))
first_line false text ts = ap (λ (l : List ℕ). 9 ∷ l) (append_assoc text (lf ∷ []) (flat_map text_line ts))

marked_owes : (first : Bool) (s : Search) (bytes more : List ℕ) → search_is_over first s bytes ≡ false → s ≢ Giving
    → texts_behind_marks more ≡ texts_behind_marks more → what_owed first s more ≡ marked_lines first more
marked_owes first Unfound bytes more seeks other is = refl
marked_owes first Giving bytes more seeks other is = absurd (other refl)
marked_owes true Found bytes more seeks other is = absurd (cc)
marked_owes false Found bytes more seeks other is = refl

marked_texts : (bytes rest : List ℕ) (at : ℕ) → at + 4 ≤ length bytes → ((j : ℕ) → j < at → get_or bytes j 0 ≢ 64)
    → is_marked (drop at bytes) ≡ true
    → texts_behind_marks (bytes ++ rest) ≡ until_end (drop (at + 4) bytes ++ rest) ∷ texts_behind_marks
    (behind_text (drop (at + 4) bytes ++ rest))
marked_texts bytes rest at within before marked =
    sym (texts_past at bytes rest before)
    ∙ (texts_marked (drop at bytes) rest (omega (arith, length-drop at bytes)) marked
    ∙ ap (λ (l : List ℕ). until_end (l ++ rest) ∷ texts_behind_marks (behind_text (l ++ rest))) (drop-drop 4 at bytes))

mark_owes : (first : Bool) (s : Search) (bytes rest : List ℕ) (at : ℕ) → search_is_over first s bytes ≡ false
    → s ≢ Giving → at + 4 ≤ length bytes → ((j : ℕ) → j < at → get_or bytes j 0 ≢ 64) → is_marked (drop at bytes) ≡ true
    → 9 ∷ what_owed first Giving (drop (at + 4) bytes ++ rest) ≡ what_owed first s (bytes ++ rest)
mark_owes first s bytes rest at seeks other within before marked =
    sym (first_line first (until_end (drop (at + 4) bytes ++ rest))
    (texts_behind_marks (behind_text (drop (at + 4) bytes ++ rest))))
    ∙ (ap (λ ts. flat_map text_line (only_first first ts)) (sym (marked_texts bytes rest at within before marked))
    ∙ sym (marked_owes first s bytes (bytes ++ rest) seeks other refl))

pub marks : (first : Bool) (s : Search) (bytes : List ℕ) (at : ℕ) (held held2 : List ℕ) (a b : Option (List ℕ))
    → search_is_over first s bytes ≡ false → s ≢ Giving → at + 4 ≤ length bytes
    → ((j : ℕ) → j < at → get_or bytes j 0 ≢ 64) → is_marked (drop at bytes) ≡ true
    → Buffers held (9 ∷ []) held2 a b → Searches first bytes (at + 4) s Giving held held2 a b
marks first s bytes at held held2 a b seeks other within before marked gives = record {
  text = 9 ∷ [];
  gives = gives;
  owes = λ rest. mark_owes first s bytes rest at seeks other within before marked;
  keeps = λ rest. keeps_so s other rest;
  within = within;
}
  where
    keeps_so : (s : Search) → s ≢ Giving → (rest : List ℕ) → true ≡ finds s (bytes ++ rest)
    keeps_so Unfound other rest = sym (ap (λ (ts : List (List ℕ)). not (is_empty ts))
        (marked_texts bytes rest at within before marked))
    keeps_so Giving other rest = absurd (other refl)
    keeps_so Found other rest = refl

pub marks_cut : (first : Bool) (s : Search) (bytes : List ℕ) (at : ℕ) (held : List ℕ) (a b : Option (List ℕ))
    → search_is_over first s bytes ≡ false → s ≢ Giving → at + 4 ≤ length bytes
    → ((j : ℕ) → j < at → get_or bytes j 0 ≢ 64) → is_marked (drop at bytes) ≡ true
    → GivesSome a b (held ++ 9 ∷ []) → (rest : List ℕ) → GivesSome a b (held ++ what_owed first s (bytes ++ rest))
marks_cut first s bytes at held a b seeks other within before marked some rest =
    some_owed held (9 ∷ []) (what_owed first Giving (drop (at + 4) bytes ++ rest)) (what_owed first s (bytes ++ rest)) a
    b (mark_owes first s bytes rest at seeks other within before marked) some

-- ---- steps one after the other

pub begins : (first : Bool) (bytes : List ℕ) (s : Search) (held : List ℕ) (a : Option (List ℕ))
    → Searches first bytes 0 s s held held a a
begins first bytes s held a = record {
  text = [];
  gives = buffers_none held a;
  owes = λ rest. refl;
  keeps =
      λ rest. refl;
  within = omega arith;
}

pub both : (first : Bool) (bytes : List ℕ) (at used : ℕ) (s s1 s2 : Search) (held h1 h2 : List ℕ)
    (a m b : Option (List ℕ)) → Searches first bytes at s s1 held h1 a m → Searches first (drop at bytes) used s1 s2 h1
    h2 m b → Searches first bytes (at + used) s s2 held h2 a b
both first bytes at used s s1 s2 held h1 h2 a m b one two = record {
  text = one.text ++ two.text;
  gives = buffers_both held one.text h1 two.text h2 a m b one.gives two.gives;
  owes = λ rest.
      append_assoc one.text two.text (what_owed first s2 (drop (at + used) bytes ++ rest))
      ∙ (ap (λ (l : List ℕ). one.text ++ (two.text ++ what_owed first s2 (l ++ rest))) (sym (drop-drop used at bytes))
      ∙ (ap (λ (l : List ℕ). one.text ++ l) (two.owes rest) ∙ one.owes rest));
  keeps = λ rest. ap (λ (l : List ℕ). finds s2 (l ++ rest)) (sym (drop-drop used at bytes))
      ∙ (two.keeps rest ∙ one.keeps rest);
  within = omega (arith, one.within, two.within, length-drop at bytes);
}

pub then_cut : (first : Bool) (bytes : List ℕ) (at : ℕ) (s s1 : Search) (held h1 : List ℕ) (a m b : Option (List ℕ))
    → Searches first bytes at s s1 held h1 a m
    → ((rest : List ℕ) → GivesSome m b (h1 ++ what_owed first s1 (drop at bytes ++ rest))) → (rest : List ℕ)
    → GivesSome a b (held ++ what_owed first s (bytes ++ rest))
then_cut first bytes at s s1 held h1 a m b one cut rest =
    subst (λ (l : List ℕ). GivesSome a b (held ++ l)) (one.owes rest) (buffers_then held one.text h1
    (what_owed first s1 (drop at bytes ++ rest)) a m b one.gives (cut rest))

pub rest_is : (line : List ℕ) (n : ℕ) → take (length line - n) (drop n line) ≡ drop n line
rest_is line n = ap (λ k. take k (drop n line)) (sym (length-drop n line)) ∙ take-length (drop n line)

-- ---- the end of a file

pub owed_at_end : (first : Bool) (s : Search) (bytes : List ℕ) → search_is_over first s bytes ≡ true
    → what_owed first s bytes ≡ last_end s
owed_at_end first Unfound bytes over = ap (λ ts. flat_map text_line (only_first first ts))
    (texts_short bytes (ltb-true (length bytes) 4 over)) ∙ nothing first
  where
    nothing : (first : Bool) → flat_map text_line (only_first first []) ≡ []
    nothing true = refl
    nothing false = refl
owed_at_end true Giving [] over = refl
owed_at_end false Giving [] over = refl
owed_at_end first Giving (b ∷ bytes) over = absurd (cc)
owed_at_end true Found bytes over = refl
owed_at_end false Found bytes over = ap (λ ts. flat_map text_line ts)
    (texts_short bytes (ltb-true (length bytes) 4 over))

pub found_at_end : (first : Bool) (s : Search) (bytes : List ℕ) → search_is_over first s bytes ≡ true
    → finds s bytes ≡ was_found s
found_at_end first Unfound bytes over = ap (λ (ts : List (List ℕ)). not (is_empty ts))
    (texts_short bytes (ltb-true (length bytes) 4 over))
found_at_end first Giving bytes over = refl
found_at_end first Found bytes over = refl

-- ---- as clauses of calls

-- bytes were searched
pub searched : (first : Bool) (bytes : List ℕ) (used : ℕ) (s s2 : Search) (held held2 : List ℕ) (a b : Option (List ℕ))
    → Searches first bytes used s s2 held held2 a b → SearchesPiece first bytes s s2 held held2 a b (Ok used)
searched first bytes used s s2 held held2 a b searches = record { ok = searches; err = tt; empty = tt }

-- the sink failed
pub cut_off : (first : Bool) (bytes : List ℕ) (s s2 : Search) (held held2 : List ℕ) (a b : Option (List ℕ))
    (r : Result ℕ Failed) (fault : Failed) → IsErrAnd r (λ e. e ≡ fault)
    → ((rest : List ℕ) → GivesSome a b (held ++ what_owed first s (bytes ++ rest))) → held2 ≡ []
    → SearchesPiece first bytes s s2 held held2 a b r
cut_off first bytes s s2 held held2 a b (Ok used) fault is cut none = absurd is
cut_off first bytes s s2 held held2 a b (Err e) fault is cut none = record { ok = tt; err = cut; empty = none }

pub fits_take : (n : ℕ) (l : List ℕ) → n ≤ length l → n ≡ length (take n l)
fits_take n l fits = omega (arith, length-take n l)

pub giving_searched : (first : Bool) (bytes : List ℕ) (used : ℕ) (s : Search) (held held2 : List ℕ)
    (a b : Option (List ℕ)) → s ≡ Giving → Searches first bytes used Giving Giving held held2 a b
    → SearchesPiece first bytes s s held held2 a b (Ok used)
giving_searched first bytes used s held held2 a b giving searches =
    subst (λ x. SearchesPiece first bytes x x held held2 a b (Ok used)) (sym giving)
    (searched first bytes used Giving Giving held held2 a b searches)

pub giving_ended : (first : Bool) (bytes : List ℕ) (used : ℕ) (s : Search) (held held2 : List ℕ) (a b : Option (List ℕ))
    → s ≡ Giving → Searches first bytes used Giving Found held held2 a b → SearchesPiece first bytes s Found held held2
    a b (Ok used)
giving_ended first bytes used s held held2 a b giving searches =
    subst (λ x. SearchesPiece first bytes x Found held held2 a b (Ok used)) (sym giving)
    (searched first bytes used Giving Found held held2 a b searches)

pub giving_cut : (first : Bool) (bytes : List ℕ) (s : Search) (held held2 : List ℕ) (a b : Option (List ℕ))
    (r : Result ℕ Failed) (fault : Failed) → s ≡ Giving → IsErrAnd r (λ e. e ≡ fault)
    → ((rest : List ℕ) → GivesSome a b (held ++ what_owed first Giving (bytes ++ rest))) → held2 ≡ []
    → SearchesPiece first bytes s s held held2 a b r
giving_cut first bytes s held held2 a b r fault giving is cut none =
    subst (λ x. SearchesPiece first bytes x x held held2 a b r) (sym giving)
    (cut_off first bytes Giving Giving held held2 a b r fault is cut none)

pub less_giving : (s : Search) (bytes : List ℕ) (used : ℕ) → s ≡ Giving → used ≤ length bytes
    → work_left Found (drop used bytes) < work_left s bytes
less_giving s bytes used giving within = subst (λ x. work_left Found (drop used bytes) < work_left x bytes) (sym giving)
    (omega (arith, length-drop used bytes))
