-- Whole lines that are given one by one.
use Rattle.std.proofs.Common.{◌≡◌, ℕ, suc, ◌+◌, ◌-◌, ◌<◌, ◌≤◌, ◌==◌, true, List, [], ◌∷◌, ◌++◌, length, length-drop}
use Rattle.std.proofs.Common.{length-take, take, drop, drop-cons, get_or, Option, Result, sym, ap, subst, ◌∙◌}
use Rattle.std.proofs.Common.{append_assoc, arith, eq-eqb}
use Rattle.std.proofs.lemmas.Bool.{eqb-true}
use Rattle.std.proofs.lemmas.List.{append-nil, drop-drop, take-append-drop}
use Rattle.sccs_base.specs.Causes.{GivesText}
use Rattle.sccs_base.specs.Cut.{cut}
use Rattle.sccs_base.proofs.Cuts.{NoLfBefore, no_lf_all, no_lf_front}
use Rattle.sccs_tokens.specs.Written.{ended}
use Rattle.sccs_tokens.proofs.CutLaws.{cut_line, cut_tail}
use Rattle.sccs_history.specs.declared.headers.Record.{Record}
use Rattle.sccs_keywords.proofs.KeywordLaws.{rest_is}
use Rattle.sccs_keywords.specs.Forms.{LineForm, formed, formed_lines, replaced_line, sid_before, tabbed}

-- the bytes from a place on, as they are searched
abbrev pub searched : List ℕ → ℕ → List ℕ
searched lines from = take (length lines - from) (drop from lines)

-- A line stands at a place, and ends at so many bytes behind it.
pub record NextLine (lines : List ℕ) (from place : ℕ) : Type 0 where
  pub within : from + place + 1 ≤ length lines
  pub line : (cut (drop from lines)).lines ≡ take (from + place - from) (drop from lines)
      ∷ (cut (drop (from + place + 1) lines)).lines
  pub tail : (cut (drop from lines)).tail ≡ (cut (drop (from + place + 1) lines)).tail

first_line : (bytes : List ℕ) (place : ℕ) → place < length bytes → get_or bytes place 0 ≡ 10 → NoLfBefore bytes place
    → cut bytes ≡ record {
      lines = take place bytes ∷ (cut (drop (suc place) bytes)).lines;
      tail =
          (cut (drop (suc place) bytes)).tail;
    }
first_line bytes place within is none =
    ap cut (sym (take-append-drop place bytes) ∙ ap (λ behind. take place bytes ++ behind)
    (drop-cons bytes place 0 within ∙ ap (λ b. b ∷ drop (suc place) bytes) is))
    ∙ cut_line (take place bytes) (drop (suc place) bytes) (no_lf_front place bytes none within)

pub next_line : (lines : List ℕ) (from place : ℕ) → from ≤ length lines → place < length (searched lines from)
    → (get_or (searched lines from) place 0 == 10) ≡ true
    → ((k : ℕ) → 0 ≤ k → k < place → (get_or (searched lines from) k 0 == 10) ≡ true → ⊥) → NextLine lines from place
next_line lines from place low high is none =
    let same : searched lines from ≡ drop from lines = rest_is lines from in
    let near : from + place - from ≡ place = omega arith in
    let far : suc place + from ≡ from + place + 1 = omega arith in
    let behind : drop (suc place) (drop from lines) ≡ drop (from + place + 1) lines = drop-drop (suc place) from lines
    ∙ ap (λ n. drop n lines) (turned place from) in
    let here = first_line (drop from lines) place (subst (λ l. place < length l) same high)
    (subst (λ l. get_or l place 0 ≡ 10) same (eqb-true (get_or (searched lines from) place 0) 10 is))
    (λ k below lf. none k (omega arith) below (eq-eqb (get_or (searched lines from) k 0) 10
    (subst (λ l. get_or l k 0 ≡ 10) (sym same) lf))) in
    record {
      within = omega (arith, high, low, length-take (length lines - from) (drop from lines), length-drop from lines);
      line = ap (λ c. c.lines) here
          ∙ (ap (λ n. take n (drop from lines) ∷ (cut (drop (suc place) (drop from lines))).lines) (sym near)
          ∙ ap (λ l. take (from + place - from) (drop from lines) ∷ (cut l).lines) behind);
      tail = ap (λ c. c.tail) here ∙ ap (λ l. (cut l).tail) behind;
    }
  where
    turned : (place from : ℕ) → from + suc place ≡ from + place + 1
    turned place from = omega arith

-- no line is left
pub no_line : (lines : List ℕ) (from : ℕ) → ((k : ℕ) → 0 ≤ k → k < length (searched lines from)
    → (get_or (searched lines from) k 0 == 10) ≡ true → ⊥) → (cut (drop from lines)).lines ≡ []
no_line lines from none =
    let same : searched lines from ≡ drop from lines = rest_is lines from in
    ap (λ c. c.lines) (cut_tail (drop from lines) (no_lf_all (drop from lines)
    (λ k below lf. none k (omega arith) (subst (λ l. k < length l) (sym same) below)
    (eq-eqb (get_or (searched lines from) k 0) 10 (subst (λ l. get_or l k 0 ≡ 10) (sym same) lf)))))

-- a turn: the text of a line was given, and that of the others makes the rest
pub turn_text : (form : LineForm) (records : List Record) (n n2 inserter : ℕ) (lines : List ℕ) (from place : ℕ)
    (done whole : List ℕ) → NextLine lines from place → n2 ≡ suc n
    → done ++ formed_lines form records n inserter (cut (drop from lines)).lines ≡ whole
    → (done ++ formed form records n inserter (take (from + place - from) (drop from lines)))
    ++ formed_lines form records n2 inserter (cut (drop (from + place + 1) lines)).lines ≡ whole
turn_text form records n n2 inserter lines from place done whole next further is =
    append_assoc done (formed form records n inserter (take (from + place - from) (drop from lines)))
    (formed_lines form records n2 inserter (cut (drop (from + place + 1) lines)).lines)
    ∙ (ap (λ m. done ++ (formed form records n inserter (take (from + place - from) (drop from lines))
    ++ formed_lines form records m inserter (cut (drop (from + place + 1) lines)).lines)) further
    ∙ (ap (λ all. done ++ formed_lines form records n inserter all) (sym next.line) ∙ is))

-- the end
pub last_text : (form : LineForm) (records : List Record) (n inserter : ℕ) (lines : List ℕ) (from : ℕ)
    (done whole : List ℕ) → (cut (drop from lines)).lines ≡ [] → done ++ formed_lines form records n inserter
    (cut (drop from lines)).lines ≡ whole → done ≡ whole
last_text form records n inserter lines from done whole none is = sym (append-nil done)
    ∙ (ap (λ all. done ++ formed_lines form records n inserter all) (sym none) ∙ is)

pub count_on : (lines : List ℕ) (from place before first : ℕ) → NextLine lines from place
    → before + length (cut (drop from lines)).lines ≡ first
    → before + 1 + length (cut (drop (from + place + 1) lines)).lines ≡ first
count_on lines from place before first next is = let long = ap length next.line in omega (arith, long, is)

pub count_fits : (lines : List ℕ) (from place before first : ℕ) → NextLine lines from place
    → before + length (cut (drop from lines)).lines ≡ first → before + 1 ≤ first
count_fits lines from place before first next is = let long = ap length next.line in omega (arith, long, is)

-- a line behind the SID that was found for its inserter
pub behind_sid : {T E : Type 0} (form : LineForm) (records : List Record) (number inserter : ℕ) (line : List ℕ)
    (sid : Option (List ℕ)) (a b : Option (List ℕ)) (f g : ℕ) (r : Result T E)
    → sid ≡ sid_before form.has_sids records inserter
    → GivesText (tabbed form.module_name ++ (tabbed sid ++ ended (replaced_line form.facts number line))) a b f g r
    → GivesText (formed form records number inserter line) a b f g r
behind_sid form records number inserter line sid a b f g r is text =
    subst (λ (s : Option (List ℕ)). GivesText (tabbed form.module_name
    ++ (tabbed s ++ ended (replaced_line form.facts number line))) a b f g r) is text

pub tabbed_as : {T E : Type 0} (s t : Option (List ℕ)) (a b : Option (List ℕ)) (f g : ℕ) (r : Result T E) → s ≡ t
    → GivesText (tabbed s) a b f g r → GivesText (tabbed t) a b f g r
tabbed_as s t a b f g r is text = subst (λ (o : Option (List ℕ)). GivesText (tabbed o) a b f g r) is text
