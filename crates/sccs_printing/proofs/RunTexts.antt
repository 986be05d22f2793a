-- Whole lines that one delta inserted: their keywords, and their text.
use Rattle.std.proofs.Common.{◌≡◌, ℕ, zero, suc, ◌≤◌, Bool, true, false, ◌==◌, ◌&&◌, ◌||◌, cond, List, [], ◌∷◌, ◌++◌}
use Rattle.std.proofs.Common.{Option, None, Some, is_some, length, refl, sym, ap, ◌∙◌, append_assoc, arith}
use Rattle.std.specs.List.{AllByRecursion, list_any}
use Rattle.std.proofs.lemmas.List.{append-nil}
use Rattle.std.proofs.lemmas.List.Folds.{list_any-append}
use Rattle.sccs_base.specs.Cut.{cut}
use Rattle.sccs_history.specs.Body.{HistoryLine}
use Rattle.sccs_history.specs.declared.headers.Record.{Record}
use Rattle.sccs_tokens.specs.Written.{bytes_of, ended}
use Rattle.sccs_keywords.specs.Keywords.{Plain, keyword_rest, found_keyword, is_keyword, keyword_of, keyword_part}
use Rattle.sccs_keywords.specs.Keywords.{parts, parts_behind}
use Rattle.sccs_keywords.specs.declared.facts.Facts.{Facts}
use Rattle.sccs_keywords.specs.declared.keywords.Keyword.{Keyword}
use Rattle.sccs_keywords.proofs.KeywordLaws.{found_length, plain_stays}
use Rattle.sccs_table.proofs.RunLaws.{run_bytes}
use Rattle.sccs_keywords.specs.Forms.{LineForm, formed, formed_lines, formed_text, has_keywords, has_prefix}
use Rattle.sccs_keywords.specs.Forms.{if_replaced, replaced_line, replaces_in, texts}
use Rattle.sccs_base.proofs.Bools.{or_none, right_false, left_false}

-- ---- no keyword goes over LF

abbrev no_keyword : Option Keyword
no_keyword = None

neither : (test : Bool) → cond test no_keyword no_keyword ≡ no_keyword
neither true = refl
neither false = refl

never : (test : Bool) (keyword : Option Keyword) → cond (test && false) keyword no_keyword ≡ no_keyword
never true keyword = refl
never false keyword = refl

found_lf : (line rest : List ℕ) → found_keyword (line ++ 10 ∷ rest) ≡ found_keyword line
found_lf [] [] = refl
found_lf [] (a ∷ []) = refl
found_lf [] (a ∷ b ∷ rest) = refl
found_lf (a ∷ []) [] = refl
found_lf (a ∷ []) (b ∷ rest) = neither ((a == 37) && (b == 37))
found_lf (a ∷ b ∷ []) rest = never (a == 37) (keyword_of b)
found_lf (a ∷ b ∷ c ∷ line) rest = refl

behind_fits : (b : ℕ) (line : List ℕ) (o : Option Keyword) → found_keyword (b ∷ line) ≡ o → keyword_rest o ≤ length line
behind_fits b line None is = omega arith
behind_fits b line (Some keyword) is = omega (arith, found_length (b ∷ line) keyword is)

parts_lf : (skip : ℕ) (line rest : List ℕ) → skip ≤ length line → parts_behind skip (line ++ 10 ∷ rest)
    ≡ parts_behind skip line ++ Plain 10 ∷ parts rest
parts_lf zero [] rest fits = ap (λ o. keyword_part 10 o ∷ parts_behind (keyword_rest o) rest) (found_lf [] rest)
parts_lf (suc skip) [] rest fits = absurd (omega (arith, fits))
parts_lf (suc skip) (b ∷ line) rest fits = parts_lf skip line rest (omega (arith, fits))
parts_lf zero (b ∷ line) rest fits =
    ap (λ o. keyword_part b o ∷ parts_behind (keyword_rest o) (line ++ 10 ∷ rest)) (found_lf (b ∷ line) rest)
    ∙ ap (λ more. keyword_part b (found_keyword (b ∷ line)) ∷ more) (parts_lf (keyword_rest (found_keyword (b ∷ line)))
    line rest (behind_fits b line (found_keyword (b ∷ line)) refl))

any_lf : (line rest : List ℕ) → list_any is_keyword (parts (line ++ 10 ∷ rest))
    ≡ (list_any is_keyword (parts line) || list_any is_keyword (parts rest))
any_lf line rest = ap (list_any is_keyword) (parts_lf 0 line rest (omega arith)) ∙ list_any-append is_keyword
    (parts line) (Plain 10 ∷ parts rest)

lines_keywords : (lines : List (List ℕ)) → list_any is_keyword (parts (bytes_of lines)) ≡ has_keywords lines
lines_keywords [] = refl
lines_keywords (line ∷ lines) =
    ap (λ bytes. list_any is_keyword (parts bytes)) (append_assoc line (10 ∷ []) (bytes_of lines))
    ∙ (any_lf line (bytes_of lines) ∙ ap (λ more. list_any is_keyword (parts line) || more) (lines_keywords lines))

-- a run has a keyword exactly where one of its lines has
pub run_keywords : (run : List ℕ) → (cut run).tail ≡ [] → list_any is_keyword (parts run) ≡ has_keywords (cut run).lines
run_keywords run whole = ap (λ bytes. list_any is_keyword (parts bytes)) (run_bytes run whole)
    ∙ lines_keywords (cut run).lines

-- ---- the text of lines that one delta inserted

pub one_delta : (form : LineForm) (records : List Record) (number n : ℕ) (lines : List HistoryLine)
    → AllByRecursion (λ (line : HistoryLine). line.inserter ≡ n) lines
    → formed_text form records number lines ≡ formed_lines form records number n (texts lines)
one_delta form records number n [] all = refl
one_delta form records number n (line ∷ lines) all =
    ap (λ i. formed form records number i line.text ++ formed_text form records (suc number) lines) all.0
    ∙ ap (λ more. formed form records number n line.text ++ more) (one_delta form records (suc number) n lines all.1)

-- ---- lines that are given as they are

stays : (facts : Option Facts) (number : ℕ) (line : List ℕ) (more : List (List ℕ))
    → if_replaced facts (has_keywords (line ∷ more)) ≡ false → replaced_line facts number line ≡ line
stays None number line more none = refl
stays (Some facts) number line more none = plain_stays facts number line (left_false (list_any is_keyword (parts line))
    (has_keywords more) none)

others : (facts : Option Facts) (line : List ℕ) (more : List (List ℕ)) → if_replaced facts (has_keywords (line ∷ more))
    ≡ false → if_replaced facts (has_keywords more) ≡ false
others None line more none = refl
others (Some facts) line more none = right_false (list_any is_keyword (parts line)) (has_keywords more) none

unprefixed : (name : Option (List ℕ)) (sids : Bool) (facts : Option Facts) (records : List Record) (number n : ℕ)
    (lines : List (List ℕ)) → (is_some name || sids) ≡ false → if_replaced facts (has_keywords lines) ≡ false
    → formed_lines (record { module_name = name; has_sids = sids; facts = facts }) records number n lines
    ≡ bytes_of lines
unprefixed (Some name) sids facts records number n lines bare none = absurd cc
unprefixed None true facts records number n lines bare none = absurd cc
unprefixed None false facts records number n [] bare none = refl
unprefixed None false facts records number n (line ∷ lines) bare none =
    ap (λ text. ended text ++ formed_lines (record { module_name = None; has_sids = false; facts = facts }) records
    (suc number) n lines) (stays facts number line lines none)
    ∙ ap (λ more. ended line ++ more) (unprefixed None false facts records (suc number) n lines bare
    (others facts line lines none))

pub run_stands : (form : LineForm) (records : List Record) (number n : ℕ) (run : List ℕ) → (cut run).tail ≡ []
    → has_prefix form ≡ false → replaces_in form (cut run).lines ≡ false
    → formed_lines form records number n (cut run).lines ≡ run
run_stands form records number n run whole bare none = unprefixed form.module_name form.has_sids form.facts records
    number n (cut run).lines bare none ∙ sym (run_bytes run whole)

pub unchanged : (form : LineForm) (records : List Record) (number n : ℕ) (run : List ℕ) (some prefix : Bool)
    → (cut run).tail ≡ [] → prefix ≡ has_prefix form → some ≡ if_replaced form.facts (list_any is_keyword (parts run))
    → (some || prefix) ≡ false
    → formed_lines form records number n (cut run).lines ≡ run
unchanged form records number n run some prefix whole prefix_is some_is neither =
    run_stands form records number n run whole (sym prefix_is ∙ right_false some prefix neither)
    (ap (if_replaced form.facts) (sym (run_keywords run whole)) ∙ (sym some_is ∙ left_false some prefix neither))

-- a line that isn't changed, and its LF
pub line_unchanged : (form : LineForm) (records : List Record) (number n : ℕ) (line : List ℕ) (some prefix : Bool)
    → prefix ≡ has_prefix form → some ≡ if_replaced form.facts (list_any is_keyword (parts line))
    → (some || prefix) ≡ false
    → formed_lines form records number n (line ∷ []) ≡ ended line
line_unchanged form records number n line some prefix prefix_is some_is neither =
    unprefixed form.module_name form.has_sids form.facts records number n (line ∷ []) (sym prefix_is
    ∙ right_false some prefix neither)
    (ap (if_replaced form.facts) (or_none (list_any is_keyword (parts line)))
    ∙ (sym some_is ∙ left_false some prefix neither))
    ∙ append-nil (ended line)
