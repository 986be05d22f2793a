-- Formed texts, line by line.
use Rattle.std.proofs.Common.{◌≡◌, ℕ, suc, ◌+◌, Bool, true, false, ◌||◌, List, [], ◌∷◌, ◌++◌, Option, None, Some}
use Rattle.std.proofs.Common.{length, refl, sym, ap, ◌∙◌, append_assoc, arith}
use Rattle.std.specs.List.{list_any}
use Rattle.sccs_history.specs.Body.{HistoryLine}
use Rattle.sccs_history.specs.declared.headers.Record.{Record}
use Rattle.sccs_tokens.specs.Written.{bytes_of, ended}
use Rattle.sccs_keywords.specs.Keywords.{is_keyword, parts}
use Rattle.sccs_keywords.specs.declared.facts.Facts.{Facts}
use Rattle.sccs_keywords.proofs.KeywordLaws.{plain_stays}
use Rattle.sccs_keywords.specs.Forms.{bare_form, formed_line, formed_text, has_keywords, LineForm, replaced_line}
use Rattle.sccs_keywords.specs.Forms.{sid_before, tabbed, texts, unreplaced}

pub as_they_are : (records : List Record) (number : ℕ) (lines : List HistoryLine)
    → formed_text bare_form records number lines ≡ bytes_of (texts lines)
as_they_are records number [] = refl
as_they_are records number (line ∷ lines) = ap (λ rest. ended line.text ++ rest)
    (as_they_are records (suc number) lines)

pub put_together : (form : LineForm) (records : List Record) (number : ℕ) (lines more : List HistoryLine)
    → formed_text form records number (lines ++ more) ≡ formed_text form records number lines
    ++ formed_text form records (number + length lines) more
put_together form records number [] more = ap (λ n. formed_text form records n more) here
  where
    here : number ≡ number + 0
    here = omega arith
put_together form records number (line ∷ lines) more =
    ap (λ rest. formed_line form records number line ++ rest) (put_together form records (suc number) lines more)
    ∙ (ap (λ n. formed_line form records number line ++ (formed_text form records (suc number) lines
    ++ formed_text form records n more)) further
    ∙ sym (append_assoc (formed_line form records number line) (formed_text form records (suc number) lines)
    (formed_text form records (number + suc (length lines)) more)))
  where
    further : suc number + length lines ≡ number + suc (length lines)
    further = omega arith

first_false : (a b : Bool) → a || b ≡ false → a ≡ false
first_false true b e = e
first_false false b e = refl

rest_false : (a b : Bool) → a || b ≡ false → b ≡ false
rest_false true b e = cc
rest_false false b e = e

stays : (facts : Option Facts) (number : ℕ) (line : List ℕ) → list_any is_keyword (parts line) ≡ false
    → replaced_line facts number line ≡ line
stays None number line none = refl
stays (Some facts) number line none = plain_stays facts number line none

pub without_keywords : (form : LineForm) (records : List Record) (number : ℕ) (lines : List HistoryLine)
    → has_keywords (texts lines) ≡ false → formed_text form records number lines ≡ formed_text (unreplaced form) records
    number lines
without_keywords form records number [] none = refl
without_keywords form records number (line ∷ lines) none =
    ap (λ text. (tabbed form.module_name ++ (tabbed (sid_before form.has_sids records line.inserter) ++ ended text))
    ++ formed_text form records (suc number) lines)
    (stays form.facts number line.text (first_false (list_any is_keyword (parts line.text)) (has_keywords (texts lines))
    none))
    ∙ ap (λ rest. formed_line (unreplaced form) records number line ++ rest)
    (without_keywords form records (suc number) lines (rest_false (list_any is_keyword (parts line.text))
    (has_keywords (texts lines)) none))
