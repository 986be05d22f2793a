-- Lines are searched for keywords, from turn to turn.
use Rattle.std.proofs.Common.{◌≡◌, ℕ, Bool, true, false, ◌||◌, List, [], ◌∷◌, ◌++◌, refl, sym, ap, ◌∙◌, append_assoc}
use Rattle.std.specs.List.{list_any}
use Rattle.std.proofs.lemmas.List.{map-append}
use Rattle.std.proofs.lemmas.List.Folds.{list_any-append}
use Rattle.sccs_base.specs.Cut.{cut}
use Rattle.sccs_history.specs.Body.{HistoryLine}
use Rattle.sccs_keywords.specs.Keywords.{is_keyword, parts}
use Rattle.sccs_keywords.specs.Forms.{has_keywords, texts}
use Rattle.sccs_versions.specs.Coming.{ComeFirst, ComesNext, Coming}
use Rattle.sccs_versions.specs.Place.{VersionPlace}
use Rattle.sccs_printing.specs.Searching.{Searched}
use Rattle.sccs_printing.proofs.RunTexts.{run_keywords}

pub keywords_both : (xs ys : List HistoryLine) → has_keywords (texts (xs ++ ys))
    ≡ (has_keywords (texts xs) || has_keywords (texts ys))
keywords_both xs ys = ap has_keywords (map-append (λ (line : HistoryLine). line.text) xs ys)
    ∙ list_any-append (λ line. list_any is_keyword (parts line)) (texts xs) (texts ys)

pub searched_none : (file : List ℕ) (r : VersionPlace) (lines : List HistoryLine) → Coming file r lines
    → Searched file r lines false
searched_none file r lines p = record { gone = []; rest = lines; whole = refl; found = refl; on = p }

pub run_searched : (file : List ℕ) (r r2 : VersionPlace) (run : List ℕ) (lines : List HistoryLine) (some : Bool)
    → (cut run).tail ≡ [] → some ≡ list_any is_keyword (parts run) → ComeFirst file r r2 run lines
    → Searched file r2 lines some
run_searched file r r2 run lines some whole is come = record {
  gone = come.stand.first;
  rest = come.stand.rest;
  whole = come.stand.whole;
  found = is ∙ (run_keywords run whole ∙ ap has_keywords (sym come.stand.lines_are));
  on = come.on;
}

or_none : (x : Bool) → x ≡ (x || false)
or_none true = refl
or_none false = refl

pub line_searched : (file : List ℕ) (r : VersionPlace) (text : List ℕ) (lines : List HistoryLine) (some : Bool)
    → some ≡ list_any is_keyword (parts text) → ComesNext file r text lines → Searched file r lines some
line_searched file r text lines some is come = record {
  gone = come.line ∷ [];
  rest = come.rest;
  whole = come.whole;
  found = is ∙ (or_none (list_any is_keyword (parts text)) ∙ ap (λ t. has_keywords (t ∷ [])) (sym come.text_is));
  on = come.on;
}

pub searched_both : (file : List ℕ) (r r2 : VersionPlace) (lines : List HistoryLine) (some more : Bool)
    → (s : Searched file r lines some) → Searched file r2 s.rest more → Searched file r2 lines (some || more)
searched_both file r r2 lines some more s next = record {
  gone = s.gone ++ next.gone;
  rest = next.rest;
  whole = s.whole ∙ (ap (λ rest. s.gone ++ rest) next.whole ∙ sym (append_assoc s.gone next.gone next.rest));
  found = ap (λ b. b || more) s.found ∙ (ap (λ b. has_keywords (texts s.gone) || b) next.found
      ∙ sym (keywords_both s.gone next.gone));
  on = next.on;
}

pub all_searched : (file : List ℕ) (r : VersionPlace) (lines : List HistoryLine) (some : Bool)
    → (s : Searched file r lines some) → s.rest ≡ [] → some ≡ has_keywords (texts lines)
all_searched file r lines some s none = s.found ∙ (or_none (has_keywords (texts s.gone))
    ∙ (ap (λ rest. has_keywords (texts s.gone) || has_keywords (texts rest)) (sym none)
    ∙ (sym (keywords_both s.gone s.rest) ∙ ap (λ all. has_keywords (texts all)) (sym s.whole))))
