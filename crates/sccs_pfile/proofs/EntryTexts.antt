-- A written entry is read back.
use Rattle.std.proofs.Common.{◌≡◌, ◌≢◌, ℕ, ◌+◌, ◌<◌, Bool, true, false, List, [], ◌∷◌, ◌++◌, Some, Ok, refl, sym, ap}
use Rattle.std.proofs.Common.{subst, ◌∙◌, arith, append_assoc, map}
use Rattle.std.specs.Prelude.{if◌then◌else◌, All}
use Rattle.std.specs.List.{AllByRecursion}
use Rattle.std.proofs.lemmas.Bool.{ne_eqb}
use Rattle.std.proofs.lemmas.List.{append-nil}
use Rattle.std.proofs.lemmas.List.Elements.{recursion_from_All, All-from_recursion}
use Rattle.sccs_base.specs.Cut.{Cut, HasNoLf, cut}
use Rattle.sccs_base.specs.Login.{login_decides}
use Rattle.sccs_sid.specs.Sid.{sid_text}
use Rattle.sccs_sid.specs.SidLists.{IsRange, list_text, range_text, is_same_sid}
use Rattle.sccs_sid.specs.Moment.{civil_of, date_text, moment_text, time_text}
use Rattle.sccs_sid.specs.Words.{begins_blank, words}
use Rattle.sccs_sid.specs.declared.sid_lists.Range.{Range}
use Rattle.sccs_sid.proofs.ListTexts.{list_text_read}
use Rattle.sccs_sid.proofs.MomentTexts.{moment_text_again}
use Rattle.sccs_sid.proofs.SidTexts.{sid_text_again}
use Rattle.sccs_tokens.specs.Written.{bytes_of, ended, spaced}
use Rattle.sccs_tokens.proofs.CutLaws.{cut-bytes_of}
use Rattle.sccs_tokens.proofs.DeltaLaws.{sid_word, date_word, time_word, login_word}
use Rattle.sccs_tokens.proofs.LineLaws.{Visible, both, sid_seen, date_seen, time_seen, without_lf, spaced_ends}
use Rattle.sccs_tokens.proofs.WordLaws.{IsWord, HasNoBlank, word_first, words_again, spaced_ends as ends_word}
use Rattle.sccs_pfile.specs.Entries.{IsEdit}
use Rattle.sccs_pfile.specs.Reading.{without_lists, with_option, with_options, entry_of_words, entry_of, entries_from}
use Rattle.sccs_pfile.specs.Reading.{edits_of}
use Rattle.sccs_pfile.specs.Written.{option_text, include_option, exclude_option, entry_text, edits_text}
use Rattle.sccs_pfile.specs.declared.entries.Edit.{Edit}

-- ---- the words of an entry

-- the word of a list, where it isn't empty
abbrev option_words : ℕ → List Range → List (List ℕ)
option_words letter [] = []
option_words letter (range ∷ ranges) = (45 ∷ letter ∷ list_text (range ∷ ranges)) ∷ []

abbrev list_words : Edit → List (List ℕ)
list_words e = option_words 105 e.include ++ option_words 120 e.exclude

-- the words behind the first one
abbrev later_words : Edit → List (List ℕ)
later_words e = sid_text e.made ∷ e.login ∷ date_text e.moment ∷ time_text e.moment ∷ list_words e

lists_spaced : (include exclude : List Range) → option_text include_option include ++ option_text exclude_option exclude
    ≡ spaced (option_words 105 include ++ option_words 120 exclude)
lists_spaced [] [] = refl
lists_spaced [] (x ∷ xs) = ap (λ l. 32 ∷ 45 ∷ 120 ∷ l) (sym (append-nil (list_text (x ∷ xs))))
lists_spaced (i ∷ is) [] = refl
lists_spaced (i ∷ is) (x ∷ xs) =
    ap (λ l. 32 ∷ 45 ∷ 105 ∷ (list_text (i ∷ is) ++ (32 ∷ 45 ∷ 120 ∷ l))) (sym (append-nil (list_text (x ∷ xs))))

text_spaced : (e : Edit) → entry_text e ≡ sid_text e.got ++ spaced (later_words e)
text_spaced e =
    let lists = option_text include_option e.include ++ option_text exclude_option e.exclude in
    ap (λ (l : List ℕ). sid_text e.got ++ (32 ∷ sid_text e.made ++ (32 ∷ e.login ++ (32 ∷ l))))
    (append_assoc (date_text e.moment) (32 ∷ time_text e.moment) lists)
    ∙ ap (λ (l : List ℕ). sid_text e.got
    ++ (32 ∷ sid_text e.made ++ (32 ∷ e.login ++ (32 ∷ date_text e.moment ++ (32 ∷ time_text e.moment ++ l)))))
    (lists_spaced e.include e.exclude)

-- ---- each word is one

range_seen : (range : Range) → IsRange range → Visible (range_text range)
unfolding range_text
range_seen range is =
    both (sid_text range.first) (if is_same_sid range.first range.last then [] else 45 ∷ sid_text range.last)
    (sid_seen range.first is.0) (last_seen (is_same_sid range.first range.last))
  where
    last_seen : (t : Bool) → Visible (if t then [] else 45 ∷ sid_text range.last)
    last_seen true = tt
    last_seen false = (omega arith, sid_seen range.last is.1)

list_seen : (ranges : List Range) → AllByRecursion IsRange ranges → Visible (list_text ranges)
unfolding list_text
list_seen [] are = tt
list_seen (range ∷ []) are = range_seen range are.0
list_seen (range ∷ next ∷ ranges) are = both (range_text range) (44 ∷ list_text (next ∷ ranges))
    (range_seen range are.0) (omega arith, list_seen (next ∷ ranges) are.1)

seen_blanks : (bytes : List ℕ) → Visible bytes → HasNoBlank bytes
seen_blanks [] are = tt
seen_blanks (b ∷ bytes) are = ((λ e. absurd (omega (arith, are.0))), seen_blanks bytes are.1)

option_seen : (letter : ℕ) (ranges : List Range) → 32 < letter → AllByRecursion IsRange ranges
    → AllByRecursion Visible (option_words letter ranges)
option_seen letter [] high are = tt
option_seen letter (range ∷ ranges) high are = ((omega arith, (high, list_seen (range ∷ ranges) are)), tt)

more_seen : (ws more : List (List ℕ)) → AllByRecursion Visible ws → AllByRecursion Visible more
    → AllByRecursion Visible (ws ++ more)
more_seen [] more are others = others
more_seen (w ∷ ws) more are others = (are.0, more_seen ws more are.1 others)

lists_seen : (e : Edit) → IsEdit e → AllByRecursion Visible (list_words e)
lists_seen e is =
    more_seen (option_words 105 e.include) (option_words 120 e.exclude) (option_seen 105 e.include (omega arith)
    (recursion_from_All IsRange e.include is.include))
    (option_seen 120 e.exclude (omega arith) (recursion_from_All IsRange e.exclude is.exclude))

option_is_word : (letter : ℕ) (ranges : List Range) → AllByRecursion Visible (option_words letter ranges)
    → AllByRecursion IsWord (option_words letter ranges)
option_is_word letter [] are = tt
option_is_word letter (range ∷ ranges) are = (seen_blanks (45 ∷ letter ∷ list_text (range ∷ ranges)) are.0, tt)

more_words : (ws more : List (List ℕ)) → AllByRecursion IsWord ws → AllByRecursion IsWord more
    → AllByRecursion IsWord (ws ++ more)
more_words [] more are others = others
more_words (w ∷ ws) more are others = (are.0, more_words ws more are.1 others)

lists_words : (e : Edit) → IsEdit e → AllByRecursion IsWord (list_words e)
lists_words e is =
    more_words (option_words 105 e.include) (option_words 120 e.exclude)
    (option_is_word 105 e.include (option_seen 105 e.include (omega arith)
    (recursion_from_All IsRange e.include is.include)))
    (option_is_word 120 e.exclude (option_seen 120 e.exclude (omega arith)
    (recursion_from_All IsRange e.exclude is.exclude)))

later_are_words : (e : Edit) → IsEdit e → AllByRecursion IsWord (later_words e)
later_are_words e is = (
  sid_word e.made is.made,
  (
    login_word e.login is.login,
    (
      date_word (civil_of e.moment),
      (time_word (civil_of e.moment), lists_words e is),
    ),
  ),
)

entry_words : (e : Edit) → IsEdit e → words (entry_text e) ≡ sid_text e.got ∷ later_words e
entry_words e is =
    ap words (text_spaced e)
    ∙ (word_first (sid_text e.got) (spaced (later_words e)) (sid_word e.got is.got) (ends_word (later_words e))
    ∙ ap (λ ws. sid_text e.got ∷ ws) (words_again (later_words e) (later_are_words e is)))

-- ---- they say the entry

first_again : (e : Edit) → IsEdit e → without_lists (sid_text e.got) (sid_text e.made) e.login (date_text e.moment)
    (time_text e.moment) ≡ Some (record {
      got = e.got;
      made = e.made;
      login = e.login;
      moment = e.moment;
      include = [];
      exclude = [];
    })
unfolding without_lists
first_again e is =
    rw (
      sid_text_again e.got is.got,
      sid_text_again e.made is.made,
      (login_decides e.login).1 is.login,
      moment_text_again e.moment is.moment,
    ) refl

include_again : (e : Edit) (range : Range) (ranges : List Range) → e.include ≡ [] → All IsRange (range ∷ ranges)
    → with_option e (45 ∷ 105 ∷ list_text (range ∷ ranges)) ≡ Some (record e { include = range ∷ ranges })
unfolding with_option
include_again e range ranges none all = rw (list_text_read range ranges all, none) refl

exclude_again : (e : Edit) (range : Range) (ranges : List Range) → e.exclude ≡ [] → All IsRange (range ∷ ranges)
    → with_option e (45 ∷ 120 ∷ list_text (range ∷ ranges)) ≡ Some (record e { exclude = range ∷ ranges })
unfolding with_option
exclude_again e range ranges none all = rw (list_text_read range ranges all, none) refl

lists_again : (e : Edit) (include exclude : List Range) → e.include ≡ [] → e.exclude ≡ [] → All IsRange include
    → All IsRange exclude
    → with_options e (option_words 105 include ++ option_words 120 exclude) ≡ Some
    (record e { include = include; exclude = exclude })
lists_again e [] [] no_include no_exclude are others =
    ap Some (sym (ap (λ l. record e { include = l; exclude = e.exclude }) (sym no_include))
    ∙ ap (λ l. record e { include = []; exclude = l }) no_exclude)
lists_again e [] (x ∷ xs) no_include no_exclude are others =
    rw (exclude_again e x xs no_exclude others) (ap (λ l. Some (record e { include = l; exclude = x ∷ xs })) no_include)
lists_again e (i ∷ is) [] no_include no_exclude are others =
    rw (include_again e i is no_include are) (ap (λ l. Some (record e { include = i ∷ is; exclude = l })) no_exclude)
lists_again e (i ∷ is) (x ∷ xs) no_include no_exclude are others =
    rw (include_again e i is no_include are) (exclude_again (record e { include = i ∷ is }) x xs no_exclude others)

no_blank_first : (word rest : List ℕ) → IsWord word → begins_blank (word ++ rest) ≡ false
no_blank_first [] rest is = absurd is
no_blank_first (b ∷ word) rest is = ne_eqb b 32 is.0

pub entry_again : (e : Edit) → IsEdit e → entry_of (entry_text e) ≡ Some e
unfolding entry_of entry_of_words
entry_again e is =
    rw (
      no_blank_first (sid_text e.got)
          (32 ∷ sid_text e.made ++ (32 ∷ e.login ++ (32 ∷ moment_text e.moment ++ (option_text include_option e.include
          ++ option_text exclude_option e.exclude)))) (sid_word e.got is.got),
      entry_words e is,
      first_again e is,
    )
    (lists_again (record { got = e.got; made = e.made; login = e.login; moment = e.moment; include = []; exclude = [] })
    e.include e.exclude refl refl is.include is.exclude)

-- ---- lines

entry_ends : (e : Edit) → IsEdit e → HasNoLf (entry_text e)
entry_ends e is =
    let later : AllByRecursion Visible (later_words e) = (
      sid_seen e.made is.made,
      (
        recursion_from_All (λ b. 32 < b) e.login is.login.visible,
        (date_seen (civil_of e.moment), (time_seen (civil_of e.moment), lists_seen e is)),
      ),
    ) in
    subst HasNoLf (sym (text_spaced e))
    (All-from_recursion (λ b. b ≢ 10) (sid_text e.got ++ spaced (later_words e)) (without_lf (sid_text e.got)
    (spaced (later_words e)) (sid_seen e.got is.got) (spaced_ends (later_words e) later)))

all_end : (edits : List Edit) → AllByRecursion IsEdit edits → AllByRecursion HasNoLf (map entry_text edits)
all_end [] are = tt
all_end (e ∷ edits) are = (entry_ends e are.0, all_end edits are.1)

bytes_are : (edits : List Edit) → edits_text edits ≡ bytes_of (map entry_text edits)
bytes_are [] = refl
bytes_are (e ∷ edits) = ap (λ rest. ended (entry_text e) ++ rest) (bytes_are edits)

lines_again : (number : ℕ) (edits : List Edit) → AllByRecursion IsEdit edits
    → entries_from number (map entry_text edits) [] ≡ Ok edits
lines_again number [] are = refl
lines_again number (e ∷ edits) are = rw (entry_again e are.0, lines_again (number + 1) edits are.1) refl

pub edits_again : (edits : List Edit) → AllByRecursion IsEdit edits → edits_of (edits_text edits) ≡ Ok edits
unfolding edits_of
edits_again edits are =
    ap (λ bytes. entries_from 1 (cut bytes).lines (cut bytes).tail) (bytes_are edits)
    ∙ (ap (λ (c : Cut). entries_from 1 c.lines c.tail) (cut-bytes_of (map entry_text edits) (all_end edits are))
    ∙ lines_again 1 edits are)
