-- The entries that are read have a spelling.
use Rattle.std.proofs.Common.{◌≡◌, ℕ, ◌+◌, ◌==◌, List, [], ◌∷◌, Option, None, Some, Result, Ok, Err, subst, arith}
use Rattle.std.specs.Prelude.{All}
use Rattle.std.specs.List.{AllByRecursion}
use Rattle.std.specs.Option.{IfSome}
use Rattle.std.specs.Result.{IfOk}
use Rattle.std.proofs.lemmas.List.Elements.{All-from_recursion}
use Rattle.sccs_base.specs.Cut.{cut}
use Rattle.sccs_base.specs.Login.{IsLogin, is_login, login_decides}
use Rattle.sccs_sid.specs.Reading.{is_empty, only}
use Rattle.sccs_sid.specs.Sid.{IsSid, sid_of}
use Rattle.sccs_sid.specs.SidLists.{IsRange, list_of}
use Rattle.sccs_sid.specs.Moment.{IsMoment, moment_of}
use Rattle.sccs_sid.specs.Words.{◌>>=◌, found, begins_blank, words}
use Rattle.sccs_sid.specs.declared.sid_lists.Range.{Range}
use Rattle.sccs_tokens.proofs.TokenRules.{then_some, only_so, either, found_so}
use Rattle.sccs_grammar.proofs.SpellingRules.{sid_is, moment_is}
use Rattle.sccs_pfile.specs.Entries.{IsEdit}
use Rattle.sccs_pfile.specs.Reading.{without_lists, edit_with_list, with_option, with_last, with_options}
use Rattle.sccs_pfile.specs.Reading.{entry_of_words, entry_of, edits_with_entry, entries_from, edits_of}
use Rattle.sccs_pfile.specs.declared.entries.Edit.{Edit}
use Rattle.sccs_pfile.proofs.ListsValid.{list_is}

Well : Option Edit → Type 0
Well o = IfSome o IsEdit

none_are : All IsRange []
none_are k d low = absurd (omega arith)

first_well : (got made login date time : List ℕ) → Well (without_lists got made login date time)
unfolding without_lists Well
first_well got made login date time =
    then_some IsSid IsEdit (found (sid_of got)) _ (found_so IsSid (sid_of got) (sid_is got)) λ g g-is.
    then_some IsSid IsEdit (found (sid_of made)) _ (found_so IsSid (sid_of made) (sid_is made)) λ m m-is.
    then_some IsLogin IsEdit (only (is_login login) login) _ (only_so IsLogin (is_login login) login
    (λ is. (login_decides login).0 is)) λ who who-is.
    then_some IsMoment IsEdit (found (moment_of date time)) _ (found_so IsMoment (moment_of date time)
    (moment_is date time)) λ at at-is.
    record { got = g-is; made = m-is; login = who-is; moment = at-is; include = none_are; exclude = none_are }

list_well : (e : Edit) (letter : ℕ) (ranges : List Range) → IsEdit e → AllByRecursion IsRange ranges
    → Well (edit_with_list e letter ranges)
unfolding Well
list_well e letter ranges is are =
    let all : All IsRange ranges = All-from_recursion IsRange ranges are in
    either IsEdit (letter == 105) (only (is_empty e.include) (record e { include = ranges })) _
    (only_so IsEdit (is_empty e.include) (record e { include = ranges })
    (λ _. record {
      got = is.got;
      made = is.made;
      login = is.login;
      moment = is.moment;
      include = all;
      exclude =
          is.exclude;
    }))
    (either IsEdit (letter == 120) (only (is_empty e.exclude) (record e { exclude = ranges })) None
    (only_so IsEdit (is_empty e.exclude) (record e { exclude = ranges })
    (λ _. record {
      got = is.got;
      made = is.made;
      login = is.login;
      moment = is.moment;
      include = is.include;
      exclude = all;
    })) tt)

option_well : (e : Edit) (word : List ℕ) → IsEdit e → Well (with_option e word)
unfolding with_option Well
option_well e [] is = tt
option_well e (dash ∷ []) is = tt
option_well e (dash ∷ letter ∷ list) is =
    either IsEdit (dash == 45) (found (list_of list) >>= edit_with_list e letter) None
    (then_some (AllByRecursion IsRange) IsEdit (found (list_of list)) (edit_with_list e letter)
    (found_so (AllByRecursion IsRange) (list_of list) (list_is list)) λ ranges are. list_well e letter ranges is
    are) tt

last_well : (ws : List (List ℕ)) (e : Edit) → IsEdit e → Well (with_last ws e)
unfolding Well
last_well [] e is = is
last_well (word ∷ []) e is = option_well e word is
last_well (word ∷ next ∷ ws) e is = tt

options_well : (e : Edit) (ws : List (List ℕ)) → IsEdit e → Well (with_options e ws)
unfolding Well
options_well e [] is = is
options_well e (word ∷ ws) is = then_some IsEdit IsEdit (with_option e word) (with_last ws) (option_well e word is)
    λ one one-is. last_well ws one one-is

words_well : (ws : List (List ℕ)) → Well (entry_of_words ws)
unfolding entry_of_words Well
words_well (got ∷ made ∷ login ∷ date ∷ time ∷ options) =
    then_some IsEdit IsEdit (without_lists got made login date time) _ (first_well got made login date time) λ e is.
    options_well e options is
words_well [] = tt
words_well (a ∷ []) = tt
words_well (a ∷ b ∷ []) = tt
words_well (a ∷ b ∷ c ∷ []) = tt
words_well (a ∷ b ∷ c ∷ d ∷ []) = tt

line_well : (line : List ℕ) → Well (entry_of line)
unfolding entry_of Well
line_well line = either IsEdit (begins_blank line) None (entry_of_words (words line)) tt (words_well (words line))

AreEdits : List Edit → Type 0
AreEdits edits = AllByRecursion IsEdit edits

with_well : (number : ℕ) (o : Option Edit) (r : Result (List Edit) ℕ) → Well o → IfOk r AreEdits
    → IfOk (edits_with_entry number o r) AreEdits
unfolding Well AreEdits
with_well number None r is are = tt
with_well number (Some e) (Ok edits) is are = (is, are)
with_well number (Some e) (Err line) is are = tt

entries_well : (number : ℕ) (lines : List (List ℕ)) (tail : List ℕ) → IfOk (entries_from number lines tail) AreEdits
unfolding AreEdits
entries_well number [] [] = tt
entries_well number [] (b ∷ tail) = tt
entries_well number (line ∷ lines) tail =
    with_well number (entry_of line) (entries_from (number + 1) lines tail) (line_well line)
    (entries_well (number + 1) lines tail)

ok_is : (r : Result (List Edit) ℕ) (edits : List Edit) → r ≡ Ok edits → IfOk r AreEdits → AreEdits edits
ok_is (Ok found) edits is are = let same : found ≡ edits = cc in subst AreEdits same are
ok_is (Err line) edits is are = cc

-- entries that are read are such
pub edits_are : (bytes : List ℕ) (edits : List Edit) → edits_of bytes ≡ Ok edits → AllByRecursion IsEdit edits
unfolding edits_of AreEdits
edits_are bytes edits is = ok_is (edits_of bytes) edits is (entries_well 1 (cut bytes).lines (cut bytes).tail)
