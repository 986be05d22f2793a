-- Flags that are set and removed keep their rules.
use Rattle.std.proofs.Common.{◌≡◌, ◌≢◌, ℕ, ◌<◌, nat_lt, ◌==◌, Bool, true, false, cond, not, ◌&&◌, ◌||◌, List, [], ◌∷◌}
use Rattle.std.proofs.Common.{Option, None, Some, Result, Ok, Err, find, refl, sym, ap, subst, ◌∙◌, arith}
use Rattle.std.specs.Prelude.{is_some, option_map, unwrap_or}
use Rattle.std.specs.List.{AllByRecursion, list_any}
use Rattle.std.proofs.lemmas.Bool.{eqb-true, and_left, or_right, or_from, or_parts}
use Rattle.std.proofs.lemmas.List.Elements.{All-from_recursion}
use Rattle.sccs_base.specs.Cut.{HasNoLf}
use Rattle.sccs_sid.specs.Reading.{◌>>=◌, is_empty, number}
use Rattle.sccs_sid.specs.SidLists.{begins}
use Rattle.sccs_sid.specs.Words.{begins_blank, drop_blanks, ends_blank}
use Rattle.sccs_history.specs.FlagText.{are_releases, fits_letter, flag_e, flag_l, is_all, is_number, is_release}
use Rattle.sccs_history.specs.History.{AreBare, AreLines, IsFlag, IsHeader, IsSpelled, has_own_letters, is_encoded}
use Rattle.sccs_history.specs.History.{is_letter, is_one}
use Rattle.sccs_history.specs.declared.headers.Flag.{Flag}
use Rattle.sccs_history.specs.declared.headers.Header.{Header}
use Rattle.sccs_flags.specs.FlagValues.{flag_of}
use Rattle.sccs_rules.specs.Flags.{changed_flags, flag_with, by_words, locks_all, may_remove, remove_word, set_word}
use Rattle.sccs_rules.specs.Flags.{unlock_in, with_flag, without_flag, without_word}
use Rattle.sccs_rules.specs.Forms.{are_joined, fits_form, fits_row, is_flag, word_letter, may_set, flag_rows, word_text}
use Rattle.sccs_rules.specs.Rules.{with_rules}
use Rattle.sccs_rules.specs.Unlocked.{is_among, with_commas, left_of, releases_of, without_releases}
use Rattle.sccs_rules.specs.Users.{changed_users, has_lf}
use Rattle.sccs_rules.specs.declared.forms.FlagRow.{FlagRow}
use Rattle.sccs_rules.specs.declared.forms.Form.{Form}
use Rattle.sccs_rules.proofs.Spaced.{AreVisible, all_filtered, dropped_ends, each, joined_fits, joined_releases}
use Rattle.sccs_rules.proofs.Spaced.{joined_visible, releases_low, releases_some, skipped_begins, skipped_ends}
use Rattle.sccs_rules.proofs.Spaced.{visible_begins, visible_ends}
use Rattle.sccs_rules.proofs.UserRules.{line_of, own_bare, own_line, users_changed, rest_false}
use Rattle.sccs_base.proofs.Bools.{left_true}

-- ---- what holds of each flag

put_by : (P : Flag → Type 0) (t : Bool) (f g : Flag) (flags more : List Flag) → P f → P g → AllByRecursion P flags
    → AllByRecursion P more → AllByRecursion P (cond t (f ∷ flags) (g ∷ more))
put_by P true f g flags more new old all rest = (new, all)
put_by P false f g flags more new old all rest = (old, rest)

each_put : (P : Flag → Type 0) (f : Flag) (flags : List Flag) → P f → AllByRecursion P flags
    → AllByRecursion P (with_flag f flags)
each_put P f [] new all = (new, tt)
each_put P f (g ∷ flags) new all = put_by P (g.letter == f.letter) f g flags (with_flag f flags) new all.0 all.1
    (each_put P f flags new all.1)

out_by : (P : Flag → Type 0) (t : Bool) (g : Flag) (flags more : List Flag) → P g → AllByRecursion P flags
    → AllByRecursion P more → AllByRecursion P (cond t flags (g ∷ more))
out_by P true g flags more old all rest = all
out_by P false g flags more old all rest = (old, rest)

each_out : (P : Flag → Type 0) (letter : ℕ) (flags : List Flag) → AllByRecursion P flags
    → AllByRecursion P (without_flag letter flags)
each_out P letter [] all = tt
each_out P letter (g ∷ flags) all = out_by P (g.letter == letter) g flags (without_flag letter flags) all.0 all.1
    (each_out P letter flags all.1)

same_found : (a b : Flag) → Some a ≡ Some b → a ≡ b
same_found a b e = cc

found_by : (P : Flag → Type 0) (t : Bool) (g f : Flag) (rest : Option Flag) → P g → (rest ≡ Some f → P f)
    → cond t (Some g) rest ≡ Some f → P f
found_by P true g f rest here more is = subst P (same_found g f is) here
found_by P false g f rest here more is = more is

each_found : (P : Flag → Type 0) (letter : ℕ) (flags : List Flag) (f : Flag) → AllByRecursion P flags
    → flag_of flags letter ≡ Some f → P f
each_found P letter [] f all is = absurd cc
each_found P letter (g ∷ flags) f all is = found_by P (g.letter == letter) g f (flag_of flags letter) all.0
    (each_found P letter flags f all.1) is

letter_by : (t : Bool) (letter : ℕ) (g f : Flag) (rest : Option Flag) → (g.letter == letter) ≡ t
    → (rest ≡ Some f → f.letter ≡ letter) → cond t (Some g) rest ≡ Some f → f.letter ≡ letter
letter_by true letter g f rest here more is = sym (ap (λ (x : Flag). x.letter) (same_found g f is))
    ∙ eqb-true g.letter letter here
letter_by false letter g f rest here more is = more is

is_found : (letter : ℕ) (flags : List Flag) (f : Flag) → flag_of flags letter ≡ Some f → f.letter ≡ letter
is_found letter [] f is = absurd cc
is_found letter (g ∷ flags) f is = letter_by (g.letter == letter) letter g f (flag_of flags letter) refl
    (is_found letter flags f) is

-- ---- letters stand once

abbrev there : ℕ → List Flag → Bool
there letter flags = list_any (λ g. g.letter == letter) flags

put_absent : (t : Bool) (letter : ℕ) (f g : Flag) (flags more : List Flag) → (f.letter == letter) ≡ false
    → there letter (g ∷ flags) ≡ false → there letter more ≡ false → there letter (cond t (f ∷ flags) (g ∷ more))
    ≡ false
put_absent true letter f g flags more new old rest = or_from (f.letter == letter) (there letter flags) new
    (or_parts (g.letter == letter) (there letter flags) old).1
put_absent false letter f g flags more new old rest = or_from (g.letter == letter) (there letter more)
    (or_parts (g.letter == letter) (there letter flags) old).0 rest

absent_put : (letter : ℕ) (f : Flag) (flags : List Flag) → (f.letter == letter) ≡ false → there letter flags ≡ false
    → there letter (with_flag f flags) ≡ false
absent_put letter f [] new old = or_from (f.letter == letter) false new refl
absent_put letter f (g ∷ flags) new old =
    put_absent (g.letter == f.letter) letter f g flags (with_flag f flags) new old (absent_put letter f flags new
    (or_parts (g.letter == letter) (there letter flags) old).1)

out_absent : (t : Bool) (letter : ℕ) (g : Flag) (flags more : List Flag) → there letter (g ∷ flags) ≡ false
    → there letter more ≡ false → there letter (cond t flags (g ∷ more)) ≡ false
out_absent true letter g flags more old rest = (or_parts (g.letter == letter) (there letter flags) old).1
out_absent false letter g flags more old rest = or_from (g.letter == letter) (there letter more)
    (or_parts (g.letter == letter) (there letter flags) old).0 rest

absent_out : (letter other : ℕ) (flags : List Flag) → there letter flags ≡ false
    → there letter (without_flag other flags) ≡ false
absent_out letter other [] old = refl
absent_out letter other (g ∷ flags) old =
    out_absent (g.letter == other) letter g flags (without_flag other flags) old (absent_out letter other flags
    (or_parts (g.letter == letter) (there letter flags) old).1)

own_parts : (t u : Bool) → (not t && u) ≡ true → (t ≡ false) × (u ≡ true)
own_parts true u is = absurd cc
own_parts false u is = (refl, is)

own_both : (t u : Bool) → t ≡ false → u ≡ true → (not t && u) ≡ true
own_both t u new rest = ap (λ x. not x && u) new ∙ rest

other_way : (a b : ℕ) → (a == b) ≡ false → (b == a) ≡ false
other_way a b is = grind (arith, is)

own_put_by : (t : Bool) (f g : Flag) (flags : List Flag) → (g.letter == f.letter) ≡ t → there g.letter flags ≡ false
    → has_own_letters flags ≡ true → has_own_letters (with_flag f flags) ≡ true
    → has_own_letters (cond t (f ∷ flags) (g ∷ with_flag f flags)) ≡ true
own_put_by true f g flags same new own more = own_both (there f.letter flags) (has_own_letters flags)
    (subst (λ l. there l flags ≡ false) (eqb-true g.letter f.letter same) new) own
own_put_by false f g flags same new own more =
    own_both (there g.letter (with_flag f flags)) (has_own_letters (with_flag f flags)) (absent_put g.letter f flags
    (other_way g.letter f.letter same) new) more

own_put : (f : Flag) (flags : List Flag) → has_own_letters flags ≡ true → has_own_letters (with_flag f flags) ≡ true
own_put f [] own = refl
own_put f (g ∷ flags) own =
    let parts = own_parts (there g.letter flags) (has_own_letters flags) own in
    own_put_by (g.letter == f.letter) f g flags refl parts.0 parts.1 (own_put f flags parts.1)

own_out_by : (t : Bool) (letter : ℕ) (g : Flag) (flags : List Flag) → there g.letter flags ≡ false
    → has_own_letters flags ≡ true → has_own_letters (without_flag letter flags) ≡ true
    → has_own_letters (cond t flags (g ∷ without_flag letter flags)) ≡ true
own_out_by true letter g flags new own more = own
own_out_by false letter g flags new own more =
    own_both (there g.letter (without_flag letter flags)) (has_own_letters (without_flag letter flags))
    (absent_out g.letter letter flags new) more

own_out : (letter : ℕ) (flags : List Flag) → has_own_letters flags ≡ true → has_own_letters (without_flag letter flags)
    ≡ true
own_out letter [] own = refl
own_out letter (g ∷ flags) own =
    let parts = own_parts (there g.letter flags) (has_own_letters flags) own in
    own_out_by (g.letter == letter) letter g flags parts.0 parts.1 (own_out letter flags parts.1)

-- ---- what is kept by each change

-- the text of flag l behind an unlocking
abbrev IsUnlocked : (List ℕ → Type 0) → Type 0
IsUnlocked P = (others text : List ℕ) → is_all text ≡ false → P text → is_empty (without_releases others text) ≡ false
    → P (without_releases others text)

-- What holds of flags, and what holds of a flag that is put among them.
record Kept (Inv : List Flag → Type 0) (P : Flag → Type 0) : Type 0 where
  put : (f : Flag) (flags : List Flag) → P f → Inv flags → Inv (with_flag f flags)
  out : (letter : ℕ) (flags : List Flag) → Inv flags → Inv (without_flag letter flags)
  found : (flags : List Flag) (f : Flag) → Inv flags → flag_of flags flag_l ≡ Some f → P (flag_with flag_l f.text)
  set : (word : List ℕ) → may_set (word_letter word) (word_text word) ≡ true
      → P (flag_with (word_letter word) (word_text word))
  unlock : IsUnlocked (λ text. P (flag_with flag_l text))

same_made : (r : Result (List Flag) ℕ) (a b : List Flag) → r ≡ Ok a → r ≡ Ok b → a ≡ b
same_made r a b first second = cc

done_by : (P : List Flag → Type 0) (t : Bool) (letter : ℕ) (made after : List Flag) → (t ≡ true → P made)
    → (if_made : cond t (Ok made) (Err letter) ≡ Ok after) → P after
done_by P true letter made after holds is = subst P (same_made (Ok made) made after refl is) (holds refl)
done_by P false letter made after holds is = absurd cc

word_set : (Inv : List Flag → Type 0) (P : Flag → Type 0) → Kept Inv P → (flags after : List Flag) (word : List ℕ)
    → Inv flags → set_word flags word ≡ Ok after → Inv after
word_set Inv P kept flags after word inv is =
    done_by Inv (may_set (word_letter word) (word_text word)) (word_letter word)
    (with_flag (flag_with (word_letter word) (word_text word)) flags) after
    (λ fits. kept.put (flag_with (word_letter word) (word_text word)) flags (kept.set word fits) inv) is

put_left : (Inv : List Flag → Type 0) (P : Flag → Type 0) → Kept Inv P → (flags : List Flag) (text : List ℕ) → Inv flags
    → (is_empty text ≡ false → P (flag_with flag_l text)) → (t : Bool) → is_empty text ≡ t
    → Inv (cond t (without_flag flag_l flags) (with_flag (flag_with flag_l text) flags))
put_left Inv P kept flags text inv fits true is = kept.out flag_l flags inv
put_left Inv P kept flags text inv fits false is = kept.put (flag_with flag_l text) flags (fits is) inv

unlocked_in : (Inv : List Flag → Type 0) (P : Flag → Type 0) → Kept Inv P → (flags : List Flag) (others : List ℕ)
    (o : Option Flag) → Inv flags → flag_of flags flag_l ≡ o → locks_all o ≡ false → Inv (unlock_in flags others o)
unlocked_in Inv P kept flags others None inv is free = inv
unlocked_in Inv P kept flags others (Some f) inv is free =
    put_left Inv P kept flags (without_releases others f.text) inv (kept.unlock others f.text free
    (kept.found flags f inv is)) (is_empty (without_releases others f.text)) refl

-- a word with a text that isn't `a` is one of releases, and flag l isn't `a`
word_free : (a b c d e f : Bool) → c ≡ false → e ≡ false → (a && (c || (d && (e || b && not f)))) ≡ true → f ≡ false
word_free true true false true false false first second is = refl
word_free true true false true false true first second is = absurd cc
word_free true false false true false f first second is = absurd cc
word_free true b false false false f first second is = absurd cc
word_free true b true d e f first second is = absurd cc
word_free true b false d true f first second is = absurd cc
word_free false b c d e f first second is = absurd cc

word_left : (Inv : List Flag → Type 0) (P : Flag → Type 0) → Kept Inv P → (flags : List Flag) (letter : ℕ)
    (text : List ℕ) → Inv flags → may_remove flags letter text ≡ true
    → (t u : Bool) → is_empty text ≡ t → is_all text ≡ u
    → Inv (cond (t || u) (without_flag letter flags) (unlock_in flags text (flag_of flags flag_l)))
word_left Inv P kept flags letter text inv may true u first second = kept.out letter flags inv
word_left Inv P kept flags letter text inv may false true first second = kept.out letter flags inv
word_left Inv P kept flags letter text inv may false false first second =
    unlocked_in Inv P kept flags text (flag_of flags flag_l) inv refl
    (word_free (is_flag letter) (are_joined text) (is_empty text) (letter == flag_l) (is_all text)
    (locks_all (flag_of flags flag_l)) first second may)

word_removed : (Inv : List Flag → Type 0) (P : Flag → Type 0) → Kept Inv P → (flags after : List Flag) (word : List ℕ)
    → Inv flags → remove_word flags word ≡ Ok after → Inv after
word_removed Inv P kept flags after word inv is =
    done_by Inv (may_remove flags (word_letter word) (word_text word)) (word_letter word)
    (without_word flags (word_letter word) (word_text word)) after
    (λ may. word_left Inv P kept flags (word_letter word) (word_text word) inv may (is_empty (word_text word))
    (is_all (word_text word)) refl refl) is

turn_by : (Inv : List Flag → Type 0) (r : Result (List Flag) ℕ) (next : List Flag → Result (List Flag) ℕ)
    (after : List Flag)
    → ((middle : List Flag) → r ≡ Ok middle → Inv middle) → ((middle : List Flag) → Inv middle → next middle ≡ Ok after
    → Inv after) → (r >>= next) ≡ Ok after → Inv after
turn_by Inv (Ok middle) next after first rest is = rest middle (first middle refl) is
turn_by Inv (Err letter) next after first rest is = absurd cc

turns : (Inv : List Flag → Type 0) (change : List Flag → List ℕ → Result (List Flag) ℕ)
    → ((flags after : List Flag) (word : List ℕ) → Inv flags → change flags word ≡ Ok after → Inv after)
    → (flags after : List Flag) (words : List (List ℕ)) → Inv flags → by_words change flags words ≡ Ok after → Inv after
turns Inv change step flags after [] inv is = subst Inv (same_made (Ok flags) flags after refl is) inv
turns Inv change step flags after (word ∷ words) inv is =
    turn_by Inv (change flags word) (λ next. by_words change next words) after
    (λ middle one. step flags middle word inv one) (λ middle holds rest. turns Inv change step middle after words
    holds rest) is

flags_kept : (Inv : List Flag → Type 0) (P : Flag → Type 0) → Kept Inv P → (flags after : List Flag)
    (set removed : List (List ℕ)) → Inv flags → changed_flags flags set removed ≡ Ok after → Inv after
flags_kept Inv P kept flags after set removed inv is =
    turn_by Inv (by_words set_word flags set) (λ next. by_words remove_word next removed) after
    (λ middle one. turns Inv set_word (word_set Inv P kept) flags middle set inv one)
    (λ middle holds rest. turns Inv remove_word (word_removed Inv P kept) middle after removed holds rest) is

-- ---- the text of flag l

unlocked_by : (P : List ℕ → Type 0) (t : Bool) (new text : List ℕ) → P text → (t ≡ true → is_empty new ≡ false → P new)
    → is_empty (cond t new text) ≡ false → P (cond t new text)
unlocked_by P true new text old fits some = fits refl some
unlocked_by P false new text old fits some = old

line_by : (P : List ℕ → Type 0) (others text : List ℕ) → P text
    → (is_empty (with_commas (left_of (releases_of others) (releases_of text))) ≡ false
    → P (with_commas (left_of (releases_of others) (releases_of text))))
    → is_empty (without_releases others text) ≡ false → P (without_releases others text)
line_by P others text old fits some =
    unlocked_by P (list_any (is_among (releases_of others)) (releases_of text))
    (with_commas (left_of (releases_of others) (releases_of text))) text old (λ changed. fits) some

left_visible : (others text : List ℕ) → AreVisible (with_commas (left_of (releases_of others) (releases_of text)))
left_visible others text =
    joined_visible (left_of (releases_of others) (releases_of text)) (all_filtered (λ r. r < 10000)
    (λ r. not (is_among (releases_of others) r)) (releases_of text) (releases_low text))

visible_line : (bytes : List ℕ) → AreVisible bytes → HasNoLf bytes
visible_line bytes are = All-from_recursion (λ b. b ≢ 10) bytes (each (λ b. 40 < b) (λ b. b ≢ 10)
    (λ b high is. absurd (omega (arith, high, is))) bytes are)

pub line_unlocked : IsUnlocked HasNoLf
line_unlocked others text free old some = line_by HasNoLf others text old
    (λ more. visible_line (with_commas (left_of (releases_of others) (releases_of text))) (left_visible others text))
    some

either_false : (a b : Bool) → (a || b) ≡ true → a ≡ false → b ≡ true
either_false true b is free = absurd cc
either_false false b is free = is

left_fits : (others text : List ℕ) → are_releases text ≡ true
    → is_empty (with_commas (left_of (releases_of others) (releases_of text))) ≡ false
    → are_releases (with_commas (left_of (releases_of others) (releases_of text))) ≡ true
left_fits others text are some =
    joined_fits (left_of (releases_of others) (releases_of text)) (all_filtered (λ r. (r < 10000) × (0 < r))
    (λ r. not (is_among (releases_of others) r)) (releases_of text) (releases_some text are)) some

l_flag : (text : List ℕ) → AreVisible text → are_releases text ≡ true → IsFlag (flag_with flag_l text)
l_flag text visible are = record {
  letter = refl;
  front = visible_begins text visible;
  back = visible_ends text visible;
  text = or_right (is_all text) (are_releases text) are;
}

flag_unlocked : IsUnlocked (λ text. IsFlag (flag_with flag_l text))
flag_unlocked others text free old some =
    let are : are_releases text ≡ true = either_false (is_all text) (are_releases text) old.text free in
    line_by (λ t. IsFlag (flag_with flag_l t)) others text old
    (λ more. l_flag (with_commas (left_of (releases_of others) (releases_of text))) (left_visible others text)
    (left_fits others text are more)) some

-- ---- the flag that a word says

word_begins : (word : List ℕ) → begins_blank (word_text word) ≡ false
word_begins [] = refl
word_begins (b ∷ text) = skipped_begins (drop_blanks text)

word_ends : (word : List ℕ) → ends_blank (word_text word) ≡ false
unfolding ends_blank
word_ends [] = refl
word_ends (b ∷ text) = skipped_ends (drop_blanks text) (dropped_ends text)

-- what a row of the table says of its letter
abbrev IsSound : ℕ → Form → Type 0
IsSound letter form = (text : List ℕ) → fits_form form text ≡ true → (is_letter letter ≡ true)
    × (fits_letter letter text ≡ true) × ((letter == flag_e) ≡ false)

numbered : (o : Option ℕ) → nat_lt 0 (unwrap_or o 0) ≡ true → is_some o ≡ true
numbered None is = absurd cc
numbered (Some n) is = refl

release_number : (text : List ℕ) → is_release text ≡ true → is_number text ≡ true
release_number text is = numbered (number 4 text) is

locked_text : (a b c : Bool) → (b ≡ true → c ≡ true) → (a || b) ≡ true → (a || c) ≡ true
locked_text true b c more is = refl
locked_text false b c more is = more is

all_sound : AllByRecursion (λ (r : FlagRow). IsSound r.0 r.1) flag_rows
all_sound = (
  (λ text is. (refl, refl, refl)),
  (
    (λ text is. (refl, release_number text is, refl)),
    (
      (λ text is. (refl, is, refl)),
      (
        (λ text is. (refl, release_number text is, refl)),
        (
          (λ text is. (refl, refl, refl)),
          (
            (λ text is. (refl, refl, refl)),
            (
              (λ text is. (
                refl,
                locked_text (is_all text) (are_joined text) (are_releases text) (joined_releases text) is,
                refl,
              )),
              (
                (λ text is. (refl, refl, refl)),
                (
                  (λ text is. (refl, refl, refl)),
                  (
                    (λ text is. (refl, refl, refl)),
                    ((λ text is. (refl, refl, refl)), ((λ text is. (refl, refl, refl)), tt)),
                  ),
                ),
              ),
            ),
          ),
        ),
      ),
    ),
  ),
)

row_by : (t : Bool) (letter : ℕ) (r : FlagRow) (rest : Option FlagRow) (found : FlagRow) → (r.0 == letter) ≡ t
    → IsSound r.0 r.1 → (rest ≡ Some found → IsSound letter found.1) → cond t (Some r) rest ≡ Some found
    → IsSound letter found.1
row_by true letter r rest found here sound more is = subst (λ l. IsSound l found.1) (eqb-true r.0 letter here)
    (subst (λ (x : FlagRow). IsSound r.0 x.1) (same r found is) sound)
  where
    same : (a b : FlagRow) → Some a ≡ Some b → a ≡ b
    same a b e = cc
row_by false letter r rest found here sound more is = more is

row_sound : (letter : ℕ) (rs : List FlagRow) (found : FlagRow) → AllByRecursion (λ (r : FlagRow). IsSound r.0 r.1) rs
    → find (λ (r : FlagRow). r.0 == letter) rs ≡ Some found → IsSound letter found.1
row_sound letter [] found all is = absurd cc
row_sound letter (r ∷ rs) found all is = row_by (r.0 == letter) letter r (find (λ (x : FlagRow). x.0 == letter) rs)
    found refl all.0 (row_sound letter rs found all.1) is

-- What may be set.
record IsSettable (letter : ℕ) (text : List ℕ) : Type 0 where
  letter_is : is_letter letter ≡ true
  fits : fits_letter letter text ≡ true
  plain : (letter == flag_e) ≡ false
  line : has_lf text ≡ false

settable_by : (letter : ℕ) (text : List ℕ) (o : Option FlagRow) → ((r : FlagRow) → o ≡ Some r → IsSound letter r.1)
    → fits_row (option_map (λ (r : FlagRow). r.1) o) text ≡ true → IsSettable letter text
settable_by letter text None sound is = absurd cc
settable_by letter text (Some r) sound is =
    let fits = sound r refl text (left_true (fits_form r.1 text) (not (has_lf text)) is) in
    record {
      letter_is = fits.0;
      fits = fits.1;
      plain = fits.2;
      line = rest_false (fits_form r.1 text)
          (has_lf text) is;
    }

settable : (letter : ℕ) (text : List ℕ) → may_set letter text ≡ true → IsSettable letter text
settable letter text is = settable_by letter text (find (λ (r : FlagRow). r.0 == letter) flag_rows)
    (λ r found. row_sound letter flag_rows r all_sound found) is

word_flag : (word : List ℕ) → may_set (word_letter word) (word_text word) ≡ true
    → IsFlag (flag_with (word_letter word) (word_text word))
word_flag word is =
    let s = settable (word_letter word) (word_text word) is in
    record { letter = s.letter_is; front = word_begins word; back = word_ends word; text = s.fits }

-- ---- the rules of all flags

abbrev is_plain : Flag → Bool
is_plain f = f.letter == flag_e && is_one f.text

plain_each : (flags : List Flag) → is_encoded flags ≡ false → AllByRecursion (λ f. is_plain f ≡ false) flags
plain_each [] is = tt
plain_each (f ∷ flags) is = let parts = or_parts (is_plain f) (is_encoded flags) is in
    (parts.0, plain_each flags parts.1)

each_plain : (flags : List Flag) → AllByRecursion (λ f. is_plain f ≡ false) flags → is_encoded flags ≡ false
each_plain [] all = refl
each_plain (f ∷ flags) all = or_from (is_plain f) (is_encoded flags) all.0 (each_plain flags all.1)

-- Flags that keep the rules.
record AreFlags (flags : List Flag) : Type 0 where
  each_is : AllByRecursion IsFlag flags
  own : has_own_letters flags ≡ true
  plain : AllByRecursion (λ f. is_plain f ≡ false) flags

abbrev IsPut : Flag → Type 0
IsPut f = IsFlag f × (is_plain f ≡ false)

relettered : (f : Flag) → f.letter ≡ flag_l → IsFlag f → IsFlag (flag_with flag_l f.text)
relettered f same is = subst (λ letter. IsFlag (flag_with letter f.text)) same
    (record { letter = is.letter; front = is.front; back = is.back; text = is.text })

rules_kept : Kept AreFlags IsPut
rules_kept = record {
  put = λ f flags new are. record {
    each_is = each_put IsFlag f flags new.0 are.each_is;
    own = own_put f flags are.own;
    plain = each_put (λ g. is_plain g ≡ false) f flags new.1 are.plain;
  };
  out = λ letter flags are. record {
    each_is = each_out IsFlag letter flags are.each_is;
    own =
        own_out letter flags are.own;
    plain = each_out (λ g. is_plain g ≡ false) letter flags are.plain;
  };
  found = λ flags f are is. (
    relettered f (is_found flag_l flags f is) (each_found IsFlag flag_l flags f are.each_is
        is),
    refl,
  );
  set = λ word fits. (
    word_flag word fits,
    and_left (word_letter word == flag_e) (is_one (word_text word))
        (settable (word_letter word) (word_text word) fits).plain,
  );
  unlock = λ others text free old some. (flag_unlocked others text free old.0 some, refl);
}

abbrev IsLineFlag : Flag → Type 0
IsLineFlag f = HasNoLf f.text

lines_kept : Kept (λ flags. AllByRecursion IsLineFlag flags) IsLineFlag
lines_kept = record {
  put = each_put IsLineFlag;
  out = each_out IsLineFlag;
  found = λ flags f are is. each_found IsLineFlag flag_l flags f are is;
  set = λ word fits. line_of (word_text word) (settable (word_letter word) (word_text word) fits).line;
  unlock = line_unlocked;
}

-- ---- headers

pub header_kept : (h : Header) (added erased set removed : List (List ℕ)) (flags : List Flag)
    (description : List (List ℕ)) → IsHeader h → changed_flags h.flags set removed ≡ Ok flags → AreBare description
    → IsHeader (with_rules h (changed_users h.users added erased) flags description)
header_kept h added erased set removed flags description is changed bare =
    let are = flags_kept AreFlags IsPut rules_kept h.flags flags set removed
    (record { each_is = is.flags; own = is.letters; plain = plain_each h.flags is.plain }) changed in
    record {
      rules = record {
        table = is.table;
        flags = are.each_is;
        letters = are.own;
        users = users_changed (λ line. begins 1 line ≡ false) own_bare h.users added erased is.users;
        description = bare;
      };
      plain = each_plain flags are.plain;
    }

pub spelled_kept : (h : Header) (added erased set removed : List (List ℕ)) (flags : List Flag)
    (description : List (List ℕ)) → IsSpelled h → changed_flags h.flags set removed ≡ Ok flags → AreLines description
    → IsSpelled (with_rules h (changed_users h.users added erased) flags description)
spelled_kept h added erased set removed flags description is changed lines = record {
  records = is.records;
  users = users_changed HasNoLf own_line h.users added erased is.users;
  flags = flags_kept (λ fs. AllByRecursion IsLineFlag fs) IsLineFlag lines_kept h.flags flags set removed is.flags
      changed;
  description = lines;
}
