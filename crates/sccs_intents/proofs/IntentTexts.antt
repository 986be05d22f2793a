-- What is written as an intent is read again, and what is read is written so.
use Rattle.std.proofs.Common.{◌≡◌, ℕ, ◌+◌, ◌*◌, ◌==◌, ◌<◌, ◌≤◌, nat_lt, ◌⊎◌, inl, inr, Bool, true, false, not}
use Rattle.std.proofs.Common.{if◌then◌else◌, List, [], ◌∷◌, ◌++◌, length, length-append, map, flat_map, Option, None}
use Rattle.std.proofs.Common.{Some, Result, Ok, Err, refl, sym, ap, subst, ◌∙◌, append_assoc, append-nil, arith}
use Rattle.std.specs.List.{AllByRecursion, list_all}
use Rattle.std.specs.Str.{bytes_eq}
use Rattle.std.proofs.lemmas.Bool.{and_from, and_parts, cases_Bool, eqb-true, le-ltb, ltb-false, ne_eqb, and_right}
use Rattle.std.proofs.lemmas.List.Elements.{recursion_from_All}
use Rattle.std.proofs.lemmas.Slice.Eq.{bytes_eq-Decides}
use Rattle.sccs_base.specs.Constants.{file_limit}
use Rattle.sccs_base.specs.Cut.{Cut, cut}
use Rattle.sccs_base.specs.Name.{IsName, IsPlain, IsSFileName, is_sfile_name, sfile_name_decides}
use Rattle.sccs_sid.specs.Reading.{is_empty}
use Rattle.sccs_intents.specs.Intents.{AreOthers, IsOther, begun, closed, closes, entries_from, entry_of, entry_with}
use Rattle.sccs_intents.specs.Intents.{fate_of, first_line, go_on, has_name, intent_of, last_line, with_entry}
use Rattle.sccs_intents.specs.Written.{IsIntent, ended, entry_line, entry_text, intent_text, letter_of}
use Rattle.sccs_intents.specs.declared.intents.IntentEntry.{IntentEntry}
use Rattle.sccs_intents.specs.declared.intents.Fate.{Fate}
use Rattle.sccs_intents.specs.declared.intents.Fate.TheVariants.{Replaced, Removed}
use Rattle.sccs_intents.proofs.Cuts.{cut_ended, cut_joined, is_other}
use Rattle.sccs_intents.proofs.Others.{alone_behind, other_behind, others_more}
use Rattle.sccs_base.proofs.Cuts.{with_line}

-- ---- the lines of a text

plain_others : (name : List ℕ) → AllByRecursion IsPlain name → list_all is_other name ≡ true
plain_others [] plain = refl
plain_others (b ∷ name) plain = and_from (is_other b) (list_all is_other name) (ap not (ne_eqb b 10 plain.0.1.0))
    (plain_others name plain.1)

by_fate : (fate : Fate) (name : List ℕ) → list_all is_other name ≡ true → list_all is_other (letter_of fate ∷ 32 ∷ name)
    ≡ true
by_fate Replaced name whole = whole
by_fate Removed name whole = whole

entry_whole : (e : IntentEntry) → IsName e.name → list_all is_other (entry_line e) ≡ true
entry_whole e name = by_fate e.fate e.name (plain_others e.name (recursion_from_All IsPlain e.name name.plain))

-- the lines of an intent behind the first one, as they are cut
abbrev lines_of : List IntentEntry → Cut
lines_of entries = record { lines = map entry_line entries ++ last_line ∷ []; tail = [] }

cut_entries : (entries : List IntentEntry) → AreOthers entries → cut (flat_map entry_text entries ++ ended last_line)
    ≡ lines_of entries
unfolding cut
cut_entries [] are = refl
cut_entries (e ∷ entries) are =
    ap cut (append_assoc (entry_text e) (flat_map entry_text entries) (ended last_line))
    ∙ (cut_ended (entry_line e) (flat_map entry_text entries ++ ended last_line) (entry_whole e are.0.name)
    ∙ ap (with_line (entry_line e)) (cut_entries entries are.1))

-- ---- what is written is read

not_last : (fate : Fate) (name : List ℕ) → bytes_eq (letter_of fate ∷ 32 ∷ name) last_line ≡ false
not_last Replaced name = refl
not_last Removed name = refl

entry_again : (fate : Fate) (name : List ℕ) → is_sfile_name name ≡ true → entry_of (letter_of fate ∷ 32 ∷ name) ≡ Some
    (record { name = name; fate = fate })
unfolding entry_of
entry_again Replaced name is = ap (λ test. if test then Some (record { name = name; fate = Replaced }) else None) is
entry_again Removed name is = ap (λ test. if test then Some (record { name = name; fate = Removed }) else None) is

added_again : (before : List IntentEntry) (e : IntentEntry) → IsName e.name → IsSFileName e.name
    → has_name before e.name ≡ false → with_entry before (entry_of (entry_line e)) ≡ Some (before ++ e ∷ [])
added_again before e name sfile alone =
    ap (with_entry before) (entry_again e.fate e.name ((sfile_name_decides e.name).1 (name, sfile)))
    ∙ ap (λ test. if test then None else Some (before ++ e ∷ [])) alone

one_line : (number : ℕ) (before all : List IntentEntry) (line : List ℕ) (lines : List (List ℕ)) (tail : List ℕ)
    → closes before line ≡ false → with_entry before (entry_of line) ≡ Some all
    → entries_from number before (line ∷ lines) tail ≡ entries_from (number + 1) all lines tail
one_line number before all line lines tail ends with =
    ap (λ test. if test then closed (number + 1) before lines tail else go_on number (with_entry before (entry_of line))
    (λ new. entries_from (number + 1) new lines tail)) ends
    ∙ ap (λ (o : Option (List IntentEntry)). go_on number o (λ new. entries_from (number + 1) new lines tail)) with

ends_again : (number : ℕ) (before : List IntentEntry) → 0 < length before → entries_from number before
    (last_line ∷ []) [] ≡ Ok before
ends_again number [] some = absurd (omega (arith, some))
ends_again number (e ∷ before) some = refl

entries_again : (number : ℕ) (before entries : List IntentEntry) → AreOthers (before ++ entries)
    → 0 < length (before ++ entries)
    → entries_from number before (map entry_line entries ++ last_line ∷ []) [] ≡ Ok (before ++ entries)
entries_again number before [] are some =
    ends_again number before (subst (λ (l : List IntentEntry). 0 < length l) (append-nil before) some)
    ∙ ap Ok (sym (append-nil before))
entries_again number before (e ∷ entries) are some =
    let other : IsOther entries e = other_behind before entries e are in
    let same : before ++ e ∷ entries ≡ (before ++ e ∷ []) ++ entries = sym (append_assoc before (e ∷ []) entries) in
    one_line number before (before ++ e ∷ []) (entry_line e) (map entry_line entries ++ last_line ∷ []) []
    (and_right (not (is_empty before)) (bytes_eq (entry_line e) last_line) (not_last e.fate e.name))
    (added_again before e other.name other.sfile (alone_behind before entries e are))
    ∙ (entries_again (number + 1) (before ++ e ∷ []) entries (subst AreOthers same are)
    (subst (λ (l : List IntentEntry). 0 < length l) same some)
    ∙ ap Ok (sym same))

-- the text of an intent as it is cut
cut_text : (entries : List IntentEntry) → AreOthers entries → cut (intent_text entries) ≡ with_line first_line
    (lines_of entries)
cut_text entries are =
    cut_ended first_line (flat_map entry_text entries ++ ended last_line) refl ∙ ap (with_line first_line)
    (cut_entries entries are)

pub text_again : (entries : List IntentEntry) → IsIntent entries → intent_of (intent_text entries) ≡ Ok entries
unfolding intent_of
text_again entries is =
    ap (λ test. if test then Err 1 else begun (cut (intent_text entries)).lines (cut (intent_text entries)).tail)
    (le-ltb file_limit (length (intent_text entries)) is.short)
    ∙ (ap (λ (c : Cut). begun c.lines c.tail) (cut_text entries is.others)
    ∙ entries_again 2 [] entries is.others is.some)

-- ---- what is read is written so

abbrev are_read : List IntentEntry → Result (List IntentEntry) ℕ
are_read entries = Ok entries

ok_same : (a c : List IntentEntry) → are_read a ≡ Ok c → a ≡ c
ok_same a c e = cc

err_ok : (n : ℕ) (a : List IntentEntry) → Err n ≡ Ok a → ⊥
err_ok n a e = cc

then_some : (test : Bool) (made e : IntentEntry) → (if test then Some made else None) ≡ Some e → (test ≡ true)
    × (made ≡ e)
then_some true made e is = (refl, some_same made e is)
  where
    some_same : (a c : IntentEntry) → Some a ≡ Some c → a ≡ c
    some_same a c e = cc
then_some false made e is = cc

else_some : (test : Bool) (made new : List IntentEntry) → (if test then None else Some made) ≡ Some new → (test ≡ false)
    × (made ≡ new)
else_some true made new is = cc
else_some false made new is = (refl, some_same made new is)
  where
    some_same : (a c : List IntentEntry) → Some a ≡ Some c → a ≡ c
    some_same a c e = cc

then_ok : (test : Bool) (read : Result (List IntentEntry) ℕ) (entries : List IntentEntry)
    → (if test then read else Err 1) ≡ Ok entries → (test ≡ true) × (read ≡ Ok entries)
then_ok true read entries is = (refl, is)
then_ok false read entries is = absurd (err_ok 1 entries is)

else_ok : (test : Bool) (read : Result (List IntentEntry) ℕ) (entries : List IntentEntry)
    → (if test then Err 1 else read) ≡ Ok entries → (test ≡ false) × (read ≡ Ok entries)
else_ok true read entries is = absurd (err_ok 1 entries is)
else_ok false read entries is = (refl, is)

letter_is : (t u : Bool) (letter : ℕ) (fate : Fate) → (t ≡ true → letter ≡ 114) → (u ≡ true → letter ≡ 100)
    → (if t then Some Replaced else if u then Some Removed else None) ≡ Some fate → letter ≡ letter_of fate
letter_is true u letter Replaced r d is = r refl
letter_is true u letter Removed r d is = cc
letter_is false true letter Replaced r d is = cc
letter_is false true letter Removed r d is = d refl
letter_is false false letter fate r d is = cc

-- a line is that of an entry
record IsLine (line : List ℕ) (e : IntentEntry) : Type 0 where
  pub same : line ≡ entry_line e
  pub name : IsName e.name
  pub sfile : IsSFileName e.name

line_with : (o : Option Fate) (letter : ℕ) (name : List ℕ) (e : IntentEntry) → fate_of letter ≡ o
    → entry_with o name ≡ Some e → IsLine (letter ∷ 32 ∷ name) e
line_with None letter name e fate is = cc
line_with (Some fate) letter name e found is =
    let made = then_some (is_sfile_name name) (record { name = name; fate = fate }) e is in
    let named = (sfile_name_decides name).0 made.0 in
    let same : letter ≡ letter_of fate = letter_is (letter == 114) (letter == 100) letter fate (eqb-true letter 114)
    (eqb-true letter 100) found in
    subst (IsLine (letter ∷ 32 ∷ name)) made.1
    (record { same = ap (λ l. l ∷ 32 ∷ name) same; name = named.0; sfile = named.1 })

line_by_blank : (test : Bool) (letter blank : ℕ) (name : List ℕ) (e : IntentEntry) → (test ≡ true → blank ≡ 32)
    → (if test then entry_with (fate_of letter) name else None) ≡ Some e → IsLine (letter ∷ blank ∷ name) e
line_by_blank true letter blank name e same is =
    subst (λ b. IsLine (letter ∷ b ∷ name) e) (sym (same refl)) (line_with (fate_of letter) letter name e refl is)
line_by_blank false letter blank name e same is = cc

line_is : (line : List ℕ) (e : IntentEntry) → entry_of line ≡ Some e → IsLine line e
unfolding entry_of
line_is [] e is = cc
line_is (letter ∷ []) e is = cc
line_is (letter ∷ blank ∷ name) e is = line_by_blank (blank == 32) letter blank name e (eqb-true blank 32) is

-- one entry more came of a line
record Adds (before : List IntentEntry) (line : List ℕ) (new : List IntentEntry) : Type 0 where
  pub entry : IntentEntry
  pub line_of : IsLine line entry
  pub alone : has_name before entry.name ≡ false
  pub same : new ≡ before ++ entry ∷ []

adds_by : (o : Option IntentEntry) (before : List IntentEntry) (line : List ℕ) (new : List IntentEntry)
    → entry_of line ≡ o → with_entry before o ≡ Some new → Adds before line new
adds_by None before line new found is = cc
adds_by (Some e) before line new found is =
    let made = else_some (has_name before e.name) (before ++ e ∷ []) new is in
    record { entry = e; line_of = line_is line e found; alone = made.0; same = sym made.1 }

-- entries behind others, and the bytes of which they were read
record ReadOn (before : List IntentEntry) (lines : List (List ℕ)) (tail : List ℕ) (all : List IntentEntry) : Type 0
  where
    pub more : List IntentEntry
    pub both : all ≡ before ++ more
    pub text : flat_map ended lines ++ tail ≡ flat_map entry_text more ++ ended last_line
    pub others : AreOthers before → AreOthers all
    pub some : 0 < length all

some_of : (entries : List IntentEntry) → not (is_empty entries) ≡ true → 0 < length entries
some_of [] is = cc
some_of (e ∷ entries) is = omega arith

last_text : (line : List ℕ) → bytes_eq line last_line ≡ true → flat_map ended (line ∷ []) ++ [] ≡ ended last_line
last_text line is =
    append-nil (ended line ++ []) ∙ (append-nil (ended line) ∙ ap ended ((bytes_eq-Decides line last_line).0 is))

read_last : (number : ℕ) (before : List IntentEntry) (line : List ℕ) (lines : List (List ℕ)) (tail : List ℕ)
    (all : List IntentEntry) → closes before line ≡ true
    → closed number before lines tail ≡ Ok all → ReadOn before (line ∷ lines) tail all
read_last number before line [] [] all ends is =
    let parts = and_parts (not (is_empty before)) (bytes_eq line last_line) ends in
    subst (ReadOn before (line ∷ []) []) (ok_same before all is) (record {
      more = [];
      both = sym (append-nil before);
      text = last_text line parts.1;
      others = λ are. are;
      some = some_of before parts.0;
    })
read_last number before line [] (b ∷ tail) all ends is = absurd (err_ok number all is)
read_last number before line (next ∷ lines) tail all ends is = absurd (err_ok number all is)

read_more : (o : Option (List IntentEntry)) (number : ℕ) (before : List IntentEntry) (line : List ℕ)
    (lines : List (List ℕ)) (tail : List ℕ) (all : List IntentEntry)
    → with_entry before (entry_of line) ≡ o → go_on number o (λ new. entries_from (number + 1) new lines tail) ≡ Ok all
    → ((new : List IntentEntry) → entries_from (number + 1) new lines tail ≡ Ok all → ReadOn new lines tail all)
    → ReadOn before (line ∷ lines) tail all
read_more None number before line lines tail all found is rest = absurd (err_ok number all is)
read_more (Some new) number before line lines tail all found is rest =
    let adds : Adds before line new = adds_by (entry_of line) before line new refl found in
    let on : ReadOn new lines tail all = rest new is in
    let e : IntentEntry = adds.entry in
    record {
      more = e ∷ on.more;
      both = on.both ∙ (ap (λ l. l ++ on.more) adds.same ∙ append_assoc before (e ∷ []) on.more);
      text = append_assoc (ended line) (flat_map ended lines) tail
          ∙ (ap (λ l. ended l ++ (flat_map ended lines ++ tail)) adds.line_of.same
          ∙ (ap (λ l. entry_text e ++ l) on.text ∙ sym (append_assoc (entry_text e) (flat_map entry_text on.more)
          (ended last_line))));
      others = λ are. on.others (subst AreOthers (sym adds.same) (others_more before e are
          (record { name = adds.line_of.name; sfile = adds.line_of.sfile; alone = adds.alone })));
      some = on.some;
    }

read_next : (number : ℕ) (before : List IntentEntry) (line : List ℕ) (lines : List (List ℕ)) (tail : List ℕ)
    (all : List IntentEntry) → (closes before line ≡ true) ⊎ (closes before line ≡ false)
    → entries_from number before (line ∷ lines) tail ≡ Ok all
    → ((new : List IntentEntry) → entries_from (number + 1) new lines tail ≡ Ok all → ReadOn new lines tail all)
    → ReadOn before (line ∷ lines) tail all
read_next number before line lines tail all (inl ends) is rest =
    read_last (number + 1) before line lines tail all ends
    (sym (ap (λ test. if test then closed (number + 1) before lines tail
    else go_on number (with_entry before (entry_of line)) (λ new. entries_from (number + 1) new lines tail)) ends)
    ∙ is)
read_next number before line lines tail all (inr on) is rest =
    read_more (with_entry before (entry_of line)) number before line lines tail all refl
    (sym (ap (λ test. if test then closed (number + 1) before lines tail
    else go_on number (with_entry before (entry_of line)) (λ new. entries_from (number + 1) new lines tail)) on)
    ∙ is) rest

read_on : (number : ℕ) (before : List IntentEntry) (lines : List (List ℕ)) (tail : List ℕ) (all : List IntentEntry)
    → entries_from number before lines tail ≡ Ok all → ReadOn before lines tail all
read_on number before [] tail all is = absurd (err_ok number all is)
read_on number before (line ∷ lines) tail all is =
    read_next number before line lines tail all (cases_Bool (closes before line)) is
    (λ new rest. read_on (number + 1) new lines tail all rest)

-- entries, and the bytes of which they were read
record WasRead (lines : List (List ℕ)) (tail : List ℕ) (entries : List IntentEntry) : Type 0 where
  pub text : flat_map ended lines ++ tail ≡ intent_text entries
  pub others : AreOthers entries
  pub some : 0 < length entries

was_read : (lines : List (List ℕ)) (tail : List ℕ) (entries : List IntentEntry) → begun lines tail ≡ Ok entries
    → WasRead lines tail entries
was_read [] tail entries is = absurd (err_ok 1 entries is)
was_read (line ∷ lines) tail entries is =
    let parts = then_ok (bytes_eq line first_line) (entries_from 2 [] lines tail) entries is in
    let on : ReadOn [] lines tail entries = read_on 2 [] lines tail entries parts.1 in
    record {
      text = append_assoc (ended line) (flat_map ended lines) tail
          ∙ (ap (λ l. ended l ++ (flat_map ended lines ++ tail)) ((bytes_eq-Decides line first_line).0 parts.0)
          ∙ (ap (λ l. ended first_line ++ l) on.text ∙ ap (λ (es : List IntentEntry). ended first_line
          ++ (flat_map entry_text es ++ ended last_line)) (sym on.both)));
      others = on.others tt;
      some = on.some;
    }

pub text_spelled : (bytes : List ℕ) (entries : List IntentEntry) → intent_of bytes ≡ Ok entries
    → bytes ≡ intent_text entries
unfolding intent_of
text_spelled bytes entries is =
    let parts = else_ok (nat_lt file_limit (length bytes)) (begun (cut bytes).lines (cut bytes).tail) entries is in
    cut_joined bytes ∙ (was_read (cut bytes).lines (cut bytes).tail entries parts.1).text

pub text_read : (bytes : List ℕ) (entries : List IntentEntry) → intent_of bytes ≡ Ok entries → IsIntent entries
unfolding intent_of
text_read bytes entries is =
    let parts = else_ok (nat_lt file_limit (length bytes)) (begun (cut bytes).lines (cut bytes).tail) entries is in
    let read : WasRead (cut bytes).lines (cut bytes).tail entries = was_read (cut bytes).lines (cut bytes).tail entries
    parts.1 in
    record {
      some = read.some;
      others = read.others;
      short = subst (λ (l : List ℕ). length l ≤ file_limit) (text_spelled bytes entries is)
          (ltb-false file_limit (length bytes) parts.0);
    }

-- ---- how long a text is

entries_short : (entries : List IntentEntry) → AreOthers entries → length (flat_map entry_text entries) ≤ 253 * length
    entries
entries_short [] are = omega arith
entries_short (e ∷ entries) are =
    let rest : length (flat_map entry_text entries) ≤ 253 * length entries = entries_short entries are.1 in
    omega (
      arith,
      rest,
      are.0.name.short,
      length-append (entry_text e) (flat_map entry_text entries),
      length-append
          (entry_line e) (10 ∷ []),
    )

pub thousand_short : (entries : List IntentEntry) → AreOthers entries → length entries ≤ 1000
    → length (intent_text entries) ≤ file_limit
thousand_short entries are few =
    omega (arith, few, entries_short entries are, length-append (flat_map entry_text entries) (ended last_line))
