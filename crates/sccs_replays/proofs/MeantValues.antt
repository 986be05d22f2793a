-- What words mean has valid values: the lines of MRs and comments, and the release of a new file.
use Rattle.std.proofs.Common.{◌≡◌, ◌≢◌, ◌≤◌, ℕ, zero, suc, ◌+◌, Bool, true, false, ◌&&◌, List, [], ◌∷◌, ◌++◌, Option}
use Rattle.std.proofs.Common.{None, Some, IfSome, Result, Ok, Err, refl, sym, ap, subst, ◌∙◌, arith}
use Rattle.std.specs.Prelude.{nat_le, nat_lt, option_and_then, if◌then◌else◌}
use Rattle.std.proofs.lemmas.Bool.{leb-true, ltb-true, and_parts}
use Rattle.std.proofs.lemmas.List.Elements.{All-from_recursion, recursion_from_All}
use Rattle.sccs_base.specs.Constants.{lf}
use Rattle.sccs_base.specs.Cut.{HasNoLf, text_of}
use Rattle.sccs_base.proofs.Lines.{text_fit}
use Rattle.sccs_sid.specs.Reading.{number, only}
use Rattle.sccs_sid.specs.Sid.{IsComponent}
use Rattle.sccs_sid.specs.declared.sids.Sid.{Sid}
use Rattle.sccs_history.specs.History.{AreLines}
use Rattle.sccs_steps.proofs.Turns.{each_all}
use Rattle.sccs_words.specs.BetweenGaps.{AreWordsOf}
use Rattle.sccs_words.specs.Judge.{has_use}
use Rattle.sccs_words.specs.Letters as opt
use Rattle.sccs_words.specs.Meaning.{line_command, first_text, line_meaning, meaning, meaning_by, words_fault}
use Rattle.sccs_words.specs.Meaning.{unless_fault, utility_of, with_changes, with_name, with_number, with_sid}
use Rattle.sccs_words.specs.MrWords.{is_gap, mr_words}
use Rattle.sccs_words.specs.Records.{option_lines, mrs_of, value_of}
use Rattle.sccs_words.specs.Scan.{CommandLine, scanned}
use Rattle.sccs_words.specs.Synopsis.{options_of}
use Rattle.sccs_words.specs.Values.{name_value, release_value, sid_value, soak_number, up_to}
use Rattle.sccs_words.specs.declared.commands.Command.{Command}
use Rattle.sccs_words.specs.declared.commands.Command.TheVariants as c
use Rattle.sccs_words.specs.declared.commands.Usage.{Usage}
use Rattle.sccs_words.specs.declared.scanning.Use.{Use}
use Rattle.sccs_words.specs.declared.tables.Utility.{Utility}
use Rattle.sccs_words.specs.declared.tables.Utility.TheVariants as u
use Rattle.sccs_words.proofs.MrWordLaws.{words_found}
use Rattle.sccs_batch.specs.Entries.{◌>>=◌, has_own, input_in, words_in}
use Rattle.sccs_group_command.specs.GroupText.{Found, entry_at, entry_by, entry_with, fits_behind, go_on, group_from}
use Rattle.sccs_group_command.specs.GroupText.{group_of, head_of, some_of}
use Rattle.sccs_group_command.specs.declared.entries.GroupEntry.{GroupEntry}
use Rattle.std.specs.List.{AllByRecursion}

abbrev pub HasMeantValues : Command → Type 0
HasMeantValues (c.Delta words name) = AreLines words.mrs × AreLines words.comment
HasMeantValues (c.Admin words operands) = IfSome words.release IsComponent × IfSome words.comment AreLines
    × AreLines words.mrs
HasMeantValues (c.Cdc words operands) = AreLines words.mrs × IfSome words.comment AreLines
HasMeantValues command = Unit {0}

abbrev pub AreMeantValues : Result Command Usage → Type 0
AreMeantValues (Ok command) = HasMeantValues command
AreMeantValues (Err usage) = Unit {0}

-- ---- MRs and comments

no_gap : (b : ℕ) → is_gap b ≡ false → b ≢ lf
no_gap b free is = let gap : is_gap lf ≡ false = subst (λ k. is_gap k ≡ false) is free in absurd cc

words_are_lines : (words : List (List ℕ)) (bytes : List ℕ) → AreWordsOf bytes words → AreLines words
words_are_lines [] bytes are = tt
words_are_lines (word ∷ words) bytes (gaps, after, same, gap, one, end, more) = (
  All-from_recursion (λ b. b ≢ lf) word (each_all (λ b. is_gap b ≡ false) (λ b. b ≢ lf) word no_gap one.whole),
  words_are_lines words after more,
)

mrs_are_lines : (value : Option (List ℕ)) → AreLines (mrs_of value)
mrs_are_lines None = tt
mrs_are_lines (Some bytes) = words_are_lines (mr_words bytes) bytes (words_found bytes)

comment_is_lines : (value : Option (List ℕ)) → AreLines (option_lines value)
comment_is_lines None = tt
comment_is_lines (Some bytes) = recursion_from_All HasNoLf (text_of bytes) (text_fit bytes)

asked_comment : (asked : Bool) (value : Option (List ℕ)) → IfSome (if asked then Some (option_lines value)
    else None) AreLines
asked_comment true value = comment_is_lines value
asked_comment false value = tt

-- ---- releases

only_fitting : (fits : Bool) (n : ℕ) → (fits ≡ true → IsComponent n) → IfSome (only fits n) IsComponent
only_fitting true n valid = valid refl
only_fitting false n valid = tt

fitting_release : (n : ℕ) → (nat_lt 0 n && nat_le n 9999) ≡ true → IsComponent n
fitting_release n is =
    let both = and_parts (nat_lt 0 n) (nat_le n 9999) is in
    let most : n ≤ 9999 = leb-true n 9999 both.1 in
    (ltb-true 0 n both.0, omega (arith, most))

number_is_release : (o : Option ℕ) → IfSome (option_and_then (up_to 9999) o) IsComponent
number_is_release None = tt
number_is_release (Some n) = only_fitting (nat_lt 0 n && nat_le n 9999) n (fitting_release n)

release_is_valid : (value : Option (List ℕ)) → IfSome (option_and_then release_value value) IsComponent
release_is_valid None = tt
release_is_valid (Some bytes) = number_is_release (number 4 bytes)

-- ---- commands

named_delta : (uses : List Use) (n : ℕ) (name : Option (List ℕ)) → AreMeantValues (with_name uses n name)
named_delta uses n None = tt
named_delta uses n (Some name) = (mrs_are_lines (value_of opt.m uses), comment_is_lines (value_of opt.y uses))

given_sid : (operands : List (List ℕ)) (n : ℕ) (sid : Option Sid) → AreMeantValues (with_sid operands n sid)
given_sid operands n None = tt
given_sid operands n (Some sid) = tt

given_changes : (uses : List Use) (operands : List (List ℕ)) (n : ℕ) (sid : Option Sid)
    → AreMeantValues (with_changes uses operands n sid)
given_changes uses operands n None = tt
given_changes uses operands n (Some sid) = (
  mrs_are_lines (value_of opt.m uses),
  asked_comment (has_use opt.y uses)
      (value_of opt.y uses),
)

given_number : (n : ℕ) (number : Option ℕ) → AreMeantValues (with_number n number)
given_number n None = tt
given_number n (Some number) = tt

command_values : (utility : Utility) (l : CommandLine) (n : ℕ) → AreMeantValues (line_command utility l n)
command_values u.Admin l n = (
  release_is_valid (value_of opt.r l.uses),
  asked_comment (has_use opt.y l.uses)
      (value_of opt.y l.uses),
  mrs_are_lines (value_of opt.m l.uses),
)
command_values u.Get l n = tt
command_values u.Delta l n = named_delta l.uses n (option_and_then name_value (first_text l.operands))
command_values u.Unget l n = tt
command_values u.Sact l n = tt
command_values u.Tell l n = tt
command_values u.Check l n = tt
command_values u.Rmdel l n = given_sid l.operands n (option_and_then sid_value (value_of opt.r l.uses))
command_values u.Cdc l n = given_changes l.uses l.operands n (option_and_then sid_value (value_of opt.r l.uses))
command_values u.Prs l n = tt
command_values u.Val l n = tt
command_values u.What l n = tt
command_values u.Recover l n = tt
command_values u.Import l n = tt
command_values u.Group l n = tt
command_values u.Batch l n = tt
command_values u.Soak l n = given_number n (option_and_then soak_number (first_text l.operands))

unless_refused : (refusal : Option Usage) (meant : Result Command Usage) → AreMeantValues meant
    → AreMeantValues (unless_fault refusal meant)
unless_refused None meant values = values
unless_refused (Some usage) meant values = tt

line_values : (utility : Utility) (l : CommandLine) (n : ℕ) → AreMeantValues (line_meaning utility l n)
unfolding line_meaning
line_values utility l n = unless_refused (words_fault utility l n) (line_command utility l n)
    (command_values utility l n)

utility_values : (utility : Option Utility) (words : List (List ℕ)) → AreMeantValues (meaning_by utility words)
utility_values None words = tt
utility_values (Some utility) words = line_values utility (scanned (options_of utility) 2 [] None words) _

pub meant_values : (words : List (List ℕ)) → AreMeantValues (meaning words)
unfolding meaning
meant_values [] = tt
meant_values (word ∷ words) = utility_values (utility_of word) words

-- ---- the entries of a group

abbrev IsDeltaEntry : GroupEntry → Type 0
IsDeltaEntry e = HasMeantValues (c.Delta e.words e.name)

some_bound : {A B : Type 0} (o : Option A) (f : A → Option B) (b : B) → (o >>= f) ≡ Some b → (a : A) × (o ≡ Some a)
    × (f a ≡ Some b)
some_bound None f b is = absurd cc
some_bound (Some a) f b is = (a, refl, is)

entry_is_delta : (meant : Result Command Usage) (script : List ℕ) (e : GroupEntry) → AreMeantValues meant
    → entry_by meant script ≡ Some e → IsDeltaEntry e
entry_is_delta (Err usage) script e values is = absurd cc
entry_is_delta (Ok (c.Delta words name)) script e values is =
    let same : record { words = words; name = name; script = script } ≡ e = cc in subst IsDeltaEntry same values
entry_is_delta (Ok (c.Admin words operands)) script e values is = absurd cc
entry_is_delta (Ok (c.Get words operands)) script e values is = absurd cc
entry_is_delta (Ok (c.Unget words operands)) script e values is = absurd cc
entry_is_delta (Ok (c.Sact operands)) script e values is = absurd cc
entry_is_delta (Ok (c.Tell operands)) script e values is = absurd cc
entry_is_delta (Ok (c.Check operands)) script e values is = absurd cc
entry_is_delta (Ok (c.Rmdel sid operands)) script e values is = absurd cc
entry_is_delta (Ok (c.Cdc words operands)) script e values is = absurd cc
entry_is_delta (Ok (c.Prs words operands)) script e values is = absurd cc
entry_is_delta (Ok (c.Val words)) script e values is = absurd cc
entry_is_delta (Ok (c.What first operands)) script e values is = absurd cc
entry_is_delta (Ok (c.Recover operands)) script e values is = absurd cc
entry_is_delta (Ok (c.Import operands)) script e values is = absurd cc
entry_is_delta (Ok c.Group) script e values is = absurd cc
entry_is_delta (Ok c.Batch) script e values is = absurd cc
entry_is_delta (Ok (c.Soak number)) script e values is = absurd cc

with_is_delta : (has : Bool) (words : List (List ℕ)) (script : List ℕ) (e : GroupEntry)
    → (if has then entry_by (meaning words) script else None) ≡ Some e → IsDeltaEntry e
with_is_delta true words script e is = entry_is_delta (meaning words) script e (meant_values words) is
with_is_delta false words script e is = absurd cc

only_pair : (b : Bool) (e : GroupEntry) (own : ℕ) (found : Found) → only b (e, own) ≡ Some found → e ≡ found.0
only_pair true e own found is = let same : (e, own) ≡ found = cc in ap (λ (f : Found). f.0) same
only_pair false e own found is = absurd cc

at_is_delta : (before : List GroupEntry) (line : List ℕ) (rest : List (List ℕ)) (found : Found)
    → entry_at before line rest ≡ Some found → IsDeltaEntry found.0
at_is_delta before line rest found is =
    let counts = some_bound (head_of line) _ found is in
    let entry = some_bound (entry_with counts.0 rest) _ found counts.2 in
    subst IsDeltaEntry (only_pair (fits_behind before entry.0) entry.0 _ found entry.2)
    (with_is_delta (has_own counts.0 rest) (words_in counts.0 rest) (input_in counts.0 rest) entry.0 entry.1)

both_deltas : (before more : List GroupEntry) → AllByRecursion IsDeltaEntry before → AllByRecursion IsDeltaEntry more
    → AllByRecursion IsDeltaEntry (before ++ more)
both_deltas [] more all rest = rest
both_deltas (e ∷ before) more all rest = (all.0, both_deltas before more all.1 rest)

some_are_deltas : (before entries : List GroupEntry) → AllByRecursion IsDeltaEntry before → some_of before ≡ Ok entries
    → AllByRecursion IsDeltaEntry entries
some_are_deltas [] entries all is = absurd cc
some_are_deltas (e ∷ before) entries all is = subst (AllByRecursion IsDeltaEntry) (let same : (e ∷ before) ≡ entries =
    cc in same) all

-- those from a line on that begins an entry
line_deltas : (number : ℕ) (before : List GroupEntry) (line : List ℕ) (lines : List (List ℕ))
    (entries : List GroupEntry) (found : Option Found) → entry_at before line lines ≡ found
    → AllByRecursion IsDeltaEntry before
    → group_from zero number before (line ∷ lines) ≡ Ok entries
    → ((own : ℕ) (more : List GroupEntry) → AllByRecursion IsDeltaEntry more → group_from own (number + 1) more lines
    ≡ Ok entries → AllByRecursion IsDeltaEntry entries) → AllByRecursion IsDeltaEntry entries
line_deltas number before line lines entries None at all is next =
    absurd (let no : Err number ≡ Ok entries =
    sym (ap (λ (o : Option Found). go_on before number o (λ more own. group_from own (number + 1) more lines)) at)
    ∙ is in cc)
line_deltas number before line lines entries (Some found) at all is next =
    next found.1 (before ++ found.0 ∷ []) (both_deltas before (found.0 ∷ []) all
    (at_is_delta before line lines found at, tt))
    (sym (ap (λ (o : Option Found). go_on before number o (λ more own. group_from own (number + 1) more lines)) at)
    ∙ is)

from_deltas : (skip number : ℕ) (before : List GroupEntry) (lines : List (List ℕ)) (entries : List GroupEntry)
    → AllByRecursion IsDeltaEntry before → group_from skip number before lines ≡ Ok entries
    → AllByRecursion IsDeltaEntry entries
from_deltas zero number before [] entries all is = some_are_deltas before entries all is
from_deltas (suc skip) number before [] entries all is = some_are_deltas before entries all is
from_deltas (suc skip) number before (line ∷ lines) entries all is = from_deltas skip (number + 1) before lines entries
    all is
from_deltas zero number before (line ∷ lines) entries all is =
    line_deltas number before line lines entries (entry_at before line lines) refl all is (λ own more deltas so.
    from_deltas own (number + 1) more lines entries deltas so)

-- they are delta commands, whose values are valid
pub group_values : (lines : List (List ℕ)) (entries : List GroupEntry) → group_of lines ≡ Ok entries
    → AllByRecursion (λ (e : GroupEntry). HasMeantValues (c.Delta e.words e.name)) entries
group_values lines entries is = from_deltas 0 1 [] lines entries tt is
