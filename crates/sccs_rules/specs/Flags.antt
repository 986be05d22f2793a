-- The flags of a file, with some set and others removed: POSIX, admin -f and -d.
use Rattle.std.specs.Prelude.{◌≡◌, ℕ, ◌==◌, Bool, false, not, ◌&&◌, ◌||◌, List, [], ◌∷◌, Option, None, Some, Result, Ok}
use Rattle.std.specs.Prelude.{Err, if◌then◌else◌}
use Rattle.std.specs.List.{list_any}
use Rattle.sccs_sid.specs.Reading.{◌>>=◌, is_empty}
use Rattle.sccs_history.specs.FlagText.{flag_l, is_all}
use Rattle.sccs_history.specs.declared.headers.Flag.{Flag}
use Rattle.sccs_flags.specs.FlagValues.{flag_of}
use Rattle.sccs_rules.specs.Forms.{are_joined, is_flag, word_letter, may_set, word_text}
use Rattle.sccs_rules.specs.Unlocked.{without_releases}
use Rattle.sccs_rules.specs.declared.flag_changes.FlagFault.{FlagFault}
use Rattle.sccs_rules.specs.declared.flag_changes.FlagFault.TheVariants.{Bad, Memory}

abbrev pub flag_with : ℕ → List ℕ → Flag
flag_with letter text = record { letter = letter; text = text }

-- a flag in the place of the one of its letter, or last
abbrev pub with_flag : Flag → List Flag → List Flag
with_flag f [] = f ∷ []
with_flag f (g ∷ flags) = if g.letter == f.letter then f ∷ flags else g ∷ with_flag f flags

-- the flag of a letter goes, where it is there
abbrev pub without_flag : ℕ → List Flag → List Flag
without_flag letter [] = []
without_flag letter (g ∷ flags) = if g.letter == letter then flags else g ∷ without_flag letter flags

-- ---- -f

-- the flag that a word says, or the letter of a bad word
abbrev pub set_word : List Flag → List ℕ → Result (List Flag) ℕ
set_word flags word =
    if may_set (word_letter word) (word_text word)
    then Ok (with_flag (flag_with (word_letter word) (word_text word)) flags)
    else Err (word_letter word)

-- a word that isn't bad sets the flag of a letter
abbrev pub sets_letter : ℕ → List ℕ → Bool
sets_letter letter word = word_letter word == letter && may_set letter (word_text word)

abbrev pub sets_flag : List (List ℕ) → ℕ → Bool
sets_flag words letter = list_any (sets_letter letter) words

-- ---- -d

-- flag l stands for all releases
abbrev pub locks_all : Option Flag → Bool
locks_all None = false
locks_all (Some f) = is_all f.text

-- releases may be taken from flag l, unless it stands for all; with `a` it goes
abbrev pub may_unlock : List Flag → List ℕ → Bool
may_unlock flags text = is_all text || are_joined text && not (locks_all (flag_of flags flag_l))

-- a word may be removed: it has no text, or it is `l` with `a` or releases
abbrev pub may_remove : List Flag → ℕ → List ℕ → Bool
may_remove flags letter text = is_flag letter && (is_empty text || (letter == flag_l && may_unlock flags text))

-- flag l with this text; without one it goes
abbrev pub put_unlocked : List Flag → List ℕ → List Flag
put_unlocked flags text = if is_empty text then without_flag flag_l flags else with_flag (flag_with flag_l text) flags

abbrev pub unlock_in : List Flag → List ℕ → Option Flag → List Flag
unlock_in flags others None = flags
unlock_in flags others (Some f) = put_unlocked flags (without_releases others f.text)

-- the flag goes, or releases go from the list of flag l
abbrev pub without_word : List Flag → ℕ → List ℕ → List Flag
without_word flags letter text =
    if is_empty text || is_all text then without_flag letter flags else unlock_in flags text (flag_of flags flag_l)

-- the flags without what a word says, or the letter of a bad word
abbrev pub remove_word : List Flag → List ℕ → Result (List Flag) ℕ
remove_word flags word =
    if may_remove flags (word_letter word) (word_text word)
    then Ok (without_word flags (word_letter word) (word_text word))
    else Err (word_letter word)

-- ---- all words in their order

abbrev pub by_words : (List Flag → List ℕ → Result (List Flag) ℕ) → List Flag → List (List ℕ) → Result (List Flag) ℕ
by_words change flags [] = Ok flags
by_words change flags (word ∷ words) = change flags word >>= λ next. by_words change next words

-- the flags after the words of -f and then those of -d, or the letter of the first bad word
abbrev pub changed_flags : List Flag → List (List ℕ) → List (List ℕ) → Result (List Flag) ℕ
changed_flags flags set removed = by_words set_word flags set >>= λ next. by_words remove_word next removed

-- what a call that may run out of memory answers
abbrev pub ChangesFlags : Result (List Flag) ℕ → Result (List Flag) FlagFault → Type 0
ChangesFlags made (Ok flags) = made ≡ Ok flags
ChangesFlags made (Err (Bad letter)) = made ≡ Err letter
ChangesFlags made (Err Memory) = Unit {0}
