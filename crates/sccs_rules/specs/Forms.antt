-- The table of flags: which letters there are, and what the text of each may be. POSIX, admin -f; sccsfile(4), "Flags".
use Rattle.std.specs.Prelude.{ℕ, ◌==◌, Bool, true, false, not, ◌&&◌, ◌||◌, List, [], ◌∷◌, Option, None, Some, find}
use Rattle.std.specs.Prelude.{is_some, option_map}
use Rattle.std.specs.List.{list_all}
use Rattle.sccs_sid.specs.Reading.{is_empty}
use Rattle.sccs_sid.specs.Words.{drop_blanks, skip_blanks}
use Rattle.sccs_history.specs.FlagText.{flag_b, flag_c, flag_d, flag_f, flag_i, flag_j, flag_l, flag_m, flag_n, flag_q}
use Rattle.sccs_history.specs.FlagText.{flag_t, flag_v, is_all, is_any_sid, is_release, pieces}
use Rattle.sccs_rules.specs.Users.{has_lf}
use Rattle.sccs_rules.specs.declared.forms.FlagRow.{FlagRow}
use Rattle.sccs_rules.specs.declared.forms.Form.{Form}
use Rattle.sccs_rules.specs.declared.forms.Form.TheVariants.{Bare, Release, AnySid, Releases, Needed, Free}

abbrev pub flag_row : ℕ → Form → FlagRow
flag_row letter form = record { 0 = letter; 1 = form }

-- the flags that may be set
abbrev pub flag_rows : List FlagRow
flag_rows =
    flag_row flag_b Bare ∷
    flag_row flag_c Release ∷
    flag_row flag_d AnySid ∷
    flag_row flag_f Release ∷
    flag_row flag_i Free ∷
    flag_row flag_j Bare ∷
    flag_row flag_l Releases ∷
    flag_row flag_m Needed ∷
    flag_row flag_n Bare ∷
    flag_row flag_q Needed ∷
    flag_row flag_t Needed ∷
    flag_row flag_v Free ∷
    []

-- what the text of the flag of a letter may be
abbrev pub flag_form : ℕ → Option Form
flag_form letter = option_map (λ (r : FlagRow). r.1) (find (λ (r : FlagRow). r.0 == letter) flag_rows)

-- a letter of these flags
abbrev pub is_flag : ℕ → Bool
is_flag letter = is_some (flag_form letter)

-- releases 1 to 9999 with a comma between two
abbrev pub are_joined : List ℕ → Bool
are_joined text = list_all is_release (pieces text)

-- a text is of a form
abbrev pub fits_form : Form → List ℕ → Bool
fits_form Bare text = is_empty text
fits_form Release text = is_release text
fits_form AnySid text = is_any_sid text
fits_form Releases text = is_all text || are_joined text
fits_form Needed text = not (is_empty text)
fits_form Free text = true

abbrev pub fits_row : Option Form → List ℕ → Bool
fits_row None text = false
fits_row (Some form) text = fits_form form text && not (has_lf text)

-- the flag of a letter may be set with a text
abbrev pub may_set : ℕ → List ℕ → Bool
may_set letter text = fits_row (flag_form letter) text

-- ---- the words of -f and -d: a letter, and a text, taken without blanks at its ends

abbrev pub word_letter : List ℕ → ℕ
word_letter [] = 0
word_letter (b ∷ text) = b

abbrev pub word_text : List ℕ → List ℕ
word_text [] = []
word_text (b ∷ text) = skip_blanks (drop_blanks text)
