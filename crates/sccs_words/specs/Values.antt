-- The values of options.
use Rattle.std.specs.Prelude.{ℕ, ◌==◌, Bool, true, not, ◌&&◌, ◌||◌, List, [], ◌∷◌, nat_lt, nat_le, Option, is_some}
use Rattle.std.specs.Prelude.{option_and_then}
use Rattle.std.specs.Result.{result_ok}
use Rattle.sccs_base.specs.Name.{is_name}
use Rattle.sccs_base.specs.Login.{is_login}
use Rattle.sccs_sid.specs.Reading.{is_empty, only, number}
use Rattle.sccs_sid.specs.Sid.{sid_of}
use Rattle.sccs_sid.specs.Spec.{spec_of}
use Rattle.sccs_sid.specs.SidLists.{list_of}
use Rattle.sccs_sid.specs.Cutoff.{cutoff_of}
use Rattle.sccs_sid.specs.declared.sids.Sid.{Sid}
use Rattle.sccs_sid.specs.declared.sids.Spec.{Spec}
use Rattle.sccs_sid.specs.declared.sid_lists.Range.{Range}
use Rattle.sccs_sid.specs.declared.moments.Moment.{Moment}
use Rattle.sccs_words.specs.MrWords.{mr_words}
use Rattle.sccs_words.specs.declared.tables.Form.{Form}
use Rattle.sccs_words.specs.declared.tables.Form.TheVariants as forms

abbrev pub sid_value : List ℕ → Option Sid
sid_value bytes = result_ok (sid_of bytes)

abbrev pub spec_value : List ℕ → Option Spec
spec_value bytes = result_ok (spec_of bytes)

abbrev pub moment_value : List ℕ → Option Moment
moment_value bytes = result_ok (cutoff_of bytes)

abbrev pub list_value : List ℕ → Option (List Range)
list_value bytes = result_ok (list_of bytes)

abbrev pub up_to : ℕ → ℕ → Option ℕ
up_to most n = only (nat_lt 0 n && nat_le n most) n

-- 1 to most, in one to four digits
abbrev pub number_value : ℕ → List ℕ → Option ℕ
number_value most bytes = option_and_then (up_to most) (number 4 bytes)

abbrev pub release_value : List ℕ → Option ℕ
release_value bytes = number_value 9999 bytes

abbrev pub soak_number : List ℕ → Option ℕ
soak_number bytes = number_value 2000 bytes

abbrev pub name_value : List ℕ → Option (List ℕ)
name_value bytes = only (is_name bytes) bytes

-- a login, or ! and a login
abbrev pub is_user : List ℕ → Bool
is_user [] = is_login []
is_user (b ∷ bytes) = is_login (b ∷ bytes) || (b == 33 && is_login bytes)

-- whether a value is one of its form
abbrev pub value_fits : Form → List ℕ → Bool
value_fits forms.Any bytes = true
value_fits forms.User bytes = is_user bytes
value_fits forms.Flag bytes = not (is_empty bytes)
value_fits forms.File bytes = is_name bytes
value_fits forms.Mrs bytes = not (is_empty (mr_words bytes))
value_fits forms.Release bytes = is_some (release_value bytes)
value_fits forms.Cutoff bytes = is_some (moment_value bytes)
value_fits forms.List bytes = is_some (list_value bytes)
value_fits forms.Spec bytes = is_some (spec_value bytes)
value_fits forms.Sid bytes = is_some (sid_value bytes)
