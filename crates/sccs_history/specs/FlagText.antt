-- What the text of a flag may be: sccsfile(4), "Flags".
use Rattle.std.specs.Prelude.{ℕ, ◌==◌, nat_lt, Bool, true, false, not, ◌&&◌, ◌||◌, List, [], ◌∷◌, is_some, is_ok}
use Rattle.std.specs.Prelude.{unwrap_or, if◌then◌else◌}
use Rattle.std.specs.List.{list_all}
use Rattle.sccs_sid.specs.Reading.{is_empty, number}
use Rattle.sccs_sid.specs.Spec.{spec_of}
use Rattle.sccs_sid.specs.Words.{begins_blank, ends_blank, words}

-- ---- the letters of flags

-- branches may be made by `get -b`
abbrev pub flag_b : ℕ
flag_b = 98

-- the greatest release
abbrev pub flag_c : ℕ
flag_c = 99

-- the SID that is got by default
abbrev pub flag_d : ℕ
flag_d = 100

-- the text is encoded
abbrev pub flag_e : ℕ
flag_e = 101

-- the least release
abbrev pub flag_f : ℕ
flag_f = 102

-- a delta without keywords is refused
abbrev pub flag_i : ℕ
flag_i = 105

-- joint edits are allowed
abbrev pub flag_j : ℕ
flag_j = 106

-- releases that are locked
abbrev pub flag_l : ℕ
flag_l = 108

-- the module's name
abbrev pub flag_m : ℕ
flag_m = 109

-- null deltas are made
abbrev pub flag_n : ℕ
flag_n = 110

-- the user's text
abbrev pub flag_q : ℕ
flag_q = 113

-- the module's type
abbrev pub flag_t : ℕ
flag_t = 116

-- MRs are asked for
abbrev pub flag_v : ℕ
flag_v = 118

-- ---- their texts

-- a number of one to four digits
abbrev pub is_number : List ℕ → Bool
is_number text = is_some (number 4 text)

-- a SID in any form: R, R.L, R.L.B or R.L.B.S
abbrev pub is_any_sid : List ℕ → Bool
is_any_sid text = is_ok (spec_of text)

-- a release: a number of one to four digits that isn't 0
abbrev pub is_release : List ℕ → Bool
is_release word = nat_lt 0 (unwrap_or (number 4 word) 0)

-- at least one release, with one or more blanks between two
abbrev pub are_spaced : List ℕ → Bool
are_spaced piece =
    not (is_empty piece) && not (begins_blank piece) && not (ends_blank piece) && list_all is_release (words piece)

-- the pieces of a text between commas
abbrev pub with_front : ℕ → List (List ℕ) → List (List ℕ)
with_front b [] = (b ∷ []) ∷ []
with_front b (piece ∷ more) = (b ∷ piece) ∷ more

unfoldable pub pieces : List ℕ → List (List ℕ)
pieces [] = [] ∷ []
pieces (b ∷ bytes) = if b == 44 then [] ∷ pieces bytes else with_front b (pieces bytes)

-- at least one release, with one comma or one or more blanks between two
abbrev pub are_releases : List ℕ → Bool
are_releases text = list_all are_spaced (pieces text)

-- the letter `a`, which stands for all releases
abbrev pub is_all : List ℕ → Bool
is_all [] = false
is_all (b ∷ bytes) = b == 97 && is_empty bytes

-- whether a flag may have the text: c and f a number, d a SID in any form, l `a` or releases
abbrev pub fits_letter : ℕ → List ℕ → Bool
fits_letter letter text =
    if letter == flag_c || letter == flag_f then is_number text
    else (if letter == flag_d then is_any_sid text else (if letter == flag_l then is_all text || are_releases text
    else true))
