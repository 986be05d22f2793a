-- The tokens of an RCS file (rcsfile(5)), by longest match. What stands between them are the bytes 8 to 13 and 32.
use Rattle.std.specs.Prelude.{◌≡◌, ℕ, zero, suc, ◌<◌, ◌==◌, nat_le, nat_lt, Bool, not, ◌&&◌, ◌||◌, List, [], ◌∷◌, ◌++◌}
use Rattle.std.specs.Prelude.{length, Option, None, Some, Result, Ok, Err, if◌then◌else◌}
use Rattle.std.specs.List.{list_all}
use Rattle.sccs_rcs_file.specs.declared.tokens.Lexed.{Lexed}
use Rattle.sccs_rcs_file.specs.TokenValues.{Token, Number, Word, Quoted, Semicolon, Colon}

abbrev pub at_sign : ℕ
at_sign = 64

abbrev pub colon : ℕ
colon = 58

abbrev pub semicolon : ℕ
semicolon = 59

abbrev pub dot : ℕ
dot = 46

-- whether a byte stands between tokens
abbrev pub is_gap : ℕ → Bool
is_gap b = (nat_le 8 b && nat_le b 13) || b == 32

-- whether a byte may stand in a word
abbrev pub is_of_word : ℕ → Bool
is_of_word b = nat_lt 32 b && not (b == semicolon || (b == colon || b == at_sign))

-- whether a byte may stand in a number
abbrev pub is_of_number : ℕ → Bool
is_of_number b = (nat_le 48 b && nat_le b 57) || b == dot

-- from the next token on
abbrev pub from_token : List ℕ → List ℕ
from_token [] = []
from_token (b ∷ bytes) = if is_gap b then from_token bytes else b ∷ bytes

-- the bytes of a word, and those behind it
abbrev pub word_in : List ℕ → List ℕ
word_in [] = []
word_in (b ∷ bytes) = if is_of_word b then b ∷ word_in bytes else []

abbrev pub behind_word : List ℕ → List ℕ
behind_word [] = []
behind_word (b ∷ bytes) = if is_of_word b then behind_word bytes else b ∷ bytes

-- bytes in front of those of a string
abbrev pub with_raw : List ℕ → Option (List ℕ × List ℕ) → Option (List ℕ × List ℕ)
with_raw bytes None = None
with_raw bytes (Some (raw, rest)) = Some (bytes ++ raw, rest)

-- behind an at sign: the bytes of a string and those behind it, where it is ended
abbrev pub string_in : List ℕ → Option (List ℕ × List ℕ)
string_in [] = None
string_in (b ∷ []) = if b == at_sign then Some ([], []) else None
string_in (b ∷ c ∷ bytes) =
    if b == at_sign
    then (if c == at_sign then with_raw (b ∷ c ∷ []) (string_in bytes) else Some ([], c ∷ bytes))
    else with_raw (b ∷ []) (string_in (c ∷ bytes))

abbrev pub quoted : Option (List ℕ × List ℕ) → Option (Token × List ℕ)
quoted None = None
quoted (Some (raw, rest)) = Some (Quoted raw, rest)

-- a word as a token: of digits and dots alone it is a number
abbrev pub word_token : List ℕ → Token
word_token word = if list_all is_of_number word then Number word else Word word

-- the token that begins with the first of these bytes, and the bytes behind it
abbrev pub token_at : ℕ → List ℕ → Option (Token × List ℕ)
token_at b bytes =
    if b == at_sign then quoted (string_in bytes)
    else if b == semicolon then Some (Semicolon, bytes)
    else if b == colon then Some (Colon, bytes)
    else if nat_lt 32 b then Some (word_token (word_in (b ∷ bytes)), behind_word (b ∷ bytes))
    else None

-- A token of bytes, or a byte that begins none; and how many bytes are left with its first one.
pub record Lexeme : Type 0 where
  pub token : Option Token
  pub left : ℕ

abbrev pub lexemes_by : ℕ → (List ℕ → List Lexeme) → Option (Token × List ℕ) → List Lexeme
lexemes_by left more None = record { token = None; left = left } ∷ []
lexemes_by left more (Some (token, rest)) = record { token = Some token; left = left } ∷ more rest

abbrev pub lexemes_from : (List ℕ → List Lexeme) → List ℕ → List Lexeme
lexemes_from more [] = []
lexemes_from more (b ∷ bytes) = lexemes_by (suc (length bytes)) more (token_at b bytes)

-- the tokens of bytes, at most so many, up to the first byte that begins none
abbrev pub lexemes_within : ℕ → List ℕ → List Lexeme
lexemes_within zero bytes = []
lexemes_within (suc most) bytes = lexemes_from (lexemes_within most) (from_token bytes)

abbrev pub lexemes : List ℕ → List Lexeme
lexemes bytes = lexemes_within (suc (length bytes)) bytes

-- how reading the next token stands to the tokens of bytes
abbrev pub Lexes : List ℕ → Result (Option Lexed) ℕ → Type 0
Lexes bytes (Err left) = lexemes bytes ≡ record { token = None; left = left } ∷ []
Lexes bytes (Ok None) = lexemes bytes ≡ []
Lexes bytes (Ok (Some found)) =
    (lexemes bytes ≡ record { token = Some found.token; left = found.left } ∷ lexemes found.rest.now)
    × (length found.rest.now < length bytes)
