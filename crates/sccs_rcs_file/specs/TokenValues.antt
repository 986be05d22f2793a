-- A token as contracts see it.
use Rattle.std.specs.Prelude.{ℕ, List}
use Rattle.sccs_rcs_file.specs.declared.kinds.TokenKind.{TokenKind}
use Rattle.sccs_rcs_file.specs.declared.kinds.TokenKind.TheVariants as kinds

-- a token; the bytes of a string are those between its at signs, each at sign in them doubled
pub data Token : Type 0 where
  Number : (word : List ℕ) → Token
  Word : (word : List ℕ) → Token
  Quoted : (raw : List ℕ) → Token
  Semicolon : Token
  Colon : Token

abbrev pub token_of : TokenKind → List ℕ → Token
token_of kinds.Number bytes = Number bytes
token_of kinds.Word bytes = Word bytes
token_of kinds.Quoted bytes = Quoted bytes
token_of kinds.Semicolon bytes = Semicolon
token_of kinds.Colon bytes = Colon
