-- The form of an RCS file (rcsfile(5)), as its tokens.
use Rattle.std.specs.Prelude.{◌≡◌, ℕ, Bool, true, false, List, [], ◌∷◌, ◌++◌, codes, Option, None, Some}
use Rattle.std.specs.List.{AllByRecursion}
use Rattle.std.specs.Str.{bytes_eq}
use Rattle.sccs_rcs_file.specs.TokenValues.{Token, Number, Word, Quoted, Semicolon}
use Rattle.sccs_rcs_file.specs.Tokens.{Lexeme, lexemes}

-- A phrase: a word, and what stands between it and the next semicolon.
pub record Phrase : Type 0 where
  pub name : List ℕ
  pub inside : List Token

-- A revision's number, and its phrases.
pub record RcsEntry : Type 0 where
  pub number : List ℕ
  pub phrases : List Phrase

-- A revision's log and text, as strings stand in the file, and what phrases stand between them.
pub record DeltaText : Type 0 where
  pub number : List ℕ
  pub log : List ℕ
  pub phrases : List Phrase
  pub text : List ℕ

pub record RcsFile : Type 0 where
  pub head : List Phrase
  pub entries : List RcsEntry
  pub description : List ℕ
  pub texts : List DeltaText

abbrev pub phrases_tokens : List Phrase → List Token
phrases_tokens [] = []
phrases_tokens (p ∷ phrases) = Word p.name ∷ p.inside ++ Semicolon ∷ phrases_tokens phrases

abbrev pub entries_tokens : List RcsEntry → List Token
entries_tokens [] = []
entries_tokens (e ∷ entries) = Number e.number ∷ phrases_tokens e.phrases ++ entries_tokens entries

abbrev pub texts_tokens : List DeltaText → List Token
texts_tokens [] = []
texts_tokens (t ∷ texts) =
    Number t.number ∷ Word (codes "log") ∷ Quoted t.log ∷ phrases_tokens t.phrases ++ Word (codes "text")
    ∷ Quoted t.text ∷ texts_tokens texts

-- the tokens of a file
abbrev pub file_tokens : RcsFile → List Token
file_tokens f =
    phrases_tokens f.head ++ (entries_tokens f.entries ++ Word (codes "desc") ∷ Quoted f.description
    ∷ texts_tokens f.texts)

abbrev pub is_semicolon : Token → Bool
is_semicolon Semicolon = true
is_semicolon _ = false

-- A phrase that is told from what ends the phrases of its place.
pub record IsPhrase (ending : List ℕ) (p : Phrase) : Type 0 where
  pub name : bytes_eq p.name ending ≡ false
  pub inside : AllByRecursion (λ t. is_semicolon t ≡ false) p.inside

abbrev pub ArePhrases : List ℕ → List Phrase → Type 0
ArePhrases ending phrases = AllByRecursion (IsPhrase ending) phrases

-- A file of that form: before the description no phrase is named `desc`, and before a text none `text`.
pub record IsFile (f : RcsFile) : Type 0 where
  pub head : ArePhrases (codes "desc") f.head
  pub entries : AllByRecursion (λ e. ArePhrases (codes "desc") e.phrases) f.entries
  pub texts : AllByRecursion (λ t. ArePhrases (codes "text") t.phrases) f.texts

-- ---- which bytes are a file, and where others fail

abbrev pub with_token : Option Token → Option (List Token) → Option (List Token)
with_token None tokens = None
with_token (Some token) None = None
with_token (Some token) (Some tokens) = Some (token ∷ tokens)

-- the tokens of lexemes that all have one
abbrev pub all_tokens : List Lexeme → Option (List Token)
all_tokens [] = Some []
all_tokens (l ∷ lexemes) = with_token l.token (all_tokens lexemes)

-- The bytes are spelled as a file of that form.
pub record Spells (bytes : List ℕ) (f : RcsFile) : Type 0 where
  pub tokens : all_tokens (lexemes bytes) ≡ Some (file_tokens f)
  pub file : IsFile f

-- The tokens can be followed to those of a file.
pub record AreViable (tokens : List Token) : Type 0 where
  pub file : RcsFile
  pub is : IsFile file
  pub more : List Token
  pub whole : file_tokens file ≡ tokens ++ more

-- what comes behind tokens can't: the end, where they are no file; or bytes that are no token, or a token with which
-- they can't be followed to a file
abbrev pub Fails : List Token → ℕ → List Lexeme → Type 0
Fails tokens left [] = (left ≡ 0) × ((f : RcsFile) → IsFile f → file_tokens f ≡ tokens → ⊥)
Fails tokens left (l ∷ rest) = (left ≡ l.left) × ((token : Token) → l.token ≡ Some token
    → AreViable (tokens ++ token ∷ []) → ⊥)

-- Bytes fail where so many are left: the tokens before can be followed to a file, and what comes there can't.
pub record FailsAt (bytes : List ℕ) (left : ℕ) : Type 0 where
  pub before : List Lexeme
  pub tokens : List Token
  pub are : all_tokens before ≡ Some tokens
  pub viable : AreViable tokens
  pub rest : List Lexeme
  pub whole : lexemes bytes ≡ before ++ rest
  pub fails : Fails tokens left rest
