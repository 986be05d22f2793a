-- The tokens that were read to a state.
use Rattle.std.proofs.Common.{◌≡◌, ℕ, Bool, true, false, cond, List, [], ◌∷◌, ◌++◌, codes, Option, None, Some, refl}
use Rattle.std.proofs.Common.{sym, subst, ap, ◌∙◌, append-nil, append_assoc}
use Rattle.std.specs.List.{AllByRecursion}
use Rattle.std.specs.Str.{bytes_eq}
use Rattle.std.proofs.lemmas.Slice.Eq.{bytes_eq-Decides}
use Rattle.sccs_rcs_file.specs.Forms.{ArePhrases, DeltaText, RcsEntry, IsFile, IsPhrase, Phrase, RcsFile}
use Rattle.sccs_rcs_file.specs.Forms.{entries_tokens, is_semicolon, phrases_tokens, texts_tokens}
use Rattle.sccs_rcs_file.specs.Reading.{State, between, description_next, in_phrase, opened, step, step_at, with_entry}
use Rattle.sccs_rcs_file.specs.Reading.{with_head}
use Rattle.sccs_rcs_file.specs.TokenValues.{Token, Number, Word, Quoted, Semicolon, Colon}
use Rattle.sccs_rcs_file.specs.declared.places.Place.{Place}
use Rattle.sccs_rcs_file.specs.declared.places.Place.TheVariants.{HeadPhrases, HeadPhrase, EntryPhrases, EntryPhrase}
use Rattle.sccs_rcs_file.specs.declared.places.Place.TheVariants.{Description, Texts, Log, LogText, TextPhrases}
use Rattle.sccs_rcs_file.specs.declared.places.Place.TheVariants.{TextPhrase, Text}

-- ---- joins

phrases_both : (a b : List Phrase) → phrases_tokens (a ++ b) ≡ phrases_tokens a ++ phrases_tokens b
phrases_both [] b = refl
phrases_both (p ∷ a) b =
    ap (λ l. Word p.name ∷ p.inside ++ Semicolon ∷ l) (phrases_both a b) ∙ ap (λ l. Word p.name ∷ l)
    (sym (append_assoc p.inside (Semicolon ∷ phrases_tokens a) (phrases_tokens b)))

pub phrases_more : (a : List Phrase) (name : List ℕ) (inside : List Token)
    → phrases_tokens (a ++ record { name = name; inside = inside } ∷ []) ≡ (phrases_tokens a ++ Word name ∷ inside)
    ++ Semicolon ∷ []
phrases_more a name inside = phrases_both a (record { name = name; inside = inside } ∷ [])
    ∙ sym (append_assoc (phrases_tokens a) (Word name ∷ inside) (Semicolon ∷ []))

entries_both : (a b : List RcsEntry) → entries_tokens (a ++ b) ≡ entries_tokens a ++ entries_tokens b
entries_both [] b = refl
entries_both (e ∷ a) b =
    ap (λ l. Number e.number ∷ phrases_tokens e.phrases ++ l) (entries_both a b) ∙ ap (λ l. Number e.number ∷ l)
    (sym (append_assoc (phrases_tokens e.phrases) (entries_tokens a) (entries_tokens b)))

pub entries_more : (a : List RcsEntry) (number : List ℕ) (phrases : List Phrase)
    → entries_tokens (a ++ record { number = number; phrases = phrases } ∷ []) ≡ entries_tokens a ++ Number number
    ∷ phrases_tokens phrases
entries_more a number phrases = entries_both a (record { number = number; phrases = phrases } ∷ [])
    ∙ ap (λ l. entries_tokens a ++ Number number ∷ l) (append-nil (phrases_tokens phrases))

-- the tokens of a text
abbrev pub text_tokens : List ℕ → List ℕ → List Phrase → List Token
text_tokens number log phrases = Number number ∷ Word (codes "log") ∷ Quoted log ∷ phrases_tokens phrases

texts_both : (a b : List DeltaText) → texts_tokens (a ++ b) ≡ texts_tokens a ++ texts_tokens b
texts_both [] b = refl
texts_both (t ∷ a) b =
    ap (λ l. text_tokens t.number t.log t.phrases ++ Word (codes "text") ∷ Quoted t.text ∷ l) (texts_both a b)
    ∙ sym (append_assoc (text_tokens t.number t.log t.phrases) (Word (codes "text") ∷ Quoted t.text ∷ texts_tokens a)
    (texts_tokens b))

pub texts_more : (a : List DeltaText) (number log : List ℕ) (phrases : List Phrase) (raw : List ℕ)
    → texts_tokens (a ++ record { number = number; log = log; phrases = phrases; text = raw } ∷ []) ≡ texts_tokens a
    ++ (text_tokens number log phrases ++ Word (codes "text") ∷ Quoted raw ∷ [])
texts_more a number log phrases raw = texts_both a (record { number = number; log = log; phrases = phrases; text = raw }
    ∷ [])

-- ---- the tokens of a state

-- those up to the description's word, and those up to the texts
abbrev pub front_tokens : RcsFile → List Token
front_tokens f = phrases_tokens f.head ++ entries_tokens f.entries

abbrev pub whole_tokens : RcsFile → List Token
whole_tokens f = front_tokens f ++ Word (codes "desc") ∷ Quoted f.description ∷ texts_tokens f.texts

abbrev pub tokens_at : Place → State → List Token
tokens_at HeadPhrases s = phrases_tokens s.phrases
tokens_at HeadPhrase s = phrases_tokens s.phrases ++ Word s.name ∷ s.inside
tokens_at EntryPhrases s = front_tokens s.file ++ Number s.number ∷ phrases_tokens s.phrases
tokens_at EntryPhrase s = (front_tokens s.file ++ Number s.number ∷ phrases_tokens s.phrases) ++ Word s.name ∷ s.inside
tokens_at Description s = front_tokens s.file ++ Word (codes "desc") ∷ []
tokens_at Texts s = whole_tokens s.file
tokens_at Log s = whole_tokens s.file ++ Number s.number ∷ []
tokens_at LogText s = whole_tokens s.file ++ Number s.number ∷ Word (codes "log") ∷ []
tokens_at TextPhrases s = whole_tokens s.file ++ text_tokens s.number s.log s.phrases
tokens_at TextPhrase s = (whole_tokens s.file ++ text_tokens s.number s.log s.phrases) ++ Word s.name ∷ s.inside
tokens_at Text s = (whole_tokens s.file ++ text_tokens s.number s.log s.phrases) ++ Word (codes "text") ∷ []

-- a phrase that isn't ended yet
abbrev pub IsBegun : List ℕ → State → Type 0
IsBegun ending s = (bytes_eq s.name ending ≡ false) × AllByRecursion (λ t. is_semicolon t ≡ false) s.inside

-- what holds of the parts that were read
abbrev pub NoEntries : State → Type 0
NoEntries s = (s.file.entries ≡ []) × (s.file.texts ≡ [])

abbrev pub IsFront : State → Type 0
IsFront s = ArePhrases (codes "desc") s.file.head
    × (AllByRecursion (λ e. ArePhrases (codes "desc") e.phrases) s.file.entries × (s.file.texts ≡ []))

abbrev pub IsAt : Place → State → Type 0
IsAt HeadPhrases s = NoEntries s × ArePhrases (codes "desc") s.phrases
IsAt HeadPhrase s = NoEntries s × (ArePhrases (codes "desc") s.phrases × IsBegun (codes "desc") s)
IsAt EntryPhrases s = IsFront s × ArePhrases (codes "desc") s.phrases
IsAt EntryPhrase s = IsFront s × (ArePhrases (codes "desc") s.phrases × IsBegun (codes "desc") s)
IsAt Description s = IsFront s
IsAt Texts s = IsFile s.file
IsAt Log s = IsFile s.file
IsAt LogText s = IsFile s.file
IsAt TextPhrases s = IsFile s.file × ArePhrases (codes "text") s.phrases
IsAt TextPhrase s = IsFile s.file × (ArePhrases (codes "text") s.phrases × IsBegun (codes "text") s)
IsAt Text s = IsFile s.file × ArePhrases (codes "text") s.phrases

-- the state that a step makes, if it makes one
abbrev pub OfSome : (State → Type 0) → Option State → Type 0
OfSome P None = Unit {0}
OfSome P (Some s) = P s

-- behind a token: the tokens with it
abbrev pub After : Place → State → Token → State → Type 0
After place s t next = IsAt next.place next × (tokens_at next.place next ≡ tokens_at place s ++ t ∷ [])

all_more : {A : Type 0} (P : A → Type 0) (xs : List A) (x : A) → AllByRecursion P xs → P x
    → AllByRecursion P (xs ++ x ∷ [])
all_more P [] x all here = (here, tt)
all_more P (y ∷ xs) x all here = (all.0, all_more P xs x all.1 here)

abbrev at : Place → State → State
at place s = record s { place = place }

-- ---- in a phrase

not_semicolon : (ending : List ℕ) (s : State) (t : Token) → IsBegun ending s → is_semicolon t ≡ false
    → (bytes_eq s.name ending ≡ false) × AllByRecursion (λ t. is_semicolon t ≡ false) (s.inside ++ t ∷ [])
not_semicolon ending s t begun other = (begun.0, all_more (λ t. is_semicolon t ≡ false) s.inside t begun.1 other)

pub phrase_ended : (ending : List ℕ) (s : State) → ArePhrases ending s.phrases → IsBegun ending s
    → ArePhrases ending (s.phrases ++ record { name = s.name; inside = s.inside } ∷ [])
phrase_ended ending s are begun = all_more (IsPhrase ending) s.phrases (record { name = s.name; inside = s.inside }) are
    (record { name = begun.0; inside = begun.1 })

longer : (front : List Token) (name : List ℕ) (inside : List Token) (t : Token)
    → front ++ Word name ∷ (inside ++ t ∷ []) ≡ (front ++ Word name ∷ inside) ++ t ∷ []
longer front name inside t = sym (append_assoc front (Word name ∷ inside) (t ∷ []))

in_head : (s : State) (t : Token) → IsAt HeadPhrase s → OfSome (After HeadPhrase s t)
    (in_phrase HeadPhrases (at HeadPhrase s) t)
in_head s Semicolon is = ((is.0, phrase_ended (codes "desc") s is.1.0 is.1.1), phrases_more s.phrases s.name s.inside)
in_head s (Number w) is = (
  (is.0, (is.1.0, not_semicolon (codes "desc") s (Number w) is.1.1 refl)),
  longer
      (phrases_tokens s.phrases) s.name s.inside (Number w),
)
in_head s (Word w) is = (
  (is.0, (is.1.0, not_semicolon (codes "desc") s (Word w) is.1.1 refl)),
  longer
      (phrases_tokens s.phrases) s.name s.inside (Word w),
)
in_head s (Quoted w) is = (
  (is.0, (is.1.0, not_semicolon (codes "desc") s (Quoted w) is.1.1 refl)),
  longer
      (phrases_tokens s.phrases) s.name s.inside (Quoted w),
)
in_head s Colon is = (
  (is.0, (is.1.0, not_semicolon (codes "desc") s Colon is.1.1 refl)),
  longer
      (phrases_tokens s.phrases) s.name s.inside Colon,
)

-- with a phrase that is ended behind something
pub ended_behind : (front : List Token) (first : Token) (s : State)
    → front ++ first ∷ phrases_tokens (s.phrases ++ record { name = s.name; inside = s.inside } ∷ [])
    ≡ ((front ++ first ∷ phrases_tokens s.phrases) ++ Word s.name ∷ s.inside) ++ Semicolon ∷ []
ended_behind front first s =
    ap (λ l. front ++ first ∷ l) (phrases_more s.phrases s.name s.inside)
    ∙ (sym (append_assoc front (first ∷ phrases_tokens s.phrases ++ Word s.name ∷ s.inside) (Semicolon ∷ []))
    ∙ ap (λ l. l ++ Semicolon ∷ []) (sym (append_assoc front (first ∷ phrases_tokens s.phrases)
    (Word s.name ∷ s.inside))))

abbrev pub entry_front : State → List Token
entry_front s = front_tokens s.file ++ Number s.number ∷ phrases_tokens s.phrases

in_entry : (s : State) (t : Token) → IsAt EntryPhrase s → OfSome (After EntryPhrase s t)
    (in_phrase EntryPhrases (at EntryPhrase s) t)
in_entry s Semicolon is = (
  (is.0, phrase_ended (codes "desc") s is.1.0 is.1.1),
  ended_behind (front_tokens s.file)
      (Number s.number) s,
)
in_entry s (Number w) is = (
  (is.0, (is.1.0, not_semicolon (codes "desc") s (Number w) is.1.1 refl)),
  longer
      (entry_front s) s.name s.inside (Number w),
)
in_entry s (Word w) is = (
  (is.0, (is.1.0, not_semicolon (codes "desc") s (Word w) is.1.1 refl)),
  longer
      (entry_front s) s.name s.inside (Word w),
)
in_entry s (Quoted w) is = (
  (is.0, (is.1.0, not_semicolon (codes "desc") s (Quoted w) is.1.1 refl)),
  longer
      (entry_front s) s.name s.inside (Quoted w),
)
in_entry s Colon is = (
  (is.0, (is.1.0, not_semicolon (codes "desc") s Colon is.1.1 refl)),
  longer (entry_front s) s.name
      s.inside Colon,
)

abbrev pub text_front : State → List Token
text_front s = whole_tokens s.file ++ text_tokens s.number s.log s.phrases

pub text_ended : (s : State) → whole_tokens s.file ++ text_tokens s.number s.log
    (s.phrases ++ record { name = s.name; inside = s.inside } ∷ []) ≡ (text_front s ++ Word s.name ∷ s.inside)
    ++ Semicolon ∷ []
text_ended s =
    ap (λ l. whole_tokens s.file ++ Number s.number ∷ Word (codes "log") ∷ Quoted s.log ∷ l)
    (phrases_more s.phrases s.name s.inside)
    ∙ (sym (append_assoc (whole_tokens s.file) (text_tokens s.number s.log s.phrases ++ Word s.name ∷ s.inside)
    (Semicolon ∷ []))
    ∙ ap (λ l. l ++ Semicolon ∷ []) (sym (append_assoc (whole_tokens s.file) (text_tokens s.number s.log s.phrases)
    (Word s.name ∷ s.inside))))

in_text : (s : State) (t : Token) → IsAt TextPhrase s → OfSome (After TextPhrase s t)
    (in_phrase TextPhrases (at TextPhrase s) t)
in_text s Semicolon is = ((is.0, phrase_ended (codes "text") s is.1.0 is.1.1), text_ended s)
in_text s (Number w) is = (
  (is.0, (is.1.0, not_semicolon (codes "text") s (Number w) is.1.1 refl)),
  longer
      (text_front s) s.name s.inside (Number w),
)
in_text s (Word w) is = (
  (is.0, (is.1.0, not_semicolon (codes "text") s (Word w) is.1.1 refl)),
  longer
      (text_front s) s.name s.inside (Word w),
)
in_text s (Quoted w) is = (
  (is.0, (is.1.0, not_semicolon (codes "text") s (Quoted w) is.1.1 refl)),
  longer
      (text_front s) s.name s.inside (Quoted w),
)
in_text s Colon is = (
  (is.0, (is.1.0, not_semicolon (codes "text") s Colon is.1.1 refl)),
  longer (text_front s) s.name
      s.inside Colon,
)

-- ---- where a phrase may come

-- with the head's phrases, or an entry's
head_front : (s : State) → NoEntries s → phrases_tokens s.phrases ++ entries_tokens s.file.entries
    ≡ phrases_tokens s.phrases
head_front s none = ap (λ es. phrases_tokens s.phrases ++ entries_tokens es) none.0
    ∙ append-nil (phrases_tokens s.phrases)

pub entry_front_is : (s : State) → front_tokens (with_entry s) ≡ entry_front s
entry_front_is s =
    ap (λ l. phrases_tokens s.file.head ++ l) (entries_more s.file.entries s.number s.phrases)
    ∙ sym (append_assoc (phrases_tokens s.file.head) (entries_tokens s.file.entries)
    (Number s.number ∷ phrases_tokens s.phrases))

no_entries : (s : State) → NoEntries s → AllByRecursion (λ (e : RcsEntry). ArePhrases (codes "desc") e.phrases)
    s.file.entries
no_entries s none = subst (λ es. AllByRecursion (λ (e : RcsEntry). ArePhrases (codes "desc") e.phrases) es)
    (sym none.0) tt

desc_is : (word : List ℕ) → bytes_eq word (codes "desc") ≡ true → word ≡ codes "desc"
desc_is word e = (bytes_eq-Decides word (codes "desc")).0 e

at_head : (s : State) (t : Token) → IsAt HeadPhrases s → OfSome (After HeadPhrases s t)
    (between (with_head s) HeadPhrase (at HeadPhrases s) t)
at_head s (Number w) is = (((is.1, (no_entries s is.0, is.0.1)), tt), ap (λ l. l ++ Number w ∷ []) (head_front s is.0))
at_head s (Word w) is = by_test (bytes_eq w (codes "desc")) refl
  where
    by_test : (t : Bool) → bytes_eq w (codes "desc") ≡ t
        → After HeadPhrases s (Word w) (cond t (description_next (with_head s) (at HeadPhrases s))
        (opened HeadPhrase w (at HeadPhrases s)))
    by_test true e = (
      (is.1, (no_entries s is.0, is.0.1)),
      ap (λ l. l ++ Word (codes "desc") ∷ []) (head_front s is.0)
          ∙ ap (λ v. phrases_tokens s.phrases ++ Word v ∷ []) (sym (desc_is w e)),
    )
    by_test false e = ((is.0, (is.1, (e, tt))), refl)
at_head s (Quoted w) is = tt
at_head s Semicolon is = tt
at_head s Colon is = tt

pub entry_ended : (s : State) → IsFront s → ArePhrases (codes "desc") s.phrases
    → AllByRecursion (λ (e : RcsEntry). ArePhrases (codes "desc") e.phrases)
    (s.file.entries ++ record { number = s.number; phrases = s.phrases } ∷ [])
entry_ended s front are = all_more (λ (e : RcsEntry). ArePhrases (codes "desc") e.phrases) s.file.entries
    (record { number = s.number; phrases = s.phrases }) front.1.0 are

at_entry : (s : State) (t : Token) → IsAt EntryPhrases s → OfSome (After EntryPhrases s t)
    (between (with_entry s) EntryPhrase (at EntryPhrases s) t)
at_entry s (Number w) is = (
  ((is.0.0, (entry_ended s is.0 is.1, is.0.1.1)), tt),
  ap (λ l. l ++ Number w ∷ [])
      (entry_front_is s),
)
at_entry s (Word w) is = by_test (bytes_eq w (codes "desc")) refl
  where
    by_test : (t : Bool) → bytes_eq w (codes "desc") ≡ t
        → After EntryPhrases s (Word w) (cond t (description_next (with_entry s) (at EntryPhrases s))
        (opened EntryPhrase w (at EntryPhrases s)))
    by_test true e = (
      (is.0.0, (entry_ended s is.0 is.1, is.0.1.1)),
      ap (λ l. l ++ Word (codes "desc") ∷ [])
          (entry_front_is s) ∙ ap (λ v. entry_front s ++ Word v ∷ []) (sym (desc_is w e)),
    )
    by_test false e = ((is.0, (is.1, (e, tt))), refl)
at_entry s (Quoted w) is = tt
at_entry s Semicolon is = tt
at_entry s Colon is = tt

-- ---- the other places

at_description : (s : State) (t : Token) → IsAt Description s → OfSome (After Description s t)
    (step_at Description (at Description s) t)
at_description s (Quoted w) is = (
  record {
    head = is.0;
    entries = is.1.0;
    texts =
        subst (λ ts. AllByRecursion (λ (t : DeltaText). ArePhrases (codes "text") t.phrases) ts) (sym is.1.1) tt;
  },
  ap (λ ts. front_tokens s.file ++ Word (codes "desc") ∷ Quoted w ∷ texts_tokens ts) is.1.1
      ∙ sym (append_assoc (front_tokens s.file) (Word (codes "desc") ∷ []) (Quoted w ∷ [])),
)
at_description s (Number w) is = tt
at_description s (Word w) is = tt
at_description s Semicolon is = tt
at_description s Colon is = tt

at_texts : (s : State) (t : Token) → IsAt Texts s → OfSome (After Texts s t) (step_at Texts (at Texts s) t)
at_texts s (Number w) is = (is, refl)
at_texts s (Word w) is = tt
at_texts s (Quoted w) is = tt
at_texts s Semicolon is = tt
at_texts s Colon is = tt

at_log : (s : State) (t : Token) → IsAt Log s → OfSome (After Log s t) (step_at Log (at Log s) t)
at_log s (Word w) is = by_test (bytes_eq w (codes "log")) refl
  where
    by_test : (t : Bool) → bytes_eq w (codes "log") ≡ t → OfSome (After Log s (Word w))
        (cond t (Some (record (at Log s) { place = LogText })) None)
    by_test true e = (
      is,
      ap (λ v. whole_tokens s.file ++ Number s.number ∷ Word v ∷ []) (sym ((bytes_eq-Decides w (codes "log")).0 e))
          ∙ sym (append_assoc (whole_tokens s.file) (Number s.number ∷ []) (Word w ∷ [])),
    )
    by_test false e = tt
at_log s (Number w) is = tt
at_log s (Quoted w) is = tt
at_log s Semicolon is = tt
at_log s Colon is = tt

at_log_text : (s : State) (t : Token) → IsAt LogText s → OfSome (After LogText s t) (step_at LogText (at LogText s) t)
at_log_text s (Quoted w) is =
    ((is, tt), sym (append_assoc (whole_tokens s.file) (Number s.number ∷ Word (codes "log") ∷ []) (Quoted w ∷ [])))
at_log_text s (Number w) is = tt
at_log_text s (Word w) is = tt
at_log_text s Semicolon is = tt
at_log_text s Colon is = tt

at_text_phrases : (s : State) (t : Token) → IsAt TextPhrases s → OfSome (After TextPhrases s t)
    (step_at TextPhrases (at TextPhrases s) t)
at_text_phrases s (Word w) is = by_test (bytes_eq w (codes "text")) refl
  where
    by_test : (t : Bool) → bytes_eq w (codes "text") ≡ t
        → After TextPhrases s (Word w) (cond t (record (at TextPhrases s) { place = Text })
        (opened TextPhrase w (at TextPhrases s)))
    by_test true e = (is, ap (λ v. text_front s ++ Word v ∷ []) (sym ((bytes_eq-Decides w (codes "text")).0 e)))
    by_test false e = ((is.0, (is.1, (e, tt))), refl)
at_text_phrases s (Number w) is = tt
at_text_phrases s (Quoted w) is = tt
at_text_phrases s Semicolon is = tt
at_text_phrases s Colon is = tt

at_text : (s : State) (t : Token) → IsAt Text s → OfSome (After Text s t) (step_at Text (at Text s) t)
at_text s (Quoted w) is = (
  record {
    head = is.0.head;
    entries = is.0.entries;
    texts = all_more (λ (t : DeltaText). ArePhrases (codes "text") t.phrases) s.file.texts
        (record { number = s.number; log = s.log; phrases = s.phrases; text = w }) is.0.texts is.1;
  },
  ap (λ l. front_tokens s.file ++ Word (codes "desc") ∷ Quoted s.file.description ∷ l)
      (texts_more s.file.texts s.number s.log s.phrases w)
      ∙ (sym (append_assoc (front_tokens s.file) (Word (codes "desc") ∷ Quoted s.file.description
      ∷ texts_tokens s.file.texts) (text_tokens s.number s.log s.phrases ++ Word (codes "text") ∷ Quoted w ∷ []))
      ∙ (sym (append_assoc (whole_tokens s.file) (text_tokens s.number s.log s.phrases) (Word (codes "text") ∷ Quoted w
      ∷ []))
      ∙ sym (append_assoc (text_front s) (Word (codes "text") ∷ []) (Quoted w ∷ [])))),
)
at_text s (Number w) is = tt
at_text s (Word w) is = tt
at_text s Semicolon is = tt
at_text s Colon is = tt

-- what a step makes is behind the token
pub step_is : (place : Place) (s : State) (t : Token) → IsAt place s → OfSome (After place s t)
    (step_at place (at place s) t)
step_is HeadPhrases s t is = at_head s t is
step_is HeadPhrase s t is = in_head s t is
step_is EntryPhrases s t is = at_entry s t is
step_is EntryPhrase s t is = in_entry s t is
step_is Description s t is = at_description s t is
step_is Texts s t is = at_texts s t is
step_is Log s t is = at_log s t is
step_is LogText s t is = at_log_text s t is
step_is TextPhrases s t is = at_text_phrases s t is
step_is TextPhrase s t is = in_text s t is
step_is Text s t is = at_text s t is

pub step_after : (s : State) (t : Token) → IsAt s.place s → OfSome (After s.place s t) (step s t)
step_after s t is = step_is s.place s t is
