-- Which bytes are read as a file, and where others fail.
use Rattle.std.proofs.Common.{◌≡◌, ℕ, Bool, true, false, cond, List, [], ◌∷◌, ◌++◌, codes, Option, None, Some, Result}
use Rattle.std.proofs.Common.{Ok, Err, refl, sym, subst, ap, ◌∙◌, append-nil, append_assoc}
use Rattle.std.specs.List.{AllByRecursion}
use Rattle.std.proofs.lemmas.Bool.{false≢true}
use Rattle.sccs_rcs_file.specs.Forms.{ArePhrases, AreViable, DeltaText, RcsEntry, Fails, FailsAt, IsFile, Phrase}
use Rattle.sccs_rcs_file.specs.Forms.{RcsFile, Spells, all_tokens, entries_tokens, file_tokens, phrases_tokens}
use Rattle.sccs_rcs_file.specs.Forms.{texts_tokens, with_token}
use Rattle.sccs_rcs_file.specs.Reading.{State, by_state, by_token, file_of, is_end, read_on, start, step, with_text}
use Rattle.sccs_rcs_file.specs.TokenValues.{Token, Number, Word, Quoted, Semicolon}
use Rattle.sccs_rcs_file.specs.Tokens.{Lexeme, lexemes}
use Rattle.sccs_rcs_file.specs.declared.places.Place.{Place}
use Rattle.sccs_rcs_file.specs.declared.places.Place.TheVariants.{HeadPhrases, HeadPhrase, EntryPhrases, EntryPhrase}
use Rattle.sccs_rcs_file.specs.declared.places.Place.TheVariants.{Description, Texts, Log, LogText, TextPhrases}
use Rattle.sccs_rcs_file.specs.declared.places.Place.TheVariants.{TextPhrase, Text}
use Rattle.sccs_rcs_file.proofs.ReadTokens.{After, IsAt, IsBegun, IsFront, OfSome, ended_behind, entry_ended}
use Rattle.sccs_rcs_file.proofs.ReadTokens.{entry_front_is, front_tokens, phrase_ended, phrases_more, step_after}
use Rattle.sccs_rcs_file.proofs.ReadTokens.{text_ended, text_tokens, texts_more, tokens_at, whole_tokens}
use Rattle.sccs_rcs_file.proofs.WholeFiles.{file_reaches, steps, steps_both, then_steps}

-- what reading answers behind a state
abbrev ended : State → Result RcsFile ℕ
ended s = cond (is_end s.place) (Ok s.file) (Err 0)

some_other : {P : Type 0} (x : State) → None ≡ Some x → P
some_other x e = absurd (false≢true (ap is_there e))
  where
    is_there : Option State → Bool
    is_there None = false
    is_there (Some x) = true

some_same : (x y : State) → Some x ≡ Some y → x ≡ y
some_same x y e = ap (or_state x) e
  where
    or_state : State → Option State → State
    or_state s None = s
    or_state s (Some x) = x

-- ---- lexemes that all have a token

no_tokens : {P : Type 0} (tokens : List Token) → None ≡ Some tokens → P
no_tokens tokens e = absurd (false≢true (ap is_there e))
  where
    is_there : Option (List Token) → Bool
    is_there None = false
    is_there (Some x) = true

tokens_same : (a b : List Token) → Some a ≡ Some b → a ≡ b
tokens_same a b e = ap or_none e
  where
    or_none : Option (List Token) → List Token
    or_none None = []
    or_none (Some l) = l

read_tokens : (s : State) (ls : List Lexeme) (tokens : List Token) (last : State) → all_tokens ls ≡ Some tokens
    → steps s tokens ≡ Some last → read_on s ls ≡ ended last
read_tokens s [] tokens last are is = ap ended (some_same s last (ap (λ l. steps s l) (tokens_same [] tokens are) ∙ is))
read_tokens s (l ∷ ls) tokens last are is = by_token_of l.token (all_tokens ls) refl are (λ next rest same e.
    read_tokens next ls rest last same e)
  where
    by_step : (o : Option State) (rest : List Token) → then_steps (λ next. steps next rest) o ≡ Some last
        → ((next : State) → steps next rest ≡ Some last → read_on next ls ≡ ended last)
        → by_state l.left o (λ next. read_on next ls) ≡ ended last
    by_step None rest e more = some_other last e
    by_step (Some next) rest e more = more next e

    by_token_of : (t : Option Token) (o : Option (List Token)) → all_tokens ls ≡ o → with_token t o ≡ Some tokens
        → ((next : State) (rest : List Token) → all_tokens ls ≡ Some rest → steps next rest ≡ Some last
        → read_on next ls ≡ ended last)
        → by_token s l t (λ next. read_on next ls) ≡ ended last
    by_token_of None o same e more = no_tokens tokens e
    by_token_of (Some t) None same e more = no_tokens tokens e
    by_token_of (Some t) (Some rest) same e more =
        by_step (step s t) rest (ap (λ k. steps s k) (tokens_same (t ∷ rest) tokens e) ∙ is)
        (λ next e2. more next rest same e2)

pub spelled_is_read : (bytes : List ℕ) (f : RcsFile) → Spells bytes f → file_of bytes ≡ Ok f
spelled_is_read bytes f spells =
    let reaches = file_reaches f spells.file in
    read_tokens start (lexemes bytes) (file_tokens f) reaches.state spells.tokens reaches.is
    ∙ (ap (λ p. cond (is_end p) (Ok reaches.state.file) (Err 0)) reaches.place_is ∙ ap Ok reaches.file_is)

-- ---- what was read is spelled so

whole_is : (f : RcsFile) → whole_tokens f ≡ file_tokens f
whole_is f = append_assoc (phrases_tokens f.head) (entries_tokens f.entries) (Word (codes "desc") ∷ Quoted f.description
    ∷ texts_tokens f.texts)

record ReadAs (s : State) (ls : List Lexeme) (f : RcsFile) : Type 0 where
  tokens : List Token
  are : all_tokens ls ≡ Some tokens
  whole : file_tokens f ≡ tokens_at s.place s ++ tokens
  file : IsFile f

no_fault : {P : Type 0} (left : ℕ) (f : RcsFile) → Err left ≡ Ok f → P
no_fault left f e = absurd (false≢true (ap is_ok e))
  where
    is_ok : Result RcsFile ℕ → Bool
    is_ok (Ok f) = true
    is_ok (Err left) = false

abbrev ok_file : RcsFile → Result RcsFile ℕ
ok_file f = Ok f

ok_same : (f g : RcsFile) → ok_file f ≡ Ok g → f ≡ g
ok_same f g e = ap (or_file f) e
  where
    or_file : RcsFile → Result RcsFile ℕ → RcsFile
    or_file f (Ok g) = g
    or_file f (Err left) = f

-- a step that was made, and what comes behind it
made : (s next : State) (t : Token) → step s t ≡ Some next → IsAt s.place s → After s.place s t next
made s next t is at_is = subst (OfSome (After s.place s t)) is (step_after s t at_is)

end_is : (p : Place) (s : State) → is_end p ≡ true → IsAt p s → IsFile s.file × (tokens_at p s ≡ whole_tokens s.file)
end_is HeadPhrases s e is = absurd (false≢true e)
end_is HeadPhrase s e is = absurd (false≢true e)
end_is EntryPhrases s e is = absurd (false≢true e)
end_is EntryPhrase s e is = absurd (false≢true e)
end_is Description s e is = absurd (false≢true e)
end_is Texts s e is = (is, refl)
end_is Log s e is = absurd (false≢true e)
end_is LogText s e is = absurd (false≢true e)
end_is TextPhrases s e is = absurd (false≢true e)
end_is TextPhrase s e is = absurd (false≢true e)
end_is Text s e is = absurd (false≢true e)

read_as : (s : State) (ls : List Lexeme) (f : RcsFile) → IsAt s.place s → read_on s ls ≡ Ok f → ReadAs s ls f
read_as s [] f at_is e = by_end (is_end s.place) refl e
  where
    by_end : (t : Bool) → is_end s.place ≡ t → cond {A = Result RcsFile ℕ} t (Ok s.file) (Err 0) ≡ Ok f → ReadAs s [] f
    by_end false is e2 = no_fault 0 f e2
    by_end true is e2 =
        let same = ok_same s.file f e2 in
        let whole = end_is s.place s is at_is in
        record {
          tokens = [];
          are = refl;
          whole = sym (whole_is f) ∙ (ap whole_tokens (sym same)
              ∙ (sym whole.1 ∙ sym (append-nil (tokens_at s.place s))));
          file = subst IsFile same whole.0;
        }
read_as s (l ∷ ls) f at_is e = by_token_of l.token refl e (λ next is e2. read_as next ls f is e2)
  where
    by_step : (t : Token) (o : Option State) → l.token ≡ Some t → step s t ≡ o
        → by_state l.left o (λ next. read_on next ls) ≡ Ok f
        → ((next : State) → IsAt next.place next → read_on next ls ≡ Ok f → ReadAs next ls f) → ReadAs s (l ∷ ls) f
    by_step t None token_is is e2 more = no_fault l.left f e2
    by_step t (Some next) token_is is e2 more =
        let after = made s next t is at_is in
        let rest = more next after.0 e2 in
        record {
          tokens = t ∷ rest.tokens;
          are = ap (λ o. with_token o (all_tokens ls)) token_is ∙ ap (λ o. with_token (Some t) o) rest.are;
          whole = rest.whole ∙ (ap (λ k. k ++ rest.tokens) after.1 ∙ append_assoc (tokens_at s.place s)
              (t ∷ []) rest.tokens);
          file = rest.file;
        }

    by_token_of : (o : Option Token) → l.token ≡ o → by_token s l o (λ next. read_on next ls) ≡ Ok f
        → ((next : State) → IsAt next.place next → read_on next ls ≡ Ok f → ReadAs next ls f) → ReadAs s (l ∷ ls) f
    by_token_of None token_is e2 more = no_fault l.left f e2
    by_token_of (Some t) token_is e2 more = by_step t (step s t) token_is refl e2 more

start_is : IsAt start.place start
start_is = ((refl, refl), tt)

pub read_is_spelled : (bytes : List ℕ) (f : RcsFile) → file_of bytes ≡ Ok f → Spells bytes f
read_is_spelled bytes f e =
    let read = read_as start (lexemes bytes) f start_is e in
    record { tokens = read.are ∙ ap Some (sym read.whole); file = read.file }

-- ---- faults

-- the tokens of a state can be followed to a file
viable_by : (tokens : List Token) (f : RcsFile) (more : List Token) → IsFile f → file_tokens f ≡ tokens ++ more
    → AreViable tokens
viable_by tokens f more is whole = record { file = f; is = is; more = more; whole = whole }

record Fault (s : State) (came : List Token) (ls : List Lexeme) (left : ℕ) : Type 0 where
  before : List Lexeme
  tokens : List Token
  are : all_tokens before ≡ Some tokens
  state : State
  reached : steps start (came ++ tokens) ≡ Some state
  at_is : IsAt state.place state
  tokens_are : tokens_at state.place state ≡ came ++ tokens
  rest : List Lexeme
  whole : ls ≡ before ++ rest
  fails : Fails (came ++ tokens) left rest

-- tokens that were read to a state are no others
not_whole : (s : State) (came : List Token) (f : RcsFile) → steps start came ≡ Some s → is_end s.place ≡ false
    → IsFile f → file_tokens f ≡ came → ⊥
not_whole s came f reached e is whole =
    let reaches = file_reaches f is in
    let same : s ≡ reaches.state = some_same s reaches.state (sym reached ∙ (ap (λ k. steps start k) (sym whole)
    ∙ reaches.is)) in
    false≢true (sym e ∙ (ap (λ (x : State). is_end x.place) same ∙ ap is_end reaches.place_is))

not_viable : (s : State) (came : List Token) (t : Token) → steps start came ≡ Some s → step s t ≡ None
    → AreViable (came ++ t ∷ []) → ⊥
not_viable s came t reached none viable =
    let reaches = file_reaches viable.file viable.is in
    some_other reaches.state
    (sym (steps_both start (came ++ t ∷ []) viable.more
    ∙ (ap (λ o. then_steps (λ next. steps next viable.more) o) (steps_both start came (t ∷ [])
    ∙ (ap (λ o. then_steps (λ next. steps next (t ∷ [])) o) reached ∙ ap (λ o. then_steps (λ next. Some next) o)
    none))))
    ∙ (ap (λ k. steps start k) (sym viable.whole) ∙ reaches.is))

abbrev err_left : ℕ → Result RcsFile ℕ
err_left left = Err left

fault_same : (a b : ℕ) → err_left a ≡ Err b → a ≡ b
fault_same a b e = ap or_zero e
  where
    or_zero : Result RcsFile ℕ → ℕ
    or_zero (Ok f) = 0
    or_zero (Err left) = left

ok_no_fault : {P : Type 0} (f : RcsFile) (left : ℕ) → ok_file f ≡ Err left → P
ok_no_fault f left e = absurd (false≢true (sym (ap is_ok e)))
  where
    is_ok : Result RcsFile ℕ → Bool
    is_ok (Ok f) = true
    is_ok (Err left) = false

token_none : {P : Type 0} (t : Token) → None ≡ Some t → P
token_none t e = absurd (false≢true (ap is_there e))
  where
    is_there : Option Token → Bool
    is_there None = false
    is_there (Some x) = true

token_same : (t u : Token) → Some t ≡ Some u → t ≡ u
token_same t u e = ap (or_token t) e
  where
    or_token : Token → Option Token → Token
    or_token t None = t
    or_token t (Some u) = u

here : (s : State) (came : List Token) (ls : List Lexeme) (left : ℕ) → steps start came ≡ Some s → IsAt s.place s
    → tokens_at s.place s ≡ came → Fails came left ls → Fault s came ls left
here s came ls left reached at_is are fails = record {
  before = [];
  tokens = [];
  are = refl;
  state = s;
  reached = ap (λ k. steps start k) (append-nil came) ∙ reached;
  at_is = at_is;
  tokens_are = are ∙ sym (append-nil came);
  rest = ls;
  whole = refl;
  fails = subst (λ k. Fails k left ls) (sym (append-nil came)) fails;
}

later : (s next : State) (came : List Token) (l : Lexeme) (ls : List Lexeme) (t : Token) (left : ℕ) → l.token ≡ Some t
    → Fault next (came ++ t ∷ []) ls left → Fault s came (l ∷ ls) left
later s next came l ls t left token_is fault =
    let same = append_assoc came (t ∷ []) fault.tokens in
    record {
      before = l ∷ fault.before;
      tokens = t ∷ fault.tokens;
      are = ap (λ o. with_token o (all_tokens fault.before)) token_is ∙ ap (λ o. with_token (Some t) o) fault.are;
      state = fault.state;
      reached = ap (λ k. steps start k) (sym same) ∙ fault.reached;
      at_is = fault.at_is;
      tokens_are = fault.tokens_are ∙ same;
      rest = fault.rest;
      whole = ap (λ k. l ∷ k) fault.whole;
      fails = subst (λ k. Fails k left fault.rest) same fault.fails;
    }

find_fault : (s : State) (came : List Token) (ls : List Lexeme) (left : ℕ) → steps start came ≡ Some s → IsAt s.place s
    → tokens_at s.place s ≡ came → read_on s ls ≡ Err left → Fault s came ls left
find_fault s came [] left reached at_is are e = by_end (is_end s.place) refl e
  where
    by_end : (t : Bool) → is_end s.place ≡ t → cond {A = Result RcsFile ℕ} t (Ok s.file) (Err 0) ≡ Err left
        → Fault s came [] left
    by_end true is e2 = ok_no_fault s.file left e2
    by_end false is e2 = here s came [] left reached at_is are (
      sym (fault_same 0 left e2),
      λ f file whole.
          not_whole s came f reached is file whole,
    )
find_fault s came (l ∷ ls) left reached at_is are e =
    by_token_of l.token refl e (λ next more reached2 at2 are2 e2. find_fault next more ls left reached2 at2 are2 e2)
  where
    by_step : (t : Token) (o : Option State) → l.token ≡ Some t → step s t ≡ o
        → by_state l.left o (λ next. read_on next ls) ≡ Err left
        → ((next : State) (more : List Token) → steps start more ≡ Some next → IsAt next.place next
        → tokens_at next.place next ≡ more → read_on next ls ≡ Err left → Fault next more ls left)
        → Fault s came (l ∷ ls) left
    by_step t None token_is is e2 more =
        here s came (l ∷ ls) left reached at_is are (
          sym (fault_same l.left left e2),
          λ u u_is viable. not_viable s came t reached is
              (subst (λ v. AreViable (came ++ v ∷ [])) (token_same u t (sym u_is ∙ token_is)) viable),
        )
    by_step t (Some next) token_is is e2 more =
        let after = made s next t is at_is in
        later s next came l ls t left token_is
        (more next (came ++ t ∷ [])
        (steps_both start came (t ∷ []) ∙ (ap (λ o. then_steps (λ n. steps n (t ∷ [])) o) reached
        ∙ ap (λ o. then_steps (λ n. Some n) o) is))
        after.0 (after.1 ∙ ap (λ k. k ++ t ∷ []) are) e2)

    by_token_of : (o : Option Token) → l.token ≡ o → by_token s l o (λ next. read_on next ls) ≡ Err left
        → ((next : State) (more : List Token) → steps start more ≡ Some next → IsAt next.place next
        → tokens_at next.place next ≡ more → read_on next ls ≡ Err left → Fault next more ls left)
        → Fault s came (l ∷ ls) left
    by_token_of None token_is e2 more =
        here s came (l ∷ ls) left reached at_is are (
          sym (fault_same l.left left e2),
          λ u u_is viable. token_none u
              (sym token_is ∙ u_is),
        )
    by_token_of (Some t) token_is e2 more = by_step t (step s t) token_is refl e2 more

-- ---- each state can go on to a file

-- an entry more, and a description and no text
abbrev closed_front : List Phrase → List RcsEntry → RcsFile
closed_front head entries = record { head = head; entries = entries; description = []; texts = [] }

front_viable : (tokens middle : List Token) (head : List Phrase) (entries : List RcsEntry)
    → IsFile (closed_front head entries)
    → phrases_tokens head ++ entries_tokens entries ≡ tokens ++ middle → AreViable tokens
front_viable tokens middle head entries is whole =
    viable_by tokens (closed_front head entries) (middle ++ Word (codes "desc") ∷ Quoted [] ∷ []) is
    (sym (append_assoc (phrases_tokens head) (entries_tokens entries) (Word (codes "desc") ∷ Quoted [] ∷ []))
    ∙ (ap (λ k. k ++ Word (codes "desc") ∷ Quoted [] ∷ []) whole ∙ append_assoc tokens middle
    (Word (codes "desc") ∷ Quoted [] ∷ [])))

all_more : {A : Type 0} (P : A → Type 0) (xs : List A) (x : A) → AllByRecursion P xs → P x
    → AllByRecursion P (xs ++ x ∷ [])
all_more P [] x all one = (one, tt)
all_more P (y ∷ xs) x all one = (all.0, all_more P xs x all.1 one)

ended_phrase : (ending : List ℕ) (s : State) → ArePhrases ending s.phrases → IsBegun ending s
    → ArePhrases ending (s.phrases ++ record { name = s.name; inside = s.inside } ∷ [])
ended_phrase ending s are begun = phrase_ended ending s are begun

abbrev with_phrase : State → State
with_phrase s = record s { phrases = s.phrases ++ record { name = s.name; inside = s.inside } ∷ [] }

entries_closed : (s : State) → IsFront s → ArePhrases (codes "desc") s.phrases
    → IsFile (closed_front s.file.head (s.file.entries ++ record { number = s.number; phrases = s.phrases } ∷ []))
entries_closed s front are = record { head = front.0; entries = entry_ended s front are; texts = tt }

-- a file with one text more
text_added : (s : State) (raw : List ℕ) → file_tokens (with_text raw s) ≡ whole_tokens s.file
    ++ (text_tokens s.number s.log s.phrases ++ Word (codes "text") ∷ Quoted raw ∷ [])
text_added s raw =
    sym (whole_is (with_text raw s))
    ∙ (ap (λ l. front_tokens s.file ++ Word (codes "desc") ∷ Quoted s.file.description ∷ l)
    (texts_more s.file.texts s.number s.log s.phrases raw)
    ∙ sym (append_assoc (front_tokens s.file) (Word (codes "desc") ∷ Quoted s.file.description
    ∷ texts_tokens s.file.texts) (text_tokens s.number s.log s.phrases ++ Word (codes "text") ∷ Quoted raw ∷ [])))

text_closed : (s : State) → IsFile s.file → ArePhrases (codes "text") s.phrases → IsFile (with_text [] s)
text_closed s is are = record {
  head = is.head;
  entries = is.entries;
  texts = all_more (λ (t : DeltaText). ArePhrases (codes "text") t.phrases) s.file.texts
      (record { number = s.number; log = s.log; phrases = s.phrases; text = [] }) is.texts are;
}

abbrev end_of_text : List Token
end_of_text = Word (codes "text") ∷ Quoted [] ∷ []

viable_at : (p : Place) (s : State) → IsAt p s → AreViable (tokens_at p s)
viable_at HeadPhrases s is = front_viable (phrases_tokens s.phrases) [] s.phrases []
    (record { head = is.1; entries = tt; texts = tt }) refl
viable_at HeadPhrase s is =
    front_viable (phrases_tokens s.phrases ++ Word s.name ∷ s.inside) (Semicolon ∷ []) (with_phrase s).phrases []
    (record { head = ended_phrase (codes "desc") s is.1.0 is.1.1; entries = tt; texts = tt })
    (append-nil (phrases_tokens (with_phrase s).phrases) ∙ phrases_more s.phrases s.name s.inside)
viable_at EntryPhrases s is =
    front_viable (tokens_at EntryPhrases s) [] s.file.head
    (s.file.entries ++ record { number = s.number; phrases = s.phrases } ∷ []) (entries_closed s is.0 is.1)
    (entry_front_is s ∙ sym (append-nil (tokens_at EntryPhrases s)))
viable_at EntryPhrase s is =
    front_viable (tokens_at EntryPhrase s) (Semicolon ∷ []) s.file.head
    (s.file.entries ++ record { number = s.number; phrases = (with_phrase s).phrases } ∷ [])
    (entries_closed (with_phrase s) is.0 (ended_phrase (codes "desc") s is.1.0 is.1.1))
    (entry_front_is (with_phrase s) ∙ ended_behind (front_tokens s.file) (Number s.number) s)
viable_at Description s is =
    viable_by (tokens_at Description s) (closed_front s.file.head s.file.entries) (Quoted [] ∷ [])
    (record { head = is.0; entries = is.1.0; texts = tt })
    (sym (append_assoc (phrases_tokens s.file.head) (entries_tokens s.file.entries) (Word (codes "desc") ∷ Quoted []
    ∷ [])) ∙ sym (append_assoc (front_tokens s.file) (Word (codes "desc") ∷ []) (Quoted [] ∷ [])))
viable_at Texts s is = viable_by (whole_tokens s.file) s.file [] is (sym (whole_is s.file)
    ∙ sym (append-nil (whole_tokens s.file)))
viable_at Log s is =
    let none : State = record s { log = []; phrases = [] } in
    viable_by (tokens_at Log s) (with_text [] none) (Word (codes "log") ∷ Quoted [] ∷ end_of_text)
    (text_closed none is tt)
    (text_added none [] ∙ sym (append_assoc (whole_tokens s.file) (Number s.number ∷ []) (Word (codes "log") ∷ Quoted []
    ∷ end_of_text)))
viable_at LogText s is =
    let none : State = record s { log = []; phrases = [] } in
    viable_by (tokens_at LogText s) (with_text [] none) (Quoted [] ∷ end_of_text) (text_closed none is tt)
    (text_added none [] ∙ sym (append_assoc (whole_tokens s.file) (Number s.number ∷ Word (codes "log") ∷ [])
    (Quoted [] ∷ end_of_text)))
viable_at TextPhrases s is =
    viable_by (tokens_at TextPhrases s) (with_text [] s) end_of_text (text_closed s is.0 is.1)
    (text_added s [] ∙ sym (append_assoc (whole_tokens s.file) (text_tokens s.number s.log s.phrases) end_of_text))
viable_at TextPhrase s is =
    viable_by (tokens_at TextPhrase s) (with_text [] (with_phrase s)) (Semicolon ∷ end_of_text)
    (text_closed (with_phrase s) is.0 (ended_phrase (codes "text") s is.1.0 is.1.1))
    (text_added (with_phrase s) []
    ∙ (sym (append_assoc (whole_tokens s.file) (text_tokens s.number s.log (with_phrase s).phrases) end_of_text)
    ∙ (ap (λ k. k ++ end_of_text) (text_ended s) ∙ append_assoc (tokens_at TextPhrase s) (Semicolon ∷ []) end_of_text)))
viable_at Text s is =
    viable_by (tokens_at Text s) (with_text [] s) (Quoted [] ∷ []) (text_closed s is.0 is.1)
    (text_added s [] ∙ (sym (append_assoc (whole_tokens s.file) (text_tokens s.number s.log s.phrases) end_of_text)
    ∙ sym (append_assoc (whole_tokens s.file ++ text_tokens s.number s.log s.phrases) (Word (codes "text") ∷ [])
    (Quoted [] ∷ []))))

pub fault_is : (bytes : List ℕ) (left : ℕ) → file_of bytes ≡ Err left → FailsAt bytes left
fault_is bytes left e =
    let fault = find_fault start [] (lexemes bytes) left refl start_is refl e in
    record {
      before = fault.before;
      tokens = fault.tokens;
      are = fault.are;
      viable = subst AreViable fault.tokens_are (viable_at fault.state.place fault.state fault.at_is);
      rest = fault.rest;
      whole = fault.whole;
      fails = fault.fails;
    }
