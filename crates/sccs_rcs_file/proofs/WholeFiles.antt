-- The tokens of a file are read as it.
use Rattle.std.proofs.Common.{◌≡◌, ℕ, false, cond, List, [], ◌∷◌, ◌++◌, codes, Option, None, Some, refl, sym, subst, ap}
use Rattle.std.proofs.Common.{◌∙◌, append-nil, append_assoc}
use Rattle.std.specs.List.{AllByRecursion}
use Rattle.std.specs.Str.{bytes_eq}
use Rattle.sccs_rcs_file.specs.Forms.{ArePhrases, DeltaText, RcsEntry, IsFile, Phrase, RcsFile, entries_tokens}
use Rattle.sccs_rcs_file.specs.Forms.{file_tokens, is_semicolon, phrases_tokens, texts_tokens}
use Rattle.sccs_rcs_file.specs.Reading.{State, description_next, entry_begun, in_phrase, opened, start, step, step_at}
use Rattle.sccs_rcs_file.specs.Reading.{with_entry, with_head, with_text}
use Rattle.sccs_rcs_file.specs.TokenValues.{Token, Number, Word, Quoted, Semicolon, Colon}
use Rattle.sccs_rcs_file.specs.declared.places.Place.{Place}
use Rattle.sccs_rcs_file.specs.declared.places.Place.TheVariants.{HeadPhrases, HeadPhrase, EntryPhrases, EntryPhrase}
use Rattle.sccs_rcs_file.specs.declared.places.Place.TheVariants.{Description, Texts, Log, LogText, TextPhrases}
use Rattle.sccs_rcs_file.specs.declared.places.Place.TheVariants.{TextPhrase, Text}

abbrev pub then_steps : (State → Option State) → Option State → Option State
then_steps next None = None
then_steps next (Some s) = next s

-- the state behind tokens, if all can come
abbrev pub steps : State → List Token → Option State
steps s [] = Some s
steps s (t ∷ tokens) = then_steps (λ next. steps next tokens) (step s t)

pub steps_both : (s : State) (a b : List Token) → steps s (a ++ b) ≡ then_steps (λ next. steps next b) (steps s a)
steps_both s [] b = refl
steps_both s (t ∷ a) b = by_step (step s t) (λ next. steps_both next a b)
  where
    by_step : (o : Option State) → ((next : State) → steps next (a ++ b) ≡ then_steps (λ n. steps n b) (steps next a))
        → then_steps (λ next. steps next (a ++ b)) o ≡ then_steps (λ n. steps n b) (then_steps (λ next. steps next a) o)
    by_step None more = refl
    by_step (Some next) more = more next

-- ---- the tokens of a phrase

-- the tokens up to the semicolon
inside_steps : (inside next : Place) (s : State) (came tokens : List Token) → ((s : State) (t : Token)
    → step_at inside s t ≡ in_phrase next s t)
    → AllByRecursion (λ t. is_semicolon t ≡ false) tokens
    → steps (record s { place = inside; inside = came }) (tokens ++ Semicolon ∷ [])
    ≡ Some (record s {
      place = next;
      phrases = s.phrases ++ record { name = s.name; inside = came ++ tokens } ∷ [];
      inside = [];
    })
inside_steps inside next s came [] is all =
    ap (λ o. then_steps (λ n. Some n) o) (is (record s { place = inside; inside = came }) Semicolon)
    ∙ ap (λ l. Some (record s {
      place = next;
      phrases = s.phrases ++ record { name = s.name; inside = l } ∷ [];
      inside =
          [];
    })) (sym (append-nil came))
inside_steps inside next s came (t ∷ tokens) is all =
    ap (λ o. then_steps (λ n. steps n (tokens ++ Semicolon ∷ [])) o) (is (record s { place = inside; inside = came }) t
    ∙ other t all.0)
    ∙ (inside_steps inside next s (came ++ t ∷ []) tokens is all.1
    ∙ ap (λ l. Some (record s {
      place = next;
      phrases = s.phrases ++ record { name = s.name; inside = l } ∷ [];
      inside =
          [];
    })) (append_assoc came (t ∷ []) tokens))
  where
    other : (t : Token) → is_semicolon t ≡ false
        → in_phrase next (record s { place = inside; inside = came }) t ≡ Some
        (record s { place = inside; inside = came ++ t ∷ [] })
    other (Number w) e = refl
    other (Word w) e = refl
    other (Quoted w) e = refl
    other Semicolon e = absurd (Rattle.std.proofs.lemmas.Bool.false≢true (sym e))
    other Colon e = refl

-- whole phrases, where one may begin
pub record Opens (outside inside : Place) (ending : List ℕ) : Type 0 where
  opens : (s : State) (word : List ℕ) → bytes_eq word ending ≡ false → step_at outside s (Word word) ≡ Some
      (opened inside word s)
  goes : (s : State) (t : Token) → step_at inside s t ≡ in_phrase outside s t

-- the name of the phrase that was last read
abbrev pub last_name : List ℕ → List Phrase → List ℕ
last_name name [] = name
last_name name (p ∷ phrases) = last_name p.name phrases

abbrev pub nothing_inside : List Token → List Phrase → List Token
nothing_inside inside [] = inside
nothing_inside inside (p ∷ phrases) = []

abbrev pub behind_phrases : Place → State → List Phrase → State
behind_phrases outside s phrases =
    record s {
      place = outside;
      phrases = s.phrases ++ phrases;
      name = last_name s.name phrases;
      inside =
          nothing_inside s.inside phrases;
    }

pub phrases_steps : (outside inside : Place) (ending : List ℕ) (s : State) (phrases : List Phrase)
    → Opens outside inside ending → ArePhrases ending phrases
    → steps (record s { place = outside }) (phrases_tokens phrases) ≡ Some (behind_phrases outside s phrases)
phrases_steps outside inside ending s [] opens are = ap (λ l. Some (record s { place = outside; phrases = l }))
    (sym (append-nil s.phrases))
phrases_steps outside inside ending s (p ∷ phrases) opens are =
    ap (λ o. then_steps (λ n. steps n (p.inside ++ Semicolon ∷ phrases_tokens phrases)) o)
    (opens.opens (record s { place = outside }) p.name are.0.name)
    ∙ (ap (λ l. steps (record s { place = inside; name = p.name; inside = [] }) l)
    (sym (append_assoc p.inside (Semicolon ∷ []) (phrases_tokens phrases)))
    ∙ (steps_both (record s { place = inside; name = p.name; inside = [] }) (p.inside ++ Semicolon ∷ [])
    (phrases_tokens phrases)
    ∙ (ap (λ o. then_steps (λ n. steps n (phrases_tokens phrases)) o) (inside_steps inside outside
    (record s { name = p.name }) [] p.inside opens.goes are.0.inside)
    ∙ (phrases_steps outside inside ending (record s { phrases = s.phrases ++ p ∷ []; name = p.name; inside = [] })
    phrases opens are.1
    ∙ ap Some (joined ((s.phrases ++ p ∷ []) ++ phrases) (s.phrases ++ p ∷ phrases) (nothing_inside [] phrases)
    (append_assoc s.phrases (p ∷ []) phrases) (none_inside phrases))))))
  where
    none_inside : (phrases : List Phrase) → nothing_inside [] phrases ≡ []
    none_inside [] = refl
    none_inside (q ∷ qs) = refl

    joined : (l m : List Phrase) (i : List Token) → l ≡ m → i ≡ []
        → record s { place = outside; phrases = l; name = last_name p.name phrases; inside = i }
        ≡ record s { place = outside; phrases = m; name = last_name p.name phrases; inside = [] }
    joined l m i e f =
        ap (λ k. record s { place = outside; phrases = k; name = last_name p.name phrases; inside = i }) e
        ∙ ap (λ k. record s { place = outside; phrases = m; name = last_name p.name phrases; inside = k }) f

opens_head : Opens HeadPhrases HeadPhrase (codes "desc")
opens_head = record {
  opens = λ s word e. ap (λ t. Some (cond t (description_next (with_head s) s) (opened HeadPhrase word s))) e;
  goes = λ s t. refl;
}

opens_entry : Opens EntryPhrases EntryPhrase (codes "desc")
opens_entry = record {
  opens = λ s word e. ap (λ t. Some (cond t (description_next (with_entry s) s) (opened EntryPhrase word s))) e;
  goes = λ s t. refl;
}

pub opens_text : Opens TextPhrases TextPhrase (codes "text")
opens_text = record {
  opens = λ s word e. ap (λ t. Some (cond t (record s { place = Text }) (opened TextPhrase word s))) e;
  goes = λ s t. refl;
}

-- ---- entries, texts, and the whole

-- behind tokens reading stands at a place with a file
pub record Reaches (s : State) (tokens : List Token) (place : Place) (file : RcsFile) : Type 0 where
  pub state : State
  pub is : steps s tokens ≡ Some state
  pub place_is : state.place ≡ place
  pub file_is : state.file ≡ file

-- tokens in two parts
both_reach : (s mid : State) (a b : List Token) (place : Place) (file : RcsFile) → steps s a ≡ Some mid
    → Reaches mid b place file → Reaches s (a ++ b) place file
both_reach s mid a b place file is reaches = record {
  state = reaches.state;
  is = steps_both s a b ∙ (ap (λ o. then_steps (λ next. steps next b) o) is ∙ reaches.is);
  place_is = reaches.place_is;
  file_is = reaches.file_is;
}

-- one token before others
one_reaches : (s mid : State) (t : Token) (b : List Token) (place : Place) (file : RcsFile) → step s t ≡ Some mid
    → Reaches mid b place file → Reaches s (t ∷ b) place file
one_reaches s mid t b place file is reaches = record {
  state = reaches.state;
  is = ap (λ o. then_steps (λ next. steps next b) o) is ∙ reaches.is;
  place_is = reaches.place_is;
  file_is = reaches.file_is;
}

other_file : (s : State) (tokens : List Token) (place : Place) (a b : RcsFile) → a ≡ b → Reaches s tokens place a
    → Reaches s tokens place b
other_file s tokens place a b e reaches = subst (λ f. Reaches s tokens place f) e reaches

abbrev IsFrontEntry : RcsEntry → Type 0
IsFrontEntry e = ArePhrases (codes "desc") e.phrases

entries_reach : (s : State) (entries : List RcsEntry) → AllByRecursion IsFrontEntry entries
    → Reaches (record s { place = EntryPhrases }) (entries_tokens entries ++ Word (codes "desc") ∷ []) Description
    (record s.file { entries = s.file.entries ++ record { number = s.number; phrases = s.phrases } ∷ entries })
entries_reach s [] are = record {
  state = description_next (with_entry s) (record s { place = EntryPhrases });
  is =
      refl;
  place_is = refl;
  file_is = refl;
}
entries_reach s (e ∷ entries) are =
    let begun = entry_begun (with_entry s) e.number (record s { place = EntryPhrases }) in
    let behind = behind_phrases EntryPhrases begun e.phrases in
    one_reaches (record s { place = EntryPhrases }) begun (Number e.number)
    ((phrases_tokens e.phrases ++ entries_tokens entries) ++ Word (codes "desc") ∷ []) Description
    (record s.file { entries = s.file.entries ++ record { number = s.number; phrases = s.phrases } ∷ e ∷ entries }) refl
    (subst (λ l. Reaches begun l Description
    (record s.file { entries = s.file.entries ++ record { number = s.number; phrases = s.phrases } ∷ e ∷ entries }))
    (sym (append_assoc (phrases_tokens e.phrases) (entries_tokens entries) (Word (codes "desc") ∷ [])))
    (both_reach begun behind (phrases_tokens e.phrases) (entries_tokens entries ++ Word (codes "desc") ∷ []) Description
    (record s.file { entries = s.file.entries ++ record { number = s.number; phrases = s.phrases } ∷ e ∷ entries })
    (phrases_steps EntryPhrases EntryPhrase (codes "desc") begun e.phrases opens_entry are.0)
    (other_file behind (entries_tokens entries ++ Word (codes "desc") ∷ []) Description
    (record s.file {
      entries = (s.file.entries ++ record { number = s.number; phrases = s.phrases } ∷ [])
          ++ e ∷ entries;
    })
    (record s.file { entries = s.file.entries ++ record { number = s.number; phrases = s.phrases } ∷ e ∷ entries })
    (ap (λ l. record s.file { entries = l }) (append_assoc s.file.entries
    (record { number = s.number; phrases = s.phrases } ∷ []) (e ∷ entries)))
    (entries_reach behind entries are.1))))

abbrev IsBackText : DeltaText → Type 0
IsBackText t = ArePhrases (codes "text") t.phrases

texts_reach : (s : State) (texts : List DeltaText) → AllByRecursion IsBackText texts
    → Reaches (record s { place = Texts }) (texts_tokens texts) Texts (record s.file { texts = s.file.texts ++ texts })
texts_reach s [] are = record {
  state = record s { place = Texts };
  is = refl;
  place_is = refl;
  file_is =
      ap (λ l. record s.file { texts = l }) (sym (append-nil s.file.texts));
}
texts_reach s (t ∷ texts) are =
    let begun = record s { place = TextPhrases; number = t.number; log = t.log; phrases = [] } in
    let behind = behind_phrases TextPhrases begun t.phrases in
    let ended = record behind { place = Texts; file = with_text t.text behind; phrases = [] } in
    let file = record s.file { texts = s.file.texts ++ t ∷ texts } in
    one_reaches (record s { place = Texts }) (record s { place = Log; number = t.number }) (Number t.number)
    (Word (codes "log") ∷ Quoted t.log ∷ phrases_tokens t.phrases ++ Word (codes "text") ∷ Quoted t.text
    ∷ texts_tokens texts) Texts file refl
    (one_reaches (record s { place = Log; number = t.number }) (record s { place = LogText; number = t.number })
    (Word (codes "log")) (Quoted t.log ∷ phrases_tokens t.phrases ++ Word (codes "text") ∷ Quoted t.text
    ∷ texts_tokens texts) Texts file refl
    (one_reaches (record s { place = LogText; number = t.number }) begun (Quoted t.log) (phrases_tokens t.phrases
    ++ Word (codes "text") ∷ Quoted t.text ∷ texts_tokens texts) Texts file refl
    (both_reach begun behind (phrases_tokens t.phrases) (Word (codes "text") ∷ Quoted t.text ∷ texts_tokens texts) Texts
    file
    (phrases_steps TextPhrases TextPhrase (codes "text") begun t.phrases opens_text are.0)
    (one_reaches behind (record behind { place = Text }) (Word (codes "text")) (Quoted t.text ∷ texts_tokens texts)
    Texts file refl
    (one_reaches (record behind { place = Text }) ended (Quoted t.text) (texts_tokens texts) Texts file refl
    (other_file ended (texts_tokens texts) Texts (record s.file { texts = (s.file.texts ++ t ∷ []) ++ texts }) file
    (ap (λ l. record s.file { texts = l }) (append_assoc s.file.texts (t ∷ []) texts))
    (texts_reach ended texts are.1)))))))

-- the head, and what comes up to the description
front_reaches : (head : List Phrase) (entries : List RcsEntry) → ArePhrases (codes "desc") head
    → AllByRecursion IsFrontEntry entries
    → Reaches start (phrases_tokens head ++ (entries_tokens entries ++ Word (codes "desc") ∷ [])) Description
    (record { head = head; entries = entries; description = []; texts = [] })
front_reaches head [] are entries_are =
    let behind = behind_phrases HeadPhrases start head in
    both_reach start behind (phrases_tokens head) (Word (codes "desc") ∷ []) Description
    (record { head = head; entries = []; description = []; texts = [] })
    (phrases_steps HeadPhrases HeadPhrase (codes "desc") start head opens_head are)
    (record { state = description_next (with_head behind) behind; is = refl; place_is = refl; file_is = refl })
front_reaches head (e ∷ entries) are entries_are =
    let front = behind_phrases HeadPhrases start head in
    let begun = entry_begun (with_head front) e.number front in
    let behind = behind_phrases EntryPhrases begun e.phrases in
    let file : RcsFile = record { head = head; entries = e ∷ entries; description = []; texts = [] } in
    both_reach start front (phrases_tokens head) (Number e.number ∷ (phrases_tokens e.phrases ++ entries_tokens entries)
    ++ Word (codes "desc") ∷ []) Description file
    (phrases_steps HeadPhrases HeadPhrase (codes "desc") start head opens_head are)
    (one_reaches front begun (Number e.number) ((phrases_tokens e.phrases ++ entries_tokens entries) ++ Word
    (codes "desc") ∷ []) Description file refl
    (subst (λ l. Reaches begun l Description file)
    (sym (append_assoc (phrases_tokens e.phrases) (entries_tokens entries) (Word (codes "desc") ∷ [])))
    (both_reach begun behind (phrases_tokens e.phrases) (entries_tokens entries ++ Word (codes "desc") ∷ []) Description
    file
    (phrases_steps EntryPhrases EntryPhrase (codes "desc") begun e.phrases opens_entry entries_are.0)
    (entries_reach behind entries entries_are.1))))

-- a whole file
pub file_reaches : (f : RcsFile) → IsFile f → Reaches start (file_tokens f) Texts f
file_reaches f is =
    let front = front_reaches f.head f.entries is.head is.entries in
    let described = record front.state {
      place = Texts;
      file =
          record front.state.file { description = f.description };
    } in
    subst (λ l. Reaches start l Texts f) (ap (λ l. l) (append_assoc (phrases_tokens f.head) (entries_tokens f.entries
    ++ Word (codes "desc") ∷ []) (Quoted f.description ∷ texts_tokens f.texts)
    ∙ ap (λ l. phrases_tokens f.head ++ l) (append_assoc (entries_tokens f.entries) (Word (codes "desc") ∷ [])
    (Quoted f.description ∷ texts_tokens f.texts))))
    (both_reach start front.state (phrases_tokens f.head ++ (entries_tokens f.entries ++ Word (codes "desc") ∷ []))
    (Quoted f.description ∷ texts_tokens f.texts) Texts f front.is
    (one_reaches front.state described (Quoted f.description) (texts_tokens f.texts) Texts f
    (ap (λ p. step_at p front.state (Quoted f.description)) front.place_is)
    (other_file described (texts_tokens f.texts) Texts
    (record (record front.state.file { description = f.description }) { texts = front.state.file.texts ++ f.texts })
    f
    (ap (λ g. record (record g { description = f.description }) { texts = g.texts ++ f.texts }) front.file_is)
    (texts_reach described f.texts is.texts))))
