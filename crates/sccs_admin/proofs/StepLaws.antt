-- What admin finds of the texts of a new file.
use Rattle.std.proofs.Common.{◌≡◌, ℕ, ◌<◌, ◌≤◌, ◌⊎◌, true, false, List, [], ◌∷◌, ◌++◌, length, map, drop, Option, None}
use Rattle.std.proofs.Common.{Some, IsSome, Result, Ok, Err, inl, inr, refl, sym, ap, subst, ◌∙◌, arith}
use Rattle.std.specs.Prelude.{nat_le, is_none}
use Rattle.std.specs.Result.{IsErrAnd}
use Rattle.std.proofs.lemmas.Result.{err_from_is_err_and}
use Rattle.std.proofs.lemmas.Bool.Decides.{leb_tells}
use Rattle.std.proofs.lemmas.Bool.{le-leb}
use Rattle.sccs_base.specs.Constants.{file_limit}
use Rattle.sccs_name_files.specs.declared.whole_files.WholeFault.TheVariants as whole
use Rattle.sccs_changes.specs.Changes.{unlocked}
use Rattle.sccs_sid.specs.Reading.{◌>>=◌}
use Rattle.sccs_sid.specs.declared.refusals.Refusal.{Refusal}
use Rattle.sccs_sid.specs.declared.refusals.Refusal.TheVariants.{Exists}
use Rattle.sccs_sid.specs.declared.refusals.Refusal.TheVariants as refusals
use Rattle.sccs_sid.specs.declared.refusals.StepFault.{StepFault}
use Rattle.sccs_sid.specs.declared.refusals.StepFault.TheVariants.{Refused, Memory, ReadFault, WriteFault, DiskFault}
use Rattle.sccs_disk.specs.Files.{Content, View}
use Rattle.sccs_steps.specs.Actions.{IsHeard}
use Rattle.sccs_steps.specs.StepEffects.{check}
use Rattle.sccs_words.specs.declared.commands.AdminWords.{AdminWords}
use Rattle.sccs_words.specs.declared.commands.Given.{Given}
use Rattle.sccs_words.specs.declared.commands.Given.TheVariants.{No, Bare, From}
use Rattle.sccs_admin.specs.AdminStep.{found_texts, named_in}
use Rattle.sccs_admin.specs.Parts.{AnswersTexts, FindsNamed, FindsTexts, IsFound, IsFresh, TakesText, whole_text}
use Rattle.sccs_admin.specs.Texts.{named_by, source, takes_input}
use Rattle.sccs_admin.specs.declared.finding.Found.{Found}
use Rattle.sccs_admin.specs.declared.finding.Found.TheVariants.{Whole, TooLong}
use Rattle.sccs_admin.specs.declared.finding.NewTexts.{NewTexts}

-- ---- the text

pub within : (n m : ℕ) → n ≤ m → nat_le n m ≡ true
within n m low = le-leb n m low

pub beyond : (n m : ℕ) → m < n → nat_le n m ≡ false
beyond n m high = by (leb_tells n m)
  where
    by : ((nat_le n m ≡ true) × (n ≤ m)) ⊎ ((nat_le n m ≡ false) × (m < n)) → nat_le n m ≡ false
    by (inl low) = absurd (omega (arith, low.1, high))
    by (inr is) = is.0

-- an exit that passes a fault on
pub exit_is : {A : Type 0} (result : Result A StepFault) (fault : StepFault) → IsErrAnd result (λ e. e ≡ fault)
    → result ≡ Err fault
exit_is result fault left = let p = err_from_is_err_and result left in p.1 ∙ ap Err p.2

-- ---- the text of a file that is named

-- ---- both texts, from what was found of each

abbrev from_sources : Option Content → Result (List ℕ) Refusal → Result (List ℕ) Refusal → Result NewTexts Refusal
from_sources s first second =
    first >>= λ text. second >>= λ description. check (is_none s) Exists >>= λ fresh. check
    (nat_le (length text) file_limit) refusals.TooLong >>= λ short. check (nat_le (length description) file_limit)
    refusals.TooLong >>= λ brief.
    Ok (record { text = text; description = description })

first_of : (f : List ℕ → Option Content) (given : Given) (more : List (List ℕ)) (i : List ℕ)
    → source given i (map f (named_by given ++ more)) ≡ source given i (map f (named_by given))
first_of f No more i = refl
first_of f Bare more i = refl
first_of f (From name) more i = by (f name) (map f more)
  where
    by : (o : Option Content) (rest : List (Option Content)) → source (From name) i (o ∷ rest) ≡ source (From name) i
        (o ∷ [])
    by None rest = refl
    by (Some c) rest = refl

behind_first : (f : List ℕ → Option Content) (given : Given) (more : List (List ℕ)) → drop (length (named_by given))
    (map f (named_by given ++ more)) ≡ map f more
behind_first f No more = refl
behind_first f Bare more = refl
behind_first f (From name) more = refl

found_is : (words : AdminWords) (i : List ℕ) (f : List ℕ → Option Content) (s : Option Content)
    → found_texts words i (map f (named_in words)) s ≡ from_sources s
    (source words.text i (map f (named_by words.text))) (source words.description []
    (map f (named_by words.description)))
unfolding found_texts
found_is words i f s =
    ap (λ r. from_sources s r (source words.description [] (drop (length (named_by words.text))
    (map f (named_in words))))) (first_of f words.text (named_by words.description) i)
    ∙ ap (λ (l : List (Option Content)). from_sources s (source words.text i (map f (named_by words.text)))
    (source words.description [] l)) (behind_first f words.text (named_by words.description))

no_first : (s : Option Content) (a b : Result (List ℕ) Refusal) (refusal : Refusal) → a ≡ Err refusal
    → from_sources s a b ≡ Err refusal
no_first s a b refusal is = rw is refl

no_second : (s : Option Content) (a b : Result (List ℕ) Refusal) (text : List ℕ) (refusal : Refusal) → a ≡ Ok text
    → b ≡ Err refusal → from_sources s a b ≡ Err refusal
no_second s a b text refusal first is = rw (first, is) refl

unfresh : (s : Option Content) (a b : Result (List ℕ) Refusal) (text description : List ℕ) → a ≡ Ok text
    → b ≡ Ok description → IsSome s → from_sources s a b ≡ Err Exists
unfresh None a b text description first second there = absurd cc
unfresh (Some c) a b text description first second there = rw (first, second) refl

long_first : (s : Option Content) (a b : Result (List ℕ) Refusal) (text description : List ℕ) → a ≡ Ok text
    → b ≡ Ok description → s ≡ None → nat_le (length text) file_limit ≡ false
    → from_sources s a b ≡ Err refusals.TooLong
long_first (Some c) a b text description first second none long = absurd cc
long_first None a b text description first second none long = rw (first, second, long) refl

long_second : (s : Option Content) (a b : Result (List ℕ) Refusal) (text description : List ℕ) → a ≡ Ok text
    → b ≡ Ok description → s ≡ None → nat_le (length text) file_limit ≡ true → nat_le (length description) file_limit
    ≡ false
    → from_sources s a b ≡ Err refusals.TooLong
long_second (Some c) a b text description first second none short long = absurd cc
long_second None a b text description first second none short long = rw (first, second, short, long) refl

both_short : (s : Option Content) (a b : Result (List ℕ) Refusal) (text description : List ℕ) → a ≡ Ok text
    → b ≡ Ok description → s ≡ None → nat_le (length text) file_limit ≡ true → nat_le (length description) file_limit
    ≡ true
    → from_sources s a b ≡ Ok (record { text = text; description = description })
both_short (Some c) a b text description first second none short brief = absurd cc
both_short None a b text description first second none short brief = rw (first, second, short, brief) refl

-- ---- what was found, with the input

-- the input counts where it is asked for alone
input_apart : (given : Given) (i : List ℕ) (named : List (Option Content)) → takes_input given ≡ false
    → source given i named ≡ source given [] named
input_apart No i named apart = refl
input_apart Bare i named apart = absurd cc
input_apart (From name) i [] apart = refl
input_apart (From name) i (None ∷ named) apart = refl
input_apart (From name) i (Some c ∷ named) apart = refl

-- a text was found, be it too long
some_text : (r : Result (List ℕ) Refusal) (found : Found) → IsFound r (Ok found) → (text : List ℕ) × (r ≡ Ok text)
some_text r (Whole text) is = (text, is)
some_text r TooLong is = (is.0, is.1)

first_text : (given : Given) (i : List ℕ) (named : List (Option Content)) (found : Found)
    → IsFound (source given [] named) (Ok found) → (text : List ℕ) × (source given i named ≡ Ok text)
first_text No i named found is = ([], refl)
first_text Bare i named found is = (i, refl)
first_text (From name) i named found is = let some = some_text (source (From name) [] named) found is in
    (some.0, input_apart (From name) i named refl ∙ some.1)

first_refused : (given : Given) (i : List ℕ) (named : List (Option Content)) (refusal : Refusal)
    → source given [] named ≡ Err refusal → source given i named ≡ Err refusal
first_refused No i named refusal is = absurd cc
first_refused Bare i named refusal is = absurd cc
first_refused (From name) i named refusal is = input_apart (From name) i named refl ∙ is

told_of : (left : Option (List ℕ)) (i : List ℕ) → IsHeard true left i → left ≡ Some i
told_of left i (inl untaken) = absurd (cc)
told_of left i (inr is) = is

whole_is : (found : Found) (text : List ℕ) (r : Result (List ℕ) Refusal) → (let made : Result (List ℕ) StepFault =
    Ok text in made) ≡ whole_text found → IsFound r (Ok found) → r ≡ Ok text
whole_is (Whole other) text r is found = let same : text ≡ other = cc in found ∙ ap Ok (sym same)
whole_is TooLong text r is found = absurd cc

-- the text that was taken
taken_is : (given : Given) (i text : List ℕ) (left : Option (List ℕ)) (named : List (Option Content)) (found : Found)
    → IsHeard (takes_input given) left i → IsFound (source given [] named) (Ok found)
    → TakesText (Ok text) given found left → source given i named ≡ Ok text
taken_is Bare i text left named found heard is takes = ap Ok (sym (takes i (told_of left i heard)))
taken_is No i text left named found heard is takes = whole_is found text (source No [] named) takes is
taken_is (From name) i text left named found heard is takes = input_apart (From name) i named refl
    ∙ whole_is found text (source (From name) [] named) takes is

-- one that was found, and is too long
record IsLong (r : Result (List ℕ) Refusal) (refusal : Refusal) : Type 0 where
  text : List ℕ
  is : r ≡ Ok text
  long : nat_le (length text) file_limit ≡ false
  refused : refusal ≡ refusals.TooLong

same_refusal : (a b : Refusal) → (let made : Result (List ℕ) StepFault = Err (Refused a) in made) ≡ Err (Refused b)
    → a ≡ b
same_refusal a b is = cc

whole_long : (found : Found) (refusal : Refusal) (r : Result (List ℕ) Refusal) → (let made : Result (List ℕ) StepFault =
    Err (Refused refusal) in made) ≡ whole_text found → IsFound r (Ok found) → IsLong r refusal
whole_long (Whole other) refusal r is found = absurd cc
whole_long TooLong refusal r is found =
    record {
      text = found.0;
      is = found.1;
      long = beyond (length found.0) file_limit found.2;
      refused =
          same_refusal refusal refusals.TooLong is;
    }

taken_long : (given : Given) (i : List ℕ) (refusal : Refusal) (left : Option (List ℕ)) (named : List (Option Content))
    (found : Found) → IsHeard (takes_input given) left i → IsFound (source given [] named) (Ok found)
    → TakesText (Err (Refused refusal)) given found left
    → IsLong (source given i named) refusal
taken_long Bare i refusal left named found heard is takes =
    let long = takes i (told_of left i heard) in
    record { text = i; is = refl; long = beyond (length i) file_limit long.1; refused = long.0 }
taken_long No i refusal left named found heard is takes = whole_long found refusal (source No [] named) takes is
taken_long (From name) i refusal left named found heard is takes =
    subst (λ (r : Result (List ℕ) Refusal). IsLong r refusal) (sym (input_apart (From name) i named refl))
    (whole_long found refusal (source (From name) [] named) takes is)

-- ---- the call, exit by exit

abbrev first_at : AdminWords → List ℕ → View → Result (List ℕ) Refusal
first_at words n v = source words.text [] (map (unlocked n v) (named_by words.text))

abbrev second_at : AdminWords → List ℕ → View → Result (List ℕ) Refusal
second_at words n v = source words.description [] (map (unlocked n v) (named_by words.description))

first_refuses : (words : AdminWords) (fault : StepFault) (n i : List ℕ) (v : View) → IsFound (first_at words n v)
    (Err fault) → AnswersTexts (found_texts words i (map (unlocked n v) (named_in words)) (v n)) (Err fault)
first_refuses words (Refused refusal) n i v is = found_is words i (unlocked n v) (v n) ∙ no_first (v n) _ _ refusal
    (first_refused words.text i (map (unlocked n v) (named_by words.text)) refusal is)
first_refuses words Memory n i v is = tt
first_refuses words ReadFault n i v is = tt
first_refuses words WriteFault n i v is = tt
first_refuses words DiskFault n i v is = tt

pub first_ends : (words : AdminWords) (fault : StepFault) (n : List ℕ) (left : Option (List ℕ)) (o : Option View)
    → FindsNamed (Err fault) words.text n o → FindsTexts words (Err fault) n left o
first_ends words fault n left None finds = tt
first_ends words fault n left (Some v) finds = λ i heard. first_refuses words fault n i v finds

second_refuses : (words : AdminWords) (found : Found) (fault : StepFault) (n i : List ℕ) (v : View)
    → IsFound (first_at words n v) (Ok found) → IsFound (second_at words n v) (Err fault)
    → AnswersTexts (found_texts words i (map (unlocked n v) (named_in words)) (v n)) (Err fault)
second_refuses words found (Refused refusal) n i v first is =
    let text = first_text words.text i (map (unlocked n v) (named_by words.text)) found first in
    found_is words i (unlocked n v) (v n) ∙ no_second (v n) _ _ text.0 refusal text.1 is
second_refuses words found Memory n i v first is = tt
second_refuses words found ReadFault n i v first is = tt
second_refuses words found WriteFault n i v first is = tt
second_refuses words found DiskFault n i v first is = tt

pub second_ends : (words : AdminWords) (found : Found) (fault : StepFault) (n : List ℕ) (left : Option (List ℕ))
    (o : Option View) → FindsNamed (Ok found) words.text n o → FindsNamed (Err fault) words.description n o
    → FindsTexts words (Err fault) n left o
second_ends words found fault n left None first finds = tt
second_ends words found fault n left (Some v) first finds = λ i heard. second_refuses words found fault n i v first
    finds

unfresh_refuses : (words : AdminWords) (found other : Found) (fault : StepFault) (n i : List ℕ) (v : View)
    → IsFound (first_at words n v) (Ok found) → IsFound (second_at words n v) (Ok other)
    → IsFresh (Err fault) n (Some v)
    → AnswersTexts (found_texts words i (map (unlocked n v) (named_in words)) (v n)) (Err fault)
unfresh_refuses words found other (Refused refusal) n i v first second fresh =
    let text = first_text words.text i (map (unlocked n v) (named_by words.text)) found first in
    let description = some_text (second_at words n v) other second in
    found_is words i (unlocked n v) (v n) ∙ (unfresh (v n) _ _ text.0 description.0 text.1 description.1 fresh.1
    ∙ ap Err (sym fresh.0))
unfresh_refuses words found other Memory n i v first second fresh = tt
unfresh_refuses words found other ReadFault n i v first second fresh = tt
unfresh_refuses words found other WriteFault n i v first second fresh = tt
unfresh_refuses words found other DiskFault n i v first second fresh = tt

pub unfresh_ends : (words : AdminWords) (found other : Found) (fault : StepFault) (n : List ℕ) (left : Option (List ℕ))
    (o : Option View) → FindsNamed (Ok found) words.text n o → FindsNamed (Ok other) words.description n o
    → IsFresh (Err fault) n o → FindsTexts words (Err fault) n left o
unfresh_ends words found other fault n left None first second fresh = tt
unfresh_ends words found other fault n left (Some v) first second fresh =
    λ i heard. unfresh_refuses words found other fault n i v first second fresh

taken_refuses : (words : AdminWords) (found other : Found) (fault : StepFault) (n i : List ℕ) (left : Option (List ℕ))
    (v : View) → IsHeard (takes_input words.text) left i → IsFound (first_at words n v) (Ok found)
    → IsFound (second_at words n v) (Ok other) → v n ≡ None → TakesText (Err fault) words.text found left
    → AnswersTexts (found_texts words i (map (unlocked n v) (named_in words)) (v n)) (Err fault)
taken_refuses words found other (Refused refusal) n i left v heard first second fresh takes =
    let text = taken_long words.text i refusal left (map (unlocked n v) (named_by words.text)) found heard first
    takes in
    let description = some_text (second_at words n v) other second in
    found_is words i (unlocked n v) (v n) ∙ (long_first (v n) _ _ text.text description.0 text.is description.1 fresh
    text.long ∙ ap Err (sym text.refused))
taken_refuses words found other Memory n i left v heard first second fresh takes = tt
taken_refuses words found other ReadFault n i left v heard first second fresh takes = tt
taken_refuses words found other WriteFault n i left v heard first second fresh takes = tt
taken_refuses words found other DiskFault n i left v heard first second fresh takes = tt

pub taken_ends : (words : AdminWords) (found other : Found) (fault : StepFault) (n : List ℕ) (left : Option (List ℕ))
    (o : Option View) → FindsNamed (Ok found) words.text n o → FindsNamed (Ok other) words.description n o
    → IsFresh (Ok tt) n o → TakesText (Err fault) words.text found left
    → FindsTexts words (Err fault) n left o
taken_ends words found other fault n left None first second fresh takes = tt
taken_ends words found other fault n left (Some v) first second fresh takes =
    λ i heard. taken_refuses words found other fault n i left v heard first second fresh takes

whole_refuses : (words : AdminWords) (found other : Found) (text : List ℕ) (fault : StepFault) (n i : List ℕ)
    (left : Option (List ℕ)) (v : View) → IsHeard (takes_input words.text) left i → IsFound (first_at words n v)
    (Ok found) → IsFound (second_at words n v) (Ok other) → v n ≡ None → TakesText (Ok text) words.text found left
    → length text ≤ file_limit → (let made : Result (List ℕ) StepFault = Err fault in made) ≡ whole_text other
    → AnswersTexts (found_texts words i (map (unlocked n v) (named_in words)) (v n)) (Err fault)
whole_refuses words found other text (Refused refusal) n i left v heard first second fresh takes bound is =
    let description = whole_long other refusal (second_at words n v) is second in
    found_is words i (unlocked n v) (v n)
    ∙ (long_second (v n) _ _ text description.text (taken_is words.text i text left
    (map (unlocked n v) (named_by words.text)) found heard first takes) description.is fresh
    (within (length text) file_limit bound) description.long ∙ ap Err (sym description.refused))
whole_refuses words found other text Memory n i left v heard first second fresh takes bound is = tt
whole_refuses words found other text ReadFault n i left v heard first second fresh takes bound is = tt
whole_refuses words found other text WriteFault n i left v heard first second fresh takes bound is = tt
whole_refuses words found other text DiskFault n i left v heard first second fresh takes bound is = tt

pub whole_ends : (words : AdminWords) (found other : Found) (text : List ℕ) (fault : StepFault) (n : List ℕ)
    (left : Option (List ℕ)) (o : Option View) → FindsNamed (Ok found) words.text n o
    → FindsNamed (Ok other) words.description n o → IsFresh (Ok tt) n o → TakesText (Ok text) words.text found left
    → length text ≤ file_limit → (let made : Result (List ℕ) StepFault = Err fault in made) ≡ whole_text other
    → FindsTexts words (Err fault) n left o
whole_ends words found other text fault n left None first second fresh takes bound is = tt
whole_ends words found other text fault n left (Some v) first second fresh takes bound is =
    λ i heard. whole_refuses words found other text fault n i left v heard first second fresh takes bound is

pub texts_found : (words : AdminWords) (found other : Found) (text description n : List ℕ) (left : Option (List ℕ))
    (o : Option View) → FindsNamed (Ok found) words.text n o → FindsNamed (Ok other) words.description n o
    → IsFresh (Ok tt) n o → TakesText (Ok text) words.text found left
    → length text ≤ file_limit → length description ≤ file_limit → (let made : Result (List ℕ) StepFault =
    Ok description in made) ≡ whole_text other
    → FindsTexts words (Ok (record { text = text; description = description })) n left o
texts_found words found other text description n left None first second fresh takes bound brief is = tt
texts_found words found other text description n left (Some v) first second fresh takes bound brief is = λ i heard.
    found_is words i (unlocked n v) (v n)
    ∙ both_short (v n) _ _ text description (taken_is words.text i text left (map (unlocked n v) (named_by words.text))
    found heard first takes) (whole_is other description (second_at words n v) is second) fresh
    (within (length text) file_limit bound)
    (within (length description) file_limit brief)
