-- What get -e decides.
use Rattle.std.proofs.Common.{◌≡◌, ℕ, zero, suc, All, ◌+◌, ◌<◌, Bool, true, false, not, ◌&&◌, ◌||◌, List, [], ◌∷◌, ◌++◌}
use Rattle.std.proofs.Common.{length, take, insert, get_or, Option, None, Some, Result, Ok, Err, refl, sym, ap, ◌∙◌}
use Rattle.std.proofs.Common.{arith, append-nil, add-one}
use Rattle.std.proofs.Math.Seq.{take-suc}
use Rattle.std.proofs.lemmas.Grind.{flat_map-append}
use Rattle.std.proofs.lemmas.List.Elements.{All-append}
use Rattle.std.specs.List.{AllByRecursion, list_any}
use Rattle.std.specs.Prelude.{option_and_then}
use Rattle.sccs_sid.specs.Sid.{IsComponent, IsSid}
use Rattle.sccs_sid.specs.declared.sids.Sid.{Sid}
use Rattle.sccs_sid.specs.declared.sids.Spec.{Spec}
use Rattle.sccs_sid.specs.declared.sid_lists.Range.{Range}
use Rattle.sccs_sid.specs.declared.refusals.Refusal.TheVariants as refusals
use Rattle.sccs_flags.specs.FlagValues.{has_flag}
use Rattle.sccs_flags.specs.Logins.{is_allowed}
use Rattle.sccs_history.specs.Applied.{live_serials, serials_of}
use Rattle.sccs_history.specs.FlagText.{flag_b, flag_j}
use Rattle.sccs_history.specs.History.{IsSpelled, lives, same_sid}
use Rattle.sccs_history.specs.Numbers.{has}
use Rattle.sccs_history.specs.declared.headers.Record.{Record}
use Rattle.sccs_sets.specs.Made.{made_on, to_be_made}
use Rattle.sccs_sets.specs.Sets.{sid_at}
use Rattle.sccs_sets.proofs.Lookups.{live_there}
use Rattle.sccs_sets.proofs.NewSids.{made_is_free}
use Rattle.sccs_steps.specs.StepEffects.{check, there}
use Rattle.sccs_sid.specs.Reading.{◌>>=◌}
use Rattle.sccs_sid.specs.declared.moments.Stamp.{Stamp}
use Rattle.sccs_sid.specs.declared.refusals.Refusal.{Refusal}
use Rattle.sccs_sid.specs.declared.refusals.StepFault.{StepFault}
use Rattle.sccs_sid.specs.declared.refusals.StepFault.TheVariants.{Refused, Memory, ReadFault, WriteFault, DiskFault}
use Rattle.sccs_history.specs.declared.headers.Header.{Header}
use Rattle.sccs_pfile.specs.declared.entries.Edit.{Edit}
use Rattle.sccs_words.specs.declared.commands.GetWords.{GetWords}
use Rattle.sccs_changes.specs.PFiles.{Answers}
use Rattle.sccs_get.specs.NewEntry.{free_sid, is_got, new_edit, new_entry, release_asked, edit_releases, reserved}
use Rattle.sccs_get.specs.NewEntry.{single_ranges, singles}
use Rattle.sccs_get.specs.AskedVersion.{asked, spec_asked}
use Rattle.sccs_get.specs.declared.targets.Asked.{Asked}
use Rattle.sccs_get.proofs.EntrySids.{made_sid, sid_there}
use Rattle.sccs_base.proofs.Bools.{left_false}

-- ---- a new entry

abbrev entry_from : Stamp → List Record → Asked → Sid → Result Sid Refusal → Result Edit Refusal
entry_from stamp records a got r = r >>= λ made. Ok (new_edit stamp records a got made)

abbrev entry_on : GetWords → Stamp → Header → List Edit → Bool → Asked → Result Sid Refusal → Result Edit Refusal
entry_on words stamp header edits way a r = r >>= λ got. entry_from stamp header.records a got
    (free_sid header edits way got (to_be_made header (reserved edits) a.target (spec_asked words header) words.branch))

abbrev entry_of : GetWords → Stamp → Header → List Edit → Bool → Result Asked Refusal → Result Edit Refusal
entry_of words stamp header edits way r = r >>= λ a. entry_on words stamp header edits way a
    (there (sid_at header.records a.target) refusals.NoSid)

pub not_let_in : (words : GetWords) (stamp : Stamp) (header : Header) (edits : List Edit) (way : Bool)
    → is_allowed header.users stamp.login ≡ false → new_entry words stamp header edits way ≡ Err refusals.NotAllowed
unfolding new_entry
not_let_in words stamp header edits way is = rw is refl

let_in : (words : GetWords) (stamp : Stamp) (header : Header) (edits : List Edit) (way : Bool)
    → is_allowed header.users stamp.login ≡ true → new_entry words stamp header edits way ≡ entry_of words stamp header
    edits way (asked words header)
unfolding new_entry
let_in words stamp header edits way is = rw is refl

pub not_asked : (words : GetWords) (stamp : Stamp) (header : Header) (edits : List Edit) (way : Bool)
    (fault : StepFault) → is_allowed header.users stamp.login ≡ true → Answers {A = Asked} (asked words header)
    (Err fault) → Answers {A = Edit} (new_entry words stamp header edits way) (Err fault)
not_asked words stamp header edits way (Refused refusal) is answers = let_in words stamp header edits way is
    ∙ ap (entry_of words stamp header edits way) answers
not_asked words stamp header edits way Memory is answers = tt
not_asked words stamp header edits way DiskFault is answers = tt
not_asked words stamp header edits way ReadFault is answers = answers
not_asked words stamp header edits way WriteFault is answers = answers

free_as : (words : GetWords) (stamp : Stamp) (header : Header) (edits : List Edit) (way : Bool) (a : Asked) (got : Sid)
    (made : Option Sid) (r : Result Sid Refusal) → is_allowed header.users stamp.login ≡ true
    → asked words header ≡ Ok a → sid_at header.records a.target ≡ Some got
    → made ≡ to_be_made header (reserved edits) a.target (spec_asked words header) words.branch
    → free_sid header edits way got made ≡ r → new_entry words stamp header edits way
    ≡ entry_from stamp header.records a got r
free_as words stamp header edits way a got made r is found at making free =
    let_in words stamp header edits way is
    ∙ (ap (entry_of words stamp header edits way) found
    ∙ (ap (λ (o : Option Sid). entry_on words stamp header edits way a (there o refusals.NoSid)) at
    ∙ (ap (λ (o : Option Sid). entry_from stamp header.records a got (free_sid header edits way got o)) (sym making)
    ∙ ap (entry_from stamp header.records a got) free)))

pub not_free : (words : GetWords) (stamp : Stamp) (header : Header) (edits : List Edit) (way : Bool) (a : Asked)
    (got : Sid) (made : Option Sid) (fault : StepFault) → is_allowed header.users stamp.login ≡ true
    → asked words header ≡ Ok a → sid_at header.records a.target ≡ Some got
    → made ≡ to_be_made header (reserved edits) a.target (spec_asked words header) words.branch
    → Answers {A = Sid} (free_sid header edits way got made) (Err fault)
    → Answers {A = Edit} (new_entry words stamp header edits way) (Err fault)
not_free words stamp header edits way a got made (Refused refusal) is found at making answers =
    free_as words stamp header edits way a got made (Err refusal) is found at making answers
not_free words stamp header edits way a got made Memory is found at making answers = tt
not_free words stamp header edits way a got made DiskFault is found at making answers = tt
not_free words stamp header edits way a got made ReadFault is found at making answers = answers
not_free words stamp header edits way a got made WriteFault is found at making answers = answers

pub entry_made : (words : GetWords) (stamp : Stamp) (header : Header) (edits : List Edit) (way : Bool) (a : Asked)
    (got : Sid) (made : Option Sid) (sid : Sid) (e : Edit) → is_allowed header.users stamp.login ≡ true
    → asked words header ≡ Ok a → sid_at header.records a.target ≡ Some got
    → made ≡ to_be_made header (reserved edits) a.target (spec_asked words header) words.branch
    → free_sid header edits way got made ≡ Ok sid → e ≡ new_edit stamp header.records a got sid
    → new_entry words stamp header edits way ≡ Ok e
entry_made words stamp header edits way a got made sid e is found at making free same =
    free_as words stamp header edits way a got made (Ok sid) is found at making free ∙ ap Ok (sym same)

pub made_as : (header : Header) (sids sids2 : List Sid) (target : ℕ) (spec spec2 : Option Spec) (branch : Bool)
    (o : Option Sid) → sids2 ≡ sids → spec2 ≡ spec → to_be_made header sids2 target spec2 branch ≡ o
    → o ≡ to_be_made header sids target spec branch
made_as header sids sids2 target spec spec2 branch o first second is =
    sym is ∙ (ap (λ (s : List Sid). to_be_made header s target spec2 branch) first
    ∙ ap (λ (s : Option Spec). to_be_made header sids target s branch) second)

-- where a SID is free, it is that which is to be made
free_is : (header : Header) (edits : List Edit) (way : Bool) (got : Sid) (made : Option Sid) (sid : Sid)
    → free_sid header edits way got made ≡ Ok sid → made ≡ Some sid
unfolding free_sid
free_is header edits way got made sid is = by (edit_releases header got made) (has_flag header.flags flag_j || not
    (is_got edits got)) (not way) made is
  where
    by : (r : Result Bool Refusal) (b c : Bool) (m : Option Sid) → (r >>= λ free. check b refusals.BeingEdited
        >>= λ joint. check c refusals.GExists >>= λ place. there m refusals.Full) ≡ Ok sid → m ≡ Some sid
    by (Ok x) true true (Some s) e = let same : s ≡ sid = cc in ap Some same
    by (Ok x) true true None e = absurd cc
    by (Ok x) true false m e = absurd cc
    by (Ok x) false c m e = absurd cc
    by (Err refusal) b c m e = absurd cc

-- the SID to be made is a SID
pub free_valid : (words : GetWords) (header : Header) (edits : List Edit) (way : Bool) (target : ℕ) (got : Sid)
    (made : Option Sid) (sid : Sid) → IsSpelled header → IsComponent (release_asked (spec_asked words header))
    → sid_at header.records target ≡ Some got
    → made ≡ to_be_made header (reserved edits) target (spec_asked words header) words.branch
    → free_sid header edits way got made ≡ Ok sid → IsSid sid
free_valid words header edits way target got made sid spelled release at making free =
    made_sid header (reserved edits) target (spec_asked words header) words.branch got sid at
    (sid_there header.records target got spelled.records at) release (sym making
    ∙ free_is header edits way got made sid free)

unlive_at : (header : Header) (sids : List Sid) (spec : Option Spec) (branch : Bool) (o : Option Sid) (sid : Sid)
    → option_and_then (λ on. made_on header.records sids on spec (branch && has_flag header.flags flag_b)) o ≡ Some sid
    → lives header.records sid ≡ false
unlive_at header sids spec branch None sid is = absurd cc
unlive_at header sids spec branch (Some on) sid is = left_false (lives header.records sid)
    (list_any (λ s. same_sid s sid) sids) (made_is_free header.records sids on sid spec
    (branch && has_flag header.flags flag_b) is)

-- the SID to be made isn't live
pub free_unlive : (words : GetWords) (header : Header) (edits : List Edit) (way : Bool) (target : ℕ) (got : Sid)
    (made : Option Sid) (sid : Sid) (e : Edit) (stamp : Stamp) (a : Asked) → made ≡ to_be_made header
    (reserved edits) target (spec_asked words header) words.branch → free_sid header edits way got made ≡ Ok sid
    → e ≡ new_edit stamp header.records a got sid → lives header.records e.made ≡ false
free_unlive words header edits way target got made sid e stamp a making free same =
    ap (λ (x : Edit). lives header.records x.made) same ∙ unlive_at header (reserved edits) (spec_asked words header)
    words.branch (sid_at header.records target) sid (sym making ∙ free_is header edits way got made sid free)

-- ---- a live serial of a list

pub live_at : (records : List Record) (serials : List ℕ) (i d : ℕ) → AllByRecursion (λ n. has (live_serials records) n
    ≡ true) serials → i < length serials → has (serials_of records) (get_or serials i d) ≡ true
live_at records [] i d all low = absurd (omega (arith, low))
live_at records (n ∷ serials) zero d all low = live_there records n all.0
live_at records (n ∷ serials) (suc i) d all low = live_at records serials i d all.1 (omega (arith, low))

pub single_added : (records : List Record) (serials : List ℕ) (list list2 : List Range) (i d : ℕ) (sid : Sid)
    → i < length serials → list ≡ singles records (take i serials) → sid_at records (get_or serials i d) ≡ Some sid
    → list2 ≡ insert list (length list) (record { first = sid; last = sid }) → list2 ≡ singles records
    (take (i + 1) serials)
single_added records serials list list2 i d sid low is at put =
    put
    ∙ (at_end list (record { first = sid; last = sid })
    ∙ (ap (λ (l : List Range). l ++ record { first = sid; last = sid } ∷ []) is
    ∙ (ap (λ (o : Option Sid). singles records (take i serials) ++ single_ranges o) (sym at)
    ∙ sym (ap (λ k. singles records (take k serials)) (add-one i) ∙ (ap (singles records) (take-suc serials i d low)
    ∙ (flat_map-append (λ n. single_ranges (sid_at records n)) (take i serials) (get_or serials i d ∷ [])
    ∙ ap (λ (l : List Range). singles records (take i serials) ++ l)
    (append-nil (single_ranges (sid_at records (get_or serials i d))))))))))
  where
    at_end : {X : Type 0} (xs : List X) (x : X) → insert xs (length xs) x ≡ xs ++ x ∷ []
    at_end [] x = refl
    at_end (y ∷ xs) x = ap (λ zs. y ∷ zs) (at_end xs x)

-- ---- one entry more

one_all : {X : Type 0} (P : X → Type 0) (x : X) → P x → All P (x ∷ [])
one_all P x is zero d low = is
one_all P x is (suc k) d low = absurd (omega (arith, low))

pub all_and : {X : Type 0} (P : X → Type 0) (xs : List X) (x : X) → All P xs → P x → All P (xs ++ x ∷ [])
all_and P xs x all is = All-append P xs (x ∷ []) all (one_all P x is)

pub each_and : {X : Type 0} (P : X → Type 0) (xs : List X) (x : X) → AllByRecursion P xs → P x
    → AllByRecursion P (xs ++ x ∷ [])
each_and P [] x all is = (is, tt)
each_and P (y ∷ xs) x all is = (all.0, each_and P xs x all.1 is)
