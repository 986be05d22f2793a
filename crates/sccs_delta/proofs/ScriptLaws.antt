-- The checks of a script and what is written behind them, part by part.
use Rattle.std.proofs.Common.{◌≡◌, ℕ, Bool, true, false, List, [], length, drop, Option, None, Some, Result, Ok, Err}
use Rattle.std.proofs.Common.{refl, sym, subst, ◌∙◌}
use Rattle.std.specs.Prelude.{IfOk, IfSome}
use Rattle.std.specs.List.{list_any}
use Rattle.sccs_disk.specs.Files.{Content, View}
use Rattle.sccs_disk.specs.Told.{Told}
use Rattle.sccs_sid.specs.Reading.{◌>>=◌}
use Rattle.sccs_sid.specs.declared.moments.Stamp.{Stamp}
use Rattle.sccs_sid.specs.declared.sids.Sid.{Sid}
use Rattle.sccs_sid.specs.declared.refusals.Refusal.{Refusal}
use Rattle.sccs_sid.specs.declared.refusals.StepFault.{StepFault}
use Rattle.sccs_sid.specs.declared.refusals.StepFault.TheVariants.{Refused, Memory, ReadFault, WriteFault, DiskFault}
use Rattle.sccs_script_laws.specs.Scripts.{apply}
use Rattle.sccs_script_laws.specs.declared.scripts.Order.{Order}
use Rattle.sccs_history.specs.declared.headers.Flag.{Flag}
use Rattle.sccs_history.specs.declared.headers.Header.{Header}
use Rattle.sccs_history.specs.declared.headers.Item.{Item}
use Rattle.sccs_pfile.specs.declared.entries.Edit.{Edit}
use Rattle.sccs_steps.specs.Actions.{RefusesWithin}
use Rattle.sccs_changes.specs.Changes.{CouldPrepare}
use Rattle.sccs_changes.specs.declared.prepared.Prepared.{Prepared}
use Rattle.sccs_table.specs.declared.fronts.Front.{Front}
use Rattle.sccs_versions.specs.Coming.{IsBody}
use Rattle.sccs_changes.specs.PFiles.{Answers, PassesCheck, is_short}
use Rattle.sccs_words.specs.declared.commands.DeltaWords.{DeltaWords}
use Rattle.sccs_delta.specs.DeltaStep.{ChosenEntry, base_lines, could_make, delta_checks, fitted, mrs_checked, nulls_of}
use Rattle.sccs_changes.specs.Reports.{warning}
use Rattle.sccs_copies.specs.Examining.{has_keyword}
use Rattle.sccs_delta.specs.Preparing.{FitsScript, FitsBy, script_fits}
use Rattle.sccs_delta.specs.Writing.{MakesDelta, script_checked}
use Rattle.sccs_copies.specs.declared.examining.Found.{Found}
use Rattle.sccs_changes.proofs.Chains.{answers_as, assoc, ends, goes}
use Rattle.sccs_changes.proofs.Preparing.{passes_answers}

-- ---- over any disk

could_say : (n : List ℕ) (keyword : Bool) (p : Prepared) → p.message ≡ warning n keyword → CouldPrepare could_make
    (Ok p)
could_say n true p is = (record { new = None; text = []; out = []; err = []; status = 0 }, refl, refl, sym is)
could_say n false p is = (
  record { new = None; text = []; out = []; err = warning n false; status = 0 },
  refl,
  refl,
  sym is,
)

could_end : (fault : StepFault) → RefusesWithin {X = Prepared} delta_checks (Err fault) → CouldPrepare could_make
    (Err fault)
could_end (Refused refusal) within = within refusal refl
could_end Memory within = tt
could_end ReadFault within = tt
could_end WriteFault within = tt
could_end DiskFault within = tt

pub made_speaks : (n : List ℕ) (keyword : Bool) (message : List ℕ) (r : Result Prepared StepFault)
    → message ≡ warning n keyword → IfOk r (λ p. p.message ≡ message) → RefusesWithin delta_checks r
    → CouldPrepare could_make r
made_speaks n keyword message (Ok p) is says within = could_say n keyword p (says ∙ is)
made_speaks n keyword message (Err fault) is says within = could_end fault within

-- ---- a told body

pub told_body : (told : Option (List ℕ)) (bytes : List ℕ) (front : Front) (set : List ℕ) (items : List Item)
    → told ≡ Some bytes → IsBody (Some bytes) front set bytes items → IsBody told front set bytes items
told_body told bytes front set items is body = subst (λ t. IsBody t front set bytes items) (sym is) body

fits_answers : (checks : Result Bool Refusal) (orders : List Order) (base : List (List ℕ)) (fault : StepFault)
    → FitsBy checks orders base (Err fault) → Answers {A = Bool} checks (Err fault)
fits_answers checks orders base (Refused refusal) fits = fits
fits_answers checks orders base Memory fits = tt
fits_answers checks orders base ReadFault fits = fits
fits_answers checks orders base WriteFault fits = fits
fits_answers checks orders base DiskFault fits = tt

answers_fits : (checks : Result Bool Refusal) (orders : List Order) (base : List (List ℕ)) (fault : StepFault)
    → Answers {A = Bool} checks (Err fault) → FitsBy checks orders base (Err fault)
answers_fits checks orders base (Refused refusal) answers = answers
answers_fits checks orders base Memory answers = tt
answers_fits checks orders base ReadFault answers = answers
answers_fits checks orders base WriteFault answers = answers
answers_fits checks orders base DiskFault answers = tt

-- ---- the checks of a script

pub unfit : (o : Option View) (n : List ℕ) (flags : List Flag) (mrs : List (List ℕ)) (orders : List Order)
    (base : List (List ℕ)) (fault : StepFault) → IfSome o (λ (v : View). is_short (v (drop 2 n)) ≡ true
    → FitsScript flags orders base (v (drop 2 n)) (Err fault))
    → IfSome o (λ (v : View). is_short (v (drop 2 n)) ≡ true → FitsBy (script_fits flags mrs orders base (v (drop 2 n)))
    orders base (Err fault))
unfit None n flags mrs orders base fault fits = tt
unfit (Some v) n flags mrs orders base fault fits = λ short.
    answers_fits (script_fits flags mrs orders base (v (drop 2 n))) orders base fault
    (ends (fitted flags orders base (v (drop 2 n))) (λ x. mrs_checked flags mrs) fault
    (fits_answers (fitted flags orders base (v (drop 2 n))) orders base fault (fits short)))

pub mrs_unfit : (o : Option View) (n : List ℕ) (flags : List Flag) (mrs : List (List ℕ)) (orders : List Order)
    (base : List (List ℕ)) (found : Found) (fault : StepFault) → PassesCheck (mrs_checked flags mrs) (Err fault)
    → IfSome o (λ (v : View). is_short (v (drop 2 n)) ≡ true → FitsScript flags orders base (v (drop 2 n)) (Ok found))
    → IfSome o (λ (v : View). is_short (v (drop 2 n)) ≡ true → FitsBy (script_fits flags mrs orders base (v (drop 2 n)))
    orders base (Err fault))
mrs_unfit None n flags mrs orders base found fault passes fits = tt
mrs_unfit (Some v) n flags mrs orders base found fault passes fits = λ short.
    answers_fits (script_fits flags mrs orders base (v (drop 2 n))) orders base fault
    (answers_as _ _ fault (goes (fitted flags orders base (v (drop 2 n))) (λ x. mrs_checked flags mrs) true
    (fits short).0) (passes_answers (mrs_checked flags mrs) fault passes))

pub mrs_fit : (o : Option View) (n : List ℕ) (flags : List Flag) (mrs : List (List ℕ)) (orders : List Order)
    (base : List (List ℕ)) (found : Found) → PassesCheck (mrs_checked flags mrs) (Ok tt)
    → IfSome o (λ (v : View). is_short (v (drop 2 n)) ≡ true → FitsScript flags orders base (v (drop 2 n)) (Ok found))
    → IfSome o (λ (v : View). is_short (v (drop 2 n)) ≡ true → FitsBy (script_fits flags mrs orders base (v (drop 2 n)))
    orders base (Ok found))
mrs_fit None n flags mrs orders base found passes fits = tt
mrs_fit (Some v) n flags mrs orders base found passes fits = λ short. (
  goes (fitted flags orders base (v (drop 2 n)))
      (λ x. mrs_checked flags mrs) true (fits short).0 ∙ passes,
  (fits short).1,
)

-- ---- what is written behind them

makes_end : (checks : Result (List Sid) Refusal) (words : DeltaWords) (stamp : Stamp) (n : List ℕ) (header : Header)
    (items : List Item) (edits : List Edit) (e : ChosenEntry) (orders : List Order) (keyword : Bool) (a b : Told)
    (fault : StepFault) → Answers {A = List Sid} checks (Err fault)
    → MakesDelta checks words stamp n header items edits e orders keyword a b (Err fault)
makes_end checks words stamp n header items edits e orders keyword a b (Refused refusal) answers = answers
makes_end checks words stamp n header items edits e orders keyword a b Memory answers = tt
makes_end checks words stamp n header items edits e orders keyword a b ReadFault answers = answers
makes_end checks words stamp n header items edits e orders keyword a b WriteFault answers = answers
makes_end checks words stamp n header items edits e orders keyword a b DiskFault answers = tt

checks_are : (words : DeltaWords) (header : Header) (items : List Item) (edits : List Edit) (e : ChosenEntry)
    (orders : List Order) (g : Option Content)
    → script_checked words header items edits e orders g ≡ (fitted header.flags orders (base_lines items e.base) g
    >>= λ x. mrs_checked header.flags words.mrs >>= λ y. nulls_of header edits e.edit)
unfolding script_checked
checks_are words header items edits e orders g = refl

checks_fit : (words : DeltaWords) (header : Header) (items : List Item) (edits : List Edit) (e : ChosenEntry)
    (orders : List Order) (g : Option Content)
    → script_checked words header items edits e orders g ≡ (script_fits header.flags words.mrs orders
    (base_lines items e.base) g >>= λ y. nulls_of header edits e.edit)
checks_fit words header items edits e orders g =
    checks_are words header items edits e orders g ∙ assoc (fitted header.flags orders (base_lines items e.base) g)
    (λ x. mrs_checked header.flags words.mrs) (λ y. nulls_of header edits e.edit)

pub unfit_makes : (o : Option View) (words : DeltaWords) (stamp : Stamp) (n : List ℕ) (header : Header)
    (items : List Item) (edits : List Edit) (e : ChosenEntry) (orders : List Order) (a b : Told) (fault : StepFault)
    → IfSome o (λ (v : View). is_short (v (drop 2 n)) ≡ true → FitsBy (script_fits header.flags words.mrs orders
    (base_lines items e.base) (v (drop 2 n))) orders (base_lines items e.base) (Err fault))
    → IfSome o (λ (v : View). is_short (v (drop 2 n)) ≡ true
    → MakesDelta (script_checked words header items edits e orders (v (drop 2 n))) words stamp n header items edits
    e orders (list_any has_keyword (apply orders (base_lines items e.base))) a b (Err fault))
unfit_makes None words stamp n header items edits e orders a b fault fits = tt
unfit_makes (Some v) words stamp n header items edits e orders a b fault fits = λ short.
    makes_end (script_checked words header items edits e orders (v (drop 2 n))) words stamp n header items edits e
    orders (list_any has_keyword (apply orders (base_lines items e.base))) a b fault
    (answers_as _ _ fault (checks_fit words header items edits e orders (v (drop 2 n)))
    (ends (script_fits header.flags words.mrs orders (base_lines items e.base) (v (drop 2 n)))
    (λ y. nulls_of header edits e.edit) fault (fits_answers (script_fits header.flags words.mrs orders
    (base_lines items e.base) (v (drop 2 n))) orders (base_lines items e.base) fault (fits short))))

makes_as : (checks checks2 : Result (List Sid) Refusal) (words : DeltaWords) (stamp : Stamp) (n : List ℕ)
    (header : Header) (items : List Item) (edits : List Edit) (e : ChosenEntry) (orders : List Order)
    (keyword keyword2 : Bool) (a a2 b : Told) (r : Result Prepared StepFault)
    → checks2 ≡ checks → keyword2 ≡ keyword → a2 ≡ a → MakesDelta checks words stamp n header items edits e orders
    keyword a b r → MakesDelta checks2 words stamp n header items edits e orders keyword2 a2 b r
makes_as checks checks2 words stamp n header items edits e orders keyword keyword2 a a2 b r same same_keyword same_told
    makes =
    subst (λ t. MakesDelta checks2 words stamp n header items edits e orders keyword2 t b r) (sym same_told)
    (subst (λ k. MakesDelta checks2 words stamp n header items edits e orders k a b r) (sym same_keyword)
    (subst (λ (c : Result (List Sid) Refusal). MakesDelta c words stamp n header items edits e orders keyword a b r)
    (sym same) makes))

pub script_made : (o : Option View) (words : DeltaWords) (stamp : Stamp) (n : List ℕ) (header : Header)
    (items : List Item) (edits : List Edit) (e : ChosenEntry) (orders : List Order) (found : Found) (a a2 b : Told)
    (r : Result Prepared StepFault)
    → IfSome o (λ (v : View). is_short (v (drop 2 n)) ≡ true → FitsBy (script_fits header.flags words.mrs orders
    (base_lines items e.base) (v (drop 2 n))) orders (base_lines items e.base) (Ok found)) → a2 ≡ a
    → (found.lines ≡ length (base_lines items e.base) → MakesDelta (nulls_of header edits e.edit) words stamp n header
    items edits e orders found.keyword a2 b r)
    → IfSome o (λ (v : View). is_short (v (drop 2 n)) ≡ true
    → MakesDelta (script_checked words header items edits e orders (v (drop 2 n))) words stamp n header items edits
    e orders (list_any has_keyword (apply orders (base_lines items e.base))) a b r)
script_made None words stamp n header items edits e orders found a a2 b r fits same makes = tt
script_made (Some v) words stamp n header items edits e orders found a a2 b r fits same makes = λ short.
    makes_as (nulls_of header edits e.edit) (script_checked words header items edits e orders (v (drop 2 n))) words
    stamp n header items edits e orders found.keyword _ a2 a b r
    (checks_fit words header items edits e orders (v (drop 2 n)) ∙ goes (script_fits header.flags words.mrs orders
    (base_lines items e.base) (v (drop 2 n))) (λ y. nulls_of header edits e.edit) true (fits short).0)
    (sym (fits short).1.keyword) (sym same) (makes (fits short).1.lines)
