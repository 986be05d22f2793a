-- The set of deltas that a get asks for, part by part.
use Rattle.std.proofs.Common.{◌≡◌, ℕ, ℤ, List, Option, None, Some, Result, Ok, Err, refl, sym, ap, subst, ◌∙◌}
use Rattle.std.specs.Prelude.{option_map}
use Rattle.sccs_sid.specs.Reading.{◌>>=◌}
use Rattle.sccs_sid.specs.declared.sids.Sid.{Sid}
use Rattle.sccs_sid.specs.declared.refusals.Refusal.{Refusal}
use Rattle.sccs_sid.specs.declared.refusals.Refusal.TheVariants as refusals
use Rattle.sccs_sid.specs.declared.refusals.StepFault.{StepFault}
use Rattle.sccs_history.specs.Applied.{applied}
use Rattle.sccs_history.specs.declared.headers.Record.{Record}
use Rattle.sccs_history.specs.declared.headers.Header.{Header}
use Rattle.sccs_sets.specs.Retrieved.{retrieved}
use Rattle.sccs_sets.specs.Naming.{AnswersSerials as AnswersList}
use Rattle.sccs_sets.specs.SetRefusals.{or_bad_list, set_fault}
use Rattle.sccs_sets.specs.Sets.{Explains, both_listed}
use Rattle.sccs_sets.specs.declared.faults.SetFault.{SetFault}
use Rattle.sccs_sets.specs.declared.faults.SetFault.TheVariants.{BadList, Memory}
use Rattle.sccs_words.specs.declared.commands.GetWords.{GetWords}
use Rattle.sccs_steps.specs.StepEffects.{there}
use Rattle.sccs_changes.specs.PFiles.{Answers}
use Rattle.sccs_get.specs.AskedVersion.{apart, asked, listed_serials, spec_asked}
use Rattle.sccs_get.specs.declared.targets.Asked.{Asked}

abbrev pub asked_at : ℕ → List ℕ → List ℕ → List ℕ → Asked
asked_at n include exclude set = record { target = n; include = include; exclude = exclude; set = set }

-- what is asked for, for parts that are given one by one
abbrev pub set_by : Option ℕ → Result (List ℕ) Sid → Result (List ℕ) Sid → Option ℤ → List Record → Result Asked Refusal
set_by found include exclude cutoff records = do
  target ← there found refusals.NoSid
  taken ← or_bad_list include
  left ← or_bad_list exclude
  checked ← apart (both_listed records taken left)
  Ok (record {
    target = target;
    include = taken;
    exclude = left;
    set =
        applied (record { target = target; include = taken; exclude = left; cutoff = cutoff }) records;
  })

pub asked_by : (words : GetWords) (header : Header) → asked words header ≡ set_by (retrieved header.records
    (spec_asked words header) words.top) (listed_serials header.records words.include)
    (listed_serials header.records words.exclude) (option_map (λ m. m.seconds) words.cutoff) header.records
unfolding asked
asked_by words header = refl

-- ---- the first part at fault

pub no_target : (words : GetWords) (header : Header) → retrieved header.records (spec_asked words header) words.top
    ≡ None → asked words header ≡ Err refusals.NoSid
no_target words header none =
    asked_by words header ∙ ap (λ (found : Option ℕ). set_by found (listed_serials header.records words.include)
    (listed_serials header.records words.exclude) (option_map (λ m. m.seconds) words.cutoff) header.records) none

found_target : (words : GetWords) (header : Header) (n : ℕ) → retrieved header.records (spec_asked words header)
    words.top ≡ Some n
    → asked words header ≡ set_by (Some n) (listed_serials header.records words.include)
    (listed_serials header.records words.exclude) (option_map (λ m. m.seconds) words.cutoff) header.records
found_target words header n found =
    asked_by words header ∙ ap (λ (found : Option ℕ). set_by found (listed_serials header.records words.include)
    (listed_serials header.records words.exclude) (option_map (λ m. m.seconds) words.cutoff) header.records) found

pub include_ends : (words : GetWords) (header : Header) (n : ℕ) (fault : SetFault) (ended : StepFault)
    → retrieved header.records (spec_asked words header) words.top ≡ Some n
    → AnswersList (listed_serials header.records words.include) (Err fault) → ended ≡ set_fault fault
    → Answers {A = Asked} (asked words header) (Err ended)
include_ends words header n (BadList sid) ended found said is =
    subst (λ e. Answers {A = Asked} (asked words header) (Err e)) (sym is)
    (found_target words header n found ∙ ap (λ (list : Result (List ℕ) Sid). set_by (Some n) list
    (listed_serials header.records words.exclude) (option_map (λ m. m.seconds) words.cutoff) header.records) said)
include_ends words header n Memory ended found said is = subst (λ e. Answers {A = Asked} (asked words header) (Err e))
    (sym is) tt

included : (words : GetWords) (header : Header) (n : ℕ) (include : List ℕ) → retrieved header.records
    (spec_asked words header) words.top ≡ Some n → listed_serials header.records words.include ≡ Ok include
    → asked words header ≡ set_by (Some n) (Ok include) (listed_serials header.records words.exclude)
    (option_map (λ m. m.seconds) words.cutoff) header.records
included words header n include found is =
    found_target words header n found ∙ ap (λ (list : Result (List ℕ) Sid). set_by (Some n) list
    (listed_serials header.records words.exclude) (option_map (λ m. m.seconds) words.cutoff) header.records) is

pub exclude_ends : (words : GetWords) (header : Header) (n : ℕ) (include : List ℕ) (fault : SetFault)
    (ended : StepFault) → retrieved header.records (spec_asked words header) words.top ≡ Some n
    → listed_serials header.records words.include ≡ Ok include
    → AnswersList (listed_serials header.records words.exclude) (Err fault) → ended ≡ set_fault fault
    → Answers {A = Asked} (asked words header) (Err ended)
exclude_ends words header n include (BadList sid) ended found taken said is =
    subst (λ e. Answers {A = Asked} (asked words header) (Err e)) (sym is)
    (included words header n include found taken ∙ ap (λ (list : Result (List ℕ) Sid). set_by (Some n) (Ok include) list
    (option_map (λ m. m.seconds) words.cutoff) header.records) said)
exclude_ends words header n include Memory ended found taken said is =
    subst (λ e. Answers {A = Asked} (asked words header) (Err e)) (sym is) tt

excluded : (words : GetWords) (header : Header) (n : ℕ) (include exclude : List ℕ) → retrieved header.records
    (spec_asked words header) words.top ≡ Some n → listed_serials header.records words.include ≡ Ok include
    → listed_serials header.records words.exclude ≡ Ok exclude
    → asked words header ≡ set_by (Some n) (Ok include) (Ok exclude) (option_map (λ m. m.seconds) words.cutoff)
    header.records
excluded words header n include exclude found taken left =
    included words header n include found taken ∙ ap (λ (list : Result (List ℕ) Sid). set_by (Some n) (Ok include) list
    (option_map (λ m. m.seconds) words.cutoff) header.records) left

-- the set when the two lists were judged
abbrev set_apart : ℕ → List ℕ → List ℕ → Option ℤ → List Record → Option Sid → Result Asked Refusal
set_apart n include exclude cutoff records shared = do
  checked ← apart shared
  Ok (asked_at n include exclude (applied (record { target = n; include = include; exclude = exclude; cutoff = cutoff })
      records))

pub shared_ends : (words : GetWords) (header : Header) (n : ℕ) (include exclude : List ℕ) (fault : SetFault)
    (ended : StepFault) → retrieved header.records (spec_asked words header) words.top ≡ Some n
    → listed_serials header.records words.include ≡ Ok include → listed_serials header.records words.exclude
    ≡ Ok exclude
    → Explains (both_listed header.records include exclude) fault → ended ≡ set_fault fault
    → Answers {A = Asked} (asked words header) (Err ended)
shared_ends words header n include exclude (BadList sid) ended found taken left shared is =
    subst (λ e. Answers {A = Asked} (asked words header) (Err e)) (sym is)
    (excluded words header n include exclude found taken left
    ∙ ap (set_apart n include exclude (option_map (λ m. m.seconds) words.cutoff) header.records) shared)
shared_ends words header n include exclude Memory ended found taken left shared is =
    subst (λ e. Answers {A = Asked} (asked words header) (Err e)) (sym is) tt

pub set_made : (words : GetWords) (header : Header) (n : ℕ) (include exclude set : List ℕ) → retrieved header.records
    (spec_asked words header) words.top ≡ Some n → listed_serials header.records words.include ≡ Ok include
    → listed_serials header.records words.exclude ≡ Ok exclude
    → both_listed header.records include exclude ≡ None
    → set ≡ applied (record {
      target = n;
      include = include;
      exclude = exclude;
      cutoff =
          option_map (λ m. m.seconds) words.cutoff;
    }) header.records → asked words header ≡ Ok
    (asked_at n include exclude set)
set_made words header n include exclude set found taken left none is =
    excluded words header n include exclude found taken left
    ∙ (ap (set_apart n include exclude (option_map (λ m. m.seconds) words.cutoff) header.records) none
    ∙ ap (λ (set : List ℕ). Ok (asked_at n include exclude set)) (sym is))
