-- The base of an entry, part by part.
use Rattle.std.proofs.Common.{◌≡◌, ℕ, Bool, List, [], Option, None, Some, Result, Ok, Err, refl, sym, ap, ◌∙◌}
use Rattle.std.specs.Prelude.{is_none}
use Rattle.sccs_sid.specs.Reading.{◌>>=◌}
use Rattle.sccs_sid.specs.declared.sids.Sid.{Sid}
use Rattle.sccs_sid.specs.declared.refusals.Refusal.{Refusal}
use Rattle.sccs_sid.specs.declared.refusals.Refusal.TheVariants as refusals
use Rattle.sccs_history.specs.Applied.{applied}
use Rattle.sccs_history.specs.declared.headers.Record.{Record}
use Rattle.sccs_sets.specs.Naming.{AnswersSerials as AnswersList, named_serials}
use Rattle.sccs_sets.specs.Retrieved.{serial_of}
use Rattle.sccs_sets.specs.Sets.{Explains, both_listed}
use Rattle.sccs_sets.specs.declared.faults.SetFault.{SetFault}
use Rattle.sccs_sets.specs.declared.faults.SetFault.TheVariants.{BadList, Memory}
use Rattle.sccs_changes.specs.PFiles.{Answers}
use Rattle.sccs_pfile.specs.declared.entries.Edit.{Edit}
use Rattle.sccs_steps.specs.StepEffects.{check, there}
use Rattle.sccs_delta.specs.DeltaStep.{entry_base, or_disagrees}
use Rattle.sccs_delta.specs.Preparing.{list_fault}
use Rattle.sccs_delta.specs.declared.entries.Base.{Base}

abbrev pub base_with : List Record → ℕ → List ℕ → List ℕ → Base
base_with records got include exclude =
    record {
      got = got;
      include = include;
      exclude = exclude;
      set =
          applied (record { target = got; include = include; exclude = exclude; cutoff = None }) records;
    }

-- the base, for parts that are given one by one
abbrev apart_by : ℕ → List Record → ℕ → List ℕ → List ℕ → Bool → Result Base Refusal
apart_by number records got include exclude apart = check apart (refusals.Disagree number)
    >>= λ x. Ok (base_with records got include exclude)

abbrev base_by : ℕ → List Record → Option ℕ → Result (List ℕ) Sid → Result (List ℕ) Sid → Result Base Refusal
base_by number records found first second =
    there found (refusals.Disagree number) >>= λ got.
    or_disagrees number first >>= λ include.
    or_disagrees number second >>= λ exclude.
    apart_by number records got include exclude (is_none (both_listed records include exclude))

base_is : (records : List Record) (number : ℕ) (edit : Edit) → entry_base records number edit ≡ base_by number records
    (serial_of records edit.got) (named_serials records [] edit.include) (named_serials records [] edit.exclude)
unfolding entry_base
base_is records number edit = refl

pub no_got : (records : List Record) (number : ℕ) (edit : Edit) → serial_of records edit.got ≡ None
    → entry_base records number edit ≡ Err (refusals.Disagree number)
no_got records number edit none =
    base_is records number edit ∙ ap (λ (found : Option ℕ). base_by number records found
    (named_serials records [] edit.include) (named_serials records [] edit.exclude)) none

got_is : (records : List Record) (number : ℕ) (edit : Edit) (got : ℕ) → serial_of records edit.got ≡ Some got
    → entry_base records number edit ≡ base_by number records (Some got) (named_serials records [] edit.include)
    (named_serials records [] edit.exclude)
got_is records number edit got found =
    base_is records number edit ∙ ap (λ (o : Option ℕ). base_by number records o (named_serials records [] edit.include)
    (named_serials records [] edit.exclude)) found

pub include_ends : (records : List Record) (number : ℕ) (edit : Edit) (got : ℕ) (fault : SetFault)
    → serial_of records edit.got ≡ Some got → AnswersList (named_serials records [] edit.include) (Err fault)
    → Answers {A = Base} (entry_base records number edit) (Err (list_fault number fault))
include_ends records number edit got (BadList sid) found said =
    got_is records number edit got found ∙ ap (λ (list : Result (List ℕ) Sid). base_by number records (Some got) list
    (named_serials records [] edit.exclude)) said
include_ends records number edit got Memory found said = tt

include_is : (records : List Record) (number : ℕ) (edit : Edit) (got : ℕ) (include : List ℕ)
    → serial_of records edit.got ≡ Some got → named_serials records [] edit.include ≡ Ok include
    → entry_base records number edit ≡ base_by number records (Some got) (Ok include)
    (named_serials records [] edit.exclude)
include_is records number edit got include found taken =
    got_is records number edit got found ∙ ap (λ (list : Result (List ℕ) Sid). base_by number records (Some got) list
    (named_serials records [] edit.exclude)) taken

pub exclude_ends : (records : List Record) (number : ℕ) (edit : Edit) (got : ℕ) (include : List ℕ) (fault : SetFault)
    → serial_of records edit.got ≡ Some got → named_serials records [] edit.include ≡ Ok include
    → AnswersList (named_serials records [] edit.exclude) (Err fault)
    → Answers {A = Base} (entry_base records number edit) (Err (list_fault number fault))
exclude_ends records number edit got include (BadList sid) found taken said =
    include_is records number edit got include found taken ∙ ap (λ (list : Result (List ℕ) Sid). base_by number records
    (Some got) (Ok include) list) said
exclude_ends records number edit got include Memory found taken said = tt

exclude_is : (records : List Record) (number : ℕ) (edit : Edit) (got : ℕ) (include exclude : List ℕ)
    → serial_of records edit.got ≡ Some got → named_serials records [] edit.include ≡ Ok include
    → named_serials records [] edit.exclude ≡ Ok exclude
    → entry_base records number edit ≡ apart_by number records got include exclude
    (is_none (both_listed records include exclude))
exclude_is records number edit got include exclude found taken left =
    include_is records number edit got include found taken ∙ ap (λ (list : Result (List ℕ) Sid). base_by number records
    (Some got) (Ok include) list) left

pub shared_ends : (records : List Record) (number : ℕ) (edit : Edit) (got : ℕ) (include exclude : List ℕ)
    (fault : SetFault) → serial_of records edit.got ≡ Some got → named_serials records [] edit.include ≡ Ok include
    → named_serials records [] edit.exclude ≡ Ok exclude
    → Explains (both_listed records include exclude) fault → Answers {A = Base} (entry_base records number edit)
    (Err (list_fault number fault))
shared_ends records number edit got include exclude (BadList sid) found taken left shared =
    exclude_is records number edit got include exclude found taken left
    ∙ ap (λ (o : Option Sid). apart_by number records got include exclude (is_none o)) shared
shared_ends records number edit got include exclude Memory found taken left shared = tt

pub base_made : (records : List Record) (number : ℕ) (edit : Edit) (got : ℕ) (include exclude set : List ℕ)
    → serial_of records edit.got ≡ Some got → named_serials records [] edit.include ≡ Ok include
    → named_serials records [] edit.exclude ≡ Ok exclude
    → both_listed records include exclude ≡ None
    → set ≡ applied (record { target = got; include = include; exclude = exclude; cutoff = None }) records
    → entry_base records number edit ≡ Ok (record { got = got; include = include; exclude = exclude; set = set })
base_made records number edit got include exclude set found taken left none is =
    exclude_is records number edit got include exclude found taken left
    ∙ (ap (λ (o : Option Sid). apart_by number records got include exclude (is_none o)) none
    ∙ ap (λ (s : List ℕ). Ok (record { got = got; include = include; exclude = exclude; set = s })) (sym is))
