-- The version that get's words ask for: POSIX, Shell and Utilities, get.
use Rattle.std.specs.Prelude.{ℕ, Bool, true, List, [], ◌∷◌, Option, None, Some, option_map, Result, Ok, Err}
use Rattle.sccs_sid.specs.Reading.{◌>>=◌}
use Rattle.sccs_sid.specs.Refusal.{number_of, bad_list_number}
use Rattle.sccs_sid.specs.declared.sids.Sid.{Sid}
use Rattle.sccs_sid.specs.declared.sids.Spec.{Spec}
use Rattle.sccs_sid.specs.declared.sid_lists.Range.{Range}
use Rattle.sccs_sid.specs.declared.refusals.Refusal.{Refusal}
use Rattle.sccs_sid.specs.declared.refusals.Refusal.TheVariants as refusals
use Rattle.sccs_history.specs.Applied.{applied}
use Rattle.sccs_history.specs.declared.headers.Record.{Record}
use Rattle.sccs_history.specs.declared.headers.Header.{Header}
use Rattle.sccs_sets.specs.Retrieved.{retrieved}
use Rattle.sccs_sets.specs.Naming.{named_serials}
use Rattle.sccs_sets.specs.Flags.{default_of}
use Rattle.sccs_sets.specs.SetRefusals.{or_bad_list}
use Rattle.sccs_sets.specs.Sets.{both_listed}
use Rattle.sccs_words.specs.declared.commands.GetWords.{GetWords}
use Rattle.sccs_steps.specs.StepEffects.{there}
use Rattle.sccs_get.specs.declared.targets.Asked.{Asked}

-- the SID that is asked for: the one given, or that of the flag d
abbrev pub spec_asked : GetWords → Header → Option Spec
spec_asked words header = elim words.spec as (λ _. Option Spec) [
  | None ↦ default_of header.flags
  | Some spec ↦ Some spec
]

-- the serials of a list; none where no list is given
abbrev pub listed_serials : List Record → Option (List Range) → Result (List ℕ) Sid
listed_serials records None = Ok []
listed_serials records (Some list) = named_serials records [] list

-- the numbers of these checks
abbrev pub asked_checks : List ℕ
asked_checks =
    number_of refusals.NoSid ∷ bad_list_number ∷ []

-- no SID may be both taken in and left out
abbrev pub apart : Option Sid → Result Bool Refusal
apart None = Ok true
apart (Some sid) = Err (refusals.BadList sid)

-- the delta that is asked for, the serials of the lists, and the set of deltas; the checks come in this order
unfoldable pub asked : GetWords → Header → Result Asked Refusal
asked words header = do
  target ← there (retrieved header.records (spec_asked words header) words.top) refusals.NoSid
  include ← or_bad_list (listed_serials header.records words.include)
  exclude ← or_bad_list (listed_serials header.records words.exclude)
  checked ← apart (both_listed header.records include exclude)
  Ok (record {
    target = target;
    include = include;
    exclude = exclude;
    set = applied (record {
      target = target;
      include = include;
      exclude = exclude;
      cutoff =
          option_map (λ m. m.seconds) words.cutoff;
    }) header.records;
  })
