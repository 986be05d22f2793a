-- Which deltas prs shows (POSIX prs, -a, -c, -e, -l and -r).
use Rattle.std.specs.Prelude.{ℕ, ◌==◌, nat_le, int_le, Bool, true, not, ◌&&◌, ◌||◌, List, Option, None, Some, is_some}
use Rattle.std.specs.Prelude.{option_map, find, Result, Ok, if◌then◌else◌}
use Rattle.sccs_sid.specs.Reading.{◌>>=◌}
use Rattle.sccs_sid.specs.declared.moments.Moment.{Moment}
use Rattle.sccs_sid.specs.declared.sids.Sid.{Sid}
use Rattle.sccs_sid.specs.declared.refusals.Refusal.{Refusal}
use Rattle.sccs_sid.specs.declared.refusals.Refusal.TheVariants as refusals
use Rattle.sccs_history.specs.History.{same_sid}
use Rattle.sccs_history.specs.declared.headers.Record.{Record}
use Rattle.sccs_steps.specs.StepEffects.{there}
use Rattle.sccs_words.specs.declared.commands.PrsWords.{PrsWords}
use Rattle.sccs_prs.specs.declared.choices.Chosen.{Chosen}
use Rattle.sccs_prs.specs.declared.choices.Chosen.TheVariants.{All, One, UpTo, From, NotLater, NotEarlier}

-- the serial of the first record that passes a test; a table is newest first
abbrev pub serial_where : (Record → Bool) → List Record → Option ℕ
serial_where test records = option_map (λ (r : Record). r.serial) (find test records)

-- that of the newest delta that lives
abbrev pub newest_live : List Record → Option ℕ
newest_live records = serial_where (λ r. not r.removed) records

-- that of a SID: of the one that lives, or of the newest
abbrev pub live_serial : List Record → Sid → Option ℕ
live_serial records sid = serial_where (λ r. not r.removed && same_sid r.sid sid) records

abbrev pub any_serial : List Record → Sid → Option ℕ
any_serial records sid = serial_where (λ r. same_sid r.sid sid) records

-- that of the delta that a SID names: the one that lives; with -a, where none lives, the newest
abbrev pub or_any : Bool → Option ℕ → Option ℕ → Option ℕ
or_any all (Some live) any = Some live
or_any all None any = if all then any else None

abbrev pub named_serial : Bool → List Record → Sid → Option ℕ
named_serial all records sid = or_any all (live_serial records sid) (any_serial records sid)

-- that of the delta that -r names, or of the newest one that lives
abbrev pub meant_by : Option Sid → Bool → List Record → Option ℕ
meant_by None all records = newest_live records
meant_by (Some sid) all records = named_serial all records sid

abbrev pub chosen_serial : PrsWords → List Record → Option ℕ
chosen_serial words records = meant_by words.sid words.all records

-- one delta is meant with -r, -e, -l and -d
abbrev pub means_one : PrsWords → Bool
means_one words = words.chosen || (words.earlier || (words.later || is_some words.spec))

-- with -e the earlier ones too, with -l the later ones
abbrev pub beside : PrsWords → ℕ → Chosen
beside words serial = if words.earlier then UpTo serial else if words.later then From serial else One serial

-- with a cutoff and -e those that were made no later, with -l no earlier
abbrev pub by_cutoff : PrsWords → Moment → Chosen
by_cutoff words moment = if words.earlier then NotLater moment else NotEarlier moment

abbrev pub by_serial : PrsWords → List Record → Result Chosen Refusal
by_serial words records = there (chosen_serial words records) refusals.NoSid >>= λ serial. Ok (beside words serial)

abbrev pub chosen_by : Option Moment → PrsWords → List Record → Result Chosen Refusal
chosen_by (Some moment) words records = Ok (by_cutoff words moment)
chosen_by None words records = if means_one words then by_serial words records else Ok All

-- which deltas are shown, but for removed ones
abbrev pub chosen_of : PrsWords → List Record → Result Chosen Refusal
chosen_of words records = chosen_by words.cutoff words records

abbrev pub is_chosen : Chosen → Record → Bool
is_chosen All r = true
is_chosen (One serial) r = r.serial == serial
is_chosen (UpTo serial) r = nat_le r.serial serial
is_chosen (From serial) r = nat_le serial r.serial
is_chosen (NotLater moment) r = int_le r.moment.seconds moment.seconds
is_chosen (NotEarlier moment) r = int_le moment.seconds r.moment.seconds

-- a delta is shown: a removed one with -a alone
abbrev pub comes : Bool → Chosen → Record → Bool
comes all chosen r = (all || not r.removed) && is_chosen chosen r
