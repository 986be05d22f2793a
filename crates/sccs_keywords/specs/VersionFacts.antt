-- What keywords stand for in a version of a file (POSIX get, Identification Keywords).
use Rattle.std.specs.Prelude.{ℕ, List, [], drop, Option, option_map, unwrap_or, find}
use Rattle.sccs_sid.specs.declared.moments.Moment.{Moment}
use Rattle.sccs_sid.specs.declared.moments.Stamp.{Stamp}
use Rattle.sccs_sid.specs.declared.sids.Sid.{Sid}
use Rattle.sccs_history.specs.FlagText.{flag_m, flag_q, flag_t}
use Rattle.sccs_history.specs.Numbers.{has}
use Rattle.sccs_history.specs.declared.headers.Flag.{Flag}
use Rattle.sccs_history.specs.declared.headers.Header.{Header}
use Rattle.sccs_history.specs.declared.headers.Record.{Record}
use Rattle.sccs_flags.specs.FlagValues.{flag_of}
use Rattle.sccs_sets.specs.Sets.{record_at}
use Rattle.sccs_keywords.specs.declared.facts.Facts.{Facts}

-- the text of the flag of a letter, else another
abbrev pub flag_text : List Flag → ℕ → List ℕ → List ℕ
flag_text flags letter otherwise = unwrap_or (option_map (λ f. f.text) (flag_of flags letter)) otherwise

-- the module's name: the flag m, else the name of the s-file without `s.`
abbrev pub module_name : List Flag → List ℕ → List ℕ
module_name flags n = flag_text flags flag_m (drop 2 n)

-- the flags t and q
abbrev pub kind_flags : List Flag → List ℕ
kind_flags flags = flag_text flags flag_t []

abbrev pub user : List Flag → List ℕ
user flags = flag_text flags flag_q []

-- the newest delta of a set
abbrev pub newest_applied : List Record → List ℕ → Option Record
newest_applied records set = find (λ r. has set r.serial) records

-- when it was made; where none is applied, when the delta that is got was
abbrev pub newest_moment : List Record → List ℕ → ℕ → Moment → Moment
newest_moment records set target otherwise =
    unwrap_or (option_map (λ r. r.moment) (newest_applied records set))
    (unwrap_or (option_map (λ r. r.moment) (record_at records target)) otherwise)

-- what keywords stand for where the version of a target is got at a moment from the file of a name in a folder
abbrev pub facts_of : Header → List ℕ → ℕ → Sid → List ℕ → List ℕ → Stamp → Facts
facts_of header set target sid n place stamp = record {
  «module» = module_name header.flags n;
  sid = sid;
  moment = stamp.moment;
  newest = newest_moment header.records set target stamp.moment;
  kind = kind_flags header.flags;
  user = user header.flags;
  file = n;
  place = place;
}
