-- What data keywords stand for that a header answers (POSIX prs, "SCCS Files Data Keywords").
use Rattle.std.specs.Prelude.{ℕ, ◌%◌, Bool, true, false, List, [], ◌∷◌, ◌++◌, flat_map, decimal, codes}
use Rattle.sccs_sid.specs.Moment.{civil_of, moment_text, two}
use Rattle.sccs_sid.specs.Sid.{sid_text}
use Rattle.sccs_history.specs.declared.headers.Flag.{Flag}
use Rattle.sccs_history.specs.declared.headers.Header.{Header}
use Rattle.sccs_history.specs.declared.headers.Record.{Record}
use Rattle.sccs_tokens.specs.Written.{behind_blank, bytes_of, ended, five, kind_of}
use Rattle.sccs_flags.specs.FlagValues.{has_flag}
use Rattle.sccs_keywords.specs.Expansion.{expanded}
use Rattle.sccs_keywords.specs.declared.facts.Facts.{Facts}
use Rattle.sccs_keywords.specs.VersionFacts.{flag_text, kind_flags, module_name, user}
use Rattle.sccs_prs.specs.declared.keywords.DataItem.{DataItem}
use Rattle.sccs_prs.specs.declared.keywords.DataItem.TheVariants as i

-- what identification keywords stand for where a delta of a file of this name in a folder is shown
abbrev pub delta_facts : Header → List ℕ → List ℕ → Record → Facts
delta_facts header n place r = record {
  «module» = module_name header.flags n;
  sid = r.sid;
  moment = r.moment;
  newest = r.moment;
  kind = kind_flags header.flags;
  user = user header.flags;
  file = n;
  place = place;
}

-- what get puts in the place of an identification keyword
abbrev pub identified : Facts → ℕ → List ℕ
identified facts letter = expanded facts 0 (37 ∷ letter ∷ 37 ∷ [])

-- kind, SID, date, time, login, serial and predecessor
abbrev pub delta_text : Record → List ℕ
delta_text r =
    kind_of r.removed ++ (32 ∷ sid_text r.sid ++ (32 ∷ moment_text r.moment
    ++ (32 ∷ r.login ++ (32 ∷ decimal r.serial ++ (32 ∷ decimal r.predecessor)))))

-- lines inserted, deleted and unchanged
abbrev pub counts_text : Record → List ℕ
counts_text r = five r.inserted ++ (47 ∷ five r.deleted ++ (47 ∷ five r.unchanged))

-- serials with a blank between two
abbrev pub serials_text : List ℕ → List ℕ
serials_text [] = []
serials_text (serial ∷ serials) = decimal serial ++ flat_map (λ n. 32 ∷ decimal n) serials

-- the serials that are included, excluded and ignored
abbrev pub lists_text : Record → List ℕ
lists_text r = serials_text r.include ++ (47 ∷ serials_text r.exclude ++ (47 ∷ serials_text r.ignore))

-- a flag: its letter, and its text where it has one
abbrev pub printed_flag : Flag → List ℕ
printed_flag f = f.letter ∷ behind_blank f.text

abbrev pub yes_or_no : Bool → List ℕ
yes_or_no true = codes "yes"
yes_or_no false = codes "no"

-- what a keyword stands for where a delta is shown
abbrev pub item_text : Header → Facts → Record → DataItem → List ℕ
item_text header facts r (i.Identification letter) = identified facts letter
item_text header facts r i.Delta = delta_text r
item_text header facts r i.Kind = kind_of r.removed
item_text header facts r i.Counts = counts_text r
item_text header facts r i.Inserted = five r.inserted
item_text header facts r i.Deleted = five r.deleted
item_text header facts r i.Unchanged = five r.unchanged
item_text header facts r i.Year = two ((civil_of r.moment).year % 100)
item_text header facts r i.Month = two (civil_of r.moment).month
item_text header facts r i.Day = two (civil_of r.moment).day
item_text header facts r i.Hour = two (civil_of r.moment).hour
item_text header facts r i.Minute = two (civil_of r.moment).minute
item_text header facts r i.Second = two (civil_of r.moment).second
item_text header facts r i.Login = r.login
item_text header facts r i.Serial = decimal r.serial
item_text header facts r i.Predecessor = decimal r.predecessor
item_text header facts r i.Lists = lists_text r
item_text header facts r i.Included = serials_text r.include
item_text header facts r i.Excluded = serials_text r.exclude
item_text header facts r i.Ignored = serials_text r.ignore
item_text header facts r i.Mrs = bytes_of r.mrs
item_text header facts r i.Comments = bytes_of r.comments
item_text header facts r i.Users = bytes_of header.users
item_text header facts r i.Description = bytes_of header.description
item_text header facts r i.Flags = flat_map (λ f. ended (printed_flag f)) header.flags
item_text header facts r (i.FlagText letter) = flag_text header.flags letter []
item_text header facts r (i.HasFlag letter) = yes_or_no (has_flag header.flags letter)
