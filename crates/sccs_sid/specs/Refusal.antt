-- Refusals: their numbers, their texts, and the line that says one.
use Rattle.std.specs.Prelude.{ℕ, ◌+◌, ◌/◌, ◌%◌, List, [], ◌∷◌, ◌++◌, codes}
use Rattle.std.specs.Fmt.{decimal}
use Rattle.sccs_sid.specs.Moment.{two}
use Rattle.sccs_sid.specs.Sid.{sid_text}
use Rattle.sccs_sid.specs.declared.refusals.Refusal.{Refusal}
use Rattle.sccs_sid.specs.declared.refusals.Refusal.TheVariants.{BadName, Locked, Missing, Exists, TooLong, NotSccs}
use Rattle.sccs_sid.specs.declared.refusals.Refusal.TheVariants.{BadSum, BadFormat, Encoded, BadPfile, Disagree}
use Rattle.sccs_sid.specs.declared.refusals.Refusal.TheVariants.{NotAllowed, NoEdit, ManyEdits, NoSid, BadList}
use Rattle.sccs_sid.specs.declared.refusals.Refusal.TheVariants.{OutsideRelease, LockedRelease, BeingEdited, BadScript}
use Rattle.sccs_sid.specs.declared.refusals.Refusal.TheVariants.{ScriptRange, BadText, NoKeywords, GExists, GDiffers}
use Rattle.sccs_sid.specs.declared.refusals.Refusal.TheVariants.{FlagBad, MrNeeded, MrNotAllowed, Unsupported, NotTip}
use Rattle.sccs_sid.specs.declared.refusals.Refusal.TheVariants.{NotOwner, Full, Changed, BadRcs, BadRevision}
use Rattle.sccs_sid.specs.declared.refusals.Refusal.TheVariants.{RcsScript, GroupPending, BadIntent}

-- that of a list of SIDs, whichever SID it names
abbrev pub bad_list_number : ℕ
bad_list_number = 16

-- the number of a refusal; the checks of a step are made in the order of these numbers
abbrev pub number_of : Refusal → ℕ
number_of BadName = 1
number_of Locked = 2
number_of Missing = 3
number_of Exists = 4
number_of TooLong = 5
number_of NotSccs = 6
number_of (BadSum stored computed) = 7
number_of (BadFormat line) = 8
number_of Encoded = 9
number_of (BadPfile line) = 10
number_of (Disagree entry) = 11
number_of NotAllowed = 12
number_of NoEdit = 13
number_of ManyEdits = 14
number_of NoSid = 15
number_of (BadList sid) = bad_list_number
number_of OutsideRelease = 17
number_of LockedRelease = 18
number_of BeingEdited = 19
number_of (BadScript line) = 20
number_of (ScriptRange line count) = 22
number_of (BadText line) = 23
number_of NoKeywords = 24
number_of GExists = 25
number_of (GDiffers line) = 26
number_of (FlagBad letter) = 27
number_of MrNeeded = 28
number_of MrNotAllowed = 29
number_of (Unsupported letter) = 30
number_of NotTip = 31
number_of NotOwner = 32
number_of Full = 33
number_of (Changed size sum size_again sum_again) = 34
number_of (BadRcs byte) = 35
number_of (BadRevision revision) = 36
number_of (RcsScript revision line) = 37
number_of GroupPending = 38
number_of (BadIntent line) = 39

-- the last five digits
unfoldable pub last_five : ℕ → List ℕ
last_five n = (48 + n / 10000 % 10) ∷ (48 + n / 1000 % 10) ∷ (48 + n / 100 % 10) ∷ (48 + n / 10 % 10) ∷ (48 + n % 10)
    ∷ []

-- the stored sum and the computed one
abbrev pub sums_text : ℕ → ℕ → List ℕ
sums_text stored computed = last_five stored ++ (codes ", computed " ++ last_five computed)

-- a line of a script, and how many lines the text has
abbrev pub script_range : ℕ → ℕ → List ℕ
script_range line count = decimal line ++ (codes ": text has " ++ decimal count)

-- a revision of an RCS file, and a line of its text or script
abbrev pub script_fault : ℕ → ℕ → List ℕ
script_fault revision line = decimal revision ++ (codes " fails at line " ++ decimal line)

-- what is wrong
abbrev pub reason : Refusal → List ℕ
reason BadName = codes "not a name of an s-file"
reason Locked = codes "locked by z-file"
reason Missing = codes "no such file"
reason Exists = codes "already exists"
reason TooLong = codes "longer than 1073741824 bytes"
reason NotSccs = codes "not an SCCS file"
reason (BadSum stored computed) = codes "bad sum: stored " ++ sums_text stored computed
reason (BadFormat line) = codes "format error at line " ++ decimal line
reason Encoded = codes "encoded body"
reason (BadPfile line) = codes "format error in p-file at line " ++ decimal line
reason (Disagree entry) = codes "p-file entry " ++ (decimal entry ++ codes " disagrees")
reason NotAllowed = codes "not authorized to make deltas"
reason NoEdit = codes "no edit is pending"
reason ManyEdits = codes "SID must be specified"
reason NoSid = codes "no such SID"
reason (BadList sid) = codes "bad list at " ++ sid_text sid
reason OutsideRelease = codes "release outside floor and ceiling"
reason LockedRelease = codes "release is locked"
reason BeingEdited = codes "being edited"
reason (BadScript line) = codes "bad script at line " ++ decimal line
reason (ScriptRange line count) = codes "script line " ++ (script_range line count ++ codes " lines")
reason (BadText line) = codes "line " ++ (decimal line ++ codes " begins with SOH")
reason NoKeywords = codes "no id keywords"
reason GExists = codes "writable file exists"
reason (GDiffers line) = codes "g-file differs at line " ++ decimal line
reason (FlagBad letter) = codes "bad flag " ++ letter ∷ []
reason MrNeeded = codes "MR numbers needed"
reason MrNotAllowed = codes "MR numbers not allowed"
reason (Unsupported letter) = codes "flag " ++ ((letter ∷ []) ++ codes " not supported")
reason NotTip = codes "not the newest delta of its branch"
reason NotOwner = codes "not the owner"
reason Full = codes "no number is left"
reason (Changed size sum size_again sum_again) = codes "file changed while read"
reason (BadRcs byte) = codes "bad RCS file at byte " ++ decimal byte
reason (BadRevision revision) = codes "revision " ++ (decimal revision ++ codes " is unfit")
reason (RcsScript revision line) = codes "revision " ++ script_fault revision line
reason GroupPending = codes "a group is pending"
reason (BadIntent line) = codes "format error in intent at line " ++ decimal line

-- the line of a file: what is wrong, and the digits of a number in parentheses
abbrev pub line_of : List ℕ → List ℕ → List ℕ → List ℕ
line_of name text digits =
    codes "ERROR [" ++ (name ++ (codes "]: " ++ (text ++ (codes " (" ++ (digits ++ codes ")\n")))))

-- the line that says a refusal of a file
abbrev pub refusal_line : List ℕ → Refusal → List ℕ
refusal_line name refusal = line_of name (reason refusal) (two (number_of refusal))
