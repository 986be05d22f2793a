-- The one written spelling.
use Rattle.std.specs.Prelude.{◌≡◌, ◌<◌, Bool, false, if◌then◌else◌, ℕ, ◌+◌, ◌/◌, ◌%◌, List, [], ◌∷◌, ◌++◌, map}
use Rattle.std.specs.Prelude.{flat_map, decimal}
use Rattle.sccs_base.specs.Cut.{HasNoLf}
use Rattle.sccs_sid.specs.Sid.{sid_text}
use Rattle.sccs_sid.specs.Moment.{date_text, time_text}
use Rattle.sccs_sid.specs.SidLists.{begins}
use Rattle.sccs_history.specs.declared.headers.Record.{Record}
use Rattle.sccs_history.specs.declared.headers.Flag.{Flag}
use Rattle.sccs_history.specs.declared.headers.Header.{Header}
use Rattle.sccs_history.specs.declared.headers.Item.{Item}
use Rattle.sccs_history.specs.declared.headers.Item.TheVariants.{Text, Insert, Delete, End}
use Rattle.sccs_tokens.specs.Sums.{plain_sum}

-- a line and its LF
abbrev pub ended : List ℕ → List ℕ
ended line = line ++ 10 ∷ []

-- the bytes that lines make
abbrev pub bytes_of : List (List ℕ) → List ℕ
bytes_of lines = flat_map ended lines

-- the last five decimal digits
abbrev pub five : ℕ → List ℕ
five n =
    (48 + n / 10000 % 10) ∷ (48 + n / 1000 % 10) ∷ (48 + n / 100 % 10) ∷ (48 + n / 10 % 10) ∷ (48 + n % 10) ∷ []

abbrev pub sum_line : ℕ → List ℕ
sum_line sum = 1 ∷ 104 ∷ five sum

-- each word behind a blank
abbrev pub spaced : List (List ℕ) → List ℕ
spaced [] = []
spaced (w ∷ ws) = 32 ∷ w ++ spaced ws

-- behind a blank, where there is any
abbrev pub behind_blank : List ℕ → List ℕ
behind_blank [] = []
behind_blank (b ∷ bytes) = 32 ∷ b ∷ bytes

-- ---- an entry

-- D for a delta that lives, R for a removed one
abbrev pub kind_of : Bool → List ℕ
kind_of removed = (if removed then 82 else 68) ∷ []

abbrev pub delta_words : Record → List (List ℕ)
delta_words r =
    kind_of r.removed ∷ sid_text r.sid ∷ date_text r.moment ∷ time_text r.moment ∷ r.login ∷ decimal r.serial
    ∷ decimal r.predecessor ∷ []

abbrev pub delta_line : Record → List ℕ
delta_line r = 1 ∷ 100 ∷ spaced (delta_words r)

abbrev pub counts_line : ℕ → ℕ → ℕ → List ℕ
counts_line i d u = 1 ∷ 115 ∷ spaced ((five i ++ (47 ∷ five d ++ (47 ∷ five u))) ∷ [])

-- serials joined by blanks, and no line for none
abbrev pub list_lines : ℕ → List ℕ → List (List ℕ)
list_lines letter [] = []
list_lines letter (n ∷ ns) = (1 ∷ letter ∷ spaced (map decimal (n ∷ ns))) ∷ []

abbrev pub mr_line : List ℕ → List ℕ
mr_line t = 1 ∷ 109 ∷ behind_blank t

abbrev pub comment_line : List ℕ → List ℕ
comment_line t = 1 ∷ 99 ∷ 32 ∷ t

-- the end of an entry
abbrev pub end_line : List ℕ
end_line = 1 ∷ 101 ∷ []

-- a line of SOH and a letter
abbrev pub mark : ℕ → List ℕ
mark letter = 1 ∷ letter ∷ []

-- an entry, before other lines
abbrev pub entry_lines : Record → List (List ℕ) → List (List ℕ)
entry_lines r rest =
    counts_line r.inserted r.deleted r.unchanged ∷ delta_line r
    ∷ (list_lines 105 r.include ++ (list_lines 120 r.exclude ++ (list_lines 103 r.ignore
    ++ (map mr_line r.mrs ++ (map comment_line r.comments ++ (end_line ∷ rest))))))

abbrev pub table_lines : List Record → List (List ℕ) → List (List ℕ)
table_lines [] rest = rest
table_lines (r ∷ records) rest = entry_lines r (table_lines records rest)

-- ---- users, flags, items

abbrev pub flag_line : Flag → List ℕ
flag_line f = 1 ∷ 102 ∷ 32 ∷ f.letter ∷ behind_blank f.text

abbrev pub item_line : Item → List ℕ
item_line (Text t) = t
item_line (Insert n) = 1 ∷ 73 ∷ spaced (decimal n ∷ [])
item_line (Delete n) = 1 ∷ 68 ∷ spaced (decimal n ∷ [])
item_line (End n) = 1 ∷ 69 ∷ spaced (decimal n ∷ [])

-- ---- what has a spelling

-- what a delta line says of a record: neither lists nor MRs, comments and counts
abbrev pub delta_part : Record → Record
delta_part r =
    record r {
      include = [];
      exclude = [];
      ignore = [];
      mrs = [];
      comments = [];
      inserted = 0;
      deleted = 0;
      unchanged =
          0;
    }

-- 1 to 65535
abbrev pub IsSerial : ℕ → Type 0
IsSerial n = (0 < n) × (n < 65536)

-- an item: a text line that doesn't begin with SOH, or a control line of a serial
abbrev pub IsItem : Item → Type 0
IsItem (Text t) = begins 1 t ≡ false
IsItem (Insert n) = IsSerial n
IsItem (Delete n) = IsSerial n
IsItem (End n) = IsSerial n

-- ---- a whole file

-- a header behind the sum line, before the lines of a body
abbrev pub header_lines : Header → List (List ℕ) → List (List ℕ)
header_lines h rest =
    table_lines h.records (mark 117 ∷ h.users ++ (mark 85 ∷ map flag_line h.flags ++ (mark 116 ∷ h.description
    ++ (mark 84 ∷ rest))))

abbrev pub bytes_behind : Header → List Item → List ℕ
bytes_behind header items = bytes_of (header_lines header (map item_line items))

-- the one written spelling, with the plain sum
unfoldable pub canonical : Header → List Item → List ℕ
canonical header items = ended (sum_line (plain_sum (bytes_behind header items))) ++ bytes_behind header items

-- the lines of text of a body have no LF
abbrev pub HasLines : Item → Type 0
HasLines (Text t) = HasNoLf t
HasLines _ = Unit {0}
