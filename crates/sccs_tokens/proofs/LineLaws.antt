-- No written line has LF.
use Rattle.std.proofs.Common.{◌≢◌, ℕ, zero, suc, ◌<◌, Bool, true, false, List, [], ◌∷◌, ◌++◌, map, arith, nat_le}
use Rattle.std.specs.Prelude.{decimal}
use Rattle.std.specs.List.{AllByRecursion}
use Rattle.std.specs.Str.Parse.{AllDigits}
use Rattle.std.proofs.lemmas.Bool.{and_parts, leb-true}
use Rattle.std.proofs.lemmas.Str.Parse.{digit_from_value}
use Rattle.std.proofs.lemmas.Fmt.{decimal_is_IsNumeral}
use Rattle.std.proofs.lemmas.List.Elements.{recursion_from_All, All-from_recursion}
use Rattle.sccs_base.specs.Cut.{HasNoLf}
use Rattle.sccs_sid.specs.Sid.{IsSid, IsBranch, branch_text, sid_text}
use Rattle.sccs_sid.specs.Moment.{Civil, two, civil_date, civil_time, civil_of}
use Rattle.sccs_sid.specs.declared.sids.Sid.{Sid}
use Rattle.sccs_history.specs.History.{NamesSmaller, AreLines, IsFlag, IsHeader, IsRecord, IsSpelled, HasSpelling}
use Rattle.sccs_history.specs.Applied.{serials_of}
use Rattle.sccs_history.specs.Numbers.{Falls}
use Rattle.sccs_history.specs.declared.headers.Record.{Record}
use Rattle.sccs_history.specs.declared.headers.Flag.{Flag}
use Rattle.sccs_history.specs.declared.headers.Header.{Header}
use Rattle.sccs_history.specs.declared.headers.Item.{Item}
use Rattle.sccs_history.specs.declared.headers.Item.TheVariants.{Text, Insert, Delete, End}
use Rattle.sccs_tokens.specs.Written.{five, sum_line, spaced, behind_blank, kind_of, delta_words, counts_line}
use Rattle.sccs_tokens.specs.Written.{delta_line, list_lines, mr_line, comment_line, end_line, mark, entry_lines}
use Rattle.sccs_tokens.specs.Written.{table_lines, flag_line, item_line, header_lines, IsItem, IsSerial, HasLines}
use Rattle.sccs_tokens.proofs.NoLf.{NoLf}

-- ---- what is above the blank is not LF

-- all bytes are above the blank
abbrev pub Visible : List ℕ → Type 0
Visible bytes = AllByRecursion (λ b. 32 < b) bytes

pub both : (bytes more : List ℕ) → Visible bytes → Visible more → Visible (bytes ++ more)
both [] more are others = others
both (b ∷ bytes) more are others = (are.0, both bytes more are.1 others)

pub without_lf : (bytes more : List ℕ) → Visible bytes → NoLf more → NoLf (bytes ++ more)
without_lf [] more are none = none
without_lf (b ∷ bytes) more are none = ((λ e. absurd (omega (arith, are.0))), without_lf bytes more are.1 none)

pub spaced_ends : (words : List (List ℕ)) → AllByRecursion Visible words → NoLf (spaced words)
spaced_ends [] are = tt
spaced_ends (w ∷ words) are = ((λ e. absurd (omega arith)), without_lf w (spaced words) are.0 (spaced_ends words are.1))

-- a control line of SOH, a letter and words
control_ends : (letter : ℕ) (words : List (List ℕ)) → 10 < letter → AllByRecursion Visible words
    → HasNoLf (1 ∷ letter ∷ spaced words)
control_ends letter words high are =
    All-from_recursion (λ b. b ≢ 10) (1 ∷ letter ∷ spaced words) (
      (λ e. absurd (omega arith)),
      ((λ e. absurd (omega (arith, high))), spaced_ends words are),
    )

digits_seen : (ds : List ℕ) → AllDigits 10 ds → Visible ds
digits_seen [] are = tt
digits_seen (c ∷ ds) are = let digit = digit_from_value c are.0 in (omega arith, digits_seen ds are.1)

pub decimal_seen : (n : ℕ) → n < 65536 → Visible (decimal n)
decimal_seen n small = digits_seen (decimal n) (decimal_is_IsNumeral n (omega (arith, small))).0.1

two_seen : (n : ℕ) (more : List ℕ) → Visible more → Visible (two n ++ more)
two_seen n more are = (omega arith, (omega arith, are))

five_seen : (n : ℕ) (more : List ℕ) → Visible more → Visible (five n ++ more)
five_seen n more are = (omega arith, (omega arith, (omega arith, (omega arith, (omega arith, are)))))

pub date_seen : (c : Civil) → Visible (civil_date c)
date_seen c = two_seen _ (47 ∷ two c.month ++ (47 ∷ two c.day)) (
  omega arith,
  two_seen c.month (47 ∷ two c.day)
      (omega arith, two_seen c.day [] tt),
)

pub time_seen : (c : Civil) → Visible (civil_time c)
time_seen c = two_seen c.hour (58 ∷ two c.minute ++ (58 ∷ two c.second)) (
  omega arith,
  two_seen c.minute
      (58 ∷ two c.second) (omega arith, two_seen c.second [] tt),
)

branch_seen : (branch sequence : ℕ) → IsBranch branch sequence → Visible (branch_text branch sequence)
branch_seen zero sequence is = tt
branch_seen (suc b) sequence is = (
  omega arith,
  both (decimal (suc b)) (46 ∷ decimal sequence) (decimal_seen (suc b) (omega (arith, is.0)))
      (omega arith, decimal_seen sequence (omega (arith, is.1.1))),
)

pub sid_seen : (sid : Sid) → IsSid sid → Visible (sid_text sid)
unfolding sid_text
sid_seen sid is =
    both (decimal sid.release) (46 ∷ decimal sid.level ++ branch_text sid.branch sid.sequence) (decimal_seen sid.release
    (omega (arith, is.release.1))) (
      omega arith,
      both (decimal sid.level) (branch_text sid.branch sid.sequence)
          (decimal_seen sid.level (omega (arith, is.level.1))) (branch_seen sid.branch sid.sequence is.branch),
    )

kind_seen : (removed : Bool) → Visible (kind_of removed)
kind_seen true = (omega arith, tt)
kind_seen false = (omega arith, tt)

-- ---- each line

pub sum_line_ends : (n : ℕ) → HasNoLf (sum_line n)
sum_line_ends n =
    All-from_recursion (λ b. b ≢ 10) (sum_line n) (
      (λ e. absurd (omega arith)),
      (
        (λ e. absurd (omega arith)),
        without_lf
            (five n) [] (five_seen n [] tt) tt,
      ),
    )

counts_ends : (i d u : ℕ) → HasNoLf (counts_line i d u)
counts_ends i d u =
    control_ends 115 ((five i ++ (47 ∷ five d ++ (47 ∷ five u))) ∷ []) (omega arith) (
      five_seen i (47 ∷ five d ++ (47 ∷ five u)) (
        omega arith,
        five_seen d (47 ∷ five u)
            (omega arith, five_seen u [] tt),
      ),
      tt,
    )

delta_ends : (r : Record) → HasSpelling r → r.serial < 65536 → r.predecessor < 65536 → HasNoLf (delta_line r)
delta_ends r spells high before =
    control_ends 100 (delta_words r) (omega arith) (
      kind_seen r.removed,
      (
        sid_seen r.sid spells.sid,
        (
          date_seen (civil_of r.moment),
          (
            time_seen (civil_of r.moment),
            (
              recursion_from_All (λ b. 32 < b) r.login spells.login.visible,
              (
                decimal_seen r.serial high,
                (decimal_seen r.predecessor before, tt),
              ),
            ),
          ),
        ),
      ),
    )

mark_ends : (letter : ℕ) → 10 < letter → HasNoLf (mark letter)
mark_ends letter high = control_ends letter [] high tt

decimals_seen : (serial : ℕ) (ns : List ℕ) → serial < 65536 → NamesSmaller serial ns
    → AllByRecursion Visible (map decimal ns)
decimals_seen serial [] high are = tt
decimals_seen serial (n ∷ ns) high are = (
  decimal_seen n (omega (arith, are.0.1, high)),
  decimals_seen serial ns high
      are.1,
)

-- all lines end
abbrev Ends : List (List ℕ) → Type 0
Ends lines = AllByRecursion HasNoLf lines

more_ends : (lines more : List (List ℕ)) → Ends lines → Ends more → Ends (lines ++ more)
more_ends [] more are others = others
more_ends (line ∷ lines) more are others = (are.0, more_ends lines more are.1 others)

list_ends : (letter serial : ℕ) (ns : List ℕ) → 10 < letter → serial < 65536 → NamesSmaller serial ns
    → Ends (list_lines letter ns)
list_ends letter serial [] high small are = tt
list_ends letter serial (n ∷ ns) high small are =
    (control_ends letter (map decimal (n ∷ ns)) high (decimals_seen serial (n ∷ ns) small are), tt)

-- bytes before a text
before_text : (t : List ℕ) → HasNoLf t → NoLf t
before_text t none = recursion_from_All (λ b. b ≢ 10) t none

behind_ends : (t : List ℕ) → HasNoLf t → NoLf (behind_blank t)
behind_ends [] none = tt
behind_ends (b ∷ t) none = ((λ e. absurd (omega arith)), before_text (b ∷ t) none)

mr_ends : (t : List ℕ) → HasNoLf t → HasNoLf (mr_line t)
mr_ends t none = All-from_recursion (λ b. b ≢ 10) (mr_line t) (
  (λ e. absurd (omega arith)),
  ((λ e. absurd (omega arith)), behind_ends t none),
)

comment_ends : (t : List ℕ) → HasNoLf t → HasNoLf (comment_line t)
comment_ends t none =
    All-from_recursion (λ b. b ≢ 10) (comment_line t) (
      (λ e. absurd (omega arith)),
      (
        (λ e. absurd (omega arith)),
        ((λ e. absurd (omega arith)), before_text t none),
      ),
    )

mrs_end : (ts : List (List ℕ)) → AreLines ts → Ends (map mr_line ts)
mrs_end [] are = tt
mrs_end (t ∷ ts) are = (mr_ends t are.0, mrs_end ts are.1)

comments_end : (ts : List (List ℕ)) → AreLines ts → Ends (map comment_line ts)
comments_end [] are = tt
comments_end (t ∷ ts) are = (comment_ends t are.0, comments_end ts are.1)

flag_ends : (f : Flag) → IsFlag f → HasNoLf f.text → HasNoLf (flag_line f)
flag_ends f is none =
    let low = leb-true 97 f.letter (and_parts (nat_le 97 f.letter) (nat_le f.letter 122) is.letter).0 in
    All-from_recursion (λ b. b ≢ 10) (flag_line f) (
      (λ e. absurd (omega arith)),
      (
        (λ e. absurd (omega arith)),
        ((λ e. absurd (omega arith)), ((λ e. absurd (omega (arith, low))), behind_ends f.text none)),
      ),
    )

flags_end : (fs : List Flag) → AllByRecursion IsFlag fs → AllByRecursion (λ f. HasNoLf f.text) fs
    → Ends (map flag_line fs)
flags_end [] are none = tt
flags_end (f ∷ fs) are none = (flag_ends f are.0 none.0, flags_end fs are.1 none.1)

serial_ends : (letter n : ℕ) → 10 < letter → IsSerial n → HasNoLf (1 ∷ letter ∷ spaced (decimal n ∷ []))
serial_ends letter n high is = control_ends letter (decimal n ∷ []) high (decimal_seen n is.1, tt)

item_ends : (item : Item) → IsItem item → HasLines item → HasNoLf (item_line item)
item_ends (Text t) is none = none
item_ends (Insert n) is none = serial_ends 73 n (omega arith) is
item_ends (Delete n) is none = serial_ends 68 n (omega arith) is
item_ends (End n) is none = serial_ends 69 n (omega arith) is

items_end : (items : List Item) → AllByRecursion IsItem items → AllByRecursion HasLines items
    → Ends (map item_line items)
items_end [] are none = tt
items_end (item ∷ items) are none = (item_ends item are.0 none.0, items_end items are.1 none.1)

-- ---- all lines

entry_ends : (all : List Record) (r : Record) (rest : List (List ℕ)) → IsRecord all r → HasSpelling r → r.serial < 65536
    → Ends rest → Ends (entry_lines r rest)
entry_ends all r rest is spells high others =
    let texts = map comment_line r.comments ++ (end_line ∷ rest) in
    let mrs = map mr_line r.mrs ++ texts in
    let ignores = list_lines 103 r.ignore ++ mrs in
    let excludes = list_lines 120 r.exclude ++ ignores in (
      counts_ends r.inserted r.deleted r.unchanged,
      (
        delta_ends r spells high (omega (arith, is.older, high)),
        more_ends (list_lines 105 r.include) excludes (list_ends 105 r.serial r.include (omega arith) high is.include)
            (more_ends (list_lines 120 r.exclude) ignores (list_ends 120 r.serial r.exclude
            (omega arith) high is.exclude)
            (more_ends (list_lines 103 r.ignore) mrs (list_ends 103 r.serial r.ignore (omega arith) high is.ignore)
            (more_ends (map mr_line r.mrs) texts (mrs_end r.mrs spells.mrs)
            (more_ends (map comment_line r.comments) (end_line ∷ rest) (comments_end r.comments spells.comments)
            (mark_ends 101 (omega arith), others))))),
      ),
    )

table_ends : (all : List Record) (bound : ℕ) (rs : List Record) (rest : List (List ℕ)) → bound < 65537
    → Falls bound (serials_of rs) → AllByRecursion (IsRecord all) rs → AllByRecursion HasSpelling rs → Ends rest
    → Ends (table_lines rs rest)
table_ends all bound [] rest low falls are spells others = others
table_ends all bound (r ∷ rs) rest low falls are spells others =
    entry_ends all r (table_lines rs rest) are.0 spells.0 (omega (arith, falls.0, low)) (table_ends all r.serial rs rest
    (omega (arith, falls.0, low)) falls.1 are.1 spells.1 others)

pub lines_end : (h : Header) (items : List Item) → IsHeader h → IsSpelled h → AllByRecursion IsItem items
    → AllByRecursion HasLines items → Ends (header_lines h (map item_line items))
lines_end h items is spells are none =
    let last = mark 84 ∷ map item_line items in
    let lines = mark 116 ∷ h.description ++ last in
    let flags = mark 85 ∷ map flag_line h.flags ++ lines in
    table_ends h.records 65536 h.records (mark 117 ∷ h.users ++ flags) (omega arith) is.table.falls is.table.each
    spells.records (
      mark_ends 117 (omega arith),
      more_ends h.users flags spells.users (
        mark_ends 85 (omega arith),
        more_ends (map flag_line h.flags) lines (flags_end h.flags is.flags spells.flags) (
          mark_ends 116 (omega arith),
          more_ends h.description last spells.description
              (mark_ends 84 (omega arith), items_end items are none),
        ),
      ),
    )
