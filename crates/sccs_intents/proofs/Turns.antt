-- The entries of an intent by its next line.
use Rattle.std.proofs.Common.{◌≡◌, ℕ, ◌+◌, ◌==◌, nat_lt, Bool, true, false, if◌then◌else◌, List, [], ◌∷◌, length}
use Rattle.std.proofs.Common.{Option, None, Some, Result, Ok, Err, refl, sym, ap, subst, ◌∙◌}
use Rattle.std.specs.Str.{bytes_eq}
use Rattle.sccs_base.specs.Constants.{file_limit}
use Rattle.sccs_base.specs.Cut.{Cut, before, cut, longer}
use Rattle.sccs_base.proofs.Cuts.{cut-cons}
use Rattle.sccs_sid.specs.Reading.{behind, until}
use Rattle.sccs_intents.specs.Intents.{AddsEntry, Reads, begun, closed, closes, entries_at, entries_from, entry_of}
use Rattle.sccs_intents.specs.Intents.{first_line, go_on, intent_of, with_entry}
use Rattle.sccs_intents.specs.declared.intents.IntentEntry.{IntentEntry}
use Rattle.sccs_intents.specs.declared.intents.IntentFault.{IntentFault}
use Rattle.sccs_intents.specs.declared.intents.IntentFault.TheVariants.{BadIntent, Memory}
use Rattle.sccs_sid.proofs.FirstLines.{cut_first, cut_none}
use Rattle.sccs_base.proofs.SameBytes.{no_bytes}

-- ---- the last line

pub nothing_behind : (number : ℕ) (entries : List IntentEntry) (rest : List ℕ) → rest ≡ []
    → closed number entries (cut rest).lines (cut rest).tail ≡ Ok entries
unfolding cut
nothing_behind number entries rest none = ap (λ (l : List ℕ). closed number entries (cut l).lines (cut l).tail) none

more_longer : (number : ℕ) (entries : List IntentEntry) (b : ℕ) (lines : List (List ℕ)) (tail : List ℕ)
    → closed number entries (longer b lines tail).lines (longer b lines tail).tail ≡ Err number
more_longer number entries b [] tail = refl
more_longer number entries b (line ∷ lines) tail = refl

more_by : (number : ℕ) (entries : List IntentEntry) (test : Bool) (b : ℕ) (c : Cut)
    → closed number entries (before test b c).lines (before test b c).tail ≡ Err number
more_by number entries true b c = refl
more_by number entries false b c = more_longer number entries b c.lines c.tail

pub more_behind : (number : ℕ) (entries : List IntentEntry) (rest : List ℕ) → (length rest == 0) ≡ false
    → closed number entries (cut rest).lines (cut rest).tail ≡ Err number
more_behind number entries [] some = cc
more_behind number entries (b ∷ rest) some =
    ap (λ (c : Cut). closed number entries c.lines c.tail) (cut-cons b rest) ∙ more_by number entries (b == 10) b
    (cut rest)

-- ---- the next line

-- the entries where a line stands before other bytes
abbrev pub next_of : ℕ → List IntentEntry → List ℕ → List ℕ → Result (List IntentEntry) ℕ
next_of number entries line more =
    if closes entries line then closed (number + 1) entries (cut more).lines (cut more).tail
    else go_on number (with_entry entries (entry_of line)) (λ all. entries_at (number + 1) all more)

pub by_line : (number : ℕ) (entries : List IntentEntry) (bytes line more : List ℕ) (all : Result (List IntentEntry) ℕ)
    → line ≡ until 10 bytes → Some more ≡ behind 10 bytes
    → entries_at number entries bytes ≡ all → next_of number entries line more ≡ all
by_line number entries bytes line more all piece found is =
    ap (λ l. next_of number entries l more) piece
    ∙ (sym (ap (λ (c : Cut). entries_from number entries c.lines c.tail) (cut_first bytes more (sym found))) ∙ is)

pub no_line : (number : ℕ) (entries : List IntentEntry) (bytes : List ℕ) (all : Result (List IntentEntry) ℕ)
    → None ≡ behind 10 bytes → entries_at number entries bytes ≡ all → all ≡ Err number
no_line number entries bytes all none is = sym is ∙ ap (λ (c : Cut). entries_from number entries c.lines c.tail)
    (cut_none bytes (sym none))

pub at_end : (number : ℕ) (entries : List IntentEntry) (bytes : List ℕ) (all : Result (List IntentEntry) ℕ)
    → (length bytes == 0) ≡ true → entries_at number entries bytes ≡ all → all ≡ Err number
unfolding cut
at_end number entries bytes all none is = sym is ∙ ap (entries_at number entries) (no_bytes bytes none)

-- it ends the intent
pub line_ends : (number : ℕ) (entries : List IntentEntry) (line more : List ℕ) (all : Result (List IntentEntry) ℕ)
    (result : Result (List IntentEntry) IntentFault) → closes entries line ≡ true
    → next_of number entries line more ≡ all → Reads result (closed (number + 1) entries (cut more).lines
    (cut more).tail) → Reads result all
line_ends number entries line more all result ends is reads =
    subst (Reads result) (sym (ap (λ test. if test then closed (number + 1) entries (cut more).lines (cut more).tail
    else go_on number (with_entry entries (entry_of line)) (λ new. entries_at (number + 1) new more)) ends) ∙ is) reads

goes_on : (number : ℕ) (entries : List IntentEntry) (line more : List ℕ) (all : Result (List IntentEntry) ℕ)
    (o : Option (List IntentEntry)) → closes entries line ≡ false
    → next_of number entries line more ≡ all → with_entry entries (entry_of line) ≡ o
    → go_on number o (λ new. entries_at (number + 1) new more) ≡ all
goes_on number entries line more all o ends is with =
    sym (ap (λ test. if test then closed (number + 1) entries (cut more).lines (cut more).tail
    else go_on number (with_entry entries (entry_of line)) (λ new. entries_at (number + 1) new more)) ends
    ∙ ap (λ (x : Option (List IntentEntry)). go_on number x (λ new. entries_at (number + 1) new more)) with) ∙ is

-- it has an entry
pub line_adds : (number : ℕ) (entries new : List IntentEntry) (line more : List ℕ) (all : Result (List IntentEntry) ℕ)
    → closes entries line ≡ false
    → next_of number entries line more ≡ all → with_entry entries (entry_of line) ≡ Some new
    → entries_at (number + 1) new more ≡ all
line_adds number entries new line more all ends is with = goes_on number entries line more all (Some new) ends is with

-- it is at fault
pub line_fails : (number : ℕ) (entries new : List IntentEntry) (line more : List ℕ) (all : Result (List IntentEntry) ℕ)
    (fault : IntentFault) → closes entries line ≡ false
    → next_of number entries line more ≡ all → AddsEntry (Err fault) number (entry_of line) entries new
    → Reads (Err fault) all
line_fails number entries new line more all (BadIntent at) ends is adds =
    sym (goes_on number entries line more all None ends is adds.1) ∙ ap Err (sym adds.0)
line_fails number entries new line more all Memory ends is adds = tt

-- ---- the first line

abbrev first_of : List ℕ → List ℕ → Result (List IntentEntry) ℕ
first_of line rest = if bytes_eq line first_line then entries_at 2 [] rest else Err 1

begins : (bytes line rest : List ℕ) → nat_lt file_limit (length bytes) ≡ false → line ≡ until 10 bytes
    → Some rest ≡ behind 10 bytes → intent_of bytes ≡ first_of line rest
unfolding intent_of
begins bytes line rest short piece found =
    ap (λ test. if test then Err 1 else begun (cut bytes).lines (cut bytes).tail) short
    ∙ (ap (λ (c : Cut). begun c.lines c.tail) (cut_first bytes rest (sym found)) ∙ ap (λ l. first_of l rest)
    (sym piece))

pub no_first : (bytes : List ℕ) → nat_lt file_limit (length bytes) ≡ false → None ≡ behind 10 bytes
    → intent_of bytes ≡ Err 1
unfolding intent_of
no_first bytes short none =
    ap (λ test. if test then Err 1 else begun (cut bytes).lines (cut bytes).tail) short
    ∙ ap (λ (c : Cut). begun c.lines c.tail) (cut_none bytes (sym none))

pub bad_first : (bytes line rest : List ℕ) → nat_lt file_limit (length bytes) ≡ false → line ≡ until 10 bytes
    → Some rest ≡ behind 10 bytes → bytes_eq line first_line ≡ false → intent_of bytes ≡ Err 1
bad_first bytes line rest short piece found other =
    begins bytes line rest short piece found ∙ ap (λ test. if test then entries_at 2 [] rest else Err 1) other

pub good_first : (bytes line rest : List ℕ) (result : Result (List IntentEntry) IntentFault)
    → nat_lt file_limit (length bytes) ≡ false → line ≡ until 10 bytes → Some rest ≡ behind 10 bytes
    → bytes_eq line first_line ≡ true → Reads result (entries_at 2 [] rest) → Reads result (intent_of bytes)
good_first bytes line rest result short piece found is reads =
    subst (Reads result) (sym (begins bytes line rest short piece found ∙ ap (λ test. if test then entries_at 2 [] rest
    else Err 1) is)) reads
