-- What the parts of a reading make of the answer for a whole file.
use Rattle.std.proofs.Common.{◌≡◌, ℕ, Bool, true, false, List, [], length, drop, Option, None, Some, Result, Ok, Err}
use Rattle.std.proofs.Common.{refl, sym, ap, ◌∙◌, subst}
use Rattle.std.specs.Prelude.{if◌then◌else◌, nat_lt}
use Rattle.sccs_base.specs.Cut.{Cut, cut}
use Rattle.sccs_sid.specs.Reading.{◌>>=◌}
use Rattle.sccs_history.specs.Applied.{live_serials}
use Rattle.sccs_history.specs.History.{is_encoded}
use Rattle.sccs_history.specs.Body.{GoesOn}
use Rattle.sccs_history.specs.declared.headers.Header.{Header}
use Rattle.sccs_history.specs.declared.headers.Item.{Item}
use Rattle.sccs_grammar.specs.Front.{ParsedFront}
use Rattle.sccs_tokens.specs.Items.{items_from}
use Rattle.sccs_grammar.specs.File.{Parsed, as_format, answer, within_limit, checked_front, file_of, not_encoded}
use Rattle.sccs_grammar.specs.declared.faults.FileFault.{FileFault}
use Rattle.sccs_grammar.specs.declared.faults.FileFault.TheVariants.{Missing, TooLong, NotSccs, BadSum, BadFormat}
use Rattle.sccs_grammar.specs.declared.faults.FileFault.TheVariants.{Encoded, Changed, Failed, Memory}
use Rattle.sccs_table.specs.declared.fronts.Front.{Front}
use Rattle.sccs_table.specs.FrontFile.{Refuses, IsFrontOf, AnswersFront}
use Rattle.sccs_body.proofs.ReadBodies.{body_read}
use Rattle.sccs_body.specs.BodyFile.{items_of, ChecksFile, ChecksItems, AnswersFile}
use Rattle.sccs_table.proofs.FileLaws.{encoded_so}

-- ---- the bytes of a file

file_fails : (file : List ℕ) (e : FileFault) → checked_front file ≡ Err e → file_of file ≡ Err e
unfolding file_of
file_fails file e is = rw is refl

abbrev pub file_by : ParsedFront → Result (List Item) ℕ → Result Parsed FileFault
file_by p found = as_format found >>= λ (items : List Item). not_encoded p.header
    (record { header = p.header; items = items })

file_from : (file : List ℕ) (p : ParsedFront) → checked_front file ≡ Ok p → file_of file ≡ file_by p
    (items_from (live_serials p.header.records) p.line [] p.rest (cut file).tail)
unfolding file_of
file_from file p is = rw is refl

-- the body of the front is what comes behind the header
pub same_items : (file : List ℕ) (p : ParsedFront) (front : Front) → IsFrontOf file p front
    → items_of file front ≡ items_from (live_serials p.header.records) p.line [] p.rest (cut file).tail
same_items file p front of =
    ap (λ (h : Header). items_from (live_serials h.records) front.body_line [] (cut (drop front.body_from file)).lines
    (cut (drop front.body_from file)).tail) of.header
    ∙ (ap (λ n. items_from (live_serials p.header.records) n [] (cut (drop front.body_from file)).lines
    (cut (drop front.body_from file)).tail) of.line
    ∙ ap (λ (c : Cut). items_from (live_serials p.header.records) p.line [] c.lines c.tail) of.body)

file_found : (file : List ℕ) (p : ParsedFront) (front : Front) (found : Result (List Item) ℕ)
    → checked_front file ≡ Ok p → IsFrontOf file p front → items_of file front ≡ found → file_of file ≡ file_by p found
file_found file p front found is of items = file_from file p is ∙ ap (λ r. file_by p r)
    (sym (same_items file p front of) ∙ items)

-- ---- a file that may not be there

within_fails : (r : Result (List ℕ) FileFault) (e : FileFault) → (r >>= checked_front) ≡ Err e → (r >>= file_of) ≡ Err e
within_fails (Ok file) e is = file_fails file e is
within_fails (Err f) e is = cc

answer_fails : (o : Option (List ℕ)) (e : FileFault) → answer checked_front o ≡ Err e → answer file_of o ≡ Err e
answer_fails None e is = cc
answer_fails (Some file) e is = within_fails (within_limit file) e is

pub refusal_stays : (o : Option (List ℕ)) (e : FileFault) → Refuses e (answer checked_front o)
    → Refuses e (answer file_of o)
refusal_stays o Missing is = answer_fails o Missing is
refusal_stays o TooLong is = answer_fails o TooLong is
refusal_stays o NotSccs is = answer_fails o NotSccs is
refusal_stays o (BadSum s c) is = answer_fails o (BadSum s c) is
refusal_stays o (BadFormat k) is = answer_fails o (BadFormat k) is
refusal_stays o Encoded is = answer_fails o Encoded is
refusal_stays o (Changed a b c d) is = is
refusal_stays o Failed is = tt
refusal_stays o Memory is = tt

-- a front was read, so the file is within the limit
read_by : (long : Bool) (file : List ℕ) (p : ParsedFront) → ((if long then Err TooLong else Ok file) >>= checked_front)
    ≡ Ok p → ((if long then Err TooLong else Ok file) ≡ Ok file) × (checked_front file ≡ Ok p)
read_by true file p is = cc
read_by false file p is = (refl, is)

was_read : (file : List ℕ) (p : ParsedFront) → answer checked_front (Some file) ≡ Ok p → (within_limit file ≡ Ok file)
    × (checked_front file ≡ Ok p)
was_read file p is = read_by (nat_lt 1073741824 (length file)) file p is

answer_found : (file : List ℕ) (p : ParsedFront) (front : Front) (found : Result (List Item) ℕ)
    → answer checked_front (Some file) ≡ Ok p → IsFrontOf file p front → items_of file front ≡ found
    → answer file_of (Some file) ≡ file_by p found
answer_found file p front found is of items =
    let read = was_read file p is in
    ap (λ (r : Result (List ℕ) FileFault). r >>= file_of) read.0 ∙ file_found file p front found read.1 of items

lines_refused : (file : List ℕ) (p : ParsedFront) (front : Front) (e : FileFault) → answer checked_front (Some file)
    ≡ Ok p → IsFrontOf file p front → ChecksFile file front (Err e) → Refuses e (answer file_of (Some file))
lines_refused file p front Missing is of checks = absurd checks
lines_refused file p front TooLong is of checks = absurd checks
lines_refused file p front NotSccs is of checks = absurd checks
lines_refused file p front (BadSum s c) is of checks = absurd checks
lines_refused file p front (BadFormat k) is of checks = answer_found file p front (Err k) is of checks
lines_refused file p front Encoded is of checks = absurd checks
lines_refused file p front (Changed a b c d) is of checks = absurd checks
lines_refused file p front Failed is of checks = tt
lines_refused file p front Memory is of checks = tt

pub refused_in : (o : Option (List ℕ)) (front : Front) (e : FileFault) → AnswersFront o checked_front (Ok front)
    → ChecksItems o front (Err e) → AnswersFile o (Err e)
refused_in None front e answers checks = absurd answers.2
refused_in (Some file) front e answers checks = lines_refused file answers.0 front e answers.1 answers.2
    (checks answers.2.size)

-- ---- whether the body is encoded

pub encoded_in : (o : Option (List ℕ)) (front : Front) → is_encoded front.header.flags ≡ true
    → AnswersFront o checked_front (Ok front) → ChecksItems o front (Ok tt) → AnswersFile o (Err Encoded)
encoded_in None front is answers checks = absurd answers.2
encoded_in (Some file) front is answers checks =
    let items = checks answers.2.size in
    let encoded = encoded_so front answers.0 true answers.2.header is in
    answer_found file answers.0 front (Ok items.0) answers.1 answers.2 items.1 ∙ rw encoded refl

pub plain_in : (o : Option (List ℕ)) (front : Front) → is_encoded front.header.flags ≡ false
    → AnswersFront o checked_front (Ok front) → ChecksItems o front (Ok tt) → AnswersFile o (Ok front)
plain_in None front is answers checks = absurd answers.2
plain_in (Some file) front is answers checks =
    let items = checks answers.2.size in
    let plain = encoded_so front answers.0 false answers.2.header is in
    let p = answers.0 in (
      record { header = p.header; items = items.0 },
      answer_found file answers.0 front (Ok items.0) answers.1 answers.2 items.1 ∙ rw plain refl,
      (answers.2.header, (p, (was_read file p answers.1).1, answers.2)),
    )

-- ---- the items of a file that was read

within_read : (long : Bool) (file : List ℕ) (parsed : Parsed) → ((if long then Err TooLong else Ok file) >>= file_of)
    ≡ Ok parsed → file_of file ≡ Ok parsed
within_read true file parsed is = absurd cc
within_read false file parsed is = is

plain_items : (encoded : Bool) (parsed made : Parsed) → (if encoded then Err Encoded else Ok made) ≡ Ok parsed
    → made ≡ parsed
plain_items true parsed made is = absurd cc
plain_items false parsed made is = cc

items_by : (p : ParsedFront) (found : Result (List Item) ℕ) (parsed : Parsed) → file_by p found ≡ Ok parsed
    → found ≡ Ok parsed.items
items_by p (Ok items) parsed is =
    ap (λ (made : Parsed). Ok made.items) (plain_items (is_encoded p.header.flags) parsed
    (record { header = p.header; items = items }) is)
items_by p (Err line) parsed is = absurd cc

pub file_items : (file : List ℕ) (parsed : Parsed) (p : ParsedFront) (front : Front) → answer file_of (Some file)
    ≡ Ok parsed → checked_front file ≡ Ok p → IsFrontOf file p front → items_of file front ≡ Ok parsed.items
file_items file parsed p front is read of =
    same_items file p front of
    ∙ items_by p (items_from (live_serials p.header.records) p.line [] p.rest (cut file).tail) parsed
    (sym (file_from file p read) ∙ within_read (nat_lt 1073741824 (length file)) file parsed is)

never_read : (e : FileFault) (parsed : Parsed) (read : Result Parsed FileFault) → read ≡ Err e → read ≡ Ok parsed → ⊥
never_read e parsed read failed is = cc

body_by : (p : ParsedFront) (tail : List ℕ) (found : Result (List Item) ℕ) (parsed : Parsed)
    → items_from (live_serials p.header.records) p.line [] p.rest tail ≡ found → file_by p found ≡ Ok parsed
    → GoesOn (live_serials parsed.header.records) [] parsed.items
body_by p tail (Ok items) parsed is whole =
    subst (λ (made : Parsed). GoesOn (live_serials made.header.records) [] made.items)
    (plain_items (is_encoded p.header.flags) parsed (record { header = p.header; items = items }) whole)
    (body_read (live_serials p.header.records) p.line [] p.rest tail items is)
body_by p tail (Err line) parsed is whole = absurd cc

body_from : (file : List ℕ) (front : Result ParsedFront FileFault) (parsed : Parsed) → checked_front file ≡ front
    → file_of file ≡ Ok parsed → GoesOn (live_serials parsed.header.records) [] parsed.items
body_from file (Ok p) parsed read is =
    body_by p (cut file).tail (items_from (live_serials p.header.records) p.line [] p.rest (cut file).tail) parsed refl
    (sym (file_from file p read) ∙ is)
body_from file (Err e) parsed read is = absurd (never_read e parsed (file_of file) (file_fails file e read) is)

-- the items of a file keep the rules of a body over its live serials
pub file_body : (o : Option (List ℕ)) (parsed : Parsed) → answer file_of o ≡ Ok parsed
    → GoesOn (live_serials parsed.header.records) [] parsed.items
file_body None parsed is = absurd cc
file_body (Some file) parsed is = body_from file (checked_front file) parsed refl
    (within_read (nat_lt 1073741824 (length file)) file parsed is)
