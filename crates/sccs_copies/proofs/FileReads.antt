-- A file that is read: its items are legal, its header keeps the rules and has a spelling.
use Rattle.std.proofs.Common.{◌≡◌, ℕ, suc, ◌==◌, Bool, true, false, not, ◌&&◌, List, [], ◌∷◌, ◌++◌, Option, None, Some}
use Rattle.std.proofs.Common.{IfOk, IfSome, Result, Ok, Err, refl, ap, subst, ◌∙◌}
use Rattle.std.specs.Prelude.{if◌then◌else◌}
use Rattle.std.specs.List.{AllByRecursion}
use Rattle.std.specs.Option.{option_and_then}
use Rattle.std.proofs.lemmas.Bool.{and_parts}
use Rattle.std.proofs.lemmas.List.Elements.{recursion_from_All}
use Rattle.sccs_base.specs.Cut.{HasNoLf, closed, cut, text_of}
use Rattle.sccs_base.proofs.Lines.{text_fit}
use Rattle.sccs_sid.specs.Reading.{◌>>=◌, is_empty, only}
use Rattle.sccs_sid.specs.SidLists.{begins}
use Rattle.sccs_body.proofs.ReadBodies.{body_read}
use Rattle.sccs_grammar.specs.AnySum.{unsummed_file, unsummed_front}
use Rattle.sccs_grammar.specs.File.{Opened, Parsed, as_format, checked_front, file_of, opened, opened_by, opened_cut}
use Rattle.sccs_grammar.specs.File.{stored, sum_holds, summed}
use Rattle.sccs_grammar.specs.Front.{ParsedFront, front_from, header_of, is_whole, line_after, start}
use Rattle.sccs_tokens.specs.Items.{go_on, item_at, item_of, item_read, item_standing, items_from}
use Rattle.sccs_tokens.specs.Tokens.{behind_soh, control, token}
use Rattle.sccs_tokens.specs.Written.{HasLines, IsItem, IsSerial}
use Rattle.sccs_grammar.specs.declared.header_parsers.HeaderParser.{HeaderParser}
use Rattle.sccs_tokens.specs.declared.line_tokens.LineToken.{LineToken}
use Rattle.sccs_tokens.proofs.TokenRules.{IsValidToken, control_keeps, each_of_kinds, token_well}
use Rattle.sccs_history.specs.Applied.{live_serials, serials_of}
use Rattle.sccs_history.specs.Body.{GoesOn, is_closed, is_over, mark, may_stand}
use Rattle.sccs_history.specs.History.{IsHeader, IsSpelled, IsTable, is_encoded, KeepsRules}
use Rattle.sccs_history.specs.Numbers.{has}
use Rattle.sccs_history.specs.declared.headers.Header.{Header}
use Rattle.sccs_history.specs.declared.headers.Item.{Item}
use Rattle.sccs_history.specs.declared.headers.Item.TheVariants.{Text, Insert, Delete, End}
use Rattle.sccs_history.specs.declared.headers.Record.{Record}
use Rattle.sccs_records.proofs.TableLaws.{below_bound, live_is_there, some_serial}
use Rattle.sccs_grammar.specs.declared.faults.FileFault.{FileFault}
use Rattle.sccs_grammar.proofs.AnySumLaws.{unsummed_ok}
use Rattle.sccs_grammar.proofs.ParserRules.{lines_keep_rules}
use Rattle.sccs_grammar.proofs.SpelledParsers.{lines_spelled}
use Rattle.sccs_tokens.specs.declared.line_tokens.LineToken.TheVariants as tokens

-- ---- steps of reading

then_ok : {A B E : Type 0} (P : A → Type 0) (Q : B → Type 0) (r : Result A E) (f : A → Result B E) → IfOk r P
    → ((a : A) → P a → IfOk (f a) Q) → IfOk (r >>= f) Q
then_ok P Q (Ok a) f here more = more a here
then_ok P Q (Err e) f here more = tt

if_ok : {A E : Type 0} (P : A → Type 0) (t : Bool) (a b : Result A E) → IfOk a P → IfOk b P
    → IfOk (if t then a else b) P
if_ok P true a b one two = one
if_ok P false a b one two = two

-- ---- lines

front_all : (P : List ℕ → Type 0) (xs ys : List (List ℕ)) → AllByRecursion P (xs ++ ys) → AllByRecursion P xs
front_all P [] ys are = tt
front_all P (x ∷ xs) ys are = (are.0, front_all P xs ys are.1)

lines_fit : (lines : List (List ℕ)) (tail : List ℕ) → AllByRecursion HasNoLf (closed lines tail)
    → AllByRecursion HasNoLf lines
lines_fit lines [] are = are
lines_fit lines (b ∷ tail) are = front_all HasNoLf lines ((b ∷ tail) ∷ []) are

cut_fit : (bytes : List ℕ) → AllByRecursion HasNoLf (cut bytes).lines
cut_fit bytes = lines_fit (cut bytes).lines (cut bytes).tail (recursion_from_All HasNoLf (text_of bytes)
    (text_fit bytes))

opened_fit : (bytes : List ℕ) → IfOk (opened bytes) (λ (o : Opened). AllByRecursion HasNoLf o.lines)
unfolding opened
opened_fit bytes = by (cut bytes).lines (cut_fit bytes)
  where
    by_stored : (s : Option ℕ) (lines : List (List ℕ)) (rest : List ℕ) → AllByRecursion HasNoLf lines
        → IfOk (opened_by s lines rest) (λ (o : Opened). AllByRecursion HasNoLf o.lines)
    by_stored None lines rest are = tt
    by_stored (Some n) lines rest are = are

    by : (lines : List (List ℕ)) → AllByRecursion HasNoLf lines → IfOk (opened_cut bytes lines)
        (λ (o : Opened). AllByRecursion HasNoLf o.lines)
    by [] are = tt
    by (line ∷ lines) are = by_stored (stored line) lines _ are.1

module _ (P : List ℕ → Type 0) where
  rest_by : (n : ℕ) (s : HeaderParser) (lines : List (List ℕ)) (t : Bool) → AllByRecursion P lines
      → IfOk (front_from (suc n) s lines) (λ (p : ParsedFront). AllByRecursion P p.rest)
      → IfOk (if t then Ok (record { header = header_of s; line = suc n; rest = lines })
      else front_from (suc n) s lines) (λ (p : ParsedFront). AllByRecursion P p.rest)
  rest_by n s lines true are more = are
  rest_by n s lines false are more = more

  rest_fit : (n : ℕ) (r : HeaderParser) (lines : List (List ℕ)) → AllByRecursion P lines → IfOk (front_from n r lines)
      (λ (p : ParsedFront). AllByRecursion P p.rest)
  unfolding front_from
  rest_fit n r [] are = tt
  rest_fit n r (line ∷ lines) are = by (line_after n r line) (λ s. rest_fit (suc n) s lines are.1)
    where
      by : (read : Result HeaderParser ℕ) → ((s : HeaderParser) → IfOk (front_from (suc n) s lines)
          (λ (p : ParsedFront). AllByRecursion P p.rest))
          → IfOk (read >>= λ s. if is_whole s.state
          then Ok (record { header = header_of s; line = suc n; rest = lines }) else front_from (suc n) s lines)
          (λ (p : ParsedFront). AllByRecursion P p.rest)
      by (Ok s) more = rest_by n s lines (is_whole s.state) are.1 (more s)
      by (Err k) more = tt

format_fit : {A : Type 0} (P : A → Type 0) (r : Result A ℕ) → IfOk r P → IfOk (as_format r) P
format_fit P (Ok x) here = here
format_fit P (Err line) here = tt

front_fit : (bytes : List ℕ) → IfOk (unsummed_front bytes) (λ (p : ParsedFront). AllByRecursion HasNoLf p.rest)
unfolding unsummed_front
front_fit bytes =
    then_ok (λ (o : Opened). AllByRecursion HasNoLf o.lines) (λ (p : ParsedFront). AllByRecursion HasNoLf p.rest)
    (opened bytes) _ (opened_fit bytes) λ o fit.
    format_fit (λ (p : ParsedFront). AllByRecursion HasNoLf p.rest) (front_from 2 start o.lines)
    (rest_fit HasNoLf 2 start o.lines fit)

-- ---- items

abbrev NotPlain : LineToken → Type 0
NotPlain (tokens.Plain t) = ⊥
NotPlain _ = Unit {0}

control_not : (letter : ℕ) (bytes : List ℕ) → IfSome (control letter bytes) NotPlain
control_not letter bytes =
    control_keeps NotPlain letter bytes
    (each_of_kinds NotPlain letter bytes
    (record {
      counts = λ i d u. tt;
      delta = λ r is. tt;
      listed = λ which ns. tt;
      mr = λ t. tt;
      comment = λ t. tt;
      flag = λ f. tt;
      end_entry = tt;
      users = tt;
      end_users = tt;
      description = tt;
      end_description = tt;
    })
    (λ is n. tt) (λ is n. tt) (λ is n. tt))

soh_not : (bytes : List ℕ) → IfSome (behind_soh bytes) NotPlain
soh_not [] = tt
soh_not (letter ∷ bytes) = control_not letter bytes

-- a line of text is its text
plain_is : (line t : List ℕ) → token line ≡ Some (tokens.Plain t) → line ≡ t
unfolding token
plain_is [] t is = cc
plain_is (b ∷ bytes) t is = by (b == 1) is
  where
    by : (soh : Bool) → (if soh then behind_soh bytes else Some (tokens.Plain (b ∷ bytes))) ≡ Some (tokens.Plain t)
        → (b ∷ bytes) ≡ t
    by true is2 = absurd (subst (λ o. IfSome o NotPlain) is2 (soh_not bytes))
    by false is2 = cc

abbrev ItemFits : Item → Type 0
ItemFits (Text t) = (begins 1 t ≡ false) × HasNoLf t
ItemFits (Insert n) = Unit {0}
ItemFits (Delete n) = Unit {0}
ItemFits (End n) = Unit {0}

token_fits : (said : LineToken) → IsValidToken said → ((t : List ℕ) → said ≡ tokens.Plain t → HasNoLf t)
    → IfSome (item_of said) ItemFits
token_fits (tokens.Plain t) well fit = (well, fit t refl)
token_fits (tokens.Insert n) well fit = tt
token_fits (tokens.Delete n) well fit = tt
token_fits (tokens.End n) well fit = tt
token_fits (tokens.Counts i d u) well fit = tt
token_fits (tokens.Delta r) well fit = tt
token_fits (tokens.Listed which ns) well fit = tt
token_fits (tokens.Mr t) well fit = tt
token_fits (tokens.Comment t) well fit = tt
token_fits tokens.EndEntry well fit = tt
token_fits tokens.Users well fit = tt
token_fits tokens.EndUsers well fit = tt
token_fits (tokens.FlagIs f) well fit = tt
token_fits tokens.Description well fit = tt
token_fits tokens.EndDescription well fit = tt

line_fits : (line : List ℕ) → HasNoLf line → IfSome (item_read line) ItemFits
line_fits line none = by (token line) refl (token_well line)
  where
    by : (o : Option LineToken) → token line ≡ o → IfSome o IsValidToken → IfSome (option_and_then item_of o) ItemFits
    by None is well = tt
    by (Some said) is well =
        token_fits said well (λ t same. subst HasNoLf (plain_is line t (is ∙ ap (λ (s : LineToken). Some s) same)) none)

stood : (stands : Bool) (made item : Item) → only stands made ≡ Some item → (stands ≡ true) × (made ≡ item)
stood true made item is = (refl, cc)
stood false made item is = absurd cc

abbrev pub IsLegal : Item → Type 0
IsLegal item = IsItem item × HasLines item

module _ (live : List ℕ) (serials : (m : ℕ) → has live m ≡ true → IsSerial m) where
  legal : (before : List Item) (item : Item) → may_stand live before item ≡ true → ItemFits item → IsLegal item
  legal before (Text t) stands fits = fits
  legal before (Insert n) stands fits = (serials n (and_parts (has live n) (is_closed (mark n before)) stands).0, tt)
  legal before (Delete n) stands fits = (serials n (and_parts (has live n) (is_closed (mark n before)) stands).0, tt)
  legal before (End n) stands fits = (serials n (and_parts (has live n) (not (is_closed (mark n before))) stands).0, tt)

  made_legal : (before : List Item) (o : Option Item) (item : Item) → IfSome o ItemFits → item_standing live before o
      ≡ Some item → IsLegal item
  made_legal before None item fits is = cc
  made_legal before (Some made) item fits is =
      let both = stood (may_stand live before made) made item is in subst IsLegal both.1 (legal before made both.0 fits)

  at_legal : (before : List Item) (line : List ℕ) (item : Item) → HasNoLf line → item_at live before line ≡ Some item
      → IsLegal item
  unfolding item_at
  at_legal before line item none is = made_legal before (item_read line) item (line_fits line none) is

  gone_on : (n : ℕ) (o : Option Item) (more : Item → Result (List Item) ℕ) → ((item : Item) → o ≡ Some item
      → IsLegal item) → ((item : Item) → IfOk (more item) (AllByRecursion IsLegal))
      → IfOk (go_on n o more) (AllByRecursion IsLegal)
  gone_on n None more here rest = tt
  gone_on n (Some item) more here rest = by (more item) (rest item)
    where
      by : (r : Result (List Item) ℕ) → IfOk r (AllByRecursion IsLegal) → IfOk (r >>= λ items. Ok (item ∷ items))
          (AllByRecursion IsLegal)
      by (Ok items) are = (here item refl, are)
      by (Err k) are = tt

  body_legal : (n : ℕ) (before : List Item) (lines : List (List ℕ)) (tail : List ℕ) → AllByRecursion HasNoLf lines
      → IfOk (items_from live n before lines tail) (AllByRecursion IsLegal)
  unfolding items_from
  body_legal n before [] tail none = ended (is_over before && is_empty tail)
    where
      ended : (t : Bool) → IfOk (if t then Ok [] else Err n) (AllByRecursion IsLegal)
      ended true = tt
      ended false = tt
  body_legal n before (line ∷ lines) tail none =
      gone_on n (item_at live before line) (λ item. items_from live (suc n) (item ∷ before) lines tail)
      (λ item is. at_legal before line item none.0 is) (λ item. body_legal (suc n) (item ∷ before) lines tail
      none.1)

live_serial : (records : List Record) → IsTable records → (m : ℕ) → has (live_serials records) m ≡ true → IsSerial m
live_serial records table m live =
    let there : has (serials_of records) m ≡ true = live_is_there records m live in
    (some_serial records records m table.each there, below_bound (serials_of records) 65536 m table.falls there)

-- the items of a file that was read are legal, and keep the rules
pub record HasItems (header : Header) (items : List Item) : Type 0 where
  pub legal : IsTable header.records → AllByRecursion IsLegal items
  pub goes : GoesOn (live_serials header.records) [] items

items_ok : (live : List ℕ) (n : ℕ) (lines : List (List ℕ)) (tail : List ℕ) (r : Result (List Item) ℕ)
    → items_from live n [] lines tail ≡ r → IfOk r (GoesOn live [])
items_ok live n lines tail (Ok items) is = body_read live n [] lines tail items is
items_ok live n lines tail (Err k) is = tt

with_both : {A E : Type 0} (P Q : A → Type 0) (r : Result A E) → IfOk r P → IfOk r Q → IfOk r (λ x. P x × Q x)
with_both P Q (Ok x) one two = (one, two)
with_both P Q (Err e) one two = tt

under : {A E : Type 0} (H : Type 0) (P : A → Type 0) (r : Result A E) → (H → IfOk r P) → IfOk r (λ x. H → P x)
under H P (Ok x) are = are
under H P (Err e) are = tt

-- whatever its stored sum is
pub unsummed_fits : (bytes : List ℕ) → IfOk (unsummed_file bytes) (λ (f : Parsed). HasItems f.header f.items)
unfolding unsummed_file
unsummed_fits bytes =
    then_ok (λ (p : ParsedFront). AllByRecursion HasNoLf p.rest) (λ (f : Parsed). HasItems f.header f.items)
    (unsummed_front bytes) _ (front_fit bytes) λ p fit.
    then_ok (λ items. (IsTable p.header.records → AllByRecursion IsLegal items) × GoesOn (live_serials p.header.records)
    [] items) (λ (f : Parsed). HasItems f.header f.items)
    (as_format (items_from (live_serials p.header.records) p.line [] p.rest (cut bytes).tail)) _
    (format_fit (λ items. (IsTable p.header.records → AllByRecursion IsLegal items)
    × GoesOn (live_serials p.header.records) [] items) (items_from (live_serials p.header.records) p.line [] p.rest
    (cut bytes).tail)
    (with_both (λ items. IsTable p.header.records → AllByRecursion IsLegal items)
    (GoesOn (live_serials p.header.records) []) (items_from (live_serials p.header.records) p.line [] p.rest
    (cut bytes).tail)
    (under (IsTable p.header.records) (AllByRecursion IsLegal) (items_from (live_serials p.header.records) p.line []
    p.rest (cut bytes).tail) (λ table. body_legal (live_serials p.header.records)
    (live_serial p.header.records table) p.line [] p.rest (cut bytes).tail fit))
    (items_ok (live_serials p.header.records) p.line p.rest (cut bytes).tail
    (items_from (live_serials p.header.records) p.line [] p.rest (cut bytes).tail) refl)))
    λ items both.
    if_ok (λ (f : Parsed). HasItems f.header f.items) (is_encoded p.header.flags) (Err _)
    (Ok (record { header = p.header; items = items })) tt (record { legal = both.0; goes = both.1 })

pub file_fits : (bytes : List ℕ) → IfOk (file_of bytes) (λ (f : Parsed). HasItems f.header f.items)
file_fits bytes = by (file_of bytes) refl
  where
    by : (r : Result Parsed FileFault) → file_of bytes ≡ r → IfOk r (λ (f : Parsed). HasItems f.header f.items)
    by (Ok f) is = subst (λ s. IfOk s (λ (g : Parsed). HasItems g.header g.items)) (unsummed_ok bytes f is)
        (unsummed_fits bytes)
    by (Err fault) is = tt

-- ---- what is legal is an item of lines

pub legal_items : (items : List Item) → AllByRecursion IsLegal items → AllByRecursion IsItem items
legal_items [] are = tt
legal_items (item ∷ items) are = (are.0.0, legal_items items are.1)

pub legal_lines : (items : List Item) → AllByRecursion IsLegal items → AllByRecursion HasLines items
legal_lines [] are = tt
legal_lines (item ∷ items) are = (are.0.1, legal_lines items are.1)

-- ---- the rules that a file keeps

-- where the whole is read each part was
read_on : {A B : Type 0} (r : Result A FileFault) (f : A → Result B FileFault) (y : B) → (r >>= f) ≡ Ok y → (x : A)
    × (r ≡ Ok x) × (f x ≡ Ok y)
read_on (Ok x) f y is = (x, refl, is)
read_on (Err fault) f y is = absurd cc

ok_fits : {A : Type 0} (P : A → Type 0) (r : Result A FileFault) (x : A) → r ≡ Ok x → IfOk r P → P x
ok_fits P r x is here = subst (λ s. IfOk s P) is here

front_read : (r : Result ParsedFront ℕ) (p : ParsedFront) → as_format r ≡ Ok p → r ≡ Ok p
front_read (Ok q) p is = let same : q ≡ p = cc in ap (λ (x : ParsedFront). Ok x) same
front_read (Err line) p is = absurd cc

sum_read : (o q : Opened) (fault : FileFault) (holds : Bool) → (if holds then Ok o else Err fault) ≡ Ok q → o ≡ q
sum_read o q fault true is = cc
sum_read o q fault false is = absurd cc

unencoded : (made file : Parsed) (fault : FileFault) (encoded : Bool) → (if encoded then Err fault else Ok made)
    ≡ Ok file → (encoded ≡ false) × (made ≡ file)
unencoded made file fault true is = absurd cc
unencoded made file fault false is = (refl, cc)

front_keeps : (bytes : List ℕ) (p : ParsedFront) → checked_front bytes ≡ Ok p → KeepsRules p.header × IsSpelled p.header
unfolding checked_front
front_keeps bytes p is =
    let first = read_on (opened bytes) _ p is in
    let second = read_on (summed first.0) _ p first.2 in
    let read = front_read (front_from 2 start second.0.lines) p second.2 in
    let fit : AllByRecursion HasNoLf first.0.lines = ok_fits (λ (o : Opened). AllByRecursion HasNoLf o.lines)
    (opened bytes) first.0 first.1 (opened_fit bytes) in (
      lines_keep_rules 2 second.0.lines p read,
      lines_spelled 2 second.0.lines p (subst (λ (o : Opened). AllByRecursion HasNoLf o.lines)
          (sum_read first.0 second.0 _ (sum_holds first.0) second.1) fit) read,
    )

-- What is so of each file that is read.
pub record IsFileOfRules (file : Parsed) : Type 0 where
  pub header : IsHeader file.header
  pub spelled : IsSpelled file.header
  pub goes : GoesOn (live_serials file.header.records) [] file.items

header_keeps : (bytes : List ℕ) (file : Parsed) → file_of bytes ≡ Ok file → IsHeader file.header × IsSpelled file.header
unfolding file_of
header_keeps bytes file is =
    let front = read_on (checked_front bytes) _ file is in
    let items = read_on (as_format (items_from (live_serials front.0.header.records) front.0.line [] front.0.rest
    (cut bytes).tail)) _ file front.2 in
    let plain = unencoded (record { header = front.0.header; items = items.0 }) file _ (is_encoded front.0.header.flags)
    items.2 in
    let keeps = front_keeps bytes front.0 front.1 in
    subst (λ (f : Parsed). IsHeader f.header × IsSpelled f.header) plain.1 (
      record { rules = keeps.0; plain = plain.0 },
      keeps.1,
    )

pub file_keeps : (bytes : List ℕ) (file : Parsed) → file_of bytes ≡ Ok file → IsFileOfRules file
file_keeps bytes file is =
    let keeps = header_keeps bytes file is in
    let has_items : HasItems file.header file.items = ok_fits (λ (f : Parsed). HasItems f.header f.items)
    (file_of bytes) file is (file_fits bytes) in
    record { header = keeps.0; spelled = keeps.1; goes = has_items.goes }
