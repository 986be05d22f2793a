-- What the parts of a reading make of the answer for a whole file.
use Rattle.std.proofs.Common.{◌≡◌, ℕ, ◌+◌, ◌≤◌, min, ◌==◌, Bool, true, false, ◌&&◌, ◌||◌, List, [], ◌∷◌, length, take}
use Rattle.std.proofs.Common.{drop, Option, None, Some, Result, Ok, Err, refl, sym, ap, ◌∙◌, subst, arith, eq-eqb}
use Rattle.std.proofs.Common.{length-take}
use Rattle.std.specs.Prelude.{IfSome, if◌then◌else◌}
use Rattle.std.proofs.lemmas.Bool.{eqb-true, le-ltb}
use Rattle.std.proofs.lemmas.List.{drop_all, take_all}
use Rattle.sccs_base.specs.Cut.{Cut, cut}
use Rattle.sccs_sid.specs.Reading.{◌>>=◌, number}
use Rattle.sccs_disk.specs.Files.{View}
use Rattle.sccs_history.specs.History.{is_encoded}
use Rattle.sccs_history.specs.declared.headers.Header.{Header}
use Rattle.sccs_grammar.specs.Front.{ParsedFront, start, front_from}
use Rattle.sccs_grammar.specs.File.{Opened, five_digits, stored, opened_by, opened_cut, opened, sum_holds, summed}
use Rattle.sccs_grammar.specs.File.{as_format, answer, within_limit, checked_front, front_of, not_encoded}
use Rattle.sccs_tokens.specs.Sums.{plain_sum, signed_sum}
use Rattle.sccs_grammar.specs.declared.faults.FileFault.{FileFault}
use Rattle.sccs_grammar.specs.declared.faults.FileFault.TheVariants.{Missing, TooLong, NotSccs, BadSum, BadFormat}
use Rattle.sccs_grammar.specs.declared.faults.FileFault.TheVariants.{Encoded, Changed, Failed, Memory}
use Rattle.sccs_table.specs.declared.fronts.Front.{Front}
use Rattle.sccs_table.specs.SumOf.{IsPlainSumOf, IsSumOf, is_sum_of}
use Rattle.sccs_table.specs.ReaderState.{ReaderState, StandsIn, Stays, TakesLine, behind_sum, bytes_in, file_in, left}
use Rattle.sccs_table.specs.FrontFile.{Refuses, ShowsOrRefuses, ChecksSum, IsFrontOf, AnswersFront, ShowsFront, Opens}
use Rattle.sccs_table.specs.FrontFile.{TakesSum, SumLine, ReadsLines, Reads}
use Rattle.sccs_table.proofs.ReaderLaws.{holding}

-- ---- the sum line

opened_lines : (file : List ℕ) (lines : List (List ℕ)) → (cut file).lines ≡ lines → opened file ≡ opened_cut file lines
unfolding opened
opened_lines file lines is = ap (opened_cut file) is

from_front : (old : ReaderState) (file : List ℕ) → old.place ≡ 0 → left old file ≡ cut file
from_front old file zero_is = ap (λ n. cut (drop n file)) zero_is

pub no_sum_line : (o : Option (List ℕ)) (old new : ReaderState) (line : List ℕ) → old.place ≡ 0
    → TakesLine o old new line false → SumLine o old new (Err NotSccs)
no_sum_line None old new line front takes = tt
no_sum_line (Some file) old new line front takes = λ stands.
    opened_lines file [] (ap (λ (c : Cut). c.lines) (sym (from_front old file front) ∙ (takes stands).1))

by_five : (test : Bool) (digits : List ℕ) (n : ℕ) → (length digits == 5) ≡ test → (if test then number 5 digits
    else None) ≡ Some n → length digits ≡ 5
by_five true digits n is some = eqb-true (length digits) 5 is
by_five false digits n is some = cc

by_letters : (test : Bool) (digits : List ℕ) (n : ℕ) → (if test then five_digits digits else None) ≡ Some n
    → length digits ≡ 5
by_letters true digits n some = by_five (length digits == 5) digits n refl some
by_letters false digits n some = cc

-- a sum line has seven bytes before its LF
pub stored_long : (line : List ℕ) (n : ℕ) → stored line ≡ Some n → length line ≡ 7
unfolding stored
stored_long [] n some = cc
stored_long (soh ∷ []) n some = cc
stored_long (soh ∷ letter ∷ digits) n some =
    let five = by_letters ((soh == 1) && (letter == 104)) digits n some in omega arith

opened_first : (old new : ReaderState) (file line : List ℕ) (found : Option ℕ) → old.place ≡ 0
    → left old file ≡ record { lines = line ∷ (left new file).lines; tail = (left new file).tail } → stored line ≡ found
    → opened file ≡ opened_by found (left new file).lines (drop (length line + 1) file)
opened_first old new file line found front is says =
    opened_lines file (line ∷ (left new file).lines) (ap (λ (c : Cut). c.lines) (sym (from_front old file front) ∙ is))
    ∙ ap (λ o. opened_by o (left new file).lines (drop (length line + 1) file)) says

pub other_line : (o : Option (List ℕ)) (old new : ReaderState) (line : List ℕ) → old.place ≡ 0
    → TakesLine o old new line true → stored line ≡ None → SumLine o old new (Err NotSccs)
other_line None old new line front takes says = tt
other_line (Some file) old new line front takes says = λ stands. opened_first old new file line None front
    (takes stands).1 says

pub sum_line_found : (o : Option (List ℕ)) (old new : ReaderState) (line : List ℕ) (n : ℕ) → old.place ≡ 0
    → TakesLine o old new line true → stored line ≡ Some n → SumLine o old new (Ok n)
sum_line_found None old new line n front takes says = tt
sum_line_found (Some file) old new line n front takes says = λ stands.
    let taken = takes stands in
    let long : length line + 1 ≡ 8 = ap (λ k. k + 1) (stored_long line n says) in (
      taken.0,
      opened_first old new file line (Some n) front taken.1 says
          ∙ ap (λ k. opened_by (Some n) (left new file).lines (drop k file)) long,
      ap (λ (c : Cut). c.tail)
          (sym (from_front old file front) ∙ taken.1),
    )

-- ---- the answer for the bytes of a file

checked_unopened : (file : List ℕ) → opened file ≡ Err NotSccs → checked_front file ≡ Err NotSccs
unfolding checked_front
checked_unopened file is = rw is refl

checked_by : (file : List ℕ) (o : Opened) (holds : Bool) → opened file ≡ Ok o → sum_holds o ≡ holds
    → checked_front file ≡ ((if holds then Ok o else Err (BadSum o.sum_of (plain_sum o.bytes))) >>= λ (p : Opened).
    as_format (front_from 2 start p.lines))
unfolding checked_front
checked_by file o holds is sums = rw (is, sums) refl

abbrev opened_at : ReaderState → List ℕ → ℕ → Opened
opened_at new file n = record { sum_of = n; lines = (left new file).lines; bytes = behind_sum file }

pub sum_refused : (file : List ℕ) (new : ReaderState) (e : FileFault) → TakesSum file new (Err e)
    → Refuses e (checked_front file)
sum_refused file new Missing takes = absurd takes
sum_refused file new TooLong takes = absurd takes
sum_refused file new NotSccs takes = checked_unopened file takes
sum_refused file new (BadSum s c) takes = absurd takes
sum_refused file new (BadFormat k) takes = absurd takes
sum_refused file new Encoded takes = absurd takes
sum_refused file new (Changed a b c d) takes = absurd takes
sum_refused file new Failed takes = tt
sum_refused file new Memory takes = tt

-- the answer for a file whose stored sum is judged
pub sum_judged : (file : List ℕ) (new : ReaderState) (n : ℕ) (e : FileFault) → TakesSum file new (Ok n)
    → ChecksSum n (behind_sum file) (Err e) → Refuses e (checked_front file)
sum_judged file new n Missing takes checks = absurd checks
sum_judged file new n TooLong takes checks = absurd checks
sum_judged file new n NotSccs takes checks = absurd checks
sum_judged file new n (BadSum s plain) takes checks =
    checked_by file (opened_at new file n) false takes.1 checks.0 ∙ (ap (λ c. Err (BadSum n c)) (sym checks.2)
    ∙ ap (λ k. Err (BadSum k plain)) (sym checks.1))
sum_judged file new n (BadFormat k) takes checks = absurd checks
sum_judged file new n Encoded takes checks = absurd checks
sum_judged file new n (Changed a b c d) takes checks = absurd checks
sum_judged file new n Failed takes checks = tt
sum_judged file new n Memory takes checks = absurd checks

checked_lines : (file : List ℕ) (new : ReaderState) (n : ℕ) → TakesSum file new (Ok n) → is_sum_of n (behind_sum file)
    ≡ true → checked_front file ≡ as_format (front_from 2 start (left new file).lines)
checked_lines file new n takes fits = checked_by file (opened_at new file n) true takes.1 fits

module _ (file : List ℕ) (new last : ReaderState) (n : ℕ) (takes : TakesSum file new (Ok n))
    (fits : is_sum_of n (behind_sum file) ≡ true) where
  pub format_refused : (e : FileFault) → ReadsLines file new last start 2 (Err e) → Refuses e (checked_front file)
  format_refused Missing reads = absurd reads
  format_refused TooLong reads = absurd reads
  format_refused NotSccs reads = absurd reads
  format_refused (BadSum s c) reads = absurd reads
  format_refused (BadFormat k) reads = checked_lines file new n takes fits ∙ ap as_format reads
  format_refused Encoded reads = absurd reads
  format_refused (Changed a b c d) reads = absurd reads
  format_refused Failed reads = tt
  format_refused Memory reads = tt

abbrev cut_with : List (List ℕ) → List ℕ → Cut
cut_with lines tail = record { lines = lines; tail = tail }

abbrev pub front_with : Header → ℕ → ℕ → ℕ → ℕ → Front
front_with header place line size sum =
    record { header = header; body_from = place; body_line = line; size = size; sum = sum }

pub front_found : (file : List ℕ) (new last : ReaderState) (n size place plain : ℕ) (header : Header) (line : ℕ)
    → TakesSum file new (Ok n) → ChecksSum n (behind_sum file) (Ok plain) → size ≡ length file
    → ReadsLines file new last start 2 (Ok (header, line)) → place ≡ last.place
    → ShowsOrRefuses (λ p front. IsFrontOf file p front) (Ok (front_with header place line size plain))
    (checked_front file)
front_found file new last n size place plain header line takes checks long reads place_is =
    let read : ParsedFront = record { header = header; line = line; rest = (left last file).lines } in (
      read,
      checked_lines file new n takes checks.0 ∙ ap as_format reads.2,
      record {
        header = refl;
        line = refl;
        body = ap (λ k. cut (drop k file)) place_is ∙ ap (λ tail. cut_with (left last file).lines tail)
            (sym (takes.2 ∙ reads.1));
        size = long;
        sum = checks.1;
      },
    )

-- ---- the answer for a file that may not be there

within_at : (file : List ℕ) (read : List ℕ → Result ParsedFront FileFault) → length file ≤ 1073741824
    → answer read (Some file) ≡ read file
within_at file read limit = rw (le-ltb 1073741824 (length file) limit) refl

pub at_file : (file : List ℕ) (result : Result Front FileFault) (read : List ℕ → Result ParsedFront FileFault)
    → length file ≤ 1073741824 → ShowsOrRefuses (λ p front. IsFrontOf file p front) result (read file)
    → AnswersFront (Some file) read result
at_file file result read limit answers = subst (λ a. ShowsOrRefuses (λ p front. IsFrontOf file p front) result a)
    (sym (within_at file read limit)) answers

-- a new reader stands in its file
pub fresh_stands : (name file : List ℕ) (limit : ℕ) → length file ≤ limit → StandsIn (holding name [] 0 limit 0) file
fresh_stands name file limit low = record { limit = low; within = omega arith; held = refl; sum = refl }

-- behind the sum line too
pub again_stands : (name file : List ℕ) (limit : ℕ) → length file ≤ limit → 8 ≤ length file
    → StandsIn (holding name [] 8 limit 0) file
again_stands name file limit low long = record {
  limit = low;
  within = omega arith;
  held = refl;
  sum = ap plain_sum (sym (drop_all 8 (take 8 file) (omega (arith, length-take 8 file))));
}

pub front_answer : (view : Option View) (name : List ℕ) (size : ℕ) (result : Result Front FileFault) → size ≤ 1073741824
    → Opens view name (Ok size)
    → ((file : List ℕ) → bytes_in view name ≡ Some file → size ≡ length file
    → ShowsOrRefuses (λ p front. IsFrontOf file p front) result (checked_front file))
    → IfSome view (λ v. AnswersFront (file_in v name) checked_front result)
front_answer None name size result limit opens answers = tt
front_answer (Some view) name size result limit opens answers =
    subst (λ o. AnswersFront o checked_front result) (sym opens.1) (at_file opens.0 result checked_front
    (omega (arith, opens.2)) (answers opens.0 opens.1 opens.2))

-- ---- the parts of a reading, at a file that is there

pub sum_taken : (o : Option (List ℕ)) (file name : List ℕ) (size : ℕ) (old new : ReaderState)
    (result : Result ℕ FileFault) → o ≡ Some file → old ≡ holding name [] 0 size 0 → size ≡ length file
    → SumLine o old new result → TakesSum file new result
sum_taken o file name size old new result is fresh long takes =
    subst (λ q. SumLine q old new result) is takes (subst (λ s. StandsIn s file) (sym fresh)
    (fresh_stands name file size (omega arith)))

pub lines_taken : (o : Option (List ℕ)) (file : List ℕ) (new last : ReaderState) (n : ℕ)
    (result : Result (Header × ℕ) FileFault) → o ≡ Some file → TakesSum file new (Ok n)
    → Reads o new last start 2 result → ReadsLines file new last start 2 result
lines_taken o file new last n result is takes reads = subst (λ q. Reads q new last start 2 result) is reads takes.0

-- the sum line that was read, and the sum that was judged at the end of the file
pub judged : (o p q : Option (List ℕ)) (file name : List ℕ) (size : ℕ) (begun now last : ReaderState) (n : ℕ)
    (sum : Result ℕ FileFault) → o ≡ Some file → p ≡ Some file → q ≡ Some file → begun ≡ holding name [] 0 size 0
    → size ≡ length file
    → SumLine o begun now (Ok n) → now.place ≡ 8 → Stays p now last → ((f : List ℕ) → q ≡ Some f → 8 ≤ length f
    → StandsIn last f → ChecksSum n (behind_sum f) sum) → TakesSum file now (Ok n)
    × ChecksSum n (behind_sum file) sum
judged o p q file name size begun now last n sum o_is p_is q_is fresh long line place_is stays checks =
    let takes = sum_taken o file name size begun now (Ok n) o_is fresh long line in
    (takes, checks file q_is (omega (arith, place_is, takes.0.within)) (stays file p_is takes.0))

-- ---- the sums at the end of a file

pub sum_of_all : (r : ReaderState) (file : List ℕ) (to : ℕ) → length file ≤ to → min to (length file) ≤ r.place
    → StandsIn r file → IsPlainSumOf r.sum (behind_sum file)
sum_of_all r file to low past stands =
    stands.sum ∙ ap (λ bytes. plain_sum (behind_sum bytes)) (take_all (r.place + length r.held) file
    (omega (arith, past, low)))

pub is_plain : (stored : ℕ) (bytes : List ℕ) → stored ≡ plain_sum bytes → is_sum_of stored bytes ≡ true
is_plain stored bytes is = ap (λ test. test || (stored == signed_sum bytes)) (eq-eqb stored (plain_sum bytes) is)

pub is_either : (stored : ℕ) (bytes : List ℕ) (sums : ℕ × ℕ) (fits : Bool) → IsSumOf sums bytes
    → ((stored == sums.0) || (stored == sums.1)) ≡ fits → is_sum_of stored bytes ≡ fits
is_either stored bytes sums fits are test = ap (λ n. (stored == n) || (stored == signed_sum bytes)) (sym are.0)
    ∙ (ap (λ n. (stored == sums.0) || (stored == n)) (sym are.1) ∙ test)

-- the sums of a second reading
pub sums_again : (o : Option (List ℕ)) (file name : List ℕ) (limit : ℕ) (again : ReaderState) (sums : ℕ × ℕ)
    → o ≡ Some file → again ≡ holding name [] 8 limit 0 → length file ≤ limit → 8 ≤ length file
    → IfSome o (λ f. StandsIn again f → IsSumOf sums (drop again.place f)) → IsSumOf sums (behind_sum file)
sums_again o file name limit again sums is fresh low long summed =
    let here = subst (λ q. IfSome q (λ f. StandsIn again f → IsSumOf sums (drop again.place f))) is summed in
    subst (λ n. IsSumOf sums (drop n file)) (ap (λ (s : ReaderState). s.place) fresh)
    (here (subst (λ s. StandsIn s file) (sym fresh) (again_stands name file limit low long)))

-- ---- whether the body is encoded

front_by : (file : List ℕ) (p : ParsedFront) → checked_front file ≡ Ok p → front_of file ≡ not_encoded p.header p
unfolding front_of
front_by file p is = rw is refl

front_fails : (file : List ℕ) (e : FileFault) → checked_front file ≡ Err e → front_of file ≡ Err e
unfolding front_of
front_fails file e is = rw is refl

-- the answers that don't come from the bytes are the same
within_fails : (r : Result (List ℕ) FileFault) (e : FileFault) → (r >>= checked_front) ≡ Err e
    → (r >>= front_of) ≡ Err e
within_fails (Ok file) e is = front_fails file e is
within_fails (Err f) e is = is

answer_fails : (o : Option (List ℕ)) (e : FileFault) → answer checked_front o ≡ Err e → answer front_of o ≡ Err e
answer_fails None e is = is
answer_fails (Some file) e is = within_fails (within_limit file) e is

refusal_stays : (o : Option (List ℕ)) (e : FileFault) → Refuses e (answer checked_front o)
    → Refuses e (answer front_of o)
refusal_stays o Missing is = answer_fails o Missing is
refusal_stays o TooLong is = answer_fails o TooLong is
refusal_stays o NotSccs is = answer_fails o NotSccs is
refusal_stays o (BadSum s c) is = answer_fails o (BadSum s c) is
refusal_stays o (BadFormat k) is = answer_fails o (BadFormat k) is
refusal_stays o Encoded is = answer_fails o Encoded is
refusal_stays o (Changed a b c d) is = is
refusal_stays o Failed is = tt
refusal_stays o Memory is = tt

pub front_refused : (view : Option View) (name : List ℕ) (e : FileFault)
    → IfSome view (λ v. AnswersFront (file_in v name) checked_front (Err e))
    → IfSome view (λ v. AnswersFront (file_in v name) front_of (Err e))
front_refused None name e answers = tt
front_refused (Some view) name e answers = refusal_stays (file_in view name) e answers

within_finds : (r : Result (List ℕ) FileFault) (p : ParsedFront) → (r >>= checked_front) ≡ Ok p
    → (r >>= front_of) ≡ not_encoded p.header p
within_finds (Ok file) p is = front_by file p is
within_finds (Err f) p is = cc

answer_finds : (o : Option (List ℕ)) (p : ParsedFront) → answer checked_front o ≡ Ok p
    → answer front_of o ≡ not_encoded p.header p
answer_finds None p is = cc
answer_finds (Some file) p is = within_finds (within_limit file) p is

shown_header : (o : Option (List ℕ)) (front : Front) (p : ParsedFront) → ShowsFront o front p → front.header ≡ p.header
shown_header None front p shows = absurd shows
shown_header (Some file) front p shows = shows.header

pub encoded_so : (front : Front) (p : ParsedFront) (encoded : Bool) → front.header ≡ p.header
    → is_encoded front.header.flags ≡ encoded → is_encoded p.header.flags ≡ encoded
encoded_so front p encoded same is = ap (λ (h : Header). is_encoded h.flags) (sym same) ∙ is

pub front_plain : (view : Option View) (name : List ℕ) (front : Front) → is_encoded front.header.flags ≡ false
    → IfSome view (λ v. AnswersFront (file_in v name) checked_front (Ok front))
    → IfSome view (λ v. AnswersFront (file_in v name) front_of (Ok front))
front_plain None name front is answers = tt
front_plain (Some view) name front is answers =
    let plain = encoded_so front answers.0 false (shown_header (file_in view name) front answers.0 answers.2) is in
    (answers.0, answer_finds (file_in view name) answers.0 answers.1 ∙ rw plain refl, answers.2)

pub front_encoded : (view : Option View) (name : List ℕ) (front : Front) → is_encoded front.header.flags ≡ true
    → IfSome view (λ v. AnswersFront (file_in v name) checked_front (Ok front))
    → IfSome view (λ v. AnswersFront (file_in v name) front_of (Err Encoded))
front_encoded None name front is answers = tt
front_encoded (Some view) name front is answers =
    let encoded = encoded_so front answers.0 true (shown_header (file_in view name) front answers.0 answers.2) is in
    answer_finds (file_in view name) answers.0 answers.1 ∙ rw encoded refl
