-- What one reading behind the sum line, and the sum of its bytes, make of the answer for a whole file.
use Rattle.std.proofs.Common.{◌≡◌, inl, inr, ℕ, ◌≤◌, true, false, List, [], length, drop, Option, None, Some, Result}
use Rattle.std.proofs.Common.{Ok, Err, sym, ap, ◌∙◌, subst, arith}
use Rattle.std.specs.Prelude.{IfSome}
use Rattle.sccs_base.specs.Cut.{cut}
use Rattle.sccs_disk.specs.Files.{View}
use Rattle.sccs_history.specs.Applied.{live_serials}
use Rattle.sccs_history.specs.History.{is_encoded}
use Rattle.sccs_grammar.specs.Front.{start}
use Rattle.sccs_grammar.specs.File.{checked_front}
use Rattle.sccs_tokens.specs.Items.{items_from}
use Rattle.sccs_grammar.specs.declared.faults.FileFault.{FileFault}
use Rattle.sccs_grammar.specs.declared.faults.FileFault.TheVariants.{Encoded, Memory}
use Rattle.sccs_table.specs.declared.fronts.Front.{Front}
use Rattle.sccs_table.specs.ReaderState.{ReaderState, StandsIn, behind_sum, bytes_in, file_in, left}
use Rattle.sccs_table.specs.FrontFile.{AnswersFront, ChecksSum, Opens, TakesSum, Reads}
use Rattle.sccs_table.proofs.FileLaws.{at_file, format_refused, front_found, sum_judged, sum_refused}
use Rattle.sccs_body.specs.BodyFile.{AnswersFile, ChecksFile, ChecksFound, ChecksRest, items_left, items_of}
use Rattle.sccs_body.specs.Behind.{IsRead, ReadsBehind}
use Rattle.sccs_body.specs.Reader.{BodyPlace}
use Rattle.sccs_body.proofs.NumberLaws.{number_low}
use Rattle.sccs_body.proofs.FileLaws.{refusal_stays, refused_in, encoded_in, plain_in}

-- the answer is needed at a file that is told alone
pub whole_answer : (view : Option View) (name : List ℕ) (size : ℕ) (result : Result Front FileFault) → size ≤ 1073741824
    → Opens view name (Ok size)
    → ((file : List ℕ) → bytes_in view name ≡ Some file → size ≡ length file → length file ≤ 1073741824
    → AnswersFile (Some file) result)
    → IfSome view (λ v. AnswersFile (file_in v name) result)
whole_answer None name size result limit opens answers = tt
whole_answer (Some view) name size result limit opens answers =
    subst (λ o. AnswersFile o result) (sym opens.1) (answers opens.0 opens.1 opens.2
    (subst (λ n. n ≤ 1073741824) opens.2 limit))

abbrev pub with_sum : Front → ℕ → Front
with_sum front sum = record front { sum = sum }

module _ (file : List ℕ) (limit : length file ≤ 1073741824) (new : ReaderState) where
  pub whole_unopened : (e : FileFault) → TakesSum file new (Err e) → AnswersFile (Some file) (Err e)
  whole_unopened e takes = refusal_stays (Some file) e (at_file file (Err e) checked_front limit
      (sum_refused file new e takes))

  module _ (n : ℕ) (takes : TakesSum file new (Ok n)) where
    pub whole_judged : (e : FileFault) → ChecksSum n (behind_sum file) (Err e) → AnswersFile (Some file) (Err e)
    whole_judged e checks = refusal_stays (Some file) e (at_file file (Err e) checked_front limit
        (sum_judged file new n e takes checks))

    module _ (sum : ℕ) (checks : ChecksSum n (behind_sum file) (Ok sum)) where
      front_shown : (front : Front) → IsRead file new front → AnswersFront (Some file) checked_front
          (Ok (with_sum front sum))
      front_shown front read =
          at_file file (Ok (with_sum front sum)) checked_front limit
          (front_found file new read.0 n front.size front.body_from sum front.header front.body_line takes checks
          read.3 read.1 read.2)

      pub whole_refused : (e : FileFault) → ReadsBehind file new (Err e) → AnswersFile (Some file) (Err e)
      whole_refused e (inl read) = refusal_stays (Some file) e (at_file file (Err e) checked_front limit
          (format_refused file new read.0 n takes checks.0 e read.1))
      whole_refused e (inr read) = refused_in (Some file) (with_sum read.0 sum) e (front_shown read.0 read.1)
          (λ long. read.2)

      pub whole_encoded : (front : Front) → is_encoded front.header.flags ≡ true → ReadsBehind file new (Ok front)
          → AnswersFile (Some file) (Err Encoded)
      whole_encoded front encoded read = encoded_in (Some file) (with_sum front sum) encoded (front_shown front read.0)
          (λ long. read.1)

      pub whole_plain : (front : Front) → is_encoded front.header.flags ≡ false → ReadsBehind file new (Ok front)
          → AnswersFile (Some file) (Ok (with_sum front sum))
      whole_plain front encoded read = plain_in (Some file) (with_sum front sum) encoded (front_shown front read.0)
          (λ long. read.1)

-- what was read of a told file
pub read_of : (p : Option (List ℕ)) (file : List ℕ) (now : ReaderState) (size : ℕ) (read : Result Front FileFault)
    → p ≡ Some file → StandsIn now file → size ≡ length file → IfSome p (λ f. StandsIn now f → size ≡ length f
    → ReadsBehind f now read) → ReadsBehind file now read
read_of p file now size read is stands long told = subst (λ q. IfSome q (λ f. StandsIn now f → size ≡ length f
    → ReadsBehind f now read)) is told stands long

-- ---- reading behind the sum line

pub lines_refused : (o : Option (List ℕ)) (old last : ReaderState) (size : ℕ) (e : FileFault) → Reads o old last start 2
    (Err e) → IfSome o (λ file. StandsIn old file → size ≡ length file → ReadsBehind file old (Err e))
lines_refused None old last size e reads = tt
lines_refused (Some file) old last size e reads = λ stands long. inl (last, reads stands)

-- there was no memory for the state of the body
pub state_refused : (o : Option (List ℕ)) (old last : ReaderState) (front : Front) → front.body_from ≡ last.place
    → Reads o old last start 2 (Ok (front.header, front.body_line)) → IfSome o (λ file. StandsIn old file
    → front.size ≡ length file → ReadsBehind file old (Err Memory))
state_refused None old last front from reads = tt
state_refused (Some file) old last front from reads = λ stands long. inr (front, (last, reads stands, from, long), tt)

-- the body that was read is that of the front
items_are : (file : List ℕ) (front : Front) (begun : BodyPlace) → front.body_from ≡ begun.lines.place
    → begun.from ≡ begun.lines.place → front.body_line ≡ begun.first
    → items_left file (live_serials front.header.records) begun ≡ items_of file front
items_are file front begun from begins line =
    ap (λ n. items_from (live_serials front.header.records) n [] (left begun.lines file).lines
    (left begun.lines file).tail) (number_low file begun (omega (arith, begins)) ∙ sym line)
    ∙ ap (λ n. items_from (live_serials front.header.records) front.body_line [] (cut (drop n file)).lines
    (cut (drop n file)).tail) (sym from)

module _ (old : ReaderState) (front : Front) (begun : BodyPlace) (from : front.body_from ≡ begun.lines.place)
    (begins : begun.from ≡ begun.lines.place) (line : front.body_line ≡ begun.first) where
  rest_checked : (q : Option (List ℕ)) (file : List ℕ) (result : Result (Unit {0}) FileFault) → q ≡ Some file
      → StandsIn begun.lines file → ChecksRest q (live_serials front.header.records) begun result
      → ChecksFile file front result
  rest_checked q file result is stands checks =
      subst (λ found. ChecksFound found result) (items_are file front begun from begins line)
      (subst (λ o. ChecksRest o (live_serials front.header.records) begun result) is checks stands)

  pub items_refused : (o q : Option (List ℕ)) (e : FileFault) → q ≡ o → Reads o old begun.lines start 2
      (Ok (front.header, front.body_line)) → ChecksRest q (live_serials front.header.records) begun (Err e)
      → IfSome o (λ file. StandsIn old file → front.size ≡ length file → ReadsBehind file old (Err e))
  items_refused None q e same reads checks = tt
  items_refused (Some file) q e same reads checks = λ stands long.
      let read = reads stands in
      inr (front, (begun.lines, read, from, long), rest_checked q file (Err e) same read.0 checks)

  pub whole_read : (o q : Option (List ℕ)) → q ≡ o → Reads o old begun.lines start 2
      (Ok (front.header, front.body_line)) → ChecksRest q (live_serials front.header.records) begun (Ok tt)
      → IfSome o (λ file. StandsIn old file → front.size ≡ length file → ReadsBehind file old (Ok front))
  whole_read None q same reads checks = tt
  whole_read (Some file) q same reads checks = λ stands long.
      let read = reads stands in
      ((begun.lines, read, from, long), rest_checked q file (Ok tt) same read.0 checks)
