-- What the parts of a reading make of the answer for a whole file whose stored sum is passed over.
use Rattle.std.proofs.Common.{◌≡◌, inl, inr, ℕ, ◌≤◌, true, false, List, [], length, drop, Option, None, Some, Result}
use Rattle.std.proofs.Common.{Ok, Err, refl, sym, ap, ◌∙◌, subst, arith}
use Rattle.std.specs.Prelude.{IfOk, IfSome}
use Rattle.std.proofs.lemmas.Bool.{le-ltb}
use Rattle.sccs_base.specs.Cut.{cut}
use Rattle.sccs_disk.specs.Files.{View}
use Rattle.sccs_history.specs.Applied.{live_serials}
use Rattle.sccs_history.specs.History.{is_encoded}
use Rattle.sccs_history.specs.declared.headers.Item.{Item}
use Rattle.sccs_tokens.specs.Items.{items_from}
use Rattle.sccs_grammar.specs.Front.{ParsedFront, front_from, start}
use Rattle.sccs_grammar.specs.File.{Opened, answer, as_format, opened}
use Rattle.sccs_tokens.specs.Sums.{plain_sum}
use Rattle.sccs_grammar.specs.declared.faults.FileFault.{FileFault}
use Rattle.sccs_grammar.specs.declared.faults.FileFault.TheVariants.{Missing, TooLong, NotSccs, BadSum, BadFormat}
use Rattle.sccs_grammar.specs.declared.faults.FileFault.TheVariants.{Encoded, Changed, Failed, Memory}
use Rattle.sccs_table.specs.declared.fronts.Front.{Front}
use Rattle.sccs_table.specs.FrontFile.{IsFrontOf, IsOuter, IsPlaced, Opens, ReadsLines, Refuses, SumLine, TakesSum}
use Rattle.sccs_table.specs.ReaderState.{ReaderState, StandsIn, Stays, behind_sum, bytes_in, file_in, left}
use Rattle.sccs_table.proofs.FileLaws.{sum_taken}
use Rattle.sccs_table.proofs.ReaderLaws.{holding}
use Rattle.sccs_table.specs.SumOf.{IsPlainSumOf}
use Rattle.sccs_grammar.specs.AnySum.{unsummed_file, unsummed_front}
use Rattle.sccs_body.specs.AnySum.{AnswersUnsummed}
use Rattle.sccs_body.specs.Behind.{IsRead, ReadsBehind}
use Rattle.sccs_body.specs.BodyFile.{ChecksFile, items_of}
use Rattle.sccs_body.proofs.FileLaws.{same_items, file_by}
use Rattle.sccs_body.proofs.WholeLaws.{with_sum}

-- ---- the bytes of a file

front_unopened : (file : List ℕ) (e : FileFault) → opened file ≡ Err e → unsummed_front file ≡ Err e
unfolding unsummed_front
front_unopened file e is = rw is refl

front_at : (file : List ℕ) (o : Opened) → opened file ≡ Ok o → unsummed_front file ≡ as_format
    (front_from 2 start o.lines)
unfolding unsummed_front
front_at file o is = rw is refl

file_at_fault : (file : List ℕ) (e : FileFault) → unsummed_front file ≡ Err e → unsummed_file file ≡ Err e
unfolding unsummed_file
file_at_fault file e is = rw is refl

file_from : (file : List ℕ) (p : ParsedFront) → unsummed_front file ≡ Ok p → unsummed_file file ≡ file_by p
    (items_from (live_serials p.header.records) p.line [] p.rest (cut file).tail)
unfolding unsummed_file
file_from file p is = rw is refl

-- ---- the parts of a reading

abbrev front_read : ReaderState → List ℕ → Front → ParsedFront
front_read last file front = record { header = front.header; line = front.body_line; rest = (left last file).lines }

-- the answer at a file within the limit
at_limit : (file : List ℕ) → length file ≤ 1073741824 → answer unsummed_file (Some file) ≡ unsummed_file file
at_limit file limit = rw (le-ltb 1073741824 (length file) limit) refl

module _ (file : List ℕ) (limit : length file ≤ 1073741824) (new : ReaderState) where
  refused : (e : FileFault) → Refuses e (unsummed_file file) → AnswersUnsummed (Some file) (Err e)
  refused e is = subst (Refuses e) (sym (at_limit file limit)) is

  pub any_unopened : (e : FileFault) → TakesSum file new (Err e) → AnswersUnsummed (Some file) (Err e)
  any_unopened Missing takes = absurd takes
  any_unopened TooLong takes = absurd takes
  any_unopened NotSccs takes = refused NotSccs (file_at_fault file NotSccs (front_unopened file NotSccs takes))
  any_unopened (BadSum s c) takes = absurd takes
  any_unopened (BadFormat k) takes = absurd takes
  any_unopened Encoded takes = absurd takes
  any_unopened (Changed a b c d) takes = absurd takes
  any_unopened Failed takes = tt
  any_unopened Memory takes = tt

  pub any_outer : (e : FileFault) → IsOuter {T = ℕ} (Err e) → AnswersUnsummed (Some file) (Err e)
  any_outer Missing outer = absurd outer
  any_outer TooLong outer = absurd outer
  any_outer NotSccs outer = absurd outer
  any_outer (BadSum s c) outer = absurd outer
  any_outer (BadFormat k) outer = absurd outer
  any_outer Encoded outer = absurd outer
  any_outer (Changed a b c d) outer = absurd outer
  any_outer Failed outer = tt
  any_outer Memory outer = tt

  module _ (n : ℕ) (takes : TakesSum file new (Ok n)) where
    lines_at : (last : ReaderState) (e : FileFault) → ReadsLines file new last start 2 (Err e)
        → AnswersUnsummed (Some file) (Err e)
    lines_at last Missing reads = absurd reads
    lines_at last TooLong reads = absurd reads
    lines_at last NotSccs reads = absurd reads
    lines_at last (BadSum s c) reads = absurd reads
    lines_at last (BadFormat k) reads = refused (BadFormat k) (file_at_fault file (BadFormat k) (front_at file _ takes.1
        ∙ ap as_format reads))
    lines_at last Encoded reads = absurd reads
    lines_at last (Changed a b c d) reads = absurd reads
    lines_at last Failed reads = tt
    lines_at last Memory reads = tt

    module _ (front : Front) (read : IsRead file new front) where
      front_is : unsummed_front file ≡ Ok (front_read read.0 file front)
      front_is = front_at file _ takes.1 ∙ ap as_format read.1.2

      front_of_file : IsFrontOf file (front_read read.0 file front) (with_sum front (plain_sum (behind_sum file)))
      front_of_file = record {
        header = refl;
        line = refl;
        body = ap (λ k. cut (drop k file)) read.2
            ∙ ap (λ (tail : List ℕ). record { lines = (left read.0 file).lines; tail = tail })
            (sym (takes.2 ∙ read.1.1));
        size = read.3;
        sum = refl;
      }

      found : (r : Result (List Item) ℕ) → items_of file front ≡ r → unsummed_file file ≡ file_by
          (front_read read.0 file front) r
      found r is = file_from file (front_read read.0 file front) front_is
          ∙ ap (λ (items : Result (List Item) ℕ). file_by (front_read read.0 file front) items)
          (sym (same_items file (front_read read.0 file front) (with_sum front (plain_sum (behind_sum file)))
          front_of_file) ∙ is)

      items_at : (e : FileFault) → ChecksFile file front (Err e) → AnswersUnsummed (Some file) (Err e)
      items_at Missing checks = absurd checks
      items_at TooLong checks = absurd checks
      items_at NotSccs checks = absurd checks
      items_at (BadSum s c) checks = absurd checks
      items_at (BadFormat k) checks = refused (BadFormat k) (found (Err k) checks)
      items_at Encoded checks = absurd checks
      items_at (Changed a b c d) checks = absurd checks
      items_at Failed checks = tt
      items_at Memory checks = tt

    pub any_refused : (e : FileFault) → ReadsBehind file new (Err e) → AnswersUnsummed (Some file) (Err e)
    any_refused e (inl read) = lines_at read.0 e read.1
    any_refused e (inr read) = items_at read.0 read.1 e read.2

    pub any_encoded : (front : Front) → is_encoded front.header.flags ≡ true → ReadsBehind file new (Ok front)
        → AnswersUnsummed (Some file) (Err Encoded)
    any_encoded front encoded read = refused Encoded (found front read.0 (Ok read.1.0) read.1.1 ∙ rw encoded refl)

    pub any_plain : (front : Front) (sum : ℕ) → IsPlainSumOf sum (behind_sum file) → IsPlaced front
        → is_encoded front.header.flags ≡ false → ReadsBehind file new (Ok front)
        → AnswersUnsummed (Some file) (Ok (with_sum front sum))
    any_plain front sum right placed encoded read = (
      record { header = front.header; items = read.1.0 },
      at_limit file limit ∙ (found front read.0 (Ok read.1.0) read.1.1 ∙ rw encoded refl),
      (
        refl,
        read.1.1,
        record {
          placed =
              record { within = placed.within; limit = placed.limit; counted = placed.counted };
          size = read.0.3;
          sum =
              right;
        },
      ),
    )

-- the answer is needed at a file that is told alone
pub any_answer : (view : Option View) (name : List ℕ) (size : ℕ) (result : Result Front FileFault) → size ≤ 1073741824
    → Opens view name (Ok size)
    → ((file : List ℕ) → bytes_in view name ≡ Some file → size ≡ length file → length file ≤ 1073741824
    → AnswersUnsummed (Some file) result)
    → IfSome view (λ v. AnswersUnsummed (file_in v name) result)
any_answer None name size result limit opens answers = tt
any_answer (Some view) name size result limit opens answers =
    subst (λ o. AnswersUnsummed o result) (sym opens.1) (answers opens.0 opens.1 opens.2
    (subst (λ n. n ≤ 1073741824) opens.2 limit))

-- the sum line that was read, and what holds where the reader stands at the end of the file
pub any_judged : (o p q : Option (List ℕ)) (file name : List ℕ) (size : ℕ) (begun now last : ReaderState) (n : ℕ)
    (Holds : List ℕ → Type 0) → o ≡ Some file → p ≡ Some file → q ≡ Some file → begun ≡ holding name [] 0 size 0
    → size ≡ length file
    → SumLine o begun now (Ok n) → now.place ≡ 8 → Stays p now last → ((f : List ℕ) → q ≡ Some f → 8 ≤ length f
    → StandsIn last f → Holds f) → TakesSum file now (Ok n) × Holds file
any_judged o p q file name size begun now last n Holds o_is p_is q_is fresh long line place_is stays holds =
    let takes = sum_taken o file name size begun now (Ok n) o_is fresh long line in
    (takes, holds file q_is (omega (arith, place_is, takes.0.within)) (stays file p_is takes.0))

-- the front that was read is placed
pub placed_is : (r : Result Front FileFault) (front : Front) → r ≡ Ok front → IfOk r IsPlaced → IsPlaced front
placed_is r front is placed = subst (λ q. IfOk q IsPlaced) is placed
