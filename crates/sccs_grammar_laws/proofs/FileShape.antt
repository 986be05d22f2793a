-- A file that is read begins with a sum line and the lines of a header, and what begins so is read.
use Rattle.std.proofs.Common.{◌≡◌, ℕ, ◌+◌, Bool, true, false, List, [], ◌∷◌, length, drop, Option, None, Some, Result}
use Rattle.std.proofs.Common.{Ok, Err, refl, ap, ◌∙◌, cond}
use Rattle.sccs_base.specs.Cut.{cut}
use Rattle.sccs_sid.specs.Reading.{◌>>=◌}
use Rattle.sccs_history.specs.History.{KeepsRules}
use Rattle.sccs_grammar.specs.File.{Opened, as_format, checked_front, opened, opened_by, opened_cut, stored, sum_holds}
use Rattle.sccs_grammar.specs.File.{summed}
use Rattle.sccs_grammar.specs.Front.{ParsedFront, front_from, start}
use Rattle.sccs_tokens.specs.Sums.{plain_sum}
use Rattle.sccs_grammar.specs.declared.faults.FileFault.{FileFault}
use Rattle.sccs_grammar.specs.declared.faults.FileFault.TheVariants.{NotSccs, BadSum, BadFormat}
use Rattle.sccs_grammar.proofs.ParserRules.{lines_keep_rules}
use Rattle.sccs_grammar_laws.specs.HeaderLines.{BeginSFile}
use Rattle.sccs_grammar_laws.proofs.HeaderMade.{header_begins}
use Rattle.sccs_grammar_laws.proofs.HeaderShape.{header_shape}

no_fault : {P : Type 0} (fault : FileFault) (p : ParsedFront) → ◌≡◌ {A = Result ParsedFront FileFault} (Err fault)
    (Ok p) → P
no_fault fault p same = absurd (never same)
  where
    never : ◌≡◌ {A = Result ParsedFront FileFault} (Err fault) (Ok p) → ⊥
    never same = cc

format_ok : (read : Result ParsedFront ℕ) (p : ParsedFront) → as_format read ≡ Ok p → read ≡ Ok p
format_ok (Ok q) p is = let one : q ≡ p = cc in ap (λ (x : ParsedFront). Ok x) one
format_ok (Err line) p is = no_fault (BadFormat line) p is

-- the header behind a sum line that was read
abbrev behind_sum : Opened → Result ParsedFront FileFault
behind_sum o = summed o >>= λ q. as_format (front_from 2 start q.lines)

by_sum : (test : Bool) (o : Opened) (p : ParsedFront) → (cond test (Ok o) (Err (BadSum o.sum_of (plain_sum o.bytes)))
    >>= λ q. as_format (front_from 2 start q.lines)) ≡ Ok p → (test ≡ true) × (front_from 2 start o.lines ≡ Ok p)
by_sum true o p is = (refl, format_ok (front_from 2 start o.lines) p is)
by_sum false o p is = no_fault (BadSum o.sum_of (plain_sum o.bytes)) p is

abbrev opened_at : List ℕ → List ℕ → List (List ℕ) → ℕ → Opened
opened_at bytes line lines sum = record { sum_of = sum; lines = lines; bytes = drop (length line + 1) bytes }

by_stored : (o : Option ℕ) (bytes line : List ℕ) (lines : List (List ℕ)) (p : ParsedFront)
    → (cut bytes).lines ≡ line ∷ lines → stored line ≡ o
    → (opened_by o lines (drop (length line + 1) bytes) >>= behind_sum) ≡ Ok p → BeginSFile bytes p
    × KeepsRules p.header
by_stored None bytes line lines p split is read = no_fault NotSccs p read
by_stored (Some sum) bytes line lines p split is read =
    let both = by_sum (sum_holds (opened_at bytes line lines sum)) (opened_at bytes line lines sum) p read in (
      record {
        sum_line = line;
        lines = lines;
        sum = sum;
        split = split;
        stored = is;
        holds = both.0;
        header =
            header_shape 2 lines p both.1;
      },
      lines_keep_rules 2 lines p both.1,
    )

by_lines : (ls : List (List ℕ)) (bytes : List ℕ) (p : ParsedFront) → (cut bytes).lines ≡ ls
    → (opened_cut bytes ls >>= behind_sum) ≡ Ok p → BeginSFile bytes p × KeepsRules p.header
by_lines [] bytes p split read = no_fault NotSccs p read
by_lines (line ∷ lines) bytes p split read = by_stored (stored line) bytes line lines p split refl read

pub file_shape : (bytes : List ℕ) (p : ParsedFront) → checked_front bytes ≡ Ok p → BeginSFile bytes p
    × KeepsRules p.header
unfolding checked_front opened
file_shape bytes p read = by_lines (cut bytes).lines bytes p refl read

pub file_begins : (bytes : List ℕ) (p : ParsedFront) → BeginSFile bytes p → KeepsRules p.header
    → checked_front bytes ≡ Ok p
unfolding checked_front opened
file_begins bytes p begins keeps =
    ap (λ (ls : List (List ℕ)). opened_cut bytes ls >>= behind_sum) begins.split
    ∙ (ap (λ (o : Option ℕ). opened_by o begins.lines (drop (length begins.sum_line + 1) bytes) >>= behind_sum)
    begins.stored
    ∙ (ap (λ (test : Bool). cond test (Ok o) (Err (BadSum o.sum_of (plain_sum o.bytes))) >>= λ q. as_format
    (front_from 2 start q.lines)) begins.holds
    ∙ ap as_format (header_begins 2 begins.lines p begins.header keeps)))
  where
    o : Opened
    o = opened_at bytes begins.sum_line begins.lines begins.sum
