use Rattle.std.proofs.Common.{Ok, ap, sym, ◌∙◌}
use Rattle.sccs_pfile.specs.Reading.{edits_of}
use Rattle.sccs_recovery.specs.Checks.{table_in}
use Rattle.sccs_recovery.proofs.ReadingLaws.{finds_edits, finds_line, finds_none}
use Rattle.sccs_recovery.proofs.readings.left_of_bytes.Goals as goal

pub returns-in-Ok-clause-left : goal.returns-in-Ok-clause-left
returns-in-Ok-clause-left c = λ s p first second.
    finds_edits s p c.in-Some.all (table_in c.args.front) c.in-Ok.edits c.left_of.result (first
    ∙ ap (λ b. Ok b) c.in-Some.is) second (ap edits_of (sym c.bytes.ensures) ∙ c.in-Ok.ensures.value)
    (λ file read. c.left_of.ensures.left s file second read)

pub returns-in-Err-BadPfile-clause-left : goal.returns-in-Err-BadPfile-clause-left
returns-in-Err-BadPfile-clause-left c = λ s p first second.
    rw c.in-Err-BadPfile.field-0-is
    (finds_line s p c.in-Some.all (table_in c.args.front) c.in-Err-BadPfile.line (first ∙ ap (λ b. Ok b) c.in-Some.is)
    second (ap edits_of (sym c.bytes.ensures)
    ∙ (rw c.in-Err-BadPfile.field-0-is at c.in-Err-BadPfile.ensures.value)))

pub returns-clause-left : goal.returns-clause-left
returns-clause-left c = λ s p first second. finds_none s p (table_in c.args.front) (first ∙ ap (λ b. Ok b) c.in-None.is)
    second
