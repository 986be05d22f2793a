use Rattle.std.proofs.Common.{Ok, Err, IfSome, List, subst, ℕ}
use Rattle.sccs_disk.specs.Files.{View}
use Rattle.sccs_disk.specs.Told.{seen}
use Rattle.sccs_name_files.specs.WholeFiles.{AnswersWhole}
use Rattle.sccs_name_files.specs.declared.whole_files.WholeFault.{WholeFault}
use Rattle.sccs_intents.specs.Intents.{intent_file, intent_of}
use Rattle.sccs_recovery.specs.Checks.{RefusesIntent}
use Rattle.sccs_recovery.proofs.IntentLaws.{long_refuses, missing_passes, read_refuses}
use Rattle.sccs_recovery.proofs.ReadingLaws.{some_map}
use Rattle.sccs_recovery.proofs.pending.check_intent.Goals as goal

pub returns-in-Ok-clause-checks : goal.returns-in-Ok-clause-checks
returns-in-Ok-clause-checks g c =
    some_map (seen (g.D.Disk.told c.args.disk.now)) (λ (v : View) whole. read_refuses (v intent_file) c.in-Ok.bytes
    c.intent_fault.result whole (subst (λ (b : List ℕ). RefusesIntent (intent_of b) c.intent_fault.result)
    c.bytes-in-Ok.ensures c.intent_fault.ensures.refuses))
    (subst (λ k. IfSome (seen (g.D.Disk.told c.args.disk.now)) (λ (v : View). AnswersWhole (v k) (Ok c.in-Ok.bytes)))
    c.intent_name.ensures c.in-Ok.ensures.told)

pub returns-in-Err-Missing-clause-checks : goal.returns-in-Err-Missing-clause-checks
returns-in-Err-Missing-clause-checks g c =
    some_map (seen (g.D.Disk.told c.args.disk.now)) (λ (v : View) whole. missing_passes (v intent_file) whole)
    (subst (λ (f : WholeFault). IfSome (seen (g.D.Disk.told c.args.disk.now)) (λ (v : View). AnswersWhole
    (v intent_file) (Err f))) c.in-Err-Missing.field-0-is
    (subst (λ k. IfSome (seen (g.D.Disk.told c.args.disk.now)) (λ (v : View). AnswersWhole (v k)
    (Err c.in-Err-Missing.field-0))) c.intent_name.ensures c.in-Err-Missing.ensures.told))

pub returns-in-Err-TooLong-clause-checks : goal.returns-in-Err-TooLong-clause-checks
returns-in-Err-TooLong-clause-checks g c =
    some_map (seen (g.D.Disk.told c.args.disk.now)) (λ (v : View) whole. long_refuses (v intent_file) whole)
    (subst (λ (f : WholeFault). IfSome (seen (g.D.Disk.told c.args.disk.now)) (λ (v : View). AnswersWhole
    (v intent_file) (Err f))) c.in-Err-TooLong.field-0-is
    (subst (λ k. IfSome (seen (g.D.Disk.told c.args.disk.now)) (λ (v : View). AnswersWhole (v k)
    (Err c.in-Err-TooLong.field-0))) c.intent_name.ensures c.in-Err-TooLong.ensures.told))
