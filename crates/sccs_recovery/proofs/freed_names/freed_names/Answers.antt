use Rattle.std.proofs.Common.{Err, IfSome, List, Ok, subst, ℕ}
use Rattle.sccs_disk.specs.Files.{View}
use Rattle.sccs_disk.specs.Told.{seen}
use Rattle.sccs_name_files.specs.WholeFiles.{AnswersWhole}
use Rattle.sccs_name_files.specs.declared.whole_files.WholeFault.{WholeFault}
use Rattle.sccs_name_files.specs.declared.whole_files.WholeFault.TheVariants.{Missing, TooLong}
use Rattle.sccs_intents.specs.Intents.{intent_file, intent_of, well_formed}
use Rattle.sccs_base.specs.NameSets.{HasNames}
use Rattle.sccs_recovery.specs.FinishStep.{names_of}
use Rattle.sccs_recovery.proofs.FreedNames.{long_names, missing_names, told_names, whole_names}
use Rattle.sccs_recovery.proofs.freed_names.freed_names.Goals as goal

pub returns-in-Ok-text_names-clause-told : goal.returns-in-Ok-text_names-clause-told
returns-in-Ok-text_names-clause-told g c =
    told_names (seen (g.D.Disk.told c.args.disk.now)) c.in-Ok-text_names.set (λ (v : View). AnswersWhole (v intent_file)
    (Ok c.in-Ok.bytes))
    (λ v whole. whole_names (v intent_file) c.in-Ok.bytes c.in-Ok-text_names.set whole
    (subst (λ (b : List ℕ). HasNames c.in-Ok-text_names.set (names_of (well_formed (intent_of b))))
    c.bytes-in-Ok.ensures c.in-Ok-text_names.ensures))
    (subst (λ k. IfSome (seen (g.D.Disk.told c.args.disk.now)) (λ (v : View). AnswersWhole (v k) (Ok c.in-Ok.bytes)))
    c.intent_name.ensures c.in-Ok.ensures.told)

pub returns-in-Err-Missing-clause-told : goal.returns-in-Err-Missing-clause-told
returns-in-Err-Missing-clause-told g c =
    told_names (seen (g.D.Disk.told c.args.disk.now)) c.no_names.result (λ (v : View). AnswersWhole (v intent_file)
    (Err Missing)) (λ v is. missing_names (v intent_file) c.no_names.result is c.no_names.ensures)
    (subst (λ (f : WholeFault). IfSome (seen (g.D.Disk.told c.args.disk.now)) (λ (v : View). AnswersWhole
    (v intent_file) (Err f))) c.in-Err-Missing.field-0-is
    (subst (λ k. IfSome (seen (g.D.Disk.told c.args.disk.now)) (λ (v : View). AnswersWhole (v k)
    (Err c.in-Err-Missing.field-0))) c.intent_name.ensures c.in-Err-Missing.ensures.told))

pub returns-in-Err-TooLong-clause-told : goal.returns-in-Err-TooLong-clause-told
returns-in-Err-TooLong-clause-told g c =
    told_names (seen (g.D.Disk.told c.args.disk.now)) c.no_names-in-Err-TooLong.result (λ (v : View). AnswersWhole
    (v intent_file) (Err TooLong)) (λ v is. long_names (v intent_file) c.no_names-in-Err-TooLong.result is
    c.no_names-in-Err-TooLong.ensures)
    (subst (λ (f : WholeFault). IfSome (seen (g.D.Disk.told c.args.disk.now)) (λ (v : View). AnswersWhole
    (v intent_file) (Err f))) c.in-Err-TooLong.field-0-is
    (subst (λ k. IfSome (seen (g.D.Disk.told c.args.disk.now)) (λ (v : View). AnswersWhole (v k)
    (Err c.in-Err-TooLong.field-0))) c.intent_name.ensures c.in-Err-TooLong.ensures.told))
