use Rattle.std.proofs.Common.{◌≡◌, Err, IfSome, List, Ok, Some, None, subst, ℕ}
use Rattle.sccs_disk.specs.Files.{View}
use Rattle.sccs_disk.specs.Told.{seen}
use Rattle.sccs_name_files.specs.WholeFiles.{AnswersWhole}
use Rattle.sccs_name_files.specs.declared.whole_files.WholeFault.{WholeFault}
use Rattle.sccs_name_files.specs.declared.whole_files.WholeFault.TheVariants.{Missing, TooLong}
use Rattle.sccs_intents.specs.Intents.{intent_of}
use Rattle.sccs_group.specs.Recovering.{IsWellFormed, ReadsBytes, ReadsMembers}
use Rattle.sccs_group.specs.declared.recovering.GroupFault.TheVariants.{BadIntent}
use Rattle.sccs_group.proofs.Found.{bytes_fault, bytes_form, bytes_read, long_bad, missing_form, missing_reads, told_as}
use Rattle.sccs_group.proofs.recovering.read_members.Goals as goal

pub returns-in-Ok-read_bytes-clause-told : goal.returns-in-Ok-read_bytes-clause-told
returns-in-Ok-read_bytes-clause-told g c =
    told_as (seen (g.D.Disk.told c.args.disk.now)) (λ (v : View). AnswersWhole (v c.args.intent.now) (Ok c.in-Ok.bytes))
    (λ (v : View). ReadsMembers (v c.args.intent.now) (Ok (Some c.in-Ok-read_bytes.members)))
    (λ v whole. bytes_read (v c.args.intent.now) c.in-Ok.bytes c.in-Ok-read_bytes.members whole
    (subst (λ (b : List ℕ). ReadsBytes b (Ok c.in-Ok-read_bytes.members)) c.bytes-in-Ok.ensures
    c.in-Ok-read_bytes.ensures.read)) c.in-Ok.ensures.told

pub returns-in-Ok-read_bytes-clause-members : goal.returns-in-Ok-read_bytes-clause-members
returns-in-Ok-read_bytes-clause-members g c = c.in-Ok-read_bytes.ensures.members

pub returns-in-Ok-clause-told : goal.returns-in-Ok-clause-told
returns-in-Ok-clause-told g c =
    told_as (seen (g.D.Disk.told c.args.disk.now)) (λ (v : View). AnswersWhole (v c.args.intent.now) (Ok c.in-Ok.bytes))
    (λ (v : View). ReadsMembers (v c.args.intent.now) (Err c.in-Err.fault))
    (λ v whole. bytes_fault (v c.args.intent.now) c.in-Ok.bytes c.in-Err.fault whole
    (subst (λ (b : List ℕ). ReadsBytes b (Err c.in-Err.fault)) c.bytes-in-Ok.ensures c.in-Err.ensures.read))
    c.in-Ok.ensures.told

pub returns-in-Err-Missing-clause-told : goal.returns-in-Err-Missing-clause-told
returns-in-Err-Missing-clause-told g c =
    told_as (seen (g.D.Disk.told c.args.disk.now)) (λ (v : View). AnswersWhole (v c.args.intent.now) (Err Missing))
    (λ (v : View). ReadsMembers (v c.args.intent.now) (Ok None))
    (λ v is. missing_reads (v c.args.intent.now) is)
    (subst (λ (f : WholeFault). IfSome (seen (g.D.Disk.told c.args.disk.now)) (λ (v : View). AnswersWhole
    (v c.args.intent.now) (Err f))) c.in-Err-Missing.field-0-is c.in-Err-Missing.ensures.told)

pub returns-in-Err-TooLong-clause-told : goal.returns-in-Err-TooLong-clause-told
returns-in-Err-TooLong-clause-told g c =
    told_as (seen (g.D.Disk.told c.args.disk.now)) (λ (v : View). AnswersWhole (v c.args.intent.now) (Err TooLong))
    (λ (v : View). ReadsMembers (v c.args.intent.now) (Err (BadIntent 1)))
    (λ v is. long_bad (v c.args.intent.now) is)
    (subst (λ (f : WholeFault). IfSome (seen (g.D.Disk.told c.args.disk.now)) (λ (v : View). AnswersWhole
    (v c.args.intent.now) (Err f))) c.in-Err-TooLong.field-0-is c.in-Err-TooLong.ensures.told)

pub returns-in-Ok-read_bytes-clause-form : goal.returns-in-Ok-read_bytes-clause-form
returns-in-Ok-read_bytes-clause-form g c =
    told_as (seen (g.D.Disk.told c.args.disk.now)) (λ (v : View). AnswersWhole (v c.args.intent.now) (Ok c.in-Ok.bytes))
    (λ (v : View). IsWellFormed (v c.args.intent.now))
    (λ v whole. bytes_form (v c.args.intent.now) c.in-Ok.bytes whole (subst (λ (b : List ℕ). (line : ℕ)
    → intent_of b ≡ Err line → ⊥) c.bytes-in-Ok.ensures c.in-Ok-read_bytes.ensures.form)) c.in-Ok.ensures.told

pub returns-in-Err-Missing-clause-form : goal.returns-in-Err-Missing-clause-form
returns-in-Err-Missing-clause-form g c =
    told_as (seen (g.D.Disk.told c.args.disk.now)) (λ (v : View). AnswersWhole (v c.args.intent.now) (Err Missing))
    (λ (v : View). IsWellFormed (v c.args.intent.now))
    (λ v is. missing_form (v c.args.intent.now) is)
    (subst (λ (f : WholeFault). IfSome (seen (g.D.Disk.told c.args.disk.now)) (λ (v : View). AnswersWhole
    (v c.args.intent.now) (Err f))) c.in-Err-Missing.field-0-is c.in-Err-Missing.ensures.told)
