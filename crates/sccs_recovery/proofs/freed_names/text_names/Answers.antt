use Rattle.std.proofs.Common.{Err, subst}
use Rattle.sccs_intents.specs.Intents.{Reads, intent_of}
use Rattle.sccs_intents.specs.declared.intents.IntentFault.{IntentFault}
use Rattle.sccs_recovery.proofs.FreedNames.{bad_names, read_names}
use Rattle.sccs_recovery.proofs.freed_names.text_names.Goals as goal

pub returns-in-Ok : goal.returns-in-Ok
returns-in-Ok c = read_names c.entry_names.result c.args.bytes.now c.in-Ok.entries c.in-Ok.ensures c.entry_names.ensures

pub returns-in-Err-BadIntent : goal.returns-in-Err-BadIntent
returns-in-Err-BadIntent c = bad_names c.no_names.result c.args.bytes.now _
    (subst (λ (fault : IntentFault). Reads (Err fault) (intent_of c.args.bytes.now)) c.in-Err-BadIntent.field-0-is
    c.in-Err-BadIntent.ensures) c.no_names.ensures
