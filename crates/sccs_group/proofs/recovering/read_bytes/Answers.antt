use Rattle.sccs_group.proofs.Found.{read_form, read_is, read_others}
use Rattle.sccs_group.proofs.recovering.read_bytes.Goals as goal

pub returns-in-Ok-members_of-clause-members : goal.returns-in-Ok-members_of-clause-members
returns-in-Ok-members_of-clause-members c = read_others c.args.bytes.now c.in-Ok.entries c.in-Ok-members_of.members
    c.in-Ok.ensures c.in-Ok-members_of.ensures

pub returns-in-Ok-members_of-clause-read : goal.returns-in-Ok-members_of-clause-read
returns-in-Ok-members_of-clause-read c = read_is c.args.bytes.now c.in-Ok.entries c.in-Ok-members_of.members
    c.in-Ok.ensures c.in-Ok-members_of.ensures

pub returns-in-Ok-members_of-clause-form : goal.returns-in-Ok-members_of-clause-form
returns-in-Ok-members_of-clause-form c = read_form c.args.bytes.now c.in-Ok.entries c.in-Ok.ensures
