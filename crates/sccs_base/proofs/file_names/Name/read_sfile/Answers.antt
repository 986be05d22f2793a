use Rattle.sccs_base.proofs.NameTests.{no_sfile}
use Rattle.sccs_base.proofs.file_names.Name.read_sfile.Goals as goal

pub returns-in-None-clause-exact : goal.returns-in-None-clause-exact
returns-in-None-clause-exact c = no_sfile c.args.bytes.now c.in-None.ensures.exact
