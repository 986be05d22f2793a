use Rattle.sccs_base.proofs.NameTests.{login_test}
use Rattle.sccs_base.proofs.logins.Login.read.Goals as goal

pub returns-then-fits-clause-exact : goal.returns-then-fits-clause-exact
returns-then-fits-clause-exact c = login_test _ c.args.bytes.now c.if-fits.ensures

pub returns-else-fits-clause-exact : goal.returns-else-fits-clause-exact
returns-else-fits-clause-exact c = login_test _ c.args.bytes.now c.if-fits.ensures
