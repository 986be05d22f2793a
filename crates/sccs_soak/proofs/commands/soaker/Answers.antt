use Rattle.std.proofs.Common.{◌≡◌, true, false}
use Rattle.sccs_base.specs.Login.{is_login}
use Rattle.sccs_soak.proofs.commands.soaker.Goals as goal

pub returns-in-None : goal.returns-in-None
unfolding is_login
returns-in-None c = absurd (let no : false ≡ true = c.in-None.ensures.exact in cc)
