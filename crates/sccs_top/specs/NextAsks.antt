-- Of what follows a first command nothing is asked.
use Rattle.std.specs.Prelude.{[], Some}
use Rattle.sccs_top.specs.Runs.{AsksMeant, Caller}
use Rattle.sccs_top.specs.declared.asking.Asked.{Asked}
use Rattle.sccs_top.specs.declared.asking.Asked.TheVariants as ask

-- what is asked of it, which has no input, holds
abbrev pub NextAsks : Caller → Asked → Type 0
NextAsks who (ask.One command) = Unit {0}
NextAsks who (ask.Two first next) = AsksMeant who next (Some []) []
