use Rattle.sccs_sid.proofs.WordLemmas.{ends_is, ends_none}
use Rattle.sccs_sid.proofs.words.ends_blank.Goals as goal

pub returns-in-Some : goal.returns-in-Some
returns-in-Some c = ends_is c.args.bytes.now c.in-Some.last.now c.in-Some.ensures.value

pub returns-in-None : goal.returns-in-None
returns-in-None c = ends_none c.args.bytes.now c.in-None.ensures.value
