use Rattle.sccs_script_laws.proofs.Texts.{appends, changes, deletes, turns}
use Rattle.sccs_script_laws.proofs.laws.orders_on_texts.Goals as goal

pub returns : goal.returns
returns c = record {
  appends = λ order text is le. appends order text is le;
  deletes = λ order text is some le. deletes order text is some le;
  changes = λ order text is some le high. changes order text is some le high;
  turns = λ orders more text. turns orders more text;
}
