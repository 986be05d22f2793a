use Rattle.std.proofs.lemmas.List.Elements.{recursion_from_All, All-from_recursion}
use Rattle.sccs_pfile.specs.Entries.{IsEdit}
use Rattle.sccs_pfile.proofs.EntriesValid.{edits_are}
use Rattle.sccs_pfile.proofs.EntryTexts.{edits_again}
use Rattle.sccs_pfile.proofs.laws.entries_again.Goals as goal

pub returns-clause-written : goal.returns-clause-written
returns-clause-written c = λ edits are. edits_again edits (recursion_from_All IsEdit edits are)

pub returns-clause-read : goal.returns-clause-read
returns-clause-read c = λ bytes edits is. All-from_recursion IsEdit edits (edits_are bytes edits is)
