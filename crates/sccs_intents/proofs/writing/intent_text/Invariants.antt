use Rattle.std.proofs.Common.{◌≡◌, ◌++◌, flat_map, take}
use Rattle.sccs_intents.specs.Intents.{first_line}
use Rattle.sccs_intents.specs.Written.{ended, entry_text}
use Rattle.sccs_intents.proofs.writing.intent_text.Given as goal

abbrev pub invariant-loop-entry : goal.invariant-loop-entry
invariant-loop-entry l = l.text.items ≡ ended first_line ++ flat_map entry_text (take l.entry-index l.entries)
