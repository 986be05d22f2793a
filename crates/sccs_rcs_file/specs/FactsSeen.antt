-- What the code has of a revision, as the definitions have it.
use Rattle.std.specs.Prelude.{ℕ, List, Option, option_map}
use Rattle.sccs_rcs_file.specs.Trunk.{EntryFields, Facts}
use Rattle.sccs_rcs_file.specs.declared.trunks.Fields.{Fields}
use Rattle.sccs_rcs_file.specs.declared.trunks.FoundRevision.{FoundRevision}
use Rattle.sccs_trunks.specs.declared.revisions.Revision.{Revision}
use Rattle.sccs_rcs_file.specs.declared.trunks.RevisionFacts.{RevisionFacts}

abbrev pub fields_seen : Fields → EntryFields
fields_seen f = record { date = f.date.now; author = f.author.now; next = option_map (λ n. n.now) f.next }

abbrev pub facts_seen : RevisionFacts → Facts
facts_seen f = record { sid = f.sid; fields = fields_seen f.fields; log = f.log.now; text = f.text.now }

abbrev pub found_seen : FoundRevision → Revision × Option (List ℕ)
found_seen f = (f.revision, option_map (λ n. n.now) f.next)
