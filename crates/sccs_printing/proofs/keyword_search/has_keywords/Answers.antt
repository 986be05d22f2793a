use Rattle.std.proofs.Common.{◌∙◌, ap}
use Rattle.sccs_disk.specs.Told.{seen}
use Rattle.sccs_history.specs.Body.{lines_of}
use Rattle.sccs_table.specs.ReaderState.{bytes_in}
use Rattle.sccs_versions.specs.Coming.{shown}
use Rattle.sccs_printing.proofs.keyword_search.has_keywords.Goals as goal

pub returns-clause-told : goal.returns-clause-told
returns-clause-told g c = λ file items is.
    c.search_all.ensures.told file (shown c.args.set.now (lines_of items))
    (ap (λ name. bytes_in (seen (g.D.Disk.told c.args.disk.now)) name) c.in-Ok.ensures.name ∙ is.told_is)
    (c.in-Ok.ensures.coming _ file items is)
