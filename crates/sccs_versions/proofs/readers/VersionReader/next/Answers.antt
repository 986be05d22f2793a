use Rattle.std.proofs.Common.{ap, ◌∙◌}
use Rattle.sccs_disk.specs.Told.{seen}
use Rattle.sccs_table.specs.ReaderState.{bytes_in}
use Rattle.sccs_versions.proofs.ReadLaws.{read_then}
use Rattle.sccs_versions.proofs.readers.VersionReader.next.Goals as goal

pub returns-clause-told : goal.returns-clause-told
returns-clause-told g c = λ file lines told p.
    c.next_behind.ensures.told file lines (ap (λ name. bytes_in (seen (g.D.Disk.told c.args.disk.now)) name)
    c.pass_hidden.ensures.name ∙ told) (c.pass_hidden.ensures.coming file lines p)

pub returns-clause-read : goal.returns-clause-read
returns-clause-read g c = λ live before h.
    read_then live c.pass_hidden.new.self c.next_behind.new.self c.args.self.now.regions before c.next_behind.result
    c.next_behind.ensures.set (c.pass_hidden.ensures.read live before h) (c.next_behind.ensures.read live)
