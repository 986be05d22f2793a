use Rattle.std.proofs.Common.{◌+◌, ap}
use Rattle.sccs_table.specs.ReaderState.{ReaderState}
use Rattle.sccs_table.proofs.ReaderLaws.{held_past}
use Rattle.sccs_table.proofs.RunLaws.{passed_stays}
use Rattle.sccs_table.proofs.line_readers.LineReader.pass.Goals as goal

pub returns-clause-held : goal.returns-clause-held
returns-clause-held c =
    held_past c.args.self.now c.self.inside.name c.self.inside.piece c.self.inside.start c.self.inside.end
    c.self.inside.place c.self.inside.limit _ c.args.count c.self.view_is c.requires

pub returns-clause-stays : goal.returns-clause-stays
returns-clause-stays c = λ o.
    let held = held_past c.args.self.now c.self.inside.name c.self.inside.piece c.self.inside.start c.self.inside.end
    c.self.inside.place c.self.inside.limit _ c.args.count c.self.view_is c.requires in
    passed_stays o c.args.self.now _ c.args.count c.requires (
      ap (λ (s : ReaderState). s.limit) c.self.view_is,
      ap (λ (s : ReaderState). s.sum) c.self.view_is,
    ) held (ap (λ (s : ReaderState). s.place + c.args.count)
    c.self.view_is)
