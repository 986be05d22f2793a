use Rattle.std.proofs.Common.{◌+◌, ap, arith}
use Rattle.sccs_table.specs.ReaderState.{ReaderState}
use Rattle.sccs_table.proofs.ReaderLaws.{held_past_line, held_line_taken}
use Rattle.sccs_table.proofs.RunLaws.{passed_stays}
use Rattle.sccs_table.proofs.line_readers.LineReader.pass_line.Goals as goal

pub returns-clause-held : goal.returns-clause-held
returns-clause-held c =
    held_past_line c.args.self.now c.self.inside.name c.self.inside.piece c.self.inside.start c.self.inside.end
    c.self.inside.place c.self.inside.limit _ c.args.count c.self.view_is c.requires

pub returns-clause-told : goal.returns-clause-told
returns-clause-told c = λ o line none long front.
    let held = held_past_line c.args.self.now c.self.inside.name c.self.inside.piece c.self.inside.start
    c.self.inside.end c.self.inside.place c.self.inside.limit _ c.args.count c.self.view_is c.requires in
    held_line_taken o c.args.self.now _ line c.args.count none long front
    (ap (λ (s : ReaderState). s.limit) c.self.view_is, ap (λ (s : ReaderState). s.sum) c.self.view_is) held
    (ap (λ (s : ReaderState). s.place + (c.args.count + 1)) c.self.view_is)

pub returns-clause-stays : goal.returns-clause-stays
returns-clause-stays c = λ o.
    let held = held_past_line c.args.self.now c.self.inside.name c.self.inside.piece c.self.inside.start
    c.self.inside.end c.self.inside.place c.self.inside.limit _ c.args.count c.self.view_is c.requires in
    passed_stays o c.args.self.now _ (c.args.count + 1) (omega (arith, c.requires))
    (ap (λ (s : ReaderState). s.limit) c.self.view_is, ap (λ (s : ReaderState). s.sum) c.self.view_is) held
    (ap (λ (s : ReaderState). s.place + (c.args.count + 1)) c.self.view_is)
