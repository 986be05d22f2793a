use Rattle.std.proofs.Common.{get_or, arith, eq-eqb}
use Rattle.std.proofs.lemmas.Bool.{eqb-true}
use Rattle.sccs_table.proofs.ReaderLaws.{held_of, takes_some, takes_none}
use Rattle.sccs_table.proofs.line_readers.LineReader.take_held.Goals as goal

pub returns-in_ok-extend_from_slice-in-Some-clause-taken : goal.returns-in_ok-extend_from_slice-in-Some-clause-taken
returns-in_ok-extend_from_slice-in-Some-clause-taken c =
    let held = held_of c.self.inside.piece c.self.inside.start c.self.inside.end in
    let found = c.in-Some.ensures in
    takes_some c.args.self.now c.self.inside.name c.args.line.now.items c.extend_from_slice.new.self.items
    c.self.inside.piece c.self.inside.start c.self.inside.end c.self.inside.place c.self.inside.limit _ c.in-Some.at
    c.self.view_is
    c.in_ok-extend_from_slice-in-Some.ensures.items found.0.high (eqb-true _ 10 found.1) (λ k below is. found.0.before k
    (omega arith) below (eq-eqb (get_or held k 0) 10 is))

pub returns-in_ok-extend_from_slice-in-None-clause-taken : goal.returns-in_ok-extend_from_slice-in-None-clause-taken
returns-in_ok-extend_from_slice-in-None-clause-taken c =
    let held = held_of c.self.inside.piece c.self.inside.start c.self.inside.end in
    takes_none c.args.self.now c.self.inside.name c.args.line.now.items c.extend_from_slice-in-None.new.self.items
    c.self.inside.piece c.self.inside.start c.self.inside.end c.self.inside.place c.self.inside.limit _
    c.self.view_is
    c.in_ok-extend_from_slice-in-None.ensures.items (λ k below is. c.in-None.ensures k (omega arith) below
    (eq-eqb (get_or held k 0) 10 is))
