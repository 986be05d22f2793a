use Rattle.std.proofs.Common.{arith, refl}
use Rattle.std.specs.Str.{bytes_eq}
use Rattle.sccs_base.specs.Name.{x_file}
use Rattle.sccs_store.proofs.Working.{same_touches}
use Rattle.sccs_writers.proofs.OneFile.{only_none}
use Rattle.sccs_copies.proofs.BodyLaws.{header_comes}
use Rattle.sccs_copies.proofs.writing.replace_header.Goals as goal

pub returns-in_default-clause-frame : goal.returns-in_default-clause-frame
returns-in_default-clause-frame g c = record {
  moves = (only_none (x_file c.args.name.now) (g.D.Disk.told c.args.disk.now)).view;
  there = tt;
  touches = same_touches (bytes_eq (x_file c.args.name.now)) _ _ refl;
  firm = tt;
  later = omega arith;
  cause = λ failed. absurd cc;
}

pub returns-clause-told : goal.returns-clause-told
returns-clause-told g c = λ file items is front are.
    c.write_sfile.ensures.told file items is (header_comes file c.args.front.now items c.in-Ok.copying front are
    c.in-Ok.ensures.told)
