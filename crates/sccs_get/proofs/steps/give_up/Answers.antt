use Rattle.std.proofs.Common.{rules, refl, inl}
use Rattle.std.specs.Str.{bytes_eq}
use Rattle.sccs_base.specs.Name.{y_file}
use Rattle.sccs_disk.specs.Told.{seen}
use Rattle.sccs_store.proofs.Working.{same_touches}
use Rattle.sccs_get.proofs.GivingLaws.{fault_so, kept_up}
use Rattle.sccs_get.proofs.steps.give_up.Goals as goal

pub returns-in-DiskFault-clause-touches : goal.returns-in-DiskFault-clause-touches
returns-in-DiskFault-clause-touches g c = same_touches (bytes_eq (y_file c.args.name.now)) _ _ refl

pub returns-then-not-has_y : goal.returns-then-not-has_y
returns-then-not-has_y g c = record {
  gives_up = kept_up c.args.has_y c.args.name.now c.args.fault (seen (g.D.Disk.told c.args.disk.now))
      c.if-not-has_y.true;
  touches = same_touches (bytes_eq (y_file c.args.name.now)) _ _ refl;
  same = λ none. refl;
  later = search rules;
  cause = λ is. inl (fault_so c.args.fault is, refl);
}
