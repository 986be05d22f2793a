use Rattle.std.proofs.Common.{refl, ◌||◌}
use Rattle.std.specs.Str.{bytes_eq}
use Rattle.std.specs.Prelude.{drop}
use Rattle.sccs_base.specs.Name.{y_file}
use Rattle.sccs_crash_points.proofs.Unlocked.{others_same}
use Rattle.sccs_get.proofs.steps.place.Goals as goal

pub returns-then-not-writes_g-clause-others : goal.returns-then-not-writes_g-clause-others
returns-then-not-writes_g-clause-others g c =
    others_same (λ k. bytes_eq (y_file c.args.name.now) k || bytes_eq (drop 2 c.args.name.now) k)
    (g.D.Disk.told c.args.disk.now) (g.D.Disk.told c.args.disk.now) refl
