use Rattle.std.proofs.Common.{subst, sym}
use Rattle.sccs_base.specs.Name.{IsName, IsSFileName}
use Rattle.sccs_base.proofs.Siblings.{sibling_name}
use Rattle.sccs_base.proofs.file_names.Name.sibling.Goals as goal

pub invariant_of-result : goal.invariant_of-result
invariant_of-result c =
    let sfile : IsSFileName c.self.inside.bytes = subst IsSFileName (sym c.self.view_is) c.requires.sfile in
    subst IsName (sym c.with_first.ensures) (sibling_name c.self.inside.bytes c.args.letter c.self.invariant sfile
    c.requires.low c.requires.high)
