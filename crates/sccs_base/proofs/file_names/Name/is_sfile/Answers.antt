use Rattle.sccs_base.proofs.NameTests.{sfile_test}
use Rattle.std.specs.Bool.{Decides}
use Rattle.std.proofs.Common.{rules}
use Rattle.sccs_base.specs.Name.{IsSFileName}
use Rattle.sccs_base.proofs.file_names.Name.is_sfile.Goals as goal

pub returns-clause-value : goal.returns-clause-value
returns-clause-value c =
    let found : Decides c.names_sfile.result (IsSFileName c.args.self.now) = search rules in
    sfile_test _ c.args.self.now c.bytes.ensures.name found
