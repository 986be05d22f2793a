use Rattle.std.proofs.Common.{ap, ◌∙◌}
use Rattle.sccs_disk.specs.DirectoryStates.{state_of}
use Rattle.sccs_disk.specs.Effects.{firm}
use Rattle.sccs_disk.specs.Files.{Content}
use Rattle.sccs_disk.specs.States.{shown, state_put}
use Rattle.sccs_disk.proofs.Sanity.{placed}
use Rattle.sccs_disk.proofs.Views.{shown_put}
use Rattle.sccs_disk.proofs.steady_disk.SteadyDisk.put.Goals as goal

pub returns-clause-ok : goal.returns-clause-ok
returns-clause-ok c =
    let d = c.args.self.now.directory in
    let n = c.args.name.now in
    let content : Content = record { bytes = c.args.bytes.now; writable = c.args.writable } in
    ap shown (c.put.ensures ∙ (ap (λ f. state_put n f (state_of c.reserve.new.self)) c.in_ok-file.ensures
    ∙ ap (state_put n (firm content)) c.reserve.ensures.same))
    ∙ shown_put n (firm content) (state_of d) (placed d.files.items d.names.names.items d.paired)
