use Rattle.std.proofs.Common.{refl, sym, subst}
use Rattle.std.proofs.lemmas.Result.{IfOk-weaker}
use Rattle.sccs_disk.specs.DirectoryStates.{state_of}
use Rattle.sccs_disk.specs.Reads.{IsListing}
use Rattle.sccs_disk.specs.States.{shown}
use Rattle.sccs_disk.proofs.Listing.{listing}
use Rattle.sccs_disk.proofs.Sanity.{placed}
use Rattle.sccs_disk.proofs.directories.Directory.list.Goals as goal

pub returns : goal.returns
returns c =
    let d = c.args.self.now in
    IfOk-weaker c.list.result _ (IsListing (shown (state_of d)))
    (λ names is. subst (IsListing (shown (state_of d))) (sym is) (listing (state_of d) d.names.names.items
    (placed d.files.items d.names.names.items d.paired) refl d.names.once)) c.list.ensures
