use Rattle.std.proofs.Common.{arith}
use Rattle.std.proofs.lemmas.Result.{on_ok_weaker, on_err_weaker}
use Rattle.sccs_disk.specs.Places.{place_of}
use Rattle.sccs_disk.specs.States.{file_changed}
use Rattle.sccs_disk.proofs.FilesNow.{file_made, file_kept}
use Rattle.sccs_disk.proofs.directories.Directory.change_file.Goals as goal

pub returns-in-Some-clause-ok : goal.returns-in-Some-clause-ok
returns-in-Some-clause-ok c =
    on_ok_weaker c.change.result
    (file_made c.args.self.now.files.items (place_of c.args.self.now.names.names.items) c.args.name.now c.in-Some.place
    c.index_mut.result.now c.change.new.self (file_changed c.args.change.now)
    c.in-Some.ensures.found (omega (arith, c.in-Some.ensures.within, c.args.self.now.paired)) c.index_mut.ensures.value)
    c.change.ensures.ok

pub returns-in-Some-clause-err : goal.returns-in-Some-clause-err
returns-in-Some-clause-err c =
    on_err_weaker c.change.result
    (file_kept c.args.self.now.files.items (place_of c.args.self.now.names.names.items) c.in-Some.place
    c.index_mut.result.now c.change.new.self c.index_mut.ensures.value)
    c.change.ensures.err
