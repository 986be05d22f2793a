use Rattle.std.proofs.Common.{◌≡◌, length, ◌∙◌, length-set}
use Rattle.sccs_disk.specs.DirectoryStates.{state_of}
use Rattle.sccs_disk.proofs.Logs.{state_now, sane_now, done_now}
use Rattle.sccs_disk.proofs.Sanity.{placed}
use Rattle.sccs_disk.proofs.memory_disk.MemoryDisk.make.Goals as goal

pub invariant_of-self-2 : goal.invariant_of-self-2
invariant_of-self-2 c =
    let old = c.args.self.now in
    let count : c.len-last.result ≡ length old.log.items = c.len-last.ensures ∙ old.log.ok.0 in
    let directory = c.make.new.self in
    let now = state_now (state_of old.start) old.log.items c.requires.0 c.len-last.result c.args.change
    (state_of old.directory) (state_of directory) c.requires.1 count old.current c.in_ok-make.ensures.ok in
    record {
      current = now;
      sane = sane_now (state_of old.start) old.log.items c.requires.0 c.len-last.result c.args.change
          (state_of directory) c.requires.1 count old.sane now
          (placed directory.files.items directory.names.names.items directory.paired);
      firm = old.firm;
      recorded = length-set old.log.items _ _ ∙ old.recorded;
      fits = old.fits;
    }

pub returns-clause-done : goal.returns-clause-done
returns-clause-done c =
    let old = c.args.self.now in
    let count : c.len-last.result ≡ length old.log.items = c.len-last.ensures ∙ old.log.ok.0 in
    done_now (state_of old.start) old.log.items c.requires.0 c.len-last.result c.args.change c.requires.1 count old.sane
