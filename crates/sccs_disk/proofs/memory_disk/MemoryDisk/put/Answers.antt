use Rattle.std.proofs.Common.{◌≡◌, [], ap, ◌∙◌}
use Rattle.sccs_disk.specs.DirectoryStates.{state_of}
use Rattle.sccs_disk.specs.Effects.{firm}
use Rattle.sccs_disk.specs.Files.{Content}
use Rattle.sccs_disk.specs.States.{state_put}
use Rattle.sccs_disk.proofs.Placed.{no_calls, placed_state, placed_sane, placed_firm, placed_view}
use Rattle.sccs_disk.proofs.Sanity.{placed}
use Rattle.sccs_disk.proofs.memory_disk.MemoryDisk.put.Goals as goal

pub invariant_of-self-2 : goal.invariant_of-self-2
invariant_of-self-2 c =
    let old = c.args.self.now in
    let n = c.args.name.now in
    let content : Content = record { bytes = c.args.bytes.now; writable = c.args.writable } in
    let none : old.log.items ≡ [] = no_calls old.log.items old.calls old.room old.recorded c.requires in
    let start : state_of c.put.new.self ≡ state_put n (firm content) (state_of old.start) =
    c.put.ensures ∙ (ap (λ f. state_put n f (state_of c.reserve.new.self)) c.in_ok-first.ensures
    ∙ ap (state_put n (firm content)) c.reserve.ensures.same) in
    let directory : state_of c.put-2.new.self ≡ state_put n (firm content) (state_of old.directory) =
    c.put-2.ensures ∙ (ap (λ f. state_put n f (state_of c.reserve-2.new.self)) c.in_ok-second.ensures
    ∙ ap (state_put n (firm content)) c.reserve-2.ensures.same) in
    record {
      current = placed_state old.log.items n (firm content) (state_of old.start) (state_of old.directory)
          (state_of c.put.new.self) (state_of c.put-2.new.self) none old.current start directory;
      sane = placed_sane old.log.items (state_of c.put.new.self) none
          (placed c.put.new.self.files.items c.put.new.self.names.names.items c.put.new.self.paired);
      firm = placed_firm n content (state_of old.start) (state_of c.put.new.self) start old.firm;
      recorded = old.recorded;
      fits = old.fits;
    }

pub returns-clause-ok : goal.returns-clause-ok
returns-clause-ok c =
    let old = c.args.self.now in
    let n = c.args.name.now in
    let content : Content = record { bytes = c.args.bytes.now; writable = c.args.writable } in
    let none : old.log.items ≡ [] = no_calls old.log.items old.calls old.room old.recorded c.requires in
    let start : state_of c.put.new.self ≡ state_put n (firm content) (state_of old.start) =
    c.put.ensures ∙ (ap (λ f. state_put n f (state_of c.reserve.new.self)) c.in_ok-first.ensures
    ∙ ap (state_put n (firm content)) c.reserve.ensures.same) in
    placed_view old.log.items n content (state_of old.start) (state_of c.put.new.self) none start
    (placed old.start.files.items old.start.names.names.items old.start.paired)
