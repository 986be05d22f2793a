use Rattle.std.specs.List.{All}
use Rattle.std.proofs.Common.{◌≡◌, length, min, take, sym, ap, subst, ◌∙◌, arith}
use Rattle.sccs_disk.specs.DirectoryStates.{state_of}
use Rattle.sccs_disk.specs.MemoryFiles.{model_of, model_after, left_by_stop, IsFirmFile}
use Rattle.sccs_disk.specs.MemoryDisks.{disk_after}
use Rattle.sccs_disk.specs.States.{stored}
use Rattle.std.proofs.lemmas.List.{length-map}
use Rattle.sccs_disk.proofs.Crashes.{start_state, names_fewer, crash_view}
use Rattle.sccs_disk.proofs.Left.{left_firm, left_image}
use Rattle.sccs_disk.proofs.Placed.{placed_sane}
use Rattle.sccs_disk.proofs.Sanity.{placed}
use Rattle.sccs_disk.proofs.memory_disk.MemoryDisk.crash.Goals as goal

pub invariant_of-result : goal.invariant_of-result
invariant_of-result c =
    let start = c.in_ok-start.start in
    let log = c.in_ok-log.log.items in
    record {
      current = start_state log (state_of start) (state_of c.in_ok-directory.directory) c.in_ok-log.ensures.items
          c.in_ok-directory.ensures;
      sane = placed_sane log (state_of start) c.in_ok-log.ensures.items
          (placed start.files.items start.names.names.items start.paired);
      firm = subst (All IsFirmFile) (sym c.in_ok-start.ensures.files)
          (left_firm c.args.fill (length c.in_ok-named.named.files.items) (state_of c.in_ok-files.files).files);
      recorded = omega (arith, ap length c.in_ok-log.ensures.items);
      fits = c.in_ok-log.ensures.capacity;
    }

pub left-requires : goal.left-requires
left-requires c =
    let all = c.in_ok-files.files in
    let part = c.in_ok-named.named in
    names_fewer (state_of c.args.self.now.start) (take c.min-count.result c.deref.result.now) c.count_kept.result
    all.files.items part.files.items (state_of all).names (state_of part).names
    c.in_ok-files.ensures c.in_ok-named.ensures

pub returns-clause-left : goal.returns-clause-left
returns-clause-left c =
    let self = c.args.self.now in
    let all = c.in_ok-files.files in
    let part = c.in_ok-named.named in
    let start = c.in_ok-start.start in
    let items = c.deref.result.now in
    let count : c.min-count.result ≡ min (length items) c.args.calls =
    c.min-count.ensures ∙ ap (λ n. min n c.args.calls) (c.len.ensures
    ∙ (self.log.ok.0 ∙ sym (ap length c.deref.ensures.value))) in
    crash_view (state_of self.start) items c.in_ok-log.log.items c.args.calls c.min-count.result c.count_kept.result
    c.args.names (length part.files.items) c.args.fill (state_of all) (state_of part) (state_of start)
    count c.in_ok-files.ensures c.in_ok-named.ensures (c.count_kept.ensures.names (state_of self.start))
    c.in_ok-start.ensures.files c.in_ok-start.ensures.names (sym (length-map part.files.items stored))
    (placed part.files.items part.names.names.items part.paired) c.in_ok-log.ensures.items
    ∙ ap (λ l. left_by_stop (model_after (model_of (state_of self.start)) (take c.args.calls l)) c.args.names
    c.args.fill) c.deref.ensures.value

pub returns-clause-image : goal.returns-clause-image
returns-clause-image c = left_image (disk_after c.args.self.now c.args.calls) c.args.names c.args.fill _
    (returns-clause-left c)
