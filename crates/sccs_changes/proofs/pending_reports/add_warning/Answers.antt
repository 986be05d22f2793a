use Rattle.std.proofs.Common.{ap, ◌++◌, ◌∙◌}
use Rattle.sccs_changes.proofs.Warnings.{warned}
use Rattle.sccs_changes.proofs.pending_reports.add_warning.Goals as goal

pub returns-in_ok-extend_from_slice-3 : goal.returns-in_ok-extend_from_slice-3
returns-in_ok-extend_from_slice-3 c = record {
  ok = warned c.args.message.now.items c.args.name.now c.extend_from_slice.new.self.items
      c.extend_from_slice-then-not-keyword.new.self.items _ c.args.keyword c.if-not-keyword.true
      c.in_ok-extend_from_slice.ensures.items
      (c.in_ok-extend_from_slice-2.ensures.items ∙ ap (λ n. c.extend_from_slice.new.self.items ++ n)
      c.bytes.ensures.value) c.in_ok-extend_from_slice-3.ensures.items;
}
