use Rattle.std.proofs.Common.{ap, ◌∙◌}
use Rattle.sccs_tokens.specs.Written.{five}
use Rattle.sccs_disk.specs.Told.{seen}
use Rattle.sccs_writers.proofs.OneFile.{only_both}
use Rattle.sccs_store.proofs.Working.{firm_after, range_there, sum_written, write_only}
use Rattle.sccs_store.proofs.working_files.write_sum.Goals as goal

pub seal-requires : goal.seal-requires
seal-requires g c = (write_only c.args.name.now 2 c.five_digits.result _ _ _ _ c.write_at.result
    c.write_at.ensures).there (range_there c.args.name.now 2 5 _ c.requires)

pub returns-in-Ok-clause-view : goal.returns-in-Ok-clause-view
returns-in-Ok-clause-view g c = sum_written c.args.name.now c.five_digits.result c.args.sum _
    (seen (g.D.Disk.told c.write_at.new.self)) _ (c.five_digits.ensures ∙ ap five c.from.ensures)
    c.in_ok-write_at.ensures.done.view c.in-Ok.ensures.view

pub returns-in-Ok-clause-only : goal.returns-in-Ok-clause-only
returns-in-Ok-clause-only g c =
    only_both c.args.name.now _ (g.D.Disk.told c.write_at.new.self) _ (write_only c.args.name.now 2 c.five_digits.result
    _ _ _ _ c.write_at.result c.write_at.ensures) c.seal.ensures.only

pub returns-in-Ok-clause-firm : goal.returns-in-Ok-clause-firm
returns-in-Ok-clause-firm g c =
    firm_after c.args.name.now _ (g.D.Disk.told c.write_at.new.self) _
    (write_only c.args.name.now 2 c.five_digits.result _ _ _ _ c.write_at.result c.write_at.ensures)
    c.in-Ok.ensures.firm

pub returns-in-Err-clause-only : goal.returns-in-Err-clause-only
returns-in-Err-clause-only g c =
    only_both c.args.name.now _ (g.D.Disk.told c.write_at.new.self) _ (write_only c.args.name.now 2 c.five_digits.result
    _ _ _ _ c.write_at.result c.write_at.ensures) c.seal.ensures.only

pub returns-in_err-write_at-clause-only : goal.returns-in_err-write_at-clause-only
returns-in_err-write_at-clause-only g c = write_only c.args.name.now 2 c.five_digits.result _ _ _ _ c.write_at.result
    c.write_at.ensures
