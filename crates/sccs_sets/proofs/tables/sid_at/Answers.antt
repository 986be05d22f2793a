use Rattle.std.proofs.Common.{sym, ap, ◌∙◌}
use Rattle.std.specs.Option.{option_copied}
use Rattle.sccs_sets.proofs.Lookups.{record_there}
use Rattle.sccs_sets.proofs.tables.sid_at.Goals as goal

pub unreachable-requires : goal.unreachable-requires
unreachable-requires c =
    record_there c.args.records.now c.args.serial c.requires (sym c.record_at.ensures ∙ ap option_copied c.in-None.is)
