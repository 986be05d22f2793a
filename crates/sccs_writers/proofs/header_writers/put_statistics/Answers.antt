use Rattle.sccs_writers.proofs.PutLaws.{same_text}
use Rattle.sccs_writers.proofs.HeaderLaws.{counts_text}
use Rattle.sccs_writers.proofs.header_writers.put_statistics.Goals as goal

pub returns : goal.returns
returns g c = same_text (counts_text _ _ _ c.args.entry.now.inserted c.args.entry.now.deleted c.args.entry.now.unchanged
    c.five_digits.ensures c.five_digits-2.ensures c.five_digits-3.ensures) c.put_counts.ensures
