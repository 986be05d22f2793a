use Rattle.sccs_tokens.proofs.NoLf.{no_lf_skipped}
use Rattle.sccs_tokens.proofs.tokenizing.flag_line.Goals as goal

pub flag-requires : goal.flag-requires
flag-requires c = rw c.skip_blanks.ensures.value (no_lf_skipped c.args.bytes.now c.requires)
