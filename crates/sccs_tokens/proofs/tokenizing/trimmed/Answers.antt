use Rattle.sccs_tokens.proofs.NoLf.{no_lf_trimmed}
use Rattle.sccs_tokens.proofs.tokenizing.trimmed.Goals as goal

pub line_of-requires : goal.line_of-requires
line_of-requires c = rw (c.drop_blanks.ensures.value, c.skip_blanks.ensures.value)
    (no_lf_trimmed c.args.bytes.now c.requires)
