use Rattle.std.proofs.Common.{sym, arith}
use Rattle.sccs_base.proofs.Lines.{lf_off, no_lf_off}
use Rattle.sccs_admin.proofs.texts.without_lf.Goals as goal

pub returns-in-len1-up : goal.returns-in-len1-up
returns-in-len1-up c = sym (lf_off c.args.line.now c.in-len1-up.len_at_least c.if-last-eq-LF.true)

pub returns-in_default : goal.returns-in_default
returns-in_default c = sym (no_lf_off c.args.line.now (λ some. absurd (omega arith)))

pub returns-in_default-2 : goal.returns-in_default-2
returns-in_default-2 c = sym (no_lf_off c.args.line.now (λ some. c.if-last-eq-LF.false))
