use Rattle.std.proofs.Common.{rules}
use Rattle.sccs_rcs_file.proofs.Lexing.{lexemes_found}
use Rattle.sccs_rcs_file.proofs.tokens.next_token.Goals as goal

pub returns : goal.returns
returns c =
    lexemes_found c.args.bytes.now c.from_token-bytes.result.now c.in-Some.first.now c.in-Some.behind.now
    c.in-Some-token_at.token c.in-Some-token_at.rest.now
    c.from_token-bytes.ensures.value (search rules) c.in-Some-token_at.ensures
