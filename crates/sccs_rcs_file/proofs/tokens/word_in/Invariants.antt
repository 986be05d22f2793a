use Rattle.std.proofs.Common.{◌≡◌, ◌+◌, ◌++◌, drop, take, length}
use Rattle.sccs_rcs_file.specs.Tokens.{behind_word, word_in}
use Rattle.sccs_rcs_file.proofs.tokens.word_in.Given as goal

-- so many bytes of the word came so far
abbrev pub invariant-bytes : goal.invariant-bytes
invariant-bytes l =
    (l.len + length l.rest ≡ length l.fn.bytes)
    × (drop l.len l.fn.bytes ≡ l.rest)
    × (take l.len l.fn.bytes ++ word_in l.rest ≡ word_in l.fn.bytes)
    × (behind_word l.rest ≡ behind_word l.fn.bytes)

abbrev pub decreases-bytes : goal.decreases-bytes
decreases-bytes l = length l.rest
