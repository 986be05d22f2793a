use Rattle.std.proofs.Common.{◌≡◌, drop}
use Rattle.sccs_rules.specs.Flags.{by_words, remove_word}
use Rattle.sccs_rules.proofs.flag_changes.remove_words.Given as goal

-- the words that are left make all of what is there
abbrev pub invariant-loop-word : goal.invariant-loop-word
invariant-loop-word l = by_words remove_word l.flags (drop l.word-index l.words) ≡ by_words remove_word l.fn.flags
    l.words
