use Rattle.std.proofs.Common.{◌≡◌, ◌+◌, ◌-◌, ◌≤◌, [], None, drop, length}
use Rattle.sccs_words.specs.Scan.{scanned}
use Rattle.sccs_words.proofs.scanning.scan_words.Given as goal

-- what is still to be read, after what was read, is the whole
abbrev pub invariant-words : goal.invariant-words
invariant-words l =
    (l.i ≤ length l.words) × (scanned l.options (l.number + l.i) l.uses.items l.waits (drop l.i l.words)
    ≡ scanned l.options l.number [] None l.words)

abbrev pub decreases-words : goal.decreases-words
decreases-words l = length l.words - l.i
