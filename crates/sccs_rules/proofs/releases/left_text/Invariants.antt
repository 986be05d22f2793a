use Rattle.std.proofs.Common.{◌≡◌, ◌++◌, drop, flat_map}
use Rattle.sccs_rules.specs.Unlocked.{behind_comma, left_of}
use Rattle.sccs_rules.proofs.releases.left_text.Given as goal

-- the text so far, and that of the rest
abbrev pub invariant-loop-release : goal.invariant-loop-release
invariant-loop-release l = l.text.items ++ flat_map behind_comma (left_of l.others (drop l.release-index l.releases))
    ≡ flat_map behind_comma (left_of l.others l.releases)
