-- SIDs, moments, releases and lists in a command are valid ones.
use Rattle.std.specs.Prelude.{◌≤◌, All, IfSome}
use Rattle.sccs_sid.specs.Sid.{IsComponent, IsSid}
use Rattle.sccs_sid.specs.Spec.{IsSpec}
use Rattle.sccs_sid.specs.SidLists.{IsRange}
use Rattle.sccs_sid.specs.Moment.{IsMoment}
use Rattle.sccs_words.specs.declared.commands.Command.{Command}
use Rattle.sccs_words.specs.declared.commands.Command.TheVariants as c
use Rattle.sccs_words.specs.declared.commands.GetWords.{GetWords}
use Rattle.sccs_words.specs.declared.commands.PrsWords.{PrsWords}

-- The values of get's options are valid: a second of the hundred years, lists of ranges, a SID that may be asked for.
pub record AreGetValues (words : GetWords) : Type 0 where
  pub cutoff : IfSome words.cutoff IsMoment
  pub include : IfSome words.include (All IsRange)
  pub exclude : IfSome words.exclude (All IsRange)
  pub spec : IfSome words.spec IsSpec

pub record ArePrsValues (words : PrsWords) : Type 0 where
  pub cutoff : IfSome words.cutoff IsMoment
  pub sid : IfSome words.sid IsSid

-- the values of a command are valid; a release is 1 to 9999, as each number of a SID, and a soak makes at most 2,000
-- rounds
abbrev pub HasValidValues : Command → Type 0
HasValidValues (c.Admin words operands) = IfSome words.release IsComponent
HasValidValues (c.Get words operands) = AreGetValues words
HasValidValues (c.Delta words name) = IfSome words.sid IsSid
HasValidValues (c.Unget words operands) = IfSome words.sid IsSid
HasValidValues (c.Rmdel sid operands) = IsSid sid
HasValidValues (c.Cdc words operands) = IsSid words.sid
HasValidValues (c.Prs words operands) = ArePrsValues words
HasValidValues (c.Soak number) = number ≤ 2000
HasValidValues _ = Unit {0}
