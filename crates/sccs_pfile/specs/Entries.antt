-- The entries of a p-file: deltas that are to be made.
use Rattle.std.specs.Prelude.{All}
use Rattle.sccs_base.specs.Login.{IsLogin}
use Rattle.sccs_sid.specs.Moment.{IsMoment}
use Rattle.sccs_sid.specs.Sid.{IsSid}
use Rattle.sccs_sid.specs.SidLists.{IsRange}
use Rattle.sccs_pfile.specs.declared.entries.Edit.{Edit}

-- An entry that has a spelling: its SIDs, login and moment are such, and its lists hold ranges of SIDs.
pub record IsEdit (e : Edit) : Type 0 where
  pub got : IsSid e.got
  pub made : IsSid e.made
  pub login : IsLogin e.login
  pub moment : IsMoment e.moment
  pub include : All IsRange e.include
  pub exclude : All IsRange e.exclude
