use Rattle.std.proofs.Common.{◌≡◌, arith, pos, ◌*ℤ◌}
use Rattle.jiff_core.proofs.SignedLemmas.{signed_arith}
use Rattle.jiff_core.specs.DateTime.{civil_nanos}
use Rattle.sccs_sid.specs.Moment.{civil_of}
use Rattle.sccs_sid.proofs.Shown.{IsShown, shown_is}
use Rattle.sccs_sid.proofs.dates.shown_at.Goals as goal

pub returns : goal.returns
returns c =
    let nanos : civil_nanos c.to_datetime.result ≡ c.args.moment.now.seconds *ℤ pos 1_000_000_000 =
    omega (arith, signed_arith, c.to_datetime.ensures, c.constant.ensures) in
    let is : IsShown c.to_datetime.result (civil_of c.args.moment.now) =
    shown_is _ c.args.moment.now c.requires nanos in
    record { year = is.year; month = is.month; day = is.day; hour = is.hour; minute = is.minute; second = is.second }
