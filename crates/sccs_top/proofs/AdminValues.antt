-- The values of admin on a new file are valid ones.
use Rattle.std.proofs.Common.{ℕ, Option, None, Some, IfSome, unwrap_or, arith}
use Rattle.sccs_sid.specs.Moment.{IsMoment}
use Rattle.sccs_sid.specs.Sid.{IsComponent}
use Rattle.sccs_sid.specs.declared.moments.Stamp.{Stamp}
use Rattle.sccs_words.specs.declared.commands.AdminWords.{AdminWords}
use Rattle.sccs_admin.specs.AdminStep.{AreAdminValues}

release_or_one : (release : Option ℕ) → IfSome release IsComponent → IsComponent (unwrap_or release 1)
release_or_one None valid = grind arith
release_or_one (Some release) valid = valid

pub admin_values : (words : AdminWords) (stamp : Stamp) → IfSome words.release IsComponent → IsMoment stamp.moment
    → AreAdminValues words stamp
admin_values words stamp release moment = record {
  release = release_or_one words.release release;
  moment = moment;
}
