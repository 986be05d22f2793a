use Rattle.std.proofs.Common.{◌≡◌, ◌+◌, drop, map}
use Rattle.std.specs.List.{AllByRecursion}
use Rattle.sccs_sid.specs.Moment.{IsMoment}
use Rattle.sccs_sid.specs.Sid.{IsSid}
use Rattle.sccs_history.specs.Applied.{newest}
use Rattle.sccs_history.specs.History.{IsSpelled}
use Rattle.sccs_records.specs.NewDeltas.{last_of, null_delta, with_deltas}
use Rattle.sccs_records.proofs.null_deltas.add_null_deltas.Given as goal

-- what was put and what is left is all
abbrev pub invariant-loop-sid : goal.invariant-loop-sid
invariant-loop-sid l = record {
  value : with_deltas l.header l.on (map (null_delta l.stamp) (drop l.sid-index l.sids)) ≡ with_deltas l.fn.based.header
      l.fn.based.on (map (null_delta l.stamp) l.sids);
  last : last_of l.on (newest l.header.records) (map (null_delta l.stamp) (drop l.sid-index l.sids))
      ≡ last_of l.fn.based.on (newest l.fn.based.header.records) (map (null_delta l.stamp) l.sids);
  newest : newest l.header.records ≡ newest l.fn.based.header.records + l.sid-index;
  spelled : IsSpelled l.fn.based.header → IsMoment l.stamp.moment → AllByRecursion IsSid l.sids → IsSpelled l.header;
}
