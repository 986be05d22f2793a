use Rattle.std.proofs.Common.{arith}
use Rattle.sccs_delta.proofs.NullVersions.{null_version, others_nulls, own_behind}
use Rattle.sccs_delta.proofs.laws.versions_through_null_deltas.Goals as goal

pub returns : goal.returns
returns c = record {
  own = own_behind;
  nulls = λ stamp header got sids d items orders table goes few k high low. null_version stamp header got sids d items
      orders table goes few k high (omega (arith, low));
  others = others_nulls;
}
