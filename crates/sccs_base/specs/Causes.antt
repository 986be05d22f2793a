-- Clauses that stand together, said once. A count of faults is that of an object that was handed in.
use Rattle.std.specs.Prelude.{◌≡◌, ℕ, ◌≤◌, List, Option, Result, Err, OnOk, OnErr}
use Rattle.sccs_base.specs.Stream.{Rose, GivesOk, GivesSome}

-- The count never falls, and this fault comes only where it rose.
pub record Caused {T E : Type 0} (fault : E) (before after : ℕ) (result : Result T E) : Type 0 where
  pub later : before ≤ after
  pub cause : result ≡ Err fault → Rose before after

-- A text is given to a sink: all of it, or a prefix where the sink failed.
pub record GivesText {T E : Type 0} (text : List ℕ) (given given_after : Option (List ℕ)) (faults faults_after : ℕ)
    (result : Result T E) : Type 0 where
  pub ok : OnOk result (GivesOk given given_after text)
  pub err : OnErr result (GivesSome given given_after text)
  pub later : faults ≤ faults_after
  pub cause : OnErr result (Rose faults faults_after)
