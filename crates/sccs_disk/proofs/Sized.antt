-- A file that has a length is there.
use Rattle.std.proofs.Common.{◌≡◌, ℕ, ◌+◌, ◌≤◌, List, Option, None, Some, option_map, length, subst, sym, refl}
use Rattle.std.specs.Prelude.{IfSome, IsSome}
use Rattle.sccs_disk.specs.Calls.{IsThere, HasRange, HasBytes}
use Rattle.sccs_disk.specs.Files.{Content, View}
use Rattle.sccs_disk.specs.Reads.{Measures}
use Rattle.sccs_disk.specs.Told.{Told, seen}

some_there : (o : Option Content) (size : ℕ) → Some size ≡ option_map (λ (c : Content). length c.bytes) o → IsSome o
some_there None size is = cc
some_there (Some c) size is = refl

measured : (o : Option View) (n : List ℕ) (size : ℕ) → Measures o n (Some size) → IfSome o (λ (v : View). IsSome (v n))
measured None n size is = tt
measured (Some v) n size is = some_there (v n) size is

pub sized_there : (n : List ℕ) (old new : Told) (size : ℕ) → Measures (seen old) n (Some size) → new ≡ old
    → IsThere n new
sized_there n old new size is same = subst (IsThere n) (sym same) (measured (seen old) n size is)

some_range : (o : Option Content) (from count size : ℕ) → Some size ≡ option_map (λ (c : Content). length c.bytes) o
    → from + count ≤ size → HasBytes o from count
some_range None from count size is fits = cc
some_range (Some c) from count size is fits = let same : size ≡ length c.bytes = cc in
    subst (λ k. from + count ≤ k) same fits

ranged : (o : Option View) (n : List ℕ) (from count size : ℕ) → Measures o n (Some size) → from + count ≤ size
    → IfSome o (λ (v : View). HasBytes (v n) from count)
ranged None n from count size is fits = tt
ranged (Some v) n from count size is fits = some_range (v n) from count size is fits

pub sized_range : (n : List ℕ) (from count : ℕ) (old new : Told) (size : ℕ) → Measures (seen old) n (Some size)
    → new ≡ old → from + count ≤ size → HasRange n from count new
sized_range n from count old new size is same fits = subst (HasRange n from count) (sym same)
    (ranged (seen old) n from count size is fits)
