-- A file that keeps its mark.
use Rattle.std.proofs.Common.{◌≡◌, ℕ, List, Option, None, Some, option_map, refl, sym, ap, subst, ◌∙◌}
use Rattle.sccs_disk.specs.Effects.{altered}
use Rattle.sccs_disk.specs.Files.{Content, View, put}
use Rattle.sccs_disk.proofs.Puts.{put_back}
use Rattle.sccs_store.specs.Commits.{Becomes}
use Rattle.sccs_store.proofs.Working.{becomes_as}
use Rattle.sccs_store.specs.Finished.{finished}
use Rattle.sccs_store.specs.declared.modes.Mode.{Mode}
use Rattle.sccs_store.specs.declared.modes.Mode.TheVariants.{Writable}

same_content : (o : Option Content) → option_map (finished Writable) o ≡ o
same_content None = refl
same_content (Some c) = refl

same_mark : (n : List ℕ) (v : View) → altered n (finished Writable) v ≡ v
same_mark n v = ap (λ (o : Option Content). put v n o) (same_content (v n)) ∙ put_back v n

pub mark_kept : (n : List ℕ) (mode : Mode) (o o2 : Option View) → mode ≡ Writable → Becomes (λ v. v) o o2
    → Becomes (altered n (finished mode)) o o2
mark_kept n mode o o2 is same =
    subst (λ (x : Mode). Becomes (altered n (finished x)) o o2) (sym is)
    (becomes_as (λ v. v) (altered n (finished Writable)) o o2 (λ v. sym (same_mark n v)) same)
