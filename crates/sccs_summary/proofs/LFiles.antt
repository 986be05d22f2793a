-- An l-file that is made whole, through the y-file.
use Rattle.std.proofs.Common.{◌≡◌, ℕ, List, Option, None, Some, option_map, Result, inl, inr, refl, sym, ap, subst, ◌∙◌}
use Rattle.std.specs.Str.{bytes_eq}
use Rattle.sccs_base.specs.Name.{IsSFileName, y_file}
use Rattle.sccs_disk.specs.Effects.{renamed}
use Rattle.sccs_disk.specs.Files.{View, put, view_of}
use Rattle.sccs_disk.specs.Told.{Told, seen}
use Rattle.sccs_disk.specs.declared.disks.DiskRefusal.{DiskRefusal}
use Rattle.sccs_disk.proofs.Puts.{put_same}
use Rattle.sccs_name_files.specs.StepFiles.{Moves, l_file}
use Rattle.sccs_store.specs.Placing.{HasMade, PlaceEnds, PlaceStops}
use Rattle.sccs_store.proofs.MadeWhole.{ends_after, ends_before, ends_pairs, ends_within}
use Rattle.sccs_history.specs.declared.headers.Record.{Record}
use Rattle.sccs_name_files.specs.Touches.{Leaves, TouchesOnly}
use Rattle.sccs_crash_points.specs.Unlocked.{KeepsOthers}
use Rattle.sccs_crash_points.proofs.FileNames.{l_plain}
use Rattle.sccs_crash_points.proofs.Unlocked.{others_then, others_touched, others_wider}
use Rattle.sccs_store.specs.Commits.{Becomes, MayBecome}
use Rattle.sccs_writers.specs.Puts.{PutsText, Writer}
use Rattle.sccs_summary.specs.SummaryFiles.{LosesNothing, MakesPartly, is_summary, l_made, summary_file}
use Rattle.sccs_base.proofs.Bools.{left_false}

-- ---- puts

-- what is put of a delta that is another by its place
pub put_as : {T : Type 0} (f : Record → List ℕ) (r r2 : Record) (w w2 : Writer) (a b : Told) (x y : ℕ)
    (q : Result T DiskRefusal) → r ≡ r2 → PutsText (f r) w w2 a b x y q → PutsText (f r2) w w2 a b x y q
put_as f r r2 w w2 a b x y q is puts = subst (λ (s : Record). PutsText (f s) w w2 a b x y q) is puts

-- ---- views

becomes_both : (f g : View → View) (a b c : Option View) → Becomes f a b → Becomes g b c → Becomes (λ v. g (f v)) a c
becomes_both f g None b c first second = second ∙ ap (λ (o : Option View). option_map g o) first
becomes_both f g (Some v) b c first second = second ∙ ap (λ (o : Option View). option_map g o) first

module _ (n text : List ℕ) where
  abbrev with_y : View → View
  with_y v = put v (y_file n) (Some (summary_file text))

  abbrev y_placed : View → View
  y_placed v = renamed (y_file n) (l_file n) v

  pub made_l : (a b c : Option View) → Becomes with_y a b → Becomes y_placed b c → Becomes (l_made n text) a c
  made_l a b c first second = becomes_both with_y y_placed a b c first second

  pub made_partly : (a b c : Option View) → Becomes with_y a b → Moves (bytes_eq (y_file n)) (λ v. v) a b
      → MayBecome y_placed b c → MakesPartly n text a c
  made_partly a b c first moves (inl same) = inl (subst (λ (o : Option View). Moves (bytes_eq (y_file n)) (λ v. v) a o)
      (sym same) moves)
  made_partly a b c first moves (inr second) = inr (made_l a b c first second)

  -- ---- what a stop leaves

  view_is : (u w : View) → Some u ≡ Some w → u ≡ w
  view_is u w e = cc

  y_leaves : (a b : Told) → Becomes with_y (seen a) (seen b)
      → Leaves (λ m1. view_of m1 (y_file n) ≡ Some (summary_file text)) a b
  y_leaves a b is = λ m past told m2 past2 now.
      ap (λ (t : View). t (y_file n)) (view_is (view_of m2) (with_y (view_of m)) (sym (ap seen now)
      ∙ (is ∙ ap (λ (t : Told). option_map with_y (seen t)) told)))
      ∙ put_same (view_of m) (y_file n) (Some (summary_file text))

  module _ (sfile : IsSFileName n) where
    pub loses_touching : (a b : Told) → TouchesOnly (bytes_eq (y_file n)) a b → LosesNothing a b
    loses_touching a b touches = λ m past is calm. ends_pairs (l_file n) None 0 m past b
        (ends_before n (l_file n) None a b m past refl sfile is calm touches)

    pub loses_within : (a b d : Told) → HasMade n a b → Becomes with_y (seen a) (seen b) → PlaceStops n (l_file n) b d
        → LosesNothing a d
    loses_within a b d made view stops = λ m past is calm.
        ends_pairs (l_file n) (Some (summary_file text)) 0 m past d (ends_within n (l_file n) (Some (summary_file text))
        a b d m past refl sfile is calm (l_plain n) made (y_leaves a b view) stops)

    pub loses_after : (a b d : Told) → HasMade n a b → Becomes with_y (seen a) (seen b) → PlaceEnds n (l_file n) b d
        → LosesNothing a d
    loses_after a b d made view ends = λ m past is calm.
        ends_pairs (l_file n) (Some (summary_file text)) 1 m past d (ends_after n (l_file n) (Some (summary_file text))
        a b d m past refl sfile is calm (l_plain n) made (y_leaves a b view) ends)

-- ---- other files

pub y_others : (n : List ℕ) (a b : Told) → TouchesOnly (bytes_eq (y_file n)) a b → KeepsOthers (is_summary n) a b
y_others n a b touches = others_wider (bytes_eq (y_file n)) (is_summary n) a b
    (λ k h. left_false (bytes_eq (y_file n) k) _ h) (others_touched (bytes_eq (y_file n)) a b touches)

pub both_others : (n : List ℕ) (a b c : Told) → TouchesOnly (bytes_eq (y_file n)) a b → KeepsOthers (is_summary n) b c
    → KeepsOthers (is_summary n) a c
both_others n a b c touches keeps = others_then (is_summary n) a b c (y_others n a b touches) keeps
