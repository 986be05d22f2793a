-- What a turn of giving leaves, and turns put together.
use Rattle.std.proofs.Common.{◌≡◌, ℕ, false, List, Option, None, Some, option_map, Result, Ok, Err, refl, sym, ap}
use Rattle.std.proofs.Common.{subst, ◌∙◌, arith}
use Rattle.std.specs.Prelude.{IfSome, OnOk}
use Rattle.std.specs.Str.{bytes_eq}
use Rattle.sccs_disk.specs.Files.{Content, View}
use Rattle.sccs_disk.specs.Told.{Told, seen}
use Rattle.sccs_name_files.specs.StepFiles.{Moves}
use Rattle.sccs_history.specs.Body.{HistoryLine}
use Rattle.sccs_history.specs.declared.headers.Item.{Item}
use Rattle.sccs_keywords.specs.Expansion.{HasMoments}
use Rattle.sccs_sid.specs.declared.refusals.StepFault.{StepFault}
use Rattle.sccs_table.specs.ReaderState.{bytes_in}
use Rattle.sccs_table.specs.declared.fronts.Front.{Front}
use Rattle.sccs_versions.specs.Coming.{IsBody}
use Rattle.sccs_versions.specs.Place.{VersionPlace}
use Rattle.sccs_writers.proofs.OneFile.{only_both, only_none}
use Rattle.sccs_printing.specs.Giving.{CutsLines, Gave, KeepsForm, Moved, ReadSome, ReadWhole, giving_form}
use Rattle.sccs_steps.specs.Causes.{PrintCauses}
use Rattle.sccs_printing.specs.Targets.{CanTake, IsApart, KeepsTargetMark, Reaches, UsesTarget, file_of, target_bytes}
use Rattle.sccs_printing.specs.declared.givings.Giving.{Giving}
use Rattle.sccs_printing.proofs.GivingLaws.{moved_both, moved_cut, moved_end, read_both, read_end}
use Rattle.sccs_base.proofs.Rises.{rose_later}

-- ---- what is reached

pub reaches_none : (file : Option (List ℕ)) (o : Option (List ℕ)) (t : Told) → Reaches file o o t t
reaches_none None o t = refl
reaches_none (Some n) o t = (refl, only_none n t)

pub reaches_both : (file : Option (List ℕ)) (o o2 o3 : Option (List ℕ)) (t t2 t3 : Told) → Reaches file o o2 t t2
    → Reaches file o2 o3 t2 t3 → Reaches file o o3 t t3
reaches_both None o o2 o3 t t2 t3 one two = two ∙ one
reaches_both (Some n) o o2 o3 t t2 t3 one two = (two.0 ∙ one.0, only_both n t t2 t3 one.1 two.1)

pub mark_none : (file : Option (List ℕ)) (t : Told) → KeepsTargetMark file t t
mark_none None t = tt
mark_none (Some n) t = refl

pub mark_both : (file : Option (List ℕ)) (t t2 t3 : Told) → KeepsTargetMark file t t2 → KeepsTargetMark file t2 t3
    → KeepsTargetMark file t t3
mark_both None t t2 t3 one two = tt
mark_both (Some n) t t2 t3 one two = two ∙ one

-- the bytes of another file stay
other_bytes : (n k file : List ℕ) (o o2 : Option View) → bytes_eq n k ≡ false → Moves (bytes_eq n) (λ v. v) o o2
    → bytes_in o k ≡ Some file → bytes_in o2 k ≡ Some file
other_bytes n k file None o2 other moves is = absurd cc
other_bytes n k file (Some u) None other moves is = absurd moves
other_bytes n k file (Some u) (Some v) other moves is =
    ap (λ (o : Option Content). option_map (λ (c : Content). c.bytes) o) (moves k other) ∙ is

pub still_read : (to : Option (List ℕ)) (name file : List ℕ) (o o2 : Option (List ℕ)) (t t2 : Told) → IsApart to name
    → Reaches to o o2 t t2 → bytes_in (seen t) name ≡ Some file → bytes_in (seen t2) name ≡ Some file
still_read None name file o o2 t t2 apart reach is = ap (λ (u : Told). bytes_in (seen u) name) reach ∙ is
still_read (Some n) name file o o2 t t2 apart reach is = other_bytes n name file (seen t) (seen t2) apart reach.1.view
    is

-- the body of an s-file stays the same where another file is written
pub body_stays : (n k file set : List ℕ) (front : Front) (items : List Item) (o o2 : Option View) → bytes_eq n k ≡ false
    → Moves (bytes_eq n) (λ v. v) o o2 → IsBody (bytes_in o k) front set file items
    → IsBody (bytes_in o2 k) front set file items
body_stays n k file set front items o o2 other moves is =
    record {
      told_is = other_bytes n k file o o2 other moves is.told_is;
      front_is = is.front_is;
      items_are =
          is.items_are;
      no_zero = is.no_zero;
    }

-- ---- a text behind another

module _ {T U : Type 0} (x : T) (q : Result U StepFault) where
  mark_then : (file : Option (List ℕ)) (t t2 t3 : Told) → KeepsTargetMark file t t2
      → OnOk q (KeepsTargetMark file t2 t3) → OnOk q (KeepsTargetMark file t t3)
  mark_then file t t2 t3 one two = on_ok q two
    where
      on_ok : (r : Result U StepFault) → OnOk r (KeepsTargetMark file t2 t3) → OnOk r (KeepsTargetMark file t t3)
      on_ok (Ok y) kept = mark_both file t t2 t3 one kept
      on_ok (Err fault) kept = kept

  causes_then : (o o2 o3 d d2 d3 : ℕ) → PrintCauses {X = T} (Ok x) o o2 d d2 → PrintCauses q o2 o3 d2 d3
      → PrintCauses q o o3 d d3
  causes_then o o2 o3 d d2 d3 one two = record {
    out_later = omega (arith, one.out_later, two.out_later);
    disk_later = omega (arith, one.disk_later, two.disk_later);
    write = λ is. rose_later o o2 o3 one.out_later (two.write is);
    read = two.read;
    broke = λ is. rose_later d d2 d3 one.disk_later (two.broke is);
  }

  -- two calls that give text to one target
  pub uses_both : {O D : Type 0} (file file2 : Option (List ℕ)) (given : O → Option (List ℕ)) (out_faults : O → ℕ)
      (told : D → Told) (faults : D → ℕ) (o o2 o3 : O) (d d2 d3 : D) → file2 ≡ file
      → UsesTarget {T = T} file given out_faults told faults o o2 d d2 (Ok x)
      → UsesTarget file2 given out_faults told faults o2 o3 d2 d3 q → UsesTarget file given out_faults told faults o
      o3 d d3 q
  uses_both {O} {D} file file2 given out_faults told faults o o2 o3 d d2 d3 same one two =
      by (subst (λ to. UsesTarget to given out_faults told faults o2 o3 d2 d3 q) same two)
    where
      by : UsesTarget file given out_faults told faults o2 o3 d2 d3 q → UsesTarget file given out_faults told faults o
          o3 d d3 q
      by next = record {
        reaches = reaches_both file (given o) (given o2) (given o3) (told d) (told d2) (told d3) one.reaches
            next.reaches;
        mark = mark_then file (told d) (told d2) (told d3) one.mark next.mark;
        spares = next.spares;
        causes = causes_then (out_faults o) (out_faults o2) (out_faults o3) (faults d) (faults d2)
            (faults d3) one.causes next.causes;
        checks = next.checks;
      }

-- ---- a turn behind others

module _ (g g2 : Giving) (keeps : KeepsForm g g2) where
  pub reach_on : (o o2 o3 : Option (List ℕ)) (t t2 t3 : Told) → Reaches (file_of g.target) o o2 t t2
      → Reaches (file_of g2.target) o2 o3 t2 t3 → Reaches (file_of g.target) o o3 t t3
  reach_on o o2 o3 t t2 t3 one two = reaches_both (file_of g.target) o o2 o3 t t2 t3 one
      (subst (λ f. Reaches f o2 o3 t2 t3) keeps.file two)

  pub mark_on : (t t2 t3 : Told) → KeepsTargetMark (file_of g.target) t t2 → KeepsTargetMark (file_of g2.target) t2 t3
      → KeepsTargetMark (file_of g.target) t t3
  mark_on t t2 t3 one two = mark_both (file_of g.target) t t2 t3 one (subst (λ f. KeepsTargetMark f t2 t3) keeps.file
      two)

  pub can_take : (t : Told) → CanTake (file_of g.target) t → CanTake (file_of g2.target) t
  can_take t there = subst (λ f. CanTake f t) (sym keeps.file) there

  pub facts_stay : IfSome (giving_form g).facts HasMoments → IfSome (giving_form g2).facts HasMoments
  facts_stay facts = subst (λ form. IfSome form.facts HasMoments) (sym keeps.form) facts

  pub turn_moved : (file : List ℕ) (r r2 : VersionPlace) (lines : List HistoryLine) (g3 : Giving)
      (o o2 o3 : Option (List ℕ)) (t t2 t3 : Told) → (m : Moved file r lines g g2 (target_bytes (file_of g.target) o t)
      (target_bytes (file_of g.target) o2 t2))
      → Moved file r2 m.rest g2 g3 (target_bytes (file_of g2.target) o2 t2) (target_bytes (file_of g2.target) o3 t3)
      → Moved file r2 lines g g3 (target_bytes (file_of g.target) o t) (target_bytes (file_of g.target) o3 t3)
  turn_moved file r r2 lines g3 o o2 o3 t t2 t3 m next = moved_both file r r2 lines g g2 g3 _ _ _ keeps m
      (subst (λ f. Moved file r2 m.rest g2 g3 (target_bytes f o2 t2) (target_bytes f o3 t3)) keeps.file next)

  pub turn_end : (file : List ℕ) (r : VersionPlace) (lines : List HistoryLine) (g3 : Giving) (o o2 o3 : Option (List ℕ))
      (t t2 t3 : Told) → (m : Moved file r lines g g2 (target_bytes (file_of g.target) o t)
      (target_bytes (file_of g.target) o2 t2))
      → Gave m.rest g2 g3 (target_bytes (file_of g2.target) o2 t2) (target_bytes (file_of g2.target) o3 t3)
      → Gave lines g g3 (target_bytes (file_of g.target) o t) (target_bytes (file_of g.target) o3 t3)
  turn_end file r lines g3 o o2 o3 t t2 t3 m next = moved_end file r lines g g2 g3 _ _ _ keeps m
      (subst (λ f. Gave m.rest g2 g3 (target_bytes f o2 t2) (target_bytes f o3 t3)) keeps.file next)

  pub turn_cut : (file : List ℕ) (r : VersionPlace) (lines : List HistoryLine) (fault : StepFault) (g3 : Giving)
      (o o2 o3 : Option (List ℕ)) (t t2 t3 : Told) → (m : Moved file r lines g g2 (target_bytes (file_of g.target) o t)
      (target_bytes (file_of g.target) o2 t2))
      → CutsLines m.rest fault g2 g3 (target_bytes (file_of g2.target) o2 t2) (target_bytes (file_of g2.target) o3 t3)
      → CutsLines lines fault g g3 (target_bytes (file_of g.target) o t) (target_bytes (file_of g.target) o3 t3)
  turn_cut file r lines fault g3 o o2 o3 t t2 t3 m cuts = moved_cut file r lines fault g g2 g3 _ _ _ keeps m
      (subst (λ f. CutsLines m.rest fault g2 g3 (target_bytes f o2 t2) (target_bytes f o3 t3)) keeps.file cuts)

  pub turn_read : (live : List ℕ) (r r2 : VersionPlace) (before : List Item) (g3 : Giving) (o o2 o3 : Option (List ℕ))
      (t t2 t3 : Told) → r2.set ≡ r.set → (some : ReadSome live r before g g2 (target_bytes (file_of g.target) o t)
      (target_bytes (file_of g.target) o2 t2))
      → ReadSome live r2 some.items g2 g3 (target_bytes (file_of g2.target) o2 t2)
      (target_bytes (file_of g2.target) o3 t3) → ReadSome live r2 before g g3 (target_bytes (file_of g.target) o t)
      (target_bytes (file_of g.target) o3 t3)
  turn_read live r r2 before g3 o o2 o3 t t2 t3 same some next = read_both live r r2 before g g2 g3 _ _ _ same keeps
      some (subst (λ f. ReadSome live r2 some.items g2 g3 (target_bytes f o2 t2) (target_bytes f o3 t3)) keeps.file
      next)

  pub turn_whole : (live set : List ℕ) (r r2 : VersionPlace) (before : List Item) (g3 : Giving)
      (o o2 o3 : Option (List ℕ)) (t t2 t3 : Told) → r2.set ≡ set → r2.set ≡ r.set
      → (some : ReadSome live r before g g2 (target_bytes (file_of g.target) o t)
      (target_bytes (file_of g.target) o2 t2))
      → ReadWhole live r2.set some.items g2 g3 (target_bytes (file_of g2.target) o2 t2)
      (target_bytes (file_of g2.target) o3 t3) → ReadWhole live set before g g3
      (target_bytes (file_of g.target) o t) (target_bytes (file_of g.target) o3 t3)
  turn_whole live set r r2 before g3 o o2 o3 t t2 t3 is same some next = read_end live set r r2 before g g2 g3 _ _ _ is
      same keeps some (subst (λ f. ReadWhole live r2.set some.items g2 g3 (target_bytes f o2 t2) (target_bytes f o3 t3))
      keeps.file next)
