-- The dropper as a filter.
use Rattle.std.specs.Prelude.{◌==◌, if◌then◌else◌, not}
use Rattle.std.proofs.Common.{◌≡◌, ℕ, Bool, true, false, List, [], ◌∷◌, ◌++◌, map, Some, Result, Ok, Err, OnOk, refl}
use Rattle.std.proofs.Common.{sym, ap, subst, ◌∙◌}
use Rattle.sccs_disk.specs.Told.{Told}
use Rattle.sccs_disk.specs.declared.disks.DiskRefusal.{DiskRefusal}
use Rattle.sccs_history.specs.Numbers.{front_if}
use Rattle.sccs_history.specs.Body.{inserter}
use Rattle.sccs_history.specs.Removal.{dropped_behind}
use Rattle.sccs_history.specs.declared.headers.Item.{Item}
use Rattle.sccs_history.specs.declared.headers.Item.TheVariants.{Text, Insert, Delete, End}
use Rattle.sccs_body.specs.ItemsRead.{texts_behind}
use Rattle.sccs_versions.specs.Regions.{OpensRegions}
use Rattle.sccs_versions.specs.declared.regions.Region.{Region}
use Rattle.sccs_writers.specs.Puts.{PutsText, Writer}
use Rattle.sccs_writers.specs.Spelled.{spelled}
use Rattle.sccs_copies.specs.Filters.{Finishes, PassesTexts, TakesItem}
use Rattle.sccs_copies.proofs.SplicingLaws.{nothing_put}
use Rattle.sccs_rmdel.specs.Dropping.{dropping, stays}
use Rattle.sccs_rmdel.specs.declared.droppers.Dropper.{Dropper}

-- the first item stays or not, and then the others
first_item : (n : ℕ) (before : List Item) (item : Item) (rest : List Item) → dropped_behind n before (item ∷ rest)
    ≡ front_if (stays n before item) item (dropped_behind n (item ∷ before) rest)
first_item n before (Text text) rest = refl
first_item n before (Insert m) rest = refl
first_item n before (Delete m) rest = refl
first_item n before (End m) rest = refl

alone : (t : Bool) (item : Item) (rest : List Item) → front_if t item [] ++ rest ≡ front_if t item rest
alone true item rest = refl
alone false item rest = refl

on_any : {T P : Type 0} (r : Result T DiskRefusal) → P → OnOk r P
on_any (Ok done) p = p
on_any (Err refusal) p = tt

-- an item is put where it stays
pub drop_takes : {T : Type 0} (d : Dropper) (regions2 : List Region) (item : Item) (wanted : Bool) (w w2 : Writer)
    (a c : Told) (f g : ℕ) (r : Result T DiskRefusal) → ((before : List Item) → OpensRegions before d.weaver
    → OpensRegions (item ∷ before) regions2)
    → ((before : List Item) → OpensRegions before d.weaver → wanted ≡ stays d.serial before item)
    → PutsText (spelled (front_if wanted item [])) w w2 a c f g r → TakesItem dropping item d
    (record { serial = d.serial; weaver = regions2; set = d.set }) w w2 a c f g r
drop_takes d regions2 item wanted w w2 a c f g r take same puts = record {
  items = front_if wanted item [];
  puts = puts;
  filters = on_any r (λ before opens. record {
    behind = take before opens;
    goes = λ rest.
        ap (λ (l : List Item). Some l)
        (alone wanted item (dropped_behind d.serial (item ∷ before) rest)
        ∙ (ap (λ t. front_if t item (dropped_behind d.serial (item ∷ before) rest)) (same before opens)
        ∙ sym (first_item d.serial before item rest)));
  });
}

-- lines that stand together stay, or none does
dropped_texts : (n : ℕ) (wanted : Bool) (before : List Item) (lines : List (List ℕ)) (rest : List Item)
    → wanted ≡ not (inserter before == n)
    → (if wanted then map Text lines else []) ++ dropped_behind n (texts_behind lines before) rest
    ≡ dropped_behind n before (map Text lines ++ rest)
dropped_texts n true before [] rest is = refl
dropped_texts n false before [] rest is = refl
dropped_texts n true before (line ∷ lines) rest is =
    ap (λ (l : List Item). Text line ∷ l) (dropped_texts n true (Text line ∷ before) lines rest is)
    ∙ ap (λ t. front_if t (Text line) (dropped_behind n (Text line ∷ before) (map Text lines ++ rest))) is
dropped_texts n false before (line ∷ lines) rest is =
    dropped_texts n false (Text line ∷ before) lines rest is
    ∙ ap (λ t. front_if t (Text line) (dropped_behind n (Text line ∷ before) (map Text lines ++ rest))) is

opens_texts : (lines : List (List ℕ)) (before : List Item) (w : List Region) → OpensRegions before w
    → OpensRegions (texts_behind lines before) w
opens_texts [] before w opens = opens
opens_texts (line ∷ lines) before w opens = opens_texts lines (Text line ∷ before) w opens

pub drop_texts : (d : Dropper) (wanted : Bool) → ((before : List Item) → OpensRegions before d.weaver
    → wanted ≡ not (inserter before == d.serial)) → PassesTexts dropping d wanted
drop_texts d wanted same before lines opens = record {
  behind = opens_texts lines before d.weaver opens;
  goes = λ rest. ap (λ (l : List Item). Some l) (dropped_texts d.serial wanted before lines rest (same before opens));
}

-- nothing is left behind the last item
pub drop_ends : (d : Dropper) (w : Writer) (t : Told) (k : ℕ) → Finishes dropping d w w t t k k (Ok true)
drop_ends d w t k = record { items = []; puts = nothing_put true w t k; ends = λ before opens. refl }

-- one that isn't wanted isn't put
pub none_put : (wanted : Bool) (item : Item) (w : Writer) (t : Told) (k : ℕ) → wanted ≡ false → PutsText {T = Unit {0}}
    (spelled (front_if wanted item [])) w w t t k k (Ok tt)
none_put wanted item w t k is = subst (λ b. PutsText {T = Unit {0}} (spelled (front_if b item [])) w w t t k k (Ok tt))
    (sym is) (nothing_put tt w t k)
