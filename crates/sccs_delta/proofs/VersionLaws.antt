-- Versions of a history with one delta more.
use Rattle.std.proofs.Common.{◌≡◌, ℕ, suc, ◌<◌, ◌≤◌, true, List, [], ◌∷◌, ap, ◌∙◌, arith}
use Rattle.std.proofs.lemmas.Bool.{and_parts}
use Rattle.sccs_script_laws.specs.Places.{places}
use Rattle.sccs_script_laws.specs.Scripts.{apply}
use Rattle.sccs_script_laws.specs.declared.scripts.Order.{Order}
use Rattle.sccs_script_laws.proofs.PlacedItems.{other_placed, select_placed}
use Rattle.sccs_history.specs.Applied.{applied, live_serials, newest, path, version, version_of}
use Rattle.sccs_history.specs.Body.{GoesOn, above, lines_of}
use Rattle.sccs_history.specs.History.{IsTable}
use Rattle.sccs_history.specs.Numbers.{has}
use Rattle.sccs_history.specs.Select.{select}
use Rattle.sccs_history.specs.declared.headers.Item.{Item}
use Rattle.sccs_history.specs.declared.headers.Item.TheVariants.{Text, Insert, Delete, End}
use Rattle.sccs_history.specs.declared.headers.Record.{Record}
use Rattle.sccs_history.proofs.AppliedSets.{applied_falls}
use Rattle.sccs_history.proofs.Falling.{has-falls}
use Rattle.sccs_records.specs.NewDeltas.{with_record}
use Rattle.sccs_records.specs.declared.new_deltas.NewDelta.{NewDelta}
use Rattle.sccs_records.proofs.SetLaws.{older_set, own_set}
use Rattle.sccs_records.proofs.TableLaws.{at_most_newest, falls_newest, live_is_there}
use Rattle.sccs_delta.specs.Versions.{base_set}

above_live : (live : List ℕ) (before items : List Item) (n : ℕ) → ((m : ℕ) → has live m ≡ true → m < n)
    → GoesOn live before items → above items ≤ n
above_live live before [] n low goes = omega arith
above_live live before (Text text ∷ items) n low goes = above_live live (Text text ∷ before) items n low goes.1
above_live live before (Insert m ∷ items) n low goes =
    let here : m < n = low m (and_parts _ _ goes.0).0 in
    let rest : above items ≤ n = above_live live (Insert m ∷ before) items n low goes.1 in omega (arith, here, rest)
above_live live before (Delete m ∷ items) n low goes =
    let here : m < n = low m (and_parts _ _ goes.0).0 in
    let rest : above items ≤ n = above_live live (Delete m ∷ before) items n low goes.1 in omega (arith, here, rest)
above_live live before (End m ∷ items) n low goes =
    let here : m < n = low m (and_parts _ _ goes.0).0 in
    let rest : above items ≤ n = above_live live (End m ∷ before) items n low goes.1 in omega (arith, here, rest)

-- a body names no serial above the newest
pub body_below : (records : List Record) (items : List Item) → IsTable records → GoesOn (live_serials records) [] items
    → above items ≤ suc (newest records)
body_below records items table goes =
    above_live (live_serials records) [] items (suc (newest records)) (λ m live. let low : m ≤ newest records =
    at_most_newest records 65536 m table.falls (live_is_there records m live) in omega (arith, low)) goes

pub own_version : (records : List Record) (on : ℕ) (d : NewDelta) (items : List Item) (orders : List Order)
    → IsTable records → GoesOn (live_serials records) [] items
    → version (suc (newest records)) (with_record records on d) (lines_of (places items (base_set records on d) orders
    (suc (newest records)))) ≡ apply orders (select (base_set records on d) (lines_of items))
own_version records on d items orders table goes =
    ap (λ set. select set (lines_of (places items (base_set records on d) orders (suc (newest records)))))
    (own_set records on d table.falls)
    ∙ select_placed items (base_set records on d) orders (suc (newest records)) (omega arith)
    (body_below records items table goes)

pub other_version : (records : List Record) (on m : ℕ) (d : NewDelta) (items : List Item) (orders : List Order)
    → IsTable records → GoesOn (live_serials records) [] items → m ≤ newest records
    → version m (with_record records on d) (lines_of (places items (base_set records on d) orders
    (suc (newest records)))) ≡ version m records (lines_of items)
other_version records on m d items orders table goes low =
    ap (λ set. select set (lines_of (places items (base_set records on d) orders (suc (newest records)))))
    (older_set records on m d table.falls low)
    ∙ other_placed items (base_set records on d) orders (suc (newest records)) (omega arith)
    (body_below records items table goes) (applied (version_of m) records)
    (has-falls (applied (version_of m) records) (suc (newest records)) (suc (newest records))
    (applied_falls (version_of m) (path m records) [] records (suc (newest records))
    (falls_newest records 65536 table.falls)) (omega arith))
