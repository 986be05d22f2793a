-- The records of a table, of which the serials fall: the one at a place is the first with its serial.
use Rattle.std.proofs.Common.{◌≡◌, ℕ, zero, suc, ◌<◌, cond, List, [], ◌∷◌, Option, Some, option_map, length, get_or}
use Rattle.std.proofs.Common.{refl, sym, ap, ◌∙◌, arith, eq-eqb}
use Rattle.std.proofs.lemmas.Bool.{ne_eqb}
use Rattle.sccs_history.specs.Applied.{serials_of}
use Rattle.sccs_history.specs.Numbers.{Falls}
use Rattle.sccs_history.specs.declared.headers.Record.{Record}
use Rattle.sccs_sets.specs.Sets.{record_at, sid_at}

-- each serial is below the bound
below : (b : ℕ) (records : List Record) (i : ℕ) (d : Record) → Falls b (serials_of records) → i < length records
    → (get_or records i d).serial < b
below b [] i d falls low = absurd (omega (arith, low))
below b (r ∷ rs) zero d falls low = falls.0
below b (r ∷ rs) (suc i) d falls low = let next : (get_or rs i d).serial < r.serial = below r.serial rs i d falls.1
    (omega (arith, low)) in omega (arith, next, falls.0)

found_at : (b : ℕ) (records : List Record) (i : ℕ) (d : Record) → Falls b (serials_of records) → i < length records
    → record_at records (get_or records i d).serial ≡ Some (get_or records i d)
found_at b [] i d falls low = absurd (omega (arith, low))
found_at b (r ∷ rs) zero d falls low = ap (λ t. cond t (Some r) (record_at rs r.serial)) (eq-eqb r.serial r.serial refl)
found_at b (r ∷ rs) (suc i) d falls low =
    let next : (get_or rs i d).serial < r.serial = below r.serial rs i d falls.1 (omega (arith, low)) in
    ap (λ t. cond t (Some r) (record_at rs (get_or rs i d).serial)) (ne_eqb r.serial (get_or rs i d).serial
    (λ same. absurd (omega (arith, next, same))))
    ∙ found_at r.serial rs i d falls.1 (omega (arith, low))

pub placed : (b : ℕ) (records : List Record) (i n : ℕ) (r d : Record) → Falls b (serials_of records)
    → i < length records → r ≡ get_or records i d → r.serial ≡ n → sid_at records n ≡ Some r.sid
placed b records i n r d falls low is same =
    ap (λ k. sid_at records k) (sym same ∙ ap (λ (x : Record). x.serial) is)
    ∙ (ap (λ (o : Option Record). option_map (λ (x : Record). x.sid) o) (found_at b records i d falls low)
    ∙ ap (λ (x : Record). Some x.sid) (sym is))
