use Rattle.std.proofs.Common.{◌∷◌, ◌∙◌, ap, get_or, refl, append-nil}
use Rattle.std.specs.Prelude.{decimal}
use Rattle.sccs_writers.proofs.PutLaws.{list_cut, list_put, puts_nothing, same_text, still_there}
use Rattle.sccs_writers.proofs.header_writers.put_serials.Goals as goal

pub put_parts-requires : goal.put_parts-requires
put_parts-requires g c = still_there _ _ _ _ _ _ _ _ c.loop-serial.invariant c.requires

pub loop-serial-init : goal.loop-serial-init
loop-serial-init g c = puts_nothing c.args.out.now _ _

pub returns-in-Err : goal.returns-in-Err
returns-in-Err g c =
    list_cut (λ n. 32 ∷ decimal n) c.args.serials.now c.items-serial-items.result.now c.items-serial-items.ensures
    c.loop-serial.serial-index (get_or c.items-serial-items.result.now c.loop-serial.serial-index 0) 0
    c.loop-serial-test.true refl c.args.out.now c.loop-serial.out c.put_parts.new.self _ _ _ _ _ _
    c.put_parts.result c.in-Err.fault c.in-Err.is c.loop-serial.invariant
    (same_text (ap (λ text. 32 ∷ text) (append-nil c.as_bytes-digits.result.now ∙ (c.as_bytes-digits.ensures.value
    ∙ c.format.ensures.text))) c.put_parts.ensures)

pub loop-serial-preserved : goal.loop-serial-preserved
loop-serial-preserved g c =
    list_put (λ n. 32 ∷ decimal n) c.args.serials.now c.items-serial-items.result.now c.items-serial-items.ensures
    c.loop-serial.serial-index (get_or c.items-serial-items.result.now c.loop-serial.serial-index 0) 0
    c.loop-serial-test.true refl c.args.out.now c.loop-serial.out c.put_parts.new.self _ _ _ _ _ _
    c.put_parts.result c.in_default.field-0 c.in_default.is c.loop-serial.invariant
    (same_text (ap (λ text. 32 ∷ text) (append-nil c.as_bytes-digits.result.now ∙ (c.as_bytes-digits.ensures.value
    ∙ c.format.ensures.text))) c.put_parts.ensures)
