use Rattle.sccs_pfile.proofs.Texts.{front_puts}
use Rattle.sccs_pfile.proofs.writing.put_front.Goals as goal

pub returns : goal.returns
returns g c =
    front_puts _ _ _ _ _ _ _ _ _ _ _ _ _ _ _ c.text-got.ensures c.text-made.ensures c.bytes.ensures.value
    c.text-moment.ensures c.put_parts.ensures
