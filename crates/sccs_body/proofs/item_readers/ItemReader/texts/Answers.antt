use Rattle.std.proofs.Common.{length, subst, sym}
use Rattle.sccs_table.specs.Runs.{IsRun}
use Rattle.sccs_body.specs.Reader.{ItemPlace}
use Rattle.sccs_body.specs.ToCome.{MayPass, ToCome}
use Rattle.sccs_body.proofs.ComingLaws.{first_comes}
use Rattle.sccs_body.proofs.item_readers.ItemReader.texts.Goals as goal

pub returns-clause-first : goal.returns-clause-first
returns-clause-first c = λ file live before found p.
    let here : ItemPlace = record { body = c.self.inside.body; size = c.self.inside.size; sum = c.self.inside.sum } in
    let may : MayPass here (length c.texts.result.now) =
    record {
      fits = c.texts.ensures.fits;
      run = subst IsRun (sym c.texts.ensures.front) c.texts.ensures.run;
      stand =
          c.texts.ensures.stand;
    } in
    first_comes file live before found here c.texts.result.now may c.texts.ensures.front
    (subst (λ r. ToCome file live before found r) (sym c.self.view_is) p)
