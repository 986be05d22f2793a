use Rattle.std.proofs.Common.{◌∙◌, ap, rules, subst, sym}
use Rattle.sccs_disk.specs.Told.{seen}
use Rattle.sccs_body.specs.States.{Knows}
use Rattle.sccs_table.proofs.FrontLaws.{exit_is}
use Rattle.sccs_table.proofs.ReaderLaws.{same_file}
use Rattle.sccs_body.proofs.ComingLaws.{begin_fails, further_on, kept_on}
use Rattle.sccs_body.proofs.item_readers.ItemReader.first_item.Goals as goal

pub returns-in_err-begin : goal.returns-in_err-begin
returns-in_err-begin g c =
    let exit = exit_is c.from_residual.result c.in_err-begin.field-0.0 c.from_residual.ensures.1 in
    record {
      frame = search rules;
      first = search rules;
      kept = c.in_err-begin.ensures.kept;
      further = search rules;
      goes = search rules;
      gives = λ file live before found is p. (begin_fails file live before found c.begin.new.self
          c.in_err-begin.field-0.0 c.from_residual.result exit (c.in_err-begin.ensures.begins file live before found is
          p)).0;
      stays = λ file live before found is p. (begin_fails file live before found c.begin.new.self
          c.in_err-begin.field-0.0 c.from_residual.result exit (c.in_err-begin.ensures.begins file live before found is
          p)).1;
    }

pub returns : goal.returns
returns g c =
    let begun = c.in_ok-begin.ensures in
    let file_is = same_file _ _ _ _ (ap seen begun.frame.same) begun.kept.name in
    record {
      frame = search rules;
      first = c.next_behind.ensures.first;
      kept = kept_on c.args.self.now c.begin.new.self c.next_behind.new.self begun.kept c.next_behind.ensures.kept;
      further = further_on c.args.self.now c.begin.new.self c.next_behind.new.self c.next_behind.result begun.kept
          begun.onward c.next_behind.ensures.further;
      goes = λ live before behind. c.next_behind.ensures.goes live before (subst (λ s. Knows live before s)
          (sym begun.state) behind);
      gives = λ file live before found is p. c.next_behind.ensures.gives file live before found (file_is ∙ is)
          (begun.begins file live before found is p);
      stays = λ file live before found is p. c.next_behind.ensures.stays file live before found (file_is ∙ is)
          (begun.begins file live before found is p);
    }
