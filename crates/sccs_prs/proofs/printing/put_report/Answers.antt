use Rattle.std.proofs.Common.{List, ap, arith, subst, ◌∙◌}
use Rattle.sccs_prs.specs.DataKeywords.{data_parts}
use Rattle.sccs_prs.specs.declared.keywords.Part.{Part}
use Rattle.sccs_prs.specs.Gives.{GivesHeld}
use Rattle.sccs_prs.specs.PrsText.{deltas_text, name_text, data_spec}
use Rattle.sccs_prs.specs.Shown.{shown_file}
use Rattle.sccs_prs.proofs.GivesLaws.{causes_on, gives_less, gives_then_gives}
use Rattle.sccs_prs.proofs.printing.put_report.Goals as goal

pub returns-in-Err-clause-causes : goal.returns-in-Err-clause-causes
returns-in-Err-clause-causes g c = c.in-Err.ensures.causes (g.D.Disk.faults c.args.disk.now)

pub returns-in-Err-clause-gives : goal.returns-in-Err-clause-gives
returns-in-Err-clause-gives g c = λ bytes items is.
    gives_less (name_text c.args.words.now c.args.file.name.now) (deltas_text c.args.words.now.all c.args.chosen
    (data_parts (data_spec c.args.words.now.spec)) (shown_file c.args.file items)
    c.args.file.front.now.header.records) c.in-Err.fault c.args.listing.now.buffer c.put_name.new.listing.buffer _ _
    _ c.in-Err.ensures.gives

pub returns-clause-causes : goal.returns-clause-causes
returns-clause-causes g c = causes_on c.put_deltas.result _ _ _ _ _ _ (c.put_name.ensures.causes 0).out_later
    (omega arith) c.put_deltas.ensures.causes

pub returns-clause-gives : goal.returns-clause-gives
returns-clause-gives g c = λ bytes items is.
    let records = c.args.file.front.now.header.records in
    gives_then_gives (name_text c.args.words.now c.args.file.name.now) (deltas_text c.args.words.now.all c.args.chosen
    (data_parts (data_spec c.args.words.now.spec)) (shown_file c.args.file items) records) c.put_deltas.result
    c.args.listing.now.buffer c.put_name.new.listing.buffer c.put_deltas.new.listing.buffer _ _ _
    c.in_default-put_name.ensures.gives
    (subst (λ (ps : List Part). GivesHeld (deltas_text c.args.words.now.all c.args.chosen ps
    (shown_file c.args.file items) records) c.put_deltas.result c.put_name.new.listing.buffer
    c.put_deltas.new.listing.buffer (g.O.Sink.given c.put_name.new.out) (g.O.Sink.given c.put_deltas.new.out))
    (c.items.ensures ∙ (c.in-Ok.ensures ∙ ap data_parts c.spec_of.ensures))
    (c.put_deltas.ensures.gives bytes items is))
