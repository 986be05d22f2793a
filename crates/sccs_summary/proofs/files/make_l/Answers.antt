use Rattle.sccs_base.specs.Name.{y_file}
use Rattle.sccs_disk.specs.Told.{seen}
use Rattle.sccs_store.proofs.Working.{made_there}
use Rattle.sccs_summary.specs.Summaries.{choice_of, summary_text}
use Rattle.sccs_summary.specs.SummaryFiles.{summary_file}
use Rattle.sccs_summary.proofs.LFiles.{both_others, loses_after, loses_touching, loses_within, made_l, made_partly}
use Rattle.sccs_summary.proofs.LFiles.{y_others}
use Rattle.sccs_summary.proofs.files.make_l.Goals as goal

pub returns-in-Err-Failed-clause-stops : goal.returns-in-Err-Failed-clause-stops
returns-in-Err-Failed-clause-stops g c = loses_touching c.args.name.now
    (summary_text (choice_of c.args.choices) c.args.records.now) c.requires.sfile _ _ c.make_y.ensures.touches

pub returns-in-Err-Failed-clause-others : goal.returns-in-Err-Failed-clause-others
returns-in-Err-Failed-clause-others g c = y_others c.args.name.now _ _ c.make_y.ensures.touches

pub returns-in-Err-Memory-clause-stops : goal.returns-in-Err-Memory-clause-stops
returns-in-Err-Memory-clause-stops g c = loses_touching c.args.name.now
    (summary_text (choice_of c.args.choices) c.args.records.now) c.requires.sfile _ _ c.make_y.ensures.touches

pub returns-in-Err-Memory-clause-others : goal.returns-in-Err-Memory-clause-others
returns-in-Err-Memory-clause-others g c = y_others c.args.name.now _ _ c.make_y.ensures.touches

pub place_l-requires-clause-there : goal.place_l-requires-clause-there
place_l-requires-clause-there g c = made_there (y_file c.args.name.now)
    (summary_file (summary_text (choice_of c.args.choices) c.args.records.now)) (g.D.Disk.told c.args.disk.now)
    (g.D.Disk.told c.make_y.new.disk) c.in-Ok.ensures.view

pub returns-in-Ok-place_l-clause-view : goal.returns-in-Ok-place_l-clause-view
returns-in-Ok-place_l-clause-view g c =
    made_l c.args.name.now (summary_text (choice_of c.args.choices) c.args.records.now) _
    (seen (g.D.Disk.told c.make_y.new.disk)) _ c.in-Ok.ensures.view c.in-Ok-place_l.ensures.view

pub returns-in-Ok-place_l-clause-stops : goal.returns-in-Ok-place_l-clause-stops
returns-in-Ok-place_l-clause-stops g c = loses_after c.args.name.now
    (summary_text (choice_of c.args.choices) c.args.records.now) c.requires.sfile _ (g.D.Disk.told c.make_y.new.disk) _
    c.in-Ok.ensures.made c.in-Ok.ensures.view c.in-Ok-place_l.ensures.calm

pub returns-in-Ok-place_l-clause-others : goal.returns-in-Ok-place_l-clause-others
returns-in-Ok-place_l-clause-others g c = both_others c.args.name.now _ (g.D.Disk.told c.make_y.new.disk) _
    c.make_y.ensures.touches c.place_l.ensures.others

pub returns-in-Err-clause-halfway : goal.returns-in-Err-clause-halfway
returns-in-Err-clause-halfway g c = made_partly c.args.name.now
    (summary_text (choice_of c.args.choices) c.args.records.now) _ (seen (g.D.Disk.told c.make_y.new.disk)) _
    c.in-Ok.ensures.view c.make_y.ensures.moves c.in-Err.ensures.halfway

pub returns-in-Err-clause-stops : goal.returns-in-Err-clause-stops
returns-in-Err-clause-stops g c = loses_within c.args.name.now
    (summary_text (choice_of c.args.choices) c.args.records.now) c.requires.sfile _ (g.D.Disk.told c.make_y.new.disk) _
    c.in-Ok.ensures.made c.in-Ok.ensures.view c.in-Err.ensures.stopped

pub returns-in-Err-clause-others : goal.returns-in-Err-clause-others
returns-in-Err-clause-others g c = both_others c.args.name.now _ (g.D.Disk.told c.make_y.new.disk) _
    c.make_y.ensures.touches c.place_l.ensures.others
