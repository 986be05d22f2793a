use Rattle.sccs_store.proofs.Working.{moves_then}
use Rattle.std.specs.Str.{bytes_eq}
use Rattle.sccs_disk.specs.Told.{seen}
use Rattle.sccs_name_files.proofs.Touched.{only_then}
use Rattle.sccs_group.proofs.Committing.{gone_then}
use Rattle.sccs_group.proofs.Texts.{refusal_is}
use Rattle.sccs_group.proofs.plans.write_anew.Goals as goal

pub returns-in-Err-Memory-clause-gone : goal.returns-in-Err-Memory-clause-gone
returns-in-Err-Memory-clause-gone g c = λ is.
    gone_then c.args.name.now (seen (g.D.Disk.told c.args.disk.now)) (seen (g.D.Disk.told c.write_text.new.disk))
    (seen (g.D.Disk.told c.drop_text.new.disk)) c.in-Err-Memory.ensures.view_err (c.drop_text.ensures.gone
    (refusal_is c.drop_text.result _ is))

pub returns-in-Err-Memory-clause-touches : goal.returns-in-Err-Memory-clause-touches
returns-in-Err-Memory-clause-touches g c = only_then (bytes_eq c.args.name.now) _ (g.D.Disk.told c.write_text.new.disk)
    _ c.write_text.ensures.touches c.drop_text.ensures.touches

pub returns-in-Err-Failed-clause-view_err : goal.returns-in-Err-Failed-clause-view_err
returns-in-Err-Failed-clause-view_err g c = c.in-Err-Failed.ensures.view_err

pub returns-in-Err-Memory-clause-view_err : goal.returns-in-Err-Memory-clause-view_err
returns-in-Err-Memory-clause-view_err g c = moves_then (bytes_eq c.args.name.now) _
    (seen (g.D.Disk.told c.write_text.new.disk)) _ c.in-Err-Memory.ensures.view_err c.drop_text.ensures.moves
