use Rattle.std.proofs.Common.{sym, ◌∙◌}
use Rattle.sccs_base.specs.Name.{q_file}
use Rattle.sccs_pfile.specs.Recovered.{written_pfile}
use Rattle.std.proofs.Common.{refl}
use Rattle.std.specs.Str.{bytes_eq}
use Rattle.sccs_store.proofs.Working.{made_moves, same_touches}
use Rattle.sccs_changes.proofs.EntryLaws.{none_chosen, some_chosen}
use Rattle.sccs_changes.proofs.new_pfiles.prepare_entries.Goals as goal

pub returns-then-len-eq0-clause-entries : goal.returns-then-len-eq0-clause-entries
returns-then-len-eq0-clause-entries g c = none_chosen c.args.name.now c.args.edits.now _ (sym c.len.ensures
    ∙ c.if-len-eq0.true)

pub returns-clause-entries : goal.returns-clause-entries
returns-clause-entries g c = some_chosen c.args.name.now c.args.edits.now _ (g.D.Disk.told c.prepare_p.new.disk)
    (λ none. c.if-len-eq0.false (c.len.ensures ∙ none)) c.in_ok-prepare_p.ensures.view

pub returns-clause-moves : goal.returns-clause-moves
returns-clause-moves g c = made_moves (q_file c.args.name.now) (written_pfile c.args.edits.now) _ _
    c.in_ok-prepare_p.ensures.view

pub returns-then-len-eq0-clause-touches : goal.returns-then-len-eq0-clause-touches
returns-then-len-eq0-clause-touches g c = same_touches (bytes_eq (q_file c.args.name.now)) _ _ refl
