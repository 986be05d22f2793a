use Rattle.std.proofs.lemmas.Result.{err_from_is_err_and}
use Rattle.std.proofs.Common.{◌≡◌, true, List, ℕ, Some, refl, subst, sym}
use Rattle.std.specs.Str.{bytes_eq}
use Rattle.sccs_base.specs.Name.{q_file, y_file}
use Rattle.sccs_disk.specs.Told.{seen}
use Rattle.sccs_name_files.specs.StepFiles.{is_working, look}
use Rattle.sccs_name_files.proofs.Touched.{only_then, only_wider}
use Rattle.sccs_crash_points.proofs.FileNames.{no_q, no_y}
use Rattle.sccs_changes.specs.Changes.{unlocked}
use Rattle.sccs_get.specs.VersionStep.{lines_got, says_well}
use Rattle.sccs_get.proofs.EditStops.{edit_firm, edit_ready, edit_settles}
use Rattle.sccs_get.proofs.EditWrites.{all_prepared, body_kept, entry_ends, memory_ends, text_ends}
use Rattle.sccs_get.proofs.SpeakLaws.{well_said}
use Rattle.sccs_get.proofs.edits.give_edit.Goals as goal

pub returns-in_err-new_p-clause-prepares : goal.returns-in_err-new_p-clause-prepares
returns-in_err-new_p-clause-prepares g c =
    let p = err_from_is_err_and c.from_residual.result c.from_residual.ensures.1 in
    rw (p.1, p.2) (λ v file items err is body. entry_ends c.args.get.now.words.now c.args.get.now.stamp.now
    c.args.get.now.place.now c.args.get.now.heading c.args.name.now c.in_err-new_p.field-0.0 _ v
    (seen (g.D.Disk.told c.args.disk.now)) (seen (g.D.Disk.told c.add_entry.new.disk))
    (g.O.Sink.given c.args.out.now) err is c.in_err-new_p.ensures.checks c.in_err-new_p.ensures.moves)

pub returns-in_err-new_p-clause-touches : goal.returns-in_err-new_p-clause-touches
returns-in_err-new_p-clause-touches g c = only_wider (bytes_eq (q_file c.args.name.now)) (is_working c.args.name.now)
    (g.D.Disk.told c.args.disk.now) (g.D.Disk.told c.add_entry.new.disk) (no_q c.args.name.now)
    c.add_entry.ensures.touches

pub returns-in_err-shown-clause-prepares : goal.returns-in_err-shown-clause-prepares
returns-in_err-shown-clause-prepares g c =
    let p = err_from_is_err_and c.from_residual-in_err-shown.result c.from_residual-in_err-shown.ensures.1 in
    rw (p.1, p.2) (λ v file items err is body.
    text_ends c.args.get.now.words.now c.args.get.now.stamp.now c.args.get.now.place.now c.args.get.now.heading
    c.args.name.now c.args.reserved.pending.front.header.records (look (unlocked c.args.name.now v) c.args.name.now)
    c.args.reserved.pending.edits c.args.reserved.edit c.args.reserved.version
    (lines_got c.args.reserved.version items) c.in_err-shown.field-0.0 v (seen (g.D.Disk.told c.args.disk.now))
    (seen (g.D.Disk.told c.add_entry.new.disk)) (seen (g.D.Disk.told c.give_version.new.disk))
    (g.O.Sink.given c.args.out.now) (g.O.Sink.given c.give_version.new.out) err is c.add_entry.ensures.moves
    c.give_version.ensures.moves
    (c.in_err-shown.ensures.gives file items err (body_kept c.args.name.now c.args.reserved.pending.front
    c.args.reserved.version.set file items v (seen (g.D.Disk.told c.args.disk.now))
    (seen (g.D.Disk.told c.add_entry.new.disk)) c.requires.sfile is c.add_entry.ensures.moves body)))

pub returns-in_err-shown-clause-touches : goal.returns-in_err-shown-clause-touches
returns-in_err-shown-clause-touches g c = only_then (is_working c.args.name.now) (g.D.Disk.told c.args.disk.now)
    (g.D.Disk.told c.add_entry.new.disk) (g.D.Disk.told c.give_version.new.disk)
    (only_wider (bytes_eq (q_file c.args.name.now)) (is_working c.args.name.now) (g.D.Disk.told c.args.disk.now)
    (g.D.Disk.told c.add_entry.new.disk) (no_q c.args.name.now) c.add_entry.ensures.touches)
    (only_wider (bytes_eq (y_file c.args.name.now)) (is_working c.args.name.now) (g.D.Disk.told c.add_entry.new.disk)
    (g.D.Disk.told c.give_version.new.disk) (no_y c.args.name.now) c.give_version.ensures.touches)

pub returns-clause-prepares : goal.returns-clause-prepares
returns-clause-prepares g c = λ v file items err is body.
    memory_ends c.args.get.now.words.now c.args.get.now.stamp.now c.args.get.now.place.now c.args.get.now.heading
    c.args.name.now c.args.reserved.pending.front.header.records (look (unlocked c.args.name.now v) c.args.name.now)
    c.args.reserved.pending.edits c.args.reserved.edit c.args.reserved.version
    (lines_got c.args.reserved.version items) c.in_ok-shown.shown v (seen (g.D.Disk.told c.args.disk.now))
    (seen (g.D.Disk.told c.add_entry.new.disk)) (seen (g.D.Disk.told c.give_version.new.disk))
    (g.O.Sink.given c.args.out.now) (g.O.Sink.given c.give_version.new.out) err is c.add_entry.ensures.moves
    c.give_version.ensures.moves
    (c.in_ok-shown.ensures.gives file items err (body_kept c.args.name.now c.args.reserved.pending.front
    c.args.reserved.version.set file items v (seen (g.D.Disk.told c.args.disk.now))
    (seen (g.D.Disk.told c.add_entry.new.disk)) c.requires.sfile is c.add_entry.ensures.moves body))

pub returns-clause-touches : goal.returns-clause-touches
returns-clause-touches g c = only_then (is_working c.args.name.now) (g.D.Disk.told c.args.disk.now)
    (g.D.Disk.told c.add_entry.new.disk) (g.D.Disk.told c.give_version.new.disk)
    (only_wider (bytes_eq (q_file c.args.name.now)) (is_working c.args.name.now) (g.D.Disk.told c.args.disk.now)
    (g.D.Disk.told c.add_entry.new.disk) (no_q c.args.name.now) c.add_entry.ensures.touches)
    (only_wider (bytes_eq (y_file c.args.name.now)) (is_working c.args.name.now) (g.D.Disk.told c.add_entry.new.disk)
    (g.D.Disk.told c.give_version.new.disk) (no_y c.args.name.now) c.give_version.ensures.touches)

pub returns-in-Ok-clause-prepares : goal.returns-in-Ok-clause-prepares
returns-in-Ok-clause-prepares g c = λ v file items err is body.
    all_prepared c.args.get.now.words.now c.args.get.now.stamp.now c.args.get.now.place.now c.args.get.now.heading
    c.args.name.now c.args.reserved.pending.front.header.records (look (unlocked c.args.name.now v) c.args.name.now)
    c.args.reserved.pending.edits c.args.reserved.edit c.args.reserved.version
    (lines_got c.args.reserved.version items) c.in_ok-shown.shown c.in_ok-new_p.new_p c.new_g.result
    c.in-Ok.said.out c.in-Ok.said.err v (seen (g.D.Disk.told c.args.disk.now))
    (seen (g.D.Disk.told c.add_entry.new.disk)) (seen (g.D.Disk.told c.give_version.new.disk))
    (g.O.Sink.given c.args.out.now) (g.O.Sink.given c.give_version.new.out) err c.requires.sfile is refl
    c.new_g.ensures c.requires.replaced c.add_entry.ensures.moves c.in_ok-new_p.ensures.entries.chosen_is
    c.in_ok-new_p.ensures.entries.taken c.give_version.ensures.moves
    (c.in_ok-shown.ensures.gives file items err (body_kept c.args.name.now c.args.reserved.pending.front
    c.args.reserved.version.set file items v (seen (g.D.Disk.told c.args.disk.now))
    (seen (g.D.Disk.told c.add_entry.new.disk)) c.requires.sfile is c.add_entry.ensures.moves body))
    c.in-Ok.ensures.out c.in-Ok.ensures.err

pub returns-in-Ok-clause-needs : goal.returns-in-Ok-clause-needs
returns-in-Ok-clause-needs g c = λ z.
    edit_ready c.args.get.now.words.now c.args.name.now c.args.reserved.pending.edits c.args.reserved.edit
    c.in_ok-new_p.new_p c.new_g.result c.in-Ok.said.out c.in-Ok.said.err (g.D.Disk.told c.args.disk.now)
    (g.D.Disk.told c.add_entry.new.disk) (g.D.Disk.told c.give_version.new.disk) c.new_g.ensures z
    c.add_entry.ensures.moves c.give_version.ensures.moves c.in_ok-new_p.ensures.entries c.in_ok-shown.ensures.there

pub returns-in-Ok-clause-touches : goal.returns-in-Ok-clause-touches
returns-in-Ok-clause-touches g c = only_then (is_working c.args.name.now) (g.D.Disk.told c.args.disk.now)
    (g.D.Disk.told c.add_entry.new.disk) (g.D.Disk.told c.give_version.new.disk)
    (only_wider (bytes_eq (q_file c.args.name.now)) (is_working c.args.name.now) (g.D.Disk.told c.args.disk.now)
    (g.D.Disk.told c.add_entry.new.disk) (no_q c.args.name.now) c.add_entry.ensures.touches)
    (only_wider (bytes_eq (y_file c.args.name.now)) (is_working c.args.name.now) (g.D.Disk.told c.add_entry.new.disk)
    (g.D.Disk.told c.give_version.new.disk) (no_y c.args.name.now) c.give_version.ensures.touches)

pub returns-in-Ok-clause-firm : goal.returns-in-Ok-clause-firm
returns-in-Ok-clause-firm g c = edit_firm c.args.name.now c.in_ok-new_p.new_p c.new_g.result c.in-Ok.said.out
    c.in-Ok.said.err (g.D.Disk.told c.args.disk.now) (g.D.Disk.told c.add_entry.new.disk)
    (g.D.Disk.told c.give_version.new.disk) c.add_entry.ensures.touches c.give_version.ensures.touches
    c.in_ok-new_p.ensures.firm

pub returns-in-Ok-clause-entries : goal.returns-in-Ok-clause-entries
returns-in-Ok-clause-entries g c = λ agrees free read.
    edit_settles c.args.name.now c.args.reserved.pending c.args.reserved.edit c.in_ok-new_p.new_p c.new_g.result
    c.in-Ok.said.out c.in-Ok.said.err (g.D.Disk.told c.args.disk.now) (g.D.Disk.told c.add_entry.new.disk)
    (g.D.Disk.told c.give_version.new.disk) c.requires.sfile c.requires.edits c.requires.edit agrees free read
    c.add_entry.ensures.moves c.give_version.ensures.moves c.in_ok-new_p.ensures.entries

pub returns-in-Ok-clause-says : goal.returns-in-Ok-clause-says
returns-in-Ok-clause-says g c =
    subst (λ (m : List ℕ). says_well c.args.get.now.words.now m ≡ true) (sym c.in-Ok.ensures.err)
    (well_said c.args.get.now.words.now c.args.get.now.heading c.args.name.now c.args.reserved.version.include
    c.args.reserved.version.exclude c.args.reserved.version.sid (Some c.args.reserved.edit.made)
    c.in_ok-shown.shown.lines c.in_ok-shown.shown.keywords)

pub returns-in-Ok-clause-whole : goal.returns-in-Ok-clause-whole
returns-in-Ok-clause-whole g c = λ text no_zero. record {
  shown = c.in_ok-shown.shown;
  whole = c.in_ok-shown.ensures.whole text no_zero;
  report = c.in-Ok.ensures.out;
  message = c.in-Ok.ensures.err;
}
