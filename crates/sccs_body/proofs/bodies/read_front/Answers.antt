use Rattle.std.proofs.Common.{[], Ok, Err, ap, refl, subst, sym}
use Rattle.sccs_disk.specs.Told.{seen}
use Rattle.sccs_history.specs.Applied.{live_serials}
use Rattle.sccs_body.specs.States.{Knows}
use Rattle.sccs_table.specs.ReaderState.{bytes_in}
use Rattle.sccs_table.specs.declared.fronts.Front.{Front}
use Rattle.sccs_table.proofs.ReaderLaws.{same_file}
use Rattle.sccs_body.specs.BodyFile.{ChecksRest}
use Rattle.sccs_body.specs.ItemsRead.{HasBehind}
use Rattle.sccs_body.specs.Reader.{BodyPlace}
use Rattle.sccs_body.proofs.WholeLaws.{lines_refused, items_refused, state_refused, whole_read}
use Rattle.sccs_body.proofs.bodies.read_front.Goals as goal

pub returns-in-Err-clause-told : goal.returns-in-Err-clause-told
returns-in-Err-clause-told g c = lines_refused _ c.args.lines c.read_lines.new.reader c.args.size c.in-Err.fault
    c.in-Err.ensures.told

pub returns-in_default-clause-told : goal.returns-in_default-clause-told
returns-in_default-clause-told g c =
    state_refused _ c.args.lines c.read_lines.new.reader
    (record {
      header = c.in-Ok.found.0;
      body_from = c.place-body_from.result;
      body_line = c.in-Ok.found.1;
      size =
          c.args.size;
      sum = 0;
    }) c.place-body_from.ensures.value c.in-Ok.ensures.told

pub returns-in-Err-checked-clause-told : goal.returns-in-Err-checked-clause-told
returns-in-Err-checked-clause-told g c =
    let live = live_serials c.in-Ok.found.0.records in
    let front : Front = record {
      header = c.in-Ok.found.0;
      body_from = c.place-body_from.result;
      body_line =
          c.in-Ok.found.1;
      size = c.args.size;
      sum = 0;
    } in
    let begun : BodyPlace = record {
      lines = c.read_lines.new.reader;
      state = c.in-Ok-new.state;
      first =
          c.in-Ok.found.1;
      from = c.place-body_from.result;
    } in
    let knows : Knows live [] c.in-Ok-new.state = subst (λ r. Knows (live_serials r) [] c.in-Ok-new.state)
    c.items.ensures c.in-Ok-new.ensures in
    let behind = subst (λ (b : BodyPlace). HasBehind live [] b) (sym c.new-body.ensures) knows in
    let told = bytes_in (seen (g.D.Disk.told c.read_lines.new.disk)) in
    let checks = subst (λ (b : BodyPlace). ChecksRest (told b.lines.name) live b (Err c.in-Err-checked.fault))
    c.new-body.ensures (c.in-Err-checked.ensures.told live behind) in
    let same = same_file _ _ _ _ (ap seen c.in-Ok.ensures.frame.same) c.in-Ok.ensures.frame.name in
    items_refused c.args.lines front begun c.place-body_from.ensures.value c.place-body_from.ensures.value refl _
    (told c.read_lines.new.reader.name) c.in-Err-checked.fault same c.in-Ok.ensures.told checks

pub returns-clause-told : goal.returns-clause-told
returns-clause-told g c =
    let live = live_serials c.in-Ok.found.0.records in
    let front : Front = record {
      header = c.in-Ok.found.0;
      body_from = c.place-body_from.result;
      body_line =
          c.in-Ok.found.1;
      size = c.args.size;
      sum = 0;
    } in
    let begun : BodyPlace = record {
      lines = c.read_lines.new.reader;
      state = c.in-Ok-new.state;
      first =
          c.in-Ok.found.1;
      from = c.place-body_from.result;
    } in
    let knows : Knows live [] c.in-Ok-new.state = subst (λ r. Knows (live_serials r) [] c.in-Ok-new.state)
    c.items.ensures c.in-Ok-new.ensures in
    let behind = subst (λ (b : BodyPlace). HasBehind live [] b) (sym c.new-body.ensures) knows in
    let told = bytes_in (seen (g.D.Disk.told c.read_lines.new.disk)) in
    let checks = subst (λ (b : BodyPlace). ChecksRest (told b.lines.name) live b (Ok tt)) c.new-body.ensures
    (c.in_default-checked.ensures.told live behind) in
    let same = same_file _ _ _ _ (ap seen c.in-Ok.ensures.frame.same) c.in-Ok.ensures.frame.name in
    whole_read c.args.lines front begun c.place-body_from.ensures.value c.place-body_from.ensures.value refl _
    (told c.read_lines.new.reader.name) same c.in-Ok.ensures.told checks
