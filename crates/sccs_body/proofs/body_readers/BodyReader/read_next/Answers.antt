use Rattle.std.proofs.Common.{◌&&◌, ◌∙◌, Ok, Err, Some, None, true, false, ap, subst, sym}
use Rattle.std.specs.Prelude.{IfSome}
use Rattle.sccs_disk.specs.Told.{seen}
use Rattle.sccs_history.specs.Body.{is_over}
use Rattle.sccs_history.specs.Numbers.{is_empty}
use Rattle.sccs_table.specs.ReaderState.{bytes_in}
use Rattle.sccs_table.proofs.ReaderLaws.{same_file}
use Rattle.sccs_body.specs.ItemsRead.{IsFormatAt}
use Rattle.sccs_body.specs.Reader.{BodyPlace, number_of_line}
use Rattle.sccs_body.proofs.ItemLaws.{seen_gives, seen_behind, end_fault, end_gives, item_gives, fault_gives}
use Rattle.sccs_body.proofs.ItemLaws.{some_taken, none_taken}
use Rattle.sccs_body.proofs.body_readers.BodyReader.read_next.Goals as goal
use Rattle.sccs_base.proofs.Bools.{left_true}
use Rattle.sccs_table.proofs.FrontLaws.{takes_line_at}

pub returns-then-ends_with-clause-goes : goal.returns-then-ends_with-clause-goes
returns-then-ends_with-clause-goes g c = λ live before behind.
    let knows = seen_behind live before
    (record {
      lines = c.self.inside.lines;
      state = c.self.inside.state;
      first = c.self.inside.first;
      from =
          c.self.inside.from;
    }) c.args.self.now c.self.view_is behind in
    left_true (is_over before) (is_empty c.as_slice.result.now) (sym (c.ends_with.ensures live before knows)
    ∙ c.if-ends_with.true)

pub returns-then-ends_with-clause-told : goal.returns-then-ends_with-clause-told
returns-then-ends_with-clause-told g c = λ live before behind.
    let knows = seen_behind live before
    (record {
      lines = c.self.inside.lines;
      state = c.self.inside.state;
      first = c.self.inside.first;
      from =
          c.self.inside.from;
    }) c.args.self.now c.self.view_is behind in
    let over = ap (λ bytes. is_over before && is_empty bytes) (sym c.as_slice.ensures.value)
    ∙ (sym (c.ends_with.ensures live before knows) ∙ c.if-ends_with.true) in
    seen_gives (seen (g.D.Disk.told c.args.disk.now)) live before
    (record {
      lines = c.self.inside.lines;
      state = c.self.inside.state;
      first = c.self.inside.first;
      from =
          c.self.inside.from;
    }) c.args.self.now
    (record {
      lines = c.next_line.new.self;
      state = c.self.inside.state;
      first = c.self.inside.first;
      from =
          c.self.inside.from;
    }) (Ok None) c.self.view_is
    (end_gives _ live before c.next_line.new.line.items
    (record {
      lines = c.self.inside.lines;
      state = c.self.inside.state;
      first = c.self.inside.first;
      from =
          c.self.inside.from;
    }) (record {
      lines = c.next_line.new.self;
      state = c.self.inside.state;
      first =
          c.self.inside.first;
      from = c.self.inside.from;
    }) (takes_line_at _ c.self.inside.lines c.next_line.new.self
    c.next_line.new.line.items c.in_ok-next_line.field-0 false c.if-not-branch.true c.in_ok-next_line.ensures.told)
    over)

pub returns-in-Ok-Some-clause-goes : goal.returns-in-Ok-Some-clause-goes
returns-in-Ok-Some-clause-goes g c = λ live before behind.
    let knows = seen_behind live before
    (record {
      lines = c.self.inside.lines;
      state = c.self.inside.state;
      first = c.self.inside.first;
      from =
          c.self.inside.from;
    }) c.args.self.now c.self.view_is behind in
    let taken = some_taken live before c.next_item.new.state c.next_line.new.line.items c.in-Ok-Some.field-0
    c.in-Ok-Some.item c.in-Ok-Some.field-0-is (c.in-Ok-Some.ensures live before knows) in
    (taken.1, taken.2)

pub returns-in-Ok-Some-clause-told : goal.returns-in-Ok-Some-clause-told
returns-in-Ok-Some-clause-told g c = λ live before behind.
    let knows = seen_behind live before
    (record {
      lines = c.self.inside.lines;
      state = c.self.inside.state;
      first = c.self.inside.first;
      from =
          c.self.inside.from;
    }) c.args.self.now c.self.view_is behind in
    let taken = some_taken live before c.next_item.new.state c.next_line.new.line.items c.in-Ok-Some.field-0
    c.in-Ok-Some.item c.in-Ok-Some.field-0-is (c.in-Ok-Some.ensures live before knows) in
    seen_gives (seen (g.D.Disk.told c.args.disk.now)) live before
    (record {
      lines = c.self.inside.lines;
      state = c.self.inside.state;
      first = c.self.inside.first;
      from =
          c.self.inside.from;
    }) c.args.self.now
    (record {
      lines = c.next_line.new.self;
      state = c.next_item.new.state;
      first = c.self.inside.first;
      from =
          c.self.inside.from;
    }) (Ok (Some c.in-Ok-Some.item)) c.self.view_is
    (item_gives _ live before c.next_line.new.line.items
    (record {
      lines = c.self.inside.lines;
      state = c.self.inside.state;
      first = c.self.inside.first;
      from =
          c.self.inside.from;
    }) (record {
      lines = c.next_line.new.self;
      state = c.next_item.new.state;
      first =
          c.self.inside.first;
      from = c.self.inside.from;
    }) c.in-Ok-Some.item
    (takes_line_at _ c.self.inside.lines c.next_line.new.self c.next_line.new.line.items c.in_ok-next_line.field-0
    true c.if-not-branch.false c.in_ok-next_line.ensures.told) taken.0)

pub returns-then-not-branch-clause-told : goal.returns-then-not-branch-clause-told
returns-then-not-branch-clause-told g c = λ live before behind.
    let here : BodyPlace = record {
      lines = c.self.inside.lines;
      state = c.self.inside.state;
      first =
          c.self.inside.first;
      from = c.self.inside.from;
    } in
    let gone : BodyPlace = record {
      lines = c.next_line.new.self;
      state = c.self.inside.state;
      first =
          c.self.inside.first;
      from = c.self.inside.from;
    } in
    let knows = seen_behind live before here c.args.self.now c.self.view_is behind in
    let file_is = same_file _ _ _ _ (ap seen c.in_ok-next_line.ensures.frame.same)
    c.in_ok-next_line.ensures.frame.name in
    let fault = subst (λ n. IfSome (bytes_in (seen (g.D.Disk.told c.next_line.new.disk)) gone.lines.name)
    (λ f. IsFormatAt (number_of_line here.first here.from f n) c.fault_at.result)) c.place-place.ensures.value
    c.fault_at.ensures.told in
    let over = ap (λ bytes. is_over before && is_empty bytes) (sym c.as_slice.ensures.value)
    ∙ (sym (c.ends_with.ensures live before knows) ∙ c.if-ends_with.false) in
    seen_gives (seen (g.D.Disk.told c.args.disk.now)) live before here c.args.self.now gone (Err c.fault_at.result)
    c.self.view_is
    (end_fault _ _ live before c.next_line.new.line.items here gone gone c.fault_at.result file_is
    (takes_line_at _ c.self.inside.lines c.next_line.new.self c.next_line.new.line.items c.in_ok-next_line.field-0
    false c.if-not-branch.true c.in_ok-next_line.ensures.told) over fault)

pub returns-in-Ok-None-clause-told : goal.returns-in-Ok-None-clause-told
returns-in-Ok-None-clause-told g c = λ live before behind.
    let here : BodyPlace = record {
      lines = c.self.inside.lines;
      state = c.self.inside.state;
      first =
          c.self.inside.first;
      from = c.self.inside.from;
    } in
    let gone : BodyPlace = record {
      lines = c.next_line.new.self;
      state = c.next_item.new.state;
      first =
          c.self.inside.first;
      from = c.self.inside.from;
    } in
    let knows = seen_behind live before here c.args.self.now c.self.view_is behind in
    let file_is = same_file _ _ _ _ (ap seen c.in_ok-next_line.ensures.frame.same)
    c.in_ok-next_line.ensures.frame.name in
    let fault = subst (λ n. IfSome (bytes_in (seen (g.D.Disk.told c.next_line.new.disk)) gone.lines.name)
    (λ f. IsFormatAt (number_of_line here.first here.from f n) c.fault_at-in-Ok-None.result))
    c.place-place.ensures.value c.fault_at-in-Ok-None.ensures.told in
    let none = none_taken live before c.next_item.new.state c.next_line.new.line.items c.in-Ok-None.field-0
    c.in-Ok-None.field-0-is (c.in-Ok-None.ensures live before knows) in
    seen_gives (seen (g.D.Disk.told c.args.disk.now)) live before here c.args.self.now gone
    (Err c.fault_at-in-Ok-None.result) c.self.view_is
    (fault_gives _ _ live before c.next_line.new.line.items here gone gone c.fault_at-in-Ok-None.result file_is
    (takes_line_at _ c.self.inside.lines c.next_line.new.self c.next_line.new.line.items c.in_ok-next_line.field-0
    true c.if-not-branch.false c.in_ok-next_line.ensures.told) none fault)
