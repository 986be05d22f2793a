use Rattle.std.proofs.Common.{ap, length, refl, rules, subst, sym, ◌∙◌}
use Rattle.std.proofs.lemmas.Result.{err_from_is_err_and}
use Rattle.sccs_disk.specs.Told.{seen}
use Rattle.sccs_body.specs.States.{Knows}
use Rattle.sccs_table.specs.ReaderState.{ReaderState, bytes_in}
use Rattle.sccs_table.proofs.ReaderLaws.{same_file, stays_on}
use Rattle.sccs_body.proofs.BodyLaws.{fewer_steps, not_taken, rest_fault, rest_read, somewhere_kept, somewhere_on}
use Rattle.sccs_body.proofs.BodyLaws.{somewhere_taken}
use Rattle.sccs_body.proofs.TextLaws.{somewhere_behind_front}
use Rattle.sccs_body.proofs.bodies.check_items.Goals as goal

pub returns-in-None-clause-told : goal.returns-in-None-clause-told
returns-in-None-clause-told g c = λ live none.
    let start = bytes_in (seen (g.D.Disk.told c.args.disk.now)) c.args.body.now.lines.name in
    let not = not_taken c.next_control.result (sym c.is_some.ensures ∙ c.if-is_some.false) in
    let there = same_file _ _ _ _ (ap seen c.items.invariant.same) (c.next_control.ensures.name
    ∙ (c.pass.ensures.name ∙ c.items.invariant.name)) in
    let file_is = same_file _ _ _ _ (ap seen (c.in_ok-read_on.ensures.frame.same ∙ c.items.invariant.same))
    (c.in_ok-read_on.ensures.frame.name ∙ (c.next_control.ensures.name
    ∙ (c.pass.ensures.name ∙ c.items.invariant.name))) in
    let passed = somewhere_behind_front start live c.args.body.now c.items.body c.pass.new.self c.texts-count.result.now
    c.texts-count.ensures.front c.texts-count.ensures.run c.texts-count.ensures.stand c.pass.ensures.body
    c.pass.ensures.place c.pass.ensures.behind c.pass.ensures.told (c.items.invariant.reached live none) in
    let still = somewhere_kept start start live c.args.body.now c.pass.new.self c.next_control.new.self refl
    (ap (λ (r : ReaderState). r.place) (c.next_control.ensures.none not)) c.next_control.ensures.body
    (λ live before behind. c.next_control.ensures.kept live before behind not) (c.next_control.ensures.stays start)
    passed in
    let more = somewhere_kept start _ live c.args.body.now c.next_control.new.self c.read_on.new.self there
    c.in_ok-read_on.ensures.place c.in_ok-read_on.ensures.body (λ live before behind. subst
    (λ s. Knows live before s) (sym c.in_ok-read_on.ensures.state) behind) c.in_ok-read_on.ensures.stays still in
    rest_read start _ live c.args.body.now c.read_on.new.self c.next.new.self file_is more c.in_ok-next.field-0
    c.in-None.is c.in_ok-next.ensures.told

pub returns-in_err-next-clause-told : goal.returns-in_err-next-clause-told
returns-in_err-next-clause-told g c =
    let e = err_from_is_err_and c.from_residual-in_err-next.result c.from_residual-in_err-next.ensures.1 in
    rw (e.1, e.2) (λ live none.
    let start = bytes_in (seen (g.D.Disk.told c.args.disk.now)) c.args.body.now.lines.name in
    let not = not_taken c.next_control.result (sym c.is_some.ensures ∙ c.if-is_some.false) in
    let there = same_file _ _ _ _ (ap seen c.items.invariant.same) (c.next_control.ensures.name
    ∙ (c.pass.ensures.name ∙ c.items.invariant.name)) in
    let file_is = same_file _ _ _ _ (ap seen (c.in_ok-read_on.ensures.frame.same ∙ c.items.invariant.same))
    (c.in_ok-read_on.ensures.frame.name ∙ (c.next_control.ensures.name
    ∙ (c.pass.ensures.name ∙ c.items.invariant.name))) in
    let passed = somewhere_behind_front start live c.args.body.now c.items.body c.pass.new.self c.texts-count.result.now
    c.texts-count.ensures.front c.texts-count.ensures.run c.texts-count.ensures.stand c.pass.ensures.body
    c.pass.ensures.place c.pass.ensures.behind c.pass.ensures.told (c.items.invariant.reached live none) in
    let still = somewhere_kept start start live c.args.body.now c.pass.new.self c.next_control.new.self refl
    (ap (λ (r : ReaderState). r.place) (c.next_control.ensures.none not)) c.next_control.ensures.body
    (λ live before behind. c.next_control.ensures.kept live before behind not) (c.next_control.ensures.stays start)
    passed in
    let more = somewhere_kept start _ live c.args.body.now c.next_control.new.self c.read_on.new.self there
    c.in_ok-read_on.ensures.place c.in_ok-read_on.ensures.body (λ live before behind. subst
    (λ s. Knows live before s) (sym c.in_ok-read_on.ensures.state) behind) c.in_ok-read_on.ensures.stays still in
    rest_fault start _ live c.args.body.now c.read_on.new.self c.next.new.self file_is more c.in_err-next.field-0.0
    c.in_err-next.ensures.told)

pub returns-in-None-clause-stays : goal.returns-in-None-clause-stays
returns-in-None-clause-stays g c =
    let start = bytes_in (seen (g.D.Disk.told c.args.disk.now)) c.args.body.now.lines.name in
    let passed_stays = stays_on start start c.args.body.now.lines c.items.body.lines c.pass.new.self.lines refl
    c.items.invariant.stays (c.pass.ensures.stays start) in
    let taken_stays = stays_on start start c.args.body.now.lines c.pass.new.self.lines c.next_control.new.self.lines
    refl passed_stays (c.next_control.ensures.stays start) in
    let there = same_file _ _ _ _ (ap seen c.items.invariant.same) (c.next_control.ensures.name
    ∙ (c.pass.ensures.name ∙ c.items.invariant.name)) in
    let more_stays = stays_on start _ c.args.body.now.lines c.next_control.new.self.lines c.read_on.new.self.lines there
    taken_stays c.in_ok-read_on.ensures.stays in
    let file_is = same_file _ _ _ _ (ap seen (c.in_ok-read_on.ensures.frame.same ∙ c.items.invariant.same))
    (c.in_ok-read_on.ensures.frame.name ∙ (c.next_control.ensures.name
    ∙ (c.pass.ensures.name ∙ c.items.invariant.name))) in
    stays_on start _ c.args.body.now.lines c.read_on.new.self.lines c.next.new.self.lines file_is more_stays
    c.in_ok-next.ensures.stays

pub returns-in_err-next-clause-stays : goal.returns-in_err-next-clause-stays
returns-in_err-next-clause-stays g c =
    let start = bytes_in (seen (g.D.Disk.told c.args.disk.now)) c.args.body.now.lines.name in
    let passed_stays = stays_on start start c.args.body.now.lines c.items.body.lines c.pass.new.self.lines refl
    c.items.invariant.stays (c.pass.ensures.stays start) in
    let taken_stays = stays_on start start c.args.body.now.lines c.pass.new.self.lines c.next_control.new.self.lines
    refl passed_stays (c.next_control.ensures.stays start) in
    let there = same_file _ _ _ _ (ap seen c.items.invariant.same) (c.next_control.ensures.name
    ∙ (c.pass.ensures.name ∙ c.items.invariant.name)) in
    let more_stays = stays_on start _ c.args.body.now.lines c.next_control.new.self.lines c.read_on.new.self.lines there
    taken_stays c.in_ok-read_on.ensures.stays in
    let file_is = same_file _ _ _ _ (ap seen (c.in_ok-read_on.ensures.frame.same ∙ c.items.invariant.same))
    (c.in_ok-read_on.ensures.frame.name ∙ (c.next_control.ensures.name
    ∙ (c.pass.ensures.name ∙ c.items.invariant.name))) in
    stays_on start _ c.args.body.now.lines c.read_on.new.self.lines c.next.new.self.lines file_is more_stays
    c.in_err-next.ensures.stays

pub items-preserved-in-Some : goal.items-preserved-in-Some
items-preserved-in-Some g c =
    let start = bytes_in (seen (g.D.Disk.told c.args.disk.now)) c.args.body.now.lines.name in
    let passed_stays = stays_on start start c.args.body.now.lines c.items.body.lines c.pass.new.self.lines refl
    c.items.invariant.stays (c.pass.ensures.stays start) in
    let taken_stays = stays_on start start c.args.body.now.lines c.pass.new.self.lines c.next_control.new.self.lines
    refl passed_stays (c.next_control.ensures.stays start) in
    let there = same_file _ _ _ _ (ap seen c.items.invariant.same) (c.next_control.ensures.name
    ∙ (c.pass.ensures.name ∙ c.items.invariant.name)) in
    let more_stays = stays_on start _ c.args.body.now.lines c.next_control.new.self.lines c.read_on.new.self.lines there
    taken_stays c.in_ok-read_on.ensures.stays in
    let file_is = same_file _ _ _ _ (ap seen (c.in_ok-read_on.ensures.frame.same ∙ c.items.invariant.same))
    (c.in_ok-read_on.ensures.frame.name ∙ (c.next_control.ensures.name
    ∙ (c.pass.ensures.name ∙ c.items.invariant.name))) in
    let not = not_taken c.next_control.result (sym c.is_some.ensures ∙ c.if-is_some.false) in
    record {
      same = search rules;
      later = search rules;
      name = search rules;
      limit = search rules;
      stays = stays_on start _ c.args.body.now.lines c.read_on.new.self.lines c.next.new.self.lines file_is more_stays
          c.in_ok-next.ensures.stays;
      reached = λ live none.
          let passed = somewhere_behind_front start live c.args.body.now c.items.body c.pass.new.self
          c.texts-count.result.now c.texts-count.ensures.front c.texts-count.ensures.run c.texts-count.ensures.stand
          c.pass.ensures.body c.pass.ensures.place c.pass.ensures.behind c.pass.ensures.told
          (c.items.invariant.reached live none) in
          let still = somewhere_kept start start live c.args.body.now c.pass.new.self c.next_control.new.self refl
          (ap (λ (r : ReaderState). r.place) (c.next_control.ensures.none not)) c.next_control.ensures.body
          (λ live before behind. c.next_control.ensures.kept live before behind not)
          (c.next_control.ensures.stays start) passed in
          let more = somewhere_kept start _ live c.args.body.now c.next_control.new.self c.read_on.new.self there
          c.in_ok-read_on.ensures.place c.in_ok-read_on.ensures.body (λ live before behind. subst
          (λ s. Knows live before s) (sym c.in_ok-read_on.ensures.state) behind) c.in_ok-read_on.ensures.stays
          still in
          somewhere_on start _ live c.args.body.now c.read_on.new.self c.next.new.self c.in_ok-next.field-0
          c.in-Some.field-0 c.in-Some.is file_is c.in_ok-next.ensures.body
          c.in_ok-next.ensures.onward more c.in_ok-next.ensures.goes c.in_ok-next.ensures.told;
    }

pub items-preserved-in-Some-2 : goal.items-preserved-in-Some-2
items-preserved-in-Some-2 g c =
    let start = bytes_in (seen (g.D.Disk.told c.args.disk.now)) c.args.body.now.lines.name in
    let passed_stays = stays_on start start c.args.body.now.lines c.items.body.lines c.pass.new.self.lines refl
    c.items.invariant.stays (c.pass.ensures.stays start) in
    let taken_stays = stays_on start start c.args.body.now.lines c.pass.new.self.lines c.next_control.new.self.lines
    refl passed_stays (c.next_control.ensures.stays start) in
    let there = same_file _ _ _ _ (ap seen c.items.invariant.same) (c.next_control.ensures.name
    ∙ (c.pass.ensures.name ∙ c.items.invariant.name)) in
    let more_stays = stays_on start _ c.args.body.now.lines c.next_control.new.self.lines c.read_on.new.self.lines there
    taken_stays c.in_ok-read_on.ensures.stays in
    let file_is = same_file _ _ _ _ (ap seen (c.in_ok-read_on.ensures.frame.same ∙ c.items.invariant.same))
    (c.in_ok-read_on.ensures.frame.name ∙ (c.next_control.ensures.name
    ∙ (c.pass.ensures.name ∙ c.items.invariant.name))) in
    let not = not_taken c.next_control.result (sym c.is_some.ensures ∙ c.if-is_some.false) in
    record {
      same = search rules;
      later = search rules;
      name = search rules;
      limit = search rules;
      stays = stays_on start _ c.args.body.now.lines c.read_on.new.self.lines c.next.new.self.lines file_is more_stays
          c.in_ok-next.ensures.stays;
      reached = λ live none.
          let passed = somewhere_behind_front start live c.args.body.now c.items.body c.pass.new.self
          c.texts-count.result.now c.texts-count.ensures.front c.texts-count.ensures.run c.texts-count.ensures.stand
          c.pass.ensures.body c.pass.ensures.place c.pass.ensures.behind c.pass.ensures.told
          (c.items.invariant.reached live none) in
          let still = somewhere_kept start start live c.args.body.now c.pass.new.self c.next_control.new.self refl
          (ap (λ (r : ReaderState). r.place) (c.next_control.ensures.none not)) c.next_control.ensures.body
          (λ live before behind. c.next_control.ensures.kept live before behind not)
          (c.next_control.ensures.stays start) passed in
          let more = somewhere_kept start _ live c.args.body.now c.next_control.new.self c.read_on.new.self there
          c.in_ok-read_on.ensures.place c.in_ok-read_on.ensures.body (λ live before behind. subst
          (λ s. Knows live before s) (sym c.in_ok-read_on.ensures.state) behind) c.in_ok-read_on.ensures.stays
          still in
          somewhere_on start _ live c.args.body.now c.read_on.new.self c.next.new.self c.in_ok-next.field-0
          c.in-Some.field-0 c.in-Some.is file_is c.in_ok-next.ensures.body
          c.in_ok-next.ensures.onward more c.in_ok-next.ensures.goes c.in_ok-next.ensures.told;
    }

pub items-preserved-then-is_some : goal.items-preserved-then-is_some
items-preserved-then-is_some g c =
    let start = bytes_in (seen (g.D.Disk.told c.args.disk.now)) c.args.body.now.lines.name in
    let passed_stays = stays_on start start c.args.body.now.lines c.items.body.lines c.pass.new.self.lines refl
    c.items.invariant.stays (c.pass.ensures.stays start) in
    let taken_stays = stays_on start start c.args.body.now.lines c.pass.new.self.lines c.next_control.new.self.lines
    refl passed_stays (c.next_control.ensures.stays start) in
    record {
      same = search rules;
      later = search rules;
      name = search rules;
      limit = search rules;
      stays = taken_stays;
      reached = λ live none.
          let passed = somewhere_behind_front start live c.args.body.now c.items.body c.pass.new.self
          c.texts-count.result.now c.texts-count.ensures.front c.texts-count.ensures.run c.texts-count.ensures.stand
          c.pass.ensures.body c.pass.ensures.place c.pass.ensures.behind c.pass.ensures.told
          (c.items.invariant.reached live none) in
          somewhere_taken start live c.args.body.now c.pass.new.self c.next_control.new.self c.next_control.result
          (sym c.is_some.ensures ∙ c.if-is_some.true) c.next_control.ensures.body c.next_control.ensures.further
          passed c.next_control.ensures.goes c.next_control.ensures.told;
    }

pub items-preserved-then-branch : goal.items-preserved-then-branch
items-preserved-then-branch g c =
    let start = bytes_in (seen (g.D.Disk.told c.args.disk.now)) c.args.body.now.lines.name in
    let passed_stays = stays_on start start c.args.body.now.lines c.items.body.lines c.pass.new.self.lines refl
    c.items.invariant.stays (c.pass.ensures.stays start) in
    let taken_stays = stays_on start start c.args.body.now.lines c.pass.new.self.lines c.next_control.new.self.lines
    refl passed_stays (c.next_control.ensures.stays start) in
    let there = same_file _ _ _ _ (ap seen c.items.invariant.same) (c.next_control.ensures.name
    ∙ (c.pass.ensures.name ∙ c.items.invariant.name)) in
    let more_stays = stays_on start _ c.args.body.now.lines c.next_control.new.self.lines c.read_on.new.self.lines there
    taken_stays c.in_ok-read_on.ensures.stays in
    let file_is = same_file _ _ _ _ (ap seen (c.in_ok-read_on.ensures.frame.same ∙ c.items.invariant.same))
    (c.in_ok-read_on.ensures.frame.name ∙ (c.next_control.ensures.name
    ∙ (c.pass.ensures.name ∙ c.items.invariant.name))) in
    let not = not_taken c.next_control.result (sym c.is_some.ensures ∙ c.if-is_some.false) in
    record {
      same = search rules;
      later = search rules;
      name = search rules;
      limit = search rules;
      stays = more_stays;
      reached = λ live none.
          let passed = somewhere_behind_front start live c.args.body.now c.items.body c.pass.new.self
          c.texts-count.result.now c.texts-count.ensures.front c.texts-count.ensures.run c.texts-count.ensures.stand
          c.pass.ensures.body c.pass.ensures.place c.pass.ensures.behind c.pass.ensures.told
          (c.items.invariant.reached live none) in
          let still = somewhere_kept start start live c.args.body.now c.pass.new.self c.next_control.new.self refl
          (ap (λ (r : ReaderState). r.place) (c.next_control.ensures.none not)) c.next_control.ensures.body
          (λ live before behind. c.next_control.ensures.kept live before behind not)
          (c.next_control.ensures.stays start) passed in
          let more = somewhere_kept start _ live c.args.body.now c.next_control.new.self c.read_on.new.self there
          c.in_ok-read_on.ensures.place c.in_ok-read_on.ensures.body (λ live before behind. subst
          (λ s. Knows live before s) (sym c.in_ok-read_on.ensures.state) behind) c.in_ok-read_on.ensures.stays
          still in
          more;
    }

pub items-smaller-then-branch : goal.items-smaller-then-branch
items-smaller-then-branch g c =
    let not = not_taken c.next_control.result (sym c.is_some.ensures ∙ c.if-is_some.false) in
    let more = c.in_ok-read_on.ensures.more c.if-branch.true in
    fewer_steps c.items.body.lines c.pass.new.self.lines c.next_control.new.self.lines c.read_on.new.self.lines
    (length c.texts-count.result.now) c.pass.ensures.limit c.pass.ensures.ahead c.pass.ensures.place
    c.pass.ensures.held (c.next_control.ensures.none not) c.in_ok-read_on.ensures.frame.limit
    c.in_ok-read_on.ensures.place more.0 more.1
