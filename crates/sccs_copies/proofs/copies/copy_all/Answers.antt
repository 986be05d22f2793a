use Rattle.std.proofs.Common.{◌∙◌, [], Ok, ap, refl, subst}
use Rattle.std.proofs.lemmas.Result.{err_from_is_err_and}
use Rattle.sccs_disk.specs.Told.{seen}
use Rattle.sccs_table.specs.ReaderState.{bytes_in}
use Rattle.sccs_copies.specs.Copies.{CopiesItem, CopiesNext}
use Rattle.sccs_copies.proofs.BodyLaws.{body_both, on_both, on_none}
use Rattle.sccs_copies.proofs.ComingItems.{bytes_stay}
use Rattle.sccs_copies.proofs.CopyLaws.{copies_both, copies_end, copies_none, some_as, some_both, some_err, some_none}
use Rattle.sccs_copies.proofs.copies.copy_all.Goals as goal

pub items-init : goal.items-init
items-init g c = record {
  puts = some_none c.args.out.now (g.D.Disk.told c.args.disk.now) (g.D.Disk.faults c.args.disk.now);
  name = refl;
  goes = λ live begun. on_none g.F.BodyFilter.filter live [] c.args.copying.now c.args.out.now
      (g.D.Disk.told c.args.disk.now) begun.behind begun.stands;
  told = λ file items is come. copies_none g.F.BodyFilter.filter file items c.args.copying.now c.args.out.now
      (g.D.Disk.told c.args.disk.now) come;
}

pub items-preserved : goal.items-preserved
items-preserved g c = record {
  puts = some_both c.args.out.now c.items.out c.copy_next.new.out _ _ _ _ _ _ (Ok tt) tt
      (Ok tt) refl c.items.invariant.puts (some_as c.items.out c.copy_next.new.out _ _ _ _ c.in_ok-copy_next.field-0 tt
      c.in_ok-copy_next.ensures.puts);
  name = c.in_ok-copy_next.ensures.read ∙ c.items.invariant.name;
  goes = λ live begun.
      let p = c.items.invariant.goes live begun in
      on_both g.F.BodyFilter.filter live [] c.args.copying.now c.items.copying c.copy_next.new.copying c.args.out.now
      c.items.out c.copy_next.new.out _ _ _ p
      (subst (λ more. CopiesItem g.F.BodyFilter.filter live p.some.after c.items.copying c.copy_next.new.copying
      c.items.out c.copy_next.new.out (g.D.Disk.told c.items.disk) (g.D.Disk.told c.copy_next.new.disk) (Ok more))
      c.if-not-branch.false
      (c.in_ok-copy_next.ensures.goes live p.some.after p.behind p.some.put.filters.behind));
  told = λ file items is come.
      let here = ap (bytes_in (seen (g.D.Disk.told c.items.disk))) c.items.invariant.name
      ∙ bytes_stay c.args.out.now.name _ file _ _ c.requires.apart c.items.invariant.puts.only.view is in
      let p = c.items.invariant.told file items is come in
      copies_both g.F.BodyFilter.filter file items c.args.copying.now c.items.copying c.copy_next.new.copying
      c.args.out.now c.items.out c.copy_next.new.out _ _ _ p
      (subst (λ more. CopiesNext g.F.BodyFilter.filter file p.rest c.items.copying c.copy_next.new.copying c.items.out
      c.copy_next.new.out (g.D.Disk.told c.items.disk) (g.D.Disk.told c.copy_next.new.disk) (Ok more))
      c.if-not-branch.false
      (c.in_ok-copy_next.ensures.told file p.rest here p.on));
}

pub returns-then-not-branch-clause-puts : goal.returns-then-not-branch-clause-puts
returns-then-not-branch-clause-puts g c = some_both c.args.out.now c.items.out c.copy_next.new.out _ _ _ _ _ _
    (Ok tt) tt
    (Ok tt) refl c.items.invariant.puts (some_as c.items.out c.copy_next.new.out _ _ _ _ c.in_ok-copy_next.field-0 tt
    c.in_ok-copy_next.ensures.puts)

pub returns-then-not-branch-clause-goes : goal.returns-then-not-branch-clause-goes
returns-then-not-branch-clause-goes g c = λ live begun.
    let p = c.items.invariant.goes live begun in
    body_both g.F.BodyFilter.filter live [] c.args.copying.now c.items.copying c.copy_next.new.copying c.args.out.now
    c.items.out c.copy_next.new.out _ _ _ p
    (subst (λ more. CopiesItem g.F.BodyFilter.filter live p.some.after c.items.copying c.copy_next.new.copying
    c.items.out c.copy_next.new.out (g.D.Disk.told c.items.disk) (g.D.Disk.told c.copy_next.new.disk) (Ok more))
    c.if-not-branch.true
    (c.in_ok-copy_next.ensures.goes live p.some.after p.behind p.some.put.filters.behind))

pub returns-then-not-branch-clause-told : goal.returns-then-not-branch-clause-told
returns-then-not-branch-clause-told g c = λ file items is come.
    let here = ap (bytes_in (seen (g.D.Disk.told c.items.disk))) c.items.invariant.name
    ∙ bytes_stay c.args.out.now.name _ file _ _ c.requires.apart c.items.invariant.puts.only.view is in
    let p = c.items.invariant.told file items is come in
    copies_end g.F.BodyFilter.filter file items c.args.copying.now c.items.copying c.copy_next.new.copying.filter
    c.args.out.now c.items.out c.copy_next.new.out _ _ _ p
    (subst (λ more. CopiesNext g.F.BodyFilter.filter file p.rest c.items.copying c.copy_next.new.copying c.items.out
    c.copy_next.new.out (g.D.Disk.told c.items.disk) (g.D.Disk.told c.copy_next.new.disk) (Ok more))
    c.if-not-branch.true
    (c.in_ok-copy_next.ensures.told file p.rest here p.on))

pub returns-in_err-copy_next-clause-puts : goal.returns-in_err-copy_next-clause-puts
returns-in_err-copy_next-clause-puts g c =
    let p = err_from_is_err_and c.from_residual.result c.from_residual.ensures.1 in
    rw (p.1, p.2) (some_both c.args.out.now c.items.out c.copy_next.new.out _ _ _ _ _ _
    (Ok tt) tt _ refl c.items.invariant.puts (some_err c.items.out c.copy_next.new.out _ _ _ _
    c.in_err-copy_next.field-0.0
    c.in_err-copy_next.ensures.puts))

pub returns-in_err-copy_next-clause-told : goal.returns-in_err-copy_next-clause-told
returns-in_err-copy_next-clause-told g c =
    let q = err_from_is_err_and c.from_residual.result c.from_residual.ensures.1 in
    rw (q.1, q.2) (λ file items is come.
    let here = ap (bytes_in (seen (g.D.Disk.told c.items.disk))) c.items.invariant.name
    ∙ bytes_stay c.args.out.now.name _ file _ _ c.requires.apart c.items.invariant.puts.only.view is in
    let p = c.items.invariant.told file items is come in
    c.in_err-copy_next.ensures.told file p.rest here p.on)
