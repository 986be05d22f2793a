use Rattle.std.proofs.Common.{[], Ok, ap, subst, sym}
use Rattle.sccs_disk.specs.Calls.{IsThere}
use Rattle.sccs_tokens.specs.Written.{ended, sum_line}
use Rattle.sccs_writers.specs.HeaderBytes.{WritesHeader, header_bytes}
use Rattle.sccs_writers.specs.Puts.{PutsText, Writer}
use Rattle.sccs_writers.proofs.HeaderCalls.{header_cut, header_unbegun, header_whole}
use Rattle.sccs_writers.proofs.PutLaws.{writes_only}
use Rattle.sccs_writers.proofs.header_writers.write_header.Goals as goal

pub returns-in_err-append : goal.returns-in_err-append
returns-in_err-append g c = header_unbegun c.args.header.now c.args.name.now c.args.sum.now c.args.sum.now _ _ _ _
    c.append.result _ c.in_err-append.field-0.0 c.in_err-append.was c.from_residual.ensures.1 c.append.ensures

pub put_whole-requires-clause-there : goal.put_whole-requires-clause-there
put_whole-requires-clause-there g c =
    subst (λ n. IsThere n (g.D.Disk.told c.append.new.self)) (sym (ap (λ (w : Writer). w.name) c.new-out.ensures))
    ((writes_only c.args.name.now (ended (sum_line 0)) _ _ _ _ c.append.result c.append.ensures).there c.requires.there)

pub returns-in_err-put_whole : goal.returns-in_err-put_whole
returns-in_err-put_whole g c =
    header_cut c.args.header.now c.args.name.now c.args.sum.now c.args.sum.now c.put_whole.new.out _ _ _ _ _ _
    c.append.result c.put_whole.result _ c.in_err-put_whole.field-0.0 c.in_err-put_whole.was
    c.from_residual-in_err-put_whole.ensures.1 c.append.ensures
    (subst (λ w. PutsText (header_bytes c.args.header.now) w c.put_whole.new.out (g.D.Disk.told c.append.new.self)
    (g.D.Disk.told c.put_whole.new.disk) (g.D.Disk.faults c.append.new.self) (g.D.Disk.faults c.put_whole.new.disk)
    c.put_whole.result) c.new-out.ensures c.put_whole.ensures.puts)

pub returns : goal.returns
returns g c =
    let puts : PutsText (header_bytes c.args.header.now)
    (record { name = c.args.name.now; held = []; sums = c.args.sum.now }) c.put_whole.new.out
    (g.D.Disk.told c.append.new.self) (g.D.Disk.told c.put_whole.new.disk) (g.D.Disk.faults c.append.new.self)
    (g.D.Disk.faults c.put_whole.new.disk) c.put_whole.result =
    subst (λ w. PutsText (header_bytes c.args.header.now) w c.put_whole.new.out (g.D.Disk.told c.append.new.self)
    (g.D.Disk.told c.put_whole.new.disk) (g.D.Disk.faults c.append.new.self) (g.D.Disk.faults c.put_whole.new.disk)
    c.put_whole.result) c.new-out.ensures c.put_whole.ensures.puts in
    subst (λ s. WritesHeader {T = Unit {0}} c.args.header.now c.args.name.now c.args.sum.now s
    (g.D.Disk.told c.args.disk.now) (g.D.Disk.told c.put_whole.new.disk) (g.D.Disk.faults c.args.disk.now)
    (g.D.Disk.faults c.put_whole.new.disk) (Ok tt)) (sym c.sum.ensures)
    (header_whole c.args.header.now c.args.name.now c.args.sum.now c.put_whole.new.out _ _ _ _ _ _ c.append.result
    c.put_whole.result c.in_ok-append.field-0 c.in_ok-put_whole.field-0 c.in_ok-append.was c.in_ok-put_whole.was
    c.append.ensures puts c.in_ok-put_whole.ensures.empty)
