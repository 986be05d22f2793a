use Rattle.std.proofs.Common.{◌≤◌, ℕ, ◌+◌, ◌-◌, List, ap, sym, subst, ◌∙◌, drop, take, length, Option, IfSome, Result}
use Rattle.std.proofs.Common.{Ok, Err, arith}
use Rattle.std.proofs.Math.ListN.{drop_of_length-le}
use Rattle.std.proofs.lemmas.Result.{err_from_is_err_and}
use Rattle.std.proofs.lemmas.List.{take_rest}
use Rattle.sccs_group_command.specs.GroupText.{AddsEntry, ReadsGroup, entry_at, group_from, group_of}
use Rattle.sccs_group_command.specs.declared.entries.GroupEntry.{GroupEntry}
use Rattle.sccs_group_command.specs.declared.entries.GroupFault.{GroupFault}
use Rattle.sccs_group_command.proofs.GroupTexts.{entry_added, entry_none, within_on}
use Rattle.sccs_group_command.proofs.reading.read_group.Goals as goal

pub entries-init : goal.entries-init
entries-init c = record {
  read = ap (λ (l : List GroupEntry). group_from 0 1 l c.args.lines.now)
      c.empty-entries.ensures;
  within = omega arith;
}

pub entries-preserved : goal.entries-preserved
entries-preserved c =
    let tail : List (List ℕ) = take (length c.args.lines.now - (c.entries.at + 1))
    (drop (c.entries.at + 1) c.args.lines.now) in
    let low : c.in-Some.own ≤ length tail = subst (λ (o : Option ℕ). IfSome o (λ own. own ≤ length tail))
    c.in-Some.is c.in_ok-own.ensures.within in
    record {
      read = entry_added c.entries.entries c.add_entry.new.entries c.args.lines.now c.entries.at c.in-Some.own
          c.bytes-line.result.now c.index-lines-at.result tail (c.bytes-line.ensures.value ∙ c.index-lines-at.is)
          c.entries-test.true (take_rest c.args.lines.now (c.entries.at + 1)) low
          (subst (λ (o : Option ℕ). AddsEntry (Ok o) (entry_at c.entries.entries c.bytes-line.result.now tail)
          c.entries.entries c.add_entry.new.entries) c.in-Some.is c.in_ok-own.ensures.adds)
          c.entries.invariant.read;
      within = within_on c.args.lines.now tail c.entries.at c.in-Some.own low (take_rest c.args.lines.now
          (c.entries.at + 1)) c.entries-test.true;
    }

pub returns-in-None : goal.returns-in-None
returns-in-None c =
    let tail : List (List ℕ) = take (length c.args.lines.now - (c.entries.at + 1))
    (drop (c.entries.at + 1) c.args.lines.now) in
    entry_none c.entries.entries c.args.lines.now c.entries.at c.bytes-line.result.now c.index-lines-at.result tail
    (c.bytes-line.ensures.value ∙ c.index-lines-at.is) c.entries-test.true (take_rest c.args.lines.now
    (c.entries.at + 1))
    (subst (λ (o : Option ℕ). AddsEntry (Ok o) (entry_at c.entries.entries c.bytes-line.result.now tail)
    c.entries.entries c.add_entry.new.entries) c.in-None.is c.in_ok-own.ensures.adds)
    c.entries.invariant.read

pub returns-in_err-own : goal.returns-in_err-own
returns-in_err-own c =
    let e = err_from_is_err_and c.from_residual.result c.from_residual.ensures.1 in
    rw (e.1, e.2) (subst (λ (f : GroupFault). ReadsGroup (Err f) (group_of c.args.lines.now))
    (sym c.in_err-own.ensures.adds) tt)

pub returns : goal.returns
returns c =
    subst (λ (read : Result (List GroupEntry) ℕ). ReadsGroup c.some_of.result read)
    (sym (ap (λ (ls : List (List ℕ)). group_from 0 (c.entries.at + 1) c.entries.entries ls)
    (drop_of_length-le c.args.lines.now (omega (arith, c.entries-test.false)))) ∙ c.entries.invariant.read)
    c.some_of.ensures
