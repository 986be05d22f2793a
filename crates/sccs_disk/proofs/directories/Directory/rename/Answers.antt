use Rattle.std.proofs.Common.{◌≡◌, false, sym, ◌∙◌}
use Rattle.std.specs.Str.{bytes_eq}
use Rattle.sccs_base.proofs.SameBytes.{bytes_eq_sym}
use Rattle.sccs_disk.specs.DirectoryStates.{state_of}
use Rattle.sccs_disk.specs.States.{shown}
use Rattle.sccs_disk.proofs.Views.{renamed_self, renamed_after}
use Rattle.sccs_disk.proofs.directories.Directory.rename.Goals as goal

pub returns-then-is : goal.returns-then-is
returns-then-is c = renamed_self (shown (state_of c.args.self.now)) c.args.from.now c.args.to.now (sym c.is.ensures
    ∙ c.if-is.true)

pub returns : goal.returns
returns c =
    let mid = c.discard.new.self in
    let apart : bytes_eq c.args.to.now c.args.from.now ≡ false = bytes_eq_sym c.args.to.now c.args.from.now
    ∙ (sym c.is.ensures ∙ c.if-is.false) in
    renamed_after mid.files.items mid.names.names.items c.rename.new.self.names.items (shown (state_of c.args.self.now))
    c.args.from.now c.args.to.now mid.paired apart c.rename.ensures.names c.discard.ensures
