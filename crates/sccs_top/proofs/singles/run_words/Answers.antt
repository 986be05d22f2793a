use Rattle.std.proofs.Common.{◌≡◌, [], None, Result, Ok, Err, refl, subst}
use Rattle.std.specs.Prelude.{IfOk}
use Rattle.sccs_base.specs.Stream.{GivesOk, GivesSome}
use Rattle.sccs_base.proofs.Gifts.{gives_none, some_none}
use Rattle.sccs_words.specs.Meaning.{GivesCommand, meaning}
use Rattle.sccs_words.specs.declared.commands.Command.{Command}
use Rattle.sccs_words.specs.declared.commands.Usage.{Usage}
use Rattle.sccs_words.specs.declared.commands.WordsFault.{WordsFault}
use Rattle.sccs_steps.specs.Settings.{setting_of}
use Rattle.sccs_steps.specs.declared.faults.Fault.TheVariants as ends
use Rattle.sccs_top.specs.Messages.{usage_line}
use Rattle.sccs_top.specs.Runs.{caller_in, list_in}
use Rattle.sccs_top.proofs.RunLaws.{said_causes, unsaid_causes, words_run, words_said}
use Rattle.sccs_top.proofs.SingleWords.{words_single}
use Rattle.sccs_top.proofs.singles.run_words.Goals as goal

pub returns-in-Ok : goal.returns-in-Ok
returns-in-Ok g c = words_run (caller_in c.args.context.now) (meaning c.args.words.now)
    c.in-Ok.command c.run_alone.result (setting_of g.I.Source g.O.Sink g.E.Sink g.D.Disk c.args.input.now c.args.out.now
    c.args.err.now c.args.disk.now) (setting_of g.I.Source g.O.Sink g.E.Sink g.D.Disk c.run_alone.new.input
    c.run_alone.new.out c.run_alone.new.err c.run_alone.new.disk) c.in-Ok.ensures.value c.run_alone.ensures.run

pub returns-in-Ok-write_usage : goal.returns-in-Ok-write_usage
returns-in-Ok-write_usage g c =
    words_said (caller_in c.args.context.now) (meaning c.args.words.now)
    c.in-Err-Usage.usage (Ok 2) (setting_of g.I.Source g.O.Sink g.E.Sink g.D.Disk c.args.input.now c.args.out.now
    c.args.err.now c.args.disk.now) (setting_of g.I.Source g.O.Sink g.E.Sink g.D.Disk c.args.input.now
    c.args.out.now c.write_usage.new.out c.args.disk.now) (subst (λ (fault : WordsFault). GivesCommand (Err fault)
    (meaning c.args.words.now)) c.in-Err-Usage.field-0-is c.in-Err-Usage.ensures.value) refl (
      refl,
      gives_none (g.O.Sink.given c.args.out.now),
      subst (λ (usage : Usage). GivesOk
          (g.E.Sink.given c.args.err.now) (g.E.Sink.given c.write_usage.new.out) (usage_line usage))
          c.in-Err-Usage.usage-is c.in-Ok-write_usage.ensures.ok,
    ) (said_causes 2 _ _ _ _ _ c.write_usage.ensures.later)

pub returns-in-Err : goal.returns-in-Err
returns-in-Err g c =
    words_said (caller_in c.args.context.now) (meaning c.args.words.now)
    c.in-Err-Usage.usage (Err ends.WriteFault) (setting_of g.I.Source g.O.Sink g.E.Sink g.D.Disk c.args.input.now
    c.args.out.now c.args.err.now c.args.disk.now) (setting_of g.I.Source g.O.Sink g.E.Sink g.D.Disk
    c.args.input.now c.args.out.now c.write_usage.new.out c.args.disk.now)
    (subst (λ (fault : WordsFault). GivesCommand (Err fault) (meaning c.args.words.now)) c.in-Err-Usage.field-0-is
    c.in-Err-Usage.ensures.value) refl (
      some_none (g.O.Sink.given c.args.out.now) [],
      subst (λ (usage : Usage).
          GivesSome (g.E.Sink.given c.args.err.now) (g.E.Sink.given c.write_usage.new.out) (usage_line usage))
          c.in-Err-Usage.usage-is c.in-Err.ensures.err,
    ) (unsaid_causes _ _ _ _ _ c.write_usage.ensures.later
    c.in-Err.ensures.cause)

pub run_alone-requires-clause-single : goal.run_alone-requires-clause-single
run_alone-requires-clause-single g c = subst (λ (meant : Result Command Usage). IfOk meant (λ command. list_in command
    ≡ None)) c.in-Ok.ensures.value (words_single c.args.words.now c.requires.single)
