use Rattle.std.proofs.Common.{ℕ, [], Result, Ok, Err, refl, sym, subst}
use Rattle.sccs_base.specs.Stream.{GivesOk, GivesSome}
use Rattle.sccs_base.proofs.Gifts.{gives_none, some_none}
use Rattle.sccs_words.specs.declared.commands.Usage.{Usage}
use Rattle.sccs_words.specs.declared.commands.WordsFault.{WordsFault}
use Rattle.sccs_steps.specs.Calls.{scene}
use Rattle.sccs_steps.specs.Causes.{Ignores, RunCauses}
use Rattle.sccs_steps.specs.Settings.{setting_of}
use Rattle.sccs_steps.specs.declared.faults.Fault.{Fault}
use Rattle.sccs_steps.specs.declared.faults.Fault.TheVariants as ends
use Rattle.sccs_top.specs.Asked.{GivesAsked, asked_of}
use Rattle.sccs_top.specs.Messages.{usage_line}
use Rattle.sccs_top.specs.declared.answers.Answer.TheVariants as answers
use Rattle.sccs_top.proofs.RunLaws.{asked_runs, asked_said, input_left, never_begun, never_recovers, never_speaks}
use Rattle.sccs_top.proofs.RunLaws.{never_stops, said_causes, same_unlocked, unsaid_causes, usage_recovers}
use Rattle.sccs_top.proofs.RunLaws.{words_are_silent, words_end, words_read, words_recovered, words_speak, words_stop}
use Rattle.sccs_top.proofs.RunLaws.{words_unlocked}
use Rattle.sccs_top.specs.Runs.{caller}
use Rattle.sccs_top.proofs.commands.run.Goals as goal

pub returns-in-Ok-clause-steps : goal.returns-in-Ok-clause-steps
returns-in-Ok-clause-steps g c =
    words_end (caller c.args.stamp.now c.args.place.now) (asked_of c.args.words.now) c.ended.result c.run_asked.result
    (setting_of g.I.Source g.O.Sink g.E.Sink g.D.Disk c.args.input.now c.args.out.now c.args.err.now
    c.args.disk.now) (setting_of g.I.Source g.O.Sink g.E.Sink g.D.Disk c.run_asked.new.input c.run_asked.new.out
    c.run_asked.new.err c.run_asked.new.disk) c.ended.ensures (asked_runs (caller c.args.stamp.now c.args.place.now)
    (asked_of c.args.words.now) c.in-Ok.asked c.run_asked.result (setting_of g.I.Source g.O.Sink g.E.Sink g.D.Disk
    c.args.input.now c.args.out.now c.args.err.now c.args.disk.now)
    (setting_of g.I.Source g.O.Sink g.E.Sink g.D.Disk c.run_asked.new.input c.run_asked.new.out c.run_asked.new.err
    c.run_asked.new.disk) c.in-Ok.ensures.value c.run_asked.ensures.run)

pub returns-in-Ok-write_usage-clause-steps : goal.returns-in-Ok-write_usage-clause-steps
returns-in-Ok-write_usage-clause-steps g c =
    words_end (caller c.args.stamp.now c.args.place.now) (asked_of c.args.words.now) (answers.Finished 2) (Ok 2)
    (setting_of g.I.Source g.O.Sink g.E.Sink g.D.Disk c.args.input.now c.args.out.now c.args.err.now
    c.args.disk.now) (setting_of g.I.Source g.O.Sink g.E.Sink g.D.Disk c.args.input.now c.args.out.now
    c.write_usage.new.out c.args.disk.now) refl (asked_said (caller c.args.stamp.now c.args.place.now)
    (asked_of c.args.words.now) c.in-Err-Usage.usage (Ok 2) (setting_of g.I.Source g.O.Sink g.E.Sink g.D.Disk
    c.args.input.now c.args.out.now c.args.err.now c.args.disk.now)
    (setting_of g.I.Source g.O.Sink g.E.Sink g.D.Disk c.args.input.now c.args.out.now c.write_usage.new.out
    c.args.disk.now) (subst (λ (fault : WordsFault). GivesAsked (Err fault) (asked_of c.args.words.now))
    c.in-Err-Usage.field-0-is c.in-Err-Usage.ensures.value) refl (
      refl,
      gives_none (g.O.Sink.given c.args.out.now),
      subst (λ (usage : Usage). GivesOk (g.E.Sink.given c.args.err.now) (g.E.Sink.given c.write_usage.new.out)
          (usage_line usage)) c.in-Err-Usage.usage-is c.in-Ok-write_usage.ensures.ok,
    )
    (said_causes 2 _ _ _ _ _ c.write_usage.ensures.later))

pub returns-in-Err-clause-steps : goal.returns-in-Err-clause-steps
returns-in-Err-clause-steps g c =
    words_end (caller c.args.stamp.now c.args.place.now) (asked_of c.args.words.now) answers.WriteFault
    (Err ends.WriteFault) (setting_of g.I.Source g.O.Sink g.E.Sink g.D.Disk c.args.input.now c.args.out.now
    c.args.err.now c.args.disk.now) (setting_of g.I.Source g.O.Sink g.E.Sink g.D.Disk c.args.input.now
    c.args.out.now c.write_usage.new.out c.args.disk.now) refl
    (asked_said (caller c.args.stamp.now c.args.place.now) (asked_of c.args.words.now) c.in-Err-Usage.usage
    (Err ends.WriteFault) (setting_of g.I.Source g.O.Sink g.E.Sink g.D.Disk c.args.input.now c.args.out.now
    c.args.err.now c.args.disk.now) (setting_of g.I.Source g.O.Sink g.E.Sink g.D.Disk c.args.input.now
    c.args.out.now c.write_usage.new.out c.args.disk.now) (subst (λ (fault : WordsFault). GivesAsked (Err fault)
    (asked_of c.args.words.now)) c.in-Err-Usage.field-0-is c.in-Err-Usage.ensures.value) refl (
      some_none (g.O.Sink.given c.args.out.now) [],
      subst (λ (usage : Usage). GivesSome
          (g.E.Sink.given c.args.err.now) (g.E.Sink.given c.write_usage.new.out) (usage_line usage))
          c.in-Err-Usage.usage-is c.in-Err.ensures.err,
    ) (unsaid_causes _ _ _ _ _ c.write_usage.ensures.later
    c.in-Err.ensures.cause))

pub returns-in-Ok-clause-stops : goal.returns-in-Ok-clause-stops
returns-in-Ok-clause-stops g c =
    words_stop (caller c.args.stamp.now c.args.place.now) (asked_of c.args.words.now) c.ended.result c.run_asked.result
    (setting_of g.I.Source g.O.Sink g.E.Sink g.D.Disk c.args.input.now c.args.out.now c.args.err.now
    c.args.disk.now) (setting_of g.I.Source g.O.Sink g.E.Sink g.D.Disk c.run_asked.new.input c.run_asked.new.out
    c.run_asked.new.err c.run_asked.new.disk) c.ended.ensures (asked_runs (caller c.args.stamp.now c.args.place.now)
    (asked_of c.args.words.now) c.in-Ok.asked c.run_asked.result (setting_of g.I.Source g.O.Sink g.E.Sink g.D.Disk
    c.args.input.now c.args.out.now c.args.err.now c.args.disk.now)
    (setting_of g.I.Source g.O.Sink g.E.Sink g.D.Disk c.run_asked.new.input c.run_asked.new.out c.run_asked.new.err
    c.run_asked.new.disk) c.in-Ok.ensures.value c.run_asked.ensures.run)

pub returns-in-Ok-write_usage-clause-stops : goal.returns-in-Ok-write_usage-clause-stops
returns-in-Ok-write_usage-clause-stops g c =
    words_stop (caller c.args.stamp.now c.args.place.now) (asked_of c.args.words.now) (answers.Finished 2) (Ok 2)
    (setting_of g.I.Source g.O.Sink g.E.Sink g.D.Disk c.args.input.now c.args.out.now c.args.err.now
    c.args.disk.now) (setting_of g.I.Source g.O.Sink g.E.Sink g.D.Disk c.args.input.now c.args.out.now
    c.write_usage.new.out c.args.disk.now) refl (asked_said (caller c.args.stamp.now c.args.place.now)
    (asked_of c.args.words.now) c.in-Err-Usage.usage (Ok 2) (setting_of g.I.Source g.O.Sink g.E.Sink g.D.Disk
    c.args.input.now c.args.out.now c.args.err.now c.args.disk.now)
    (setting_of g.I.Source g.O.Sink g.E.Sink g.D.Disk c.args.input.now c.args.out.now c.write_usage.new.out
    c.args.disk.now) (subst (λ (fault : WordsFault). GivesAsked (Err fault) (asked_of c.args.words.now))
    c.in-Err-Usage.field-0-is c.in-Err-Usage.ensures.value) refl (
      refl,
      gives_none (g.O.Sink.given c.args.out.now),
      subst (λ (usage : Usage). GivesOk (g.E.Sink.given c.args.err.now) (g.E.Sink.given c.write_usage.new.out)
          (usage_line usage)) c.in-Err-Usage.usage-is c.in-Ok-write_usage.ensures.ok,
    )
    (said_causes 2 _ _ _ _ _ c.write_usage.ensures.later))

pub returns-in-Err-clause-stops : goal.returns-in-Err-clause-stops
returns-in-Err-clause-stops g c =
    words_stop (caller c.args.stamp.now c.args.place.now) (asked_of c.args.words.now) answers.WriteFault
    (Err ends.WriteFault) (setting_of g.I.Source g.O.Sink g.E.Sink g.D.Disk c.args.input.now c.args.out.now
    c.args.err.now c.args.disk.now) (setting_of g.I.Source g.O.Sink g.E.Sink g.D.Disk c.args.input.now
    c.args.out.now c.write_usage.new.out c.args.disk.now) refl
    (asked_said (caller c.args.stamp.now c.args.place.now) (asked_of c.args.words.now) c.in-Err-Usage.usage
    (Err ends.WriteFault) (setting_of g.I.Source g.O.Sink g.E.Sink g.D.Disk c.args.input.now c.args.out.now
    c.args.err.now c.args.disk.now) (setting_of g.I.Source g.O.Sink g.E.Sink g.D.Disk c.args.input.now
    c.args.out.now c.write_usage.new.out c.args.disk.now) (subst (λ (fault : WordsFault). GivesAsked (Err fault)
    (asked_of c.args.words.now)) c.in-Err-Usage.field-0-is c.in-Err-Usage.ensures.value) refl (
      some_none (g.O.Sink.given c.args.out.now) [],
      subst (λ (usage : Usage). GivesSome
          (g.E.Sink.given c.args.err.now) (g.E.Sink.given c.write_usage.new.out) (usage_line usage))
          c.in-Err-Usage.usage-is c.in-Err.ensures.err,
    ) (unsaid_causes _ _ _ _ _ c.write_usage.ensures.later
    c.in-Err.ensures.cause))

pub returns-in-Ok-clause-speaks : goal.returns-in-Ok-clause-speaks
returns-in-Ok-clause-speaks g c =
    words_speak (caller c.args.stamp.now c.args.place.now) (asked_of c.args.words.now) c.ended.result c.run_asked.result
    (setting_of g.I.Source g.O.Sink g.E.Sink g.D.Disk c.args.input.now c.args.out.now c.args.err.now
    c.args.disk.now) (setting_of g.I.Source g.O.Sink g.E.Sink g.D.Disk c.run_asked.new.input c.run_asked.new.out
    c.run_asked.new.err c.run_asked.new.disk) c.ended.ensures (asked_runs (caller c.args.stamp.now c.args.place.now)
    (asked_of c.args.words.now) c.in-Ok.asked c.run_asked.result (setting_of g.I.Source g.O.Sink g.E.Sink g.D.Disk
    c.args.input.now c.args.out.now c.args.err.now c.args.disk.now)
    (setting_of g.I.Source g.O.Sink g.E.Sink g.D.Disk c.run_asked.new.input c.run_asked.new.out c.run_asked.new.err
    c.run_asked.new.disk) c.in-Ok.ensures.value c.run_asked.ensures.run)

pub returns-in-Ok-write_usage-clause-speaks : goal.returns-in-Ok-write_usage-clause-speaks
returns-in-Ok-write_usage-clause-speaks g c =
    words_speak (caller c.args.stamp.now c.args.place.now) (asked_of c.args.words.now) (answers.Finished 2) (Ok 2)
    (setting_of g.I.Source g.O.Sink g.E.Sink g.D.Disk c.args.input.now c.args.out.now c.args.err.now
    c.args.disk.now) (setting_of g.I.Source g.O.Sink g.E.Sink g.D.Disk c.args.input.now c.args.out.now
    c.write_usage.new.out c.args.disk.now) refl (asked_said (caller c.args.stamp.now c.args.place.now)
    (asked_of c.args.words.now) c.in-Err-Usage.usage (Ok 2) (setting_of g.I.Source g.O.Sink g.E.Sink g.D.Disk
    c.args.input.now c.args.out.now c.args.err.now c.args.disk.now)
    (setting_of g.I.Source g.O.Sink g.E.Sink g.D.Disk c.args.input.now c.args.out.now c.write_usage.new.out
    c.args.disk.now) (subst (λ (fault : WordsFault). GivesAsked (Err fault) (asked_of c.args.words.now))
    c.in-Err-Usage.field-0-is c.in-Err-Usage.ensures.value) refl (
      refl,
      gives_none (g.O.Sink.given c.args.out.now),
      subst (λ (usage : Usage). GivesOk (g.E.Sink.given c.args.err.now) (g.E.Sink.given c.write_usage.new.out)
          (usage_line usage)) c.in-Err-Usage.usage-is c.in-Ok-write_usage.ensures.ok,
    )
    (said_causes 2 _ _ _ _ _ c.write_usage.ensures.later))

pub returns-in-Err-clause-speaks : goal.returns-in-Err-clause-speaks
returns-in-Err-clause-speaks g c =
    words_speak (caller c.args.stamp.now c.args.place.now) (asked_of c.args.words.now) answers.WriteFault
    (Err ends.WriteFault) (setting_of g.I.Source g.O.Sink g.E.Sink g.D.Disk c.args.input.now c.args.out.now
    c.args.err.now c.args.disk.now) (setting_of g.I.Source g.O.Sink g.E.Sink g.D.Disk c.args.input.now
    c.args.out.now c.write_usage.new.out c.args.disk.now) refl
    (asked_said (caller c.args.stamp.now c.args.place.now) (asked_of c.args.words.now) c.in-Err-Usage.usage
    (Err ends.WriteFault) (setting_of g.I.Source g.O.Sink g.E.Sink g.D.Disk c.args.input.now c.args.out.now
    c.args.err.now c.args.disk.now) (setting_of g.I.Source g.O.Sink g.E.Sink g.D.Disk c.args.input.now
    c.args.out.now c.write_usage.new.out c.args.disk.now) (subst (λ (fault : WordsFault). GivesAsked (Err fault)
    (asked_of c.args.words.now)) c.in-Err-Usage.field-0-is c.in-Err-Usage.ensures.value) refl (
      some_none (g.O.Sink.given c.args.out.now) [],
      subst (λ (usage : Usage). GivesSome
          (g.E.Sink.given c.args.err.now) (g.E.Sink.given c.write_usage.new.out) (usage_line usage))
          c.in-Err-Usage.usage-is c.in-Err.ensures.err,
    ) (unsaid_causes _ _ _ _ _ c.write_usage.ensures.later
    c.in-Err.ensures.cause))

pub returns-in-Err-Memory-clause-steps : goal.returns-in-Err-Memory-clause-steps
returns-in-Err-Memory-clause-steps g c =
    never_begun (caller c.args.stamp.now c.args.place.now) (asked_of c.args.words.now)
    (g.I.Source.left c.args.input.now) (scene (g.D.Disk.told c.args.disk.now) (g.O.Sink.given c.args.out.now)
    (g.E.Sink.given c.args.err.now))

pub returns-in-Err-Memory-clause-stops : goal.returns-in-Err-Memory-clause-stops
returns-in-Err-Memory-clause-stops g c =
    never_stops (caller c.args.stamp.now c.args.place.now) (asked_of c.args.words.now)
    (g.I.Source.left c.args.input.now) (scene (g.D.Disk.told c.args.disk.now) (g.O.Sink.given c.args.out.now)
    (g.E.Sink.given c.args.err.now))

pub returns-in-Err-Memory-clause-speaks : goal.returns-in-Err-Memory-clause-speaks
returns-in-Err-Memory-clause-speaks g c =
    never_speaks (caller c.args.stamp.now c.args.place.now) (asked_of c.args.words.now) (g.E.Sink.given c.args.err.now)

pub returns-in-Ok-clause-unlocked : goal.returns-in-Ok-clause-unlocked
returns-in-Ok-clause-unlocked g c =
    words_unlocked (caller c.args.stamp.now c.args.place.now) (asked_of c.args.words.now) c.run_asked.result
    (setting_of g.I.Source g.O.Sink g.E.Sink g.D.Disk c.args.input.now c.args.out.now c.args.err.now
    c.args.disk.now) (setting_of g.I.Source g.O.Sink g.E.Sink g.D.Disk c.run_asked.new.input c.run_asked.new.out
    c.run_asked.new.err c.run_asked.new.disk) (asked_runs (caller c.args.stamp.now c.args.place.now)
    (asked_of c.args.words.now) c.in-Ok.asked c.run_asked.result (setting_of g.I.Source g.O.Sink g.E.Sink g.D.Disk
    c.args.input.now c.args.out.now c.args.err.now c.args.disk.now)
    (setting_of g.I.Source g.O.Sink g.E.Sink g.D.Disk c.run_asked.new.input c.run_asked.new.out c.run_asked.new.err
    c.run_asked.new.disk) c.in-Ok.ensures.value c.run_asked.ensures.run)

pub returns-in-Ok-write_usage-clause-unlocked : goal.returns-in-Ok-write_usage-clause-unlocked
returns-in-Ok-write_usage-clause-unlocked g c =
    same_unlocked (caller c.args.stamp.now c.args.place.now) (asked_of c.args.words.now)
    (g.I.Source.left c.args.input.now) (g.D.Disk.told c.args.disk.now)

pub returns-in-Err-clause-unlocked : goal.returns-in-Err-clause-unlocked
returns-in-Err-clause-unlocked g c =
    same_unlocked (caller c.args.stamp.now c.args.place.now) (asked_of c.args.words.now)
    (g.I.Source.left c.args.input.now) (g.D.Disk.told c.args.disk.now)

pub returns-in-Err-Memory-clause-unlocked : goal.returns-in-Err-Memory-clause-unlocked
returns-in-Err-Memory-clause-unlocked g c =
    same_unlocked (caller c.args.stamp.now c.args.place.now) (asked_of c.args.words.now)
    (g.I.Source.left c.args.input.now) (g.D.Disk.told c.args.disk.now)

pub returns-in-Ok-clause-recovers : goal.returns-in-Ok-clause-recovers
returns-in-Ok-clause-recovers g c =
    words_recovered (caller c.args.stamp.now c.args.place.now) (asked_of c.args.words.now) c.in-Ok.asked c.ended.result
    c.run_asked.result (setting_of g.I.Source g.O.Sink g.E.Sink g.D.Disk c.args.input.now c.args.out.now
    c.args.err.now c.args.disk.now) (setting_of g.I.Source g.O.Sink g.E.Sink g.D.Disk c.run_asked.new.input
    c.run_asked.new.out c.run_asked.new.err c.run_asked.new.disk) c.in-Ok.ensures.value c.ended.ensures
    c.run_asked.ensures.leaves

pub returns-in-Ok-write_usage-clause-recovers : goal.returns-in-Ok-write_usage-clause-recovers
returns-in-Ok-write_usage-clause-recovers g c =
    usage_recovers (asked_of c.args.words.now) c.in-Err-Usage.usage (answers.Finished 2) (g.D.Disk.told c.args.disk.now)
    (g.D.Disk.told c.args.disk.now) (subst (λ (fault : WordsFault). GivesAsked (Err fault)
    (asked_of c.args.words.now)) c.in-Err-Usage.field-0-is c.in-Err-Usage.ensures.value)

pub returns-in-Err-clause-recovers : goal.returns-in-Err-clause-recovers
returns-in-Err-clause-recovers g c =
    usage_recovers (asked_of c.args.words.now) c.in-Err-Usage.usage answers.WriteFault (g.D.Disk.told c.args.disk.now)
    (g.D.Disk.told c.args.disk.now) (subst (λ (fault : WordsFault). GivesAsked (Err fault)
    (asked_of c.args.words.now)) c.in-Err-Usage.field-0-is c.in-Err-Usage.ensures.value)

pub returns-in-Err-Memory-clause-recovers : goal.returns-in-Err-Memory-clause-recovers
returns-in-Err-Memory-clause-recovers g c =
    never_recovers (asked_of c.args.words.now) (g.D.Disk.told c.args.disk.now)

pub returns-in-Ok-clause-reads : goal.returns-in-Ok-clause-reads
returns-in-Ok-clause-reads g c =
    words_read (caller c.args.stamp.now c.args.place.now) (asked_of c.args.words.now) c.in-Ok.asked c.run_asked.result
    (setting_of g.I.Source g.O.Sink g.E.Sink g.D.Disk c.args.input.now c.args.out.now c.args.err.now
    c.args.disk.now) (setting_of g.I.Source g.O.Sink g.E.Sink g.D.Disk c.run_asked.new.input c.run_asked.new.out
    c.run_asked.new.err c.run_asked.new.disk) c.in-Ok.ensures.value c.run_asked.ensures.leaves

pub returns-in-Ok-clause-silent : goal.returns-in-Ok-clause-silent
returns-in-Ok-clause-silent g c =
    words_are_silent (caller c.args.stamp.now c.args.place.now) (asked_of c.args.words.now) c.in-Ok.asked
    c.run_asked.result (setting_of g.I.Source g.O.Sink g.E.Sink g.D.Disk c.args.input.now c.args.out.now
    c.args.err.now c.args.disk.now) (setting_of g.I.Source g.O.Sink g.E.Sink g.D.Disk c.run_asked.new.input
    c.run_asked.new.out c.run_asked.new.err c.run_asked.new.disk) c.in-Ok.ensures.value c.run_asked.ensures.leaves

pub returns-in-Ok-clause-ignores : goal.returns-in-Ok-clause-ignores
returns-in-Ok-clause-ignores g c =
    λ none. subst (λ (r : Result ℕ Fault). Ignores ends.ReadFault (g.I.Source.left c.args.input.now)
    (g.I.Source.left c.run_asked.new.input) (g.I.Source.faults c.args.input.now)
    (g.I.Source.faults c.run_asked.new.input) r) (sym c.ended.ensures)
    (input_left (caller c.args.stamp.now c.args.place.now) (asked_of c.args.words.now) c.in-Ok.asked
    c.run_asked.result (setting_of g.I.Source g.O.Sink g.E.Sink g.D.Disk c.args.input.now c.args.out.now
    c.args.err.now c.args.disk.now) (setting_of g.I.Source g.O.Sink g.E.Sink g.D.Disk c.run_asked.new.input
    c.run_asked.new.out c.run_asked.new.err c.run_asked.new.disk) c.in-Ok.ensures.value c.run_asked.ensures.input
    none)

pub returns-in-Ok-clause-causes : goal.returns-in-Ok-clause-causes
returns-in-Ok-clause-causes g c =
    subst (λ (r : Result ℕ Fault). RunCauses r
    ((setting_of g.I.Source g.O.Sink g.E.Sink g.D.Disk c.args.input.now c.args.out.now c.args.err.now
    c.args.disk.now)).faults ((setting_of g.I.Source g.O.Sink g.E.Sink g.D.Disk c.run_asked.new.input
    c.run_asked.new.out c.run_asked.new.err c.run_asked.new.disk)).faults) (sym c.ended.ensures)
    c.run_asked.ensures.run.causes
