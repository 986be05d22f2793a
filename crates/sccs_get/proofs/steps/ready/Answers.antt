use Rattle.std.proofs.lemmas.Result.{err_from_is_err_and}
use Rattle.std.proofs.Common.{◌≡◌, true, false, None, subst, sym}
use Rattle.sccs_disk.specs.Told.{seen}
use Rattle.sccs_store.specs.declared.new_files.NewFile.TheVariants.{Keep}
use Rattle.sccs_get.specs.VersionStep.{says_well}
use Rattle.sccs_get.proofs.ReadyLaws.{text_cut, text_given, text_unsaid}
use Rattle.sccs_get.proofs.SpeakLaws.{well_said}
use Rattle.sccs_get.proofs.steps.ready.Goals as goal

pub returns-in_err-shown-clause-readies : goal.returns-in_err-shown-clause-readies
returns-in_err-shown-clause-readies g c =
    let p = err_from_is_err_and c.from_residual.result c.from_residual.ensures.1 in
    rw (p.1, p.2) (λ parsed err. text_cut c.args.get.now.words.now c.args.get.now.heading c.args.name.now
    (seen (g.D.Disk.told c.args.disk.now)) (seen (g.D.Disk.told c.give_version.new.disk)) c.args.located.now.front
    c.args.located.now.found c.in_err-shown.field-0.0 (g.O.Sink.given c.args.out.now)
    (g.O.Sink.given c.give_version.new.out) err c.requires.placed c.requires.no_zero (λ file items body.
    c.in_err-shown.ensures.gives file items err body) parsed)

pub returns-in-Ok-clause-readies : goal.returns-in-Ok-clause-readies
returns-in-Ok-clause-readies g c = λ parsed err.
    text_given c.args.get.now.words.now c.args.get.now.heading c.args.name.now (seen (g.D.Disk.told c.args.disk.now))
    (seen (g.D.Disk.told c.give_version.new.disk)) c.args.located.now.front c.args.located.now.found
    c.in_ok-shown.shown (record {
      new_s = false;
      new_p = Keep;
      new_g = Keep;
      report = c.in-Ok.said.out;
      message =
          c.in-Ok.said.err;
    }) (g.O.Sink.given c.args.out.now) (g.O.Sink.given c.give_version.new.out) err
    c.requires.placed c.requires.no_zero c.requires.replaced (λ file items body. c.in_ok-shown.ensures.gives file
    items err body) c.in-Ok.ensures.out c.in-Ok.ensures.err parsed

pub returns-in-Err-clause-readies : goal.returns-in-Err-clause-readies
returns-in-Err-clause-readies g c = λ parsed err. text_unsaid c.args.get.now.words.now c.args.get.now.heading
    c.args.name.now (seen (g.D.Disk.told c.args.disk.now)) (seen (g.D.Disk.told c.give_version.new.disk))
    c.args.located.now.front c.args.located.now.found c.in_ok-shown.shown (g.O.Sink.given c.args.out.now)
    (g.O.Sink.given c.give_version.new.out) err c.requires.placed c.requires.no_zero (λ file items body.
    c.in_ok-shown.ensures.gives file items err body) parsed

pub returns-in-Ok-clause-says : goal.returns-in-Ok-clause-says
returns-in-Ok-clause-says g c =
    subst (λ m. says_well c.args.get.now.words.now m ≡ true) (sym c.in-Ok.ensures.err)
    (well_said c.args.get.now.words.now c.args.get.now.heading c.args.name.now c.args.located.now.found.include
    c.args.located.now.found.exclude c.args.located.now.found.sid None c.in_ok-shown.shown.lines
    c.in_ok-shown.shown.keywords)

pub returns-in-Ok-clause-whole : goal.returns-in-Ok-clause-whole
returns-in-Ok-clause-whole g c = λ text. record {
  header = c.args.located.now.front.header;
  rules = c.requires.rules;
  found = c.args.located.now.found;
  is = c.requires.found;
  gives = record {
    shown = c.in_ok-shown.shown;
    whole = c.in_ok-shown.ensures.whole text c.requires.no_zero;
    report = c.in-Ok.ensures.out;
    message = c.in-Ok.ensures.err;
  };
}
