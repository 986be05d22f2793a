-- A history that admin makes and that calls of delta go on with is replayed.
use Rattle.std.proofs.Common.{◌≡◌, ℕ, List, [], Option, None, Some, IfSome, Ok, refl, sym, ap}
use Rattle.std.specs.List.{AllByRecursion}
use Rattle.sccs_base.specs.Cut.{text_of}
use Rattle.sccs_base.specs.Login.{IsLogin}
use Rattle.sccs_disk.specs.Files.{Content}
use Rattle.sccs_sid.specs.declared.moments.Stamp.{Stamp}
use Rattle.sccs_history.specs.History.{AreLines}
use Rattle.sccs_grammar.specs.File.{Parsed}
use Rattle.sccs_name_files.specs.StepFiles.{Files}
use Rattle.sccs_steps.specs.StepEffects.{Outcome, StepEffect}
use Rattle.sccs_words.specs.declared.commands.AdminWords.{AdminWords}
use Rattle.sccs_admin.specs.AdminStep.{AreAdminValues, admin_outcome, found_texts, makes}
use Rattle.sccs_admin.specs.NewFiles.{new_content, new_header, new_items}
use Rattle.sccs_admin.specs.Rules.{new_rules}
use Rattle.sccs_admin.proofs.NewFileLaws.{new_file_again, new_version}
use Rattle.sccs_delta.specs.Replays.{DeltaCall, IsDeltaCall}
use Rattle.sccs_changes.proofs.Chains.{passed}
use Rattle.sccs_delta.proofs.Replaying.{calls_replayed}
use Rattle.sccs_top.specs.MadeHistories.{IsReplayed}

-- what is made is new
effect_is : (a b : StepEffect) → (let r : Outcome = Ok a in r) ≡ Ok b → a ≡ b
effect_is a b is = cc

new_is : (s : Content) (f : Files) (effect : StepEffect) → makes s f ≡ Ok effect
    → Some (record { s = Some s; p = f.p; z = None; g = f.g; l = f.l }) ≡ effect.new
new_is s f effect is = ap (λ (e : StepEffect). e.new)
    (effect_is (record {
      new = Some (record { s = Some s; p = f.p; z = None; g = f.g; l = f.l });
      text = [];
      out = [];
      err = [];
      status = 0;
    }) effect is)

pub made_replayed : (words : AdminWords) (stamp : Stamp) (n input : List ℕ) (named : List (Option Content)) (f : Files)
    (effect : StepEffect) (calls : List DeltaCall)
    → AreAdminValues words stamp → IsLogin stamp.login → IfSome words.comment AreLines → AreLines words.mrs
    → admin_outcome words stamp n input named f ≡ Ok effect → AllByRecursion IsDeltaCall calls
    → IsReplayed words n input named f effect calls
unfolding admin_outcome
made_replayed words stamp n input named f effect calls values login comment mrs is are =
    let texts = passed (found_texts words input named f.s) _ effect is in
    let rules = passed (new_rules words texts.0) _ effect texts.2 in
    let file : Parsed = record { header = new_header words stamp rules.0; items = new_items (text_of texts.0.text) } in
    let reads = new_file_again words stamp texts.0 rules.0 values login comment mrs rules.1 in
    record {
      texts = texts.0;
      s = new_content words stamp rules.0 (text_of texts.0.text);
      file = file;
      found = texts.1;
      made = sym (new_is (new_content words stamp rules.0 (text_of texts.0.text)) f effect rules.2);
      reads = reads;
      only = refl;
      first = new_version (text_of texts.0.text);
      replays = calls_replayed n (new_content words stamp rules.0 (text_of texts.0.text)) file calls reads are;
    }
