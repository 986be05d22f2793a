use Rattle.std.proofs.Common.{◌≡◌, [], ◌∷◌, ap, sym, ◌∙◌}
use Rattle.std.specs.Prelude.{option_map}
use Rattle.sccs_sid.specs.Words.{one, words}
use Rattle.sccs_tokens.specs.Tokens.{exactly_seven}
use Rattle.sccs_tokens.proofs.DeltaWords.{seven_last}
use Rattle.sccs_tokens.proofs.tokenizing.delta_words.Goals as goal

pub returns-in_err-predecessor : goal.returns-in_err-predecessor
returns-in_err-predecessor c =
    let words_are : exactly_seven (words c.args.bytes.now) ≡ option_map
    (λ g. c.in_ok-kind.kind.now ∷ c.in_ok-sid.sid.now ∷ c.in_ok-date.date.now ∷ c.in_ok-time.time.now
    ∷ c.in_ok-login.login.now ∷ c.in_ok-serial.serial.now ∷ g ∷ []) (one (words c.in_ok-serial.rest.now)) =
    rw (
      c.in_ok-kind.ensures,
      c.in_ok-sid.ensures,
      c.in_ok-date.ensures,
      c.in_ok-time.ensures,
      c.in_ok-login.ensures,
      c.in_ok-serial.ensures,
    ) (seven_last _ _ _ _ _ _ _) in
    ap (option_map _) c.from_residual-in_err-predecessor.ensures
    ∙ sym (words_are ∙ ap (option_map _) (sym c.in_err-predecessor.ensures))

pub returns : goal.returns
returns c =
    let words_are : exactly_seven (words c.args.bytes.now) ≡ option_map
    (λ g. c.in_ok-kind.kind.now ∷ c.in_ok-sid.sid.now ∷ c.in_ok-date.date.now ∷ c.in_ok-time.time.now
    ∷ c.in_ok-login.login.now ∷ c.in_ok-serial.serial.now ∷ g ∷ []) (one (words c.in_ok-serial.rest.now)) =
    rw (
      c.in_ok-kind.ensures,
      c.in_ok-sid.ensures,
      c.in_ok-date.ensures,
      c.in_ok-time.ensures,
      c.in_ok-login.ensures,
      c.in_ok-serial.ensures,
    ) (seven_last _ _ _ _ _ _ _) in
    sym (words_are ∙ ap (option_map _) (sym c.in_ok-predecessor.ensures))
