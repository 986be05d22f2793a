-- The version that is found, part by part.
use Rattle.std.proofs.Common.{◌≡◌, ℕ, List, Option, Some, Result, Ok, Err, refl, sym, ap, ◌∙◌}
use Rattle.sccs_sid.specs.Reading.{◌>>=◌}
use Rattle.sccs_sid.specs.declared.moments.Stamp.{Stamp}
use Rattle.sccs_sid.specs.declared.sids.Sid.{Sid}
use Rattle.sccs_sid.specs.declared.sid_lists.Range.{Range}
use Rattle.sccs_sid.specs.declared.refusals.Refusal.{Refusal}
use Rattle.sccs_sid.specs.declared.refusals.Refusal.TheVariants as refusals
use Rattle.sccs_sid.specs.declared.refusals.StepFault.{StepFault}
use Rattle.sccs_sid.specs.declared.refusals.StepFault.TheVariants.{Refused, Memory, ReadFault, WriteFault, DiskFault}
use Rattle.sccs_history.specs.declared.headers.Header.{Header}
use Rattle.sccs_keywords.specs.declared.facts.Facts.{Facts}
use Rattle.sccs_sets.specs.Sets.{sid_at}
use Rattle.sccs_steps.specs.StepEffects.{there}
use Rattle.sccs_changes.specs.PFiles.{Answers}
use Rattle.sccs_words.specs.declared.commands.GetWords.{GetWords}
use Rattle.sccs_get.specs.NewEntry.{singles}
use Rattle.sccs_get.specs.AskedVersion.{asked}
use Rattle.sccs_get.specs.VersionStep.{version_facts, found_version, module_in}
use Rattle.sccs_get.specs.declared.found.Found.{Found}
use Rattle.sccs_get.specs.declared.targets.Asked.{Asked}

abbrev pub found_with : Asked → List Range → List Range → Sid → Option (List ℕ) → Option Facts → Found
found_with a include exclude sid name facts =
    record {
      set = a.set;
      taken_in = a.include;
      left_out = a.exclude;
      include = include;
      exclude = exclude;
      sid = sid;
      «module» = name;
      facts = facts;
    }

module _ (words : GetWords) (stamp : Stamp) (place n : List ℕ) (header : Header) where
  abbrev found_at : Asked → Sid → Found
  found_at a sid = found_with a (singles header.records a.include) (singles header.records a.exclude) sid
      (module_in words header n) (version_facts words stamp place n header a.set a.target sid)

  abbrev from_asked : Asked → Result Found Refusal
  from_asked a = there (sid_at header.records a.target) refusals.NoSid >>= λ sid. Ok (found_at a sid)

  found_is : found_version words stamp place n header ≡ (asked words header >>= λ a. from_asked a)
  unfolding found_version
  found_is = refl

  pub not_asked : (fault : StepFault) → Answers {A = Asked} (asked words header) (Err fault)
      → Answers {A = Found} (found_version words stamp place n header) (Err fault)
  not_asked (Refused refusal) answers = found_is ∙ ap (λ (r : Result Asked Refusal). r >>= λ a. from_asked a) answers
  not_asked Memory answers = tt
  not_asked DiskFault answers = tt
  not_asked ReadFault answers = absurd answers
  not_asked WriteFault answers = absurd answers

  pub found_so : (a : Asked) (sid : Sid) (include exclude : List Range) (name : Option (List ℕ)) (facts : Option Facts)
      → asked words header ≡ Ok a → sid_at header.records a.target ≡ Some sid
      → include ≡ singles header.records a.include → exclude ≡ singles header.records a.exclude
      → name ≡ module_in words header n → facts ≡ version_facts words stamp place n header a.set a.target sid
      → found_version words stamp place n header ≡ Ok (found_with a include exclude sid name facts)
  found_so a sid include exclude name facts is sid_is include_is exclude_is name_is facts_are =
      found_is ∙ (ap (λ (r : Result Asked Refusal). r >>= λ x. from_asked x) is
      ∙ (ap (λ (o : Option Sid). there o refusals.NoSid >>= λ s. Ok (found_at a s)) sid_is
      ∙ (ap (λ x. Ok (found_with a x (singles header.records a.exclude) sid (module_in words header n)
      (version_facts words stamp place n header a.set a.target sid))) (sym include_is)
      ∙ (ap (λ x. Ok (found_with a include x sid (module_in words header n)
      (version_facts words stamp place n header a.set a.target sid))) (sym exclude_is)
      ∙ (ap (λ x. Ok (found_with a include exclude sid x (version_facts words stamp place n header a.set a.target sid)))
      (sym name_is)
      ∙ ap (λ x. Ok (found_with a include exclude sid name x)) (sym facts_are))))))
