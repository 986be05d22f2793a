-- what changes no file.
use Rattle.std.proofs.Common.{◌≡◌, ℕ, Bool, true, false, List, length, Option, None, Some, Ok, Err, cond, sym, ap}
use Rattle.std.specs.Prelude.{nat_lt}
use Rattle.sccs_base.specs.Constants.{file_limit}
use Rattle.sccs_disk.specs.Files.{Content}
use Rattle.sccs_sid.specs.declared.refusals.Refusal.TheVariants as refusals
use Rattle.sccs_steps.specs.Actions.{KeepsFiles}
use Rattle.sccs_steps.specs.StepEffects.{StepEffect}
use Rattle.sccs_what.specs.WhatStep.{finds_texts, what_action, what_step}

kept_by : (first : Bool) (n : List ℕ) (o : Option Content) (d : StepEffect) → what_step first n o ≡ Ok d → d.new ≡ None
kept_by first n None d is = absurd cc
kept_by first n (Some c) d is = by (nat_lt file_limit (length c.bytes)) is
  where
    by : (t : Bool) → cond t (Err refusals.TooLong) (Ok (finds_texts first n c.bytes)) ≡ Ok d → d.new ≡ None
    by true is = absurd cc
    by false is = ap (λ (e : StepEffect). e.new) (let same : finds_texts first n c.bytes ≡ d = cc in sym same)

-- it changes no file
pub what_keeps : (first : Bool) → KeepsFiles (what_action first)
what_keeps first = record {
  quiet = λ reads n i named f d is. kept_by first n f.s d is;
  names =
      λ changes n fits. absurd cc;
  locked = λ changes locks n i named f d is there g new. absurd cc;
  pending =
      λ changes never n i v f d there is. absurd cc;
}
