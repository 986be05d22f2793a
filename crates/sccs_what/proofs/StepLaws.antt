-- How the call of what ends.
use Rattle.std.proofs.Common.{◌≡◌, ℕ, ◌<◌, ◌≤◌, Bool, cond, List, [], length, Option, None, Some, Result, Ok, Err, inl}
use Rattle.std.proofs.Common.{refl, sym, ap, subst, append-nil, option_map}
use Rattle.std.proofs.lemmas.Bool.{le-ltb}
use Rattle.sccs_base.specs.Constants.{file_limit}
use Rattle.sccs_base.specs.Stream.{GivesOk, GivesSome}
use Rattle.sccs_base.proofs.Gifts.{gives_none, some_none}
use Rattle.sccs_disk.specs.Files.{Content, View}
use Rattle.sccs_disk.specs.Reads.{Measures}
use Rattle.sccs_name_files.specs.StepFiles.{is_working, Moves}
use Rattle.sccs_name_files.specs.WholeFiles.{file_bytes}
use Rattle.sccs_sid.specs.declared.refusals.Refusal.TheVariants as refusals
use Rattle.sccs_sid.specs.declared.refusals.StepFault.{StepFault}
use Rattle.sccs_sid.specs.declared.refusals.StepFault.TheVariants.{Refused, Memory, ReadFault, WriteFault, DiskFault}
use Rattle.sccs_steps.specs.Calls.{Meets, world}
use Rattle.sccs_steps.proofs.ReadingSteps.{broken, kept, same_cleared}
use Rattle.sccs_what.specs.Texts.{what_text}
use Rattle.sccs_what.specs.SearchedFiles.{PrintsTexts}
use Rattle.sccs_what.specs.WhatStep.{MeetsWhat, finds_texts, found_status, what_step}

-- the texts of a file of this content were printed
printed : (first : Bool) (n : List ℕ) (bytes : List ℕ) (v : View) (told2 : Option View) (r : Result Bool StepFault)
    (out out2 err : Option (List ℕ)) → told2 ≡ Some v → PrintsTexts first n bytes out out2 r
    → Meets found_status r n (Ok (finds_texts first n bytes)) (world (Some v) out err) (world told2 out2 err)
printed first n bytes v told2 (Ok found) out out2 err same prints = (
  finds_texts first n bytes,
  refl,
  ap found_status (sym prints.1),
  record {
    view = subst (λ (t : Option View). Moves (is_working n) (λ u. u) (Some v) t) (sym same) (λ k h. refl);
    cleared = same_cleared v told2 n same;
    out = subst (λ (l : List ℕ). GivesOk out out2 l) (sym (append-nil (what_text first n bytes))) prints.0;
    err = gives_none err;
  },
)
printed first n bytes v told2 (Err Memory) out out2 err same prints = kept v told2 n None (what_text first n bytes) out
    out2 err same (subst (λ (o : Option (List ℕ)). GivesSome out o (what_text first n bytes)) (sym prints)
    (some_none out (what_text first n bytes)))
printed first n bytes v told2 (Err WriteFault) out out2 err same prints =
    inl (kept v told2 n None (what_text first n bytes) out out2 err same prints)
printed first n bytes v told2 (Err DiskFault) out out2 err same prints =
    broken v told2 n (Ok (finds_texts first n bytes)) out out2 err same prints
printed first n bytes v told2 (Err (Refused refusal)) out out2 err same prints = absurd prints
printed first n bytes v told2 (Err ReadFault) out out2 err same prints = absurd prints

pub prints_file : (first : Bool) (n : List ℕ) (size : ℕ) (r : Result Bool StepFault) (told told2 : Option View)
    (out out2 : Option (List ℕ)) → told2 ≡ told → Measures told n (Some size) → size ≤ file_limit
    → ((bytes : List ℕ) → file_bytes told n ≡ Some bytes → size ≡ length bytes → PrintsTexts first n bytes out out2 r)
    → MeetsWhat first n r told told2 out out2
prints_file first n size r None told2 out out2 same measures fits prints = tt
prints_file first n size r (Some v) told2 out out2 same measures fits prints = λ err. by err (v n) measures prints
  where
    by : (err : Option (List ℕ)) (o : Option Content) → Some size ≡ option_map (λ (c : Content). length c.bytes) o
        → ((bytes : List ℕ) → option_map (λ (c : Content). c.bytes) o ≡ Some bytes → size ≡ length bytes
        → PrintsTexts first n bytes out out2 r)
        → Meets found_status r n (what_step first n o) (world (Some v) out err) (world told2 out2 err)
    by err None measures prints = absurd (cc)
    by err (Some c) measures prints =
        let long : size ≡ length c.bytes = cc in
        subst (λ (t : Bool). Meets found_status r n (cond t (Err refusals.TooLong) (Ok (finds_texts first n c.bytes)))
        (world (Some v) out err) (world told2 out2 err))
        (sym (le-ltb file_limit (length c.bytes) (subst (λ k. k ≤ file_limit) long fits)))
        (printed first n c.bytes v told2 r out out2 err same (prints c.bytes refl long))
