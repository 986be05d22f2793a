-- Reading that passes over the stored sum, beside reading that checks it.
use Rattle.std.proofs.Common.{◌≡◌, ◌⊎◌, inl, inr, ℕ, Bool, true, false, List, Result, Ok, Err, refl, sym, ◌∙◌}
use Rattle.sccs_tokens.specs.Sums.{plain_sum}
use Rattle.sccs_grammar.specs.AnySum.{unsummed_file, unsummed_front}
use Rattle.sccs_grammar.specs.File.{Opened, Parsed, checked_front, file_of, opened, sum_holds}
use Rattle.sccs_grammar.specs.declared.faults.FileFault.{FileFault}
use Rattle.sccs_grammar.specs.declared.faults.FileFault.TheVariants.{BadSum}

judged_by : (file : List ℕ) (o : Opened) (holds : Bool) → opened file ≡ Ok o → sum_holds o ≡ holds
    → (file_of file ≡ unsummed_file file) ⊎ ((stored plain : ℕ) × (file_of file ≡ Err (BadSum stored plain)))
unfolding file_of checked_front unsummed_file unsummed_front
judged_by file o true is sums = inl (rw (is, sums) refl)
judged_by file o false is sums = inr (o.sum_of, plain_sum o.bytes, rw (is, sums) refl)

unopened_by : (file : List ℕ) (e : FileFault) → opened file ≡ Err e → file_of file ≡ unsummed_file file
unfolding file_of checked_front unsummed_file unsummed_front
unopened_by file e is = rw is refl

opened_by_case : (file : List ℕ) (r : Result Opened FileFault) → opened file ≡ r
    → (file_of file ≡ unsummed_file file) ⊎ ((stored plain : ℕ) × (file_of file ≡ Err (BadSum stored plain)))
opened_by_case file (Ok o) is = judged_by file o (sum_holds o) is refl
opened_by_case file (Err e) is = inl (unopened_by file e is)

pub passed_over : (file : List ℕ) → (file_of file ≡ unsummed_file file)
    ⊎ ((stored plain : ℕ) × (file_of file ≡ Err (BadSum stored plain)))
passed_over file = opened_by_case file (opened file) refl

-- what is read with its sum is read without it
pub unsummed_ok : (file : List ℕ) (parsed : Parsed) → file_of file ≡ Ok parsed → unsummed_file file ≡ Ok parsed
unsummed_ok file parsed is = by (passed_over file)
  where
    by : (file_of file ≡ unsummed_file file) ⊎ ((stored plain : ℕ) × (file_of file ≡ Err (BadSum stored plain)))
        → unsummed_file file ≡ Ok parsed
    by (inl same) = sym same ∙ is
    by (inr bad) = let both = sym is ∙ bad.2 in absurd cc
