-- The trunk that import finds, check by check.
use Rattle.std.proofs.Common.{◌≡◌, ℕ, true, false, List, [], ◌∷◌, length, Option, None, Some, IfOk, IfSome, IsSome}
use Rattle.std.proofs.Common.{OnOk, Result, Ok, Err, refl, sym, ap, subst, ◌∙◌}
use Rattle.std.specs.Prelude.{nat_le}
use Rattle.std.proofs.lemmas.Bool.{le-leb, lt-leb}
use Rattle.sccs_base.specs.Constants.{file_limit}
use Rattle.sccs_disk.specs.Files.{Content, View}
use Rattle.sccs_name_files.specs.WholeFiles.{AnswersWhole}
use Rattle.sccs_name_files.specs.declared.whole_files.WholeFault.{WholeFault}
use Rattle.sccs_name_files.specs.declared.whole_files.WholeFault.TheVariants as whole
use Rattle.sccs_sid.specs.declared.refusals.Refusal.{Refusal}
use Rattle.sccs_sid.specs.declared.refusals.Refusal.TheVariants as refusals
use Rattle.sccs_sid.specs.declared.refusals.StepFault.{StepFault}
use Rattle.sccs_sid.specs.declared.refusals.StepFault.TheVariants.{Refused, Memory, ReadFault, WriteFault, DiskFault}
use Rattle.sccs_changes.specs.Changes.{unlocked}
use Rattle.sccs_admin.specs.Parts.{ReadsNamed}
use Rattle.sccs_rcs_file.specs.Trunk.{rcs_read}
use Rattle.sccs_trunks.specs.declared.revisions.Rcs.{Rcs}
use Rattle.sccs_rcs.specs.ImportStep.{found_rcs, named_bytes, or_refused, rcs_file}
use Rattle.sccs_rcs.specs.Parts.{AnswersRcs, FindsBytes, FindsRcs, IsFound, IsFresh, IsRead, TakesTrunk}
use Rattle.sccs_rcs.specs.declared.finding.Found.{Found}
use Rattle.sccs_rcs.specs.declared.finding.Found.TheVariants.{Whole, TooLong}

-- ---- the file

long_at : (c : Option Content) → AnswersWhole c (Err whole.TooLong) → IsFound (named_bytes (c ∷ [])) (Ok TooLong)
long_at None long = absurd long
long_at (Some c) long = (c.bytes, refl, long)

long_seen : (n file : List ℕ) (told : Option View) → file ≡ rcs_file n → ReadsNamed (Err whole.TooLong) file n told
    → FindsBytes (Ok TooLong) n told
long_seen n file None is reads = tt
long_seen n file (Some v) is reads = long_at (unlocked n v (rcs_file n))
    (subst (λ (k : List ℕ). AnswersWhole (unlocked n v k) (Err whole.TooLong)) is reads)

pub long_found : (n file : List ℕ) (told : Option View) (fault : WholeFault) → file ≡ rcs_file n → fault ≡ whole.TooLong
    → ReadsNamed (Err fault) file n told → FindsBytes (Ok TooLong) n told
long_found n file told fault is fault-is reads =
    long_seen n file told is (subst (λ (f : WholeFault). ReadsNamed (Err f) file n told) fault-is reads)

-- ---- the checks in their order

unfound : (cs : List (Option Content)) (s : Option Content) (fault : StepFault) → IsFound (named_bytes cs) (Err fault)
    → AnswersRcs (found_rcs cs s) (Err fault)
unfolding found_rcs
unfound cs s (Refused refusal) found = rw found.1 refl
unfound cs s Memory found = tt
unfound cs s DiskFault found = tt
unfound cs s ReadFault found = absurd found
unfound cs s WriteFault found = absurd found

exists_at : (cs : List (Option Content)) (x : Content) (bytes : List ℕ) → named_bytes cs ≡ Ok bytes
    → found_rcs cs (Some x) ≡ Err refusals.Exists
unfolding found_rcs
exists_at cs x bytes is = rw is refl

exists : (cs : List (Option Content)) (s : Option Content) (found : Found) → IsSome s → IsFound (named_bytes cs)
    (Ok found) → found_rcs cs s ≡ Err refusals.Exists
exists cs None found some is = absurd (cc)
exists cs (Some x) (Whole bytes) some is = exists_at cs x bytes is.0
exists cs (Some x) TooLong some is = exists_at cs x is.0 is.1

whole_at : (cs : List (Option Content)) (bytes : List ℕ) → named_bytes cs ≡ Ok bytes → nat_le (length bytes) file_limit
    ≡ true → found_rcs cs None ≡ or_refused (rcs_read bytes)
unfolding found_rcs
whole_at cs bytes is short = rw (is, short) refl

long_is : (cs : List (Option Content)) (bytes : List ℕ) → named_bytes cs ≡ Ok bytes → nat_le (length bytes) file_limit
    ≡ false → found_rcs cs None ≡ Err refusals.TooLong
unfolding found_rcs
long_is cs bytes is long = rw (is, long) refl

taken : (cs : List (Option Content)) (found : Found) (r : Result Rcs StepFault) → IsFound (named_bytes cs) (Ok found)
    → TakesTrunk r found → AnswersRcs (found_rcs cs None) r
taken cs (Whole bytes) (Ok rcs) is takes = whole_at cs bytes is.0 (le-leb (length bytes) file_limit is.1)
    ∙ ap or_refused takes
taken cs (Whole bytes) (Err (Refused refusal)) is takes = whole_at cs bytes is.0 (le-leb (length bytes) file_limit is.1)
    ∙ takes
taken cs TooLong (Ok rcs) is takes = absurd takes
taken cs TooLong (Err (Refused refusal)) is takes = long_is cs is.0 is.1 (lt-leb (length is.0) file_limit is.2)
    ∙ ap (λ (r : Refusal). Err r) (sym takes)
taken cs found (Err Memory) is takes = tt
taken cs found (Err DiskFault) is takes = tt
taken cs found (Err ReadFault) is takes = tt
taken cs found (Err WriteFault) is takes = tt

-- ---- where a view is told

pub unfound_ends : (fault : StepFault) (n : List ℕ) (told : Option View) → FindsBytes (Err fault) n told
    → FindsRcs (Err fault) n told
unfound_ends fault n None found = tt
unfound_ends fault n (Some v) found = unfound (unlocked n v (rcs_file n) ∷ []) (v n) fault found

unfresh_at : (found : Found) (fault : StepFault) (n : List ℕ) (v : View) → FindsBytes (Ok found) n (Some v)
    → IsFresh (Err fault) n (Some v) → FindsRcs (Err fault) n (Some v)
unfresh_at found (Refused refusal) n v is fresh = exists (unlocked n v (rcs_file n) ∷ []) (v n) found fresh.1 is
    ∙ ap (λ (r : Refusal). Err r) (sym fresh.0)
unfresh_at found Memory n v is fresh = tt
unfresh_at found ReadFault n v is fresh = tt
unfresh_at found WriteFault n v is fresh = tt
unfresh_at found DiskFault n v is fresh = tt

pub unfresh_ends : (found : Found) (fault : StepFault) (n : List ℕ) (told : Option View) → FindsBytes (Ok found) n told
    → IsFresh (Err fault) n told → FindsRcs (Err fault) n told
unfresh_ends found fault n None is fresh = tt
unfresh_ends found fault n (Some v) is fresh = unfresh_at found fault n v is fresh

pub taken_ends : (found : Found) (r : Result Rcs StepFault) (n : List ℕ) (told : Option View)
    → FindsBytes (Ok found) n told → IsFresh (Ok tt) n told → TakesTrunk r found → FindsRcs r n told
taken_ends found r n None is fresh takes = tt
taken_ends found r n (Some v) is fresh takes =
    subst (λ (s : Option Content). AnswersRcs (found_rcs (unlocked n v (rcs_file n) ∷ []) s) r) (sym fresh)
    (taken (unlocked n v (rcs_file n) ∷ []) found r is takes)

-- a trunk that was taken is that of some bytes
pub taken_read : (found : Found) (r : Result Rcs StepFault) → TakesTrunk r found → IfOk r IsRead
taken_read (Whole bytes) (Ok rcs) takes = (bytes, takes)
taken_read TooLong (Ok rcs) takes = absurd takes
taken_read found (Err fault) takes = tt

pub free_ends : (r : Result Rcs StepFault) (n : List ℕ) (told : Option View) → IsFresh (Ok tt) n told
    → OnOk r (IfSome told (λ v. v n ≡ None))
free_ends (Ok rcs) n told fresh = fresh
free_ends (Err fault) n told fresh = tt
