-- What is found in an s-file and its p-file, part by part.
use Rattle.std.proofs.Common.{◌≡◌, ℕ, Bool, true, false, List, [], Option, None, Some, Result, Ok, Err, refl, sym, ap}
use Rattle.std.proofs.Common.{subst, ◌∙◌}
use Rattle.std.specs.Prelude.{IfSome, IsSome, is_some}
use Rattle.sccs_base.specs.Cut.{cut}
use Rattle.sccs_base.specs.Name.{p_file}
use Rattle.sccs_disk.specs.Calls.{IsThere}
use Rattle.sccs_disk.specs.Files.{Content, View}
use Rattle.sccs_disk.specs.Told.{Told, seen}
use Rattle.sccs_sid.specs.Reading.{◌>>=◌}
use Rattle.sccs_sid.specs.declared.refusals.Refusal.{Refusal}
use Rattle.sccs_sid.specs.declared.refusals.Refusal.TheVariants.{Missing, TooLong}
use Rattle.sccs_sid.specs.declared.refusals.StepFault.{StepFault}
use Rattle.sccs_sid.specs.declared.refusals.StepFault.TheVariants as step
use Rattle.sccs_grammar.specs.File.{Parsed, answer, file_of}
use Rattle.sccs_grammar.specs.FileRefusals.{file_fault, or_none, or_refusal, refusal_of}
use Rattle.sccs_grammar.specs.declared.faults.FileFault.{FileFault}
use Rattle.sccs_grammar.specs.declared.faults.FileFault.TheVariants as faults
use Rattle.sccs_table.specs.FrontFile.{Refuses}
use Rattle.sccs_table.specs.ReaderState.{file_in}
use Rattle.sccs_table.specs.declared.fronts.Front.{Front}
use Rattle.sccs_body.specs.BodyFile.{AnswersFile, ShowsFile}
use Rattle.sccs_steps.specs.StepEffects.{check}
use Rattle.sccs_pfile.specs.Agreement.{first_disagreeing}
use Rattle.sccs_pfile.specs.Reading.{edits_of}
use Rattle.sccs_pfile.specs.declared.entries.Edit.{Edit}
use Rattle.sccs_changes.specs.PFiles.{Answers, PassesCheck, bytes_or_none, entries_of, is_short, or_bad_pfile}
use Rattle.sccs_changes.specs.PFiles.{short_bytes}
use Rattle.sccs_changes.specs.Pending.{AnswersPending, Found, agreeing, bytes_at, pending_of, sized}
use Rattle.sccs_changes.specs.declared.pending.Pending.{Pending}

-- ---- the p-file alone

bytes_of_short : (p : Option Content) (bytes : List ℕ) → short_bytes p ≡ Ok bytes → (is_short p ≡ true)
    × (bytes ≡ bytes_or_none p)
bytes_of_short p bytes is = by (is_short p) refl
  where
    by : (b : Bool) → is_short p ≡ b → (is_short p ≡ true) × (bytes ≡ bytes_or_none p)
    by true e = let all : short_bytes p ≡ Ok (bytes_or_none p) = ap (λ (t : Bool). check t TooLong >>= λ short.
        Ok (bytes_or_none p)) e in (e, (let e2 = sym is ∙ all in cc))
    by false e = let none : short_bytes p ≡ Err TooLong = ap (λ (t : Bool). check t TooLong >>= λ short.
        Ok (bytes_or_none p)) e in absurd (let e2 = sym is ∙ none in cc)

long_bytes : (p : Option Content) (refusal : Refusal) → short_bytes p ≡ Err refusal → (is_short p ≡ false)
    × (refusal ≡ TooLong)
long_bytes p refusal is = by (is_short p) refl
  where
    by : (b : Bool) → is_short p ≡ b → (is_short p ≡ false) × (refusal ≡ TooLong)
    by true e = let all : short_bytes p ≡ Ok (bytes_or_none p) = ap (λ (t : Bool). check t TooLong >>= λ short.
        Ok (bytes_or_none p)) e in absurd (let e2 = sym is ∙ all in cc)
    by false e = let none : short_bytes p ≡ Err TooLong = ap (λ (t : Bool). check t TooLong >>= λ short.
        Ok (bytes_or_none p)) e in (e, (let e2 = sym is ∙ none in cc))

short_entries : (p : Option Content) (bytes : List ℕ) → short_bytes p ≡ Ok bytes → entries_of p ≡ or_bad_pfile
    (edits_of bytes)
unfolding entries_of
short_entries p bytes is = let b = bytes_of_short p bytes is in rw b.0 (ap (λ x. or_bad_pfile (edits_of x)) (sym b.1))

long_entries : (p : Option Content) (refusal : Refusal) → short_bytes p ≡ Err refusal → entries_of p ≡ Err refusal
unfolding entries_of
long_entries p refusal is = let b = long_bytes p refusal is in rw b.0 (ap Err (sym b.1))

pub entries_read : (o : Option View) (n bytes : List ℕ) (r : Result (List Edit) StepFault)
    → IfSome o (λ (v : View). Answers (short_bytes (v n)) (Ok bytes)) → Answers (or_bad_pfile (edits_of bytes)) r
    → IfSome o (λ (v : View). Answers (entries_of (v n)) r)
entries_read None n bytes r short answers = tt
entries_read (Some v) n bytes r short answers = subst (λ found. Answers found r) (sym (short_entries (v n) bytes short))
    answers

pub entries_unread : (o : Option View) (n : List ℕ) (fault : StepFault)
    → IfSome o (λ (v : View). Answers {A = List ℕ} (short_bytes (v n)) (Err fault))
    → IfSome o (λ (v : View). Answers {A = List Edit} (entries_of (v n)) (Err fault))
entries_unread None n fault short = tt
entries_unread (Some v) n (step.Refused refusal) short = long_entries (v n) refusal short
entries_unread (Some v) n step.Memory short = tt
entries_unread (Some v) n step.DiskFault short = tt
entries_unread (Some v) n step.ReadFault short = short
entries_unread (Some v) n step.WriteFault short = short

-- ---- both files

abbrev from_edits : Parsed → Result (List Edit) Refusal → Result Found Refusal
from_edits parsed found = found >>= λ edits. agreeing (first_disagreeing parsed.header.records edits) >>= λ agreed.
    Ok (record { parsed = parsed; edits = edits })

abbrev from_file : Result Parsed Refusal → List ℕ → Result Found Refusal
from_file read bytes = read >>= λ parsed. from_edits parsed (or_bad_pfile (edits_of bytes))

size_refused : (s p : Option Content) (refusal : Refusal) → sized s ≡ Err refusal → pending_of s p ≡ Err refusal
unfolding pending_of
size_refused None p refusal is = let e : Missing ≡ refusal = cc in ap Err e
size_refused (Some c) p refusal is = by (is_short (Some c)) refl
  where
    by : (b : Bool) → is_short (Some c) ≡ b → pending_of (Some c) p ≡ Err refusal
    by true e = absurd (let e2 = sym is ∙ ap (λ (t : Bool). check t TooLong) e in cc)
    by false e = let e2 : check false TooLong ≡ Err refusal = sym (ap (λ (t : Bool). check t TooLong) e) ∙ is in
        let e3 : TooLong ≡ refusal = cc in rw e (ap Err e3)

sized_so : (s : Option Content) → sized s ≡ Ok true → (is_some s ≡ true) × (is_short s ≡ true)
sized_so None is = absurd (cc)
sized_so (Some c) is = by (is_short (Some c)) refl
  where
    by : (b : Bool) → is_short (Some c) ≡ b → (is_some (Some c) ≡ true) × (is_short (Some c) ≡ true)
    by true e = (refl, e)
    by false e = absurd (let e2 = sym is ∙ ap (λ (t : Bool). check t TooLong) e in cc)

p_refused : (s p : Option Content) (refusal : Refusal) → sized s ≡ Ok true → short_bytes p ≡ Err refusal
    → pending_of s p ≡ Err refusal
unfolding pending_of
p_refused s p refusal is short = let a = sized_so s is in let b = long_bytes p refusal short in
    rw a.0 (rw a.1 (rw b.0 (ap Err (sym b.1))))

sizes_pass : (s p : Option Content) (bytes : List ℕ) → sized s ≡ Ok true → short_bytes p ≡ Ok bytes
    → pending_of s p ≡ from_file (or_refusal (answer file_of (bytes_at s))) bytes
unfolding pending_of
sizes_pass s p bytes is short =
    let a = sized_so s is in
    let b = bytes_of_short p bytes short in
    rw a.0 (rw a.1 (rw b.0 (ap (λ x. from_file (or_refusal (answer file_of (bytes_at s))) x) (sym b.1))))

-- ---- as the code goes

pub size_ends : (o : Option View) (n k : List ℕ) (fault : StepFault) → IfSome o (λ (v : View). PassesCheck (sized (v n))
    (Err fault)) → IfSome o (λ (v : View). AnswersPending (v n) (v k) (Err fault))
size_ends None n k fault passes = tt
size_ends (Some v) n k (step.Refused refusal) passes = size_refused (v n) (v k) refusal passes
size_ends (Some v) n k step.Memory passes = tt
size_ends (Some v) n k step.DiskFault passes = tt
size_ends (Some v) n k step.ReadFault passes = passes
size_ends (Some v) n k step.WriteFault passes = passes

pub p_ends : (o o2 : Option View) (n k : List ℕ) (fault : StepFault) → o2 ≡ o
    → IfSome o (λ (v : View). PassesCheck (sized (v n)) (Ok tt))
    → IfSome o2 (λ (v : View). Answers {A = List ℕ} (short_bytes (v k)) (Err fault))
    → IfSome o (λ (v : View). AnswersPending (v n) (v k) (Err fault))
p_ends o o2 n k fault same passes answers =
    by o passes (subst (λ (x : Option View). IfSome x (λ (v : View). Answers {A = List ℕ} (short_bytes (v k))
    (Err fault))) same answers)
  where
    at : (v : View) (f : StepFault) → sized (v n) ≡ Ok true → Answers {A = List ℕ} (short_bytes (v k)) (Err f)
        → AnswersPending (v n) (v k) (Err f)
    at v (step.Refused refusal) is answers = p_refused (v n) (v k) refusal is answers
    at v step.Memory is answers = tt
    at v step.DiskFault is answers = tt
    at v step.ReadFault is answers = answers
    at v step.WriteFault is answers = answers

    by : (x : Option View) → IfSome x (λ (v : View). PassesCheck (sized (v n)) (Ok tt))
        → IfSome x (λ (v : View). Answers {A = List ℕ} (short_bytes (v k)) (Err fault))
        → IfSome x (λ (v : View). AnswersPending (v n) (v k) (Err fault))
    by None passes answers = tt
    by (Some v) passes answers = at v fault passes answers

-- the sizes are within the limits, and these are the bytes of the p-file
abbrev pub HasSizes : Option View → List ℕ → List ℕ → List ℕ → Type 0
HasSizes o n k bytes = IfSome o (λ (v : View). (sized (v n) ≡ Ok true) × (short_bytes (v k) ≡ Ok bytes))

pub both_sized : (o o2 : Option View) (n k bytes : List ℕ) → o2 ≡ o → IfSome o (λ (v : View). PassesCheck (sized (v n))
    (Ok tt)) → IfSome o2 (λ (v : View). Answers (short_bytes (v k)) (Ok bytes)) → HasSizes o n k bytes
both_sized o o2 n k bytes same passes answers =
    by o passes (subst (λ (x : Option View). IfSome x (λ (v : View). Answers (short_bytes (v k)) (Ok bytes))) same
    answers)
  where
    by : (x : Option View) → IfSome x (λ (v : View). PassesCheck (sized (v n)) (Ok tt))
        → IfSome x (λ (v : View). Answers (short_bytes (v k)) (Ok bytes)) → HasSizes x n k bytes
    by None passes answers = tt
    by (Some v) passes answers = (passes, answers)

file_refused : (s p : Option Content) (bytes : List ℕ) (fault : FileFault) → sized s ≡ Ok true
    → short_bytes p ≡ Ok bytes → answer file_of (bytes_at s) ≡ Err fault
    → pending_of s p ≡ Err (or_none (refusal_of fault))
file_refused s p bytes fault is short read = sizes_pass s p bytes is short
    ∙ ap (λ (r : Result Parsed FileFault). from_file (or_refusal r) bytes) read

file_answers : (s p : Option Content) (bytes : List ℕ) (fault : FileFault) → sized s ≡ Ok true
    → short_bytes p ≡ Ok bytes → Refuses fault (answer file_of (bytes_at s))
    → AnswersPending s p (Err (file_fault fault))
file_answers s p bytes faults.Missing is short read = file_refused s p bytes faults.Missing is short read
file_answers s p bytes faults.TooLong is short read = file_refused s p bytes faults.TooLong is short read
file_answers s p bytes faults.NotSccs is short read = file_refused s p bytes faults.NotSccs is short read
file_answers s p bytes (faults.BadSum stored sum) is short read = file_refused s p bytes (faults.BadSum stored sum) is
    short read
file_answers s p bytes (faults.BadFormat line) is short read = file_refused s p bytes (faults.BadFormat line) is short
    read
file_answers s p bytes faults.Encoded is short read = file_refused s p bytes faults.Encoded is short read
file_answers s p bytes (faults.Changed a b c d) is short read = absurd read
file_answers s p bytes faults.Failed is short read = tt
file_answers s p bytes faults.Memory is short read = tt

pub file_ends : (o o2 : Option View) (n k bytes : List ℕ) (fault : FileFault) (ended : StepFault) → o2 ≡ o
    → HasSizes o n k bytes → ended ≡ file_fault fault → IfSome o2 (λ view. AnswersFile (file_in view n) (Err fault))
    → IfSome o (λ (v : View). AnswersPending (v n) (v k) (Err ended))
file_ends o o2 n k bytes fault ended same sizes is answers =
    by o sizes (subst (λ (x : Option View). IfSome x (λ view. AnswersFile (file_in view n) (Err fault))) same answers)
  where
    by : (x : Option View) → HasSizes x n k bytes → IfSome x (λ view. AnswersFile (file_in view n) (Err fault))
        → IfSome x (λ (v : View). AnswersPending (v n) (v k) (Err ended))
    by None sizes answers = tt
    by (Some v) sizes answers = subst (λ f. AnswersPending (v n) (v k) (Err f)) (sym is)
        (file_answers (v n) (v k) bytes fault sizes.0 sizes.1 answers)

pub shown_header : (o : Option (List ℕ)) (parsed : Parsed) (front : Front) → ShowsFile o parsed front
    → front.header ≡ parsed.header
shown_header None parsed front shows = absurd shows
shown_header (Some file) parsed front shows = shows.0

file_read : (s p : Option Content) (bytes : List ℕ) (parsed : Parsed) → sized s ≡ Ok true → short_bytes p ≡ Ok bytes
    → answer file_of (bytes_at s) ≡ Ok parsed → pending_of s p ≡ from_edits parsed (or_bad_pfile (edits_of bytes))
file_read s p bytes parsed is short read = sizes_pass s p bytes is short
    ∙ ap (λ (r : Result Parsed FileFault). from_file (or_refusal r) bytes) read

-- the s-file is read, and these are the bytes of the p-file
abbrev pub HasFile : Option View → List ℕ → List ℕ → List ℕ → Front → Type 0
HasFile o n k bytes front = IfSome o (λ (v : View). (parsed : Parsed) × ShowsFile (bytes_at (v n)) parsed front
    × (pending_of (v n) (v k) ≡ from_edits parsed (or_bad_pfile (edits_of bytes))))

pub file_found : (o o2 : Option View) (n k bytes : List ℕ) (front : Front) → o2 ≡ o → HasSizes o n k bytes
    → IfSome o2 (λ view. AnswersFile (file_in view n) (Ok front)) → HasFile o n k bytes front
file_found o o2 n k bytes front same sizes answers =
    by o sizes (subst (λ (x : Option View). IfSome x (λ view. AnswersFile (file_in view n) (Ok front))) same answers)
  where
    by : (x : Option View) → HasSizes x n k bytes → IfSome x (λ view. AnswersFile (file_in view n) (Ok front))
        → HasFile x n k bytes front
    by None sizes answers = tt
    by (Some v) sizes answers = (answers.0, answers.2, file_read (v n) (v k) bytes answers.0 sizes.0 sizes.1 answers.1)

pub edits_ends : (o : Option View) (n k bytes : List ℕ) (front : Front) (fault : StepFault) → HasFile o n k bytes front
    → Answers {A = List Edit} (or_bad_pfile (edits_of bytes)) (Err fault)
    → IfSome o (λ (v : View). AnswersPending (v n) (v k) (Err fault))
edits_ends None n k bytes front fault file answers = tt
edits_ends (Some v) n k bytes front (step.Refused refusal) file answers = file.2 ∙ ap (from_edits file.0) answers
edits_ends (Some v) n k bytes front step.Memory file answers = tt
edits_ends (Some v) n k bytes front step.DiskFault file answers = tt
edits_ends (Some v) n k bytes front step.ReadFault file answers = answers
edits_ends (Some v) n k bytes front step.WriteFault file answers = answers

abbrev from_agreeing : Parsed → List Edit → Result Bool Refusal → Result Found Refusal
from_agreeing parsed edits r = r >>= λ agreed. Ok (record { parsed = parsed; edits = edits })

edits_found : (v : View) (n k bytes : List ℕ) (front : Front) (edits : List Edit) (r : Result Bool Refusal)
    → (file : HasFile (Some v) n k bytes front) → or_bad_pfile (edits_of bytes) ≡ Ok edits
    → agreeing (first_disagreeing front.header.records edits) ≡ r
    → pending_of (v n) (v k) ≡ from_agreeing file.0 edits r
edits_found v n k bytes front edits r file read agrees =
    file.2 ∙ (ap (from_edits file.0) read ∙ ap (from_agreeing file.0 edits)
    (ap (λ h. agreeing (first_disagreeing h.records edits))
    (sym (shown_header (bytes_at (v n)) file.0 front file.1)) ∙ agrees))

pub agreement_ends : (o : Option View) (n k bytes : List ℕ) (front : Front) (edits : List Edit) (fault : StepFault)
    → HasFile o n k bytes front → Answers (or_bad_pfile (edits_of bytes)) (Ok edits)
    → PassesCheck (agreeing (first_disagreeing front.header.records edits)) (Err fault)
    → IfSome o (λ (v : View). AnswersPending (v n) (v k) (Err fault))
agreement_ends None n k bytes front edits fault file answers passes = tt
agreement_ends (Some v) n k bytes front edits (step.Refused refusal) file answers passes =
    edits_found v n k bytes front edits (Err refusal) file answers passes
agreement_ends (Some v) n k bytes front edits step.Memory file answers passes = tt
agreement_ends (Some v) n k bytes front edits step.DiskFault file answers passes = tt
agreement_ends (Some v) n k bytes front edits step.ReadFault file answers passes = passes
agreement_ends (Some v) n k bytes front edits step.WriteFault file answers passes = passes

pub all_found : (o : Option View) (n k bytes : List ℕ) (front : Front) (edits : List Edit) (x : Pending)
    → x.front ≡ front → x.edits ≡ edits → HasFile o n k bytes front → Answers (or_bad_pfile (edits_of bytes)) (Ok edits)
    → agreeing (first_disagreeing front.header.records edits) ≡ Ok true
    → IfSome o (λ (v : View). AnswersPending (v n) (v k) (Ok x))
all_found None n k bytes front edits x same same2 file answers agrees = tt
all_found (Some v) n k bytes front edits x same same2 file answers agrees = (
  file.0,
  subst (λ f. ShowsFile (bytes_at (v n)) file.0 f) (sym same) file.1,
  edits_found v n k bytes front edits (Ok true) file answers agrees
      ∙ ap (λ (es : List Edit). Ok (record { parsed = file.0; edits = es })) (sym same2),
)

-- ---- where there are entries there is a p-file

no_edits : edits_of [] ≡ Ok []
unfolding edits_of cut
no_edits = refl

none_found : (read : Result Parsed Refusal) (found : Found) → from_file read [] ≡ Ok found → found.edits ≡ []
none_found (Ok parsed) found is =
    ap (λ (f : Found). f.edits) (let same : record { parsed = parsed; edits = [] } ≡ found =
    (let all : from_edits parsed (or_bad_pfile (edits_of [])) ≡ Ok (record { parsed = parsed; edits = [] }) =
    ap (λ r. from_edits parsed (or_bad_pfile r)) no_edits in let e = sym all ∙ is in cc) in sym same)
none_found (Err refusal) found is = absurd cc

never_false : (o : Option Content) → sized o ≡ Ok false → ⊥
never_false None e = cc
never_false (Some c) e = at (is_short (Some c)) refl
  where
    at : (b : Bool) → is_short (Some c) ≡ b → ⊥
    at true t = let e2 = sym e ∙ ap (λ (x : Bool). check x TooLong) t in cc
    at false t = let e2 = sym e ∙ ap (λ (x : Bool). check x TooLong) t in cc

none_pending : (s : Option Content) (found : Found) → pending_of s None ≡ Ok found → found.edits ≡ []
none_pending s found is = by (sized s) refl
  where
    by : (r : Result Bool Refusal) → sized s ≡ r → found.edits ≡ []
    by (Ok true) e = none_found (or_refusal (answer file_of (bytes_at s))) found (sym (sizes_pass s None [] e refl)
        ∙ is)
    by (Ok false) e = absurd (never_false s e)
    by (Err refusal) e = absurd (let e2 = sym (size_refused s None refusal e) ∙ is in cc)

pub found_there : (n : List ℕ) (x : Pending) (a : Told) → IfSome (seen a) (λ (v : View). AnswersPending (v n)
    (v (p_file n)) (Ok x)) → (x.edits ≡ [] → ⊥) → IsThere (p_file n) a
found_there n x a read some = by (seen a) read
  where
    at : (v : View) (p : Option Content) → v (p_file n) ≡ p → AnswersPending (v n) (v (p_file n)) (Ok x)
        → IsSome (v (p_file n))
    at v None e read = absurd (some (none_pending (v n) (record { parsed = read.0; edits = x.edits })
        (ap (pending_of (v n)) (sym e) ∙ read.2)))
    at v (Some c) e read = subst IsSome (sym e) refl

    by : (o : Option View) → IfSome o (λ (v : View). AnswersPending (v n) (v (p_file n)) (Ok x))
        → IfSome o (λ (v : View). IsSome (v (p_file n)))
    by None read = tt
    by (Some v) read = at v (v (p_file n)) refl read
