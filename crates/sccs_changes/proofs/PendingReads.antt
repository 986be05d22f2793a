-- What was read of both files of a name, where reading answers.
use Rattle.std.proofs.Common.{◌≡◌, ℕ, ◌&&◌, Bool, true, false, List, Option, None, Some, Result, Ok, Err, ap, suc, refl}
use Rattle.std.proofs.Common.{subst, [], ◌∷◌}
use Rattle.std.specs.Prelude.{is_some, option_map, position, not, slice_get}
use Rattle.sccs_disk.specs.Files.{Content}
use Rattle.sccs_sid.specs.Reading.{◌>>=◌}
use Rattle.sccs_sid.specs.declared.refusals.Refusal.{Refusal}
use Rattle.sccs_sid.specs.declared.refusals.Refusal.TheVariants.{Missing, TooLong}
use Rattle.sccs_grammar.specs.File.{Parsed, answer, file_of}
use Rattle.sccs_grammar.specs.FileRefusals.{or_refusal}
use Rattle.sccs_pfile.specs.Agreement.{first_disagreeing, Agrees, agrees}
use Rattle.sccs_pfile.specs.Reading.{edits_of}
use Rattle.sccs_pfile.specs.declared.entries.Edit.{Edit}
use Rattle.sccs_changes.specs.PFiles.{bytes_or_none, is_short, or_bad_pfile}
use Rattle.sccs_changes.specs.Pending.{Found, agreeing, bytes_at, pending_of}
use Rattle.sccs_steps.specs.StepEffects.{check}
use Rattle.sccs_history.specs.declared.headers.Record.{Record}
use Rattle.sccs_pfile.proofs.Agreeing.{all_agree}
use Rattle.sccs_sid.specs.declared.refusals.Refusal.TheVariants as refusals
use Rattle.sccs_base.specs.Cut.{cut}
use Rattle.sccs_changes.proofs.Chains.{passed}

-- ---- the entries of the p-file

-- what is done with the parts of both files
abbrev with_entries : List ℕ → Parsed → Result Found Refusal
with_entries bytes parsed = or_bad_pfile (edits_of bytes) >>= λ edits. agreeing
    (first_disagreeing parsed.header.records edits) >>= λ agreed. Ok (record { parsed = parsed; edits = edits })

agreed_edits : (parsed : Parsed) (f : Found) (edits : List Edit) (o : Option ℕ)
    → (agreeing o >>= λ agreed. Ok (record { parsed = parsed; edits = edits })) ≡ Ok f → edits ≡ f.edits
agreed_edits parsed f edits None e =
    ap (λ (r : Result Found Refusal). elim r as (λ _. List Edit) [ Ok g ↦ g.edits | Err refusal ↦ edits ]) e
agreed_edits parsed f edits (Some entry) e = absurd (cc)

edits_by : (parsed : Parsed) (f : Found) (r : Result (List Edit) ℕ)
    → (or_bad_pfile r >>= λ edits. agreeing (first_disagreeing parsed.header.records edits) >>= λ agreed.
    Ok (record { parsed = parsed; edits = edits })) ≡ Ok f → r ≡ Ok f.edits
edits_by parsed f (Ok edits) e = ap (λ (l : List Edit). Ok l) (agreed_edits parsed f edits
    (first_disagreeing parsed.header.records edits) e)
edits_by parsed f (Err line) e = absurd (cc)

read_by : (bytes : List ℕ) (f : Found) (r : Result Parsed Refusal) → (r >>= with_entries bytes) ≡ Ok f
    → edits_of bytes ≡ Ok f.edits
read_by bytes f (Ok parsed) e = edits_by parsed f (edits_of bytes) e
read_by bytes f (Err refusal) e = absurd (cc)

passed_check : (b : Bool) (refusal : Refusal) (rest : Result Found Refusal) (f : Found)
    → (check b refusal >>= λ ok. rest) ≡ Ok f → rest ≡ Ok f
passed_check true refusal rest f e = e
passed_check false refusal rest f e = absurd (cc)

read_of : (s p : Option Content) (f : Found) → pending_of s p ≡ Ok f → (or_refusal (answer file_of (bytes_at s))
    >>= with_entries (bytes_or_none p)) ≡ Ok f
unfolding pending_of
read_of s p f e =
    let read : Result Found Refusal = or_refusal (answer file_of (bytes_at s)) >>= with_entries (bytes_or_none p) in
    passed_check (is_short s && is_short p) TooLong read f (passed_check (is_some s) Missing
    (check (is_short s && is_short p) TooLong >>= λ short. read) f e)

-- the entries are those of the p-file
pub pending_entries : (s p : Option Content) (f : Found) → pending_of s p ≡ Ok f → edits_of (bytes_or_none p)
    ≡ Ok f.edits
pending_entries s p f e = read_by (bytes_or_none p) f (or_refusal (answer file_of (bytes_at s))) (read_of s p f e)

-- a p-file that isn't there has no entry
pub no_entry : (edits : List Edit) (k : ℕ) (e : Edit) → edits_of [] ≡ Ok edits → slice_get edits k ≡ Some e → ⊥
unfolding edits_of cut
no_entry [] k e read at = cc
no_entry (x ∷ edits) k e read at = cc

-- ---- the entries agree

agreed : (records : List Record) (edits : List Edit) (o : Option ℕ) (t : Bool)
    → o ≡ position (λ e. not (agrees records edits e)) edits → agreeing (option_map suc o) ≡ Ok t → Agrees records edits
agreed records edits None t is same = all_agree records edits is
agreed records edits (Some entry) t is same = absurd cc

found_agree : (parsed : Parsed) (edits : List Edit) (found : Found) (r : Result Bool Refusal)
    → (r >>= λ agreed. Ok (record { parsed = parsed; edits = edits })) ≡ Ok found
    → record { parsed = parsed; edits = edits } ≡ found
found_agree parsed edits found (Ok t) is = cc
found_agree parsed edits found (Err refusal) is = absurd cc

pub pending_agrees : (s p : Option Content) (found : Found) → pending_of s p ≡ Ok found
    → Agrees found.parsed.header.records found.edits
unfolding pending_of
pending_agrees s p found is =
    let some = passed (check (is_some s) refusals.Missing) _ found is in
    let short = passed (check (is_short s && is_short p) refusals.TooLong) _ found some.2 in
    let parsed = passed (or_refusal (answer file_of (bytes_at s))) _ found short.2 in
    let edits = passed (or_bad_pfile (edits_of (bytes_or_none p))) _ found parsed.2 in
    let agree = passed (agreeing (first_disagreeing parsed.0.header.records edits.0)) _ found edits.2 in
    subst (λ (x : Found). Agrees x.parsed.header.records x.edits) (found_agree parsed.0 edits.0 found
    (agreeing (first_disagreeing parsed.0.header.records edits.0)) edits.2)
    (agreed parsed.0.header.records edits.0 (position (λ e. not (agrees parsed.0.header.records edits.0 e)) edits.0)
    agree.0 refl agree.1)
