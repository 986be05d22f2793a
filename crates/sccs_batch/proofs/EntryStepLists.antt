-- Calls that run entries.
use Rattle.std.proofs.Common.{◌≡◌, ℕ, ◌+◌, ◌-◌, ◌<◌, ◌≤◌, List, [], ◌∷◌, ◌++◌, length, drop, get_or, Option, None, Some}
use Rattle.std.proofs.Common.{IfSome, Result, Ok, Err, inl, inr, refl, sym, ap, subst, ◌∙◌, arith, length-append}
use Rattle.std.specs.List.{AllByRecursion}
use Rattle.std.proofs.lemmas.List.{drop-drop, drop_more, length-drop}
use Rattle.sccs_base.specs.Stream.{Rose}
use Rattle.sccs_disk.specs.Files.{Folder}
use Rattle.sccs_steps.specs.Causes.{RunCauses, counts}
use Rattle.sccs_steps.specs.Settings.{Setting}
use Rattle.sccs_steps.specs.StepLists.{NamedStep, folder_after}
use Rattle.sccs_steps.specs.declared.faults.Fault.{Fault}
use Rattle.sccs_steps.specs.declared.faults.Fault.TheVariants as ends
use Rattle.sccs_step_lists.specs.StepLists.{AllTake, StepLists, portions_of, said, saying, steps_along}
use Rattle.sccs_step_lists.specs.Sayings.{BegunSaid, IsSaid, WholeSaid}
use Rattle.sccs_step_lists.proofs.JoinedStepLists.{step_list_cut, step_list_then}
use Rattle.sccs_step_lists.proofs.Portions.{both_all, steps_more}
use Rattle.sccs_step_lists.proofs.SaidStepLists.{never_step_list, nothing_step_list, said_step_list}
use Rattle.sccs_batch.specs.BatchLines.{bad_entry_line, status_line}
use Rattle.sccs_batch.specs.BatchText.{Batch, batch_from, batch_entry, batch_with}
use Rattle.sccs_batch.specs.Batches.{BegunEntries, BegunEntry, ReachesLines, RunsEntries, RunsEntry, RunsNext, RunsOwn}
use Rattle.sccs_batch.specs.Batches.{WholeEntries, WholeEntry, batch_end, entries_step_list, entry_step_list}
use Rattle.sccs_batch.specs.declared.entries.BatchEntry.{BatchEntry}
use Rattle.sccs_batch.specs.declared.entries.FoundEntry.{FoundEntry}
use Rattle.sccs_batch.proofs.BatchTexts.{from_skip}

-- ---- what changes files takes the names of s-files, and some step is to be made

said_takes : (out err : List ℕ) (code : ℕ) (folder : Folder) (i : List ℕ)
    → AllTake (portions_of (saying out err code) folder i)
said_takes out err code folder i = (λ changes n fits. absurd (cc), tt)

entry_takes : (command : StepLists) → ((folder : Folder) (i : List ℕ) → AllTake (portions_of command folder i))
    → (folder : Folder) (i : List ℕ) → AllTake (portions_of (entry_step_list command) folder i)
entry_takes command takes folder i =
    both_all _ (portions_of command folder i) _ (takes folder i) (said_takes (status_line (command folder i).status) []
    (command folder i).status (folder_after folder (steps_along command folder i)) i)

end_takes : (bad : Option ℕ) (folder : Folder) (i : List ℕ) → AllTake (portions_of (batch_end bad) folder i)
end_takes None folder i = (λ changes n fits. absurd (cc), tt)
end_takes (Some number) folder i = said_takes [] (bad_entry_line number) 1 folder i

pub entries_take : (command : BatchEntry → StepLists) → ((e : BatchEntry) (folder : Folder) (i : List ℕ)
    → AllTake (portions_of (command e) folder i)) → (entries : List BatchEntry) (bad : Option ℕ) (folder : Folder)
    (i : List ℕ)
    → AllTake (portions_of (entries_step_list command (record { entries = entries; bad = bad })) folder i)
entries_take command takes [] bad folder i = end_takes bad folder i
entries_take command takes (e ∷ entries) bad folder i =
    both_all _ (portions_of (entry_step_list (command e)) folder i) _ (entry_takes (command e) (takes e) folder i)
    (entries_take command takes entries bad (folder_after folder (steps_along (entry_step_list (command e)) folder i))
    i)

some_first : (ts us : List NamedStep) → 0 < length ts → 0 < length (ts ++ us)
some_first ts us some = omega (arith, some, length-append ts us)

some_last : (ts us : List NamedStep) → 0 < length us → 0 < length (ts ++ us)
some_last ts us some = omega (arith, some, length-append ts us)

pub entry_some : (command : StepLists) (folder : Folder) (i : List ℕ)
    → 0 < length (steps_along (entry_step_list command) folder i)
entry_some command folder i =
    subst (λ (ts : List NamedStep). 0 < length ts) (sym (steps_more (portions_of command folder i) _))
    (some_last (steps_along command folder i) (said (status_line (command folder i).status) [] ∷ []) (omega arith))

-- ---- what was written

pub wrote_out : (code o o2 e d : ℕ) → o ≤ o2 → RunCauses (Ok code) (counts 0 o e d) (counts 0 o2 e d)
wrote_out code o o2 e d later = record {
  input_later = omega arith;
  out_later = later;
  err_later = omega arith;
  disk_later = omega arith;
  read = λ is. absurd (cc);
  write = λ is. absurd (cc);
  broke = λ is. absurd (cc);
}

pub cut_out : (o o2 e d : ℕ) → o ≤ o2 → Rose o o2 → RunCauses (Err ends.WriteFault) (counts 0 o e d) (counts 0 o2 e d)
cut_out o o2 e d later rose = record {
  input_later = omega arith;
  out_later = later;
  err_later = omega arith;
  disk_later = omega arith;
  read = λ is. absurd (cc);
  write = λ is. inl rose;
  broke = λ is. absurd (cc);
}

pub wrote_err : (code o e e2 d : ℕ) → e ≤ e2 → RunCauses (Ok code) (counts 0 o e d) (counts 0 o e2 d)
wrote_err code o e e2 d later = record {
  input_later = omega arith;
  out_later = omega arith;
  err_later = later;
  disk_later = omega arith;
  read = λ is. absurd (cc);
  write = λ is. absurd (cc);
  broke = λ is. absurd (cc);
}

pub cut_err : (o e e2 d : ℕ) → e ≤ e2 → Rose e e2 → RunCauses (Err ends.WriteFault) (counts 0 o e d) (counts 0 o e2 d)
cut_err o e e2 d later rose = record {
  input_later = omega arith;
  out_later = omega arith;
  err_later = later;
  disk_later = omega arith;
  read = λ is. absurd (cc);
  write = λ is. inr rose;
  broke = λ is. absurd (cc);
}

-- ---- one entry

never_own : (command : StepLists) (fits : Type 0) (whole : ℕ → List NamedStep → Type 0) (begun : List NamedStep
    → Type 0) (fault : Fault) (s t : Setting)
    → ((folder : Folder) (i : List ℕ) → AllTake (portions_of command folder i)) → ((ts : List NamedStep) × begun ts)
    → t ≡ s → fault ≡ ends.Memory → RunsEntry command fits whole begun (Err fault) s t
never_own command fits whole begun fault s t takes might same memory =
    subst (λ (f : Fault). RunsEntry command fits whole begun (Err f) s t) (sym memory)
    (subst (λ (u : Setting). RunsEntry command fits whole begun (Err ends.Memory) s u) (sym same)
    (never_step_list (entry_step_list command) (λ i. fits) (WholeEntry whole) (BegunEntry whole begun) might.0
    ends.Memory s s (entry_takes command takes) (entry_some command) (inl might.1) refl
    (record {
      input_later = omega arith;
      out_later = omega arith;
      err_later = omega arith;
      disk_later = omega arith;
      read = λ is. absurd (cc);
      write = λ is. absurd (cc);
      broke = λ is. absurd (cc);
    })))

err_same : (fault other : Fault) (r : Result ℕ Fault) → r ≡ Err fault → r ≡ Err other → fault ≡ other
err_same fault other r is also = cc

-- the command ended early
pub entry_cut : (command : StepLists) (fits : Type 0) (whole : ℕ → List NamedStep → Type 0) (begun : List NamedStep
    → Type 0) (fault : Fault) (s t : Setting)
    → ((folder : Folder) (i : List ℕ) → AllTake (portions_of command folder i)) → ((ts : List NamedStep) × begun ts)
    → RunsOwn command fits whole begun (Err fault) s t → RunsEntry command fits whole begun (Err fault) s t
entry_cut command fits whole begun fault s t takes might (inl cut) =
    step_list_cut command (λ status. saying (status_line status) [] status) (λ i. fits) (λ i. fits) whole begun
    (λ status. WholeSaid (status_line status) [] status) (λ status. BegunSaid (status_line status) []) fault s t
    (λ i given. given) (λ status. said_takes (status_line status) [] status) cut
entry_cut command fits whole begun fault s t takes might (inr never) =
    never_own command fits whole begun fault s t takes might never.1 (err_same fault ends.Memory
    (Err fault) refl never.0)

-- its status was written, or a prefix of that
pub entry_said : (command : StepLists) (fits : Type 0) (whole : ℕ → List NamedStep → Type 0) (begun : List NamedStep
    → Type 0) (status : ℕ) (r : Result ℕ Fault) (s t u : Setting)
    → RunsOwn command fits whole begun (Ok status) s t → u.stage.told ≡ t.stage.told
    → IsSaid (status_line status) [] status r t.stage u.stage → RunCauses r t.faults u.faults
    → RunsEntry command fits whole begun r s u
entry_said command fits whole begun status r s t u (inl done) same is causes =
    step_list_then command (λ code. saying (status_line code) [] code) (λ i. fits) (λ i. fits) (λ i. fits) whole begun
    (λ code. WholeSaid (status_line code) [] code) (λ code. BegunSaid (status_line code) []) status r s t u
    (λ i given. given) (λ i given. given) (λ code. said_takes (status_line code) [] code) done
    (said_step_list (status_line status) [] status (λ i. fits) r t u same is causes)
entry_said command fits whole begun status r s t u (inr never) same is causes = absurd (let no = never.0 in cc)

-- ---- the next entry

-- the batch of a line and those behind it
batch_next : (number : ℕ) (line : List ℕ) (tail : List (List ℕ)) (found : Option FoundEntry)
    → batch_entry line tail ≡ found → batch_from 0 number (line ∷ tail) ≡ batch_with number found
    (λ own. batch_from own (number + 1) tail)
batch_next number line tail found is =
    ap (λ (o : Option FoundEntry). batch_with number o (λ own. batch_from own (number + 1) tail)) is

-- want of memory before it
begun_next : (whole : BatchEntry → ℕ → List NamedStep → Type 0) (begun : BatchEntry → List NamedStep → Type 0)
    (number : ℕ) (rest : ℕ → Batch) (found : Option FoundEntry) → ((e : BatchEntry) → (ts : List NamedStep)
    × begun e ts)
    → (ts : List NamedStep) × BegunEntries whole begun (batch_with number found rest) ts
begun_next whole begun number rest None might = (said [] (bad_entry_line number) ∷ [], refl)
begun_next whole begun number rest (Some found) might = ((might found.entry).0, inl (inl (might found.entry).1))

some_next : (command : BatchEntry → StepLists) (number : ℕ) (rest : ℕ → Batch) (found : Option FoundEntry)
    (folder : Folder) (i : List ℕ) → 0 < length (steps_along (entries_step_list command (batch_with number found rest))
    folder i)
some_next command number rest None folder i = omega arith
some_next command number rest (Some found) folder i =
    subst (λ (ts : List NamedStep). 0 < length ts)
    (sym (steps_more (portions_of (entry_step_list (command found.entry)) folder i) _))
    (some_first (steps_along (entry_step_list (command found.entry)) folder i) _
    (entry_some (command found.entry) folder i))

pub next_never : (command : BatchEntry → StepLists) (fits : BatchEntry → Type 0) (whole : BatchEntry → ℕ
    → List NamedStep → Type 0) (begun : BatchEntry → List NamedStep → Type 0) (number : ℕ) (line : List ℕ)
    (tail : List (List ℕ)) (s : Setting)
    → ((e : BatchEntry) (folder : Folder) (i : List ℕ) → AllTake (portions_of (command e) folder i))
    → ((e : BatchEntry) → (ts : List NamedStep) × begun e ts) → RunsNext command fits whole begun number line tail
    (Err ends.Memory) s s
next_never command fits whole begun number line tail s takes might = λ all a reaches.
    reaches (Err ends.Memory) s
    (never_step_list (entries_step_list command (batch_from 0 number (line ∷ tail))) (λ i. AllByRecursion fits
    (batch_from 0 number (line ∷ tail)).entries) (WholeEntries whole (batch_from 0 number (line ∷ tail)))
    (BegunEntries whole begun (batch_from 0 number (line ∷ tail)))
    (begun_next whole begun number (λ own. batch_from own (number + 1) tail) (batch_entry line tail) might).0
    ends.Memory s s
    (entries_take command takes (batch_from 0 number (line ∷ tail)).entries (batch_from 0 number (line ∷ tail)).bad)
    (some_next command number (λ own. batch_from own (number + 1) tail) (batch_entry line tail))
    (begun_next whole begun number (λ own. batch_from own (number + 1) tail) (batch_entry line tail) might).1 refl
    (record {
      input_later = omega arith;
      out_later = omega arith;
      err_later = omega arith;
      disk_later = omega arith;
      read = λ is. absurd (cc);
      write = λ is. absurd (cc);
      broke = λ is. absurd (cc);
    }))

-- it is none, which was said, or a prefix of that
bad_said : (command : BatchEntry → StepLists) (fits : BatchEntry → Type 0) (whole : BatchEntry → ℕ → List NamedStep
    → Type 0) (begun : BatchEntry → List NamedStep → Type 0) (number : ℕ) (line : List ℕ) (tail : List (List ℕ))
    (r : Result ℕ Fault) (s t : Setting) → batch_entry line tail ≡ None
    → t.stage.told ≡ s.stage.told → IsSaid [] (bad_entry_line number) 1 r s.stage t.stage
    → RunCauses r s.faults t.faults → RunsEntries command fits whole begun (batch_from 0 number (line ∷ tail)) r s t
bad_said command fits whole begun number line tail r s t is same says causes =
    subst (λ (b : Batch). RunsEntries command fits whole begun b r s t) (sym (batch_next number line tail None is))
    (said_step_list [] (bad_entry_line number) 1 (λ i. Unit {0}) r s t same says causes)

pub next_bad : (command : BatchEntry → StepLists) (fits : BatchEntry → Type 0) (whole : BatchEntry → ℕ → List NamedStep
    → Type 0) (begun : BatchEntry → List NamedStep → Type 0) (number : ℕ) (line : List ℕ) (tail : List (List ℕ))
    (s t : Setting) → batch_entry line tail ≡ None
    → t.stage.told ≡ s.stage.told → IsSaid [] (bad_entry_line number) 1 (Ok 1) s.stage t.stage
    → RunCauses (Ok 1) s.faults t.faults → RunsNext command fits whole begun number line tail (Ok None) s t
next_bad command fits whole begun number line tail s t is same says causes = λ all a reaches. reaches (Ok 1) t
    (bad_said command fits whole begun number line tail (Ok 1) s t is same says causes)

pub next_unsaid : (command : BatchEntry → StepLists) (fits : BatchEntry → Type 0) (whole : BatchEntry → ℕ
    → List NamedStep → Type 0) (begun : BatchEntry → List NamedStep → Type 0) (number : ℕ) (line : List ℕ)
    (tail : List (List ℕ)) (s t : Setting) → batch_entry line tail ≡ None
    → t.stage.told ≡ s.stage.told → IsSaid [] (bad_entry_line number) 1 (Err ends.WriteFault) s.stage t.stage
    → RunCauses (Err ends.WriteFault) s.faults t.faults → RunsNext command fits whole begun number line tail
    (Err ends.WriteFault) s t
next_unsaid command fits whole begun number line tail s t is same says causes =
    λ all a reaches. reaches (Err ends.WriteFault) t (bad_said command fits whole begun number line tail
    (Err ends.WriteFault) s t is same says causes)

-- it ended early
pub next_cut : (command : BatchEntry → StepLists) (fits : BatchEntry → Type 0) (whole : BatchEntry → ℕ → List NamedStep
    → Type 0) (begun : BatchEntry → List NamedStep → Type 0) (number : ℕ) (line : List ℕ) (tail : List (List ℕ))
    (found : FoundEntry) (fault : Fault) (s t : Setting) → batch_entry line tail ≡ Some found
    → ((e : BatchEntry) (folder : Folder) (i : List ℕ) → AllTake (portions_of (command e) folder i))
    → RunsEntry (command found.entry) (fits found.entry) (whole found.entry) (begun found.entry) (Err fault) s t
    → RunsNext command fits whole begun number line tail (Err fault) s t
next_cut command fits whole begun number line tail found fault s t is takes cut = λ all a reaches.
    let more : Batch = batch_from found.lines (number + 1) tail in
    reaches (Err fault) t
    (subst (λ (b : Batch). RunsEntries command fits whole begun b (Err fault) s t)
    (sym (batch_next number line tail (Some found) is))
    (step_list_cut (entry_step_list (command found.entry)) (λ code. entries_step_list command more)
    (λ i. AllByRecursion fits (found.entry ∷ more.entries)) (λ i. fits found.entry)
    (WholeEntry (whole found.entry)) (BegunEntry (whole found.entry) (begun found.entry))
    (λ code. WholeEntries whole more) (λ code. BegunEntries whole begun more) fault s t (λ i given. given.0)
    (λ code. entries_take command takes more.entries more.bad) cut))

-- it was run
pub next_run : (command : BatchEntry → StepLists) (fits : BatchEntry → Type 0) (whole : BatchEntry → ℕ → List NamedStep
    → Type 0) (begun : BatchEntry → List NamedStep → Type 0) (number : ℕ) (line : List ℕ) (tail : List (List ℕ))
    (found : FoundEntry) (status : ℕ) (s t : Setting) → batch_entry line tail ≡ Some found → found.lines ≤ length tail
    → ((e : BatchEntry) (folder : Folder) (i : List ℕ) → AllTake (portions_of (command e) folder i))
    → RunsEntry (command found.entry) (fits found.entry) (whole found.entry) (begun found.entry) (Ok status) s t
    → RunsNext command fits whole begun number line tail (Ok (Some found.lines)) s t
next_run command fits whole begun number line tail found status s t is within takes done = λ all a reaches.
    let more : Batch = batch_from found.lines (number + 1) tail in
    λ r u next. reaches r u
    (subst (λ (b : Batch). RunsEntries command fits whole begun b r s u)
    (sym (batch_next number line tail (Some found) is))
    (step_list_then (entry_step_list (command found.entry)) (λ code. entries_step_list command more)
    (λ i. AllByRecursion fits (found.entry ∷ more.entries)) (λ i. fits found.entry)
    (λ i. AllByRecursion fits more.entries)
    (WholeEntry (whole found.entry)) (BegunEntry (whole found.entry) (begun found.entry))
    (λ code. WholeEntries whole more) (λ code. BegunEntries whole begun more) status r s t u (λ i given. given.0)
    (λ i given. given.1) (λ code. entries_take command takes more.entries more.bad) done
    (subst (λ (b : Batch). RunsEntries command fits whole begun b r t u)
    (sym (from_skip found.lines (number + 1) tail within)) next)))

-- ---- no more lines

pub reaches_end : (command : BatchEntry → StepLists) (fits : BatchEntry → Type 0) (whole : BatchEntry → ℕ
    → List NamedStep → Type 0) (begun : BatchEntry → List NamedStep → Type 0) (all : Batch) (number : ℕ)
    (rest : List (List ℕ)) (s t : Setting) → rest ≡ [] → ReachesLines command fits whole begun all number rest s t
    → RunsEntries command fits whole begun all (Ok 0) s t
reaches_end command fits whole begun all number rest s t none reaches =
    reaches (Ok 0) t (subst (λ (lines : List (List ℕ)). RunsEntries command fits whole begun (batch_from 0 number lines)
    (Ok 0) t t) (sym none) (nothing_step_list 0 (λ i. Unit {0}) (λ ts. ts ≡ []) t))

-- ---- a place among the lines

-- before the line of a place
pub reaches_line : (command : BatchEntry → StepLists) (fits : BatchEntry → Type 0) (whole : BatchEntry → ℕ
    → List NamedStep → Type 0) (begun : BatchEntry → List NamedStep → Type 0) (all : Batch) (lines : List (List ℕ))
    (at : ℕ) (line item : List ℕ) (tail : List (List ℕ)) (s t : Setting)
    → line ≡ get_or lines at item → at < length lines → tail ≡ drop (at + 1) lines
    → ReachesLines command fits whole begun all (at + 1) (drop at lines) s t
    → ReachesLines command fits whole begun all (at + 1) (line ∷ tail) s t
reaches_line command fits whole begun all lines at line item tail s t is below rest reaches =
    subst (λ (ls : List (List ℕ)). ReachesLines command fits whole begun all (at + 1) ls s t)
    (drop_more lines at item below ∙ (ap (λ (l : List ℕ). l ∷ drop (at + 1) lines) (sym is)
    ∙ ap (λ (ls : List (List ℕ)). line ∷ ls) (sym rest))) reaches

-- behind the lines of an entry
pub reaches_on : (command : BatchEntry → StepLists) (fits : BatchEntry → Type 0) (whole : BatchEntry → ℕ
    → List NamedStep → Type 0) (begun : BatchEntry → List NamedStep → Type 0) (all : Batch) (lines : List (List ℕ))
    (at own : ℕ) (tail : List (List ℕ)) (s u : Setting)
    → tail ≡ drop (at + 1) lines → ReachesLines command fits whole begun all (at + 1 + 1 + own) (drop own tail) s u
    → ReachesLines command fits whole begun all (at + (1 + own) + 1) (drop (at + (1 + own)) lines) s u
reaches_on command fits whole begun all lines at own tail s u rest reaches =
    let number : at + 1 + 1 + own ≡ at + (1 + own) + 1 = omega arith in
    let place : at + 1 + own ≡ at + (1 + own) = omega arith in
    subst (λ n. ReachesLines command fits whole begun all n (drop (at + (1 + own)) lines) s u) number
    (subst (λ (ls : List (List ℕ)). ReachesLines command fits whole begun all (at + 1 + 1 + own) ls s u)
    (ap (λ (ls : List (List ℕ)). drop own ls) rest ∙ (drop-drop own (at + 1) lines ∙ ap (λ n. drop n lines) place))
    reaches)

-- they are within the lines
pub within_on : (lines tail : List (List ℕ)) (at own : ℕ) (next : Option ℕ) → next ≡ Some own
    → IfSome next (λ own. own ≤ length tail) → tail ≡ drop (at + 1) lines → at < length lines
    → at + (1 + own) ≤ length lines
within_on lines tail at own next is within rest below =
    let low : own ≤ length tail = subst (λ (o : Option ℕ). IfSome o (λ own. own ≤ length tail)) is within in
    let long : length tail ≡ length lines - (at + 1) = ap (λ (ls : List (List ℕ)). length ls) rest
    ∙ length-drop (at + 1) lines in
    omega (arith, low, long, below)
