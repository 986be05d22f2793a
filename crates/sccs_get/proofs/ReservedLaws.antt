-- What is found for an edit, or the first check that fails.
use Rattle.std.proofs.Common.{◌≡◌, ℕ, Bool, List, drop, Option, None, Some, Result, Ok, Err, refl, sym, ap, subst, ◌∙◌}
use Rattle.std.specs.Prelude.{IfSome}
use Rattle.sccs_base.specs.Name.{p_file}
use Rattle.sccs_disk.specs.Files.{Content, View}
use Rattle.sccs_sid.specs.Reading.{◌>>=◌}
use Rattle.sccs_sid.specs.declared.moments.Stamp.{Stamp}
use Rattle.sccs_sid.specs.declared.refusals.Refusal.{Refusal}
use Rattle.sccs_sid.specs.declared.refusals.StepFault.{StepFault}
use Rattle.sccs_sid.specs.declared.refusals.StepFault.TheVariants.{Refused, Memory, ReadFault, WriteFault, DiskFault}
use Rattle.sccs_history.specs.declared.headers.Header.{Header}
use Rattle.sccs_grammar.specs.File.{Parsed, answer, file_of}
use Rattle.sccs_body.specs.BodyFile.{ShowsFile}
use Rattle.sccs_name_files.specs.StepFiles.{Files, look}
use Rattle.sccs_pfile.specs.declared.entries.Edit.{Edit}
use Rattle.sccs_changes.specs.PFiles.{Answers}
use Rattle.sccs_changes.specs.Pending.{AnswersPending, Found, bytes_at, pending_of}
use Rattle.sccs_changes.specs.declared.pending.Pending.{Pending}
use Rattle.sccs_changes.proofs.PendingLaws.{shown_header}
use Rattle.sccs_changes.proofs.StopLaws.{pending_answer}
use Rattle.sccs_words.specs.declared.commands.GetWords.{GetWords}
use Rattle.sccs_get.specs.EditGiving.{AnswersReserved}
use Rattle.sccs_get.specs.EditStep.{Reserved, reserved_of}
use Rattle.sccs_get.specs.NewEntry.{new_entry}
use Rattle.sccs_get.specs.VersionStep.{found_version, is_in_the_way}
use Rattle.sccs_get.specs.declared.found.Found.{Found as Version}

-- a whole s-file was read where its front is shown
read_whole : (s p : Option Content) (x : Pending) (parsed : Parsed) → ShowsFile (bytes_at s) parsed x.front
    → pending_of s p ≡ Ok (record { parsed = parsed; edits = x.edits }) → answer file_of (bytes_at s) ≡ Ok parsed
read_whole None p x parsed shows is = absurd shows
read_whole (Some s) p x parsed shows is = pending_answer s p (record { parsed = parsed; edits = x.edits }) is

module _ (words : GetWords) (stamp : Stamp) (place n : List ℕ) where
  abbrev with_version : Parsed → List Edit → Edit → Result Reserved Refusal
  with_version parsed edits e = found_version words stamp place n parsed.header >>= λ version.
      Ok (record { parsed = parsed; edits = edits; edit = e; version = version })

  abbrev with_entry : Bool → Found → Result Reserved Refusal
  with_entry way found = new_entry words stamp found.parsed.header found.edits way
      >>= λ e. with_version found.parsed found.edits e

  abbrev pub reserved_from : Option Content → Option Content → Option Content → Result Reserved Refusal
  reserved_from s p g = pending_of s p >>= λ found. with_entry (is_in_the_way words g) found

  pub reserved_is : (f : Files) → reserved_of words stamp place n f ≡ reserved_from f.s f.p f.g
  unfolding reserved_of
  reserved_is f = refl

  unread_at : (v : View) (fault : StepFault) → AnswersPending (v n) (v (p_file n)) (Err fault)
      → AnswersReserved words stamp place n (look v n) (Err fault)
  unread_at v (Refused refusal) answers = reserved_is (look v n) ∙ ap (λ (r : Result Found Refusal). r >>= λ found.
      with_entry (is_in_the_way words (v (drop 2 n))) found) answers
  unread_at v Memory answers = tt
  unread_at v DiskFault answers = tt
  unread_at v ReadFault answers = absurd answers
  unread_at v WriteFault answers = absurd answers

  pub unread : (o : Option View) (fault : StepFault) → IfSome o (λ (v : View). AnswersPending (v n) (v (p_file n))
      (Err fault)) → IfSome o (λ (v : View). AnswersReserved words stamp place n (look v n) (Err fault))
  unread None fault answers = tt
  unread (Some v) fault answers = unread_at v fault answers

  -- the files are read
  abbrev IsRead : View → Pending → Type 0
  IsRead v x = AnswersPending (v n) (v (p_file n)) (Ok x)

  header_of : (v : View) (x : Pending) → (read : IsRead v x) → x.front.header ≡ read.0.header
  header_of v x read = shown_header (bytes_at (v n)) read.0 x.front read.1

  read_so : (v : View) (x : Pending) (way : Bool) (r : Result Edit Refusal) → (read : IsRead v x)
      → way ≡ is_in_the_way words (v (drop 2 n)) → new_entry words stamp x.front.header x.edits way ≡ r
      → reserved_of words stamp place n (look v n) ≡ (r >>= λ e. with_version read.0 x.edits e)
  read_so v x way r read is entry =
      reserved_is (look v n) ∙ (ap (λ (f : Result Found Refusal). f >>= λ found. with_entry
      (is_in_the_way words (v (drop 2 n))) found) read.2
      ∙ (ap (λ (w : Bool). new_entry words stamp read.0.header x.edits w >>= λ e. with_version read.0 x.edits e)
      (sym is)
      ∙ (ap (λ (h : Header). new_entry words stamp h x.edits way >>= λ e. with_version read.0 x.edits e)
      (sym (header_of v x read)) ∙ ap (λ (r : Result Edit Refusal). r >>= λ e. with_version read.0 x.edits e)
      entry)))

  no_entry_at : (v : View) (x : Pending) (way : Bool) (fault : StepFault) → IsRead v x → way ≡ is_in_the_way words
      (v (drop 2 n)) → Answers {A = Edit} (new_entry words stamp x.front.header x.edits way) (Err fault)
      → AnswersReserved words stamp place n (look v n) (Err fault)
  no_entry_at v x way (Refused refusal) read is answers = read_so v x way (Err refusal) read is answers
  no_entry_at v x way Memory read is answers = tt
  no_entry_at v x way DiskFault read is answers = tt
  no_entry_at v x way ReadFault read is answers = absurd answers
  no_entry_at v x way WriteFault read is answers = absurd answers

  pub no_entry : (o o1 : Option View) (x : Pending) (way : Bool) (fault : StepFault) → o1 ≡ o
      → IfSome o (λ (v : View). IsRead v x) → IfSome o1 (λ (v : View). way ≡ is_in_the_way words (v (drop 2 n)))
      → Answers {A = Edit} (new_entry words stamp x.front.header x.edits way) (Err fault)
      → IfSome o (λ (v : View). AnswersReserved words stamp place n (look v n) (Err fault))
  no_entry None o1 x way fault same read is answers = tt
  no_entry (Some v) o1 x way fault same read is answers = no_entry_at v x way fault read
      (subst (λ (o : Option View). IfSome o (λ (u : View). way ≡ is_in_the_way words (u (drop 2 n)))) same is) answers

  version_so : (v : View) (x : Pending) (way : Bool) (e : Edit) (r : Result Version Refusal) → (read : IsRead v x)
      → way ≡ is_in_the_way words (v (drop 2 n)) → new_entry words stamp x.front.header x.edits way ≡ Ok e
      → found_version words stamp place n x.front.header ≡ r
      → reserved_of words stamp place n (look v n) ≡ (r >>= λ version.
      Ok (record { parsed = read.0; edits = x.edits; edit = e; version = version }))
  version_so v x way e r read is entry found =
      read_so v x way (Ok e) read is entry ∙ (ap (λ (h : Header). found_version words stamp place n h >>= λ version.
      Ok (record { parsed = read.0; edits = x.edits; edit = e; version = version })) (sym (header_of v x read))
      ∙ ap (λ (r : Result Version Refusal). r >>= λ version.
      Ok (record { parsed = read.0; edits = x.edits; edit = e; version = version })) found)

  no_version_at : (v : View) (x : Pending) (way : Bool) (e : Edit) (fault : StepFault) → IsRead v x
      → way ≡ is_in_the_way words (v (drop 2 n)) → new_entry words stamp x.front.header x.edits way ≡ Ok e
      → Answers {A = Version} (found_version words stamp place n x.front.header) (Err fault)
      → AnswersReserved words stamp place n (look v n) (Err fault)
  no_version_at v x way e (Refused refusal) read is entry answers = version_so v x way e (Err refusal) read is entry
      answers
  no_version_at v x way e Memory read is entry answers = tt
  no_version_at v x way e DiskFault read is entry answers = tt
  no_version_at v x way e ReadFault read is entry answers = absurd answers
  no_version_at v x way e WriteFault read is entry answers = absurd answers

  pub no_version : (o o1 : Option View) (x : Pending) (way : Bool) (e : Edit) (fault : StepFault) → o1 ≡ o
      → IfSome o (λ (v : View). IsRead v x) → IfSome o1 (λ (v : View). way ≡ is_in_the_way words (v (drop 2 n)))
      → new_entry words stamp x.front.header x.edits way ≡ Ok e
      → Answers {A = Version} (found_version words stamp place n x.front.header) (Err fault)
      → IfSome o (λ (v : View). AnswersReserved words stamp place n (look v n) (Err fault))
  no_version None o1 x way e fault same read is entry answers = tt
  no_version (Some v) o1 x way e fault same read is entry answers = no_version_at v x way e fault read
      (subst (λ (o : Option View). IfSome o (λ (u : View). way ≡ is_in_the_way words (u (drop 2 n)))) same is) entry
      answers

  pub all_found : (o o1 : Option View) (x : Pending) (way : Bool) (e : Edit) (version : Version) → o1 ≡ o
      → IfSome o (λ (v : View). IsRead v x) → IfSome o1 (λ (v : View). way ≡ is_in_the_way words (v (drop 2 n)))
      → new_entry words stamp x.front.header x.edits way ≡ Ok e
      → found_version words stamp place n x.front.header ≡ Ok version
      → IfSome o (λ (v : View). AnswersReserved words stamp place n (look v n)
      (Ok (record { pending = x; edit = e; version = version })))
  all_found None o1 x way e version same read is entry found = tt
  all_found (Some v) o1 x way e version same read is entry found = (
    read.0,
    read.1,
    read_whole (v n) (v (p_file n)) x read.0 read.1 read.2,
    version_so v x way e (Ok version) read
        (subst (λ (o : Option View). IfSome o (λ (u : View). way ≡ is_in_the_way words (u (drop 2 n)))) same is) entry
        found,
  )
