-- What cdc prepares, from its two parts.
use Rattle.std.proofs.Common.{◌≡◌, ℕ, false, List, [], Option, None, Some, IfOk, IfSome, Result, Ok, Err, refl, sym, ap}
use Rattle.std.proofs.Common.{subst, ◌∙◌}
use Rattle.std.specs.Str.{bytes_eq}
use Rattle.sccs_base.specs.Name.{IsSFileName, x_file}
use Rattle.sccs_base.proofs.Gifts.{gives_none}
use Rattle.sccs_disk.specs.Files.{Content, View}
use Rattle.sccs_disk.specs.Told.{Told, seen}
use Rattle.sccs_name_files.specs.StepFiles.{Files, Moves, is_working}
use Rattle.sccs_sid.specs.Reading.{◌>>=◌}
use Rattle.sccs_sid.specs.declared.moments.Stamp.{Stamp}
use Rattle.sccs_sid.specs.declared.refusals.Refusal.{Refusal}
use Rattle.sccs_sid.specs.declared.refusals.StepFault.{StepFault}
use Rattle.sccs_sid.specs.declared.refusals.StepFault.TheVariants.{Refused, Memory, ReadFault, WriteFault, DiskFault}
use Rattle.sccs_grammar.specs.File.{Parsed, answer, file_of}
use Rattle.sccs_grammar.specs.FileRefusals.{or_refusal}
use Rattle.sccs_grammar.specs.declared.faults.FileFault.{FileFault}
use Rattle.sccs_history.specs.History.{IsHeader, IsSpelled}
use Rattle.sccs_history.specs.declared.headers.Header.{Header}
use Rattle.sccs_history.specs.declared.headers.Item.{Item}
use Rattle.sccs_table.specs.ReaderState.{bytes_in}
use Rattle.sccs_table.specs.declared.fronts.Front.{Front}
use Rattle.sccs_body.specs.AnySum.{ShowsUnsummed}
use Rattle.sccs_body.specs.BodyFile.{items_of}
use Rattle.sccs_body.specs.ToCome.{IsFrontFor}
use Rattle.sccs_crash_points.proofs.FileNames.{no_x}
use Rattle.sccs_changes.specs.Pending.{bytes_at}
use Rattle.sccs_steps.specs.Actions.{RefusesWithin, quiet_checks}
use Rattle.sccs_steps.specs.Calls.{world}
use Rattle.sccs_steps.specs.StepEffects.{Outcome}
use Rattle.sccs_store.specs.Commits.{files_after}
use Rattle.sccs_store.specs.SealedFiles.{sealed}
use Rattle.sccs_store.proofs.Working.{moves_wider}
use Rattle.sccs_changes.specs.Changes.{CouldPrepare, Prepares, PreparesChange, plan_of}
use Rattle.sccs_changes.specs.Stops.{SettlesEntries}
use Rattle.sccs_changes.specs.declared.prepared.Prepared.{Prepared}
use Rattle.sccs_changes.proofs.Taken.{x_alone}
use Rattle.sccs_words.specs.declared.commands.CdcWords.{CdcWords}
use Rattle.sccs_admin.specs.AdminStep.{makes}
use Rattle.sccs_admin.specs.Parts.{IsNewSfile}
use Rattle.sccs_admin.proofs.PrepareLaws.{files_of, new_files, s_unlocked, unmade}
use Rattle.sccs_alter.specs.CheckStep.{checked_file}
use Rattle.sccs_alter.specs.Parts.{Alters}
use Rattle.sccs_alter.proofs.StopLaws.{answer_read}
use Rattle.sccs_alter.specs.CdcStep.{cdc_change, cdc_checks, cdc_outcome, changed_header}
use Rattle.sccs_alter.specs.CdcParts.{HasLines, ReadsSfile}
use Rattle.sccs_alter.proofs.CdcStopLaws.{changed_settles}
use Rattle.sccs_changes.proofs.Preparing.{files_at}
use Rattle.sccs_alter.proofs.PrepareLaws.{settles_none, bytes_seen}

-- ---- the step, part by part

abbrev from_header : List Item → Files → Result Header Refusal → Outcome
from_header items f made = made >>= λ header. makes (sealed header items) f

abbrev from_file : CdcWords → Stamp → Files → Result Parsed Refusal → Outcome
from_file words stamp f read = read >>= λ parsed. changed_header words stamp parsed.header >>= λ header. makes
    (sealed header parsed.items) f

pub outcome_is : (words : CdcWords) (stamp : Stamp) (n i : List ℕ) (named : List (Option Content)) (f : Files)
    → cdc_outcome words stamp n i named f ≡ (checked_file f.s >>= λ parsed. changed_header words stamp parsed.header
    >>= λ header. makes (sealed header parsed.items) f)
unfolding cdc_outcome
outcome_is words stamp n i named f = refl

outcome_seen : (words : CdcWords) (stamp : Stamp) (n i : List ℕ) (named : List (Option Content)) (v : View)
    (r : Result Parsed Refusal) → IsSFileName n → checked_file (v n) ≡ r → cdc_outcome words stamp n i named
    (files_at n v) ≡ from_file words stamp (files_at n v) r
outcome_seen words stamp n i named v r sfile is =
    outcome_is words stamp n i named (files_at n v) ∙ ap (from_file words stamp (files_at n v))
    (ap (λ (o : Option Content). checked_file o) (s_unlocked n v sfile) ∙ is)

-- ---- nothing was read

not_read : (words : CdcWords) (stamp : Stamp) (fault : StepFault) (n i : List ℕ) (v : View) (out err : Option (List ℕ))
    → IsSFileName n → ReadsSfile n v (Err fault)
    → Prepares (Err fault) n (cdc_outcome words stamp n i [] (files_at n v)) (world (Some v) out err)
    (world (Some v) out err)
not_read words stamp (Refused refusal) n i v out err sfile reads =
    (outcome_seen words stamp n i [] v (Err refusal) sfile reads, unmade n [] v (Some v) out err (λ k h. refl))
not_read words stamp Memory n i v out err sfile reads = unmade n _ v (Some v) out err (λ k h. refl)
not_read words stamp ReadFault n i v out err sfile reads = absurd reads
not_read words stamp WriteFault n i v out err sfile reads = absurd reads
not_read words stamp DiskFault n i v out err sfile reads = unmade n _ v (Some v) out err (λ k h. refl)

pub read_fails : (words : CdcWords) (stamp : Stamp) (fault : StepFault) (n : List ℕ) (left : Option (List ℕ))
    (o o2 : Option View) (out err : Option (List ℕ)) → IsSFileName n → o2 ≡ o
    → IfSome o (λ (v : View). ReadsSfile n v (Err fault))
    → PreparesChange (cdc_change words stamp) (Err fault) n left (world o out err) (world o2 out err)
read_fails words stamp fault n left None o2 out err sfile same reads = tt
read_fails words stamp fault n left (Some v) o2 out err sfile same reads = λ i heard.
    subst (λ (w : Option View). Prepares (Err fault) n (cdc_outcome words stamp n i [] (files_at n v))
    (world (Some v) out err) (world w out err)) (sym same) (not_read words stamp fault n i v out err sfile reads)

-- ---- the file that was read

pub read_ok : (r : Result Parsed FileFault) (parsed : Parsed) → or_refusal r ≡ Ok parsed → r ≡ Ok parsed
read_ok (Ok p) parsed is = let same : p ≡ parsed = cc in ap (λ (x : Parsed). Ok x) same
read_ok (Err fault) parsed is = absurd cc

-- What is known of an s-file that was read.
record HasFile (n : List ℕ) (v : View) (front : Front) (parsed : Parsed) : Type 0 where
  old : Content
  s : v n ≡ Some old
  header : front.header ≡ parsed.header
  front_is : IsFrontFor old.bytes front
  items : items_of old.bytes front ≡ Ok parsed.items
  whole : file_of old.bytes ≡ Ok parsed

has_file_at : (n : List ℕ) (v : View) (front : Front) (parsed : Parsed) (o : Option Content) → v n ≡ o
    → ShowsUnsummed (bytes_at o) parsed front → answer file_of (bytes_at o) ≡ Ok parsed → HasFile n v front parsed
has_file_at n v front parsed None s shows read = absurd shows
has_file_at n v front parsed (Some c) s shows read = record {
  old = c;
  s = s;
  header = shows.0;
  front_is = shows.2;
  items = shows.1;
  whole = answer_read false c.bytes parsed read;
}

has_file : (n : List ℕ) (v : View) (front : Front) → (reads : ReadsSfile n v (Ok front)) → HasFile n v front reads.0
has_file n v front reads = has_file_at n v front reads.0 (v n) refl reads.1
    (read_ok (answer file_of (bytes_at (v n))) reads.0 reads.2)

-- what writing says of a told file
abbrev pub Writes : CdcWords → Stamp → List ℕ → Front → Result Prepared StepFault → Told → Option View → Type 0
Writes words stamp n front r a new =
    (file : List ℕ) (items : List Item) → bytes_in (seen a) n ≡ Some file → IsFrontFor file front
    → items_of file front ≡ Ok items → Alters r (changed_header words stamp front.header) items n (seen a) new

-- what was made of the header that was read
made_at : (words : CdcWords) (stamp : Stamp) (n : List ℕ) (v : View) (front : Front) (r : Result Prepared StepFault)
    (a : Told) (new : Option View) → seen a ≡ Some v → (reads : ReadsSfile n v (Ok front))
    → Writes words stamp n front r a new
    → Alters r (changed_header words stamp reads.0.header) reads.0.items n (Some v) new
made_at words stamp n v front r a new here reads writes =
    let f = has_file n v front reads in
    subst (λ (o : Option View). Alters r (changed_header words stamp reads.0.header) reads.0.items n o new) here
    (subst (λ (h : Header). Alters r (changed_header words stamp h) reads.0.items n (seen a) new) f.header
    (writes f.old.bytes reads.0.items (bytes_seen n v (seen a) f.old here f.s) f.front_is f.items))

-- ---- the x-file is written

made_outcome : (words : CdcWords) (stamp : Stamp) (n i : List ℕ) (v : View) (front : Front)
    (made : Result Header Refusal) → IsSFileName n → (reads : ReadsSfile n v (Ok front))
    → changed_header words stamp reads.0.header ≡ made
    → cdc_outcome words stamp n i [] (files_at n v) ≡ from_header reads.0.items (files_at n v) made
made_outcome words stamp n i v front made sfile reads is = outcome_seen words stamp n i [] v (Ok reads.0) sfile reads.2
    ∙ ap (from_header reads.0.items (files_at n v)) is

prepared_at : (words : CdcWords) (stamp : Stamp) (r : Result Prepared StepFault) (n i : List ℕ) (v : View)
    (front : Front) (o2 : Option View) (out err : Option (List ℕ)) → IsSFileName n → (reads : ReadsSfile n v (Ok front))
    → IfOk r IsNewSfile → Moves (bytes_eq (x_file n)) (λ u. u) (Some v) o2
    → Alters r (changed_header words stamp reads.0.header) reads.0.items n (Some v) o2
    → Prepares r n (cdc_outcome words stamp n i [] (files_at n v)) (world (Some v) out err) (world o2 out err)
prepared_at words stamp (Ok p) n i v front o2 out err sfile reads is_new moves alters =
    let f : Files = files_at n v in
    let c : Content = sealed alters.0 reads.0.items in
    record {
      effect = record { new = files_of (Some c) f.p f.g f.l; text = []; out = []; err = []; status = 0 };
      is = made_outcome words stamp n i v front (Ok alters.0) sfile reads alters.1;
      status = refl;
      report = sym is_new.report;
      message = sym is_new.message;
      view = moves_wider (bytes_eq (x_file n)) (is_working n) (Some v) o2 (no_x n) moves;
      working = x_alone n p (Some v) o2 is_new.s moves;
      files = subst (λ (o : Option View). IfSome o (λ u. files_of (Some c) f.p f.g f.l ≡ Some
          (files_after n (plan_of p) u))) (sym alters.2) (new_files n c v p sfile is_new);
      out = gives_none out;
    }
prepared_at words stamp (Err (Refused refusal)) n i v front o2 out err sfile reads is_new moves alters =
    (made_outcome words stamp n i v front (Err refusal) sfile reads alters, unmade n [] v o2 out err moves)
prepared_at words stamp (Err Memory) n i v front o2 out err sfile reads is_new moves alters =
    unmade n _ v o2 out err moves
prepared_at words stamp (Err ReadFault) n i v front o2 out err sfile reads is_new moves alters = absurd alters
prepared_at words stamp (Err WriteFault) n i v front o2 out err sfile reads is_new moves alters = absurd alters
prepared_at words stamp (Err DiskFault) n i v front o2 out err sfile reads is_new moves alters =
    unmade n _ v o2 out err moves

pub read_prepares : (words : CdcWords) (stamp : Stamp) (r : Result Prepared StepFault) (n : List ℕ)
    (left : Option (List ℕ)) (front : Front) (o : Option View) (a b : Told) (out err : Option (List ℕ)) → IsSFileName n
    → seen a ≡ o → IfSome o (λ (v : View). ReadsSfile n v (Ok front)) → IfOk r IsNewSfile
    → Moves (bytes_eq (x_file n)) (λ u. u) (seen a) (seen b) → Writes words stamp n front r a (seen b)
    → PreparesChange (cdc_change words stamp) r n left (world o out err) (world (seen b) out err)
read_prepares words stamp r n left front None a b out err sfile here reads is_new moves writes = tt
read_prepares words stamp r n left front (Some v) a b out err sfile here reads is_new moves writes = λ i heard.
    prepared_at words stamp r n i v front (seen b) out err sfile reads is_new
    (subst (λ (o : Option View). Moves (bytes_eq (x_file n)) (λ u. u) o (seen b)) here moves)
    (made_at words stamp n v front r a (seen b) here reads writes)

-- ---- what may come

pub read_speaks : (r : Result Prepared StepFault) → IfOk r IsNewSfile → RefusesWithin cdc_checks r
    → CouldPrepare (quiet_checks cdc_checks) r
read_speaks (Ok p) is_new within = (
  record { new = None; text = []; out = []; err = []; status = 0 },
  refl,
  refl,
  sym is_new.message,
)
read_speaks (Err (Refused refusal)) is_new within = within refusal refl
read_speaks (Err Memory) is_new within = tt
read_speaks (Err ReadFault) is_new within = tt
read_speaks (Err WriteFault) is_new within = tt
read_speaks (Err DiskFault) is_new within = tt

-- ---- entries

pub read_settles : (words : CdcWords) (stamp : Stamp) (r : Result Prepared StepFault) (n : List ℕ) (front : Front)
    (o : Option View) (a b : Told) → IsSFileName n → seen a ≡ o → IsHeader front.header → IsSpelled front.header
    → IfSome o (λ (v : View). ReadsSfile n v (Ok front)) → IfOk r IsNewSfile → IfOk r (λ p. HasLines words stamp)
    → Moves (bytes_eq (x_file n)) (λ u. u) (seen a) (seen b) → Writes words stamp n front r a (seen b)
    → IfOk r (λ p. SettlesEntries n p b)
read_settles words stamp (Err fault) n front o a b sfile here rules spelled reads is_new lines moves writes = tt
read_settles words stamp (Ok p) n front None a b sfile here rules spelled reads is_new lines moves writes =
    settles_none n p a b here moves
read_settles words stamp (Ok p) n front (Some v) a b sfile here rules spelled reads is_new lines moves writes =
    let f = has_file n v front reads in
    let made = made_at words stamp n v front (Ok p) a (seen b) here reads writes in
    changed_settles words stamp n reads.0.header made.0 reads.0.items p v f.old b sfile is_new lines f.s
    (subst IsHeader f.header rules) (subst IsSpelled f.header spelled) f.whole made.1 made.2
