-- What admin prepares of an s-file that is there, from its two parts.
use Rattle.std.proofs.Common.{◌≡◌, ℕ, Bool, List, [], map, Option, None, Some, IfOk, IfSome, Result, Ok, Err, refl, sym}
use Rattle.std.proofs.Common.{ap, subst, ◌∙◌}
use Rattle.std.specs.Str.{bytes_eq}
use Rattle.sccs_base.specs.Name.{IsSFileName, x_file}
use Rattle.sccs_base.proofs.Gifts.{gives_none}
use Rattle.sccs_disk.specs.Files.{Content, View}
use Rattle.sccs_disk.specs.Told.{Told, seen}
use Rattle.sccs_name_files.specs.StepFiles.{Files, Moves, is_working, look}
use Rattle.sccs_sid.specs.Reading.{◌>>=◌}
use Rattle.sccs_sid.specs.declared.refusals.Refusal.{Refusal}
use Rattle.sccs_sid.specs.declared.refusals.StepFault.{StepFault}
use Rattle.sccs_sid.specs.declared.refusals.StepFault.TheVariants.{Refused, Memory, ReadFault, WriteFault, DiskFault}
use Rattle.sccs_grammar.specs.File.{Parsed, answer}
use Rattle.sccs_grammar.specs.FileRefusals.{or_refusal}
use Rattle.sccs_grammar.specs.declared.faults.FileFault.{FileFault}
use Rattle.sccs_history.specs.History.{IsHeader, IsSpelled}
use Rattle.sccs_history.specs.declared.headers.Header.{Header}
use Rattle.sccs_history.specs.declared.headers.Item.{Item}
use Rattle.sccs_table.specs.FrontFile.{IsPlaced}
use Rattle.sccs_table.specs.ReaderState.{bytes_in}
use Rattle.sccs_body.specs.AnySum.{ShowsUnsummed}
use Rattle.sccs_body.specs.BodyFile.{items_of}
use Rattle.sccs_body.specs.ToCome.{IsFrontFor}
use Rattle.sccs_crash_points.proofs.FileNames.{no_x}
use Rattle.sccs_changes.specs.Pending.{bytes_at}
use Rattle.sccs_steps.specs.Actions.{RefusesWithin, quiet_checks}
use Rattle.sccs_steps.specs.Calls.{world}
use Rattle.sccs_steps.specs.StepEffects.{Outcome}
use Rattle.sccs_store.specs.Commits.{files_after}
use Rattle.sccs_store.specs.Stops.{KeepsEntries}
use Rattle.sccs_steps.specs.StepStops.{ArePaired, IsPaired}
use Rattle.sccs_crash_points.specs.Recovery.{IsSound}
use Rattle.sccs_store.specs.SealedFiles.{sealed}
use Rattle.sccs_store.proofs.Working.{moves_wider}
use Rattle.sccs_changes.specs.Changes.{CouldPrepare, Prepares, PreparesChange, plan_of, unlocked}
use Rattle.sccs_changes.specs.Stops.{SettlesEntries}
use Rattle.sccs_changes.specs.declared.prepared.Prepared.{Prepared}
use Rattle.sccs_changes.proofs.Taken.{x_alone}
use Rattle.sccs_words.specs.declared.commands.AdminWords.{AdminWords}
use Rattle.sccs_admin.specs.AdminStep.{makes}
use Rattle.sccs_admin.specs.Parts.{IsNewSfile}
use Rattle.sccs_admin.specs.Texts.{named_by}
use Rattle.sccs_admin.proofs.PrepareLaws.{files_of, new_files, s_unlocked, unmade}
use Rattle.sccs_alter.specs.AlterStep.{WasRead, alter_change, alter_checks, alter_outcome, altered_header, file_read}
use Rattle.sccs_alter.specs.AlterStep.{description_text, read_file}
use Rattle.sccs_alter.specs.Parts.{Alters, ReadsAt}
use Rattle.sccs_alter.specs.declared.reading.Read.{Read}
use Rattle.sccs_admin.proofs.RuleLaws.{passed}
use Rattle.sccs_alter.proofs.ReadLaws.{is_there}
use Rattle.sccs_alter.proofs.StopLaws.{altered_settles, answer_read}

-- ---- the step, part by part

-- the files that -t names, as they were before the lock
abbrev pub named_at : AdminWords → List ℕ → View → List (Option Content)
named_at words n v = map (unlocked n v) (named_by words.description)

-- the step, from what was read
abbrev from_read : AdminWords → Files → WasRead → Outcome
from_read words f r = altered_header words r.parsed.header r.text >>= λ header. makes (sealed header r.parsed.items) f

abbrev from_header : WasRead → Files → Result Header Refusal → Outcome
from_header r f made = made >>= λ header. makes (sealed header r.parsed.items) f

read_outcome : (words : AdminWords) (n i : List ℕ) (named : List (Option Content)) (f : Files) (r : WasRead)
    → read_file words named f.s ≡ Ok r → alter_outcome words n i named f ≡ from_read words f r
unfolding alter_outcome
read_outcome words n i named f r is = rw is refl

refused_outcome : (words : AdminWords) (n i : List ℕ) (named : List (Option Content)) (f : Files) (refusal : Refusal)
    → read_file words named f.s ≡ Err refusal → alter_outcome words n i named f ≡ Err refusal
unfolding alter_outcome
refused_outcome words n i named f refusal is = rw is refl

-- what was read, as the step sees it
as_seen : (words : AdminWords) (n : List ℕ) (v : View) (r : Result WasRead Refusal) → IsSFileName n
    → read_file words (named_at words n v) (v n) ≡ r → read_file words (named_at words n v) (look (unlocked n v) n).s
    ≡ r
as_seen words n v r sfile is = ap (λ (o : Option Content). read_file words (named_at words n v) o)
    (s_unlocked n v sfile) ∙ is

-- ---- nothing was read

not_read : (words : AdminWords) (fault : StepFault) (n i : List ℕ) (v : View) (out err : Option (List ℕ))
    → IsSFileName n → ReadsAt words n v (Err fault)
    → Prepares (Err fault) n (alter_outcome words n i (named_at words n v) (look (unlocked n v) n))
    (world (Some v) out err) (world (Some v) out err)
not_read words (Refused refusal) n i v out err sfile reads = (
  refused_outcome words n i _ (look (unlocked n v) n) refusal (as_seen words n v (Err refusal) sfile reads),
  unmade n [] v (Some v) out err (λ k h. refl),
)
not_read words Memory n i v out err sfile reads = unmade n _ v (Some v) out err (λ k h. refl)
not_read words ReadFault n i v out err sfile reads = absurd reads
not_read words WriteFault n i v out err sfile reads = absurd reads
not_read words DiskFault n i v out err sfile reads = unmade n _ v (Some v) out err (λ k h. refl)

pub read_fails : (words : AdminWords) (fault : StepFault) (n : List ℕ) (left : Option (List ℕ)) (o o2 : Option View)
    (out err : Option (List ℕ)) → IsSFileName n → o2 ≡ o → IfSome o (λ v. ReadsAt words n v (Err fault))
    → PreparesChange (alter_change words) (Err fault) n left (world o out err) (world o2 out err)
read_fails words fault n left None o2 out err sfile same reads = tt
read_fails words fault n left (Some v) o2 out err sfile same reads = λ i heard.
    subst (λ (w : Option View). Prepares (Err fault) n (alter_outcome words n i (named_at words n v)
    (look (unlocked n v) n)) (world (Some v) out err) (world w out err)) (sym same)
    (not_read words fault n i v out err sfile reads)

-- ---- the file that was read

same_read : (r : Result WasRead Refusal) (a b : WasRead) → r ≡ Ok a → r ≡ Ok b → a ≡ b
same_read r a b first second = cc

file_by : (text : List ℕ) (r : WasRead) (read : Result Parsed FileFault)
    → (or_refusal read >>= λ parsed. Ok (record { parsed = parsed; text = text })) ≡ Ok r → read ≡ Ok r.parsed
file_by text r (Ok parsed) is = ap (λ (x : WasRead). Ok x.parsed)
    (same_read (Ok (record { parsed = parsed; text = text })) (record { parsed = parsed; text = text }) r refl is)
file_by text r (Err fault) is = absurd cc

pub parsed_of : (words : AdminWords) (named : List (Option Content)) (s : Option Content) (r : WasRead)
    → read_file words named s ≡ Ok r → answer (file_read words.fix) (bytes_at s) ≡ Ok r.parsed
unfolding read_file
parsed_of words named s r is =
    let there = passed (is_there s) _ r is in
    let text = passed (description_text words.description named) _ r there.2 in
    file_by text.0 r (answer (file_read words.fix) (bytes_at s)) text.2

-- What is known of an s-file that was read.
record HasFile (fix : Bool) (n : List ℕ) (v : View) (x : Read) (parsed : Parsed) : Type 0 where
  old : Content
  s : v n ≡ Some old
  header : x.front.header ≡ parsed.header
  front : IsFrontFor old.bytes x.front
  items : items_of old.bytes x.front ≡ Ok parsed.items
  whole : file_read fix old.bytes ≡ Ok parsed

has_file_at : (fix : Bool) (n : List ℕ) (v : View) (x : Read) (parsed : Parsed) (o : Option Content) → v n ≡ o
    → ShowsUnsummed (bytes_at o) parsed x.front → answer (file_read fix) (bytes_at o) ≡ Ok parsed
    → HasFile fix n v x parsed
has_file_at fix n v x parsed None s shows read = absurd shows
has_file_at fix n v x parsed (Some c) s shows read = record {
  old = c;
  s = s;
  header = shows.0;
  front = shows.2;
  items = shows.1;
  whole = answer_read fix c.bytes parsed read;
}

has_file : (words : AdminWords) (n : List ℕ) (v : View) (x : Read) → (reads : ReadsAt words n v (Ok x))
    → HasFile words.fix n v x reads.0
has_file words n v x reads = has_file_at words.fix n v x reads.0 (v n) refl reads.1
    (parsed_of words (named_at words n v) (v n) (record { parsed = reads.0; text = x.text }) reads.2)

-- what writing says of a told file
abbrev pub Writes : AdminWords → List ℕ → Read → Result Prepared StepFault → Told → Option View → Type 0
Writes words n x r a new =
    (file : List ℕ) (items : List Item) → bytes_in (seen a) n ≡ Some file → IsFrontFor file x.front
    → items_of file x.front ≡ Ok items → Alters r (altered_header words x.front.header x.text) items n (seen a) new

pub bytes_seen : (n : List ℕ) (v : View) (o : Option View) (c : Content) → o ≡ Some v → v n ≡ Some c
    → bytes_in o n ≡ Some c.bytes
bytes_seen n v o c is at = ap (λ (w : Option View). bytes_in w n) is ∙ ap bytes_at at

-- what was made of the header that was read
made_at : (words : AdminWords) (n : List ℕ) (v : View) (x : Read) (r : Result Prepared StepFault) (a : Told)
    (new : Option View) → seen a ≡ Some v → IsPlaced x.front → (reads : ReadsAt words n v (Ok x))
    → Writes words n x r a new
    → Alters r (altered_header words reads.0.header x.text) reads.0.items n (Some v) new
made_at words n v x r a new here placed reads writes =
    let f = has_file words n v x reads in
    subst (λ (o : Option View). Alters r (altered_header words reads.0.header x.text) reads.0.items n o new) here
    (subst (λ (h : Header). Alters r (altered_header words h x.text) reads.0.items n (seen a) new) f.header
    (writes f.old.bytes reads.0.items (bytes_seen n v (seen a) f.old here f.s) f.front f.items))

-- ---- the x-file is written

prepared_at : (words : AdminWords) (r : Result Prepared StepFault) (n i : List ℕ) (v : View) (x : Read)
    (o2 : Option View) (out err : Option (List ℕ)) → IsSFileName n → (reads : ReadsAt words n v (Ok x))
    → IfOk r IsNewSfile → Moves (bytes_eq (x_file n)) (λ u. u) (Some v) o2
    → Alters r (altered_header words reads.0.header x.text) reads.0.items n (Some v) o2
    → Prepares r n (alter_outcome words n i (named_at words n v) (look (unlocked n v) n)) (world (Some v) out err)
    (world o2 out err)
prepared_at words (Ok p) n i v x o2 out err sfile reads is_new moves alters =
    let f : Files = look (unlocked n v) n in
    let c : Content = sealed alters.0 reads.0.items in
    record {
      effect = record { new = files_of (Some c) f.p f.g f.l; text = []; out = []; err = []; status = 0 };
      is = read_outcome words n i _ f (record { parsed = reads.0; text = x.text })
          (as_seen words n v (Ok (record { parsed = reads.0; text = x.text })) sfile reads.2)
          ∙ ap (from_header (record { parsed = reads.0; text = x.text }) f) alters.1;
      status = refl;
      report = sym is_new.report;
      message = sym is_new.message;
      view = moves_wider (bytes_eq (x_file n)) (is_working n) (Some v) o2 (no_x n) moves;
      working = x_alone n p (Some v) o2 is_new.s moves;
      files = subst (λ (o : Option View). IfSome o (λ u. files_of (Some c) f.p f.g f.l ≡ Some
          (files_after n (plan_of p) u))) (sym alters.2) (new_files n c v p sfile is_new);
      out = gives_none out;
    }
prepared_at words (Err (Refused refusal)) n i v x o2 out err sfile reads is_new moves alters = (
  read_outcome words n i _ (look (unlocked n v) n) (record { parsed = reads.0; text = x.text })
      (as_seen words n v (Ok (record { parsed = reads.0; text = x.text })) sfile reads.2)
      ∙ ap (from_header (record { parsed = reads.0; text = x.text }) (look (unlocked n v) n)) alters,
  unmade n [] v o2 out err moves,
)
prepared_at words (Err Memory) n i v x o2 out err sfile reads is_new moves alters = unmade n _ v o2 out err moves
prepared_at words (Err ReadFault) n i v x o2 out err sfile reads is_new moves alters = absurd alters
prepared_at words (Err WriteFault) n i v x o2 out err sfile reads is_new moves alters = absurd alters
prepared_at words (Err DiskFault) n i v x o2 out err sfile reads is_new moves alters = unmade n _ v o2 out err moves

pub read_prepares : (words : AdminWords) (r : Result Prepared StepFault) (n : List ℕ) (left : Option (List ℕ))
    (x : Read) (o : Option View) (a b : Told) (out err : Option (List ℕ)) → IsSFileName n → seen a ≡ o
    → IsPlaced x.front → IfSome o (λ v. ReadsAt words n v (Ok x)) → IfOk r IsNewSfile
    → Moves (bytes_eq (x_file n)) (λ u. u) (seen a) (seen b) → Writes words n x r a (seen b)
    → PreparesChange (alter_change words) r n left (world o out err) (world (seen b) out err)
read_prepares words r n left x None a b out err sfile here placed reads is_new moves writes = tt
read_prepares words r n left x (Some v) a b out err sfile here placed reads is_new moves writes = λ i heard.
    prepared_at words r n i v x (seen b) out err sfile reads is_new
    (subst (λ (o : Option View). Moves (bytes_eq (x_file n)) (λ u. u) o (seen b)) here moves)
    (made_at words n v x r a (seen b) here placed reads writes)

-- ---- what may come

pub read_speaks : (r : Result Prepared StepFault) → IfOk r IsNewSfile → RefusesWithin alter_checks r
    → CouldPrepare (quiet_checks alter_checks) r
read_speaks (Ok p) is_new within = (
  record { new = None; text = []; out = []; err = []; status = 0 },
  refl,
  refl,
  sym is_new.message,
)
read_speaks (Err (Refused refusal)) is_new within = within refusal refl
read_speaks (Err Memory) is_new within = tt
read_speaks (Err ReadFault) is_new within = tt
read_speaks (Err WriteFault) is_new within = tt
read_speaks (Err DiskFault) is_new within = tt

-- ---- entries

pub settles_none : (n : List ℕ) (p : Prepared) (a b : Told) → seen a ≡ None → Moves (bytes_eq (x_file n)) (λ u. u)
    (seen a) (seen b) → SettlesEntries n p b
settles_none n p a b here moves = by (seen a) (seen b) here moves
  where
    by : (o o2 : Option View) → o ≡ None → Moves (bytes_eq (x_file n)) (λ u. u) o o2 → IfSome o2 (λ v. IsPaired n v
        → IsSound n v → KeepsEntries n (plan_of p) v × ArePaired (files_after n (plan_of p) v).s
        (files_after n (plan_of p) v).p)
    by None None is moved = tt
    by None (Some u) is moved = absurd cc
    by (Some v) o2 is moved = absurd cc

pub read_settles : (words : AdminWords) (r : Result Prepared StepFault) (n : List ℕ) (x : Read) (o : Option View)
    (a b : Told) → IsSFileName n → seen a ≡ o → IsPlaced x.front → IsHeader x.front.header → IsSpelled x.front.header
    → IfSome o (λ v. ReadsAt words n v (Ok x)) → IfOk r IsNewSfile
    → Moves (bytes_eq (x_file n)) (λ u. u) (seen a) (seen b) → Writes words n x r a (seen b)
    → IfOk r (λ p. SettlesEntries n p b)
read_settles words (Err fault) n x o a b sfile here placed rules spelled reads is_new moves writes = tt
read_settles words (Ok p) n x None a b sfile here placed rules spelled reads is_new moves writes =
    settles_none n p a b here moves
read_settles words (Ok p) n x (Some v) a b sfile here placed rules spelled reads is_new moves writes =
    let f = has_file words n v x reads in
    let made = made_at words n v x (Ok p) a (seen b) here placed reads writes in
    altered_settles words.fix words n x.text reads.0.header made.0 reads.0.items p v f.old b sfile is_new f.s
    (subst IsHeader f.header rules) (subst IsSpelled f.header spelled) f.whole made.1 made.2
