-- The steps of entries behind those before them, and in views that agree in their files.
use Rattle.std.proofs.Common.{◌≡◌, ℕ, Bool, true, false, cond, List, [], ◌∷◌, ◌++◌, append_assoc, drop, Option, None}
use Rattle.std.proofs.Common.{Some, Ok, Err, refl, sym, ap, ◌∙◌}
use Rattle.std.specs.List.{AllByRecursion}
use Rattle.std.specs.Str.{bytes_eq}
use Rattle.sccs_base.specs.Name.{is_sfile_name, p_file, z_file}
use Rattle.sccs_sid.specs.declared.moments.Stamp.{Stamp}
use Rattle.sccs_sid.specs.declared.refusals.Refusal.{Refusal}
use Rattle.sccs_sid.specs.declared.refusals.Refusal.TheVariants.{BadName}
use Rattle.sccs_disk.specs.Files.{Content, View}
use Rattle.sccs_name_files.specs.StepFiles.{Files, l_file, look, moved}
use Rattle.sccs_steps.specs.StepEffects.{Outcome, StepEffect}
use Rattle.sccs_steps.specs.StepLists.{NamedStep, named_step}
use Rattle.sccs_changes.specs.Changes.{locking_step}
use Rattle.sccs_delta.specs.DeltaStep.{delta_change}
use Rattle.sccs_group_command.specs.declared.entries.GroupEntry.{GroupEntry}
use Rattle.sccs_group_command.specs.GroupStep.{EntrySteps, entry_outcome, entry_steps, go_on, put_first}

-- ---- views that agree

abbrev files_of : Option Content → Option Content → Option Content → Option Content → Option Content → Files
files_of s p z g l = record { s = s; p = p; z = z; g = g; l = l }

-- what a step sees
same_look : (n : List ℕ) (u v : View) → v n ≡ u n → v (p_file n) ≡ u (p_file n) → v (z_file n) ≡ u (z_file n)
    → v (drop 2 n) ≡ u (drop 2 n) → v (l_file n) ≡ u (l_file n) → look v n ≡ look u n
same_look n u v s p z g l =
    ap (λ (o : Option Content). files_of o (v (p_file n)) (v (z_file n)) (v (drop 2 n)) (v (l_file n))) s
    ∙ (ap (λ (o : Option Content). files_of (u n) o (v (z_file n)) (v (drop 2 n)) (v (l_file n))) p
    ∙ (ap (λ (o : Option Content). files_of (u n) (u (p_file n)) o (v (drop 2 n)) (v (l_file n))) z
    ∙ (ap (λ (o : Option Content). files_of (u n) (u (p_file n)) (u (z_file n)) o (v (l_file n))) g
    ∙ ap (λ (o : Option Content). files_of (u n) (u (p_file n)) (u (z_file n)) (u (drop 2 n)) o) l)))

-- views that agree in a file still do
moved_alike : (n k : List ℕ) (u v : View) (new : Option Files) → v k ≡ u k → moved v n new k ≡ moved u n new k
moved_alike n k u v None same = same
moved_alike n k u v (Some f) same = by (bytes_eq n k) (bytes_eq (p_file n) k) (bytes_eq (drop 2 n) k)
    (bytes_eq (z_file n) k) (bytes_eq (l_file n) k)
  where
    by : (a b c d e : Bool) → cond a f.s (cond b f.p (cond c f.g (cond d f.z (cond e f.l (v k))))) ≡ cond a f.s
        (cond b f.p (cond c f.g (cond d f.z (cond e f.l (u k)))))
    by a b c d e = ap (λ (o : Option Content). cond a f.s (cond b f.p (cond c f.g (cond d f.z (cond e f.l o))))) same

-- the entry's step sees the same in both views
abbrev pub LooksSame : View → View → GroupEntry → Type 0
LooksSame u v e = is_sfile_name e.name ≡ true → look v e.name ≡ look u e.name

pub same_outcome : (stamp : Stamp) (e : GroupEntry) (u v : View) → LooksSame u v e → entry_outcome stamp v e
    ≡ entry_outcome stamp u e
unfolding entry_outcome
same_outcome stamp e u v same = by (is_sfile_name e.name) same
  where
    by : (b : Bool) → (b ≡ true → look v e.name ≡ look u e.name)
        → cond b (locking_step (delta_change e.words stamp).outcome e.name e.script [] (look v e.name)) (Err BadName)
        ≡ cond b (locking_step (delta_change e.words stamp).outcome e.name e.script [] (look u e.name))
        (Err BadName)
    by true same = ap (λ (f : Files). locking_step (delta_change e.words stamp).outcome e.name e.script [] f)
        (same refl)
    by false same = refl

look_alike : (n k : List ℕ) (u v : View) (new : Option Files) → look v k ≡ look u k → look (moved v n new) k ≡ look
    (moved u n new) k
look_alike n k u v new same =
    same_look k (moved u n new) (moved v n new) (moved_alike n k u v new (ap (λ (f : Files). f.s) same))
    (moved_alike n (p_file k) u v new (ap (λ (f : Files). f.p) same))
    (moved_alike n (z_file k) u v new (ap (λ (f : Files). f.z) same)) (moved_alike n (drop 2 k) u v new
    (ap (λ (f : Files). f.g) same)) (moved_alike n (l_file k) u v new (ap (λ (f : Files). f.l) same))

looks_moved : (es : List GroupEntry) (n : List ℕ) (u v : View) (new : Option Files) → AllByRecursion (LooksSame u v) es
    → AllByRecursion (LooksSame (moved u n new) (moved v n new)) es
looks_moved [] n u v new all = tt
looks_moved (e ∷ es) n u v new all = (λ fits. look_alike n e.name u v new (all.0 fits), looks_moved es n u v new all.1)

go_on_same : (n : List ℕ) (o : Outcome) (f g : StepEffect → EntrySteps) → ((effect : StepEffect) → f effect ≡ g effect)
    → go_on n o f ≡ go_on n o g
go_on_same n (Ok effect) f g same = ap (λ (rest : EntrySteps). put_first (named_step n (Ok effect)) rest) (same effect)
go_on_same n (Err refusal) f g same = refl

pub steps_same : (stamp : Stamp) (es : List GroupEntry) (u v : View) → AllByRecursion (LooksSame u v) es
    → entry_steps stamp v es ≡ entry_steps stamp u es
steps_same stamp [] u v all = refl
steps_same stamp (e ∷ es) u v all =
    ap (λ (o : Outcome). go_on e.name o (λ effect. entry_steps stamp (moved v e.name effect.new) es))
    (same_outcome stamp e u v all.0)
    ∙ go_on_same e.name (entry_outcome stamp u e) (λ effect. entry_steps stamp (moved v e.name effect.new) es)
    (λ effect. entry_steps stamp (moved u e.name effect.new) es)
    (λ effect. steps_same stamp es (moved u e.name effect.new) (moved v e.name effect.new)
    (looks_moved es e.name u v effect.new all.1))

-- ---- steps before those of the rest

abbrev pub put_all : List NamedStep → EntrySteps → EntrySteps
put_all ts (Ok rest) = Ok (ts ++ rest)
put_all ts (Err e) = Err e

put_more : (ts : List NamedStep) (t : NamedStep) (rest : EntrySteps) → put_all ts (put_first t rest) ≡ put_all
    (ts ++ t ∷ []) rest
put_more ts t (Ok rest) = ap Ok (sym (append_assoc ts (t ∷ []) rest))
put_more ts t (Err e) = refl

-- the next entry is accepted, or refused
pub accepted_next : (stamp : Stamp) (ts : List NamedStep) (e : GroupEntry) (es : List GroupEntry) (t : View)
    (d : StepEffect) → entry_outcome stamp t e ≡ Ok d
    → put_all ts (entry_steps stamp t (e ∷ es)) ≡ put_all (ts ++ named_step e.name (Ok d) ∷ [])
    (entry_steps stamp (moved t e.name d.new) es)
accepted_next stamp ts e es t d is =
    ap (λ (o : Outcome). put_all ts (go_on e.name o (λ effect. entry_steps stamp (moved t e.name effect.new) es))) is
    ∙ put_more ts (named_step e.name (Ok d)) (entry_steps stamp (moved t e.name d.new) es)

pub refused_next : (stamp : Stamp) (ts : List NamedStep) (e : GroupEntry) (es : List GroupEntry) (t : View)
    (refusal : Refusal) → entry_outcome stamp t e ≡ Err refusal
    → put_all ts (entry_steps stamp t (e ∷ es)) ≡ Err (record { name = e.name; refusal = refusal })
refused_next stamp ts e es t refusal is =
    ap (λ (o : Outcome). put_all ts (go_on e.name o (λ effect. entry_steps stamp (moved t e.name effect.new) es))) is
