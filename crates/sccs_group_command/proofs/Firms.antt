-- What is prepared of entries stays firm.
use Rattle.std.proofs.Common.{◌≡◌, ◌+◌, ℕ, zero, suc, Bool, false, List, [], ◌∷◌, ◌++◌, drop, take, sym, subst, ◌∙◌}
use Rattle.std.specs.List.{AllByRecursion}
use Rattle.std.specs.Str.{bytes_eq}
use Rattle.sccs_base.specs.Name.{IsSFileName, q_file, x_file}
use Rattle.sccs_base.proofs.SameBytes.{bytes_eq_sym}
use Rattle.sccs_disk.specs.Files.{Model}
use Rattle.sccs_disk.specs.Images.{IsFirm}
use Rattle.sccs_disk.specs.Told.{Told}
use Rattle.sccs_name_files.specs.StepFiles.{is_left}
use Rattle.sccs_name_files.specs.Touches.{Leaves, Touches, Touching, TouchesOnly, earlier, newest}
use Rattle.sccs_name_files.proofs.Touched.{each_newest, firm_touched, only_then, only_wider}
use Rattle.sccs_crash_points.proofs.FileNames.{left_q, left_x}
use Rattle.sccs_store.specs.Stops.{OnReplace}
use Rattle.sccs_store.specs.declared.new_files.NewFile.{NewFile}
use Rattle.sccs_store.specs.declared.new_files.NewFile.TheVariants.{Keep, Replace, Remove}
use Rattle.sccs_changes.specs.Changes.{plan_of}
use Rattle.sccs_changes.specs.Stops.{IsFirmPrepared}
use Rattle.sccs_changes.specs.declared.prepared.Prepared.{Prepared}
use Rattle.sccs_group_command.specs.declared.entries.GroupEntry.{GroupEntry}
use Rattle.sccs_group_command.specs.GroupStep.{names_of}
use Rattle.sccs_group_command.specs.Preparing.{AreDifferent, AreFirm, IsAdded, IsNamed, is_among, is_any_left}
use Rattle.sccs_group_command.specs.Preparing.{made_names}
use Rattle.sccs_group_command.specs.declared.prepared_entries.PreparedEntry.{PreparedEntry}
use Rattle.sccs_group_command.proofs.Backs.{left_of}
use Rattle.sccs_group_command.proofs.Losing.{one_model}
use Rattle.sccs_group_command.proofs.SoFars.{different_at}
use Rattle.sccs_base.proofs.Bools.{right_false, left_false}
use Rattle.sccs_changes.proofs.StopEnds.{firm_from as later_from}

-- ---- one name

-- behind calls before it
pub firm_from : (n : List ℕ) (p : Prepared) (mine : List ℕ → Bool) (a b d : Told) → TouchesOnly mine a b
    → IsFirmPrepared n p b d → IsFirmPrepared n p a d
firm_from n p mine a b d touches firm =
    record {
      x_state = later_from (plan_of p).s (x_file n) mine a b d touches firm.x_state;
      q_state =
          later_from (plan_of p).p (q_file n) mine a b d touches firm.q_state;
    }

-- and calls behind it that touch other files leave it so
still : (k : List ℕ) (first mine : List ℕ → Bool) (a b d : Told) → TouchesOnly first a b → TouchesOnly mine b d
    → mine k ≡ false → Leaves (IsFirm k) a b → Leaves (IsFirm k) a d
still k first mine a b d before touches out firm = λ m past is m2 past2 is2.
    let one : Touching first m past b = before m past is in
    let mid : Model = newest one.added m in
    let two : Touching mine mid (earlier one.added m past) d = touches mid (earlier one.added m past) one.is in
    subst (λ (x : Model). IsFirm k x) (one_model d (newest two.added mid) m2
    (earlier two.added mid (earlier one.added m past)) past2 two.is is2)
    (firm_touched mine mid (newest two.added mid) k (each_newest (Touches mine mid) two.added mid two.each) out
    (firm m past is mid (earlier one.added m past) one.is))

still_where : (new : NewFile) (k : List ℕ) (first mine : List ℕ → Bool) (a b d : Told) → TouchesOnly first a b
    → TouchesOnly mine b d → mine k ≡ false → OnReplace new (Leaves (IsFirm k) a b)
    → OnReplace new (Leaves (IsFirm k) a d)
still_where Keep k first mine a b d before touches out firm = tt
still_where Replace k first mine a b d before touches out firm = still k first mine a b d before touches out firm
still_where Remove k first mine a b d before touches out firm = tt

-- ---- all names

all_still : (made : List PreparedEntry) (n : List ℕ) (first : List ℕ → Bool) (a b d : Told) → IsSFileName n
    → AllByRecursion IsNamed (made_names made) → is_among (made_names made) n ≡ false → TouchesOnly first a b
    → TouchesOnly (is_left n) b d → AreFirm made a b → AreFirm made a d
all_still [] n first a b d sfile named apart before touches firm = tt
all_still (x ∷ made) n first a b d sfile named apart before touches firm =
    let other : bytes_eq n x.name ≡ false = bytes_eq_sym n x.name ∙ left_false _ _ apart in (
      record {
        x_state = still_where (plan_of x.prepared).s (x_file x.name) first (is_left n) a b d before touches
            (left_x n x.name sfile named.0.1 other) firm.0.x_state;
        q_state = still_where (plan_of x.prepared).p (q_file x.name) first (is_left n) a b d before touches
            (left_q n x.name sfile named.0.1 other) firm.0.q_state;
      },
      all_still made n first a b d sfile named.1 (right_false _ _ apart) before touches firm.1,
    )

firm_more : (made : List PreparedEntry) (x : PreparedEntry) (a d : Told) → AreFirm made a d
    → IsFirmPrepared x.name x.prepared a d → AreFirm (made ++ x ∷ []) a d
firm_more [] x a d firm one = (one, tt)
firm_more (y ∷ made) x a d firm one = (firm.0, firm_more made x a d firm.1 one)

-- one entry more
pub firm_added : (es : List GroupEntry) (i : ℕ) (e : GroupEntry) (made all : List PreparedEntry) (first : List ℕ → Bool)
    (a b d : Told) → AreDifferent (names_of es) → drop i es ≡ e ∷ drop (i + 1) es → made_names made ≡ names_of
    (take i es) → AllByRecursion IsNamed (made_names made)
    → TouchesOnly first a b → TouchesOnly (is_left e.name) b d → IsAdded e.name made all b d → AreFirm made a b
    → AreFirm all a d
firm_added es i e made all first a b d different at names named before touches added firm =
    let apart : is_among (made_names made) e.name ≡ false = subst (λ (ns : List (List ℕ)). is_among ns e.name ≡ false)
    (sym names) (different_at es i e (drop (i + 1) es) different at).0 in
    subst (λ (l : List PreparedEntry). AreFirm l a d) (sym added.is)
    (firm_more made (record { name = e.name; prepared = added.prepared }) a d
    (all_still made e.name first a b d added.entry.named.1 named apart before touches firm)
    (firm_from e.name added.prepared first a b d before added.entry.firm))

-- ---- what is touched

pub touches_next : (es : List GroupEntry) (i : ℕ) (e : GroupEntry) (a b d : Told) → drop i es ≡ e ∷ drop (i + 1) es
    → TouchesOnly (is_any_left (names_of es)) a b → TouchesOnly (is_left e.name) b d
    → TouchesOnly (is_any_left (names_of es)) a d
touches_next es i e a b d at before touches = only_then (is_any_left (names_of es)) a b d before
    (only_wider (is_left e.name) (is_any_left (names_of es)) b d (λ k h. (left_of es i e (drop (i + 1) es) k at h).1)
    touches)

-- those before an entry that failed are given up
pub touches_back : (es : List GroupEntry) (i : ℕ) (e : GroupEntry) (ns : List (List ℕ)) (a b d f : Told)
    → drop i es ≡ e ∷ drop (i + 1) es → ns ≡ names_of (take i es) → TouchesOnly (is_any_left (names_of es)) a b
    → TouchesOnly (is_left e.name) b d → TouchesOnly (is_any_left ns) d f
    → TouchesOnly (is_any_left (names_of es)) a f
touches_back es i e ns a b d f at names before touches back =
    only_then (is_any_left (names_of es)) a d f (touches_next es i e a b d at before touches)
    (only_wider (is_any_left ns) (is_any_left (names_of es)) d f (λ k h. subst (λ (l : List (List ℕ)). is_any_left l k
    ≡ false) (sym names) (left_of es i e (drop (i + 1) es) k at h).0) back)

left_at : (made : List PreparedEntry) (i : ℕ) (x : PreparedEntry) (rest : List PreparedEntry) (k : List ℕ)
    → drop i made ≡ x ∷ rest → is_any_left (made_names made) k ≡ false → is_left x.name k ≡ false
left_at [] zero x rest k is h = absurd (cc)
left_at [] (suc i) x rest k is h = absurd (cc)
left_at (a ∷ made) zero x rest k is h = subst (λ (l : List PreparedEntry). is_any_left (made_names l) k ≡ false
    → is_left x.name k ≡ false) (sym is) (λ out. left_false (is_left x.name k) _ out) h
left_at (a ∷ made) (suc i) x rest k is h = left_at made i x rest k is (right_false (is_left a.name k) _ h)

pub abandoned_touches : (made : List PreparedEntry) (i : ℕ) (x : PreparedEntry) (a b d : Told)
    → drop i made ≡ x ∷ drop (i + 1) made → TouchesOnly (is_any_left (made_names made)) a b
    → TouchesOnly (is_left x.name) b d → TouchesOnly (is_any_left (made_names made)) a d
abandoned_touches made i x a b d at before touches = only_then (is_any_left (made_names made)) a b d before
    (only_wider (is_left x.name) (is_any_left (made_names made)) b d (λ k h. left_at made i x (drop (i + 1) made) k at
    h) touches)
