-- The turns of loops over entries.
use Rattle.std.proofs.Common.{◌≡◌, ◌≢◌, ◌⊎◌, ◌<◌, ◌≤◌, ◌+◌, ℕ, zero, suc, List, [], ◌∷◌, ◌++◌, drop, take, length}
use Rattle.std.proofs.Common.{get_or, Option, Result, Err, inl, inr, sym, ap, subst, ◌∙◌, arith}
use Rattle.std.proofs.lemmas.List.{drop_all, drop_more, map-append, take_all, take_more}
use Rattle.std.specs.List.{AllByRecursion}
use Rattle.sccs_base.specs.Stream.{Rose}
use Rattle.sccs_sid.specs.declared.refusals.StepFault.{StepFault}
use Rattle.sccs_sid.specs.declared.refusals.StepFault.TheVariants.{ReadFault, WriteFault, DiskFault}
use Rattle.sccs_disk.specs.Files.{View}
use Rattle.sccs_disk.specs.Told.{Told}
use Rattle.sccs_group_command.specs.GroupStep.{names_of}
use Rattle.sccs_group_command.specs.Preparing.{AllCauses, GivesAllBack, GivesBack, IsAdded, IsNamed, made_names}
use Rattle.sccs_group_command.specs.declared.entries.GroupEntry.{GroupEntry}
use Rattle.sccs_changes.specs.PFiles.{ChangesDisk}
use Rattle.sccs_group_command.specs.declared.prepared_entries.NamedFault.{NamedFault}
use Rattle.sccs_group_command.specs.declared.prepared_entries.PreparedEntry.{PreparedEntry}
use Rattle.sccs_group_command.proofs.Backs.{back_then, none_back}
use Rattle.sccs_base.proofs.Rises.{rose_later}

pub item_at : {X : Type 0} (xs : List X) (i : ℕ) (x : X) → i < length xs → x ≡ get_or xs i x
    → drop i xs ≡ x ∷ drop (i + 1) xs
item_at {X} xs i x low is = drop_more xs i x low ∙ ap (λ (y : X). y ∷ drop (i + 1) xs) (sym is)

pub front_at : {X : Type 0} (xs : List X) (i : ℕ) (x : X) → i < length xs → x ≡ get_or xs i x
    → take (i + 1) xs ≡ take i xs ++ x ∷ []
front_at {X} xs i x low is = take_more xs i x low ∙ ap (λ (y : X). take i xs ++ y ∷ []) (sym is)

-- the name at a place
pub named_at : (made : List PreparedEntry) (i : ℕ) (x : PreparedEntry) (rest : List PreparedEntry)
    → AllByRecursion IsNamed (made_names made) → drop i made ≡ x ∷ rest → IsNamed x.name
named_at [] zero x rest all is = absurd (cc)
named_at [] (suc i) x rest all is = absurd (cc)
named_at (a ∷ made) zero x rest all is = (subst (λ (l : List PreparedEntry). AllByRecursion IsNamed (made_names l)) is
    all).0
named_at (a ∷ made) (suc i) x rest all is = named_at made i x rest all.1 is

named_more : (made : List PreparedEntry) (x : PreparedEntry) → AllByRecursion IsNamed (made_names made) → IsNamed x.name
    → AllByRecursion IsNamed (made_names (made ++ x ∷ []))
named_more [] x all one = (one, tt)
named_more (a ∷ made) x all one = (all.0, named_more made x all.1 one)

-- one entry more
pub named_added : (n : List ℕ) (made all : List PreparedEntry) (a b : Told) → IsAdded n made all a b
    → AllByRecursion IsNamed (made_names made) → AllByRecursion IsNamed (made_names all)
named_added n made all a b added named =
    subst (λ (l : List PreparedEntry). AllByRecursion IsNamed (made_names l)) (sym added.is)
    (named_more made (record { name = n; prepared = added.prepared }) named added.entry.named)

pub names_added : (es : List GroupEntry) (i : ℕ) (e : GroupEntry) (made all : List PreparedEntry) (a b : Told)
    → IsAdded e.name made all a b → take (i + 1) es ≡ take i es ++ e ∷ [] → made_names made ≡ names_of (take i es)
    → made_names all ≡ names_of (take (i + 1) es)
names_added es i e made all a b added more names =
    ap made_names added.is ∙ (map-append (λ (x : PreparedEntry). x.name) made
    (record { name = e.name; prepared = added.prepared } ∷ [])
    ∙ (ap (λ (ns : List (List ℕ)). ns ++ e.name ∷ []) names
    ∙ (sym (map-append (λ (x : GroupEntry). x.name) (take i es) (e ∷ [])) ∙ ap names_of (sym more))))

pub names_whole : (es : List GroupEntry) (i : ℕ) (ns : List (List ℕ)) → length es ≤ i → ns ≡ names_of (take i es)
    → ns ≡ names_of es
names_whole es i ns high is = is ∙ ap names_of (take_all i es high)

-- a name is given up, and those behind it
pub back_on : (made : List PreparedEntry) (i : ℕ) (x : PreparedEntry) (f f2 first : StepFault) (a b c : Option View)
    → drop i made ≡ x ∷ drop (i + 1) made → GivesBack f2 f x.name a b
    → ((r : StepFault) (o : Option View) → GivesAllBack r f (made_names (drop i made)) a o
    → GivesAllBack r first (made_names made) c o) → (r : StepFault) (o : Option View)
    → GivesAllBack r f2 (made_names (drop (i + 1) made)) b o
    → GivesAllBack r first (made_names made) c o
back_on made i x f f2 first a b c at one all = λ r o rest.
    all r o (subst (λ (l : List PreparedEntry). GivesAllBack r f (made_names l) a o) (sym at)
    (back_then r f2 f x.name (made_names (drop (i + 1) made)) a b o one rest))

pub back_done : (made : List PreparedEntry) (i : ℕ) (r : StepFault) (o : Option View) → length made ≤ i
    → GivesAllBack r r (made_names (drop i made)) o o
back_done made i r o high = subst (λ (l : List PreparedEntry). GivesAllBack r r (made_names l) o o)
    (sym (drop_all i made high)) (none_back r o)

-- ---- causes

-- one call's cause, and that of the call behind it
pub cause_then : (F G : Type 0) (a b d : ℕ) → a ≤ b → (G → (F × (b ≡ a)) ⊎ Rose a b) → (G × (d ≡ b)) ⊎ Rose b d
    → (F × (d ≡ a)) ⊎ Rose a d
cause_then F G a b d low first (inl same) = by (first same.0)
  where
    by : (F × (b ≡ a)) ⊎ Rose a b → (F × (d ≡ a)) ⊎ Rose a d
    by (inl kept) = inl (kept.0, same.1 ∙ kept.1)
    by (inr rose) = inr (subst (λ count. Rose a count) (sym same.1) rose)
cause_then F G a b d low first (inr rose) = inr (rose_later a b d low rose)

pub which : (r fault : StepFault) (names : List (List ℕ)) (o o2 : Option View) → GivesAllBack r fault names o o2
    → (r ≡ fault) ⊎ (r ≡ DiskFault)
which r fault names o o2 (inl gone) = inl gone.0
which r fault names o o2 (inr broken) = inr broken.0

pub other_fault : (r fault found : StepFault) → (r ≡ fault) ⊎ (r ≡ DiskFault) → fault ≢ found → found ≢ DiskFault
    → r ≢ found
other_fault r fault found (inl same) differs disk is = differs (sym same ∙ is)
other_fault r fault found (inr broken) differs disk is = disk (sym is ∙ broken)

-- an entry failed, and those before it are given up
pub given_up_causes : {D T : Type 0} (faults : D → ℕ) (a b d e : D) (done : Result (Unit {0}) StepFault)
    (fault r : StepFault) (n : List ℕ) (names : List (List ℕ)) (o o2 : Option View) (result : Result T NamedFault)
    → faults a ≤ faults b → done ≡ Err fault
    → ChangesDisk faults b d done → faults d ≤ faults e → (r ≡ DiskFault → ((fault ≡ DiskFault) × (faults e ≡ faults d))
    ⊎ Rose (faults d) (faults e)) → GivesAllBack r fault names o o2
    → result ≡ Err (record { name = n; fault = r }) → AllCauses faults a e result
given_up_causes {D} {T} faults a b d e done fault r n names o o2 result low is one more cause gives at = record {
  later = let first = one.later in omega (arith, low, first, more);
  cause = λ stop here broke. by (cause (fault_of stop here broke));
  read = λ stop here found. other_fault r fault ReadFault (which r fault names o o2 gives)
      (λ f. one.read (is ∙ ap Err f)) (λ f. cc) (fault_of2 stop here ReadFault found);
  write = λ stop here found. other_fault r fault WriteFault (which r fault names o o2 gives)
      (λ f. one.write (is ∙ ap Err f)) (λ f. cc) (fault_of2 stop here WriteFault found);
}
  where
    the_stop : (stop : NamedFault) → result ≡ Err stop → record { name = n; fault = r } ≡ stop
    the_stop stop here = let same = sym at ∙ here in cc

    fault_of2 : (stop : NamedFault) → result ≡ Err stop → (found : StepFault) → stop.fault ≡ found → r ≡ found
    fault_of2 stop here found so = ap (λ (x : NamedFault). x.fault) (the_stop stop here) ∙ so

    fault_of : (stop : NamedFault) → result ≡ Err stop → stop.fault ≡ DiskFault → r ≡ DiskFault
    fault_of stop here so = ap (λ (x : NamedFault). x.fault) (the_stop stop here) ∙ so

    by : ((fault ≡ DiskFault) × (faults e ≡ faults d)) ⊎ Rose (faults d) (faults e) → Rose (faults a) (faults e)
    by (inl same) = subst (λ count. Rose (faults a) count) (sym same.1) (rose_later (faults a) (faults b) (faults d) low
        (one.cause (is ∙ ap Err same.0)))
    by (inr rose) = let first = one.later in rose_later (faults a) (faults d) (faults e) (omega (arith, low, first))
        rose
