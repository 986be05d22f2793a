-- The name that stands for a group itself, and the members of one.
use Rattle.std.proofs.Common.{◌≡◌, ◌<◌, ◌≤◌, ◌||◌, ℕ, suc, Bool, true, cond, List, [], ◌∷◌, codes, length, map, refl}
use Rattle.std.proofs.Common.{sym, ap, subst, ◌∙◌}
use Rattle.std.specs.List.{AllByRecursion}
use Rattle.std.specs.Str.{bytes_eq}
use Rattle.sccs_base.specs.Name.{is_name, sfile_name_decides}
use Rattle.sccs_base.proofs.NameTests.{utf8_ascii}
use Rattle.sccs_intents.specs.Intents.{has_name}
use Rattle.sccs_group.specs.Members.{AreMembers, entries_of}
use Rattle.sccs_group.specs.declared.members.Member.{Member}
use Rattle.sccs_group_command.specs.declared.entries.GroupEntry.{GroupEntry}
use Rattle.sccs_group_command.specs.GroupStep.{names_of}
use Rattle.sccs_group_command.specs.Making.{MayCommit, member_of}
use Rattle.sccs_group_command.specs.Preparing.{AreDifferent, IsNamed, is_among, made_names, sfiles_of}
use Rattle.sccs_group_command.specs.declared.prepared_entries.PreparedEntry.{PreparedEntry}

pub dash_is : is_name (codes "-") ≡ true
unfolding is_name
dash_is = utf8_ascii (codes "-") refl

-- names of s-files are all kept
pub named_sfiles : (names : List (List ℕ)) → AllByRecursion IsNamed names → sfiles_of names ≡ names
named_sfiles [] named = refl
named_sfiles (n ∷ names) named =
    ap (λ (fits : Bool). cond fits (n ∷ sfiles_of names) (sfiles_of names)) ((sfile_name_decides n).1
    (named.0.0, named.0.1)) ∙ ap (λ (ns : List (List ℕ)). n ∷ ns) (named_sfiles names named.1)

-- so are those of entries that are prepared
pub own_names : (made : List PreparedEntry) (names : List (List ℕ)) → made_names made ≡ names
    → AllByRecursion IsNamed (made_names made) → sfiles_of names ≡ names
own_names made names are named = subst (λ (ns : List (List ℕ)). sfiles_of ns ≡ ns) are
    (named_sfiles (made_names made) named)

-- some name among those of members
among_names : (made : List PreparedEntry) (n : List ℕ) → has_name (entries_of (map member_of made)) n ≡ is_among
    (made_names made) n
among_names [] n = refl
among_names (x ∷ made) n = ap (λ (b : Bool). bytes_eq x.name n || b) (among_names made n)

-- entries of different names are members
pub are_members : (made : List PreparedEntry) → AllByRecursion IsNamed (made_names made)
    → AreDifferent (made_names made) → AreMembers (map member_of made)
are_members [] named different = tt
are_members (x ∷ made) named different = (
  record { name = named.0.0; sfile = named.0.1; alone = among_names made x.name ∙ different.0 },
  are_members made named.1 different.1,
)

length_of : {X Y : Type 0} (f : X → Y) (xs : List X) → length (map f xs) ≡ length xs
length_of f [] = refl
length_of f (x ∷ xs) = ap suc (length_of f xs)

pub members_length : (made : List PreparedEntry) → length (map member_of made) ≡ length made
members_length made = length_of member_of made

-- all entries are prepared
pub may_commit : (entries : List GroupEntry) (made : List PreparedEntry) → AreDifferent (names_of entries)
    → 0 < length entries → length entries ≤ 1000 → made_names made ≡ names_of entries
    → AllByRecursion IsNamed (made_names made) → MayCommit made
may_commit entries made different some few names named =
    let same : length made ≡ length entries = sym (length_of (λ (x : PreparedEntry). x.name) made)
    ∙ (ap length names ∙ length_of (λ (x : GroupEntry). x.name) entries) in
    record {
      names = named;
      different = subst AreDifferent (sym names) different;
      some = subst (λ count. 0 < count) (sym same) some;
      few = subst (λ count. count ≤ 1000) (sym same) few;
    }

-- prepared entries may be committed as members
pub can_commit : (made : List PreparedEntry) (ms : List Member) → ms ≡ map member_of made → MayCommit made
    → AreMembers ms × (0 < length ms) × (length ms ≤ 1000)
can_commit made ms is may =
    let same : length ms ≡ length made = ap length is ∙ members_length made in (
      subst AreMembers (sym is) (are_members made may.names may.different),
      subst (λ count. 0 < count)
          (sym same) may.some,
      subst (λ count. count ≤ 1000) (sym same) may.few,
    )
