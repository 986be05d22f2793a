-- Two members whose names differ.
use Rattle.std.proofs.Common.{◌≡◌, ℕ, true, false, ◌||◌, List, [], ◌∷◌, ◌++◌, codes, refl, sym, ap, subst, ◌∙◌}
use Rattle.std.specs.Str.{bytes_eq}
use Rattle.sccs_base.specs.Name.{IsName, IsSFileName, is_name, name_decides}
use Rattle.sccs_base.proofs.NameTests.{utf8_ascii}
use Rattle.sccs_group.specs.Members.{AreMembers}
use Rattle.sccs_group.specs.declared.members.Member.{Member}

abbrev s_a : List ℕ
s_a = codes "s.a"

abbrev s_c : List ℕ
s_c = codes "s.c"

a_is : is_name s_a ≡ true
unfolding is_name
a_is = utf8_ascii s_a refl

c_is : is_name s_c ≡ true
unfolding is_name
c_is = utf8_ascii s_c refl

a_rest : is_name (codes "a") ≡ true
unfolding is_name
a_rest = utf8_ascii (codes "a") refl

c_rest : is_name (codes "c") ≡ true
unfolding is_name
c_rest = utf8_ascii (codes "c") refl

a_sfile : IsSFileName s_a
a_sfile = record { front = refl; rest = (name_decides (codes "a")).0 a_rest }

c_sfile : IsSFileName s_c
c_sfile = record { front = refl; rest = (name_decides (codes "c")).0 c_rest }

two_are : (m1 m2 : Member) → m1.entry.name ≡ codes "s.a" → m2.entry.name ≡ codes "s.c" → AreMembers (m1 ∷ m2 ∷ [])
two_are m1 m2 e f = (
  record {
    name = subst IsName (sym e) ((name_decides s_a).0 a_is);
    sfile = subst IsSFileName (sym e) a_sfile;
    alone = ap (λ (n : List ℕ). bytes_eq n m1.entry.name || false) f ∙ ap (λ (n : List ℕ). bytes_eq s_c n || false) e;
  },
  (
    record {
      name = subst IsName (sym f) ((name_decides s_c).0 c_is);
      sfile = subst IsSFileName (sym f) c_sfile;
      alone =
          refl;
    },
    tt,
  ),
)

-- as they are put in a list
pub two_pushed : (l0 l1 l2 : List Member) (m1 m2 : Member) → l0 ≡ [] → l1 ≡ l0 ++ m1 ∷ [] → l2 ≡ l1 ++ m2 ∷ []
    → m1.entry.name ≡ codes "s.a" → m2.entry.name ≡ codes "s.c" → AreMembers l2
two_pushed l0 l1 l2 m1 m2 none first second e f =
    subst AreMembers (sym (second ∙ ap (λ (l : List Member). l ++ m2 ∷ []) (first
    ∙ ap (λ (l : List Member). l ++ m1 ∷ []) none))) (two_are m1 m2 e f)
