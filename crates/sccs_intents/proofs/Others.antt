-- Entries whose names differ, and one more.
use Rattle.std.proofs.Common.{◌≡◌, ℕ, Bool, true, false, List, [], ◌∷◌, ◌++◌, refl, sym, inl, inr}
use Rattle.std.specs.Str.{bytes_eq}
use Rattle.std.proofs.lemmas.Bool.{cases_Bool, or_from, or_parts}
use Rattle.std.proofs.lemmas.Slice.Eq.{bytes_eq-Decides}
use Rattle.sccs_intents.specs.Intents.{AreOthers, IsOther, has_name}
use Rattle.sccs_intents.specs.declared.intents.IntentEntry.{IntentEntry}

true_false : (t : Bool) → t ≡ true → t ≡ false → ⊥
true_false t is other = cc

-- bytes differ both ways
pub differ : (a c : List ℕ) → bytes_eq a c ≡ false → bytes_eq c a ≡ false
differ a c other =
    elim (cases_Bool (bytes_eq c a)) [
      | inl is ↦ absurd (true_false (bytes_eq a c) ((bytes_eq-Decides a c).1 (sym ((bytes_eq-Decides c a).0 is))) other)
      | inr no_one ↦ no_one
    ]

-- the name of one more is another
more_alone : (others : List IntentEntry) (name : List ℕ) (e : IntentEntry) → has_name others name ≡ false
    → bytes_eq e.name name ≡ false → has_name (others ++ e ∷ []) name ≡ false
more_alone [] name e none other = or_from (bytes_eq e.name name) false other refl
more_alone (f ∷ others) name e none other =
    let parts = or_parts (bytes_eq f.name name) (has_name others name) none in
    or_from (bytes_eq f.name name) (has_name (others ++ e ∷ []) name) parts.0 (more_alone others name e parts.1 other)

-- one entry more, of another name
pub others_more : (before : List IntentEntry) (e : IntentEntry) → AreOthers before → IsOther before e
    → AreOthers (before ++ e ∷ [])
others_more [] e are is = (record { name = is.name; sfile = is.sfile; alone = refl }, tt)
others_more (f ∷ before) e are is =
    let parts = or_parts (bytes_eq f.name e.name) (has_name before e.name) is.alone in (
      record {
        name = are.0.name;
        sfile = are.0.sfile;
        alone = more_alone before f.name e are.0.alone (differ f.name e.name parts.0);
      },
      others_more before e are.1 (record { name = is.name; sfile = is.sfile; alone = parts.1 }),
    )

without_behind : (before behind : List IntentEntry) (e : IntentEntry) (name : List ℕ)
    → has_name (before ++ e ∷ behind) name ≡ false → bytes_eq e.name name ≡ false
without_behind [] behind e name none = (or_parts (bytes_eq e.name name) (has_name behind name) none).0
without_behind (f ∷ before) behind e name none =
    without_behind before behind e name (or_parts (bytes_eq f.name name) (has_name (before ++ e ∷ behind) name) none).1

-- an entry among others differs from those before it
pub alone_behind : (before behind : List IntentEntry) (e : IntentEntry) → AreOthers (before ++ e ∷ behind)
    → has_name before e.name ≡ false
alone_behind [] behind e are = refl
alone_behind (f ∷ before) behind e are =
    or_from (bytes_eq f.name e.name) (has_name before e.name)
    (differ e.name f.name (without_behind before behind e f.name are.0.alone))
    (alone_behind before behind e are.1)

-- and those behind it
pub other_behind : (before behind : List IntentEntry) (e : IntentEntry) → AreOthers (before ++ e ∷ behind)
    → IsOther behind e
other_behind [] behind e are = are.0
other_behind (f ∷ before) behind e are = other_behind before behind e are.1
