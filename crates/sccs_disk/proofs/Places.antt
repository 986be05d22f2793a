-- The place to which a name leads, where names change.
use Rattle.std.proofs.Common.{◌≡◌, ℕ, zero, suc, Bool, true, false, cond, List, [], ◌∷◌, ◌++◌, length, set, Option}
use Rattle.std.proofs.Common.{None, Some, option_map, refl, sym, ap, subst, ◌∙◌, arith}
use Rattle.std.specs.Str.{bytes_eq}
use Rattle.std.proofs.Math.Path.{fun_ext}
use Rattle.std.specs.List.{remove}
use Rattle.sccs_disk.specs.Files.{File, Names, put, apply_operation, Rename, file_at}
use Rattle.sccs_disk.specs.Places.{has_name, place_of, AreOnce}
use Rattle.sccs_disk.proofs.Puts.{same_name, put_same, put_other, put_back, put_again}

abbrev pub next : Option ℕ → Option ℕ
next t = option_map (λ p. suc p) t

first_is : (h : Bool) (t : Option ℕ) → cond h (Some 0) (next t) ≡ Some 0 → h ≡ true
first_is true t e = refl
first_is false None e = cc
first_is false (Some q) e = cc

later_has : (h : Bool) (t : Option ℕ) (q : ℕ) → cond h (Some 0) (next t) ≡ Some (suc q) → h ≡ false
later_has true t q e = cc
later_has false t q e = refl

later_is : (h : Bool) (t : Option ℕ) (q : ℕ) → cond h (Some 0) (next t) ≡ Some (suc q) → t ≡ Some q
later_is true t q e = cc
later_is false None q e = cc
later_is false (Some p) q e = cc

pub none_has : (h : Bool) (t : Option ℕ) → cond h (Some 0) (next t) ≡ None → h ≡ false
none_has true t e = cc
none_has false t e = refl

pub none_later : (h : Bool) (t : Option ℕ) → cond h (Some 0) (next t) ≡ None → t ≡ None
none_later true t e = cc
none_later false None e = refl
none_later false (Some p) e = cc

-- a name that leads somewhere is the one name there
named_alike : (x : Option (List ℕ)) (a k : List ℕ) → has_name x a ≡ true → has_name x k ≡ bytes_eq a k
named_alike None a k e = cc
named_alike (Some n) a k e = ap (λ m. bytes_eq m k) (same_name n a e)

set_first : (hy hx ba : Bool) (t : Option ℕ) → hx ≡ ba → (hx ≡ true → t ≡ None) → cond hy (Some 0) (next t) ≡ cond hy
    (Some 0) (cond ba None (cond hx (Some 0) (next t)))
set_first true hx ba t same once = refl
set_first false true true t same once = ap next (once refl)
set_first false true false t same once = cc
set_first false false true t same once = cc
set_first false false false t same once = refl

set_later : (hy hx ba : Bool) (t : Option ℕ) (q : ℕ) → (hx ≡ true → hy ≡ false) → (ba ≡ true → hx ≡ false)
    → cond hx (Some 0) (next (cond hy (Some q) (cond ba None t))) ≡ cond hy (Some (suc q))
    (cond ba None (cond hx (Some 0) (next t)))
set_later true true ba t q new apart = cc (new refl)
set_later false true true t q new apart = cc (apart refl)
set_later false true false t q new apart = refl
set_later true false ba t q new apart = refl
set_later false false true t q new apart = refl
set_later false false false t q new apart = refl

-- no name of the list is that one
abbrev pub IsNew : Option (List ℕ) → List (Option (List ℕ)) → Type 0
IsNew y names = (n : List ℕ) → has_name y n ≡ true → place_of names n ≡ None

apart_from : (x : Option (List ℕ)) (a k : List ℕ) → has_name x a ≡ false → bytes_eq a k ≡ true → has_name x k ≡ false
apart_from x a k other is = subst (λ n. has_name x n ≡ false) (same_name a k is) other

-- another name in the place to which a name leads
pub place_set : (names : List (Option (List ℕ))) (p : ℕ) (y : Option (List ℕ)) (a k : List ℕ) → AreOnce names
    → place_of names a ≡ Some p → IsNew y names
    → place_of (set names p y) k ≡ cond (has_name y k) (Some p) (put (place_of names) a None k)
place_set [] p y a k once at new = cc
place_set (x ∷ names) zero y a k once at new =
    set_first (has_name y k) (has_name x k) (bytes_eq a k) (place_of names k)
    (named_alike x a k (first_is (has_name x a) (place_of names a) at)) (once.0 k)
place_set (x ∷ names) (suc q) y a k once at new =
    let other : has_name x a ≡ false = later_has (has_name x a) (place_of names a) q at in
    let deeper : place_of (set names q y) k ≡ cond (has_name y k) (Some q) (put (place_of names) a None k) =
    place_set names q y a k once.1 (later_is (has_name x a) (place_of names a) q at) (λ n h. none_later (has_name x n)
    (place_of names n) (new n h)) in
    ap (λ t. cond (has_name x k) (Some 0) (next t)) deeper
    ∙ set_later (has_name y k) (has_name x k) (bytes_eq a k) (place_of names k) q
    (both_not (has_name x k) (has_name y k) (place_of names k) (new k)) (apart_from x a k other)
  where
    both_not : (hx hy : Bool) (t : Option ℕ) → (hy ≡ true → cond hx (Some 0) (next t) ≡ None) → hx ≡ true → hy ≡ false
    both_not true true t none is = cc (none refl)
    both_not true false t none is = refl
    both_not false hy t none is = cc

put_none : (b : Bool) (t : Option ℕ) → t ≡ None → cond b None t ≡ None
put_none true t e = refl
put_none false t e = e

set_none : (hy : Bool) (q : ℕ) (t : Option ℕ) → hy ≡ false → t ≡ None → cond hy (Some q) t ≡ None
set_none true q t differ e = cc
set_none false q t differ e = e

pub once_set : (names : List (Option (List ℕ))) (p : ℕ) (y : Option (List ℕ)) (a : List ℕ) → AreOnce names
    → place_of names a ≡ Some p → IsNew y names → AreOnce (set names p y)
once_set [] p y a once at new = once
once_set (x ∷ names) zero y a once at new = (λ n h. none_later (has_name x n) (place_of names n) (new n h), once.1)
once_set (x ∷ names) (suc q) y a once at new =
    let there : place_of names a ≡ Some q = later_is (has_name x a) (place_of names a) q at in
    let fresh : IsNew y names = λ n h. none_later (has_name x n) (place_of names n) (new n h) in (
      λ n h. place_set names q y a n once.1 there fresh
          ∙ set_none (has_name y n) q (put (place_of names) a None n) (not_both (has_name x n) (has_name y n)
          (place_of names n) (new n) h) (put_none (bytes_eq a n) (place_of names n) (once.0 n h)),
      once_set names q y a once.1 there fresh,
    )
  where
    not_both : (hx hy : Bool) (t : Option ℕ) → (hy ≡ true → cond hx (Some 0) (next t) ≡ None) → hx ≡ true → hy ≡ false
    not_both true true t none is = cc (none refl)
    not_both true false t none is = refl
    not_both false hy t none is = cc

end_is : (hx bn : Bool) (t : Option ℕ) (p : ℕ) → (bn ≡ true → hx ≡ false) → cond hx (Some 0) (next (cond bn (Some p) t))
    ≡ cond bn (Some (suc p)) (cond hx (Some 0) (next t))
end_is true true t p apart = cc (apart refl)
end_is true false t p apart = refl
end_is false true t p apart = refl
end_is false false t p apart = refl

-- one name more, which leads nowhere yet
pub place_push : (names : List (Option (List ℕ))) (n k : List ℕ) → place_of names n ≡ None
    → place_of (names ++ Some n ∷ []) k ≡ put (place_of names) n (Some (length names)) k
place_push [] n k new = refl
place_push (x ∷ names) n k new =
    ap (λ t. cond (has_name x k) (Some 0) (next t))
    (place_push names n k (none_later (has_name x n) (place_of names n) new))
    ∙ end_is (has_name x k) (bytes_eq n k) (place_of names k) (length names)
    (apart_from x n k (none_has (has_name x n) (place_of names n) new))

pub once_push : (names : List (Option (List ℕ))) (n : List ℕ) → AreOnce names → place_of names n ≡ None
    → AreOnce (names ++ Some n ∷ [])
once_push [] n once new = (λ k h. refl, tt)
once_push (x ∷ names) n once new =
    let fresh : place_of names n ≡ None = none_later (has_name x n) (place_of names n) new in (
      λ k h. place_push names n k fresh ∙ set_none (bytes_eq n k) (length names) (place_of names k)
          (not_pushed (bytes_eq n k) (has_name x k) (apart_from x n k (none_has (has_name x n) (place_of names n) new))
          h) (once.0 k h),
      once_push names n once.1 fresh,
    )
  where
    not_pushed : (b h : Bool) → (b ≡ true → h ≡ false) → h ≡ true → b ≡ false
    not_pushed true h apart is = cc (apart refl)
    not_pushed false h apart is = refl

-- The names all as functions.
pub names_removed : (names : List (Option (List ℕ))) (p : ℕ) (n : List ℕ) → AreOnce names → place_of names n ≡ Some p
    → place_of (set names p None) ≡ put (place_of names) n None
names_removed names p n once at = fun_ext (λ k. place_set names p None n k once at (λ m h. cc))

pub names_pushed : (names : List (Option (List ℕ))) (n : List ℕ) → place_of names n ≡ None
    → place_of (names ++ Some n ∷ []) ≡ put (place_of names) n (Some (length names))
names_pushed names n new = fun_ext (λ k. place_push names n k new)

pub once_removed : (names : List (Option (List ℕ))) (p : ℕ) (n : List ℕ) → AreOnce names → place_of names n ≡ Some p
    → AreOnce (set names p None)
once_removed names p n once at = once_set names p None n once at (λ m h. cc)

-- a name that leads nowhere, removed
pub names_kept : (t : Names) (n : List ℕ) → t n ≡ None → t ≡ put t n None
names_kept t n none = sym (put_back t n) ∙ ap (λ x. put t n x) none

new_name : (names : List (Option (List ℕ))) (n : List ℕ) → place_of names n ≡ None → IsNew (Some n) names
new_name names n none k h = subst (λ m. place_of names m ≡ None) (same_name n k h) none

pub names_renamed : (names : List (Option (List ℕ))) (p : ℕ) (a b : List ℕ) → AreOnce names → place_of names a ≡ Some p
    → place_of names b ≡ None
    → place_of (set names p (Some b)) ≡ put (put (place_of names) a None) b (Some p)
names_renamed names p a b once at none = fun_ext (λ k. place_set names p (Some b) a k once at (new_name names b none))

pub once_renamed : (names : List (Option (List ℕ))) (p : ℕ) (a b : List ℕ) → AreOnce names → place_of names a ≡ Some p
    → place_of names b ≡ None → AreOnce (set names p (Some b))
once_renamed names p a b once at none = once_set names p (Some b) a once at (new_name names b none)

-- Renaming in two parts: the new name is removed, then the old one led elsewhere.
pub rename_self : (t : Names) (a b : List ℕ) → bytes_eq a b ≡ true → t ≡ apply_operation (Rename a b) t
rename_self t a b same =
    subst (λ c. t ≡ apply_operation (Rename a c) t) (same_name a b same) (sym (put_again t a None (t a) ∙ put_back t a))

gone : (ba bb : Bool) (x ta : Option ℕ) → ta ≡ None → (ba ≡ true → x ≡ ta) → cond bb None x ≡ cond bb ta
    (cond ba None x)
gone true true x ta none at = sym none
gone false true x ta none at = sym none
gone true false x ta none at = at refl ∙ none
gone false false x ta none at = refl

pub rename_gone : (t u : Names) (a b : List ℕ) → bytes_eq b a ≡ false → u ≡ put t b None → u a ≡ None
    → u ≡ apply_operation (Rename a b) t
rename_gone t u a b apart is none =
    let old : t a ≡ None = sym (put_other t b a None apart) ∙ (ap (λ (w : Names). w a) (sym is) ∙ none) in
    is ∙ fun_ext (λ k. gone (bytes_eq a k) (bytes_eq b k) (t k) (t a) old (λ e. ap t (sym (same_name a k e))))

pub moved : {X : Type 0} (ba bb : Bool) (x ta : Option X) → cond bb ta (cond ba None (cond bb None x)) ≡ cond bb ta
    (cond ba None x)
moved ba true x ta = refl
moved ba false x ta = refl

pub rename_moved : (t u w : Names) (a b : List ℕ) (p : ℕ) → bytes_eq b a ≡ false → u ≡ put t b None → u a ≡ Some p
    → w ≡ put (put u a None) b (Some p) → w ≡ apply_operation (Rename a b) t
rename_moved t u w a b p apart is at new =
    let old : t a ≡ Some p = sym (put_other t b a None apart) ∙ (ap (λ (v : Names). v a) (sym is) ∙ at) in
    new
    ∙ (ap (λ (v : Names). put (put v a None) b (Some p)) is
    ∙ (ap (λ x. put (put (put t b None) a None) b x) (sym old) ∙ fun_ext (λ k. moved (bytes_eq a k) (bytes_eq b k) (t k)
    (t a))))

-- a name removed, and then pushed
pub removed_now : (names names2 : List (Option (List ℕ))) (n : List ℕ) → place_of names2 ≡ put (place_of names) n None
    → place_of names2 n ≡ None
removed_now names names2 n is = ap (λ (t : Names). t n) is ∙ put_same (place_of names) n None

pub pushed_after : (names names2 : List (Option (List ℕ))) (n : List ℕ) → place_of names2 ≡ put (place_of names) n None
    → length names2 ≡ length names
    → place_of (names2 ++ Some n ∷ []) ≡ put (place_of names) n (Some (length names))
pushed_after names names2 n is count =
    names_pushed names2 n (removed_now names names2 n is)
    ∙ (ap (λ (t : Names). put t n (Some (length names2))) is
    ∙ (put_again (place_of names) n None (Some (length names2)) ∙ ap (λ c. put (place_of names) n (Some c)) count))

pub once_pushed : (names names2 names3 : List (Option (List ℕ))) (n : List ℕ) (ok : Bool)
    → place_of names2 ≡ put (place_of names) n None → AreOnce names2
    → names3 ≡ cond ok (names2 ++ Some n ∷ []) names2 → AreOnce names3
once_pushed names names2 names3 n true is once now =
    subst AreOnce (sym now) (once_push names2 n once (removed_now names names2 n is))
once_pushed names names2 names3 n false is once now = subst AreOnce (sym now) once

-- A place is taken out of the list.
none_without : (names : List (Option (List ℕ))) (p : ℕ) (k : List ℕ) → place_of names k ≡ None
    → place_of (remove names p) k ≡ None
none_without [] zero k none = none
none_without [] (suc p) k none = none
none_without (x ∷ names) zero k none = none_later (has_name x k) (place_of names k) none
none_without (x ∷ names) (suc p) k none = neither (has_name x k) (place_of (remove names p) k)
    (none_has (has_name x k) (place_of names k) none)
    (none_without names p k (none_later (has_name x k) (place_of names k) none))
  where
    neither : (h : Bool) (t : Option ℕ) → h ≡ false → t ≡ None → cond h (Some 0) (next t) ≡ None
    neither true t no_name e = cc
    neither false t no_name e = ap next e

pub once_without : (names : List (Option (List ℕ))) (p : ℕ) → AreOnce names → AreOnce (remove names p)
once_without [] zero once = once
once_without [] (suc p) once = once
once_without (x ∷ names) zero once = once.1
once_without (x ∷ names) (suc p) once = (λ n h. none_without names p n (once.0 n h), once_without names p once.1)

later_file : (f : File) (files : List File) (t : Option ℕ) → file_at (f ∷ files) (next t) ≡ file_at files t
later_file f files None = refl
later_file f files (Some p) = refl

without_first : (hx ba : Bool) (f : File) (files : List File) (t : Option ℕ) → hx ≡ ba → (hx ≡ true → t ≡ None)
    → file_at files t ≡ cond ba None (file_at (f ∷ files) (cond hx (Some 0) (next t)))
without_first true true f files t same once = ap (file_at files) (once refl)
without_first true false f files t same once = cc
without_first false true f files t same once = cc
without_first false false f files t same once = sym (later_file f files t)

without_later : (hx ba : Bool) (f : File) (files fewer : List File) (t t2 : Option ℕ) → (ba ≡ true → hx ≡ false)
    → file_at fewer t2 ≡ cond ba None (file_at files t)
    → file_at (f ∷ fewer) (cond hx (Some 0) (next t2)) ≡ cond ba None (file_at (f ∷ files) (cond hx (Some 0) (next t)))
without_later true true f files fewer t t2 apart is = cc (apart refl)
without_later true false f files fewer t t2 apart is = refl
without_later false true f files fewer t t2 apart is = later_file f fewer t2 ∙ is
without_later false false f files fewer t t2 apart is = later_file f fewer t2 ∙ (is ∙ sym (later_file f files t))

-- the file of a name and its place are taken out
pub files_without : (names : List (Option (List ℕ))) (files : List File) (p : ℕ) (n k : List ℕ)
    → length names ≡ length files → AreOnce names → place_of names n ≡ Some p
    → file_at (remove files p) (place_of (remove names p) k) ≡ cond (bytes_eq n k) None
    (file_at files (place_of names k))
files_without [] files p n k paired once at = cc
files_without (x ∷ names) [] p n k paired once at = absurd (omega (arith, paired))
files_without (x ∷ names) (f ∷ files) zero n k paired once at =
    without_first (has_name x k) (bytes_eq n k) f files (place_of names k)
    (named_alike x n k (first_is (has_name x n) (place_of names n) at)) (once.0 k)
files_without (x ∷ names) (f ∷ files) (suc p) n k paired once at =
    without_later (has_name x k) (bytes_eq n k) f files (remove files p) (place_of names k)
    (place_of (remove names p) k) (apart_from x n k (later_has (has_name x n) (place_of names n) p at))
    (files_without names files p n k (omega (arith, paired)) once.1 (later_is (has_name x n) (place_of names n) p at))
