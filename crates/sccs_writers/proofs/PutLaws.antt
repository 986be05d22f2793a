-- Texts that are put one after the other.
use Rattle.std.proofs.Common.{◌≡◌, ℕ, ◌+◌, List, [], ◌++◌, ◌<◌, length, take, flat_map, get_or, Option, None, Some}
use Rattle.std.proofs.Common.{option_map, Result, Ok, Err, OnOk, IsErrOf, refl, sym, ap, subst, ◌∙◌, append_assoc}
use Rattle.std.proofs.Common.{add-one, arith}
use Rattle.std.proofs.lemmas.List.{append-nil}
use Rattle.sccs_base.proofs.Gifts.{part_more}
use Rattle.sccs_disk.specs.Files.{Content, View, put}
use Rattle.sccs_disk.specs.Told.{Told, seen}
use Rattle.sccs_disk.specs.Effects.{altered, appended, appending, KeepsMark}
use Rattle.std.specs.Result.{IsErrAnd}
use Rattle.std.proofs.lemmas.Result.{err_from_is_err_and}
use Rattle.sccs_disk.specs.Calls.{IsThere, Writes}
use Rattle.sccs_disk.specs.declared.disks.DiskRefusal.{DiskRefusal}
use Rattle.sccs_disk.specs.declared.disks.DiskRefusal.TheVariants as fault
use Rattle.sccs_disk.proofs.Puts.{put_again, put_back, put_same}
use Rattle.sccs_writers.specs.OneFile.{OnlyWrites}
use Rattle.sccs_writers.proofs.OneFile.{only_none, only_both, only_done, only_half, only_same}
use Rattle.sccs_table.specs.SumOf.{IsSumOf}
use Rattle.sccs_writers.specs.Puts.{Writer, Puts, PutsText}
use Rattle.sccs_base.proofs.Rises.{rose_later}

-- ---- views

same_content : (c : Content) → appended [] c ≡ c
same_content c = ap (λ (bytes : List ℕ). record { bytes = bytes; writable = c.writable }) (append-nil c.bytes)

two_contents : (x y : List ℕ) (c : Content) → appended y (appended x c) ≡ appended (x ++ y) c
two_contents x y c = ap (λ (bytes : List ℕ). record { bytes = bytes; writable = c.writable }) (append_assoc c.bytes x y)

map_none : (o : Option Content) → option_map (appended []) o ≡ o
map_none None = refl
map_none (Some c) = ap (λ (x : Content). Some x) (same_content c)

map_two : (x y : List ℕ) (o : Option Content) → option_map (appended y) (option_map (appended x) o) ≡ option_map
    (appended (x ++ y)) o
map_two x y None = refl
map_two x y (Some c) = ap (λ (d : Content). Some d) (two_contents x y c)

altered_none : (n : List ℕ) (v : View) → altered n (appended []) v ≡ v
altered_none n v = ap (λ (o : Option Content). put v n o) (map_none (v n)) ∙ put_back v n

altered_two : (n x y : List ℕ) (v : View) → altered n (appended y) (altered n (appended x) v) ≡ altered n
    (appended (x ++ y)) v
altered_two n x y v =
    put_again v n (option_map (appended x) (v n)) _
    ∙ ap (λ (o : Option Content). put v n o) (ap (λ (o : Option Content). option_map (appended y) o)
    (put_same v n (option_map (appended x) (v n))) ∙ map_two x y (v n))

views_none : (n : List ℕ) (o : Option View) → o ≡ option_map (altered n (appended [])) o
views_none n None = refl
views_none n (Some v) = ap (λ (u : View). Some u) (sym (altered_none n v))

pub views_two : (n x y : List ℕ) (a b c : Option View) → b ≡ option_map (altered n (appended x)) a
    → c ≡ option_map (altered n (appended y)) b → c ≡ option_map (altered n (appended (x ++ y))) a
views_two n x y None b c first second = subst (λ o. c ≡ option_map (altered n (appended y)) o) first second
views_two n x y (Some v) b c first second =
    subst (λ o. c ≡ option_map (altered n (appended y)) o) first second ∙ ap (λ (u : View). Some u)
    (altered_two n x y v)

-- ---- puts

pub puts_none : (w : Writer) (t : Told) → Puts [] w w t t
puts_none w t = record {
  added = [];
  split = append-nil w.held;
  file = views_none w.name (seen t);
  sums = λ front is. subst (IsSumOf w.sums) (sym (append-nil front)) is;
  name = refl;
}

split_two : (held x y one mid two left : List ℕ) → held ++ x ≡ one ++ mid → mid ++ y ≡ two ++ left
    → held ++ (x ++ y) ≡ (one ++ two) ++ left
split_two held x y one mid two left first second =
    sym (append_assoc held x y)
    ∙ (ap (λ front. front ++ y) first ∙ (append_assoc one mid y ∙ (ap (λ rest. one ++ rest) second
    ∙ sym (append_assoc one two left))))

pub puts_both : (x y : List ℕ) (w w2 w3 : Writer) (a b c : Told) → Puts x w w2 a b → Puts y w2 w3 b c
    → Puts (x ++ y) w w3 a c
puts_both x y w w2 w3 a b c first second = record {
  added = first.added ++ second.added;
  split = split_two w.held x y first.added w2.held second.added w3.held first.split second.split;
  file =
      views_two w.name first.added second.added (seen a) (seen b) (seen c) first.file
      (subst (λ n. seen c ≡ option_map (altered n (appended second.added)) (seen b)) first.name second.file);
  sums = λ front is. subst (IsSumOf w3.sums) (append_assoc front first.added second.added)
      (second.sums (front ++ first.added) (first.sums front is));
  name = second.name ∙ first.name;
}

-- ---- calls

on_both : {T : Type 0} (x y : List ℕ) (w w2 w3 : Writer) (a b c : Told) (r : Result T DiskRefusal) → Puts x w w2 a b
    → OnOk r (Puts y w2 w3 b c) → OnOk r (Puts (x ++ y) w w3 a c)
on_both x y w w2 w3 a b c (Ok done) first second = puts_both x y w w2 w3 a b c first second
on_both x y w w2 w3 a b c (Err refusal) first second = tt

pub ok_puts : {U : Type 0} (x : List ℕ) (w w2 : Writer) (a b : Told) (r : Result U DiskRefusal) (done : U) → r ≡ Ok done
    → OnOk r (Puts x w w2 a b) → Puts x w w2 a b
ok_puts x w w2 a b r done is puts = subst (λ (s : Result _ DiskRefusal). OnOk s (Puts x w w2 a b)) is puts

-- a text is put, and a further call puts more
pub text_both : {T U : Type 0} (x y : List ℕ) (w w2 w3 : Writer) (a b c : Told) (f g h : ℕ) (q : Result U DiskRefusal)
    (r : Result T DiskRefusal) (done : U)
    → q ≡ Ok done → PutsText x w w2 a b f g q → PutsText y w2 w3 b c g h r → PutsText (x ++ y) w w3 a c f h r
text_both x y w w2 w3 a b c f g h q r done is first second = record {
  ok = on_both x y w w2 w3 a b c r (ok_puts x w w2 a b q done is first.ok) second.ok;
  name = second.name ∙ first.name;
  only = only_both w.name a b c first.only (subst (λ n. OnlyWrites n b c) first.name second.only);
  later = omega (arith, first.later, second.later);
  cause = λ failed. rose_later f g h first.later (second.cause failed);
}

err_is : {A B : Type 0} (x y : DiskRefusal) (q : Result A DiskRefusal) → q ≡ Err x → (r : Result B DiskRefusal)
    → r ≡ Err x → r ≡ Err y → q ≡ Err y
err_is x y q is r was so = cc

pub on_err : {T : Type 0} (P : Type 0) (refusal : DiskRefusal) (r : Result T DiskRefusal) → r ≡ Err refusal → OnOk r P
on_err P refusal r is = subst (λ (s : Result _ DiskRefusal). OnOk s P) (sym is) tt

-- a call that fails leaves a longer text unput
pub text_cut : {T U : Type 0} (x y : List ℕ) (w w2 : Writer) (a b : Told) (f g : ℕ) (q : Result U DiskRefusal)
    (r : Result T DiskRefusal) (refusal : DiskRefusal)
    → q ≡ Err refusal → r ≡ Err refusal → PutsText x w w2 a b f g q → PutsText y w w2 a b f g r
text_cut x y w w2 a b f g q r refusal is so first = record {
  ok = on_err (Puts y w w2 a b) refusal r so;
  name = first.name;
  only = first.only;
  later = first.later;
  cause = λ failed. first.cause (err_is refusal fault.Failed q is r so failed);
}

-- ---- a call of the disk, and bytes that are held back

pub writes_only : {T : Type 0} (n bytes : List ℕ) (a b : Told) (f g : ℕ) (r : Result T DiskRefusal)
    → Writes (appending n bytes) a b f g r → OnlyWrites n a b
writes_only n bytes a b f g (Ok done) writes = only_done n (appended bytes) KeepsMark a b writes.done
writes_only n bytes a b f g (Err fault.Failed) writes = only_half n (appended bytes) KeepsMark a b (writes.half refl)
writes_only n bytes a b f g (Err fault.Memory) writes = only_same n a b (writes.memory refl)

ok_appended : {T : Type 0} (x bytes : List ℕ) (w w2 : Writer) (a b : Told) (f g : ℕ) (r : Result T DiskRefusal)
    → Writes (appending w.name bytes) a b f g r
    → OnOk r ((front : List ℕ) → IsSumOf w.sums front → IsSumOf w2.sums (front ++ bytes))
    → w.held ++ x ≡ bytes ++ w2.held → w2.name ≡ w.name → OnOk r (Puts x w w2 a b)
ok_appended x bytes w w2 a b f g (Ok done) writes sums split name =
    record { added = bytes; split = split; file = writes.done.view; sums = sums; name = name }
ok_appended x bytes w w2 a b f g (Err refusal) writes sums split name = tt

-- a call appends what was held and some of the text
pub appended_puts : {T : Type 0} (x bytes : List ℕ) (w w2 : Writer) (a b : Told) (f g : ℕ) (r : Result T DiskRefusal)
    → Writes (appending w.name bytes) a b f g r
    → OnOk r ((front : List ℕ) → IsSumOf w.sums front → IsSumOf w2.sums (front ++ bytes))
    → w.held ++ x ≡ bytes ++ w2.held → w2.name ≡ w.name → PutsText x w w2 a b f g r
appended_puts x bytes w w2 a b f g r writes sums split name = record {
  ok = ok_appended x bytes w w2 a b f g r writes sums split name;
  name = name;
  only = writes_only w.name bytes a b f g r writes;
  later = writes.later;
  cause = λ failed. writes.cause (failed_is r failed);
}
  where
    failed_is : {T : Type 0} (r : Result T DiskRefusal) → r ≡ Err fault.Failed → IsErrOf r fault.Failed
    failed_is r failed = subst (λ (s : Result _ DiskRefusal). IsErrOf s fault.Failed) (sym failed) refl

-- a text is held back
pub held_puts : {T : Type 0} (x : List ℕ) (w w2 : Writer) (t : Told) (f : ℕ) (r : Result T DiskRefusal) (done : T)
    → r ≡ Ok done
    → w2.held ≡ w.held ++ x → w2.name ≡ w.name → w2.sums ≡ w.sums → PutsText x w w2 t t f f r
held_puts x w w2 t f r done is held name sums = record {
  ok = subst (λ (s : Result _ DiskRefusal). OnOk s (Puts x w w2 t t)) (sym is) (record {
    added = [];
    split = sym held;
    file = views_none w.name (seen t);
    sums = λ front of. subst (IsSumOf w2.sums) (sym (append-nil front)) (subst (λ now. IsSumOf now front)
        (sym sums) of);
    name = name;
  });
  name = name;
  only = only_none w.name t;
  later = omega arith;
  cause = λ failed. absurd (ok_no_error r done is failed);
}
  where
    ok_no_error : {T : Type 0} (r : Result T DiskRefusal) (done : T) → r ≡ Ok done → r ≡ Err fault.Failed → ⊥
    ok_no_error r done is failed = cc

pub puts_nothing : (w : Writer) (t : Told) (f : ℕ) → PutsText {T = Unit {0}} [] w w t t f f (Ok tt)
puts_nothing w t f = held_puts [] w w t f (Ok tt) tt refl (sym (append-nil w.held)) refl refl

-- ---- the parts of a text

-- one part more is put
pub part_put : {X T : Type 0} (f : X → List ℕ) (xs : List X) (i : ℕ) (d : X) → i < length xs
    → (w w2 w3 : Writer) (a b c : Told) (x y z : ℕ) (r : Result T DiskRefusal) (done : T)
    → r ≡ Ok done → PutsText {T = Unit {0}} (flat_map f (take i xs)) w w2 a b x y (Ok tt)
    → PutsText (f (get_or xs i d)) w2 w3 b c y z r
    → PutsText {T = Unit {0}} (flat_map f (take (i + 1) xs)) w w3 a c x z (Ok tt)
part_put f xs i d below w w2 w3 a b c x y z r done is first second =
    subst (λ text. PutsText text w w3 a c x z (Ok tt)) (sym (ap (λ k. flat_map f (take k xs)) (add-one i)
    ∙ part_more f xs i d below))
    (as_done _ w w3 a c x z r done is (text_both (flat_map f (take i xs)) (f (get_or xs i d)) w w2 w3 a b c x y z
    (Ok tt) r tt refl first second))
  where
    as_done : {T : Type 0} (text : List ℕ) (w w3 : Writer) (a c : Told) (x z : ℕ) (r : Result T DiskRefusal) (done : T)
        → r ≡ Ok done → PutsText text w w3 a c x z r → PutsText {T = Unit {0}} text w w3 a c x z (Ok tt)
    as_done text w w3 a c x z r done is puts = record {
      ok = ok_puts text w w3 a c r done is puts.ok;
      name = puts.name;
      only = puts.only;
      later = puts.later;
      cause = λ failed. cc;
    }

-- a part fails
pub part_cut : {X T : Type 0} (f : X → List ℕ) (xs : List X) (i : ℕ) (d : X) → i < length xs
    → (w w2 w3 : Writer) (a b c : Told) (x y z : ℕ) (r : Result T DiskRefusal) (refusal : DiskRefusal)
    → r ≡ Err refusal → PutsText {T = Unit {0}} (flat_map f (take i xs)) w w2 a b x y (Ok tt)
    → PutsText (f (get_or xs i d)) w2 w3 b c y z r
    → PutsText {T = Unit {0}} (flat_map f xs) w w3 a c x z (Err refusal)
part_cut f xs i d below w w2 w3 a b c x y z r refusal is first second =
    text_cut (flat_map f (take i xs) ++ f (get_or xs i d)) (flat_map f xs) w w3 a c x z r (Err refusal) refusal is refl
    (text_both (flat_map f (take i xs)) (f (get_or xs i d)) w w2 w3 a b c x y z (Ok tt) r tt refl first second)

-- ---- calls one after the other

-- after a call that put a text its file is still there
pub still_there : {T : Type 0} (x : List ℕ) (w w2 : Writer) (a b : Told) (f g : ℕ) (q : Result T DiskRefusal)
    → PutsText x w w2 a b f g q → IsThere w.name a → IsThere w2.name b
still_there x w w2 a b f g q puts there = subst (λ n. IsThere n b) (sym puts.name) (puts.only.there there)

-- a further call puts more
pub puts_then : {T U : Type 0} {x y : List ℕ} {w w2 w3 : Writer} {a b c : Told} {f g h : ℕ} {q : Result U DiskRefusal}
    {r : Result T DiskRefusal} (done : U)
    → q ≡ Ok done → PutsText x w w2 a b f g q → PutsText y w2 w3 b c g h r → PutsText (x ++ y) w w3 a c f h r
puts_then {x = x} {y = y} {w = w} {w2 = w2} {w3 = w3} {a = a} {b = b} {c = c} {f = f} {g = g} {h = h} {q = q} {r = r}
    done is first second =
    text_both x y w w2 w3 a b c f g h q r done is first second

-- a call that fails leaves a longer text unput
pub puts_cut : {T U : Type 0} {x : List ℕ} {w w2 : Writer} {a b : Told} {f g : ℕ} {q : Result U DiskRefusal}
    {r : Result T DiskRefusal} (y : List ℕ) (refusal : DiskRefusal)
    → q ≡ Err refusal → r ≡ Err refusal → PutsText x w w2 a b f g q → PutsText y w w2 a b f g r
puts_cut {x = x} {w = w} {w2 = w2} {a = a} {b = b} {f = f} {g = g} {q = q} {r = r} y refusal is so first =
    text_cut x y w w2 a b f g q r refusal is so first

-- a text that is the same
pub same_text : {T : Type 0} {x y : List ℕ} {w w2 : Writer} {a b : Told} {f g : ℕ} {r : Result T DiskRefusal} → x ≡ y
    → PutsText x w w2 a b f g r → PutsText y w w2 a b f g r
same_text {w = w} {w2 = w2} {a = a} {b = b} {f = f} {g = g} {r = r} is puts =
    subst (λ text. PutsText text w w2 a b f g r) is puts

-- the same of a call that was left by `?`
pub puts_left : {T U : Type 0} {x : List ℕ} {w w2 : Writer} {a b : Told} {f g : ℕ} {q : Result U DiskRefusal}
    {r : Result T DiskRefusal} (y : List ℕ) (refusal : DiskRefusal)
    → q ≡ Err refusal → IsErrAnd r (λ e. e ≡ refusal) → PutsText x w w2 a b f g q → PutsText y w w2 a b f g r
puts_left {r = r} y refusal is left first =
    let p = err_from_is_err_and r left in
    puts_cut y refusal is (p.1 ∙ ap Err p.2) first

-- one item more of a list is put, as a call lent it
pub list_put : {X T : Type 0} (f : X → List ℕ) (xs ys : List X) → ys ≡ xs → (i : ℕ) (item d : X) → i < length ys
    → item ≡ get_or ys i d → (w w2 w3 : Writer) (a b c : Told) (x y z : ℕ) (r : Result T DiskRefusal) (done : T)
    → r ≡ Ok done → PutsText {T = Unit {0}} (flat_map f (take i xs)) w w2 a b x y (Ok tt)
    → PutsText (f item) w2 w3 b c y z r
    → PutsText {T = Unit {0}} (flat_map f (take (i + 1) xs)) w w3 a c x z (Ok tt)
list_put {X = X} f xs ys same i item d below is w w2 w3 a b c x y z r done ok first second =
    part_put f xs i d (subst (λ (zs : List X). i < length zs) same below) w w2 w3 a b c x y z r done ok first
    (subst (λ (t : X). PutsText (f t) w2 w3 b c y z r) (is ∙ ap (λ (zs : List X). get_or zs i d) same) second)

-- an item of a list fails
pub list_cut : {X T : Type 0} (f : X → List ℕ) (xs ys : List X) → ys ≡ xs → (i : ℕ) (item d : X) → i < length ys
    → item ≡ get_or ys i d → (w w2 w3 : Writer) (a b c : Told) (x y z : ℕ) (r : Result T DiskRefusal)
    (refusal : DiskRefusal)
    → r ≡ Err refusal → PutsText {T = Unit {0}} (flat_map f (take i xs)) w w2 a b x y (Ok tt)
    → PutsText (f item) w2 w3 b c y z r
    → PutsText {T = Unit {0}} (flat_map f xs) w w3 a c x z (Err refusal)
list_cut {X = X} f xs ys same i item d below is w w2 w3 a b c x y z r refusal ok first second =
    part_cut f xs i d (subst (λ (zs : List X). i < length zs) same below) w w2 w3 a b c x y z r refusal ok first
    (subst (λ (t : X). PutsText (f t) w2 w3 b c y z r) (is ∙ ap (λ (zs : List X). get_or zs i d) same) second)
